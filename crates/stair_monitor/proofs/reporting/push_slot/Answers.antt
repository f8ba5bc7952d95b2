-- A slot has at most two digits, and a number of 32 bits ten.
use Rattle.std.proofs.Common.{arith}
use Rattle.std.specs.Prelude.{codes}
use Rattle.stair_monitor.proofs.SeenLemmas.{fences_short, named_length, slot_short}
use Rattle.stair_monitor.proofs.reporting.push_slot.Goals as goal

pub push_named-requires-then-fences-gt0 : goal.push_named-requires-then-fences-gt0
push_named-requires-then-fences-gt0 c =
    let first = named_length c.args.text.now (codes "slot ") c.push_named.new.self c.from.result 2 c.push_named.ensures.text
    (slot_short c.args.slot c.from.result c.from.ensures c.requires.slot) in
    let room = c.requires.room in
    omega (arith, first, room)

pub push-requires : goal.push-requires
push-requires c =
    let first = named_length c.args.text.now (codes "slot ") c.push_named.new.self c.from.result 2 c.push_named.ensures.text
    (slot_short c.args.slot c.from.result c.from.ensures c.requires.slot) in
    let second = named_length c.push_named.new.self (codes " fenced ") c.push_named-then-fences-gt0.new.self c.from-then-fences-gt0.result 10
    c.push_named-then-fences-gt0.ensures.text
    (fences_short c.args.fences c.from-then-fences-gt0.result c.from-then-fences-gt0.ensures c.ranges.fences.fits) in
    let room = c.requires.room in
    omega (arith, first, second, room)

pub returns-then-fences-gt0-clause-short : goal.returns-then-fences-gt0-clause-short
returns-then-fences-gt0-clause-short c =
    let first = named_length c.args.text.now (codes "slot ") c.push_named.new.self c.from.result 2 c.push_named.ensures.text
    (slot_short c.args.slot c.from.result c.from.ensures c.requires.slot) in
    let second = named_length c.push_named.new.self (codes " fenced ") c.push_named-then-fences-gt0.new.self c.from-then-fences-gt0.result 10
    c.push_named-then-fences-gt0.ensures.text
    (fences_short c.args.fences c.from-then-fences-gt0.result c.from-then-fences-gt0.ensures c.ranges.fences.fits) in
    omega (arith, first, second, c.push.ensures.len)
