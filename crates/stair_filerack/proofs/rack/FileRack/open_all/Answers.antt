use Rattle.std.proofs.Common.{◌<◌, length, arith}
use Rattle.stair_filerack.proofs.RackLemmas.{held_next}
use Rattle.stair_filerack.proofs.rack.FileRack.open_all.Goals as goal

pub loop-slot-preserved : goal.loop-slot-preserved
loop-slot-preserved g c =
    let slots = c.loop-slot.self-inside.slots.items in
    let within : c.from.result < length slots = omega (arith, c.loop-slot.invariant.count, c.from.ensures) in
    held_next c.args.self.now _ _ slots c.from.result c.index_mut-place.result.now c.probe.new.self within c.index_mut-place.ensures.value
    c.probe.ensures.after c.loop-slot.invariant

pub returns-in-Err-clause-slots : goal.returns-in-Err-clause-slots
returns-in-Err-clause-slots g c j below =
    let slots = c.loop-slot.self-inside.slots.items in
    let within : c.from.result < length slots = omega (arith, c.loop-slot.invariant.count, c.from.ensures) in
    let next = held_next c.args.self.now _ _ slots c.from.result c.index_mut-place.result.now c.probe.new.self within
    c.index_mut-place.ensures.value c.probe.ensures.after c.loop-slot.invariant in
    next.slots j below
