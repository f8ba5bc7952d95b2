-- A name and the number of a slot.
use Rattle.std.proofs.Common.{refl}
use Rattle.std.specs.Prelude.{codes}
use Rattle.stair_rack.specs.declared.watcher.Event.TheVariants.{Fenced, Admitted, Promoted}
use Rattle.stair_script.proofs.ReadLemmas.{split_at_space}
use Rattle.stair_monitor.proofs.ReadLemmas.{named, some_read}
use Rattle.stair_monitor.proofs.reading.read_text.Goals as goal

pub returns-in_ok-read_slot-in-fenced : goal.returns-in_ok-read_slot-in-fenced
returns-in_ok-read_slot-in-fenced c =
    let line = c.args.line.now in
    let word = c.in_ok-word in
    let slot = c.in_ok-read_slot-in-fenced.field-0 in
    let parts = split_at_space line word.word word.values word.ensures.cases in
    let read = (c.in_ok-read_slot-in-fenced.ensures slot).0 refl in
    some_read line (Fenced slot)
    (record { words = named (codes "fenced") line word.word.now word.values.now slot parts.0 c.in-fenced.is read.0; range = read.1 })

pub returns-in_ok-read_slot-in-admitted : goal.returns-in_ok-read_slot-in-admitted
returns-in_ok-read_slot-in-admitted c =
    let line = c.args.line.now in
    let word = c.in_ok-word in
    let slot = c.in_ok-read_slot-in-admitted.field-0 in
    let parts = split_at_space line word.word word.values word.ensures.cases in
    let read = (c.in_ok-read_slot-in-admitted.ensures slot).0 refl in
    some_read line (Admitted slot)
    (record { words = named (codes "admitted") line word.word.now word.values.now slot parts.0 c.in-admitted.is read.0; range = read.1 })

pub returns-in_ok-read_slot-in-promoted : goal.returns-in_ok-read_slot-in-promoted
returns-in_ok-read_slot-in-promoted c =
    let line = c.args.line.now in
    let word = c.in_ok-word in
    let slot = c.in_ok-read_slot-in-promoted.field-0 in
    let parts = split_at_space line word.word word.values word.ensures.cases in
    let read = (c.in_ok-read_slot-in-promoted.ensures slot).0 refl in
    some_read line (Promoted slot)
    (record { words = named (codes "promoted") line word.word.now word.values.now slot parts.0 c.in-promoted.is read.0; range = read.1 })
