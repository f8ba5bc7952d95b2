use Rattle.std.proofs.Common.{◌≡◌, arith}
use Rattle.stair_filerack.specs.Slot.{path_of}
use Rattle.stair_filerack.proofs.RackLemmas.{none_gone}
use Rattle.stair_filerack.proofs.rack.FileRack.at.Goals as goal

pub returns-clause-gones : goal.returns-clause-gones
returns-clause-gones g c =
    let all : c.loop-slot.slot ≡ 32 = omega (arith, c.loop-slot-test.false, c.loop-slot.auto.slot-end) in
    none_gone c.loop-slot.slots.items (path_of c.args.folder.now) (omega (arith, all, c.loop-slot.invariant.made))
    (λ j below. c.loop-slot.invariant.each j (omega (arith, all, below)))
