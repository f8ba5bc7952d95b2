-- all that was pending of the slots so far went to their files, and the others are as they were
use Rattle.stair_filerack.proofs.FinishLemmas.{FinishedTo}
use Rattle.stair_filerack.proofs.rack.FileRack.finish.Given as goal

abbrev pub invariant-loop-slot : goal.invariant-loop-slot
invariant-loop-slot g l = FinishedTo g.F.File.Write.contents l.slot-index l.initial.slot-items l.slot-items
