-- the slots below this one passed
use Rattle.stair_rack.specs.Told.{told}
use Rattle.stair_array.proofs.LookLemmas.{LookedSoFar}
use Rattle.stair_array.proofs.look.look_at_all.Given as goal

abbrev pub invariant-loop-slot : goal.invariant-loop-slot
invariant-loop-slot g l =
    LookedSoFar l.fn.geometry l.slot
    (told g.R.Rack l.initial.rack)
    (told g.R.Rack l.rack)
