-- the gates of the live slots below this one were read
use Rattle.stair_rack.specs.Told.{told}
use Rattle.stair_journal.proofs.GatesLemmas.{AreGatesRead}
use Rattle.stair_journal.proofs.gates.read_gates.Given as goal

abbrev pub invariant-loop-slot : goal.invariant-loop-slot
invariant-loop-slot g l =
    AreGatesRead l.geometry l.live l.slot l.gates
    (told g.R.Rack l.initial.rack)
    (told g.R.Rack l.rack) (g.R.Rack.reads l.initial.rack)
    (g.R.Rack.reads l.rack)
