-- none of the slots below this one gave the sector
use Rattle.stair_rack.specs.Told.{told}
use Rattle.stair_journal.proofs.AskLemmas.{NoneGives}
use Rattle.stair_journal.proofs.body.find.Given as goal

abbrev pub invariant-loop-slot : goal.invariant-loop-slot
invariant-loop-slot g l =
    NoneGives l.live l.sector l.slot l.initial.gone l.gone
    (told g.R.Rack l.initial.rack)
    (told g.R.Rack l.rack) (g.R.Rack.reads l.initial.rack)
    (g.R.Rack.reads l.rack)
