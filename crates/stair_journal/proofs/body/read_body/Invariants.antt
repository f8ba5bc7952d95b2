-- the redo's cells of the rows before this one were read
use Rattle.stair_rack.specs.Told.{told}
use Rattle.stair_journal.specs.BodySteps.{IsReadTo, standing}
use Rattle.stair_journal.proofs.body.read_body.Given as goal

abbrev pub invariant-loop-row : goal.invariant-loop-row
invariant-loop-row g l =
    IsReadTo l.geometry l.live l.redo l.row 0
    (standing l.initial.body l.initial.into
    (told g.R.Rack l.initial.rack)
    (g.R.Rack.reads l.initial.rack))
    (standing l.body l.into (told g.R.Rack l.rack)
    (g.R.Rack.reads l.rack))
