-- the slots below this one were looked at
use Rattle.stair_rack.specs.Told.{told}
use Rattle.stair_member.proofs.SightLemmas.{AreSightsBelow}
use Rattle.stair_member.proofs.surveying.find_all.Given as goal

abbrev pub invariant-loop-slot : goal.invariant-loop-slot
invariant-loop-slot g l =
    AreSightsBelow l.slot l.sights.newest l.sights.next l.sights.gone
    (told g.R.Rack l.initial.rack)
    (told g.R.Rack l.rack) (g.R.Rack.reads l.initial.rack)
    (g.R.Rack.reads l.rack)
