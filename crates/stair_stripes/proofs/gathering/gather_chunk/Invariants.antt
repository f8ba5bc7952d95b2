-- the wanted cells of the rows before this one were read, and none was gone
use Rattle.stair_model.specs.CellSet.{IsCellSet}
use Rattle.stair_model.specs.Stripe.{IsStripeOf}
use Rattle.stair_rack.specs.RackCounts.{RisesAtMost}
use Rattle.stair_rack.specs.Told.{told}
use Rattle.stair_stripes.specs.GatheringSteps.{GoesOn}
use Rattle.stair_stripes.proofs.ReadCounts.{wanted_below}
use Rattle.stair_stripes.proofs.gathering.gather_chunk.Given as goal

abbrev pub invariant-loop-row : goal.invariant-loop-row
invariant-loop-row g l = record {
  goes : GoesOn l.geometry l.stripe l.wanted l.slot l.slot l.row l.fn.gathered l.gathered l.fn.into l.into
      (told g.R.Rack l.fn.rack)
      (told g.R.Rack l.rack);
  shape : IsStripeOf l.geometry l.into;
  formed : IsCellSet l.gathered.erased;
  reads : RisesAtMost (wanted_below l.wanted l.slot l.row) (g.R.Rack.reads l.fn.rack) (g.R.Rack.reads l.rack);
}
