-- the redo's cells of this row before this one were read
use Rattle.stair_model.specs.Stripe.{IsStripeOf}
use Rattle.stair_rack.specs.Told.{told}
use Rattle.stair_journal.specs.BodySteps.{IsReadTo, Standing, standing}
use Rattle.stair_journal.proofs.body.read_row.Given as goal

abbrev pub invariant-loop-chunk : goal.invariant-loop-chunk
invariant-loop-chunk g l = record {
  shape : IsStripeOf l.geometry l.into;
  so_far :
      (start : Standing) →
      IsReadTo l.geometry l.live l.redo l.row 0 start
      (standing l.initial.body l.initial.into
      (told g.R.Rack l.initial.rack)
      (g.R.Rack.reads l.initial.rack)) →
      IsReadTo l.geometry l.live l.redo l.row l.chunk start
      (standing l.body l.into (told g.R.Rack l.rack)
      (g.R.Rack.reads l.rack));
}
