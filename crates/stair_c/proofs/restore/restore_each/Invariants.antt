-- the stripes before this one were restored, and the others are as they were
use Rattle.stair_c.proofs.RestoreLemmas.{RestoresBelow}
use Rattle.std.proofs.Common.{◌≡◌}
use Rattle.stair_model.specs.Stripe.{IsStripeOf, IsWellFormed}
use Rattle.stair_c.proofs.restore.restore_each.Given as goal

abbrev pub invariant-loop-number : goal.invariant-loop-number
invariant-loop-number l = record {
  fits : l.canon.geometry ≡ l.geometry;
  of : IsStripeOf l.geometry l.stripe;
  formed : IsWellFormed l.stripe;
  below : RestoresBelow l.geometry l.count l.erased l.number l.initial.sectors l.sectors;
}
