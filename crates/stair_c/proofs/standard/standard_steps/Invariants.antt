-- The canonical stripe and the stripe stay those of the geometry.
use Rattle.std.proofs.Common.{◌≡◌}
use Rattle.stair_model.specs.Stripe.{IsStripeOf}
use Rattle.stair_c.proofs.standard.standard_steps.Given as goal

abbrev pub invariant-loop-part : goal.invariant-loop-part
invariant-loop-part g l = record {
  fits : l.canon.geometry ≡ l.geometry;
  same : l.geometry ≡ l.fn.canon.geometry;
  of : IsStripeOf l.geometry l.stripe;
}
