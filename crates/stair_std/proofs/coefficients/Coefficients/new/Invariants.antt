-- The coefficients of the data cells so far, and the stripe of their pass.
use Rattle.std.proofs.Common.{◌≡◌, ◌≢◌, ◌-◌, ◌%◌}
use Rattle.stair_model.specs.Stripe.{IsStripeOf}
use Rattle.stair_std.specs.UnitsSteps.{AreUnits}
use Rattle.stair_std.proofs.Columns.{HasColumns}
use Rattle.stair_std.proofs.coefficients.Coefficients.new.Given as goal

abbrev pub invariant-loop-block : goal.invariant-loop-block
invariant-loop-block l = record {
  canon : l.canon.geometry ≡ l.geometry;
  stripe : IsStripeOf l.geometry l.stripe;
  units : l.block % 512 ≢ 0 → AreUnits l.geometry (l.block - l.block % 512) l.stripe;
  columns : HasColumns l.geometry l.block l.bytes.items;
}
