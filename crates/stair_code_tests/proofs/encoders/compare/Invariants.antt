-- Both stripes stay of the code's geometry.
use Rattle.std.proofs.Common.{◌≡◌}
use Rattle.stair_model.specs.Stripe.{IsStripeOf}
use Rattle.stair_code_tests.proofs.encoders.compare.Given as goal

abbrev pub invariant-loop-row : goal.invariant-loop-row
invariant-loop-row g l =
    (l.code.geometry ≡ l.geometry) × IsStripeOf l.geometry l.stripe × IsStripeOf l.geometry l.want

abbrev pub invariant-loop-slot : goal.invariant-loop-slot
invariant-loop-slot g l =
    (l.code.geometry ≡ l.geometry) × IsStripeOf l.geometry l.stripe × IsStripeOf l.geometry l.want
