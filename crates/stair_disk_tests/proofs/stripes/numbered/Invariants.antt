-- The stripe stays one of this geometry.
use Rattle.stair_model.specs.Stripe.{IsStripeOf}
use Rattle.stair_disk_tests.proofs.stripes.numbered.Given as goal

abbrev pub invariant-loop-row : goal.invariant-loop-row
invariant-loop-row g l = IsStripeOf l.geometry l.stripe

abbrev pub invariant-loop-slot : goal.invariant-loop-slot
invariant-loop-slot g l = IsStripeOf l.geometry l.stripe
