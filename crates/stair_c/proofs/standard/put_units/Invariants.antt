-- The stripe stays one of the geometry.
use Rattle.stair_model.specs.Stripe.{IsStripeOf}
use Rattle.stair_c.proofs.standard.put_units.Given as goal

abbrev pub invariant-loop-row : goal.invariant-loop-row
invariant-loop-row l = IsStripeOf l.geometry l.stripe

abbrev pub invariant-loop-slot : goal.invariant-loop-slot
invariant-loop-slot l = IsStripeOf l.geometry l.stripe
