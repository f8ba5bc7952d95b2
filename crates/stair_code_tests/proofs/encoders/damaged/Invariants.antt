-- The stripe stays one of this geometry, and the cells so far lie in it.
use Rattle.stair_model.specs.CellSet.{IsInStripe}
use Rattle.stair_model.specs.Stripe.{IsStripeOf}
use Rattle.stair_code_tests.proofs.encoders.damaged.Given as goal

abbrev pub invariant-loop-row : goal.invariant-loop-row
invariant-loop-row l = IsStripeOf l.geometry l.stripe × IsInStripe l.geometry l.erased

abbrev pub invariant-loop-slot : goal.invariant-loop-slot
invariant-loop-slot l = IsStripeOf l.geometry l.stripe × IsInStripe l.geometry l.erased
