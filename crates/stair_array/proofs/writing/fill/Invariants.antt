-- the blocks before this one are in their cells
use Rattle.stair_model.specs.Stripe.{IsStripeOf}
use Rattle.stair_array.proofs.FillingLemmas.{HoldsBelow}
use Rattle.stair_array.proofs.writing.fill.Given as goal

abbrev pub invariant-loop-at : goal.invariant-loop-at
invariant-loop-at g l = record { of : IsStripeOf l.geometry l.stripe; holds : HoldsBelow l.geometry l.from l.at l.stripe }
