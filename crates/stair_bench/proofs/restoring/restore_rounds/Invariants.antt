-- The stripe stays one of the code's geometry.
use Rattle.std.proofs.Common.{◌≡◌}
use Rattle.stair_model.specs.Stripe.{IsStripeOf}
use Rattle.stair_bench.proofs.restoring.restore_rounds.Given as goal

abbrev pub invariant-loop-round : goal.invariant-loop-round
invariant-loop-round g l = (g.C.StripeCode.shape l.code ≡ l.geometry) × IsStripeOf l.geometry l.stripe
