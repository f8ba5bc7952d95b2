use Rattle.std.proofs.Common.{◌≡◌, length}
use Rattle.std.specs.Prelude.{All}
use Rattle.stair_model.specs.Stripe.{IsStripeOf}
use Rattle.stair_bench.proofs.many.varied_stripes.Given as goal

abbrev pub invariant-loop-made : goal.invariant-loop-made
invariant-loop-made l = (length l.stripes.items ≡ l._made) × All (IsStripeOf l.geometry) l.stripes.items
