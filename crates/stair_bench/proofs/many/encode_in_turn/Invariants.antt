-- The stripes stay those of the code's geometry.
use Rattle.std.proofs.Common.{◌≡◌, length}
use Rattle.std.specs.Prelude.{All}
use Rattle.stair_model.specs.Stripe.{IsStripeOf}
use Rattle.stair_bench.proofs.many.encode_in_turn.Given as goal

abbrev pub invariant-loop-round : goal.invariant-loop-round
invariant-loop-round g l = record {
  shape : g.C.StripeCode.shape l.code ≡ l.geometry;
  count : length l.stripes ≡ length l.fn.stripes;
  of : All (IsStripeOf l.geometry) l.stripes;
}
