-- The cells so far are zero.
use Rattle.std.proofs.Common.{◌≡◌, replicate}
use Rattle.stair_base.proofs.stripe.Stripe.new.Given as goal

abbrev pub invariant-loop-made : goal.invariant-loop-made
invariant-loop-made l = l.cells.items ≡ replicate l._made (replicate 512 0)
