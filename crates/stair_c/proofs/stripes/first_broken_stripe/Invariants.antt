-- The stripes so far are codewords.
use Rattle.std.proofs.Common.{ℕ, ◌<◌}
use Rattle.stair_model.specs.Stripe.{IsStripeOf, IsWellFormed}
use Rattle.stair_c.specs.Chunks.{IsCodewordAt}
use Rattle.stair_c.proofs.stripes.first_broken_stripe.Given as goal

abbrev pub invariant-loop-candidate : goal.invariant-loop-candidate
invariant-loop-candidate l = record {
  of : IsStripeOf l.geometry l.stripe;
  formed : IsWellFormed l.stripe;
  earlier : (s : ℕ) → s < l.candidate → IsCodewordAt l.geometry l.count l.sectors s;
}
