-- The stripes so far are encoded, and the others are as they were.
use Rattle.std.proofs.Common.{◌≡◌, ℕ, ◌<◌, ◌≤◌}
use Rattle.stair_model.specs.Stripe.{IsStripeOf, IsWellFormed}
use Rattle.stair_c.specs.Encoders.{shape}
use Rattle.stair_c.specs.Chunks.{HasStripes, IsEncodedAt, IsSameAt}
use Rattle.stair_c.proofs.stripes.encode_each.Given as goal

abbrev pub invariant-loop-number : goal.invariant-loop-number
invariant-loop-number g l = record {
  fits : shape l.prepared ≡ l.geometry;
  of : IsStripeOf l.geometry l.stripe;
  formed : IsWellFormed l.stripe;
  whole : HasStripes l.geometry l.count l.sectors;
  encoded : (s : ℕ) → s < l.number → IsEncodedAt l.geometry l.count l.fn.sectors l.sectors s;
  others : (s : ℕ) → l.number ≤ s → s < l.count → IsSameAt l.geometry l.count l.fn.sectors l.sectors s;
}
