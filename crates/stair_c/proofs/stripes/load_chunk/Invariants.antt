-- The rows so far are loaded; the cells of all other chunks stay.
use Rattle.std.proofs.Common.{◌≡◌, ℕ, ◌<◌}
use Rattle.stair_model.specs.Stripe.{IsStripeOf, IsWellFormed, cell}
use Rattle.stair_c.specs.Chunks.{HasChunkOf}
use Rattle.stair_c.proofs.stripes.load_chunk.Given as goal

abbrev pub invariant-loop-row : goal.invariant-loop-row
invariant-loop-row l = record {
  of : IsStripeOf l.geometry l.into;
  formed : IsWellFormed l.into;
  loaded : HasChunkOf l.geometry l.count l.sectors l.stripe l.into l.slot l.row;
  others : (i j : ℕ) → j < l.geometry.n → ¬ (j ≡ l.slot) → cell l.into i j ≡ cell l.fn.into i j;
}
