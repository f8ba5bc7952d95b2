-- The chunks so far are those of the stripe, and the held cells of the others are; the sectors of all other stripes stay.
use Rattle.std.proofs.Common.{◌≡◌, ℕ, ◌<◌}
use Rattle.stair_model.specs.CellSet.{HasCell}
use Rattle.stair_model.specs.Stripe.{cell}
use Rattle.stair_c.specs.Chunks.{HasChunkOf, HasStripes, IsSameAt, sector_at}
use Rattle.stair_c.proofs.restore.store_cells.Given as goal

abbrev pub invariant-loop-slot : goal.invariant-loop-slot
invariant-loop-slot l = record {
  whole : HasStripes l.geometry l.count l.sectors;
  held : (i j : ℕ) → i < l.geometry.r → j < l.geometry.n → ¬ HasCell l.erased i j →
      cell l.cells i j ≡ sector_at l.geometry l.count l.sectors l.stripe i j;
  stored : (j : ℕ) → j < l.slot → HasChunkOf l.geometry l.count l.sectors l.stripe l.cells j l.geometry.r;
  others : (s : ℕ) → s < l.count → ¬ (s ≡ l.stripe) → IsSameAt l.geometry l.count l.fn.sectors l.sectors s;
}
