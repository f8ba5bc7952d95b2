-- The chunks so far are those of the stripe, and the data cells of the others are; the sectors of all other stripes stay.
use Rattle.std.proofs.Common.{◌≡◌, ℕ, ◌<◌}
use Rattle.stair_c.specs.Chunks.{HasChunkOf, HasDataOf, HasStripes, IsSameAt}
use Rattle.stair_c.proofs.stripes.store_parities.Given as goal

abbrev pub invariant-loop-slot : goal.invariant-loop-slot
invariant-loop-slot l = record {
  whole : HasStripes l.geometry l.count l.sectors;
  data_held : HasDataOf l.geometry l.count l.sectors l.stripe l.cells;
  stored : (j : ℕ) → j < l.slot → HasChunkOf l.geometry l.count l.sectors l.stripe l.cells j l.geometry.r;
  others : (s : ℕ) → s < l.count → ¬ (s ≡ l.stripe) → IsSameAt l.geometry l.count l.fn.sectors l.sectors s;
}
