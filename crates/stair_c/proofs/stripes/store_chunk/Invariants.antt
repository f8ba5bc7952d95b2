-- The rows so far are stored; all other sectors stay.
use Rattle.std.proofs.Common.{◌≡◌, ℕ, ◌<◌}
use Rattle.stair_c.specs.Chunks.{HasChunkOf, HasStripes, sector_at}
use Rattle.stair_c.proofs.stripes.store_chunk.Given as goal

abbrev pub invariant-loop-row : goal.invariant-loop-row
invariant-loop-row l = record {
  whole : HasStripes l.geometry l.count l.sectors;
  stored : HasChunkOf l.geometry l.count l.sectors l.stripe l.cells l.slot l.row;
  others : (s i j : ℕ) → s < l.count → i < l.geometry.r → ¬ ((s ≡ l.stripe) × (j ≡ l.slot)) →
      sector_at l.geometry l.count l.sectors s i j ≡ sector_at l.geometry l.count l.fn.sectors s i j;
}
