-- The slot that is being rebuilt, in a session.
use Rattle.std.specs.Prelude.{◌≡◌, ◌<◌, ℕ, true, IsTrue, List}
use Rattle.stair_model.specs.Device.{cell_sector}
use Rattle.stair_model.specs.Geometry.{Geometry}
use Rattle.stair_model.specs.Stripe.{cell}
use Rattle.stair_rack.specs.History.{Happening, slot_state}
use Rattle.stair_rack.specs.Media.{has_sector}
use Rattle.stair_rack.specs.Offline.{ButForOutside}
use Rattle.stair_rack.specs.Sector.{content}
use Rattle.stair_journal.specs.Body.{IsOrDamaged}
use Rattle.stair_state.specs.Blocks.{Codewords}

-- a rebuild: which slot, and the stripe whose chunk comes next
pub record Rebuild : Type 0 where
  pub slot : ℕ
  pub stripe : ℕ

-- What reads find in slot j's chunks of the stripes below `next` is what these stripes have there, or nothing that can be
-- read, but for what the outside did since `start`. Some of it may be unsynced. While the slot is attached its medium is large
-- enough for them.
pub record IsRebuiltTo (g : Geometry) (words : Codewords) (j next : ℕ) (start h : List Happening)
    : Type 0 where
  pub chunks : (t i : ℕ) → t < next → t < g.stripes → i < g.r
      → ButForOutside start h j (cell_sector g t i) (λ s. IsOrDamaged (cell (words t) i j) (content s))
  pub reach : (t i : ℕ) → t < next → t < g.stripes → i < g.r → (slot_state h j).attached ≡ true
      → IsTrue (has_sector (slot_state h j).size (cell_sector g t i))
