-- The forms in which an image holds the stripes of an array, over a set of live slots.
use Rattle.std.specs.Prelude.{◌≡◌, ◌<◌, ◌≤◌, ◌⊎◌, ℕ}
use Rattle.stair_model.specs.CellSet.{HasCell}
use Rattle.stair_model.specs.Device.{cell_sector, gate_sector}
use Rattle.stair_model.specs.Geometry.{Geometry}
use Rattle.stair_model.specs.Stripe.{cell}
use Rattle.stair_rack.specs.Media.{Image}
use Rattle.stair_rack.specs.Sector.{Damaged}
use Rattle.stair_member.specs.Current.{IsLost}
use Rattle.stair_journal.specs.Body.{HasBody, IsOrDamaged}
use Rattle.stair_journal.specs.Gate.{IsOpenWith}
use Rattle.stair_journal.specs.declared.redo.Redo.{Redo}
use Rattle.stair_state.specs.Blocks.{Codewords}

-- the gate of slot j is open with this redo
abbrev pub IsOpen : Geometry → Image → ℕ → Redo → Type 0
IsOpen g image j redo = IsOpenWith g ((image j).cell gate_sector) redo

-- cell (i, k) of stripe t is one of the redo's
pub record IsInRedo (redo : Redo) (t i k : ℕ) : Type 0 where
  pub stripe : t ≡ redo.stripe
  pub has : HasCell redo.cells i k

-- each cell of the stripes on a live slot is that of the encoded stripe, or damaged
abbrev pub Encodes : Geometry → Codewords → (ℕ → Type 0) → Image → Type 0
Encodes g words live image = (t i j : ℕ) → t < g.stripes → i < g.r → j < g.n → live j
    → IsOrDamaged (cell (words t) i j) ((image j).cell (cell_sector g t i))

-- the same, but for the redo's cells, whatever they hold
abbrev pub EncodesBut : Geometry → Redo → Codewords → (ℕ → Type 0) → Image → Type 0
EncodesBut g redo words live image = (t i j : ℕ) → t < g.stripes → i < g.r → j < g.n → live j
    → IsInRedo redo t i j ⊎ IsOrDamaged (cell (words t) i j) ((image j).cell (cell_sector g t i))

-- each live slot has the redo's body, with the cells of these stripes
abbrev pub HaveBody : Geometry → Redo → Codewords → (ℕ → Type 0) → Image → Type 0
HaveBody g redo words live image = (j : ℕ) → live j
    → HasBody g redo (words redo.stripe) ((image j).cell)

-- Idle: all cells are in place. Where a live gate is open, each live slot has its body.
pub record IsIdle (g : Geometry) (words : Codewords) (live : ℕ → Type 0) (image : Image)
    : Type 0 where
  pub encodes : Encodes g words live image
  pub body : (j : ℕ) (redo : Redo) → live j → IsOpen g image j redo
      → HaveBody g redo words live image

-- Committed: a redo is being placed. Each live gate is open with it or lost, at least one is open, and each live slot has
-- its body.
pub record IsCommitted (g : Geometry) (words : Codewords) (live : ℕ → Type 0) (image : Image)
    : Type 0 where
  pub redo : Redo
  pub first : ℕ
  pub first_live : live first
  pub first_open : IsOpen g image first redo
  pub gates : (j : ℕ) → live j → IsOpen g image j redo ⊎ IsLost ((image j).cell gate_sector)
  pub body : HaveBody g redo words live image
  pub encodes : EncodesBut g redo words live image

-- Uncommitted: the cells of the old stripes are in place, and some gates may be open with a redo to the new stripes. It has
-- each cell in which they differ.
pub record IsUncommitted (g : Geometry) (old new : Codewords) (live : ℕ → Type 0)
    (image : Image) : Type 0 where
  pub encodes : Encodes g old live image
  pub body : (j : ℕ) (redo : Redo) → live j → IsOpen g image j redo
      → HaveBody g redo new live image
  pub all : (j : ℕ) (redo : Redo) → live j → IsOpen g image j redo
      → (t i k : ℕ) → t < g.stripes → i < g.r → k < g.n
      → IsInRedo redo t i k ⊎ (cell (new t) i k ≡ cell (old t) i k)

-- The image has one of the forms, for the stripes before and after a change that may have been made. They are the same
-- where no change is in doubt.
pub data HasForm (g : Geometry) (old new : Codewords) (live : ℕ → Type 0) (image : Image)
    : Type 0 where
  IdleOld : IsIdle g old live image → HasForm g old new live image
  CommittedOld : IsCommitted g old live image → HasForm g old new live image
  Uncommitted : IsUncommitted g old new live image → HasForm g old new live image
  IdleNew : IsIdle g new live image → HasForm g old new live image
  CommittedNew : IsCommitted g new live image → HasForm g old new live image

-- all live gates that are open are open with one redo
abbrev pub HaveOneRedo : Geometry → (ℕ → Type 0) → Image → Type 0
HaveOneRedo g live image = (i j : ℕ) (a b : Redo) → live i → live j
    → IsOpen g image i a → IsOpen g image j b → a ≡ b

pub record RepresentsBy (g : Geometry) (old new : Codewords) (live : ℕ → Type 0) (image : Image)
    : Type 0 where
  pub one_redo : HaveOneRedo g live image
  pub form : HasForm g old new live image

-- one of these slots has a gate that isn't lost
pub record HasGate (live : ℕ → Type 0) (image : Image) : Type 0 where
  pub slot : ℕ
  pub among : live slot
  pub kept : ¬ IsLost ((image slot).cell gate_sector)

-- on these slots each cell after the superblock places is as it was, or damaged
pub record AreStill (some : ℕ → Type 0) (was is : Image) : Type 0 where
  pub each : (j k : ℕ) → some j → gate_sector ≤ k
      → ((is j).cell k ≡ (was j).cell k) ⊎ ((is j).cell k ≡ Damaged)
