-- Which of the images that a crash may leave, by picks.
use Rattle.std.specs.Prelude.{◌≡◌, ℕ, zero, suc, ◌+◌, ◌<◌, ◌≤◌, Bool, cond, List, ◌∷◌, length, map, reverse, unwrap_or, if◌then◌else◌, nat_lt, slice_index, slice_index_or}
use Rattle.stair_rack.specs.Sector.{Cell, Good, Sector, torn}
use Rattle.stair_rack.specs.Media.{Image}
use Rattle.stair_rack.specs.History.{Happening, slot_state}

-- something was written to the sector since its device's last sync
abbrev pub is_pending : Sector → Bool
is_pending s = nat_lt 0 (length s.since)

-- what it held then, and what was written since, the oldest first
abbrev pub contents : Sector → List Cell
contents s = s.base ∷ map Good (reverse s.since)

-- Pick 0 leaves what a pending sector held at the last sync, pick n the n-th content written since, and any other one a
-- torn cell.
abbrev pub picked : ℕ → Sector → Cell
picked n s = if is_pending s then slice_index_or (contents s) n (torn s.base) else s.base

-- how many of the numbers below n are so
abbrev pub count_below : (ℕ → Bool) → ℕ → ℕ
count_below f zero = 0
count_below f (suc n) = count_below f n + cond (f n) 1 0

abbrev pub is_pending_at : List Happening → ℕ → ℕ → Bool
is_pending_at h j k = is_pending ((slot_state h j).sector k)

-- how many pairs are so, of a number j below n and one below the size of j
abbrev pub total_below : (ℕ → ℕ → Bool) → (ℕ → ℕ) → ℕ → ℕ
total_below f size zero = 0
total_below f size (suc n) = total_below f size n + count_below (f n) (size n)

abbrev pub size_at : List Happening → ℕ → ℕ
size_at h j = unwrap_or (slot_state h j).size 0

-- how many sectors of the slots below j are pending
abbrev pub pending_before : List Happening → ℕ → ℕ
pending_before h j = total_below (is_pending_at h) (size_at h) j

-- how many pending sectors come before this one, by slot and then by sector
abbrev pub pending_place : List Happening → ℕ → ℕ → ℕ
pending_place h j k = pending_before h j + count_below (is_pending_at h j) k

-- The image that a crash leaves by these picks, one for each pending sector by slot and then by sector. A missing pick is 0.
abbrev pub crash_image : List ℕ → List Happening → Image
crash_image picks h j = record {
  size = (slot_state h j).size;
  cell = λ k. picked (slice_index picks (pending_place h j k)) ((slot_state h j).sector k);
  removed = (slot_state h j).removed;
}

-- These picks give the image, in each of the 32 slots; none is above `most`.
pub record ArePicks (h : List Happening) (most : ℕ) (image : Image) (picks : List ℕ) : Type 0 where
  pub size : (j : ℕ) → j < 32 → (crash_image picks h j).size ≡ (image j).size
  pub cell : (j k : ℕ) → j < 32 → (crash_image picks h j).cell k ≡ (image j).cell k
  pub removed : (j : ℕ) → j < 32 → (crash_image picks h j).removed ≡ (image j).removed
  pub few : (n : ℕ) → slice_index picks n ≤ most

-- there are picks that give the image, none above the number of calls and one
pub record HasPicks (h : List Happening) (calls : ℕ) (image : Image) : Type 0 where
  pub picks : List ℕ
  pub are : ArePicks h (calls + 1) image picks
