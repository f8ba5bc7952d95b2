-- Superblocks that a medium was given, and what it knows of its own.
use Rattle.std.specs.Prelude.{◌≡◌, ◌-◌, ◌<◌, ◌≤◌, ◌⊎◌, ℕ, Contains, IsSome, List, []}
use Rattle.stair_model.specs.Device.{first_place, second_place}
use Rattle.stair_model.specs.Slots.{Slots}
use Rattle.stair_rack.specs.Crash.{image_now}
use Rattle.stair_rack.specs.History.{Happening, slot_state}
use Rattle.stair_rack.specs.Sector.{Cell, Damaged, Good}
use Rattle.stair_super.specs.Spelling.{spelled}
use Rattle.stair_super.specs.Superblock.{IsSuperblock, Superblock}
use Rattle.stair_member.specs.Current.{IsLost}
use Rattle.stair_member.specs.Editions.{Edition, copy_of}
use Rattle.stair_member.specs.Fencing.{IsCopy}
use Rattle.stair_member.specs.Membership.{Membership, place_of}
use Rattle.stair_member.specs.Superblocks.{HoldsSuper, IsSuperOf}

-- A medium of slot j with these cells has one of these editions, with at least this draw and of at least this epoch, in a
-- place that wasn't damaged since.
pub record HasCopy (editions : List Edition) (draw epoch j : ℕ) (cell : ℕ → Cell) : Type 0 where
  pub edition : Edition
  pub among : Contains editions edition
  pub formed : IsSuperblock (copy_of edition j)
  pub draws : draw ≤ edition.draw
  pub reaches : epoch ≤ edition.array.epoch
  pub place : ℕ
  pub place_in : place < 2
  pub holds : (cell place ≡ Good (spelled (copy_of edition j))) ⊎ (cell place ≡ Damaged)

-- What a member knows of the medium in slot j when a call begins that may write a superblock to it: nothing is unsynced in
-- its places, no draw in them is greater than was seen, and its superblock doesn't lie in the place that is written next,
-- unless a place of it is lost.
pub record KnowsSuper (m : Membership) (old : List Happening) (j : ℕ) : Type 0 where
  pub there : IsSome (slot_state old j).size
  pub steady : (k : ℕ) → k < 2 → ((slot_state old j).sector k).since ≡ []
  pub drawn : (k : ℕ) (s : Superblock) → k < 2 → HoldsSuper ((image_now old j).cell k) s
      → s.draw ≤ m.drawn
  pub place : place_of m j < 2
  pub aside : (s : Superblock) → IsSuperOf ((image_now old j).cell) s
      → ¬ IsLost ((image_now old j).cell first_place)
      → ¬ IsLost ((image_now old j).cell second_place)
      → HoldsSuper ((image_now old j).cell (1 - place_of m j)) s

-- it is a copy of one of these editions, or the superblock that the slot's medium had at `old`, of which no place was lost
pub data IsGivenOrOwn (slots : Slots) (editions : List Edition) (old : List Happening) (j : ℕ)
    (s : Superblock) : Type 0 where
  GivenCopy : IsCopy slots editions j s → IsGivenOrOwn slots editions old j s
  AsBefore : IsSuperOf ((image_now old j).cell) s
      → ¬ IsLost ((image_now old j).cell first_place)
      → ¬ IsLost ((image_now old j).cell second_place)
      → IsGivenOrOwn slots editions old j s

-- The superblock of a medium with these cells is such a one, unless a place of it is lost.
abbrev pub HasGivenOrOwn : Slots → List Edition → List Happening → ℕ → (ℕ → Cell) → Type 0
HasGivenOrOwn slots editions old j cell = ¬ IsLost (cell first_place)
    → ¬ IsLost (cell second_place) → (s : Superblock) → IsSuperOf cell s
    → IsGivenOrOwn slots editions old j s
