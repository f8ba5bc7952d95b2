-- A set of slots. Slots are numbered from 0, and each number is below 32.
use Rattle.std.specs.Prelude.{◌≡◌, ℕ, Bool, false, IsTrue, List, length, replicate, slice_index_or, if◌then◌else◌}
use Rattle.stair_model.specs.Sum.{sum_below}

pub record Slots : Type 0 where
  -- for each slot, whether it is in the set
  pub marks : List Bool

-- whether slot j is in the set
abbrev pub has_slot : Slots → ℕ → Bool
has_slot set j = slice_index_or set.marks j false

-- slot j is in the set
abbrev pub HasSlot : Slots → ℕ → Type 0
HasSlot set j = IsTrue (has_slot set j)

-- how many slots are in the set
abbrev pub slot_count : Slots → ℕ
slot_count set = sum_below 32 (λ j. if has_slot set j then 1 else 0)

-- the set without slots
abbrev pub no_slots : Slots
no_slots = record { marks = replicate 32 false }

-- each number below 32 has one mark, so that a set has one form only
abbrev pub IsSlotSet : Slots → Type 0
IsSlotSet set = length set.marks ≡ 32
