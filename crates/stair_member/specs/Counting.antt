-- How many slots have a property.
use Rattle.std.specs.Prelude.{ℕ, ◌<◌, ◌≤◌}
use Rattle.stair_model.specs.Slots.{Slots, HasSlot, IsSlotSet, slot_count}

-- more than m slots have it
pub record MoreThan (m : ℕ) (P : ℕ → Type 0) : Type 0 where
  pub slots : Slots
  pub formed : IsSlotSet slots
  pub many : m < slot_count slots
  pub each : (j : ℕ) → HasSlot slots j → P j

-- at most m slots have it
pub record AtMost (m : ℕ) (P : ℕ → Type 0) : Type 0 where
  pub slots : Slots
  pub formed : IsSlotSet slots
  pub few : slot_count slots ≤ m
  pub within : (j : ℕ) → P j → HasSlot slots j

-- all slots below n have it, but for at most m of them
pub record AllBut (n m : ℕ) (P : ℕ → Type 0) : Type 0 where
  pub exceptions : Slots
  pub formed : IsSlotSet exceptions
  pub few : slot_count exceptions ≤ m
  pub others : (j : ℕ) → j < n → ¬ HasSlot exceptions j → P j
