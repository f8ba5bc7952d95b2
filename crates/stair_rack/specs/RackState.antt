-- What a rack tells at a moment, and what it tells of a read between two moments.
use Rattle.std.specs.Prelude.{◌≡◌, ℕ, Bool, false, IsTrue, List}
use Rattle.stair_rack.specs.Answers.{Ran, any_call, is_good}
use Rattle.stair_rack.specs.Count.{Rose}
use Rattle.stair_rack.specs.History.{Happening}
use Rattle.stair_rack.specs.Moments.{AtSomeMoment}
use Rattle.stair_rack.specs.Offline.{IsHeld, IsOffline, IsOfflineUntilAttached}
use Rattle.stair_rack.specs.RackCounts.{NoneFalls}
use Rattle.stair_rack.specs.Reading.{WasRead}
use Rattle.stair_rack.specs.Sector.{Cell, Good, Damaged}

-- what a rack tells at a moment; its history only where it is honest
pub record RackState : Type 0 where
  pub honest : Bool
  pub history : List Happening
  pub bads : ℕ
  pub gones : ℕ → ℕ

abbrev pub rack_state : Bool → List Happening → ℕ → (ℕ → ℕ) → RackState
rack_state honest history bads gones =
    record { honest = honest; history = history; bads = bads; gones = gones }

-- the same rack at a later moment
pub record IsLater (old new : RackState) : Type 0 where
  pub counts : NoneFalls old.bads new.bads old.gones new.gones
  pub honest : old.honest ≡ new.honest
  pub ran : IsTrue new.honest → Ran any_call old.history new.history

-- this cell was read, in the slot that is in use; where it read as bad its count rose
abbrev pub IsReading : ℕ → ℕ → RackState → RackState → Cell → Type 0
IsReading j k old new (Good bytes) =
    IsTrue new.honest → WasRead (λ cell. cell ≡ Good bytes) old.history new.history j k
IsReading j k old new Damaged = Rose old.bads new.bads
    × (IsTrue new.honest → WasRead (λ cell. is_good cell ≡ false) old.history new.history j k)
IsReading j k old new cell = ⊥

-- the slot was gone to a call, and its count rose; on an honest rack it was offline at a moment
abbrev pub IsFoundGone : ℕ → RackState → RackState → Type 0
IsFoundGone j old new = Rose (old.gones j) (new.gones j)
    × (IsTrue new.honest → AtSomeMoment (λ h. IsOffline old.history h j) old.history new.history)

-- The slot was gone to a call, and its count rose. On an honest rack, where the session holds the slot, it is offline from
-- then on, until it is attached.
pub record IsGone (j : ℕ) (old new : RackState) : Type 0 where
  pub rose : Rose (old.gones j) (new.gones j)
  pub shut : IsTrue new.honest → (before : List Happening) → IsHeld before old.history j
      → IsOfflineUntilAttached before new.history j
