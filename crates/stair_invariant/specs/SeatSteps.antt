-- What an epoch does to the seats of an array's slots, in the words in which the array's machine tells its steps.
use Rattle.std.specs.Prelude.{◌≡◌, ◌≢◌, ◌⊎◌, ℕ}
use Rattle.stair_super.specs.declared.mark.Mark.{Mark}
use Rattle.stair_super.specs.declared.mark.Mark.TheVariants.{Down, Live, Rebuilding}
use Rattle.stair_member.specs.Seats.{Seat, Seats}
use Rattle.stair_member.specs.declared.aim.EpochChange.{EpochChange}
use Rattle.stair_member.specs.declared.aim.EpochChange.TheVariants.{Admit, Fence, Promote, Stamp}

-- a slot stays as it was, or is dropped
abbrev pub MayDrop : Seat → Seat → Type 0
MayDrop old new = (new ≡ old)
    ⊎ ((old.mark ≢ Down) × (new ≡ record { mark = Down; joined = 0 }))

abbrev pub EachMayDrop : Seats → Seats → Type 0
EachMayDrop old new = (j : ℕ) → MayDrop (old j) (new j)

-- This slot goes from the one mark to the other; each other one may be dropped. Its joined number changes with the mark alone,
-- is 0 where it is Down, and a promotion keeps it.
pub record SeatGoes (j : ℕ) (from to : Mark) (old new : Seats) : Type 0 where
  pub was : (old j).mark ≡ from
  pub is : (new j).mark ≡ to
  pub joined : from ≢ Down → to ≢ Down → (new j).joined ≡ (old j).joined
  pub down : to ≡ Down → (new j).joined ≡ 0
  pub others : (i : ℕ) → i ≢ j → MayDrop (old i) (new i)

-- only slots that were gone are dropped
abbrev pub DropsOnly : (ℕ → Type 0) → Seats → Seats → Type 0
DropsOnly gone old new = (j : ℕ) → (old j).mark ≢ Down → (new j).mark ≡ Down → gone j

-- What an epoch that is for this does to seats, where these slots were gone: a slot that is admitted and was gone stays Down,
-- and one that is promoted and was gone is dropped.
abbrev pub EpochChangeMoves : EpochChange → (ℕ → Type 0) → Seats → Seats → Type 0
EpochChangeMoves (Admit slot) gone old new =
    SeatGoes slot Down Rebuilding old new ⊎ (gone slot × EachMayDrop old new)
EpochChangeMoves (Promote slot) gone old new =
    SeatGoes slot Rebuilding Live old new ⊎ (gone slot × SeatGoes slot Rebuilding Down old new)
EpochChangeMoves Fence gone old new = EachMayDrop old new
EpochChangeMoves (Stamp frozen label) gone old new = EachMayDrop old new

pub record SeatsMove (aim : EpochChange) (gone : ℕ → Type 0) (old new : Seats) : Type 0 where
  pub moves : EpochChangeMoves aim gone old new
  pub drops : DropsOnly gone old new
