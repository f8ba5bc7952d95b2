-- What the calls of an array answered.
use Rattle.std.specs.Prelude.{◌≡◌, ◌*◌, ◌/◌, ◌≤◌, ℕ, List, length, Option, None, Some, Result, Ok, Err}
use Rattle.std.specs.Simd.{first_chunks}
use Rattle.stair_model.specs.CellSet.{CellSet, HasCell}
use Rattle.stair_model.specs.Device.{cell_sector}
use Rattle.stair_model.specs.Geometry.{Geometry, data_cells}
use Rattle.stair_model.specs.Stripe.{SECTOR, Stripe}
use Rattle.stair_rack.specs.Sector.{Damaged}
use Rattle.stair_rack.specs.RackState.{IsGone, IsLater, IsReading, RackState}
use Rattle.stair_member.specs.Membership.{Membership}
use Rattle.stair_member.specs.declared.fault.FenceFault.{FenceFault}
use Rattle.stair_invariant.specs.Effects.{Snapshot, snapshot}
use Rattle.stair_invariant.specs.Rebuilding.{Rebuild}
use Rattle.stair_invariant.specs.Session.{ArrayState, IsLiveIn, IsRebuiltIn, Remembered}
use Rattle.stair_array.specs.Calls.{CannotHave, IsInPlace}
use Rattle.stair_array.specs.Faults.{opening_refusal, rebuild_refusal, refusal_for, replace_refusal}
use Rattle.stair_array.specs.Machine.{Chunk, Dropped, Nothing, Promoted, Refusal, Progress as Came}
use Rattle.stair_array.specs.Openings.{Recovers}
use Rattle.stair_array.specs.declared.fault.ArrayFault.{ArrayFault}
use Rattle.stair_array.specs.declared.fault.Progress.{Progress}
use Rattle.stair_array.specs.declared.fault.Progress.TheVariants as progress
use Rattle.stair_array.specs.declared.fault.RebuildFault.{RebuildFault}
use Rattle.stair_array.specs.declared.fault.RecoverFault.{RecoverFault}
use Rattle.stair_array.specs.declared.fault.ReplaceFault.{ReplaceFault}
use Rattle.stair_array.specs.declared.news.News.{News}

-- What contracts see of an open array: what it knows of its slots, how far a rebuild has come, by which refusal of an epoch it
-- was stopped, the stripe that it remembers, and its news.
pub record OpenArray : Type 0 where
  pub member : Membership
  pub rebuild : Option Rebuild
  pub stopped : Option FenceFault
  pub remembered : Option Remembered
  pub news : News

-- without the news
abbrev pub state_of : OpenArray → ArrayState
state_of a = record { member = a.member; rebuild = a.rebuild; stopped = a.stopped; remembered = a.remembered }

-- what an array remembers, whose buffer is of this stripe or of none
abbrev pub remembered_as : Option ℕ → Stripe → Option Remembered
remembered_as None cells = None
remembered_as (Some t) cells = Some (record { stripe = t; cells = cells })

-- block b is one of the stripe that is remembered
abbrev pub IsOfRemembered : Geometry → Option Remembered → ℕ → Type 0
IsOfRemembered g known b = (one : Remembered) × (known ≡ Some one) × (one.stripe ≡ b / data_cells g)

-- An array was opened, or why it wasn't is told by what was known of its slots in the end. Lack of memory is no refusal.
abbrev pub Opens : Snapshot → RackState → Result OpenArray RecoverFault → Type 0
Opens x now (Ok array) = Recovers (Ok x.member.array.geometry) x (snapshot array.member now)
Opens x now (Err fault) = (refusal : Refusal) → opening_refusal fault ≡ Some refusal
    → (last : Membership) × Recovers (Err refusal) x (snapshot last now)

-- what a call of an open array answered, which gave this
abbrev pub answer_as : {T : Type 0} → T → Result (Unit {0}) ArrayFault → Result T Refusal
answer_as given (Ok done) = Ok given
answer_as given (Err fault) = Err (refusal_for fault)

abbrev pub outcome : {T : Type 0} → Result T ArrayFault → Result T Refusal
outcome (Ok given) = Ok given
outcome (Err fault) = Err (refusal_for fault)

-- what a replacement answered, and a step of a rebuild
abbrev pub replaced_as : Result (Unit {0}) ReplaceFault → Result (Unit {0}) Refusal
replaced_as (Ok done) = Ok tt
replaced_as (Err fault) = Err (replace_refusal fault)

abbrev pub progress_for : Progress → Came
progress_for progress.Nothing = Nothing
progress_for (progress.Chunk slot stripe) = Chunk slot stripe
progress_for (progress.Promoted slot) = Promoted slot
progress_for (progress.Dropped slot) = Dropped slot

abbrev pub rebuilt_as : Result Progress RebuildFault → Result Came Refusal
rebuilt_as (Ok came) = Ok (progress_for came)
rebuilt_as (Err fault) = Err (rebuild_refusal fault)

-- a rebuild that is under way is of a slot that takes part as one that is rebuilt, and its next stripe is at most the one past
-- the last
abbrev pub IsUnderWay : Membership → Option Rebuild → Type 0
IsUnderWay m rebuild = (one : Rebuild) → rebuild ≡ Some one
    → IsRebuiltIn m one.slot × (one.stripe ≤ m.array.geometry.stripes)

-- the blocks that these bytes are, where they are whole blocks
abbrev pub blocks_of : List ℕ → List (List ℕ)
blocks_of bytes = first_chunks SECTOR (length bytes / SECTOR) bytes

-- how many cells a stripe has
abbrev pub cells_of : Geometry → ℕ
cells_of g = g.r * g.n

-- the own cell of block b couldn't be had at a moment from x on
pub record LacksCell (b : ℕ) (x : Snapshot) (now : RackState) : Type 0 where
  pub stripe : ℕ
  pub row : ℕ
  pub chunk : ℕ
  pub mid : RackState
  pub place : IsInPlace x.member.array.geometry b stripe row chunk
  pub cannot : CannotHave stripe row chunk x (snapshot x.member mid)
  pub later : IsLater mid now

-- one of these cells of stripe t couldn't be had on the way from x: its slot isn't live, it read as bad, or its slot was gone
pub data LacksOne (t : ℕ) (cells : CellSet) (x : Snapshot) (now : RackState) : Type 0 where
  NotLive : (i j : ℕ) → HasCell cells i j → ¬ IsLiveIn x.member j → LacksOne t cells x now
  WasBad : (i j : ℕ) → HasCell cells i j
      → IsReading j (cell_sector x.member.array.geometry t i) x.told now Damaged
      → LacksOne t cells x now
  WasGone : (i j : ℕ) → HasCell cells i j → IsGone j x.told now → LacksOne t cells x now
