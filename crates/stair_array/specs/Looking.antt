-- What `create` looks at before it writes anything, and what it refuses.
use Rattle.std.specs.Prelude.{◌≡◌, ◌<◌, ◌≤◌, ◌⊎◌, ℕ, IsTrue, List, Some}
use Rattle.stair_model.specs.Geometry.{Geometry, sectors_needed}
use Rattle.stair_rack.specs.Count.{Rose}
use Rattle.stair_rack.specs.History.{Happening, Sync, slot_state}
use Rattle.stair_rack.specs.Moments.{AtSomeMoment}
use Rattle.stair_rack.specs.Offline.{IsOffline}
use Rattle.stair_rack.specs.Sector.{Cell, content}
use Rattle.stair_rack.specs.Stretch.{NothingWritten, WasAnswered}
use Rattle.stair_member.specs.Superblocks.{HasSuper}
use Rattle.stair_rack.specs.RackState.{RackState, IsFoundGone, IsLater, IsReading}
use Rattle.stair_rack.specs.declared.rack.Reply.TheVariants as reply
use Rattle.stair_array.specs.declared.fault.CreateFault.{CreateFault}
use Rattle.stair_array.specs.declared.fault.CreateFault.TheVariants.{Gone, SmallDevice, AlreadyArray}

-- What was found of a slot: it was gone at one of the calls; its medium has too few sectors, so many; or its two superblock
-- places hold these cells, damaged where one read as bad.
pub data Finding : Type 0 where
  WasGone : Finding
  WasSmall : ℕ → Finding
  Holds : (ℕ → Cell) → Finding

-- THE RULE, of slot j: a slot of the array must be there and large enough, and on none may there be a superblock.

abbrev pub Passes : Geometry → ℕ → Finding → Type 0
Passes g j WasGone = g.n ≤ j
Passes g j (WasSmall has) = ⊥
Passes g j (Holds cell) = ¬ HasSuper cell

abbrev pub IsRefusedFor : Geometry → ℕ → Finding → CreateFault → Type 0
IsRefusedFor g j WasGone (Gone slot) = (j < g.n) × (slot ≡ j)
IsRefusedFor g j (WasSmall has) (SmallDevice slot has' needs) =
    (slot ≡ j) × (has' ≡ has) × (needs ≡ sectors_needed g)
IsRefusedFor g j (Holds cell) (AlreadyArray slot) = (slot ≡ j) × HasSuper cell
IsRefusedFor g j finding fault = ⊥

-- WHAT BEARS A FINDING OUT, from one moment to another.

-- at some moment the medium of the slot had so many sectors
abbrev pub HadSectors : ℕ → ℕ → List Happening → List Happening → Type 0
HadSectors j count old new = AtSomeMoment (λ h. (slot_state h j).size ≡ Some count) old new

-- what a read would have found in the sectors of the slot
abbrev pub cells_at : List Happening → ℕ → ℕ → Cell
cells_at h j k = content ((slot_state h j).sector k)

-- The medium of a slot of the array was large enough.
abbrev pub IsLarge : Geometry → ℕ → RackState → RackState → Type 0
IsLarge g j old new = j < g.n → IsTrue new.honest
    → (has : ℕ) × (sectors_needed g ≤ has) × HadSectors j has old.history new.history

-- of cells without a superblock: at some one moment none was in either place
abbrev pub IsBare : ℕ → RackState → RackState → (ℕ → Cell) → Type 0
IsBare j old new cell = ¬ HasSuper cell → IsTrue new.honest
    → AtSomeMoment (λ h. ¬ HasSuper (cells_at h j)) old.history new.history

abbrev pub IsFound : Geometry → ℕ → RackState → RackState → Finding → Type 0
IsFound g j old new WasGone = IsFoundGone j old new
IsFound g j old new (WasSmall has) = (j < g.n) × (has < sectors_needed g)
    × (IsTrue new.honest → HadSectors j has old.history new.history)
IsFound g j old new (Holds cell) = ((k : ℕ) → k < 2 → IsReading j k old new (cell k))
    × IsLarge g j old new × IsBare j old new cell

-- WHAT COMES OF THE LOOK

-- a slot of the array was synced, so that nothing of its medium's earlier life is unsynced any more
abbrev pub IsSettled : Geometry → ℕ → RackState → RackState → Type 0
IsSettled g j old new =
    j < g.n → IsTrue new.honest → WasAnswered j (Sync reply.Done) old.history new.history

-- slot j was looked at, and passed
pub record Passed (g : Geometry) (j : ℕ) (old new : RackState) : Type 0 where
  pub finding : Finding
  pub found : IsFound g j old new finding
  pub passes : Passes g j finding
  pub settled : IsSettled g j old new

-- no device was written
abbrev pub IsUnwritten : RackState → RackState → Type 0
IsUnwritten old new = IsTrue new.honest → NothingWritten old.history new.history

-- all 32 slots passed, and no device was written
pub record AllPassed (g : Geometry) (old new : RackState) : Type 0 where
  pub each : (j : ℕ) → j < 32 → Passed g j old new
  pub unwritten : IsUnwritten old new

-- This slot was refused, those below it passed, and no device was written.
pub record IsRefused (g : Geometry) (fault : CreateFault) (old new : RackState) : Type 0 where
  pub slot : ℕ
  pub slot_in : slot < 32
  pub before : (j : ℕ) → j < slot → Passed g j old new
  pub finding : Finding
  pub found : IsFound g slot old new finding
  pub refused : IsRefusedFor g slot finding fault
  pub unwritten : IsUnwritten old new

-- A slot of the array was gone while the devices were written, and is offline.
abbrev pub IsGoneInWriting : Geometry → CreateFault → RackState → RackState → RackState → Type 0
IsGoneInWriting g (Gone slot) old mid new = (slot < g.n)
    × Rose (mid.gones slot) (new.gones slot)
    × (IsTrue new.honest → IsOffline old.history new.history slot)
IsGoneInWriting g fault old mid new = ⊥

-- all slots passed, and then the devices were written, up to this fault
pub record IsGivenUp (g : Geometry) (fault : CreateFault) (old new : RackState) : Type 0 where
  pub mid : RackState
  pub passed : AllPassed g old mid
  pub later : IsLater mid new
  pub gone : IsGoneInWriting g fault old mid new

-- why there is no array
abbrev pub IsNotCreated : Geometry → CreateFault → RackState → RackState → Type 0
IsNotCreated g fault old new = IsRefused g fault old new ⊎ IsGivenUp g fault old new

-- all slots had passed before anything was written
pub record WasLookedAt (g : Geometry) (old new : RackState) : Type 0 where
  pub mid : RackState
  pub passed : AllPassed g old mid
  pub later : IsLater mid new
