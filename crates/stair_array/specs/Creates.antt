-- What `create` does: what stands after it, and when it succeeds.
use Rattle.std.specs.Prelude.{◌<◌, ◌≤◌, ℕ, IsTrue, List, Result, IfErr, IsOk, OnOk}
use Rattle.stair_model.specs.Geometry.{Geometry, sectors_needed}
use Rattle.stair_rack.specs.Answers.{IsHistory, Ran}
use Rattle.stair_rack.specs.Crash.{EachImage}
use Rattle.stair_rack.specs.History.{Happening, slot_state}
use Rattle.stair_rack.specs.Moments.{AtEveryMoment, IsMoment}
use Rattle.stair_rack.specs.Offline.{IsOffline}
use Rattle.stair_rack.specs.Passes.{Landed}
use Rattle.stair_rack.specs.RackCounts.{NoneFalls}
use Rattle.stair_rack.specs.Stretch.{NoneWritten, NothingWritten}
use Rattle.stair_member.specs.Superblocks.{HasSuper}
use Rattle.stair_array.specs.Created.{BearNoneOutside, NoneComesBack, created_sector}
use Rattle.stair_rack.specs.RackState.{RackState}
use Rattle.stair_array.specs.Looking.{IsNotCreated, WasLookedAt, cells_at}
use Rattle.stair_array.specs.Making.{IsCreating, PlacesInTurn, SuperblocksCameLast, WrittenWithin}
use Rattle.stair_state.specs.Holding.{IsConsistentUnderReassembly}
use Rattle.stair_state.specs.Represents.{AreSteady, IsLargeEnough, Represents}
use Rattle.stair_state.specs.State.{created_state}
use Rattle.stair_state.specs.Tolerance.{IsTolerated}
use Rattle.stair_array.specs.declared.fault.CreateFault.{CreateFault}

-- What stands after an array was made, on an honest rack.
pub record IsMade (g : Geometry) (old new : List Happening) : Type 0 where
  -- the bytes of each sector of the array were there at a moment
  pub landed : (j k : ℕ) → j < g.n → k < sectors_needed g
      → Landed old new j k (created_sector g j k)
  -- nothing is unsynced in its superblock places
  pub steady : AreSteady g new
  -- within tolerance the rack represents an array of zeros, all of whose slots are live
  pub represents : (before : List Happening) → NoneComesBack g old new
      → IsTolerated g before new → Represents (created_state g) new
  -- and it is consistent under reassembly where no medium outside bears a superblock of the array
  pub consistent : NoneComesBack g old new → EachImage (BearNoneOutside g) new
      → IsConsistentUnderReassembly (created_state g) new

-- On an honest rack an array can be made: no slot of it is ever offline, each of its devices is large enough, and no slot of
-- the rack holds a superblock before anything is written.
pub record CanBeMade (g : Geometry) (old new : List Happening) : Type 0 where
  pub online : AtEveryMoment (λ h. (j : ℕ) → j < g.n → ¬ IsOffline old h j) old new
  pub large : (j : ℕ) → j < g.n → IsLargeEnough g (slot_state old j).size
  pub bare : (h : List Happening) (j : ℕ) → IsMoment old h new → NothingWritten old h → j < 32
      → ¬ HasSuper (cells_at h j)

-- What a call of `create` does.
pub record Creates (g : Geometry) (answer : Result (Unit {0}) CreateFault) (old new : RackState)
    : Type 0 where
  -- on any rack: why there is no array, and whether anything was written
  pub refused : IfErr answer (λ fault. IsNotCreated g fault old new)
  -- all 32 slots passed before anything was written
  pub looked : OnOk answer (WasLookedAt g old new)
  pub counts : NoneFalls old.bads new.bads old.gones new.gones
  -- on an honest rack: what stands
  pub made : IsTrue new.honest → OnOk answer (IsMade g old.history new.history)
  -- the rack has a history, and each write since then is to a sector of the array, of what a new one has there
  pub began : IsTrue new.honest → IsHistory old.history
  pub ran : IsTrue new.honest → Ran (IsCreating g) old.history new.history
  -- no other slot was written
  pub others : IsTrue new.honest → NoneWritten (λ j. g.n ≤ j) old.history new.history
  -- nor was, of any slot, a sector after those that the array needs
  pub within : IsTrue new.honest → WrittenWithin g old.history new.history
  -- a superblock is written only once every device of the array has the rest of it on the disk
  pub order : IsTrue new.honest → SuperblocksCameLast g old.history new.history
  -- and a slot's second superblock only once the first one is on the disk
  pub in_turn : IsTrue new.honest → PlacesInTurn g old.history new.history
  -- it succeeds where an array can be made
  pub complete : IsTrue new.honest → CanBeMade g old.history new.history → IsOk answer
