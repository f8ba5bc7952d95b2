-- What `create` knows of a slot that it looked at.
use Rattle.std.specs.Prelude.{◌≡◌, ◌<◌, ℕ, Bool, true, false, List}
use Rattle.stair_model.specs.Geometry.{Geometry}
use Rattle.stair_rack.specs.Answers.{IsHistory, IsNoAttach, Ran, any_call}
use Rattle.stair_rack.specs.History.{Happening, SlotCall, Attach, Sectors, Read, Write, Sync, slot_state}
use Rattle.stair_rack.specs.Sector.{Cell}
use Rattle.stair_rack.specs.Stretch.{IsNoWrite}
use Rattle.stair_member.specs.Probing.{ProbesSlot, WasGone as WasGoneToProbe}
use Rattle.stair_member.specs.Superblocks.{HasSuper}
use Rattle.stair_member.specs.declared.probe.SlotProbe.{SlotProbe}
use Rattle.stair_rack.specs.RackState.{IsReading, RackState}
use Rattle.stair_array.specs.Looking.{Finding, WasGone, WasSmall, Holds, IsBare, IsFound, IsRefusedFor}
use Rattle.stair_state.specs.Represents.{IsLargeEnough}
use Rattle.stair_array.specs.declared.fault.CreateFault.{CreateFault}
use Rattle.stair_array.specs.declared.look.Found.{Found}
use Rattle.stair_array.specs.declared.look.Found.TheVariants as found

-- a call on this slot that writes nothing
abbrev pub IsLookAt : ℕ → ℕ → SlotCall → Type 0
IsLookAt slot j call = (j ≡ slot) × IsNoWrite call

-- a call that writes nothing, on whatever slot
abbrev pub IsLook : ℕ → SlotCall → Type 0
IsLook j call = IsNoWrite call

-- a read of this slot
abbrev pub IsReadOf : ℕ → ℕ → SlotCall → Type 0
IsReadOf slot j (Attach answer) = ⊥
IsReadOf slot j (Sectors size) = ⊥
IsReadOf slot j (Read k answer) = j ≡ slot
IsReadOf slot j (Write k bytes answer) = ⊥
IsReadOf slot j (Sync answer) = ⊥

-- Both superblock places were read, and one of them holds a superblock or none does, as this says.
pub record AreJudged (j : ℕ) (old new : RackState) (has : Bool) : Type 0 where
  pub cell : ℕ → Cell
  pub reading : (k : ℕ) → k < 2 → IsReading j k old new (cell k)
  pub holds : has ≡ true → HasSuper cell
  pub bare : has ≡ false → ¬ HasSuper cell
  pub moment : IsBare j old new cell

-- what a search of the two superblock places found, in short
abbrev pub IsSearched : ℕ → RackState → RackState → Found → Type 0
IsSearched j old new found.Gone = (slot : SlotProbe) × ProbesSlot j slot old new × WasGoneToProbe slot
IsSearched j old new (found.Small has) = ⊥
IsSearched j old new found.Bare = AreJudged j old new false
IsSearched j old new found.Super = AreJudged j old new true

-- what was found of slot j, in short
abbrev pub IsFoundAs : Geometry → ℕ → RackState → RackState → Found → Type 0
IsFoundAs g j old new found.Gone = IsFound g j old new WasGone
IsFoundAs g j old new (found.Small has) = IsFound g j old new (WasSmall has)
IsFoundAs g j old new found.Bare =
    (cell : ℕ → Cell) × IsFound g j old new (Holds cell) × (¬ HasSuper cell)
IsFoundAs g j old new found.Super =
    (cell : ℕ → Cell) × IsFound g j old new (Holds cell) × HasSuper cell

-- slot j was looked at, and refused
pub record IsRefusedAt (g : Geometry) (fault : CreateFault) (j : ℕ) (old new : RackState)
    : Type 0 where
  pub finding : Finding
  pub found : IsFound g j old new finding
  pub refused : IsRefusedFor g j finding fault

-- Slot j was attached after old, to a medium that is large enough, and not again since then.
pub record IsTaken (g : Geometry) (j : ℕ) (old now : List Happening) : Type 0 where
  pub taken : List Happening
  pub history : IsHistory taken
  pub before : Ran any_call old taken
  pub since : Ran (IsNoAttach j) taken now
  pub in_use : (slot_state taken j).attached ≡ true
  pub large : IsLargeEnough g (slot_state taken j).size
