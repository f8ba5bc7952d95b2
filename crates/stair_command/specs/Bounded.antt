-- How great the draws of superblocks become in an image, at every moment of a call.
use Rattle.std.specs.Prelude.{◌≡◌, ◌+◌, ◌*◌, ◌<◌, ◌≤◌, All, ℕ, IsTrue, List, [], ◌∷◌, Ok, Option, ⊤}
use Rattle.stair_model.specs.Geometry.{Geometry}
use Rattle.stair_model.specs.Slots.{Slots}
use Rattle.stair_rack.specs.Crash.{EachImage}
use Rattle.stair_rack.specs.History.{Happening}
use Rattle.stair_rack.specs.Media.{Image, Medium}
use Rattle.stair_rack.specs.Moments.{AtEveryMoment}
use Rattle.stair_rack.specs.Sector.{Cell}
use Rattle.stair_rack.specs.Stretch.{NothingWritten}
use Rattle.stair_super.specs.Superblock.{Superblock}
use Rattle.stair_member.specs.Epochs.{Issued}
use Rattle.stair_member.specs.Membership.{Membership}
use Rattle.stair_member.specs.Superblocks.{HoldsSuper}
use Rattle.stair_member.specs.declared.aim.EpochChange.{EpochChange}
use Rattle.stair_invariant.specs.Effects.{Snapshot}
use Rattle.stair_invariant.specs.Session.{ArrayState, Remembered}
use Rattle.stair_array.specs.Machine.{Answer, Step}
use Rattle.stair_array.specs.Draws.{allowance, weights}
use Rattle.stair_array.specs.Promise.{Begun, Does}
use Rattle.stair_command.specs.Action.{Create, Survey}
use Rattle.stair_command.specs.Devices.{DeviceView, Devices, WorksAll}
use Rattle.stair_command.specs.Drawn.{opens, over_steps, replaces, stamps}
use Rattle.stair_command.specs.Kept.{HasMember}
use Rattle.stair_command.specs.Trace.{TraceItem, Did, AlongTrace}

-- IMAGES

-- a superblock of this array that the cell holds has a draw of at most this
abbrev pub DrawsAtMost : Geometry → ℕ → Cell → Type 0
DrawsAtMost g most cell = (s : Superblock) → HoldsSuper cell s → s.array.geometry ≡ g → s.draw ≤ most

-- and so it is in either superblock place of a medium with these cells
abbrev pub PlacesDrawAtMost : Geometry → ℕ → (ℕ → Cell) → Type 0
PlacesDrawAtMost g most cell = (k : ℕ) → k < 2 → DrawsAtMost g most (cell k)

-- of every medium of the image, in its slot or outside
pub record AreBounded (g : Geometry) (most : ℕ) (image : Image) : Type 0 where
  pub in_slots : (j : ℕ) → PlacesDrawAtMost g most ((image j).cell)
  pub outside : (j : ℕ) → All (λ (medium : Medium). PlacesDrawAtMost g most medium.cell)
      (image j).removed

-- in the image now, and in every image that a crash now may leave
abbrev pub IsBoundedAt : Geometry → ℕ → List Happening → Type 0
IsBoundedAt g most h = EachImage (AreBounded g most) h

-- at every moment between these two
abbrev pub StaysBounded : Geometry → ℕ → List Happening → List Happening → Type 0
StaysBounded g most old new = AtEveryMoment (IsBoundedAt g most) old new

-- THE LAWS

-- While an epoch is established no draw becomes greater than the member's at last, or than what was borne before.
abbrev pub EpochsAreBounded : Type 0
EpochsAreBounded = (aim : EpochChange) (gone : Slots) (m last : Membership) (old new : List Happening)
    (g : Geometry) (most : ℕ) → Issued aim gone m last old new → last.drawn ≤ most
    → IsBoundedAt g most old → StaysBounded g most old new

-- So it is of a step on an honest rack: no draw becomes greater than the greatest that is known in the end, or than what was
-- borne before.
abbrev pub StepsAreBounded : Type 0
StepsAreBounded = (step : Step) (was : ArrayState) (after : Option Remembered) (answer : Answer step) (x y : Snapshot)
    (g : Geometry) (most : ℕ) → Does step was after answer x y → IsTrue y.told.honest → y.member.drawn ≤ most → IsBoundedAt g most x.told.history
    → StaysBounded g most x.told.history y.told.history

-- And of a trace on an honest rack, which begins with an array that was found: in the image at every moment of it, and in every image that a crash then may leave, the superblocks of the array bear no draw that is greater than what was borne
-- and known at first, with what the weights of the slots and the steps of the trace allow.
pub record IsFrom {R W : Type 0} (view : DeviceView R W) (first : Membership) (most : ℕ)
    (old : Devices R W) : Type 0 where
  pub honest : IsTrue view.rack.honest
  pub has : HasMember old.session first
  pub known : first.drawn ≤ most
  pub bounded : IsBoundedAt first.array.geometry most (view.rack.history old.rack)

abbrev pub StaysWithin : {R W : Type 0} → DeviceView R W → Geometry → ℕ → Devices R W → Devices R W → Type 0
StaysWithin view g most old new =
    StaysBounded g most (view.rack.history old.rack) (view.rack.history new.rack)

abbrev pub TracesAreBounded : (R W : Type 0) → Type 0
TracesAreBounded R W = (view : DeviceView R W) (trace : List TraceItem) (old new : Devices R W)
    → AlongTrace (WorksAll view) trace old new → (first : Membership) (most : ℕ)
    → IsFrom view first most old
    → StaysWithin view first.array.geometry (most + weights first + over_steps allowance trace) old new

-- In plain numbers, as a slot weighs two at most: by the allowances; and by how many times a slot was to be replaced, where the
-- array was opened once and few stamps were to be set.
pub record AreWithinPlainly {R W : Type 0} (view : DeviceView R W) (g : Geometry) (most : ℕ)
    (trace : List TraceItem) (old new : Devices R W) : Type 0 where
  pub allowed : StaysWithin view g (most + 64 + over_steps allowance trace) old new
  pub counted : (q : ℕ) → over_steps opens trace ≤ 1 → over_steps replaces trace ≤ q
      → over_steps stamps trace ≤ 35 → StaysWithin view g (most + 100 + 5 * q) old new

abbrev pub TracesAreWithin : (R W : Type 0) → Type 0
TracesAreWithin R W = (view : DeviceView R W) (trace : List TraceItem) (old new : Devices R W)
    → AlongTrace (WorksAll view) trace old new → (first : Membership) (most : ℕ)
    → IsFrom view first most old → first.array.geometry.n ≤ 32
    → AreWithinPlainly view first.array.geometry most trace old new

-- A WHOLE CALL

-- The call is of this array: no survey finds another one, and where one was to be made nothing is written. Nothing is, while
-- this one is within tolerance.
abbrev pub IsOfArray : {R W : Type 0} → DeviceView R W → Geometry → TraceItem → Devices R W → Devices R W → Type 0
IsOfArray view g (Did Survey (Ok member)) old new = member.array.geometry ≡ g
IsOfArray view g (Did (Create array) outcome) old new =
    NothingWritten (view.rack.history old.rack) (view.rack.history new.rack)
IsOfArray view g _ old new = ⊤

abbrev pub AreOfArray : {R W : Type 0} → (view : DeviceView R W) → Geometry → (trace : List TraceItem)
    → (old new : Devices R W) → AlongTrace (WorksAll view) trace old new → Type 0
AreOfArray view g [] old new works = ⊤
AreOfArray view g (item ∷ trace) old new works =
    IsOfArray view g item old works.0 × AreOfArray view g trace works.0 new works.2

-- Over a call from its beginning, of what was borne at its entry: what the survey sees is no more.
abbrev pub CallsAreBounded : (R W : Type 0) → Type 0
CallsAreBounded R W = (view : DeviceView R W) (trace : List TraceItem) (old new : Devices R W)
    (works : AlongTrace (WorksAll view) trace old new) (g : Geometry) (most : ℕ)
    → IsTrue view.rack.honest → old.session ≡ Begun
    → IsBoundedAt g most (view.rack.history old.rack) → AreOfArray view g trace old new works
    → AreWithinPlainly view g most trace old new
