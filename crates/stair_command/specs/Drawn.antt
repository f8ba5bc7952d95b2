-- How many numbers a call draws.
use Rattle.std.specs.Prelude.{◌≡◌, ◌+◌, ◌*◌, ◌^◌, ◌<◌, ◌≤◌, ℕ, Err, IsTrue, List, [], ◌∷◌}
use Rattle.stair_model.specs.Geometry.{Geometry}
use Rattle.stair_rack.specs.History.{Happening}
use Rattle.stair_rack.specs.Moments.{IsMoment}
use Rattle.stair_rack.specs.Stretch.{NoneWritten}
use Rattle.stair_rack.specs.RackState.{RackState}
use Rattle.stair_super.specs.Superblock.{Superblock}
use Rattle.stair_member.specs.Membership.{Membership}
use Rattle.stair_member.specs.Superblocks.{HoldsSuper}
use Rattle.stair_array.specs.Draws.{allowance, weights}
use Rattle.stair_array.specs.Looking.{cells_at}
use Rattle.stair_array.specs.Machine.{EpochsSpent, Recover, ReplaceSlot, SetFrozen, SetLabel, Step}
use Rattle.stair_array.specs.Promise.{Performs, Seen}
use Rattle.stair_rack.specs.declared.watcher.Event.{Event}
use Rattle.stair_command.specs.Devices.{DeviceView, Devices, WorksAll}
use Rattle.stair_command.specs.Kept.{HasMember, SomeItem}
use Rattle.stair_command.specs.Rack.{told_of}
use Rattle.stair_command.specs.Trace.{TraceItem, Stepped, AlongTrace}

-- STEPS, COUNTED

-- a number for each step of the trace, summed
abbrev pub at_step : (Step → ℕ) → TraceItem → ℕ
at_step count (Stepped step answer events left) = count step
at_step count _ = 0

abbrev pub over_steps : (Step → ℕ) → List TraceItem → ℕ
over_steps count [] = 0
over_steps count (item ∷ trace) = at_step count item + over_steps count trace

abbrev pub opens : Step → ℕ
opens Recover = 1
opens _ = 0

abbrev pub replaces : Step → ℕ
replaces (ReplaceSlot j) = 1
replaces _ = 0

abbrev pub stamps : Step → ℕ
stamps (SetFrozen frozen) = 1
stamps (SetLabel label) = 1
stamps _ = 0

-- THE GREATEST DRAW THAT WAS SEEN

-- A medium that was to be admitted to the slot bore a superblock of this array with this draw, in one of its places, before
-- anything of it was written. Of a rack that isn't honest that says nothing, since it may have told of any draw.
pub record BoreDraw (g : Geometry) (j draw : ℕ) (old new : RackState) : Type 0 where
  pub place : ℕ
  pub place_in : place < 2
  pub super : Superblock
  pub geometry : super.array.geometry ≡ g
  pub draw_is : super.draw ≡ draw
  pub bore : IsTrue new.honest → (moment : List Happening)
      × IsMoment old.history moment new.history × NoneWritten (λ i. i ≡ j) old.history moment
      × HoldsSuper (cells_at moment j place) super

abbrev pub BoreDrawAt : {R W : Type 0} → DeviceView R W → Geometry → ℕ → TraceItem → Devices R W
    → Devices R W → Type 0
BoreDrawAt view g draw (Stepped (ReplaceSlot j) answer events left) old new =
    BoreDraw g j draw (told_of view.rack old.rack) (told_of view.rack new.rack)
BoreDrawAt view g draw _ old new = ⊥

-- in a step of the trace
abbrev pub BoreDrawIn : {R W : Type 0} → (view : DeviceView R W) → Geometry → ℕ
    → (trace : List TraceItem) → (old new : Devices R W) → AlongTrace (WorksAll view) trace old new → Type 0
BoreDrawIn view g draw trace old new works =
    SomeItem view (BoreDrawAt view g draw) trace old new works

-- The draw is the greatest that the session knew of at first, or one that a medium bore which was to be admitted.
pub data WasSeen {R W : Type 0} (view : DeviceView R W) (first : Membership) (draw : ℕ)
    (trace : List TraceItem) (old new : Devices R W) (works : AlongTrace (WorksAll view) trace old new)
    : Type 0 where
  AtFirst : draw ≡ first.drawn → WasSeen view first draw trace old new works
  OnMedium : BoreDrawIn view first.array.geometry draw trace old new works
      → WasSeen view first draw trace old new works

-- THE LAWS

-- The greatest draw that the session knows in the end, with the weights of its slots then, is at most one that was seen, with
-- the weights at first and what the steps of the trace are allowed.
pub record AreDrawnFew {R W : Type 0} (view : DeviceView R W) (first last : Membership)
    (trace : List TraceItem) (old new : Devices R W) (works : AlongTrace (WorksAll view) trace old new)
    : Type 0 where
  pub draw : ℕ
  pub seen : WasSeen view first draw trace old new works
  pub few : last.drawn + weights last ≤ draw + weights first + over_steps allowance trace

abbrev pub DrawsAreFew : (R W : Type 0) → Type 0
DrawsAreFew R W = (view : DeviceView R W) (trace : List TraceItem) (old new : Devices R W)
    (works : AlongTrace (WorksAll view) trace old new) (first last : Membership)
    → HasMember old.session first → HasMember new.session last
    → AreDrawnFew view first last trace old new works

-- Nothing was seen above this: not by the session at first, nor on a medium that was to be admitted.
pub record NoneIsAbove {R W : Type 0} (view : DeviceView R W) (first : Membership) (most : ℕ)
    (trace : List TraceItem) (old new : Devices R W) (works : AlongTrace (WorksAll view) trace old new)
    : Type 0 where
  pub at_first : first.drawn ≤ most
  pub on_media : (draw : ℕ) → BoreDrawIn view first.array.geometry draw trace old new works
      → draw ≤ most

-- In plain numbers, as a slot weighs two at most: by the allowances; and by how many times a slot was to be replaced and a stamp
-- to be set, where the array was opened once.
pub record AreDrawnWithin (last : Membership) (most : ℕ) (trace : List TraceItem) : Type 0 where
  pub allowed : last.drawn ≤ most + 64 + over_steps allowance trace
  pub counted : (q p : ℕ) → over_steps opens trace ≤ 1 → over_steps replaces trace ≡ q
      → over_steps stamps trace ≡ p → last.drawn ≤ most + 64 + 1 + 3 * q + p

abbrev pub DrawsAreWithin : (R W : Type 0) → Type 0
DrawsAreWithin R W = (view : DeviceView R W) (trace : List TraceItem) (old new : Devices R W)
    (works : AlongTrace (WorksAll view) trace old new) (first last : Membership) (most : ℕ)
    → HasMember old.session first → HasMember new.session last → first.array.geometry.n ≤ 32
    → NoneIsAbove view first most trace old new works → AreDrawnWithin last most trace

-- A step is refused for want of epochs only where all numbers but few were drawn: so no body may always answer so.
abbrev pub SpentAtTheEnd : Type 0
SpentAtTheEnd = (step : Step) (events : List Event) (x y : Seen)
    (performs : Performs step (Err EpochsSpent) events x y)
    → performs.was.member.array.geometry.n ≤ 32 → 2 ^ 64 ≤ performs.draws_few.draw + 68
