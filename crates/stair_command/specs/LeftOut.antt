-- Which slots the epochs leave out that a call begins, whatever comes of the call.
use Rattle.std.specs.Prelude.{◌≡◌, ◌⊎◌, ◌<◌, ℕ, Contains, List}
use Rattle.stair_model.specs.Geometry.{Geometry}
use Rattle.stair_rack.specs.Crash.{CrashMayLeave, EachImage, image_now}
use Rattle.stair_rack.specs.History.{Happening}
use Rattle.stair_rack.specs.Media.{Image, Medium}
use Rattle.stair_rack.specs.Moments.{IsMoment}
use Rattle.stair_super.specs.Superblock.{Superblock, joined_at, mark_at}
use Rattle.stair_super.specs.declared.mark.Mark.TheVariants.{Live}
use Rattle.stair_member.specs.Current.{IsCurrent, IsLive}
use Rattle.stair_member.specs.Superblocks.{HoldsSuper}
use Rattle.stair_state.specs.State.{State}
use Rattle.stair_command.specs.Devices.{DeviceView, Devices, WorksAll}
use Rattle.stair_command.specs.Living.{IsLiveUnwritten, StandsOver, StaysWhole}
use Rattle.stair_command.specs.Run.{history_of}
use Rattle.stair_command.specs.Trace.{TraceItem, AlongTrace}

-- The image has this superblock of the array, in a superblock place of a medium that is in its slot or outside.
pub data HasSuperblock (g : Geometry) (image : Image) (s : Superblock) : Type 0 where
  InSlot : (j k : ℕ) → k < 2 → HoldsSuper ((image j).cell k) s → s.array.geometry ≡ g
      → HasSuperblock g image s
  Outside : (j k : ℕ) (medium : Medium) → Contains (image j).removed medium → k < 2
      → HoldsSuper (medium.cell k) s → s.array.geometry ≡ g → HasSuperblock g image s

-- a crash at h may leave it
pub record MayHave (g : Geometry) (h : List Happening) (s : Superblock) : Type 0 where
  pub image : Image
  pub left : CrashMayLeave h image
  pub has : HasSuperblock g image s

-- it marks slot j Live, with this joined number
pub record NamesLive (j joined : ℕ) (s : Superblock) : Type 0 where
  pub marked : mark_at s j ≡ Live
  pub joined_is : joined_at s j ≡ joined

-- Each superblock that a crash at a moment from old to new may leave was there at first, or marks slot j Live, with this joined number.
abbrev pub NewOnesName : Geometry → (j joined : ℕ) → (old new : List Happening) → Type 0
NewOnesName g j joined old new = (h : List Happening) (s : Superblock) → IsMoment old h new
    → MayHave g h s → MayHave g old s ⊎ NamesLive j joined s

-- Slot j is live in each image that a crash at h may leave, unless what is current there names an earlier epoch than this one.
abbrev pub IsLiveUnlessOlder : Geometry → (epoch j : ℕ) → List Happening → Type 0
IsLiveUnlessOlder g epoch j h = EachImage (λ image. (newest : Superblock) → IsCurrent g image newest
    → (newest.array.epoch < epoch) ⊎ IsLive g image newest j) h

-- THE LAW

-- Of a stretch at whose beginning this superblock is current: no epoch that is begun meanwhile leaves the slot out, and it is live
-- in the end, unless each superblock of that epoch and of all later ones is lost by then.
pub record IsLeftOutByNone (g : Geometry) (current : Superblock) (j : ℕ) (old new : List Happening)
    : Type 0 where
  pub names : NewOnesName g j (joined_at current j) old new
  pub live : IsLiveUnlessOlder g current.array.epoch j new

-- On an honest rack that is an array in a state, within tolerance and while no medium comes back: so it is of a slot that stays
-- whole in the whole session, and is live before something is written. That is of every call, whatever comes of it: also where its
-- opening is refused, and where its array stops.
abbrev pub LiveSlotsAreLeftOutByNone : (R W : Type 0) → Type 0
LiveSlotsAreLeftOutByNone R W = (view : DeviceView R W) (s : State) (trace : List TraceItem) (first last : Devices R W)
    → AlongTrace (WorksAll view) trace first last → StandsOver view s first last → (j : ℕ)
    → StaysWhole s.geometry (history_of view first) (history_of view first) (history_of view last) j
    → IsLiveUnwritten s.geometry (history_of view first) (history_of view last) j
    → (current : Superblock) → IsCurrent s.geometry (image_now (history_of view first)) current
    → IsLeftOutByNone s.geometry current j (history_of view first) (history_of view last)
