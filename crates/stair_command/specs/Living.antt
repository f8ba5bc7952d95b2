-- Which slots are live in the end of a call.
use Rattle.std.specs.Prelude.{◌≡◌, ◌<◌, ℕ, IsTrue, List, None}
use Rattle.stair_model.specs.Geometry.{Geometry}
use Rattle.stair_rack.specs.Answers.{IsHistory}
use Rattle.stair_rack.specs.Crash.{EachImage, image_now}
use Rattle.stair_rack.specs.History.{Happening}
use Rattle.stair_rack.specs.Moments.{IsMoment}
use Rattle.stair_rack.specs.Stretch.{NothingReturned, NothingWritten}
use Rattle.stair_super.specs.Superblock.{Superblock}
use Rattle.stair_member.specs.Current.{IsCurrent, IsLive, IsLost}
use Rattle.stair_state.specs.Represents.{Represents}
use Rattle.stair_state.specs.State.{State}
use Rattle.stair_state.specs.Tolerance.{ToleratedSince}
use Rattle.stair_invariant.specs.Session.{ArrayState, IsLiveIn}
use Rattle.stair_array.specs.Looking.{cells_at}
use Rattle.stair_array.specs.Promise.{Begun, Opened}
use Rattle.stair_command.specs.Bounded.{AreOfArray}
use Rattle.stair_command.specs.Devices.{DeviceView, Devices, WorksAll}
use Rattle.stair_command.specs.Run.{history_of}
use Rattle.stair_command.specs.Trace.{TraceItem, AlongTrace}
use Rattle.stair_command.specs.Sure.{IsThere}

-- in each image that a crash at h may leave, its current superblock makes slot j live
abbrev pub IsLiveAt : Geometry → List Happening → ℕ → Type 0
IsLiveAt g h j = EachImage (λ image. (current : Superblock) → IsCurrent g image current
    → IsLive g image current j) h

-- In a session that began at `before` slot j is there from here to h, and neither of its superblock places is lost at any moment.
pub record StaysWhole (g : Geometry) (before from h : List Happening) (j : ℕ) : Type 0 where
  pub below : j < g.n
  pub there : IsThere g before from h j
  pub places : (moment : List Happening) (k : ℕ) → IsMoment from moment h → k < 2
      → ¬ IsLost (cells_at moment j k)

-- the slot is live in the rack itself, at each moment before something is written
abbrev pub IsLiveUnwritten : Geometry → List Happening → List Happening → ℕ → Type 0
IsLiveUnwritten g before h j = (moment : List Happening) → IsMoment before moment h
    → NothingWritten before moment → (current : Superblock)
    → IsCurrent g (image_now moment) current → IsLive g (image_now moment) current j

-- an honest rack represents a state as a session begins there, is within tolerance to the end, and gets no medium back
pub record StandsOver {R W : Type 0} (view : DeviceView R W) (s : State) (first last : Devices R W) : Type 0
  where
    pub honest : IsTrue view.rack.honest
    pub begun : first.session ≡ Begun
    pub history : IsHistory (history_of view first)
    pub represents : Represents s (history_of view first)
    pub tolerated : ToleratedSince s.geometry (history_of view first) (history_of view last)
    pub returned : NothingReturned (history_of view first) (history_of view last)

-- THE LAWS

-- A slot that is live to an open array, by a promotion or from the opening on, and that stays whole from then on is live in the end,
-- where the array is open still and wasn't stopped.
abbrev pub LiveSlotsStay : (R W : Type 0) → Type 0
LiveSlotsStay R W = (view : DeviceView R W) (s : State) (done later : List TraceItem) (first mid last : Devices R W)
    → AlongTrace (WorksAll view) done first mid → AlongTrace (WorksAll view) later mid last
    → StandsOver view s first last → (a b : ArrayState) (j : ℕ) → mid.session ≡ Opened a
    → a.stopped ≡ None → IsLiveIn a.member j → last.session ≡ Opened b → b.stopped ≡ None
    → StaysWhole s.geometry (history_of view first) (history_of view mid) (history_of view last) j
    → IsLiveAt s.geometry (history_of view last) j

-- So is one that stays whole in the whole session, and was live at each moment before something was written: the newest
-- superblocks may be lost before they are read, by which alone it was live.
abbrev pub LiveSlotsAreKept : (R W : Type 0) → Type 0
LiveSlotsAreKept R W = (view : DeviceView R W) (s : State) (trace : List TraceItem) (first last : Devices R W)
    → AlongTrace (WorksAll view) trace first last → StandsOver view s first last → (b : ArrayState) (j : ℕ)
    → last.session ≡ Opened b → b.stopped ≡ None
    → StaysWhole s.geometry (history_of view first) (history_of view first) (history_of view last) j
    → IsLiveUnwritten s.geometry (history_of view first) (history_of view last) j
    → IsLiveAt s.geometry (history_of view last) j

-- A call is of the array that the rack is: where it is within tolerance to the end, and no medium comes back.
abbrev pub CallsAreOfArray : (R W : Type 0) → Type 0
CallsAreOfArray R W = (view : DeviceView R W) (s : State) (trace : List TraceItem)
    (first last : Devices R W) (works : AlongTrace (WorksAll view) trace first last)
    → StandsOver view s first last → AreOfArray view s.geometry trace first last works
