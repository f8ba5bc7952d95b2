-- When a command is sure to end with Done: all that completeness asks of it is a fact of its program alone.
use Rattle.std.specs.Prelude.{◌≡◌, ◌≢◌, ◌⊎◌, ◌<◌, ◌≤◌, ◌-◌, ◌^◌, ℕ, Bool, IsTrue, List, [], ◌∷◌, ◌++◌, Option, None, Some, Ok, length, ⊤}
use Rattle.stair_model.specs.Geometry.{Geometry}
use Rattle.stair_model.specs.Slots.{HasSlot, Slots}
use Rattle.stair_rack.specs.Answers.{IsHistory, Ran, any_call}
use Rattle.stair_rack.specs.Count.{Rose}
use Rattle.stair_rack.specs.Crash.{image_now}
use Rattle.stair_rack.specs.History.{Happening, slot_state}
use Rattle.stair_rack.specs.Media.{Image}
use Rattle.stair_rack.specs.Moments.{IsMoment}
use Rattle.stair_rack.specs.Offline.{IsOffline}
use Rattle.stair_rack.specs.Stretch.{NoneWritten, NothingReturned, NothingWritten}
use Rattle.stair_super.specs.Superblock.{Superblock, mark_in}
use Rattle.stair_super.specs.declared.mark.Mark.TheVariants.{Down}
use Rattle.stair_member.specs.Current.{IsCurrent}
use Rattle.stair_member.specs.Membership.{Membership}
use Rattle.stair_member.specs.Seats.{Seats}
use Rattle.stair_member.specs.Superblocks.{HasSuper, HoldsSuper}
use Rattle.stair_state.specs.Represents.{IsLargeEnough, Represents}
use Rattle.stair_state.specs.State.{State, without_seats}
use Rattle.stair_state.specs.Tolerance.{ToleratedSince}
use Rattle.stair_invariant.specs.Mixed.{IsMixed, IsToleratedMixed}
use Rattle.stair_invariant.specs.Returning.{AnyReturns, StaysWithinToleranceUnread, NoneReturns, Returning, StandsFor}
use Rattle.stair_invariant.specs.Session.{ArrayState, seats_in}
use Rattle.stair_array.specs.Draws.{HasDraws, most_drawn}
use Rattle.stair_array.specs.Looking.{cells_at}
use Rattle.stair_array.specs.Machine.{GivenBy, Nothing, PassesTests, Progress, RebuildNext, Recover, ReplaceSlot, Row, Step}
use Rattle.stair_array.specs.Promise.{Begun, Found, Opened, Phase, is_open}
use Rattle.stair_status.specs.declared.status.Status.{Status}
use Rattle.stair_status.specs.declared.status.Status.TheVariants.{Done, OutOfMemory}
use Rattle.stair_command.specs.Action.{Create, Survey}
use Rattle.stair_command.specs.Bounded.{IsBoundedAt}
use Rattle.stair_command.specs.Devices.{DeviceView, Devices, ExecutesWhole, ExecutesWith, WorksAll, devices}
use Rattle.stair_command.specs.Ending.{AdmitsNone, AdmitsOnce, AllowsAtMost, EachStep}
use Rattle.stair_command.specs.Outside.{Outside, Views}
use Rattle.stair_command.specs.Program.{Program, Over, Ask, Take, Put, Allocate, Do, Try, RebuildAll}
use Rattle.stair_command.specs.Question.{IsReply, Reply}
use Rattle.stair_command.specs.Rack.{ExecutesOver, RackView}
use Rattle.stair_command.specs.Run.{StaysWithinToleranceUpTo, TraceLeads, history_of}
use Rattle.stair_command.specs.Trace.{AreEnough, TraceItem, Stepped, AlongTrace}

-- the source tells what is left, and it is so
abbrev pub IsToldSo : Option (List ℕ) → (List ℕ → Type 0) → Type 0
IsToldSo None IsSo = ⊥
IsToldSo (Some told) IsSo = IsSo told

-- SLOTS THAT ARE COUNTED ON

-- A step may drop any slot, for all that the machine's table says. A command that is to bring a slot up counts on those that
-- it has replaced so far.
abbrev pub IsCounted : List ℕ → ℕ → Type 0
IsCounted [] j = ⊥
IsCounted (slot ∷ counted) j = (j ≡ slot) ⊎ IsCounted counted j

abbrev pub counted_behind : Step → List ℕ → List ℕ
counted_behind (ReplaceSlot slot) counted = slot ∷ counted
counted_behind step counted = counted

-- none of them goes Down over a step; an opening begins with what was found of slots
abbrev pub NoneGoesDown : (ℕ → Type 0) → Seats → Seats → Type 0
NoneGoesDown kept old new = (j : ℕ) → kept j → (old j).mark ≢ Down → (new j).mark ≢ Down

abbrev pub KeepsCounted : List ℕ → Step → Seats → Seats → Type 0
KeepsCounted counted Recover old new = ⊤
KeepsCounted counted step old new = NoneGoesDown (IsCounted counted) old new

-- STEPS THAT ARE DONE

-- An opening begins with seats that it finds, of which the state knows nothing. Any other step begins with the state's.
abbrev pub BeginsAs : Step → State → Seats → Type 0
BeginsAs Recover s begun = ⊤
BeginsAs _ s begun = s.seats ≡ Some begun

-- The step was done, and gave this, by a row of the machine over which no slot that is counted on went Down.
pub record IsDoneFrom (counted : List ℕ) (step : Step) (given : GivenBy step) (s later : State)
    : Type 0 where
  pub begun : Seats
  pub begins : BeginsAs step s begun
  pub row : Row step (Ok given) begun s later
  pub keeps : KeepsCounted counted step begun row.seats

-- steps of a rebuild to this state from another, up to the one that finds nothing
pub data IsRebuiltFrom (counted : List ℕ) (later : State) : State → Type 0 where
  Last : (s : State) → IsDoneFrom counted RebuildNext Nothing s later
      → IsRebuiltFrom counted later s
  More : (s mid : State) (progress : Progress) → IsDoneFrom counted RebuildNext progress s mid
      → IsRebuiltFrom counted later mid → IsRebuiltFrom counted later s

-- the slot that is to be replaced is Down
abbrev pub IsFreeFor : Step → Seats → Type 0
IsFreeFor (ReplaceSlot j) seats = (seats j).mark ≡ Down
IsFreeFor step seats = ⊤

-- PLANS

-- The program ends with Done, whatever the machine answers: in this state, of a source that tells that this is left, and where no
-- slot goes Down that is counted on, and each that is to be replaced is Down then. So each step of it passes its tests, and no
-- input is wrong. A program that takes nothing needs no source that tells. Any piece may come that is large enough, or what is
-- left, where that is less. An array that is looked for is found. One that is to be made over an array is refused, so a program
-- that makes one is sure in no state of an array.
abbrev pub Completes : List ℕ → Program → State → Option (List ℕ) → Type 0
Completes counted (Over status) s left = status ≡ Done
Completes counted (Ask question k) s left =
    (reply : Reply question) → IsReply question reply → Completes counted (k reply) s left
Completes counted (Take least most k short) s left = IsToldSo left (λ told.
    ((bytes rest : List ℕ) → told ≡ bytes ++ rest → AreEnough least most bytes
    → Completes counted (k bytes) s (Some rest))
    × (length told < least → Completes counted (short told) s (Some [])))
Completes counted (Put bytes program) s left = Completes counted program s left
Completes counted (Allocate program) s left = Completes counted program s left
Completes counted (Do (Create g) k) s left = ⊥
Completes counted (Do Survey k) s left = (member : Membership)
    → member.array.geometry ≡ s.geometry → Completes counted (k member) s left
Completes counted (Try step k) s left =
    ((seats : Seats) → s.seats ≡ Some seats → IsFreeFor step seats → PassesTests step s seats)
    × ((given : GivenBy step) (gone : Bool) (later : State) → IsDoneFrom counted step given s later
    → Completes (counted_behind step counted) (k (Ok given) gone) later left)
Completes counted (RebuildAll slots done k) s left = (count : ℕ) (later : State)
    → IsRebuiltFrom counted later s → Completes counted (k count) later left

-- STORIES

-- this is so of each item, at the moments before and after it
abbrev pub EachItem : {R W : Type 0} → (view : DeviceView R W)
    → (TraceItem → Devices R W → Devices R W → Type 0) → (trace : List TraceItem) → (old new : Devices R W)
    → AlongTrace (WorksAll view) trace old new → Type 0
EachItem view IsSo [] old new works = ⊤
EachItem view IsSo (item ∷ trace) old new works =
    IsSo item old works.0 × EachItem view IsSo trace works.0 new works.2

-- an open array gives up none of these slots over a step
abbrev pub KeepsAt : {R W : Type 0} → Slots → TraceItem → Devices R W → Devices R W → Type 0
KeepsAt kept (Stepped step answer events left) old new = (was is : ArrayState)
    → old.session ≡ Opened was → new.session ≡ Opened is
    → NoneGoesDown (HasSlot kept) (seats_in was.member.array) (seats_in is.member.array)
KeepsAt kept _ old new = ⊤

abbrev pub EachKeeps : {R W : Type 0} → (view : DeviceView R W) → Slots → (trace : List TraceItem)
    → (old new : Devices R W) → AlongTrace (WorksAll view) trace old new → Type 0
EachKeeps view kept trace old new works = EachItem view (KeepsAt kept) trace old new works

-- what the session knows was drawn leaves room for draws
abbrev pub LeavesDraws : Phase → Type 0
LeavesDraws (Found member) = HasDraws member
LeavesDraws (Opened array) = HasDraws array.member
LeavesDraws _ = ⊤

-- and so does what a medium bears that is to be admitted, before anything of it is written
abbrev pub MediumLeavesDraws : Step → Geometry → List Happening → List Happening → Type 0
MediumLeavesDraws (ReplaceSlot j) g old new = (h : List Happening) (k : ℕ) (super : Superblock)
    → IsMoment old h new → NoneWritten (λ i. i ≡ j) old h → k < 2
    → HoldsSuper (cells_at h j k) super → super.array.geometry ≡ g → super.draw ≤ most_drawn
MediumLeavesDraws step g old new = ⊤

-- as a step begins
abbrev pub HasDrawsAt : {R W : Type 0} → DeviceView R W → Geometry → TraceItem → Devices R W → Devices R W
    → Type 0
HasDrawsAt view g (Stepped step answer events left) old new = LeavesDraws old.session
    × MediumLeavesDraws step g (history_of view old) (history_of view new)
HasDrawsAt view g _ old new = ⊤

abbrev pub EachHasDraws : {R W : Type 0} → (view : DeviceView R W) → Geometry → (trace : List TraceItem)
    → (old new : Devices R W) → AlongTrace (WorksAll view) trace old new → Type 0
EachHasDraws view g trace old new works = EachItem view (HasDrawsAt view g) trace old new works

-- In a session that began at `before` slot j is at no moment from here to h offline, and the medium that it holds is large enough for
-- an array of this geometry.
pub record IsThere (g : Geometry) (before from h : List Happening) (j : ℕ) : Type 0 where
  pub online : (moment : List Happening) → IsMoment from moment h → ¬ IsOffline before moment j
  pub large : (moment : List Happening) → IsMoment from moment h
      → IsLargeEnough g (slot_state moment j).size

-- It is there from here to h, whatever was before, and until it is written its medium bears no superblock of another array.
pub record IsFitFrom (g : Geometry) (from h : List Happening) (j : ℕ) : Type 0 where
  pub there : IsThere g from from h j
  pub own : (moment : List Happening) (k : ℕ) (super : Superblock) → IsMoment from moment h
      → NoneWritten (λ i. i ≡ j) from moment → k < 2 → HoldsSuper (cells_at moment j k) super
      → super.array.geometry ≡ g

-- As a replacement begins, in a trace that ends at h, its slot is Down, and it is fit from then on.
abbrev pub CanReplaceAt : {R W : Type 0} → DeviceView R W → Geometry → List Happening → TraceItem
    → Devices R W → Devices R W → Type 0
CanReplaceAt view g h (Stepped (ReplaceSlot j) answer events left) old new =
    ((was : ArrayState) → old.session ≡ Opened was → mark_in was.member.array j ≡ Down)
    × IsFitFrom g (history_of view old) h j
CanReplaceAt view g h _ old new = ⊤

abbrev pub EachCanReplace : {R W : Type 0} → (view : DeviceView R W) → Geometry
    → (trace : List TraceItem) → (old new : Devices R W) → AlongTrace (WorksAll view) trace old new → Type 0
EachCanReplace view g trace old new works =
    EachItem view (CanReplaceAt view g (history_of view new)) trace old new works

-- slot j is one of an array of this geometry, and is there in the whole session, up to h
pub record StaysIn (g : Geometry) (before h : List Happening) (j : ℕ) : Type 0 where
  pub below : j < g.n
  pub there : IsThere g before before h j

-- THE LAWS

-- no fault of the source or of the sink was counted
pub record HasNoFault {S K : Type 0} (view : Views S K) (old new : Outside S K) : Type 0 where
  pub source : ¬ Rose (view.source.faults old.source) (view.source.faults new.source)
  pub sink : ¬ Rose (view.sink.faults old.sink) (view.sink.faults new.sink)

-- all was done, or memory was short
abbrev pub IsDone : Status → Type 0
IsDone status = (status ≡ Done) ⊎ (status ≡ OutOfMemory)

-- as much is asked of an opening whose first epoch is refused as keeps it from being refused
abbrev pub StaysWithinToleranceUnreadAt : {R W : Type 0} → DeviceView R W → Returning → Geometry
    → List Happening → TraceItem → Devices R W → Devices R W → Type 0
StaysWithinToleranceUnreadAt view returning g before (Stepped step answer events left) old new =
    StaysWithinToleranceUnread returning g (is_open old.session) before (history_of view new)
StaysWithinToleranceUnreadAt view returning g before _ old new = ⊤

-- From a session's beginning to its end failures stay within tolerance, along its trace.
abbrev pub StaysWithinToleranceAlong : {R W : Type 0} → (view : DeviceView R W) → Returning → Geometry
    → (trace : List TraceItem) → (first last : Devices R W) → AlongTrace (WorksAll view) trace first last
    → Type 0
StaysWithinToleranceAlong view returning g trace first last works = StaysWithinToleranceUpTo view returning g
    (history_of view first) (history_of view last) trace first last works
    × EachItem view (StaysWithinToleranceUnreadAt view returning g (history_of view first)) trace first last works

-- They do so along every trace of an honest rack that is within tolerance at every moment, and to which no medium comes back.
abbrev pub ToleratedStaysWithinTolerance : (R W : Type 0) → Type 0
ToleratedStaysWithinTolerance R W = (view : DeviceView R W) (g : Geometry) (trace : List TraceItem)
    (first last : Devices R W) (works : AlongTrace (WorksAll view) trace first last)
    → IsTrue view.rack.honest → ToleratedSince g (history_of view first) (history_of view last)
    → NothingReturned (history_of view first) (history_of view last)
    → StaysWithinToleranceAlong view NoneReturns g trace first last works

-- A command whose program is sure is done, if there is memory: on an honest rack that is an array in this state as the session
-- begins, within tolerance, whether media come back or not, where neither source nor sink fails, each step that is performed
-- leads on, there are draws left at each, and each slot that is to be replaced can be.
abbrev pub SureIsDone : (R W S K : Type 0) → Type 0
SureIsDone R W S K = (returning : Returning) (view : DeviceView R W) (streams : Views S K)
    (program : Program) (status : Status) (s : State) (old new : Outside S K) (first last : Devices R W)
    (with : ExecutesWith view streams program (Over status) old new first last)
    → IsTrue view.rack.honest → first.session ≡ Begun
    → IsHistory (history_of view first) → StandsFor returning s (history_of view first)
    → StaysWithinToleranceAlong view returning s.geometry with.means.trace first last with.works
    → HasNoFault streams old new
    → TraceLeads returning view with.means.trace first last with.works
    → EachHasDraws view s.geometry with.means.trace first last with.works
    → EachCanReplace view s.geometry with.means.trace first last with.works
    → Completes [] program (without_seats s) (streams.source.left old.source) → IsDone status

-- a draw up to this one, as a call begins, leaves room for all that it draws
abbrev pub most_borne : ℕ
most_borne = 2 ^ 64 - 2 ^ 40

-- On an honest rack an array is in this state as a call begins, and stays within tolerance to its end. No medium comes back, and no
-- superblock of the array bears a draw after which too few are left.
pub record ServesThroughout {R : Type 0} (rack : RackView R) (s : State) (first last : R) : Type 0
  where
    pub honest : IsTrue rack.honest
    pub history : IsHistory (rack.history first)
    pub represents : Represents s (rack.history first)
    pub tolerated : ToleratedSince s.geometry (rack.history first) (rack.history last)
    pub returned : NothingReturned (rack.history first) (rack.history last)
    pub drawn : IsBoundedAt s.geometry most_borne (rack.history first)

-- So it is along a trace, whether media come back or not.
pub record ServesAlong {R W : Type 0} (returning : Returning) (view : DeviceView R W) (s : State)
    (trace : List TraceItem) (first last : Devices R W) (works : AlongTrace (WorksAll view) trace first last)
    : Type 0 where
  pub honest : IsTrue view.rack.honest
  pub history : IsHistory (history_of view first)
  pub stands : StandsFor returning s (history_of view first)
  pub calm : StaysWithinToleranceAlong view returning s.geometry trace first last works
  pub drawn : IsBoundedAt s.geometry most_borne (history_of view first)

-- An array that serves throughout serves along every trace.
abbrev pub ServesAlongAny : (R W : Type 0) → Type 0
ServesAlongAny R W = (view : DeviceView R W) (s : State) (trace : List TraceItem)
    (first last : Devices R W) (works : AlongTrace (WorksAll view) trace first last)
    → ServesThroughout view.rack s first.rack last.rack
    → ServesAlong NoneReturns view s trace first last works

-- so many draws are left then for the steps of a program
abbrev pub most_allowed : ℕ
most_allowed = 2 ^ 38

-- Of a program that draws few numbers nothing is asked of the trace but that each slot which is to be replaced can be: it is done
-- where it is sure.
abbrev pub PlannedSureIsDone : (R W S K : Type 0) → Type 0
PlannedSureIsDone R W S K = (returning : Returning) (view : DeviceView R W) (streams : Views S K)
    (program : Program) (status : Status) (s : State) (old new : Outside S K) (first last : R)
    (watchers left : List W)
    (whole : ExecutesWhole view streams program (Over status) old new first last watchers left)
    → AllowsAtMost most_allowed program
    → ServesAlong returning view s whole.with.means.trace (devices first Begun watchers)
    (devices last whole.session left) whole.with.works
    → HasNoFault streams old new
    → EachCanReplace view s.geometry whole.with.means.trace (devices first Begun watchers)
    (devices last whole.session left) whole.with.works
    → Completes [] program (without_seats s) (streams.source.left old.source) → IsDone status

-- And none is where the program admits no medium.
abbrev pub NoneIsReplaced : (R W S K : Type 0) → Type 0
NoneIsReplaced R W S K = (view : DeviceView R W) (streams : Views S K) (program rest : Program)
    (g : Geometry) (old new : Outside S K) (first last : Devices R W)
    (with : ExecutesWith view streams program rest old new first last) → EachStep AdmitsNone program
    → EachCanReplace view g with.means.trace first last with.works

-- Until something is written the slot bears no superblock, of whatever array,
abbrev pub BearsNone : List Happening → List Happening → ℕ → Type 0
BearsNone before h j = (moment : List Happening) → IsMoment before moment h
    → NothingWritten before moment → ¬ HasSuper (cells_at moment j)

-- or the array's current superblock marks it Down. Where media come back it is that of each image in which the slots are as they
-- were at moments of their own.
abbrev pub MayShow : Returning → List Happening → List Happening → Image → Type 0
MayShow NoneReturns before moment image = image ≡ image_now moment
MayShow AnyReturns before moment image = IsMixed before before moment image

abbrev pub IsMarkedDown : Returning → Geometry → List Happening → List Happening → ℕ → Type 0
IsMarkedDown returning g before h j = (moment : List Happening) → IsMoment before moment h
    → NothingWritten before moment → (image : Image) → MayShow returning before moment image
    → (current : Superblock) → IsCurrent g image current → mark_in current.array j ≡ Down

-- In a session from `before` to h slot j has a device that can be admitted: it is there, bears no superblock of another array, and
-- takes no part before anything is written.
pub record HasDevice (returning : Returning) (g : Geometry) (before h : List Happening) (j : ℕ)
    : Type 0 where
  pub stays : StaysIn g before h j
  pub own : (moment : List Happening) (k : ℕ) (super : Superblock) → IsMoment before moment h → k < 2
      → HoldsSuper (cells_at moment j k) super → super.array.geometry ≡ g
  pub out : BearsNone before h j ⊎ IsMarkedDown returning g before h j

-- Such a device can replace what its slot had, where that slot is the one that is to be replaced.
abbrev pub DevicesCanReplace : (R W S K : Type 0) → Type 0
DevicesCanReplace R W S K = (returning : Returning) (view : DeviceView R W) (streams : Views S K)
    (program rest : Program) (s : State) (slot : ℕ) (old new : Outside S K) (first last : R)
    (watchers left : List W)
    (whole : ExecutesWhole view streams program rest old new first last watchers left)
    → AdmitsOnce slot program
    → ServesAlong returning view s whole.with.means.trace (devices first Begun watchers)
    (devices last whole.session left) whole.with.works
    → HasDevice returning s.geometry (view.rack.history first) (view.rack.history last) slot
    → EachCanReplace view s.geometry whole.with.means.trace (devices first Begun watchers)
    (devices last whole.session left) whole.with.works

-- In a session that began at `before` failures stay within tolerance from `from` to h, while no array is open.
abbrev pub StaysWithinToleranceBetween : Returning → Geometry → (before from h : List Happening) → Type 0
StaysWithinToleranceBetween NoneReturns g before from h = ToleratedSince g before h × NothingReturned from h
StaysWithinToleranceBetween AnyReturns g before from h =
    ToleratedSince g before h × IsToleratedMixed g before from h

-- Over a rack alone, which suffices for a program that takes no step, nothing is asked of steps. The session began at `before`.
abbrev pub SteplessSureIsDone : (R S K : Type 0) → Type 0
SteplessSureIsDone R S K = (returning : Returning) (rack : RackView R) (streams : Views S K)
    (program : Program) (status : Status) (s : State) (before : List Happening) (old new : Outside S K)
    (first last : R) → ExecutesOver rack streams program (Over status) old new first last
    → IsTrue rack.honest → Ran any_call before (rack.history first)
    → StandsFor returning s (rack.history first)
    → StaysWithinToleranceBetween returning s.geometry before (rack.history first) (rack.history last)
    → HasNoFault streams old new
    → Completes [] program (without_seats s) (streams.source.left old.source) → IsDone status

-- A slot that stays in isn't given up: on an honest rack that is an array in this state as the session begins, within tolerance,
-- whether media come back or not, where each step that is performed leads on.
abbrev pub StayingAreKept : (R W : Type 0) → Type 0
StayingAreKept R W = (returning : Returning) (view : DeviceView R W) (s : State) (kept : Slots)
    (trace : List TraceItem) (first last : Devices R W) (works : AlongTrace (WorksAll view) trace first last)
    → IsTrue view.rack.honest → first.session ≡ Begun
    → IsHistory (history_of view first) → StandsFor returning s (history_of view first)
    → StaysWithinToleranceUpTo view returning s.geometry (history_of view first) (history_of view last) trace
    first last works
    → TraceLeads returning view trace first last works
    → ((j : ℕ) → HasSlot kept j
    → StaysIn s.geometry (history_of view first) (history_of view last) j)
    → EachKeeps view kept trace first last works
