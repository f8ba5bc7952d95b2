-- What a step does to a rack, and to what the session has of its array: the one promise of every call of an array.
use Rattle.std.specs.Prelude.{◌≡◌, ◌⊎◌, ◌+◌, ◌<◌, ◌≤◌, ℕ, Bool, true, false, IsTrue, List, [], Option, None, Some, Result, Ok, Err, IfErr, IsErr, IsOk, IsSome, ⊤}
use Rattle.stair_model.specs.CellSet.{CellSet, HasCell, IsCellSet, cell_count}
use Rattle.stair_model.specs.Device.{cell_sector, chunks_start}
use Rattle.stair_model.specs.Geometry.{Geometry}
use Rattle.stair_rack.specs.Answers.{IsHistory, is_good}
use Rattle.stair_rack.specs.Crash.{EachImage, image_now}
use Rattle.stair_rack.specs.History.{Happening, SlotCall, Attach, Sectors, Read, Write, Sync, slot_state}
use Rattle.stair_rack.specs.Media.{Image, has_sector}
use Rattle.stair_rack.specs.Moments.{AtEveryMoment, AtSomeMoment, IsMoment}
use Rattle.stair_rack.specs.Offline.{IsHeld, IsOffline, WasPulled}
use Rattle.stair_rack.specs.Sector.{content}
use Rattle.stair_rack.specs.Stretch.{NoneWritten, NothingWritten, WasAnswered}
use Rattle.stair_rack.specs.RackState.{IsLater, RackState}
use Rattle.stair_rack.specs.declared.rack.Got.TheVariants as got
use Rattle.stair_rack.specs.declared.rack.Reply.TheVariants as reply
use Rattle.stair_super.specs.Superblock.{Superblock}
use Rattle.stair_member.specs.Membership.{IsHere, Membership, why_of}
use Rattle.stair_member.specs.Reserve.{Bears}
use Rattle.stair_member.specs.Seats.{Seats, seats_of}
use Rattle.stair_member.specs.Superblocks.{Counts, HoldsSuper}
use Rattle.stair_member.specs.Survey.{Surveys}
use Rattle.stair_member.specs.declared.fault.FenceFault.{FenceFault}
use Rattle.stair_member.specs.declared.why.Why.{Why}
use Rattle.stair_member.specs.declared.why.Why.TheVariants as why
use Rattle.stair_state.specs.Blocks.{AreEncodingsOf, Codewords}
use Rattle.stair_state.specs.Represents.{IsLargeEnough}
use Rattle.stair_state.specs.State.{State}
use Rattle.stair_invariant.specs.Effects.{Snapshot, snapshot}
use Rattle.stair_invariant.specs.Rebuilding.{Rebuild}
use Rattle.stair_invariant.specs.Returning.{AnyReturns, StaysWithinTolerance, StaysWithinToleranceUnread, Knows, NoneReturns, Returning, StandsFor, StandsForAlone}
use Rattle.stair_invariant.specs.Session.{ArrayState, IsArray, IsLiveIn, IsOpenWith, IsRebuiltIn, IsRememberedIn, Remembered, seats_in}
use Rattle.stair_array.specs.Calls.{Reads, WritesBlocks, refused}
use Rattle.stair_array.specs.Causes.{HasCause, HasCounted, IsAllowed, IsNextChunk, MemberGoesOn}
use Rattle.stair_array.specs.Draws.{DrawsFew, HasDraws, most_drawn}
use Rattle.stair_rack.specs.declared.watcher.Event.{Event}
use Rattle.stair_array.specs.Events.{events_of}
use Rattle.stair_array.specs.Looking.{cells_at}
use Rattle.stair_array.specs.Machine.{Answer, Chunk, CutWithin, Dropped, EpochsSpent, IsFinal, LookAtSeats, PassesTests, Promoted, ReadBlock, RebuildNext, Recover, Refusal, ReplaceSlot, Row, ScrubStripe, SetFrozen, SetLabel, Step, TooFew, WriteBlocks}
use Rattle.stair_array.specs.Mends.{Rebuilds, Replaces, Scrubs, StampsAs}
use Rattle.stair_array.specs.Openings.{Recovers}

-- SESSIONS

-- how far a session has come: nothing was done; an array was found; it is open; it was refused
pub data Phase : Type 0 where
  Begun : Phase
  Found : Membership → Phase
  Opened : ArrayState → Phase
  Closed : Phase

-- what a rack tells, and what the session has of its array, at a moment
pub record Seen : Type 0 where
  pub told : RackState
  pub session : Phase

abbrev pub is_open : Phase → Bool
is_open (Opened array) = true
is_open _ = false

-- What an open array knows of the rack, in the session that began at `before`, where it is in this state.
pub record IsOpenFor (returning : Returning) (before : List Happening) (s : State) (a : ArrayState)
    (h : List Happening) : Type 0 where
  pub words : Codewords
  pub encodings : AreEncodingsOf s.geometry s.content.blocks words
  pub is_open : IsOpenWith before a words h
  pub geometry : a.member.array.geometry ≡ s.geometry
  pub frozen : a.member.array.frozen ≡ s.content.frozen
  pub label : a.member.array.label ≡ s.content.label
  pub seats : s.seats ≡ Some (seats_in a.member.array)
  pub certain : s.in_doubt ≡ None
  pub knows : Knows returning s a.member h
  pub remembered : IsRememberedIn words a.remembered

-- What the session has of the array is right for this state; seats aren't known until it is open.
abbrev pub ServesState : Returning → List Happening → State → Phase → RackState → Type 0
ServesState returning before s Begun told = (before ≡ told.history) × (s.seats ≡ None)
ServesState returning before s (Found m) told = (first : RackState) × (first.history ≡ before)
    × StandsFor returning s before × Surveys (Ok m) first told × (s.seats ≡ None)
ServesState returning before s (Opened a) told =
    IsOpenFor returning before s a told.history ⊎ IsSome a.stopped
ServesState returning before s Closed told = ⊤

-- in the session that began at `before` the rack is an array in this state
pub record IsInState (returning : Returning) (before : List Happening) (s : State) (x : Seen)
    : Type 0 where
  pub stands : StandsFor returning s x.told.history
  pub serves : ServesState returning before s x.session x.told

-- STEPS

-- A superblock of slot j speaks for the array: it counts. Where media come back one does that the medium in the slot bears,
-- though a newer one may hide it.
abbrev pub SpeaksFor : Returning → Geometry → Image → ℕ → Superblock → Type 0
SpeaksFor NoneReturns g image j s = Counts g image j s
SpeaksFor AnyReturns g image j s = Bears g j ((image j).cell) s

-- the seats of a superblock that spoke for the array at a moment of the session before its first write
pub record AreFound (returning : Returning) (before h : List Happening) (s : State)
    (seats : Seats) : Type 0 where
  pub moment : List Happening
  pub is_one : IsMoment before moment h
  pub unwritten : NothingWritten before moment
  pub slot : ℕ
  pub super : Superblock
  pub speaks : SpeaksFor returning s.geometry (image_now moment) slot super
  pub are : (j : ℕ) → seats j ≡ seats_of super j

-- an opening begins with the seats that its survey found, any other step with the state's
abbrev pub BeginsWith : Returning → Step → Membership → List Happening → List Happening → State
    → Seats → Type 0
BeginsWith returning Recover m before h s begun =
    (begun ≡ seats_in m.array) × AreFound returning before h s begun
BeginsWith returning _ m before h s begun = s.seats ≡ Some begun

-- a step of the machine, up to h, by an array that knew this of its slots
pub record IsStep (returning : Returning) (step : Step) (answer : Answer step) (m : Membership)
    (before h : List Happening) (old new : State) : Type 0 where
  pub begun : Seats
  pub begins : BeginsWith returning step m before h old begun
  pub row : Row step answer begun old new

-- what a crash at h, within a step, leaves
pub record IsCut (returning : Returning) (step : Step) (m : Membership)
    (before h : List Happening) (old new : State) : Type 0 where
  pub begun : Seats
  pub begins : BeginsWith returning step m before h old begun
  pub within : CutWithin step begun old new

-- the step led to a state
pub record IsLed (returning : Returning) (m : Membership) (before : List Happening) (s : State)
    (step : Step) (answer : Answer step) (y : Seen) : Type 0 where
  pub state : State
  pub is_step : IsStep returning step answer m before y.told.history s state
  pub is_in : IsInState returning before state y

-- the image represents what a crash within the step leaves
pub record IsLeftBy (returning : Returning) (step : Step) (m : Membership)
    (before h : List Happening) (s : State) (image : Image) : Type 0 where
  pub state : State
  pub cut : IsCut returning step m before h s state
  pub stands : StandsForAlone returning state image

-- WHAT CAN BE DONE

-- the medium of the slot is fit to be admitted, and stays so
pub record MayReplace (g : Geometry) (j : ℕ) (old new : List Happening) : Type 0 where
  pub online : AtEveryMoment (λ h. ¬ IsOffline old h j) old new
  pub large : IsLargeEnough g (slot_state old j).size
  pub own : (h : List Happening) (k : ℕ) (super : Superblock) → IsMoment old h new
      → NoneWritten (λ i. i ≡ j) old h → k < 2 → HoldsSuper (cells_at h j k) super
      → (super.array.geometry ≡ g) × (super.draw ≤ most_drawn)

-- where the outside has a hand in whether a step is done
abbrev pub IsFitFor : Step → Geometry → List Happening → List Happening → Type 0
IsFitFor (ReplaceSlot j) g old new = MayReplace g j old new
IsFitFor _ g old new = ⊤

pub record CanBeDone (step : Step) (s : State) (m : Membership) (old new : List Happening)
    : Type 0 where
  pub passes : (seats : Seats) → s.seats ≡ Some seats → PassesTests step s seats
  pub draws : HasDraws m
  pub fit : IsFitFor step s.geometry old new

-- WHERE A STEP BEGINS AND ENDS

-- an array that was found, before it is opened
abbrev pub unopened : Membership → ArrayState
unopened m = record { member = m; rebuild = None; stopped = None; remembered = None }

-- what a session has of the array after an opening
abbrev pub session_after : Answer Recover → Membership → Phase
session_after (Ok g) last = Opened (unopened last)
session_after (Err refusal) last = Closed

-- an opening begins with an array that was found, any other step with one that is open and wasn't stopped
abbrev pub StartsFrom : Step → ArrayState → Phase → Type 0
StartsFrom Recover was (Found m) = was ≡ unopened m
StartsFrom Recover was _ = ⊥
StartsFrom _ was (Opened a) = (was ≡ a) × (a.stopped ≡ None)
StartsFrom _ was _ = ⊥

-- a refusal for good is kept, and any other answer leaves the array as one that wasn't stopped
abbrev pub Keeps : {T : Type 0} → Result T Refusal → Option FenceFault → Type 0
Keeps (Err (TooFew whys)) kept = (fault : FenceFault) × (kept ≡ Some fault) × (refused fault ≡ TooFew whys)
Keeps (Err EpochsSpent) kept = (fault : FenceFault) × (kept ≡ Some fault) × (refused fault ≡ EpochsSpent)
Keeps _ kept = kept ≡ None

-- an opening that is refused ends the session; after any other step it has the array as it is then
pub data EndsIn (step : Step) (answer : Answer step) (is : ArrayState) (session : Phase)
    : Type 0 where
  Ends : step ≡ Recover → IsErr answer → session ≡ Closed → EndsIn step answer is session
  GoesOn : (step ≡ Recover → IsOk answer) → Keeps answer is.stopped → session ≡ Opened is
      → EndsIn step answer is session

-- the array stops
abbrev pub Stops : {T : Type 0} → Result T Refusal → Type 0
Stops (Ok x) = ⊥
Stops (Err refusal) = IsFinal refusal

-- how far a rebuild has come stays as it was, unless its slot isn't rebuilt any more
pub data KeepsProgress (was is : ArrayState) : Type 0 where
  Stays : is.rebuild ≡ was.rebuild
      → ((rebuild : Rebuild) → is.rebuild ≡ Some rebuild → IsRebuiltIn is.member rebuild.slot)
      → KeepsProgress was is
  Ended : (rebuild : Rebuild) → was.rebuild ≡ Some rebuild → ¬ IsRebuiltIn is.member rebuild.slot
      → is.rebuild ≡ None → KeepsProgress was is

-- A chunk leads to the next one of its slot, and after the last one comes the promotion; of every other step it goes on. An
-- array that was stopped takes no step any more.
abbrev pub KeepsRebuild : (step : Step) → Answer step → ArrayState → ArrayState → Type 0
KeepsRebuild Recover (Ok g) was is = is.rebuild ≡ None
KeepsRebuild RebuildNext (Ok (Chunk j t)) was is = (t + 1 < was.member.array.geometry.stripes)
    × IsRebuiltIn is.member j
    × (is.rebuild ≡ Some (record { slot = j; stripe = t + 1 }))
KeepsRebuild RebuildNext (Ok (Promoted j)) was is = (is.rebuild ≡ None) × IsLiveIn is.member j
    × ((t : ℕ) → IsNextChunk was j t → was.member.array.geometry.stripes ≤ t + 1)
KeepsRebuild RebuildNext (Ok (Dropped j)) was is =
    (is.rebuild ≡ None) × (¬ IsHere is.member j)
KeepsRebuild RebuildNext (Err (TooFew whys)) was is = ⊤
KeepsRebuild RebuildNext (Err EpochsSpent) was is = ⊤
KeepsRebuild step answer was is = KeepsProgress was is

-- a rebuild goes on where its slot, which has this reason, is still rebuilt
abbrev pub rebuild_of : Why → Rebuild → Option Rebuild
rebuild_of why.Rebuilding rebuild = Some rebuild
rebuild_of _ rebuild = None

abbrev pub rebuild_after : Membership → Option Rebuild → Option Rebuild
rebuild_after last None = None
rebuild_after last (Some rebuild) = rebuild_of (why_of last rebuild.slot) rebuild

-- how far a rebuild has come after a step of it: a chunk leads to the next one, and where its slot was promoted or dropped, or an
-- epoch was refused, none is under way
abbrev pub rebuild_then : Answer RebuildNext → Membership → Option Rebuild → Option Rebuild
rebuild_then (Ok (Chunk j t)) last rebuild = Some (record { slot = j; stripe = t + 1 })
rebuild_then (Ok (Promoted j)) last rebuild = None
rebuild_then (Ok (Dropped j)) last rebuild = None
rebuild_then (Err (TooFew whys)) last rebuild = None
rebuild_then (Err EpochsSpent) last rebuild = None
rebuild_then answer last rebuild = rebuild_after last rebuild

-- an array that wasn't stopped, with a rebuild or none, which remembers a stripe or none; and what is left of one by a step that
-- drops slots at most, and forgets
abbrev pub running : Membership → Option Rebuild → Option Remembered → ArrayState
running m rebuild known = record { member = m; rebuild = rebuild; stopped = None; remembered = known }

abbrev pub left_of : Membership → Option Rebuild → Option FenceFault → ArrayState
left_of last rebuild stopped = record { member = last; rebuild = rebuild_after last rebuild; stopped = stopped; remembered = None }

-- What is remembered after a read it says itself, and a look leaves it. Any other step forgets.
abbrev pub Remembers : Step → ArrayState → ArrayState → Type 0
Remembers (ReadBlock b) was is = ⊤
Remembers LookAtSeats was is = is.remembered ≡ was.remembered
Remembers step was is = is.remembered ≡ None

-- what was called, whichever media come back, by an array that remembers this afterwards
abbrev pub Does : (step : Step) → ArrayState → Option Remembered → Answer step → Snapshot → Snapshot → Type 0
Does Recover was after answer x y = Recovers answer x y
Does (ReadBlock b) was after answer x y = Reads b was.remembered after answer x y
Does (WriteBlocks first contents) was after answer x y = WritesBlocks first contents answer x y
Does (ScrubStripe t) was after answer x y = Scrubs t answer x y
Does (ReplaceSlot j) was after answer x y = Replaces j answer x y
Does RebuildNext was after answer x y = Rebuilds was answer x y
Does (SetFrozen frozen) was after answer x y = StampsAs frozen x.member.array.label answer x y
Does (SetLabel label) was after answer x y = StampsAs x.member.array.frozen label answer x y
Does LookAtSeats was after answer x y = y ≡ x

-- SLOTS AND CELLS, on an honest rack

-- the call was answered gone
abbrev pub IsAnsweredGone : SlotCall → Type 0
IsAnsweredGone (Attach answer) = answer ≡ reply.Gone
IsAnsweredGone (Sectors size) = ⊥
IsAnsweredGone (Read k answer) = answer ≡ got.Gone
IsAnsweredGone (Write k bytes answer) = answer ≡ reply.Gone
IsAnsweredGone (Sync answer) = answer ≡ reply.Gone

-- a slot that takes part and answered gone doesn't take part in the end
abbrev pub AreAllLeftOut : Membership → Membership → RackState → RackState → Type 0
AreAllLeftOut m last old new = (j : ℕ) (call : SlotCall) → IsHere m j
    → WasAnswered j call old.history new.history → IsAnsweredGone call → why_of last j ≡ why.Gone

-- the sector was good, or wasn't, at a moment of the step
abbrev pub WasSound : ℕ → ℕ → RackState → RackState → Type 0
WasSound j k old new = AtSomeMoment (λ h. is_good (content ((slot_state h j).sector k)) ≡ true)
    old.history new.history

abbrev pub WasBad : ℕ → ℕ → RackState → RackState → Type 0
WasBad j k old new = AtSomeMoment (λ h. is_good (content ((slot_state h j).sector k)) ≡ false)
    old.history new.history

-- Each cell of a scrubbed stripe on a live slot was sound, the places and the journal of a slot that was admitted, and the
-- cells of the chunk that was rebuilt, the last one before a promotion too.
abbrev pub HasMade : (step : Step) → Answer step → ArrayState → Membership → RackState → RackState → Type 0
HasMade (ScrubStripe t) (Ok count) was last old new = (i j : ℕ) → i < last.array.geometry.r
    → IsLiveIn last j → WasSound j (cell_sector last.array.geometry t i) old new
HasMade (ReplaceSlot j) (Ok done) was last old new =
    (k : ℕ) → k < chunks_start last.array.geometry → WasSound j k old new
HasMade RebuildNext (Ok (Chunk j t)) was last old new = (i : ℕ) → i < last.array.geometry.r
    → WasSound j (cell_sector last.array.geometry t i) old new
HasMade RebuildNext (Ok (Promoted j)) was last old new = (t i : ℕ) → IsNextChunk was j t
    → t < last.array.geometry.stripes → i < last.array.geometry.r
    → WasSound j (cell_sector last.array.geometry t i) old new
HasMade _ _ was last old new = ⊤

-- So many cells of stripe t were repaired: each lay on a slot that was live when the step began, and was bad at a moment of
-- it. Those of a slot are all that were bad then, where it wasn't offline, its medium has both superblock places and the outside
-- didn't pull it meanwhile.
pub record AreRepaired (m : Membership) (t count : ℕ) (old new : RackState) : Type 0 where
  pub cells : CellSet
  pub formed : IsCellSet cells
  pub number : cell_count cells ≡ count
  pub each : (i j : ℕ) → HasCell cells i j → IsLiveIn m j × (i < m.array.geometry.r)
      × WasBad j (cell_sector m.array.geometry t i) old new
  pub all : (before : List Happening) (i j : ℕ) → ¬ WasPulled old.history new.history j
      → IsLiveIn m j → i < m.array.geometry.r → IsHeld before old.history j
      → ¬ IsOffline before old.history j
      → IsTrue (has_sector (slot_state old.history j).size 1)
      → is_good (content ((slot_state old.history j).sector (cell_sector m.array.geometry t i)))
      ≡ false → HasCell cells i j

abbrev pub HasRepaired : (step : Step) → Answer step → Membership → RackState → RackState → Type 0
HasRepaired (ScrubStripe t) (Ok count) m old new = AreRepaired m t count old new
HasRepaired _ _ m old new = ⊤

-- Before a slot is admitted neither of its places held a superblock of another array, at a moment at which it wasn't written.
abbrev pub WasFitBefore : (step : Step) → Answer step → Membership → RackState → RackState → Type 0
WasFitBefore (ReplaceSlot j) (Ok done) m old new = (moment : List Happening)
    × IsMoment old.history moment new.history × NoneWritten (λ i. i ≡ j) old.history moment
    × ((k : ℕ) (s : Superblock) → k < 2 → HoldsSuper (cells_at moment j k) s
    → s.array.geometry ≡ m.array.geometry)
WasFitBefore _ _ m old new = ⊤

-- THE PROMISE

-- From x to y a step was taken and answered so, with these events, whatever the rack is.
pub record Performs (step : Step) (answer : Answer step) (events : List Event) (x y : Seen)
    : Type 0 where
  -- with which array it began, and what is known of its slots in the end
  pub was : ArrayState
  pub is : ArrayState
  pub starts : StartsFrom step was x.session
  pub ends : EndsIn step answer is y.session
  pub later : IsLater x.told y.told
  -- on any rack
  pub goes_on : MemberGoesOn step x.told y.told was.member is.member
  pub rebuild : KeepsRebuild step answer was is
  pub draws_few : DrawsFew step was.member is.member x.told y.told
  pub events_are : events ≡ events_of step answer was.member.array is.member.array
  pub caused : IfErr answer (λ refusal. HasCause step refusal was is.member x.told y.told)
  pub allowed : IsAllowed step answer was
  pub array : ¬ Stops answer → IsArray is
  pub counted : HasCounted step answer x.told y.told
  pub remembers : Remembers step was is
  pub does : Does step was is.remembered answer (snapshot was.member x.told) (snapshot is.member y.told)
  -- on an honest rack
  pub left_out : IsTrue y.told.honest → AreAllLeftOut was.member is.member x.told y.told
  pub made : IsTrue y.told.honest → HasMade step answer was is.member x.told y.told
  pub repaired : IsTrue y.told.honest → HasRepaired step answer was.member x.told y.told
  pub looked : IsTrue y.told.honest → WasFitBefore step answer was.member x.told y.told

-- An array that was stopped answers the refusal by which it was, and makes no call.
pub record AnswersStopped (step : Step) (answer : Answer step) (events : List Event) (x y : Seen)
    : Type 0 where
  pub array : ArrayState
  pub is_open : x.session ≡ Opened array
  pub fault : FenceFault
  pub stopped : array.stopped ≡ Some fault
  pub answered : answer ≡ Err (refused fault)
  pub silent : events ≡ []
  pub same : y ≡ x

-- what a call of the array does: a step, or nothing where it was stopped
abbrev pub DoesStep : (step : Step) → Answer step → List Event → Seen → Seen → Type 0
DoesStep step answer events x y = Performs step answer events x y ⊎ AnswersStopped step answer events x y

-- What a step led to that an array with this member began, where media may come back or not. On an honest rack that is an
-- array in a state:
pub record LeadsStep (returning : Returning) (m : Membership) (step : Step) (answer : Answer step)
    (x y : Seen) : Type 0 where
  -- the step is one of the machine
  pub leads : IsTrue y.told.honest → (before : List Happening) (s : State)
      → IsHistory x.told.history
      → IsInState returning before s x
      → StaysWithinTolerance returning s.geometry (is_open x.session) before y.told.history
      → IsLed returning m before s step answer y
  -- what a crash at a moment of it leaves is what one within the step leaves
  pub cuts : IsTrue y.told.honest → (before : List Happening) (s : State)
      → IsHistory x.told.history
      → IsInState returning before s x → (c : List Happening)
      → IsMoment x.told.history c y.told.history
      → StaysWithinTolerance returning s.geometry (is_open x.session) before c
      → EachImage (IsLeftBy returning step m before c s) c
  -- and it is done where it can be
  pub complete : IsTrue y.told.honest → (before : List Happening) (s : State)
      → IsHistory x.told.history
      → IsInState returning before s x
      → StaysWithinTolerance returning s.geometry (is_open x.session) before y.told.history
      → StaysWithinToleranceUnread returning s.geometry (is_open x.session) before y.told.history
      → CanBeDone step s m x.told.history y.told.history → IsOk answer
