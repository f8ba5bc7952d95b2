-- Which media an array leaves out, from an epoch that was acknowledged on, over the calls of its life.
use Rattle.std.specs.Prelude.{◌≡◌, ◌≤◌, ◌++◌, ◌⊎◌, ℕ, IsTrue, List, [], ◌∷◌, None, Ok, ⊤}
use Rattle.stair_model.specs.Geometry.{Geometry}
use Rattle.stair_model.specs.Slots.{HasSlot, Slots}
use Rattle.stair_rack.specs.Answers.{IsHistory, Ran}
use Rattle.stair_rack.specs.Crash.{CrashMayLeave, EachImage}
use Rattle.stair_rack.specs.History.{Happening, Read, SlotCall}
use Rattle.stair_rack.specs.Media.{Image, Medium}
use Rattle.stair_rack.specs.Moments.{IsMoment}
use Rattle.stair_rack.specs.Stretch.{NothingWritten}
use Rattle.stair_rack.specs.declared.watcher.Event.{Event}
use Rattle.stair_super.specs.Superblock.{Superblock, joined_in}
use Rattle.stair_member.specs.Aims.{IsAimed}
use Rattle.stair_member.specs.Current.{IsCurrent, IsLive}
use Rattle.stair_member.specs.Epochs.{Issued}
use Rattle.stair_member.specs.Membership.{IsHere, Membership, why_of}
use Rattle.stair_member.specs.Reserve.{Bears}
use Rattle.stair_member.specs.declared.aim.EpochChange.{EpochChange}
use Rattle.stair_member.specs.declared.why.Why.TheVariants.{Here}
use Rattle.stair_state.specs.Degraded.{AreDamagedCopies}
use Rattle.stair_state.specs.Reassembly.{IsBorne, IsMediumOf, IsReassembly, Location}
use Rattle.stair_state.specs.Represents.{no_write}
use Rattle.stair_state.specs.State.{State}
use Rattle.stair_state.specs.Tolerance.{IsToleratedAlone}
use Rattle.stair_invariant.specs.InSession.{IsBehindPlaces}
use Rattle.stair_invariant.specs.Returning.{AnyReturns, StaysWithinTolerance, KnowsMedia, current_media_of}
use Rattle.stair_invariant.specs.Session.{ArrayState, IsLiveIn}
use Rattle.stair_array.specs.Machine.{Answer, ReplaceSlot, SetFrozen, SetLabel, Step}
use Rattle.stair_array.specs.Promise.{Begun, DoesStep, Found, IsInState, Opened, Performs, Seen, Phase, is_open}
use Rattle.stair_reinsert.specs.Beginning.{BeginsWherever}
use Rattle.stair_reinsert.specs.Following.{Wherever, name_of}
use Rattle.stair_command.specs.Devices.{DeviceView, Devices, WorksAll, devices}
use Rattle.stair_command.specs.Headline.{RefinesProgram}
use Rattle.stair_command.specs.Outside.{Outside, Views}
use Rattle.stair_command.specs.Program.{Program}
use Rattle.stair_command.specs.Run.{history_of}
use Rattle.stair_command.specs.Sessions.{Calls, Cut, Ends, StaysWithinToleranceOver, Starts}
use Rattle.stair_command.specs.Trace.{TraceItem, AlongTrace, Stepped}

-- THE NEWEST EPOCH

-- However the media of the rack are put together, if that is within tolerance alone: what is current is the epoch of this
-- member, and a slot is live only if it is live to the member, with the medium that the member means.
pub record IsNewest (g : Geometry) (m : Membership) (h : List Happening) : Type 0 where
  pub current : (image to : Image) (current : Superblock) → CrashMayLeave h image
      → IsReassembly image to → IsToleratedAlone g to → IsCurrent g to current
      → current.array ≡ m.array
  pub live : (image to : Image) (current : Superblock) (j : ℕ) → CrashMayLeave h image
      → IsReassembly image to → IsToleratedAlone g to → IsCurrent g to current
      → (live : IsLive g to current j)
      → (why_of m j ≡ Here) × (live.super.joined ≡ joined_in m.array j)

-- The member means the medium of slot j that was admitted in this epoch: the slot takes part, with that medium.
pub record IsMeant (m : Membership) (j joined : ℕ) : Type 0 where
  pub here : IsHere m j
  pub number : joined ≡ joined_in m.array j

-- OVER CALLS

-- a medium was admitted to slot j
abbrev pub Admits : ℕ → TraceItem → Type 0
Admits j (Stepped (ReplaceSlot i) (Ok done) events left) = i ≡ j
Admits j item = ⊥

abbrev pub IsReplacedIn : ℕ → List TraceItem → Type 0
IsReplacedIn j [] = ⊥
IsReplacedIn j (item ∷ trace) = Admits j item ⊎ IsReplacedIn j trace

-- Each medium that the later member means the earlier one meant, unless one was admitted to the slot in between.
abbrev pub NoneIsAdded : Membership → Membership → List TraceItem → Type 0
NoneIsAdded m last trace_items = (j : ℕ) → IsHere last j
    → IsMeant m j (joined_in last.array j) ⊎ IsReplacedIn j trace_items

-- the session has its array open, with this member, and wasn't stopped
abbrev pub IsOpenBy : Phase → Membership → Type 0
IsOpenBy session m = (a : ArrayState) × (session ≡ Opened a) × (a.stopped ≡ None) × (a.member ≡ m)

-- the items of the trace up to here are these
abbrev pub ComesTo : {R W : Type 0} → (view : DeviceView R W) → (trace : List TraceItem)
    → (x y : Devices R W) → AlongTrace (WorksAll view) trace x y → List TraceItem → Devices R W → Type 0
ComesTo view trace x y works [] here = here ≡ x
ComesTo view [] x y works (one ∷ done) here = ⊥
ComesTo view (item ∷ trace) x y works (one ∷ done) here =
    (one ≡ item) × ComesTo view trace works.0 y works.2 done here

-- After these items the session had its array open, with this member, and from then on to c no superblock place was written: it
-- was cut while no epoch was being established.
pub record IsCutOpen {R W : Type 0} (view : DeviceView R W) (m : Membership) (trace : List TraceItem)
    (x y : Devices R W) (works : AlongTrace (WorksAll view) trace x y) (c : List Happening)
    (done : List TraceItem) : Type 0 where
  pub here : Devices R W
  pub comes : ComesTo view trace x y works done here
  pub opened : IsOpenBy here.session m
  pub behind : Ran IsBehindPlaces (history_of view here) c

-- Some of these calls ended with its array open, by the first member, or was cut so. From then on each call did too, the last of
-- them by the last member, or it wrote nothing. These are the items of those that wrote, since then.
abbrev pub StandsSince : {R W S K : Type 0} → (view : DeviceView R W) → (streams : Views S K)
    → (first : State) → Membership → (h : List Happening)
    → Calls view streams AnyReturns first h → Membership → List TraceItem → Type 0
StandsSince view streams first m h (Starts h' history stands) last trace_items = ⊥
StandsSince view streams first m h (Ends later program rest old new x y watchers left calls borne calm acted between) last trace_items =
    (IsOpenBy borne.session m × (last ≡ m) × (trace_items ≡ []))
    ⊎ (((before : Membership) × (earlier : List TraceItem)
    × StandsSince view streams first m (view.rack.history x) calls before earlier
    × IsOpenBy borne.session last × (trace_items ≡ earlier ++ borne.over.means.trace))
    ⊎ (NothingWritten (view.rack.history x) (view.rack.history y)
    × StandsSince view streams first m (view.rack.history x) calls last trace_items))
StandsSince view streams first m h (Cut c image later program rest old new x y watchers left calls borne at calm crash acted between) last trace_items =
    ((done : List TraceItem) × IsCutOpen view m borne.over.means.trace (devices x Begun watchers)
    (devices y borne.session left) borne.over.works c done × (last ≡ m) × (trace_items ≡ []))
    ⊎ (((before : Membership) × (earlier : List TraceItem) × (done : List TraceItem)
    × StandsSince view streams first m (view.rack.history x) calls before earlier
    × IsCutOpen view last borne.over.means.trace (devices x Begun watchers)
    (devices y borne.session left) borne.over.works c done × (trace_items ≡ earlier ++ done))
    ⊎ (NothingWritten (view.rack.history x) c
    × StandsSince view streams first m (view.rack.history x) calls last trace_items))

-- WHILE AN EPOCH IS ESTABLISHED

-- However media are put together at h, if that is within tolerance alone: a slot is live only if it is live to this member, with the
-- medium that the member means.
abbrev pub OnlyMeantAreLive : Geometry → Membership → List Happening → Type 0
OnlyMeantAreLive g m h = (image to : Image) (current : Superblock) (j : ℕ)
    → CrashMayLeave h image → IsReassembly image to → IsToleratedAlone g to
    → IsCurrent g to current → (live : IsLive g to current j)
    → (why_of m j ≡ Here) × (live.super.joined ≡ joined_in m.array j)

-- and what is current names what the member does, or what an epoch names that is for this, where these slots were gone
abbrev pub IsOldOrBegun : Geometry → EpochChange → Slots → Membership → List Happening → Type 0
IsOldOrBegun g aim gone m h = (image to : Image) (current : Superblock) → CrashMayLeave h image
    → IsReassembly image to → IsToleratedAlone g to → IsCurrent g to current
    → (current.array ≡ m.array) ⊎ IsAimed aim (HasSlot gone) m current.array

-- MEDIA BY THEIR NAMES

-- The medium of slot j of this name is left out: it bears no superblock by which the member means it.
abbrev pub IsLeftOut : Geometry → Membership → List Happening → ℕ → Location → Type 0
IsLeftOut g m h j name = Wherever h j name (λ cell. (s : Superblock) → Bears g j cell s
    → ¬ IsMeant m j s.joined)

-- However media are put together at h, if that is within tolerance alone: where slot j gets the medium of this name it isn't
-- live.
abbrev pub IsNeverLive : Geometry → List Happening → ℕ → Location → Type 0
IsNeverLive g h j name = (image to : Image) (place : Location) (medium : Medium)
    (current : Superblock) → CrashMayLeave h image → IsReassembly image to
    → IsToleratedAlone g to → IsCurrent g to current → IsMediumOf (image j) place medium
    → name_of h j place ≡ name → AreDamagedCopies medium.cell ((to j).cell)
    → ¬ IsLive g to current j

-- READS

-- a read of a sector after the superblock places, as of a gate, a body or a chunk, is of one of these slots
abbrev pub ReadsBehind : (ℕ → Type 0) → ℕ → SlotCall → Type 0
ReadsBehind some j (Read k answer) = 2 ≤ k → some j
ReadsBehind some j call = ⊤

-- what the session has of the array, found or open, is this member
abbrev pub HasMember : Phase → Membership → Type 0
HasMember (Found found) m = found ≡ m
HasMember (Opened a) m = a.member ≡ m
HasMember _ m = ⊥

-- THE LAWS

-- On an honest rack a step reads sectors after the superblock places only of slots that were live to the session's member when it
-- began, and of the slot that it replaces.
abbrev pub OnlyLiveAreRead : Type 0
OnlyLiveAreRead = (step : Step) (answer : Answer step) (events : List Event) (x y : Seen)
    (m : Membership) → DoesStep step answer events x y → IsTrue y.told.honest
    → HasMember x.session m
    → Ran (ReadsBehind (λ j. IsLiveIn m j ⊎ (step ≡ ReplaceSlot j))) x.told.history y.told.history

-- Between two calls of a life: an epoch that was acknowledged, or one that came after it, is the newest, and a medium that it
-- left out isn't live until one is admitted to its slot.
abbrev pub NeverStale : (R W S K : Type 0) → Type 0
NeverStale R W S K = (view : DeviceView R W) (streams : Views S K) (first : State)
    (h : List Happening) (calls : Calls view streams AnyReturns first h) (m last : Membership)
    (trace_items : List TraceItem) → IsTrue view.rack.honest
    → StandsSince view streams first m h calls last trace_items
    → IsNewest first.geometry last h × NoneIsAdded m last trace_items

-- So it is in the next call, whole or cut later: at each moment between two of its items at which its array is open.
abbrev pub NeverStaleWithin : (R W S K : Type 0) → Type 0
NeverStaleWithin R W S K = (view : DeviceView R W) (streams : Views S K) (first : State) (x : R)
    (calls : Calls view streams AnyReturns first (view.rack.history x)) (m last : Membership)
    (trace_items trace : List TraceItem) (watchers : List W) (y : Devices R W)
    (works : AlongTrace (WorksAll view) trace (devices x Begun watchers) y) → IsTrue view.rack.honest
    → StandsSince view streams first m (view.rack.history x) calls last trace_items
    → StaysWithinToleranceOver view AnyReturns first.geometry (history_of view y) trace
    (devices x Begun watchers) y works → (now : Membership) → IsOpenBy y.session now
    → IsNewest first.geometry now (history_of view y) × NoneIsAdded m now (trace_items ++ trace)

-- Before its array is open, it is found by the newest epoch.
abbrev pub NewestIsFound : (R W S K : Type 0) → Type 0
NewestIsFound R W S K = (view : DeviceView R W) (streams : Views S K) (first : State) (x : R)
    (calls : Calls view streams AnyReturns first (view.rack.history x)) (m last : Membership)
    (trace_items trace : List TraceItem) (watchers : List W) (y : Devices R W)
    (works : AlongTrace (WorksAll view) trace (devices x Begun watchers) y) → IsTrue view.rack.honest
    → StandsSince view streams first m (view.rack.history x) calls last trace_items
    → StaysWithinToleranceOver view AnyReturns first.geometry (history_of view y) trace
    (devices x Begun watchers) y works → (found : Membership) → y.session ≡ Found found
    → found.array ≡ last.array

-- By names: while the rack is only looked at, whatever the outside does, a medium that the newest epoch leaves out isn't live.
abbrev pub LeftOutStays : Type 0
LeftOutStays = (g : Geometry) (m : Membership) (old new : List Happening) (j : ℕ)
    (name : Location) → IsHistory old → IsNewest g m old → Ran no_write old new → IsLeftOut g m old j name
    → IsNeverLive g new j name

-- Between two calls of a life, in terms of media: the medium of this name bears no superblock by which the acknowledged epoch
-- means it, and no medium was admitted to its slot since. Then it isn't live, nor is it while the rack is only looked at, in
-- whichever way media are pulled and reinserted.
abbrev pub MediaStayOut : (R W S K : Type 0) → Type 0
MediaStayOut R W S K = (view : DeviceView R W) (streams : Views S K) (first : State)
    (h later : List Happening) (calls : Calls view streams AnyReturns first h)
    (m last : Membership) (trace_items : List TraceItem) (j : ℕ) (name : Location)
    → IsTrue view.rack.honest → StandsSince view streams first m h calls last trace_items
    → ¬ IsReplacedIn j trace_items → IsLeftOut first.geometry m h j name → Ran no_write h later
    → IsNeverLive first.geometry later j name

-- So it is in the next call, whole or cut later: at each moment between two of its items at which its array is open.
abbrev pub MediaStayOutWithin : (R W S K : Type 0) → Type 0
MediaStayOutWithin R W S K = (view : DeviceView R W) (streams : Views S K) (first : State) (x : R)
    (calls : Calls view streams AnyReturns first (view.rack.history x)) (m last : Membership)
    (trace_items trace : List TraceItem) (watchers : List W) (y : Devices R W)
    (works : AlongTrace (WorksAll view) trace (devices x Begun watchers) y) → IsTrue view.rack.honest
    → StandsSince view streams first m (view.rack.history x) calls last trace_items
    → StaysWithinToleranceOver view AnyReturns first.geometry (history_of view y) trace
    (devices x Begun watchers) y works → (now : Membership) → IsOpenBy y.session now → (j : ℕ)
    (name : Location) → ¬ IsReplacedIn j (trace_items ++ trace)
    → IsLeftOut first.geometry m (history_of view y) j name
    → IsNeverLive first.geometry (history_of view y) j name

-- At each moment of a call that establishes an epoch, done, refused or cut, whatever is reinserted meanwhile: a medium that the
-- epoch before left out isn't live. What is current is that epoch or one that the call writes. A medium that only the new epoch
-- leaves out may be live where the old one is current, and isn't where the new one is.
abbrev pub NeverLiveWhileBegun : Type 0
NeverLiveWhileBegun = (s : State) (aim : EpochChange) (gone : Slots) (m start last : Membership)
    (old c new : List Happening) → m.array.geometry ≡ s.geometry → KnowsMedia s m old
    → start.array ≡ m.array → BeginsWherever s (current_media_of m) m.array.epoch aim start old
    → Issued aim gone start last old new → IsMoment old c new
    → OnlyMeantAreLive s.geometry m c × IsOldOrBegun s.geometry aim gone start c

abbrev pub IsStamp : Step → Type 0
IsStamp (SetFrozen frozen) = ⊤
IsStamp (SetLabel label) = ⊤
IsStamp _ = ⊥

-- So it is at each moment of a step that sets the frozen mark or the label, done, refused or cut: a medium that the session's array left
-- out isn't live.
abbrev pub NeverLiveInStamps : Type 0
NeverLiveInStamps = (step : Step) (answer : Answer step) (events : List Event) (x y : Seen)
    → IsStamp step → (p : Performs step answer events x y) → IsTrue y.told.honest
    → IsHistory x.told.history → (before : List Happening) (s : State)
    → IsInState AnyReturns before s x → (c : List Happening)
    → IsMoment x.told.history c y.told.history
    → StaysWithinTolerance AnyReturns s.geometry (is_open x.session) before c
    → OnlyMeantAreLive s.geometry p.was.member c

-- an epoch names one configuration, on whichever media it is, and no two media of a slot were admitted in one epoch
pub record NamesOnce (g : Geometry) (image : Image) : Type 0 where
  pub one_list : (i j : ℕ) (p q : Location) (a b : Superblock) → IsBorne g image i p a
      → IsBorne g image j q b → a.array.epoch ≡ b.array.epoch → a.array ≡ b.array
  pub own_joined : (j : ℕ) (p q : Location) (a b : Superblock) → IsBorne g image j p a
      → IsBorne g image j q b → a.joined ≡ b.joined → p ≡ q

-- So it is at every moment of a life, between two calls
abbrev pub AllNameOnce : (R W S K : Type 0) → Type 0
AllNameOnce R W S K = (view : DeviceView R W) (streams : Views S K) (first : State)
    (h : List Happening) → Calls view streams AnyReturns first h → IsTrue view.rack.honest
    → EachImage (NamesOnce first.geometry) h

-- and in one, up to which what is asked of the outside was kept.
abbrev pub AllNameOnceWithin : (R W S K : Type 0) → Type 0
AllNameOnceWithin R W S K = (view : DeviceView R W) (streams : Views S K) (first : State)
    (program rest : Program) (old new : Outside S K) (x y : R) (watchers left : List W)
    (c : List Happening) → Calls view streams AnyReturns first (view.rack.history x)
    → (borne : RefinesProgram view streams program rest old new x y watchers left)
    → IsTrue view.rack.honest → IsMoment (view.rack.history x) c (view.rack.history y)
    → StaysWithinToleranceOver view AnyReturns first.geometry c borne.over.means.trace
    (devices x Begun watchers) (devices y borne.session left) borne.over.works
    → EachImage (NamesOnce first.geometry) c
