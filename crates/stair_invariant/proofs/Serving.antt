-- An open array that serves stripes, whether media come back or not, and by which laws it is led on. What its calls come to is proved
-- from these, and so once.
use Rattle.std.proofs.Common.{◌≡◌, ℕ, List, None, Some, Option, true, ◌∷◌, []}
use Rattle.std.specs.Prelude.{IsTrue, Result, ⊤}
use Rattle.stair_model.specs.CellSet.{HasCell}
use Rattle.stair_model.specs.Geometry.{Geometry}
use Rattle.stair_model.specs.Slots.{HasSlot, Slots}
use Rattle.stair_model.specs.Stripe.{Stripe, cell}
use Rattle.stair_rack.specs.Answers.{IsHistory, Ran, any_call}
use Rattle.stair_rack.specs.Crash.{CrashMayLeave}
use Rattle.stair_rack.specs.History.{Attach, Happening, Made, Read, Sectors, SlotCall, Sync, Write, stopped}
use Rattle.stair_rack.specs.Media.{Image}
use Rattle.stair_rack.specs.Moments.{IsMoment}
use Rattle.stair_rack.specs.Offline.{IsOfflineUntilAttached}
use Rattle.stair_rack.specs.Reading.{IsReadOf}
use Rattle.stair_rack.specs.Stretch.{NothingReturned}
use Rattle.stair_rack.specs.RackState.{RackState}
use Rattle.stair_rack.proofs.MomentLemmas.{moment_last, moment_sooner}
use Rattle.stair_rack.proofs.StretchLemmas.{each_before}
use Rattle.stair_super.specs.declared.configuration.Configuration.{Configuration}
use Rattle.stair_member.specs.Establishing.{Fences}
use Rattle.stair_member.specs.Membership.{IsHere, Membership}
use Rattle.stair_member.specs.declared.fault.FenceFault.{FenceFault}
use Rattle.stair_member.specs.declared.fault.FenceFault.TheVariants as fence
use Rattle.stair_member.specs.declared.why.Why.{Why}
use Rattle.stair_journal.specs.declared.redo.Redo.{Redo}
use Rattle.stair_state.specs.Blocks.{Codewords}
use Rattle.stair_state.specs.Redoing.{AtRest, IsRedoing, Redoing}
use Rattle.stair_state.specs.Represents.{HaveSeats}
use Rattle.stair_state.specs.State.{Change, Content, State, changed_if}
use Rattle.stair_state.specs.Tolerance.{IsTolerated, ToleratedSince}
use Rattle.stair_invariant.specs.Effects.{FencesGone, Snapshot, Redoes, snapshot}
use Rattle.stair_invariant.specs.InSession.{IsOfContent, state_with}
use Rattle.stair_invariant.specs.Leading.{IsBesideArray, led_to}
use Rattle.stair_invariant.specs.Returning.{AnyReturns, StaysWithinTolerance, Knows, NoneReturns, Returning, StandsFor, StandsForAlone}
use Rattle.stair_invariant.specs.SeatSteps.{EachMayDrop}
use Rattle.stair_invariant.specs.Session.{ArrayState, IsLiveIn, IsOpenWith, seats_in}
use Rattle.stair_invariant.specs.UnderWay.{IsOfRedo}

-- WITHIN TOLERANCE, up to here, in a session whose array is open

abbrev pub StaysWithinToleranceTo : Returning → Geometry → List Happening → List Happening → Type 0
StaysWithinToleranceTo returning g before h = StaysWithinTolerance returning g true before h

pub tolerated_since : (returning : Returning) (g : Geometry) (before h : List Happening) → StaysWithinToleranceTo returning g before h → ToleratedSince g before h
tolerated_since NoneReturns g before h calm = calm.0
tolerated_since AnyReturns g before h calm = calm

pub calm_sooner : (returning : Returning) (g : Geometry) (before h k : List Happening) → IsMoment before h k → StaysWithinToleranceTo returning g before k
    → StaysWithinToleranceTo returning g before h
calm_sooner NoneReturns g before h k at calm = (λ c c_at. calm.0 c (moment_sooner c_at at), each_before calm.1 at)
calm_sooner AnyReturns g before h k at calm = λ c c_at. calm c (moment_sooner c_at at)

pub tolerated_now : (returning : Returning) (g : Geometry) (before h : List Happening) → Ran any_call before h → StaysWithinToleranceTo returning g before h
    → IsTolerated g before h
tolerated_now returning g before h ran calm = tolerated_since returning g before h calm h (moment_last ran.more ran.is)

-- What is kept of a session goes on up to here: nothing came back and the rack isn't stopped, whatever has failed; or, where media come
-- back, what has failed is within tolerance.
abbrev pub IsGoing : Returning → Geometry → List Happening → List Happening → Type 0
IsGoing NoneReturns g before h = NothingReturned before h × ¬ IsTrue (stopped h)
IsGoing AnyReturns g before h = ToleratedSince g before h

-- AN ARRAY THAT SERVES

-- In a session that began at `before` it serves these stripes, of this content, and its member knows the media.
pub record IsServing (returning : Returning) (before : List Happening) (a : ArrayState) (words : Codewords) (kept : Content) (h : List Happening)
    : Type 0 where
  pub is_open : IsOpenWith before a words h
  pub history : IsHistory h
  pub of : IsOfContent a.member words kept
  pub knows : Knows returning (state_with a.member kept None a.member.array) a.member h

-- An image represents the state with the change in doubt, with seats that the array had, or of slots that were dropped.
pub record StandsIn (returning : Returning) (m : Membership) (kept : Content) (doubt : Option Change) (image : Image) : Type 0 where
  pub array : Configuration
  pub stands : StandsForAlone returning (state_with m kept doubt array) image
  pub dropped : EachMayDrop (seats_in m.array) (seats_in array)

-- so does a rack
pub record StandsAs (returning : Returning) (m : Membership) (kept : Content) (doubt : Option Change) (h : List Happening) : Type 0 where
  pub array : Configuration
  pub stands : StandsFor returning (state_with m kept doubt array) h
  pub dropped : EachMayDrop (seats_in m.array) (seats_in array)

-- it has the state's seats, where they are known
pub alone_seats : (returning : Returning) (s : State) (image : Image) → StandsForAlone returning s image → HaveSeats s.seats s.geometry (Made image ∷ [])
alone_seats NoneReturns s image is = is.seats
alone_seats AnyReturns s image is = is.is.seats

-- THE LAWS, of reads and of slots that are left out

-- reads, of whichever sectors
abbrev pub any_read : ℕ → SlotCall → Type 0
any_read = IsReadOf (λ j. ⊤) (λ k. ⊤)

-- they are beside all that an array has
pub read_beside : (a : ArrayState) (j : ℕ) (c : SlotCall) → any_read j c → IsBesideArray a j c
read_beside a j (Attach answer) may = absurd may
read_beside a j (Sectors size) may = absurd may
read_beside a j (Read k answer) may = record {
  session = record {
    epochs = record { behind = tt; attaches = λ here. tt; gate = λ below rebuilt bytes given same. absurd (cc) };
    spares = tt;
  };
  chunks = λ rebuild of same. (tt, λ t row bytes given done inside wrote. absurd (cc));
}
read_beside a j (Write k bytes answer) may = absurd may
read_beside a j (Sync answer) may = absurd may

pub record LeadsReads (returning : Returning) : Type 0 where
  -- what serves is an array in its state, as long as that is within tolerance,
  pub stands : (before : List Happening) (a : ArrayState) (words : Codewords) (kept : Content) (h : List Happening)
      → IsServing returning before a words kept h → StaysWithinToleranceTo returning a.member.array.geometry before h
      → StandsFor returning (state_with a.member kept None a.member.array) h
  -- and so is what a crash leaves of one.
  pub alone : (s : State) (h : List Happening) (image : Image) → IsHistory h → StandsFor returning s h → CrashMayLeave h image
      → StandsForAlone returning s image
  -- It serves after reads,
  pub reads : (before : List Happening) (a : ArrayState) (words : Codewords) (kept : Content) (old new : List Happening)
      → IsServing returning before a words kept old → Ran any_read old new → IsGoing returning a.member.array.geometry before new
      → IsServing returning before a words kept new
  -- and once slots are left out.
  pub left : (before : List Happening) (a : ArrayState) (words : Codewords) (kept : Content) (gone : Slots) (old : RackState) (y : Snapshot)
      → IsServing returning before a words kept old.history → FencesGone gone None (snapshot a.member old) y → IsTrue y.told.honest
      → ((j : ℕ) → HasSlot gone j → IsHere a.member j) → IsGoing returning a.member.array.geometry before y.told.history
      → IsServing returning before (led_to a y.member) words kept y.told.history
  -- At each moment at which an epoch is established without them an image represents the state; those that are live were offline.
  pub fencing : (before : List Happening) (a : ArrayState) (words : Codewords) (kept : Content) (gone : Slots) (last : Membership)
      (answer : Result Slots FenceFault) (old new : RackState) → IsServing returning before a words kept old.history
      → Fences gone a.member last answer old new → IsTrue new.honest → ((j : ℕ) → HasSlot gone j → IsHere a.member j)
      → ((j : ℕ) → HasSlot gone j → IsLiveIn a.member j → IsOfflineUntilAttached before old.history j) → (c : List Happening)
      → IsMoment old.history c new.history → StaysWithinToleranceTo returning a.member.array.geometry before c → (image : Image) → CrashMayLeave c image
      → StandsIn returning a.member kept None image
  -- So does the rack in the end, whether that is refused or not.
  pub fenced : (before : List Happening) (a : ArrayState) (words : Codewords) (kept : Content) (gone : Slots) (last : Membership)
      (answer : Result Slots FenceFault) (old new : RackState) → IsServing returning before a words kept old.history
      → Fences gone a.member last answer old new → IsTrue new.honest → ((j : ℕ) → HasSlot gone j → IsHere a.member j)
      → ((j : ℕ) → HasSlot gone j → IsLiveIn a.member j → IsOfflineUntilAttached before old.history j)
      → StaysWithinToleranceTo returning a.member.array.geometry before new.history → StandsAs returning a.member kept None new.history

-- OF A REDO

-- a redo of an array, from these stripes to those
abbrev pub redoing_of : ArrayState → Codewords → Codewords → Redo → Redoing
redoing_of a words new redo = record { geometry = a.member.array.geometry; redo = redo; old = words; new = new }

-- It leads from the stripes that the array serves to those of the content with the change made; of the stripe in memory its cells
-- matter alone.
pub record LeadsTo (a : ArrayState) (words new : Codewords) (kept : Content) (change : Option Change) (redo : Redo) (stripe : Stripe) : Type 0 where
  pub redoing : IsRedoing (redoing_of a words new redo)
  pub cells : (i c : ℕ) → HasCell redo.cells i c → cell stripe i c ≡ cell (new redo.stripe) i c
  pub becomes : IsOfRedo (redoing_of a words new redo) a.member kept change

pub record LeadsRedos (returning : Returning) : Type 0 where
  -- once it is done the array serves the new stripes
  pub done : (before : List Happening) (a : ArrayState) (words new : Codewords) (kept : Content) (change : Option Change) (redo : Redo)
      (stripe : Stripe) (old : RackState) (z : Snapshot) → IsServing returning before a words kept old.history → LeadsTo a words new kept change redo stripe
      → Redoes a.member.array.geometry redo stripe AtRest None (snapshot a.member old) z → IsTrue z.told.honest
      → IsGoing returning a.member.array.geometry before z.told.history
      → IsServing returning before (led_to a z.member) new (changed_if change kept) z.told.history
  -- at each moment of it, refused or not, an image represents the state with the change in doubt
  pub moments : (before : List Happening) (a : ArrayState) (words new : Codewords) (kept : Content) (change : Option Change) (redo : Redo)
      (stripe : Stripe) (refusal : Option FenceFault) (old : RackState) (z : Snapshot) → IsServing returning before a words kept old.history
      → LeadsTo a words new kept change redo stripe → Redoes a.member.array.geometry redo stripe AtRest refusal (snapshot a.member old) z
      → IsTrue z.told.honest → (c : List Happening) → IsMoment old.history c z.told.history
      → StaysWithinToleranceTo returning a.member.array.geometry before c → (image : Image) → CrashMayLeave c image → StandsIn returning a.member kept change image
  -- so does the rack where it is refused,
  pub refused : (before : List Happening) (a : ArrayState) (words new : Codewords) (kept : Content) (change : Option Change) (redo : Redo)
      (stripe : Stripe) (fault : FenceFault) (old : RackState) (z : Snapshot) → IsServing returning before a words kept old.history
      → LeadsTo a words new kept change redo stripe → Redoes a.member.array.geometry redo stripe AtRest (Some fault) (snapshot a.member old) z
      → IsTrue z.told.honest → StaysWithinToleranceTo returning a.member.array.geometry before z.told.history → StandsAs returning a.member kept change z.told.history
  -- which isn't for want of slots
  pub enough : (before : List Happening) (a : ArrayState) (words new : Codewords) (kept : Content) (change : Option Change) (redo : Redo)
      (stripe : Stripe) (whys : List Why) (old : RackState) (z : Snapshot) → IsServing returning before a words kept old.history
      → LeadsTo a words new kept change redo stripe
      → Redoes a.member.array.geometry redo stripe AtRest (Some (fence.TooFew whys)) (snapshot a.member old) z → IsTrue z.told.honest
      → StaysWithinToleranceTo returning a.member.array.geometry before z.told.history → ⊥
