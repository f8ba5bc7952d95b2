-- Traces of an open array whose steps were all done: the array goes on, and a slot becomes live by a promotion alone.
use Rattle.std.proofs.Common.{◌≡◌, ◌≢◌, ◌∙◌, ◌⊎◌, ℕ, List, [], ◌∷◌, ◌++◌, Option, None, Some, Ok, Err, inl, inr, refl, sym, ap, subst, append_assoc}
use Rattle.std.specs.Prelude.{Bool, ⊤}
use Rattle.std.proofs.lemmas.Bool.{cases_eq}
use Rattle.stair_rack.specs.History.{Happening}
use Rattle.stair_rack.specs.declared.watcher.Event.{Event}
use Rattle.stair_super.specs.declared.mark.Mark.{Mark}
use Rattle.stair_super.specs.declared.mark.Mark.TheVariants.{Down, Live, Rebuilding}
use Rattle.stair_member.specs.Membership.{Membership}
use Rattle.stair_member.specs.Seats.{Seat, Seats}
use Rattle.stair_member.specs.declared.fault.FenceFault.{FenceFault}
use Rattle.stair_invariant.specs.Returning.{Returning}
use Rattle.stair_invariant.specs.SeatSteps.{MayDrop, SeatGoes}
use Rattle.stair_invariant.specs.Session.{ArrayState, IsArray}
use Rattle.stair_state.specs.State.{State}
use Rattle.stair_array.specs.Machine.{AreKnown, Answer, Chunk, Dropped, LookAtSeats, Nothing, Promoted, RebuildNext, Recover, Refusal, ReplaceSlot, SeatsAfter, Step}
use Rattle.stair_array.specs.Promise.{BeginsWith, Ends, GoesOn, Keeps, Opened, Stops}
use Rattle.stair_command.specs.Devices.{DeviceView, Devices, WorksAll}
use Rattle.stair_command.specs.Run.{Goes, IsUpTo, Now, Runs}
use Rattle.stair_command.specs.Sound.{HasItem, IsPromotionOf}
use Rattle.stair_command.specs.Trace.{TraceItem, Found, Took, TookLast, TakeFailed, HasPut, PutFailed, Grew, RanOut, Did, Stepped, AlongTrace}
use Rattle.stair_command.proofs.KeptLaws.{same_session}
use Rattle.stair_command.proofs.RunLaws.{upto_same}

-- ---- items

-- a step other than the opening, which was done, or an item that is no step
abbrev pub IsDoneItem : TraceItem → Type 0
IsDoneItem (Stepped Recover answer events left) = ⊥
IsDoneItem (Stepped step (Ok given) events left) = ⊤
IsDoneItem (Stepped step (Err refusal) events left) = ⊥
IsDoneItem (Did action outcome) = ⊥
IsDoneItem _ = ⊤

abbrev pub AreDone : List TraceItem → Type 0
AreDone [] = ⊤
AreDone (item ∷ trace) = IsDoneItem item × AreDone trace

pub done_join : (a b : List TraceItem) → AreDone a → AreDone b → AreDone (a ++ b)
done_join [] b first second = second
done_join (item ∷ a) b first second = (first.0, done_join a b first.1 second)

pub has_later : (IsSo : TraceItem → Type 0) (a b : List TraceItem) → HasItem IsSo b → HasItem IsSo (a ++ b)
has_later IsSo [] b has = has
has_later IsSo (item ∷ a) b has = inr (has_later IsSo a b has)

module _ (events : List Event) (left : Bool) where
  not_opening : (step : Step) (answer : Answer step) → IsDoneItem (Stepped step answer events left) → step ≡ Recover → ⊥
  not_opening Recover answer done is = done
  not_opening _ answer done is = let same = is in cc

  never_again : (step : Step) (answer : Answer step) (refusal : Refusal) → IsDoneItem (Stepped step answer events left) → answer ≡ Err refusal → ⊥
  never_again step answer refusal done is = by step (subst (λ (a : Answer step). IsDoneItem (Stepped step a events left)) is done)
    where
      by : (step : Step) → IsDoneItem (Stepped step (Err refusal) events left) → ⊥
      by Recover done = done
      by _ done = done

  keeps_none : (step : Step) (answer : Answer step) (kept : Option FenceFault) → IsDoneItem (Stepped step answer events left) → Keeps answer kept
      → kept ≡ None
  keeps_none Recover answer kept done keeps = absurd done
  keeps_none step (Ok given) kept done keeps = keeps
  keeps_none step (Err refusal) kept done keeps = absurd (never_again step (Err refusal) refusal done refl)

  never_stops : (step : Step) (answer : Answer step) → IsDoneItem (Stepped step answer events left) → ¬ Stops answer
  never_stops Recover answer done stops = done
  never_stops step (Ok given) done stops = stops
  never_stops step (Err refusal) done stops = never_again step (Err refusal) refusal done refl

-- ---- the session

-- the session has an array that wasn't stopped
pub record GoesOnOpen {R W : Type 0} (y : Devices R W) : Type 0 where
  pub last : ArrayState
  pub opened : y.session ≡ Opened last
  pub unstopped : last.stopped ≡ None
  pub array : IsArray last

module _ {R W : Type 0} (view : DeviceView R W) where
  one_open : (item : TraceItem) (x y : Devices R W) → WorksAll view item x y → IsDoneItem item → GoesOnOpen x → GoesOnOpen y
  one_open (Stepped step answer events left) x y works done was =
      elim works.0 [
        | inl does ↦
            elim does.ends [
              | Ends is err closed ↦ absurd (not_opening events left step answer done is)
              | GoesOn ok keeps opened ↦
                  record {
                    last = does.is;
                    opened = opened;
                    unstopped = keeps_none events left step answer does.is.stopped done keeps;
                    array = does.array (never_stops events left step answer done);
                  }
            ]
        | inr again ↦ absurd (never_again events left step answer _ done again.answered)
      ]
  one_open (Did action outcome) x y works done was = absurd done
  one_open item x y works done was = record { last = was.last; opened = same_session view works ∙ was.opened; unstopped = was.unstopped; array = was.array }

  pub stays_open : (trace : List TraceItem) (x y : Devices R W) → AlongTrace (WorksAll view) trace x y → AreDone trace → GoesOnOpen x → GoesOnOpen y
  stays_open [] x y works done was =
      record { last = was.last; opened = same_session view works ∙ was.opened; unstopped = was.unstopped; array = was.array }
  stays_open (item ∷ trace) x y works done was = stays_open trace works.0 y works.2 done.1 (one_open item x works.0 works.1 done.0 was)

-- ---- seats

-- a slot that may be dropped at most doesn't become live
pub drop_dead : (old new : Seat) → MayDrop old new → old.mark ≢ Live → new.mark ≢ Live
drop_dead old new (inl same) dead live = dead (sym (ap (λ (s : Seat). s.mark) same) ∙ live)
drop_dead old new (inr fell) dead live = let never : Down ≡ Live = sym (ap (λ (s : Seat). s.mark) fell.1) ∙ live in cc

goes_dead : (slot j : ℕ) (from to : Mark) (old new : Seats) → SeatGoes slot from to old new → to ≢ Live → (old j).mark ≢ Live → (new j).mark ≢ Live
goes_dead slot j from to old new goes other dead =
    elim (cases_eq j slot) [
      | inl same ↦ (λ live. other (sym goes.is ∙ subst (λ (k : ℕ). (new k).mark ≡ Live) same live))
      | inr beside ↦ drop_dead (old j) (new j) (goes.others j beside) dead
    ]

module _ (events : List Event) (left : Bool) (j : ℕ) where
  abbrev IsPromotedOrDead : TraceItem → Seats → Type 0
  IsPromotedOrDead item seats = IsPromotionOf j item ⊎ ((seats j).mark ≢ Live)

  step_seats : (step : Step) (answer : Answer step) (old new : Seats) → IsDoneItem (Stepped step answer events left) → SeatsAfter step answer old new
      → (old j).mark ≢ Live → IsPromotedOrDead (Stepped step answer events left) new
  step_seats Recover answer old new done marks dead = absurd done
  step_seats RebuildNext (Ok Nothing) old new done marks dead = inr (drop_dead (old j) (new j) (marks.1 j) dead)
  step_seats RebuildNext (Ok (Chunk i t)) old new done marks dead = inr (goes_dead i j Rebuilding Rebuilding old new marks (λ is. cc) dead)
  step_seats RebuildNext (Ok (Dropped i)) old new done marks dead = inr (goes_dead i j Rebuilding Down old new marks (λ is. cc) dead)
  step_seats RebuildNext (Ok (Promoted i)) old new done marks dead =
      elim (cases_eq i j) [
        | inl same ↦ inl same
        | inr other ↦ inr (drop_dead (old j) (new j) (marks.others j (λ is. other (sym is))) dead)
      ]
  step_seats (ReplaceSlot i) (Ok given) old new done marks dead = inr (goes_dead i j Down Rebuilding old new marks (λ is. cc) dead)
  step_seats LookAtSeats (Ok seats) old new done marks dead = inr (subst (λ (s : Seats). (s j).mark ≢ Live) (sym marks.1) dead)
  step_seats step (Err refusal) old new done marks dead = absurd (never_again events left step (Err refusal) refusal done refl)
  step_seats _ (Ok given) old new done marks dead = inr (drop_dead (old j) (new j) (marks j) dead)

begins_known : (returning : Returning) (step : Step) (m : Membership) (before h : List Happening) (s : State) (begun : Seats) → (step ≡ Recover → ⊥)
    → BeginsWith returning step m before h s begun → s.seats ≡ Some begun
begins_known returning Recover m before h s begun other begins = absurd (other refl)
begins_known returning _ m before h s begun other begins = begins

known_then : (events : List Event) (left : Bool) (step : Step) (answer : Answer step) (known : Option Seats) (seats : Seats)
    → IsDoneItem (Stepped step answer events left) → AreKnown step answer known seats → known ≡ Some seats
known_then events left Recover answer known seats done are = absurd done
known_then events left _ answer known seats done are = are

some_once : (a b : Seats) (known : Option Seats) → known ≡ Some a → known ≡ Some b → a ≡ b
some_once a b known is also = let both : Some a ≡ Some b = sym is ∙ also in let same : a ≡ b = cc in same

module _ (returning : Returning) (before : List Happening) (j : ℕ) where
  -- the seats after an item, and that the slot is promoted by it or isn't live still
  pub record SeatsThen (item : TraceItem) (new : Now) : Type 0 where
    pub seats : Seats
    pub known : new.state.seats ≡ Some seats
    pub so : IsPromotionOf j item ⊎ ((seats j).mark ≢ Live)

  same_seats : (item : TraceItem) (old new : Now) (a : Seats) → new ≡ old → old.state.seats ≡ Some a → (a j).mark ≢ Live → SeatsThen item new
  same_seats item old new a same known dead = record { seats = a; known = ap (λ (n : Now). n.state.seats) same ∙ known; so = inr dead }

  one_seats : (item : TraceItem) (old new : Now) (a : Seats) → IsDoneItem item → Goes returning before item old new → old.state.seats ≡ Some a → (a j).mark ≢ Live
      → SeatsThen item new
  one_seats (Stepped step answer events left) old new a done (inl taken) known dead =
      let row = taken.is_step.row in
      let begun = begins_known returning step taken.member before new.history old.state taken.is_step.begun (not_opening events left step answer done) taken.is_step.begins in
      let first : a ≡ taken.is_step.begun = some_once a taken.is_step.begun old.state.seats known begun in
      record {
        seats = row.seats;
        known = known_then events left step answer new.state.seats row.seats done row.known;
        so = step_seats events left j step answer taken.is_step.begun row.seats done row.marks (subst (λ (s : Seats). (s j).mark ≢ Live) first dead);
      }
  one_seats (Stepped step answer events left) old new a done (inr again) known dead = absurd (never_again events left step answer again.refusal done again.answered)
  one_seats (Did action outcome) old new a done goes known dead = absurd done
  one_seats (Found question) old new a done goes known dead = same_seats (Found question) old new a goes known dead
  one_seats (Took bytes) old new a done goes known dead = same_seats (Took bytes) old new a goes known dead
  one_seats (TookLast bytes) old new a done goes known dead = same_seats (TookLast bytes) old new a goes known dead
  one_seats (TakeFailed bytes) old new a done goes known dead = same_seats (TakeFailed bytes) old new a goes known dead
  one_seats (HasPut bytes) old new a done goes known dead = same_seats (HasPut bytes) old new a goes known dead
  one_seats (PutFailed bytes) old new a done goes known dead = same_seats (PutFailed bytes) old new a goes known dead
  one_seats Grew old new a done goes known dead = same_seats Grew old new a goes known dead
  one_seats RanOut old new a done goes known dead = same_seats RanOut old new a goes known dead

  -- a slot that is live at the end of such a run, and wasn't as it began, was promoted
  pub run_promoted : (trace : List TraceItem) (old new : Now) (a b : Seats) → AreDone trace → Runs returning before trace old new → old.state.seats ≡ Some a
      → new.state.seats ≡ Some b → (a j).mark ≢ Live → (b j).mark ≡ Live → HasItem (IsPromotionOf j) trace
  run_promoted [] old new a b done runs known ends dead live =
      let same : b ≡ a = some_once b a new.state.seats ends (ap (λ (n : Now). n.state.seats) runs ∙ known) in
      dead (subst (λ (s : Seats). (s j).mark ≡ Live) same live)
  run_promoted (item ∷ trace) old new a b done runs known ends dead live =
      let one = one_seats item old runs.0 a done.0 runs.1 known dead in
      elim one.so [
        | inl promoted ↦ inl promoted
        | inr still ↦ inr (run_promoted trace runs.0 new one.seats b done.1 runs.2 one.known ends still live)
      ]

-- ---- histories

upto_join : {a b c : List Happening} → IsUpTo a b → IsUpTo b c → IsUpTo a c
upto_join {a} {b} {c} first second = record {
  before = [];
  later = second.later ++ first.later;
  from = refl;
  to = second.to ∙ ap (λ (x : List Happening). second.later ++ x) first.to ∙ sym (append_assoc second.later first.later a);
}

upto_equal : (old new : Now) → new ≡ old → IsUpTo old.history new.history
upto_equal old new same = subst (λ (n : Now). IsUpTo old.history n.history) (sym same) (upto_same old.history)

one_upto : (returning : Returning) (before : List Happening) (item : TraceItem) (old new : Now) → Goes returning before item old new → IsUpTo old.history new.history
one_upto returning before (Stepped step answer events left) old new (inl taken) = taken.later
one_upto returning before (Stepped step answer events left) old new (inr again) = upto_equal old new again.same
one_upto returning before (Did action outcome) old new goes = goes.later
one_upto returning before (Found question) old new goes = upto_equal old new goes
one_upto returning before (Took bytes) old new goes = upto_equal old new goes
one_upto returning before (TookLast bytes) old new goes = upto_equal old new goes
one_upto returning before (TakeFailed bytes) old new goes = upto_equal old new goes
one_upto returning before (HasPut bytes) old new goes = upto_equal old new goes
one_upto returning before (PutFailed bytes) old new goes = upto_equal old new goes
one_upto returning before Grew old new goes = upto_equal old new goes
one_upto returning before RanOut old new goes = upto_equal old new goes

-- what has happened goes on over a run
pub runs_upto : (returning : Returning) (before : List Happening) (trace : List TraceItem) (old new : Now) → Runs returning before trace old new → IsUpTo old.history new.history
runs_upto returning before [] old new runs = upto_equal old new runs
runs_upto returning before (item ∷ trace) old new runs =
    upto_join (one_upto returning before item old runs.0 runs.1) (runs_upto returning before trace runs.0 new runs.2)
