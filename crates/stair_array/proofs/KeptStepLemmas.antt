-- A step that leaves what the array holds as it was, whether media come back or not: what it comes to, and that it is one of the machine, and
-- what a crash leaves in the midst of it what one within the step leaves.
use Rattle.std.proofs.Common.{◌≡◌, List, inr, refl, sym, ◌∙◌, subst, None, Some, Option}
use Rattle.std.specs.Prelude.{Result, Ok, Err}
use Rattle.stair_rack.specs.Answers.{IsHistory}
use Rattle.stair_rack.specs.Crash.{EachImage}
use Rattle.stair_rack.specs.History.{Happening}
use Rattle.stair_rack.specs.Moments.{AtEveryMoment, IsMoment}
use Rattle.stair_rack.proofs.MomentLemmas.{at_moment}
use Rattle.stair_rack.specs.declared.watcher.Event.{Event}
use Rattle.stair_super.specs.declared.configuration.Configuration.{Configuration}
use Rattle.stair_member.specs.Membership.{Membership}
use Rattle.stair_member.specs.Seats.{Seats}
use Rattle.stair_member.specs.declared.fault.FenceFault.{FenceFault}
use Rattle.stair_state.specs.Blocks.{Codewords}
use Rattle.stair_state.specs.State.{Content, State}
use Rattle.stair_invariant.specs.Effects.{Snapshot, snapshot}
use Rattle.stair_invariant.specs.InSession.{state_with}
use Rattle.stair_invariant.specs.Leading.{led_to}
use Rattle.stair_invariant.specs.Opening.{StaysArray}
use Rattle.stair_invariant.specs.Rebuilding.{Rebuild}
use Rattle.stair_invariant.specs.Returning.{StaysWithinTolerance, Returning, StandsFor}
use Rattle.stair_invariant.specs.SeatSteps.{EachMayDrop}
use Rattle.stair_invariant.specs.Session.{ArrayState, IsRememberedIn, seats_in}
use Rattle.stair_invariant.proofs.Serving.{StaysWithinToleranceTo, IsServing, LeadsReads, StandsAs}
use Rattle.stair_array.specs.Calls.{refused}
use Rattle.stair_array.specs.Machine.{Answer, AreKnown, GivenBy, Gone, HoldsAfter, IsAsItWas, IsFinal, MayBegin, PassesTests, Recover, Refusal, Row, SeatsAfter, Step, WasBegun}
use Rattle.stair_array.specs.Promise.{BeginsWith, IsInState, IsLed, IsLeftBy, IsOpenFor, Keeps, KeepsProgress, KeepsRebuild, Performs, Seen, is_open}
use Rattle.stair_array.proofs.LeftServingLemmas.{StandsAt}
use Rattle.stair_array.proofs.LoadingLemmas.{ServesOn}
use Rattle.stair_array.proofs.OpenStepLemmas.{forgetting, goes_on_as, kept_fault, open_first, serves_as, serves_bare, stops_as, calm_first}

-- WHAT IT COMES TO

-- The array serves on, and this is given; or it serves on and is refused what isn't an epoch; or an epoch was refused, and the rack
-- represents the array.
pub data Outcome (returning : Returning) (before : List Happening) (rebuild : Option Rebuild) (stopped : Option FenceFault) (words : Codewords)
    (kept : Content) (x : Snapshot)
    (T Inside : Type 0) (Right : T → Type 0) : Result T Refusal → Snapshot → Type 0 where
  Gives : (given : T) (y : Snapshot) → ServesOn returning before rebuild stopped words kept x y → StaysArray x.member y.member → Inside → Right given
      → Outcome returning before rebuild stopped words kept x T Inside Right (Ok given) y
  Lacks : (refusal : Refusal) (y : Snapshot) → ServesOn returning before rebuild stopped words kept x y → StaysArray x.member y.member → ¬ IsFinal refusal
      → Outcome returning before rebuild stopped words kept x T Inside Right (Err refusal) y
  Stops : (fault : FenceFault) (y : Snapshot) → Inside → StandsAs returning x.member kept None y.told.history
      → Outcome returning before rebuild stopped words kept x T Inside Right (Err (refused fault)) y

-- THE STEP

-- Of such a step it is asked that what the array holds is as it was, and that slots are dropped at most.
pub record IsKeeping (step : Step) : Type 0 where
  pub no_opening : ¬ (step ≡ Recover)
  pub begins : (returning : Returning) (m : Membership) (before h : List Happening) (s : State) (seats : Seats) → s.seats ≡ Some seats
      → BeginsWith returning step m before h s seats
  pub may_begin : (s : State) → s.in_doubt ≡ None → MayBegin step s
  pub refuses : (refusal : Refusal) (old new : State) → IsAsItWas old new → HoldsAfter step (Err refusal) old new
  pub knows : (answer : Answer step) (known : Option Seats) (seats : Seats) → known ≡ Some seats → AreKnown step answer known seats
  pub drops : (answer : Answer step) (old new : Seats) → EachMayDrop old new → SeatsAfter step answer old new
  pub rebuilds : (answer : Answer step) (was is : ArrayState) → KeepsRebuild step answer was is → KeepsProgress was is

module _ (returning : Returning) (laws : LeadsReads returning) (step : Step) (keeping : IsKeeping step) (answer : Answer step) (events : List Event)
    (x y : Seen) (p : Performs step answer events x y)
    (before : List Happening) (s : State) (history : IsHistory x.told.history) (state : IsInState returning before s x) where
  abbrev pub begins : IsOpenFor returning before s p.was x.told.history
  begins = open_first returning laws step keeping.no_opening answer events x y p before s state

  pub serves : IsServing returning before (forgetting p.was) begins.words s.content x.told.history
  serves = serves_bare returning laws step keeping.no_opening answer events x y p before s state history

  pub calm_begun : (h : List Happening) → StaysWithinTolerance returning s.geometry (is_open x.session) before h
      → StaysWithinToleranceTo returning p.was.member.array.geometry before h
  calm_begun = calm_first returning laws step keeping.no_opening answer events x y p before s state

  as_it_was : (now : State) → now.content ≡ s.content → now.in_doubt ≡ None → IsAsItWas s now
  as_it_was now content certain = record { content = content; in_doubt = certain ∙ sym begins.certain }

  -- from the seats that the array has to those that it is left with
  row : (given : Answer step) (now : State) (array : Configuration) → now.geometry ≡ s.geometry
      → (WasBegun step given → PassesTests step s (seats_in p.was.member.array)) → HoldsAfter step given s now → now.seats ≡ Some (seats_in array)
      → EachMayDrop (seats_in p.was.member.array) (seats_in array) → Row step given (seats_in p.was.member.array) s now
  row given now array geometry passes holds known dropped = record {
    geometry = geometry;
    begins = keeping.may_begin s begins.certain;
    passes = passes;
    holds = holds;
    seats = seats_in array;
    known = keeping.knows given now.seats (seats_in array) known;
    marks = keeping.drops given (seats_in p.was.member.array) (seats_in array) dropped;
  }

  -- WHERE IT LEADS

  module _ (Inside : Type 0) (Right : GivenBy step → Type 0) (passes : Inside → PassesTests step s (seats_in p.was.member.array))
      (holds : (given : GivenBy step) (now : State) → Right given → IsAsItWas s now → HoldsAfter step (Ok given) s now) where
    -- the array serves on
    went : (given : Answer step) (v : Snapshot) → v ≡ snapshot p.is.member y.told → given ≡ answer
        → ServesOn returning before p.was.rebuild p.was.stopped begins.words s.content (snapshot p.was.member x.told) v → StaysArray p.was.member v.member
        → (WasBegun step given → PassesTests step s (seats_in p.was.member.array)) → ((now : State) → IsAsItWas s now → HoldsAfter step given s now)
        → IsRememberedIn begins.words p.is.remembered → StaysWithinToleranceTo returning p.was.member.array.geometry before y.told.history → IsLed returning p.was.member before s step answer y
    went given v at is_answer serves_on stays passes_so holds_so known calm =
        let last : Membership = p.is.member in
        let now : State = state_with last s.content None last.array in
        let stays_y : StaysArray p.was.member last = subst (λ (u : Snapshot). StaysArray p.was.member u.member) at stays in
        record {
          state = now;
          is_step = record {
            begun = seats_in p.was.member.array;
            begins = keeping.begins returning p.was.member before y.told.history s (seats_in p.was.member.array) begins.seats;
            row =
                subst (λ (r : Answer step). Row step r (seats_in p.was.member.array) s now) is_answer
                (row given now last.array (stays_y.geometry ∙ begins.geometry) passes_so (holds_so now (as_it_was now refl refl)) refl stays_y.seats);
          };
          is_in =
              serves_as returning laws step keeping.no_opening answer events x y p before s state begins.words s.content stays_y
              (subst (λ (u : Snapshot). IsServing returning before (led_to p.was u.member) begins.words s.content u.told.history) at serves_on)
              (keeping.rebuilds answer p.was p.is p.rebuild) known calm;
        }

    pub led : (given : Answer step) (v : Snapshot) → v ≡ snapshot p.is.member y.told → given ≡ answer
        → Outcome returning before p.was.rebuild p.was.stopped begins.words s.content (snapshot p.was.member x.told) (GivenBy step) Inside Right given v
        → IsRememberedIn begins.words p.is.remembered → StaysWithinToleranceTo returning p.was.member.array.geometry before y.told.history → IsLed returning p.was.member before s step answer y
    led _ _ at is_answer (Gives given v serves_on stays inside right) known calm =
        went (Ok given) v at is_answer serves_on stays (λ begun. passes inside) (λ now was. holds given now right was) known calm
    led _ _ at is_answer (Lacks refusal v serves_on stays not_final) known calm =
        went (Err refusal) v at is_answer serves_on stays (λ begun. absurd (not_final begun)) (λ now was. keeping.refuses refusal s now was) known calm
    led _ _ at is_answer (Stops fault v inside is) known calm =
        let now : State = state_with p.was.member s.content None is.array in
        record {
          state = now;
          is_step = record {
            begun = seats_in p.was.member.array;
            begins = keeping.begins returning p.was.member before y.told.history s (seats_in p.was.member.array) begins.seats;
            row =
                subst (λ (r : Answer step). Row step r (seats_in p.was.member.array) s now) is_answer
                (row (Err (refused fault)) now is.array begins.geometry (λ begun. passes inside)
                (keeping.refuses (refused fault) s now (as_it_was now refl refl)) refl is.dropped);
          };
          is_in =
              stops_as returning laws step keeping.no_opening answer events x y p before s state now
              (subst (λ (u : Snapshot). StandsFor returning now u.told.history) at is.stands)
              (kept_fault (GivenBy step) fault p.is.stopped
              (subst (λ (r : Answer step). Keeps r p.is.stopped) (sym is_answer)
              (goes_on_as returning laws step keeping.no_opening answer events x y p before s state).1));
        }

  -- WHAT A CRASH LEAVES

  pub cuts : AtEveryMoment (StandsAt returning before p.was.member s.content) x.told.history
      y.told.history → (c : List Happening) → IsMoment x.told.history c y.told.history
      → StaysWithinTolerance returning s.geometry (is_open x.session) before c → EachImage (IsLeftBy returning step p.was.member before c s) c
  cuts every c at calm image left =
      let is =
      at_moment {P = StandsAt returning before p.was.member s.content} every at (calm_begun c calm)
      image left in
      let now : State = state_with p.was.member s.content None is.array in
      record {
        state = now;
        cut = record {
          begun = seats_in p.was.member.array;
          begins = keeping.begins returning p.was.member before c s (seats_in p.was.member.array) begins.seats;
          within = inr (
            Err (Gone 0),
            row (Err (Gone 0)) now is.array begins.geometry (λ final. absurd final) (keeping.refuses (Gone 0) s now (as_it_was now refl refl)) refl
                is.dropped,
          );
        };
        stands = is.stands;
      }
