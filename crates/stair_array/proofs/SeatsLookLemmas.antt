-- A look at the seats of an open array is what is promised of a step, on any rack, and one of the machine, whether media come back or not.
use Rattle.std.proofs.Common.{◌≡◌, inr, refl, sym, ap, ◌∙◌, subst, List, None, Option, Some, IsTrue}
use Rattle.std.specs.Prelude.{Err, IfErr, IsOk, Ok}
use Rattle.stair_rack.specs.Answers.{IsHistory, Ran, any_call}
use Rattle.stair_rack.specs.Crash.{EachImage}
use Rattle.stair_rack.specs.History.{Happening}
use Rattle.stair_rack.specs.Moments.{AtEveryMoment, IsMoment}
use Rattle.stair_rack.specs.RackState.{RackState}
use Rattle.stair_rack.specs.declared.watcher.Event.{Event}
use Rattle.stair_rack.proofs.MomentLemmas.{at_every_none, at_moment}
use Rattle.stair_rack.proofs.RackStateLemmas.{later_none}
use Rattle.stair_member.specs.Membership.{Membership}
use Rattle.stair_member.specs.Seats.{Seats}
use Rattle.stair_state.specs.State.{State}
use Rattle.stair_invariant.specs.Effects.{Snapshot, snapshot}
use Rattle.stair_invariant.specs.InSession.{state_with}
use Rattle.stair_invariant.specs.Leading.{led_to}
use Rattle.stair_invariant.specs.Rebuilding.{Rebuild}
use Rattle.stair_invariant.specs.Returning.{StaysWithinTolerance, Returning}
use Rattle.stair_invariant.specs.Session.{IsArray, IsRememberedIn, Remembered, seats_in}
use Rattle.stair_invariant.proofs.Serving.{StaysWithinToleranceTo, IsServing, LeadsReads}
use Rattle.stair_invariant.proofs.Mending.{calm_going}
use Rattle.stair_array.specs.Causes.{IsAllowed}
use Rattle.stair_array.specs.Events.{events_of}
use Rattle.stair_array.specs.Machine.{Answer, LookAtSeats, Recover, Row}
use Rattle.stair_array.specs.Promise.{EndsIn, IsInState, IsLed, IsLeftBy, IsOpenFor, KeepsProgress, LeadsStep, Opened, Performs, Seen, is_open, running}
use Rattle.stair_array.proofs.AnsweredLemmas.{never_answered}
use Rattle.stair_array.proofs.GoesOnLemmas.{draws_few, member_goes_on}
use Rattle.stair_array.proofs.LoadingLemmas.{same_serves}
use Rattle.stair_array.proofs.OpenStepLemmas.{forgetting, open_first, serves_bare, serves_over, calm_first}
use Rattle.stair_array.proofs.PartsLemmas.{IsPart, part_none}

-- ON ANY RACK

module _ (m : Membership) (rebuild : Option Rebuild) (known : Option Remembered) (x : RackState) (array : IsArray (running m rebuild known)) where
  none : IsPart 0 (snapshot m x) (snapshot m x)
  none = part_none (snapshot m x) array.member

  abbrev seen : Seen
  seen = record { told = x; session = Opened (running m rebuild known) }

  pub look_performs : Performs LookAtSeats (Ok (seats_in m.array)) (events_of LookAtSeats (Ok (seats_in m.array)) m.array m.array) seen seen
  look_performs = record {
    was = running m rebuild known;
    is = running m rebuild known;
    starts = (refl, refl);
    ends = EndsIn.GoesOn (λ never. absurd (cc)) refl refl;
    later = later_none x;
    goes_on = member_goes_on m m rebuild known None x x array none LookAtSeats;
    rebuild = KeepsProgress.Stays refl (λ r is. (array.rebuilds r is).0);
    draws_few = draws_few LookAtSeats (snapshot m x) (snapshot m x) none;
    events_are = refl;
    caused = tt;
    allowed = refl;
    array = λ going. array;
    counted = tt;
    remembers = refl;
    does = refl;
    left_out = λ honest j call here was gone. absurd (never_answered j call x.history was);
    made = λ honest. tt;
    repaired = λ honest. tt;
    looked = λ honest. tt;
  }

-- WHERE IT LEADS

no_opening : ¬ (LookAtSeats ≡ Recover)
no_opening same = cc

module _ (returning : Returning) (laws : LeadsReads returning) (answer : Answer LookAtSeats) (events : List Event) (x y : Seen)
    (p : Performs LookAtSeats answer events x y) (honest : IsTrue y.told.honest) (before : List Happening)
    (s : State) (history : IsHistory x.told.history) (state : IsInState returning before s x) where
  abbrev m : Membership
  m = p.was.member

  abbrev last : Membership
  last = p.is.member

  abbrev begins : IsOpenFor returning before s p.was x.told.history
  begins = open_first returning laws LookAtSeats no_opening answer events x y p before s state

  serves : IsServing returning before (forgetting p.was) begins.words s.content x.told.history
  serves = serves_bare returning laws LookAtSeats no_opening answer events x y p before s state history

  calm_begun : (h : List Happening) → StaysWithinTolerance returning s.geometry (is_open x.session) before h → StaysWithinToleranceTo returning m.array.geometry before h
  calm_begun = calm_first returning laws LookAtSeats no_opening answer events x y p before s state

  -- nothing was called, and nothing is changed
  same_member : last ≡ m
  same_member = ap (λ (u : Snapshot). u.member) p.does

  same_told : y.told ≡ x.told
  same_told = ap (λ (u : Snapshot). u.told) p.does

  -- the seats are answered
  answered : answer ≡ Ok (seats_in m.array)
  answered = by answer p.caused p.allowed
    where
      by : (given : Answer LookAtSeats) → IfErr given (λ refusal. ⊥) → IsAllowed LookAtSeats given p.was → given ≡ Ok (seats_in m.array)
      by (Ok seats) never same = ap (λ (found : Seats). Ok found) same
      by (Err refusal) never same = absurd never

  row : (now : State) → now.geometry ≡ m.array.geometry → now.content ≡ s.content → now.in_doubt ≡ None → now.seats ≡ Some (seats_in m.array)
      → Row LookAtSeats (Ok (seats_in m.array)) (seats_in m.array) s now
  row now geometry content certain seats = record {
    geometry = geometry ∙ begins.geometry;
    begins = begins.certain;
    passes = λ begun. tt;
    holds = record { content = content; in_doubt = certain };
    seats = seats_in m.array;
    known = seats;
    marks = (refl, refl);
  }

  leads : StaysWithinTolerance returning s.geometry (is_open x.session) before y.told.history → IsLed returning m before s LookAtSeats answer y
  leads calm = record {
    state = state_with last s.content None last.array;
    is_step = record {
      begun = seats_in m.array;
      begins = begins.seats;
      row =
          subst (λ (given : Answer LookAtSeats). Row LookAtSeats given (seats_in m.array) s (state_with last s.content None last.array)) (sym answered)
          (row (state_with last s.content None last.array) (ap (λ (k : Membership). k.array.geometry) same_member) refl refl
          (ap (λ (k : Membership). Some (seats_in k.array)) same_member));
    };
    is_in =
        serves_over returning laws LookAtSeats no_opening answer events x y p before s state begins.words s.content
        (ap (λ (k : Membership). k.array.geometry) same_member)
        (subst (λ (k : Membership). IsServing returning before (led_to p.was k) begins.words s.content y.told.history) (sym same_member) here) p.rebuild
        (subst (IsRememberedIn begins.words) (sym p.remembers) begins.remembered)
        (calm_begun y.told.history calm);
  }
    where
      here : IsServing returning before (led_to p.was m) begins.words s.content y.told.history
      here =
          same_serves returning laws before p.was.rebuild p.was.stopped begins.words s.content (snapshot m y.told) (snapshot m y.told) refl honest
          (subst (λ (t : RackState). IsServing returning before (forgetting p.was) begins.words s.content t.history) (sym same_told) serves)
          (calm_going returning m.array.geometry before y.told.history
          (subst (λ (t : RackState). Ran any_call before t.history) (sym same_told) serves.is_open.ran) (calm_begun y.told.history calm))

  abbrev LeavesAt : List Happening → Type 0
  LeavesAt c = StaysWithinToleranceTo returning m.array.geometry before c → EachImage (IsLeftBy returning LookAtSeats m before c s) c

  at_once : LeavesAt x.told.history
  at_once calm image left =
      record {
        state = state_with m s.content None m.array;
        cut = record {
          begun = seats_in m.array;
          begins = begins.seats;
          within = inr (Ok (seats_in m.array), row (state_with m s.content None m.array) refl refl refl refl);
        };
        stands =
            laws.alone (state_with m s.content None m.array) x.told.history image serves.history
            (laws.stands before (forgetting p.was) begins.words s.content x.told.history serves calm) left;
      }

  cuts : (c : List Happening) → IsMoment x.told.history c y.told.history → StaysWithinTolerance returning s.geometry (is_open x.session) before c
      → EachImage (IsLeftBy returning LookAtSeats m before c s) c
  cuts c at calm =
      at_moment {P = LeavesAt}
      (subst (λ (t : RackState). AtEveryMoment LeavesAt x.told.history t.history) (sym same_told) (at_every_none {P = LeavesAt} x.told.history at_once)) at
      (calm_begun c calm)

-- So it is what is promised of a step.
pub promise : (returning : Returning) → LeadsReads returning → (answer : Answer LookAtSeats) (events : List Event) (x y : Seen)
    (p : Performs LookAtSeats answer events x y)
    → LeadsStep returning p.was.member LookAtSeats answer x y
promise returning laws answer events x y p = record {
  leads = λ honest before s history state calm. leads returning laws answer events x y p honest before s history state calm;
  cuts = λ honest before s history state c at calm. cuts returning laws answer events x y p honest before s history state c at calm;
  complete = λ honest before s history state calm unread can.
      subst (λ (given : Answer LookAtSeats). IsOk given) (sym (answered returning laws answer events x y p honest before s history state)) refl;
}
