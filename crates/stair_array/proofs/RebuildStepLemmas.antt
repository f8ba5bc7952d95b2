-- A step of a rebuild is one of the array's machine, and what a crash leaves in the midst of it is what one within the step leaves, whether
-- media come back or not.
use Rattle.std.proofs.Common.{List, None, Some, ap, inl, inr, refl, subst, sym, ◌∙◌, ◌≡◌}
use Rattle.std.specs.Prelude.{Err, IsOk, IsTrue, Ok}
use Rattle.stair_rack.specs.Answers.{IsHistory}
use Rattle.stair_rack.specs.Crash.{EachImage}
use Rattle.stair_rack.specs.History.{Happening}
use Rattle.stair_rack.specs.Moments.{IsMoment}
use Rattle.stair_rack.specs.declared.watcher.Event.{Event}
use Rattle.stair_rack.proofs.MomentLemmas.{at_moment}
use Rattle.stair_super.specs.declared.configuration.Configuration.{Configuration}
use Rattle.stair_member.specs.Membership.{Membership}
use Rattle.stair_member.specs.declared.fault.FenceFault.TheVariants as fence
use Rattle.stair_state.specs.State.{State}
use Rattle.stair_invariant.specs.Effects.{Snapshot, snapshot}
use Rattle.stair_invariant.specs.InSession.{state_with}
use Rattle.stair_invariant.specs.Opening.{opened_with}
use Rattle.stair_invariant.specs.Returning.{StaysWithinTolerance, Returning, StandsFor}
use Rattle.stair_invariant.specs.Session.{IsOpenWith, seats_in}
use Rattle.stair_invariant.proofs.Mending.{LeadsBeside, LeadsPromotions}
use Rattle.stair_invariant.proofs.Serving.{StaysWithinToleranceTo, IsServing, LeadsReads}
use Rattle.stair_array.specs.Machine.{Answer, EpochsSpent, HoldsAfter, Progress, RebuildNext, Recover, Refusal, Row, SeatsAfter, SeatsRebuilt}
use Rattle.stair_array.specs.Promise.{CanBeDone, IsInState, IsLed, IsLeftBy, IsOpenFor, Keeps, KeepsRebuild, Performs, Seen, is_open, LeadsStep}
use Rattle.stair_array.proofs.DrawsLemmas.{done_with_room}
use Rattle.stair_array.proofs.OpenStepLemmas.{forgetting, forgotten_in, calm_first, goes_on_as, kept_fault, open_first, serves_bare, serves_now, stops_as}
use Rattle.stair_array.proofs.RebuildCourseLemmas.{NextIsRebuilt, next_rebuilt}
use Rattle.stair_array.proofs.RebuildOutcomeLemmas.{moments, outcome}
use Rattle.stair_array.proofs.RebuildSeatLemmas.{Goes, MayMove, MovesAt, Outcome, Spent}

module _ (returning : Returning) (laws : LeadsReads returning) (besides : LeadsBeside returning) (promotions : LeadsPromotions returning)
    (answer : Answer RebuildNext) (events : List Event) (x y : Seen) (p : Performs RebuildNext answer events x y) (honest : IsTrue y.told.honest)
    (before : List Happening) (s : State) (history : IsHistory x.told.history) (state : IsInState returning before s x) where
  pub no_opening : ¬ (RebuildNext ≡ Recover)
  no_opening same = cc

  abbrev m : Membership
  m = p.was.member

  abbrev last : Membership
  last = p.is.member

  abbrev pub begins : IsOpenFor returning before s p.was x.told.history
  begins = open_first returning laws RebuildNext no_opening answer events x y p before s state

  pub serves : IsServing returning before (forgetting p.was) begins.words s.content x.told.history
  serves = serves_bare returning laws RebuildNext no_opening answer events x y p before s state history

  calm_begun : (h : List Happening) → StaysWithinTolerance returning s.geometry (is_open x.session) before h → StaysWithinToleranceTo returning m.array.geometry before h
  calm_begun = calm_first returning laws RebuildNext no_opening answer events x y p before s state

  next : NextIsRebuilt p.was (snapshot m x.told)
  next = next_rebuilt p.was x.told begins.is_open.array

  -- ROWS

  holds : (given : Answer RebuildNext) (now : State) → now.content ≡ s.content → now.in_doubt ≡ None → HoldsAfter RebuildNext given s now
  holds (Ok progress) now content certain = record { content = content; in_doubt = certain }
  holds (Err refusal) now content certain = inl (record { content = content; in_doubt = certain ∙ sym begins.certain })

  row : (given : Answer RebuildNext) (now : State) (array : Configuration) → now.geometry ≡ s.geometry → now.content ≡ s.content → now.in_doubt ≡ None
      → now.seats ≡ Some (seats_in array) → SeatsAfter RebuildNext given (seats_in m.array) (seats_in array)
      → Row RebuildNext given (seats_in m.array) s now
  row given now array geometry content certain seats moved = record {
    geometry = geometry;
    begins = begins.certain;
    passes = λ begun. tt;
    holds = holds given now content certain;
    seats = seats_in array;
    known = seats;
    marks = moved;
  }

  -- where no epoch is left it leaves any seats that the step may
  spent_moves : (array : Configuration) → MayMove (seats_in m.array) (seats_in array)
      → SeatsAfter RebuildNext (Err EpochsSpent) (seats_in m.array) (seats_in array)
  spent_moves array (inl dropped) = inl dropped
  spent_moves array (inr moved) = inr (tt, moved.0, moved.1)

  -- WHERE IT LEADS

  led : (given : Answer RebuildNext) (v : Snapshot) → v ≡ snapshot last y.told → given ≡ answer
      → Outcome returning before p.was begins.words s.content m given v → StaysWithinToleranceTo returning m.array.geometry before y.told.history
      → IsLed returning m before s RebuildNext answer y
  led _ _ at is_answer (Goes progress v serves_v same moved on) calm =
      let geometry : last.array.geometry ≡ m.array.geometry =
      subst (λ (u : Snapshot). u.member.array.geometry ≡ m.array.geometry) at same in
      let now : State = state_with last s.content None last.array in
      let now_serves =
      subst (λ (u : Snapshot). IsServing returning before (opened_with u.member) begins.words s.content u.told.history) at serves_v in
      record {
        state = now;
        is_step = record {
          begun = seats_in m.array;
          begins = begins.seats;
          row =
              subst (λ (r : Answer RebuildNext). Row RebuildNext r (seats_in m.array) s now) is_answer
              (row (Ok progress) now last.array (geometry ∙ begins.geometry) refl refl refl
              (subst (λ (u : Snapshot). SeatsRebuilt progress (seats_in m.array) (seats_in u.member.array)) at moved));
        };
        is_in =
            serves_now returning laws RebuildNext no_opening answer events x y p before s state begins.words s.content geometry
            (record {
              is_open =
                  subst (λ (u : Snapshot). IsOpenWith before p.is begins.words u.told.history) at
                  (on p.is (sym (ap (λ (u : Snapshot). u.member) at))
                  (subst (λ (r : Answer RebuildNext). KeepsRebuild RebuildNext r p.was p.is) (sym is_answer) p.rebuild));
              history = now_serves.history;
              of = now_serves.of;
              knows = now_serves.knows;
            }) (forgotten_in begins.words p.is.remembered p.remembers) calm;
      }
  led _ _ at is_answer (Spent v array stands moved) calm =
      let now : State = state_with m s.content None array in
      record {
        state = now;
        is_step = record {
          begun = seats_in m.array;
          begins = begins.seats;
          row =
              subst (λ (r : Answer RebuildNext). Row RebuildNext r (seats_in m.array) s now) is_answer
              (row (Err EpochsSpent) now array begins.geometry refl refl refl (spent_moves array moved));
        };
        is_in =
            stops_as returning laws RebuildNext no_opening answer events x y p before s state now
            (subst (λ (u : Snapshot). StandsFor returning now u.told.history) at stands)
            (kept_fault Progress fence.EpochsSpent p.is.stopped
            (subst (λ (r : Answer RebuildNext). Keeps r p.is.stopped) (sym is_answer)
            (goes_on_as returning laws RebuildNext no_opening answer events x y p before s state).1));
      }

  -- what it comes to
  module _ (calm : StaysWithinTolerance returning s.geometry (is_open x.session) before y.told.history) where
    abbrev ends : Snapshot
    ends = snapshot last y.told

    comes : Outcome returning before p.was begins.words s.content m answer ends
    comes =
        outcome returning laws besides promotions before p.was begins.words s.content answer (snapshot m x.told) ends p.does refl serves next honest
        (calm_begun y.told.history calm)

    pub leads : IsLed returning m before s RebuildNext answer y
    leads = led answer ends refl refl comes (calm_begun y.told.history calm)

    -- so that it isn't refused, unless no epoch is left
    pub only_spent : (refusal : Refusal) → answer ≡ Err refusal → refusal ≡ EpochsSpent
    only_spent refusal = by answer ends comes
      where
        by : (given : Answer RebuildNext) (v : Snapshot) → Outcome returning before p.was begins.words s.content m given v → given ≡ Err refusal
            → refusal ≡ EpochsSpent
        by _ _ (Goes progress v serves_v same moved on) is = absurd (cc)
        by _ _ (Spent v array stands moved) is = cc

  -- WHAT A CRASH LEAVES

  pub cuts : (c : List Happening) → IsMoment x.told.history c y.told.history → StaysWithinTolerance returning s.geometry (is_open x.session) before c
      → EachImage (IsLeftBy returning RebuildNext m before c s) c
  cuts c at calm image left =
      let is =
      at_moment {P = MovesAt returning before s.content m}
      (moments returning laws besides promotions before p.was begins.words s.content answer (snapshot m x.told) (snapshot last y.told) p.does serves next
      honest) at (calm_begun c calm)
      image left in
      record {
        state = state_with m s.content None is.0;
        cut = record {
          begun = seats_in m.array;
          begins = begins.seats;
          within = inr (
            Err EpochsSpent,
            row (Err EpochsSpent) (state_with m s.content None is.0) is.0 begins.geometry refl refl refl (spent_moves is.0 is.2),
          );
        };
        stands = is.1;
      }

  -- IT IS DONE where numbers are left to draw

  pub complete : StaysWithinTolerance returning s.geometry (is_open x.session) before y.told.history
      → CanBeDone RebuildNext s m x.told.history y.told.history → IsOk answer
  complete calm can =
      done_with_room RebuildNext (λ j same. cc) answer events x y p serves.is_open.array.member can.draws (λ cause. cause.1) (only_spent calm)

-- So it is what is promised of a step.
pub promise : (returning : Returning) → LeadsReads returning → LeadsBeside returning → LeadsPromotions returning → (answer : Answer RebuildNext)
    (events : List Event) (x y : Seen) (p : Performs RebuildNext answer events x y) → LeadsStep returning p.was.member RebuildNext answer x y
promise returning laws besides promotions answer events x y p = record {
  leads = λ honest before s history state calm. leads returning laws besides promotions answer events x y p honest before s history state calm;
  cuts = λ honest before s history state c at calm.
      cuts returning laws besides promotions answer events x y p honest before s history state c at calm;
  complete = λ honest before s history state calm unread can.
      complete returning laws besides promotions answer events x y p honest before s history state calm can;
}
