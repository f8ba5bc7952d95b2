-- THE FIRST FENCE of an opening begins on a rack that is consistent however its media lie, whichever came back while it was
-- surveyed.
use Rattle.std.specs.Prelude.{IsTrue, Result, Ok}
use Rattle.std.proofs.Common.{◌≡◌, ℕ, List, sym, subst, None, Some, inl, inr}
use Rattle.stair_model.specs.Geometry.{Geometry}
use Rattle.stair_rack.specs.Answers.{Ran, any_call}
use Rattle.stair_rack.specs.History.{Happening}
use Rattle.stair_rack.specs.RackState.{RackState}
use Rattle.stair_rack.proofs.MomentLemmas.{ran_none}
use Rattle.stair_rack.proofs.TidyLemmas.{history_on}
use Rattle.stair_member.specs.Membership.{IsMembership, Membership}
use Rattle.stair_member.specs.Survey.{Surveys}
use Rattle.stair_member.specs.declared.aim.EpochChange.TheVariants.{Fence}
use Rattle.stair_member.specs.declared.fault.SurveyFault.{SurveyFault}
use Rattle.stair_state.specs.Holding.{CurrentMedia, IsConsistentSince}
use Rattle.stair_state.specs.Represents.{AreSteady, HaveSeats, no_write}
use Rattle.stair_state.specs.State.{State, without_seats}
use Rattle.stair_state.proofs.OutsideLemmas.{steady_looks}
use Rattle.stair_state.proofs.ReturnLemmas.{at_image, came_looking, consistent_by_after, looks_consistent}
use Rattle.stair_invariant.specs.Mixed.{IsToleratedMixed}
use Rattle.stair_reinsert.specs.Beginning.{BeginsWherever}
use Rattle.stair_reinsert.proofs.FoundBehind.{found_behind}
use Rattle.stair_reinsert.proofs.KnownLemmas.{WasSurveyed, is_history, known, looked, mine, surveyed, was_surveyed}
use Rattle.stair_reinsert.proofs.OpeningBeginsMember.{found_drawn, found_meant, found_says, recent_member}
use Rattle.stair_reinsert.proofs.OpeningBeginsReads.{found_known}

module _ {s : State} {current_media : CurrentMedia} {since : ℕ} {before : List Happening} {old new : RackState} {m : Membership}
    (survey : WasSurveyed s current_media since before old new m) (rules : IsMembership m) where
  open survey use {began, consistent, honest, surveys}

  abbrev looks : Ran no_write old.history new.history
  looks = looked survey

  same_geometry : m.array.geometry ≡ s.geometry
  same_geometry = mine survey

  steady_last : AreSteady s.geometry new.history
  steady_last = steady_looks s.geometry old.history new.history looks consistent.steady

  -- where the marks and joined numbers of the state are known still
  pub survey_begins : HaveSeats s.seats s.geometry new.history → BeginsWherever s current_media since Fence m new.history
  survey_begins seats = record {
    history = history_on {allowed = no_write} (is_history survey) looks;
    member = rules;
    geometry = same_geometry;
    is = record {
      encodings = consistent.encodings;
      each = λ image left.
          let from = λ (j : ℕ). at_image (came_looking j looks) (image j) (left j) in
          consistent_by_after s consistent.encodings current_media since old.history image from (consistent.each (λ j. (from j).was) (λ j. (from j).left));
      seats = seats;
      steady = steady_last;
    };
    recent = recent_member survey;
    known = known survey;
    supers = λ j taken on.
        elim taken [
          | inl here ↦
              found_known before old new (Ok m) surveys honest began m (surveyed survey) j here rules
              (subst (λ (y : Geometry). AreSteady y new.history) (sym same_geometry) steady_last) on
          | inr joins ↦ absurd (not_joining joins.0)
        ];
    behind = found_behind survey;
    drawn = found_drawn survey;
    meant = found_meant survey rules;
    says = found_says survey;
  }
    where
      not_joining : {j : ℕ} → None ≡ Some j → ⊥
      not_joining joins = cc

-- and else the rack is the array but for these
pub opening_begins : (s : State) (current_media : CurrentMedia) (since : ℕ) (before : List Happening) (old new : RackState)
    (answer : Result Membership SurveyFault) (m : Membership) → Surveys answer old new → IsTrue new.honest → Ran any_call before old.history
    → IsConsistentSince s current_media since old.history → IsToleratedMixed s.geometry before old.history new.history → IsMembership m
    → answer ≡ Ok m → BeginsWherever (without_seats s) current_media since Fence m new.history
opening_begins s current_media since before old new answer m surveys honest began consistent tolerated rules answered =
    survey_begins
    (was_surveyed answer surveys honest began (looks_consistent s current_media since old.history old.history consistent (ran_none old.history)) tolerated
    answered) rules tt
