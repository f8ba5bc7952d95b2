-- A survey finds the array of an honest rack within tolerance, whether media come back or not.
use Rattle.std.proofs.Common.{◌≡◌, List, Ok, Result}
use Rattle.std.specs.Prelude.{IsTrue, false}
use Rattle.stair_model.specs.Geometry.{Geometry}
use Rattle.stair_rack.specs.Answers.{Ran, any_call}
use Rattle.stair_rack.specs.History.{Happening}
use Rattle.stair_rack.specs.Moments.{IsMoment}
use Rattle.stair_rack.specs.Stretch.{NothingWritten}
use Rattle.stair_rack.specs.RackState.{RackState}
use Rattle.stair_rack.proofs.MomentLemmas.{moment_last, moment_later, moment_sooner, moment_wider, ran_none}
use Rattle.stair_rack.proofs.StretchLemmas.{each_after, each_before}
use Rattle.stair_member.specs.Membership.{Membership}
use Rattle.stair_member.specs.Survey.{Surveys}
use Rattle.stair_member.specs.declared.fault.SurveyFault.{SurveyFault}
use Rattle.stair_state.specs.Represents.{no_write}
use Rattle.stair_state.specs.State.{State, without_seats}
use Rattle.stair_state.proofs.OutsideLemmas.{looks_stand}
use Rattle.stair_state.proofs.ReturnLemmas.{looked_consistent}
use Rattle.stair_state.proofs.SurveyedLemmas.{finds_array}
use Rattle.stair_invariant.specs.Returning.{AnyReturns, StaysWithinTolerance, NoneReturns, Returning, StandsFor}
use Rattle.stair_reinsert.proofs.MixedImages.{tolerated_inside}
use Rattle.stair_reinsert.proofs.SurveyLemmas.{finds}
use Rattle.stair_command.specs.Sure.{StaysWithinToleranceBetween}

-- ---- stretches

module _ (g : Geometry) (before old mid new : List Happening) (at : IsMoment old mid new) where
  -- from here up to a moment
  pub calm_first : (returning : Returning) → Ran any_call before old → StaysWithinToleranceBetween returning g before old new → StaysWithinToleranceBetween returning g before old mid
  calm_first NoneReturns since calm =
      (λ h is. calm.0 h (moment_sooner is (moment_wider since (ran_none {allowed = any_call} new) at)), each_before calm.1 at)
  calm_first AnyReturns since calm = (
    λ h is. calm.0 h (moment_sooner is (moment_wider since (ran_none {allowed = any_call} new) at)),
    tolerated_inside g before (λ h is. moment_sooner is at) calm.1,
  )

  -- and from it on
  pub calm_rest : (returning : Returning) → StaysWithinToleranceBetween returning g before old new → StaysWithinToleranceBetween returning g before mid new
  calm_rest NoneReturns calm = (calm.0, each_after calm.1 at)
  calm_rest AnyReturns calm = (calm.0, tolerated_inside g before (λ h is. moment_later at is) calm.1)

-- from the session's beginning, as long as nothing was written
pub calm_between : (returning : Returning) (g : Geometry) (before h : List Happening) → NothingWritten before h → StaysWithinTolerance returning g false before h
    → StaysWithinToleranceBetween returning g before before h
calm_between NoneReturns g before h unwritten calm = calm
calm_between AnyReturns g before h unwritten calm = (calm.0, calm.1 h (moment_last unwritten.more unwritten.is) unwritten)

-- where nothing is written the rack goes on to represent its state, but for the seats
pub looked_stands : (returning : Returning) (s : State) (before old new : List Happening) → StandsFor returning s old → Ran no_write old new
    → IsMoment before new new → StaysWithinToleranceBetween returning s.geometry before old new → StandsFor returning (without_seats s) new
looked_stands NoneReturns s before old new stands ran at calm = looks_stand s before old new stands ran calm.1 (calm.0 new at)
looked_stands AnyReturns s before old new stands ran at calm = looked_consistent s old new stands ran

-- ---- a survey

-- it found an array of this geometry
pub record IsArrayFound (g : Geometry) (answer : Result Membership SurveyFault) : Type 0 where
  pub member : Membership
  pub found : answer ≡ Ok member
  pub geometry : member.array.geometry ≡ g

-- in a session that began at `before`
pub survey_found : (returning : Returning) (s : State) (before : List Happening) (old new : RackState) (answer : Result Membership SurveyFault)
    → Surveys answer old new → IsTrue new.honest → Ran any_call before old.history → StandsFor returning s old.history
    → StaysWithinToleranceBetween returning s.geometry before old.history new.history → IsArrayFound s.geometry answer
survey_found NoneReturns s before old new answer surveys honest since stands calm =
    let array = finds_array s before old new answer surveys honest since stands calm.1 calm.0 in
    record { member = array.member; found = array.found; geometry = array.identity }
survey_found AnyReturns s before old new answer surveys honest since stands calm =
    let array = finds before old new answer surveys honest since s.geometry calm.1 in
    record { member = array.member; found = array.found; geometry = array.identity }
