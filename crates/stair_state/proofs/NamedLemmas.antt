-- The frozen mark and the label that a survey finds are those of the state, before or after the change in doubt.
use Rattle.std.proofs.Common.{◌≡◌, List, inl, inr, sym, subst}
use Rattle.std.specs.Prelude.{IsTrue, Result, Ok}
use Rattle.stair_rack.specs.Answers.{IsHistory, Ran, any_call}
use Rattle.stair_rack.specs.Crash.{image_now}
use Rattle.stair_rack.specs.History.{Happening}
use Rattle.stair_rack.specs.Stretch.{NothingReturned}
use Rattle.stair_rack.specs.RackState.{RackState}
use Rattle.stair_rack.proofs.CrashLemmas.{CrashMayLeave-now}
use Rattle.stair_member.specs.Membership.{Membership}
use Rattle.stair_member.specs.Survey.{IsAnswer, Surveys}
use Rattle.stair_member.specs.declared.fault.SurveyFault.{SurveyFault}
use Rattle.stair_member.proofs.AskedLemmas.{asked_ran}
use Rattle.stair_state.specs.Represents.{ImageRepresents, Left, Lesser, Represents, no_write}
use Rattle.stair_state.specs.State.{State}
use Rattle.stair_state.specs.Surveyed.{NamesContent}
use Rattle.stair_state.specs.Tolerance.{ToleratedSince}
use Rattle.stair_state.proofs.OutsideLemmas.{tolerated_alone, unwritten_ran}
use Rattle.stair_state.proofs.StillLemmas.{degraded_now}
use Rattle.stair_state.proofs.SurveyedLemmas.{named, tolerated_last}

pub names_content : (s : State) (before : List Happening) (old new : RackState) (answer : Result Membership SurveyFault) (m : Membership)
    → Surveys answer old new → IsTrue new.honest → Ran any_call before old.history → Represents s old.history
    → NothingReturned old.history new.history → ToleratedSince s.geometry before new.history → answer ≡ Ok m → NamesContent s m.array
names_content s before old new answer m surveys honest began stands none tolerated ok =
    elim (named s before old new surveys.findings surveys.found honest is ran began stands none tolerated m answered.0 first.current last.current
    first.is_current last.is_current) [
      | inl same ↦ subst (NamesContent s) (sym same) (record { frozen = last.frozen; label = last.label })
      | inr same ↦ subst (NamesContent s) (sym same) (record { frozen = first.frozen; label = first.label })
    ]
  where
    answered : IsAnswer surveys.findings (Ok m)
    answered = subst (λ (a : Result Membership SurveyFault). IsAnswer surveys.findings a) ok surveys.answered

    is : IsHistory old.history
    is = surveys.began honest

    ran : Ran no_write old.history new.history
    ran = unwritten_ran (asked_ran 32 old.history new.history (surveys.asked honest))

    first : ImageRepresents s stands.encodings (image_now old.history)
    first = stands.each (image_now old.history) (Left (CrashMayLeave-now old.history))

    last : ImageRepresents s stands.encodings (image_now new.history)
    last =
        stands.each (image_now new.history)
        (Lesser (image_now old.history) (CrashMayLeave-now old.history) (degraded_now ran none)
        (tolerated_alone s.geometry before new.history (image_now new.history)
        (tolerated_last s before old new surveys.findings surveys.found honest is ran began stands none tolerated) (CrashMayLeave-now new.history)))
