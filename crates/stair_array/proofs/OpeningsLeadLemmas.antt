-- By which laws an opening is led on where no medium comes back.
use Rattle.std.proofs.Common.{◌≡◌, ℕ, List, inl, inr, sym, ap, ◌∙◌}
use Rattle.std.specs.Prelude.{IsTrue, Result, Ok, Err}
use Rattle.stair_model.specs.Geometry.{Geometry}
use Rattle.stair_rack.specs.Answers.{Ran, any_call}
use Rattle.stair_rack.specs.Crash.{image_now}
use Rattle.stair_rack.specs.History.{Happening, SlotCall, Attach, Sectors, Read, Write, Sync}
use Rattle.stair_rack.specs.Moments.{IsMoment}
use Rattle.stair_rack.specs.Offline.{IsOffline}
use Rattle.stair_rack.specs.Stretch.{IsNoWrite, every_slot}
use Rattle.stair_rack.specs.RackState.{RackState}
use Rattle.stair_rack.proofs.CrashLemmas.{CrashMayLeave-now}
use Rattle.stair_rack.proofs.MomentLemmas.{at_moment, moment_first, moment_sooner, ran_any, ran_none}
use Rattle.stair_rack.proofs.StretchLemmas.{each_none, none_written}
use Rattle.stair_super.specs.declared.configuration.Configuration.{Configuration}
use Rattle.stair_member.specs.Asked.{LeavesSectors}
use Rattle.stair_member.specs.Membership.{Membership}
use Rattle.stair_member.specs.Survey.{Surveys}
use Rattle.stair_member.specs.declared.fault.FenceFault.{FenceFault}
use Rattle.stair_member.specs.declared.fault.FenceFault.TheVariants.{TooFew}
use Rattle.stair_member.specs.declared.why.Why.{Why}
use Rattle.stair_member.proofs.AskedLemmas.{asked_ran}
use Rattle.stair_state.specs.Represents.{ImageRepresents, Left, Represents}
use Rattle.stair_state.specs.State.{State}
use Rattle.stair_state.specs.Surveyed.{FindsArray}
use Rattle.stair_state.specs.Tolerance.{IsWithinTolerance}
use Rattle.stair_state.proofs.SurveyedLemmas.{finds_array}
use Rattle.stair_invariant.specs.Effects.{Snapshot}
use Rattle.stair_invariant.specs.Returning.{NoneReturns}
use Rattle.stair_invariant.specs.Session.{seats_in}
use Rattle.stair_array.specs.Calls.{refused}
use Rattle.stair_array.specs.Machine.{Refusal}
use Rattle.stair_array.specs.Promise.{AreFound}
use Rattle.stair_array.proofs.CompleteLemmas.{recovers_never}
use Rattle.stair_array.proofs.RecoverLemmas.{ComesTo, IsSurveyedFor, LeadsOpenings}
use Rattle.stair_array.proofs.RecoverLemmas as comes
use Rattle.stair_array.proofs.RecoveredLemmas.{Calm, IsSurveyed, Opens, Outcome, Refuses, calm_now, calm_then, outcome, surveyed}
use Rattle.stair_array.proofs.RecoveredMoments.{StandsHere, recover_moments}

-- THE SEATS THAT WERE FOUND

pub looks_write_none : (j : ℕ) (c : SlotCall) → LeavesSectors j c → every_slot j → IsNoWrite c
looks_write_none j (Attach answer) may on = tt
looks_write_none j (Sectors size) may on = tt
looks_write_none j (Read k answer) may on = tt
looks_write_none j (Write k bytes answer) may on = absurd may
looks_write_none j (Sync answer) may on = tt

-- those of the member that a survey found
seats_found : (s : State) (first x : RackState) (m : Membership) (h : List Happening) → Surveys (Ok m) first x → IsTrue x.honest → Represents s first.history
    → Calm s first.history x.history → IsMoment first.history x.history h → AreFound NoneReturns first.history h s (seats_in m.array)
seats_found s first x m h surveys honest stands calm at =
    elim (finds.named old.current new.current old.is_current new.is_current) [
      | inl same ↦ record {
        moment = x.history;
        is_one = at;
        unwritten = none_written {allowed = LeavesSectors} {slots = every_slot} looks_write_none ran;
        slot = new.current.slot;
        super = new.current;
        speaks = new.is_current.counts;
        are = λ j. ap (λ (c : Configuration). seats_in c j) (sym same_member ∙ same);
      }
      | inr same ↦ record {
        moment = first.history;
        is_one = moment_sooner (moment_first ran.more ran.is) at;
        unwritten = each_none first.history;
        slot = old.current.slot;
        super = old.current;
        speaks = old.is_current.counts;
        are = λ j. ap (λ (c : Configuration). seats_in c j) (sym same_member ∙ same);
      }
    ]
  where
    ran : Ran LeavesSectors first.history x.history
    ran = asked_ran 32 first.history x.history (surveys.asked honest)

    finds : FindsArray s (Ok m) first.history first.history x.history
    finds = finds_array s first.history first x (Ok m) surveys honest (ran_none {allowed = any_call} first.history) stands calm.1 calm.0

    same_member : finds.member.array ≡ m.array
    same_member =
        let both : Ok m ≡ Ok finds.member = finds.found in let same : m ≡ finds.member = cc in sym (ap (λ (k : Membership). k.array) same)

    old : ImageRepresents s stands.encodings (image_now first.history)
    old = stands.each (image_now first.history) (Left (CrashMayLeave-now first.history))

    new : IsWithinTolerance (IsOffline first.history x.history) s.geometry (image_now x.history)
    new = calm_now s first.history x.history (ran_any {allowed = LeavesSectors} ran) calm (image_now x.history) (CrashMayLeave-now x.history)

-- WHAT IT COMES TO

-- the survey's member is that of an array that was found
was_surveyed : (s : State) (first : RackState) (u : Snapshot) → IsSurveyedFor NoneReturns s first u → IsTrue u.told.honest → IsSurveyed s first.history u
was_surveyed s first u is honest = surveyed s first u is.surveys is.rules is.stands honest

comes_as : (s : State) (m : Membership) (before : List Happening) (answer : Result Geometry Refusal) (v : Snapshot) → Outcome s m before answer v
    → ((whys : List Why) → ¬ (answer ≡ Err (refused (TooFew whys)))) → ComesTo NoneReturns s m before answer v
comes_as s m before _ _ (Opens g y same is) never =
    comes.Opens g y same
    (record {
      words = is.words;
      content = is.content;
      decided = is.decided;
      stands = is.stands;
      is_open = is.is_open;
      knows = is.opening.begun;
      geometry = is.geometry;
      seats = is.seats;
    })
comes_as s m before _ _ (Refuses fault y stands) never =
    comes.Refuses fault y stands (λ unread whys same. never whys (ap (λ (f : FenceFault). Err (refused f)) same))

pub openings_lead : LeadsOpenings NoneReturns
openings_lead = record {
  seats = λ s first u is honest h at calm.
      seats_found s first u.told u.member h is.surveys honest is.stands (calm_then s first.history u.told.history h at calm) at;
  comes = λ s first u v answer is does honest_u honest calm.
      let found = was_surveyed s first u is honest_u in
      comes_as s u.member first.history answer v (outcome s first.history answer u v does found honest calm)
      (λ whys refused. recovers_never s first.history answer u v does whys refused found honest calm);
  moments = λ s first u v answer is does honest_u honest c at calm image left.
      at_moment {P = StandsHere s first.history}
      (recover_moments s first.history answer u v does (was_surveyed s first u is honest_u) honest) at calm image left;
}
