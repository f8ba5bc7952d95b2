-- By which laws an opening is led on, of an array whose media come back.
use Rattle.std.proofs.Common.{false, IsTrue, List, None, Ok, Result, Some, sym, subst}
use Rattle.stair_model.specs.Geometry.{Geometry}
use Rattle.stair_rack.specs.History.{Happening}
use Rattle.stair_rack.specs.Moments.{IsMoment}
use Rattle.stair_rack.specs.RackState.{RackState}
use Rattle.stair_member.specs.Membership.{Membership}
use Rattle.stair_state.specs.State.{State}
use Rattle.stair_invariant.specs.Effects.{Snapshot}
use Rattle.stair_invariant.specs.Returning.{AnyReturns, StaysWithinTolerance, KnowsMedia}
use Rattle.stair_invariant.specs.Session.{seats_in}
use Rattle.stair_array.specs.Machine.{Refusal}
use Rattle.stair_array.specs.Promise.{AreFound}
use Rattle.stair_array.proofs.RecoverLemmas.{ComesTo, IsSurveyedFor, LeadsOpenings}
use Rattle.stair_array.proofs.RecoverLemmas as comes
use Rattle.stair_reinsert.specs.Opened.{IsOpenedAnywhere}
use Rattle.stair_reinsert.proofs.LookedSoFar.{looked_mixed}
use Rattle.stair_reinsert.proofs.OpeningSeats.{seats_found}
use Rattle.stair_reinsert.proofs.RecoveryLeads.{Clears, recovers_clears}
use Rattle.stair_reinsert.proofs.RecoveryOpens.{opened_anywhere, recovery_moments}
use Rattle.stair_reinsert.proofs.RecoverySurvey.{IsFoundAny, found_begins}

-- an array that a survey found
found_any : (s : State) (first : RackState) (u : Snapshot) → IsSurveyedFor AnyReturns s first u → IsFoundAny s first u
found_any s first u is = record { stands = is.stands; surveys = is.surveys; rules = is.rules }

seats : (s : State) (first : RackState) (u : Snapshot) → IsSurveyedFor AnyReturns s first u → IsTrue u.told.honest → (h : List Happening)
    → IsMoment first.history u.told.history h → StaysWithinTolerance AnyReturns s.geometry false first.history h
    → AreFound AnyReturns first.history h s (seats_in u.member.array)
seats s first u is honest h at calm =
    seats_found s first u.told u.member is.surveys honest
    (found_begins s first u (found_any s first u is) honest (looked_mixed s.geometry (Ok u.member) first u.told h is.surveys honest at calm.1)).geometry h at

-- what it comes to, in the words of both
comes_as : (s : State) (m : Membership) (first : RackState) (answer : Result Geometry Refusal) (v : Snapshot)
    → Clears first.history s.content s.in_doubt s.geometry m answer v → ComesTo AnyReturns s m first.history answer v
comes_as s m first _ _ (Clears.Opens own y same opens stays) =
    comes.Opens own y same
    (record {
      words = is.words;
      content = is.content;
      decided = is.decided;
      stands = record { current_media = _; since = _; is = knows.is };
      is_open = is.is_open;
      knows = knows;
      geometry = sym is.geometry;
      seats = is.seats;
    })
  where
    is : IsOpenedAnywhere s m first.history y
    is = opened_anywhere s m first.history y opens stays

    knows : KnowsMedia (record { geometry = s.geometry; content = is.content; in_doubt = None; seats = Some (seats_in y.member.array) }) y.member
        y.told.history
    knows =
        subst
        (λ (g : Geometry). KnowsMedia (record { geometry = g; content = is.content; in_doubt = None; seats = Some (seats_in y.member.array) }) y.member
        y.told.history) is.geometry is.knows
comes_as s m first _ _ (Clears.Refuses fault y consistent enough) = comes.Refuses fault y consistent enough

pub openings_lead : LeadsOpenings AnyReturns
openings_lead = record {
  seats = seats;
  comes = λ s first u v answer is does honest_u honest calm.
      comes_as s u.member first answer v (recovers_clears s first u (found_any s first u is) answer v does honest calm);
  moments = λ s first u v answer is does honest_u honest. recovery_moments s first u v answer is.stands is.surveys is.rules does honest;
}
