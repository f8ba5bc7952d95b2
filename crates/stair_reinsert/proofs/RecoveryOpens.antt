-- What a recovery comes to, in the words of the laws.
use Rattle.std.proofs.Common.{Err, IsTrue, List, Ok, Result, sym, ◌∙◌, ◌≡◌, false}
use Rattle.stair_model.specs.Geometry.{Geometry}
use Rattle.stair_rack.specs.Crash.{CrashMayLeave}
use Rattle.stair_rack.specs.History.{Happening}
use Rattle.stair_rack.specs.Media.{Image}
use Rattle.stair_rack.specs.Moments.{IsMoment}
use Rattle.stair_rack.specs.RackState.{RackState}
use Rattle.stair_rack.proofs.MomentLemmas.{at_moment}
use Rattle.stair_member.specs.Membership.{IsMembership, Membership}
use Rattle.stair_member.specs.Survey.{Surveys}
use Rattle.stair_state.specs.Holding.{IsConsistentUnderReassembly}
use Rattle.stair_state.specs.State.{State, without_seats}
use Rattle.stair_invariant.specs.Effects.{Snapshot}
use Rattle.stair_invariant.specs.Opening.{StaysArray}
use Rattle.stair_invariant.specs.Returning.{AnyReturns, StaysWithinTolerance, StandsFor, StandsForAlone}
use Rattle.stair_array.specs.Machine.{Refusal}
use Rattle.stair_array.specs.Openings.{Recovers}
use Rattle.stair_reinsert.specs.Opened.{IsOpenedAnywhere}
use Rattle.stair_reinsert.proofs.RecoveryEnd.{IsOpenedAny}
use Rattle.stair_reinsert.proofs.RecoveryLeads.{Clears, StandsCalm, recovers_clears, recovers_moments}
use Rattle.stair_reinsert.proofs.RecoverySurvey.{IsFoundAny}

found_so : (s : State) (first : RackState) (u : Snapshot) → IsConsistentUnderReassembly s first.history → Surveys (Ok u.member) first u.told
    → IsMembership u.member → IsFoundAny s first u
found_so s first u stands surveys rules = record { stands = stands; surveys = surveys; rules = rules }

-- the array that was opened, in the words of the laws
pub opened_anywhere : (s : State) (m : Membership) (before : List Happening) (y : Snapshot) → IsOpenedAny before s.content s.in_doubt s.geometry y
    → StaysArray m y.member → IsOpenedAnywhere s m before y
opened_anywhere s m before y opens stays = record {
  words = opens.words;
  content = opens.content;
  decided = record {
    one = opens.decided.one;
    encodings = opens.decided.encodings;
    frozen = opens.decided.frozen;
    label = opens.decided.label;
  };
  is_open = opens.serves.is_open;
  knows = opens.serves.knows;
  geometry = opens.geometry;
  seats = stays.seats;
}

pub recovery_moments : (s : State) (first : RackState) (u v : Snapshot) (answer : Result Geometry Refusal) → IsConsistentUnderReassembly s first.history
    → Surveys (Ok u.member) first u.told → IsMembership u.member → Recovers answer u v → IsTrue v.told.honest → (c : List Happening)
    → IsMoment u.told.history c v.told.history → StaysWithinTolerance AnyReturns s.geometry false first.history c → (image : Image) → CrashMayLeave c image
    → StandsForAlone AnyReturns (without_seats s) image
recovery_moments s first u v answer stands surveys rules does honest c at calm image left =
    at_moment {P = StandsCalm s first u (found_so s first u stands surveys rules)}
    (recovers_moments s first u (found_so s first u stands surveys rules) answer v does honest) at calm image left

pub recovery_refused : (s : State) (first : RackState) (u v : Snapshot) (answer : Result Geometry Refusal) → IsConsistentUnderReassembly s first.history
    → Surveys (Ok u.member) first u.told → IsMembership u.member → Recovers answer u v → IsTrue v.told.honest
    → StaysWithinTolerance AnyReturns s.geometry false first.history v.told.history → (refusal : Refusal) → answer ≡ Err refusal
    → StandsFor AnyReturns (without_seats s) v.told.history
recovery_refused s first u v answer stands surveys rules does honest calm refusal is =
    by answer v
    (recovers_clears s first u (found_so s first u stands surveys rules) answer v does honest calm) is
  where
    by : (given : Result Geometry Refusal) (y : Snapshot) → Clears first.history s.content s.in_doubt s.geometry u.member given y → given ≡ Err refusal
        → StandsFor AnyReturns (without_seats s) y.told.history
    by _ _ (Clears.Opens own y same opens stays) err = absurd (cc)
    by _ _ (Clears.Refuses fault y consistent enough) err = consistent

pub recovery_opens : (s : State) (first : RackState) (u v : Snapshot) (answer : Result Geometry Refusal) → IsConsistentUnderReassembly s first.history
    → Surveys (Ok u.member) first u.told → IsMembership u.member → Recovers answer u v → IsTrue v.told.honest
    → StaysWithinTolerance AnyReturns s.geometry false first.history v.told.history → (g : Geometry) → answer ≡ Ok g
    → (g ≡ s.geometry) × IsOpenedAnywhere s u.member first.history v
recovery_opens s first u v answer stands surveys rules does honest calm g is =
    by answer v
    (recovers_clears s first u (found_so s first u stands surveys rules) answer v does honest calm) is
  where
    by : (given : Result Geometry Refusal) (y : Snapshot) → Clears first.history s.content s.in_doubt s.geometry u.member given y → given ≡ Ok g
        → (g ≡ s.geometry) × IsOpenedAnywhere s u.member first.history y
    by _ _ (Clears.Opens own y same opens stays) fine =
        let once : own ≡ g = cc in (
          sym once ∙ same,
          opened_anywhere s u.member first.history y opens stays,
        )
    by _ _ (Clears.Refuses fault y consistent enough) fine = absurd (cc)
