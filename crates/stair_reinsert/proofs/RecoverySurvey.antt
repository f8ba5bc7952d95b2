-- The first fence of a recovery, by the member that a survey found, of an array whose media come back.
use Rattle.std.proofs.Common.{IsTrue, List, None, Ok, Option, Result, inl, inr, refl, subst, sym, ◌<◌, ◌∙◌, ◌∷◌, ◌≡◌, ◌≤◌, [], ℕ, arith, true≢false}
use Rattle.stair_model.specs.Geometry.{Geometry}
use Rattle.stair_model.specs.Slots.{HasSlot, Slots, no_slots}
use Rattle.stair_model.proofs.SetLaws.{has_slot-none}
use Rattle.stair_rack.specs.Answers.{Ran, any_call}
use Rattle.stair_rack.specs.Crash.{CrashMayLeave}
use Rattle.stair_rack.specs.History.{Happening, Made, stopped}
use Rattle.stair_rack.specs.Media.{Image}
use Rattle.stair_rack.specs.Moments.{IsMoment}
use Rattle.stair_rack.specs.Offline.{IsHeld}
use Rattle.stair_rack.specs.RackState.{RackState}
use Rattle.stair_rack.proofs.MomentLemmas.{moment_sooner, ran_any, ran_none}
use Rattle.stair_member.specs.Asked.{LeavesSectors}
use Rattle.stair_member.specs.Epochs.{Issued}
use Rattle.stair_member.specs.Establishing.{Establishes, Fences, refusal_of}
use Rattle.stair_member.specs.Membership.{IsHere, IsMembership}
use Rattle.stair_member.specs.Survey.{IsSurveyed, Surveys}
use Rattle.stair_member.specs.declared.aim.EpochChange.TheVariants.{Fence}
use Rattle.stair_member.specs.declared.fault.FenceFault.{FenceFault}
use Rattle.stair_member.specs.declared.why.Why.TheVariants.{Gone}
use Rattle.stair_member.proofs.AskedLemmas.{asked_ran}
use Rattle.stair_state.specs.Holding.{IsConsistentUnderReassembly}
use Rattle.stair_state.specs.State.{State, without_seats}
use Rattle.stair_state.proofs.AgreeLemmas.{here_late}
use Rattle.stair_invariant.specs.Effects.{Snapshot}
use Rattle.stair_invariant.specs.Mixed.{IsToleratedMixed}
use Rattle.stair_reinsert.specs.Beginning.{BeginsWherever, StandsWherever}
use Rattle.stair_reinsert.proofs.EpochLaws.{established}
use Rattle.stair_reinsert.proofs.LeavingBegins.{leaves_begins}
use Rattle.stair_reinsert.proofs.MixedImages.{inside_failed, tolerated_inside}
use Rattle.stair_reinsert.proofs.OpeningBegins.{opening_begins}
use Rattle.stair_reinsert.proofs.RecoveryFence.{AreSynced, IsUntouched, fence_ended, fence_left, first_amid, stands_untouched, unseated, synced}
use Rattle.stair_invariant.proofs.LeftOutLemmas.{start_geometry}

-- a stretch that is tolerated so was so up to each of its moments
module _ (g : Geometry) (before old h new : List Happening) (at : IsMoment old h new) (is : IsToleratedMixed g before old new) where
  pub mixed_sooner : IsToleratedMixed g before old h
  mixed_sooner = tolerated_inside g before (λ m sooner. moment_sooner sooner at) is

  -- by the same slots that count as failed
  pub sooner_failed : mixed_sooner.failed ≡ is.failed
  unfolding mixed_sooner
  sooner_failed = inside_failed g before (λ m sooner. moment_sooner sooner at) is

-- WHAT A SURVEY FOUND at its end, in the session that it began

pub record IsFoundAny (s : State) (first : RackState) (u : Snapshot) : Type 0 where
  pub stands : IsConsistentUnderReassembly s first.history
  pub surveys : Surveys (Ok u.member) first u.told
  pub rules : IsMembership u.member

module _ (s : State) (first : RackState) (u : Snapshot) (found : IsFoundAny s first u) (honest : IsTrue u.told.honest)
    (mixed : IsToleratedMixed s.geometry first.history first.history u.told.history) where
  abbrev before : List Happening
  before = first.history

  pub found_begins : BeginsWherever (without_seats s) found.stands.current_media found.stands.since Fence u.member u.told.history
  found_begins =
      opening_begins s found.stands.current_media found.stands.since first.history first u.told (Ok u.member) u.member found.surveys honest
      (ran_none {allowed = any_call} first.history) found.stands.is mixed found.rules refl

  pub found_geometry : u.member.array.geometry ≡ s.geometry
  found_geometry = found_begins.geometry

  found_own : BeginsWherever (unseated u.member.array.geometry s.content s.in_doubt) found.stands.current_media found.stands.since Fence u.member u.told.history
  found_own =
      subst
      (λ (y : Geometry). BeginsWherever (unseated y s.content s.in_doubt) found.stands.current_media found.stands.since Fence u.member u.told.history)
      (sym found_begins.geometry) found_begins

  -- who takes part is held
  pub found_held : (j : ℕ) → IsHere u.member j → IsHeld first.history u.told.history j
  found_held j here =
      (found.surveys.found.each j (omega (arith, here.below, few))).held honest not_gone first.history (ran_none {allowed = any_call} first.history)
    where
      few : u.member.array.geometry.n ≤ 32
      few = found.rules.array.limits.devices.1

      surveyed : IsSurveyed found.surveys.findings u.member
      surveyed = found.surveys.answered.0

      not_gone : ¬ HasSlot found.surveys.findings.gone j
      not_gone = let late = here_late u.member j here in (surveyed.reasons j here.below).first Gone (omega (arith, late))

  pub found_ran : Ran any_call first.history u.told.history
  found_ran = ran_any {allowed = LeavesSectors} (asked_ran 32 first.history u.told.history (found.surveys.asked honest))

-- ITS FIRST FENCE

module _ (s : State) (first : RackState) (u w : Snapshot) (found : IsFoundAny s first u) (answer : Result Slots FenceFault)
    (does : Fences no_slots u.member w.member answer u.told w.told) (honest : IsTrue w.told.honest)
    (mixed : IsToleratedMixed s.geometry first.history first.history u.told.history) where
  honest_first : IsTrue u.told.honest
  honest_first = subst IsTrue (sym does.establishes.honest) honest

  abbrev issued : Issued Fence does.establishes.gone does.start w.member u.told.history w.told.history
  issued = does.establishes.issued honest

  none_below : (j : ℕ) → HasSlot no_slots j → j < u.member.array.geometry.n
  none_below j has = absurd (true≢false (sym has ∙ has_slot-none j))

  start_begins : BeginsWherever (without_seats s) found.stands.current_media found.stands.since Fence does.start u.told.history
  start_begins =
      leaves_begins (without_seats s) found.stands.current_media found.stands.since no_slots u.member does.start u.told.history
      (found_begins s first u found honest_first mixed) does.leaves none_below

  -- at each moment of it what a crash leaves represents the state,
  pub first_left : (c : List Happening) → IsMoment u.told.history c w.told.history → (image : Image) → CrashMayLeave c image
      → IsConsistentUnderReassembly (without_seats s) (Made image ∷ [])
  first_left =
      fence_left (without_seats s) refl found.stands.current_media found.stands.since does.establishes.gone does.start w.member u.told.history w.told.history
      start_begins issued

  -- and so does the rack in the end,
  pub first_ended : ¬ IsTrue (stopped w.told.history) → IsConsistentUnderReassembly (without_seats s) w.told.history
  first_ended =
      fence_ended (without_seats s) refl found.stands.current_media found.stands.since does.establishes.gone does.start w.member u.told.history w.told.history
      start_begins issued

  -- from where the recovery goes on, if it isn't refused
  module _ (fine : refusal_of answer ≡ None) (going : ¬ IsTrue (stopped w.told.history)) where
    done : Establishes Fence does.start w.member None u.told w.told
    done = subst (λ (r : Option FenceFault). Establishes Fence does.start w.member r u.told w.told) fine does.establishes

    stands : StandsWherever Fence done.gone does.start w.member u.told.history w.told.history
    stands = established Fence does.start w.member u.told w.told done honest (λ slot never. absurd (cc))

    start_own : BeginsWherever (unseated does.start.array.geometry s.content s.in_doubt) found.stands.current_media found.stands.since Fence does.start u.told.history
    start_own =
        subst
        (λ (y : Geometry). BeginsWherever (unseated y s.content s.in_doubt) found.stands.current_media found.stands.since Fence does.start u.told.history)
        (sym start_begins.geometry) start_begins

    held_start : (j : ℕ) → IsHere does.start j → IsHeld first.history u.told.history j
    held_start j here =
        found_held s first u found honest_first mixed j
        (record {
          below = subst (λ (y : Geometry). j < y.n) (start_geometry no_slots u.member does.start does.leaves) here.below;
          why =
              elim here.why [
                | inl is ↦ inl (sym (does.leaves.others j (λ has. true≢false (sym has ∙ has_slot-none j))) ∙ is)
                | inr is ↦ inr (sym (does.leaves.others j (λ has. true≢false (sym has ∙ has_slot-none j))) ∙ is)
              ];
        })

    pub first_untouched : IsUntouched first.history s.content s.in_doubt w.member w.told.history
    first_untouched =
        stands_untouched s.content s.in_doubt found.stands.current_media found.stands.since done.gone does.start w.member first.history u.told.history w.told.history
        start_own stands going
        (first_amid s.content s.in_doubt found.stands.current_media found.stands.since done.gone does.start w.member first.history u.told.history w.told.history
        start_own stands going (found_ran s first u found honest_first mixed) held_start)

    pub first_synced : AreSynced w.member w.told.history
    first_synced =
        synced s.content s.in_doubt found.stands.current_media found.stands.since done.gone does.start w.member first.history u.told.history w.told.history start_own
        stands going

    pub first_geometry : w.member.array.geometry ≡ s.geometry
    first_geometry = stands.established.stands.geometry ∙ start_begins.geometry
