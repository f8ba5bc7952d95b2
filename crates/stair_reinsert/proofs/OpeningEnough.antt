-- Within tolerance a recovery of an array whose media come back isn't refused for want of slots.
use Rattle.std.proofs.Common.{Err, IsTrue, List, Ok, Result, refl, sym, subst, inl, arith, true≢false, ◌<◌, ◌∙◌, ◌≡◌, ℕ}
use Rattle.stair_model.specs.Geometry.{Geometry}
use Rattle.stair_model.specs.Slots.{HasSlot, Slots, no_slots}
use Rattle.stair_model.proofs.SetLaws.{has_slot-none}
use Rattle.stair_rack.specs.Answers.{Ran, any_call}
use Rattle.stair_rack.specs.Crash.{image_now}
use Rattle.stair_rack.specs.History.{slot_state}
use Rattle.stair_rack.specs.Media.{has_sector}
use Rattle.stair_rack.specs.Moments.{IsMoment}
use Rattle.stair_rack.specs.Offline.{IsAttached, IsHeld}
use Rattle.stair_rack.specs.RackState.{RackState}
use Rattle.stair_rack.proofs.CrashLemmas.{CrashMayLeave-now}
use Rattle.stair_rack.proofs.MomentLemmas.{moment_between, moment_last, ran_any, ran_join, ran_none}
use Rattle.stair_rack.proofs.OfflineLemmas.{offline_now}
use Rattle.stair_super.specs.Superblock.{joined_in, mark_in}
use Rattle.stair_super.specs.declared.mark.Mark.TheVariants as mark
use Rattle.stair_member.specs.Asked.{LeavesSectors}
use Rattle.stair_member.specs.Counting.{AtMost}
use Rattle.stair_member.specs.Establishing.{Fences}
use Rattle.stair_member.specs.Membership.{IsMarkedFor, IsMissing, Membership, why_of}
use Rattle.stair_member.specs.declared.aim.EpochChange.TheVariants.{Fence}
use Rattle.stair_member.specs.declared.fault.FenceFault.{FenceFault}
use Rattle.stair_member.specs.declared.fault.FenceFault.TheVariants.{TooFew}
use Rattle.stair_member.specs.declared.fault.SurveyFault.{SurveyFault}
use Rattle.stair_member.specs.declared.why.Why.{Why}
use Rattle.stair_member.specs.declared.why.Why.TheVariants as why
use Rattle.stair_member.proofs.AskedLemmas.{asked_ran}
use Rattle.stair_invariant.specs.Effects.{Snapshot}
use Rattle.stair_invariant.specs.Mixed.{IsToleratedMixed}
use Rattle.stair_invariant.specs.Session.{IsLiveIn}
use Rattle.stair_invariant.proofs.EnoughLeft.{few_enough, missing_away, missing_below}
use Rattle.stair_state.specs.State.{State, without_seats}
use Rattle.stair_state.specs.Represents.{IsLargeEnough}
use Rattle.stair_array.proofs.RecoveredLemmas.{fence_ran}
use Rattle.stair_reinsert.specs.Beginning.{BeginsWherever}
use Rattle.stair_reinsert.specs.Behind.{InUse}
use Rattle.stair_reinsert.specs.Found.{FindsMember}
use Rattle.stair_reinsert.proofs.MixedImages.{moment_mixed, offline_failed}
use Rattle.stair_reinsert.proofs.RecoverySurvey.{IsFoundAny, found_begins, found_held, mixed_sooner, sooner_failed}
use Rattle.stair_reinsert.proofs.SessionBehind.{left_reassembled}
use Rattle.stair_reinsert.proofs.SurveyLemmas.{finds}

-- THE FIRST FENCE

module _ (s : State) (first : RackState) (u w : Snapshot) (found : IsFoundAny s first u) (fault : FenceFault)
    (does : Fences no_slots u.member w.member (Err fault) u.told w.told) (honest : IsTrue w.told.honest)
    (mixed : IsToleratedMixed s.geometry first.history first.history w.told.history) where
  honest_u : IsTrue u.told.honest
  honest_u = subst IsTrue (sym does.establishes.honest) honest

  ran_u : Ran any_call first.history u.told.history
  ran_u = ran_any {allowed = LeavesSectors} (asked_ran 32 first.history u.told.history (found.surveys.asked honest_u))

  ran_w : Ran any_call u.told.history w.told.history
  ran_w = fence_ran u.member w.member (Err fault) u.told w.told does honest

  end : IsMoment first.history w.told.history w.told.history
  end = let all = ran_join {allowed = any_call} ran_u ran_w in moment_last all.more all.is

  abbrev mixed_u : IsToleratedMixed s.geometry first.history first.history u.told.history
  mixed_u =
      mixed_sooner s.geometry first.history first.history u.told.history w.told.history (moment_between {a = any_call} {b = any_call} ran_u ran_w) mixed

  begins : BeginsWherever (without_seats s) found.stands.current_media found.stands.since Fence u.member u.told.history
  begins = found_begins s first u found honest_u mixed_u

  none_left : (j : ℕ) → ¬ HasSlot no_slots j
  none_left j has = true≢false (sym has ∙ has_slot-none j)

  held : (j : ℕ) → IsLiveIn u.member j → IsHeld first.history u.told.history j
  held j live = found_held s first u found honest_u mixed_u j (record { below = live.below; why = inl live.why })

  -- a live slot that is attached has the medium that holds its chunk, which is large enough
  size : (j : ℕ) → IsLiveIn u.member j → IsAttached u.told.history j → IsTrue (has_sector (slot_state u.told.history j).size 1)
  size j live on = large 1 (omega arith)
    where
      marked : mark_in u.member.array j ≡ mark.Live
      marked = subst (λ (w : Why). IsMarkedFor w (mark_in u.member.array j)) live.why (found.rules.marked j live.below)

      large : IsLargeEnough s.geometry (slot_state u.told.history j).size
      large =
          begins.behind.full (image_now u.told.history) (CrashMayLeave-now u.told.history) (image_now u.told.history) j
          (left_reassembled u.told.history begins.history (image_now u.told.history) (CrashMayLeave-now u.told.history))
          (record {
            joined = joined_in u.member.array j;
            current_medium = begins.meant.live j marked;
            number = InUse (record { below = live.below; why = inl live.why }) on refl refl (λ k. inl refl);
          })

  missed : FindsMember s.geometry mixed_u.failed (Ok u.member)
  missed = finds first.history first u.told (Ok u.member) found.surveys honest_u (ran_none {allowed = any_call} first.history) s.geometry mixed_u

  -- what counts as failed up to the survey's end does so to the fence's
  failed_later : (j : ℕ) → HasSlot mixed_u.failed j → HasSlot mixed.failed j
  failed_later j has =
      subst (λ (slots : Slots). HasSlot slots j)
      (sooner_failed s.geometry first.history first.history u.told.history w.told.history (moment_between {a = any_call} {b = any_call} ran_u ran_w) mixed)
      has

  once : {a b : Membership} → ◌≡◌ {A = Result Membership SurveyFault} (Ok a) (Ok b) → a ≡ b
  once same = cc

  -- each slot that is missed at last is one of those that count as failed
  failed : (j : ℕ) → IsMissing w.member j → HasSlot mixed.failed j
  failed j missing = by (why_of u.member j) refl
    where
      below : j < s.geometry.n
      below =
          missing_below Fence first.history u.member does.start no_slots does.leaves w.member fault u.told w.told does.establishes honest (λ i live. refl)
          s.geometry (sym begins.geometry) held size (λ i live has. absurd (none_left i has)) j missing

      below_u : j < u.member.array.geometry.n
      below_u = subst (λ (x : Geometry). j < x.n) (sym begins.geometry) below

      by : (w : Why) → why_of u.member j ≡ w → HasSlot mixed.failed j
      by why.Here is =
          offline_failed s.geometry first.history first.history w.told.history mixed (image_now w.told.history) j
          (moment_mixed w.told.history (image_now w.told.history) end (CrashMayLeave-now w.told.history)) below
          (record {
            moment = w.told.history;
            is_one = end;
            holds =
                offline_now
                (missing_away Fence first.history u.member does.start no_slots does.leaves w.member fault u.told w.told does.establishes honest
                (λ i live. refl) s.geometry (sym begins.geometry) held size (λ i live has. absurd (none_left i has)) j
                (record { below = below_u; why = is }) missing);
          })
      by other is =
          failed_later j
          (subst (λ (a : Membership). IsMissing a j → HasSlot mixed_u.failed j) (sym (once missed.found)) (missed.missing j)
          (record { below = below_u; why = λ here. let never : other ≡ why.Here = sym is ∙ here in absurd (cc) }))

  few : AtMost s.geometry.m (IsMissing w.member)
  few = record { slots = mixed.failed; formed = mixed.formed; few = mixed.few; within = failed }

  pub first_enough : (whys : List Why) → ¬ (fault ≡ TooFew whys)
  first_enough =
      few_enough Fence first.history u.member does.start no_slots does.leaves w.member fault u.told w.told does.establishes honest (λ i live. refl)
      s.geometry (sym begins.geometry) held size (λ i live has. absurd (none_left i has)) few
