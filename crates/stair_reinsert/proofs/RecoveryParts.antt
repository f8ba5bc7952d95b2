-- A recovery that found a redo reads its body, whichever media come back: at each moment the rack represents the state, and within tolerance
-- the redo can be done again.
use Rattle.std.proofs.Common.{IsTrue, List, None, Option, Some, inl, inr, refl, subst, ◌<◌, ◌≡◌, arith, ℕ}
use Rattle.std.proofs.lemmas.Bool.{cases_Bool, cases_lt}
use Rattle.stair_model.specs.CellSet.{HasCell}
use Rattle.stair_model.specs.Slots.{HasSlot, Slots}
use Rattle.stair_model.specs.Stripe.{Stripe, cell}
use Rattle.stair_rack.specs.Answers.{IsNoAttach, Ran, any_call}
use Rattle.stair_rack.specs.Crash.{image_now}
use Rattle.stair_rack.specs.History.{Happening, slot_state}
use Rattle.stair_rack.specs.Moments.{AtEveryMoment, IsMoment}
use Rattle.stair_rack.specs.Offline.{IsOffline}
use Rattle.stair_rack.specs.Placed.{IsSlot}
use Rattle.stair_rack.specs.Stretch.{every_slot}
use Rattle.stair_rack.specs.RackState.{rack_state}
use Rattle.stair_rack.proofs.CrashLemmas.{CrashMayLeave-now}
use Rattle.stair_rack.proofs.MomentLemmas.{at_every_from, at_every_join, moment_between, ran_before, ran_join, ran_weakened}
use Rattle.stair_rack.proofs.OfflineLemmas.{pulls_on}
use Rattle.stair_member.specs.declared.fault.FenceFault.{FenceFault}
use Rattle.stair_journal.specs.declared.body.Body.{Body}
use Rattle.stair_journal.specs.declared.redo.Redo.{Redo}
use Rattle.stair_state.specs.Holding.{IsConsistentUnderReassembly, IsCurrentMedium}
use Rattle.stair_state.specs.Redoing.{AttachesNone, WritesNone}
use Rattle.stair_state.specs.State.{Change, Content}
use Rattle.stair_state.specs.Tolerance.{IsWithinTolerance}
use Rattle.stair_state.proofs.HoldingLemmas.{live_current_medium}
use Rattle.stair_state.proofs.OutsideLemmas.{tolerated_alone}
use Rattle.stair_invariant.specs.Effects.{FindsBody, FencesGone, Snapshot, snapshot}
use Rattle.stair_invariant.specs.Returning.{AnyReturns, current_media_of}
use Rattle.stair_invariant.specs.Session.{IsLiveIn}
use Rattle.stair_invariant.proofs.AmidRedoLemmas.{leaves_write, live_still}
use Rattle.stair_invariant.proofs.RedoingLemmas.{out_ran}
use Rattle.stair_invariant.proofs.Serving.{StaysWithinToleranceTo, any_read, tolerated_now}
use Rattle.stair_reinsert.proofs.NameLemmas.{still_attached}
use Rattle.stair_reinsert.proofs.RecoveryBody.{amid_reads, body_cells, body_reads, body_whole, still_unwritten}
use Rattle.stair_reinsert.proofs.RecoveryFence.{unseated}
use Rattle.stair_reinsert.proofs.RecoveryFinding.{StandsUnseated}
use Rattle.stair_reinsert.proofs.RecoveryFound.{IsToldAny, told_still}
use Rattle.stair_reinsert.proofs.RecoveryOut.{amid_alone, amid_out, amid_out_ended, amid_out_left}
use Rattle.stair_reinsert.proofs.RedoPhase.{IsAmidAny}
use Rattle.stair_reinsert.proofs.RedoStart.{in_redo, redo_by}
use Rattle.stair_reinsert.proofs.SessionBehind.{left_reassembled}
use Rattle.stair_reinsert.proofs.StageSince.{since_unwritten}
use Rattle.stair_reinsert.proofs.StoodSince.{IsHeldHere, held_here}

module _ (before : List Happening) (kept : Content) (change : Option Change) (one : Redo) (opened : Slots) (body : Body) (was into : Stripe)
    (refusal : Option FenceFault) (x y : Snapshot) (found : FindsBody one body was into refusal x y) (is : IsToldAny before kept change (Some one) opened x)
    (honest : IsTrue y.told.honest) where
  reads : Ran any_read x.told.history found.mid.history
  reads = body_reads before kept change one opened body was into refusal x y found is honest

  pub body_amid : IsAmidAny before is.of is.stage None None
      (snapshot x.member found.mid)
  body_amid = amid_reads before kept change (Some one) opened x found.mid is reads

  below : (j : ℕ) → HasSlot body.gone j → j < x.member.array.geometry.n
  below j has = ((found.are_live.are j).0 (found.reads.live_gone j has)).below

  out : Ran any_call found.mid.history y.told.history
  out = out_ran body.gone refusal (snapshot x.member found.mid) y found.leaves honest

  -- at each moment whatever a crash leaves represents the state,
  pub body_moments : AtEveryMoment (StandsUnseated before kept change is.m.array.geometry) x.told.history y.told.history
  body_moments =
      at_every_join {P = StandsUnseated before kept change is.m.array.geometry}
      (at_every_from {P = StandsUnseated before kept change is.m.array.geometry} reads.more reads.is
      (λ c at calm image left.
      amid_alone before is.of is.stage (snapshot x.member (rack_state x.told.honest c x.told.bads x.told.gones))
      (amid_reads before kept change (Some one) opened x (rack_state x.told.honest c x.told.bads x.told.gones) is (ran_before {allowed = any_read} reads at))
      image left))
      (at_every_from {P = StandsUnseated before kept change is.m.array.geometry} out.more out.is
      (λ c at calm image left.
      amid_out_left before is.of is.stage (snapshot x.member found.mid) body_amid body.gone refusal y found.leaves honest below c at calm image left))

  -- and so does the rack in the end
  pub body_ended : StaysWithinToleranceTo AnyReturns is.m.array.geometry before y.told.history
      → IsConsistentUnderReassembly (unseated is.m.array.geometry kept change) y.told.history
  body_ended calm =
      amid_out_ended before is.of is.stage (snapshot x.member found.mid) body_amid body.gone refusal y found.leaves honest below calm

  -- WHERE NO EPOCH WAS REFUSED

  -- the redo that was told, with its cells
  pub record IsReadAny : Type 0 where
    pub told : IsToldAny before kept change (Some one) opened y
    pub same : one ≡ told.redo
    pub geometry : told.m.array.geometry ≡ is.m.array.geometry
    pub cells : body.unread ≡ None → (i c : ℕ) → HasCell told.redo.cells i c → cell into i c ≡ cell (told.last told.redo.stripe) i c
    pub whole : body.unread ≡ None

  module _ (fine : refusal ≡ None) (calm : StaysWithinToleranceTo AnyReturns is.m.array.geometry before y.told.history) where
    leaves : FencesGone body.gone None (snapshot x.member found.mid) y
    leaves = subst (λ (o : Option FenceFault). FencesGone body.gone o (snapshot x.member found.mid) y) fine found.leaves

    live_first : (j : ℕ) → IsLiveIn y.member j → IsLiveIn x.member j × ¬ HasSlot body.gone j
    live_first j live = live_still body.gone x.member found.mid y j leaves live

    unwritten : (j : ℕ) → Ran (WritesNone (IsSlot j)) found.mid.history y.told.history
    unwritten j = leaves_write (IsSlot j) body.gone x.member found.mid y leaves honest

    from_start : IsMoment is.start found.mid.history y.told.history
    from_start = moment_between {a = AttachesNone every_slot} {b = any_call} body_amid.amid.ran out

    amid_y : IsAmidAny before is.of is.stage None None y
    amid_y =
        amid_out before is.of is.stage (snapshot x.member found.mid) body_amid body.gone y leaves honest below calm is.stage (λ j live on.
        since_unwritten (redo_by is.m is.first is.last is.redo) is.stage is.start found.mid.history j
        (body_amid.since j (live_first j live).0 (is.used j (live_first j live).0)) y.told.history from_start (unwritten j))
        (inr (λ j live. is.used j (live_first j live).0))

    abbrev told_y : IsToldAny before kept change (Some one) opened y
    told_y =
        told_still before kept change (Some one) opened x y is amid_y (λ j live. (live_first j live).0)
        (λ j.
        ran_join {allowed = WritesNone (IsSlot j)} (still_unwritten before kept change (Some one) opened x found.mid is reads j) (unwritten j))

    -- THE SLOT WHOSE JOURNAL IS WHOLE

    within : IsWithinTolerance (IsOffline before y.told.history) is.m.array.geometry (image_now y.told.history)
    within =
        tolerated_now AnyReturns is.m.array.geometry before y.told.history amid_y.amid.amid.ran calm (image_now y.told.history)
        (CrashMayLeave-now y.told.history)

    current_medium : IsCurrentMedium is.m.array.geometry (current_media_of y.member) within.journal_slot ((image_now y.told.history within.journal_slot).cell)
    current_medium =
        live_current_medium (in_redo is.m kept change) amid_y.consistent.encodings (current_media_of y.member) y.member.array.epoch (image_now y.told.history)
        (amid_y.consistent.each (image_now y.told.history) (CrashMayLeave-now y.told.history)) (image_now y.told.history)
        (left_reassembled y.told.history amid_y.history (image_now y.told.history) (CrashMayLeave-now y.told.history))
        (tolerated_alone is.m.array.geometry before y.told.history (image_now y.told.history)
        (tolerated_now AnyReturns is.m.array.geometry before y.told.history amid_y.amid.amid.ran calm) (CrashMayLeave-now y.told.history))
        within.current within.is_current within.journal_slot within.journal.serves.live

    held : IsHeldHere y.member within.journal_slot current_medium.super.joined
    held = held_here y.member within.journal_slot current_medium.super.joined current_medium.joined

    journal_live : IsLiveIn y.member within.journal_slot
    journal_live = record { below = held.below; why = held.here }

    same_pulls : (slot_state y.told.history within.journal_slot).pulls ≡ (slot_state is.start within.journal_slot).pulls
    same_pulls =
        elim (cases_Bool (slot_state y.told.history within.journal_slot).attached) [
          | inl used ↦ (still_attached within.journal_slot unattached used).1
          | inr off ↦
              let least = pulls_on {allowed = any_call} within.journal_slot is.began in
              let most = pulls_on {allowed = IsNoAttach within.journal_slot} within.journal_slot unattached in
              elim (cases_lt (slot_state before within.journal_slot).pulls (slot_state y.told.history within.journal_slot).pulls) [
                | inl pulled ↦ absurd (within.journal.serves.online (IsOffline.Unattached off pulled))
                | inr unpulled ↦ omega (arith, least, most, unpulled)
              ]
        ]
      where
        unattached : Ran (IsNoAttach within.journal_slot) is.start y.told.history
        unattached =
            ran_weakened {allowed = AttachesNone every_slot} {more = IsNoAttach within.journal_slot} (λ i call may same. may tt) amid_y.amid.ran

    -- So the redo can be done again.
    pub body_read : IsReadAny
    body_read = record {
      told = told_y;
      same = (is.some one refl).0;
      geometry = refl;
      cells = body_cells before kept change one opened body was into refusal x y found is honest;
      whole =
          body_whole before kept change one opened body was into refusal x y found is honest y.told.history within.journal_slot
          (live_first within.journal_slot journal_live).0 (live_first within.journal_slot journal_live).1 (unwritten within.journal_slot) same_pulls
          within.journal.whole;
    }
