-- Within tolerance a slot in use has a whole journal.
use Rattle.std.proofs.Common.{◌≡◌, ℕ, ◌≤◌, List, inl, inr, sym, ap, ◌∙◌, arith}
use Rattle.stair_rack.specs.Crash.{CrashMayLeave}
use Rattle.stair_rack.specs.History.{Happening}
use Rattle.stair_rack.specs.Media.{Image}
use Rattle.stair_rack.specs.Offline.{IsAttached}
use Rattle.stair_super.specs.Superblock.{mark_in}
use Rattle.stair_super.specs.declared.configuration.Configuration.{Configuration}
use Rattle.stair_member.specs.Membership.{IsHere, Membership, why_of}
use Rattle.stair_member.specs.Reserve.{BearsFor}
use Rattle.stair_member.specs.declared.aim.EpochChange.TheVariants.{Fence}
use Rattle.stair_member.specs.declared.why.Why.TheVariants.{Here}
use Rattle.stair_member.proofs.SuperLemmas.{counts_bears}
use Rattle.stair_state.specs.Forms.{HasGate}
use Rattle.stair_state.specs.Tolerance.{IsWithinTolerance}
use Rattle.stair_state.proofs.ToleranceLemmas.{journal_gate}
use Rattle.stair_invariant.specs.InSession.{HasEpoch}
use Rattle.stair_invariant.specs.UnderWay.{IsInUse}
use Rattle.stair_invariant.proofs.ChangingLemmas.{AsBefore, New, current_now, live_here}
use Rattle.stair_invariant.proofs.MidwayLemmas.{bears_none}
use Rattle.stair_invariant.proofs.UnderWayImages.{unchanging}

abbrev no_one : ℕ → Type 0
no_one j = ⊥

module _ {offline : ℕ → Type 0} (m : Membership) (h : List Happening) (is : HasEpoch m h) (image : Image) (left : CrashMayLeave h image)
    (within : IsWithinTolerance offline m.array.geometry image) where
  -- what is current is of the member's epoch
  pub names_epoch : within.current.array ≡ m.array
  names_epoch =
      elim
      (current_now Fence no_one m {offline = offline} image within.current (unchanging m h is image left) within.is_current within.few) [
        | AsBefore same ↦ same
        | New above named ↦
            let most : within.current.array.epoch ≤ m.array.epoch =
            (is.begun.known image left).latest within.current.slot within.current
            (counts_bears m.array.geometry image within.current.slot within.current within.is_current.counts) in
            absurd (omega arith)
      ]

  -- a slot that takes part and bears anything is attached
  attached_of : (j : ℕ) → IsHere m j → BearsFor m.array.geometry image j → IsAttached h j
  attached_of j here for =
      elim (is.own j here) [
        | inl on ↦ on.0
        | inr off ↦ absurd (bears_none m.array.geometry h image j left off.1 for)
      ]

  why_here : why_of m within.journal_slot ≡ Here
  why_here =
      let live = within.journal.serves.live in
      live_here (why_of m within.journal_slot)
      (sym (is.marks within.journal_slot live.below) ∙ ap (λ (c : Configuration). mark_in c within.journal_slot) (sym names_epoch) ∙ live.marked)

  pub journal_in_use : IsInUse m h within.journal_slot
  journal_in_use =
      let live = within.journal.serves.live in (
        record { below = live.below; why = why_here },
        attached_of within.journal_slot (record { below = live.below; why = inl why_here })
            (record { super = live.super; bears = counts_bears m.array.geometry image within.journal_slot live.super live.counts }),
      )

  -- and so one of their gates isn't lost
  pub gate_in_use : HasGate (IsInUse m h) image
  gate_in_use = record {
    slot = within.journal_slot;
    among = journal_in_use;
    kept = journal_gate offline m.array.geometry image within.current within.journal_slot within.journal;
  }
