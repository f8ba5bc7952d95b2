-- Within tolerance slots that were gone are left out of a recovery, and that isn't refused for want of slots, whichever media come back.
use Rattle.std.proofs.Common.{IsTrue, List, Option, Result, Some, inl, refl, subst, ◌<◌, ◌≡◌, ℕ, arith, ◌≤◌, None, sym, ◌∙◌}
use Rattle.stair_model.specs.Geometry.{Geometry}
use Rattle.stair_model.specs.Slots.{HasSlot, Slots}
use Rattle.stair_rack.specs.Answers.{Ran, any_call}
use Rattle.stair_rack.specs.Crash.{image_now}
use Rattle.stair_rack.specs.History.{Happening, slot_state}
use Rattle.stair_rack.specs.Offline.{IsAttached, IsOfflineUntilAttached}
use Rattle.stair_rack.specs.RackState.{RackState}
use Rattle.stair_rack.proofs.CrashLemmas.{CrashMayLeave-now}
use Rattle.stair_rack.proofs.MomentLemmas.{moment_between, ran_join}
use Rattle.stair_super.specs.Superblock.{Superblock, joined_in}
use Rattle.stair_member.specs.declared.fault.FenceFault.TheVariants as fence
use Rattle.stair_member.specs.Establishing.{Fences, refusal_of}
use Rattle.stair_member.specs.Membership.{Membership}
use Rattle.stair_member.specs.declared.fault.FenceFault.{FenceFault}
use Rattle.stair_member.specs.declared.why.Why.{Why}
use Rattle.stair_journal.specs.declared.redo.Redo.{Redo}
use Rattle.stair_state.specs.Holding.{IsBorneSince}
use Rattle.stair_state.specs.Represents.{IsLargeEnough}
use Rattle.stair_state.specs.State.{Change, Content}
use Rattle.stair_state.specs.Tolerance.{IsTolerated}
use Rattle.stair_invariant.specs.Effects.{Fenced, FindsRedo, FencesGone, NoneWas, Snapshot, snapshot}
use Rattle.stair_invariant.specs.Returning.{current_media_of, AnyReturns}
use Rattle.stair_invariant.specs.Session.{IsLiveIn}
use Rattle.stair_invariant.proofs.FindsLemmas.{found_ran, honest_back}
use Rattle.stair_invariant.proofs.HonestLemmas.{found_honest, left_honest}
use Rattle.stair_invariant.proofs.RedoingLemmas.{out_ran}
use Rattle.stair_invariant.proofs.Serving.{StaysWithinToleranceTo, tolerated_now}
use Rattle.stair_reinsert.specs.Behind.{HasNumber}
use Rattle.stair_reinsert.proofs.FenceLeaving.{never_few}
use Rattle.stair_reinsert.proofs.RecoveryFence.{IsUntouched, unseated}
use Rattle.stair_reinsert.proofs.RecoveryFinding.{calm_then, left_same, left_untouched, round_untouched}
use Rattle.stair_reinsert.proofs.RecoveryLeaving.{leaving_begins}
use Rattle.stair_reinsert.proofs.SessionBehind.{left_reassembled}
use Rattle.stair_reinsert.proofs.StoodSince.{current_media_here}

module _ (before : List Happening) (kept : Content) (change : Option Change) (leaving : Slots) (m last : Membership) (answer : Result Slots FenceFault)
    (old new : RackState) (is : IsUntouched before kept change m old.history) (does : Fences leaving m last answer old new) (honest : IsTrue new.honest)
    (below : (j : ℕ) → HasSlot leaving j → j < m.array.geometry.n) (tolerated : IsTolerated m.array.geometry before old.history)
    (within : IsTolerated m.array.geometry before new.history)
    (off : (j : ℕ) → IsLiveIn m j → HasSlot leaving j → IsOfflineUntilAttached before old.history j) where
  -- what was borne since the member's epoch names what the member has
  names : (x : Superblock) → IsBorneSince m.array.geometry m.array.epoch (image_now old.history) x → x.array ≡ m.array
  names x there =
      let least : m.array.epoch ≤ x.array.epoch = there.since_then in
      let most : x.array.epoch ≤ m.array.epoch =
      is.latest (image_now old.history) (CrashMayLeave-now old.history) there.slot there.place x there.borne in
      (is.known (image_now old.history) (CrashMayLeave-now old.history)).named there.slot there.place x there.borne (omega (arith, least, most))

  large : (j : ℕ) → IsLiveIn m j → IsAttached old.history j → IsLargeEnough m.array.geometry (slot_state old.history j).size
  large j live on =
      is.stands.behind.full (image_now old.history) (CrashMayLeave-now old.history) (image_now old.history) j
      (left_reassembled old.history is.history (image_now old.history) (CrashMayLeave-now old.history))
      (record {
        joined = joined_in m.array j;
        current_medium = current_media_here m j live.below live.why;
        number = HasNumber.InUse (record { below = live.below; why = inl live.why }) on refl refl (λ k. inl refl);
      })

  pub leaving_enough : (whys : List Why) → ¬ (refusal_of answer ≡ Some (fence.TooFew whys))
  leaving_enough =
      never_few (unseated m.array.geometry kept change) (current_media_of m) before leaving m last answer old new does honest is.amid.array.member
      is.amid.array.marks refl (leaving_begins before kept change leaving m last answer old new is does honest below tolerated) names within
      (λ j live. is.amid.held j (record { below = live.below; why = inl live.why })) large off

-- SO IT IS WHERE GATES ARE READ

module _ (before : List Happening) (kept : Content) (change : Option Change) (g : Geometry) where
  pub finding_enough : (redo : Option Redo) (opened : Slots) (whys : List Why) (refusal : Option FenceFault) (x z : Snapshot)
      → FindsRedo redo opened refusal x z → refusal ≡ Some (fence.TooFew whys) → IsUntouched before kept change x.member x.told.history
      → x.member.array.geometry ≡ g → IsTrue z.told.honest → StaysWithinToleranceTo AnyReturns g before z.told.history → ⊥
  finding_enough _ _ whys _ _ _ (FindsRedo.Found gates live mid x are reads none) refused is same honest calm = cc
  finding_enough _ _ whys _ _ _ (FindsRedo.Again gates live mid redo opened refusal j x y z are reads gone leaves rest) refused is same honest calm =
      let honest_y = honest_back y.told z.told (found_honest redo opened refusal y z rest) honest in
      let honest_mid = honest_back mid y.told (left_honest gates.gone None (snapshot x.member mid) y leaves) honest_y in
      let calm_y =
      calm_then before kept change g x is same live gates mid are reads honest_mid None y leaves honest_y z.told.history
      (found_ran redo opened refusal y z rest honest) calm in
      finding_enough redo opened whys refusal y z rest refused
      (left_untouched before kept change g x is same live gates mid are reads honest_mid None y leaves honest_y calm_y refl)
      (left_same before kept change g x is same live gates mid are reads honest_mid None y leaves) honest calm
  finding_enough _ _ whys _ _ _ (FindsRedo.Stops gates live mid redo opened fault x y are reads leaves) refused is same honest calm = by leaves
    where
      honest_mid : IsTrue mid.honest
      honest_mid = honest_back mid y.told (left_honest gates.gone (Some fault) (snapshot x.member mid) y leaves) honest

      read : IsUntouched before kept change x.member mid.history
      read = round_untouched before kept change g x is same live gates mid are reads honest_mid

      later : Ran any_call mid.history y.told.history
      later = out_ran gates.gone (Some fault) (snapshot x.member mid) y leaves honest

      own : (h : List Happening) → IsTolerated g before h → IsTolerated x.member.array.geometry before h
      own h tolerated = subst (λ (k : Geometry). IsTolerated k before h) (sym same) tolerated

      by : FencesGone gates.gone (Some fault) (snapshot x.member mid) y → ⊥
      by (NoneWas out stays fine) = cc
      by (Fenced j has answer fine does) =
          leaving_enough before kept change gates.gone x.member y.member answer mid y.told read does honest
          (λ i gone. ((are.are i).0 (reads.live_gone i gone)).below)
          (own mid.history (calm mid.history (moment_between {a = any_call} {b = any_call} read.amid.ran later)))
          (own y.told.history
          (tolerated_now AnyReturns g before y.told.history (ran_join {allowed = any_call} read.amid.ran later) calm))
          (λ i alive gone. (reads.gone i gone).shut honest_mid before (is.amid.held i (record { below = alive.below; why = inl alive.why }))) whys
          (sym fine ∙ refused)
