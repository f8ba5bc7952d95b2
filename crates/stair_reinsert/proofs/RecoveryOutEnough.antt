-- Slots that were gone to the reads of a redo's body are left out within tolerance, and that isn't refused for want of slots.
use Rattle.stair_journal.specs.declared.redo.Redo.{Redo}
use Rattle.stair_member.specs.declared.fault.FenceFault.TheVariants as fence
use Rattle.stair_member.specs.declared.fault.FenceFault.{FenceFault}
use Rattle.stair_member.specs.declared.why.Why.{Why}
use Rattle.stair_model.specs.Slots.{Slots}
use Rattle.stair_rack.proofs.MomentLemmas.{moment_between, ran_join, ran_any, ran_none}
use Rattle.stair_rack.specs.Answers.{Ran, any_call}
use Rattle.stair_rack.specs.History.{Happening}
use Rattle.stair_invariant.proofs.FindsLemmas.{honest_back}
use Rattle.stair_invariant.proofs.HonestLemmas.{left_honest}
use Rattle.stair_invariant.proofs.RedoingLemmas.{out_ran}
use Rattle.stair_invariant.proofs.Serving.{StaysWithinToleranceTo, tolerated_now, any_read}
use Rattle.stair_invariant.specs.Effects.{Fenced, FencesGone, NoneWas, Snapshot, snapshot, FindsBody}
use Rattle.stair_invariant.specs.Returning.{AnyReturns}
use Rattle.stair_state.specs.State.{Change, Content}
use Rattle.std.proofs.Common.{IsTrue, List, Option, Some, inl, ◌≡◌, None, sym, ◌∙◌}
use Rattle.stair_model.specs.Stripe.{Stripe}
use Rattle.stair_rack.specs.Stretch.{every_slot}
use Rattle.stair_journal.specs.declared.body.Body.{Body}
use Rattle.stair_state.specs.Redoing.{AttachesNone}
use Rattle.stair_invariant.specs.InSession.{IsBesideEpochs}
use Rattle.stair_reinsert.proofs.AmidFence.{leaving_enough}
use Rattle.stair_reinsert.proofs.RecoveryBody.{body_mid, body_reads}
use Rattle.stair_reinsert.proofs.RecoveryFound.{IsToldAny}
use Rattle.stair_reinsert.proofs.RecoveryParts.{body_amid}
use Rattle.stair_reinsert.proofs.RedoPhase.{IsAmidAny}

module _ (before : List Happening) (kept : Content) (change : Option Change) (one : Redo) (opened : Slots) (body : Body) (was into : Stripe)
    (refusal : Option FenceFault) (x y : Snapshot) (found : FindsBody one body was into refusal x y) (is : IsToldAny before kept change (Some one) opened x)
    (honest : IsTrue y.told.honest) (calm : StaysWithinToleranceTo AnyReturns is.m.array.geometry before y.told.history) where
  told_mid : IsToldAny before kept change (Some one) opened (snapshot x.member found.mid)
  told_mid = body_mid before kept change one opened body was into refusal x y found is honest

  mid : IsAmidAny before is.of is.stage None None
      (snapshot x.member found.mid)
  mid = body_amid before kept change one opened body was into refusal x y found is honest

  pub body_enough : (whys : List Why) → refusal ≡ Some (fence.TooFew whys) → ⊥
  body_enough whys refused = by found.leaves
    where
      honest_mid : IsTrue found.mid.honest
      honest_mid = honest_back found.mid y.told (left_honest body.gone refusal (snapshot x.member found.mid) y found.leaves) honest

      later : Ran any_call found.mid.history y.told.history
      later = out_ran body.gone refusal (snapshot x.member found.mid) y found.leaves honest

      upto : Ran any_call before found.mid.history
      upto =
          ran_join {allowed = any_call} is.amid.amid.amid.ran
          (ran_any {allowed = any_read} (body_reads before kept change one opened body was into refusal x y found is honest))

      by : FencesGone body.gone refusal (snapshot x.member found.mid) y → ⊥
      by (NoneWas out stays fine) = let never : None ≡ Some (fence.TooFew whys) = sym fine ∙ refused in cc
      by (Fenced j has answer fine does) =
          leaving_enough before is.of is.stage
          None None (snapshot x.member found.mid) mid found.mid (ran_none {allowed = IsBesideEpochs x.member} found.mid.history)
          (ran_none {allowed = AttachesNone every_slot} found.mid.history) mid.since body.gone y.member answer y.told does honest
          (λ i gone. ((found.are_live.are i).0 (found.reads.live_gone i gone)).below)
          (calm found.mid.history (moment_between {a = any_call} {b = any_call} upto later))
          (tolerated_now AnyReturns is.m.array.geometry before y.told.history (ran_join {allowed = any_call} upto later) calm)
          (λ i alive gone.
          (found.reads.gone i gone).shut honest_mid before (is.amid.amid.amid.held i (record { below = alive.below; why = inl alive.why }))) whys
          (sym fine ∙ refused)
