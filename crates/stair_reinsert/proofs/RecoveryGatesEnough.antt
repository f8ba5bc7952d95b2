-- Writing gates in a recovery, and doing a redo again, isn't refused for want of slots within tolerance, whichever media come back.
use Rattle.stair_member.specs.declared.fault.FenceFault.TheVariants as fence
use Rattle.stair_rack.specs.Offline.{IsOfflineUntilAttached}
use Rattle.stair_invariant.proofs.Serving.{StaysWithinToleranceTo, tolerated_now}
use Rattle.std.proofs.Common.{IsTrue, List, Option, Some, inl, subst, ◌≡◌, ℕ, arith, None, sym, ◌∙◌}
use Rattle.stair_model.specs.CellSet.{HasCell}
use Rattle.stair_model.specs.Geometry.{Geometry}
use Rattle.stair_model.specs.Slots.{HasSlot, Slots}
use Rattle.stair_model.specs.Stripe.{Stripe, cell}
use Rattle.stair_rack.specs.Answers.{Ran, any_call}
use Rattle.stair_rack.specs.History.{Happening}
use Rattle.stair_rack.specs.Moments.{AtEveryMoment}
use Rattle.stair_rack.specs.Placed.{Placed}
use Rattle.stair_rack.specs.Stretch.{every_slot}
use Rattle.stair_rack.proofs.MomentLemmas.{moment_between, ran_join, ran_none}
use Rattle.stair_member.specs.declared.fault.FenceFault.{FenceFault}
use Rattle.stair_member.specs.declared.why.Why.{Why}
use Rattle.stair_journal.specs.Gate.{closed_gate, open_gate}
use Rattle.stair_journal.specs.Journalling.{gate_writes}
use Rattle.stair_journal.specs.declared.redo.Redo.{Redo}
use Rattle.stair_journal.proofs.WritesLemmas.{gate_writes_is}
use Rattle.stair_state.specs.Redoing.{AttachesNone, Placing}
use Rattle.stair_state.specs.State.{Change, Content}
use Rattle.stair_state.proofs.StageLemmas.{SlotIn}
use Rattle.stair_invariant.specs.Effects.{AreLive, DoesStage, Fenced, FencesGone, NoneWas, Snapshot, Redoes, Replays, snapshot}
use Rattle.stair_invariant.specs.InSession.{IsBesideEpochs}
use Rattle.stair_invariant.specs.Returning.{AnyReturns}
use Rattle.stair_invariant.specs.Session.{IsLiveIn}
use Rattle.stair_invariant.proofs.RedoingLemmas.{out_ran}
use Rattle.stair_reinsert.proofs.RecoveryFound.{IsToldAny}
use Rattle.stair_reinsert.proofs.RecoveryOpening.{closed_each, gates_mid, gates_placed, live_is, live_to, open_each, gone_below}
use Rattle.stair_reinsert.proofs.AmidFence.{leaving_enough}
use Rattle.stair_reinsert.proofs.RedoPhase.{IsAmidAny, amid_large}
use Rattle.stair_reinsert.proofs.RedoStart.{redo_by}
use Rattle.stair_reinsert.proofs.RecoveryEnd.{placing, end}
use Rattle.stair_reinsert.proofs.RedosLead.{redo_enough}

module _ (before : List Happening) (kept : Content) (change : Option Change) (told : Option Redo) (opened : Slots) (x : Snapshot)
    (is : IsToldAny before kept change told opened x) (gate : List ℕ) (to : Slots) (refusal : Option FenceFault) (y : Snapshot)
    (does : DoesStage (gate_writes gate) to refusal x y) (honest : IsTrue y.told.honest) (live : (j : ℕ) → HasSlot to j → IsLiveIn x.member j)
    (each : Placed (gate_writes gate) (HasSlot to) (HasSlot does.gone) x.told.history does.mid.history → (j : ℕ) → IsLiveIn x.member j
    → AtEveryMoment (λ h. SlotIn (redo_by is.m is.first is.last is.redo) is.stage is.start h j) x.told.history does.mid.history)
    (calm : StaysWithinToleranceTo AnyReturns is.m.array.geometry before y.told.history) where
  phase : Placed (gate_writes gate) (HasSlot to) (HasSlot does.gone) x.told.history does.mid.history
  phase = gates_placed before kept change told opened x is gate to refusal y does honest live each

  mid : IsAmidAny before is.of is.stage None None
      (snapshot x.member does.mid)
  mid = gates_mid before kept change told opened x is gate to refusal y does honest live each

  later : Ran any_call does.mid.history y.told.history
  later = out_ran does.gone refusal (snapshot x.member does.mid) y does.leaves honest

  off : (j : ℕ) → IsLiveIn x.member j → HasSlot does.gone j → IsOfflineUntilAttached before does.mid.history j
  off j alive gone =
      phase.shut before j gone (is.amid.amid.amid.held j (record { below = alive.below; why = inl alive.why }))
      (λ on k bytes written.
      let at = (gate_writes_is gate j k bytes written).at in
      amid_large before is.of is.stage None None x is.amid x.told.history is.amid.amid.ran j alive on k (omega (arith, at)))

  pub gates_enough : (whys : List Why) → refusal ≡ Some (fence.TooFew whys) → ⊥
  gates_enough whys refused = by does.leaves
    where
      by : FencesGone does.gone refusal (snapshot x.member does.mid) y → ⊥
      by (NoneWas out stays fine) = let never : None ≡ Some (fence.TooFew whys) = sym fine ∙ refused in cc
      by (Fenced j has answer fine fences) =
          leaving_enough before is.of is.stage
          None None (snapshot x.member does.mid) mid does.mid (ran_none {allowed = IsBesideEpochs x.member} does.mid.history)
          (ran_none {allowed = AttachesNone every_slot} does.mid.history) mid.since does.gone y.member answer y.told fences honest
          (gone_below before kept change told opened x is gate to refusal y does honest live each)
          (calm does.mid.history (moment_between {a = any_call} {b = any_call} mid.amid.amid.ran later))
          (tolerated_now AnyReturns is.m.array.geometry before y.told.history (ran_join {allowed = any_call} mid.amid.amid.ran later) calm) off whys
          (sym fine ∙ refused)

-- AT REST

pub closing_enough : (before : List Happening) (kept : Content) (change : Option Change) (opened : Slots) (x : Snapshot)
    (is : IsToldAny before kept change None opened x) (live : Slots) → AreLive x.member live → (refusal : Option FenceFault) (y : Snapshot)
    → DoesStage (gate_writes closed_gate) live refusal x y → IsTrue y.told.honest → StaysWithinToleranceTo AnyReturns is.m.array.geometry before y.told.history
    → (whys : List Why) → refusal ≡ Some (fence.TooFew whys) → ⊥
closing_enough before kept change opened x is live are refusal y does honest calm =
    gates_enough before kept change None opened x is closed_gate live refusal y does honest
    (live_is before kept change opened x is live are refusal y does honest) (closed_each before kept change opened x is live are refusal y does honest) calm

-- A REDO AGAIN

module _ (before : List Happening) (kept : Content) (change : Option Change) (one : Redo) (opened : Slots) (x : Snapshot)
    (is : IsToldAny before kept change (Some one) opened x) (stripe : Stripe)
    (cells : (i c : ℕ) → HasCell is.redo.cells i c → cell stripe i c ≡ cell (is.last is.redo.stripe) i c) where
  pub replay_enough : (whys : List Why) (refusal : Option FenceFault) (z : Snapshot) → Replays is.redo stripe opened refusal x z
      → refusal ≡ Some (fence.TooFew whys) → IsTrue z.told.honest → StaysWithinToleranceTo AnyReturns is.m.array.geometry before z.told.history → ⊥
  replay_enough whys _ z (Replays.Stops to fault _ _ are does) refused honest calm =
      gates_enough before kept change (Some one) opened x is (open_gate is.m.array.geometry is.redo) to (Some fault) z own_does honest
      (live_to before kept change one opened x is to are (Some fault) z own_does honest)
      (open_each before kept change one opened x is to are (Some fault) z own_does honest) calm whys refused
    where
      own_does : DoesStage (gate_writes (open_gate is.m.array.geometry is.redo)) to (Some fault) x z
      own_does =
          subst (λ (g : Geometry). DoesStage (gate_writes (open_gate g is.redo)) to (Some fault) x z) is.amid.stays.geometry does
  replay_enough whys refusal z (Replays.Goes to _ _ y _ are does more) refused honest calm =
      redo_enough before is.of stripe cells
      Placing refusal y z (subst (λ (g : Geometry). Redoes g is.redo stripe Placing refusal y z) is.amid.stays.geometry more) whys refused honest calm None
      None (placing before kept change one opened x is stripe cells refusal y z to are does more honest z.told.history
      (end before kept change one opened x is stripe cells refusal y z to are does more honest) calm)
