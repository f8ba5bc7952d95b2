-- A redo, phase by phase.
use Rattle.std.proofs.Common.{◌≡◌, ◌≢◌, sym, subst, None, Option, Some}
use Rattle.stair_model.specs.Geometry.{Geometry}
use Rattle.stair_model.specs.Slots.{Slots}
use Rattle.stair_model.specs.Stripe.{Stripe}
use Rattle.stair_rack.specs.Placed.{Writes}
use Rattle.stair_member.specs.declared.fault.FenceFault.{FenceFault}
use Rattle.stair_journal.specs.declared.redo.Redo.{Redo}
use Rattle.stair_state.specs.Redoing.{AtRest, Done, Placing, Stage, Uncommitted, next}
use Rattle.stair_invariant.specs.Effects.{DoesStage, IsOver, Snapshot, Redoes, snapshot, stage_writes}
use Rattle.stair_array.proofs.CourseLemmas.{phase_after}
use Rattle.stair_array.proofs.GoneToLemmas.{IsAfter, after_join, after_none}
use Rattle.stair_array.proofs.PartsLemmas.{out_after}

-- the phase of a stage was done over its slots
abbrev pub IsPhaseOf : Geometry → Redo → Stripe → Stage → Option FenceFault → Snapshot → Snapshot → Type 0
IsPhaseOf g redo stripe stage refusal x y = (to : Slots) × IsOver stage x.member to × DoesStage (stage_writes g redo stripe stage) to refusal x y

module _ (g : Geometry) (redo : Redo) (stripe : Stripe) (stage : Stage) (not_done : stage ≢ Done) (refusal : Option FenceFault) (x y : Snapshot) where
  pub phase_stops : (fault : FenceFault) → refusal ≡ Some fault → IsPhaseOf g redo stripe stage (Some fault) x y → Redoes g redo stripe stage refusal x y
  phase_stops fault same does =
      subst (λ (r : Option FenceFault). Redoes g redo stripe stage r x y) (sym same) (Redoes.Stops stage does.0 fault x y not_done does.1 does.2)

  pub phase_goes : (z : Snapshot) → IsPhaseOf g redo stripe stage None x y → Redoes g redo stripe (next stage) refusal y z
      → Redoes g redo stripe stage refusal x z
  phase_goes z does rest = Redoes.Goes stage does.0 refusal x y z not_done does.1 does.2 rest

at_rest_goes_on : AtRest ≢ Done
at_rest_goes_on same = cc

uncommitted_goes_on : Uncommitted ≢ Done
uncommitted_goes_on same = cc

-- a redo from the start, up to its body, its gates, or its end
module _ (redo : Redo) (stripe : Stripe) (x : Snapshot) (refusal : Option FenceFault) where
  pub body_stops : (fault : FenceFault) (y : Snapshot) → refusal ≡ Some fault → IsPhaseOf x.member.array.geometry redo stripe AtRest (Some fault) x y
      → Redoes x.member.array.geometry redo stripe AtRest refusal x y
  body_stops fault y same does = phase_stops x.member.array.geometry redo stripe AtRest at_rest_goes_on refusal x y fault same does

  module _ (y : Snapshot) (of_y : y.member.array.geometry ≡ x.member.array.geometry) (stripe_y : Stripe)
      (body : IsPhaseOf x.member.array.geometry redo stripe AtRest None x y) where
    pub commit_stops : (fault : FenceFault) (z : Snapshot) → refusal ≡ Some fault
        → IsPhaseOf y.member.array.geometry redo stripe_y Uncommitted (Some fault) y z → Redoes x.member.array.geometry redo stripe AtRest refusal x z
    commit_stops fault z same does =
        phase_goes x.member.array.geometry redo stripe AtRest at_rest_goes_on refusal x y z body
        (phase_stops x.member.array.geometry redo stripe Uncommitted uncommitted_goes_on refusal y z fault same
        (subst (λ (g : Geometry). IsPhaseOf g redo stripe_y Uncommitted (Some fault) y z) of_y does))

    pub committed_goes : (z w : Snapshot) (stripe_z : Stripe) → z.member.array.geometry ≡ x.member.array.geometry → stripe_z ≡ stripe
        → IsPhaseOf y.member.array.geometry redo stripe_y Uncommitted None y z → Redoes z.member.array.geometry redo stripe_z Placing refusal z w
        → Redoes x.member.array.geometry redo stripe AtRest refusal x w
    committed_goes z w stripe_z of_z same_stripe does rest =
        phase_goes x.member.array.geometry redo stripe AtRest at_rest_goes_on refusal x y w body
        (phase_goes x.member.array.geometry redo stripe Uncommitted uncommitted_goes_on refusal y z w
        (subst (λ (g : Geometry). IsPhaseOf g redo stripe_y Uncommitted None y z) of_y does)
        (subst (λ (g : Geometry). Redoes g redo stripe Placing refusal z w) of_z
        (subst (λ (s : Stripe). Redoes z.member.array.geometry redo s Placing refusal z w) same_stripe rest)))

-- the same rack at a later moment, and no slot was attached meanwhile
stage_after : (what : Writes) (to : Slots) (refusal : Option FenceFault) (x y : Snapshot) → DoesStage what to refusal x y → IsAfter x.told y.told
stage_after what to refusal x y does =
    after_join (phase_after what to does.gone x.told does.mid does.phase) (out_after does.gone refusal (snapshot x.member does.mid) y does.leaves)

pub redo_after : (g : Geometry) (redo : Redo) (stripe : Stripe) (stage : Stage) (refusal : Option FenceFault) (x z : Snapshot)
    → Redoes g redo stripe stage refusal x z → IsAfter x.told z.told
redo_after g redo stripe _ _ _ _ (Redoes.Ends x) = after_none x.told
redo_after g redo stripe _ _ _ _ (Redoes.Stops stage to fault x y not_done over does) =
    stage_after (stage_writes g redo stripe stage) to (Some fault) x y does
redo_after g redo stripe _ _ _ _ (Redoes.Goes stage to refusal x y z not_done over does more) =
    after_join (stage_after (stage_writes g redo stripe stage) to None x y does) (redo_after g redo stripe (next stage) refusal y z more)
