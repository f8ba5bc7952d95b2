-- A rack is honest after the parts of a session's calls as it was before them, and the member keeps the rules of one.
use Rattle.std.proofs.Common.{◌≡◌, ℕ, refl, sym, ap, ◌∙◌, subst, Option, None, Some}
use Rattle.std.specs.Prelude.{IsTrue}
use Rattle.stair_model.specs.Geometry.{Geometry}
use Rattle.stair_model.specs.Slots.{Slots}
use Rattle.stair_model.specs.Stripe.{Stripe}
use Rattle.stair_rack.specs.Placed.{Writes}
use Rattle.stair_member.specs.Membership.{IsMembership}
use Rattle.stair_member.specs.declared.fault.FenceFault.{FenceFault}
use Rattle.stair_journal.specs.declared.redo.Redo.{Redo}
use Rattle.stair_journal.specs.declared.body.Body.{Body}
use Rattle.stair_stripes.specs.declared.gathering.Gathered.{Gathered}
use Rattle.stair_state.specs.Redoing.{Placing, Stage, next}
use Rattle.stair_invariant.specs.Effects.{DoesStage, Ends, Fenced, FindsBody, FindsRedo, Goes, FencesGone, Loads, NoneWas, Snapshot, Redoes, Replays, Stops, snapshot}

pub left_honest : (gone : Slots) (refusal : Option FenceFault) (x y : Snapshot) → FencesGone gone refusal x y → x.told.honest ≡ y.told.honest
left_honest gone refusal x y (NoneWas none same fine) = sym (ap (λ (p : Snapshot). p.told.honest) same)
left_honest gone refusal x y (Fenced j has answer fine e) = e.establishes.honest

pub left_rules : (gone : Slots) (refusal : Option FenceFault) (x y : Snapshot) → FencesGone gone refusal x y → IsMembership x.member → IsMembership y.member
left_rules gone refusal x y (NoneWas none same fine) rules = subst (λ (p : Snapshot). IsMembership p.member) (sym same) rules
left_rules gone refusal x y (Fenced j has answer fine e) rules = e.establishes.rules

module _ (what : Writes) (to : Slots) (refusal : Option FenceFault) (x y : Snapshot) (does : DoesStage what to refusal x y) where
  pub mid_honest : IsTrue y.told.honest → IsTrue does.mid.honest
  mid_honest honest = subst IsTrue (sym (left_honest does.gone refusal (snapshot x.member does.mid) y does.leaves)) honest

  pub stage_honest : x.told.honest ≡ y.told.honest
  stage_honest = does.phase.honest ∙ left_honest does.gone refusal (snapshot x.member does.mid) y does.leaves

pub redo_honest : (g : Geometry) (redo : Redo) (stripe : Stripe) (stage : Stage) (refusal : Option FenceFault) (x z : Snapshot)
    → Redoes g redo stripe stage refusal x z → x.told.honest ≡ z.told.honest
redo_honest g redo stripe _ _ _ _ (Ends x) = refl
redo_honest g redo stripe _ _ _ _ (Goes stage to refusal x y z not_done over does more) =
    stage_honest _ to _ x y does ∙ redo_honest g redo stripe (next stage) refusal y z more
redo_honest g redo stripe _ _ _ _ (Stops stage to fault x y not_done over does) = stage_honest _ to _ x y does

-- so where it is honest at the end of a redo it was at its beginning
pub honest_first : (g : Geometry) (redo : Redo) (stripe : Stripe) (stage : Stage) (refusal : Option FenceFault) (x z : Snapshot)
    → Redoes g redo stripe stage refusal x z → IsTrue z.told.honest → IsTrue x.told.honest
honest_first g redo stripe stage refusal x z run honest = subst IsTrue (sym (redo_honest g redo stripe stage refusal x z run)) honest

pub load_honest : (t : ℕ) (wanted : ℕ → ℕ → Type 0) (gathered : Gathered) (was into : Stripe) (refusal : Option FenceFault) (x y : Snapshot)
    → Loads t wanted gathered was into refusal x y → x.told.honest ≡ y.told.honest
load_honest t wanted gathered was into refusal x y loads =
    loads.gathers.honest ∙ left_honest gathered.gone refusal (snapshot x.member loads.mid) y loads.leaves

pub body_honest : (redo : Redo) (body : Body) (was into : Stripe) (refusal : Option FenceFault) (x y : Snapshot)
    → FindsBody redo body was into refusal x y → x.told.honest ≡ y.told.honest
body_honest redo body was into refusal x y finds =
    finds.reads.honest ∙ left_honest body.gone refusal (snapshot x.member finds.mid) y finds.leaves

pub found_honest : (redo : Option Redo) (opened : Slots) (refusal : Option FenceFault) (x y : Snapshot)
    → FindsRedo redo opened refusal x y → x.told.honest ≡ y.told.honest
found_honest _ _ _ _ _ (FindsRedo.Found gates live mid x are reads none) = reads.honest
found_honest _ _ _ _ _ (FindsRedo.Again gates live mid redo opened refusal j x y z are reads gone leaves rest) =
    reads.honest ∙ left_honest gates.gone None (snapshot x.member mid) y leaves ∙ found_honest redo opened refusal y z rest
found_honest _ _ _ _ _ (FindsRedo.Stops gates live mid redo opened fault x y are reads leaves) =
    reads.honest ∙ left_honest gates.gone (Some fault) (snapshot x.member mid) y leaves

pub replay_honest : (redo : Redo) (stripe : Stripe) (opened : Slots) (refusal : Option FenceFault) (x y : Snapshot)
    → Replays redo stripe opened refusal x y → x.told.honest ≡ y.told.honest
replay_honest redo stripe opened _ _ _ (Replays.Goes to refusal x y z are does rest) =
    stage_honest _ to None x y does ∙ redo_honest _ redo stripe Placing refusal y z rest
replay_honest redo stripe opened _ _ _ (Replays.Stops to fault x y are does) = stage_honest _ to (Some fault) x y does
