-- A parity more, or a data cell.
use Rattle.std.proofs.Common.{◌≡◌, ◌<◌, ◌+◌, ℕ, ap, ◌∙◌, sym, subst, arith}
use Rattle.stair_model.specs.Costs.{IsStandardCost}
use Rattle.stair_model.specs.Encoding.{IsEncodedFrom}
use Rattle.stair_model.specs.Stripe.{IsStripeOf, IsWellFormed}
use Rattle.stair_std.proofs.Counting.{IsStandardCost-nonzero}
use Rattle.stair_std.proofs.Encoding.{HasEncoded-start, HasEncoded-slot_block, HasEncoded-slot_parity, HasEncoded-turn, IsEncodedFrom-all, steps_in_all, parity_below}
use Rattle.stair_std.proofs.standard.encode_standard.Goals as goal
use Rattle.stair_std.proofs.standard.encode_standard.Goals.{in-Parity, in_default}

pub loop-row-init : goal.loop-row-init
loop-row-init g c =
    HasEncoded-start _ _ _ _ (subst (λ h. IsStripeOf h c.args.stripe.now) (sym (ap (λ x. x.geometry) c.generator.view_is)) c.requires)

pub loop-row-preserved : goal.loop-row-preserved
loop-row-preserved g c =
    HasEncoded-turn _ _ _ _ _ _ _
    (omega (arith, c.n-slot-end.ensures.value, ap (λ h. h.n) c.geometry-geometry.ensures.value)) c.loop-slot.invariant

pub parity-sum-requires-clause-parity_in : goal.parity-sum-requires-clause-parity_in
parity-sum-requires-clause-parity_in g c =
    let same = c.geometry-geometry.ensures.value in
    parity_below _ _ _ _ c.part.ensures.well_formed.limits (omega (arith, c.r-row-end.ensures.value, ap (λ h. h.r) same))
    (omega (arith, c.n-slot-end.ensures.value, ap (λ h. h.n) same)) c.in-Parity.ensures.part.0 c.in-Parity.ensures.part.1

pub loop-slot-preserved : goal.loop-slot-preserved
loop-slot-preserved g c =
    let same = c.geometry-geometry.ensures.value in
    let row : c.loop-row.row < c.generator.inside.coefficients.geometry.r =
    omega (arith, c.r-row-end.ensures.value, ap (λ h. h.r) same) in
    let slot : c.loop-slot.slot < c.generator.inside.coefficients.geometry.n =
    omega (arith, c.n-slot-end.ensures.value, ap (λ h. h.n) same) in
    elim c.match-part.branch [
      | in-Parity w ↦
          rw (w.stripe-is, w.put.ensures.value, w.steps-is, w.parity-sum.ensures.cost)
          (HasEncoded-slot_parity _ _ _ _ _ _ _ row slot c.loop-slot.invariant w.in-Parity.parity w.parity-sum.result
          w.in-Parity.ensures.part (subst IsWellFormed w.put.ensures.value w.put.ensures.well_formed) w.parity-sum.ensures.sum)
      | in_default w ↦
          rw (w.stripe-is, w.steps-is)
          (HasEncoded-slot_block _ _ _ _ _ _ _ row slot c.loop-slot.invariant w.in_default.field-0 w.in_default.ensures.part)
    ]

pub returns-clause-encoded : goal.returns-clause-encoded
returns-clause-encoded g c =
    subst (λ h. IsEncodedFrom h c.args.stripe.now c.loop-row.stripe) (ap (λ x. x.geometry) c.generator.view_is)
    (IsEncodedFrom-all c.generator.inside.coefficients _ _ _ c.loop-row.row _ c.geometry-geometry.ensures.well_formed
    (subst (λ h. IsStripeOf h c.args.stripe.now) (sym (ap (λ x. x.geometry) c.generator.view_is)) c.requires)
    (omega (arith, c.r-row-end.ensures.value, ap (λ h. h.r) c.geometry-geometry.ensures.value)) c.loop-row.invariant)

pub returns-clause-cost : goal.returns-clause-cost
returns-clause-cost g c =
    steps_in_all c.generator.inside.coefficients _ _ _ c.loop-row.row _ c.geometry-geometry.ensures.well_formed
    (omega (arith, c.r-row-end.ensures.value, ap (λ h. h.r) c.geometry-geometry.ensures.value)) c.loop-row.invariant
    ∙ ap (λ (k : ℕ). c.args.steps.now + k) (sym c.generator.invariant.cost ∙ ap (λ x. x.cost) c.generator.view_is)

pub returns-clause-standard : goal.returns-clause-standard
returns-clause-standard g c =
    subst (λ h. IsStandardCost h c.args.generator.now.cost) (ap (λ x. x.geometry) c.generator.view_is)
    (subst (IsStandardCost c.generator.inside.coefficients.geometry)
    (sym c.generator.invariant.cost ∙ ap (λ x. x.cost) c.generator.view_is)
    (IsStandardCost-nonzero c.generator.inside.coefficients c.geometry-geometry.ensures.well_formed))
