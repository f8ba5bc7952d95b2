-- A parity more, or a cell that stays; and then the block.
use Rattle.std.proofs.Common.{◌≡◌, ◌<◌, ◌+◌, ℕ, List, slice_index, ap, ◌∙◌, sym, subst, arith}
use Rattle.std.specs.Prelude.{IsTrue, bit_xor}
use Rattle.stair_model.specs.Cell.{Data, cell_at, is_parity}
use Rattle.stair_model.specs.CellSet.{cell_count}
use Rattle.stair_model.specs.Dependents.{AreDependents, IsFactor, IsUpdatedFrom}
use Rattle.stair_model.specs.Stripe.{IsSector, IsStripeOf, IsWellFormed}
use Rattle.stair_gf.specs.AddsMultiple.{AddsMultiple}
use Rattle.stair_std.proofs.Updating.{HasChanged-start, HasChanged-slot_still, HasChanged-slot_more, HasChanged-turn, steps_taken, updated}
use Rattle.stair_std.proofs.generator.Generator.update.Goals as goal
use Rattle.stair_std.proofs.generator.Generator.update.Goals.{then-by-ne0, else-by-ne0}

pub loop-i-init : goal.loop-i-init
loop-i-init g c =
    HasChanged-start _ _ _ _ _
    (subst (λ h. IsStripeOf h c.args.stripe.now) (sym (c.geometry-geometry.ensures.value ∙ ap (λ x. x.geometry) c.self.view_is))
    c.requires.of)

pub loop-i-preserved : goal.loop-i-preserved
loop-i-preserved g c = HasChanged-turn _ _ _ _ _ _ _ _ _ (omega (arith, c.n-j-end.ensures.value)) c.loop-j.invariant

pub loop-j-preserved : goal.loop-j-preserved
loop-j-preserved g c =
    let row : c.loop-i.i < c.geometry-geometry.result.r = omega (arith, c.r-i-end.ensures.value) in
    let slot : c.loop-j.j < c.geometry-geometry.result.n = omega (arith, c.n-j-end.ensures.value) in
    let same = sym c.geometry-geometry.ensures.value in
    let of_parity =
    subst (λ h. IsTrue (is_parity (cell_at h c.loop-i.i c.loop-j.j)) →
    IsFactor h c.number_of-block.result c.loop-i.i c.loop-j.j c.coefficient_at-by.result) same c.coefficient_at-by.ensures.parity in
    let of_block =
    subst (λ h. (e : ℕ) → cell_at h c.loop-i.i c.loop-j.j ≡ Data e → c.coefficient_at-by.result ≡ 0) same
    c.coefficient_at-by.ensures.block in
    elim c.if-by-ne0.branch [
      | then-by-ne0 w ↦
          rw (w.stripe-is, w.put.ensures.value, w.steps-is, w.tick.ensures)
          (HasChanged-slot_more _ _ _ _ _ _ _ _ _ c.r-i-end.ensures.limits row slot c.loop-j.invariant _ of_parity of_block
          w.mul_add.new.into w.if-by-ne0.true (subst IsSector w.cell-then-by-ne0.ensures.value w.cell-then-by-ne0.ensures.sector)
          (subst IsWellFormed w.put.ensures.value w.put.ensures.well_formed)
          (subst (λ (bytes : List ℕ). AddsMultiple bytes w.mul_add.new.into c.difference-change.result c.coefficient_at-by.result)
          w.cell-then-by-ne0.ensures.value w.mul_add.ensures))
      | else-by-ne0 w ↦
          rw (w.stripe-is, w.steps-is)
          (HasChanged-slot_still _ _ _ _ _ _ _ _ _ c.r-i-end.ensures.limits row slot c.loop-j.invariant _ of_parity of_block
          w.if-by-ne0.false)
    ]

pub returns-clause-updated : goal.returns-clause-updated
returns-clause-updated g c = λ d is.
    let inside = ap (λ x. x.geometry) c.self.view_is in
    let shape = c.geometry-geometry.ensures.value ∙ inside in
    let here = subst (λ h. cell_at h c.args.row c.args.slot ≡ Data c.number_of-block.result) inside c.number_of-block.ensures.cell in
    let same : c.number_of-block.result ≡ d =
    let cells : Data c.number_of-block.result ≡ Data d = sym here ∙ is in cc in
    subst (λ h. IsUpdatedFrom h d c.args.from.now c.args.stripe.now c.put-2.new.self) shape
    (subst (λ (k : ℕ). IsUpdatedFrom c.geometry-geometry.result k c.args.from.now c.args.stripe.now c.put-2.new.self) same
    (subst (IsUpdatedFrom c.geometry-geometry.result c.number_of-block.result c.args.from.now c.args.stripe.now)
    (sym c.put-2.ensures.value)
    (updated _ _ _ _ _ _ _ _ _ _ _ c.r-i-end.ensures.limits
    (subst (λ h. c.args.row < h.r) (sym shape) c.requires.row_in) (subst (λ h. c.args.slot < h.n) (sym shape) c.requires.slot_in)
    (subst (λ h. cell_at h c.args.row c.args.slot ≡ Data c.number_of-block.result) (sym shape) here)
    (omega (arith, c.r-i-end.ensures.value)) c.loop-i.invariant
    (subst (λ h. IsStripeOf h c.args.stripe.now) (sym shape) c.requires.of)
    (subst IsSector c.cell.ensures.value c.cell.ensures.sector)
    (subst IsWellFormed c.put-2.ensures.value c.put-2.ensures.well_formed)
    (λ p p_in.
    c.difference-change.ensures p p_in
    ∙ ap (λ (bytes : List ℕ). bit_xor (slice_index c.args.from.now p) (slice_index bytes p)) c.cell.ensures.value))))

pub returns-clause-takes : goal.returns-clause-takes
returns-clause-takes g c = λ d dependents is are.
    let inside = ap (λ x. x.geometry) c.self.view_is in
    let shape = c.geometry-geometry.ensures.value ∙ inside in
    let here = subst (λ h. cell_at h c.args.row c.args.slot ≡ Data c.number_of-block.result) inside c.number_of-block.ensures.cell in
    let same : d ≡ c.number_of-block.result =
    let cells : Data d ≡ Data c.number_of-block.result = sym is ∙ here in cc in
    steps_taken _ _ _ _ _ c.args.from.now _ _ _ _ _ c.r-i-end.ensures.limits
    (subst (λ h. c.args.row < h.r) (sym shape) c.requires.row_in) (subst (λ h. c.args.slot < h.n) (sym shape) c.requires.slot_in)
    (subst (λ h. cell_at h c.args.row c.args.slot ≡ Data c.number_of-block.result) (sym shape) here)
    (omega (arith, c.r-i-end.ensures.value)) c.loop-i.invariant dependents
    (subst (λ h. AreDependents h c.number_of-block.result dependents) (sym shape)
    (subst (λ (k : ℕ). AreDependents c.args.self.now.geometry k dependents) same are))
