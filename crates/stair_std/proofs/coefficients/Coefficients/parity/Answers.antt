-- A cell over which the coefficient is zero, and one over which it isn't.
use Rattle.std.proofs.Common.{◌≡◌, ◌<◌, ◌≤◌, ◌∙◌, ap, arith, subst}
use Rattle.stair_gf.specs.AddsMultiple.{AddsMultiple}
use Rattle.stair_gf.proofs.SectorSums.{IsSumOf-none}
use Rattle.stair_std.proofs.Summing.{HasSummed-start, HasSummed-slot_still, HasSummed-slot_more, HasSummed-turn}
use Rattle.stair_std.proofs.coefficients.Coefficients.parity.Goals as goal
use Rattle.stair_std.proofs.coefficients.Coefficients.parity.Goals.{then-by-ne0, else-by-ne0}

pub loop-row-init : goal.loop-row-init
loop-row-init g c = HasSummed-start _ _ _ _ _ _ (IsSumOf-none _)

pub loop-slot-preserved : goal.loop-slot-preserved
loop-slot-preserved g c =
    let same = c.geometry-geometry.ensures.value in
    let row : c.loop-row.row < c.args.self.now.geometry.r = omega (arith, c.r-row-end.ensures.value, ap (λ h. h.r) same) in
    let slot : c.loop-slot.slot < c.args.self.now.geometry.n = omega (arith, c.n-slot-end.ensures.value, ap (λ h. h.n) same) in
    elim c.if-by-ne0.branch [
      | then-by-ne0 w ↦
          rw (w.sum-is, w.steps-is, w.tick.ensures)
          (HasSummed-slot_more _ _ _ _ _ _ _ _ row slot c.loop-slot.invariant _ c.coefficient_over-by.ensures.block _
          c.coefficient_over-by.ensures.parity c.requires.of w.if-by-ne0.true
          (subst (λ bytes. AddsMultiple c.loop-slot.sum w.mul_add.new.into bytes c.coefficient_over-by.result) w.cell.ensures.value
          w.mul_add.ensures))
      | else-by-ne0 w ↦
          rw (w.sum-is, w.steps-is)
          (HasSummed-slot_still _ _ _ _ _ _ _ _ row slot c.loop-slot.invariant _ c.coefficient_over-by.ensures.block
          w.if-by-ne0.false)
    ]
