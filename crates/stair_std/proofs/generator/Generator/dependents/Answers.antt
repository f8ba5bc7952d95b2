-- A cell with a factor that isn't zero, or with one that is.
use Rattle.std.proofs.Common.{◌≡◌, ◌<◌, ℕ, ap, ◌∙◌, sym, subst, arith}
use Rattle.stair_model.specs.Cell.{Data, cell_at}
use Rattle.stair_model.specs.Dependents.{AreDependents, IsFactor}
use Rattle.stair_std.proofs.DependentCells.{HasDependents-start, HasDependents-still, HasDependents-more, HasDependents-turn, AreDependents-all}
use Rattle.stair_std.proofs.generator.Generator.dependents.Goals as goal
use Rattle.stair_std.proofs.generator.Generator.dependents.Goals.{then-factor-ne0, else-factor-ne0}

pub loop-i-init : goal.loop-i-init
loop-i-init c = HasDependents-start _ _ _ c.empty-dependents.ensures.well_formed c.empty-dependents.ensures.none

pub loop-i-preserved : goal.loop-i-preserved
loop-i-preserved c = HasDependents-turn _ _ _ _ _ (omega (arith, c.n-j-end.ensures.value)) c.loop-j.invariant

pub loop-j-preserved : goal.loop-j-preserved
loop-j-preserved c =
    let row : c.loop-i.i < c.geometry-geometry.result.r = omega (arith, c.r-i-end.ensures.value) in
    let slot : c.loop-j.j < c.geometry-geometry.result.n = omega (arith, c.n-j-end.ensures.value) in
    let of : IsFactor c.geometry-geometry.result c.number_of-block.result c.loop-i.i c.loop-j.j c.factor.result =
    subst (λ h. IsFactor h c.number_of-block.result c.loop-i.i c.loop-j.j c.factor.result) (sym c.geometry-geometry.ensures.value)
    c.factor.ensures in
    elim c.if-factor-ne0.branch [
      | then-factor-ne0 w ↦
          rw w.dependents-is
          (HasDependents-more _ _ _ _ _ _ c.r-i-end.ensures.limits row slot of c.loop-j.invariant _ w.if-factor-ne0.true
          w.add.ensures.well_formed w.add.ensures.members)
      | else-factor-ne0 w ↦
          rw w.dependents-is
          (HasDependents-still _ _ _ _ _ _ c.r-i-end.ensures.limits row slot of c.loop-j.invariant w.if-factor-ne0.false)
    ]

pub returns-clause-dependents : goal.returns-clause-dependents
returns-clause-dependents c = λ d is.
    let inside = ap (λ x. x.geometry) c.self.view_is in
    let same : c.number_of-block.result ≡ d =
    let cells : Data c.number_of-block.result ≡ Data d =
    sym (subst (λ h. cell_at h c.args.row c.args.slot ≡ Data c.number_of-block.result) inside c.number_of-block.ensures.cell) ∙ is in cc in
    subst (λ h. AreDependents h d c.loop-i.dependents) (c.geometry-geometry.ensures.value ∙ inside)
    (subst (λ (k : ℕ). AreDependents c.geometry-geometry.result k c.loop-i.dependents) same
    (AreDependents-all _ _ _ _ (omega (arith, c.r-i-end.ensures.value)) c.loop-i.invariant))
