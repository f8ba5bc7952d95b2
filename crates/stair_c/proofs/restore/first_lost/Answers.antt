-- A stripe that isn't covered ends the search.
use Rattle.std.proofs.Common.{inl, inr, subst, sym, ◌∙◌, arith}
use Rattle.std.proofs.lemmas.Bool.{cases_eq, true≢false}
use Rattle.stair_model.specs.Coverage.{IsCovered}
use Rattle.stair_c.proofs.ErasedLemmas.{covered_set}
use Rattle.stair_c.specs.Restores.{IsCoveredAt}
use Rattle.stair_c.proofs.restore.first_lost.Goals as goal

pub returns-then-not-covered-clause-lost : goal.returns-then-not-covered-clause-lost
returns-then-not-covered-clause-lost c covered =
    let is : IsCovered c.args.geometry.now c.erased_cells-cells.result =
    covered_set c.args.geometry.now c.args.count c.args.erased.now c.loop-number.number c.erased_cells-cells.result c.erased_cells-cells.ensures covered in
    true≢false (sym (c.covered.ensures.1 is) ∙ c.if-not-covered.true)

pub loop-number-preserved : goal.loop-number-preserved
loop-number-preserved c s below =
    let is : IsCovered c.args.geometry.now c.erased_cells-cells.result =
    c.covered.ensures.0 c.if-not-covered.false in
    let this : IsCoveredAt c.args.geometry.now c.args.count c.args.erased.now c.loop-number.number = record {
      cells = c.erased_cells-cells.result;
      are = c.erased_cells-cells.ensures;
      covered = is;
    } in
    elim (cases_eq s c.loop-number.number) [
      | inl last ↦ subst (IsCoveredAt c.args.geometry.now c.args.count c.args.erased.now) (sym last) this
      | inr other ↦ c.loop-number.invariant s (omega (arith, below, other))
    ]
