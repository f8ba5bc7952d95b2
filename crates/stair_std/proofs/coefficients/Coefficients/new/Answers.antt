-- A data cell more; after the last of a pass the next one begins.
use Rattle.std.proofs.Common.{◌≡◌, ℕ, ◌-◌, ◌%◌, List, ap, ◌∙◌, sym, subst, arith, length}
use Rattle.stair_std.specs.UnitsSteps.{AreUnits, HasColumnSet}
use Rattle.stair_std.proofs.Columns.{HasColumns, HasColumns-more, HasColumns-none, IsGenerator-all, same_pass, in_pass, whole_written}
use Rattle.stair_std.proofs.coefficients.Coefficients.new.Goals as goal
use Rattle.stair_std.proofs.coefficients.Coefficients.new.Goals.{then-from-eq0, else-from-eq0}

pub loop-block-preserved : goal.loop-block-preserved
loop-block-preserved c =
    let here : c.from-in-loop-block.result ≡ c.loop-block.block = c.from-in-loop-block.ensures in
    let units : AreUnits c.args.geometry.now (c.loop-block.block - c.loop-block.block % 512) c.if-from-eq0.stripe =
    elim c.if-from-eq0.branch [
      | then-from-eq0 w ↦
          let first : c.loop-block.block ≡ c.loop-block.block - c.loop-block.block % 512 =
          let zero : c.loop-block.block % 512 ≡ 0 = ap (λ (k : ℕ). k % 512) (sym here) ∙ w.if-from-eq0.true in omega arith in
          rw w.stripe-is
          (subst (λ (k : ℕ). AreUnits c.args.geometry.now k w.encode_units.new.stripe) first
          (subst (λ g. AreUnits g c.loop-block.block w.encode_units.new.stripe) c.loop-block.invariant.canon w.encode_units.ensures.units))
      | else-from-eq0 w ↦
          rw w.stripe-is (c.loop-block.invariant.units (λ zero. w.if-from-eq0.false (ap (λ (k : ℕ). k % 512) here ∙ zero)))
    ] in
    let column : HasColumnSet c.args.geometry.now c.if-from-eq0.stripe (c.loop-block.block % 512) c.loop-block.block
    c.loop-block.bytes.items c.set_column.new.coefficients =
    subst (λ (old : List ℕ). HasColumnSet c.args.geometry.now c.if-from-eq0.stripe (c.loop-block.block % 512) c.loop-block.block old
    c.set_column.new.coefficients) c.deref_mut.ensures.value c.set_column.ensures in
    record {
      canon = elim c.if-from-eq0.branch [
        | then-from-eq0 w ↦ ap (λ x. x.geometry) w.canon-is ∙ w.encode_units.ensures.geometry ∙ c.loop-block.invariant.canon
        | else-from-eq0 w ↦ ap (λ x. x.geometry) w.canon-is ∙ c.loop-block.invariant.canon
      ];
      stripe = units.units.of;
      units = λ more.
          subst (λ (k : ℕ). AreUnits c.args.geometry.now k c.if-from-eq0.stripe) (sym (same_pass c.loop-block.block more)) units;
      columns =
          subst (HasColumns c.args.geometry.now _)
          (sym (whole_written _ _ _ column.count (omega (arith, c.loop-block.bytes.ok, c.deref_mut.ensures.len))))
          (HasColumns-more _ _ _ _ _ _ _ c.u-blocks.ensures.limits units (in_pass c.loop-block.block).0 (in_pass c.loop-block.block).1
          (omega (arith, c.u-blocks.ensures.value)) column c.loop-block.invariant.columns);
    }

pub invariant_of-result : goal.invariant_of-result
invariant_of-result c = record {
  generator =
      IsGenerator-all _ _ _ c.u-blocks.ensures.limits (omega (arith, c.u-blocks.ensures.value)) c.loop-block.invariant.columns;
  blocks = c.u-blocks.ensures.value;
  parts = c.in_ok-parts.ensures;
}

pub returns-clause-generator : goal.returns-clause-generator
returns-clause-generator c =
    IsGenerator-all _ _ _ c.u-blocks.ensures.limits (omega (arith, c.u-blocks.ensures.value)) c.loop-block.invariant.columns
