-- Zeros are well formed, both codes are those of the geometry, and the order is that of its parities.
use Rattle.std.proofs.Common.{◌≡◌, ℕ, ◌+◌, ◌-◌, ◌*◌, sym, subst, ap₂, ◌∙◌, arith}
use Rattle.stair_model.specs.Canonical.{canonical_chunks, canonical_rows}
use Rattle.stair_mds.specs.Solving.{Shape}
use Rattle.stair_canon.specs.Parities.{AreParities}
use Rattle.stair_canon.proofs.Grid.{IsWellFormed-zeros, symbol-zeros, unknown-zeros}
use Rattle.stair_canon.proofs.canon.Canon.new.Goals as goal

shape : (held held' total total' : ℕ) → held ≡ held' → total ≡ total'
    → ◌≡◌ {A = Shape} (record { held = held; total = total }) (record { held = held'; total = total' })
shape held held' total total' same_held same_total = λ i. record { held = same_held i; total = same_total i }

pub invariant_of-result : goal.invariant_of-result
invariant_of-result c =
    let g = c.args.geometry.now in
    record {
      formed =
          rw c.in_ok-new.ensures
          (IsWellFormed-zeros g (c.from-rows.result * c.from-columns.result) c.n.ensures.limits
          (ap₂ (λ (a b : ℕ). a * b) (omega (arith, c.from-rows.ensures, c.r.ensures.value, c.e_max.ensures.value))
          (omega (arith, c.from-columns.ensures, c.n.ensures.value, c.classes.ensures.value))));
      row_codes =
          c.in_ok-rows.ensures
          ∙ shape (c.n-2.result - c.m.result) (g.n - g.m) (c.n-2.result + c.classes-2.result) (canonical_chunks g)
          (omega (arith, c.n-2.ensures.value, c.m.ensures.value)) (omega (arith, c.n-2.ensures.value, c.classes-2.ensures.value));
      column_codes =
          c.in_ok-columns.ensures
          ∙ shape c.r-2.result g.r (c.r-2.result + c.e_max-2.result) (canonical_rows g)
          c.r-2.ensures.value (omega (arith, c.r-2.ensures.value, c.e_max-2.ensures.value));
      parities = subst (AreParities g) (sym c.new.ensures.erased) c.parities.ensures;
      order = c.new.ensures.order;
    }

pub returns-clause-well_formed : goal.returns-clause-well_formed
returns-clause-well_formed c = (invariant_of-result c).formed

pub returns-clause-zero : goal.returns-clause-zero
returns-clause-zero c i j row_in column_in =
    rw c.in_ok-new.ensures (symbol-zeros c.args.geometry.now (c.from-rows.result * c.from-columns.result) i j column_in)

pub returns-clause-unknown : goal.returns-clause-unknown
returns-clause-unknown c i j row_in column_in =
    rw c.in_ok-new.ensures (unknown-zeros c.args.geometry.now (c.from-rows.result * c.from-columns.result) i j column_in)
