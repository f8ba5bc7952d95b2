-- Past the parity and the global cells stands a data cell.
use Rattle.std.proofs.Common.{◌≡◌, ℕ, ◌-◌, ◌+◌, ◌*◌, ◌≤◌, false, ap, ap₂, ◌∙◌, inl, inr, arith}
use Rattle.stair_model.specs.Geometry.{coverage}
use Rattle.stair_model.specs.Cell.{Data, cell_at, is_global}
use Rattle.stair_model.proofs.CellLaws.{is_global_tells}
use Rattle.stair_base.proofs.GlobalCounts.{data_at}
use Rattle.stair_base.proofs.geometry.Geometry.kind.Goals as goal
use Rattle.stair_base.proofs.geometry.Geometry.kind.Goals.{then-slot-first_global_chunk+else-row-first_global_row as in_chunk, else-slot-first_global_chunk as before_chunk}

abbrev Place : goal.After-count_globals_before → ℕ
Place c = c.from.result * c.from-2.result + c.from-3.result

not_global : (c : goal.After-count_globals_before) → is_global c.args.self.now c.args.row c.args.slot ≡ false
not_global c =
    elim (is_global_tells c.args.self.now c.args.row c.args.slot) [
      | inl among ↦
          absurd (elim c.if-slot-first_global_chunk.branch [
            | in_chunk w ↦
                omega (
                  arith,
                  among.row,
                  w.r.ensures.value,
                  w.coverage.ensures.value
                      ∙ ap (λ first. coverage c.args.self.now (c.args.slot - first))
                      (ap₂ (λ (a b : ℕ). a - b) (ap₂ (λ (a b : ℕ). a - b) c.n.ensures.value c.m.ensures.value) c.classes.ensures.value),
                )
            | before_chunk w ↦ omega (arith, among.chunk)
          ])
      | inr apart ↦ apart.test
    ]

number_at : (c : goal.After-count_globals_before)
    → (c.count_globals_before.result ≤ Place c) × (Data (Place c - c.count_globals_before.result) ≡ cell_at c.args.self.now c.args.row c.args.slot)
number_at c = data_at c.args.self.now c.n.ensures.limits c.args.row c.args.slot _ _ (omega arith) (not_global c)
    (ap₂ (λ (a b : ℕ). a + b)
    (ap₂ (λ (a b : ℕ). a * b) c.from.ensures (c.from-2.ensures ∙ ap₂ (λ (a b : ℕ). a - b) c.n.ensures.value c.m.ensures.value))
    c.from-3.ensures)
    c.count_globals_before.ensures

pub overflow_sub-result-2 : goal.overflow_sub-result-2
overflow_sub-result-2 c = (number_at c).0

pub returns : goal.returns
returns c = (number_at c).1
