-- Each turn adds the cells of the next row.
use Rattle.std.proofs.Common.{◌≡◌, ℕ, subst, arith}
use Rattle.std.specs.Prelude.{◌<◌, ◌⊎◌, ◌↔◌}
use Rattle.stair_model.specs.CellSet.{HasCell}
use Rattle.stair_base.proofs.CellRows.{HasRows, rows_more, rows_none}
use Rattle.stair_base.proofs.geometry.Geometry.cells.Goals as goal

pub loop-row-init : goal.loop-row-init
loop-row-init c = rows_none c.args.self.now.n c.empty-cells.result c.empty-cells.ensures.none c.empty-cells.ensures.well_formed

pub loop-row-preserved : goal.loop-row-preserved
loop-row-preserved c =
    rows_more c.args.self.now.n c.loop-row.row c.loop-row.cells c.add_row.new.cells c.loop-row.invariant
    (record {
      members = subst (λ (n : ℕ). (i j : ℕ) → HasCell c.add_row.new.cells i j ↔ (HasCell c.loop-row.cells i j ⊎ ((i ≡ c.loop-row.row) × (j < n)))) c.n.ensures.value c.add_row.ensures.members;
      formed = c.add_row.ensures.formed;
    })

pub returns-clause-members : goal.returns-clause-members
returns-clause-members c =
    let all : c.loop-row.row ≡ c.args.self.now.r = omega arith in
    (subst (λ (k : ℕ). HasRows c.args.self.now.n k c.loop-row.cells) all c.loop-row.invariant).members
