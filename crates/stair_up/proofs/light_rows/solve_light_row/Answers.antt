-- The held cells after place m of the order are known, and the erased ones before it are wanted.
use Rattle.std.proofs.Common.{ℕ, ◌-◌, ◌∙◌, drop, slice_index, subst, take, ap}
use Rattle.stair_model.specs.Geometry.{Geometry, IsWithinLimits}
use Rattle.stair_canon.specs.Solving.{SolvesRow}
use Rattle.stair_canon.specs.Order.{AreInOrder}
use Rattle.stair_up.proofs.LightRows.{IsLightRow, may_know, may_want, keeps_light_row, finds_light_row}
use Rattle.stair_up.proofs.light_rows.solve_light_row.Given.{Over}
use Rattle.stair_up.proofs.light_rows.solve_light_row.Goals as goal
use Rattle.stair_up.proofs.light_rows.solve_light_row.Goals.{After-from-4}

light_row : (g : Over) (c : After-from-4 g)
    → IsLightRow c.args.canon.now.geometry c.args.erased.now c.args.row c.marks.result c.columns_by_count-columns.result c.from-2.result
    c.from.result c.from-3.result
light_row g c =
    let here = c.geometry-geometry.ensures in
    record {
      limits = subst IsWithinLimits here c.m.ensures.limits;
      inside = c.requires.cells;
      row_in = c.requires.row;
      light = c.requires.light;
      marked = c.marks.ensures;
      order =
          subst (λ (x : Geometry). AreInOrder x (slice_index c.marks.result) c.columns_by_count-columns.result) here
          c.columns_by_count-columns.ensures.order;
      is_n = c.from-2.ensures ∙ c.n.ensures.value ∙ ap (λ x. x.n) here;
      is_m = c.from.ensures ∙ c.m.ensures.value ∙ ap (λ x. x.m) here;
      is_k = c.from-3.ensures ∙ c.count_in_row.ensures.value;
    }

pub solve_row-requires-clause-known : goal.solve_row-requires-clause-known
solve_row-requires-clause-known g c =
    may_know c.args.canon.now _ _ _ _ _ _ _ (light_row g (goal.at.solve_row-requires-clause-known g c).After-from-4)

pub solve_row-requires-clause-wanted : goal.solve_row-requires-clause-wanted
solve_row-requires-clause-wanted g c =
    may_want c.args.canon.now _ _ _ _ _ _ _ (light_row g (goal.at.solve_row-requires-clause-wanted g c).After-from-4)

pub returns-clause-kept : goal.returns-clause-kept
returns-clause-kept g c =
    keeps_light_row c.args.canon.now _ _ _ _ _ _ _ (light_row g (goal.at.returns-clause-kept g c).After-from-4) c.solve_row.new.self
    (subst
    (λ (i : ℕ). SolvesRow i (take (c.from-2.result - c.from.result) (drop c.from.result c.columns_by_count-columns.result))
    (take c.from-3.result c.columns_by_count-columns.result) c.args.canon.now c.solve_row.new.self)
    c.from-4.ensures c.solve_row.ensures.solved)

pub returns-clause-found : goal.returns-clause-found
returns-clause-found g c =
    finds_light_row c.args.canon.now _ _ _ _ _ _ _ (light_row g (goal.at.returns-clause-found g c).After-from-4) c.solve_row.new.self
    (subst
    (λ (i : ℕ). SolvesRow i (take (c.from-2.result - c.from.result) (drop c.from.result c.columns_by_count-columns.result))
    (take c.from-3.result c.columns_by_count-columns.result) c.args.canon.now c.solve_row.new.self)
    c.from-4.ensures c.solve_row.ensures.solved)
