-- A row more, and all of them.
use Rattle.std.proofs.Common.{◌≡◌, ℕ, ◌+◌, ◌*◌, ◌<◌, add-one, slice_index, sym, subst, ap, ◌∙◌, arith}
use Rattle.stair_model.specs.CellSet.{cell_count}
use Rattle.stair_model.specs.Geometry.{Geometry, IsWithinLimits, data_chunks}
use Rattle.stair_model.specs.Sum.{sum_below}
use Rattle.stair_model.proofs.CountLaws.{sum_below_none, sum_below_more}
use Rattle.stair_canon.specs.Order.{IsOrderOf, count_at}
use Rattle.stair_up.specs.ErasedAlong.{erased_in_row, erased_in_last}
use Rattle.stair_up.proofs.Costs.{cell_start, row_more, all_steps, all_counted, count_at_is}
use Rattle.stair_up.proofs.Finds.{Keeps-none, Keeps-both}
use Rattle.stair_up.proofs.Stripes.{FindsRowsBefore-none, FindsRowsBefore-more, FindsCells-from}
use Rattle.stair_up.proofs.solve.solve_loaded.Goals as goal

pub loop-row-init : goal.loop-row-init
loop-row-init g c = record {
  kept = Keeps-none c.args.order.now.erased c.solve_last_chunks.new.canon;
  found = FindsRowsBefore-none c.args.order.now.erased c.args.order.now.columns c.solve_last_chunks.new.canon;
  cost = cell_start c.solve_last_chunks.new.steps (data_chunks c.solve_last_chunks.new.canon.geometry) _
      (sum_below_none (erased_in_row c.args.order.now c.solve_last_chunks.new.canon.geometry.m));
}

pub loop-row-preserved : goal.loop-row-preserved
loop-row-preserved g c =
    let order = c.args.order.now in
    let mid = c.solve_last_chunks.new.canon in
    let before = c.loop-row.invariant in
    let same = before.kept.geometry in
    let start = c.solve_last_chunks.ensures.kept.geometry in
    let row_in : c.loop-row.row < mid.geometry.r =
    omega (arith, c.loop-row-test.true, c.r-row-end.ensures.value, ap (λ x. x.r) c.geometry-geometry.ensures, ap (λ x. x.r) start) in
    record {
      kept = Keeps-both _ _ _ _ before.kept c.solve_first_cells.ensures.kept;
      found = FindsRowsBefore-more order.erased order.columns c.loop-row.row mid c.loop-row.canon c.solve_first_cells.new.canon same
          row_in before.found c.solve_first_cells.ensures.found;
      cost = row_more c.solve_last_chunks.new.steps c.loop-row.steps c.solve_first_cells.new.steps (data_chunks mid.geometry)
          (sum_below c.loop-row.row (erased_in_row order mid.geometry.m)) (erased_in_row order mid.geometry.m c.loop-row.row) _ before.cost
          (subst (λ (x : Geometry). c.solve_first_cells.new.steps ≡ c.loop-row.steps + data_chunks x * erased_in_row order x.m c.loop-row.row)
          same c.solve_first_cells.ensures.cost)
          (ap (λ (k : ℕ). sum_below k (erased_in_row order mid.geometry.m)) (add-one c.loop-row.row)
          ∙ sum_below_more c.loop-row.row (erased_in_row order mid.geometry.m));
    }

pub returns-clause-kept : goal.returns-clause-kept
returns-clause-kept g c =
    Keeps-both _ _ _ _ c.solve_last_chunks.ensures.kept c.loop-row.invariant.kept

pub returns-clause-found : goal.returns-clause-found
returns-clause-found g c =
    let order = c.args.order.now in
    let old = c.args.canon.now in
    let here = c.geometry-geometry.ensures in
    let limits : IsWithinLimits old.geometry = subst IsWithinLimits here c.r-row-end.ensures.limits in
    FindsCells-from order.erased order.columns c.loop-row.row old c.solve_last_chunks.new.canon c.loop-row.canon limits
    c.requires.order.columns c.solve_last_chunks.ensures.found c.solve_last_chunks.ensures.kept.geometry c.loop-row.invariant.found
    (omega (arith, c.loop-row-test.false, c.r-row-end.ensures.value, ap (λ x. x.r) here))

pub returns-clause-cost : goal.returns-clause-cost
returns-clause-cost g c counts sorted =
    let order = c.args.order.now in
    let old = c.args.canon.now.geometry in
    let here = c.geometry-geometry.ensures in
    let start = c.solve_last_chunks.ensures.kept.geometry in
    let limits : IsWithinLimits old = subst IsWithinLimits here c.r-row-end.ensures.limits in
    let made : IsOrderOf old order = c.requires.order in
    let all : c.loop-row.row ≡ old.r =
    omega (arith, c.loop-row-test.false, c.loop-row.auto.row-end, c.r-row-end.ensures.value, ap (λ x. x.r) here) in
    let height : count_at order old.m ≡ slice_index counts old.m =
    count_at_is old order.erased order.columns counts limits made.columns sorted old.m (omega (arith, limits.majority)) in
    let first : c.solve_last_chunks.new.steps ≡ c.args.steps.now
    + data_chunks old * (old.r * slice_index counts old.m + erased_in_last order old.n (data_chunks old)) =
    subst
    (λ (k : ℕ). c.solve_last_chunks.new.steps ≡ c.args.steps.now
    + data_chunks old * (old.r * k + erased_in_last order old.n (data_chunks old)))
    height c.solve_last_chunks.ensures.cost in
    let second : c.loop-row.steps ≡ c.solve_last_chunks.new.steps + data_chunks old * sum_below old.r (erased_in_row order old.m) =
    subst
    (λ (k : ℕ). c.loop-row.steps ≡ c.solve_last_chunks.new.steps + data_chunks old * sum_below k (erased_in_row order old.m))
    all
    (subst
    (λ (x : Geometry). c.loop-row.steps ≡ c.solve_last_chunks.new.steps + data_chunks x * sum_below c.loop-row.row (erased_in_row order x.m))
    start c.loop-row.invariant.cost) in
    all_steps c.args.steps.now c.solve_last_chunks.new.steps c.loop-row.steps (data_chunks old) (old.r * slice_index counts old.m)
    (erased_in_last order old.n (data_chunks old)) (sum_below old.r (erased_in_row order old.m)) (cell_count order.erased) first second
    (sym (all_counted old order limits made.inside made.columns))
