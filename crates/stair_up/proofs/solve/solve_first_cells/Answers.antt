-- A stretch ends where a cell isn't erased, and after the last place.
use Rattle.std.proofs.Common.{◌≡◌, ℕ, ◌+◌, ◌-◌, ◌*◌, add-one, inl, inr, sym, subst, ap, ◌∙◌, arith}
use Rattle.std.specs.Prelude.{slice_index}
use Rattle.std.proofs.lemmas.Bool.{cases_eq, false≢true}
use Rattle.stair_model.specs.CellSet.{HasCell, has_cell}
use Rattle.stair_model.specs.Geometry.{Geometry, IsWithinLimits, data_chunks}
use Rattle.stair_model.proofs.CountLaws.{sum_below_none, sum_below_more}
use Rattle.stair_up.specs.ErasedAlong.{erased_in_row}
use Rattle.stair_model.proofs.SetLaws.{unmarked}
use Rattle.stair_up.proofs.Costs.{cell_start, one_if, stretch_between, row_more}
use Rattle.stair_up.proofs.Finds.{Keeps-both, Keeps-none}
use Rattle.stair_up.proofs.FirstCells.{FindsBefore-none, FindsBefore-held, FindsBefore-solved, FindsRow-all}
use Rattle.stair_up.proofs.solve.solve_first_cells.Goals as goal
use Rattle.stair_up.proofs.solve.solve_first_cells.Goals.{then-not-has, else-not-has}

pub loop-place-init : goal.loop-place-init
loop-place-init g c = record {
  rising = omega arith;
  erased = λ p above below. absurd (omega arith);
  kept = Keeps-none c.args.order.now.erased c.args.canon.now;
  found = FindsBefore-none c.args.order.now.erased c.args.order.now.columns c.args.row c.args.canon.now;
  cost = cell_start c.args.steps.now (data_chunks c.args.canon.now.geometry) (erased_in_row c.args.order.now 0 c.args.row)
      (sum_below_none (λ p. one_if (has_cell c.args.order.now.erased c.args.row (slice_index c.args.order.now.columns p))));
}

pub loop-place-preserved : goal.loop-place-preserved
loop-place-preserved g c =
    let order = c.args.order.now in
    let erased = order.erased in
    let columns = order.columns in
    let row = c.args.row in
    let start = c.loop-place.start in
    let place = c.loop-place.place in
    let before = c.loop-place.invariant in
    let here = c.geometry-geometry.ensures in
    let limits : IsWithinLimits c.args.canon.now.geometry = subst IsWithinLimits here c.m.ensures.limits in
    let mark = λ (p : ℕ). one_if (has_cell erased row (slice_index columns p)) in
    let next : erased_in_row order (place + 1) row ≡ erased_in_row order place row + mark place =
    ap (λ (k : ℕ). erased_in_row order k row) (add-one place) ∙ sum_below_more place mark in
    let counted : erased_in_row order place row ≡ erased_in_row order start row + (place - start) =
    stretch_between mark start place before.rising (λ p above below. ap one_if (before.erased p above below)) in
    elim c.if-not-has.branch [
      | then-not-has w ↦
          let held : ¬ HasCell erased row (slice_index columns place) =
          λ has.
          false≢true (sym w.if-not-has.true
          ∙ c.has.ensures.member.1 (subst (λ (j : ℕ). HasCell erased row j) (sym c.slot_at.ensures.value) has)) in
          let unmarked_here : mark place ≡ 0 = unmarked (has_cell erased row (slice_index columns place)) held in
          record {
            rising = rw w.start-is (omega arith);
            erased = λ p above below. absurd (omega (arith, w.start-is));
            kept = rw w.canon-is (Keeps-both _ _ _ _ before.kept w.solve_stretch.ensures.kept);
            found = rw (w.canon-is, w.start-is)
                (FindsBefore-held erased columns row place c.args.canon.now w.solve_stretch.new.canon
                (w.solve_stretch.ensures.kept.geometry ∙ before.kept.geometry)
                (FindsBefore-solved erased columns row start c.args.canon.now c.loop-place.canon before.kept.geometry before.found place
                w.solve_stretch.new.canon w.solve_stretch.ensures.found)
                limits c.requires.order.columns c.requires.row
                (omega (arith, limits.majority, c.loop-place-test.true, c.from-m.ensures, c.m.ensures.value, ap (λ x. x.m) here)) held);
            cost = rw (w.steps-is, w.start-is)
                (row_more c.args.steps.now c.loop-place.steps w.solve_stretch.new.steps (data_chunks c.args.canon.now.geometry)
                (erased_in_row order start row) (place - start) (erased_in_row order (place + 1) row) before.cost
                (subst (λ (x : Geometry). w.solve_stretch.new.steps ≡ c.loop-place.steps + data_chunks x * (place - start)) before.kept.geometry
                w.solve_stretch.ensures.cost)
                (omega (arith, next, unmarked_here, counted)));
          }
      | else-not-has w ↦
          let is_erased : HasCell erased row (slice_index columns place) =
          subst (λ (j : ℕ). HasCell erased row j) c.slot_at.ensures.value (c.has.ensures.member.0 w.if-not-has.false) in
          record {
            rising = rw w.start-is (omega (arith, before.rising));
            erased = λ p above below.
                elim (cases_eq p place) [
                  | inl this ↦ subst (λ (t : ℕ). HasCell erased row (slice_index columns t)) (sym this) is_erased
                  | inr other ↦ before.erased p (omega (arith, above, w.start-is)) (omega (arith, below, other))
                ];
            kept = rw w.canon-is before.kept;
            found = rw (w.canon-is, w.start-is) before.found;
            cost = rw (w.steps-is, w.start-is) before.cost;
          }
    ]

pub returns-clause-found : goal.returns-clause-found
returns-clause-found g c =
    let order = c.args.order.now in
    let before = c.loop-place.invariant in
    FindsRow-all order.erased order.columns c.args.row c.from-m.result c.args.canon.now c.solve_stretch-2.new.canon
    (c.solve_stretch-2.ensures.kept.geometry ∙ before.kept.geometry)
    (FindsBefore-solved order.erased order.columns c.args.row c.loop-place.start c.args.canon.now c.loop-place.canon before.kept.geometry before.found
    c.from-m.result c.solve_stretch-2.new.canon c.solve_stretch-2.ensures.found)
    (omega (arith, c.from-m.ensures, c.m.ensures.value, ap (λ x. x.m) c.geometry-geometry.ensures))

pub returns-clause-cost : goal.returns-clause-cost
returns-clause-cost g c =
    let order = c.args.order.now in
    let before = c.loop-place.invariant in
    let start = c.loop-place.start in
    let m = c.args.canon.now.geometry.m in
    let all : c.from-m.result ≡ m = c.from-m.ensures ∙ c.m.ensures.value ∙ ap (λ x. x.m) c.geometry-geometry.ensures in
    let end : c.loop-place.place ≡ c.from-m.result = omega (arith, c.loop-place-test.false, c.loop-place.auto.place-end) in
    let mark = λ (p : ℕ). one_if (has_cell order.erased c.args.row (slice_index order.columns p)) in
    let counted : erased_in_row order m c.args.row ≡ erased_in_row order start c.args.row + (m - start) =
    stretch_between mark start m (omega (arith, before.rising, end, all)) (λ p above below. ap one_if (before.erased p above (omega (arith, end, all)))) in
    row_more c.args.steps.now c.loop-place.steps c.solve_stretch-2.new.steps (data_chunks c.args.canon.now.geometry)
    (erased_in_row order start c.args.row) (m - start) (erased_in_row order m c.args.row) before.cost
    (subst (λ (k : ℕ). c.solve_stretch-2.new.steps ≡ c.loop-place.steps + data_chunks c.args.canon.now.geometry * (k - start)) all
    (subst (λ (x : Geometry). c.solve_stretch-2.new.steps ≡ c.loop-place.steps + data_chunks x * (c.from-m.result - start)) before.kept.geometry
    c.solve_stretch-2.ensures.cost))
    counted
