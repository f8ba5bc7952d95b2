-- A chunk more.
use Rattle.std.proofs.Common.{◌≡◌, ℕ, ◌+◌, ◌-◌, ◌*◌, ◌≤◌, add-one, slice_index, sym, subst, ap, ap₂, ◌∙◌, arith}
use Rattle.stair_model.specs.CellSet.{count_in_slot}
use Rattle.stair_model.specs.Geometry.{Geometry, IsWithinLimits, data_chunks, greatest_coverage}
use Rattle.stair_model.proofs.CountLaws.{sum_below_none, sum_below_more}
use Rattle.stair_canon.specs.Order.{count_at}
use Rattle.stair_up.specs.ErasedAlong.{erased_in_last}
use Rattle.stair_canon.proofs.Columns.{count_le_greatest}
use Rattle.stair_up.proofs.Costs.{last_none, last_more, last_all}
use Rattle.stair_up.proofs.Finds.{Keeps-both, Keeps-none}
use Rattle.stair_up.proofs.LastChunks.{FindsFrom-none, FindsFrom-more, FindsLastChunks-all}
use Rattle.stair_up.proofs.solve.solve_last_chunks.Goals as goal

pub loop-passed-init : goal.loop-passed-init
loop-passed-init g c = record {
  kept = Keeps-none c.args.order.now.erased c.args.canon.now;
  found = FindsFrom-none c.args.order.now.erased c.args.order.now.columns c.count_at-height.result c.args.canon.now;
  low = λ p below. omega arith;
  cost = last_none c.args.steps.now (c.args.canon.now.geometry.r * c.count_at-height.result) (data_chunks c.args.canon.now.geometry)
      (erased_in_last c.args.order.now c.from-n.result 0) (c.from-n.result - c.from-m.result - 0)
      (sum_below_none (λ t. count_at c.args.order.now (c.from-n.result - 1 - t)));
}

pub solve_chunk-requires-clause-height : goal.solve_chunk-requires-clause-height
solve_chunk-requires-clause-height g c =
    let here = c.geometry-geometry.ensures in
    let is_m = c.from-m.ensures ∙ c.m.ensures.value ∙ ap (λ x. x.m) here in
    let limits : IsWithinLimits c.args.canon.now.geometry = subst IsWithinLimits here c.m.ensures.limits in
    let kept = c.solve_virtual_rows.ensures.kept.geometry ∙ c.loop-passed.invariant.kept.geometry in
    let small =
    count_le_greatest c.args.canon.now.geometry c.args.order.now.erased c.args.order.now.columns limits c.requires.order.columns
    c.requires.covered c.from-m.result (omega (arith, is_m)) (omega (arith, is_m, limits.majority)) in
    omega (arith, c.count_at-height.ensures.value, small, ap greatest_coverage kept)

pub loop-passed-preserved : goal.loop-passed-preserved
loop-passed-preserved g c =
    let order = c.args.order.now in
    let old = c.args.canon.now in
    let passed = c.loop-passed.passed in
    let place : ℕ = c.from-n.result - 1 - passed in
    let before = c.loop-passed.invariant in
    let here = c.geometry-geometry.ensures in
    let is_m = c.from-m.ensures ∙ c.m.ensures.value ∙ ap (λ x. x.m) here in
    let is_n = c.from-n.ensures ∙ c.n.ensures.value ∙ ap (λ x. x.n) here in
    let limits : IsWithinLimits old.geometry = subst IsWithinLimits here c.m.ensures.limits in
    let same_a = before.kept.geometry in
    let same_b = c.solve_virtual_rows.ensures.kept.geometry ∙ same_a in
    let is_slot : c.slot_at.result ≡ slice_index order.columns place = c.slot_at.ensures.value in
    let is_count : c.count_at-count.result ≡ count_in_slot order.erased c.slot_at.result =
    c.count_at-count.ensures.value ∙ ap (count_in_slot order.erased) (sym is_slot) in
    let at : place + passed + 1 ≡ old.geometry.n = omega (arith, is_n, c.loop-passed-test.true) in
    let from : old.geometry.m ≤ place = omega (arith, is_m, c.loop-passed-test.true) in
    let falls = c.requires.order.columns.falling in
    let high : count_at order c.from-m.result ≡ c.count_at-height.result = sym c.count_at-height.ensures.value in
    let small : c.count_at-count.result ≤ c.count_at-height.result =
    omega (arith, c.count_at-count.ensures.value, high, falls c.from-m.result place (omega (arith, is_m)) (omega (arith, at))) in
    let d = data_chunks old.geometry in
    let left : ℕ = c.from-n.result - c.from-m.result - (passed + 1) in
    let more_left : c.from-n.result - c.from-m.result - passed ≡ left + 1 = omega (arith, c.loop-passed-test.true) in
    let wanted : place + 1 - old.geometry.m ≡ left + 1 = omega (arith, is_m, c.loop-passed-test.true) in
    let sum = erased_in_last order c.from-n.result passed in
    let now : c.loop-passed.steps ≡ c.args.steps.now
    + (passed * (old.geometry.r * c.count_at-height.result) + d * (sum + c.loop-passed.solved * (left + 1))) =
    subst
    (λ (k : ℕ). c.loop-passed.steps ≡ c.args.steps.now
    + (passed * (old.geometry.r * c.count_at-height.result) + d * (sum + c.loop-passed.solved * k)))
    more_left before.cost in
    let rows : c.solve_virtual_rows.new.steps ≡ c.loop-passed.steps + d * (left + 1) * (c.count_at-count.result - c.loop-passed.solved) =
    subst (λ (k : ℕ). c.solve_virtual_rows.new.steps ≡ c.loop-passed.steps + d * k * (c.count_at-count.result - c.loop-passed.solved)) wanted
    (subst
    (λ (x : Geometry). c.solve_virtual_rows.new.steps ≡ c.loop-passed.steps
    + data_chunks x * (place + 1 - x.m) * (c.count_at-count.result - c.loop-passed.solved))
    same_a c.solve_virtual_rows.ensures.cost) in
    let chunk : c.solve_chunk.new.steps ≡ c.solve_virtual_rows.new.steps + old.geometry.r * c.count_at-height.result =
    subst (λ (x : Geometry). c.solve_chunk.new.steps ≡ c.solve_virtual_rows.new.steps + x.r * c.count_at-height.result) same_b
    c.solve_chunk.ensures.cost in
    let low : c.loop-passed.solved ≤ c.count_at-count.result =
    omega (arith, before.low place (omega arith), c.count_at-count.ensures.value) in
    let total : erased_in_last order c.from-n.result (passed + 1) ≡ sum + c.count_at-count.result =
    ap (λ (k : ℕ). erased_in_last order c.from-n.result k) (add-one passed)
    ∙ sum_below_more passed (λ t. count_at order (c.from-n.result - 1 - t))
    ∙ ap (λ (k : ℕ). sum + k) (sym c.count_at-count.ensures.value) in
    let cost : c.solve_chunk.new.steps ≡ c.args.steps.now
    + ((passed + 1) * (old.geometry.r * c.count_at-height.result)
    + d * (erased_in_last order c.from-n.result (passed + 1) + c.count_at-count.result * left)) =
    subst
    (λ (k : ℕ). c.solve_chunk.new.steps ≡ c.args.steps.now
    + ((passed + 1) * (old.geometry.r * c.count_at-height.result) + d * (k + c.count_at-count.result * left)))
    (sym total)
    (last_more c.args.steps.now c.loop-passed.steps c.solve_virtual_rows.new.steps c.solve_chunk.new.steps passed
    (old.geometry.r * c.count_at-height.result) d sum c.loop-passed.solved c.count_at-count.result left now rows chunk low) in
    record {
      kept = Keeps-both _ _ _ _ (Keeps-both _ _ _ _ before.kept c.solve_virtual_rows.ensures.kept) c.solve_chunk.ensures.kept;
      found = FindsFrom-more order.erased order.columns c.count_at-height.result passed c.loop-passed.solved place c.slot_at.result
          c.count_at-count.result old c.loop-passed.canon c.solve_virtual_rows.new.canon c.solve_chunk.new.canon same_a same_b at from
          is_slot is_count small before.found c.solve_virtual_rows.ensures.found c.solve_chunk.ensures.found;
      low = λ p below. omega (arith, c.count_at-count.ensures.value, falls p place (omega arith) (omega (arith, at)));
      cost = cost;
    }

pub returns-clause-found : goal.returns-clause-found
returns-clause-found g c =
    let here = c.geometry-geometry.ensures in
    FindsLastChunks-all c.args.order.now.erased c.args.order.now.columns c.count_at-height.result c.loop-passed.passed c.loop-passed.solved
    c.args.canon.now c.loop-passed.canon
    (omega (
      arith,
      c.loop-passed-test.false,
      c.loop-passed.auto.passed-end,
      c.from-m.ensures,
      c.m.ensures.value,
      ap (λ x. x.m) here,
      c.from-n.ensures,
      c.n.ensures.value,
      ap (λ x. x.n) here,
    ))
    c.loop-passed.invariant.found

pub returns-clause-cost : goal.returns-clause-cost
returns-clause-cost g c =
    let order = c.args.order.now in
    let old = c.args.canon.now in
    let here = c.geometry-geometry.ensures in
    let is_m = c.from-m.ensures ∙ c.m.ensures.value ∙ ap (λ x. x.m) here in
    let is_n = c.from-n.ensures ∙ c.n.ensures.value ∙ ap (λ x. x.n) here in
    let all : c.loop-passed.passed ≡ data_chunks old.geometry =
    omega (arith, c.loop-passed-test.false, c.loop-passed.auto.passed-end, is_m, is_n) in
    let height : c.count_at-height.result ≡ count_at order old.geometry.m = c.count_at-height.ensures.value ∙ ap (count_at order) is_m in
    let last : erased_in_last order c.from-n.result c.loop-passed.passed ≡ erased_in_last order old.geometry.n (data_chunks old.geometry) =
    ap₂ (erased_in_last order) is_n all in
    subst
    (λ (k : ℕ). c.loop-passed.steps ≡ c.args.steps.now
    + data_chunks old.geometry * (old.geometry.r * k + erased_in_last order old.geometry.n (data_chunks old.geometry)))
    height
    (subst
    (λ (k : ℕ). c.loop-passed.steps ≡ c.args.steps.now
    + data_chunks old.geometry * (old.geometry.r * c.count_at-height.result + k))
    last
    (last_all c.args.steps.now c.loop-passed.steps c.loop-passed.passed (data_chunks old.geometry)
    (old.geometry.r * c.count_at-height.result) (erased_in_last order c.from-n.result c.loop-passed.passed) c.loop-passed.solved
    (c.from-n.result - c.from-m.result - c.loop-passed.passed) c.loop-passed.invariant.cost all
    (omega (arith, is_m, is_n, all))))
