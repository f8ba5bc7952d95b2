-- The columns after this place are known, and those up to it wanted, in each of the rows.
use Rattle.std.proofs.Common.{◌+◌, ap, ap₂, subst, sym, ◌∙◌, arith}
use Rattle.stair_model.specs.Geometry.{IsWithinLimits}
use Rattle.stair_up.proofs.VirtualRows.{small, are_rows, may_know, may_want, rows_in, rows_distinct, keeps_rows, finds_rows, rows_cost}
use Rattle.stair_up.proofs.solve.solve_virtual_rows.Goals as goal

pub numbers_from-rows-requires : goal.numbers_from-rows-requires
numbers_from-rows-requires g c =
    let same = c.geometry-geometry.ensures in
    let fits = small c.args.canon.now c.args.order.now.erased c.args.order.now.columns (subst IsWithinLimits same c.m.ensures.limits)
    c.requires.order.columns c.requires.covered c.args.place c.args.from c.args.to c.requires.place_from c.requires.place_in
    (omega (arith, c.if-from-to.false, c.requires.from)) c.requires.to c.from.result c.from-m.result
    (c.from.ensures ∙ c.n.ensures.value ∙ ap (λ x. x.n) same) (c.from-m.ensures ∙ c.m.ensures.value ∙ ap (λ x. x.m) same) in
    omega (arith, fits, c.from-2.ensures, c.r.ensures.value, ap (λ x. x.r) same, c.from-3.ensures, c.requires.from)

pub slice_bounds-rows-end : goal.slice_bounds-rows-end
slice_bounds-rows-end g c =
    let same = c.geometry-geometry.ensures in
    let fits = small c.args.canon.now c.args.order.now.erased c.args.order.now.columns (subst IsWithinLimits same c.m.ensures.limits)
    c.requires.order.columns c.requires.covered c.args.place c.args.from c.args.to c.requires.place_from c.requires.place_in
    (omega (arith, c.if-from-to.false, c.requires.from)) c.requires.to c.from.result c.from-m.result
    (c.from.ensures ∙ c.n.ensures.value ∙ ap (λ x. x.n) same) (c.from-m.ensures ∙ c.m.ensures.value ∙ ap (λ x. x.m) same) in
    omega (arith, fits, c.from-4.ensures, c.numbers_from-rows.ensures.count)

pub slice_bounds-solve_rows-end : goal.slice_bounds-solve_rows-end
slice_bounds-solve_rows-end g c =
    let same = c.geometry-geometry.ensures in
    c.from-4.ensures ∙ sym (are_rows c.args.canon.now c.args.order.now.erased c.args.order.now.columns (subst IsWithinLimits same c.m.ensures.limits)
    c.requires.order.columns c.requires.covered c.args.place c.args.from c.args.to c.requires.place_from c.requires.place_in
    (omega (arith, c.if-from-to.false, c.requires.from)) c.requires.to c.from.result c.from-m.result
    (c.from.ensures ∙ c.n.ensures.value ∙ ap (λ x. x.n) same) (c.from-m.ensures ∙ c.m.ensures.value ∙ ap (λ x. x.m) same)
    c.numbers_from-rows.result (c.from-2.result + c.from-3.result) c.from-4.result
    (ap₂ (λ a b. a + b) (c.from-2.ensures ∙ c.r.ensures.value ∙ ap (λ x. x.r) same) c.from-3.ensures) c.from-4.ensures
    c.numbers_from-rows.ensures.count c.numbers_from-rows.ensures.each).many

pub solve_rows-requires-clause-rows_in : goal.solve_rows-requires-clause-rows_in
solve_rows-requires-clause-rows_in g c =
    let same = c.geometry-geometry.ensures in
    rows_in c.args.canon.now c.args.order.now.erased c.args.order.now.columns (subst IsWithinLimits same c.m.ensures.limits)
    c.requires.order.columns c.requires.covered c.args.place c.args.from c.args.to c.requires.place_from c.requires.place_in
    (omega (arith, c.if-from-to.false, c.requires.from)) c.requires.to c.from.result c.from-m.result
    (c.from.ensures ∙ c.n.ensures.value ∙ ap (λ x. x.n) same) (c.from-m.ensures ∙ c.m.ensures.value ∙ ap (λ x. x.m) same)
    c.numbers_from-rows.result (c.from-2.result + c.from-3.result) c.from-4.result
    (ap₂ (λ a b. a + b) (c.from-2.ensures ∙ c.r.ensures.value ∙ ap (λ x. x.r) same) c.from-3.ensures) c.from-4.ensures
    c.numbers_from-rows.ensures.count c.numbers_from-rows.ensures.each

pub solve_rows-requires-clause-distinct : goal.solve_rows-requires-clause-distinct
solve_rows-requires-clause-distinct g c =
    let same = c.geometry-geometry.ensures in
    rows_distinct c.args.canon.now c.args.order.now.erased c.args.order.now.columns (subst IsWithinLimits same c.m.ensures.limits)
    c.requires.order.columns c.requires.covered c.args.place c.args.from c.args.to c.requires.place_from c.requires.place_in
    (omega (arith, c.if-from-to.false, c.requires.from)) c.requires.to c.from.result c.from-m.result
    (c.from.ensures ∙ c.n.ensures.value ∙ ap (λ x. x.n) same) (c.from-m.ensures ∙ c.m.ensures.value ∙ ap (λ x. x.m) same)
    c.numbers_from-rows.result (c.from-2.result + c.from-3.result) c.from-4.result
    (ap₂ (λ a b. a + b) (c.from-2.ensures ∙ c.r.ensures.value ∙ ap (λ x. x.r) same) c.from-3.ensures) c.from-4.ensures
    c.numbers_from-rows.ensures.count c.numbers_from-rows.ensures.each

pub solve_rows-requires-clause-known : goal.solve_rows-requires-clause-known
solve_rows-requires-clause-known g c =
    let same = c.geometry-geometry.ensures in
    may_know c.args.canon.now c.args.order.now.erased c.args.order.now.columns (subst IsWithinLimits same c.m.ensures.limits)
    c.requires.order.columns c.requires.covered c.args.place c.args.from c.args.to c.requires.place_from c.requires.place_in
    (omega (arith, c.if-from-to.false, c.requires.from)) c.requires.to c.from.result c.from-m.result
    (c.from.ensures ∙ c.n.ensures.value ∙ ap (λ x. x.n) same) (c.from-m.ensures ∙ c.m.ensures.value ∙ ap (λ x. x.m) same)

pub solve_rows-requires-clause-wanted : goal.solve_rows-requires-clause-wanted
solve_rows-requires-clause-wanted g c =
    let same = c.geometry-geometry.ensures in
    may_want c.args.canon.now c.args.order.now.erased c.args.order.now.columns (subst IsWithinLimits same c.m.ensures.limits)
    c.requires.order.columns c.requires.covered c.args.place c.args.from c.args.to c.requires.place_from c.requires.place_in
    (omega (arith, c.if-from-to.false, c.requires.from)) c.requires.to c.from.result c.from-m.result
    (c.from.ensures ∙ c.n.ensures.value ∙ ap (λ x. x.n) same) (c.from-m.ensures ∙ c.m.ensures.value ∙ ap (λ x. x.m) same)

pub returns-clause-kept : goal.returns-clause-kept
returns-clause-kept g c =
    let same = c.geometry-geometry.ensures in
    keeps_rows c.args.canon.now c.args.order.now.erased c.args.order.now.columns (subst IsWithinLimits same c.m.ensures.limits)
    c.requires.order.columns c.requires.covered c.args.place c.args.from c.args.to c.requires.place_from c.requires.place_in
    (omega (arith, c.if-from-to.false, c.requires.from)) c.requires.to c.from.result c.from-m.result
    (c.from.ensures ∙ c.n.ensures.value ∙ ap (λ x. x.n) same) (c.from-m.ensures ∙ c.m.ensures.value ∙ ap (λ x. x.m) same)
    c.numbers_from-rows.result (c.from-2.result + c.from-3.result) c.from-4.result
    (ap₂ (λ a b. a + b) (c.from-2.ensures ∙ c.r.ensures.value ∙ ap (λ x. x.r) same) c.from-3.ensures) c.from-4.ensures
    c.numbers_from-rows.ensures.count c.numbers_from-rows.ensures.each c.solve_rows.new.self c.solve_rows.ensures.solved

pub returns-clause-found : goal.returns-clause-found
returns-clause-found g c =
    let same = c.geometry-geometry.ensures in
    finds_rows c.args.canon.now c.args.order.now.erased c.args.order.now.columns (subst IsWithinLimits same c.m.ensures.limits)
    c.requires.order.columns c.requires.covered c.args.place c.args.from c.args.to c.requires.place_from c.requires.place_in
    (omega (arith, c.if-from-to.false, c.requires.from)) c.requires.to c.from.result c.from-m.result
    (c.from.ensures ∙ c.n.ensures.value ∙ ap (λ x. x.n) same) (c.from-m.ensures ∙ c.m.ensures.value ∙ ap (λ x. x.m) same)
    c.numbers_from-rows.result (c.from-2.result + c.from-3.result) c.from-4.result
    (ap₂ (λ a b. a + b) (c.from-2.ensures ∙ c.r.ensures.value ∙ ap (λ x. x.r) same) c.from-3.ensures) c.from-4.ensures
    c.numbers_from-rows.ensures.count c.numbers_from-rows.ensures.each c.solve_rows.new.self c.solve_rows.ensures.solved

pub returns-clause-cost : goal.returns-clause-cost
returns-clause-cost g c =
    let same = c.geometry-geometry.ensures in
    c.solve_rows.ensures.cost ∙ rows_cost c.args.canon.now c.args.order.now.erased c.args.order.now.columns (subst IsWithinLimits same c.m.ensures.limits)
    c.requires.order.columns c.requires.covered c.args.place c.args.from c.args.to c.requires.place_from c.requires.place_in
    (omega (arith, c.if-from-to.false, c.requires.from)) c.requires.to c.from.result c.from-m.result
    (c.from.ensures ∙ c.n.ensures.value ∙ ap (λ x. x.n) same) (c.from-m.ensures ∙ c.m.ensures.value ∙ ap (λ x. x.m) same)
    c.numbers_from-rows.result (c.from-2.result + c.from-3.result) c.from-4.result
    (ap₂ (λ a b. a + b) (c.from-2.ensures ∙ c.r.ensures.value ∙ ap (λ x. x.r) same) c.from-3.ensures) c.from-4.ensures
    c.numbers_from-rows.ensures.count c.numbers_from-rows.ensures.each c.args.steps.now
