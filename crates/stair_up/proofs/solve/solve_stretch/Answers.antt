-- The chunks from place m on are known, and those of the stretch are wanted.
use Rattle.std.proofs.Common.{ℕ, ◌-◌, take, drop, subst, ap, ◌∙◌}
use Rattle.stair_model.specs.Geometry.{IsWithinLimits}
use Rattle.stair_canon.specs.Solving.{SolvesRow}
use Rattle.stair_up.proofs.FirstCells.{finds_stretch, keeps_stretch, may_know, may_want, stretch_cost}
use Rattle.stair_up.proofs.solve.solve_stretch.Goals as goal

pub solve_row-requires-clause-known : goal.solve_row-requires-clause-known
solve_row-requires-clause-known g c =
    let same = c.geometry-geometry.ensures in
    may_know c.args.canon.now c.args.order.now.erased c.args.order.now.columns (subst IsWithinLimits same c.m.ensures.limits) c.requires.order.columns
    c.args.from c.args.to c.requires.from c.requires.to c.from-2.result c.from.result c.args.row
    (c.from-2.ensures ∙ c.n.ensures.value ∙ ap (λ x. x.n) same) (c.from.ensures ∙ c.m.ensures.value ∙ ap (λ x. x.m) same) c.requires.row

pub solve_row-requires-clause-wanted : goal.solve_row-requires-clause-wanted
solve_row-requires-clause-wanted g c =
    let same = c.geometry-geometry.ensures in
    may_want c.args.canon.now c.args.order.now.erased c.args.order.now.columns (subst IsWithinLimits same c.m.ensures.limits) c.requires.order.columns
    c.args.from c.args.to c.requires.from c.requires.to c.from-2.result c.from.result c.args.row
    (c.from-2.ensures ∙ c.n.ensures.value ∙ ap (λ x. x.n) same) (c.from.ensures ∙ c.m.ensures.value ∙ ap (λ x. x.m) same) c.requires.row

pub returns-clause-kept : goal.returns-clause-kept
returns-clause-kept g c =
    let same = c.geometry-geometry.ensures in
    keeps_stretch c.args.canon.now c.args.order.now.erased c.args.order.now.columns (subst IsWithinLimits same c.m.ensures.limits) c.requires.order.columns
    c.args.from c.args.to c.requires.from c.requires.to c.from-2.result c.from.result c.args.row
    (c.from-2.ensures ∙ c.n.ensures.value ∙ ap (λ x. x.n) same) (c.from.ensures ∙ c.m.ensures.value ∙ ap (λ x. x.m) same) c.requires.row
    c.solve_row.new.self (subst (λ (i : ℕ). SolvesRow i (take (c.from-2.result - c.from.result) (drop c.from.result c.args.order.now.columns))
    (take (c.args.to - c.args.from) (drop c.args.from c.args.order.now.columns)) c.args.canon.now c.solve_row.new.self) c.from-3.ensures c.solve_row.ensures.solved)
    c.requires.erased

pub returns-clause-found : goal.returns-clause-found
returns-clause-found g c =
    let same = c.geometry-geometry.ensures in
    finds_stretch c.args.canon.now c.args.order.now.erased c.args.order.now.columns (subst IsWithinLimits same c.m.ensures.limits) c.requires.order.columns
    c.args.from c.args.to c.requires.from c.requires.to c.from-2.result c.from.result c.args.row
    (c.from-2.ensures ∙ c.n.ensures.value ∙ ap (λ x. x.n) same) (c.from.ensures ∙ c.m.ensures.value ∙ ap (λ x. x.m) same) c.requires.row
    c.solve_row.new.self (subst (λ (i : ℕ). SolvesRow i (take (c.from-2.result - c.from.result) (drop c.from.result c.args.order.now.columns))
    (take (c.args.to - c.args.from) (drop c.args.from c.args.order.now.columns)) c.args.canon.now c.solve_row.new.self) c.from-3.ensures c.solve_row.ensures.solved)

pub returns-clause-cost : goal.returns-clause-cost
returns-clause-cost g c =
    let same = c.geometry-geometry.ensures in
    c.solve_row.ensures.cost
    ∙ stretch_cost c.args.canon.now c.args.order.now.erased c.args.order.now.columns (subst IsWithinLimits same c.m.ensures.limits) c.requires.order.columns
    c.args.from c.args.to c.requires.from c.requires.to c.from-2.result c.from.result c.args.row
    (c.from-2.ensures ∙ c.n.ensures.value ∙ ap (λ x. x.n) same) (c.from.ensures ∙ c.m.ensures.value ∙ ap (λ x. x.m) same) c.requires.row
    c.args.steps.now
