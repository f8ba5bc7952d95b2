-- The parities are covered; they are found, and the blocks stay; the falling counts of the parities tell the steps.
use Rattle.std.proofs.Common.{ℕ, ◌+◌, ap, ◌∙◌}
use Rattle.std.specs.Prelude.{slice_index}
use Rattle.stair_model.specs.CellSet.{cell_count}
use Rattle.stair_up.proofs.Encoded.{IsEncodedFrom-found}
use Rattle.stair_up.proofs.Parities.{parities_covered, height_is, parity_count, upstairs_cost_is}
use Rattle.stair_up.proofs.encode.encode_upstairs.Goals as goal

pub solve_erased-requires-clause-covered : goal.solve_erased-requires-clause-covered
solve_erased-requires-clause-covered g c =
    parities_covered c.args.canon.now.geometry c.order.result.now.erased c.order.ensures.limits c.order.ensures.cells.inside
    c.order.ensures.cells.members

pub returns-clause-encoded : goal.returns-clause-encoded
returns-clause-encoded g c =
    IsEncodedFrom-found c.args.canon.now.geometry c.order.result.now.erased c.args.stripe.now c.solve_erased.new.stripe
    c.order.ensures.limits c.order.ensures.cells.members c.solve_erased.ensures.shape c.solve_erased.ensures.well_formed
    c.solve_erased.ensures.held c.solve_erased.ensures.found

pub returns-clause-cost : goal.returns-clause-cost
returns-clause-cost g c =
    let x = c.args.canon.now.geometry in
    let cells = c.order.result.now.erased in
    let limits = c.order.ensures.limits in
    let are = c.order.ensures.cells in
    let covered = parities_covered x cells limits are.inside are.members in
    c.solve_erased.ensures.cost covered.counts covered.sorted
    ∙ ap (λ (k : ℕ). c.args.steps.now + k)
    (upstairs_cost_is x (slice_index covered.counts x.m) (cell_count cells)
    (height_is x cells limits are.inside are.members covered.counts covered.sorted covered.within) (parity_count x cells limits are.inside are.members))
