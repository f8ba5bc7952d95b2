-- The block's place is its data cell, and its dependents have one cell at least.
use Rattle.std.proofs.Common.{◌≡◌, ◌-◌, ◌<◌, ◌%◌, ℕ, sym, ◌∙◌, ap, subst, arith}
use Rattle.std.proofs.Math.Nat.{mod-eq_of_lt}
use Rattle.stair_model.specs.Cell.{Data, cell_at, IsPlaceOf}
use Rattle.stair_model.specs.Dependents.{AreDependents}
use Rattle.stair_model.specs.Geometry.{Geometry, data_cells}
use Rattle.stair_plan.specs.Penalty.{IsPenalty}
use Rattle.stair_plan.proofs.PenaltyLemmas.{dependents_some, penalty_counted}
use Rattle.stair_plan.proofs.planning.penalty.Goals as goal

-- at the place of a block of the first stripe lies the data cell of its number
block_at : (g of : Geometry) (d block stripe row slot : ℕ) → of ≡ g → block ≡ d → d < data_cells g
    → IsPlaceOf g block stripe row slot → cell_at of row slot ≡ Data d
block_at g of d block stripe row slot same is below place =
    ap (λ (h : Geometry). cell_at h row slot) same ∙ place.at ∙ ap (λ (k : ℕ). Data (k % data_cells g)) is
    ∙ ap Data (mod-eq_of_lt below)

are_of : (c : goal.After-count) → AreDependents c.args.geometry.now c.args.block c.dependents.result
are_of c =
    subst (λ (h : Geometry). AreDependents h c.args.block c.dependents.result) c.requires.of
    (c.dependents.ensures.dependents c.args.block
    (block_at c.args.geometry.now c.args.generator.now.geometry c.args.block c.from.result c.place_of-place.result.stripe
    c.place_of-place.result.row c.place_of-place.result.slot c.requires.of c.from.ensures c.requires.below c.place_of-place.ensures.place))

pub dependents-requires-clause-data : goal.dependents-requires-clause-data
dependents-requires-clause-data c = (
  c.args.block,
  block_at c.args.geometry.now c.args.generator.now.geometry c.args.block c.from.result c.place_of-place.result.stripe
      c.place_of-place.result.row c.place_of-place.result.slot c.requires.of c.from.ensures c.requires.below c.place_of-place.ensures.place,
)

pub overflow_sub-result : goal.overflow_sub-result
overflow_sub-result c =
    omega (
      arith,
      c.count.ensures.value,
      dependents_some c.args.geometry.now c.args.block c.dependents.result c.requires.limits c.requires.below (are_of c),
    )

pub returns : goal.returns
returns c =
    subst (λ (count : ℕ). IsPenalty c.args.geometry.now c.args.block (count - 1)) (sym c.count.ensures.value)
    (penalty_counted c.args.geometry.now c.args.block c.dependents.result c.requires.limits c.requires.below
    c.dependents.ensures.well_formed (are_of c))
