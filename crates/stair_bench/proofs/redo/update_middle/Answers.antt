-- The middle block's dependents are cells of the stripe, among them its own cell. The code and the stripe stay of one geometry.
use Rattle.std.proofs.Common.{◌≡◌, ◌∙◌, sym, subst}
use Rattle.stair_model.specs.Cell.{Data, cell_at}
use Rattle.stair_model.specs.Dependents.{AreDependents}
use Rattle.stair_model.specs.Geometry.{Geometry}
use Rattle.stair_model.specs.Stripe.{IsStripeOf}
use Rattle.stair_bench.proofs.Redos.{redo_of_dependents}
use Rattle.stair_bench.proofs.redo.update_middle.Goals as goal

pub update-requires-clause-data : goal.update-requires-clause-data
update-requires-clause-data g c =
    let block = c.middle_block-middle.ensures.data in (
      block.0,
      subst (λ (h : Geometry). cell_at h c.middle_block-middle.result.row c.middle_block-middle.result.slot ≡ Data block.0) (sym c.requires.shape) block.1,
    )

pub dependents-requires-clause-data : goal.dependents-requires-clause-data
dependents-requires-clause-data g c =
    let block = c.middle_block-middle.ensures.data in
    let same = c.update.ensures.same_shape ∙ c.requires.shape in (
      block.0,
      subst (λ (h : Geometry). cell_at h c.middle_block-middle.result.row c.middle_block-middle.result.slot ≡ Data block.0) (sym same) block.1,
    )

pub returns-clause-redo : goal.returns-clause-redo
returns-clause-redo g c =
    let middle = c.middle_block-middle.ensures in
    let block = middle.data in
    let same = c.update.ensures.same_shape ∙ c.requires.shape in
    let is = subst (λ (h : Geometry). cell_at h c.middle_block-middle.result.row c.middle_block-middle.result.slot ≡ Data block.0) (sym same) block.1 in
    redo_of_dependents c.args.geometry.now block.0 c.middle_block-middle.result.row c.middle_block-middle.result.slot
    c.dependents.result middle.limits middle.row_in middle.slot_in block.1
    (subst (λ (h : Geometry). AreDependents h block.0 c.dependents.result) same (c.dependents.ensures.dependents block.0 is))
    c.dependents.ensures.well_formed

pub returns-clause-stripe : goal.returns-clause-stripe
returns-clause-stripe g c =
    let block = c.middle_block-middle.ensures.data in
    let is = subst (λ (h : Geometry). cell_at h c.middle_block-middle.result.row c.middle_block-middle.result.slot ≡ Data block.0) (sym c.requires.shape) block.1 in
    subst (λ (h : Geometry). IsStripeOf h c.update.new.stripe) c.requires.shape (c.update.ensures.updated block.0 is).of
