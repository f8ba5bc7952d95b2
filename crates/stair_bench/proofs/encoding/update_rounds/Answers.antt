-- The code and the stripe have the same geometry in each round.
use Rattle.std.proofs.Common.{◌≡◌, ◌<◌, ℕ, ◌∙◌, sym, subst}
use Rattle.stair_model.specs.Cell.{Data, cell_at}
use Rattle.stair_model.specs.Stripe.{IsStripeOf}
use Rattle.stair_bench.proofs.encoding.update_rounds.Goals as goal

pub update-requires-clause-row_in : goal.update-requires-clause-row_in
update-requires-clause-row_in g c =
    subst (λ h. c.middle_block-middle.result.row < h.r) (sym c.loop-round.invariant.0) c.middle_block-middle.ensures.row_in

pub update-requires-clause-slot_in : goal.update-requires-clause-slot_in
update-requires-clause-slot_in g c =
    subst (λ h. c.middle_block-middle.result.slot < h.n) (sym c.loop-round.invariant.0) c.middle_block-middle.ensures.slot_in

pub update-requires-clause-data : goal.update-requires-clause-data
update-requires-clause-data g c =
    subst (λ h. (d : ℕ) × (cell_at h c.middle_block-middle.result.row c.middle_block-middle.result.slot ≡ Data d))
    (sym c.loop-round.invariant.0) c.middle_block-middle.ensures.data

pub loop-round-preserved : goal.loop-round-preserved
loop-round-preserved g c =
    let block = c.middle_block-middle.ensures.data in (
      c.update.ensures.same_shape ∙ c.loop-round.invariant.0,
      subst (λ h. IsStripeOf h c.update.new.stripe) c.loop-round.invariant.0
          (c.update.ensures.updated block.0
          (subst (λ h. cell_at h c.middle_block-middle.result.row c.middle_block-middle.result.slot ≡ Data block.0) (sym c.loop-round.invariant.0)
          block.1)).of,
    )
