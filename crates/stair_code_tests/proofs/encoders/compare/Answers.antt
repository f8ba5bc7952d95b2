-- A block that was set, or another cell.
use Rattle.std.proofs.Common.{◌≡◌, ap, ◌∙◌, sym, subst}
use Rattle.stair_model.specs.Cell.{Data, cell_at}
use Rattle.stair_model.specs.Stripe.{IsStripeOf}
use Rattle.stair_code_tests.proofs.encoders.compare.Goals as goal
use Rattle.stair_code_tests.proofs.encoders.compare.Goals.{in-Block+else-assert-2, in_default}

pub same_cells-requires-in-Block-clause-first : goal.same_cells-requires-in-Block-clause-first
same_cells-requires-in-Block-clause-first g c =
    let shape = c.loop-slot.invariant.0 in
    subst (λ h. IsStripeOf h c.update.new.stripe) shape
    (c.update.ensures.updated c.in-Block.number
    (subst (λ h. cell_at h c.loop-row.row c.loop-slot.slot ≡ Data c.in-Block.number) (sym shape) (sym c.in-Block.ensures))).of

pub loop-slot-preserved : goal.loop-slot-preserved
loop-slot-preserved g c =
    let shape = c.loop-slot.invariant.0 in
    elim c.match-kind.branch [
      | in-Block+else-assert-2 w ↦ (
        ap (λ x. x.geometry) w.code-is ∙ w.encode-in-Block.ensures.same_shape ∙ w.update.ensures.same_shape ∙ shape,
        rw w.stripe-is
            (subst (λ h. IsStripeOf h w.update.new.stripe) shape
            (w.update.ensures.updated w.in-Block.number
            (subst (λ h. cell_at h c.loop-row.row c.loop-slot.slot ≡ Data w.in-Block.number) (sym shape) (sym w.in-Block.ensures))).of),
        rw w.want-is
            (subst (λ h. IsStripeOf h w.encode-in-Block.new.stripe) (w.update.ensures.same_shape ∙ shape)
            w.encode-in-Block.ensures.encoded.of),
      )
      | in_default w ↦ (
        ap (λ x. x.geometry) w.code-is ∙ shape,
        rw w.stripe-is c.loop-slot.invariant.1,
        rw w.want-is c.loop-slot.invariant.2,
      )
    ]
