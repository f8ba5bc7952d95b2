-- All cells were taken, and then the end was looked for.
use Rattle.std.proofs.Common.{arith, refl}
use Rattle.std.specs.List.{concat}
use Rattle.stair_command.specs.Answer.{cell_bytes}
use Rattle.stair_command.specs.Outside.{source_view}
use Rattle.stair_engine.proofs.AnswerLaws.{HasBytes-cells, some_cells}
use Rattle.stair_engine.proofs.CellLaws.{few_cells, has_room, length-cell_bytes}
use Rattle.stair_command.proofs.IntakeLaws.{all_counted, whole_cut, whole_end, whole_handed_on}
use Rattle.stair_engine.proofs.check.take_input.Goals as goal

pub returns-in_err-take_stripe-clause-takes : goal.returns-in_err-take_stripe-clause-takes
returns-in_err-take_stripe-clause-takes g c =
    whole_handed_on (source_view g.S.Source) _ _ _ _ _ _ c.from_residual.ensures.1
    (whole_cut (source_view g.S.Source) _ _ _ _ _ (rw (rw c.cell_bytes.ensures.value at c.new-intake.ensures) at c.in_err-take_stripe.ensures.cut))

pub end-requires-clause-all : goal.end-requires-clause-all
end-requires-clause-all g c =
    (all_counted (source_view g.S.Source) _ _ _ (cell_bytes c.args.geometry.now) _ _ (rw c.cell_bytes.ensures.value at c.new-intake.ensures)
    (length-cell_bytes _ _ c.take_stripe.ensures.of c.take_stripe.ensures.well_formed) c.in_ok-take_stripe.ensures.ok).0

pub returns-clause-takes : goal.returns-clause-takes
returns-clause-takes g c =
    let of = c.args.geometry.now in
    let stripe = c.take_stripe.new.stripe in
    let long = length-cell_bytes of stripe c.take_stripe.ensures.of c.take_stripe.ensures.well_formed in
    let counted = all_counted (source_view g.S.Source) _ _ _ (cell_bytes of) _ _ (rw c.cell_bytes.ensures.value at c.new-intake.ensures) long
    c.in_ok-take_stripe.ensures.ok
    in
    whole_end (source_view g.S.Source) _ _ (concat stripe.cells) _ _ _ _ _ counted.1 (some_cells of c.cell_bytes.ensures.limits) long
    c.in_ok-take_stripe.ensures.ok.taken c.end.ensures.ok c.end.ensures.more
    (λ done. HasBytes-cells of stripe c.take_stripe.ensures.of c.take_stripe.ensures.well_formed (concat stripe.cells) refl)

pub take_stripe-requires-clause-room : goal.take_stripe-requires-clause-room
take_stripe-requires-clause-room g c =
    has_room c.new-intake.result (cell_bytes c.args.geometry.now) (rw c.cell_bytes.ensures.value at c.new-intake.ensures)

pub end-requires-clause-fits : goal.end-requires-clause-fits
end-requires-clause-fits g c =
    let of = c.args.geometry.now in
    let counted = all_counted (source_view g.S.Source) _ _ _ (cell_bytes of) _ _ (rw c.cell_bytes.ensures.value at c.new-intake.ensures)
    (length-cell_bytes _ _ c.take_stripe.ensures.of c.take_stripe.ensures.well_formed) c.in_ok-take_stripe.ensures.ok
    in
    omega (arith, counted.1, few_cells of c.cell_bytes.ensures.limits)
