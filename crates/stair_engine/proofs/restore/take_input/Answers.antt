-- A map and all cells were taken, and then the end was looked for.
use Rattle.std.proofs.Common.{◌≡◌, ℕ, ◌+◌, ◌*◌, ◌<◌, ◌++◌, length, length-append, ap, ap₂, ◌∙◌, arith}
use Rattle.std.specs.List.{concat}
use Rattle.stair_model.specs.Geometry.{Geometry, IsWithinLimits}
use Rattle.stair_conf.specs.declared.job.StripeCommand.TheVariants.{Restore}
use Rattle.stair_command.specs.Answer.{bytes_needed}
use Rattle.stair_command.specs.Outside.{source_view}
use Rattle.stair_command.specs.Taking.{intake_of}
use Rattle.stair_command.specs.declared.intake.Intake.{Intake}
use Rattle.stair_engine.proofs.AnswerLaws.{IsMapAndCells-all, some_cells}
use Rattle.stair_engine.proofs.CellLaws.{few_cells, has_room, length-cell_bytes}
use Rattle.stair_command.proofs.IntakeLaws.{CutsShort-later, TakesBytes-more, all_counted, whole_cut, whole_ended, whole_goes_on, whole_handed_on}
use Rattle.stair_engine.proofs.restore.take_input.Goals as goal

-- the bytes that are needed are those of the map and of the cells
needs : (of : Geometry) (from from' r n cells : ℕ) → from ≡ r → from' ≡ n → r ≡ of.r → n ≡ of.n → cells ≡ of.r * of.n * 512
    → from * from' + cells ≡ bytes_needed Restore of
needs of from from' r n cells is_r is_n r_is n_is cells_is =
    ap₂ (λ (a b : ℕ). a + b) (ap₂ (λ (a b : ℕ). a * b) (is_r ∙ r_is) (is_n ∙ n_is)) cells_is

some : (of : Geometry) → IsWithinLimits of → 0 < bytes_needed Restore of
some of limits = omega (arith, some_cells of limits)

pub returns-in_err-erased-clause-takes : goal.returns-in_err-erased-clause-takes
returns-in_err-erased-clause-takes g c =
    let of = c.args.geometry.now in
    let first : c.new-intake.result ≡ intake_of (bytes_needed Restore of) =
    c.new-intake.ensures ∙ ap intake_of (needs of _ _ _ _ _ c.from.ensures c.from-2.ensures c.r.ensures.value c.n.ensures.value c.cell_bytes.ensures.value)
    in
    whole_handed_on (source_view g.S.Source) _ _ _ _ _ _ c.from_residual.ensures.1 (whole_cut (source_view g.S.Source) _ _ _ _ _ (rw first at c.in_err-erased.ensures.cut))

pub returns-in_err-take_stripe-clause-takes : goal.returns-in_err-take_stripe-clause-takes
returns-in_err-take_stripe-clause-takes g c =
    let of = c.args.geometry.now in
    let first : c.new-intake.result ≡ intake_of (bytes_needed Restore of) =
    c.new-intake.ensures ∙ ap intake_of (needs of _ _ _ _ _ c.from.ensures c.from-2.ensures c.r.ensures.value c.n.ensures.value c.cell_bytes.ensures.value)
    in
    let mapped = c.in_ok-erased.ensures.ok in
    whole_handed_on (source_view g.S.Source) _ _ _ _ _ _ c.from_residual-in_err-take_stripe.ensures.1
    (whole_cut (source_view g.S.Source) _ _ _ _ _ (rw first at (CutsShort-later (source_view g.S.Source) _ _ _ _ _ _ _ mapped.3 c.in_err-take_stripe.ensures.cut)))

pub end-requires-clause-all : goal.end-requires-clause-all
end-requires-clause-all g c =
    let of = c.args.geometry.now in
    let first : c.new-intake.result ≡ intake_of (bytes_needed Restore of) =
    c.new-intake.ensures ∙ ap intake_of (needs of _ _ _ _ _ c.from.ensures c.from-2.ensures c.r.ensures.value c.n.ensures.value c.cell_bytes.ensures.value)
    in
    let mapped = c.in_ok-erased.ensures.ok in
    let cells = concat c.take_stripe.new.stripe.cells in
    let long : length (mapped.0 ++ cells) ≡ bytes_needed Restore of =
    length-append mapped.0 cells
    ∙ ap₂ (λ (a b : ℕ). a + b) mapped.1 (length-cell_bytes of c.take_stripe.new.stripe c.take_stripe.ensures.of c.take_stripe.ensures.well_formed)
    in
    (all_counted (source_view g.S.Source) _ _ (mapped.0 ++ cells) (bytes_needed Restore of) _ _ first long
    (TakesBytes-more (source_view g.S.Source) _ _ _ mapped.0 cells _ _ _ mapped.3 c.in_ok-take_stripe.ensures.ok)).0

pub returns-in_err-end-clause-takes : goal.returns-in_err-end-clause-takes
returns-in_err-end-clause-takes g c =
    let of = c.args.geometry.now in
    let first : c.new-intake.result ≡ intake_of (bytes_needed Restore of) =
    c.new-intake.ensures ∙ ap intake_of (needs of _ _ _ _ _ c.from.ensures c.from-2.ensures c.r.ensures.value c.n.ensures.value c.cell_bytes.ensures.value)
    in
    let mapped = c.in_ok-erased.ensures.ok in
    let cells = concat c.take_stripe.new.stripe.cells in
    let taken = TakesBytes-more (source_view g.S.Source) _ _ _ mapped.0 cells _ _ _ mapped.3 c.in_ok-take_stripe.ensures.ok in
    let long : length (mapped.0 ++ cells) ≡ bytes_needed Restore of =
    length-append mapped.0 cells
    ∙ ap₂ (λ (a b : ℕ). a + b) mapped.1 (length-cell_bytes of c.take_stripe.new.stripe c.take_stripe.ensures.of c.take_stripe.ensures.well_formed)
    in
    let counted = all_counted (source_view g.S.Source) _ _ (mapped.0 ++ cells) (bytes_needed Restore of) _ _ first long taken in
    whole_handed_on (source_view g.S.Source) _ _ _ _ _ _ c.from_residual-in_err-end.ensures.1
    (whole_goes_on (source_view g.S.Source) _ _ (mapped.0 ++ cells) _ _ _ _ _ counted.1 (some of c.cell_bytes.ensures.limits) long taken.taken c.in_err-end.ensures.more)

pub returns-clause-takes : goal.returns-clause-takes
returns-clause-takes g c =
    let of = c.args.geometry.now in
    let mapped = c.in_ok-erased.ensures.ok in
    let stripe = c.take_stripe.new.stripe in
    let cells = concat stripe.cells in
    let taken = TakesBytes-more (source_view g.S.Source) _ _ _ mapped.0 cells _ _ _ mapped.3 c.in_ok-take_stripe.ensures.ok in
    let long : length (mapped.0 ++ cells) ≡ bytes_needed Restore of =
    length-append mapped.0 cells
    ∙ ap₂ (λ (a b : ℕ). a + b) mapped.1 (length-cell_bytes of stripe c.take_stripe.ensures.of c.take_stripe.ensures.well_formed)
    in
    whole_ended (source_view g.S.Source) _ _ (mapped.0 ++ cells) _ _ _ _ (some of c.cell_bytes.ensures.limits) long taken.taken c.in_ok-end.ensures.ok
    (IsMapAndCells-all of stripe _ mapped.0 mapped.1 mapped.2 c.take_stripe.ensures.of c.take_stripe.ensures.well_formed)

pub take_map-requires : goal.take_map-requires
take_map-requires g c =
    let of = c.args.geometry.now in
    let first : c.new-intake.result ≡ intake_of (bytes_needed Restore of) =
    c.new-intake.ensures ∙ ap intake_of (needs of _ _ _ _ _ c.from.ensures c.from-2.ensures c.r.ensures.value c.n.ensures.value c.cell_bytes.ensures.value)
    in
    omega (arith, has_room c.new-intake.result (bytes_needed Restore of) first)

pub take_stripe-requires-clause-room : goal.take_stripe-requires-clause-room
take_stripe-requires-clause-room g c =
    let of = c.args.geometry.now in
    let first : c.new-intake.result ≡ intake_of (bytes_needed Restore of) =
    c.new-intake.ensures ∙ ap intake_of (needs of _ _ _ _ _ c.from.ensures c.from-2.ensures c.r.ensures.value c.n.ensures.value c.cell_bytes.ensures.value)
    in
    let mapped = c.in_ok-erased.ensures.ok in
    omega (
      arith,
      has_room c.new-intake.result (bytes_needed Restore of) first,
      ap (λ (k : Intake). k.took) mapped.3.counted,
      ap (λ (k : Intake). k.needed) mapped.3.counted,
      mapped.1,
    )

pub end-requires-clause-fits : goal.end-requires-clause-fits
end-requires-clause-fits g c =
    let of = c.args.geometry.now in
    let first : c.new-intake.result ≡ intake_of (bytes_needed Restore of) =
    c.new-intake.ensures ∙ ap intake_of (needs of _ _ _ _ _ c.from.ensures c.from-2.ensures c.r.ensures.value c.n.ensures.value c.cell_bytes.ensures.value)
    in
    omega (
      arith,
      ap (λ (k : Intake). k.needed) first,
      ap (λ (k : Intake). k.needed) c.in_ok-erased.ensures.ok.3.counted,
      ap (λ (k : Intake). k.needed) c.in_ok-take_stripe.ensures.ok.counted,
      few_cells of c.cell_bytes.ensures.limits,
    )
