-- No cell, one cell more, and a whole row; a piece that was cut short after the cells so far; and all cells.
use Rattle.std.proofs.Common.{◌≡◌, ℕ, ◌+◌, ◌*◌, ◌<◌, ap, arith, length, rules, subst}
use Rattle.stair_command.specs.Outside.{source_view}
use Rattle.stair_engine.proofs.CellLaws.{HasTaken, HasTaken-all, HasTaken-more, HasTaken-none, row_more}
use Rattle.stair_command.proofs.IntakeLaws.{CutsShort-later, if_err_of}
use Rattle.stair_engine.proofs.cells.take_stripe.Goals as goal
use Rattle.stair_model.proofs.StripeLaws.{number_in}

pub returns-in_err-fill-clause-cut : goal.returns-in_err-fill-clause-cut
returns-in_err-fill-clause-cut g c =
    if_err_of _ c.in_err-fill.field-0.0 _ c.from_residual.ensures.1
    (CutsShort-later (source_view g.S.Source) _ _ _ _ _ _ _ c.loop-slot.invariant.taken c.in_err-fill.ensures.cut)

pub loop-slot-preserved : goal.loop-slot-preserved
loop-slot-preserved g c =
    let of = c.args.geometry.now in
    let slot_in : c.loop-slot.slot < of.n = omega (arith, c.n-slot-end.ensures.value) in
    let row_in : c.loop-row.row < of.r = omega (arith, c.r-row-end.ensures.value) in
    rw c.put.ensures.value
    (HasTaken-more (source_view g.S.Source) of _ _ _ _ _ _ c.fill.new.into _ _ _ row_in slot_in (omega (arith, c.fill.auto.into))
    (rw c.put.ensures.value at c.put.ensures.well_formed) c.loop-slot.invariant c.in_ok-fill.ensures.ok)

pub loop-row-init : goal.loop-row-init
loop-row-init g c =
    let view = source_view g.S.Source in
    let of = c.args.geometry.now in
    let none : 0 ≡ 0 * of.n = omega arith in
    subst (λ (done : ℕ). HasTaken view of c.args.intake.now c.args.intake.now c.args.stripe.now done c.args.input.now c.args.input.now)
    none
    (HasTaken-none view of c.args.intake.now c.args.stripe.now c.args.input.now c.requires.of c.requires.well_formed)

pub loop-slot-init : goal.loop-slot-init
loop-slot-init g c =
    let view = source_view g.S.Source in
    let of = c.args.geometry.now in
    let none : c.loop-row.row * of.n ≡ c.loop-row.row * of.n + 0 = omega arith in
    subst (λ (done : ℕ). HasTaken view of c.args.intake.now c.loop-row.intake c.loop-row.stripe done c.args.input.now c.loop-row.input) none
    c.loop-row.invariant

pub fill-requires-clause-room : goal.fill-requires-clause-room
fill-requires-clause-room g c =
    let of = c.args.geometry.now in
    let slot_in : c.loop-slot.slot < of.n = omega (arith, c.n-slot-end.ensures.value) in
    let row_in : c.loop-row.row < of.r = omega (arith, c.r-row-end.ensures.value) in
    let has = c.loop-slot.invariant in
    let long : length c.loop-slot.sector ≡ 512 = search rules in
    omega (arith, has.took_is, has.needed_is, number_in of c.loop-row.row c.loop-slot.slot row_in slot_in, c.requires.room, long)

pub loop-row-preserved : goal.loop-row-preserved
loop-row-preserved g c =
    let view = source_view g.S.Source in
    let of = c.args.geometry.now in
    let all : c.loop-slot.slot ≡ of.n = omega (arith, c.n-slot-end.ensures.value) in
    subst (λ (done : ℕ). HasTaken view of c.args.intake.now c.loop-slot.intake c.loop-slot.stripe done c.args.input.now c.loop-slot.input)
    (row_more c.loop-row.row of.n c.loop-slot.slot all) c.loop-slot.invariant

pub returns-clause-ok : goal.returns-clause-ok
returns-clause-ok g c =
    let view = source_view g.S.Source in
    let of = c.args.geometry.now in
    let all : c.loop-row.row ≡ of.r = omega (arith, c.r-row-end.ensures.value) in
    HasTaken-all view of _ _ c.loop-row.stripe (c.loop-row.row * of.n) _ _ (ap (λ (row : ℕ). row * of.n) all) c.loop-row.invariant
