-- No block, and one block more; one that was cut short after the blocks so far; and all blocks.
use Rattle.std.proofs.Common.{◌≡◌, ℕ, ◌%◌, ◌<◌, rules, ap, ◌∙◌, arith, length, subst}
use Rattle.std.proofs.Math.Nat.{mod-eq_of_lt}
use Rattle.stair_model.specs.Cell.{Data, cell_at}
use Rattle.stair_model.specs.Geometry.{data_cells}
use Rattle.stair_command.specs.Outside.{source_view}
use Rattle.stair_engine.specs.Taking.{TakesBlocksTo}
use Rattle.stair_engine.proofs.BlockLaws.{TakesBlocksTo-more, TakesBlocksTo-none, took_blocks}
use Rattle.stair_command.proofs.IntakeLaws.{CutsShort-later, if_err_of}
use Rattle.stair_engine.proofs.blocks.take_blocks.Goals as goal

pub fill-requires-clause-room : goal.fill-requires-clause-room
fill-requires-clause-room g c =
    let took = took_blocks (source_view g.S.Source) _ _ _ _ _ _ _ c.loop-number.invariant.taken in
    let below : c.loop-number.number < data_cells c.args.geometry.now = omega (arith, c.u-number-end.ensures.value) in
    let long : length c.loop-number.sector ≡ 512 = search rules in
    omega (arith, took.0, took.1, below, long, c.requires.room)

pub returns-in_err-fill-clause-cut : goal.returns-in_err-fill-clause-cut
returns-in_err-fill-clause-cut g c =
    if_err_of _ c.in_err-fill.field-0.0 _ c.from_residual.ensures.1
    (CutsShort-later (source_view g.S.Source) _ _ _ _ _ _ _ c.loop-number.invariant.taken.taken c.in_err-fill.ensures.cut)

pub loop-number-preserved : goal.loop-number-preserved
loop-number-preserved g c =
    let of = c.args.geometry.now in
    let number = c.loop-number.number in
    let place = c.place_of-place.ensures.place in
    let below : number < data_cells of = omega (arith, c.u-number-end.ensures.value) in
    let at : cell_at of c.place_of-place.result.row c.place_of-place.result.slot ≡ Data number =
    place.at ∙ ap (λ (b : ℕ). Data (b % data_cells of)) c.from.ensures ∙ ap Data (mod-eq_of_lt below)
    in
    record {
      of = rw c.put.ensures.value (record { rows = c.loop-number.invariant.of.rows; chunks = c.loop-number.invariant.of.chunks });
      well_formed = c.put.ensures.well_formed;
      taken =
          rw c.put.ensures.value
          (TakesBlocksTo-more (source_view g.S.Source) of _ _ _ c.loop-number.stripe number _ _ c.fill.new.into _ _ _
          c.loop-number.invariant.of c.loop-number.invariant.well_formed place.row_in place.chunk_in at
          (rw c.put.ensures.value at c.put.ensures.well_formed) c.loop-number.invariant.taken c.in_ok-fill.ensures.ok);
    }

pub loop-number-init : goal.loop-number-init
loop-number-init g c = record {
  of = c.requires.of;
  well_formed = c.requires.well_formed;
  taken = TakesBlocksTo-none (source_view g.S.Source) c.args.geometry.now c.args.intake.now c.args.stripe.now c.args.input.now;
}

pub returns-clause-ok : goal.returns-clause-ok
returns-clause-ok g c =
    let view = source_view g.S.Source in
    let of = c.args.geometry.now in
    let all : c.loop-number.number ≡ data_cells of = omega (arith, c.u-number-end.ensures.value) in
    subst (λ (count : ℕ). TakesBlocksTo view of count c.args.intake.now c.loop-number.intake c.loop-number.stripe c.args.input.now c.loop-number.input) all
    c.loop-number.invariant.taken

pub returns-clause-of : goal.returns-clause-of
returns-clause-of g c = c.loop-number.invariant.of

pub returns-clause-well_formed : goal.returns-clause-well_formed
returns-clause-well_formed g c = c.loop-number.invariant.well_formed

pub put-requires-clause-row_in : goal.put-requires-clause-row_in
put-requires-clause-row_in g c = omega (arith, c.place_of-place.ensures.place.row_in, c.loop-number.invariant.of.rows)

pub put-requires-clause-slot_in : goal.put-requires-clause-slot_in
put-requires-clause-slot_in g c = omega (arith, c.place_of-place.ensures.place.chunk_in, c.loop-number.invariant.of.chunks)
