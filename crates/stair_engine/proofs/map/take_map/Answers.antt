-- One row more; a row that was cut short after the rows so far; and all rows.
use Rattle.std.proofs.Common.{◌≡◌, ◌<◌, arith, rules, length, length-take}
use Rattle.stair_command.specs.Outside.{source_view}
use Rattle.stair_command.proofs.IntakeLaws.{CutsShort-later, if_err_of}
use Rattle.stair_engine.proofs.MapLaws.{HasMapped-all, HasMapped-more, HasMapped-none, row_in_rows}
use Rattle.stair_engine.proofs.map.take_map.Goals as goal

pub returns-in_err-fill-clause-cut : goal.returns-in_err-fill-clause-cut
returns-in_err-fill-clause-cut g c =
    if_err_of _ c.in_err-fill.field-0.0 _ c.from_residual.ensures.1
    (CutsShort-later (source_view g.S.Source) _ _ _ _ _ _ _ c.loop-row.invariant.taken c.in_err-fill.ensures.cut)

pub loop-row-preserved : goal.loop-row-preserved
loop-row-preserved g c =
    let of = c.args.geometry.now in
    let long : length c.fill.new.into ≡ of.n = search rules in
    HasMapped-more (source_view g.S.Source) of _ _ _ _ _ _ c.fill.new.into _ _ _ long c.loop-row.invariant
    c.in_ok-fill.ensures.ok c.add_erased.ensures

pub returns-clause-ok : goal.returns-clause-ok
returns-clause-ok g c =
    HasMapped-all (source_view g.S.Source) _ _ _ _ _ _ _ (omega (arith, c.r-row-end.ensures.value))
    c.loop-row.invariant

pub loop-row-init : goal.loop-row-init
loop-row-init g c =
    HasMapped-none (source_view g.S.Source) _ _ _ _ c.empty-erased.ensures.none

pub fill-requires-clause-room : goal.fill-requires-clause-room
fill-requires-clause-room g c =
    let of = c.args.geometry.now in
    let has = c.loop-row.invariant in
    let row_in : c.loop-row.row < of.r = omega (arith, c.r-row-end.ensures.value) in
    omega (
      arith,
      has.took_is,
      has.needed_is,
      row_in_rows c.loop-row.row of.r of.n row_in,
      c.requires.room,
      c.n.ensures.value,
      c.from.ensures,
      length-take c.from.result c.loop-row.marks,
    )
