-- The cell is given by a slot, or by none.
use Rattle.std.proofs.Common.{ap, refl, Some}
use Rattle.stair_journal.proofs.BodyLemmas.{cell_given, cell_ungiven}
use Rattle.stair_journal.proofs.body.read_cell.Goals as goal

pub returns-in-Here : goal.returns-in-Here
returns-in-Here g c =
    cell_given c.args.geometry.now c.args.live c.args.row c.args.chunk c.requires.row c.requires.chunk _ _ c.requires.stripe
    c.body_sector-sector.result c.body_sector-sector.ensures c.in-Here.ensures.asks c.in-Here.ensures.reads c.find.new.bytes c.in-Here.ensures.does
    c.in-Here.ensures.in_turn
    c.put.ensures.value c.put.ensures.well_formed refl

pub returns-in-Nowhere : goal.returns-in-Nowhere
returns-in-Nowhere g c =
    cell_ungiven c.args.geometry.now c.args.live c.args.row c.args.chunk c.requires.row c.requires.chunk _ _ c.requires.stripe
    c.body_sector-sector.result c.body_sector-sector.ensures c.in-Nowhere.ensures.asks c.in-Nowhere.ensures.reads c.in-Nowhere.ensures.does
    c.in-Nowhere.ensures.in_turn refl
    (ap Some c.unwrap_or.ensures)
