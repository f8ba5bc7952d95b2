-- Sector by sector.
use Rattle.std.proofs.Common.{[], get_or, arith}
use Rattle.std.proofs.lemmas.List.{get_or_default}
use Rattle.std.proofs.lemmas.List.Edits.{map_over_more}
use Rattle.stair_memrack.specs.declared.disk.StoredCell.TheVariants as stored
use Rattle.stair_memrack.specs.declared.disk.StoredSector.{StoredSector}
use Rattle.stair_memrack.specs.Disk.{settle}
use Rattle.stair_memrack.proofs.disk.Disk.settle.Goals as goal

pub loop-sector-preserved : goal.loop-sector-preserved
loop-sector-preserved c =
    let none : StoredSector = record { base = stored.Good []; now = stored.Good []; pending = 0 } in
    let i = c.loop-sector.sector-index in
    let items = c.loop-sector.sector-items in
    let at : StoredSector = get_or items i none in
    rw c.kept_cell-cell.ensures
    (map_over_more (settle c.args.how) _ _ _ at (omega arith) c.loop-sector.invariant (get_or_default items i none at (omega arith)))
