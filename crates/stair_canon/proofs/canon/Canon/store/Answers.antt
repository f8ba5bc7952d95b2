-- A cell more.
use Rattle.std.proofs.Common.{ap, sym, arith}
use Rattle.stair_canon.specs.Canonical.{symbol}
use Rattle.stair_canon.specs.Kept.{shown}
use Rattle.stair_canon.proofs.Storing.{HasStored-more}
use Rattle.stair_canon.proofs.canon.Canon.store.Goals as goal

pub loop-slot-preserved : goal.loop-slot-preserved
loop-slot-preserved c =
    rw c.store_cell.ensures.cell
    (HasStored-more c.self.inside.geometry (shown c.self.inside) c.loop-slot.stripe c.loop-row.row c.loop-slot.slot _ c.loop-slot.invariant
    (omega (arith, c.loop-row-test.true, c.r-row-end.ensures.value)) (omega (arith, c.loop-slot-test.true, c.n-slot-end.ensures.value))
    (rw (← c.store_cell.ensures.cell) c.store_cell.ensures.well_formed)
    (ap (λ x. symbol x c.loop-row.row c.loop-slot.slot) (sym c.self.view_is)))
