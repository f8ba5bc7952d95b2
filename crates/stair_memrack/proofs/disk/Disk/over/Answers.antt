-- There are as many sectors as cells.
use Rattle.std.proofs.Common.{◌≡◌, length, map, take, ap, arith}
use Rattle.std.proofs.lemmas.List.{length-map, length-take}
use Rattle.stair_memrack.specs.Origin.{held}
use Rattle.stair_memrack.proofs.disk.Disk.over.Goals as goal

pub invariant_of-result : goal.invariant_of-result
invariant_of-result c =
    let i = c.loop-cell.cell-index in
    let cells = c.deref-cell-items.result.now in
    let count : length c.loop-cell.sectors.items ≡ length (map held (take i cells)) = ap length c.loop-cell.invariant in
    omega (arith, length-map (take i cells) held, length-take i cells, c.loop-cell.sectors.ok.0, c.deref-cell-items.ensures.len, c.cells.invariant)
