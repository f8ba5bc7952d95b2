-- The middle block is one of the array.
use Rattle.std.proofs.Common.{◌<◌, ◌+◌, ◌*◌, arith}
use Rattle.std.proofs.lemmas.Nat.{mul-add-lt}
use Rattle.stair_model.specs.Geometry.{data_cells}
use Rattle.stair_bench.proofs.encoding.middle_block.Goals as goal

pub place_of-requires : goal.place_of-requires
place_of-requires c =
    let limits = c.blocks-2.ensures.limits in
    let some : 0 * data_cells c.args.geometry.now + 0 < data_cells c.args.geometry.now * c.args.geometry.now.stripes =
    mul-add-lt 0 (data_cells c.args.geometry.now) 0 c.args.geometry.now.stripes (omega (arith, limits.size.0)) (omega (arith, limits.blocks))
    in
    omega (arith, some, c.blocks-2.ensures.value)
