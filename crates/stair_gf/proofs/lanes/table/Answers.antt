use Rattle.stair_gf.proofs.LaneLaws.{sum_of_four}
use Rattle.stair_gf.proofs.lanes.table.Goals as goal

pub returns : goal.returns
returns c = sum_of_four c.args.multiples c.args.multiples c.fits-multiples.0 c.where_bit.ensures c.where_bit-2.ensures c.where_bit-3.ensures c.where_bit-4.ensures
