use Rattle.stair_gf.proofs.LaneLaws.{where_bit_lanes}
use Rattle.stair_gf.proofs.lanes.where_bit.Goals as goal

pub returns : goal.returns
returns c = where_bit_lanes c.args.bit c.args.bytes c.requires
