use Rattle.stair_gf.proofs.LaneLaws.{four_times_lanes}
use Rattle.stair_gf.proofs.lanes.four_times.Goals as goal

pub returns : goal.returns
returns c = four_times_lanes c.args.table c.args.table c.requires
