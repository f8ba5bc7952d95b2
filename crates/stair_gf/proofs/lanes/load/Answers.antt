use Rattle.stair_gf.proofs.LaneLaws.{AreLanes-chunk}
use Rattle.stair_gf.proofs.lanes.load.Goals as goal

pub returns : goal.returns
returns c = AreLanes-chunk c.args.start 64 c.args.bytes.now c.requires
