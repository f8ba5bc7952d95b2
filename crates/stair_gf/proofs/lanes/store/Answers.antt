use Rattle.stair_gf.proofs.MultipleLaws.{stored_lanes}
use Rattle.stair_gf.proofs.lanes.store.Goals as goal

pub returns : goal.returns
returns c = stored_lanes c.args.start c.args.bytes.now c.args.lanes c.requires c.fits-lanes.0
