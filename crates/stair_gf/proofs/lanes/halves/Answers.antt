use Rattle.stair_gf.proofs.LaneLaws.{AreHalves-of}
use Rattle.stair_gf.proofs.lanes.halves.Goals as goal

pub returns : goal.returns
returns c = AreHalves-of c.args.bytes c.fits-bytes.0 c.fits-bytes.1
