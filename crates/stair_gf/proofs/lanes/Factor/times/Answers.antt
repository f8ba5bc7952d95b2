use Rattle.std.proofs.Common.{ap}
use Rattle.stair_model.specs.Field.{product}
use Rattle.stair_gf.proofs.LaneLaws.{AreLanes-same}
use Rattle.stair_gf.proofs.lanes.Factor.times.Goals as goal

pub returns : goal.returns
returns c = AreLanes-same c.times_halves.ensures (λ k h. ap (product c.args.self.now) (c.halves-halves.ensures.whole k h))
