use Rattle.std.proofs.Common.{◌≡◌, length, arith}
use Rattle.stair_filerack.proofs.AheadLemmas.{all_missed}
use Rattle.stair_filerack.proofs.ahead.Ahead.fill.Goals as goal

pub returns-then-not-matches-clause-missed : goal.returns-then-not-matches-clause-missed
returns-then-not-matches-clause-missed g c missed =
    let whole : length c.read_full.new.into ≡ 4352 = omega (arith, c.self.told.0) in
    all_missed c.self.inside.from c.self.inside.passed c.args.sector c.read_full.new.into c.self.inside.bytes _ _ whole c.self.view_is
