use Rattle.stair_filerack.proofs.AheadLemmas.{all_passed}
use Rattle.stair_filerack.proofs.ahead.Ahead.release.Goals as goal

pub returns : goal.returns
returns c = all_passed c.self.inside.from c.self.inside.passed c.self.inside.bytes c.self.inside.bytes _ _ c.self.told.0 c.self.view_is
