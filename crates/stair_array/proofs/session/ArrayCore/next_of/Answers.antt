-- The rebuild that is under way.
use Rattle.stair_array.proofs.RebuildingLemmas.{next_under}
use Rattle.stair_array.proofs.session.ArrayCore.next_of.Goals as goal

pub returns-then-is_some-clause-some : goal.returns-then-is_some-clause-some
returns-then-is_some-clause-some c = next_under c.args.self.now.member c.args.rebuild
