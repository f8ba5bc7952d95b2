use Rattle.stair_monitor.proofs.SeenLemmas.{tells_none}
use Rattle.stair_monitor.proofs.reporting.Seen.none.Goals as goal

pub returns : goal.returns
returns c = tells_none
