use Rattle.stair_engine.proofs.RestoreLaws.{erased_bytes}
use Rattle.stair_engine.proofs.laws.restore_laws.Goals as goal

pub returns : goal.returns
returns c = record { erased_bytes = erased_bytes }
