use Rattle.stair_journal.proofs.KnownGate.{known_bytes}
use Rattle.stair_journal.proofs.laws.known_gate.Goals as goal

pub returns : goal.returns
returns c = record { bytes = known_bytes }
