-- The laws are lemmas.
use Rattle.stair_reinsert.proofs.RecoveryOpens.{recovery_moments, recovery_opens, recovery_refused}
use Rattle.stair_reinsert.proofs.openings.recovery_laws.Goals as goal

pub returns : goal.returns
returns c = record { moments = recovery_moments; refused = recovery_refused; opens = recovery_opens }
