use Rattle.stair_model.proofs.RestoringLaws.{restoring_determined}
use Rattle.stair_model.proofs.restoring.restoring_laws.Goals as goal

pub returns : goal.returns
returns c = record { determined = restoring_determined }
