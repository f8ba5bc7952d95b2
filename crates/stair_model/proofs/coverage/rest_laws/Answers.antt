use Rattle.stair_model.proofs.RestLaws.{in_rest, rest_monotone, IsCellSet-rest}
use Rattle.stair_model.proofs.coverage.rest_laws.Goals as goal

pub returns : goal.returns
returns c = record { cells = in_rest; monotone = rest_monotone; well_formed = IsCellSet-rest }
