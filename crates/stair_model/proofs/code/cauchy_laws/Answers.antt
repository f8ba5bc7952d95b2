use Rattle.stair_model.proofs.LagrangeLaws.{cauchy_nonsingular}
use Rattle.stair_model.proofs.CodeLaws.{codeword_exists, codeword_determined}
use Rattle.stair_model.proofs.code.cauchy_laws.Goals as goal

pub returns : goal.returns
returns c = record {
  exists = codeword_exists;
  determined = codeword_determined;
  nonsingular = cauchy_nonsingular;
}
