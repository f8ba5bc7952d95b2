use Rattle.stair_model.proofs.LinearLaws.{MeetsEquations-zero, MeetsEquations-added, MeetsEquations-weighted, IsCodeword-added}
use Rattle.stair_model.proofs.codeword.sum_laws.Goals as goal

pub returns : goal.returns
returns c = record {
  zero = MeetsEquations-zero;
  multiple = MeetsEquations-added;
  multiples = MeetsEquations-weighted;
  stripes = IsCodeword-added;
}
