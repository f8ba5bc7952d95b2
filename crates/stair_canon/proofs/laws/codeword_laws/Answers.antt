use Rattle.stair_model.proofs.CanonicalLaws.{bridge, codeword_is_canonical, canonical_is_codeword}
use Rattle.stair_canon.proofs.laws.codeword_laws.Goals as goal

pub returns : goal.returns
returns c = record { bridge = bridge; extends = codeword_is_canonical; holds = canonical_is_codeword }
