-- The laws are lemmas.
use Rattle.stair_array.proofs.KeepLemmas.{arrays_kept, states_kept}
use Rattle.stair_array.proofs.laws.kept_laws.Goals as goal

pub returns : goal.returns
returns c = record {
  arrays = arrays_kept;
  states = states_kept;
}
