-- The laws are lemmas.
use Rattle.stair_watch.proofs.WatchLemmas.{all_told, as_many, stay_throughout, told_then}
use Rattle.stair_watch.proofs.laws.watch_laws.Goals as goal

pub returns : goal.returns
returns g c = record {
  left = all_told;
  stay = stay_throughout;
  as_many = as_many;
  joined = told_then;
}
