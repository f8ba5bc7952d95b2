-- The law is a lemma.
use Rattle.stair_array.proofs.NewsLemmas.{step_told}
use Rattle.stair_array.proofs.StayDownLemmas.{fallen_join}
use Rattle.stair_array.proofs.laws.news_laws.Goals as goal

pub returns : goal.returns
returns c = record {
  events = λ step answer old new is adds goes. step_told step answer old new is adds goes;
  fallen = λ a b c was amid is first second early late. fallen_join a b c was amid is first second early late;
}
