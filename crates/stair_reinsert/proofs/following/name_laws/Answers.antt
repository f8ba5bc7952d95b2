-- The laws are lemmas.
use Rattle.stair_rack.specs.Answers.{any_call}
use Rattle.stair_reinsert.proofs.NameLemmas.{attached_name, attached_unpulled, name_apart, unpulled_name}
use Rattle.stair_reinsert.proofs.WhereverLemmas.{looked_wherever, outside_wherever}
use Rattle.stair_reinsert.proofs.following.name_laws.Goals as goal

pub returns-clause-apart : goal.returns-clause-apart
returns-clause-apart c = name_apart

pub returns-clause-unpulled : goal.returns-clause-unpulled
returns-clause-unpulled c = λ old new j ran some not. unpulled_name {allowed = any_call} j ran some not

pub returns-clause-attached : goal.returns-clause-attached
returns-clause-attached c = λ old new j history ran on. (attached_unpulled j ran on, attached_name j history ran on)

pub returns-clause-outside : goal.returns-clause-outside
returns-clause-outside c = outside_wherever

pub returns-clause-looked : goal.returns-clause-looked
returns-clause-looked c = looked_wherever
