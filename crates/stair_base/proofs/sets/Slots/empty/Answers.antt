-- No mark is set.
use Rattle.std.proofs.Common.{sym, ◌∙◌}
use Rattle.std.proofs.lemmas.Bool.{false≢true}
use Rattle.stair_model.proofs.SetLaws.{has_slot-none}
use Rattle.stair_base.proofs.sets.Slots.empty.Goals as goal

pub returns-clause-none : goal.returns-clause-none
returns-clause-none c = λ j has. false≢true (sym (has_slot-none j) ∙ has)
