-- the slots so far
use Rattle.stair_model.specs.Slots.{IsSlotSet}
use Rattle.stair_member.proofs.JudgeLemmas.{IsSetBelow}
use Rattle.stair_array.specs.News.{Fell}
use Rattle.stair_array.proofs.news.fallen.Given as goal

abbrev pub invariant-loop-slot : goal.invariant-loop-slot
invariant-loop-slot l = IsSlotSet l.fallen × IsSetBelow (Fell l.before.array l.after.array) l.slot l.fallen
