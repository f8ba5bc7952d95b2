-- the slots so far
use Rattle.std.proofs.Common.{◌≡◌, ◌≢◌}
use Rattle.stair_model.specs.Slots.{IsSlotSet}
use Rattle.stair_super.specs.Superblock.{mark_in}
use Rattle.stair_super.specs.declared.mark.Mark.TheVariants as mark
use Rattle.stair_member.proofs.JudgeLemmas.{IsSetBelow}
use Rattle.stair_member.proofs.member.Member.fallen_since.Given as goal

abbrev pub invariant-loop-slot : goal.invariant-loop-slot
invariant-loop-slot l =
    IsSlotSet l.fallen
    × IsSetBelow (λ j. (mark_in l.self.array j ≡ mark.Down) × (mark_in l.before.array j ≢ mark.Down)) l.slot l.fallen
