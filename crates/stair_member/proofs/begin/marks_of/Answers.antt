-- The mark of the next slot.
use Rattle.std.proofs.Common.{ℕ, ◌∙◌, ap, slice_index_or, arith}
use Rattle.stair_member.specs.Aims.{mark_for}
use Rattle.stair_member.specs.declared.why.Why.TheVariants as why
use Rattle.stair_member.proofs.ChangeLemmas.{marks_more, marks_none}
use Rattle.stair_member.proofs.begin.marks_of.Goals as goal

pub loop-slot-init : goal.loop-slot-init
loop-slot-init c = marks_none c.args.whys.now

pub loop-slot-preserved : goal.loop-slot-preserved
loop-slot-preserved c =
    rw c.from-in-loop-slot.ensures
    (marks_more c.args.whys.now c.loop-slot.slot c.loop-slot.marks c.mark_of.result (omega arith) c.loop-slot.invariant
    (c.mark_of.ensures ∙ ap (λ (j : ℕ). mark_for (slice_index_or c.args.whys.now j why.Here)) c.from.ensures))
