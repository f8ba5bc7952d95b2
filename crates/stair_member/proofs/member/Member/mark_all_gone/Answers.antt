-- The next slot is dropped, or stays.
use Rattle.std.proofs.Common.{◌∙◌, sym, arith}
use Rattle.std.proofs.lemmas.Bool.{false≢true}
use Rattle.stair_member.proofs.ChangeLemmas.{left_kept, left_more}
use Rattle.stair_member.proofs.member.Member.mark_all_gone.Goals as goal
use Rattle.stair_member.proofs.member.Member.mark_all_gone.Goals.{then-has, else-has}

pub loop-slot-preserved : goal.loop-slot-preserved
loop-slot-preserved c =
    elim c.if-has.branch [
      | then-has w ↦
          rw w.self-is
          (left_more c.args.leaving c.args.self.now c.loop-slot.self w.mark_gone.new.self c.loop-slot.slot (omega arith) c.loop-slot.invariant
          (c.has.ensures.member.0 w.if-has.true) w.mark_gone.ensures.is w.mark_gone.ensures.rules)
      | else-has w ↦
          rw w.self-is
          (left_kept c.args.leaving c.args.self.now c.loop-slot.self c.loop-slot.slot c.loop-slot.invariant
          (λ has. false≢true (sym w.if-has.false ∙ c.has.ensures.member.1 has)))
    ]
