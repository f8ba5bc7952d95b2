-- The next slot counts, or doesn't.
use Rattle.std.proofs.Common.{◌≡◌, arith}
use Rattle.stair_member.proofs.JudgeLemmas.{current_all, current_kept, current_more}
use Rattle.stair_member.proofs.judge.current_of.Goals as goal
use Rattle.stair_member.proofs.judge.current_of.Goals.{in-Some, in_default}

pub loop-slot-preserved : goal.loop-slot-preserved
loop-slot-preserved c image shows =
    elim c.match-counting_for.branch [
      | in-Some w ↦
          rw (w.current-is, w.later_of-current.ensures)
          (current_more c.args.geometry.now image c.loop-slot.slot c.loop-slot.current w.in-Some.block (c.loop-slot.invariant image shows)
          (w.in-Some.ensures image shows))
      | in_default w ↦
          rw w.current-is
          (current_kept c.args.geometry.now image c.loop-slot.slot c.loop-slot.current (c.loop-slot.invariant image shows)
          (w.in_default.ensures image shows))
    ]

pub returns : goal.returns
returns c image shows =
    let all : c.loop-slot.slot ≡ 32 = omega arith in
    current_all c.args.geometry.now image c.loop-slot.current
    (rw all at (c.loop-slot.invariant image shows))
