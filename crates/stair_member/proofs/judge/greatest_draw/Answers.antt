-- The next slot counts, or doesn't.
use Rattle.std.proofs.Common.{◌≡◌, arith, ◌∙◌, ap}
use Rattle.std.specs.Prelude.{max}
use Rattle.stair_member.proofs.JudgeLemmas.{drawn_all, drawn_kept, drawn_more, max_is}
use Rattle.stair_member.proofs.judge.greatest_draw.Goals as goal
use Rattle.stair_member.proofs.judge.greatest_draw.Goals.{in-Some, in_default}

pub loop-slot-preserved : goal.loop-slot-preserved
loop-slot-preserved c image shows =
    elim c.match-counting_for.branch [
      | in-Some w ↦
          rw w.drawn-is
          (drawn_more c.args.geometry.now image c.loop-slot.slot c.loop-slot.drawn w.max-drawn.result w.in-Some.block
          (c.loop-slot.invariant image shows)
          (w.in-Some.ensures image shows)
          (w.max-drawn.ensures ∙ max_is c.loop-slot.drawn w.draw.result ∙ ap (max c.loop-slot.drawn) w.draw.ensures.value))
      | in_default w ↦
          rw w.drawn-is
          (drawn_kept c.args.geometry.now image c.loop-slot.slot c.loop-slot.drawn (c.loop-slot.invariant image shows)
          (w.in_default.ensures image shows))
    ]

pub returns : goal.returns
returns c image shows =
    let all : c.loop-slot.slot ≡ 32 = omega arith in
    drawn_all c.args.geometry.now image c.loop-slot.drawn (rw all at (c.loop-slot.invariant image shows))
