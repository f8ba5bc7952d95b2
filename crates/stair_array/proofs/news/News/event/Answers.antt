-- In each round the slot is the event that was asked for, or one before it, or none.
use Rattle.std.proofs.Common.{◌+◌, ◌-◌, arith, sym, ◌∙◌}
use Rattle.std.proofs.lemmas.Bool.{false≢true}
use Rattle.stair_array.specs.News.{other_events}
use Rattle.stair_array.proofs.NewsLemmas.{event_here, event_later, event_skipped}
use Rattle.stair_array.proofs.news.News.event.Goals as goal
use Rattle.stair_array.proofs.news.News.event.Goals.{then-has+else-left-eq0, else-has}

pub returns-then-left-eq0 : goal.returns-then-left-eq0
returns-then-left-eq0 c =
    sym (c.loop-slot.invariant
    ∙ event_here c.args.self.now.fenced (other_events c.args.self.now) c.loop-slot.slot (32 - (c.loop-slot.slot + 1)) (32 - c.loop-slot.slot)
    (omega (arith, c.loop-slot-test.true)) (c.has.ensures.member.0 c.if-has.true) c.loop-slot.left c.if-left-eq0.true)

pub loop-slot-preserved : goal.loop-slot-preserved
loop-slot-preserved c =
    elim c.if-has.branch [
      | then-has+else-left-eq0 w ↦
          c.loop-slot.invariant
          ∙ rw w.left-is
          (event_later c.args.self.now.fenced (other_events c.args.self.now) c.loop-slot.slot (32 - (c.loop-slot.slot + 1)) (32 - c.loop-slot.slot)
          (omega (arith, c.loop-slot-test.true)) (c.has.ensures.member.0 w.if-has.true) c.loop-slot.left w.if-left-eq0.false)
      | else-has w ↦
          c.loop-slot.invariant
          ∙ rw w.left-is
          (event_skipped c.args.self.now.fenced (other_events c.args.self.now) c.loop-slot.slot (32 - (c.loop-slot.slot + 1)) (32 - c.loop-slot.slot)
          (omega (arith, c.loop-slot-test.true)) (λ has. false≢true (sym w.if-has.false ∙ c.has.ensures.member.1 has)) c.loop-slot.left)
    ]
