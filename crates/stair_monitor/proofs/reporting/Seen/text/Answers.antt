-- Slot after slot.
use Rattle.std.proofs.Common.{arith}
use Rattle.stair_monitor.proofs.SeenLemmas.{slots_all, slots_more}
use Rattle.stair_monitor.proofs.reporting.Seen.text.Goals as goal

pub loop-slot-preserved : goal.loop-slot-preserved
loop-slot-preserved c = record {
  short = omega (arith, c.loop-slot.invariant.short, c.push_slot.ensures.short);
  text = λ events tells.
      slots_more events c.args.self.now c.loop-slot.slot c.from.result c.loop-slot.text c.push_slot.new.text tells c.loop-slot-test.true
      c.from.ensures (c.loop-slot.invariant.text events tells) c.push_slot.ensures.text;
}

pub returns : goal.returns
returns c events tells =
    slots_all events c.loop-slot.slot c.loop-slot.text (omega (arith, c.loop-slot-test.false, c.loop-slot.auto.slot-end))
    (c.loop-slot.invariant.text events tells)
