-- The next slot counts, or doesn't.
use Rattle.stair_member.specs.Superblocks.{CountsFor}
use Rattle.stair_member.proofs.JudgeLemmas.{counting_false, counting_true, set_added, set_kept}
use Rattle.std.proofs.Common.{sym, ◌∙◌}
use Rattle.stair_member.proofs.judge.slots_of.Goals as goal
use Rattle.stair_member.proofs.judge.slots_of.Goals.{then-is_some, else-is_some}

pub loop-slot-preserved : goal.loop-slot-preserved
loop-slot-preserved c =
    elim c.if-is_some.branch [
      | then-is_some w ↦
          rw w.slots-is (
            w.add.ensures.well_formed,
            λ image shows.
                set_added (CountsFor c.args.geometry.now image) c.loop-slot.slot c.loop-slot.slots w.add.new.self
                (c.loop-slot.invariant.1 image shows)
                (counting_true c.args.geometry.now image c.loop-slot.slot c.counting_for.result (c.counting_for.ensures image shows)
                (sym c.is_some.ensures ∙ w.if-is_some.true)) w.add.ensures.members,
          )
      | else-is_some w ↦
          rw w.slots-is (
            c.loop-slot.invariant.0,
            λ image shows.
                set_kept (CountsFor c.args.geometry.now image) c.loop-slot.slot c.loop-slot.slots (c.loop-slot.invariant.1 image shows)
                (counting_false c.args.geometry.now image c.loop-slot.slot c.counting_for.result (c.counting_for.ensures image shows)
                (sym c.is_some.ensures ∙ w.if-is_some.false)),
          )
    ]
