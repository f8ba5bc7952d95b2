-- No row, and one row more.
use Rattle.std.proofs.Common.{sym, ap, ◌∙◌, arith}
use Rattle.std.proofs.lemmas.List.{get_or_default}
use Rattle.stair_model.specs.Slots.{slot_count, no_slots}
use Rattle.stair_model.proofs.CountLaws.{sum_below_none, sum_below_next}
use Rattle.stair_base.proofs.sets.CellSet.count.Goals as goal

pub loop-row-init : goal.loop-row-init
loop-row-init c = record { so_far = sym (sum_below_none _); small = omega arith }

pub loop-row-preserved : goal.loop-row-preserved
loop-row-preserved c = record {
  so_far = sum_below_next _ _ _ _ c.loop-row.invariant.so_far
      (c.from-count.ensures ∙ c.count.ensures.value
      ∙ ap slot_count (get_or_default c.self.inside.rows c.loop-row.row-index _ no_slots (omega (arith, c.self.invariant.count))));
  small = omega (arith, c.loop-row.invariant.small);
}
