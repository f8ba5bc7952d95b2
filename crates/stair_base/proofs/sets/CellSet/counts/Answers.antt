-- One row more.
use Rattle.std.proofs.Common.{◌≤◌, sym, ap, ◌∙◌, arith}
use Rattle.std.specs.Prelude.{if◌then◌else◌}
use Rattle.std.proofs.lemmas.List.{get_or_default, get_or-replicate}
use Rattle.stair_model.specs.Slots.{Slots, has_slot, no_slots}
use Rattle.stair_model.specs.CellSet.{CellSet, has_cell}
use Rattle.stair_model.specs.Sum.{sum_below}
use Rattle.stair_model.proofs.CountLaws.{sum_below_none, sum_below_next, sum_below_marks}
use Rattle.stair_model.proofs.SetLaws.{mark_small}
use Rattle.stair_base.proofs.sets.CellSet.counts.Goals as goal

pub loop-row-init : goal.loop-row-init
loop-row-init c = λ j h. get_or-replicate 32 j 0 0 h ∙ sym (sum_below_none _)

pub count_slots-requires : goal.count_slots-requires
count_slots-requires c = λ j h.
    let set : CellSet = record { rows = c.self.inside.rows } in
    let most : sum_below c.loop-row.row (λ i. if has_cell set i j then 1 else 0) ≤ c.loop-row.row =
    sum_below_marks _ _ (λ i below. mark_small (has_cell set i j)) in
    omega (arith, c.loop-row.invariant j h, most, c.loop-row-test.true)

pub loop-row-preserved : goal.loop-row-preserved
loop-row-preserved c = λ j h.
    let set : CellSet = record { rows = c.self.inside.rows } in
    let counted = λ (slots : Slots). if has_slot slots j then 1 else 0 in
    c.count_slots.ensures j h
    ∙ sum_below_next c.loop-row.row _ _ (λ i. if has_cell set i j then 1 else 0) (c.loop-row.invariant j h)
    (ap counted (get_or_default c.self.inside.rows c.loop-row.row c.index-self-row.result no_slots (omega (arith, c.loop-row-test.true, c.self.invariant.count))))
