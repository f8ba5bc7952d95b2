-- Each turn adds the cells of the other set's next row.
use Rattle.std.proofs.Common.{◌≡◌, ℕ, List, subst, ◌∙◌, ap, arith}
use Rattle.std.specs.Prelude.{◌⊎◌, ◌↔◌, slice_index_or}
use Rattle.std.proofs.lemmas.List.{get_or_default}
use Rattle.stair_model.specs.CellSet.{CellSet}
use Rattle.stair_model.specs.Slots.{HasSlot, Slots, no_slots}
use Rattle.stair_base.proofs.CellRows.{united_more}
use Rattle.stair_base.proofs.sets.CellSet.union.Goals as goal

pub loop-row-preserved : goal.loop-row-preserved
loop-row-preserved c =
    let same_rows : c.other.inside.rows ≡ c.args.other.now.rows = ap (λ (set : CellSet). set.rows) c.other.view_is in
    united_more c.args.self.now c.args.other.now c.loop-row.row c.loop-row.both-inside.rows c.union.result c.loop-row.invariant
    (omega (arith, c.loop-row-test.true)) c.union.ensures.well_formed
    (subst (λ (s : Slots). (j : ℕ) → HasSlot c.union.result j ↔ (HasSlot (slice_index_or c.loop-row.both-inside.rows c.loop-row.row no_slots) j ⊎ HasSlot s j))
    (get_or_default c.other.inside.rows c.loop-row.row c.index-other-row.result no_slots (omega (arith, c.loop-row-test.true, c.other.invariant.count)) ∙ ap (λ (rows : List Slots). slice_index_or rows c.loop-row.row no_slots) same_rows)
    (subst (λ (s : Slots). (j : ℕ) → HasSlot c.union.result j ↔ (HasSlot s j ⊎ HasSlot (slice_index_or c.other.inside.rows c.loop-row.row c.index-other-row.result) j))
    (get_or_default c.loop-row.both-inside.rows c.loop-row.row c.index-both-row.result no_slots (omega (arith, c.loop-row-test.true, c.loop-row.invariant.formed.count)))
    c.union.ensures.members))
