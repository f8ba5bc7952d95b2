-- A row with at most m cells is emptied, and each other one stays.
use Rattle.std.proofs.Common.{◌≡◌, ◌+◌, ◌<◌, length, sym, ap, subst, ◌∙◌, arith}
use Rattle.stair_model.specs.Slots.{slot_count}
use Rattle.stair_model.specs.CellSet.{CellSet, IsCellSet}
use Rattle.stair_model.proofs.RestLaws.{IsCellSet-rest}
use Rattle.stair_base.proofs.RestRows.{AreLeftBefore, row_left, row_emptied, rest_from_rows}
use Rattle.stair_base.proofs.sets.CellSet.rest.Goals as goal
use Rattle.stair_base.proofs.sets.CellSet.rest.Goals.{then-count-m, else-count-m}

pub loop-row-init : goal.loop-row-init
loop-row-init c = record { well_formed = subst IsCellSet c.rest.view_is c.rest.invariant; rows = ap (λ (set : CellSet). set.rows) c.rest.view_is }

pub loop-row-preserved : goal.loop-row-preserved
loop-row-preserved c = record { well_formed = c.loop-row.invariant.well_formed; rows = looked_at }
  where
    row_in : c.loop-row.row < length c.args.self.now.rows
    row_in = omega (arith, c.loop-row.invariant.well_formed.count)

    counted : c.count.result ≡ slot_count c.index-rest-row.result
    counted = c.count.ensures.value ∙ ap slot_count (sym c.index-rest-row.is)

    looked_at : AreLeftBefore c.args.geometry.now c.args.self.now.rows (c.loop-row.row + 1) c.if-count-m.rest-inside.rows
    looked_at =
        elim c.if-count-m.branch [
          | then-count-m w ↦
              rw w.rest-inside-is
              (row_emptied c.args.geometry.now _ _ _ _ row_in c.loop-row.invariant.rows c.index-rest-row.is w.empty.result
              (omega (arith, w.if-count-m.true, counted, c.m-m.ensures.value)) w.empty.ensures.well_formed w.empty.ensures.none)
          | else-count-m w ↦
              rw w.rest-inside-is
              (row_left c.args.geometry.now _ _ _ _ row_in c.loop-row.invariant.rows c.index-rest-row.is
              (omega (arith, w.if-count-m.false, counted, c.m-m.ensures.value)))
        ]

pub returns-clause-value : goal.returns-clause-value
returns-clause-value c =
    rest_from_rows c.args.geometry.now c.args.self.now c.loop-row.rest-inside.rows c.loop-row.row
    (omega (arith, c.loop-row.invariant.well_formed.count)) c.loop-row.invariant.rows

pub invariant_of-rest : goal.invariant_of-rest
invariant_of-rest c =
    subst IsCellSet (sym (returns-clause-value c)) (IsCellSet-rest c.args.geometry.now c.args.self.now c.loop-row.invariant.well_formed)
