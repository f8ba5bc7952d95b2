-- A cell more, which is stored or stays, and all of them.
use Rattle.std.proofs.Common.{◌<◌, ◌∙◌, ap, sym, arith}
use Rattle.std.proofs.lemmas.Bool.{false≢true}
use Rattle.stair_canon.proofs.Storing.{HasStoredOf-none, HasStoredOf-cell, HasStoredOf-other, HasStoredOf-turn, HasStoredOf-all}
use Rattle.stair_canon.proofs.canon.Canon.store_cells.Goals as goal
use Rattle.stair_canon.proofs.canon.Canon.store_cells.Goals.{then-has, else-has}

pub loop-row-init : goal.loop-row-init
loop-row-init c =
    HasStoredOf-none c.args.self.now.geometry c.args.cells.now c.args.self.now c.args.stripe.now c.requires c.cell.ensures.well_formed

pub loop-slot-init : goal.loop-slot-init
loop-slot-init c = c.loop-row.invariant

pub store_cell-requires-clause-of : goal.store_cell-requires-clause-of
store_cell-requires-clause-of c = c.loop-slot.invariant.of

pub loop-slot-preserved : goal.loop-slot-preserved
loop-slot-preserved c =
    let g = c.args.self.now.geometry in
    let stripe = c.loop-slot.stripe in
    let row_in : c.loop-row.row < g.r = omega (arith, c.loop-row-test.true, c.r-rows.ensures.value, ap (λ x. x.geometry.r) c.self.view_is) in
    let slot_in : c.loop-slot.slot < g.n = omega (arith, c.loop-slot-test.true, c.n-chunks.ensures.value, ap (λ x. x.geometry.n) c.self.view_is) in
    elim c.if-has.branch [
      | then-has w ↦
          rw (w.stripe-is, w.store_cell.ensures.cell)
          (HasStoredOf-cell g c.args.cells.now c.args.self.now c.args.stripe.now stripe c.loop-row.row c.loop-slot.slot c.loop-slot.invariant
          row_in slot_in (c.has.ensures.member.0 w.if-has.true) (rw (← w.store_cell.ensures.cell) w.store_cell.ensures.well_formed))
      | else-has w ↦
          rw w.stripe-is
          (HasStoredOf-other g c.args.cells.now c.args.self.now c.args.stripe.now stripe c.loop-row.row c.loop-slot.slot c.loop-slot.invariant
          row_in slot_in (λ has. false≢true (sym w.if-has.false ∙ c.has.ensures.member.1 has)))
    ]

pub loop-row-preserved : goal.loop-row-preserved
loop-row-preserved c =
    HasStoredOf-turn c.args.self.now.geometry c.args.cells.now c.args.self.now c.args.stripe.now c.loop-slot.stripe c.loop-row.row c.loop-slot.slot
    (omega (arith, c.loop-slot-test.false, c.loop-slot.auto.slot-end, c.n-chunks.ensures.value, ap (λ x. x.geometry.n) c.self.view_is))
    c.loop-slot.invariant

pub returns-clause-cells : goal.returns-clause-cells
returns-clause-cells c i j i_in j_in has =
    (HasStoredOf-all c.args.self.now.geometry c.args.cells.now c.args.self.now c.args.stripe.now c.loop-row.stripe c.loop-row.row
    (omega (arith, c.loop-row-test.false, c.loop-row.auto.row-end, c.r-rows.ensures.value, ap (λ x. x.geometry.r) c.self.view_is))
    c.loop-row.invariant i j i_in j_in).stored has

pub returns-clause-others : goal.returns-clause-others
returns-clause-others c i j i_in j_in has_not =
    (HasStoredOf-all c.args.self.now.geometry c.args.cells.now c.args.self.now c.args.stripe.now c.loop-row.stripe c.loop-row.row
    (omega (arith, c.loop-row-test.false, c.loop-row.auto.row-end, c.r-rows.ensures.value, ap (λ x. x.geometry.r) c.self.view_is))
    c.loop-row.invariant i j i_in j_in).kept has_not

pub returns-clause-shape : goal.returns-clause-shape
returns-clause-shape c = c.loop-row.invariant.of

pub returns-clause-well_formed : goal.returns-clause-well_formed
returns-clause-well_formed c = c.loop-row.invariant.formed
