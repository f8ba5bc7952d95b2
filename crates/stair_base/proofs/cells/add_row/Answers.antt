-- Each turn adds the cell in the next slot.
use Rattle.std.proofs.Common.{◌≡◌, ℕ, subst, arith}
use Rattle.stair_base.proofs.CellRows.{AddsRow, adds_more, adds_none}
use Rattle.stair_base.proofs.cells.add_row.Goals as goal

pub loop-slot-init : goal.loop-slot-init
loop-slot-init c = adds_none c.args.row c.args.cells.now c.requires.formed

pub loop-slot-preserved : goal.loop-slot-preserved
loop-slot-preserved c =
    adds_more c.args.row c.loop-slot.slot c.args.cells.now c.loop-slot.cells c.add.new.self c.loop-slot.invariant c.add.ensures.members
    c.add.ensures.well_formed

pub returns-clause-members : goal.returns-clause-members
returns-clause-members c =
    let all : c.loop-slot.slot ≡ c.args.slots = omega arith in
    (subst (λ (k : ℕ). AddsRow c.args.row k c.args.cells.now c.loop-slot.cells) all c.loop-slot.invariant).members
