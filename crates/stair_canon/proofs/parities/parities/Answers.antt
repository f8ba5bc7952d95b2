-- A cell more, which is a parity or data.
use Rattle.std.proofs.Common.{ap, sym, ◌∙◌, arith}
use Rattle.std.proofs.lemmas.Bool.{false≢true}
use Rattle.stair_model.specs.Cell.{is_parity}
use Rattle.stair_canon.proofs.ParityCells.{HasParitiesBefore-parity, HasParitiesBefore-data}
use Rattle.stair_canon.proofs.parities.parities.Goals as goal
use Rattle.stair_canon.proofs.parities.parities.Goals.{then-holds_parity, else-holds_parity}

pub loop-slot-preserved : goal.loop-slot-preserved
loop-slot-preserved c =
    let g = c.args.geometry.now in
    elim c.if-holds_parity.branch [
      | then-holds_parity w ↦
          rw w.cells-is
          (HasParitiesBefore-parity g c.loop-slot.cells w.add.new.self c.loop-row.row c.loop-slot.slot
          (omega (arith, c.loop-row-test.true, c.r-row-end.ensures.value)) (omega (arith, c.loop-slot-test.true, c.n-slot-end.ensures.value))
          (ap is_parity (sym c.kind.ensures) ∙ sym c.holds_parity.ensures ∙ w.if-holds_parity.true) w.add.ensures.members c.loop-slot.invariant)
      | else-holds_parity w ↦
          rw w.cells-is
          (HasParitiesBefore-data g c.loop-slot.cells c.loop-row.row c.loop-slot.slot
          (λ parity. false≢true (sym w.if-holds_parity.false ∙ c.holds_parity.ensures ∙ ap is_parity c.kind.ensures ∙ parity))
          c.loop-slot.invariant)
    ]
