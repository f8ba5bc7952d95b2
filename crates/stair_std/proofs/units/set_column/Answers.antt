-- A parity more, or a data cell.
use Rattle.std.proofs.Common.{◌≡◌, ℕ, ◌*◌, ◌<◌, ◌+◌, ◌%◌, List, ap, ap₂, sym, ◌∙◌, arith, slice_index, slice_set, length}
use Rattle.stair_model.specs.Cell.{Data, cell_at}
use Rattle.stair_model.specs.Geometry.{data_cells}
use Rattle.stair_model.specs.Stripe.{cell}
use Rattle.stair_std.specs.Cells.{IsPart}
use Rattle.stair_std.specs.Coefficients.{coefficient_number}
use Rattle.stair_std.specs.declared.cells.Part.{Part}
use Rattle.stair_std.specs.declared.cells.Part.TheVariants.{Block, Parity}
use Rattle.stair_std.proofs.Columns.{HasSet-start, HasSet-slot, HasSet-block, HasSet-parity, HasSet-turn, HasColumnSet-all, place_in}
use Rattle.stair_std.proofs.Encoding.{parity_below}
use Rattle.stair_std.proofs.Numbers.{bytes_of-number}
use Rattle.stair_std.proofs.units.set_column.Goals as goal
use Rattle.stair_std.proofs.units.set_column.Goals.{in-Parity, in_default}

pub loop-row-init : goal.loop-row-init
loop-row-init c = HasSet-start _ _ _ _ _

pub loop-row-preserved : goal.loop-row-preserved
loop-row-preserved c =
    HasSet-turn _ _ _ _ _ _ _ _ (omega (arith, c.n-slot-end.ensures.value)) c.loop-slot.invariant

pub bounds-coefficients-from : goal.bounds-coefficients-from
bounds-coefficients-from c =
    let place : c.from.result * c.from-blocks.result + c.from-in-Parity.result
    ≡ coefficient_number c.args.geometry.now c.in-Parity.parity c.args.block =
    ap₂ (λ (a b : ℕ). a + b)
    (ap₂ (λ (a b : ℕ). a * b) c.from.ensures (c.from-blocks.ensures ∙ c.u.ensures.value)) c.from-in-Parity.ensures in
    omega (
      arith,
      place,
      c.loop-slot.invariant.count,
      c.requires.count,
      place_in c.args.geometry.now c.in-Parity.parity c.args.block
          (parity_below _ _ _ _ c.u.ensures.limits (omega (arith, c.r-row-end.ensures.value)) (omega (arith, c.n-slot-end.ensures.value))
          c.in-Parity.ensures.0 c.in-Parity.ensures.1)
          c.requires.block_in,
    )

pub loop-slot-preserved : goal.loop-slot-preserved
loop-slot-preserved c =
    let g = c.args.geometry.now in
    let row : c.loop-row.row < g.r = omega (arith, c.r-row-end.ensures.value) in
    let slot : c.loop-slot.slot < g.n = omega (arith, c.n-slot-end.ensures.value) in
    HasSet-slot _ _ _ _ _ _ _ _
    (elim c.match-part_at.branch [
      | in-Parity w ↦
          let place : w.from.result * c.from-blocks.result + w.from-in-Parity.result
          ≡ coefficient_number g w.in-Parity.parity c.args.block =
          ap₂ (λ (a b : ℕ). a + b)
          (ap₂ (λ (a b : ℕ). a * b) w.from.ensures (c.from-blocks.ensures ∙ c.u.ensures.value)) w.from-in-Parity.ensures in
          HasSet-parity _ _ _ _ _ _ _ _ slot c.loop-slot.invariant w.in-Parity.parity
          (slice_index w.cell.result.now (c.from-byte.result % 512)) _ w.in-Parity.ensures c.requires.block_in
          (omega (
            arith,
            c.loop-slot.invariant.count,
            c.requires.count,
            place_in g w.in-Parity.parity c.args.block
                (parity_below g _ _ _ c.u.ensures.limits row slot w.in-Parity.ensures.0 w.in-Parity.ensures.1) c.requires.block_in,
          ))
          (w.coefficients-is
          ∙ ap (λ (k : ℕ). slice_set c.loop-slot.coefficients k (slice_index w.cell.result.now (c.from-byte.result % 512))) place)
          (ap (λ (k : ℕ). slice_index w.cell.result.now (k % 512)) c.from-byte.ensures
          ∙ ap (λ (bytes : List ℕ). slice_index bytes (c.args.block % 512))
          (w.cell.ensures.value ∙ bytes_of-number g c.args.stripe.now _ _ c.requires.of slot))
      | in_default w ↦
          rw w.coefficients-is
          (HasSet-block _ _ _ _ _ _ _ _ slot c.loop-slot.invariant w.in_default.field-0 w.in_default.ensures)
    ])

pub returns : goal.returns
returns c = HasColumnSet-all _ _ _ _ _ _ _ (omega (arith, c.r-row-end.ensures.value)) c.loop-row.invariant
