-- No cell, one cell more, and a whole row; a part of one; and all cells.
use Rattle.std.proofs.Common.{◌≡◌, ℕ, ◌+◌, ◌*◌, ◌<◌, ◌≤◌, List, ap, arith, le_refl, length, subst, take}
use Rattle.std.specs.Io.KnownBytes.{Appends}
use Rattle.std.specs.List.{concat}
use Rattle.std.proofs.lemmas.List.{take_all}
use Rattle.std.proofs.KnownBytes.{Appends-nil, Appends-trans}
use Rattle.stair_rack.specs.Count.{kept-Rose}
use Rattle.stair_command.specs.Outside.{sink_view}
use Rattle.stair_engine.proofs.CellLaws.{length-cells, puts_cell, puts_part, row_more}
use Rattle.stair_command.proofs.StreamLaws.{PutsAll-err}
use Rattle.stair_engine.proofs.cells.put_stripe.Goals as goal

pub returns-in_err-put_all-clause-puts : goal.returns-in_err-put_all-clause-puts
returns-in_err-put_all-clause-puts g c =
    let of = c.args.geometry.now in
    let slot_in : c.loop-slot.slot < of.n = omega (arith, c.n-slot-end.ensures.value) in
    let row_in : c.loop-row.row < of.r = omega (arith, c.r-row-end.ensures.value) in
    let puts = c.in_err-put_all.ensures.puts in
    PutsAll-err (sink_view g.K.Sink) _ _ _ _ _ c.from_residual.ensures.0
    (puts_part of c.args.stripe.now _ _ c.cell.result.now puts.0 c.requires.of c.requires.well_formed row_in slot_in c.cell.ensures.value puts.1) (
      Appends-trans _ _ _ _ _ c.loop-slot.invariant.bytes puts.2.0,
      omega (arith, c.loop-slot.invariant.count, puts.2.1),
      kept-Rose _ _ _ c.loop-slot.invariant.count puts.2.1 puts.2.2,
    )

pub loop-slot-preserved : goal.loop-slot-preserved
loop-slot-preserved g c =
    let of = c.args.geometry.now in
    let slot_in : c.loop-slot.slot < of.n = omega (arith, c.n-slot-end.ensures.value) in
    let row_in : c.loop-row.row < of.r = omega (arith, c.r-row-end.ensures.value) in
    let puts = c.in_ok-put_all.ensures.puts in
    record {
      bytes =
          puts_cell of c.args.stripe.now _ _ c.cell.result.now _ _ _ c.requires.of c.requires.well_formed row_in slot_in
          c.cell.ensures.value c.loop-slot.invariant.bytes puts.0;
      count = omega (arith, c.loop-slot.invariant.count, puts.1);
    }

pub loop-row-init : goal.loop-row-init
loop-row-init g c =
    let held = g.K.Sink.held c.args.output.now in
    let none : 0 ≡ 0 * c.args.geometry.now.n = omega arith in
    record {
      bytes = subst (λ (done : ℕ). Appends held held (concat (take done c.args.stripe.now.cells))) none (Appends-nil held);
      count = le_refl (g.K.Sink.faults c.args.output.now);
    }

pub loop-slot-init : goal.loop-slot-init
loop-slot-init g c =
    let n = c.args.geometry.now.n in
    let none : c.loop-row.row * n ≡ c.loop-row.row * n + 0 = omega arith in
    record {
      bytes = subst (λ (done : ℕ). Appends (g.K.Sink.held c.args.output.now) (g.K.Sink.held c.loop-row.output) (concat (take done c.args.stripe.now.cells))) none
          c.loop-row.invariant.bytes;
      count = c.loop-row.invariant.count;
    }

pub loop-row-preserved : goal.loop-row-preserved
loop-row-preserved g c =
    let n = c.args.geometry.now.n in
    let all : c.loop-slot.slot ≡ n = omega (arith, c.n-slot-end.ensures.value) in
    record {
      bytes = subst (λ (done : ℕ). Appends (g.K.Sink.held c.args.output.now) (g.K.Sink.held c.loop-slot.output) (concat (take done c.args.stripe.now.cells)))
          (row_more c.loop-row.row n c.loop-slot.slot all) c.loop-slot.invariant.bytes;
      count = c.loop-slot.invariant.count;
    }

pub returns-clause-puts : goal.returns-clause-puts
returns-clause-puts g c =
    let of = c.args.geometry.now in
    let stripe = c.args.stripe.now in
    let all : c.loop-row.row ≡ of.r = omega (arith, c.r-row-end.ensures.value) in
    let whole : length stripe.cells ≤ c.loop-row.row * of.n =
    omega (arith, ap (λ (row : ℕ). row * of.n) all, length-cells of stripe c.requires.of c.requires.well_formed) in (
      subst (λ (cells : List (List ℕ)). Appends (g.K.Sink.held c.args.output.now) (g.K.Sink.held c.loop-row.output) (concat cells))
          (take_all (c.loop-row.row * of.n) stripe.cells whole) c.loop-row.invariant.bytes,
      c.loop-row.invariant.count,
    )
