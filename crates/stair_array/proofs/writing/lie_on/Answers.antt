-- A slot that isn't one of them has a cell.
use Rattle.std.proofs.Common.{◌<◌, ℕ, subst, arith}
use Rattle.std.specs.Prelude.{slice_index}
use Rattle.std.proofs.lemmas.Bool.{false≢true}
use Rattle.stair_array.proofs.ChangingLemmas.{slot_has_cell}
use Rattle.stair_array.proofs.writing.lie_on.Goals as goal

pub returns-then-not-has : goal.returns-then-not-has
returns-then-not-has c = record {
  lacking = λ is.
      let some : 0 < slice_index c.counts-counts.result c.loop-slot.slot =
      subst (λ (k : ℕ). 0 < slice_index c.counts-counts.result k) c.from.ensures c.if-counts-from-gt0.true in
      let counted = c.counts-counts.ensures.value c.loop-slot.slot (omega (arith, c.loop-slot-test.true)) in
      let found = slot_has_cell c.args.cells.now c.loop-slot.slot (subst (λ (n : ℕ). 0 < n) counted some) in
      (found.0, c.loop-slot.slot, found.1, λ has. false≢true (c.if-not-has.ensures.member.1 has));
}
