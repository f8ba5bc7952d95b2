-- A place more, which is known or not.
use Rattle.std.proofs.Common.{◌≡◌, false, length, slice_index_or, subst, sym, ap, ◌∙◌, arith}
use Rattle.stair_canon.specs.Canonical.{KnownSymbols, is_known}
use Rattle.stair_canon.proofs.SolvedLines.{HasFilled, HasFilled-none, HasFilled-known, HasFilled-zeros, FillsIn-all}
use Rattle.stair_canon.proofs.known.KnownSymbols.fill_in.Goals as goal
use Rattle.stair_canon.proofs.known.KnownSymbols.fill_in.Goals.{then-not-is_known, else-not-is_known}

pub loop-place-init : goal.loop-place-init
loop-place-init c = HasFilled-none c.args.line c.args.places.now c.args.self.now

pub is_known-requires : goal.is_known-requires
is_known-requires c =
    omega (
      arith,
      c.requires.within c.loop-place.place-index c.loop-place-test.true,
      c.symbol-number.ensures,
      c.requires.marks,
      ap length c.loop-place.invariant.marks,
    )

pub put-requires : goal.put-requires
put-requires c =
    omega (
      arith,
      c.requires.within c.loop-place.place-index c.loop-place-test.true,
      c.symbol-number.ensures,
      c.loop-place.invariant.count,
      ap (λ s. length s.memory) c.self.view_is,
    )

pub loop-place-preserved : goal.loop-place-preserved
loop-place-preserved c =
    let number = c.symbol-number.result in
    let same : is_known c.loop-place.self number ≡ is_known c.args.self.now number =
    ap (λ m. slice_index_or m number false) c.loop-place.invariant.marks in
    let before = subst (λ (s : KnownSymbols). HasFilled c.args.line c.args.places.now c.args.self.now s c.loop-place.place-index)
    (sym c.self.view_is) c.loop-place.invariant in
    elim c.if-not-is_known.branch [
      | then-not-is_known w ↦
          rw w.self-is
          (HasFilled-zeros c.args.line c.args.places.now c.args.self.now _ c.loop-place.place-index before number w.put.new.self
          c.symbol-number.ensures (sym same ∙ sym c.is_known.ensures ∙ w.if-not-is_known.true)
          (omega (
            arith,
            c.requires.within c.loop-place.place-index c.loop-place-test.true,
            c.symbol-number.ensures,
            before.count,
          ))
          w.put.ensures)
      | else-not-is_known w ↦
          rw w.self-is
          (HasFilled-known c.args.line c.args.places.now c.args.self.now c.loop-place.self c.loop-place.place-index c.loop-place.invariant
          (ap (is_known c.args.self.now) (sym c.symbol-number.ensures) ∙ sym same ∙ sym c.is_known.ensures ∙ w.if-not-is_known.false))
    ]

pub returns : goal.returns
returns c =
    FillsIn-all c.args.line c.args.places.now c.args.self.now c.loop-place.self c.loop-place.place-index
    (omega (arith, c.loop-place-test.false)) c.loop-place.invariant
