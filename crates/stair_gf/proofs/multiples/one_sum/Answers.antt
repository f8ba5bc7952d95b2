-- Two blocks more.
use Rattle.std.proofs.Common.{◌≡◌, ℕ, ◌+◌, ◌*◌, slice_set, refl, subst, arith}
use Rattle.stair_gf.proofs.MultipleLaws.{AreStored, AreStored-more, AreStored-next, stored_sums}
use Rattle.stair_gf.proofs.multiples.one_sum.Goals as goal

pub loop-pair-preserved : goal.loop-pair-preserved
loop-pair-preserved c =
    let old = c.args.symbols.now in
    let into = c.args.into.now in
    let from = c.args.from.now in
    let by = c.args.by.now in
    let width = c.args.width in
    let number = c.args.number in
    let start = 128 * c.loop-pair.pair in
    let one =
    AreStored-more old into from by width number (number + 1) c.requires.apart (omega (arith, c.requires.within)) c.loop-pair.symbols start number
    c.from.result c.store.new.bytes _ (omega arith) (omega arith) c.from.ensures c.loop-pair.invariant
    (stored_sums old into from by width number (number + 1) c.requires.apart (omega (arith, c.requires.within)) c.loop-pair.symbols start number start
    (number * width) number c.loop-pair.invariant refl c.two_blocks-sum.ensures.first)
    c.store.ensures in
    let next = AreStored-next old into from by width number (number + 1) c.requires.apart (omega (arith, c.requires.within)) _ start (number + 1) (omega arith) one in
    let two =
    AreStored-more old into from by width number (number + 1) c.requires.apart (omega (arith, c.requires.within)) _ (start + 64) number
    c.from-in-loop-pair.result c.store-in-loop-pair.new.bytes _ (omega arith) (omega arith) c.from-in-loop-pair.ensures next
    (stored_sums old into from by width number (number + 1) c.requires.apart (omega (arith, c.requires.within)) c.loop-pair.symbols start number (start + 64)
    (number * width) number c.loop-pair.invariant refl c.two_blocks-sum.ensures.second)
    c.store-in-loop-pair.ensures in
    let end : start + 64 + 64 ≡ 128 * (c.loop-pair.pair + 1) = omega arith in
    subst
    (λ (n : ℕ). AreStored old
    (slice_set (slice_set c.loop-pair.symbols c.from.result c.store.new.bytes) c.from-in-loop-pair.result c.store-in-loop-pair.new.bytes)
    into from by width number (number + 1) n number) end
    (AreStored-next old into from by width number (number + 1) c.requires.apart (omega (arith, c.requires.within)) _ (start + 64) (number + 1) (omega arith) two)
