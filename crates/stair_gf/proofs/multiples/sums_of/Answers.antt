-- One block more of one of the sums.
use Rattle.std.proofs.Common.{◌≡◌, ◌+◌, ◌*◌, ◌≤◌, [], length, slice_index_or, subst, arith}
use Rattle.std.proofs.Math.Nat.{mul-le-mul_right}
use Rattle.stair_gf.proofs.MultipleLaws.{AreStored, AreStored-more, factors_from, stored_sums}
use Rattle.stair_gf.proofs.multiples.sums_of.Goals as goal

pub sums_at-sums-requires : goal.sums_at-sums-requires
sums_at-sums-requires g c =
    let all : (c.args.first + g.row.COUNT) * c.args.width ≤ length c.args.into.now * c.args.width =
    mul-le-mul_right {m = c.args.first + g.row.COUNT} {n = length c.args.into.now} c.args.width c.requires.within in (
      omega (arith, c.requires.few),
      (
        c.requires.few,
        (
          omega (arith, c.loop-block-test.true),
          (
            c.requires.width,
            (
              omega (arith, all, factors_from c.args.first g.row.COUNT c.args.width, c.requires.factors),
              rw c.loop-block.invariant.count c.requires.apart.sources,
            ),
          ),
        ),
      ),
    )

pub loop-d-preserved : goal.loop-d-preserved
loop-d-preserved g c =
    let old = c.args.symbols.now in
    let first = c.args.first in
    let d = c.loop-d.d in
    let start = 64 * c.loop-block.block in
    let next : first + d + 1 ≡ first + (d + 1) = omega arith in
    subst (AreStored old _ c.args.into.now c.args.from.now c.args.by.now c.args.width first (first + g.row.COUNT) start) next
    (AreStored-more old c.args.into.now c.args.from.now c.args.by.now c.args.width first (first + g.row.COUNT) c.requires.apart c.requires.within
    c.loop-d.symbols start (first + d) c.from.result c.store.new.bytes (slice_index_or c.sums_at-sums.result d [])
    (omega arith) (omega (arith, c.loop-d-test.true)) c.from.ensures c.loop-d.invariant
    (stored_sums old c.args.into.now c.args.from.now c.args.by.now c.args.width first (first + g.row.COUNT) c.requires.apart c.requires.within
    c.loop-block.symbols start first start (first * c.args.width + d * c.args.width) (first + d) c.loop-block.invariant
    (factors_from first d c.args.width) (c.sums_at-sums.ensures d c.loop-d-test.true))
    c.store.ensures)
