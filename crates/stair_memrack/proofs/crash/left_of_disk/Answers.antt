-- Sector by sector.
use Rattle.std.proofs.Common.{◌≡◌, ℕ, ◌+◌, ◌∙◌, List, reverse, sym, ap, ap₂, subst, arith}
use Rattle.std.specs.Prelude.{cond, slice_index}
use Rattle.stair_memrack.specs.declared.disk.StoredSector.{StoredSector}
use Rattle.stair_memrack.specs.Disk.{stored_at}
use Rattle.stair_memrack.specs.Picks.{count_below}
use Rattle.stair_memrack.specs.Left.{writes_of, has_pending, left_sector, pending_at, AreLeft}
use Rattle.stair_memrack.proofs.PickLemmas.{count_below-few}
use Rattle.stair_memrack.proofs.LeftLemmas.{AreLeft-more, count_below-next}
use Rattle.stair_memrack.proofs.crash.left_of_disk.Goals as goal

pub left_of_sector-cell-requires : goal.left_of_sector-cell-requires
left_of_sector-cell-requires c =
    omega (arith, c.loop-index.invariant.1, count_below-few (pending_at c.args.disk.now) c.loop-index.index, c.requires, c.loop-index-test.true, c.size-size.type_inv)

pub loop-index-preserved : goal.loop-index-preserved
loop-index-preserved c =
    let sectors : List StoredSector = c.args.disk.now in
    let w = writes_of (reverse c.args.log.now.items) c.args.slot in
    let i = c.loop-index.index in
    let one = c.left_of_sector-cell in
    let cell : one.result.0 ≡ left_sector (slice_index c.args.picks.now (c.args.before + count_below (pending_at sectors) i)) (stored_at sectors i) (w i) =
    one.ensures.left
    ∙ ap₂ (λ n x. left_sector (slice_index c.args.picks.now n) x (w i)) c.loop-index.invariant.1 c.sector.ensures in
    let next : one.result.1 ≡ c.args.before + count_below (pending_at sectors) (i + 1) =
    let more = count_below-next (pending_at sectors) i in
    let here : cond {A = ℕ} (has_pending c.sector.result) 1 0 ≡ cond {A = ℕ} (pending_at sectors i) 1 0 =
    ap (λ x. cond {A = ℕ} (has_pending x) 1 0) c.sector.ensures in
    omega (arith, one.ensures.next, c.loop-index.invariant.1) in (
      subst (AreLeft w c.args.picks.now c.args.before (i + 1) sectors) (sym c.in_ok-push.ensures.items)
          (AreLeft-more w c.args.picks.now c.args.before i sectors c.loop-index.cells.items one.result.0 c.loop-index.invariant.0 cell),
      next,
    )

pub returns-clause-few : goal.returns-clause-few
returns-clause-few c =
    omega (arith, c.loop-index.invariant.1, count_below-few (pending_at c.args.disk.now) c.loop-index.index, c.loop-index.auto.index-end, c.size-size.type_inv)
