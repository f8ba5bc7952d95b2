-- One row more: no two cells share a sector.
use Rattle.std.proofs.Common.{◌≡◌, ℕ, ◌+◌, ◌<◌, ap₂, ◌∙◌, arith}
use Rattle.stair_c.specs.Chunks.{sector_number}
use Rattle.stair_c.proofs.SectorLemmas.{stored-whole, stored-more, stored-others}
use Rattle.stair_c.proofs.stripes.store_chunk.Goals as goal

pub loop-row-preserved : goal.loop-row-preserved
loop-row-preserved c =
    let g = c.args.geometry.now in
    let row_in : c.loop-row.row < g.r = omega (arith, c.loop-row-test.true, c.r-row-end.ensures.value) in
    let place = c.first_sector-first.result + c.from.result in
    let here : place ≡ sector_number g c.args.count c.args.stripe c.loop-row.row c.args.slot =
    ap₂ (λ (a b : ℕ). a + b) c.first_sector-first.ensures.value c.from.ensures in
    let whole = c.loop-row.invariant.whole in
    record {
      whole =
          stored-whole g c.args.count c.loop-row.sectors c.args.stripe c.args.slot c.loop-row.row place c.cell.result.now whole
          c.requires.stripe_in c.requires.slot_in row_in here;
      stored =
          stored-more g c.args.count c.loop-row.sectors c.args.stripe c.args.slot c.loop-row.row place c.cell.result.now whole
          c.requires.stripe_in c.requires.slot_in row_in here c.args.cells.now c.cell.ensures.value c.loop-row.invariant.stored;
      others = λ s i j s_in i_in other.
          stored-others g c.args.count c.loop-row.sectors c.args.stripe c.args.slot c.loop-row.row place c.cell.result.now whole
          c.requires.stripe_in c.requires.slot_in row_in here s i j s_in i_in (λ same. other (same.0, same.2))
          ∙ c.loop-row.invariant.others s i j s_in i_in other;
    }
