-- One row more.
use Rattle.std.proofs.Common.{◌≡◌, ◌+◌, ◌<◌, ap₂, ◌∙◌, arith}
use Rattle.stair_c.specs.Chunks.{sector_number}
use Rattle.stair_c.proofs.SectorLemmas.{loaded-of, loaded-more, loaded-others}
use Rattle.stair_c.proofs.stripes.load_chunk.Goals as goal

pub loop-row-preserved : goal.loop-row-preserved
loop-row-preserved c =
    let g = c.args.geometry.now in
    let k = c.args.count in
    let j = c.args.slot in
    let row = c.loop-row.row in
    let into = c.loop-row.into in
    let sectors = c.args.sectors.now in
    let row_in : row < g.r = omega (arith, c.loop-row-test.true, c.requires.rows_in) in
    let place = c.first_sector-first.result + c.from.result in
    let here : place ≡ sector_number g k c.args.stripe row j = ap₂ (λ a b. a + b) c.first_sector-first.ensures.value c.from.ensures in
    let so_far = c.loop-row.invariant in
    let j_in = c.requires.slot_in in
    let formed = c.put.ensures.well_formed in
    rw c.put.ensures.value
    (record {
      of = loaded-of g k sectors c.args.stripe j row place into so_far.of so_far.formed j_in row_in here;
      formed = rw (← c.put.ensures.value) formed;
      loaded = loaded-more g k sectors c.args.stripe j row place into so_far.of so_far.formed j_in row_in here so_far.loaded;
      others = λ i v v_in other.
          loaded-others g k sectors c.args.stripe j row place into so_far.of so_far.formed j_in row_in here i v v_in (λ same. other same.1)
          ∙ so_far.others i v v_in other;
    })
