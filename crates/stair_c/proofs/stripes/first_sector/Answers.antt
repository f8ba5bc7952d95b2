-- The chunk's sectors are among all sectors.
use Rattle.std.proofs.Common.{arith}
use Rattle.stair_c.proofs.SectorLemmas.{chunk_within}
use Rattle.stair_c.proofs.stripes.first_sector.Goals as goal

pub overflow_mul-result : goal.overflow_mul-result
overflow_mul-result c =
    let within =
    chunk_within c.args.geometry.now.n c.args.count c.args.geometry.now.r c.args.slot c.args.stripe c.args.sectors c.requires.whole
    (omega (arith, c.r.ensures.limits.rows)) c.requires.slot_in c.requires.stripe_in in
    rw c.from.ensures (omega (arith, within.0, c.ranges.sectors.fits))

pub overflow_add-result : goal.overflow_add-result
overflow_add-result c =
    let within =
    chunk_within c.args.geometry.now.n c.args.count c.args.geometry.now.r c.args.slot c.args.stripe c.args.sectors c.requires.whole
    (omega (arith, c.r.ensures.limits.rows)) c.requires.slot_in c.requires.stripe_in in
    rw c.from.ensures (omega (arith, within.0, c.ranges.sectors.fits))
