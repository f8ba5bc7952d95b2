use Rattle.stair_filerack.proofs.ReadLemmas.{bad_read, bad_reads, good_read}
use Rattle.stair_filerack.proofs.file.read_after.Goals as goal

pub returns-clause-good : goal.returns-clause-good
returns-clause-good g c good =
    rw (← c.image.view_is) (
      c.put_out.new.file,
      (c.in_default.ensures.all, c.put_out.ensures.none),
      good_read c.read_sector.result c.got_of.result c.args.into.now c.got_of.new.into _ _
          c.read_sector.ensures.found c.got_of.ensures.got c.got_of.ensures.buffer good,
      c.in_default.ensures.empty,
    )

pub returns-clause-bad : goal.returns-clause-bad
returns-clause-bad g c bad =
    rw (← c.image.view_is) (
      c.put_out.new.file,
      (c.in_default.ensures.all, c.put_out.ensures.none),
      bad_reads _ _ c.args.sector _ c.read_sector.new.image
          (bad_read c.read_sector.result c.got_of.result _ _ _ c.read_sector.ensures.found c.read_sector.ensures.failed c.got_of.ensures.got bad),
      c.in_default.ensures.empty,
    )
