-- One entry more.
use Rattle.std.proofs.Common.{◌∙◌, arith}
use Rattle.std.proofs.lemmas.List.{length-set}
use Rattle.stair_volume.proofs.ReadingLaws.{entries_more}
use Rattle.stair_volume.proofs.reading.read_entries.Goals as goal

pub loop-k-preserved : goal.loop-k-preserved
loop-k-preserved c = (
  entries_more c.args.bytes.now c.loop-k.k c.loop-k.entries c.in_ok-entries.field-0 (omega (arith, c.loop-k.invariant.1)) c.loop-k.invariant.0 c.in_ok-entries.ensures,
  length-set c.loop-k.entries c.loop-k.k c.in_ok-entries.field-0 ∙ c.loop-k.invariant.1,
)
