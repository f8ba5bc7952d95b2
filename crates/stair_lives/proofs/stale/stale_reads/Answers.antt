-- The law is a lemma.
use Rattle.stair_lives.proofs.ReadsOf.{only_live_are_read}
use Rattle.stair_lives.proofs.stale.stale_reads.Goals as goal

pub returns : goal.returns
returns c = record { live = only_live_are_read }
