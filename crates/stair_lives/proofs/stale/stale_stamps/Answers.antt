-- The law is a lemma.
use Rattle.stair_lives.proofs.InStamps.{never_live_in_stamps}
use Rattle.stair_lives.proofs.stale.stale_stamps.Goals as goal

pub returns : goal.returns
returns c = record { never = never_live_in_stamps }
