-- The law is a lemma.
use Rattle.stair_reinsert.proofs.OpeningBegins.{opening_begins}
use Rattle.stair_reinsert.proofs.openings.opening_laws.Goals as goal

pub returns : goal.returns
returns c = record { begins = opening_begins }
