-- The law is a lemma.
use Rattle.stair_invariant.specs.Returning.{NoneReturns}
use Rattle.stair_array.proofs.MendsLeadLemmas.{admissions_lead, beside_leads}
use Rattle.stair_array.proofs.NoneReturnsLemmas.{reads_lead}
use Rattle.stair_array.proofs.ReplaceDoneLemmas.{promise}
use Rattle.stair_array.proofs.replaces.replace_laws.Goals as goal

pub returns : goal.returns
returns c = record { promise = promise NoneReturns reads_lead beside_leads admissions_lead }
