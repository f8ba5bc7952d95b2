-- The law is a lemma.
use Rattle.stair_invariant.specs.Returning.{NoneReturns}
use Rattle.stair_array.proofs.NoneReturnsLemmas.{reads_lead}
use Rattle.stair_array.proofs.SeatsLookLemmas.{promise}
use Rattle.stair_array.proofs.looks.look_laws.Goals as goal

pub returns : goal.returns
returns c = record { promise = promise NoneReturns reads_lead }
