-- The laws are lemmas.
use Rattle.stair_invariant.specs.Returning.{NoneReturns}
use Rattle.stair_array.specs.Machine.{ScrubStripe}
use Rattle.stair_array.proofs.NoneReturnsLemmas.{reads_lead, redos_lead, begun_history}
use Rattle.stair_array.proofs.ScrubDoneLemmas.{none_refused, promise}
use Rattle.stair_array.proofs.scrubs.scrub_laws.Goals as goal

pub returns : goal.returns
returns c = record {
  promise = promise NoneReturns reads_lead redos_lead;
  refused = λ t answer events refusal x y p honest before s state calm below is.
      none_refused NoneReturns reads_lead redos_lead t answer events x y p honest before s
      (begun_history (ScrubStripe t) (λ same. cc) answer events x y p before s state) state calm below refusal is;
}
