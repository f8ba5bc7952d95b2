-- The laws are lemmas.
use Rattle.stair_invariant.specs.Returning.{NoneReturns}
use Rattle.stair_array.specs.Machine.{ReadBlock}
use Rattle.stair_array.proofs.NoneReturnsLemmas.{reads_lead, begun_history}
use Rattle.stair_array.proofs.ReadDoneLemmas.{none_refused, promise}
use Rattle.stair_array.proofs.reads.read_laws.Goals as goal

pub returns : goal.returns
returns c = record {
  promise = promise NoneReturns reads_lead;
  refused = λ b answer events refusal x y p honest before s state calm below is.
      none_refused NoneReturns reads_lead b answer events x y p honest before s
      (begun_history (ReadBlock b) (λ same. cc) answer events x y p before s state) state calm below refusal is;
}
