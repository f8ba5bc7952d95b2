-- The laws are lemmas.
use Rattle.stair_invariant.specs.Returning.{NoneReturns}
use Rattle.stair_array.specs.Machine.{WriteBlocks}
use Rattle.stair_array.proofs.NoneReturnsLemmas.{reads_lead, redos_lead, begun_history}
use Rattle.stair_array.proofs.WriteDoneLemmas.{none_refused, promise}
use Rattle.stair_array.proofs.WriteStoppedLemmas.{left_over}
use Rattle.stair_array.proofs.writes.write_laws.Goals as goal

pub returns : goal.returns
returns c = record {
  promise = promise NoneReturns reads_lead redos_lead;
  refused = λ first contents answer events refusal x y p honest before s state calm below thawed is.
      none_refused NoneReturns reads_lead redos_lead first contents answer events x y p honest before s
      (begun_history (WriteBlocks first contents) (λ same. cc) answer events x y p before s state) state calm below thawed refusal is;
  cut_off = left_over;
}
