-- The laws are lemmas.
use Rattle.stair_invariant.specs.Returning.{NoneReturns}
use Rattle.stair_array.specs.Machine.{RebuildNext}
use Rattle.stair_array.proofs.MendsLeadLemmas.{beside_leads, promotions_lead}
use Rattle.stair_array.proofs.NoneReturnsLemmas.{begun_history, reads_lead}
use Rattle.stair_array.proofs.RebuildStepLemmas.{only_spent, promise}
use Rattle.stair_array.proofs.rebuilds.rebuild_laws.Goals as goal

pub returns : goal.returns
returns c = record {
  promise = promise NoneReturns reads_lead beside_leads promotions_lead;
  refused = λ answer events refusal x y p honest before s state calm is.
      only_spent NoneReturns reads_lead beside_leads promotions_lead answer events x y p honest before s
      (begun_history RebuildNext (λ same. cc) answer events x y p before s state) state calm refusal is;
}
