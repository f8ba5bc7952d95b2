-- The laws are lemmas.
use Rattle.stair_invariant.specs.Returning.{NoneReturns}
use Rattle.stair_array.specs.Machine.{SetFrozen, SetLabel}
use Rattle.stair_array.proofs.NoneReturnsLemmas.{begun_history, reads_lead}
use Rattle.stair_array.proofs.StampStepLemmas.{freezing, labelling, only_spent, stamp_leads}
use Rattle.stair_array.proofs.StampsLeadLemmas.{stamps_lead}
use Rattle.stair_array.proofs.stamps.stamp_laws.Goals as goal

pub returns : goal.returns
returns c = record {
  freeze = λ frozen answer events x y p. stamp_leads NoneReturns reads_lead stamps_lead _ _ _ (freezing frozen) answer events x y p;
  freeze_refused = λ frozen answer events refusal x y p honest before s state calm same.
      only_spent NoneReturns reads_lead stamps_lead _ _ _ (freezing frozen) answer events x y p honest before s
      (begun_history (SetFrozen frozen) (λ same. cc) answer events x y p before s state) state calm refusal same;
  label = λ label answer events x y p. stamp_leads NoneReturns reads_lead stamps_lead _ _ _ (labelling label) answer events x y p;
  label_refused = λ label answer events refusal x y p honest before s state calm same.
      only_spent NoneReturns reads_lead stamps_lead _ _ _ (labelling label) answer events x y p honest before s
      (begun_history (SetLabel label) (λ same. cc) answer events x y p before s state) state calm refusal same;
}
