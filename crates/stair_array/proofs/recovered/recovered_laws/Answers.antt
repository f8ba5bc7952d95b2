-- The laws are lemmas.
use Rattle.stair_array.proofs.OpeningsLeadLemmas.{openings_lead}
use Rattle.stair_array.proofs.RecoverLemmas.{again, only_spent, promise}
use Rattle.stair_invariant.specs.Returning.{NoneReturns}
use Rattle.stair_array.proofs.recovered.recovered_laws.Goals as goal

pub returns : goal.returns
returns c = record {
  promise = promise NoneReturns openings_lead;
  refused = λ answer events refusal x y p rules honest before s state calm is.
      only_spent NoneReturns openings_lead answer events x y p rules honest before s state calm tt refusal is;
  again = λ answer events x y p rules honest before s state c image first at calm left is.
      again NoneReturns openings_lead answer events x y p rules honest before s state c image first at calm left is;
}
