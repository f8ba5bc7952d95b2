-- The laws are lemmas of the array's steps, whether media come back or not.
use Rattle.stair_invariant.specs.Returning.{AnyReturns}
use Rattle.stair_array.proofs.StampStepLemmas.{freezing, labelling, only_spent}
use Rattle.stair_array.proofs.ReadDoneLemmas as read
use Rattle.stair_array.proofs.WriteDoneLemmas as write
use Rattle.stair_array.proofs.ScrubDoneLemmas as scrub
use Rattle.stair_array.proofs.RebuildStepLemmas as rebuild
use Rattle.stair_array.proofs.RecoverLemmas as recover
use Rattle.stair_reinsert.proofs.BesideLead.{beside_leads}
use Rattle.stair_reinsert.proofs.OpeningsLead.{openings_lead}
use Rattle.stair_reinsert.proofs.PromotionsLead.{promotions_lead}
use Rattle.stair_reinsert.proofs.ReadsLead.{reads_lead}
use Rattle.stair_reinsert.proofs.RedosLead.{redos_lead}
use Rattle.stair_reinsert.proofs.StampsLead.{stamps_lead}
use Rattle.stair_reinsert.proofs.steps.refusal_laws.Goals as goal

pub returns : goal.returns
returns c = record {
  recovers = λ answer events refusal x y p rules honest before s state calm unread is.
      recover.only_spent AnyReturns openings_lead answer events x y p rules honest before s state calm unread refusal is;
  reads = λ b answer events refusal x y p honest history before s state calm below is.
      read.none_refused AnyReturns reads_lead b answer events x y p honest before s history state calm below refusal is;
  writes = λ first contents answer events refusal x y p honest history before s state calm below thawed is.
      write.none_refused AnyReturns reads_lead redos_lead first contents answer events x y p honest before s history state calm below thawed refusal is;
  scrubs = λ t answer events refusal x y p honest history before s state calm below is.
      scrub.none_refused AnyReturns reads_lead redos_lead t answer events x y p honest before s history state calm below refusal is;
  rebuilds = λ answer events refusal x y p honest history before s state calm is.
      rebuild.only_spent AnyReturns reads_lead beside_leads promotions_lead answer events x y p honest before s history state calm refusal is;
  freezes = λ frozen answer events refusal x y p honest history before s state calm same.
      only_spent AnyReturns reads_lead stamps_lead _ _ _ (freezing frozen) answer events x y p honest before s history state calm refusal same;
  labels = λ label answer events refusal x y p honest history before s state calm same.
      only_spent AnyReturns reads_lead stamps_lead _ _ _ (labelling label) answer events x y p honest before s history state calm refusal same;
}
