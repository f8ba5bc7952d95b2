-- An array is led on from its opening on, whichever media come back.
use Rattle.stair_invariant.specs.Returning.{AnyReturns}
use Rattle.stair_array.proofs.StepsLead.{LeadsArrays}
use Rattle.stair_reinsert.proofs.AdmissionsLead.{admissions_lead}
use Rattle.stair_reinsert.proofs.BesideLead.{beside_leads}
use Rattle.stair_reinsert.proofs.OpeningsLead.{openings_lead}
use Rattle.stair_reinsert.proofs.PromotionsLead.{promotions_lead}
use Rattle.stair_reinsert.proofs.ReadsLead.{reads_lead}
use Rattle.stair_reinsert.proofs.RedosLead.{redos_lead}
use Rattle.stair_reinsert.proofs.StampsLead.{stamps_lead}

pub any_returns_leads : LeadsArrays AnyReturns
any_returns_leads = record {
  openings = openings_lead;
  reads = reads_lead;
  redos = redos_lead;
  stamps = stamps_lead;
  besides = beside_leads;
  promotions = promotions_lead;
  admissions = admissions_lead;
}
