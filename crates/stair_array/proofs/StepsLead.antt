-- What is promised of every step of an array, by the laws by which it is led on, whether media come back or not; and that they hold where
-- none does.
use Rattle.std.proofs.Common.{◌≡◌, List, refl}
use Rattle.stair_rack.specs.declared.watcher.Event.{Event}
use Rattle.stair_member.specs.Membership.{IsMembership}
use Rattle.stair_invariant.specs.Returning.{NoneReturns, Returning}
use Rattle.stair_invariant.proofs.Mending.{LeadsAdmissions, LeadsBeside, LeadsPromotions}
use Rattle.stair_invariant.proofs.Serving.{LeadsReads, LeadsRedos}
use Rattle.stair_invariant.proofs.Stamping.{LeadsStamps}
use Rattle.stair_array.specs.Machine.{Answer, LookAtSeats, ReadBlock, RebuildNext, Recover, ReplaceSlot, ScrubStripe, SetFrozen, SetLabel, Step, WriteBlocks}
use Rattle.stair_array.specs.Promise.{LeadsStep, Performs, Seen}
use Rattle.stair_array.proofs.MendsLeadLemmas.{admissions_lead, beside_leads, promotions_lead}
use Rattle.stair_array.proofs.NoneReturnsLemmas.{reads_lead, redos_lead}
use Rattle.stair_array.proofs.OpeningsLeadLemmas.{openings_lead}
use Rattle.stair_array.proofs.ReadDoneLemmas as read
use Rattle.stair_array.proofs.RebuildStepLemmas as rebuild
use Rattle.stair_array.proofs.RecoverLemmas as recover
use Rattle.stair_array.proofs.RecoverLemmas.{LeadsOpenings}
use Rattle.stair_array.proofs.ReplaceDoneLemmas as replace
use Rattle.stair_array.proofs.ScrubDoneLemmas as scrub
use Rattle.stair_array.proofs.SeatsLookLemmas as look
use Rattle.stair_array.proofs.StampStepLemmas.{freezing, labelling, stamp_leads}
use Rattle.stair_array.proofs.StampsLeadLemmas.{stamps_lead}
use Rattle.stair_array.proofs.WriteDoneLemmas as write

-- by these laws an array is led on, from its opening on
pub record LeadsArrays (returning : Returning) : Type 0 where
  pub openings : LeadsOpenings returning
  pub reads : LeadsReads returning
  pub redos : LeadsRedos returning
  pub stamps : LeadsStamps returning
  pub besides : LeadsBeside returning
  pub promotions : LeadsPromotions returning
  pub admissions : LeadsAdmissions returning

pub promises : (returning : Returning) → LeadsArrays returning → (step : Step) (answer : Answer step) (events : List Event) (x y : Seen)
    (p : Performs step answer events x y) → (step ≡ Recover → IsMembership p.was.member) → LeadsStep returning p.was.member step answer x y
promises returning laws Recover answer events x y p rules = recover.promise returning laws.openings answer events x y p (rules refl)
promises returning laws (ReadBlock b) answer events x y p rules = read.promise returning laws.reads b answer events x y p
promises returning laws (WriteBlocks first contents) answer events x y p rules =
    write.promise returning laws.reads laws.redos first contents answer events x y p
promises returning laws (ScrubStripe t) answer events x y p rules = scrub.promise returning laws.reads laws.redos t answer events x y p
promises returning laws (ReplaceSlot j) answer events x y p rules =
    replace.promise returning laws.reads laws.besides laws.admissions j answer events x y p
promises returning laws RebuildNext answer events x y p rules = rebuild.promise returning laws.reads laws.besides laws.promotions answer events x y p
promises returning laws (SetFrozen frozen) answer events x y p rules =
    stamp_leads returning laws.reads laws.stamps _ _ _ (freezing frozen) answer events x y p
promises returning laws (SetLabel label) answer events x y p rules =
    stamp_leads returning laws.reads laws.stamps _ _ _ (labelling label) answer events x y p
promises returning laws LookAtSeats answer events x y p rules = look.promise returning laws.reads answer events x y p

pub none_returns_leads : LeadsArrays NoneReturns
none_returns_leads = record {
  openings = openings_lead;
  reads = reads_lead;
  redos = redos_lead;
  stamps = stamps_lead;
  besides = beside_leads;
  promotions = promotions_lead;
  admissions = admissions_lead;
}
