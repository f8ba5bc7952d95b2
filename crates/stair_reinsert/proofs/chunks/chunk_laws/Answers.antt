-- The law is a lemma of chunks, whether media come back or not.
use Rattle.std.proofs.Common.{refl}
use Rattle.std.specs.Prelude.{Ok}
use Rattle.stair_rack.specs.declared.rack.Reply.TheVariants as reply
use Rattle.stair_invariant.specs.Returning.{AnyReturns}
use Rattle.stair_mend.proofs.ChunkLaws.{chunk_cuts, chunk_past}
use Rattle.stair_reinsert.proofs.BesideLead.{beside_leads}
use Rattle.stair_reinsert.proofs.PromotionsLead.{promotions_lead}
use Rattle.stair_reinsert.proofs.ReadsLead.{reads_lead}
use Rattle.stair_reinsert.proofs.chunks.chunk_laws.Goals as goal

pub returns : goal.returns
returns c = record {
  cut = λ m last rebuild known j t answer x y before s c at below wrote honest history state moment calm.
      chunk_cuts AnyReturns reads_lead beside_leads promotions_lead m last rebuild known j t answer x y before s at below wrote honest history state c
      moment calm;
  goes_on = λ m last rebuild known j t x y before s at below wrote honest history state calm.
      chunk_past AnyReturns reads_lead beside_leads promotions_lead m last rebuild known j t (Ok reply.Done) x y before s at below wrote honest history state
      refl calm;
}
