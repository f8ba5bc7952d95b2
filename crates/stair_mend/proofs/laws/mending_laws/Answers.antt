-- The laws are lemmas.
use Rattle.std.proofs.Common.{arith, refl}
use Rattle.std.specs.Prelude.{Ok}
use Rattle.stair_rack.specs.declared.rack.Reply.TheVariants as reply
use Rattle.stair_invariant.specs.Returning.{NoneReturns}
use Rattle.stair_array.specs.Mends.{Rebuilds}
use Rattle.stair_array.proofs.MendsLeadLemmas.{beside_leads, promotions_lead}
use Rattle.stair_array.proofs.NoneReturnsLemmas.{reads_lead}
use Rattle.stair_mend.proofs.ChunkLaws.{chunk_cuts, chunk_past, chunk_step}
use Rattle.stair_mend.proofs.ReplacingLemmas.{admitted}
use Rattle.stair_mend.proofs.StepLemmas.{next_last}
use Rattle.stair_mend.proofs.laws.mending_laws.Goals as goal

pub returns : goal.returns
returns c = record {
  chunk = λ was j t answer x y next more writes. chunk_step was j t next answer x y writes (omega (arith, more)) more answer refl;
  last = λ was j t answer x y z next end writes promotes. next_last was j t next _ x y writes end refl answer z promotes;
  promotion = λ was j t answer x y next end promotes. Rebuilds.OnlyPromotes j t answer x y next end promotes;
  admission = λ slot answer x y z free prepares admits. admitted slot x y z answer free prepares admits;
  cut = λ m last rebuild known j t answer x y before s c at below wrote honest history state moment calm.
      chunk_cuts NoneReturns reads_lead beside_leads promotions_lead m last rebuild known j t answer x y before s at below wrote honest history state c
      moment calm;
  goes_on = λ m last rebuild known j t x y before s at below wrote honest history state calm.
      chunk_past NoneReturns reads_lead beside_leads promotions_lead m last rebuild known j t (Ok reply.Done) x y before s at below wrote honest history state
      refl calm;
}
