-- Each turn restores the next stripe.
use Rattle.stair_c.proofs.RestoreLemmas.{restores_more}
use Rattle.stair_c.proofs.restore.restore_each.Goals as goal

pub loop-number-preserved : goal.loop-number-preserved
loop-number-preserved c = record {
  fits = c.restore_stripe.ensures.fits;
  of = c.restore_stripe.ensures.of;
  formed = c.restore_stripe.ensures.formed;
  below = restores_more c.args.geometry.now c.args.count c.args.erased.now c.loop-number.number c.args.sectors.now c.loop-number.sectors
      c.restore_stripe.new.sectors c.loop-number-test.true c.loop-number.invariant.below c.restore_stripe.ensures.whole
      c.restore_stripe.ensures.restored c.restore_stripe.ensures.others;
}
