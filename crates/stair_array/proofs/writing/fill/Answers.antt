-- Each turn puts the next block into its cell.
use Rattle.std.proofs.Common.{◌+◌, refl, sym, subst, arith}
use Rattle.stair_model.specs.Encoding.{IsEncodedFrom}
use Rattle.stair_model.specs.Geometry.{Geometry}
use Rattle.stair_model.specs.Stripe.{IsStripeOf, IsWellFormed, Stripe}
use Rattle.stair_array.proofs.ChangingLemmas.{all_in_range}
use Rattle.stair_array.proofs.FillingLemmas.{HoldsBelow, are_filled, fill_starts, put_more}
use Rattle.stair_array.proofs.writing.fill.Goals as goal

pub place_of-place-requires : goal.place_of-place-requires
place_of-place-requires g c =
    let all = all_in_range c.args.geometry.now c.args.first _ c.requires.limits c.requires.first c.requires.together in
    omega (arith, all, c.loop-at-test.true)

pub loop-at-preserved : goal.loop-at-preserved
loop-at-preserved g c = record {
  of = subst (IsStripeOf c.args.geometry.now) (sym c.put.ensures.value) (record { rows = c.loop-at.invariant.of.rows; chunks = c.loop-at.invariant.of.chunks });
  holds =
      subst (λ (s : Stripe). HoldsBelow c.args.geometry.now c.args.from.now (c.loop-at.at + 1) s) (sym c.put.ensures.value)
      (put_more c.args.geometry.now c.args.first c.loop-at.at _ _ _ c.args.from.now _ c.loop-at.stripe c.loop-at.invariant.of
      (subst IsWellFormed c.put.ensures.value c.put.ensures.well_formed)
      (fill_starts c.args.geometry.now c.args.first _ c.requires.together c.requires.fill) (omega (arith, c.loop-at-test.true, c.requires.fill))
      c.place_of-place.ensures.place refl c.loop-at.invariant.holds);
}

pub returns-clause-set : goal.returns-clause-set
returns-clause-set g c cells loaded =
    are_filled c.args.geometry.now c.args.first c.args.from.now c.loop-at.stripe c.encode.new.stripe c.requires.limits c.requires.together c.requires.fill
    (λ i j d row chunk datum below. c.loop-at.invariant.holds i j d row chunk datum (omega (arith, below, c.loop-at-test.false)))
    (subst (λ (h : Geometry). IsEncodedFrom h c.loop-at.stripe c.encode.new.stripe) c.requires.fits c.encode.ensures.encoded) cells loaded
