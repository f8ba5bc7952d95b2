-- There is no such stripe.
use Rattle.std.proofs.Common.{ap, arith, ◌∙◌}
use Rattle.stair_model.specs.Geometry.{Geometry}
use Rattle.stair_rack.specs.Told.{told}
use Rattle.stair_invariant.specs.Effects.{snapshot}
use Rattle.stair_array.proofs.MendingLemmas.{scrub_past}
use Rattle.stair_array.proofs.RebuildingLemmas.{under_after}
use Rattle.stair_array.proofs.array.Array.mend_stripe.Goals as goal

pub returns-then-stripe-limit-clause-does : goal.returns-then-stripe-limit-clause-does
returns-then-stripe-limit-clause-does g c none =
    let limit = c.from-then-stripe-limit-2.ensures in
    let past = c.if-stripe-limit.true in
    rw (← c.self.view_is)
    (scrub_past c.args.stripe _ _ (snapshot c.self.inside.session.member (told g.R.Rack c.args.rack.now)) c.from-then-stripe-limit.ensures
    (limit ∙ c.stripes-limit.ensures.value ∙ ap (λ (k : Geometry). k.stripes) c.geometry.ensures.value) (omega (arith, limit, past)))

pub invariant_of-self-in_err-cells : goal.invariant_of-self-in_err-cells
invariant_of-self-in_err-cells g c = (
  c.scrub-scrubbed.ensures.fits,
  rw c.left_of-self-inside.ensures (under_after _ _ c.scrub-scrubbed.ensures.geometry _ c.self.invariant.1),
)

pub invariant_of-self-2 : goal.invariant_of-self-2
invariant_of-self-2 g c = (
  c.scrub-scrubbed.ensures.fits,
  rw c.left_of-self-inside.ensures (under_after _ _ c.scrub-scrubbed.ensures.geometry _ c.self.invariant.1),
)
