-- The chunks so far are loaded.
use Rattle.std.proofs.Common.{ℕ, ◌<◌}
use Rattle.stair_model.specs.Stripe.{IsStripeOf, IsWellFormed}
use Rattle.stair_c.specs.Chunks.{HasChunkOf}
use Rattle.stair_c.proofs.stripes.load.Given as goal

abbrev pub invariant-loop-slot : goal.invariant-loop-slot
invariant-loop-slot l = record {
  of : IsStripeOf l.geometry l.into;
  formed : IsWellFormed l.into;
  loaded : (j : ℕ) → j < l.slot → HasChunkOf l.geometry l.count l.sectors l.stripe l.into j l.geometry.r;
}
