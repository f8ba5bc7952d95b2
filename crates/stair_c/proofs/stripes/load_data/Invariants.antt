-- The data cells of the chunks so far are loaded.
use Rattle.std.proofs.Common.{◌≡◌, ℕ, ◌<◌}
use Rattle.stair_model.specs.Cell.{Data, cell_at}
use Rattle.stair_model.specs.Stripe.{IsStripeOf, IsWellFormed, cell}
use Rattle.stair_c.specs.Chunks.{sector_at}
use Rattle.stair_c.proofs.stripes.load_data.Given as goal

abbrev pub invariant-loop-slot : goal.invariant-loop-slot
invariant-loop-slot l = record {
  of : IsStripeOf l.geometry l.into;
  formed : IsWellFormed l.into;
  loaded : (i j d : ℕ) → i < l.geometry.r → j < l.slot → cell_at l.geometry i j ≡ Data d →
      cell l.into i j ≡ sector_at l.geometry l.count l.sectors l.stripe i j;
}
