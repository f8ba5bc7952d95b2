-- The blocks so far were taken from the source.
use Rattle.stair_model.specs.Stripe.{IsStripeOf, IsWellFormed}
use Rattle.stair_command.specs.Outside.{source_view}
use Rattle.stair_engine.specs.Taking.{TakesBlocksTo}
use Rattle.stair_engine.proofs.blocks.take_blocks.Given as goal

abbrev pub invariant-loop-number : goal.invariant-loop-number
invariant-loop-number g l = record {
  of : IsStripeOf l.geometry l.stripe;
  well_formed : IsWellFormed l.stripe;
  taken : TakesBlocksTo (source_view g.S.Source) l.geometry l.number l.initial.intake l.intake l.stripe
      l.initial.input l.input;
}
