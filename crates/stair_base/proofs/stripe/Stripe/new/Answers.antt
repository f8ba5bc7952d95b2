-- One zero cell more; and a stripe of zero cells is well formed.
use Rattle.std.proofs.Common.{rules, replicate, lit<}
use Rattle.std.proofs.lemmas.List.{replicate-append-replicate, length-replicate}
use Rattle.std.proofs.lemmas.List.Elements.{All-replicate}
use Rattle.stair_model.specs.Stripe.{IsSector}
use Rattle.stair_model.proofs.StripeLaws.{filled-IsSector}
use Rattle.stair_base.proofs.stripe.Stripe.new.Goals as goal

pub loop-made-preserved : goal.loop-made-preserved
loop-made-preserved c =
    rw (c.in_ok-push.ensures.items, c.loop-made.invariant) (replicate-append-replicate c.loop-made._made 1 (replicate 512 0))

pub invariant_of-result : goal.invariant_of-result
invariant_of-result c = rw c.loop-made.invariant
    (record {
      count = rw length-replicate (search rules);
      sectors = All-replicate IsSector c.loop-made._made (replicate 512 0) (filled-IsSector 0 (lit< tt));
    })

pub returns-clause-well_formed : goal.returns-clause-well_formed
returns-clause-well_formed c = invariant_of-result c
