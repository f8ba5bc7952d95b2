-- One zero symbol more.
use Rattle.std.proofs.Common.{List, ℕ, arith, replicate, lit<}
use Rattle.std.proofs.lemmas.List.{length-replicate, replicate-append-replicate}
use Rattle.std.proofs.lemmas.List.Elements.{All-replicate}
use Rattle.stair_model.specs.Stripe.{IsSector}
use Rattle.stair_model.proofs.StripeLaws.{filled-IsSector}
use Rattle.stair_mds.proofs.symbols.Symbols.new.Goals as goal

pub loop-made-preserved : goal.loop-made-preserved
loop-made-preserved c =
    rw (c.in_ok-push.ensures.items, c.loop-made.invariant) (replicate-append-replicate c.loop-made._made 1 (replicate 512 0))

pub invariant_of-result : goal.invariant_of-result
invariant_of-result c = rw c.loop-made.invariant (record {
  sectors = All-replicate IsSector c.loop-made._made (replicate 512 0) (filled-IsSector 0 (lit< tt));
  few = omega (arith, length-replicate {A = List ℕ} c.loop-made._made (replicate 512 0), c.ranges.count);
})
