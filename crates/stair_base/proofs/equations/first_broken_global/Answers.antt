-- The first byte that isn't zero is the first broken equation; where each is zero, one number more holds.
use Rattle.std.proofs.Common.{◌∙◌, sym, arith}
use borrow.Author.Count.{below_more}
use Rattle.stair_model.specs.Stripe.{byte_of}
use Rattle.stair_model.specs.Codeword.{IsGlobalEquation}
use Rattle.stair_base.proofs.EquationLaws.{IsFirstBroken-global, column_sum-intermediate, zero_at}
use Rattle.stair_base.proofs.equations.first_broken_global.Goals as goal

pub returns-in-Some-clause-broken : goal.returns-in-Some-clause-broken
returns-in-Some-clause-broken c =
    IsFirstBroken-global _ _ _ _ _ _ c.requires.rows c.loop-l.invariant c.loop-h.invariant.numbers
    (λ q in_sector.
    c.global_sum-sum.ensures q in_sector
    ∙ column_sum-intermediate c.args.geometry.now c.args.stripe.now c.loop-l.l c.loop-h.h q _ c.intermediate_chunk-symbols.ensures in_sector)
    c.in-Some.ensures (omega arith) (omega arith)

pub loop-h-preserved : goal.loop-h-preserved
loop-h-preserved c =
    let g = c.args.geometry.now in
    record {
      classes = c.loop-h.invariant.classes;
      numbers = λ p h in_sector below.
          below_more (λ k. IsGlobalEquation g (byte_of c.args.stripe.now p) c.loop-l.l k) _
          (λ k earlier. c.loop-h.invariant.numbers p k in_sector earlier)
          (sym (column_sum-intermediate g c.args.stripe.now c.loop-l.l c.loop-h.h p _ c.intermediate_chunk-symbols.ensures in_sector)
          ∙ sym (c.global_sum-sum.ensures p in_sector) ∙ zero_at _ p in_sector (c.in_default.ensures p in_sector))
          h below;
    }
