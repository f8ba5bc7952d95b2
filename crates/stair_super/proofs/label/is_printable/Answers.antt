-- One byte more.
use Rattle.std.proofs.Common.{ℕ, List, subst, arith}
use Rattle.std.specs.Prelude.{All}
use Rattle.std.proofs.lemmas.List.{take_all}
use Rattle.std.proofs.lemmas.List.Elements.{All-more}
use Rattle.stair_super.specs.Label.{IsPrintable}
use Rattle.stair_super.proofs.label.is_printable.Goals as goal

pub loop-byte-preserved : goal.loop-byte-preserved
loop-byte-preserved c =
    All-more IsPrintable c.args.text.now c.loop-byte.byte-index 0 (omega arith) c.loop-byte.invariant (omega arith, omega arith)

pub returns-clause-yes : goal.returns-clause-yes
returns-clause-yes c = λ _.
    subst (λ (l : List ℕ). All IsPrintable l) (take_all c.loop-byte.byte-index c.args.text.now (omega arith)) c.loop-byte.invariant
