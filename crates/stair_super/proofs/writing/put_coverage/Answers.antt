-- All entries are written, and zeros after them.
use Rattle.std.proofs.Common.{ℕ, ◌+◌, length, ap, ◌∙◌, arith}
use Rattle.std.proofs.lemmas.List.{length-append}
use Rattle.stair_super.specs.Spelling.{padded}
use Rattle.stair_super.proofs.Parts.{length-padded}
use Rattle.stair_super.proofs.Written.{coverage_put}
use Rattle.stair_super.proofs.writing.put_coverage.Goals as goal

pub returns-clause-text : goal.returns-clause-text
returns-clause-text c =
    c.skip.ensures.text
    ∙ coverage_put c.loop-l.page c.args.page.now c.args.geometry.now.e c.loop-l.l c.from.result c.loop-l.invariant (omega arith) (omega arith)

pub returns-clause-len : goal.returns-clause-len
returns-clause-len c =
    ap length (returns-clause-text c)
    ∙ length-append c.args.page.now (padded c.args.geometry.now.e)
    ∙ ap (λ (n : ℕ). length c.args.page.now + n) (length-padded c.args.geometry.now.e (omega (arith, c.classes.ensures.limits.covered_chunks, c.classes.ensures.limits.devices)))
