-- It counts for another array.
use Rattle.std.proofs.Common.{◌∙◌}
use Rattle.std.proofs.lemmas.Bool.{false≢true}
use Rattle.stair_member.proofs.JudgeLemmas.{counting_elsewhere}
use Rattle.stair_member.proofs.judge.counting_for.Goals as goal

pub returns-else-is_same : goal.returns-else-is_same
returns-else-is_same c image shows =
    counting_elsewhere c.args.geometry.now image c.args.slot c.in_ok-block.block (c.in_ok-block.ensures image shows)
    (λ same. false≢true (c.if-is_same.ensures.1 (c.geometry.ensures.value ∙ same)))
