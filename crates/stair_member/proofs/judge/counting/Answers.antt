-- The superblock names the slot in which it lies, or doesn't.
use Rattle.std.proofs.Common.{◌≡◌, Some, ◌∙◌, sym, arith}
use Rattle.stair_member.specs.JudgeSteps.{newest_at}
use Rattle.stair_member.proofs.JudgeLemmas.{counts_other, counts_some, newest_read}
use Rattle.stair_member.proofs.judge.counting.Goals as goal

pub returns-then-slot : goal.returns-then-slot
returns-then-slot c image shows =
    let is : newest_at c.args.found.now c.args.slot ≡ Some c.in_ok-block.block =
    newest_read c.args.found.now c.from.result c.args.slot _ (Some c.in_ok-block.block) (omega arith) c.requires c.type_inv.found c.in_ok-block.was in
    counts_some c.args.found.now image shows c.args.slot c.requires c.in_ok-block.block is (sym c.slot.ensures.value ∙ c.if-slot.true)

pub returns-else-slot : goal.returns-else-slot
returns-else-slot c image shows =
    let is : newest_at c.args.found.now c.args.slot ≡ Some c.in_ok-block.block =
    newest_read c.args.found.now c.from.result c.args.slot _ (Some c.in_ok-block.block) (omega arith) c.requires c.type_inv.found c.in_ok-block.was in
    counts_other c.args.found.now image shows c.args.slot c.requires c.in_ok-block.block is (λ slot. c.if-slot.false (c.slot.ensures.value ∙ slot))
