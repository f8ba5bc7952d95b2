-- There is no superblock, or it shows an older copy or not.
use Rattle.std.proofs.Common.{refl}
use Rattle.std.proofs.lemmas.Bool.{false≢true}
use Rattle.stair_copies.proofs.CopyLemmas.{is_copy, no_copy, not_behind}
use Rattle.stair_copies.proofs.copies.copy_draw.Goals as goal

pub returns-then-is_behind : goal.returns-then-is_behind
returns-then-is_behind c cell holds =
    is_copy c.args.array.now c.args.slot cell c.args.first.now c.args.second.now c.in-Some.block holds (c.in-Some.ensures cell holds)
    (c.if-is_behind.ensures.0 refl) c.draw.result c.draw.ensures.value

pub returns-else-is_behind : goal.returns-else-is_behind
returns-else-is_behind c cell holds =
    not_behind c.args.array.now c.args.slot cell c.in-Some.block (c.in-Some.ensures cell holds)
    (λ behind. false≢true (c.if-is_behind.ensures.1 behind))

pub returns-in-None : goal.returns-in-None
returns-in-None c cell holds = no_copy c.args.array.now c.args.slot cell (c.in-None.ensures cell holds)
