-- The newer one of what both places hold.
use Rattle.stair_member.proofs.SightLemmas.{newest_of}
use Rattle.stair_copies.proofs.CopyLemmas.{holds_read}
use Rattle.stair_copies.proofs.copies.newest_of.Goals as goal

pub returns : goal.returns
returns c cell holds =
    rw c.newer_of.ensures.value
    (newest_of cell _ _ (holds_read (cell 0) c.args.first.now c.read_super.result holds.in_first c.read_super.ensures.ok c.read_super.ensures.none)
    (holds_read (cell 1) c.args.second.now c.read_super-2.result holds.in_second c.read_super-2.ensures.ok c.read_super-2.ensures.none))
