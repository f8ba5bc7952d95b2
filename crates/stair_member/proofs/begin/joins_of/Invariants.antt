-- the joined numbers of the slots so far
use Rattle.std.proofs.Common.{◌≡◌, ◌<◌, ℕ, length, slice_index, slice_index_or}
use Rattle.stair_super.specs.declared.mark.Mark.TheVariants as mark
use Rattle.stair_member.specs.ChangesSteps.{joined_then}
use Rattle.stair_member.proofs.begin.joins_of.Given as goal

abbrev pub invariant-loop-slot : goal.invariant-loop-slot
invariant-loop-slot l =
    (length l.joined ≡ 32)
    × ((j : ℕ) → j < l.slot
    → slice_index l.joined j ≡ joined_then l.aim l.epoch j (slice_index_or l.marks j mark.Down) (slice_index l.joins j))
