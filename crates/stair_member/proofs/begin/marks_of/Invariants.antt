-- the marks of the slots so far
use Rattle.std.proofs.Common.{◌≡◌, ◌<◌, ◌≤◌, ℕ, length, slice_index_or}
use Rattle.stair_super.specs.declared.mark.Mark.TheVariants as mark
use Rattle.stair_member.specs.Aims.{mark_for}
use Rattle.stair_member.specs.declared.why.Why.TheVariants as why
use Rattle.stair_member.proofs.begin.marks_of.Given as goal

abbrev pub invariant-loop-slot : goal.invariant-loop-slot
invariant-loop-slot l =
    (length l.marks ≡ 32)
    × ((j : ℕ) → j < l.slot → slice_index_or l.marks j mark.Down ≡ mark_for (slice_index_or l.whys j why.Here))
    × ((j : ℕ) → l.slot ≤ j → slice_index_or l.marks j mark.Down ≡ mark.Down)
