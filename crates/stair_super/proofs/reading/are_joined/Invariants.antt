-- The slots so far.
use Rattle.std.proofs.Common.{ℕ, ◌<◌, get_or}
use Rattle.stair_super.specs.Superblock.{IsJoined}
use Rattle.stair_super.specs.declared.mark.Mark.TheVariants.{Down}
use Rattle.stair_super.proofs.reading.are_joined.Given as goal

abbrev pub invariant-loop-j : goal.invariant-loop-j
invariant-loop-j l = (k : ℕ) → k < l.j → IsJoined (get_or l.marks k Down) (get_or l.joins k 0) l.epoch
