-- The multiples of the first i symbols are added.
use Rattle.std.proofs.Common.{◌+◌}
use Rattle.stair_gf.specs.Lanes.{AreLanes}
use Rattle.stair_gf.specs.SetsSums.{part_by}
use Rattle.stair_gf.proofs.multiples.two_blocks.Given as goal

abbrev pub invariant-loop-i : goal.invariant-loop-i
invariant-loop-i l =
    AreLanes 64 l.first (λ k. part_by l.symbols l.from l.by l.factor (l.start + k) l.i)
    × AreLanes 64 l.second (λ k. part_by l.symbols l.from l.by l.factor (l.start + 64 + k) l.i)
