-- The counts so far were written.
use Rattle.std.proofs.Common.{take, codes, ◌++◌}
use Rattle.std.specs.Prelude.{flat_map}
use Rattle.std.specs.Fmt.{HasWritten, IsPlainFormatter, decimal}
use Rattle.stair_status.proofs.lists.ListedCountsDisplay.fmt.Given as goal

abbrev pub invariant-loop-count : goal.invariant-loop-count
invariant-loop-count g l =
    IsPlainFormatter l.initial.f → HasWritten g.W.Write.write_str_gives l.initial.f (flat_map (λ count. codes " " ++ decimal count) (take l.count-index l.count-items)) l.f
