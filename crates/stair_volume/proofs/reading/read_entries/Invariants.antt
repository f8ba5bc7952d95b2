-- The entries so far are those that the bytes hold.
use Rattle.std.proofs.Common.{◌≡◌, length}
use Rattle.stair_volume.specs.Page.{HasEntries}
use Rattle.stair_volume.proofs.reading.read_entries.Given as goal

abbrev pub invariant-loop-k : goal.invariant-loop-k
invariant-loop-k l = HasEntries l.bytes l.k l.entries × (length l.entries ≡ 15)
