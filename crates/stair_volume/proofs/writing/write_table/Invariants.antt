-- The entries so far, and zeros after them.
use Rattle.std.proofs.Common.{◌≡◌, ◌-◌, ◌*◌, ◌++◌, length, take}
use Rattle.std.specs.Prelude.{flat_map}
use Rattle.stair_volume.specs.Page.{entry_bytes, heading, zeros}
use Rattle.stair_volume.proofs.writing.write_table.Given as goal

abbrev pub invariant-loop-k : goal.invariant-loop-k
invariant-loop-k l =
    l.bytes ≡ heading (length l.entries) ++ (flat_map entry_bytes (take l.k l.entries) ++ zeros (480 - 32 * l.k))
