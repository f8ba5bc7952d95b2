-- So many blocks are free from no block below this one on.
use Rattle.std.proofs.Common.{◌≡◌, ◌-◌}
use Rattle.stair_volume.proofs.RoomLaws.{NoneBelow}
use Rattle.stair_volume.proofs.table.Table.room.Given as goal

abbrev pub invariant-loop-end : goal.invariant-loop-end
invariant-loop-end l = (l.extent.blocks ≡ l.blocks) × NoneBelow l.self l.blocks l.extent.first

abbrev pub decreases-loop-end : goal.decreases-loop-end
decreases-loop-end l = l.self.blocks - l.extent.first
