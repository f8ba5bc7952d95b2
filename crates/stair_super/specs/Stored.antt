-- How a superblock is kept.
use Rattle.stair_super.specs.Superblock.{Superblock, IsSuperblock}
use Rattle.stair_super.specs.declared.block.Super.TheInside.{Inside}

abbrev pub shown : Inside → Superblock
shown a = record { array = a.array; slot = a.slot; joined = a.joined; draw = a.draw }

abbrev pub kept : Superblock → Inside
kept s = record { array = s.array; slot = s.slot; joined = s.joined; draw = s.draw }

abbrev pub IsStored : Inside → Type 0
IsStored a = IsSuperblock (shown a)
