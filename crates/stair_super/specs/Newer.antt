-- Which of two superblocks is the newer one.
use Rattle.std.specs.Prelude.{◌≡◌, ◌<◌, ◌⊎◌, ◌==◌, ◌&&◌, ◌||◌, Bool, Option, Some, None, nat_lt, if◌then◌else◌}
use Rattle.stair_super.specs.Superblock.{Superblock}

-- by draw, and then by epoch
abbrev pub IsOlder : Superblock → Superblock → Type 0
IsOlder a b = (a.draw < b.draw) ⊎ ((a.draw ≡ b.draw) × (a.array.epoch < b.array.epoch))

-- the same as a test
abbrev pub is_older : Superblock → Superblock → Bool
is_older a b = nat_lt a.draw b.draw || (a.draw == b.draw && nat_lt a.array.epoch b.array.epoch)

-- the newer one of those that there are: the second where the first is older, and else the first
abbrev pub newer_super : Option Superblock → Option Superblock → Option Superblock
newer_super None b = b
newer_super (Some a) None = Some a
newer_super (Some a) (Some b) = if is_older a b then Some b else Some a
