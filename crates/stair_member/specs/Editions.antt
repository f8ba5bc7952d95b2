-- What the superblocks of one round say, whatever the slot.
use Rattle.std.specs.Prelude.{ℕ}
use Rattle.stair_super.specs.Superblock.{Superblock, joined_in, superblock_of}
use Rattle.stair_super.specs.declared.configuration.Configuration.{Configuration}
use Rattle.stair_member.specs.Membership.{Membership}

-- what an epoch names, and a draw
pub record Edition : Type 0 where
  pub array : Configuration
  pub draw : ℕ

-- the superblock of slot j in this edition
abbrev pub copy_of : Edition → ℕ → Superblock
copy_of e j = superblock_of e.array j (joined_in e.array j) e.draw

-- what a member would write now
abbrev pub edition_of : Membership → Edition
edition_of m = record { array = m.array; draw = m.drawn }
