-- The seat of a slot: its mark, and the epoch in which its device was admitted.
use Rattle.std.specs.Prelude.{ℕ}
use Rattle.stair_super.specs.Superblock.{Superblock, mark_at, joined_at}
use Rattle.stair_super.specs.declared.mark.Mark.{Mark}

pub record Seat : Type 0 where
  pub mark : Mark
  pub joined : ℕ

-- by slot
abbrev pub Seats : Type 0
Seats = ℕ → Seat

abbrev pub seats_of : Superblock → Seats
seats_of s j = record { mark = mark_at s j; joined = joined_at s j }
