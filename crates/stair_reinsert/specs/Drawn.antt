-- A draw for an epoch, as a slot was given one before a superblock of that epoch is written.
use Rattle.std.specs.Prelude.{◌≡◌, ◌<◌, ◌≤◌, ℕ, List}
use Rattle.stair_rack.specs.History.{Happening}
use Rattle.stair_super.specs.Superblock.{Superblock}
use Rattle.stair_member.specs.Epochs.{HasGot}
use Rattle.stair_member.specs.Membership.{Membership}

-- Slot j was given a draw for this epoch: a superblock of its own with at least this draw, which names the member's epoch or a
-- later one, landed in a place of it, and lies there synced since, but for the outside.
pub record WasDrawn (m : Membership) (epoch : ℕ) (old h : List Happening) (j : ℕ) : Type 0 where
  pub super : Superblock
  pub own : super.slot ≡ j
  pub draw : epoch ≤ super.draw
  pub names : m.array.epoch ≤ super.array.epoch
  pub place : ℕ
  pub place_in : place < 2
  pub got : HasGot old h j place super
