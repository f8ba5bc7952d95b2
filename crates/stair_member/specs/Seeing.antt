-- What a look at a medium that is to be admitted tells a member.
use Rattle.std.specs.Prelude.{◌≡◌, ◌≢◌, ℕ, Option, None, Some, max}
use Rattle.stair_model.specs.Device.{first_place, second_place}
use Rattle.stair_rack.specs.Sector.{Cell}
use Rattle.stair_super.specs.Superblock.{Superblock}
use Rattle.stair_member.specs.Membership.{Membership, place_of}
use Rattle.stair_member.specs.Superblocks.{HoldsThis}
use Rattle.stair_member.specs.Survey.{IsNextPlace}

abbrev pub draw_in : Option Superblock → ℕ
draw_in None = 0
draw_in (Some s) = s.draw

-- The superblock places of slot j hold these: their draws are seen, and the slot's next superblock goes to the place that
-- doesn't hold the newer one. Nothing else is changed.
pub record Sees (j : ℕ) (first second : Option Superblock) (m seen : Membership) : Type 0 where
  pub array : seen.array ≡ m.array
  pub whys : seen.whys ≡ m.whys
  pub drawn : seen.drawn ≡ max (max m.drawn (draw_in first)) (draw_in second)
  pub next : (cell : ℕ → Cell) → HoldsThis (cell first_place) first
      → HoldsThis (cell second_place) second → IsNextPlace cell (place_of seen j)
  pub others : (i : ℕ) → i ≢ j → place_of seen i ≡ place_of m i
