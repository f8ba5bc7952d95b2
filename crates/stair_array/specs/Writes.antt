-- What a write of blocks may leave where more slots were cut off than is tolerated.
use Rattle.std.specs.Prelude.{◌≡◌, ◌⊎◌, ℕ, List, None, Some}
use Rattle.stair_rack.specs.Crash.{EachImage}
use Rattle.stair_rack.specs.History.{Happening}
use Rattle.stair_super.specs.Superblock.{Superblock}
use Rattle.stair_member.specs.Current.{IsCurrent}
use Rattle.stair_member.specs.Seats.{Seats}
use Rattle.stair_state.specs.Represents.{Represents}
use Rattle.stair_state.specs.State.{BlocksAre, State}
use Rattle.stair_invariant.specs.SeatSteps.{EachMayDrop}
use Rattle.stair_invariant.specs.Session.{seats_in}
use Rattle.stair_array.specs.Machine.{IsAsItWas, MayBeCut}

-- The rack represents the state before it, the one with the blocks set, or the one with the write in doubt, a word on seats aside.
-- What is current in each image has the seats that the array had, or those that are left where slots were dropped.
pub record IsCutOffIn (first : ℕ) (contents : List (List ℕ)) (s : State) (seats : Seats)
    (h : List Happening) : Type 0 where
  pub state : State
  pub geometry : state.geometry ≡ s.geometry
  pub holds : IsAsItWas s state ⊎ MayBeCut (Some (BlocksAre first contents)) s state
  pub unseated : state.seats ≡ None
  pub stands : Represents state h
  pub marks : EachImage (λ image. (current : Superblock) → IsCurrent s.geometry image current
      → EachMayDrop seats (seats_in current.array)) h
