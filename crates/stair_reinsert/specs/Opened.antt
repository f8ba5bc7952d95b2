-- What an opening of an array to which media come back comes to.
use Rattle.std.specs.Prelude.{List, None, ◌≡◌}
use Rattle.stair_rack.specs.History.{Happening}
use Rattle.stair_member.specs.Membership.{Membership}
use Rattle.stair_state.specs.Blocks.{Codewords}
use Rattle.stair_state.specs.State.{Content, State}
use Rattle.stair_invariant.specs.Effects.{Snapshot}
use Rattle.stair_invariant.specs.InSession.{state_with}
use Rattle.stair_invariant.specs.Opening.{IsDecidedAs, opened_with}
use Rattle.stair_invariant.specs.Returning.{KnowsMedia}
use Rattle.stair_invariant.specs.SeatSteps.{EachMayDrop}
use Rattle.stair_invariant.specs.Session.{IsOpenWith, seats_in}

-- A recovery by a member that a survey found opened the array: it holds what the state held before or after the change in doubt, slots
-- of it were dropped at most, and its session knows of all media what it is to know.
pub record IsOpenedAnywhere (s : State) (m : Membership) (before : List Happening) (y : Snapshot)
    : Type 0 where
  pub words : Codewords
  pub content : Content
  pub decided : IsDecidedAs s y.member words content
  pub is_open : IsOpenWith before (opened_with y.member) words y.told.history
  pub knows : KnowsMedia (state_with y.member content None y.member.array) y.member y.told.history
  pub geometry : y.member.array.geometry ≡ s.geometry
  pub seats : EachMayDrop (seats_in m.array) (seats_in y.member.array)
