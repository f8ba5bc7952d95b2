-- What an array keeps over a call that changes nothing of it.
use Rattle.std.specs.Prelude.{List}
use Rattle.stair_rack.specs.Answers.{Ran, any_call}
use Rattle.stair_rack.specs.History.{Happening}
use Rattle.stair_rack.specs.Moments.{IsMoment}
use Rattle.stair_rack.specs.Stretch.{NothingReturned}
use Rattle.stair_state.specs.Represents.{Represents}
use Rattle.stair_state.specs.State.{State, without_seats}
use Rattle.stair_state.specs.Tolerance.{IsTolerated}
use Rattle.stair_invariant.specs.Returning.{Returning, StandsFor}
use Rattle.stair_command.specs.Sure.{StaysWithinToleranceBetween}

-- If the rack represented a state, no medium was reinserted, and failures are within tolerance, it still represents the
-- state, except for marks and joined numbers.
abbrev pub StandsAt : List Happening → List Happening → Type 0
StandsAt old moment = (s : State) (before : List Happening) → Represents s old
    → NothingReturned old moment → IsTolerated s.geometry before moment
    → Represents (without_seats s) moment

-- The rack represents the array at the end, and at every moment.
pub record ArrayStands (old new : List Happening) : Type 0 where
  pub runs : StandsAt old new
  pub moments : (moment : List Happening) → IsMoment old moment new → StandsAt old moment

-- The rack is an array in a state, and failures stay within tolerance since the session began, whether media are
-- reinserted or not.
pub record StandsThroughout (returning : Returning) (old new : List Happening) : Type 0 where
  pub state : State
  pub before : List Happening
  pub since : Ran any_call before old
  pub stands : StandsFor returning state old
  pub calm : StaysWithinToleranceBetween returning state.geometry before old new
