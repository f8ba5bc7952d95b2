-- What `create` leaves alone.
use Rattle.std.specs.Prelude.{IsErr, IsTrue, List, Result}
use Rattle.stair_model.specs.Geometry.{Geometry}
use Rattle.stair_rack.specs.History.{Happening}
use Rattle.stair_rack.specs.Moments.{IsMoment}
use Rattle.stair_rack.specs.Stretch.{NothingReturned, NothingWritten}
use Rattle.stair_rack.specs.RackState.{RackState}
use Rattle.stair_array.specs.Creates.{Creates}
use Rattle.stair_state.specs.Represents.{Represents}
use Rattle.stair_state.specs.State.{State, without_seats}
use Rattle.stair_state.specs.Tolerance.{IsTolerated}
use Rattle.stair_array.specs.declared.fault.CreateFault.{CreateFault}

-- The array is within tolerance at every moment before anything is written, in a session that began at `before`. So a call
-- that wrote over the array isn't excused by what it wrote.
abbrev pub ToleratedUnwritten : Geometry → List Happening → List Happening → List Happening → Type 0
ToleratedUnwritten array before old new = (h : List Happening) → IsMoment old h new
    → NothingWritten old h → IsTolerated array before h

-- Where an array, of whatever geometry, is so, and no medium comes back, none is made, and no device is written.
abbrev pub ArraysAreKept : Type 0
ArraysAreKept = (array g : Geometry) (answer : Result (Unit {0}) CreateFault)
    (before : List Happening) (old new : RackState) → IsTrue new.honest → Creates g answer old new
    → NothingReturned old.history new.history
    → ToleratedUnwritten array before old.history new.history
    → IsErr answer × NothingWritten old.history new.history

-- Where the rack represented a state of that array it does at every moment, marks and joined numbers aside.
abbrev pub StatesAreKept : Type 0
StatesAreKept = (s : State) (g : Geometry) (answer : Result (Unit {0}) CreateFault)
    (before : List Happening) (old new : RackState) → IsTrue new.honest → Creates g answer old new
    → Represents s old.history → NothingReturned old.history new.history
    → ToleratedUnwritten s.geometry before old.history new.history
    → (h : List Happening) → IsMoment old.history h new.history → Represents (without_seats s) h
