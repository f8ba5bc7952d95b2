-- What a rack, the array of a session and the watchers show of a call.
use Rattle.std.specs.Prelude.{◌≡◌, Bool, List, Result, Ok, Err, length, not, nat_le, ⊤}
use Rattle.stair_rack.specs.Watching.{WatcherView}
use Rattle.stair_watch.specs.WatcherList.{TellsAll}
use Rattle.stair_member.specs.Membership.{IsMembership, Membership}
use Rattle.stair_member.specs.Survey.{Surveys}
use Rattle.stair_member.specs.declared.fault.SurveyFault.{SurveyFault}
use Rattle.stair_array.specs.Creates.{Creates}
use Rattle.stair_array.specs.Promise.{Begun, Closed, DoesStep, Found, Seen, Phase}
use Rattle.stair_command.specs.Action.{Create, Survey}
use Rattle.stair_command.specs.Executes.{Executes}
use Rattle.stair_command.specs.Outside.{Outside, Views}
use Rattle.stair_command.specs.Program.{Program}
use Rattle.stair_command.specs.Rack.{RackView, told_of}
use Rattle.stair_command.specs.Trace.{TraceItem, Did, Stepped, AlongTrace}

pub record DeviceView (R W : Type 0) : Type 0 where
  pub rack : RackView R
  pub watcher : WatcherView W

abbrev pub device_view : {R W : Type 0} → RackView R → WatcherView W → DeviceView R W
device_view rack watcher = record { rack = rack; watcher = watcher }

-- them, at a moment: the rack, how far the session has come, and the watchers that are left
pub record Devices (R W : Type 0) : Type 0 where
  pub rack : R
  pub session : Phase
  pub watchers : List W

abbrev pub devices : {R W : Type 0} → R → Phase → List W → Devices R W
devices rack session watchers = record { rack = rack; session = session; watchers = watchers }

abbrev pub seen_of : {R W : Type 0} → DeviceView R W → Devices R W → Seen
seen_of view x = record { told = told_of view.rack x.rack; session = x.session }

-- a session after an array was looked for
abbrev pub session_after : Result Membership SurveyFault → Phase
session_after (Ok member) = Found member
session_after (Err fault) = Closed

-- a watcher left, or none did: there are fewer
abbrev pub some_left : {W : Type 0} → List W → List W → Bool
some_left old new = not (nat_le (length old) (length new))

abbrev pub SomeLeft : {W : Type 0} → Bool → List W → List W → Type 0
SomeLeft left old new = left ≡ some_left old new

-- what was found of an array keeps the rules of what is known of one
abbrev pub KeepsRules : Phase → Type 0
KeepsRules (Found member) = IsMembership member
KeepsRules _ = ⊤

-- What they show of an item: what was done to an array came so, where nothing was done before in the session, which has then
-- found it or is closed; and a step is what a call of the session's array promises, whose events were told, one after the
-- other, to all that were left, and what it was opened from keeps its rules. An item of another kind leaves them as they were, so
-- no call was made on them.
abbrev pub WorksAll : {R W : Type 0} → DeviceView R W → TraceItem → Devices R W → Devices R W → Type 0
WorksAll view (Did (Create g) outcome) old new =
    Creates g outcome (told_of view.rack old.rack) (told_of view.rack new.rack)
    × (old.session ≡ Begun) × (new.session ≡ Closed) × (new.watchers ≡ old.watchers)
WorksAll view (Did Survey outcome) old new =
    Surveys outcome (told_of view.rack old.rack) (told_of view.rack new.rack)
    × (old.session ≡ Begun) × (new.session ≡ session_after outcome)
    × (new.watchers ≡ old.watchers)
WorksAll view (Stepped step answer events left) old new =
    DoesStep step answer events (seen_of view old) (seen_of view new)
    × TellsAll view.watcher events old.watchers new.watchers
    × SomeLeft left old.watchers new.watchers
    × KeepsRules old.session
WorksAll view _ old new = new ≡ old

-- The call went from this program to that rest, and they bear out the same trace.
pub record ExecutesWith {R W S K : Type 0} (view : DeviceView R W) (streams : Views S K)
    (program rest : Program) (old new : Outside S K) (first last : Devices R W) : Type 0 where
  pub means : Executes streams program rest old new
  pub works : AlongTrace (WorksAll view) means.trace first last

-- A whole call: a session of its own, from its beginning on. What it has of an array in the end is let go.
pub record ExecutesWhole {R W S K : Type 0} (view : DeviceView R W) (streams : Views S K)
    (program rest : Program) (old new : Outside S K) (first last : R) (watchers left : List W) : Type 0
  where
    pub session : Phase
    pub with : ExecutesWith view streams program rest old new (devices first Begun watchers)
        (devices last session left)
