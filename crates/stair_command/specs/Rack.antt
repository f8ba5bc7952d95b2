-- What a rack shows of a call.
use Rattle.std.specs.Prelude.{◌≡◌, ℕ, Bool, List}
use Rattle.stair_rack.specs.History.{Happening}
use Rattle.stair_array.specs.Creates.{Creates}
use Rattle.stair_member.specs.Survey.{Surveys}
use Rattle.stair_rack.specs.RackState.{RackState, rack_state}
use Rattle.stair_rack.specs.declared.rack.Rack.{Ghosts}
use Rattle.stair_command.specs.Action.{Create, Survey}
use Rattle.stair_command.specs.Executes.{Executes}
use Rattle.stair_command.specs.Outside.{Outside, Views}
use Rattle.stair_command.specs.Program.{Program}
use Rattle.stair_command.specs.Trace.{TraceItem, Did, Stepped, AlongTrace}

-- what a rack shows: whether it is honest, its history, and its counts of bad sectors and of gone slots
pub record RackView (R : Type 0) : Type 0 where
  pub honest : Bool
  pub history : R → List Happening
  pub bads : R → ℕ
  pub gones : R → ℕ → ℕ

abbrev pub rack_view : {R : Type 0} → Ghosts R → RackView R
rack_view members =
    record { honest = members.is_honest; history = members.history; bads = members.bads; gones = members.gones }

abbrev pub told_of : {R : Type 0} → RackView R → R → RackState
told_of view rack = rack_state view.honest (view.history rack) (view.bads rack) (view.gones rack)

-- What a rack shows of an item: what was done to an array came so. No step is taken over a rack alone, without the session of an
-- array; and an item of another kind leaves the rack as it was, so no call was made on it.
abbrev pub Works : {R : Type 0} → RackView R → TraceItem → R → R → Type 0
Works view (Did (Create g) outcome) old new = Creates g outcome (told_of view old) (told_of view new)
Works view (Did Survey outcome) old new = Surveys outcome (told_of view old) (told_of view new)
Works view (Stepped step answer events left) old new = ⊥
Works view _ old new = new ≡ old

-- The call went from this program to that rest, and the rack bears out the same trace.
pub record ExecutesOver {R S K : Type 0} (rack : RackView R) (view : Views S K) (program rest : Program)
    (old new : Outside S K) (first last : R) : Type 0 where
  pub means : Executes view program rest old new
  pub works : AlongTrace (Works rack) means.trace first last
