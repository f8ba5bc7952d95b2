-- A step of a session's array, as it is told to watchers.
use Rattle.std.specs.Prelude.{Bool, List}
use Rattle.stair_rack.specs.declared.watcher.Event.{Event}
use Rattle.stair_array.specs.Machine.{Answer, Step}
use Rattle.stair_command.specs.Devices.{DeviceView, Devices, WorksAll}
use Rattle.stair_command.specs.Trace.{Stepped}

-- The step was taken and answered so: with some events, all of which were told.
pub record Takes {R W : Type 0} (view : DeviceView R W) (step : Step) (answer : Answer step)
    (old new : Devices R W) : Type 0 where
  pub events : List Event
  pub left : Bool
  pub works : WorksAll view (Stepped step answer events left) old new
