-- What a call makes of the volumes of an array.
use Rattle.std.specs.Prelude.{◌≡◌, ℕ, List, drop, take}
use Rattle.std.specs.List.{concat}
use Rattle.stair_model.specs.Geometry.{IsWithinLimits, block_count}
use Rattle.stair_rack.specs.Crash.{EachImage}
use Rattle.stair_rack.specs.History.{Happening}
use Rattle.stair_state.specs.Blocks.{Blocks}
use Rattle.stair_state.specs.State.{State}
use Rattle.stair_invariant.specs.Returning.{Returning, StandsForAlone}
use Rattle.stair_array.specs.Promise.{Begun}
use Rattle.stair_conf.specs.declared.job.VolumeJob.{VolumeJob}
use Rattle.stair_command.specs.Devices.{DeviceView, ExecutesWhole, devices}
use Rattle.stair_command.specs.Outside.{Outside, Views}
use Rattle.stair_command.specs.Program.{Over}
use Rattle.stair_command.specs.Run.{IsRun, IsSafe}
use Rattle.stair_command.specs.Trace.{put_in, taken_in}
use Rattle.stair_status.specs.declared.status.Status.{Status}
use Rattle.stair_status.specs.declared.status.Status.TheVariants.{Done}
use Rattle.stair_volume.specs.Volumes.{Goes, HasVolumes, IsAmong, IsFinished, IsSettled, Volume}
use Rattle.stair_engine.specs.Programs.{program_of}

-- This holds along each trace that the call follows, from a state of an array. At the end of a run of the machine the
-- volumes are those that the command may leave; if it was done, they are those that it is to make. If a crash cuts the
-- run, each image that it leaves represents a state with volumes that the command may leave.
abbrev pub ChangesVolumes : {R W S K : Type 0} → VolumeJob → DeviceView R W → Views S K
    → List (List ℕ) → Status → Outside S K → Outside S K → R → R → List W → List W → Type 0
ChangesVolumes job view streams words status old new first last watchers left =
    (whole : ExecutesWhole view streams (program_of words) (Over status) old new first last watchers left)
    (returning : Returning) (s : State) → IsWithinLimits s.geometry
    → ((run : IsRun view returning (view.rack.history first) s whole.with.means.trace
    (devices first Begun watchers) (devices last whole.session left))
    → Goes job (taken_in whole.with.means.trace) s run.state
    × (status ≡ Done
    → IsFinished job (taken_in whole.with.means.trace) (put_in whole.with.means.trace) s run.state))
    × ((c : List Happening) (safe : IsSafe view returning (view.rack.history first) s (program_of words)
    whole.with.means.trace (devices first Begun watchers) (devices last whole.session left) c)
    → EachImage (λ image. (state : State) × StandsForAlone returning state image
    × Goes job (taken_in safe.done) s state) c)

-- An array of `count` blocks with this content has volume `v` under this name.
pub record HoldsVolume (count : ℕ) (held : Blocks) (name : List ℕ) (v : Volume) : Type 0 where
  pub volumes : List Volume
  pub has : HasVolumes count held volumes
  pub among : IsAmong volumes name v

-- A read of a volume that is done puts out these bytes of the volume. They depend only on the volume: two arrays that
-- hold the same volume are read alike. The volume is the one that the array holds as it is opened, with the change in
-- doubt made or not.
abbrev pub ReadsAlike : {R W S K : Type 0} → (name : List ℕ) → (block count : ℕ) → DeviceView R W
    → Views S K → List (List ℕ) → Status → Outside S K → Outside S K → R → R → List W → List W → Type 0
ReadsAlike name block count view streams words status old new first last watchers left =
    (whole : ExecutesWhole view streams (program_of words) (Over status) old new first last watchers left)
    (returning : Returning) (s : State) → IsWithinLimits s.geometry
    → IsRun view returning (view.rack.history first) s whole.with.means.trace
    (devices first Begun watchers) (devices last whole.session left)
    → status ≡ Done
    → (held : Blocks) × IsSettled s held
    × ((v : Volume) → HoldsVolume (block_count s.geometry) held name v
    → put_in whole.with.means.trace ≡ concat (take count (drop block v.blocks)))
