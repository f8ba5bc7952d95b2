-- A command that takes no input, as the arm of its job.
use Rattle.std.proofs.Common.{◌≡◌, ℕ, List, Result, subst, sym}
use Rattle.stair_conf.specs.declared.job.Job.{Job}
use Rattle.stair_command.specs.Devices.{DeviceView, ExecutesWhole}
use Rattle.stair_command.specs.Ending.{TakesNothing}
use Rattle.stair_command.specs.Fault.{status_of}
use Rattle.stair_command.specs.Outside.{SinkView, SourceView, no_source, outside}
use Rattle.stair_command.specs.Program.{Over}
use Rattle.stair_command.specs.declared.fault.Fault.{Fault}
use Rattle.stair_status.specs.declared.status.Status.{Status}
use Rattle.stair_command.proofs.DeviceLaws.{any_source}
use Rattle.stair_engine.specs.Programs.{job_program}

module _ {R W S K : Type 0} (view : DeviceView R W) (source : SourceView S) (sink : SinkView K) (of : Job) (untaken : TakesNothing (job_program of)) where
  pub arm : (done : Result Status Fault) (status : Status) → status ≡ status_of done → (job : Job) → job ≡ of → (s : S) (held later : K) (n : ℕ)
      (x y : R) (watchers left : List W)
      → ((counter : ℕ) → ExecutesWhole view (record { source = no_source; sink = sink }) (job_program of) (Over (status_of done)) (outside tt held counter)
      (outside tt later counter) x y watchers left)
      → ExecutesWhole view (record { source = source; sink = sink }) (job_program job) (Over status) (outside s held n) (outside s later n) x y watchers left
  arm done status is job same s held later n x y watchers left means =
      subst (λ (j : Job). ExecutesWhole view (record { source = source; sink = sink }) (job_program j) (Over status) (outside s held n) (outside s later n) x y watchers left)
      (sym same)
      (any_source view source sink (job_program of) (Over status) held later n n x y watchers left untaken
      (subst (λ (end : Status). ExecutesWhole view (record { source = no_source; sink = sink }) (job_program of) (Over end) (outside tt held n) (outside tt later n) x y watchers left)
      (sym is) (means n)) s)
