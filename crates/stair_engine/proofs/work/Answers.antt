-- What was done is the program of the job.
use Rattle.std.proofs.Common.{◌≡◌, None, Some, Result, Ok, Err, refl, subst, sym}
use Rattle.std.specs.Prelude.{MatchResult}
use Rattle.stair_model.specs.Geometry.{Geometry}
use Rattle.stair_conf.specs.declared.job.Job.{Job}
use Rattle.stair_command.specs.Fault.{status_of, status_of_fault}
use Rattle.stair_command.specs.Executes.{Executes}
use Rattle.stair_command.specs.Outside.{outside, sink_alone, views}
use Rattle.stair_conf.specs.declared.job.Job.TheVariants.{Create, Exercise, Freeze, Label, Plan, Read, Rebuild, Replace, Report, Scrub, Show, Thaw}
use Rattle.stair_command.specs.Devices.{ExecutesWhole, device_view}
use Rattle.stair_command.proofs.DeviceLaws.{any_source, calls_once, with_once}
use Rattle.stair_engine.specs.Blocks.{read_program, write_program}
use Rattle.stair_engine.proofs.ArmLaws.{arm}
use Rattle.stair_engine.proofs.JobLaws.{job_once, job_untaken}
use Rattle.stair_command.specs.Program.{Over}
use Rattle.stair_engine.proofs.ReportLaws.{report_calls_none}
use Rattle.stair_engine.specs.Scripts.{guard_program, run_program}
use Rattle.stair_engine.specs.Serving.{serve_program}
use Rattle.stair_monitor.specs.Reports.{report_program}
use Rattle.stair_engine.specs.Programs.{costs_program, create_program, job_program, planning_program, show_program, stripe_program, tested_program, within_limits}
use Rattle.stair_command.specs.Question.{Limits}
use Rattle.stair_command.specs.Rack.{ExecutesOver, rack_view}
use Rattle.stair_engine.specs.Task.{one_stripe}
use Rattle.stair_engine.specs.Volumes.{volumes_program}
use Rattle.stair_command.specs.declared.fault.Fault.{Fault}
use Rattle.stair_status.specs.declared.status.Status.{Status}
use Rattle.stair_status.specs.declared.status.Status.TheVariants.{Limit}
use Rattle.stair_engine.proofs.StepLaws.{shows}
use Rattle.stair_engine.proofs.work.Goals as goal
use Rattle.stair_command.proofs.ProgramLaws.{and_then, finds}
use Rattle.stair_command.proofs.RackLaws.{over_still}
use Rattle.stair_engine.proofs.StripeLaws.{stripe_calls_none}
use Rattle.stair_engine.proofs.VolumesLaws.{costs_call_none}

status_is : (status : Status) (done : Result Status Fault) → MatchResult done (λ answer. status ≡ answer) (λ fault. status ≡ status_of_fault fault)
    → status ≡ status_of done
status_is status (Ok answer) is = is
status_is status (Err fault) is = is

pub returns-in-Ok-clause-means : goal.returns-in-Ok-clause-means
returns-in-Ok-clause-means g c =
    let view = views g.S.Source g.K.Sink in
    let rack = rack_view g.R.Rack in
    let devices = device_view rack (λ b. (goal.Watcher-dyn g (b.vtable, b.value)).hears b.value) in
    let o = c.in-OneStripe in
    let of = one_stripe o.n o.m o.r o.e in
    let status = c.unwrap_or_else.result in
    let is : status ≡ status_of c.run-done.result = status_is _ c.run-done.result c.unwrap_or_else.ensures in
    let old = outside c.args.input.now c.args.output.now c.args.steps.now in
    let new = outside c.run-done.new.input c.run-done.new.output c.run-done.new.steps in
    let ran : Executes view (stripe_program o.command of) (Over status) old new =
    subst (λ (k : Geometry). Executes view (stripe_program o.command k) (Over status) old new) c.in-Ok.ensures.ok
    (subst (λ (s : Status). Executes view (stripe_program o.command c.in-Ok.geometry) (Over s) old new) (sym is) c.run-done.ensures)
    in
    subst (λ (job : Job). ExecutesWhole devices view (job_program job) (Over status) old new c.args.rack.now c.args.rack.now c.args.watchers.now.items c.args.watchers.now.items) (sym o.is)
    (with_once devices view (tested_program o.command of) (Over status) old new c.args.rack.now c.args.rack.now c.args.watchers.now.items
    (calls_once (tested_program o.command of) (stripe_calls_none o.command of))
    (over_still rack view (tested_program o.command of) (Over status) old new c.args.rack.now (stripe_calls_none o.command of)
    (and_then view
    (finds view (Limits of) (within_limits (stripe_program o.command of)) None _ _ _ _ c.in-Ok.ensures.within refl) ran)))

pub returns-in-OneStripe-clause-means : goal.returns-in-OneStripe-clause-means
returns-in-OneStripe-clause-means g c =
    let view = views g.S.Source g.K.Sink in
    let rack = rack_view g.R.Rack in
    let devices = device_view rack (λ b. (goal.Watcher-dyn g (b.vtable, b.value)).hears b.value) in
    let o = c.in-OneStripe in
    let of = one_stripe o.n o.m o.r o.e in
    let old = outside c.args.input.now c.args.output.now c.args.steps.now in
    subst (λ (job : Job). ExecutesWhole devices view (job_program job) (Over (Limit c.in-Err.fault.limit)) old old c.args.rack.now c.args.rack.now c.args.watchers.now.items c.args.watchers.now.items) (sym o.is)
    (with_once devices view (tested_program o.command of) (Over (Limit c.in-Err.fault.limit)) old old c.args.rack.now c.args.rack.now
    c.args.watchers.now.items (calls_once (tested_program o.command of) (stripe_calls_none o.command of))
    (over_still rack view (tested_program o.command of) (Over (Limit c.in-Err.fault.limit)) old old c.args.rack.now (stripe_calls_none o.command of)
    (finds view (Limits of) (within_limits (stripe_program o.command of)) (Some _) _ _ _ _ c.in-Err.ensures.broken refl)))

pub returns-in-Create-clause-means : goal.returns-in-Create-clause-means
returns-in-Create-clause-means g c =
    let view = views g.S.Source g.K.Sink in
    let rack = rack_view g.R.Rack in
    let devices = device_view rack (λ b. (goal.Watcher-dyn g (b.vtable, b.value)).hears b.value) in
    let status = c.unwrap_or_else-in-Create.result in
    let is : status ≡ status_of c.create.result = status_is _ c.create.result c.unwrap_or_else-in-Create.ensures in
    let old = outside c.args.input.now c.args.output.now c.args.steps.now in
    let new = outside c.create.new.input c.create.new.output c.args.steps.now in
    subst (λ (job : Job). ExecutesWhole devices view (job_program job) (Over status) old new c.args.rack.now c.create.new.rack c.args.watchers.now.items c.args.watchers.now.items) (sym c.in-Create.is)
    (with_once devices view create_program (Over status) old new c.args.rack.now c.create.new.rack c.args.watchers.now.items (job_once Create (λ no. no))
    (subst (λ (s : Status). ExecutesOver rack view create_program (Over s) old new c.args.rack.now c.create.new.rack) (sym is)
    (c.create.ensures c.args.steps.now)))

pub returns-in-Show-clause-means : goal.returns-in-Show-clause-means
returns-in-Show-clause-means g c =
    let view = views g.S.Source g.K.Sink in
    let rack = rack_view g.R.Rack in
    let devices = device_view rack (λ b. (goal.Watcher-dyn g (b.vtable, b.value)).hears b.value) in
    let status = c.unwrap_or_else-in-Show.result in
    let is : status ≡ status_of c.show.result = status_is _ c.show.result c.unwrap_or_else-in-Show.ensures in
    let old = outside c.args.input.now c.args.output.now c.args.steps.now in
    let new = outside c.args.input.now c.show.new.output c.args.steps.now in
    subst (λ (job : Job). ExecutesWhole devices view (job_program job) (Over status) old new c.args.rack.now c.show.new.rack c.args.watchers.now.items c.args.watchers.now.items) (sym c.in-Show.is)
    (with_once devices view show_program (Over status) old new c.args.rack.now c.show.new.rack c.args.watchers.now.items (job_once Show (λ no. no))
    (subst (λ (s : Status). ExecutesOver rack view show_program (Over s) old new c.args.rack.now c.show.new.rack) (sym is)
    (shows rack view c.show.result _ _ _ _ _ _ c.show.ensures)))

pub returns-in-Read-clause-means : goal.returns-in-Read-clause-means
returns-in-Read-clause-means g c =
    let view = views g.S.Source g.K.Sink in
    let rack = rack_view g.R.Rack in
    let devices = device_view rack (λ b. (goal.Watcher-dyn g (b.vtable, b.value)).hears b.value) in
    let job = c.in-Read in
    let status = c.unwrap_or_else-in-Read.result in
    let is : status ≡ status_of c.read-done.result = status_is _ c.read-done.result c.unwrap_or_else-in-Read.ensures in
    let old = outside c.args.input.now c.args.output.now c.args.steps.now in
    let new = outside c.args.input.now c.read-done.new.output c.args.steps.now in
    subst (λ (of : Job). ExecutesWhole devices view (job_program of) (Over status) old new c.args.rack.now c.read-done.new.rack c.args.watchers.now.items c.read-done.new.watchers.items)
    (sym job.is)
    (any_source devices view.source view.sink (read_program job.block job.count) (Over status) c.args.output.now c.read-done.new.output c.args.steps.now c.args.steps.now
    c.args.rack.now c.read-done.new.rack c.args.watchers.now.items c.read-done.new.watchers.items (job_untaken (Read job.block job.count) (λ no. no))
    (subst (λ (s : Status). ExecutesWhole devices (sink_alone g.K.Sink) (read_program job.block job.count) (Over s)
    (outside tt c.args.output.now c.args.steps.now) (outside tt c.read-done.new.output c.args.steps.now) c.args.rack.now c.read-done.new.rack
    c.args.watchers.now.items c.read-done.new.watchers.items) (sym is) (c.read-done.ensures.means c.args.steps.now))
    c.args.input.now)

pub returns-in-Write-clause-means : goal.returns-in-Write-clause-means
returns-in-Write-clause-means g c =
    let view = views g.S.Source g.K.Sink in
    let rack = rack_view g.R.Rack in
    let devices = device_view rack (λ b. (goal.Watcher-dyn g (b.vtable, b.value)).hears b.value) in
    let job = c.in-Write in
    let status = c.unwrap_or_else-in-Write.result in
    let is : status ≡ status_of c.write-done.result = status_is _ c.write-done.result c.unwrap_or_else-in-Write.ensures in
    let old = outside c.args.input.now c.args.output.now c.args.steps.now in
    let new = outside c.write-done.new.input c.write-done.new.output c.args.steps.now in
    subst (λ (of : Job). ExecutesWhole devices view (job_program of) (Over status) old new c.args.rack.now c.write-done.new.rack c.args.watchers.now.items c.write-done.new.watchers.items)
    (sym job.is)
    (subst (λ (s : Status). ExecutesWhole devices view (write_program job.block job.count) (Over s) old new c.args.rack.now c.write-done.new.rack
    c.args.watchers.now.items c.write-done.new.watchers.items) (sym is) (c.write-done.ensures.means c.args.steps.now))

pub returns-in-Run-clause-means : goal.returns-in-Run-clause-means
returns-in-Run-clause-means g c =
    let view = views g.S.Source g.K.Sink in
    let rack = rack_view g.R.Rack in
    let devices = device_view rack (λ b. (goal.Watcher-dyn g (b.vtable, b.value)).hears b.value) in
    let status = c.unwrap_or_else-in-Run.result in
    let is : status ≡ status_of c.run_script-done.result = status_is _ c.run_script-done.result c.unwrap_or_else-in-Run.ensures in
    let old = outside c.args.input.now c.args.output.now c.args.steps.now in
    let new = outside c.run_script-done.new.input c.run_script-done.new.output c.args.steps.now in
    subst (λ (of : Job). ExecutesWhole devices view (job_program of) (Over status) old new c.args.rack.now c.run_script-done.new.rack c.args.watchers.now.items c.run_script-done.new.watchers.items)
    (sym c.in-Run.is)
    (subst (λ (s : Status). ExecutesWhole devices view run_program (Over s) old new c.args.rack.now c.run_script-done.new.rack
    c.args.watchers.now.items c.run_script-done.new.watchers.items) (sym is) (c.run_script-done.ensures.means c.args.steps.now))

pub returns-in-Guard-clause-means : goal.returns-in-Guard-clause-means
returns-in-Guard-clause-means g c =
    let view = views g.S.Source g.K.Sink in
    let rack = rack_view g.R.Rack in
    let devices = device_view rack (λ b. (goal.Watcher-dyn g (b.vtable, b.value)).hears b.value) in
    let status = c.unwrap_or_else-in-Guard.result in
    let is : status ≡ status_of c.run_script-done-in-Guard.result = status_is _ c.run_script-done-in-Guard.result c.unwrap_or_else-in-Guard.ensures in
    let old = outside c.args.input.now c.args.output.now c.args.steps.now in
    let new = outside c.run_script-done-in-Guard.new.input c.run_script-done-in-Guard.new.output c.args.steps.now in
    subst (λ (of : Job). ExecutesWhole devices view (job_program of) (Over status) old new c.args.rack.now c.run_script-done-in-Guard.new.rack c.args.watchers.now.items c.run_script-done-in-Guard.new.watchers.items)
    (sym c.in-Guard.is)
    (subst (λ (s : Status). ExecutesWhole devices view guard_program (Over s) old new c.args.rack.now c.run_script-done-in-Guard.new.rack
    c.args.watchers.now.items c.run_script-done-in-Guard.new.watchers.items) (sym is) (c.run_script-done-in-Guard.ensures.means c.args.steps.now))

pub returns-in-Report-clause-means : goal.returns-in-Report-clause-means
returns-in-Report-clause-means g c =
    let view = views g.S.Source g.K.Sink in
    let rack = rack_view g.R.Rack in
    let devices = device_view rack (λ b. (goal.Watcher-dyn g (b.vtable, b.value)).hears b.value) in
    let status = c.reported.result in
    let old = outside c.args.input.now c.args.output.now c.args.steps.now in
    let new = outside c.report.new.input c.report.new.output c.args.steps.now in
    subst (λ (of : Job). ExecutesWhole devices view (job_program of) (Over status) old new c.args.rack.now c.args.rack.now c.args.watchers.now.items c.args.watchers.now.items)
    (sym c.in-Report.is)
    (with_once devices view report_program (Over status) old new c.args.rack.now c.args.rack.now c.args.watchers.now.items (job_once Report (λ no. no))
    (over_still rack view report_program (Over status) old new c.args.rack.now report_calls_none
    (subst (λ (s : Status). Executes view report_program (Over s) old new) (sym c.reported.ensures) (c.report.ensures c.args.steps.now))))

pub returns-in-Scrub-clause-means : goal.returns-in-Scrub-clause-means
returns-in-Scrub-clause-means g c =
    let rack = rack_view g.R.Rack in
    let view = views g.S.Source g.K.Sink in
    arm (device_view rack (λ b. (goal.Watcher-dyn g (b.vtable, b.value)).hears b.value)) view.source view.sink Scrub (job_untaken Scrub (λ no. no)) c.scrub.result c.unwrap_or_else-in-Scrub.result
    (status_is _ c.scrub.result c.unwrap_or_else-in-Scrub.ensures) _ c.in-Scrub.is c.args.input.now c.args.output.now c.scrub.new.output c.args.steps.now
    c.args.rack.now c.scrub.new.rack c.args.watchers.now.items c.scrub.new.watchers.items c.scrub.ensures.means

pub returns-in-Replace-clause-means : goal.returns-in-Replace-clause-means
returns-in-Replace-clause-means g c =
    let rack = rack_view g.R.Rack in
    let view = views g.S.Source g.K.Sink in
    arm (device_view rack (λ b. (goal.Watcher-dyn g (b.vtable, b.value)).hears b.value)) view.source view.sink (Replace c.in-Replace.slot) (job_untaken (Replace c.in-Replace.slot) (λ no. no)) c.replace-done.result c.unwrap_or_else-in-Replace.result
    (status_is _ c.replace-done.result c.unwrap_or_else-in-Replace.ensures) _ c.in-Replace.is c.args.input.now c.args.output.now c.replace-done.new.output c.args.steps.now
    c.args.rack.now c.replace-done.new.rack c.args.watchers.now.items c.replace-done.new.watchers.items c.replace-done.ensures.means

pub returns-in-Rebuild-clause-means : goal.returns-in-Rebuild-clause-means
returns-in-Rebuild-clause-means g c =
    let rack = rack_view g.R.Rack in
    let view = views g.S.Source g.K.Sink in
    arm (device_view rack (λ b. (goal.Watcher-dyn g (b.vtable, b.value)).hears b.value)) view.source view.sink Rebuild (job_untaken Rebuild (λ no. no)) c.rebuild.result c.unwrap_or_else-in-Rebuild.result
    (status_is _ c.rebuild.result c.unwrap_or_else-in-Rebuild.ensures) _ c.in-Rebuild.is c.args.input.now c.args.output.now c.rebuild.new.output c.args.steps.now
    c.args.rack.now c.rebuild.new.rack c.args.watchers.now.items c.rebuild.new.watchers.items c.rebuild.ensures.means

pub returns-in-Freeze-clause-means : goal.returns-in-Freeze-clause-means
returns-in-Freeze-clause-means g c =
    let rack = rack_view g.R.Rack in
    let view = views g.S.Source g.K.Sink in
    arm (device_view rack (λ b. (goal.Watcher-dyn g (b.vtable, b.value)).hears b.value)) view.source view.sink Freeze (job_untaken Freeze (λ no. no)) c.freeze.result c.unwrap_or_else-in-Freeze.result
    (status_is _ c.freeze.result c.unwrap_or_else-in-Freeze.ensures) _ c.in-Freeze.is c.args.input.now c.args.output.now c.freeze.new.output c.args.steps.now
    c.args.rack.now c.freeze.new.rack c.args.watchers.now.items c.freeze.new.watchers.items c.freeze.ensures.means

pub returns-in-Thaw-clause-means : goal.returns-in-Thaw-clause-means
returns-in-Thaw-clause-means g c =
    let rack = rack_view g.R.Rack in
    let view = views g.S.Source g.K.Sink in
    arm (device_view rack (λ b. (goal.Watcher-dyn g (b.vtable, b.value)).hears b.value)) view.source view.sink Thaw (job_untaken Thaw (λ no. no)) c.thaw.result c.unwrap_or_else-in-Thaw.result
    (status_is _ c.thaw.result c.unwrap_or_else-in-Thaw.ensures) _ c.in-Thaw.is c.args.input.now c.args.output.now c.thaw.new.output c.args.steps.now
    c.args.rack.now c.thaw.new.rack c.args.watchers.now.items c.thaw.new.watchers.items c.thaw.ensures.means

pub returns-in-Label-clause-means : goal.returns-in-Label-clause-means
returns-in-Label-clause-means g c =
    let rack = rack_view g.R.Rack in
    let view = views g.S.Source g.K.Sink in
    arm (device_view rack (λ b. (goal.Watcher-dyn g (b.vtable, b.value)).hears b.value)) view.source view.sink (Label c.in-Label.text) (job_untaken (Label c.in-Label.text) (λ no. no)) c.label-done.result c.unwrap_or_else-in-Label.result
    (status_is _ c.label-done.result c.unwrap_or_else-in-Label.ensures) _ c.in-Label.is c.args.input.now c.args.output.now c.label-done.new.output c.args.steps.now
    c.args.rack.now c.label-done.new.rack c.args.watchers.now.items c.label-done.new.watchers.items c.label-done.ensures.means

pub returns-in-Exercise-clause-means : goal.returns-in-Exercise-clause-means
returns-in-Exercise-clause-means g c =
    let rack = rack_view g.R.Rack in
    let view = views g.S.Source g.K.Sink in
    let of = Exercise c.in-Exercise.number c.in-Exercise.count in
    arm (device_view rack (λ b. (goal.Watcher-dyn g (b.vtable, b.value)).hears b.value)) view.source view.sink of (job_untaken of (λ no. no)) c.exercise-done.result c.unwrap_or_else-in-Exercise.result
    (status_is _ c.exercise-done.result c.unwrap_or_else-in-Exercise.ensures) _ c.in-Exercise.is c.args.input.now c.args.output.now
    c.exercise-done.new.output c.args.steps.now c.args.rack.now c.exercise-done.new.rack c.args.watchers.now.items c.exercise-done.new.watchers.items
    c.exercise-done.ensures.means

pub returns-in-Serve-clause-means : goal.returns-in-Serve-clause-means
returns-in-Serve-clause-means g c =
    let view = views g.S.Source g.K.Sink in
    let rack = rack_view g.R.Rack in
    let devices = device_view rack (λ b. (goal.Watcher-dyn g (b.vtable, b.value)).hears b.value) in
    let status = c.unwrap_or_else-in-Serve.result in
    let is : status ≡ status_of c.serve-done.result = status_is _ c.serve-done.result c.unwrap_or_else-in-Serve.ensures in
    let old = outside c.args.input.now c.args.output.now c.args.steps.now in
    let new = outside c.serve-done.new.input c.serve-done.new.output c.args.steps.now in
    subst (λ (of : Job). ExecutesWhole devices view (job_program of) (Over status) old new c.args.rack.now c.serve-done.new.rack c.args.watchers.now.items c.serve-done.new.watchers.items)
    (sym c.in-Serve.is)
    (subst (λ (s : Status). ExecutesWhole devices view serve_program (Over s) old new c.args.rack.now c.serve-done.new.rack
    c.args.watchers.now.items c.serve-done.new.watchers.items) (sym is) (c.serve-done.ensures.means c.args.steps.now))

pub returns-in-Volume-clause-means : goal.returns-in-Volume-clause-means
returns-in-Volume-clause-means g c =
    let view = views g.S.Source g.K.Sink in
    let rack = rack_view g.R.Rack in
    let devices = device_view rack (λ b. (goal.Watcher-dyn g (b.vtable, b.value)).hears b.value) in
    let of = c.in-Volume.volume in
    let status = c.unwrap_or_else-in-Volume.result in
    let is : status ≡ status_of c.volumes-done.result = status_is _ c.volumes-done.result c.unwrap_or_else-in-Volume.ensures in
    let old = outside c.args.input.now c.args.output.now c.args.steps.now in
    let new = outside c.volumes-done.new.input c.volumes-done.new.output c.args.steps.now in
    subst (λ (job : Job). ExecutesWhole devices view (job_program job) (Over status) old new c.args.rack.now c.volumes-done.new.rack c.args.watchers.now.items c.volumes-done.new.watchers.items)
    (sym c.in-Volume.is)
    (subst (λ (s : Status). ExecutesWhole devices view (volumes_program of) (Over s) old new c.args.rack.now c.volumes-done.new.rack
    c.args.watchers.now.items c.volumes-done.new.watchers.items) (sym is) (c.volumes-done.ensures.means c.args.steps.now))

pub returns-in-Ok-one_stripe-clause-means : goal.returns-in-Ok-one_stripe-clause-means
returns-in-Ok-one_stripe-clause-means g c =
    let view = views g.S.Source g.K.Sink in
    let rack = rack_view g.R.Rack in
    let devices = device_view rack (λ b. (goal.Watcher-dyn g (b.vtable, b.value)).hears b.value) in
    let o = c.in-Plan in
    let of = one_stripe o.n o.m o.r o.e in
    let job = Plan o.n o.m o.r o.e in
    let alone = sink_alone g.K.Sink in
    let done = c.tell_costs-done.result in
    let later = c.tell_costs-done.new.output in
    arm devices view.source view.sink job (job_untaken job (λ no. no)) done c.unwrap_or_else-in-Ok-one_stripe.result
    (status_is _ done c.unwrap_or_else-in-Ok-one_stripe.ensures) _ o.is c.args.input.now c.args.output.now later c.args.steps.now
    c.args.rack.now c.args.rack.now c.args.watchers.now.items c.args.watchers.now.items
    (λ counter.
    let old = outside tt c.args.output.now counter in
    let new = outside tt later counter in
    with_once devices alone (planning_program of) (Over (status_of done)) old new c.args.rack.now c.args.rack.now c.args.watchers.now.items
    (job_once job (λ no. no))
    (over_still rack alone (planning_program of) (Over (status_of done)) old new c.args.rack.now (costs_call_none of)
    (and_then alone (finds alone (Limits of) (within_limits (costs_program of)) None _ _ _ _ c.in-Ok-one_stripe.ensures.within refl)
    (subst (λ (k : Geometry). Executes alone (costs_program k) (Over (status_of done)) old new) c.in-Ok-one_stripe.ensures.ok (c.tell_costs-done.ensures counter)))))

pub returns-clause-means : goal.returns-clause-means
returns-clause-means g c =
    let view = views g.S.Source g.K.Sink in
    let rack = rack_view g.R.Rack in
    let devices = device_view rack (λ b. (goal.Watcher-dyn g (b.vtable, b.value)).hears b.value) in
    let o = c.in-Plan in
    let of = one_stripe o.n o.m o.r o.e in
    let status = Limit c.in-Err-one_stripe.fault.limit in
    let old = outside c.args.input.now c.args.output.now c.args.steps.now in
    subst (λ (job : Job). ExecutesWhole devices view (job_program job) (Over status) old old c.args.rack.now c.args.rack.now c.args.watchers.now.items c.args.watchers.now.items) (sym o.is)
    (with_once devices view (planning_program of) (Over status) old old c.args.rack.now c.args.rack.now c.args.watchers.now.items
    (calls_once (planning_program of) (costs_call_none of))
    (over_still rack view (planning_program of) (Over status) old old c.args.rack.now (costs_call_none of)
    (finds view (Limits of) (within_limits (costs_program of)) (Some _) _ _ _ _ c.in-Err-one_stripe.ensures.broken refl)))
