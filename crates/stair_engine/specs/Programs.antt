-- What each command does: its program, which the words give.
use Rattle.std.specs.Prelude.{ℕ, ◌+◌, List, [], ◌∷◌, ◌++◌, codes, Option, None, Some, Result, Ok, Err}
use Rattle.std.specs.Fmt.{decimal}
use Rattle.hex.specs.Hex.{encode_lower}
use Rattle.stair_model.specs.Geometry.{Geometry, block_count}
use Rattle.stair_member.specs.Membership.{Membership}
use Rattle.stair_conf.specs.declared.fault.ConfigFault.{ConfigFault}
use Rattle.stair_conf.specs.declared.job.Job.{Job}
use Rattle.stair_conf.specs.declared.job.Job.TheVariants as job
use Rattle.stair_conf.specs.declared.job.StripeCommand.{StripeCommand}
use Rattle.stair_status.specs.declared.status.Status.TheVariants.{Done, Usage, Limit, Input}
use Rattle.stair_command.specs.Action.{Create, Survey}
use Rattle.stair_command.specs.Answer.{bytes_needed}
use Rattle.stair_command.specs.Fault.{status_of_config}
use Rattle.stair_command.specs.Program.{Program, Over, Ask, Put, Allocate, Do, answer, take_exactly, whole_input}
use Rattle.stair_command.specs.Question.{Costs, Words, Limits, Text, Judgement}
use Rattle.stair_engine.specs.Blocks.{read_program, write_program}
use Rattle.stair_engine.specs.Exercise.{exercise_program}
use Rattle.stair_engine.specs.Mending.{freeze_program, label_program, rebuild_program, replace_program, scrub_program, thaw_program}
use Rattle.stair_monitor.specs.Reports.{report_program}
use Rattle.stair_engine.specs.Scripts.{guard_program, run_program}
use Rattle.stair_engine.specs.Serving.{serve_program}
use Rattle.stair_engine.specs.Show.{show_text}
use Rattle.stair_engine.specs.Task.{one_stripe}
use Rattle.stair_engine.specs.Volumes.{volumes_program}
use Rattle.stair_plan.specs.PlanText.{plan_text}

-- what is judged of a whole input
abbrev pub judged : StripeCommand → Geometry → List ℕ → Program
judged command g input = Ask (Judgement command g input) (λ reply. answer reply.0 reply.1)

abbrev pub input_program : StripeCommand → Geometry → Program
input_program command g = whole_input (bytes_needed command g) (judged command g)

abbrev pub stripe_program : StripeCommand → Geometry → Program
stripe_program command g = Allocate (input_program command g)

abbrev pub within_limits : Program → Option ℕ → Program
within_limits program None = program
within_limits program (Some k) = Over (Limit k)

abbrev pub tested_program : StripeCommand → Geometry → Program
tested_program command g = Ask (Limits g) (within_limits (stripe_program command g))

-- what the code of a geometry costs is put out
abbrev pub costs_program : Geometry → Program
costs_program g = Allocate (Ask (Costs g) (λ costs. Put (plan_text costs) (Over Done)))

abbrev pub planning_program : Geometry → Program
planning_program g = Ask (Limits g) (within_limits (costs_program g))

-- a geometry text is the whole input, and has at most so many bytes
abbrev pub MAX_GEOMETRY_TEXT : ℕ
MAX_GEOMETRY_TEXT = 4096

-- the line for an array that was made
abbrev pub created_line : Geometry → List ℕ
created_line g = codes "created " ++ (encode_lower g.id
    ++ (codes " blocks " ++ (decimal (block_count g) ++ 10 ∷ [])))

-- The line is made before the devices are touched: no memory is needed after that.
abbrev pub making_program : Result Geometry ConfigFault → Program
making_program (Ok g) = Allocate (Do (Create g) (λ done. Put (created_line g) (Over Done)))
making_program (Err fault) = Over (status_of_config fault)

abbrev pub create_program : Program
create_program = take_exactly (MAX_GEOMETRY_TEXT + 1) (λ more. Over (Input MAX_GEOMETRY_TEXT (MAX_GEOMETRY_TEXT + 1)))
    (λ text. Allocate (Ask (Text text) making_program))

-- what was found is put out
abbrev pub showing_program : Membership → Program
showing_program member = Put (show_text member) (Over Done)

abbrev pub show_program : Program
show_program = Do Survey showing_program

-- a row for each command
abbrev pub job_program : Job → Program
job_program (job.OneStripe command n m r e) = tested_program command (one_stripe n m r e)
job_program job.Create = create_program
job_program job.Show = show_program
job_program (job.Read block count) = read_program block count
job_program (job.Write block count) = write_program block count
job_program job.Scrub = scrub_program
job_program (job.Replace slot) = replace_program slot
job_program job.Rebuild = rebuild_program
job_program job.Freeze = freeze_program
job_program job.Thaw = thaw_program
job_program (job.Label text) = label_program text
job_program job.Run = run_program
job_program (job.Exercise number count) = exercise_program number count
job_program (job.Guard events fences) = guard_program
job_program job.Report = report_program
job_program job.Serve = serve_program
job_program (job.Volume volume) = volumes_program volume
job_program (job.Plan n m r e) = planning_program (one_stripe n m r e)

abbrev pub if_spelled : Option Job → Program
if_spelled None = Over Usage
if_spelled (Some job) = job_program job

-- what the words say; memory may run out while they are read
abbrev pub program_of : List (List ℕ) → Program
program_of words = Allocate (Ask (Words words) if_spelled)
