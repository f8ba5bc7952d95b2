-- What each command's program does by itself: a row for each command, and what follows of every call.
use Rattle.std.proofs.Common.{◌≡◌, ◌≢◌, ◌≤◌, ℕ, Bool, List, Option, None, Some, Result, Ok, Err, arith, false, refl, true}
use Rattle.stair_model.specs.Geometry.{Geometry}
use Rattle.stair_array.specs.Draws.{allowance}
use Rattle.stair_array.specs.Machine.{Recover, ReplaceSlot, SetFrozen, SetLabel, Step}
use Rattle.stair_array.specs.declared.fault.CreateFault.{CreateFault}
use Rattle.stair_array.specs.declared.fault.CreateFault.TheVariants as create
use Rattle.stair_monitor.specs.Reports.{report_program}
use Rattle.stair_conf.specs.declared.fault.ConfigFault.{ConfigFault}
use Rattle.stair_conf.specs.declared.fault.ConfigFault.TheVariants as config
use Rattle.stair_conf.specs.declared.job.Job.{Job}
use Rattle.stair_conf.specs.declared.job.Job.TheVariants as job
use Rattle.stair_conf.specs.declared.job.StripeCommand.{StripeCommand}
use Rattle.stair_conf.specs.declared.job.StripeCommand.TheVariants.{Check, Encode, Restore}
use Rattle.stair_member.specs.declared.fault.SurveyFault.{SurveyFault}
use Rattle.stair_member.specs.declared.fault.SurveyFault.TheVariants as survey
use Rattle.stair_status.specs.declared.status.Status.{Status}
use Rattle.stair_status.specs.declared.status.Status.TheVariants.{Done, NotCodeword, NoCodeword, Lost, OutOfMemory}
use Rattle.stair_command.specs.Action.{status_of_create, status_of_survey}
use Rattle.stair_command.specs.Answer.{Judges}
use Rattle.stair_command.specs.Ending.{AdmitsNone, AllowsAtMost, AsksFirst, AsksForNone, AsksUnwritten, CountsAtMost, EachStep, EndsIn, IfNothingIsPutOut, IsNoFault, OnlyLooks, PutsLast, TakesNoStep, TakesNothing, TellsFaults}
use Rattle.stair_command.specs.Fault.{status_of_config}
use Rattle.stair_command.specs.Executes.{Executes}
use Rattle.stair_command.specs.Outside.{Outside, Views}
use Rattle.stair_command.specs.Program.{Program, Over, Ask, Take, Put, Allocate, Do, Try, RebuildAll, answer, opens_array, watches_array}
use Rattle.stair_command.specs.Sure.{most_allowed}
use Rattle.stair_command.proofs.DeviceLaws.{ActsOnce, calls_once, once_no_step}
use Rattle.stair_command.proofs.EndingLaws.{nothing_put, tells_faults, weaker}
use Rattle.stair_command.proofs.LookLaws.{calls_look, first_unwritten}
use Rattle.stair_command.proofs.PlannedLaws.{none_counts, none_each}
use Rattle.stair_engine.proofs.ExerciseLaws.{exercise_admits_none, exercise_allowed, exercise_last, exercise_none, exercise_own, exercise_untaken}
use Rattle.stair_engine.proofs.LineLaws.{allows_more, opens_or_stamps, script_allowed, script_counts, script_none, script_own}
use Rattle.stair_nbd.specs.Client.{client_program}
use Rattle.stair_engine.proofs.ClientLaws.{client_admits_none, client_allowed, client_none, client_own}
use Rattle.stair_engine.proofs.ReportLaws.{report_calls_none, report_first, report_last, report_own}
use Rattle.stair_engine.proofs.MendLaws.{done_own, replaces_allowed, replaces_last, replaces_none, replaces_own, replaces_untaken, scrubs_admit_none, scrubs_allowed, scrubs_last, scrubs_none, scrubs_own, scrubs_untaken}
use Rattle.stair_engine.proofs.OpenLaws.{IsOfJob, opening_admits_none, opening_allowed, read_admits_none, read_allowed, read_none, read_own, read_untaken, refusal_own, unless_so, write_admits_none, write_allowed, write_last, write_none, write_own}
use Rattle.stair_engine.specs.Exercise.{exercise_steps}
use Rattle.stair_engine.specs.Mending.{scrubs, stamps}
use Rattle.stair_engine.specs.Jobs.{IsScripted, MayAdmit, MayWrite, NotSpelled, OpensArray, PutsOnTheWay, TakesInput}
use Rattle.stair_engine.proofs.StripeLaws.{stripe_calls_none}
use Rattle.stair_engine.specs.Programs.{create_program, job_program, making_program, program_of, planning_program, show_program, stripe_program, tested_program, within_limits}
use Rattle.stair_engine.specs.Task.{one_stripe}
use Rattle.stair_engine.proofs.VolumesLaws.{costs_call_none, costs_first, costs_last, costs_own, costs_untaken, volume_admits_none, volume_allowed, volume_last, volume_none, volume_own, volume_untaken}
use Rattle.stair_volume.specs.Commands.{volume_program}

-- ---- no program ends by itself with a fault, and none of a job with Usage

judged_own : (command : StripeCommand) (g : Geometry) (input : List ℕ) (status : Status) (output : List ℕ) → Judges command g input status output
    → EndsIn IsOfJob (answer status output)
judged_own command g input Done output judges = ((λ is. cc, λ is. cc), λ is. cc)
judged_own command g input (NotCodeword b) output judges = ((λ is. cc, λ is. cc), λ is. cc)
judged_own command g input NoCodeword output judges = ((λ is. cc, λ is. cc), λ is. cc)
judged_own command g input (Lost stripe counts n) output judges = ((λ is. cc, λ is. cc), λ is. cc)
judged_own Check g input _ output judges = absurd judges.2
judged_own (Encode method) g input _ output judges = absurd judges.2
judged_own Restore g input _ output judges = absurd judges.4

stripe_own : (command : StripeCommand) (g : Geometry) (reply : Option ℕ) → EndsIn IsOfJob (within_limits (stripe_program command g) reply)
stripe_own command g None = (
  λ bytes. (λ more. ((λ is. cc, λ is. cc), λ is. cc), λ none reply judges. judged_own command g bytes reply.0 reply.1 judges),
  λ bytes. ((λ is. cc, λ is. cc), λ is. cc),
)
stripe_own command g (Some k) = ((λ is. cc, λ is. cc), λ is. cc)

-- those of a refused text are of no call that was done
pub config_own : (fault : ConfigFault) → IsOfJob (status_of_config fault) × (status_of_config fault ≢ Done)
config_own config.NotToml = (((λ is. cc, λ is. cc), λ is. cc), λ is. cc)
config_own (config.Key key) = (((λ is. cc, λ is. cc), λ is. cc), λ is. cc)
config_own (config.Limit k) = (((λ is. cc, λ is. cc), λ is. cc), λ is. cc)
config_own config.Memory = (((λ is. cc, λ is. cc), λ is. cc), λ is. cc)

-- nor are those of a refused array, and memory was not short there
pub create_own : (fault : CreateFault) → IsOfJob (status_of_create fault) × (status_of_create fault ≢ Done) × (status_of_create fault ≢ OutOfMemory)
create_own (create.Gone slot) = (((λ is. cc, λ is. cc), λ is. cc), λ is. cc, λ is. cc)
create_own (create.SmallDevice slot has needs) = (((λ is. cc, λ is. cc), λ is. cc), λ is. cc, λ is. cc)
create_own (create.AlreadyArray slot) = (((λ is. cc, λ is. cc), λ is. cc), λ is. cc, λ is. cc)

pub survey_own : (fault : SurveyFault) → IsOfJob (status_of_survey fault) × (status_of_survey fault ≢ OutOfMemory)
survey_own survey.NoArray = (((λ is. cc, λ is. cc), λ is. cc), λ is. cc)
survey_own (survey.TwoArrays first second) = (((λ is. cc, λ is. cc), λ is. cc), λ is. cc)
survey_own (survey.TooFew whys) = (((λ is. cc, λ is. cc), λ is. cc), λ is. cc)

making_own : (reply : Result Geometry ConfigFault) → EndsIn IsOfJob (making_program reply)
making_own (Ok g) = (λ done. ((λ is. cc, λ is. cc), λ is. cc), λ fault. (create_own fault).0)
making_own (Err fault) = (config_own fault).0

watches_own : (k : Geometry → Bool → Program) → ((g : Geometry) (left : Bool) → EndsIn IsOfJob (k g left)) → EndsIn IsOfJob (watches_array k)
watches_own k own = (
  λ member. unless_so (EndsIn IsOfJob) member.array.geometry.n k own (λ refusal. (refusal_own member.array.geometry.n refusal).0),
  λ fault. (survey_own fault).0,
)

opens_own : (k : Geometry → Program) → ((g : Geometry) → EndsIn IsOfJob (k g)) → EndsIn IsOfJob (opens_array k)
opens_own k own = watches_own (λ g left. k g) (λ g left. own g)

stamps_own : (step : Step) (line : List ℕ) → EndsIn IsOfJob (stamps step line)
stamps_own step line = opens_own _ (λ g. unless_so (EndsIn IsOfJob) g.n _ (λ given left. done_own) (λ refusal. (refusal_own g.n refusal).0))

pub job_own : (job : Job) → EndsIn IsOfJob (job_program job)
job_own (job.OneStripe command n m r e) = λ reply is. stripe_own command _ reply
job_own job.Create = (λ more. ((λ is. cc, λ is. cc), λ is. cc), λ text reply reads. making_own reply)
job_own job.Show = (λ member. ((λ is. cc, λ is. cc), λ is. cc), λ fault. (survey_own fault).0)
job_own (job.Read first count) = (λ member. read_own member.array.geometry.n first count, λ fault. (survey_own fault).0)
job_own (job.Write first count) = (λ member. write_own member.array.geometry.n first count, λ fault. (survey_own fault).0)
job_own job.Scrub = opens_own (λ g. scrubs g 0 g.stripes 0) (λ g. scrubs_own g 0 g.stripes 0)
job_own (job.Replace slot) = opens_own _ (λ g. replaces_own g slot)
job_own job.Rebuild = opens_own _ (λ g. (λ steps. done_own, λ refusal. (refusal_own g.n refusal).0))
job_own job.Freeze = stamps_own (SetFrozen true) _
job_own job.Thaw = stamps_own (SetFrozen false) _
job_own (job.Label text) = stamps_own (SetLabel text) _
job_own job.Run = watches_own _ (script_own false)
job_own (job.Exercise number count) = opens_own (exercise_steps number count) (exercise_own number count)
job_own (job.Guard events fences) = watches_own _ (script_own true)
job_own job.Report = report_own
job_own job.Serve = opens_own client_program client_own
job_own (job.Volume of) = opens_own (volume_program of) (volume_own of)
job_own (job.Plan n m r e) = costs_own (one_stripe n m r e)

-- ---- what is put out is put out last

judged_last : (status : Status) (output : List ℕ) → PutsLast (answer status output)
judged_last Done output = refl
judged_last _ output = tt

stripe_last : (command : StripeCommand) (g : Geometry) (reply : Option ℕ) → PutsLast (within_limits (stripe_program command g) reply)
stripe_last command g None = (λ bytes. (λ more. tt, λ none reply is. judged_last reply.0 reply.1), λ bytes. tt)
stripe_last command g (Some k) = tt

making_last : (reply : Result Geometry ConfigFault) → PutsLast (making_program reply)
making_last (Ok g) = λ done. refl
making_last (Err fault) = tt

opens_last : (k : Geometry → Program) → ((g : Geometry) → PutsLast (k g)) → PutsLast (opens_array k)
opens_last k last = λ member. unless_so PutsLast member.array.geometry.n (λ g left. k g) (λ g left. last g) (λ refusal. tt)

stamps_last : (step : Step) (line : List ℕ) → PutsLast (stamps step line)
stamps_last step line = opens_last _ (λ g. unless_so PutsLast g.n _ (λ given left. refl) (λ refusal. tt))

job_last : (of : Job) → ¬ PutsOnTheWay of → PutsLast (job_program of)
job_last (job.OneStripe command n m r e) other = λ reply is. stripe_last command _ reply
job_last job.Create other = (λ more. tt, λ text reply is. making_last reply)
job_last job.Show other = λ member. refl
job_last (job.Read first count) other = absurd (other tt)
job_last (job.Write first count) other = λ member. write_last member.array.geometry.n first count
job_last job.Scrub other = opens_last (λ g. scrubs g 0 g.stripes 0) (λ g. scrubs_last g 0 g.stripes 0)
job_last (job.Replace slot) other = opens_last _ (λ g. replaces_last g slot)
job_last job.Rebuild other = opens_last _ (λ g steps. refl)
job_last job.Freeze other = stamps_last (SetFrozen true) _
job_last job.Thaw other = stamps_last (SetFrozen false) _
job_last (job.Label text) other = stamps_last (SetLabel text) _
job_last job.Run other = absurd (other tt)
job_last (job.Exercise number count) other = opens_last (exercise_steps number count) (exercise_last number count)
job_last (job.Guard events fences) other = absurd (other tt)
job_last job.Report other = report_last
job_last job.Serve other = absurd (other tt)
job_last (job.Volume of) other = opens_last (volume_program of) (λ g. volume_last of g other)
job_last (job.Plan n m r e) other = costs_last (one_stripe n m r e)

-- ---- memory is asked for before anything is done to an array, or before it is written

judged_first : (status : Status) (output : List ℕ) → AsksFirst (answer status output)
judged_first Done output = tt
judged_first _ output = tt

stripe_first : (command : StripeCommand) (g : Geometry) (reply : Option ℕ) → AsksFirst (within_limits (stripe_program command g) reply)
stripe_first command g None = (λ bytes. (λ more. tt, λ none reply is. judged_first reply.0 reply.1), λ bytes. tt)
stripe_first command g (Some k) = tt

making_first : (reply : Result Geometry ConfigFault) → AsksFirst (making_program reply)
making_first (Ok g) = (λ done is. cc, λ fault. (create_own fault).2)
making_first (Err fault) = tt

job_first : (of : Job) → ¬ OpensArray of → AsksFirst (job_program of)
job_first (job.OneStripe command n m r e) other = λ reply is. stripe_first command _ reply
job_first job.Create other = (λ more. tt, λ text reply is. making_first reply)
job_first job.Show other = (λ member is. cc, λ fault. (survey_own fault).1)
job_first job.Report other = report_first
job_first (job.Plan n m r e) other = costs_first (one_stripe n m r e)
job_first _ other = absurd (other tt)

pub words_first : (words : List (List ℕ)) → NotSpelled OpensArray words → AsksFirst (program_of words)
words_first words other None is = tt
words_first words other (Some of) spells = job_first of (other of spells)

watches_none : (k : Geometry → Bool → Program) → ((g : Geometry) (left : Bool) → AsksForNone (k g left)) → AsksUnwritten (watches_array k)
watches_none k none = λ member.
    unless_so AsksForNone member.array.geometry.n k none (λ refusal. (refusal_own member.array.geometry.n refusal).1)

opens_none : (k : Geometry → Program) → ((g : Geometry) → AsksForNone (k g)) → AsksUnwritten (opens_array k)
opens_none k none = watches_none (λ g left. k g) (λ g left. none g)

stamps_none : (step : Step) (line : List ℕ) → AsksUnwritten (stamps step line)
stamps_none step line = opens_none _ (λ g. unless_so AsksForNone g.n _ (λ given left is. cc) (λ refusal. (refusal_own g.n refusal).1))

job_unwritten : (of : Job) → AsksUnwritten (job_program of)
job_unwritten (job.Read first count) = λ member. read_none member.array.geometry.n first count
job_unwritten (job.Write first count) = λ member. write_none member.array.geometry.n first count
job_unwritten job.Scrub = opens_none (λ g. scrubs g 0 g.stripes 0) (λ g. scrubs_none g 0 g.stripes 0)
job_unwritten (job.Replace slot) = opens_none _ (λ g. replaces_none g slot)
job_unwritten job.Rebuild = opens_none _ (λ g steps is. cc)
job_unwritten job.Freeze = stamps_none (SetFrozen true) _
job_unwritten job.Thaw = stamps_none (SetFrozen false) _
job_unwritten (job.Label text) = stamps_none (SetLabel text) _
job_unwritten job.Run = watches_none _ (script_none false)
job_unwritten (job.Exercise number count) = opens_none (exercise_steps number count) (exercise_none number count)
job_unwritten (job.Guard events fences) = watches_none _ (script_none true)
job_unwritten job.Serve = opens_none client_program client_none
job_unwritten (job.Volume of) = opens_none (volume_program of) (volume_none of)
job_unwritten (job.Plan n m r e) = first_unwritten (job_program (job.Plan n m r e)) (job_first (job.Plan n m r e) (λ no. no))
job_unwritten job.Report = first_unwritten report_program (job_first job.Report (λ no. no))
job_unwritten (job.OneStripe command n m r e) = first_unwritten (job_program (job.OneStripe command n m r e)) (job_first (job.OneStripe command n m r e) (λ no. no))
job_unwritten job.Create = first_unwritten create_program (job_first job.Create (λ no. no))
job_unwritten job.Show = first_unwritten show_program (job_first job.Show (λ no. no))

pub words_unwritten : (words : List (List ℕ)) → AsksUnwritten (program_of words)
words_unwritten words None is = tt
words_unwritten words (Some of) spells = job_unwritten of

-- ---- one thing at most is done to an array, and no step is taken

making_once : (reply : Result Geometry ConfigFault) → ActsOnce (making_program reply)
making_once (Ok g) = λ done. tt
making_once (Err fault) = tt

pub job_once : (of : Job) → ¬ OpensArray of → ActsOnce (job_program of)
job_once (job.OneStripe command n m r e) other =
    let of = one_stripe n m r e in
    calls_once (tested_program command of) (stripe_calls_none command of)
job_once job.Create other = (λ more. tt, λ text reply is. making_once reply)
job_once job.Show other = λ member. tt
job_once job.Report other = calls_once report_program report_calls_none
job_once (job.Plan n m r e) other =
    let of = one_stripe n m r e in
    calls_once (planning_program of) (costs_call_none of)
job_once _ other = absurd (other tt)

-- where no array is opened no step is taken
job_no_step : (of : Job) → ¬ OpensArray of → TakesNoStep (job_program of)
job_no_step of other = once_no_step (job_program of) (job_once of other)

pub words_no_step : (words : List (List ℕ)) → NotSpelled OpensArray words → TakesNoStep (program_of words)
words_no_step words other None is = tt
words_no_step words other (Some of) spells = job_no_step of (other of spells)

-- ---- no medium is admitted but by `replace`, `run` and `guard`, and few numbers are drawn

pub job_admits_none : (of : Job) → ¬ MayAdmit of → EachStep AdmitsNone (job_program of)
job_admits_none (job.OneStripe command n m r e) other =
    none_each AdmitsNone (job_program (job.OneStripe command n m r e)) (job_no_step (job.OneStripe command n m r e) (λ no. no))
job_admits_none job.Create other = none_each AdmitsNone create_program (job_no_step job.Create (λ no. no))
job_admits_none job.Show other = none_each AdmitsNone show_program (job_no_step job.Show (λ no. no))
job_admits_none job.Report other = none_each AdmitsNone report_program (job_no_step job.Report (λ no. no))
job_admits_none job.Serve other = λ member. opening_admits_none member.array.geometry.n client_program client_admits_none
job_admits_none (job.Volume of) other = λ member. opening_admits_none member.array.geometry.n (volume_program of) (volume_admits_none of)
job_admits_none (job.Plan n m r e) other =
    none_each AdmitsNone (job_program (job.Plan n m r e)) (job_no_step (job.Plan n m r e) (λ no. no))
job_admits_none (job.Read first count) other = λ member. opening_admits_none member.array.geometry.n _ (read_admits_none first count)
job_admits_none (job.Write first count) other = λ member. opening_admits_none member.array.geometry.n _ (write_admits_none first count)
job_admits_none job.Scrub other = λ member. opening_admits_none member.array.geometry.n _ (λ g. scrubs_admit_none g 0 g.stripes 0)
job_admits_none (job.Replace slot) other = absurd (other tt)
job_admits_none job.Rebuild other = λ member. opening_admits_none member.array.geometry.n _ (λ g. (tt, λ steps. tt))
job_admits_none job.Freeze other =
    λ member. opening_admits_none member.array.geometry.n _ (λ g. (tt, unless_so (EachStep AdmitsNone) g.n _ (λ given left. tt) (λ refusal. tt)))
job_admits_none job.Thaw other =
    λ member. opening_admits_none member.array.geometry.n _ (λ g. (tt, unless_so (EachStep AdmitsNone) g.n _ (λ given left. tt) (λ refusal. tt)))
job_admits_none (job.Label text) other =
    λ member. opening_admits_none member.array.geometry.n _ (λ g. (tt, unless_so (EachStep AdmitsNone) g.n _ (λ given left. tt) (λ refusal. tt)))
job_admits_none job.Run other = absurd (other tt)
job_admits_none (job.Guard events fences) other = absurd (other tt)
job_admits_none (job.Exercise number count) other =
    λ member. opening_admits_none member.array.geometry.n (exercise_steps number count) (exercise_admits_none number count)

stamps_allowed : (step : Step) (line : List ℕ) → allowance step ≤ 3 → AllowsAtMost 4 (stamps step line)
stamps_allowed step line few = λ member.
    opening_allowed member.array.geometry.n _ (λ g. (0, omega (arith, few), unless_so (AllowsAtMost 0) g.n _ (λ given left. tt) (λ refusal. tt)))

-- those that open an array are allowed one for the opening, and three more where a slot is replaced
job_draws_few : (of : Job) → ¬ IsScripted of → AllowsAtMost 4 (job_program of)
job_draws_few (job.OneStripe command n m r e) other =
    none_counts allowance 4 (job_program (job.OneStripe command n m r e)) (job_no_step (job.OneStripe command n m r e) (λ no. no))
job_draws_few job.Create other = none_counts allowance 4 create_program (job_no_step job.Create (λ no. no))
job_draws_few job.Show other = none_counts allowance 4 show_program (job_no_step job.Show (λ no. no))
job_draws_few job.Report other = none_counts allowance 4 report_program (job_no_step job.Report (λ no. no))
job_draws_few job.Serve other = λ member. opening_allowed member.array.geometry.n client_program (client_allowed 3)
job_draws_few (job.Volume of) other = λ member. opening_allowed member.array.geometry.n (volume_program of) (volume_allowed of 3)
job_draws_few (job.Plan n m r e) other =
    none_counts allowance 4 (job_program (job.Plan n m r e)) (job_no_step (job.Plan n m r e) (λ no. no))
job_draws_few (job.Read first count) other = λ member. opening_allowed member.array.geometry.n _ (read_allowed 3 first count)
job_draws_few (job.Write first count) other = λ member. opening_allowed member.array.geometry.n _ (write_allowed 3 first count)
job_draws_few job.Scrub other = λ member. opening_allowed member.array.geometry.n _ (λ g. scrubs_allowed 3 g 0 g.stripes 0)
job_draws_few (job.Replace slot) other = λ member. opening_allowed member.array.geometry.n _ (λ g. replaces_allowed g slot)
job_draws_few job.Rebuild other = λ member. opening_allowed member.array.geometry.n _ (λ g steps. tt)
job_draws_few job.Freeze other = stamps_allowed (SetFrozen true) _ (omega arith)
job_draws_few job.Thaw other = stamps_allowed (SetFrozen false) _ (omega arith)
job_draws_few (job.Label text) other = stamps_allowed (SetLabel text) _ (omega arith)
job_draws_few job.Run other = absurd (other tt)
job_draws_few (job.Guard events fences) other = absurd (other tt)
job_draws_few (job.Exercise number count) other =
    λ member. opening_allowed member.array.geometry.n (exercise_steps number count) (exercise_allowed 3 number count)

pub job_allowed : (of : Job) → AllowsAtMost most_allowed (job_program of)
job_allowed job.Run = λ member. script_allowed false member.array.geometry.n
job_allowed (job.Guard events fences) = λ member. script_allowed true member.array.geometry.n
job_allowed of = allows_more 4 most_allowed (omega arith) (job_program of) (job_draws_few of (λ no. no))

-- a step that opens an array or sets a stamp is allowed a draw
counted_allowed : (step : Step) → opens_or_stamps step ≤ allowance step
counted_allowed Recover = omega arith
counted_allowed (ReplaceSlot j) = omega arith
counted_allowed (SetFrozen frozen) = omega arith
counted_allowed (SetLabel text) = omega arith
counted_allowed _ = omega arith

counts_less : (n : ℕ) (program : Program) → AllowsAtMost n program → CountsAtMost opens_or_stamps n program
counts_less n (Over status) allows = tt
counts_less n (Ask question k) allows = λ reply is. counts_less n (k reply) (allows reply is)
counts_less n (Take least most k short) allows =
    (λ bytes. counts_less n (k bytes) (allows.0 bytes), λ bytes. counts_less n (short bytes) (allows.1 bytes))
counts_less n (Put bytes program) allows = counts_less n program allows
counts_less n (Allocate program) allows = counts_less n program allows
counts_less n (Do action k) allows = λ done. counts_less n (k done) (allows done)
counts_less n (Try step k) allows =
    (allows.0, omega (arith, allows.1, counted_allowed step), λ answer left. counts_less allows.0 (k answer left) (allows.2 answer left))
counts_less n (RebuildAll slots done k) allows = λ steps. counts_less n (k steps) (allows steps)

-- so there are few of these in any job
job_counts : (of : Job) → CountsAtMost opens_or_stamps 4 (job_program of)
job_counts job.Run = λ member. script_counts false member.array.geometry.n
job_counts (job.Guard events fences) = λ member. script_counts true member.array.geometry.n
job_counts of = counts_less 4 (job_program of) (job_draws_few of (λ no. no))

pub words_count : (words : List (List ℕ)) → CountsAtMost opens_or_stamps 4 (program_of words)
words_count words None is = tt
words_count words (Some of) spells = job_counts of

-- ---- what takes no input takes nothing

opens_untaken : (k : Geometry → Program) → ((g : Geometry) → TakesNothing (k g)) → TakesNothing (opens_array k)
opens_untaken k none = (
  λ member. unless_so TakesNothing member.array.geometry.n (λ g left. k g) (λ g left. none g) (λ refusal. (refusal_own member.array.geometry.n refusal).0.0.0),
  λ fault. (survey_own fault).0.0.0,
)

stamps_untaken : (step : Step) (line : List ℕ) → TakesNothing (stamps step line)
stamps_untaken step line = opens_untaken _ (λ g. unless_so TakesNothing g.n _ (λ given left is. cc) (λ refusal. (refusal_own g.n refusal).0.0.0))

pub job_untaken : (of : Job) → ¬ TakesInput of → TakesNothing (job_program of)
job_untaken job.Show other = (λ member is. cc, λ fault. (survey_own fault).0.0.0)
job_untaken (job.Read first count) other = (λ member. read_untaken member.array.geometry.n first count, λ fault. (survey_own fault).0.0.0)
job_untaken job.Scrub other = opens_untaken (λ g. scrubs g 0 g.stripes 0) (λ g. scrubs_untaken g 0 g.stripes 0)
job_untaken (job.Replace slot) other = opens_untaken _ (λ g. replaces_untaken g slot)
job_untaken job.Rebuild other = opens_untaken _ (λ g steps is. cc)
job_untaken job.Freeze other = stamps_untaken (SetFrozen true) _
job_untaken job.Thaw other = stamps_untaken (SetFrozen false) _
job_untaken (job.Label text) other = stamps_untaken (SetLabel text) _
job_untaken (job.Exercise number count) other = opens_untaken (exercise_steps number count) (exercise_untaken number count)
job_untaken (job.Volume of) other = opens_untaken (volume_program of) (λ g. volume_untaken of g other)
job_untaken (job.Plan n m r e) other = costs_untaken (one_stripe n m r e)
job_untaken _ other = absurd (other tt)

pub words_untaken : (words : List (List ℕ)) → NotSpelled TakesInput words → TakesNothing (program_of words)
words_untaken words other None is = λ also. cc
words_untaken words other (Some of) spells = job_untaken of (other of spells)

-- ---- every command but `create` only looks at the rack

pub job_looks : (of : Job) → ¬ MayWrite of → OnlyLooks (job_program of)
job_looks (job.OneStripe command n m r e) other =
    let of = one_stripe n m r e in
    calls_look (tested_program command of) (stripe_calls_none command of)
job_looks job.Show other = λ member. tt
job_looks job.Report other = calls_look report_program report_calls_none
job_looks (job.Plan n m r e) other =
    let of = one_stripe n m r e in
    calls_look (planning_program of) (costs_call_none of)
job_looks _ other = absurd (other tt)

-- ---- so of every call

module _ {S K : Type 0} (view : Views S K) where
  pub words_tell : (words : List (List ℕ)) (status : Status) (a b : Outside S K) → Executes view (program_of words) (Over status) a b
      → TellsFaults view status a b
  words_tell words status a b means = tells_faults view IsNoFault (λ end is. is) (program_of words) status a b (own words) means
    where
      own : (words : List (List ℕ)) → EndsIn IsNoFault (program_of words)
      own words None spelled = (λ is. cc, λ is. cc)
      own words (Some job) spells = weaker IsOfJob IsNoFault (λ end is. is.0) (job_program job) (job_own job)

  pub words_put : (words : List (List ℕ)) (status : Status) (a b : Outside S K) → Executes view (program_of words) (Over status) a b
      → NotSpelled PutsOnTheWay words → IfNothingIsPutOut status (b.sink ≡ a.sink)
  words_put words status a b means other = nothing_put view (program_of words) status a b (last words other) means
    where
      last : (words : List (List ℕ)) → NotSpelled PutsOnTheWay words → PutsLast (program_of words)
      last words other None is = tt
      last words other (Some of) spells = job_last of (other of spells)
