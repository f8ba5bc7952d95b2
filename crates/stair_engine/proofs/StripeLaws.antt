-- The programs of the commands on one stripe.
use Rattle.std.proofs.Common.{◌≡◌, ℕ, List, Result, Ok, Err, subst, Option, None, Some}
use Rattle.std.specs.Result.{IsErrAnd}
use Rattle.stair_model.specs.Geometry.{Geometry}
use Rattle.stair_command.specs.Answer.{Judges, bytes_needed}
use Rattle.stair_conf.specs.declared.job.StripeCommand.{StripeCommand}
use Rattle.stair_command.specs.declared.fault.Fault.{Fault}
use Rattle.stair_command.specs.declared.fault.Fault.TheVariants.{Memory, Output}
use Rattle.stair_status.specs.declared.status.Status.{Status}
use Rattle.stair_status.specs.declared.status.Status.TheVariants.{Done}
use Rattle.stair_command.specs.Fault.{status_of}
use Rattle.stair_command.specs.Executes.{Counts, Holds, Executes}
use Rattle.stair_command.specs.Outside.{Outside, Views, outside}
use Rattle.stair_command.specs.Program.{Program, Over, answer}
use Rattle.stair_command.specs.Question.{Judgement}
use Rattle.stair_command.specs.Trace.{Found, HasPut, IsPart, PutFailed}
use Rattle.stair_command.specs.Taking.{TakesWhole}
use Rattle.stair_engine.specs.Programs.{input_program, judged, stripe_program, tested_program, within_limits}
use Rattle.stair_command.proofs.ProgramLaws.{and_then, cannot_put, finds, grows, hands_on, puts, runs_out, takes_whole}
use Rattle.stair_command.specs.Ending.{MakesNoCall}

module _ {S K : Type 0} (view : Views S K) where
  -- a whole input was judged
  judges : (command : StripeCommand) (g : Geometry) (input : List ℕ) (status : Status) (output : List ℕ) (source : S) (sink : K) (n n' : ℕ)
      → Judges command g input status output → Counts (Found (Judgement command g input)) n n'
      → Executes view (judged command g input) (answer status output) (outside source sink n) (outside source sink n')
  judges command g input status output source sink n n' is counts =
      finds view (Judgement command g input) (λ reply. answer reply.0 reply.1) (status, output) source sink n n' is counts

  -- a whole input was taken, and judged
  pub takes_judged : {T : Type 0} (command : StripeCommand) (g : Geometry) (x : T) (IsInput : T → List ℕ → Type 0) (source source' : S) (sink : K) (n n' : ℕ)
      (whole : TakesWhole view.source (bytes_needed command g) (Ok x) IsInput source source') (status : Status) (output : List ℕ)
      → Judges command g whole.bytes status output → Counts (Found (Judgement command g whole.bytes)) n n'
      → Executes view (input_program command g) (answer status output) (outside source sink n) (outside source' sink n')
  takes_judged command g x IsInput source source' sink n n' whole status output is counts =
      and_then view (takes_whole view (bytes_needed command g) (Ok x) IsInput source source' sink n (judged command g) whole)
      (judges command g whole.bytes status output source' sink n n' is counts)

  -- the geometry is the one that the code told
  pub of_geometry : (command : StripeCommand) (told g : Geometry) (rest : Program) (a b : Outside S K) → told ≡ g
      → Executes view (input_program command told) rest a b → Executes view (input_program command g) rest a b
  of_geometry command told g rest a b same means = subst (λ (of : Geometry). Executes view (input_program command of) rest a b) same means

  -- there was memory
  pub after_memory : (command : StripeCommand) (g : Geometry) (rest : Program) (a b : Outside S K) → Executes view (input_program command g) rest a b
      → Executes view (stripe_program command g) rest a b
  after_memory command g rest a b means = and_then view (grows view (input_program command g) a) means

  -- there was none, and that was handed on
  pub no_memory : (command : StripeCommand) (g : Geometry) (result : Result Status Fault) (a : Outside S K) → IsErrAnd result (λ y. y ≡ Memory)
      → Executes view (stripe_program command g) (Over (status_of result)) a a
  no_memory command g result a is = hands_on view (stripe_program command g) a a result Memory is (runs_out view (input_program command g) a)

  -- a whole input was refused, and that was handed on
  pub input_refused : {T : Type 0} (command : StripeCommand) (told g : Geometry) (result : Result Status Fault) (fault : Fault)
      (IsInput : T → List ℕ → Type 0) (source source' : S) (sink : K) (n : ℕ) → told ≡ g
      → TakesWhole view.source (bytes_needed command told) (Err fault) IsInput source source' → IsErrAnd result (λ y. y ≡ fault)
      → Executes view (input_program command g) (Over (status_of result)) (outside source sink n) (outside source' sink n)
  input_refused command told g result fault IsInput source source' sink n same whole is =
      of_geometry command told g (Over (status_of result)) (outside source sink n) (outside source' sink n) same
      (hands_on view (input_program command told) (outside source sink n) (outside source' sink n) result fault is
      (takes_whole view (bytes_needed command told) (Err fault) IsInput source source' sink n (judged command told) whole))

  -- a whole input of the geometry that a code told was taken, and judged; what was to be put out
  module _ {T : Type 0} (command : StripeCommand) (told g : Geometry) (x : T) (IsInput : T → List ℕ → Type 0) (source source' : S) (sink : K) (n n' : ℕ)
      (same : told ≡ g) (whole : TakesWhole view.source (bytes_needed command told) (Ok x) IsInput source source') where
    pub told_judged : (status : Status) (output : List ℕ) → Judges command told whole.bytes status output
        → Counts (Found (Judgement command told whole.bytes)) n n'
        → Executes view (input_program command g) (answer status output) (outside source sink n) (outside source' sink n')
    told_judged status output is counts =
        of_geometry command told g (answer status output) (outside source sink n) (outside source' sink n') same
        (takes_judged command told x IsInput source source' sink n n' whole status output is counts)

    -- was put out
    pub judged_put : (output : List ℕ) (sink' : K) → Judges command told whole.bytes Done output
        → Counts (Found (Judgement command told whole.bytes)) n n' → Holds view.sink (HasPut output) sink sink'
        → Executes view (input_program command g) (Over Done) (outside source sink n) (outside source' sink' n')
    judged_put output sink' is counts holds =
        and_then view (told_judged Done output is counts) (puts view output (Over Done) source' sink sink' n' holds)

    -- or a part of it was, and the fault was handed on
    pub judged_unput : (output part : List ℕ) (sink' : K) (result : Result Status Fault) (fault : Fault) → Judges command told whole.bytes Done output
        → Counts (Found (Judgement command told whole.bytes)) n n' → IsPart part output → Holds view.sink (PutFailed part) sink sink'
        → fault ≡ Output → IsErrAnd result (λ y. y ≡ fault)
        → Executes view (input_program command g) (Over (status_of result)) (outside source sink n) (outside source' sink' n')
    judged_unput output part sink' result fault is counts is_part holds failed handed =
        hands_on view (input_program command g) (outside source sink n) (outside source' sink' n') result Output
        (subst (λ (why : Fault). IsErrAnd result (λ y. y ≡ why)) failed handed)
        (and_then view (told_judged Done output is counts) (cannot_put view output part (Over Done) source' sink sink' n' is_part holds))

-- ---- they make no call on a rack

answer_calls_none : (status : Status) (output : List ℕ) → MakesNoCall (answer status output)
answer_calls_none Done output = tt
answer_calls_none _ output = tt

limits_call_none : (command : StripeCommand) (g : Geometry) (reply : Option ℕ) → MakesNoCall (within_limits (stripe_program command g) reply)
limits_call_none command g None = (
  λ bytes. (λ more. tt, λ none reply is. answer_calls_none reply.0 reply.1),
  λ bytes. tt,
)
limits_call_none command g (Some k) = tt

-- the commands on one stripe make none
pub stripe_calls_none : (command : StripeCommand) (g : Geometry) → MakesNoCall (tested_program command g)
stripe_calls_none command g = λ reply is. limits_call_none command g reply
