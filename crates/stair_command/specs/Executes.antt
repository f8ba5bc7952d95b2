-- What a call means: it went as its program says, and the outside bears out what it did.
use Rattle.std.specs.Prelude.{◌≡◌, ℕ, ◌≤◌, true, false, List, IfSome}
use Rattle.std.specs.Io.KnownBytes.{Appends, Consumes}
use Rattle.stair_rack.specs.Count.{Rose}
use Rattle.stair_command.specs.Encode.{TakesSteps}
use Rattle.stair_command.specs.Outside.{Outside, SinkView, SourceView, Views}
use Rattle.stair_command.specs.Program.{Program}
use Rattle.stair_command.specs.Question.{Judgement}
use Rattle.stair_command.specs.Trace.{TraceItem, Found, Took, TookLast, TakeFailed, HasPut, PutFailed, AlongTrace, StepsProgram}
use Rattle.stair_conf.specs.declared.job.StripeCommand.TheVariants.{Encode}

-- What a source shows of an item. Told bytes begin with those that were taken, and lose them; where the
-- end came these were all. An item of another kind leaves the source as it was.
abbrev pub Gives : {S : Type 0} → SourceView S → TraceItem → S → S → Type 0
Gives view (Took bytes) old new = Consumes (view.left old) (view.left new) bytes
    × (view.ended old ≡ false) × (view.ended new ≡ false) × (view.faults old ≤ view.faults new)
Gives view (TookLast bytes) old new = Consumes (view.left old) (view.left new) bytes
    × IfSome (view.left old) (λ all. bytes ≡ all) × (view.ended new ≡ true)
    × (view.faults old ≤ view.faults new)
Gives view (TakeFailed bytes) old new = Consumes (view.left old) (view.left new) bytes
    × (view.ended old ≡ false) × (view.ended new ≡ false) × (view.faults old ≤ view.faults new)
    × Rose (view.faults old) (view.faults new)
Gives view _ old new = new ≡ old

-- What a sink shows of an item: held bytes grow by those that were put out.
abbrev pub Holds : {K : Type 0} → SinkView K → TraceItem → K → K → Type 0
Holds view (HasPut bytes) old new = Appends (view.held old) (view.held new) bytes
    × (view.faults old ≤ view.faults new)
Holds view (PutFailed part) old new = Appends (view.held old) (view.held new) part
    × (view.faults old ≤ view.faults new) × Rose (view.faults old) (view.faults new)
Holds view _ old new = new ≡ old

-- What the counter shows of an item: the judgement of blocks takes the steps of the method's encoder.
abbrev pub Counts : TraceItem → ℕ → ℕ → Type 0
Counts (Found (Judgement (Encode method) g input)) old new = TakesSteps method g old new
Counts _ old new = new ≡ old

-- the outside bears the trace out
pub record Bears {S K : Type 0} (view : Views S K) (trace : List TraceItem) (old new : Outside S K)
    : Type 0 where
  pub gives : AlongTrace (Gives view.source) trace old.source new.source
  pub holds : AlongTrace (Holds view.sink) trace old.sink new.sink
  pub counts : AlongTrace Counts trace old.counter new.counter

-- From this program to that rest: a trace that follows the program, and that the outside bears out.
pub record Executes {S K : Type 0} (view : Views S K) (program rest : Program) (old new : Outside S K)
    : Type 0 where
  pub trace : List TraceItem
  pub follows : AlongTrace StepsProgram trace program rest
  pub bears : Bears view trace old new
