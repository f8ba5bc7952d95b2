-- What a call did: a trace, whose first item comes first, and how it follows a program.
use Rattle.std.specs.Prelude.{◌≡◌, ℕ, ◌<◌, ◌≤◌, List, [], ◌∷◌, ◌++◌, Bool, length, Ok, Err}
use Rattle.stair_rack.specs.declared.watcher.Event.{Event}
use Rattle.stair_array.specs.Machine.{Answer, RebuildNext, Step}
use Rattle.stair_command.specs.Action.{Action, OkOf, Outcome, refused}
use Rattle.stair_status.specs.declared.status.Status.TheVariants.{InputFault, OutputFault, OutOfMemory}
use Rattle.stair_command.specs.Question.{Question, Reply, IsReply}
use Rattle.stair_command.specs.Program.{Program, Over, Ask, Take, Put, Allocate, Do, Try, RebuildAll, after_rebuild}

pub data TraceItem : Type 0 where
  -- a question was decided
  Found : Question → TraceItem
  -- as many as were asked for at least were taken; fewer, and then the end came; fewer, and then a fault
  Took TookLast TakeFailed : List ℕ → TraceItem
  -- all of it was put out; a part, and then a fault came
  HasPut PutFailed : List ℕ → TraceItem
  -- there was memory; there was none
  Grew RanOut : TraceItem
  -- this was done to an array, or refused
  Did : (action : Action) → Outcome action → TraceItem
  -- a step was taken, with this answer and these events; a watcher left at one of them, or none did
  Stepped : (step : Step) → Answer step → List Event → Bool → TraceItem

-- the front of a list, and not all of it
abbrev pub IsPart : List ℕ → List ℕ → Type 0
IsPart part all = (rest : List ℕ) × (all ≡ part ++ rest) × (0 < length rest)

-- as many bytes as are asked for
pub record AreEnough (least most : ℕ) (bytes : List ℕ) : Type 0 where
  pub enough : least ≤ length bytes
  pub within : length bytes ≤ most

-- how a program goes on after this came of an action
abbrev pub after : (action : Action) → (OkOf action → Program) → Outcome action → Program
after action k (Ok done) = k done
after action k (Err refusal) = Over (refused action refusal)

-- One move of a program: the item is of the kind that the program wants, and the rest is what it says then.
abbrev pub StepsProgram : TraceItem → Program → Program → Type 0
StepsProgram (Found asked) (Ask question k) rest =
    (reply : Reply question) × (asked ≡ question) × IsReply question reply × (rest ≡ k reply)
StepsProgram (Took bytes) (Take least most k short) rest = AreEnough least most bytes × (rest ≡ k bytes)
StepsProgram (TookLast bytes) (Take least most k short) rest = (length bytes < least) × (rest ≡ short bytes)
StepsProgram (TakeFailed bytes) (Take least most k short) rest =
    (length bytes < least) × (rest ≡ Over InputFault)
StepsProgram (HasPut bytes) (Put all program) rest = (bytes ≡ all) × (rest ≡ program)
StepsProgram (PutFailed part) (Put all program) rest = IsPart part all × (rest ≡ Over OutputFault)
StepsProgram Grew (Allocate program) rest = rest ≡ program
StepsProgram RanOut (Allocate program) rest = rest ≡ Over OutOfMemory
StepsProgram (Did did came) (Do action k) rest =
    (outcome : Outcome action) × (Did did came ≡ Did action outcome) × (rest ≡ after action k outcome)
StepsProgram (Stepped did came events left) (Try step k) rest = (answer : Answer step)
    × (Stepped did came events left ≡ Stepped step answer events left) × (rest ≡ k answer left)
StepsProgram (Stepped did came events left) (RebuildAll slots done k) rest = (answer : Answer RebuildNext)
    × (Stepped did came events left ≡ Stepped RebuildNext answer events left)
    × (rest ≡ after_rebuild slots done k answer)
StepsProgram _ _ rest = ⊥

-- The items lead from the one to the other: each leads on by `One` from what the items before it led to.
abbrev pub AlongTrace : {X : Type 0} → (TraceItem → X → X → Type 0) → List TraceItem → X → X → Type 0
AlongTrace One [] old new = new ≡ old
AlongTrace {X} One (item ∷ trace) old new = (mid : X) × One item old mid × AlongTrace One trace mid new

-- the events of its steps, the first of them first
abbrev pub events_of_trace : List TraceItem → List Event
events_of_trace [] = []
events_of_trace (Stepped step answer events left ∷ trace) = events ++ events_of_trace trace
events_of_trace (item ∷ trace) = events_of_trace trace

-- the bytes that were taken over it, and those that were put out
abbrev pub taken_in : List TraceItem → List ℕ
taken_in [] = []
taken_in (Took bytes ∷ trace) = bytes ++ taken_in trace
taken_in (TookLast bytes ∷ trace) = bytes ++ taken_in trace
taken_in (TakeFailed bytes ∷ trace) = bytes ++ taken_in trace
taken_in (_ ∷ trace) = taken_in trace

abbrev pub put_in : List TraceItem → List ℕ
put_in [] = []
put_in (HasPut bytes ∷ trace) = bytes ++ put_in trace
put_in (PutFailed part ∷ trace) = part ++ put_in trace
put_in (_ ∷ trace) = put_in trace
