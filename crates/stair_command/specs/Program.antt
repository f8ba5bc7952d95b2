-- What a command does, whatever comes of it.
use Rattle.std.specs.Prelude.{ℕ, ◌+◌, Bool, true, false, List, length, Result, Ok, Err}
use Rattle.stair_model.specs.Geometry.{Geometry}
use Rattle.stair_array.specs.Machine.{Answer, GivenBy, Nothing, Progress, Recover, Refusal, Step}
use Rattle.stair_status.specs.declared.status.Status.{Status}
use Rattle.stair_status.specs.declared.status.Status.TheVariants.{Done, Input}
use Rattle.stair_command.specs.Action.{Action, OkOf, Survey}
use Rattle.stair_command.specs.Question.{Question, Reply}
use Rattle.stair_command.specs.Refused.{status_of_refusal}

pub data Program : Type 0 where
  -- the call ends so
  Over : Status → Program
  -- a question is decided, and the reply says how to go on
  Ask : (question : Question) → (Reply question → Program) → Program
  -- At least so many bytes of the input are taken, which is one at least, and at most so many, as the source gives them, and
  -- then comes the first; or fewer, where the end comes before, and then the second.
  Take : (least most : ℕ) → (List ℕ → Program) → (List ℕ → Program) → Program
  -- these bytes are put out
  Put : List ℕ → Program → Program
  -- memory may be short here
  Allocate : Program → Program
  -- this is done to an array, and what it gives says how to go on; a refusal ends the call
  Do : (action : Action) → (OkOf action → Program) → Program
  -- A step is taken, and its answer says how to go on, a refusal too; and so does whether a watcher left at it.
  Try : (step : Step) → (Answer step → Bool → Program) → Program
  -- In an array of so many slots steps of a rebuild are taken until there is nothing, after so many, and the rest takes their
  -- number. A refusal ends the call.
  RebuildAll : (slots done : ℕ) → (ℕ → Program) → Program

-- the one program where this is so, and else the other
abbrev pub if_so : Bool → Program → Program → Program
if_so true this that = this
if_so false this that = that

-- exactly so many bytes
abbrev pub take_exactly : ℕ → (List ℕ → Program) → (List ℕ → Program) → Program
take_exactly n k short = Take n n k short

-- All of the input is so many bytes, after which one more is looked for.
abbrev pub whole_input : ℕ → (List ℕ → Program) → Program
whole_input needed k = take_exactly needed
    (λ bytes. take_exactly 1 (λ more. Over (Input needed (needed + 1))) (λ none. k bytes))
    (λ bytes. Over (Input needed (length bytes)))

-- where a step is refused by an array of so many slots the call ends
abbrev pub unless_refused : {X : Type 0} → ℕ → (X → Bool → Program) → Result X Refusal → Bool → Program
unless_refused slots k (Ok x) left = k x left
unless_refused slots k (Err refusal) left = Over (status_of_refusal slots refusal)

-- a step, which ends the call where it is refused
abbrev pub take_step : ℕ → (step : Step) → (GivenBy step → Program) → Program
take_step slots step k = Try step (unless_refused slots (λ x left. k x))

-- the same, where it matters whether a watcher left
abbrev pub watch_step : ℕ → (step : Step) → (GivenBy step → Bool → Program) → Program
watch_step slots step k = Try step (unless_refused slots k)

-- how a rebuild goes on after this answer
abbrev pub after_rebuild : (slots done : ℕ) → (ℕ → Program) → Result Progress Refusal → Program
after_rebuild slots done k (Ok Nothing) = k done
after_rebuild slots done k (Ok progress) = RebuildAll slots (done + 1) k
after_rebuild slots done k (Err refusal) = Over (status_of_refusal slots refusal)

-- the output is put out where all was done
abbrev pub answer : Status → List ℕ → Program
answer Done output = Put output (Over Done)
answer status output = Over status

-- A session: an array is looked for, memory is taken, and it is opened; the rest takes whether a watcher left by then.
abbrev pub watches_array : (Geometry → Bool → Program) → Program
watches_array k =
    Do Survey (λ member. Allocate (watch_step member.array.geometry.n Recover k))

-- and to most it is all the same
abbrev pub opens_array : (Geometry → Program) → Program
opens_array k = watches_array (λ g left. k g)
