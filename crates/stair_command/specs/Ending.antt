-- How a call ends, and predicates on programs by which that is told for all commands at once.
use Rattle.std.specs.Prelude.{◌≡◌, ◌≢◌, ◌+◌, ◌≤◌, ℕ, Bool, List, ⊤}
use Rattle.stair_array.specs.Draws.{allowance}
use Rattle.stair_array.specs.Machine.{Answer, RebuildNext, Refusal, ReplaceSlot, Step}
use Rattle.stair_rack.specs.Count.{Rose}
use Rattle.stair_status.specs.declared.status.Status.{Status}
use Rattle.stair_status.specs.declared.status.Status.TheVariants.{Done, InputFault, OutputFault, OutOfMemory}
use Rattle.stair_member.specs.Membership.{Membership}
use Rattle.stair_command.specs.Action.{Create, OkOf, RefusalOf, Survey, refused}
use Rattle.stair_command.specs.Outside.{Outside, Views}
use Rattle.stair_command.specs.Program.{Program, Over, Ask, Take, Put, Allocate, Do, Try, RebuildAll}
use Rattle.stair_command.specs.Question.{IsReply, Reply}
use Rattle.stair_command.specs.Refused.{status_of_refusal}

-- by itself the program ends with such a status alone
abbrev pub EndsIn : (Status → Type 0) → Program → Type 0
EndsIn P (Over status) = P status
EndsIn P (Ask question k) = (reply : Reply question) → IsReply question reply → EndsIn P (k reply)
EndsIn P (Take least most k short) =
    ((bytes : List ℕ) → EndsIn P (k bytes)) × ((bytes : List ℕ) → EndsIn P (short bytes))
EndsIn P (Put bytes program) = EndsIn P program
EndsIn P (Allocate program) = EndsIn P program
EndsIn P (Do action k) = ((done : OkOf action) → EndsIn P (k done))
    × ((refusal : RefusalOf action) → P (refused action refusal))
EndsIn P (Try step k) = (answer : Answer step) (left : Bool) → EndsIn P (k answer left)
EndsIn P (RebuildAll slots done k) = ((count : ℕ) → EndsIn P (k count))
    × ((refusal : Refusal) → P (status_of_refusal slots refusal))

-- a fault is no status that a program ends with by itself
abbrev pub IsNoFault : Status → Type 0
IsNoFault status = (status ≢ InputFault) × (status ≢ OutputFault)

-- what is put out is put out at once, where all was done
abbrev pub PutsLast : Program → Type 0
PutsLast (Over status) = ⊤
PutsLast (Ask question k) =
    (reply : Reply question) → IsReply question reply → PutsLast (k reply)
PutsLast (Take least most k short) =
    ((bytes : List ℕ) → PutsLast (k bytes)) × ((bytes : List ℕ) → PutsLast (short bytes))
PutsLast (Put bytes program) = program ≡ Over Done
PutsLast (Allocate program) = PutsLast program
PutsLast (Do action k) = (done : OkOf action) → PutsLast (k done)
PutsLast (Try step k) = (answer : Answer step) (left : Bool) → PutsLast (k answer left)
PutsLast (RebuildAll slots done k) = (count : ℕ) → PutsLast (k count)

-- nothing is taken, so the source can't fail it
abbrev pub TakesNothing : Program → Type 0
TakesNothing (Over status) = status ≢ InputFault
TakesNothing (Ask question k) =
    (reply : Reply question) → IsReply question reply → TakesNothing (k reply)
TakesNothing (Take least most k short) = ⊥
TakesNothing (Put bytes program) = TakesNothing program
TakesNothing (Allocate program) = TakesNothing program
TakesNothing (Do action k) = ((done : OkOf action) → TakesNothing (k done))
    × ((refusal : RefusalOf action) → refused action refusal ≢ InputFault)
TakesNothing (Try step k) = (answer : Answer step) (left : Bool) → TakesNothing (k answer left)
TakesNothing (RebuildAll slots done k) = (count : ℕ) → TakesNothing (k count)

-- no call is made on a rack
abbrev pub MakesNoCall : Program → Type 0
MakesNoCall (Over status) = ⊤
MakesNoCall (Ask question k) =
    (reply : Reply question) → IsReply question reply → MakesNoCall (k reply)
MakesNoCall (Take least most k short) = ((bytes : List ℕ) → MakesNoCall (k bytes)) × ((bytes : List ℕ) → MakesNoCall (short bytes))
MakesNoCall (Put bytes program) = MakesNoCall program
MakesNoCall (Allocate program) = MakesNoCall program
MakesNoCall (Do action k) = ⊥
MakesNoCall (Try step k) = ⊥
MakesNoCall (RebuildAll slots done k) = ⊥

-- a rack is only looked at: no array is made, and no step is taken
abbrev pub OnlyLooks : Program → Type 0
OnlyLooks (Over status) = ⊤
OnlyLooks (Ask question k) =
    (reply : Reply question) → IsReply question reply → OnlyLooks (k reply)
OnlyLooks (Take least most k short) =
    ((bytes : List ℕ) → OnlyLooks (k bytes)) × ((bytes : List ℕ) → OnlyLooks (short bytes))
OnlyLooks (Put bytes program) = OnlyLooks program
OnlyLooks (Allocate program) = OnlyLooks program
OnlyLooks (Do (Create g) k) = ⊥
OnlyLooks (Do Survey k) = (member : Membership) → OnlyLooks (k member)
OnlyLooks (Try step k) = ⊥
OnlyLooks (RebuildAll slots done k) = ⊥

-- no step of a session's array is taken
abbrev pub TakesNoStep : Program → Type 0
TakesNoStep (Over status) = ⊤
TakesNoStep (Ask question k) =
    (reply : Reply question) → IsReply question reply → TakesNoStep (k reply)
TakesNoStep (Take least most k short) =
    ((bytes : List ℕ) → TakesNoStep (k bytes)) × ((bytes : List ℕ) → TakesNoStep (short bytes))
TakesNoStep (Put bytes program) = TakesNoStep program
TakesNoStep (Allocate program) = TakesNoStep program
TakesNoStep (Do action k) = (done : OkOf action) → TakesNoStep (k done)
TakesNoStep (Try step k) = ⊥
TakesNoStep (RebuildAll slots done k) = ⊥

-- each step that is taken is such a one
abbrev pub EachStep : (Step → Type 0) → Program → Type 0
EachStep IsSo (Over status) = ⊤
EachStep IsSo (Ask question k) =
    (reply : Reply question) → IsReply question reply → EachStep IsSo (k reply)
EachStep IsSo (Take least most k short) = ((bytes : List ℕ) → EachStep IsSo (k bytes))
    × ((bytes : List ℕ) → EachStep IsSo (short bytes))
EachStep IsSo (Put bytes program) = EachStep IsSo program
EachStep IsSo (Allocate program) = EachStep IsSo program
EachStep IsSo (Do action k) = (done : OkOf action) → EachStep IsSo (k done)
EachStep IsSo (Try step k) = IsSo step
    × ((answer : Answer step) (left : Bool) → EachStep IsSo (k answer left))
EachStep IsSo (RebuildAll slots done k) = IsSo RebuildNext
    × ((count : ℕ) → EachStep IsSo (k count))

-- a step that admits no medium
abbrev pub AdmitsNone : Step → Type 0
AdmitsNone (ReplaceSlot j) = ⊥
AdmitsNone _ = ⊤

-- no medium is admitted but to this slot, and to this one once at most
abbrev pub AdmitsOnce : ℕ → Program → Type 0
AdmitsOnce slot (Over status) = ⊤
AdmitsOnce slot (Ask question k) =
    (reply : Reply question) → IsReply question reply → AdmitsOnce slot (k reply)
AdmitsOnce slot (Take least most k short) = ((bytes : List ℕ) → AdmitsOnce slot (k bytes))
    × ((bytes : List ℕ) → AdmitsOnce slot (short bytes))
AdmitsOnce slot (Put bytes program) = AdmitsOnce slot program
AdmitsOnce slot (Allocate program) = AdmitsOnce slot program
AdmitsOnce slot (Do action k) = (done : OkOf action) → AdmitsOnce slot (k done)
AdmitsOnce slot (Try (ReplaceSlot j) k) = (j ≡ slot)
    × ((answer : Answer (ReplaceSlot j)) (left : Bool) → EachStep AdmitsNone (k answer left))
AdmitsOnce slot (Try step k) = (answer : Answer step) (left : Bool) → AdmitsOnce slot (k answer left)
AdmitsOnce slot (RebuildAll slots done k) = (count : ℕ) → AdmitsOnce slot (k count)

-- The steps of any way through the program count so much together, at most, by a number for each step. Those by which a rebuild
-- goes on to its end aren't counted.
abbrev pub CountsAtMost : (Step → ℕ) → ℕ → Program → Type 0
CountsAtMost count n (Over status) = ⊤
CountsAtMost count n (Ask question k) =
    (reply : Reply question) → IsReply question reply → CountsAtMost count n (k reply)
CountsAtMost count n (Take least most k short) = ((bytes : List ℕ) → CountsAtMost count n (k bytes))
    × ((bytes : List ℕ) → CountsAtMost count n (short bytes))
CountsAtMost count n (Put bytes program) = CountsAtMost count n program
CountsAtMost count n (Allocate program) = CountsAtMost count n program
CountsAtMost count n (Do action k) = (done : OkOf action) → CountsAtMost count n (k done)
CountsAtMost count n (Try step k) = (rest : ℕ) × (count step + rest ≤ n)
    × ((answer : Answer step) (left : Bool) → CountsAtMost count rest (k answer left))
CountsAtMost count n (RebuildAll slots done k) = (steps : ℕ) → CountsAtMost count n (k steps)

-- they are allowed so many draws together, at most
abbrev pub AllowsAtMost : ℕ → Program → Type 0
AllowsAtMost n program = CountsAtMost allowance n program

-- memory isn't asked for, so it can't be short
abbrev pub AsksForNone : Program → Type 0
AsksForNone (Over status) = status ≢ OutOfMemory
AsksForNone (Ask question k) =
    (reply : Reply question) → IsReply question reply → AsksForNone (k reply)
AsksForNone (Take least most k short) =
    ((bytes : List ℕ) → AsksForNone (k bytes)) × ((bytes : List ℕ) → AsksForNone (short bytes))
AsksForNone (Put bytes program) = AsksForNone program
AsksForNone (Allocate program) = ⊥
AsksForNone (Do action k) = ((done : OkOf action) → AsksForNone (k done))
    × ((refusal : RefusalOf action) → refused action refusal ≢ OutOfMemory)
AsksForNone (Try step k) = (answer : Answer step) (left : Bool) → AsksForNone (k answer left)
AsksForNone (RebuildAll slots done k) = (count : ℕ) → AsksForNone (k count)

-- memory is asked for before anything is done to an array, and not after it
abbrev pub AsksFirst : Program → Type 0
AsksFirst (Over status) = ⊤
AsksFirst (Ask question k) =
    (reply : Reply question) → IsReply question reply → AsksFirst (k reply)
AsksFirst (Take least most k short) =
    ((bytes : List ℕ) → AsksFirst (k bytes)) × ((bytes : List ℕ) → AsksFirst (short bytes))
AsksFirst (Put bytes program) = AsksFirst program
AsksFirst (Allocate program) = AsksFirst program
AsksFirst (Do action k) = AsksForNone (Do action k)
AsksFirst (Try step k) = AsksForNone (Try step k)
AsksFirst (RebuildAll slots done k) = AsksForNone (RebuildAll slots done k)

-- memory is asked for before an array is made or a step is taken, and not after it
abbrev pub AsksUnwritten : Program → Type 0
AsksUnwritten (Over status) = ⊤
AsksUnwritten (Ask question k) =
    (reply : Reply question) → IsReply question reply → AsksUnwritten (k reply)
AsksUnwritten (Take least most k short) = ((bytes : List ℕ) → AsksUnwritten (k bytes))
    × ((bytes : List ℕ) → AsksUnwritten (short bytes))
AsksUnwritten (Put bytes program) = AsksUnwritten program
AsksUnwritten (Allocate program) = AsksUnwritten program
AsksUnwritten (Do (Create g) k) = AsksForNone (Do (Create g) k)
AsksUnwritten (Do Survey k) = (member : Membership) → AsksUnwritten (k member)
AsksUnwritten (Try step k) = AsksForNone (Try step k)
AsksUnwritten (RebuildAll slots done k) = AsksForNone (RebuildAll slots done k)

-- how a call ended: by its program, by a fault of its source or of its sink, or since memory was short
pub data Ended {S K : Type 0} (view : Views S K) (P : Status → Type 0) (status : Status)
    (old new : Outside S K) : Type 0 where
  ByProgram : P status → Ended view P status old new
  BySource : status ≡ InputFault
      → Rose (view.source.faults old.source) (view.source.faults new.source)
      → Ended view P status old new
  BySink : status ≡ OutputFault → Rose (view.sink.faults old.sink) (view.sink.faults new.sink)
      → Ended view P status old new
  ByMemory : status ≡ OutOfMemory → Ended view P status old new

-- what holds of every status at which nothing is put out
abbrev pub IfNothingIsPutOut : Status → Type 0 → Type 0
IfNothingIsPutOut Done fact = ⊤
IfNothingIsPutOut OutputFault fact = ⊤
IfNothingIsPutOut _ fact = fact

-- A fault comes only where the count of faults of that source or sink rose, and no count falls.
pub record TellsFaults {S K : Type 0} (view : Views S K) (status : Status) (old new : Outside S K)
    : Type 0 where
  pub input_fault : status ≡ InputFault →
      Rose (view.source.faults old.source) (view.source.faults new.source)
  pub output_fault : status ≡ OutputFault →
      Rose (view.sink.faults old.sink) (view.sink.faults new.sink)
  pub input_count : view.source.faults old.source ≤ view.source.faults new.source
  pub output_count : view.sink.faults old.sink ≤ view.sink.faults new.sink
