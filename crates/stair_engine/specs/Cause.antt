-- For each status of the three commands on one stripe: why it comes, and what holds after it. Only the laws
-- use these tables; no clause of a command cites them, and no other command has rows here.
use Rattle.std.specs.Prelude.{◌≡◌, ℕ, ◌+◌, ◌<◌, ◌≤◌, Bool, true, false, MatchBool, List, length, take, Option, ⊤}
use Rattle.std.specs.Io.KnownBytes.{Appends, Consumes, Keeps}
use Rattle.stair_model.specs.Geometry.{Geometry, IsWithinLimits, IsFirstBrokenLimit}
use Rattle.stair_model.specs.Stripe.{Stripe}
use Rattle.stair_model.specs.Codeword.{IsCodeword}
use Rattle.stair_status.specs.declared.status.Status.{Status}
use Rattle.stair_status.specs.declared.status.Status.TheVariants.{Done, NotCodeword, NoCodeword, Usage, Limit, Input, InputFault, OutputFault, Lost, OutOfMemory}
use Rattle.stair_conf.specs.declared.job.StripeCommand.{StripeCommand}
use Rattle.stair_conf.specs.declared.job.StripeCommand.TheVariants.{Check, Encode, Restore}
use Rattle.stair_command.specs.Answer.{HasBytes, IsAnswer, bytes_needed, codeword_line}
use Rattle.stair_command.specs.Encode.{TakesSteps}

-- held bytes grow by the first of the bytes, and not by all
abbrev pub PutsPart : Option (List ℕ) → Option (List ℕ) → List ℕ → Type 0
PutsPart old new bytes = (count : ℕ) × (count < length bytes) × Appends old new (take count bytes)

-- the status is the one for this input, and its output was put out
abbrev pub Answers : StripeCommand → Geometry → List ℕ → Option (List ℕ) → Option (List ℕ) → Status →
    Type 0
Answers command g input old new status = (output : List ℕ) × IsAnswer command g input status output
    × Appends old new output

-- Why a status comes, other than OutOfMemory: it is the one for this input, or a fault came in its place. A fault of
-- the source comes only within the limits, and a fault of the sink only while the output was being written.
abbrev pub HasCause : StripeCommand → Geometry → List ℕ → Option (List ℕ) → Option (List ℕ) → Status →
    Type 0
HasCause command g input old new InputFault = IsWithinLimits g
HasCause command g input old new OutputFault = (output : List ℕ)
    × IsAnswer command g input Done output × PutsPart old new output
HasCause command g input old new OutOfMemory = ⊤
HasCause command g input old new Done = Answers command g input old new Done
HasCause command g input old new (NotCodeword b) = Answers command g input old new (NotCodeword b)
HasCause command g input old new NoCodeword = Answers command g input old new NoCodeword
HasCause command g input old new (Limit k) = Answers command g input old new (Limit k)
HasCause command g input old new (Input needed took) =
    Answers command g input old new (Input needed took)
HasCause command g input old new (Lost stripe counts n) =
    Answers command g input old new (Lost stripe counts n)
HasCause command g input old new _ = ⊥

-- Only `check` reports an equation, and only `restore` reports erased cells and held ones.
abbrev pub IsToldBy : Status → StripeCommand → Type 0
IsToldBy (NotCodeword b) Check = ⊤
IsToldBy (NotCodeword b) (Encode method) = ⊥
IsToldBy (NotCodeword b) Restore = ⊥
IsToldBy NoCodeword Check = ⊥
IsToldBy NoCodeword (Encode method) = ⊥
IsToldBy NoCodeword Restore = ⊤
IsToldBy (Lost stripe counts n) Check = ⊥
IsToldBy (Lost stripe counts n) (Encode method) = ⊥
IsToldBy (Lost stripe counts n) Restore = ⊤
IsToldBy _ command = ⊤

-- The limits are tested before the input, whatever the source has.
abbrev pub LimitsComeFirst : StripeCommand → Geometry → Status → Type 0
LimitsComeFirst command g (Limit k) = IsFirstBrokenLimit g k
LimitsComeFirst command g OutOfMemory = ⊤
LimitsComeFirst command g Done = IsWithinLimits g × IsToldBy Done command
LimitsComeFirst command g (NotCodeword b) = IsWithinLimits g × IsToldBy (NotCodeword b) command
LimitsComeFirst command g NoCodeword = IsWithinLimits g × IsToldBy NoCodeword command
LimitsComeFirst command g (Input needed took) =
    IsWithinLimits g × IsToldBy (Input needed took) command
LimitsComeFirst command g InputFault = IsWithinLimits g × IsToldBy InputFault command
LimitsComeFirst command g OutputFault = IsWithinLimits g × IsToldBy OutputFault command
LimitsComeFirst command g (Lost stripe counts n) =
    IsWithinLimits g × IsToldBy (Lost stripe counts n) command
LimitsComeFirst command g _ = ⊥

-- what holds after a refusal that comes before the input is taken
abbrev pub IfRefusedAtOnce : Status → Type 0 → Type 0
IfRefusedAtOnce Usage fact = fact
IfRefusedAtOnce (Limit k) fact = fact
IfRefusedAtOnce OutOfMemory fact = fact
IfRefusedAtOnce _ fact = ⊤

-- the bytes of the source lose the first `count`
abbrev pub TakesCount : Option (List ℕ) → Option (List ℕ) → ℕ → Type 0
TakesCount old new count = (taken : List ℕ) × (length taken ≡ count) × Consumes old new taken

-- the bytes of the source lose at most `most`, from the front
abbrev pub TakesAtMost : Option (List ℕ) → Option (List ℕ) → ℕ → Type 0
TakesAtMost old new most = (taken : List ℕ) × (length taken ≤ most) × Consumes old new taken

-- Exactly the bytes that the command needs are taken, and one more only to tell that it came.
abbrev pub TakesInput : StripeCommand → Geometry → Option (List ℕ) → Option (List ℕ) → Status → Type 0
TakesInput command g old new Usage = Keeps old new
TakesInput command g old new (Limit k) = Keeps old new
TakesInput command g old new OutOfMemory = Keeps old new
TakesInput command g old new (Input needed took) = TakesCount old new took
TakesInput command g old new InputFault = TakesAtMost old new (bytes_needed command g)
TakesInput command g old new _ = TakesCount old new (bytes_needed command g)

-- This holds for every source, also one that does not report its bytes, by whether it had ended before and has ended
-- now. An input is judged only after its end was seen. An input of another length ended before the bytes that are
-- needed, or did not end after them.
abbrev pub LooksForEnd : StripeCommand → Geometry → Bool → Bool → Status → Type 0
LooksForEnd command g old new Usage = ⊤
LooksForEnd command g old new (Limit k) = ⊤
LooksForEnd command g old new OutOfMemory = ⊤
LooksForEnd command g old new (Input needed took) =
    (needed ≡ bytes_needed command g) × MatchBool new (took < needed) (took ≡ needed + 1)
LooksForEnd command g old new InputFault = ⊤
LooksForEnd command g old new _ = (old ≡ false) × (new ≡ true)

-- these are the cells of a codeword
abbrev pub IsCodewordBytes : Geometry → List ℕ → Type 0
IsCodewordBytes g output = (codeword : Stripe) × IsCodeword g codeword × HasBytes g codeword output

-- what a command puts out where all was done: a line, or the cells of a codeword
abbrev pub IsOutput : StripeCommand → Geometry → List ℕ → Type 0
IsOutput Check g output = output ≡ codeword_line
IsOutput (Encode method) g output = IsCodewordBytes g output
IsOutput Restore g output = IsCodewordBytes g output

-- The output is written if all was done, a part of it if the sink failed, and nothing else ever.
abbrev pub PutsOut : StripeCommand → Geometry → Option (List ℕ) → Option (List ℕ) → Status → Type 0
PutsOut command g old new Done = (output : List ℕ) × IsOutput command g output
    × Appends old new output
PutsOut command g old new OutputFault = (output : List ℕ) × IsOutput command g output
    × PutsPart old new output
PutsOut command g old new _ = Keeps old new

-- the counter rose by the steps of the method's encoder where the cells of an encoded stripe, or a part
-- of them, were put out; nothing else is counted
abbrev pub CountsSteps : StripeCommand → Geometry → Status → ℕ → ℕ → Type 0
CountsSteps (Encode method) g Done old new = TakesSteps method g old new
CountsSteps (Encode method) g OutputFault old new = TakesSteps method g old new
CountsSteps _ g _ old new = new ≡ old
