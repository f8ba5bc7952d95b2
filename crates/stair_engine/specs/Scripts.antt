-- What `run` and `guard` do: they open an array, and do the lines of a script in order.
use Rattle.std.specs.Prelude.{◌≡◌, ◌+◌, ◌||◌, ℕ, zero, suc, Bool, true, false, nat_lt, List, [], ◌∷◌, ◌++◌, Option, None, Some, codes}
use Rattle.std.specs.Fmt.{decimal}
use Rattle.hex.specs.Hex.{encode_lower}
use Rattle.stair_model.specs.Geometry.{Geometry}
use Rattle.stair_array.specs.Machine.{Nothing, Progress, ReadBlock, RebuildNext, ReplaceSlot, ScrubStripe, WriteBlocks}
use Rattle.stair_script.specs.declared.line.Line.{Line}
use Rattle.stair_script.specs.declared.line.Line.TheVariants.{Blank, Read, Write, Scrub, Replace, Rebuild}
use Rattle.stair_command.specs.declared.fault.Fault.{Fault}
use Rattle.stair_command.specs.declared.fault.Fault.TheVariants as fault
use Rattle.stair_status.specs.declared.status.Status.TheVariants.{BadLine, Done, Halted, OutOfRange}
use Rattle.stair_command.specs.Executes.{Holds}
use Rattle.stair_command.specs.Outside.{SinkView}
use Rattle.stair_command.specs.Program.{Program, Over, Ask, Put, if_so, watch_step, watches_array}
use Rattle.stair_command.specs.Question.{ScriptLine}
use Rattle.stair_command.specs.Trace.{HasPut, IsPart, PutFailed}
use Rattle.stair_command.specs.Texts.{LineDoes, SCRIPT_LIMIT, by_lines, last_of}
use Rattle.stair_engine.specs.Mending.{if_slot, rebuilt_line}

-- REPLIES, each with its end

abbrev pub read_reply : (block : ℕ) → List ℕ → List ℕ
read_reply block contents = decimal block ++ (codes " " ++ (encode_lower contents ++ 10 ∷ []))

abbrev pub wrote_reply : (block : ℕ) → List ℕ
wrote_reply block = codes "wrote " ++ (decimal block ++ 10 ∷ [])

abbrev pub scrubbed_reply : (stripe cells : ℕ) → List ℕ
scrubbed_reply stripe cells = codes "scrubbed stripe " ++ (decimal stripe
    ++ (codes " cells " ++ (decimal cells ++ 10 ∷ [])))

abbrev pub admitted_reply : (slot : ℕ) → List ℕ
admitted_reply slot = codes "admitted " ++ (decimal slot ++ 10 ∷ [])

-- LINES

-- after a step of a rebuild: it ends if there was nothing to rebuild
abbrev pub if_nothing : Program → Program → Progress → Program
if_nothing end more Nothing = end
if_nothing end more progress = more

-- At most `left` steps of a rebuild, up to the first that finds nothing, after `done` steps. The rest takes their
-- number, and whether a watcher left at one of them or before.
abbrev pub some_rebuilds : (slots left done : ℕ) → Bool → (ℕ → Bool → Program) → Program
some_rebuilds slots zero done gone k = k done gone
some_rebuilds slots (suc left) done gone k = watch_step slots RebuildNext (λ progress more.
    if_nothing (k done (gone || more)) (some_rebuilds slots left (done + 1) (gone || more) k)
    progress)

-- the array has this stripe, or the call ends
abbrev pub if_stripe : Geometry → ℕ → Bool → Program → Program
if_stripe g stripe true program = program
if_stripe g stripe false program = Over (OutOfRange stripe g.stripes)

-- What a line says is done, and then its reply is put out. The rest takes whether a watcher left at it.
abbrev pub line_program : Geometry → Line → (Bool → Program) → Program
line_program g Blank rest = rest false
line_program g (Read block) rest = watch_step g.n (ReadBlock block)
    (λ contents left. Put (read_reply block contents) (rest left))
line_program g (Write block contents) rest = watch_step g.n (WriteBlocks block (contents ∷ []))
    (λ done left. Put (wrote_reply block) (rest left))
line_program g (Scrub stripe) rest = if_stripe g stripe (nat_lt stripe g.stripes)
    (watch_step g.n (ScrubStripe stripe)
    (λ cells left. Put (scrubbed_reply stripe cells) (rest left)))
line_program g (Replace slot) rest = if_slot g slot (nat_lt slot g.n)
    (watch_step g.n (ReplaceSlot slot) (λ done left. Put (admitted_reply slot) (rest left)))
line_program g (Rebuild steps) rest =
    some_rebuilds g.n steps 0 false (λ done left. Put (rebuilt_line done) (rest left))

-- what is put out before the rest, which is nothing for a blank line
abbrev pub replies : Option (List ℕ) → Program → Program
replies None rest = rest
replies (Some reply) rest = Put reply rest

-- it was put out, or a part of it
abbrev pub PutsReply : {K : Type 0} → SinkView K → Option (List ℕ) → K → K → Type 0
PutsReply view None old new = new ≡ old
PutsReply view (Some reply) old new = Holds view (HasPut reply) old new

pub record ReplyIsCut {K : Type 0} (view : SinkView K) (reply : Option (List ℕ)) (why : Fault)
    (old new : K) : Type 0 where
  pub is : why ≡ fault.Output
  pub whole : List ℕ
  pub some : reply ≡ Some whole
  pub part : List ℕ
  pub of : IsPart part whole
  pub holds : Holds view (PutFailed part) old new

-- does the line, or ends the call with its number if it is not a line
abbrev pub if_line : Geometry → (number : ℕ) → (Bool → Program) → Option Line → Program
if_line g number rest None = Over (BadLine number)
if_line g number rest (Some said) = line_program g said rest

abbrev pub does_line : Geometry → (number : ℕ) → List ℕ → (Bool → Program) → Program
does_line g number line rest = Ask (ScriptLine line) (if_line g number rest)

-- SCRIPTS

-- a line has at most so many bytes, without its end
abbrev pub MAX_SCRIPT_LINE : ℕ
MAX_SCRIPT_LINE = 1100

-- A guarded script is halted after a line at which a watcher left. The opening of the array is number 0.
abbrev pub if_halted : Bool → (number : ℕ) → Program → Bool → Program
if_halted guarded number rest left =
    if_so guarded (if_so left (Over (Halted number)) rest) rest

-- a line of a script comes to nothing that is known of it
abbrev pub script_line : Bool → Geometry → LineDoes (Unit {0})
script_line guarded g number line so_far rest =
    does_line g number line (if_halted guarded number (rest tt))

abbrev pub script_over : Unit {0} → Program
script_over so_far = Over Done

abbrev pub last_line : Bool → Geometry → (number : ℕ) → List ℕ → Program
last_line guarded g number line = last_of (script_line guarded g) script_over number line tt

-- The rest of a script: at most `room` more bytes, after these bytes of line `number`.
abbrev pub lines : Bool → Geometry → (room number : ℕ) → List ℕ → Program
lines guarded g room number line =
    by_lines MAX_SCRIPT_LINE (script_line guarded g) script_over room number line tt

abbrev pub all_lines : Bool → Geometry → Program
all_lines guarded g = lines guarded g SCRIPT_LIMIT 1 []

-- `run` does all lines, and `guard` those up to one at which a watcher left
abbrev pub script_program : Bool → Program
script_program guarded =
    watches_array (λ g left. if_halted guarded 0 (all_lines guarded g) left)

abbrev pub run_program : Program
run_program = script_program false

abbrev pub guard_program : Program
guard_program = script_program true
