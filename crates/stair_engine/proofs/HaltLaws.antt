-- When a guarded script is halted: its trace compared with the program of an unguarded one.
use Rattle.std.proofs.Common.{◌≡◌, ◌∙◌, ◌⊎◌, inl, inr, ◌+◌, ◌≤◌, ◌++◌, ℕ, zero, suc, Bool, true, false, nat_lt, List, [], ◌∷◌, All, Option, None, Some, Ok, Err, ap, arith, length, refl, subst, sym}
use Rattle.std.specs.Prelude.{◌||◌}
use Rattle.std.proofs.lemmas.Bool.Decides.{nat_tests}
use Rattle.std.proofs.lemmas.List.Elements.{All-cons, All-nil}
use Rattle.stair_model.specs.Geometry.{Geometry}
use Rattle.stair_array.specs.Machine.{Answer, Chunk, Dropped, GivenBy, Nothing, Progress, Promoted, ReadBlock, RebuildNext, Recover, Refusal, ReplaceSlot, ScrubStripe, Step, WriteBlocks}
use Rattle.stair_array.specs.Machine as array
use Rattle.stair_conf.proofs.WordsLemmas.{spells_once}
use Rattle.stair_conf.specs.Words.{Spells}
use Rattle.stair_conf.specs.declared.job.Job.{Job}
use Rattle.stair_conf.specs.declared.job.Job.TheVariants.{Guard}
use Rattle.stair_member.specs.declared.fault.SurveyFault.{SurveyFault}
use Rattle.stair_member.specs.declared.fault.SurveyFault.TheVariants as survey
use Rattle.stair_rack.specs.Watching.{WatcherView}
use Rattle.stair_rack.specs.declared.watcher.Event.{Event}
use Rattle.stair_script.specs.declared.line.Line.{Line}
use Rattle.stair_script.specs.declared.line.Line.TheVariants.{Blank, Read, Write, Scrub, Replace, Rebuild}
use Rattle.stair_command.specs.Action.{Create, OkOf, Outcome, RefusalOf, Survey, refused, status_of_survey}
use Rattle.stair_command.specs.Devices.{DeviceView, Devices, WorksAll, some_left}
use Rattle.stair_command.specs.Program.{Program, Over, Ask, Take, Put, Allocate, Do, Try, RebuildAll, if_so, watch_step}
use Rattle.stair_command.specs.Question.{Costs, IsReply, Judgement, Limits, EventLine, Question, Reply, ScriptLine, Text, Words}
use Rattle.stair_command.specs.Refused.{status_of_refusal}
use Rattle.stair_command.specs.Trace.{TraceItem, Did, Found, Grew, HasPut, AlongTrace, StepsProgram, PutFailed, RanOut, Stepped, TakeFailed, Took, TookLast, after, events_of_trace}
use Rattle.stair_command.specs.Texts.{SCRIPT_LIMIT, ends_line}
use Rattle.stair_status.specs.declared.status.Status.{Status}
use Rattle.stair_status.specs.declared.status.Status.TheVariants.{Done, Halted, InputFault, OutOfMemory, OutOfRange, OutputFault}
use Rattle.stair_command.proofs.DeviceLaws.{are_told}
use Rattle.stair_command.proofs.EndLaws.{no_move}
use Rattle.stair_watch.specs.WatcherList.{AllStay, AreLeft, GoesOn}
use Rattle.stair_engine.specs.Halts.{AllAreAnswered, EndsGuarded, IsBehindLine, halt_line, unguarded, unguarded_program}
use Rattle.stair_engine.specs.Laws.{GuardsHalt}
use Rattle.stair_engine.specs.Mending.{if_slot, rebuilt_line}
use Rattle.stair_engine.specs.Programs.{if_spelled, program_of}
use Rattle.stair_engine.specs.Scripts.{MAX_SCRIPT_LINE, admitted_reply, all_lines, does_line, if_halted, if_line, if_nothing, if_stripe, last_line, line_program, lines, read_reply, script_program, scrubbed_reply, some_rebuilds, wrote_reply}

-- a status that no halt is
abbrev IsNoHalt : Status → Type 0
IsNoHalt status = (number : ℕ) → status ≡ Halted number → ⊥

-- ---- programs compared

-- how many lines came once this was decided
abbrev line_after : Question → ℕ → ℕ
line_after (ScriptLine line) number = number + 1
line_after question number = number

-- The one program is guarded, and the other isn't: so many lines came, and a watcher left at the last of them, or none did. They go the same
-- way up to where the one is halted, and the other is after that line.
abbrev Beside : (number : ℕ) (gone : Bool) → Program → Program → Type 0
Beside number gone (Over status) other =
    ((other ≡ Over status) × IsNoHalt status × (gone ≡ false)) ⊎ ((status ≡ Halted number) × (gone ≡ true) × IsBehindLine number other)
Beside number gone (Ask question k) other =
    (j : Reply question → Program) × (other ≡ Ask question j) × (gone ≡ false)
    × ((reply : Reply question) → IsReply question reply → Beside (line_after question number) gone (k reply) (j reply))
Beside number gone (Take least most k short) other =
    (j : List ℕ → Program) × (fewer : List ℕ → Program) × (other ≡ Take least most j fewer) × (gone ≡ false)
    × ((bytes : List ℕ) → Beside number gone (k bytes) (j bytes)) × ((bytes : List ℕ) → Beside number gone (short bytes) (fewer bytes))
Beside number gone (Put bytes program) other = (rest : Program) × (other ≡ Put bytes rest) × Beside number gone program rest
Beside number gone (Allocate program) other = (rest : Program) × (other ≡ Allocate rest) × (gone ≡ false) × Beside number gone program rest
Beside number gone (Do action k) other =
    (j : OkOf action → Program) × (other ≡ Do action j) × (gone ≡ false) × ((done : OkOf action) → Beside number gone (k done) (j done))
    × ((refusal : RefusalOf action) → IsNoHalt (refused action refusal))
Beside number gone (Try step k) other =
    (j : Answer step → Bool → Program) × (other ≡ Try step j)
    × ((given : GivenBy step) (left : Bool) → Beside number (gone || left) (k (Ok given) left) (j (Ok given) left))
    × ((refusal : Refusal) (left : Bool) → (status : Status) × (k (Err refusal) left ≡ Over status) × (j (Err refusal) left ≡ Over status) × IsNoHalt status)
Beside number gone (RebuildAll slots done k) other = ⊥

-- ---- traces

-- the line at which a watcher left, the last one so far or a later one
abbrev halt_of : Bool → ℕ → List TraceItem → Option ℕ
halt_of true number trace = Some number
halt_of false number trace = halt_line number trace

-- The ends of the traces of the one and of the other.
abbrev Ended : (number : ℕ) (gone : Bool) → List TraceItem → Status → Program → Type 0
Ended number gone trace status other =
    (IsNoHalt status × AlongTrace StepsProgram trace other (Over status) × (AllAreAnswered trace → halt_of gone number trace ≡ None))
    ⊎ ((at : ℕ) × (status ≡ Halted at) × (halt_of gone number trace ≡ Some at) × AllAreAnswered trace
    × (rest : Program) × AlongTrace StepsProgram trace other rest × IsBehindLine at rest)

module _ (number next : ℕ) (gone left : Bool) (item : TraceItem) (trace : List TraceItem) (status : Status) (other rest : Program) (moves : StepsProgram item other rest)
    (halts : halt_of gone number (item ∷ trace) ≡ halt_of left next trace) (answered : AllAreAnswered (item ∷ trace) → AllAreAnswered trace)
    (also : AllAreAnswered trace → AllAreAnswered (item ∷ trace)) where
  -- one item, and what came after it
  behind_item : Ended next left trace status rest → Ended number gone (item ∷ trace) status other
  behind_item (inl own) = inl (own.0, (rest, moves, own.1), λ all. halts ∙ own.2 (answered all))
  behind_item (inr halted) =
      inr (halted.0, halted.1, halts ∙ halted.2, also halted.3, halted.4, (rest, moves, halted.5), halted.6)

-- a program that is over ends the trace
over_ends : (trace : List TraceItem) (status : Status) (rest : Program) → AlongTrace StepsProgram trace (Over status) rest → (trace ≡ []) × (rest ≡ Over status)
over_ends [] status rest follows = (refl, follows)
over_ends (item ∷ trace) status rest follows = absurd (no_move item status follows.0 follows.1)

-- So it does at an item by which the call ends.
module _ (number : ℕ) (gone : Bool) (item : TraceItem) (trace : List TraceItem) (end status : Status) (other : Program) (none : IsNoHalt end)
    (moves : StepsProgram item other (Over end)) (unless : AllAreAnswered (item ∷ []) → halt_of gone number (item ∷ []) ≡ None) where
  ended_by : AlongTrace StepsProgram trace (Over end) (Over status) → Ended number gone (item ∷ trace) status other
  ended_by follows =
      let over = over_ends trace end (Over status) follows in
      let same : status ≡ end = let both = over.1 in cc in
      subst (λ (rest : List TraceItem). Ended number gone (item ∷ rest) status other) (sym over.0)
      (subst (λ (s : Status). Ended number gone (item ∷ []) s other) (sym same) (inl (none, (Over end, moves, refl), unless)))

found_number : (question : Question) (number : ℕ) (trace : List TraceItem)
    → halt_line number (Found question ∷ trace) ≡ halt_line (line_after question number) trace
found_number (ScriptLine line) number trace = refl
found_number (Words words) number trace = refl
found_number (Limits g) number trace = refl
found_number (Text text) number trace = refl
found_number (Judgement command g input) number trace = refl
found_number (EventLine line) number trace = refl
found_number (Costs g) number trace = refl

no_halt_input : IsNoHalt InputFault
no_halt_input number is = cc

no_halt_output : IsNoHalt OutputFault
no_halt_output number is = cc

no_halt_memory : IsNoHalt OutOfMemory
no_halt_memory number is = cc

stepped_halt : (step : Step) (answer : Answer step) (events : List Event) (gone left : Bool) (number : ℕ) (trace : List TraceItem)
    → halt_of gone number (Stepped step answer events left ∷ trace) ≡ halt_of (gone || left) number trace
stepped_halt step answer events true left number trace = refl
stepped_halt step answer events false true number trace = refl
stepped_halt step answer events false false number trace = refl

ends : (trace : List TraceItem) (program other : Program) (status : Status) (number : ℕ) (gone : Bool) → Beside number gone program other
    → AlongTrace StepsProgram trace program (Over status) → Ended number gone trace status other
ends [] program other status number gone beside follows = by (subst (λ (p : Program). Beside number gone p other) (sym follows) beside)
  where
    by : Beside number gone (Over status) other → Ended number gone [] status other
    by (inl own) = inl (own.1, sym own.0, λ all. ap (λ (g : Bool). halt_of g number []) own.2)
    by (inr halted) = inr (number, halted.0, ap (λ (g : Bool). halt_of g number []) halted.1, tt, other, refl, halted.2)
ends (Found asked ∷ trace) (Ask question k) other status number gone beside follows =
    let move = follows.1 in
    let reply = move.0 in
    let later : AlongTrace StepsProgram trace (k reply) (Over status) = subst (λ (p : Program). AlongTrace StepsProgram trace p (Over status)) move.3 follows.2 in
    let halts : halt_of gone number (Found asked ∷ trace) ≡ halt_of gone (line_after question number) trace =
    subst (λ (g : Bool). halt_of g number (Found asked ∷ trace) ≡ halt_of g (line_after question number) trace) (sym beside.2)
    (ap (λ (q : Question). halt_line number (Found q ∷ trace)) move.1 ∙ found_number question number trace) in
    behind_item number (line_after question number) gone gone (Found asked) trace status other (beside.0 reply)
    (subst (λ (p : Program). StepsProgram (Found asked) p (beside.0 reply)) (sym beside.1) (reply, move.1, move.2, refl)) halts (λ all. all) (λ all. all)
    (ends trace (k reply) (beside.0 reply) status (line_after question number) gone (beside.3 reply move.2) later)
ends (Took bytes ∷ trace) (Take least most k short) other status number gone beside follows =
    let later = subst (λ (p : Program). AlongTrace StepsProgram trace p (Over status)) follows.1.1 follows.2 in
    behind_item number number gone gone (Took bytes) trace status other (beside.0 bytes)
    (subst (λ (p : Program). StepsProgram (Took bytes) p (beside.0 bytes)) (sym beside.2) (follows.1.0, refl))
    (subst (λ (g : Bool). halt_of g number (Took bytes ∷ trace) ≡ halt_of g number trace) (sym beside.3) refl) (λ all. all) (λ all. all)
    (ends trace (k bytes) (beside.0 bytes) status number gone (beside.4 bytes) later)
ends (TookLast bytes ∷ trace) (Take least most k short) other status number gone beside follows =
    let later = subst (λ (p : Program). AlongTrace StepsProgram trace p (Over status)) follows.1.1 follows.2 in
    behind_item number number gone gone (TookLast bytes) trace status other (beside.1 bytes)
    (subst (λ (p : Program). StepsProgram (TookLast bytes) p (beside.1 bytes)) (sym beside.2) (follows.1.0, refl))
    (subst (λ (g : Bool). halt_of g number (TookLast bytes ∷ trace) ≡ halt_of g number trace) (sym beside.3) refl) (λ all. all) (λ all. all)
    (ends trace (short bytes) (beside.1 bytes) status number gone (beside.5 bytes) later)
ends (TakeFailed bytes ∷ trace) (Take least most k short) other status number gone beside follows =
    ended_by number gone (TakeFailed bytes) trace InputFault status other no_halt_input
    (subst (λ (p : Program). StepsProgram (TakeFailed bytes) p (Over InputFault)) (sym beside.2) (follows.1.0, refl))
    (λ all. ap (λ (g : Bool). halt_of g number (TakeFailed bytes ∷ [])) beside.3)
    (subst (λ (p : Program). AlongTrace StepsProgram trace p (Over status)) follows.1.1 follows.2)
ends (HasPut bytes ∷ trace) (Put all program) other status number gone beside follows =
    let later = subst (λ (p : Program). AlongTrace StepsProgram trace p (Over status)) follows.1.1 follows.2 in
    behind_item number number gone gone (HasPut bytes) trace status other beside.0
    (subst (λ (p : Program). StepsProgram (HasPut bytes) p beside.0) (sym beside.1) (follows.1.0, refl)) (put_halt gone) (λ all. all) (λ all. all)
    (ends trace program beside.0 status number gone beside.2 later)
  where
    put_halt : (gone : Bool) → halt_of gone number (HasPut bytes ∷ trace) ≡ halt_of gone number trace
    put_halt true = refl
    put_halt false = refl
ends (PutFailed part ∷ trace) (Put all program) other status number gone beside follows =
    ended_by number gone (PutFailed part) trace OutputFault status other no_halt_output
    (subst (λ (p : Program). StepsProgram (PutFailed part) p (Over OutputFault)) (sym beside.1) (follows.1.0, refl)) (λ all. absurd all)
    (subst (λ (p : Program). AlongTrace StepsProgram trace p (Over status)) follows.1.1 follows.2)
ends (Grew ∷ trace) (Allocate program) other status number gone beside follows =
    let later = subst (λ (p : Program). AlongTrace StepsProgram trace p (Over status)) follows.1 follows.2 in
    behind_item number number gone gone Grew trace status other beside.0
    (subst (λ (p : Program). StepsProgram Grew p beside.0) (sym beside.1) refl)
    (subst (λ (g : Bool). halt_of g number (Grew ∷ trace) ≡ halt_of g number trace) (sym beside.2) refl) (λ all. all) (λ all. all)
    (ends trace program beside.0 status number gone beside.3 later)
ends (RanOut ∷ trace) (Allocate program) other status number gone beside follows =
    ended_by number gone RanOut trace OutOfMemory status other no_halt_memory
    (subst (λ (p : Program). StepsProgram RanOut p (Over OutOfMemory)) (sym beside.1) refl)
    (λ all. ap (λ (g : Bool). halt_of g number (RanOut ∷ [])) beside.2)
    (subst (λ (p : Program). AlongTrace StepsProgram trace p (Over status)) follows.1 follows.2)
ends (Did did came ∷ trace) (Do action k) other status number gone beside follows =
    by follows.1.0 follows.1.1 (subst (λ (p : Program). AlongTrace StepsProgram trace p (Over status)) follows.1.2 follows.2)
    (λ done later. ends trace (k done) (beside.0 done) status number gone (beside.3 done) later)
  where
    moves_to : (outcome : Outcome action) → Did did came ≡ Did action outcome → StepsProgram (Did did came) other (after action beside.0 outcome)
    moves_to outcome same = subst (λ (p : Program). StepsProgram (Did did came) p (after action beside.0 outcome)) (sym beside.1) (outcome, same, refl)

    by : (outcome : Outcome action) → Did did came ≡ Did action outcome → AlongTrace StepsProgram trace (after action k outcome) (Over status)
        → ((done : OkOf action) → AlongTrace StepsProgram trace (k done) (Over status) → Ended number gone trace status (beside.0 done))
        → Ended number gone (Did did came ∷ trace) status other
    by (Ok done) same later again =
        behind_item number number gone gone (Did did came) trace status other (beside.0 done) (moves_to (Ok done) same)
        (subst (λ (g : Bool). halt_of g number (Did did came ∷ trace) ≡ halt_of g number trace) (sym beside.2) refl) (λ all. all) (λ all. all) (again done later)
    by (Err refusal) same later again =
        ended_by number gone (Did did came) trace (refused action refusal) status other (beside.4 refusal) (moves_to (Err refusal) same)
        (λ all. ap (λ (g : Bool). halt_of g number (Did did came ∷ [])) beside.2) later
ends (Stepped did came events left ∷ trace) (Try step k) other status number gone beside follows =
    subst (λ (item : TraceItem). Ended number gone (item ∷ trace) status other) (sym follows.1.1)
    (by follows.1.0 (subst (λ (p : Program). AlongTrace StepsProgram trace p (Over status)) follows.1.2 follows.2)
    (λ given later. ends trace (k (Ok given) left) (beside.0 (Ok given) left) status number (gone || left) (beside.2 given left) later))
  where
    moves_to : (answer : Answer step) → StepsProgram (Stepped step answer events left) other (beside.0 answer left)
    moves_to answer = subst (λ (p : Program). StepsProgram (Stepped step answer events left) p (beside.0 answer left)) (sym beside.1) (answer, refl, refl)

    by : (answer : Answer step) → AlongTrace StepsProgram trace (k answer left) (Over status)
        → ((given : GivenBy step) → AlongTrace StepsProgram trace (k (Ok given) left) (Over status) → Ended number (gone || left) trace status (beside.0 (Ok given) left))
        → Ended number gone (Stepped step answer events left ∷ trace) status other
    by (Ok given) later again =
        behind_item number number gone (gone || left) (Stepped step (Ok given) events left) trace status other (beside.0 (Ok given) left)
        (moves_to (Ok given)) (stepped_halt step (Ok given) events gone left number trace) (λ all. all) (λ all. all) (again given later)
    by (Err refusal) later again =
        let over = beside.3 refusal left in
        ended_by number gone (Stepped step (Err refusal) events left) trace over.0 status other over.3
        (subst (λ (p : Program). StepsProgram (Stepped step (Err refusal) events left) other p) over.2 (moves_to (Err refusal))) (λ all. absurd all)
        (subst (λ (p : Program). AlongTrace StepsProgram trace p (Over status)) over.1 later)
ends (Stepped did came events left ∷ trace) (RebuildAll slots done k) other status number gone beside follows = absurd beside
ends (_ ∷ trace) _ other status number gone beside follows = absurd follows.1

-- ---- the program of a script

no_halt_refusal : (slots : ℕ) (refusal : Refusal) → IsNoHalt (status_of_refusal slots refusal)
no_halt_refusal slots (array.OutOfRange asked limit) number is = cc
no_halt_refusal slots array.Frozen number is = cc
no_halt_refusal slots (array.Lost stripe counts) number is = cc
no_halt_refusal slots (array.TooFew whys) number is = cc
no_halt_refusal slots array.EpochsSpent number is = cc
no_halt_refusal slots (array.JournalLost sector) number is = cc
no_halt_refusal slots (array.SlotBusy slot was) number is = cc
no_halt_refusal slots (array.Gone slot) number is = cc
no_halt_refusal slots (array.SmallDevice slot has needs) number is = cc
no_halt_refusal slots (array.AlreadyArray slot) number is = cc

no_halt_survey : (fault : SurveyFault) → IsNoHalt (status_of_survey fault)
no_halt_survey survey.NoArray number is = cc
no_halt_survey (survey.TwoArrays first second) number is = cc
no_halt_survey (survey.TooFew whys) number is = cc

-- a step, where both go on side by side
step_beside : (number : ℕ) (gone : Bool) (slots : ℕ) (step : Step) (k j : GivenBy step → Bool → Program)
    → ((given : GivenBy step) (left : Bool) → Beside number (gone || left) (k given left) (j given left))
    → Beside number gone (watch_step slots step k) (watch_step slots step j)
step_beside number gone slots step k j each =
    (_, refl, each, λ refusal left. (status_of_refusal slots refusal, refl, refl, no_halt_refusal slots refusal))

-- both end so by themselves
own_beside : (number : ℕ) (status : Status) → IsNoHalt status → Beside number false (Over status) (Over status)
own_beside number status none = inl (refl, none, refl)

module _ (number : ℕ) (rest other : Bool → Program) (each : (left : Bool) → Beside number left (rest left) (other left)) where
  put_beside : (bytes : List ℕ) (left : Bool) → Beside number left (Put bytes (rest left)) (Put bytes (other left))
  put_beside bytes left = (other left, refl, each left)

  rebuilds_beside : (slots left done : ℕ) (gone : Bool) (k j : ℕ → Bool → Program)
      → ((steps : ℕ) (gone : Bool) → Beside number gone (k steps gone) (j steps gone))
      → Beside number gone (some_rebuilds slots left done gone k) (some_rebuilds slots left done gone j)
  rebuilds_beside slots zero done gone k j behind = behind done gone
  rebuilds_beside slots (suc left) done gone k j behind =
      step_beside number gone slots RebuildNext _ _ (λ progress more. by progress more (rebuilds_beside slots left (done + 1) (gone || more) k j behind))
    where
      by : (progress : Progress) (more : Bool)
          → Beside number (gone || more) (some_rebuilds slots left (done + 1) (gone || more) k) (some_rebuilds slots left (done + 1) (gone || more) j)
          → Beside number (gone || more) (if_nothing (k done (gone || more)) (some_rebuilds slots left (done + 1) (gone || more) k) progress)
          (if_nothing (j done (gone || more)) (some_rebuilds slots left (done + 1) (gone || more) j) progress)
      by Nothing more again = behind done (gone || more)
      by (Chunk slot t) more again = again
      by (Promoted slot) more again = again
      by (Dropped slot) more again = again

  range_beside : (asked limit : ℕ) → Beside number false (Over (OutOfRange asked limit)) (Over (OutOfRange asked limit))
  range_beside asked limit = own_beside number (OutOfRange asked limit) (λ at is. cc)

  line_beside : (g : Geometry) (said : Line) → Beside number false (line_program g said rest) (line_program g said other)
  line_beside g Blank = each false
  line_beside g (Read block) =
      step_beside number false g.n (ReadBlock block) (λ contents left. Put (read_reply block contents) (rest left))
      (λ contents left. Put (read_reply block contents) (other left)) (λ contents left. put_beside (read_reply block contents) left)
  line_beside g (Write block contents) =
      step_beside number false g.n (WriteBlocks block (contents ∷ [])) (λ done left. Put (wrote_reply block) (rest left))
      (λ done left. Put (wrote_reply block) (other left)) (λ done left. put_beside (wrote_reply block) left)
  line_beside g (Scrub stripe) = by (nat_lt stripe g.stripes)
    where
      scrubs : (Bool → Program) → Program
      scrubs on = watch_step g.n (ScrubStripe stripe) (λ cells left. Put (scrubbed_reply stripe cells) (on left))

      by : (has : Bool) → Beside number false (if_stripe g stripe has (scrubs rest)) (if_stripe g stripe has (scrubs other))
      by true =
          step_beside number false g.n (ScrubStripe stripe) (λ cells left. Put (scrubbed_reply stripe cells) (rest left))
          (λ cells left. Put (scrubbed_reply stripe cells) (other left)) (λ cells left. put_beside (scrubbed_reply stripe cells) left)
      by false = range_beside stripe g.stripes
  line_beside g (Replace slot) = by (nat_lt slot g.n)
    where
      admits : (Bool → Program) → Program
      admits on = watch_step g.n (ReplaceSlot slot) (λ done left. Put (admitted_reply slot) (on left))

      by : (has : Bool) → Beside number false (if_slot g slot has (admits rest)) (if_slot g slot has (admits other))
      by true =
          step_beside number false g.n (ReplaceSlot slot) (λ done left. Put (admitted_reply slot) (rest left))
          (λ done left. Put (admitted_reply slot) (other left)) (λ done left. put_beside (admitted_reply slot) left)
      by false = range_beside slot g.n
  line_beside g (Rebuild steps) =
      rebuilds_beside g.n steps 0 false (λ done left. Put (rebuilt_line done) (rest left)) (λ done left. Put (rebuilt_line done) (other left))
      (λ done left. put_beside (rebuilt_line done) left)

-- after a line
halted_beside : (number : ℕ) (rest other : Program) → IsBehindLine number other → Beside number false rest other → (left : Bool)
    → Beside number left (if_halted true number rest left) (if_halted false number other left)
halted_beside number rest other behind goes true = inr (refl, refl, behind)
halted_beside number rest other behind goes false = goes

module _ (g : Geometry) where
  does_beside : (before : ℕ) (line : List ℕ) (rest other : Program) → IsBehindLine (before + 1) other → Beside (before + 1) false rest other
      → Beside before false (does_line g (before + 1) line (if_halted true (before + 1) rest)) (does_line g (before + 1) line (if_halted false (before + 1) other))
  does_beside before line rest other behind goes = (_, refl, refl, λ reply is. by reply)
    where
      by : (reply : Option Line)
          → Beside (before + 1) false (if_line g (before + 1) (if_halted true (before + 1) rest) reply) (if_line g (before + 1) (if_halted false (before + 1) other) reply)
      by None = own_beside (before + 1) _ (λ at is. cc)
      by (Some said) = line_beside (before + 1) _ _ (halted_beside (before + 1) rest other behind goes) g said

  last_beside : (before : ℕ) (line : List ℕ) → Beside before false (last_line true g (before + 1) line) (last_line false g (before + 1) line)
  last_beside before [] = own_beside before Done (λ at is. cc)
  last_beside before (byte ∷ line) =
      does_beside before (byte ∷ line) (Over Done) (Over Done) (inl refl) (own_beside (before + 1) Done (λ at is. cc))

  either_beside : (before : ℕ) (this that other another : Program) → Beside before false this other → Beside before false that another → (is : Bool)
      → Beside before false (if_so is this that) (if_so is other another)
  either_beside before this that other another one two true = one
  either_beside before this that other another one two false = two

  lines_beside : (room before : ℕ) (line : List ℕ) → Beside before false (lines true g room (before + 1) line) (lines false g room (before + 1) line)
  lines_beside zero before line = (_, _, refl, refl, λ more. own_beside before _ (λ at is. cc), λ none. last_beside before line)
  lines_beside (suc room) before line = (
    _,
    _,
    refl,
    refl,
    λ byte. either_beside before _ _ _ _
        (does_beside before line _ _ (inr (g, room, refl)) (lines_beside room (before + 1) []))
        (either_beside before _ _ _ _ (lines_beside room before (line ++ byte)) (own_beside before _ (λ at is. cc)) (nat_lt (length line) MAX_SCRIPT_LINE))
        (ends_line byte),
    λ none. last_beside before line,
  )

script_beside : Beside 0 false (script_program true) (script_program false)
script_beside = (
  _,
  refl,
  refl,
  λ member. (
    _,
    refl,
    refl,
    step_beside 0 false member.array.geometry.n Recover _ _
        (λ g left. halted_beside 0 (all_lines true g) (all_lines false g) (inr (g, SCRIPT_LIMIT, refl)) (lines_beside g SCRIPT_LIMIT 0 []) left),
  ),
  no_halt_survey,
)

words_beside : (words : List (List ℕ)) (events fences : ℕ) → Spells words (Guard events fences) → Beside 0 false (program_of words) (unguarded_program words)
words_beside words events fences spells = (_, refl, refl, (_, refl, refl, by))
  where
    by : (reply : Option Job) → IsReply (Words words) reply → Beside 0 false (if_spelled reply) (unguarded reply)
    by None not = absurd (not (Guard events fences, spells))
    by (Some of) read =
        subst (λ (j : Job). Beside 0 false (if_spelled (Some j)) (unguarded (Some j))) (spells_once words (Guard events fences) of spells read) script_beside

-- ---- watchers that are patient yet

module _ {W : Type 0} (view : WatcherView W) (events : List Event) where
  few_left : (old new : List W) → AreLeft view events old new → length new ≤ length old
  few_left [] new is = omega (arith, ap length is)
  few_left (w ∷ old) new (inl stays) = omega (arith, few_left old stays.1 stays.5, ap length stays.6)
  few_left (w ∷ old) new (inr gone) = omega (arith, few_left old new gone.1)

  all_go_on : (old new : List W) → AreLeft view events old new → length old ≤ length new → All (λ w. GoesOn events (view w).remaining_quota) old
  all_go_on [] new is many = All-nil (λ w. GoesOn events (view w).remaining_quota)
  all_go_on (w ∷ old) new (inl stays) many =
      All-cons (λ w. GoesOn events (view w).remaining_quota) w old stays.4 (all_go_on old stays.1 stays.5 (omega (arith, many, ap length stays.6)))
  all_go_on (w ∷ old) new (inr gone) many = absurd (omega (arith, many, few_left old new gone.1))

module _ {R W : Type 0} (view : DeviceView R W) where
  -- where none left they are as many
  as_many : (trace : List TraceItem) (number : ℕ) (x y : Devices R W) → AlongTrace (WorksAll view) trace x y → halt_line number trace ≡ None
      → length x.watchers ≤ length y.watchers
  as_many [] number x y works none = omega (arith, ap (λ (d : Devices R W). length d.watchers) works)
  as_many (Stepped step answer events true ∷ trace) number x y works none = absurd cc
  as_many (Stepped step answer events false ∷ trace) number x y works none =
      omega (arith, as_many trace number works.0 y works.2 none, kept works.1.2)
    where
      kept : false ≡ some_left x.watchers works.0.watchers → length x.watchers ≤ length works.0.watchers
      kept none = grind (arith, nat_tests, none)
  as_many (Found (ScriptLine line) ∷ trace) number x y works none =
      omega (arith, as_many trace (number + 1) works.0 y works.2 none, ap (λ (d : Devices R W). length d.watchers) works.1)
  as_many (Found (Words words) ∷ trace) number x y works none =
      omega (arith, as_many trace number works.0 y works.2 none, ap (λ (d : Devices R W). length d.watchers) works.1)
  as_many (Found (Limits g) ∷ trace) number x y works none =
      omega (arith, as_many trace number works.0 y works.2 none, ap (λ (d : Devices R W). length d.watchers) works.1)
  as_many (Found (Text text) ∷ trace) number x y works none =
      omega (arith, as_many trace number works.0 y works.2 none, ap (λ (d : Devices R W). length d.watchers) works.1)
  as_many (Found (Judgement command g input) ∷ trace) number x y works none =
      omega (arith, as_many trace number works.0 y works.2 none, ap (λ (d : Devices R W). length d.watchers) works.1)
  as_many (Found (EventLine line) ∷ trace) number x y works none =
      omega (arith, as_many trace number works.0 y works.2 none, ap (λ (d : Devices R W). length d.watchers) works.1)
  as_many (Found (Costs g) ∷ trace) number x y works none =
      omega (arith, as_many trace number works.0 y works.2 none, ap (λ (d : Devices R W). length d.watchers) works.1)
  as_many (Did (Create g) outcome ∷ trace) number x y works none =
      omega (arith, as_many trace number works.0 y works.2 none, ap length works.1.3)
  as_many (Did Survey outcome ∷ trace) number x y works none =
      omega (arith, as_many trace number works.0 y works.2 none, ap length works.1.3)
  as_many (Took bytes ∷ trace) number x y works none =
      omega (arith, as_many trace number works.0 y works.2 none, ap (λ (d : Devices R W). length d.watchers) works.1)
  as_many (TookLast bytes ∷ trace) number x y works none =
      omega (arith, as_many trace number works.0 y works.2 none, ap (λ (d : Devices R W). length d.watchers) works.1)
  as_many (TakeFailed bytes ∷ trace) number x y works none =
      omega (arith, as_many trace number works.0 y works.2 none, ap (λ (d : Devices R W). length d.watchers) works.1)
  as_many (HasPut bytes ∷ trace) number x y works none =
      omega (arith, as_many trace number works.0 y works.2 none, ap (λ (d : Devices R W). length d.watchers) works.1)
  as_many (PutFailed part ∷ trace) number x y works none =
      omega (arith, as_many trace number works.0 y works.2 none, ap (λ (d : Devices R W). length d.watchers) works.1)
  as_many (Grew ∷ trace) number x y works none =
      omega (arith, as_many trace number works.0 y works.2 none, ap (λ (d : Devices R W). length d.watchers) works.1)
  as_many (RanOut ∷ trace) number x y works none =
      omega (arith, as_many trace number works.0 y works.2 none, ap (λ (d : Devices R W). length d.watchers) works.1)

  -- the front of a trace
  front_of : (front rest : List TraceItem) (x z : Devices R W) → AlongTrace (WorksAll view) (front ++ rest) x z
      → (y : Devices R W) × AlongTrace (WorksAll view) front x y
  front_of [] rest x z works = (x, refl)
  front_of (item ∷ front) rest x z works =
      let behind = front_of front rest works.0 z works.2 in (behind.0, (works.0, works.1, behind.1))

  patient_yet : (front rest trace : List TraceItem) (x z : Devices R W) → AllStay view.watcher x.watchers → trace ≡ front ++ rest
      → AlongTrace (WorksAll view) trace x z → halt_line 0 front ≡ None
      → All (λ w. GoesOn (events_of_trace front) (view.watcher w).remaining_quota) x.watchers
  patient_yet front rest trace x z stay same works none =
      let part = front_of front rest x z (subst (λ (all : List TraceItem). AlongTrace (WorksAll view) all x z) same works) in
      all_go_on view.watcher (events_of_trace front) x.watchers part.0.watchers (are_told view front x part.0 stay part.1).left
      (as_many front 0 x part.0 part.1 none)

-- ---- how a guarded script ends

pub guarded_ends : (words : List (List ℕ)) (events fences : ℕ) → Spells words (Guard events fences) → (trace : List TraceItem) (status : Status)
    → AlongTrace StepsProgram trace (program_of words) (Over status) → Ended 0 false trace status (unguarded_program words)
guarded_ends words events fences spells trace status follows =
    ends trace (program_of words) (unguarded_program words) status 0 false (words_beside words events fences spells) follows

pub guards_halt : (R W S K : Type 0) → GuardsHalt R W S K
guards_halt R W S K view streams words events fences status a b x y watchers left spells stay whole =
    by (guarded_ends words events fences spells whole.with.means.trace status whole.with.means.follows)
  where
    trace : List TraceItem
    trace = whole.with.means.trace

    patient : (front rest : List TraceItem) → trace ≡ front ++ rest → halt_line 0 front ≡ None
        → All (λ w. GoesOn (events_of_trace front) (view.watcher w).remaining_quota) watchers
    patient front rest same none = patient_yet view front rest trace _ _ stay same whole.with.works none

    same_number : (m n : ℕ) → Halted m ≡ Halted n → m ≡ n
    same_number m n same = cc

    by : Ended 0 false trace status (unguarded_program words) → EndsGuarded view.watcher words status trace watchers
    by (inl own) = record {
      exact = λ number. (
        (λ is. absurd (own.0 number is)),
        (λ both. let none = own.2 both.1 in let some = both.0 in absurd cc),
      );
      halted = λ number is. absurd (own.0 number is);
      unhalted = λ none. own.1;
      patient = patient;
    }
    by (inr halted) = record {
      exact = λ number. (
        (λ is. (halted.2 ∙ ap Some (same_number halted.0 number (sym halted.1 ∙ is)), halted.3)),
        (λ both. let some : Some halted.0 ≡ Some number = sym halted.2 ∙ both.0 in let one : halted.0 ≡ number = cc in halted.1 ∙ ap Halted one),
      );
      halted = λ number is.
          (halted.4, halted.5, subst (λ (at : ℕ). IsBehindLine at halted.4) (same_number halted.0 number (sym halted.1 ∙ is)) halted.6);
      unhalted = λ none. absurd (none halted.0 halted.1);
      patient = patient;
    }
