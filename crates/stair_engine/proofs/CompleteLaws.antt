-- Where a job can be done it is done, if there was memory.
use Rattle.std.proofs.Common.{◌≡◌, ◌≢◌, ◌∙◌, inl, inr, ℕ, zero, suc, ◌+◌, ◌-◌, ◌*◌, ◌/◌, ◌<◌, ◌≤◌, length-append, List, [], ◌∷◌, ◌++◌, All, Option, None, Some, IfSome, Result, Ok, Err, length, take, drop, true, false, refl, sym, ap, subst, arith}
use Rattle.std.specs.List.{concat}
use Rattle.std.specs.Prelude.{Bool, IsTrue, codes, nat_lt}
use Rattle.std.proofs.lemmas.Bool.{lt-ltb, ltb-false, ltb-true}
use Rattle.std.proofs.lemmas.List.{nil_from_length}
use lib.Seq.{drop-append_seam, take-append_seam}
use Rattle.std.proofs.lemmas.List.Elements.{All-head, All-tail}
use Rattle.stair_model.specs.CellSet.{CellSet, HasCell}
use Rattle.stair_model.specs.Codeword.{IsCodeword}
use Rattle.stair_model.specs.Geometry.{Geometry, IsWithinLimits, block_count}
use Rattle.stair_model.specs.Stripe.{SECTOR, Stripe, IsSector}
use Rattle.stair_model.proofs.LimitLaws.{none_broken}
use Rattle.stair_model.proofs.RestLaws.{subset_covered}
use Rattle.stair_base.specs.Equations.{equation_of}
use Rattle.stair_base.proofs.EquationLaws.{not_codeword}
use Rattle.stair_array.specs.Creates.{CanBeMade, Creates}
use Rattle.stair_state.specs.Blocks.{AreOfOneStripe}
use Rattle.stair_state.specs.State.{Content, State, without_seats, created_state}
use Rattle.stair_array.specs.Arrays.{blocks_of}
use Rattle.stair_member.specs.Seats.{Seat, Seats}
use Rattle.stair_array.specs.Machine.{PassesTests, SetFrozen, SetLabel, Step, WriteBlocks}
use Rattle.stair_conf.specs.Config.{TextReadsAs}
use Rattle.stair_conf.specs.declared.fault.ConfigFault.{ConfigFault}
use Rattle.stair_conf.specs.declared.job.Job.{Job}
use Rattle.stair_conf.specs.declared.job.Job.TheVariants.{OneStripe, Create, Exercise, Freeze, Guard, Label, Read, Rebuild, Plan, Replace, Report, Run, Scrub, Serve, Show, Thaw, Volume, Write}
use Rattle.stair_conf.specs.declared.job.StripeCommand.{StripeCommand}
use Rattle.stair_conf.specs.declared.job.StripeCommand.TheVariants.{Check, Encode, Restore}
use Rattle.stair_conf.specs.Words.{Spells}
use Rattle.stair_conf.proofs.ConfigLaws.{one_answer}
use Rattle.stair_conf.proofs.WordsLemmas.{spells_once}
use Rattle.stair_command.specs.Answer.{HasBytes, Judges}
use Rattle.stair_engine.specs.Cause.{HasCause}
use Rattle.stair_engine.specs.Complete.{CanBeDone, IsComplete, IsThawed, IsValidInput, IsFinished, IsScriptOf}
use Rattle.stair_engine.specs.Laws.{AllIsComplete, AllIsCompleteWithReinsertion, ReplacementIsDone, ScriptIsDone}
use Rattle.stair_engine.specs.Stands.{StandsThroughout}
use Rattle.stair_invariant.specs.Returning.{NoneReturns, Returning}
use Rattle.stair_command.specs.Outside.{Outside, Views, outside}
use Rattle.stair_engine.specs.Programs.{create_program, if_spelled, job_program, making_program, program_of}
use Rattle.stair_engine.specs.Scripts.{run_program, guard_program}
use Rattle.stair_engine.specs.Show.{show_text}
use Rattle.stair_command.specs.Rack.{ExecutesOver, RackView, Works, told_of}
use Rattle.stair_command.specs.Restore.{HoldsCells, IsErasedBy}
use Rattle.stair_engine.specs.Task.{one_stripe}
use Rattle.stair_status.specs.declared.status.Status.{Status}
use Rattle.stair_status.specs.declared.status.Status.TheVariants.{Done, NotCodeword, NoCodeword, Limit, Input, InputFault, OutputFault, Lost, OutOfMemory}
use Rattle.stair_engine.proofs.MeaningLaws.{told_more, words_are_done}
use Rattle.stair_engine.specs.Blocks.{IsInRange, if_in_range, read_program, within_range, write_program}
use Rattle.stair_command.specs.Transfers.{reads, writes, wrote}
use Rattle.stair_command.specs.Pieces.{part_of, piece_blocks, whole_of}
use Rattle.stair_engine.specs.Jobs.{MayAdmit, IsScripted}
use Rattle.stair_engine.specs.Mending.{if_live, if_slot, rebuild_program, rebuilt_line, replace_program, replaces, scrub_program, scrubs, stamps}
use Rattle.stair_array.specs.Promise.{Begun}
use Rattle.stair_invariant.specs.SeatSteps.{MayDrop}
use Rattle.stair_super.specs.declared.mark.Mark.{Mark}
use Rattle.stair_super.specs.declared.mark.Mark.TheVariants.{Down, Live, Rebuilding}
use Rattle.stair_command.specs.Devices.{DeviceView, ExecutesWhole, devices as at}
use Rattle.stair_command.specs.Ending.{AdmitsNone, AdmitsOnce, AllowsAtMost, EachStep, MakesNoCall}
use Rattle.stair_command.specs.Program.{Program as Programs, Over, Ask, Put, RebuildAll, Take, take_step, if_so}
use Rattle.stair_engine.proofs.CallLaws.{none_opened, stepless}
use Rattle.stair_engine.proofs.JobLaws.{job_admits_none, job_allowed, words_tell}
use Rattle.stair_engine.proofs.RangeLaws.{in_range_is}
use Rattle.stair_command.proofs.TurnLaws.{blocks_count, few_whole, part_long, part_short, piece_left, piece_some, piece_together, some_whole}
use Rattle.stair_engine.proofs.ServeLaws.{serve_done}
use Rattle.stair_engine.proofs.WordLaws.{over_spelled, spelled_so}
use Rattle.stair_command.specs.Question.{IsReply, Words}
use Rattle.stair_command.specs.Sure.{EachCanReplace, HasNoFault, IsDone, Completes, IsRebuiltFrom, Last, More, ServesAlong, ServesThroughout, most_allowed}
use Rattle.stair_command.specs.Run.{history_of}
use Rattle.stair_command.proofs.PlannedLaws.{EachStepOf, steps_of}
use Rattle.stair_command.specs.Served.{EndsServed}
use Rattle.stair_command.proofs.PlannedSureLaws.{none_replaced, none_replaced_in, planned_sure}
use Rattle.stair_command.proofs.ServedLaws.{ends_as_served, planned_served}
use Rattle.stair_engine.proofs.VolumesLaws.{costs_call_none, costs_sure, spelled_command, volumes_end}
use Rattle.stair_volume.specs.Ends.{MayEnd}
use Rattle.stair_command.proofs.SureDeviceLaws.{devices_replace}
use Rattle.stair_engine.proofs.MendLaws.{replaces_once}
use Rattle.stair_engine.proofs.OpenLaws.{opening_once}
use Rattle.stair_engine.proofs.ExerciseSureLaws.{exercise_sure}
use Rattle.stair_engine.proofs.HaltLaws.{guarded_ends}
use Rattle.stair_engine.proofs.ReportLaws.{callless_done, report_calls_none, report_sure}
use Rattle.stair_engine.specs.Halts.{unguarded, unguarded_program}
use Rattle.stair_engine.proofs.ScriptSureLaws.{run_sure, script_admits_none}
use Rattle.stair_engine.proofs.SureLaws.{opens_sure, serves_limits, still_thawed}
use Rattle.stair_command.proofs.AllEnds.{AllEnd}
use Rattle.stair_command.proofs.AlongLaws.{along_any}
use Rattle.stair_script.specs.declared.line.Line.{Line}
use Rattle.stair_monitor.specs.Reports.{report_program}
use Rattle.stair_command.specs.Trace.{AlongTrace, StepsProgram}
use Rattle.stair_command.proofs.SureLaws.{look_sure, stepless_done}

-- ---- bytes make one stripe

sectors_once : (xs ys : List (List ℕ)) → All IsSector xs → All IsSector ys → length xs ≡ length ys → concat xs ≡ concat ys → xs ≡ ys
sectors_once [] [] some also count same = refl
sectors_once (x ∷ xs) (y ∷ ys) some also count same =
    let long : length x ≡ length y = omega (arith, (All-head IsSector x xs some).0, (All-head IsSector y ys also).0) in
    let first : x ≡ y =
    sym (take-append_seam x (concat xs)) ∙ ap (take (length x)) same ∙ ap (λ n. take n (y ++ concat ys)) long ∙ take-append_seam y (concat ys) in
    let rest : concat xs ≡ concat ys =
    sym (drop-append_seam x (concat xs)) ∙ ap (drop (length x)) same ∙ ap (λ n. drop n (y ++ concat ys)) long ∙ drop-append_seam y (concat ys) in
    let later = sectors_once xs ys (All-tail IsSector x xs some) (All-tail IsSector y ys also) (omega (arith, count)) rest in
    λ i. first i ∷ later i
sectors_once [] (y ∷ ys) some also count same = absurd (omega (arith, count))
sectors_once (x ∷ xs) [] some also count same = absurd (omega (arith, count))

stripe_once : (g : Geometry) (a b : Stripe) (bytes : List ℕ) → HasBytes g a bytes → HasBytes g b bytes → a ≡ b
stripe_once g a b bytes x y =
    let rows : a.rows ≡ b.rows = x.of.rows ∙ sym y.of.rows in
    let chunks : a.chunks ≡ b.chunks = x.of.chunks ∙ sym y.of.chunks in
    let count : length a.cells ≡ length b.cells =
    x.well_formed.count ∙ ap (λ n. n * a.chunks) rows ∙ ap (λ n. b.rows * n) chunks ∙ sym y.well_formed.count in
    let cells = sectors_once a.cells b.cells x.well_formed.sectors y.well_formed.sectors count (x.same_bytes ∙ sym y.same_bytes) in
    λ i. record { rows = rows i; chunks = chunks i; cells = cells i }

-- ---- what is judged Done

-- a map erases the same cells, whichever set says so
same_erased : (g : Geometry) (map : List ℕ) (a b : CellSet) → IsErasedBy g map a → IsErasedBy g map b → (i j : ℕ) → HasCell a i j → HasCell b i j
same_erased g map a b x y i j has =
    let inside = x.within i j has in
    (y.marked i j inside.0 inside.1).1 ((x.marked i j inside.0 inside.1).0 has)

holds_also : (g : Geometry) (map : List ℕ) (a b : CellSet) (stripe codeword : Stripe) → IsErasedBy g map a → IsErasedBy g map b
    → HoldsCells g a stripe codeword → HoldsCells g b stripe codeword
holds_also g map a b stripe codeword x y holds = record {
  of = holds.of;
  well_formed = holds.well_formed;
  meets_equations = holds.meets_equations;
  held = λ i j row_in slot_in not. holds.held i j row_in slot_in (λ has. not (same_erased g map a b x y i j has));
}

-- a valid input is judged so alone
valid_done : (command : StripeCommand) (g : Geometry) (input : List ℕ) (status : Status) (output : List ℕ) → IsValidInput command g input
    → Judges command g input status output → status ≡ Done
valid_done Check g input Done output valid is = refl
valid_done Check g input (NotCodeword b) output valid is =
    let same = stripe_once g is.0 valid.fits.0 input is.1 valid.fits.1 in
    absurd (not_codeword g is.0 (equation_of b) is.2.0 (subst (λ (s : Stripe). IsCodeword g s) (sym same) valid.fits.2))
valid_done Check g input _ output valid is = absurd is.2
valid_done (Encode method) g input Done output valid is = refl
valid_done (Encode method) g input _ output valid is = absurd is.2
valid_done Restore g input Done output valid is = refl
valid_done Restore g input NoCodeword output valid is =
    let f = valid.fits in
    let same = stripe_once g is.1 f.1 _ is.3 f.4 in
    absurd (is.4.1 f.2 (subst (λ (s : Stripe). HoldsCells g is.0 s f.2) (sym same) (holds_also g _ f.0 is.0 f.1 f.2 f.3 is.2 f.6)))
valid_done Restore g input (Lost stripe counts n) output valid is =
    absurd (is.4.0 (subset_covered g is.0 valid.fits.0 (same_erased g _ is.0 valid.fits.0 is.2 valid.fits.3) valid.fits.5))
valid_done Restore g input _ output valid is = absurd is.4

-- a valid input is done
stripe_done : (command : StripeCommand) (g : Geometry) (input : List ℕ) (held held' : Option (List ℕ)) (status : Status) → IsValidInput command g input
    → HasCause command g input held held' status → (status ≡ InputFault → ⊥) → (status ≡ OutputFault → ⊥) → IsDone status
stripe_done command g input held held' Done valid cause no_input no_output = inl refl
stripe_done command g input held held' OutOfMemory valid cause no_input no_output = inr refl
stripe_done command g input held held' (NotCodeword b) valid cause no_input no_output = inl (valid_done command g input _ _ valid cause.1.judged)
stripe_done command g input held held' NoCodeword valid cause no_input no_output = inl (valid_done command g input _ _ valid cause.1.judged)
stripe_done command g input held held' (Lost stripe counts n) valid cause no_input no_output =
    inl (valid_done command g input _ _ valid cause.1.judged)
stripe_done command g input held held' (Limit k) valid cause no_input no_output = absurd (none_broken g k cause.1.0 valid.limits)
stripe_done command g input held held' (Input needed took) valid cause no_input no_output = absurd (cause.1.1.other valid.whole)
stripe_done command g input held held' InputFault valid cause no_input no_output = absurd (no_input refl)
stripe_done command g input held held' OutputFault valid cause no_input no_output = absurd (no_output refl)
stripe_done command g input held held' _ valid cause no_input no_output = absurd cause

-- a fact of told bytes
of_told : (told : Option (List ℕ)) (input : List ℕ) (P : List ℕ → Type 0) → told ≡ Some input → IfSome told P → P input
of_told told input P is fact = subst (λ (t : Option (List ℕ)). IfSome t P) is fact

-- what was taken is the text of the source
text_is : (told : Option (List ℕ)) (text input : List ℕ) (reply said : Result Geometry ConfigFault) → told ≡ Some input → IfSome told (λ all. text ≡ all)
    → TextReadsAs text reply → TextReadsAs input said → reply ≡ said
text_is told text input reply said is same reads of =
    one_answer text reply said reads
    (subst (λ (t : List ℕ). TextReadsAs t said) (sym (of_told told input (λ all. text ≡ all) is same)) of)

module _ {R S K : Type 0} (rack : RackView R) (view : Views S K) (a : Outside S K) (x : R) where
  abbrev Complete : Job → Status → Outside S K → R → Type 0
  Complete job end o z = IsComplete rack view job end a o x z

  making_done : (text : List ℕ) (reply : Result Geometry ConfigFault) (source : S) (n : ℕ) → IfSome (view.source.left a.source) (λ all. text ≡ all)
      → TextReadsAs text reply → AllEnd (Works rack) view (Complete Create) (making_program reply) (outside source a.sink n) x
  making_done text (Ok g) source n told reads = (
    (
      λ done z did. (λ sink holds none can. inl refl, λ part sink is holds none can. absurd (none.sink holds.2)),
      λ fault z did none can.
          let answers : Ok g ≡ Ok can.2.0 = text_is (view.source.left a.source) text can.0 (Ok g) (Ok can.2.0) can.1 told reads can.2.1 in
          let same : g ≡ can.2.0 = cc in
          let creates : Creates g (Err fault) (told_of rack x) (told_of rack z) = did in
          let clash : false ≡ true =
          creates.complete can.2.3 (subst (λ (k : Geometry). CanBeMade k (rack.history x) (rack.history z)) (sym same) can.2.4) in
          absurd cc,
    ),
    λ none can. inr refl,
  )
  making_done text (Err fault) source n told reads =
      λ none can. let clash = text_is (view.source.left a.source) text can.0 (Err fault) (Ok can.2.0) can.1 told reads can.2.1 in absurd cc

  create_done : AllEnd (Works rack) view (Complete Create) create_program a x
  create_done = (
    λ bytes source long gives none can.
        let taken = of_told (view.source.left a.source) can.0 (λ all. length bytes ≤ length all) can.1
        (told_more (view.source.left a.source) (view.source.left source) bytes gives.0) in
        absurd (omega (arith, can.2.2, long.enough, taken)),
    λ text source few gives. (
      λ reply n reads counts. making_done text reply source n gives.1 reads,
      λ none can. inr refl,
    ),
    λ bytes source few gives none can. absurd (none.source gives.4),
  )

-- ---- what is sure

-- blocks in range are read
reads_sure : (g : Geometry) (first count : ℕ) (s : State) (left : Option (List ℕ)) → first + count ≤ block_count s.geometry
    → Completes [] (reads g first count) s left
reads_sure g first zero s left within = refl
reads_sure g first (suc count) s left within = (
  λ seats is free. omega (arith, within),
  λ bytes gone later done. reads_sure g (first + 1) count later left (omega (arith, within, ap (λ (k : Geometry). block_count k) done.row.geometry)),
)

-- what is in range isn't refused for its range
within_sure : (g : Geometry) (first count : ℕ) (program : Programs) (s : State) (left : Option (List ℕ)) → IsInRange g first count
    → Completes [] program s left → Completes [] (within_range g first count program) s left
within_sure g first count program s left within sure =
    subst (λ (is : Bool). Completes [] (if_in_range g first is program) s left) (sym (in_range_is g first count within)) sure

read_sure : (first count : ℕ) (s : State) (left : Option (List ℕ)) → IsInRange s.geometry first count
    → Completes [] (read_program first count) s left
read_sure first count s left within =
    opens_sure (λ g. within_range g first count (reads g first count)) s left
    (λ later decided same.
    within_sure s.geometry first count (reads s.geometry first count) later left within
    (none_or first count s.geometry later left same within))
  where
    none_or : (first count : ℕ) (g : Geometry) (later : State) (left : Option (List ℕ)) → later.geometry ≡ g → IsInRange g first count
        → Completes [] (reads g first count) later left
    none_or first zero g later left same within = refl
    none_or first (suc count) g later left same within =
        reads_sure g first (suc count) later left (omega (arith, within (omega arith), ap (λ (k : Geometry). block_count k) same))

-- all stripes are scrubbed
scrubs_sure : (g : Geometry) (stripe count cells : ℕ) (s : State) (left : Option (List ℕ)) → stripe + count ≤ s.geometry.stripes
    → Completes [] (scrubs g stripe count cells) s left
scrubs_sure g stripe zero cells s left within = refl
scrubs_sure g stripe (suc count) cells s left within = (
  λ seats is free. omega (arith, within),
  λ repaired gone later done.
      scrubs_sure g (stripe + 1) count (cells + repaired) later left (omega (arith, within, ap (λ (k : Geometry). k.stripes) done.row.geometry)),
)

scrub_sure : (s : State) (left : Option (List ℕ)) → Completes [] scrub_program s left
scrub_sure s left =
    opens_sure (λ g. scrubs g 0 g.stripes 0) s left
    (λ later decided same. scrubs_sure s.geometry 0 s.geometry.stripes 0 later left (omega (arith, ap (λ (k : Geometry). k.stripes) same)))

-- what is rebuilt is rebuilt to its end
rebuild_sure : (s : State) (left : Option (List ℕ)) → Completes [] rebuild_program s left
rebuild_sure s left =
    opens_sure (λ g. RebuildAll g.n 0 (λ steps. Put (rebuilt_line steps) (Over Done))) s left (λ later decided same steps last rebuilt. refl)

-- A slot that is counted on and isn't Down is live once nothing is rebuilt any more.
up_live : (mark : Mark) → mark ≢ Down → mark ≢ Rebuilding → mark ≡ Live
up_live Live up built = refl
up_live Down up built = absurd (up refl)
up_live Rebuilding up built = absurd (built refl)

seats_once : {a b : Seats} → Some a ≡ Some b → a ≡ b
seats_once same = cc

rebuilt_live : (slot : ℕ) (end s : State) → IsRebuiltFrom (slot ∷ []) end s → (seats ended : Seats) → s.seats ≡ Some seats → end.seats ≡ Some ended
    → (seats slot).mark ≢ Down → (ended slot).mark ≡ Live
rebuilt_live slot end s (Last _ did) seats ended known last up =
    let begun : did.begun ≡ seats = seats_once (sym did.begins ∙ known) in
    let up_then : (did.begun slot).mark ≢ Down = subst (λ (is : Seats). (is slot).mark ≢ Down) (sym begun) up in
    let same : did.row.seats ≡ ended = seats_once (sym did.row.known ∙ last) in
    let still : (did.row.seats slot).mark ≢ Down = did.keeps slot (inl refl) up_then in
    subst (λ (is : Seats). (is slot).mark ≡ Live) same (dropped_or (did.row.marks.1 slot) still (did.row.marks.0 slot))
  where
    dropped_or : {old new : Seat} → MayDrop old new → new.mark ≢ Down → old.mark ≢ Rebuilding → new.mark ≡ Live
    dropped_or (inl same) up built = up_live _ up (λ is. built (sym (ap (λ (seat : Seat). seat.mark) same) ∙ is))
    dropped_or (inr drops) up built = absurd (up (ap (λ (seat : Seat). seat.mark) drops.1))
rebuilt_live slot end s (More _ mid progress did rest) seats ended known last up =
    let begun : did.begun ≡ seats = seats_once (sym did.begins ∙ known) in
    let up_then : (did.begun slot).mark ≢ Down = subst (λ (is : Seats). (is slot).mark ≢ Down) (sym begun) up in
    rebuilt_live slot end mid rest did.row.seats ended did.row.known last (did.keeps slot (inl refl) up_then)

-- a slot of the array is replaced, and is live in the end
replaces_sure : (g : Geometry) (slot : ℕ) (s : State) (left : Option (List ℕ)) → slot < s.geometry.n → Completes [] (replaces g slot) s left
replaces_sure g slot s left below = (
  λ seats known free. (below, free),
  λ given gone admitted done steps end rebuilt. (
    λ seats known free. tt,
    λ seats also shown look.
        let is : (done.row.seats slot).mark ≡ Rebuilding = done.row.marks.is in
        let up : (done.row.seats slot).mark ≢ Down = λ down. let never : Rebuilding ≡ Down = sym is ∙ down in cc in
        let live : (look.begun slot).mark ≡ Live = rebuilt_live slot end admitted rebuilt done.row.seats look.begun done.row.known look.begins up in
        let seen : (seats slot).mark ≡ Live = ap (λ (is : Seats). (is slot).mark) look.row.marks.0 ∙ live in
        subst (λ (mark : Mark). Completes (slot ∷ []) (if_live slot mark) shown left) (sym seen) refl,
  ),
)

replace_sure : (slot : ℕ) (s : State) (left : Option (List ℕ)) → slot < s.geometry.n → Completes [] (replace_program slot) s left
replace_sure slot s left below =
    opens_sure (λ g. if_slot g slot (nat_lt slot g.n) (replaces g slot)) s left
    (λ later decided same.
    subst (λ (has : Bool). Completes [] (if_slot s.geometry slot has (replaces s.geometry slot)) later left) (sym (lt-ltb slot s.geometry.n below))
    (replaces_sure s.geometry slot later left (omega (arith, below, ap (λ (g : Geometry). g.n) same))))

-- a step that passes its tests in any state
stamps_sure : (step : Step) (line : List ℕ) → ((s : State) (seats : Seats) → s.seats ≡ Some seats → PassesTests step s seats) → (s : State)
    (left : Option (List ℕ)) → Completes [] (stamps step line) s left
stamps_sure step line passes s left =
    opens_sure (λ g. take_step g.n step (λ done. Put line (Over Done))) s left
    (λ later decided same. (λ seats is free. passes later seats is, λ given gone last done. refl))

-- the end comes after the last block
wrote_sure : (all : ℕ) (s : State) → Completes [] (wrote all) s (Some [])
wrote_sure all s = (
  λ bytes rest told enough. absurd (omega (arith, ap length told, enough.enough, length-append bytes rest)),
  λ few. refl,
)

-- Blocks are written, as they come, of an array that isn't frozen.
module _ (g : Geometry) (first all : ℕ) (within : first + all ≤ block_count g) where
  writes_sure : (turns done : ℕ) (held : List ℕ) (s : State) (told : List ℕ) → all ≤ done + turns → done ≤ all
      → length held + length told ≡ SECTOR * (all - done) → length held < SECTOR → s.geometry ≡ g → s.content.frozen ≡ false
      → Completes [] (writes g first all turns done held) s (Some told)
  writes_sure zero done held s told fuel below long part same thawed =
      subst (λ (rest : List ℕ). Completes [] (wrote all) s (Some rest)) (sym (nil_from_length told (omega (arith, long, fuel, below))))
      (wrote_sure all s)
  writes_sure (suc turns) done held s told fuel below long part same thawed =
      by (nat_lt done all) refl
      (λ bytes later rest whole fits left. writes_sure turns (done + length (held ++ bytes) / SECTOR) (part_of (held ++ bytes)) later rest left
      fits.0 fits.1 (part_short (held ++ bytes)) whole.0 whole.1)
    where
      by : (left : Bool) → nat_lt done all ≡ left
          → ((bytes : List ℕ) (later : State) (rest : List ℕ) → (later.geometry ≡ g) × (later.content.frozen ≡ false)
          → (done + length (held ++ bytes) / SECTOR ≤ all)
          × (length (part_of (held ++ bytes)) + length rest ≡ SECTOR * (all - (done + length (held ++ bytes) / SECTOR)))
          → all ≤ done + length (held ++ bytes) / SECTOR + turns
          → Completes [] (writes g first all turns (done + length (held ++ bytes) / SECTOR) (part_of (held ++ bytes))) later (Some rest))
          → Completes []
          (if_so left
          (Take (SECTOR - length held) (SECTOR * piece_blocks g (first + done) (all - done) - length held)
          (λ bytes. take_step g.n (WriteBlocks (first + done) (blocks_of (whole_of (held ++ bytes))))
          (λ ok. writes g first all turns (done + length (held ++ bytes) / SECTOR) (part_of (held ++ bytes))))
          (λ bytes. Over (Input (SECTOR * all) (SECTOR * done + length (held ++ bytes))))) (wrote all)) s (Some told)
      by false is again =
          subst (λ (rest : List ℕ). Completes [] (wrote all) s (Some rest))
          (sym (nil_from_length told (omega (arith, long, ltb-false done all is)))) (wrote_sure all s)
      by true is again =
          let left = ltb-true done all is in (
            λ bytes rest all_told came.
                let some = piece_some g first all done left within in
                let blocks = piece_blocks g (first + done) (all - done) in
                let count = length (held ++ bytes) / SECTOR in
                let some_came : 0 < count = some_whole blocks held bytes part some came in
                let few : count ≤ blocks = few_whole blocks held bytes part some came in
                let fits : count ≤ all - done = omega (arith, few, piece_left g first all done left within) in
                let counted : length (blocks_of (whole_of (held ++ bytes))) ≡ count = blocks_count (held ++ bytes) in (
                  λ seats known free. (
                    subst (λ (k : Geometry). first + done < block_count k) (sym same) (omega (arith, within, left)),
                    subst (λ (k : Geometry). AreOfOneStripe k (first + done) (length (blocks_of (whole_of (held ++ bytes))))) (sym same)
                        (piece_together g first all done left within (length (blocks_of (whole_of (held ++ bytes)))) (omega (arith, counted, some_came))
                        (omega (arith, counted, few))),
                    thawed,
                  ),
                  λ ok gone later did.
                      again bytes later rest (did.row.geometry ∙ same, ap (λ (c : Content). c.frozen) did.row.holds.content ∙ thawed) (
                        omega (arith, fits, left),
                        omega (arith, ap length all_told, length-append bytes rest, length-append held bytes, part_long (held ++ bytes), long, fits, left),
                      )
                      (omega (arith, fuel, some_came)),
                ),
            λ few. absurd (omega (arith, few, long, left, part)),
          )

write_sure : (first count : ℕ) (s : State) (told : List ℕ) → IsInRange s.geometry first count → length told ≡ SECTOR * count
    → (0 < count → IsThawed s) → Completes [] (write_program first count) s (Some told)
write_sure first count s told within long thawed =
    opens_sure (λ g. within_range g first count (writes g first count count 0 [])) s (Some told)
    (λ later decided same.
    within_sure s.geometry first count (writes s.geometry first count count 0 []) later (Some told) within
    (by count s.geometry later same within long (λ some. still_thawed s later decided (thawed some))))
  where
    by : (count : ℕ) (g : Geometry) (later : State) → later.geometry ≡ g → IsInRange g first count → length told ≡ SECTOR * count
        → (0 < count → later.content.frozen ≡ false) → Completes [] (writes g first count count 0 []) later (Some told)
    by zero g later same within long thawed =
        subst (λ (rest : List ℕ). Completes [] (wrote 0) later (Some rest)) (sym (nil_from_length told (omega (arith, long)))) (wrote_sure 0 later)
    by (suc count) g later same within long thawed =
        writes_sure g first (suc count) (within (omega arith)) (suc count) 0 [] later told (omega arith) (omega arith) (omega (arith, long)) (omega arith)
        same (thawed (omega arith))

module _ {R S K : Type 0} (returning : Returning) (rack : RackView R) (view : Views S K) where
  show_done : (words : List (List ℕ)) (status : Status) (a b : Outside S K) (x y : R) → Spells words Show
      → ExecutesOver rack view (program_of words) (Over status) a b x y → HasNoFault view a b → IsTrue rack.honest
      → StandsThroughout returning (rack.history x) (rack.history y) → IsDone status
  show_done words status a b x y spells over none honest since =
      stepless_done returning rack honest since.before view (program_of words) status since.state a b x y over since.since since.stands since.calm none
      (spelled_so (λ program. Completes [] program (without_seats since.state) (view.source.left a.source)) words Show spells
      (look_sure [] show_text (without_seats since.state) (view.source.left a.source)))

-- a call of the words of a sure command, on an array that serves along its trace
module _ {R W S K : Type 0} (returning : Returning) (devices : DeviceView R W) (view : Views S K) (words : List (List ℕ)) (of : Job)
    (spells : Spells words of) (status : Status) (a b : Outside S K) (x y : R) (watchers left : List W)
    (whole : ExecutesWhole devices view (program_of words) (Over status) a b x y watchers left) (none : HasNoFault view a b) (s : State)
  where
    abbrev ServesIt : Type 0
    ServesIt = ServesAlong returning devices s whole.with.means.trace (at x Begun watchers) (at y whole.session left) whole.with.works

    served_where : ServesIt → EachCanReplace devices s.geometry whole.with.means.trace (at x Begun watchers) (at y whole.session left) whole.with.works
        → Completes [] (job_program of) (without_seats s) (view.source.left a.source) → IsDone status
    served_where serves can sure =
        planned_sure devices view returning (program_of words) status s a b x y watchers left whole
        (spelled_so (AllowsAtMost most_allowed) words of spells (job_allowed of)) serves none can
        (spelled_so (λ program. Completes [] program (without_seats s) (view.source.left a.source)) words of spells sure)

    -- which admits no medium
    served : ¬ MayAdmit of → ServesIt → Completes [] (job_program of) (without_seats s) (view.source.left a.source) → IsDone status
    served other serves sure =
        served_where serves
        (none_replaced devices view (program_of words) (Over status) s.geometry a b (at x Begun watchers) (at y whole.session left) whole.with
        (spelled_so (EachStep AdmitsNone) words of spells (job_admits_none of other))) sure

    -- or admits none of the source's input
    served_none : ServesIt → EachStepOf AdmitsNone (job_program of) (view.source.left a.source)
        → Completes [] (job_program of) (without_seats s) (view.source.left a.source) → IsDone status
    served_none serves admits sure =
        let last = at y whole.session left in
        served_where serves
        (none_replaced_in devices s.geometry (history_of devices last) whole.with.means.trace (at x Begun watchers) last whole.with.works
        (steps_of AdmitsNone view.source whole.with.means.trace (program_of words) (Over status) a.source b.source
        (spelled_so (λ program. EachStepOf AdmitsNone program (view.source.left a.source)) words of spells admits)
        whole.with.means.follows whole.with.means.bears.gives)) sure

    -- its geometry is within its limits
    served_limits : ServesIt → IsWithinLimits s.geometry
    served_limits serves =
        serves_limits returning devices s whole.with.means.trace (Ask (Words words) if_spelled) status (at x Begun watchers) (at y whole.session left)
        whole.with.works refl whole.with.means.follows serves

-- ---- scripts

-- the program without a guard is sure, and allows as many draws
unguarded_so : (IsSo : Programs → Type 0) (words : List (List ℕ)) (events fences : ℕ) → Spells words (Guard events fences) → IsSo run_program
    → (reply : Option Job) → IsReply (Words words) reply → IsSo (unguarded reply)
unguarded_so IsSo words events fences spells so None not = absurd (not (Guard events fences, spells))
unguarded_so IsSo words events fences spells so (Some job) read =
    subst (λ (j : Job). IsSo (unguarded (Some j))) (spells_once words (Guard events fences) job spells read) so

module _ {R W S K : Type 0} (returning : Returning) (devices : DeviceView R W) (view : Views S K) (words : List (List ℕ)) where
  script_finished : (of : Job) → IsScripted of → Spells words of → (status : Status) (a b : Outside S K) (x y : R) (watchers left : List W)
      → (whole : ExecutesWhole devices view (program_of words) (Over status) a b x y watchers left) → HasNoFault view a b → (s : State) (input : List ℕ)
      (script : List Line) → IsScriptOf s script input
      → ServesAlong returning devices s whole.with.means.trace (at x Begun watchers) (at y whole.session left) whole.with.works
      → EachCanReplace devices s.geometry whole.with.means.trace (at x Begun watchers) (at y whole.session left) whole.with.works
      → view.source.left a.source ≡ Some input → IsFinished of status
  script_finished Run scripted spells status a b x y watchers left whole none s input script is serves can told =
      served_where returning devices view words Run spells status a b x y watchers left whole none s serves can
      (subst (λ (left : Option (List ℕ)). Completes [] run_program (without_seats s) left) (sym told) (run_sure s script input is))
  script_finished (Guard events fences) scripted spells status a b x y watchers left whole none s input script is serves can told =
      elim (guarded_ends words events fences spells whole.with.means.trace status whole.with.means.follows) [
        | inr halted ↦ inr (halted.0, halted.1)
        | inl own ↦ inl (done own.1)
      ]
    where
      -- it did as one that isn't guarded
      done : AlongTrace StepsProgram whole.with.means.trace (unguarded_program words) (Over status) → IsDone status
      done follows =
          planned_sure devices view returning (unguarded_program words) status s a b x y watchers left (record {
            session = whole.session;
            with = record {
              means = record { trace = whole.with.means.trace; follows = follows; bears = whole.with.means.bears };
              works = whole.with.works;
            };
          }) (unguarded_so (AllowsAtMost most_allowed) words events fences spells (job_allowed Run)) serves none can
          (unguarded_so (λ program. Completes [] program (without_seats s) (view.source.left a.source)) words events fences spells
          (subst (λ (left : Option (List ℕ)). Completes [] run_program (without_seats s) left) (sym told) (run_sure s script input is)))
  script_finished (OneStripe command n m r e) scripted spells status a b x y watchers left whole none s input script is serves can told = absurd scripted
  script_finished Create scripted spells status a b x y watchers left whole none s input script is serves can told = absurd scripted
  script_finished Show scripted spells status a b x y watchers left whole none s input script is serves can told = absurd scripted
  script_finished (Read first count) scripted spells status a b x y watchers left whole none s input script is serves can told = absurd scripted
  script_finished (Write first count) scripted spells status a b x y watchers left whole none s input script is serves can told = absurd scripted
  script_finished Scrub scripted spells status a b x y watchers left whole none s input script is serves can told = absurd scripted
  script_finished (Replace slot) scripted spells status a b x y watchers left whole none s input script is serves can told = absurd scripted
  script_finished Rebuild scripted spells status a b x y watchers left whole none s input script is serves can told = absurd scripted
  script_finished Freeze scripted spells status a b x y watchers left whole none s input script is serves can told = absurd scripted
  script_finished Thaw scripted spells status a b x y watchers left whole none s input script is serves can told = absurd scripted
  script_finished (Label text) scripted spells status a b x y watchers left whole none s input script is serves can told = absurd scripted
  script_finished (Exercise number count) scripted spells status a b x y watchers left whole none s input script is serves can told = absurd scripted
  script_finished Report scripted spells status a b x y watchers left whole none s input script is serves can told = absurd scripted
  script_finished Serve scripted spells status a b x y watchers left whole none s input script is serves can told = absurd scripted
  script_finished (Volume of) scripted spells status a b x y watchers left whole none s input script is serves can told = absurd scripted
  script_finished (Plan n m r e) scripted spells status a b x y watchers left whole none s input script is serves can told = absurd scripted

-- a state of some array, for what depends on none
any_state : State
any_state = created_state (one_stripe 0 0 0 [])

pub all_is_complete_with_reinsertion : (R W S K : Type 0) → AllIsCompleteWithReinsertion R W S K
all_is_complete_with_reinsertion R W S K returning devices view words (OneStripe command n m r e) status a b x y watchers left spells whole none can =
    let of = one_stripe n m r e in
    let does = words_are_done view words command n m r e status a b spells whole.with.means in
    let told = words_tell view words status a b whole.with.means in
    stripe_done command of can.0 (view.sink.held a.sink) (view.sink.held b.sink) status can.2
    (of_told (view.source.left a.source) can.0 (λ bytes. HasCause command of bytes (view.sink.held a.sink) (view.sink.held b.sink) status) can.1 does.cause)
    (λ is. none.source (told.input_fault is)) (λ is. none.sink (told.output_fault is))
all_is_complete_with_reinsertion R W S K returning devices view words Create status a b x y watchers left spells whole none can =
    over_spelled devices.rack view (Complete devices.rack view a x Create) words status a b x y
    (stepless devices view words status a b x y watchers left whole (none_opened words Create spells (λ no. no))) Create spells (λ no input. inr refl)
    (create_done devices.rack view a x) none can
all_is_complete_with_reinsertion R W S K returning devices view words Show status a b x y watchers left spells whole none can =
    show_done returning devices.rack view words status a b x y spells
    (stepless devices view words status a b x y watchers left whole (none_opened words Show spells (λ no. no))) none can.0 can.1
all_is_complete_with_reinsertion R W S K returning devices view words (Read first count) status a b x y watchers left spells whole none can =
    served returning devices view words (Read first count) spells status a b x y watchers left whole none can.0 (λ no. no) can.1
    (read_sure first count (without_seats can.0) (view.source.left a.source) can.2)
all_is_complete_with_reinsertion R W S K returning devices view words (Write first count) status a b x y watchers left spells whole none can =
    let is = can.2 in
    served returning devices view words (Write first count) spells status a b x y watchers left whole none is.0 (λ no. no) is.1
    (subst (λ (told : Option (List ℕ)). Completes [] (write_program first count) (without_seats is.0) told) (sym can.1)
    (write_sure first count (without_seats is.0) can.0 is.2 is.3 is.4))
all_is_complete_with_reinsertion R W S K returning devices view words Scrub status a b x y watchers left spells whole none can =
    served returning devices view words Scrub spells status a b x y watchers left whole none can.0 (λ no. no) can.1
    (scrub_sure (without_seats can.0) (view.source.left a.source))
all_is_complete_with_reinsertion R W S K returning devices view words (Replace slot) status a b x y watchers left spells whole none can =
    let device = can.2 in
    served_where returning devices view words (Replace slot) spells status a b x y watchers left whole none can.0 can.1
    (devices_replace returning devices view (program_of words) (Over status) can.0 slot a b x y watchers left whole
    (spelled_so (AdmitsOnce slot) words (Replace slot) spells
    (λ member. opening_once slot member.array.geometry.n _ (λ g. replaces_once g slot))) can.1 device)
    (replace_sure slot (without_seats can.0) (view.source.left a.source) device.stays.below)
all_is_complete_with_reinsertion R W S K returning devices view words Rebuild status a b x y watchers left spells whole none can =
    served returning devices view words Rebuild spells status a b x y watchers left whole none can.0 (λ no. no) can.1
    (rebuild_sure (without_seats can.0) (view.source.left a.source))
all_is_complete_with_reinsertion R W S K returning devices view words Freeze status a b x y watchers left spells whole none can =
    served returning devices view words Freeze spells status a b x y watchers left whole none can.0 (λ no. no) can.1
    (stamps_sure (SetFrozen true) (codes "frozen" ++ 10 ∷ []) (λ s seats is. tt) (without_seats can.0) (view.source.left a.source))
all_is_complete_with_reinsertion R W S K returning devices view words Thaw status a b x y watchers left spells whole none can =
    served returning devices view words Thaw spells status a b x y watchers left whole none can.0 (λ no. no) can.1
    (stamps_sure (SetFrozen false) (codes "thawed" ++ 10 ∷ []) (λ s seats is. tt) (without_seats can.0) (view.source.left a.source))
all_is_complete_with_reinsertion R W S K returning devices view words (Label text) status a b x y watchers left spells whole none can =
    served returning devices view words (Label text) spells status a b x y watchers left whole none can.0 (λ no. no) can.1
    (stamps_sure (SetLabel text) (codes "labelled" ++ 10 ∷ []) (λ s seats is. tt) (without_seats can.0) (view.source.left a.source))
all_is_complete_with_reinsertion R W S K returning devices view words (Exercise number count) status a b x y watchers left spells whole none can =
    served returning devices view words (Exercise number count) spells status a b x y watchers left whole none can.0 (λ no. no) can.1
    (exercise_sure number count (without_seats can.0) (view.source.left a.source)
    (served_limits returning devices view words (Exercise number count) spells status a b x y watchers left whole none can.0 can.1) can.2 can.3)
all_is_complete_with_reinsertion R W S K returning devices view words Run status a b x y watchers left spells whole none can =
    let is = can.2 in
    let script = is.2 in
    served_none returning devices view words Run spells status a b x y watchers left whole none is.0 is.1
    (subst (λ (told : Option (List ℕ)). EachStepOf AdmitsNone run_program told) (sym can.1)
    (script_admits_none false script.0 can.0 script.1.few script.1.script script.2))
    (subst (λ (told : Option (List ℕ)). Completes [] run_program (without_seats is.0) told) (sym can.1) (run_sure is.0 script.0 can.0 script.1))
all_is_complete_with_reinsertion R W S K returning devices view words (Guard events fences) status a b x y watchers left spells whole none can =
    let is = can.2 in
    let script = is.2 in
    script_finished returning devices view words (Guard events fences) tt spells status a b x y watchers left whole none is.0 can.0 script.0 script.1 is.1
    (none_replaced_in devices is.0.geometry (history_of devices (at y whole.session left)) whole.with.means.trace (at x Begun watchers)
    (at y whole.session left) whole.with.works
    (steps_of AdmitsNone view.source whole.with.means.trace (program_of words) (Over status) a.source b.source
    (spelled_so (λ program. EachStepOf AdmitsNone program (view.source.left a.source)) words (Guard events fences) spells
    (subst (λ (told : Option (List ℕ)). EachStepOf AdmitsNone guard_program told) (sym can.1)
    (script_admits_none true script.0 can.0 script.1.few script.1.script script.2)))
    whole.with.means.follows whole.with.means.bears.gives)) can.1
all_is_complete_with_reinsertion R W S K returning devices view words Report status a b x y watchers left spells whole none can =
    let events = can.2 in
    callless_done view (program_of words) status a b whole.with.means (spelled_so MakesNoCall words Report spells report_calls_none) none any_state
    (spelled_so (λ program. Completes [] program any_state (view.source.left a.source)) words Report spells
    (subst (λ (told : Option (List ℕ)). Completes [] report_program any_state told) (sym can.1) (report_sure any_state events.0 can.0 events.1 events.2)))
all_is_complete_with_reinsertion R W S K returning devices view words Serve status a b x y watchers left spells whole none can =
    let is = can.2 in
    serve_done returning devices view words spells status a b x y watchers left whole none is.0 is.1 can.0 can.1 is.2
all_is_complete_with_reinsertion R W S K returning devices view words (Volume of) status a b x y watchers left spells whole none can =
    let s = can.0 in
    let served =
    planned_served devices view returning (program_of words) status s a b x y watchers left whole
    (spelled_so (AllowsAtMost most_allowed) words (Volume of) spells (job_allowed (Volume of))) can.1
    (none_replaced devices view (program_of words) (Over status) s.geometry a b (at x Begun watchers) (at y whole.session left) whole.with
    (spelled_so (EachStep AdmitsNone) words (Volume of) spells (job_admits_none (Volume of) (λ no. no)))) in
    ends_as_served view (MayEnd of) devices (program_of words) status s a b x y watchers left whole served none
    (spelled_so (λ program. EndsServed (MayEnd of) program (without_seats s)) words (Volume of) spells
    (volumes_end of (without_seats s) (spelled_command words of spells)
    (served_limits returning devices view words (Volume of) spells status a b x y watchers left whole none s can.1)))
all_is_complete_with_reinsertion R W S K returning devices view words (Plan n m r e) status a b x y watchers left spells whole none can =
    callless_done view (program_of words) status a b whole.with.means
    (spelled_so MakesNoCall words (Plan n m r e) spells (costs_call_none (one_stripe n m r e))) none any_state
    (spelled_so (λ program. Completes [] program any_state (view.source.left a.source)) words (Plan n m r e) spells
    (costs_sure (one_stripe n m r e) any_state (view.source.left a.source) can))

-- what serves throughout serves along the trace
can_along : {R : Type 0} (returning : Returning) (Serves Also : State → Type 0) (rack : RackView R) (of : Job) (told : Option (List ℕ)) (x y : R)
    → ((s : State) → Serves s → Also s) → CanBeDone returning Serves rack of told x y → CanBeDone returning Also rack of told x y
can_along returning Serves Also rack (OneStripe command n m r e) told x y also can = can
can_along returning Serves Also rack Create told x y also can = can
can_along returning Serves Also rack Show told x y also can = can
can_along returning Serves Also rack (Read first count) told x y also can = (can.0, also can.0 can.1, can.2)
can_along returning Serves Also rack (Write first count) told x y also can =
    (can.0, can.1, (can.2.0, also can.2.0 can.2.1, can.2.2, can.2.3, can.2.4))
can_along returning Serves Also rack Scrub told x y also can = (can.0, also can.0 can.1)
can_along returning Serves Also rack (Replace slot) told x y also can = (can.0, also can.0 can.1, can.2)
can_along returning Serves Also rack Rebuild told x y also can = (can.0, also can.0 can.1)
can_along returning Serves Also rack Freeze told x y also can = (can.0, also can.0 can.1)
can_along returning Serves Also rack Thaw told x y also can = (can.0, also can.0 can.1)
can_along returning Serves Also rack (Label text) told x y also can = (can.0, also can.0 can.1)
can_along returning Serves Also rack (Exercise number count) told x y also can = (can.0, also can.0 can.1, can.2, can.3)
can_along returning Serves Also rack Run told x y also can = (can.0, can.1, (can.2.0, also can.2.0 can.2.1, can.2.2))
can_along returning Serves Also rack (Guard events fences) told x y also can = (can.0, can.1, (can.2.0, also can.2.0 can.2.1, can.2.2))
can_along returning Serves Also rack Report told x y also can = can
can_along returning Serves Also rack Serve told x y also can = (can.0, can.1, (can.2.0, also can.2.0 can.2.1, can.2.2))
can_along returning Serves Also rack (Volume of) told x y also can = (can.0, also can.0 can.1)
can_along returning Serves Also rack (Plan n m r e) told x y also can = can

pub all_is_complete : (R W S K : Type 0) → AllIsComplete R W S K
all_is_complete R W S K devices view words of status a b x y watchers left spells whole none can =
    let first = at x Begun watchers in
    let last = at y whole.session left in
    all_is_complete_with_reinsertion R W S K NoneReturns devices view words of status a b x y watchers left spells whole none
    (can_along NoneReturns (λ s. ServesThroughout devices.rack s x y)
    (λ s. ServesAlong NoneReturns devices s whole.with.means.trace first last whole.with.works) devices.rack of (view.source.left a.source) x y
    (λ s serves. along_any devices s whole.with.means.trace first last whole.with.works serves) can)

pub script_is_done : (R W S K : Type 0) → ScriptIsDone R W S K
script_is_done R W S K returning devices view words of script input status s a b x y watchers left spells scripted whole none serves told is can =
    script_finished returning devices view words of scripted spells status a b x y watchers left whole none s input script is serves can told

pub replacement_is_done : (R W S K : Type 0) → ReplacementIsDone R W S K
replacement_is_done R W S K returning devices view words slot status s a b x y watchers left spells whole none serves below can =
    served_where returning devices view words (Replace slot) spells status a b x y watchers left whole none s serves can
    (replace_sure slot (without_seats s) (view.source.left a.source) below)
