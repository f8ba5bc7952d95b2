-- The whole blocks that came from the input of a `write` are written.
use Rattle.std.proofs.Common.{◌≡◌, ◌∙◌, ◌+◌, ◌-◌, ◌*◌, ◌/◌, ◌<◌, ◌≤◌, ℕ, zero, suc, List, [], ◌∷◌, ◌++◌, Option, None, Some, Ok, Err, Result, append_assoc, append-nil, zero-add, length-take, length, length-append, length-drop, take, drop, ap, ap₂, arith, refl, subst, sym}
use Rattle.std.specs.Prelude.{Bool, false, nat_lt, true}
use Rattle.std.specs.Simd.{first_chunks}
use Rattle.std.proofs.lemmas.Bool.{ltb-false}
use Rattle.std.proofs.lemmas.List.{drop-append-le, nil_from_length, take-append-drop, take-append-le}
use Rattle.std.proofs.Math.Seq.{take-append-add}
use Rattle.stair_model.specs.Geometry.{Geometry}
use Rattle.stair_rack.specs.declared.watcher.Event.{Event}
use Rattle.stair_model.specs.Stripe.{SECTOR}
use Rattle.stair_array.specs.Arrays.{blocks_of}
use Rattle.stair_array.specs.Machine.{Answer, Recover, Refusal, WriteBlocks}
use Rattle.stair_array.specs.Machine as array
use Rattle.stair_conf.specs.Words.{Spells}
use Rattle.stair_conf.specs.declared.job.Job.{Job}
use Rattle.stair_conf.specs.declared.job.Job.TheVariants.{Write}
use Rattle.stair_conf.proofs.WordsLemmas.{spells_once}
use Rattle.stair_command.specs.Action.{Outcome, Survey, status_of_survey}
use Rattle.stair_command.specs.Program.{Program, Over, Ask, Put, Allocate, take_step, unless_refused, if_so}
use Rattle.stair_command.specs.Question.{IsReply, Words}
use Rattle.stair_command.specs.Refused.{status_of_refusal}
use Rattle.stair_command.specs.Trace.{TraceItem, Found, Took, TookLast, TakeFailed, HasPut, PutFailed, Grew, RanOut, Did, Stepped, AlongTrace, StepsProgram, after, taken_in}
use Rattle.stair_status.specs.declared.status.Status.{Status}
use Rattle.stair_status.specs.declared.status.Status.TheVariants.{Done, Input, InputFault, OutOfMemory, OutputFault}
use Rattle.stair_command.proofs.EndLaws.{no_move}
use Rattle.stair_command.proofs.EndingLaws.{ends_so}
use Rattle.stair_engine.specs.Blocks.{if_in_range, is_in_range, within_range, write_program}
use Rattle.stair_command.specs.Transfers.{writes, wrote, wrote_line}
use Rattle.stair_command.specs.Pieces.{part_of, piece_blocks, whole_of}
use Rattle.stair_engine.specs.Came.{AreWritten, IsUnrefused}
use Rattle.stair_engine.specs.Laws.{WholeBlocksStand}
use Rattle.stair_engine.specs.Programs.{if_spelled, job_program, program_of}
use Rattle.stair_command.proofs.TurnLaws.{all_within, blocks_count, few_whole, part_long, part_short, some_whole, whole_long}
use Rattle.stair_command.proofs.WriteLaws.{turn, write_on}

-- ---- bytes as blocks

-- chunks of a list, and of what is after it
chunks_then : (n m : ℕ) (xs ys : List ℕ) → length xs ≡ n * SECTOR
    → first_chunks SECTOR (n + m) (xs ++ ys) ≡ first_chunks SECTOR n xs ++ first_chunks SECTOR m ys
chunks_then zero m xs ys long =
    ap₂ (λ (k : ℕ) (l : List ℕ). first_chunks SECTOR k l) (zero-add m) (ap (λ (l : List ℕ). l ++ ys) (nil_from_length xs (omega (arith, long))))
chunks_then (suc n) m xs ys long =
    let count : suc n + m ≡ suc (n + m) = omega arith in
    ap (λ (k : ℕ). first_chunks SECTOR k (xs ++ ys)) count
    ∙ ap₂ (λ (chunk : List ℕ) (rest : List ℕ). chunk ∷ first_chunks SECTOR (n + m) rest) (take-append-le SECTOR xs ys (omega (arith, long)))
    (drop-append-le SECTOR xs ys (omega (arith, long)))
    ∙ ap (λ (rest : List (List ℕ)). take SECTOR xs ∷ rest) (chunks_then n m (drop SECTOR xs) ys (omega (arith, length-drop SECTOR xs, long)))

-- the whole blocks, in both forms
whole_chunks : (bytes : List ℕ) → blocks_of (whole_of bytes) ≡ first_chunks SECTOR (length bytes / SECTOR) (whole_of bytes)
whole_chunks bytes =
    let count : length (whole_of bytes) / SECTOR ≡ length bytes / SECTOR = omega (arith, whole_long bytes) in
    ap (λ (n : ℕ). first_chunks SECTOR n (whole_of bytes)) count

all_chunks : (bytes : List ℕ) → first_chunks SECTOR (length bytes / SECTOR) bytes ≡ blocks_of (whole_of bytes)
all_chunks bytes =
    let n = length bytes / SECTOR in
    let none : n ≡ n + 0 = omega arith in
    ap₂ (λ (k : ℕ) (l : List ℕ). first_chunks SECTOR k l) none (sym (take-append-drop (n * SECTOR) bytes))
    ∙ chunks_then n 0 (whole_of bytes) (part_of bytes) (whole_long bytes) ∙ append-nil (first_chunks SECTOR n (whole_of bytes)) ∙ sym (whole_chunks bytes)

-- those of a list, and of what is left over of it with what is after it
blocks_join : (xs ys : List ℕ) → blocks_of (whole_of (xs ++ ys)) ≡ blocks_of (whole_of xs) ++ blocks_of (whole_of (part_of xs ++ ys))
blocks_join xs ys =
    let n = length xs / SECTOR in
    let m = length (part_of xs ++ ys) / SECTOR in
    let count : length (xs ++ ys) / SECTOR ≡ n + m = omega (arith, length-append xs ys, length-append (part_of xs) ys, part_long xs) in
    let split : xs ++ ys ≡ whole_of xs ++ (part_of xs ++ ys) =
    ap (λ (l : List ℕ). l ++ ys) (sym (take-append-drop (n * SECTOR) xs)) ∙ append_assoc (whole_of xs) (part_of xs) ys in
    sym (all_chunks (xs ++ ys)) ∙ ap₂ (λ (k : ℕ) (l : List ℕ). first_chunks SECTOR k l) count split
    ∙ chunks_then n m (whole_of xs) (part_of xs ++ ys) (whole_long xs)
    ∙ ap₂ (λ (a b : List (List ℕ)). a ++ b) (sym (whole_chunks xs)) (all_chunks (part_of xs ++ ys))

-- fewer bytes than a block
no_blocks : (bytes : List ℕ) → length bytes < SECTOR → blocks_of (whole_of bytes) ≡ []
no_blocks bytes few =
    let none : length bytes / SECTOR ≡ 0 = omega (arith, few) in
    sym (all_chunks bytes) ∙ ap (λ (n : ℕ). first_chunks SECTOR n bytes) none

-- ---- traces

over_still : (trace : List TraceItem) (end status : Status) → AlongTrace StepsProgram trace (Over end) (Over status) → trace ≡ []
over_still [] end status follows = refl
over_still (item ∷ trace) end status follows = absurd (no_move item end follows.0 follows.1)

refused_over : (slots : ℕ) (refusal : Refusal) → IsUnrefused (status_of_refusal slots refusal) → ⊥
refused_over slots (array.OutOfRange asked limit) is = is
refused_over slots array.Frozen is = is
refused_over slots (array.Lost stripe counts) is = is
refused_over slots (array.TooFew whys) is = is
refused_over slots array.EpochsSpent is = is
refused_over slots (array.JournalLost sector) is = is
refused_over slots (array.SlotBusy slot was) is = is
refused_over slots (array.Gone slot) is = is
refused_over slots (array.SmallDevice slot has needs) is = is
refused_over slots (array.AlreadyArray slot) is = is

-- what is left of a write writes what is left of its blocks, after bytes that were taken before
abbrev Writes : (first all done : ℕ) → List ℕ → List TraceItem → Type 0
Writes first all done held trace =
    AreWritten (first + done) (blocks_of (whole_of (take (SECTOR * (all - done)) (held ++ taken_in trace)))) trace

module _ (status : Status) (unrefused : IsUnrefused status) where
  -- nothing more is written
  ends_with : (end : Status) (block : ℕ) (contents : List (List ℕ)) (trace : List TraceItem) → AlongTrace StepsProgram trace (Over end) (Over status) → contents ≡ []
      → AreWritten block contents trace
  ends_with end block contents trace follows none =
      subst (λ (rest : List TraceItem). AreWritten block contents rest) (sym (over_still trace end status follows)) none

  line_writes : (all block : ℕ) (contents : List (List ℕ)) (trace : List TraceItem) → AlongTrace StepsProgram trace (Put (wrote_line all) (Over Done)) (Over status)
      → contents ≡ [] → AreWritten block contents trace
  line_writes all block contents [] follows none = none
  line_writes all block contents (HasPut bytes ∷ trace) follows none =
      ends_with Done block contents trace (subst (λ (program : Program). AlongTrace StepsProgram trace program (Over status)) follows.1.1 follows.2) none
  line_writes all block contents (PutFailed part ∷ trace) follows none =
      ends_with OutputFault block contents trace (subst (λ (program : Program). AlongTrace StepsProgram trace program (Over status)) follows.1.1 follows.2) none
  line_writes all block contents (item ∷ trace) follows none = absurd follows.1

  -- after the last block
  end_writes : (all block : ℕ) (contents : List (List ℕ)) (trace : List TraceItem) → AlongTrace StepsProgram trace (wrote all) (Over status) → contents ≡ []
      → AreWritten block contents trace
  end_writes all block contents [] follows none = none
  end_writes all block contents (Took bytes ∷ trace) follows none =
      ends_with (Input (SECTOR * all) (SECTOR * all + 1)) block contents trace
      (subst (λ (program : Program). AlongTrace StepsProgram trace program (Over status)) follows.1.1 follows.2) none
  end_writes all block contents (TookLast bytes ∷ trace) follows none =
      line_writes all block contents trace (subst (λ (program : Program). AlongTrace StepsProgram trace program (Over status)) follows.1.1 follows.2) none
  end_writes all block contents (TakeFailed bytes ∷ trace) follows none =
      ends_with InputFault block contents trace (subst (λ (program : Program). AlongTrace StepsProgram trace program (Over status)) follows.1.1 follows.2) none
  end_writes all block contents (item ∷ trace) follows none = absurd follows.1

  module _ (g : Geometry) (first all : ℕ) where
    -- a piece that came, whose step was answered so
    step_writes : (turns done : ℕ) (held bytes : List ℕ) (trace : List TraceItem) (answer : Answer (WriteBlocks (first + done) (blocks_of (whole_of (held ++ bytes)))))
        (events : List Event) (left : Bool) (rest : Program) → length (held ++ bytes) ≤ SECTOR * (all - done)
        → rest ≡ unless_refused g.n (λ ok left. writes g first all turns (done + length (held ++ bytes) / SECTOR) (part_of (held ++ bytes))) answer left
        → AlongTrace StepsProgram trace rest (Over status)
        → (AlongTrace StepsProgram trace (writes g first all turns (done + length (held ++ bytes) / SECTOR) (part_of (held ++ bytes))) (Over status)
        → Writes first all (done + length (held ++ bytes) / SECTOR) (part_of (held ++ bytes)) trace)
        → AreWritten (first + done) (blocks_of (whole_of (take (SECTOR * (all - done)) (held ++ (bytes ++ taken_in trace)))))
        (Stepped (WriteBlocks (first + done) (blocks_of (whole_of (held ++ bytes)))) answer events left ∷ trace)
    step_writes turns done held bytes trace (Ok ok) events left rest within goes follows again =
        let have = held ++ bytes in
        let n = length have / SECTOR in
        let long = SECTOR * (all - done) in
        let later = take (long - length have) (taken_in trace) in
        let all_long : long ≡ length have + (long - length have) = omega (arith, within) in
        let taken : take long (held ++ (bytes ++ taken_in trace)) ≡ have ++ later =
        ap₂ (λ (k : ℕ) (l : List ℕ). take k l) all_long (sym (append_assoc held bytes (taken_in trace)))
        ∙ take-append-add have (taken_in trace) (long - length have) in
        let part_is : SECTOR * (all - (done + n)) ≡ length (part_of have) + (long - length have) = omega (arith, within, part_long have, part_short have) in
        let left_over : take (SECTOR * (all - (done + n))) (part_of have ++ taken_in trace) ≡ part_of have ++ later =
        ap (λ (k : ℕ). take k (part_of have ++ taken_in trace)) part_is ∙ take-append-add (part_of have) (taken_in trace) (long - length have) in
        let next = again (subst (λ (program : Program). AlongTrace StepsProgram trace program (Over status)) goes follows) in
        let block : first + (done + n) ≡ first + done + length (blocks_of (whole_of have)) = omega (arith, blocks_count have) in (
          refl,
          blocks_of (whole_of (part_of have ++ later)),
          ap (λ (l : List ℕ). blocks_of (whole_of l)) taken ∙ blocks_join have later,
          subst (λ (b : ℕ). AreWritten b (blocks_of (whole_of (part_of have ++ later))) trace) block
              (subst (λ (l : List ℕ). AreWritten (first + (done + n)) (blocks_of (whole_of l)) trace) left_over next),
        )
    step_writes turns done held bytes trace (Err refusal) events left rest within goes follows again =
        let same = ends_so trace (status_of_refusal g.n refusal) status (subst (λ (program : Program). AlongTrace StepsProgram trace program (Over status)) goes follows) in
        absurd (refused_over g.n refusal (subst IsUnrefused same unrefused))

    came_writes : (turns done : ℕ) (held : List ℕ) (trace : List TraceItem) → all ≤ done + turns → done ≤ all → length held < SECTOR
        → AlongTrace StepsProgram trace (writes g first all turns done held) (Over status) → Writes first all done held trace
    came_writes zero done held trace fuel below part follows =
        let none : SECTOR * (all - done) ≡ 0 = omega (arith, fuel) in
        end_writes all (first + done) _ trace follows (ap (λ (n : ℕ). blocks_of (whole_of (take n (held ++ taken_in trace)))) none)
    came_writes (suc turns) done held trace fuel below part follows =
        by (nat_lt done all) refl trace follows
        (λ bytes rest fits. came_writes turns (done + length (held ++ bytes) / SECTOR) (part_of (held ++ bytes)) rest fits.0 fits.1 (part_short (held ++ bytes)))
      where
        short_none : (bytes : List ℕ) (trace : List TraceItem) (end : Status) → AlongTrace StepsProgram trace (Over end) (Over status) → length bytes < SECTOR - length held
            → AreWritten (first + done) (blocks_of (whole_of (take (SECTOR * (all - done)) (held ++ (bytes ++ taken_in trace))))) trace
        short_none bytes trace end follows few =
            subst (λ (rest : List TraceItem). AreWritten (first + done) (blocks_of (whole_of (take (SECTOR * (all - done)) (held ++ (bytes ++ taken_in rest))))) rest)
            (sym (over_still trace end status follows))
            (no_blocks (take (SECTOR * (all - done)) (held ++ (bytes ++ [])))
            (omega (arith, length-take (SECTOR * (all - done)) (held ++ (bytes ++ [])), length-append held (bytes ++ []), length-append bytes [], few, part)))

        by : (left : Bool) → nat_lt done all ≡ left → (trace : List TraceItem)
            → AlongTrace StepsProgram trace (if_so left (turn g first all turns done held) (wrote all)) (Over status)
            → ((bytes : List ℕ) (rest : List TraceItem) → (all ≤ done + length (held ++ bytes) / SECTOR + turns) × (done + length (held ++ bytes) / SECTOR ≤ all)
            → AlongTrace StepsProgram rest (writes g first all turns (done + length (held ++ bytes) / SECTOR) (part_of (held ++ bytes))) (Over status)
            → Writes first all (done + length (held ++ bytes) / SECTOR) (part_of (held ++ bytes)) rest)
            → Writes first all done held trace
        by false is trace follows again =
            let none : SECTOR * (all - done) ≡ 0 = omega (arith, ltb-false done all is) in
            end_writes all (first + done) _ trace follows (ap (λ (n : ℕ). blocks_of (whole_of (take n (held ++ taken_in trace)))) none)
        by true is [] follows again = absurd (let same : Over status ≡ turn g first all turns done held = follows in cc)
        by true is (Took bytes ∷ Stepped step came events gone ∷ trace) follows again =
            let enough = follows.1.0 in
            let blocks = piece_blocks g (first + done) (all - done) in
            let some : 0 < blocks = omega (arith, enough.enough, enough.within, part) in
            let few : blocks ≤ all - done = omega arith in
            let count = few_whole blocks held bytes part some enough in
            let moved = subst (λ (program : Program). StepsProgram (Stepped step came events gone) program follows.2.0) follows.1.1 follows.2.1 in
            subst (λ (item : TraceItem). AreWritten (first + done) (blocks_of (whole_of (take (SECTOR * (all - done)) (held ++ (bytes ++ taken_in trace)))))
            (item ∷ trace)) (sym moved.1)
            (step_writes turns done held bytes trace moved.0 events gone follows.2.0
            (omega (arith, all_within blocks held bytes part some enough, few)) moved.2 follows.2.2
            (again bytes trace (omega (arith, fuel, some_whole blocks held bytes part some enough), omega (arith, count, few, below))))
        by true is (TookLast bytes ∷ trace) follows again =
            short_none bytes trace _ (subst (λ (program : Program). AlongTrace StepsProgram trace program (Over status)) follows.1.1 follows.2) follows.1.0
        by true is (TakeFailed bytes ∷ trace) follows again =
            short_none bytes trace InputFault (subst (λ (program : Program). AlongTrace StepsProgram trace program (Over status)) follows.1.1 follows.2) follows.1.0
        by true is (Took bytes ∷ []) follows again =
            absurd (let same : Over status ≡ write_on g first all turns done (held ++ bytes) = follows.2 ∙ follows.1.1 in cc)
        by true is (Took bytes ∷ item ∷ trace) follows again = absurd (subst (λ (program : Program). StepsProgram item program follows.2.0) follows.1.1 follows.2.1)
        by true is (item ∷ trace) follows again = absurd follows.1

-- ---- a call

module _ (status : Status) (unrefused : IsUnrefused status) (first count : ℕ) where
  abbrev Stand : List TraceItem → Type 0
  Stand trace = AreWritten first (blocks_of (whole_of (take (SECTOR * count) (taken_in trace)))) trace

  nothing_taken : (n : ℕ) → blocks_of (whole_of (take n [])) ≡ []
  nothing_taken n = no_blocks (take n []) (omega (arith, length-take {A = ℕ} n []))

  -- where the call ended before anything was taken
  ends_early : (trace : List TraceItem) (end : Status) → AlongTrace StepsProgram trace (Over end) (Over status) → Stand trace
  ends_early trace end follows = subst Stand (sym (over_still trace end status follows)) (nothing_taken (SECTOR * count))

  writes_stand : (g : Geometry) (trace : List TraceItem) → AlongTrace StepsProgram trace (writes g first count count 0 []) (Over status) → Stand trace
  writes_stand g trace follows =
      let from : first + 0 ≡ first = omega arith in
      let many : count - 0 ≡ count = omega arith in
      subst (λ (b : ℕ). AreWritten b (blocks_of (whole_of (take (SECTOR * count) (taken_in trace)))) trace) from
      (subst (λ (n : ℕ). AreWritten (first + 0) (blocks_of (whole_of (take (SECTOR * n) (taken_in trace)))) trace) many
      (came_writes status unrefused g first count count 0 [] trace (omega arith) (omega arith) (omega arith) follows))

  range_stands : (g : Geometry) (within : Bool) (trace : List TraceItem)
      → AlongTrace StepsProgram trace (if_in_range g first within (writes g first count count 0 [])) (Over status) → Stand trace
  range_stands g true trace follows = writes_stand g trace follows
  range_stands g false trace follows = ends_early trace _ follows

  opened_stands : (n : ℕ) (answer : Result Geometry Refusal) (left : Bool) (trace : List TraceItem)
      → AlongTrace StepsProgram trace (unless_refused n (λ g left. within_range g first count (writes g first count count 0 [])) answer left) (Over status) → Stand trace
  opened_stands n (Ok g) left trace follows = range_stands g (is_in_range g first count) trace follows
  opened_stands n (Err refusal) left trace follows = ends_early trace (status_of_refusal n refusal) follows

  recover_stands : (n : ℕ) (trace : List TraceItem)
      → AlongTrace StepsProgram trace (take_step n Recover (λ g. within_range g first count (writes g first count count 0 []))) (Over status) → Stand trace
  recover_stands n [] follows =
      absurd (let same : Over status ≡ take_step n Recover (λ g. within_range g first count (writes g first count count 0 [])) = follows in cc)
  recover_stands n (Stepped step came events left ∷ trace) follows =
      subst (λ (item : TraceItem). Stand (item ∷ trace)) (sym follows.1.1)
      (opened_stands n follows.1.0 left trace (subst (λ (program : Program). AlongTrace StepsProgram trace program (Over status)) follows.1.2 follows.2))
  recover_stands n (item ∷ trace) follows = absurd follows.1

  found_stands : (n : ℕ) (trace : List TraceItem)
      → AlongTrace StepsProgram trace (Allocate (take_step n Recover (λ g. within_range g first count (writes g first count count 0 [])))) (Over status) → Stand trace
  found_stands n [] follows =
      absurd (let same : Over status ≡ Allocate (take_step n Recover (λ g. within_range g first count (writes g first count count 0 []))) = follows in cc)
  found_stands n (Grew ∷ trace) follows =
      recover_stands n trace (subst (λ (program : Program). AlongTrace StepsProgram trace program (Over status)) follows.1 follows.2)
  found_stands n (RanOut ∷ trace) follows =
      ends_early trace OutOfMemory (subst (λ (program : Program). AlongTrace StepsProgram trace program (Over status)) follows.1 follows.2)
  found_stands n (item ∷ trace) follows = absurd follows.1

  after_stands : (found : Outcome Survey) (trace : List TraceItem)
      → AlongTrace StepsProgram trace (after Survey (λ member. Allocate (take_step member.array.geometry.n Recover (λ g. within_range g first count (writes g first count count 0 [])))) found)
      (Over status) → Stand trace
  after_stands (Ok member) trace follows = found_stands member.array.geometry.n trace follows
  after_stands (Err fault) trace follows = ends_early trace (status_of_survey fault) follows

  program_stands : (trace : List TraceItem) → AlongTrace StepsProgram trace (write_program first count) (Over status) → Stand trace
  program_stands [] follows = absurd (let same : Over status ≡ write_program first count = follows in cc)
  program_stands (Did did came ∷ trace) follows =
      subst (λ (item : TraceItem). Stand (item ∷ trace)) (sym follows.1.1)
      (after_stands follows.1.0 trace (subst (λ (program : Program). AlongTrace StepsProgram trace program (Over status)) follows.1.2 follows.2))
  program_stands (item ∷ trace) follows = absurd follows.1

  asked_stands : (words : List (List ℕ)) → Spells words (Write first count) → (trace : List TraceItem)
      → AlongTrace StepsProgram trace (Ask (Words words) if_spelled) (Over status) → Stand trace
  asked_stands words spells [] follows = absurd (let same : Over status ≡ Ask (Words words) if_spelled = follows in cc)
  asked_stands words spells (Found asked ∷ trace) follows =
      by follows.1.0 follows.1.2 (subst (λ (program : Program). AlongTrace StepsProgram trace program (Over status)) follows.1.3 follows.2)
    where
      by : (reply : Option Job) → IsReply (Words words) reply → AlongTrace StepsProgram trace (if_spelled reply) (Over status) → Stand trace
      by None not follows = absurd (not (Write first count, spells))
      by (Some job) also follows =
          program_stands trace (subst (λ (j : Job). AlongTrace StepsProgram trace (job_program j) (Over status)) (spells_once words job (Write first count) also spells) follows)
  asked_stands words spells (item ∷ trace) follows = absurd follows.1

  words_stand : (words : List (List ℕ)) → Spells words (Write first count) → (trace : List TraceItem) → AlongTrace StepsProgram trace (program_of words) (Over status)
      → Stand trace
  words_stand words spells [] follows = absurd (let same : Over status ≡ program_of words = follows in cc)
  words_stand words spells (Grew ∷ trace) follows =
      asked_stands words spells trace (subst (λ (program : Program). AlongTrace StepsProgram trace program (Over status)) follows.1 follows.2)
  words_stand words spells (RanOut ∷ trace) follows =
      ends_early trace OutOfMemory (subst (λ (program : Program). AlongTrace StepsProgram trace program (Over status)) follows.1 follows.2)
  words_stand words spells (item ∷ trace) follows = absurd follows.1

pub whole_blocks_stand : (S K : Type 0) → WholeBlocksStand S K
whole_blocks_stand S K view words first count status a b spells means unrefused =
    words_stand status unrefused first count words spells means.trace means.follows
