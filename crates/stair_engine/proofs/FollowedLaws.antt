-- Which items a call has whose program opens an array and ends with Done.
use Rattle.std.proofs.Common.{◌≡◌, ◌≢◌, ◌+◌, ◌<◌, ◌≤◌, ℕ, zero, suc, Bool, true, false, List, [], ◌∷◌, ◌++◌, Option, None, Some, Ok, Err, inl, inr, refl, sym, ap, subst, append_assoc, arith}
use Rattle.std.proofs.lemmas.Bool.{cases_eq}
use Rattle.stair_model.specs.Geometry.{Geometry}
use Rattle.stair_rack.specs.declared.watcher.Event.{Event}
use Rattle.stair_super.specs.declared.mark.Mark.{Mark}
use Rattle.stair_super.specs.declared.mark.Mark.TheVariants.{Down, Live, Rebuilding}
use Rattle.stair_member.specs.Membership.{Membership}
use Rattle.stair_member.specs.Seats.{Seats}
use Rattle.stair_member.specs.declared.fault.SurveyFault.{SurveyFault}
use Rattle.stair_member.specs.declared.fault.SurveyFault.TheVariants as survey
use Rattle.stair_array.specs.Machine.{Answer, Chunk, Dropped, GivenBy, LookAtSeats, Nothing, Progress, Promoted, RebuildNext, Recover, Refusal, ReplaceSlot, ScrubStripe, Step}
use Rattle.stair_array.specs.Machine as array
use Rattle.stair_conf.specs.Words.{Spells}
use Rattle.stair_conf.specs.declared.job.Job.{Job}
use Rattle.stair_conf.proofs.WordsLemmas.{spells_once}
use Rattle.stair_command.specs.Action.{Outcome, Survey, status_of_survey}
use Rattle.stair_command.specs.Program.{Program, Over, Ask, Put, Allocate, RebuildAll, after_rebuild, take_step, unless_refused, opens_array}
use Rattle.stair_command.specs.Question.{IsReply, Question, Words}
use Rattle.stair_command.specs.Refused.{status_of_refusal}
use Rattle.stair_command.specs.Sound.{HasItem, IsScrubOf}
use Rattle.stair_command.specs.Trace.{TraceItem, Found, HasPut, PutFailed, Grew, RanOut, Did, Stepped, AlongTrace, StepsProgram, after}
use Rattle.stair_status.specs.declared.status.Status.{Status}
use Rattle.stair_status.specs.declared.status.Status.TheVariants.{Done, Gone, OutOfMemory, OutOfRange, OutputFault}
use Rattle.stair_command.proofs.EndLaws.{no_move}
use Rattle.stair_command.proofs.EndingLaws.{ends_so}
use Rattle.stair_engine.specs.Mending.{if_live, if_slot, replaced_line, replaces, scrubbed_line, scrubs}
use Rattle.stair_engine.specs.Programs.{if_spelled, job_program, program_of}
use Rattle.stair_engine.proofs.DoneLaws.{AreDone, done_join}
use Rattle.stair_engine.proofs.ReplaceLaws.{look_on}

-- ---- ends

-- from here on the call is done, by these items
abbrev pub IsDoneBy : Program → List TraceItem → Type 0
IsDoneBy program trace = AlongTrace StepsProgram trace program (Over Done)

refused_never : (slots : ℕ) (refusal : Refusal) → Done ≢ status_of_refusal slots refusal
refused_never slots (array.OutOfRange asked limit) is = cc
refused_never slots array.Frozen is = cc
refused_never slots (array.Lost stripe counts) is = cc
refused_never slots (array.TooFew whys) is = cc
refused_never slots array.EpochsSpent is = cc
refused_never slots (array.JournalLost sector) is = cc
refused_never slots (array.SlotBusy slot was) is = cc
refused_never slots (array.Gone slot) is = cc
refused_never slots (array.SmallDevice slot has needs) is = cc
refused_never slots (array.AlreadyArray slot) is = cc

survey_never : (fault : SurveyFault) → Done ≢ status_of_survey fault
survey_never survey.NoArray is = cc
survey_never (survey.TwoArrays first second) is = cc
survey_never (survey.TooFew whys) is = cc

-- where a program is over with another status
ends_never : (trace : List TraceItem) (end : Status) → Done ≢ end → IsDoneBy (Over end) trace → ⊥
ends_never trace end other follows = other (ends_so trace end Done follows)

over_none : (trace : List TraceItem) → IsDoneBy (Over Done) trace → trace ≡ []
over_none [] follows = refl
over_none (item ∷ trace) follows = absurd (no_move item Done follows.0 follows.1)

go_on : (trace : List TraceItem) (program rest : Program) → rest ≡ program → IsDoneBy rest trace → IsDoneBy program trace
go_on trace program rest same follows = subst (λ (p : Program). IsDoneBy p trace) same follows

-- ---- one item

-- the line is the last item
pub record PutsLine (trace : List TraceItem) : Type 0 where
  pub bytes : List ℕ
  pub is : trace ≡ HasPut bytes ∷ []

pub puts_line : (line : List ℕ) (trace : List TraceItem) → IsDoneBy (Put line (Over Done)) trace → PutsLine trace
puts_line line [] follows = absurd (let same : Over Done ≡ Put line (Over Done) = follows in cc)
puts_line line (HasPut bytes ∷ trace) follows =
    record { bytes = bytes; is = ap (λ (l : List TraceItem). HasPut bytes ∷ l) (over_none trace (go_on trace (Over Done) follows.0 follows.1.1 follows.2)) }
puts_line line (PutFailed part ∷ trace) follows =
    absurd (ends_never trace OutputFault (λ is. cc) (go_on trace (Over OutputFault) follows.0 follows.1.1 follows.2))
puts_line line (item ∷ trace) follows = absurd follows.1

-- a step comes first, and was done
pub record StepFirst (step : Step) (k : GivenBy step → Program) (trace : List TraceItem) : Type 0 where
  pub given : GivenBy step
  pub events : List Event
  pub left : Bool
  pub rest : List TraceItem
  pub is : trace ≡ Stepped step (Ok given) events left ∷ rest
  pub follows : IsDoneBy (k given) rest

pub step_first : (slots : ℕ) (step : Step) (k : GivenBy step → Program) (trace : List TraceItem) → IsDoneBy (take_step slots step k) trace → StepFirst step k trace
step_first slots step k [] follows = absurd (let same : Over Done ≡ take_step slots step k = follows in cc)
step_first slots step k (Stepped did came events left ∷ trace) follows =
    subst (λ (item : TraceItem). StepFirst step k (item ∷ trace)) (sym follows.1.1)
    (by follows.1.0 (go_on trace (unless_refused slots (λ x gone. k x) follows.1.0 left) follows.0 follows.1.2 follows.2))
  where
    by : (answer : Answer step) → IsDoneBy (unless_refused slots (λ x gone. k x) answer left) trace → StepFirst step k (Stepped step answer events left ∷ trace)
    by (Ok given) follows = record { given = given; events = events; left = left; rest = trace; is = refl; follows = follows }
    by (Err refusal) follows = absurd (ends_never trace (status_of_refusal slots refusal) (refused_never slots refusal) follows)
step_first slots step k (item ∷ trace) follows = absurd follows.1

-- ---- a rebuild

-- steps of a rebuild come first, the last of which finds nothing
pub record RebuildFirst (k : ℕ → Program) (trace : List TraceItem) : Type 0 where
  pub steps : List TraceItem
  pub events : List Event
  pub left : Bool
  pub count : ℕ
  pub rest : List TraceItem
  pub is : trace ≡ steps ++ Stepped RebuildNext (Ok Nothing) events left ∷ rest
  pub done : AreDone steps
  pub follows : IsDoneBy (k count) rest

pub rebuild_first : (slots count : ℕ) (k : ℕ → Program) (trace : List TraceItem) → IsDoneBy (RebuildAll slots count k) trace → RebuildFirst k trace
rebuild_first slots count k [] follows = absurd (let same : Over Done ≡ RebuildAll slots count k = follows in cc)
rebuild_first slots count k (Stepped did came events left ∷ trace) follows =
    subst (λ (item : TraceItem). RebuildFirst k (item ∷ trace)) (sym follows.1.1)
    (by follows.1.0 (go_on trace (after_rebuild slots count k follows.1.0) follows.0 follows.1.2 follows.2)
    (λ again. rebuild_first slots (count + 1) k trace again))
  where
    more : (progress : Progress) → RebuildFirst k trace → RebuildFirst k (Stepped RebuildNext (Ok progress) events left ∷ trace)
    more progress later = record {
      steps = Stepped RebuildNext (Ok progress) events left ∷ later.steps;
      events = later.events;
      left = later.left;
      count = later.count;
      rest = later.rest;
      is = ap (λ (l : List TraceItem). Stepped RebuildNext (Ok progress) events left ∷ l) later.is;
      done = (tt, later.done);
      follows = later.follows;
    }

    by : (answer : Answer RebuildNext) → IsDoneBy (after_rebuild slots count k answer) trace
        → (IsDoneBy (RebuildAll slots (count + 1) k) trace → RebuildFirst k trace) → RebuildFirst k (Stepped RebuildNext answer events left ∷ trace)
    by (Ok Nothing) follows again =
        record { steps = []; events = events; left = left; count = count; rest = trace; is = refl; done = tt; follows = follows }
    by (Ok (Chunk j t)) follows again = more (Chunk j t) (again follows)
    by (Ok (Promoted j)) follows again = more (Promoted j) (again follows)
    by (Ok (Dropped j)) follows again = more (Dropped j) (again follows)
    by (Err refusal) follows again = absurd (ends_never trace (status_of_refusal slots refusal) (refused_never slots refusal) follows)
rebuild_first slots count k (item ∷ trace) follows = absurd follows.1

-- ---- scrubs

-- each stripe is scrubbed
pub record ScrubsAll (first left : ℕ) (trace : List TraceItem) : Type 0 where
  pub done : AreDone trace
  pub scrubbed : (t : ℕ) → first ≤ t → t < first + left → HasItem (IsScrubOf t) trace

pub scrubs_all : (g : Geometry) (stripe left cells : ℕ) (trace : List TraceItem) → IsDoneBy (scrubs g stripe left cells) trace → ScrubsAll stripe left trace
scrubs_all g stripe zero cells trace follows =
    let put = puts_line (scrubbed_line stripe cells) trace follows in
    subst (ScrubsAll stripe zero) (sym put.is)
    (record { done = (tt, tt); scrubbed = λ t from below. absurd (let never : t < t = omega (arith, from, below) in omega (arith, never)) })
scrubs_all g stripe (suc left) cells trace follows =
    let one = step_first g.n (ScrubStripe stripe) (λ count. scrubs g (stripe + 1) left (cells + count)) trace follows in
    let later = scrubs_all g (stripe + 1) left (cells + one.given) one.rest one.follows in
    subst (ScrubsAll stripe (suc left)) (sym one.is)
    (record {
      done = (tt, later.done);
      scrubbed = λ t from below.
          elim (cases_eq stripe t) [
            | inl same ↦ inl same
            | inr other ↦ inr (later.scrubbed t (omega (arith, from, other)) (omega (arith, below)))
          ];
    })

-- ---- replacements

live_line : (slot : ℕ) (mark : Mark) (trace : List TraceItem) → IsDoneBy (if_live slot mark) trace → (mark ≡ Live) × PutsLine trace
live_line slot Live trace follows = (refl, puts_line (replaced_line slot) trace follows)
live_line slot Rebuilding trace follows = absurd (ends_never trace (Gone slot) (λ is. cc) follows)
live_line slot Down trace follows = absurd (ends_never trace (Gone slot) (λ is. cc) follows)

-- the device is admitted, what is rebuilt is rebuilt to its end, and the slot is live then
pub record ReplacesFirst (slot : ℕ) (trace : List TraceItem) : Type 0 where
  pub events : List Event
  pub left : Bool
  -- those of the rebuild
  pub steps : List TraceItem
  pub done : AreDone steps
  pub seats : Seats
  pub looked : List Event
  pub away : Bool
  pub bytes : List ℕ
  pub live : (seats slot).mark ≡ Live
  pub is : trace ≡ Stepped (ReplaceSlot slot) (Ok tt) events left ∷ (steps ++ Stepped LookAtSeats (Ok seats) looked away ∷ HasPut bytes ∷ [])

-- what is after some items and one more is so
behind_both : (steps last rest look all : List TraceItem) → all ≡ steps ++ (last ++ rest) → rest ≡ look → all ≡ (steps ++ last) ++ look
behind_both steps last rest look all is same =
    subst (λ (l : List TraceItem). all ≡ l) (sym (append_assoc steps last look)) (subst (λ (l : List TraceItem). all ≡ steps ++ (last ++ l)) same is)

behind_one : (item : TraceItem) (rest look all : List TraceItem) → all ≡ item ∷ rest → rest ≡ look → all ≡ item ∷ look
behind_one item rest look all is same = subst (λ (l : List TraceItem). all ≡ item ∷ l) same is

pub replaces_first : (g : Geometry) (slot : ℕ) (trace : List TraceItem) → IsDoneBy (replaces g slot) trace → ReplacesFirst slot trace
replaces_first g slot trace follows = rebuilt (step_first g.n (ReplaceSlot slot) (λ done. RebuildAll g.n 0 (look_on g slot)) trace follows)
  where
    looked : (admits : StepFirst (ReplaceSlot slot) (λ done. RebuildAll g.n 0 (look_on g slot)) trace) (rebuilds : RebuildFirst (look_on g slot) admits.rest)
        (looks : StepFirst LookAtSeats (λ seats. if_live slot (seats slot).mark) rebuilds.rest) → ReplacesFirst slot trace
    looked admits rebuilds looks =
        let line = live_line slot (looks.given slot).mark looks.rest looks.follows in
        record {
          events = admits.events;
          left = admits.left;
          steps = rebuilds.steps ++ Stepped RebuildNext (Ok Nothing) rebuilds.events rebuilds.left ∷ [];
          done = done_join rebuilds.steps (Stepped RebuildNext (Ok Nothing) rebuilds.events rebuilds.left ∷ []) rebuilds.done (tt, tt);
          seats = looks.given;
          looked = looks.events;
          away = looks.left;
          bytes = line.1.bytes;
          live = line.0;
          is = behind_one (Stepped (ReplaceSlot slot) (Ok tt) admits.events admits.left) admits.rest _ trace admits.is
              (behind_both rebuilds.steps (Stepped RebuildNext (Ok Nothing) rebuilds.events rebuilds.left ∷ []) rebuilds.rest _ admits.rest rebuilds.is
              (behind_one (Stepped LookAtSeats (Ok looks.given) looks.events looks.left) looks.rest _ rebuilds.rest looks.is line.1.is));
        }

    rebuilt : StepFirst (ReplaceSlot slot) (λ done. RebuildAll g.n 0 (look_on g slot)) trace → ReplacesFirst slot trace
    rebuilt admits =
        let rebuilds = rebuild_first g.n 0 (look_on g slot) admits.rest admits.follows in
        looked admits rebuilds (step_first g.n LookAtSeats (λ seats. if_live slot (seats slot).mark) rebuilds.rest rebuilds.follows)

-- the slot is one of the array
pub slot_there : (g : Geometry) (slot : ℕ) (program : Program) (has : Bool) (trace : List TraceItem) → IsDoneBy (if_slot g slot has program) trace
    → (has ≡ true) × IsDoneBy program trace
slot_there g slot program true trace follows = (refl, follows)
slot_there g slot program false trace follows = absurd (ends_never trace (OutOfRange slot g.n) (λ is. cc) follows)

-- ---- the opening

-- the words are read, an array is looked for and found, and it is opened
abbrev pub opened_trace : Question → Membership → Geometry → List Event → Bool → List TraceItem → List TraceItem
opened_trace asked member g events left rest = Grew ∷ Found asked ∷ Did Survey (Ok member) ∷ Grew ∷ Stepped Recover (Ok g) events left ∷ rest

pub record OpensFirst (k : Geometry → Program) (trace : List TraceItem) : Type 0 where
  pub asked : Question
  pub member : Membership
  pub g : Geometry
  pub events : List Event
  pub left : Bool
  pub rest : List TraceItem
  pub is : trace ≡ opened_trace asked member g events left rest
  pub follows : IsDoneBy (k g) rest

-- all after the opening was done
pub record OpensDone (trace : List TraceItem) : Type 0 where
  pub asked : Question
  pub member : Membership
  pub g : Geometry
  pub events : List Event
  pub left : Bool
  pub rest : List TraceItem
  pub is : trace ≡ opened_trace asked member g events left rest
  pub done : AreDone rest

module _ (k : Geometry → Program) where
  -- from some items on
  pub record Opens (front : List TraceItem → List TraceItem) (trace : List TraceItem) : Type 0 where
    pub g : Geometry
    pub events : List Event
    pub left : Bool
    pub rest : List TraceItem
    pub is : trace ≡ front (Stepped Recover (Ok g) events left ∷ rest)
    pub follows : IsDoneBy (k g) rest

  grown : (n : ℕ) (trace : List TraceItem) → IsDoneBy (Allocate (take_step n Recover k)) trace → Opens (λ l. Grew ∷ l) trace
  grown n [] follows = absurd (let same : Over Done ≡ Allocate (take_step n Recover k) = follows in cc)
  grown n (Grew ∷ trace) follows =
      let one = step_first n Recover k trace (go_on trace (take_step n Recover k) follows.0 follows.1 follows.2) in
      record { g = one.given; events = one.events; left = one.left; rest = one.rest; is = ap (λ (l : List TraceItem). Grew ∷ l) one.is; follows = one.follows }
  grown n (RanOut ∷ trace) follows = absurd (ends_never trace OutOfMemory (λ is. cc) (go_on trace (Over OutOfMemory) follows.0 follows.1 follows.2))
  grown n (item ∷ trace) follows = absurd follows.1

  pub record FindsFirst (trace : List TraceItem) : Type 0 where
    pub member : Membership
    pub opens : Opens (λ l. Did Survey (Ok member) ∷ Grew ∷ l) trace

  surveyed : (trace : List TraceItem) → IsDoneBy (opens_array k) trace → FindsFirst trace
  surveyed [] follows = absurd (let same : Over Done ≡ opens_array k = follows in cc)
  surveyed (Did did came ∷ trace) follows =
      subst (λ (item : TraceItem). FindsFirst (item ∷ trace)) (sym follows.1.1)
      (by follows.1.0 (go_on trace (after Survey (λ member. Allocate (take_step member.array.geometry.n Recover k)) follows.1.0) follows.0 follows.1.2 follows.2))
    where
      by : (found : Outcome Survey) → IsDoneBy (after Survey (λ member. Allocate (take_step member.array.geometry.n Recover k)) found) trace
          → FindsFirst (Did Survey found ∷ trace)
      by (Ok member) follows =
          let opens = grown member.array.geometry.n trace follows in
          record {
            member = member;
            opens = record {
              g = opens.g;
              events = opens.events;
              left = opens.left;
              rest = opens.rest;
              is = ap (λ (l : List TraceItem). Did Survey (Ok member) ∷ l) opens.is;
              follows = opens.follows;
            };
          }
      by (Err fault) follows = absurd (ends_never trace (status_of_survey fault) (survey_never fault) follows)
  surveyed (item ∷ trace) follows = absurd follows.1

  module _ (words : List (List ℕ)) (job : Job) (spells : Spells words job) (same_program : job_program job ≡ opens_array k) where
    read : (asked : Question) (trace : List TraceItem) → FindsFirst trace → OpensFirst k (Grew ∷ Found asked ∷ trace)
    read asked trace found = record {
      asked = asked;
      member = found.member;
      g = found.opens.g;
      events = found.opens.events;
      left = found.opens.left;
      rest = found.opens.rest;
      is = ap (λ (l : List TraceItem). Grew ∷ Found asked ∷ l) found.opens.is;
      follows = found.opens.follows;
    }

    job_read : (reply : Option Job) (trace : List TraceItem) → IsReply (Words words) reply → IsDoneBy (if_spelled reply) trace → FindsFirst trace
    job_read None trace not follows = absurd (not (job, spells))
    job_read (Some found) trace also follows =
        surveyed trace
        (subst (λ (p : Program). IsDoneBy p trace) same_program
        (subst (λ (j : Job). IsDoneBy (job_program j) trace) (spells_once words found job also spells) follows))

    asks : (trace : List TraceItem) → IsDoneBy (Ask (Words words) if_spelled) trace → OpensFirst k (Grew ∷ trace)
    asks [] follows = absurd (let same : Over Done ≡ Ask (Words words) if_spelled = follows in cc)
    asks (Found asked ∷ trace) follows =
        read asked trace (job_read follows.1.0 trace follows.1.2 (go_on trace (if_spelled follows.1.0) follows.0 follows.1.3 follows.2))
    asks (item ∷ trace) follows = absurd follows.1

    pub opens_first : (trace : List TraceItem) → IsDoneBy (program_of words) trace → OpensFirst k trace
    opens_first [] follows = absurd (let same : Over Done ≡ program_of words = follows in cc)
    opens_first (Grew ∷ trace) follows = asks trace (go_on trace (Ask (Words words) if_spelled) follows.0 follows.1 follows.2)
    opens_first (RanOut ∷ trace) follows = absurd (ends_never trace OutOfMemory (λ is. cc) (go_on trace (Over OutOfMemory) follows.0 follows.1 follows.2))
    opens_first (item ∷ trace) follows = absurd follows.1
