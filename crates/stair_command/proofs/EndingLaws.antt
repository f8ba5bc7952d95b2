-- How a call ends, whatever its program is: one induction on its trace for all commands.
use Rattle.std.proofs.Common.{◌≡◌, ◌≢◌, ◌∙◌, ℕ, ◌≤◌, le_refl, List, [], ◌∷◌, Ok, Err, refl, sym, subst, arith}
use Rattle.std.specs.Prelude.{Result}
use Rattle.stair_rack.specs.Count.{Rose, Rose-kept, kept-Rose}
use Rattle.stair_array.specs.Machine.{Chunk, Dropped, Nothing, Progress, Promoted, Refusal}
use Rattle.stair_array.specs.Machine as array
use Rattle.stair_status.specs.declared.status.Status.{Status}
use Rattle.stair_status.specs.declared.status.Status.TheVariants.{Done, InputFault, OutputFault, OutOfMemory}
use Rattle.stair_command.specs.Action.{Action, OkOf, Outcome, refused}
use Rattle.stair_command.specs.Ending.{AsksFirst, AsksForNone, ByMemory, ByProgram, BySink, BySource, Ended, EndsIn, IfNothingIsPutOut, PutsLast, TakesNothing, TellsFaults}
use Rattle.stair_command.specs.Executes.{Gives, Holds, Executes}
use Rattle.stair_command.specs.Outside.{Outside, SinkView, SourceView, Views}
use Rattle.stair_command.specs.Program.{Program, Over, Ask, Take, Put, Allocate, Do, Try, RebuildAll, after_rebuild}
use Rattle.stair_command.specs.Rack.{RackView, Works}
use Rattle.stair_command.specs.Refused.{status_of_refusal}
use Rattle.stair_command.specs.Trace.{TraceItem, Found, Took, TookLast, TakeFailed, HasPut, PutFailed, Grew, RanOut, Did, Stepped, AlongTrace, StepsProgram, after}
use Rattle.stair_command.proofs.EndLaws.{no_move}

-- ---- counts of faults never fall

source_still : {S : Type 0} (view : SourceView S) (x z : S) → z ≡ x → view.faults x ≤ view.faults z
source_still view x z same = subst (λ s. view.faults x ≤ view.faults s) (sym same) (le_refl _)

source_counts : {S : Type 0} (view : SourceView S) (item : TraceItem) (x z : S) → Gives view item x z → view.faults x ≤ view.faults z
source_counts view (Took bytes) x z gives = gives.3
source_counts view (TookLast bytes) x z gives = gives.3
source_counts view (TakeFailed bytes) x z gives = gives.3
source_counts view (Found question) x z gives = source_still view x z gives
source_counts view (HasPut bytes) x z gives = source_still view x z gives
source_counts view (PutFailed bytes) x z gives = source_still view x z gives
source_counts view Grew x z gives = source_still view x z gives
source_counts view RanOut x z gives = source_still view x z gives
source_counts view (Did action outcome) x z gives = source_still view x z gives
source_counts view (Stepped step answer events left) x z gives = source_still view x z gives

pub source_on : {S : Type 0} (view : SourceView S) (trace : List TraceItem) (x y : S) → AlongTrace (Gives view) trace x y → view.faults x ≤ view.faults y
source_on view [] x y gives = source_still view x y gives
source_on view (item ∷ trace) x y gives =
    let later = source_on view trace gives.0 y gives.2 in
    let now = source_counts view item x gives.0 gives.1 in omega (arith, later, now)

sink_still : {K : Type 0} (view : SinkView K) (x z : K) → z ≡ x → view.faults x ≤ view.faults z
sink_still view x z same = subst (λ s. view.faults x ≤ view.faults s) (sym same) (le_refl _)

sink_counts : {K : Type 0} (view : SinkView K) (item : TraceItem) (x z : K) → Holds view item x z → view.faults x ≤ view.faults z
sink_counts view (HasPut bytes) x z holds = holds.1
sink_counts view (PutFailed bytes) x z holds = holds.1
sink_counts view (Took bytes) x z holds = sink_still view x z holds
sink_counts view (TookLast bytes) x z holds = sink_still view x z holds
sink_counts view (TakeFailed bytes) x z holds = sink_still view x z holds
sink_counts view (Found question) x z holds = sink_still view x z holds
sink_counts view Grew x z holds = sink_still view x z holds
sink_counts view RanOut x z holds = sink_still view x z holds
sink_counts view (Did action outcome) x z holds = sink_still view x z holds
sink_counts view (Stepped step answer events left) x z holds = sink_still view x z holds

pub sink_on : {K : Type 0} (view : SinkView K) (trace : List TraceItem) (x y : K) → AlongTrace (Holds view) trace x y → view.faults x ≤ view.faults y
sink_on view [] x y holds = sink_still view x y holds
sink_on view (item ∷ trace) x y holds =
    let later = sink_on view trace holds.0 y holds.2 in
    let now = sink_counts view item x holds.0 holds.1 in omega (arith, later, now)

-- ---- one item

-- a program that is over ends as it says
pub ends_so : (trace : List TraceItem) (end status : Status) → AlongTrace StepsProgram trace (Over end) (Over status) → status ≡ end
ends_so [] end status follows = let same : Over status ≡ Over end = follows in cc
ends_so (item ∷ trace) end status follows = absurd (no_move item end follows.0 follows.1)

-- what an item led to: one of which the program goes on so, or one that ends it
pub data Led (Q : Program → Type 0) (item : TraceItem) (rest : Program) : Type 0 where
  On : Q rest → Led Q item rest
  Faulty : (bytes : List ℕ) → item ≡ TakeFailed bytes → rest ≡ Over InputFault → Led Q item rest
  Unput : (part : List ℕ) → item ≡ PutFailed part → rest ≡ Over OutputFault → Led Q item rest
  Short : item ≡ RanOut → rest ≡ Over OutOfMemory → Led Q item rest

-- ---- how it ends

module _ (P : Status → Type 0) where
  did_ends : (action : Action) (k : OkOf action → Program) (outcome : Outcome action) → EndsIn P (Do action k) → EndsIn P (after action k outcome)
  did_ends action k (Ok done) ends = ends.0 done
  did_ends action k (Err refusal) ends = ends.1 refusal

  rebuilt_ends : (slots done : ℕ) (k : ℕ → Program) (answer : Result Progress Refusal) → EndsIn P (RebuildAll slots done k)
      → EndsIn P (after_rebuild slots done k answer)
  rebuilt_ends slots done k (Ok Nothing) ends = ends.0 done
  rebuilt_ends slots done k (Ok (Chunk j t)) ends = ends
  rebuilt_ends slots done k (Ok (Promoted j)) ends = ends
  rebuilt_ends slots done k (Ok (Dropped j)) ends = ends
  rebuilt_ends slots done k (Err refusal) ends = ends.1 refusal

  move_ends : (item : TraceItem) (program rest : Program) → EndsIn P program → StepsProgram item program rest → Led (EndsIn P) item rest
  move_ends (Found asked) (Ask question k) rest ends moves = On (subst (EndsIn P) (sym moves.3) (ends moves.0 moves.2))
  move_ends (Took bytes) (Take least most k short) rest ends moves = On (subst (EndsIn P) (sym moves.1) (ends.0 bytes))
  move_ends (TookLast bytes) (Take least most k short) rest ends moves = On (subst (EndsIn P) (sym moves.1) (ends.1 bytes))
  move_ends (TakeFailed bytes) (Take least most k short) rest ends moves = Faulty bytes refl moves.1
  move_ends (HasPut bytes) (Put all program) rest ends moves = On (subst (EndsIn P) (sym moves.1) ends)
  move_ends (PutFailed part) (Put all program) rest ends moves = Unput part refl moves.1
  move_ends Grew (Allocate program) rest ends moves = On (subst (EndsIn P) (sym moves) ends)
  move_ends RanOut (Allocate program) rest ends moves = Short refl moves
  move_ends (Did did came) (Do action k) rest ends moves = On (subst (EndsIn P) (sym moves.2) (did_ends action k moves.0 ends))
  move_ends (Stepped did came events left) (Try step k) rest ends moves = On (subst (EndsIn P) (sym moves.2) (ends moves.0 left))
  move_ends (Stepped did came events left) (RebuildAll slots done k) rest ends moves =
      On (subst (EndsIn P) (sym moves.2) (rebuilt_ends slots done k moves.0 ends))
  move_ends _ _ rest ends moves = absurd moves

-- the bytes of the sink, and its source, from an item on
module _ {S K : Type 0} (view : Views S K) (P : Status → Type 0) where
  ended_at : (trace : List TraceItem) (program : Program) (status : Status) (a b : Outside S K) → EndsIn P program → AlongTrace StepsProgram trace program (Over status)
      → AlongTrace (Gives view.source) trace a.source b.source → AlongTrace (Holds view.sink) trace a.sink b.sink → Ended view P status a b
  ended_at [] program status a b ends follows gives holds = ByProgram (subst (EndsIn P) (sym follows) ends)
  ended_at (item ∷ trace) program status a b ends follows gives holds =
      elim (move_ends P item program follows.0 ends follows.1) as (λ _. Ended view P status a b) [
        | On later ↦
            elim (ended_at trace follows.0 status (record { source = gives.0; sink = holds.0; counter = a.counter }) b later follows.2 gives.2 holds.2)
            as (λ _. Ended view P status a b) [
              | ByProgram is ↦ ByProgram is
              | BySource is rose ↦ BySource is (kept-Rose _ _ _ source_first source_later rose)
              | BySink is rose ↦ BySink is (kept-Rose _ _ _ sink_first sink_later rose)
              | ByMemory is ↦ ByMemory is
            ]
        | Faulty bytes is rest ↦
            BySource (ends_so trace InputFault status (subst (λ (p : Program). AlongTrace StepsProgram trace p (Over status)) rest follows.2))
            (Rose-kept _ _ _ ((subst (λ (d : TraceItem). Gives view.source d a.source gives.0) is gives.1).4) source_later)
        | Unput part is rest ↦
            BySink (ends_so trace OutputFault status (subst (λ (p : Program). AlongTrace StepsProgram trace p (Over status)) rest follows.2))
            (Rose-kept _ _ _ ((subst (λ (d : TraceItem). Holds view.sink d a.sink holds.0) is holds.1).2) sink_later)
        | Short is rest ↦ ByMemory (ends_so trace OutOfMemory status (subst (λ (p : Program). AlongTrace StepsProgram trace p (Over status)) rest follows.2))
      ]
    where
      source_first : view.source.faults a.source ≤ view.source.faults gives.0
      source_first = source_counts view.source item a.source gives.0 gives.1

      source_later : view.source.faults gives.0 ≤ view.source.faults b.source
      source_later = source_on view.source trace gives.0 b.source gives.2

      sink_first : view.sink.faults a.sink ≤ view.sink.faults holds.0
      sink_first = sink_counts view.sink item a.sink holds.0 holds.1

      sink_later : view.sink.faults holds.0 ≤ view.sink.faults b.sink
      sink_later = sink_on view.sink trace holds.0 b.sink holds.2

  -- a call ended as its program ends by itself, or by a fault, or since memory was short
  pub ended : (program : Program) (status : Status) (a b : Outside S K) → EndsIn P program → Executes view program (Over status) a b → Ended view P status a b
  ended program status a b ends means = ended_at means.trace program status a b ends means.follows means.bears.gives means.bears.holds

-- ---- what is put out

-- the sink after an item, where nothing was put out
sink_kept : {K : Type 0} (view : SinkView K) (trace : List TraceItem) (end status : Status) (k k' : K) → AlongTrace StepsProgram trace (Over end) (Over status)
    → AlongTrace (Holds view) trace k k' → k' ≡ k
sink_kept view [] end status k k' follows holds = holds
sink_kept view (item ∷ trace) end status k k' follows holds = absurd (no_move item end follows.0 follows.1)

pub if_none_put : {K : Type 0} (status : Status) (k k' : K) → k' ≡ k → IfNothingIsPutOut status (k' ≡ k)
if_none_put Done k k' same = tt
if_none_put OutputFault k k' same = tt
if_none_put _ k k' same = same

-- after a sink that an item left
none_put_then : {K : Type 0} (status : Status) (k j k' : K) → j ≡ k → IfNothingIsPutOut status (k' ≡ j) → IfNothingIsPutOut status (k' ≡ k)
none_put_then {K} status k j k' same later = subst (λ (x : K). IfNothingIsPutOut status (k' ≡ x)) same later

did_last : (action : Action) (k : OkOf action → Program) (outcome : Outcome action) → PutsLast (Do action k) → PutsLast (after action k outcome)
did_last action k (Ok done) last = last done
did_last action k (Err refusal) last = tt

rebuilt_last : (slots done : ℕ) (k : ℕ → Program) (answer : Result Progress Refusal) → PutsLast (RebuildAll slots done k)
    → PutsLast (after_rebuild slots done k answer)
rebuilt_last slots done k (Ok Nothing) last = last done
rebuilt_last slots done k (Ok (Chunk j t)) last = last
rebuilt_last slots done k (Ok (Promoted j)) last = last
rebuilt_last slots done k (Ok (Dropped j)) last = last
rebuilt_last slots done k (Err refusal) last = tt

pub puts_last : {K : Type 0} (view : SinkView K) (trace : List TraceItem) (program : Program) (status : Status) (k k' : K) → PutsLast program
    → AlongTrace StepsProgram trace program (Over status) → AlongTrace (Holds view) trace k k' → IfNothingIsPutOut status (k' ≡ k)
puts_last view [] program status k k' last follows holds = if_none_put status k k' holds
puts_last view (Found asked ∷ trace) (Ask question h) status k k' last follows holds =
    none_put_then status k holds.0 k' holds.1
    (puts_last view trace follows.0 status holds.0 k' (subst PutsLast (sym follows.1.3) (last follows.1.0 follows.1.2)) follows.2 holds.2)
puts_last view (Took bytes ∷ trace) (Take least most h short) status k k' last follows holds =
    none_put_then status k holds.0 k' holds.1
    (puts_last view trace follows.0 status holds.0 k' (subst PutsLast (sym follows.1.1) (last.0 bytes)) follows.2 holds.2)
puts_last view (TookLast bytes ∷ trace) (Take least most h short) status k k' last follows holds =
    none_put_then status k holds.0 k' holds.1
    (puts_last view trace follows.0 status holds.0 k' (subst PutsLast (sym follows.1.1) (last.1 bytes)) follows.2 holds.2)
puts_last view (TakeFailed bytes ∷ trace) (Take least most h short) status k k' last follows holds =
    none_put_then status k holds.0 k' holds.1
    (puts_last view trace follows.0 status holds.0 k' (subst PutsLast (sym follows.1.1) tt) follows.2 holds.2)
puts_last {K} view (HasPut bytes ∷ trace) (Put all program) status k k' last follows holds =
    subst (λ (s : Status). IfNothingIsPutOut s (k' ≡ k))
    (sym (ends_so trace Done status (subst (λ (p : Program). AlongTrace StepsProgram trace p (Over status)) (follows.1.1 ∙ last) follows.2))) tt
puts_last {K} view (PutFailed part ∷ trace) (Put all program) status k k' last follows holds =
    subst (λ (s : Status). IfNothingIsPutOut s (k' ≡ k))
    (sym (ends_so trace OutputFault status (subst (λ (p : Program). AlongTrace StepsProgram trace p (Over status)) follows.1.1 follows.2))) tt
puts_last view (Grew ∷ trace) (Allocate program) status k k' last follows holds =
    none_put_then status k holds.0 k' holds.1
    (puts_last view trace follows.0 status holds.0 k' (subst PutsLast (sym follows.1) last) follows.2 holds.2)
puts_last view (RanOut ∷ trace) (Allocate program) status k k' last follows holds =
    none_put_then status k holds.0 k' holds.1
    (puts_last view trace follows.0 status holds.0 k' (subst PutsLast (sym follows.1) tt) follows.2 holds.2)
puts_last view (Did did came ∷ trace) (Do action h) status k k' last follows holds =
    none_put_then status k holds.0 k' holds.1
    (puts_last view trace follows.0 status holds.0 k' (subst PutsLast (sym follows.1.2) (did_last action h follows.1.0 last)) follows.2 holds.2)
puts_last view (Stepped did came events left ∷ trace) (Try step h) status k k' last follows holds =
    none_put_then status k holds.0 k' holds.1
    (puts_last view trace follows.0 status holds.0 k' (subst PutsLast (sym follows.1.2) (last follows.1.0 left)) follows.2 holds.2)
puts_last view (Stepped did came events left ∷ trace) (RebuildAll slots done h) status k k' last follows holds =
    none_put_then status k holds.0 k' holds.1
    (puts_last view trace follows.0 status holds.0 k' (subst PutsLast (sym follows.1.2) (rebuilt_last slots done h follows.1.0 last)) follows.2 holds.2)
puts_last view (item ∷ trace) program status k k' last follows holds = absurd follows.1

-- Faults are those of source and sink, where a program ends with none by itself.
pub tells_faults : {S K : Type 0} (view : Views S K) (P : Status → Type 0) → ((end : Status) → P end → (end ≢ InputFault) × (end ≢ OutputFault))
    → (program : Program) (status : Status) (a b : Outside S K) → EndsIn P program → Executes view program (Over status) a b → TellsFaults view status a b
tells_faults view P own program status a b ends means = record {
  input_fault = λ is.
      elim (ended view P program status a b ends means) as (λ _. Rose (view.source.faults a.source) (view.source.faults b.source)) [
        | ByProgram so ↦ absurd ((own status so).0 is)
        | BySource same rose ↦ rose
        | BySink same rose ↦ absurd (let clash : OutputFault ≡ InputFault = sym same ∙ is in cc)
        | ByMemory same ↦ absurd (let clash : OutOfMemory ≡ InputFault = sym same ∙ is in cc)
      ];
  output_fault = λ is.
      elim (ended view P program status a b ends means) as (λ _. Rose (view.sink.faults a.sink) (view.sink.faults b.sink)) [
        | ByProgram so ↦ absurd ((own status so).1 is)
        | BySource same rose ↦ absurd (let clash : InputFault ≡ OutputFault = sym same ∙ is in cc)
        | BySink same rose ↦ rose
        | ByMemory same ↦ absurd (let clash : OutOfMemory ≡ OutputFault = sym same ∙ is in cc)
      ];
  input_count = source_on view.source means.trace a.source b.source means.bears.gives;
  output_count = sink_on view.sink means.trace a.sink b.sink means.bears.holds;
}

-- nothing is put out of what isn't done
pub nothing_put : {S K : Type 0} (view : Views S K) (program : Program) (status : Status) (a b : Outside S K) → PutsLast program
    → Executes view program (Over status) a b → IfNothingIsPutOut status (b.sink ≡ a.sink)
nothing_put view program status a b last means =
    puts_last view.sink means.trace program status a.sink b.sink last means.follows means.bears.holds

-- no call ends with a status that is no fault, no lack of memory, and none of its program
pub ends_otherwise : {S K : Type 0} (view : Views S K) (P : Status → Type 0) (other : Status) → ((end : Status) → P end → end ≢ other)
    → other ≢ InputFault → other ≢ OutputFault → other ≢ OutOfMemory → (program : Program) (status : Status) (a b : Outside S K) → EndsIn P program
    → Executes view program (Over status) a b → status ≢ other
ends_otherwise view P other never not_input not_output not_memory program status a b ends means is =
    elim (ended view P program status a b ends means) [
      | ByProgram so ↦ never status so is
      | BySource same rose ↦ not_input (sym is ∙ same)
      | BySink same rose ↦ not_output (sym is ∙ same)
      | ByMemory same ↦ not_memory (sym is ∙ same)
    ]

-- with such a status, so with one of more
pub weaker : (P Q : Status → Type 0) → ((end : Status) → P end → Q end) → (program : Program) → EndsIn P program → EndsIn Q program
weaker P Q so (Over status) ends = so status ends
weaker P Q so (Ask question k) ends = λ reply is. weaker P Q so (k reply) (ends reply is)
weaker P Q so (Take least most k short) ends = (λ bytes. weaker P Q so (k bytes) (ends.0 bytes), λ bytes. weaker P Q so (short bytes) (ends.1 bytes))
weaker P Q so (Put bytes program) ends = weaker P Q so program ends
weaker P Q so (Allocate program) ends = weaker P Q so program ends
weaker P Q so (Do action k) ends = (λ done. weaker P Q so (k done) (ends.0 done), λ refusal. so (refused action refusal) (ends.1 refusal))
weaker P Q so (Try step k) ends = λ answer left. weaker P Q so (k answer left) (ends answer left)
weaker P Q so (RebuildAll slots done k) ends =
    (λ count. weaker P Q so (k count) (ends.0 count), λ refusal. so (status_of_refusal slots refusal) (ends.1 refusal))

-- ---- the refusals of a step

refusals_are : (slots : ℕ) (refusal : Refusal) → (status_of_refusal slots refusal ≢ InputFault) × (status_of_refusal slots refusal ≢ OutOfMemory)
refusals_are slots (array.OutOfRange asked limit) = (λ is. cc, λ is. cc)
refusals_are slots array.Frozen = (λ is. cc, λ is. cc)
refusals_are slots (array.Lost t counts) = (λ is. cc, λ is. cc)
refusals_are slots (array.TooFew whys) = (λ is. cc, λ is. cc)
refusals_are slots array.EpochsSpent = (λ is. cc, λ is. cc)
refusals_are slots (array.JournalLost sector) = (λ is. cc, λ is. cc)
refusals_are slots (array.SlotBusy slot was) = (λ is. cc, λ is. cc)
refusals_are slots (array.Gone slot) = (λ is. cc, λ is. cc)
refusals_are slots (array.SmallDevice slot has needs) = (λ is. cc, λ is. cc)
refusals_are slots (array.AlreadyArray slot) = (λ is. cc, λ is. cc)

-- ---- what is taken

did_takes : (action : Action) (k : OkOf action → Program) (outcome : Outcome action) → TakesNothing (Do action k) → TakesNothing (after action k outcome)
did_takes action k (Ok done) none = none.0 done
did_takes action k (Err refusal) none = none.1 refusal

rebuilt_takes : (slots done : ℕ) (k : ℕ → Program) (answer : Result Progress Refusal) → TakesNothing (RebuildAll slots done k)
    → TakesNothing (after_rebuild slots done k answer)
rebuilt_takes slots done k (Ok Nothing) none = none done
rebuilt_takes slots done k (Ok (Chunk j t)) none = none
rebuilt_takes slots done k (Ok (Promoted j)) none = none
rebuilt_takes slots done k (Ok (Dropped j)) none = none
rebuilt_takes slots done k (Err refusal) none = (refusals_are slots refusal).0

move_takes : {S : Type 0} (view : SourceView S) (item : TraceItem) (program rest : Program) (s s' : S) → TakesNothing program → StepsProgram item program rest
    → Gives view item s s' → (s' ≡ s) × TakesNothing rest
move_takes view (Found asked) (Ask question k) rest s s' none moves gives = (gives, subst TakesNothing (sym moves.3) (none moves.0 moves.2))
move_takes view (HasPut bytes) (Put all program) rest s s' none moves gives = (gives, subst TakesNothing (sym moves.1) none)
move_takes view (PutFailed part) (Put all program) rest s s' none moves gives = (gives, subst TakesNothing (sym moves.1) (λ is. cc))
move_takes view Grew (Allocate program) rest s s' none moves gives = (gives, subst TakesNothing (sym moves) none)
move_takes view RanOut (Allocate program) rest s s' none moves gives = (gives, subst TakesNothing (sym moves) (λ is. cc))
move_takes view (Did did came) (Do action k) rest s s' none moves gives =
    (gives, subst TakesNothing (sym moves.2) (did_takes action k moves.0 none))
move_takes view (Stepped did came events left) (Try step k) rest s s' none moves gives =
    (gives, subst TakesNothing (sym moves.2) (none moves.0 left))
move_takes view (Stepped did came events left) (RebuildAll slots done k) rest s s' none moves gives =
    (gives, subst TakesNothing (sym moves.2) (rebuilt_takes slots done k moves.0 none))
move_takes view (Took bytes) (Take least most k short) rest s s' none moves gives = absurd none
move_takes view (TookLast bytes) (Take least most k short) rest s s' none moves gives = absurd none
move_takes view (TakeFailed bytes) (Take least most k short) rest s s' none moves gives = absurd none
move_takes view _ _ rest s s' none moves gives = absurd moves

-- The source is left, and can't fail the call.
pub none_taken : {S : Type 0} (view : SourceView S) (trace : List TraceItem) (program : Program) (status : Status) (s s' : S) → TakesNothing program
    → AlongTrace StepsProgram trace program (Over status) → AlongTrace (Gives view) trace s s' → (s' ≡ s) × (status ≢ InputFault)
none_taken view [] program status s s' none follows gives = (gives, subst TakesNothing (sym follows) none)
none_taken view (item ∷ trace) program status s s' none follows gives =
    let one = move_takes view item program follows.0 s gives.0 none follows.1 gives.1 in
    let later = none_taken view trace follows.0 status gives.0 s' one.1 follows.2 gives.2 in
    (later.0 ∙ one.0, later.1)

-- Nothing was asked of any source, so the trace is one over each.
gives_none : {S : Type 0} (view : SourceView S) (item : TraceItem) (program rest : Program) (s : S) → TakesNothing program → StepsProgram item program rest → Gives view item s s
gives_none view (Found asked) program rest s none moves = refl
gives_none view (HasPut bytes) program rest s none moves = refl
gives_none view (PutFailed part) program rest s none moves = refl
gives_none view Grew program rest s none moves = refl
gives_none view RanOut program rest s none moves = refl
gives_none view (Did did came) program rest s none moves = refl
gives_none view (Stepped did came events left) program rest s none moves = refl
gives_none view (Took bytes) (Take least most k short) rest s none moves = absurd none
gives_none view (TookLast bytes) (Take least most k short) rest s none moves = absurd none
gives_none view (TakeFailed bytes) (Take least most k short) rest s none moves = absurd none
gives_none view _ _ rest s none moves = absurd moves

pub gives_along : {S : Type 0} (view : SourceView S) (trace : List TraceItem) (program rest : Program) (s : S) → TakesNothing program → AlongTrace StepsProgram trace program rest
    → AlongTrace (Gives view) trace s s
gives_along view [] program rest s none follows = refl
gives_along view (item ∷ trace) program rest s none follows =
    let one = gives_none view item program follows.0 s none follows.1 in
    (s, one, gives_along view trace follows.0 rest s (move_takes view item program follows.0 s s none follows.1 one).1 follows.2)

-- ---- lack of memory

did_asks : (action : Action) (k : OkOf action → Program) (outcome : Outcome action) → AsksForNone (Do action k) → AsksForNone (after action k outcome)
did_asks action k (Ok done) none = none.0 done
did_asks action k (Err refusal) none = none.1 refusal

rebuilt_asks : (slots done : ℕ) (k : ℕ → Program) (answer : Result Progress Refusal) → AsksForNone (RebuildAll slots done k)
    → AsksForNone (after_rebuild slots done k answer)
rebuilt_asks slots done k (Ok Nothing) none = none done
rebuilt_asks slots done k (Ok (Chunk j t)) none = none
rebuilt_asks slots done k (Ok (Promoted j)) none = none
rebuilt_asks slots done k (Ok (Dropped j)) none = none
rebuilt_asks slots done k (Err refusal) none = (refusals_are slots refusal).1

pub move_asks : (item : TraceItem) (program rest : Program) → AsksForNone program → StepsProgram item program rest → AsksForNone rest
move_asks (Found asked) (Ask question k) rest none moves = subst AsksForNone (sym moves.3) (none moves.0 moves.2)
move_asks (Took bytes) (Take least most k short) rest none moves = subst AsksForNone (sym moves.1) (none.0 bytes)
move_asks (TookLast bytes) (Take least most k short) rest none moves = subst AsksForNone (sym moves.1) (none.1 bytes)
move_asks (TakeFailed bytes) (Take least most k short) rest none moves = subst AsksForNone (sym moves.1) (λ is. cc)
move_asks (HasPut bytes) (Put all program) rest none moves = subst AsksForNone (sym moves.1) none
move_asks (PutFailed part) (Put all program) rest none moves = subst AsksForNone (sym moves.1) (λ is. cc)
move_asks Grew (Allocate program) rest none moves = absurd none
move_asks RanOut (Allocate program) rest none moves = absurd none
move_asks (Did did came) (Do action k) rest none moves = subst AsksForNone (sym moves.2) (did_asks action k moves.0 none)
move_asks (Stepped did came events left) (Try step k) rest none moves = subst AsksForNone (sym moves.2) (none moves.0 left)
move_asks (Stepped did came events left) (RebuildAll slots done k) rest none moves =
    subst AsksForNone (sym moves.2) (rebuilt_asks slots done k moves.0 none)
move_asks _ _ rest none moves = absurd moves

-- such a program doesn't end for lack of memory
pub never_short : (trace : List TraceItem) (program : Program) (status : Status) → AsksForNone program → AlongTrace StepsProgram trace program (Over status) → status ≢ OutOfMemory
never_short [] program status none follows = subst AsksForNone (sym follows) none
never_short (item ∷ trace) program status none follows =
    never_short trace follows.0 status (move_asks item program follows.0 none follows.1) follows.2

module _ {R : Type 0} (rack : RackView R) where
  -- after an item that makes no call
  left_then : (x z y : R) → z ≡ x → y ≡ z → y ≡ x
  left_then x z y same later = later ∙ same

  -- Where memory was short no call was made on the rack.
  pub short_first : (trace : List TraceItem) (program : Program) (x y : R) → AsksFirst program → AlongTrace StepsProgram trace program (Over OutOfMemory)
      → AlongTrace (Works rack) trace x y → y ≡ x
  short_first [] program x y first follows works = works
  short_first (Found asked ∷ trace) (Ask question k) x y first follows works =
      left_then x works.0 y works.1
      (short_first trace follows.0 works.0 y (subst AsksFirst (sym follows.1.3) (first follows.1.0 follows.1.2)) follows.2 works.2)
  short_first (Took bytes ∷ trace) (Take least most k short) x y first follows works =
      left_then x works.0 y works.1
      (short_first trace follows.0 works.0 y (subst AsksFirst (sym follows.1.1) (first.0 bytes)) follows.2 works.2)
  short_first (TookLast bytes ∷ trace) (Take least most k short) x y first follows works =
      left_then x works.0 y works.1
      (short_first trace follows.0 works.0 y (subst AsksFirst (sym follows.1.1) (first.1 bytes)) follows.2 works.2)
  short_first (TakeFailed bytes ∷ trace) (Take least most k short) x y first follows works =
      left_then x works.0 y works.1
      (short_first trace follows.0 works.0 y (subst AsksFirst (sym follows.1.1) tt) follows.2 works.2)
  short_first (HasPut bytes ∷ trace) (Put all program) x y first follows works =
      left_then x works.0 y works.1
      (short_first trace follows.0 works.0 y (subst AsksFirst (sym follows.1.1) first) follows.2 works.2)
  short_first (PutFailed part ∷ trace) (Put all program) x y first follows works =
      left_then x works.0 y works.1
      (short_first trace follows.0 works.0 y (subst AsksFirst (sym follows.1.1) tt) follows.2 works.2)
  short_first (Grew ∷ trace) (Allocate program) x y first follows works =
      left_then x works.0 y works.1
      (short_first trace follows.0 works.0 y (subst AsksFirst (sym follows.1) first) follows.2 works.2)
  short_first (RanOut ∷ trace) (Allocate program) x y first follows works =
      left_then x works.0 y works.1
      (short_first trace follows.0 works.0 y (subst AsksFirst (sym follows.1) tt) follows.2 works.2)
  short_first (Did did came ∷ trace) (Do action k) x y first follows works =
      absurd (never_short trace follows.0 OutOfMemory (move_asks (Did did came) (Do action k) follows.0 first follows.1) follows.2 refl)
  short_first (Stepped did came events left ∷ trace) (Try step k) x y first follows works = absurd works.1
  short_first (Stepped did came events left ∷ trace) (RebuildAll slots done k) x y first follows works = absurd works.1
  short_first (item ∷ trace) program x y first follows works = absurd follows.1
