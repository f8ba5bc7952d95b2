-- What is so of each step of a program is so of each step of a trace that follows it.
use Rattle.std.proofs.Common.{◌≡◌, ◌+◌, ◌<◌, ◌≤◌, ℕ, List, [], ◌∷◌, ◌++◌, length, length-append, Option, None, Some, Ok, Err, refl, sym, ap, subst, arith}
use Rattle.std.proofs.lemmas.List.{nil_from_length}
use Rattle.std.specs.Prelude.{Bool, IfSome, Result, ⊤}
use Rattle.std.specs.Io.KnownBytes.{Consumes}
use Rattle.stair_array.specs.Draws.{allowance}
use Rattle.stair_array.specs.Machine.{Answer, Chunk, Dropped, Nothing, Progress, Promoted, RebuildNext, Refusal, Step}
use Rattle.stair_command.specs.Action.{Action, OkOf, Outcome}
use Rattle.stair_command.specs.Drawn.{at_step, over_steps}
use Rattle.stair_command.specs.Ending.{AllowsAtMost, CountsAtMost, EachStep, TakesNoStep}
use Rattle.stair_command.specs.Executes.{Gives}
use Rattle.stair_command.specs.Outside.{SourceView}
use Rattle.stair_command.specs.Program.{Program, Over, Ask, Take, Put, Allocate, Do, Try, RebuildAll, after_rebuild}
use Rattle.stair_command.specs.Question.{IsReply, Reply}
use Rattle.stair_command.specs.Trace.{AreEnough, TraceItem, Found as FoundOut, Took, TookLast, TakeFailed, HasPut, PutFailed, Grew, RanOut, Did, Stepped, AlongTrace, StepsProgram, after}
use Rattle.stair_command.specs.Sure.{IsToldSo}
use Rattle.stair_status.specs.declared.status.Status.TheVariants.{InputFault, OutOfMemory, OutputFault}

-- ---- the steps of a trace

abbrev pub OfItem : (Step → Type 0) → TraceItem → Type 0
OfItem IsSo (Stepped step answer events left) = IsSo step
OfItem IsSo _ = ⊤

abbrev pub AllSteps : (Step → Type 0) → List TraceItem → Type 0
AllSteps IsSo [] = ⊤
AllSteps IsSo (item ∷ trace) = OfItem IsSo item × AllSteps IsSo trace

module _ (IsSo : Step → Type 0) where
  after_each : (action : Action) (k : OkOf action → Program) (outcome : Outcome action) → ((done : OkOf action) → EachStep IsSo (k done))
      → EachStep IsSo (after action k outcome)
  after_each action k (Ok done) each = each done
  after_each action k (Err refusal) each = tt

  rebuilt_each : (slots done : ℕ) (k : ℕ → Program) (answer : Result Progress Refusal) → EachStep IsSo (RebuildAll slots done k)
      → EachStep IsSo (after_rebuild slots done k answer)
  rebuilt_each slots done k (Ok Nothing) each = each.1 done
  rebuilt_each slots done k (Ok (Chunk j t)) each = each
  rebuilt_each slots done k (Ok (Promoted j)) each = each
  rebuilt_each slots done k (Ok (Dropped j)) each = each
  rebuilt_each slots done k (Err refusal) each = tt

  move_each : (item : TraceItem) (program rest : Program) → EachStep IsSo program → StepsProgram item program rest → OfItem IsSo item × EachStep IsSo rest
  move_each (FoundOut asked) (Ask question k) rest each moves = (tt, subst (EachStep IsSo) (sym moves.3) (each moves.0 moves.2))
  move_each (Took bytes) (Take least most k short) rest each moves = (tt, subst (EachStep IsSo) (sym moves.1) (each.0 bytes))
  move_each (TookLast bytes) (Take least most k short) rest each moves = (tt, subst (EachStep IsSo) (sym moves.1) (each.1 bytes))
  move_each (TakeFailed bytes) (Take least most k short) rest each moves = (tt, subst (EachStep IsSo) (sym moves.1) tt)
  move_each (HasPut bytes) (Put all program) rest each moves = (tt, subst (EachStep IsSo) (sym moves.1) each)
  move_each (PutFailed part) (Put all program) rest each moves = (tt, subst (EachStep IsSo) (sym moves.1) tt)
  move_each Grew (Allocate program) rest each moves = (tt, subst (EachStep IsSo) (sym moves) each)
  move_each RanOut (Allocate program) rest each moves = (tt, subst (EachStep IsSo) (sym moves) tt)
  move_each (Did did came) (Do action k) rest each moves = (tt, subst (EachStep IsSo) (sym moves.2) (after_each action k moves.0 each))
  move_each (Stepped did came events left) (Try step k) rest each moves = (
    subst (OfItem IsSo) (sym moves.1) each.0,
    subst (EachStep IsSo) (sym moves.2) (each.1 moves.0 left),
  )
  move_each (Stepped did came events left) (RebuildAll slots done k) rest each moves = (
    subst (OfItem IsSo) (sym moves.1) each.0,
    subst (EachStep IsSo) (sym moves.2) (rebuilt_each slots done k moves.0 each),
  )
  move_each _ _ rest each moves = absurd moves

  -- a trace takes no steps but those of its program
  pub steps_along : (trace : List TraceItem) (program rest : Program) → EachStep IsSo program → AlongTrace StepsProgram trace program rest → AllSteps IsSo trace
  steps_along [] program rest each follows = tt
  steps_along (item ∷ trace) program rest each follows =
      let one = move_each item program follows.0 each follows.1 in
      (one.0, steps_along trace follows.0 rest one.1 follows.2)

  -- and neither does what is left of the program
  pub rest_along : (trace : List TraceItem) (program rest : Program) → EachStep IsSo program → AlongTrace StepsProgram trace program rest → EachStep IsSo rest
  rest_along [] program rest each follows = subst (EachStep IsSo) (sym follows) each
  rest_along (item ∷ trace) program rest each follows =
      rest_along trace follows.0 rest (move_each item program follows.0 each follows.1).1 follows.2

-- ---- what is taken of bytes that a source tells

module _ (Behind Short : List ℕ → Option (List ℕ) → Type 0) where
  -- what is so after each piece that may come, and where what is left is less
  abbrev RackState : (least most : ℕ) → Option (List ℕ) → Type 0
  RackState least most left = IsToldSo left (λ told.
      ((bytes rest : List ℕ) → told ≡ bytes ++ rest → AreEnough least most bytes → Behind bytes (Some rest))
      × (length told < least → Short told (Some [])))

  -- a piece came
  pub took_told : (least most : ℕ) (bytes : List ℕ) (left later : Option (List ℕ)) → AreEnough least most bytes → Consumes left later bytes
      → RackState least most left → Behind bytes later
  took_told least most bytes None later enough consumes told = absurd told
  took_told least most bytes (Some all) None enough consumes told = absurd consumes
  took_told least most bytes (Some all) (Some rest) enough consumes told = told.0 bytes rest consumes enough

  -- the end came
  none_left : (told rest : List ℕ) → told ≡ told ++ rest → rest ≡ []
  none_left told rest same = nil_from_length rest (omega (arith, ap (λ (bytes : List ℕ). length bytes) same, length-append told rest))

  pub took_last_told : (least most : ℕ) (bytes : List ℕ) (left later : Option (List ℕ)) → length bytes < least → Consumes left later bytes
      → IfSome left (λ all. bytes ≡ all) → RackState least most left → Short bytes later
  took_last_told least most bytes None later few consumes all told = absurd told
  took_last_told least most bytes (Some left) None few consumes all told = absurd consumes
  took_last_told least most bytes (Some left) (Some rest) few consumes all told =
      let same : left ≡ left ++ rest = subst (λ (piece : List ℕ). left ≡ piece ++ rest) all consumes in
      subst (λ (piece : List ℕ). Short piece (Some rest)) (sym all)
      (subst (λ (none : List ℕ). Short left (Some none)) (sym (none_left left rest same))
      (told.1 (subst (λ (piece : List ℕ). length piece < least) all few)))

-- Each step that is taken is such a one, of a source that tells that this is left.
abbrev pub EachStepOf : (Step → Type 0) → Program → Option (List ℕ) → Type 0
EachStepOf IsSo (Over status) left = ⊤
EachStepOf IsSo (Ask question k) left = (reply : Reply question) → IsReply question reply → EachStepOf IsSo (k reply) left
EachStepOf IsSo (Take least most k short) left = IsToldSo left (λ told.
    ((bytes rest : List ℕ) → told ≡ bytes ++ rest → AreEnough least most bytes → EachStepOf IsSo (k bytes) (Some rest))
    × (length told < least → EachStepOf IsSo (short told) (Some [])))
EachStepOf IsSo (Put bytes program) left = EachStepOf IsSo program left
EachStepOf IsSo (Allocate program) left = EachStepOf IsSo program left
EachStepOf IsSo (Do action k) left = (done : OkOf action) → EachStepOf IsSo (k done) left
EachStepOf IsSo (Try step k) left = IsSo step × ((answer : Answer step) (gone : Bool) → EachStepOf IsSo (k answer gone) left)
EachStepOf IsSo (RebuildAll slots done k) left = IsSo RebuildNext × ((count : ℕ) → EachStepOf IsSo (k count) left)

module _ (IsSo : Step → Type 0) {S : Type 0} (view : SourceView S) where
  abbrev Of : Program → S → Type 0
  Of program source = EachStepOf IsSo program (view.left source)

  moved : (rest program : Program) (a b : S) → rest ≡ program → b ≡ a → Of program a → Of rest b
  moved rest program a b same kept each = subst (λ (p : Program). Of p b) (sym same) (subst (λ (source : S). Of program source) (sym kept) each)

  done_of : (action : Action) (k : OkOf action → Program) (outcome : Outcome action) (a : S) → ((done : OkOf action) → Of (k done) a)
      → Of (after action k outcome) a
  done_of action k (Ok done) a each = each done
  done_of action k (Err refusal) a each = tt

  rebuilt_of : (slots done : ℕ) (k : ℕ → Program) (answer : Result Progress Refusal) (a : S) → Of (RebuildAll slots done k) a
      → Of (after_rebuild slots done k answer) a
  rebuilt_of slots done k (Ok Nothing) a each = each.1 done
  rebuilt_of slots done k (Ok (Chunk j t)) a each = each
  rebuilt_of slots done k (Ok (Promoted j)) a each = each
  rebuilt_of slots done k (Ok (Dropped j)) a each = each
  rebuilt_of slots done k (Err refusal) a each = tt

  move_of : (item : TraceItem) (program rest : Program) (a b : S) → Of program a → StepsProgram item program rest → Gives view item a b → OfItem IsSo item × Of rest b
  move_of (FoundOut asked) (Ask question k) rest a b each moves gives = (tt, moved rest (k moves.0) a b moves.3 gives (each moves.0 moves.2))
  move_of (Took bytes) (Take least most k short) rest a b each moves gives = (
    tt,
    moved rest (k bytes) b b moves.1 refl
        (took_told (λ piece left. EachStepOf IsSo (k piece) left) (λ piece left. EachStepOf IsSo (short piece) left) least most bytes (view.left a)
        (view.left b) moves.0 gives.0 each),
  )
  move_of (TookLast bytes) (Take least most k short) rest a b each moves gives = (
    tt,
    moved rest (short bytes) b b moves.1 refl
        (took_last_told (λ piece left. EachStepOf IsSo (k piece) left) (λ piece left. EachStepOf IsSo (short piece) left) least most bytes (view.left a)
        (view.left b) moves.0 gives.0 gives.1 each),
  )
  move_of (TakeFailed bytes) (Take least most k short) rest a b each moves gives = (tt, moved rest (Over InputFault) b b moves.1 refl tt)
  move_of (HasPut bytes) (Put all program) rest a b each moves gives = (tt, moved rest program a b moves.1 gives each)
  move_of (PutFailed part) (Put all program) rest a b each moves gives = (tt, moved rest (Over OutputFault) b b moves.1 refl tt)
  move_of Grew (Allocate program) rest a b each moves gives = (tt, moved rest program a b moves gives each)
  move_of RanOut (Allocate program) rest a b each moves gives = (tt, moved rest (Over OutOfMemory) b b moves refl tt)
  move_of (Did did came) (Do action k) rest a b each moves gives =
      (tt, moved rest (after action k moves.0) a b moves.2 gives (done_of action k moves.0 a each))
  move_of (Stepped did came events left) (Try step k) rest a b each moves gives = (
    subst (OfItem IsSo) (sym moves.1) each.0,
    moved rest (k moves.0 left) a b moves.2 gives (each.1 moves.0 left),
  )
  move_of (Stepped did came events left) (RebuildAll slots done k) rest a b each moves gives = (
    subst (OfItem IsSo) (sym moves.1) each.0,
    moved rest (after_rebuild slots done k moves.0) a b moves.2 gives (rebuilt_of slots done k moves.0 a each),
  )
  move_of _ _ rest a b each moves gives = absurd moves

  -- a trace takes no steps but those of its program, of what the source told
  pub steps_of : (trace : List TraceItem) (program rest : Program) (a b : S) → Of program a → AlongTrace StepsProgram trace program rest → AlongTrace (Gives view) trace a b
      → AllSteps IsSo trace
  steps_of [] program rest a b each follows gives = tt
  steps_of (item ∷ trace) program rest a b each follows gives =
      let one = move_of item program follows.0 a gives.0 each follows.1 gives.1 in
      (one.0, steps_of trace follows.0 rest gives.0 b one.1 follows.2 gives.2)

-- ---- what its steps count

module _ (count : Step → ℕ) (uncounted : count RebuildNext ≡ 0) where
  after_counts : (n : ℕ) (action : Action) (k : OkOf action → Program) (outcome : Outcome action) → ((done : OkOf action) → CountsAtMost count n (k done))
      → CountsAtMost count n (after action k outcome)
  after_counts n action k (Ok done) allows = allows done
  after_counts n action k (Err refusal) allows = tt

  rebuilt_counts : (n slots done : ℕ) (k : ℕ → Program) (answer : Result Progress Refusal) → CountsAtMost count n (RebuildAll slots done k)
      → CountsAtMost count n (after_rebuild slots done k answer)
  rebuilt_counts n slots done k (Ok Nothing) allows = allows done
  rebuilt_counts n slots done k (Ok (Chunk j t)) allows = allows
  rebuilt_counts n slots done k (Ok (Promoted j)) allows = allows
  rebuilt_counts n slots done k (Ok (Dropped j)) allows = allows
  rebuilt_counts n slots done k (Err refusal) allows = tt

  -- what the rest of a program counts, after an item
  record Leaves (n : ℕ) (item : TraceItem) (rest : Program) : Type 0 where
    left : ℕ
    within : at_step count item + left ≤ n
    allows : CountsAtMost count left rest

  same_left : (n : ℕ) (item : TraceItem) (program rest : Program) → at_step count item ≤ 0 → CountsAtMost count n program → rest ≡ program → Leaves n item rest
  same_left n item program rest none allows same =
      record { left = n; within = omega (arith, none); allows = subst (CountsAtMost count n) (sym same) allows }

  move_counts : (n : ℕ) (item : TraceItem) (program rest : Program) → CountsAtMost count n program → StepsProgram item program rest → Leaves n item rest
  move_counts n (FoundOut asked) (Ask question k) rest allows moves =
      same_left n (FoundOut asked) (k moves.0) rest (omega arith) (allows moves.0 moves.2) moves.3
  move_counts n (Took bytes) (Take least most k short) rest allows moves = same_left n (Took bytes) (k bytes) rest (omega arith) (allows.0 bytes) moves.1
  move_counts n (TookLast bytes) (Take least most k short) rest allows moves =
      same_left n (TookLast bytes) (short bytes) rest (omega arith) (allows.1 bytes) moves.1
  move_counts n (TakeFailed bytes) (Take least most k short) rest allows moves = same_left n (TakeFailed bytes) _ rest (omega arith) tt moves.1
  move_counts n (HasPut bytes) (Put all program) rest allows moves = same_left n (HasPut bytes) program rest (omega arith) allows moves.1
  move_counts n (PutFailed part) (Put all program) rest allows moves = same_left n (PutFailed part) _ rest (omega arith) tt moves.1
  move_counts n Grew (Allocate program) rest allows moves = same_left n Grew program rest (omega arith) allows moves
  move_counts n RanOut (Allocate program) rest allows moves = same_left n RanOut _ rest (omega arith) tt moves
  move_counts n (Did did came) (Do action k) rest allows moves =
      same_left n (Did did came) (after action k moves.0) rest (omega arith) (after_counts n action k moves.0 allows) moves.2
  move_counts n (Stepped did came events left) (Try step k) rest allows moves = record {
    left = allows.0;
    within = subst (λ (taken : TraceItem). at_step count taken + allows.0 ≤ n) (sym moves.1) allows.1;
    allows = subst (CountsAtMost count allows.0) (sym moves.2) (allows.2 moves.0 left);
  }
  move_counts n (Stepped did came events left) (RebuildAll slots done k) rest allows moves = record {
    left = n;
    within = subst (λ (taken : TraceItem). at_step count taken + n ≤ n) (sym moves.1) (omega (arith, uncounted));
    allows = subst (CountsAtMost count n) (sym moves.2) (rebuilt_counts n slots done k moves.0 allows);
  }
  move_counts n _ _ rest allows moves = absurd moves

  -- the steps of a trace count no more than those of its program
  pub counted_along : (n : ℕ) (trace : List TraceItem) (program rest : Program) → CountsAtMost count n program → AlongTrace StepsProgram trace program rest → over_steps count trace ≤ n
  counted_along n [] program rest allows follows = omega arith
  counted_along n (item ∷ trace) program rest allows follows =
      let one = move_counts n item program follows.0 allows follows.1 in
      omega (arith, one.within, counted_along one.left trace follows.0 rest one.allows follows.2)

-- and are allowed no more
pub allowed_along : (n : ℕ) (trace : List TraceItem) (program rest : Program) → AllowsAtMost n program → AlongTrace StepsProgram trace program rest → over_steps allowance trace ≤ n
allowed_along = counted_along allowance refl

-- ---- programs that take no step

pub none_each : (IsSo : Step → Type 0) (program : Program) → TakesNoStep program → EachStep IsSo program
none_each IsSo (Over status) none = tt
none_each IsSo (Ask question k) none = λ reply is. none_each IsSo (k reply) (none reply is)
none_each IsSo (Take least most k short) none = (λ bytes. none_each IsSo (k bytes) (none.0 bytes), λ bytes. none_each IsSo (short bytes) (none.1 bytes))
none_each IsSo (Put bytes program) none = none_each IsSo program none
none_each IsSo (Allocate program) none = none_each IsSo program none
none_each IsSo (Do action k) none = λ done. none_each IsSo (k done) (none done)
none_each IsSo (Try step k) none = absurd none
none_each IsSo (RebuildAll slots done k) none = absurd none

pub none_counts : (count : Step → ℕ) (n : ℕ) (program : Program) → TakesNoStep program → CountsAtMost count n program
none_counts count n (Over status) none = tt
none_counts count n (Ask question k) none = λ reply is. none_counts count n (k reply) (none reply is)
none_counts count n (Take least most k short) none = (λ bytes. none_counts count n (k bytes) (none.0 bytes), λ bytes. none_counts count n (short bytes) (none.1 bytes))
none_counts count n (Put bytes program) none = none_counts count n program none
none_counts count n (Allocate program) none = none_counts count n program none
none_counts count n (Do action k) none = λ done. none_counts count n (k done) (none done)
none_counts count n (Try step k) none = absurd none
none_counts count n (RebuildAll slots done k) none = absurd none
