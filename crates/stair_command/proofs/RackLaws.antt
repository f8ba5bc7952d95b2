-- What a rack shows of a call.
use Rattle.std.proofs.Common.{◌≡◌, ◌∙◌, ℕ, List, [], ◌∷◌, refl, sym, subst, Result, Ok, Err}
use Rattle.stair_command.specs.Executes.{Counts, Gives, Holds, Executes}
use Rattle.stair_command.specs.Outside.{Outside, Views, outside}
use Rattle.stair_command.specs.Program.{Program, Over, Ask, Take, Put, Allocate, Do, Try, RebuildAll}
use Rattle.stair_command.specs.Rack.{ExecutesOver, RackView, Works}
use Rattle.stair_command.specs.Trace.{TraceItem, Found, Took, TookLast, TakeFailed, HasPut, PutFailed, Grew, RanOut, Did, Stepped, AlongTrace, StepsProgram, IsPart}
use Rattle.stair_status.specs.declared.status.Status.{Status}
use Rattle.stair_status.specs.declared.status.Status.TheVariants.{Done, OutputFault, OutOfMemory}
use Rattle.stair_command.proofs.ProgramLaws.{and_then, does, leads_then}
use Rattle.std.specs.Result.{IsErrAnd}
use Rattle.stair_command.specs.declared.fault.Fault.{Fault}
use Rattle.stair_command.specs.Fault.{status_of, status_of_fault}
use Rattle.stair_command.specs.Ending.{MakesNoCall}

-- ---- items that make no call

-- an item that isn't one on an array
abbrev pub IsOffDevices : TraceItem → Type 0
IsOffDevices (Did action outcome) = ⊥
IsOffDevices (Stepped step answer events left) = ⊥
IsOffDevices _ = Unit {0}

pub works_still : {R : Type 0} (rack : RackView R) (item : TraceItem) (x y : R) → IsOffDevices item → Works rack item x y → y ≡ x
works_still rack (Did action outcome) x y off works = absurd off
works_still rack (Stepped step answer events left) x y off works = absurd off
works_still rack (Found question) x y off works = works
works_still rack (Took bytes) x y off works = works
works_still rack (TookLast bytes) x y off works = works
works_still rack (TakeFailed bytes) x y off works = works
works_still rack (HasPut bytes) x y off works = works
works_still rack (PutFailed bytes) x y off works = works
works_still rack Grew x y off works = works
works_still rack RanOut x y off works = works

still_works : {R : Type 0} (rack : RackView R) (item : TraceItem) (x : R) → IsOffDevices item → Works rack item x x
still_works rack (Did action outcome) x off = absurd off
still_works rack (Stepped step answer events left) x off = absurd off
still_works rack (Found question) x off = refl
still_works rack (Took bytes) x off = refl
still_works rack (TookLast bytes) x off = refl
still_works rack (TakeFailed bytes) x off = refl
still_works rack (HasPut bytes) x off = refl
still_works rack (PutFailed bytes) x off = refl
still_works rack Grew x off = refl
still_works rack RanOut x off = refl

-- ---- programs that make no call

-- one move of such a program
pub no_call_moves : (item : TraceItem) (program rest : Program) → MakesNoCall program → StepsProgram item program rest → IsOffDevices item × MakesNoCall rest
no_call_moves (Found asked) (Ask question k) rest none moves = (tt, subst MakesNoCall (sym moves.3) (none moves.0 moves.2))
no_call_moves (Took bytes) (Take least most k short) rest none moves = (tt, subst MakesNoCall (sym moves.1) (none.0 bytes))
no_call_moves (TookLast bytes) (Take least most k short) rest none moves = (tt, subst MakesNoCall (sym moves.1) (none.1 bytes))
no_call_moves (TakeFailed bytes) (Take least most k short) rest none moves = (tt, subst MakesNoCall (sym moves.1) tt)
no_call_moves (HasPut bytes) (Put all program) rest none moves = (tt, subst MakesNoCall (sym moves.1) none)
no_call_moves (PutFailed part) (Put all program) rest none moves = (tt, subst MakesNoCall (sym moves.1) tt)
no_call_moves Grew (Allocate program) rest none moves = (tt, subst MakesNoCall (sym moves) none)
no_call_moves RanOut (Allocate program) rest none moves = (tt, subst MakesNoCall (sym moves) tt)
no_call_moves (Did did came) (Do action k) rest none moves = absurd none
no_call_moves (Stepped did came events left) (Try step k) rest none moves = absurd none
no_call_moves (Stepped did came events left) (RebuildAll slots done k) rest none moves = absurd none
no_call_moves _ _ rest none moves = absurd moves

-- a trace along such a program leaves a rack
pub still_along : {R : Type 0} (rack : RackView R) (trace : List TraceItem) (program rest : Program) (x : R) → MakesNoCall program → AlongTrace StepsProgram trace program rest
    → AlongTrace (Works rack) trace x x
still_along rack [] program rest x none follows = refl
still_along rack (item ∷ trace) program rest x none follows =
    let moved = no_call_moves item program follows.0 none follows.1 in
    (x, still_works rack item x moved.0, still_along rack trace follows.0 rest x moved.1 follows.2)

pub left_along : {R : Type 0} (rack : RackView R) (trace : List TraceItem) (program rest : Program) (x y : R) → MakesNoCall program → AlongTrace StepsProgram trace program rest
    → AlongTrace (Works rack) trace x y → y ≡ x
left_along rack [] program rest x y none follows works = works
left_along rack (item ∷ trace) program rest x y none follows works =
    let moved = no_call_moves item program follows.0 none follows.1 in
    left_along rack trace follows.0 rest works.0 y moved.1 follows.2 works.2 ∙ works_still rack item x works.0 moved.0 works.1

-- ---- calls over a rack

module _ {R S K : Type 0} (rack : RackView R) (view : Views S K) where
  pub over_then : {program mid rest : Program} {a b c : Outside S K} {x y z : R} → ExecutesOver rack view program mid a b x y
      → ExecutesOver rack view mid rest b c y z → ExecutesOver rack view program rest a c x z
  over_then {program} {mid} {rest} {a} {b} {c} {x} {y} {z} first later = record {
    means = and_then view first.means later.means;
    works = leads_then (Works rack) first.means.trace later.means.trace x y z first.works later.works;
  }

  -- one item
  pub over_one : (item : TraceItem) (program rest : Program) (a b : Outside S K) (x y : R) → StepsProgram item program rest → Gives view.source item a.source b.source
      → Holds view.sink item a.sink b.sink → Counts item a.counter b.counter → Works rack item x y → ExecutesOver rack view program rest a b x y
  over_one item program rest a b x y moves gives holds counts works = record {
    means = does view item program rest a b moves gives holds counts;
    works = (y, works, refl);
  }

  -- a program that makes no call
  pub over_still : (program rest : Program) (a b : Outside S K) (x : R) → MakesNoCall program → Executes view program rest a b → ExecutesOver rack view program rest a b x x
  over_still program rest a b x none means = record { means = means; works = still_along rack means.trace program rest x none means.follows }

  -- a fault that was handed on
  pub over_hands_on : (program : Program) (a b : Outside S K) (x y : R) (result : Result Status Fault) (fault : Fault) → IsErrAnd result (λ f. f ≡ fault)
      → ExecutesOver rack view program (Over (status_of_fault fault)) a b x y → ExecutesOver rack view program (Over (status_of result)) a b x y
  over_hands_on program a b x y (Ok status) fault is means = absurd is
  over_hands_on program a b x y (Err f) fault is means =
      subst (λ (k : Fault). ExecutesOver rack view program (Over (status_of_fault k)) a b x y) (sym is) means

  pub over_grows : (program : Program) (a : Outside S K) (x : R) → ExecutesOver rack view (Allocate program) program a a x x
  over_grows program a x = over_one Grew (Allocate program) program a a x x refl refl refl refl refl

  pub over_runs_out : (program : Program) (a : Outside S K) (x : R) → ExecutesOver rack view (Allocate program) (Over OutOfMemory) a a x x
  over_runs_out program a x = over_one RanOut (Allocate program) (Over OutOfMemory) a a x x refl refl refl refl refl

  pub over_puts : (bytes : List ℕ) (source : S) (sink sink' : K) (n : ℕ) (x : R) → Holds view.sink (HasPut bytes) sink sink'
      → ExecutesOver rack view (Put bytes (Over Done)) (Over Done) (outside source sink n) (outside source sink' n) x x
  over_puts bytes source sink sink' n x holds =
      over_one (HasPut bytes) (Put bytes (Over Done)) (Over Done) _ _ x x (refl, refl) refl holds refl refl

  pub over_cannot_put : (bytes part : List ℕ) (source : S) (sink sink' : K) (n : ℕ) (x : R) → IsPart part bytes → Holds view.sink (PutFailed part) sink sink'
      → ExecutesOver rack view (Put bytes (Over Done)) (Over OutputFault) (outside source sink n) (outside source sink' n) x x
  over_cannot_put bytes part source sink sink' n x is holds =
      over_one (PutFailed part) (Put bytes (Over Done)) (Over OutputFault) _ _ x x (is, refl) refl holds refl refl
