-- What was taken and put out, one thing after the other, and over any devices.
use Rattle.std.proofs.Common.{ℕ, List, [], ◌∷◌, ◌++◌, refl}
use Rattle.std.specs.Prelude.{All}
use Rattle.std.proofs.lemmas.List.Elements.{All-append, All-cons, All-head, All-nil, All-tail}
use Rattle.stair_command.specs.Devices.{DeviceView, Devices, ExecutesWith, WorksAll}
use Rattle.stair_command.specs.Executes.{Counts, Gives, Holds}
use Rattle.stair_command.specs.Outside.{SinkView, SourceView, Views, outside}
use Rattle.stair_command.specs.Program.{Program, Over, Put}
use Rattle.stair_command.specs.Trace.{TraceItem, HasPut, IsPart, AlongTrace, StepsProgram, PutFailed, TakeFailed, Took, TookLast}
use Rattle.stair_command.specs.Talks.{IsPut, IsSpoken, IsTaken, PutsTo, TakesTo, TalksTo}
use Rattle.stair_status.specs.declared.status.Status.TheVariants.{OutputFault}
use Rattle.stair_command.proofs.ProgramLaws.{leads_then}

-- ---- a source

module _ {S : Type 0} (view : SourceView S) where
  pub takes_none : (program : Program) (a : S) → TakesTo view program program a a
  takes_none program a = record { trace = []; taken = All-nil IsTaken; follows = refl; gives = refl }

  pub takes_one : (item : TraceItem) (program rest : Program) (a b : S) → IsTaken item → StepsProgram item program rest → Gives view item a b → TakesTo view program rest a b
  takes_one item program rest a b taken moves gives = record {
    trace = item ∷ [];
    taken = All-cons IsTaken item [] taken (All-nil IsTaken);
    follows = (rest, moves, refl);
    gives = (b, gives, refl);
  }

-- ---- a sink

module _ {K : Type 0} (view : SinkView K) where
  -- all was put out, or a part of it
  pub puts_all : (bytes : List ℕ) (program : Program) (k l : K) → Holds view (HasPut bytes) k l → PutsTo view (Put bytes program) program k l
  puts_all bytes program k l holds = record {
    trace = HasPut bytes ∷ [];
    put = All-cons IsPut (HasPut bytes) [] tt (All-nil IsPut);
    follows = (program, (refl, refl), refl);
    holds = (l, holds, refl);
  }

  pub puts_part : (bytes part : List ℕ) (program : Program) (k l : K) → IsPart part bytes → Holds view (PutFailed part) k l
      → PutsTo view (Put bytes program) (Over OutputFault) k l
  puts_part bytes part program k l is holds = record {
    trace = PutFailed part ∷ [];
    put = All-cons IsPut (PutFailed part) [] tt (All-nil IsPut);
    follows = (Over OutputFault, (is, refl), refl);
    holds = (l, holds, refl);
  }

-- ---- one beside the other

taken_spoken : (item : TraceItem) → IsTaken item → IsSpoken item
taken_spoken (Took bytes) is = tt
taken_spoken (TookLast bytes) is = tt
taken_spoken (TakeFailed bytes) is = tt
taken_spoken _ is = absurd is

put_spoken : (item : TraceItem) → IsPut item → IsSpoken item
put_spoken (HasPut bytes) is = tt
put_spoken (PutFailed part) is = tt
put_spoken _ is = absurd is

all_spoken : (IsSo : TraceItem → Type 0) → ((item : TraceItem) → IsSo item → IsSpoken item) → (trace : List TraceItem) → All IsSo trace → All IsSpoken trace
all_spoken IsSo so [] all = All-nil IsSpoken
all_spoken IsSo so (item ∷ trace) all =
    All-cons IsSpoken item trace (so item (All-head IsSo item trace all)) (all_spoken IsSo so trace (All-tail IsSo item trace all))

taken_holds : {K : Type 0} (view : SinkView K) (trace : List TraceItem) (k : K) → All IsTaken trace → AlongTrace (Holds view) trace k k
taken_holds view [] k taken = refl
taken_holds view (item ∷ trace) k taken = (k, one item (All-head IsTaken item trace taken), taken_holds view trace k (All-tail IsTaken item trace taken))
  where
    one : (item : TraceItem) → IsTaken item → Holds view item k k
    one (Took bytes) is = refl
    one (TookLast bytes) is = refl
    one (TakeFailed bytes) is = refl
    one _ is = absurd is

put_gives : {S : Type 0} (view : SourceView S) (trace : List TraceItem) (a : S) → All IsPut trace → AlongTrace (Gives view) trace a a
put_gives view [] a put = refl
put_gives view (item ∷ trace) a put = (a, one item (All-head IsPut item trace put), put_gives view trace a (All-tail IsPut item trace put))
  where
    one : (item : TraceItem) → IsPut item → Gives view item a a
    one (HasPut bytes) is = refl
    one (PutFailed part) is = refl
    one _ is = absurd is

spoken_counts : (trace : List TraceItem) (n : ℕ) → All IsSpoken trace → AlongTrace Counts trace n n
spoken_counts [] n spoken = refl
spoken_counts (item ∷ trace) n spoken = (n, one item (All-head IsSpoken item trace spoken), spoken_counts trace n (All-tail IsSpoken item trace spoken))
  where
    one : (item : TraceItem) → IsSpoken item → Counts item n n
    one (Took bytes) is = refl
    one (TookLast bytes) is = refl
    one (TakeFailed bytes) is = refl
    one (HasPut bytes) is = refl
    one (PutFailed part) is = refl
    one _ is = absurd is

spoken_works : {R W : Type 0} (view : DeviceView R W) (trace : List TraceItem) (x : Devices R W) → All IsSpoken trace → AlongTrace (WorksAll view) trace x x
spoken_works view [] x spoken = refl
spoken_works view (item ∷ trace) x spoken =
    (x, one item (All-head IsSpoken item trace spoken), spoken_works view trace x (All-tail IsSpoken item trace spoken))
  where
    one : (item : TraceItem) → IsSpoken item → WorksAll view item x x
    one (Took bytes) is = refl
    one (TookLast bytes) is = refl
    one (TakeFailed bytes) is = refl
    one (HasPut bytes) is = refl
    one (PutFailed part) is = refl
    one _ is = absurd is

-- ---- both

module _ {S K : Type 0} (view : Views S K) where
  pub talks_none : (program : Program) (a : S) (k : K) → TalksTo view program program a a k k
  talks_none program a k = record { trace = []; spoken = All-nil IsSpoken; follows = refl; gives = refl; holds = refl }

  pub talks_taken : {program rest : Program} {a b : S} → TakesTo view.source program rest a b → (k : K) → TalksTo view program rest a b k k
  talks_taken takes k = record {
    trace = takes.trace;
    spoken = all_spoken IsTaken taken_spoken takes.trace takes.taken;
    follows = takes.follows;
    gives = takes.gives;
    holds = taken_holds view.sink takes.trace k takes.taken;
  }

  pub talks_put : {program rest : Program} {k l : K} → PutsTo view.sink program rest k l → (a : S) → TalksTo view program rest a a k l
  talks_put puts a = record {
    trace = puts.trace;
    spoken = all_spoken IsPut put_spoken puts.trace puts.put;
    follows = puts.follows;
    gives = put_gives view.source puts.trace a puts.put;
    holds = puts.holds;
  }

  pub talks_then : {program mid rest : Program} {a b c : S} {k l m : K} → TalksTo view program mid a b k l → TalksTo view mid rest b c l m
      → TalksTo view program rest a c k m
  talks_then {program} {mid} {rest} {a} {b} {c} {k} {l} {m} first later = record {
    trace = first.trace ++ later.trace;
    spoken = All-append IsSpoken first.trace later.trace first.spoken later.spoken;
    follows = leads_then StepsProgram first.trace later.trace program mid rest first.follows later.follows;
    gives = leads_then (Gives view.source) first.trace later.trace a b c first.gives later.gives;
    holds = leads_then (Holds view.sink) first.trace later.trace k l m first.holds later.holds;
  }

  -- over any devices
  pub with_talk : {R W : Type 0} (devices : DeviceView R W) {program rest : Program} {a b : S} {k l : K} → TalksTo view program rest a b k l → (n : ℕ)
      → (x : Devices R W) → ExecutesWith devices view program rest (outside a k n) (outside b l n) x x
  with_talk devices talks n x = record {
    means = record {
      trace = talks.trace;
      follows = talks.follows;
      bears = record { gives = talks.gives; holds = talks.holds; counts = spoken_counts talks.trace n talks.spoken };
    };
    works = spoken_works devices talks.trace x talks.spoken;
  }
