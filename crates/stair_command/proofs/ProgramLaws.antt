-- Traces one after the other: one lemma an item, and one that joins them.
use Rattle.std.proofs.Common.{◌≡◌, ℕ, List, [], ◌∷◌, ◌++◌, Result, Ok, Err, refl, sym, subst}
use Rattle.std.specs.Result.{IsErrAnd}
use Rattle.stair_command.specs.declared.fault.Fault.{Fault}
use Rattle.stair_status.specs.declared.status.Status.{Status}
use Rattle.stair_status.specs.declared.status.Status.TheVariants.{OutOfMemory, OutputFault}
use Rattle.stair_command.specs.Fault.{status_of, status_of_fault}
use Rattle.stair_command.specs.Executes.{Counts, Gives, Holds, Executes}
use Rattle.stair_command.specs.Outside.{Outside, SinkView, Views, outside}
use Rattle.stair_command.specs.Program.{Program, Over, Ask, Put, Allocate, whole_input}
use Rattle.stair_command.specs.Question.{Question, Reply, IsReply}
use Rattle.stair_command.specs.Trace.{TraceItem, Found, Took, TookLast, TakeFailed, HasPut, PutFailed, Grew, RanOut, IsPart, AlongTrace, StepsProgram}
use Rattle.stair_command.specs.Taking.{TakesOnly, TakesWhole, after_input}

pub leads_then : {X : Type 0} (One : TraceItem → X → X → Type 0) (a b : List TraceItem) (x y z : X) → AlongTrace One a x y → AlongTrace One b y z
    → AlongTrace One (a ++ b) x z
leads_then One [] b x y z first later = subst (λ from. AlongTrace One b from z) first later
leads_then One (item ∷ a) b x y z first later = (first.0, first.1, leads_then One a b first.0 y z first.2 later)

-- a trace that only takes leaves the sink and the counter
takes_hold : {K : Type 0} (view : SinkView K) (trace : List TraceItem) (sink : K) → TakesOnly trace → AlongTrace (Holds view) trace sink sink
takes_hold view [] sink only = refl
takes_hold view (Took bytes ∷ trace) sink only = (sink, refl, takes_hold view trace sink only)
takes_hold view (TookLast bytes ∷ trace) sink only = (sink, refl, takes_hold view trace sink only)
takes_hold view (TakeFailed bytes ∷ trace) sink only = (sink, refl, takes_hold view trace sink only)
takes_hold view (_ ∷ trace) sink only = absurd only

takes_count : (trace : List TraceItem) (counter : ℕ) → TakesOnly trace → AlongTrace Counts trace counter counter
takes_count [] counter only = refl
takes_count (Took bytes ∷ trace) counter only = (counter, refl, takes_count trace counter only)
takes_count (TookLast bytes ∷ trace) counter only = (counter, refl, takes_count trace counter only)
takes_count (TakeFailed bytes ∷ trace) counter only = (counter, refl, takes_count trace counter only)
takes_count (_ ∷ trace) counter only = absurd only

module _ {S K : Type 0} (view : Views S K) where
  -- one part of a program, and then the next
  abbrev pub and_then : {program mid rest : Program} {a b c : Outside S K} → Executes view program mid a b → Executes view mid rest b c → Executes view program rest a c
  and_then {program} {mid} {rest} {a} {b} {c} first later = record {
    trace = first.trace ++ later.trace;
    follows = leads_then StepsProgram first.trace later.trace program mid rest first.follows later.follows;
    bears = record {
      gives = leads_then (Gives view.source) first.trace later.trace a.source b.source c.source first.bears.gives later.bears.gives;
      holds = leads_then (Holds view.sink) first.trace later.trace a.sink b.sink c.sink first.bears.holds later.bears.holds;
      counts = leads_then Counts first.trace later.trace a.counter b.counter c.counter first.bears.counts later.bears.counts;
    };
  }

  -- one item
  abbrev pub does : (item : TraceItem) (program rest : Program) (a b : Outside S K) → StepsProgram item program rest → Gives view.source item a.source b.source
      → Holds view.sink item a.sink b.sink → Counts item a.counter b.counter → Executes view program rest a b
  does item program rest a b moves gives holds counts = record {
    trace = item ∷ [];
    follows = (rest, moves, refl);
    bears = record { gives = (b.source, gives, refl); holds = (b.sink, holds, refl); counts = (b.counter, counts, refl) };
  }

  pub grows : (program : Program) (a : Outside S K) → Executes view (Allocate program) program a a
  grows program a = does Grew (Allocate program) program a a refl refl refl refl

  pub runs_out : (program : Program) (a : Outside S K) → Executes view (Allocate program) (Over OutOfMemory) a a
  runs_out program a = does RanOut (Allocate program) (Over OutOfMemory) a a refl refl refl refl

  pub finds : (question : Question) (k : Reply question → Program) (reply : Reply question) (source : S) (sink : K) (n n' : ℕ) → IsReply question reply
      → Counts (Found question) n n' → Executes view (Ask question k) (k reply) (outside source sink n) (outside source sink n')
  finds question k reply source sink n n' is counts =
      does (Found question) (Ask question k) (k reply) (outside source sink n) (outside source sink n') (reply, refl, is, refl) refl refl counts

  pub puts : (bytes : List ℕ) (program : Program) (source : S) (sink sink' : K) (n : ℕ) → Holds view.sink (HasPut bytes) sink sink'
      → Executes view (Put bytes program) program (outside source sink n) (outside source sink' n)
  puts bytes program source sink sink' n holds =
      does (HasPut bytes) (Put bytes program) program (outside source sink n) (outside source sink' n) (refl, refl) refl holds refl

  pub cannot_put : (bytes part : List ℕ) (program : Program) (source : S) (sink sink' : K) (n : ℕ) → IsPart part bytes
      → Holds view.sink (PutFailed part) sink sink' → Executes view (Put bytes program) (Over OutputFault) (outside source sink n) (outside source sink' n)
  cannot_put bytes part program source sink sink' n is holds =
      does (PutFailed part) (Put bytes program) (Over OutputFault) (outside source sink n) (outside source sink' n) (is, refl) refl holds refl

  -- a whole input, or its refusal
  pub takes_whole : {T : Type 0} (needed : ℕ) (result : Result T Fault) (IsInput : T → List ℕ → Type 0) (source source' : S) (sink : K) (n : ℕ)
      (k : List ℕ → Program) (whole : TakesWhole view.source needed result IsInput source source')
      → Executes view (whole_input needed k) (after_input result whole.bytes k) (outside source sink n) (outside source' sink n)
  takes_whole needed result IsInput source source' sink n k whole = record {
    trace = whole.trace;
    follows = whole.follows k;
    bears = record {
      gives = whole.gives;
      holds = takes_hold view.sink whole.trace sink whole.takes_only;
      counts = takes_count whole.trace n whole.takes_only;
    };
  }

  -- a fault that was handed on
  pub hands_on : (program : Program) (a b : Outside S K) (result : Result Status Fault) (fault : Fault) → IsErrAnd result (λ y. y ≡ fault)
      → Executes view program (Over (status_of_fault fault)) a b → Executes view program (Over (status_of result)) a b
  hands_on program a b (Ok status) fault is means = absurd is
  hands_on program a b (Err y) fault is means = subst (λ (k : Fault). Executes view program (Over (status_of_fault k)) a b) (sym is) means
