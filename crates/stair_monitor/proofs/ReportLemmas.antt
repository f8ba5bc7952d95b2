-- A text that is taken byte by byte, whose lines spell events.
use Rattle.std.proofs.Common.{◌≡◌, ℕ, zero, suc, ◌+◌, ◌-◌, ◌<◌, ◌≤◌, ◌==◌, Bool, true, false, List, [], ◌∷◌, ◌++◌, Option, None, Some, Result, Ok, Err, inl, inr, length, length-append, nat_lt, refl, sym, ap, subst, arith, drop, length-drop, take, take-append-drop}
use Rattle.std.specs.Prelude.{All}
use Rattle.std.specs.Io.KnownBytes.{Appends}
use Rattle.std.specs.Result.{IsErrAnd}
use Rattle.std.proofs.lemmas.Bool.{le-ltb, lt-ltb}
use Rattle.std.proofs.lemmas.List.{take_all}
use Rattle.std.proofs.lemmas.List.Elements.{All-append, All-cons, All-head, All-nil, All-tail}
use Rattle.stair_rack.specs.declared.watcher.Event.{Event}
use Rattle.stair_script.specs.Events.{SpellsEvent}
use Rattle.stair_command.proofs.ProgramLaws.{and_then, cannot_put, leads_then, puts}
use Rattle.stair_command.specs.Executes.{Counts, Gives, Holds, Executes}
use Rattle.stair_command.specs.Outside.{SinkView, SourceView, Views, outside}
use Rattle.stair_command.specs.Program.{Program, Over, Put, if_so}
use Rattle.stair_command.specs.Question.{EventLine}
use Rattle.stair_command.specs.Trace.{TraceItem, Found, Took, TookLast, TakeFailed, AlongTrace, StepsProgram}
use Rattle.stair_command.specs.Texts.{SCRIPT_LIMIT, TakesByte, ends_line, last_of}
use Rattle.stair_status.specs.declared.status.Status.TheVariants.{BadLine, Done, Input, InputFault, OutputFault}
use Rattle.stair_watch.specs.Lines.{PutsFront}
use Rattle.stair_monitor.specs.Reports.{EVENT_LIMIT, event_taken, report_over, report_program, report_text, reports, status_of, status_of_report}
use Rattle.stair_monitor.specs.Seen.{FailsByte, IsEventOf, IsReading, Reads, ReadsText, SeesLast, Tells}
use Rattle.stair_monitor.specs.declared.reporting.ReportFault.{ReportFault}
use Rattle.stair_monitor.specs.declared.reporting.ReportFault.TheVariants as fault
use Rattle.stair_monitor.specs.declared.reporting.Seen.{Seen}

-- ---- what is read, one part after the other

module _ {S : Type 0} (view : SourceView S) where
  reads_none : (program : Program) (a : S) → Reads view program program a a
  reads_none program a = record { trace = []; reading = All-nil IsReading; follows = refl; gives = refl }

  reads_one : (item : TraceItem) (program rest : Program) (a b : S) → IsReading item → StepsProgram item program rest → Gives view item a b → Reads view program rest a b
  reads_one item program rest a b reading moves gives = record {
    trace = item ∷ [];
    reading = All-cons IsReading item [] reading (All-nil IsReading);
    follows = (rest, moves, refl);
    gives = (b, gives, refl);
  }

  reads_then : {program mid rest : Program} {a b c : S} → Reads view program mid a b → Reads view mid rest b c → Reads view program rest a c
  reads_then {program} {mid} {rest} {a} {b} {c} first later = record {
    trace = first.trace ++ later.trace;
    reading = All-append IsReading first.trace later.trace first.reading later.reading;
    follows = leads_then StepsProgram first.trace later.trace program mid rest first.follows later.follows;
    gives = leads_then (Gives view) first.trace later.trace a b c first.gives later.gives;
  }

-- ---- it leaves the sink and the counter

reading_holds : {K : Type 0} (view : SinkView K) (trace : List TraceItem) (sink : K) → All IsReading trace → AlongTrace (Holds view) trace sink sink
reading_holds view [] sink reading = refl
reading_holds view (item ∷ trace) sink reading =
    (sink, one item (All-head IsReading item trace reading), reading_holds view trace sink (All-tail IsReading item trace reading))
  where
    one : (item : TraceItem) → IsReading item → Holds view item sink sink
    one (Found (EventLine line)) is = refl
    one (Took bytes) is = refl
    one (TookLast bytes) is = refl
    one (TakeFailed bytes) is = refl
    one _ is = absurd is

reading_counts : (trace : List TraceItem) (counter : ℕ) → All IsReading trace → AlongTrace Counts trace counter counter
reading_counts [] counter reading = refl
reading_counts (item ∷ trace) counter reading =
    (counter, one item (All-head IsReading item trace reading), reading_counts trace counter (All-tail IsReading item trace reading))
  where
    one : (item : TraceItem) → IsReading item → Counts item counter counter
    one (Found (EventLine line)) is = refl
    one (Took bytes) is = refl
    one (TookLast bytes) is = refl
    one (TakeFailed bytes) is = refl
    one _ is = absurd is

module _ {S K : Type 0} (view : Views S K) where
  means_read : {program rest : Program} {a b : S} → Reads view.source program rest a b → (held : K) (counter : ℕ)
      → Executes view program rest (outside a held counter) (outside b held counter)
  means_read reads held counter = record {
    trace = reads.trace;
    follows = reads.follows;
    bears = record {
      gives = reads.gives;
      holds = reading_holds view.sink reads.trace held reads.reading;
      counts = reading_counts reads.trace counter reads.reading;
    };
  }

  -- ---- the whole report

  -- the text was refused
  pub report_refused : (result : Result (Unit {0}) ReportFault) (why : ReportFault) → IsErrAnd result (λ y. y ≡ why)
      → (a b : S) → ReadsText view.source (Err why) a b → (held : K) (counter : ℕ)
      → Executes view report_program (Over (status_of result)) (outside a held counter) (outside b held counter)
  report_refused (Ok done) why is a b reads held counter = absurd is
  report_refused (Err y) why is a b reads held counter =
      subst (λ (f : ReportFault). Executes view report_program (Over (status_of_report f)) (outside a held counter) (outside b held counter)) (sym is)
      (means_read reads held counter)

  module _ (seen : Seen) (a b : S) (read : ReadsText view.source (Ok seen) a b) (text : List ℕ)
      (is : (events : List Event) → Tells events seen → text ≡ report_text events) (count : ℕ) (held later : K)
      (put : PutsFront view.sink.held view.sink.faults count text held later) (counter : ℕ) where
    -- what is put out then
    told : Executes view report_program (Put text (Over Done)) (outside a held counter) (outside b held counter)
    told =
        subst (λ (bytes : List ℕ). Executes view report_program (Put bytes (Over Done)) (outside a held counter) (outside b held counter))
        (sym (is read.events read.tells)) (means_read read.reads held counter)

    -- all of it
    pub report_done : length text ≤ count → Executes view report_program (Over Done) (outside a held counter) (outside b later counter)
    report_done all =
        let whole : take count text ≡ text = take_all count text all in
        and_then view told
        (puts view text (Over Done) b held later counter
        (subst (λ (front : List ℕ). Appends (view.sink.held held) (view.sink.held later) front) whole put.grows, put.rises))

    -- or a part
    pub report_cut : count < length text → Executes view report_program (Over OutputFault) (outside a held counter) (outside b later counter)
    report_cut some =
        and_then view told
        (cannot_put view text (take count text) (Over Done) b held later counter
        (drop count text, sym (take-append-drop count text), omega (arith, length-drop count text, some))
        (put.grows, put.rises, put.fault some))

-- ---- a line

module _ {S : Type 0} (view : SourceView S) (number : ℕ) (line : List ℕ) (events : List Event) (rest : List Event → Program) (a : S) where
  -- it tells an event
  line_tells : (said : Event) → SpellsEvent line said → Reads view (event_taken number line events rest) (rest (said ∷ events)) a a
  line_tells said spells =
      reads_one view (Found (EventLine line)) (event_taken number line events rest) (rest (said ∷ events)) a a tt (Some said, refl, spells, refl) refl

  -- or none
  line_tells_none : (why : ReportFault) → IsEventOf number line (Err why) → Reads view (event_taken number line events rest) (Over (status_of_report why)) a a
  line_tells_none why none =
      subst (λ (f : ReportFault). Reads view (event_taken number line events rest) (Over (status_of_report f)) a a) (sym none.0)
      (reads_one view (Found (EventLine line)) (event_taken number line events rest) (Over (BadLine number)) a a tt (None, refl, none.1, refl) refl)

some_last : (number : ℕ) (line : List ℕ) (events : List Event) → 0 < length line
    → event_taken number line events report_over ≡ last_of event_taken report_over number line events
some_last number [] events some = absurd (omega (arith, some))
some_last number (byte ∷ line) events some = refl

-- ---- byte by byte

-- after a byte
abbrev byte_on : (room number : ℕ) (line : List ℕ) → List Event → List ℕ → Program
byte_on room number line events byte =
    if_so (ends_line byte) (event_taken number line events (reports room (number + 1) []))
    (if_so (nat_lt (length line) EVENT_LIMIT) (reports room number (line ++ byte) events) (Over (BadLine number)))

module _ {S : Type 0} (view : SourceView S) where
  -- an error that was handed on
  pub text_refused : (result : Result Seen ReportFault) (why : ReportFault) → IsErrAnd result (λ y. y ≡ why) → (a b : S) → ReadsText view (Err why) a b
      → ReadsText view result a b
  text_refused (Ok seen) why is a b reads = absurd is
  text_refused (Err y) why is a b reads = subst (λ (f : ReportFault). ReadsText view (Err f) a b) (sym is) reads

  module _ (from : S) where
    -- So many bytes were taken, and these are of the line of this number.
    pub record SawSoFar (taken number : ℕ) (line : List ℕ) (seen : Seen) (left : S) : Type 0 where
      pub events : List Event
      pub tells : Tells events seen
      pub few : length events ≤ taken
      pub numbered : number ≤ taken + 1
      pub short : length line ≤ EVENT_LIMIT
      pub reads : Reads view report_program (reports (SCRIPT_LIMIT - taken) number line events) from left

    pub saw_none : (line : List ℕ) (seen : Seen) → line ≡ [] → Tells [] seen → SawSoFar 0 1 line seen from
    saw_none line seen fresh tells = record {
      events = [];
      tells = tells;
      few = omega arith;
      numbered = omega arith;
      short = omega (arith, ap length fresh);
      reads = subst (λ (bytes : List ℕ). Reads view report_program (reports (SCRIPT_LIMIT - 0) 1 bytes []) from from) (sym fresh) (reads_none view report_program from);
    }

    module _ (taken number : ℕ) (line : List ℕ) (seen : Seen) (left later : S) (so_far : SawSoFar taken number line seen left) where
      abbrev events : List Event
      events = so_far.events

      abbrev Comes : Program → Type 0
      Comes program = Reads view report_program program from later

      -- the source failed
      pub byte_failed : (why : ReportFault) → FailsByte view why left later → Comes (Over (status_of_report why))
      byte_failed why fails =
          subst (λ (f : ReportFault). Comes (Over (status_of_report f))) (sym fails.is) (reads_then view so_far.reads (by (SCRIPT_LIMIT - taken)))
        where
          by : (room : ℕ) → Reads view (reports room number line events) (Over InputFault) left later
          by zero = reads_one view (TakeFailed []) (reports 0 number line events) (Over InputFault) left later tt (omega arith, refl) fails.gives
          by (suc room) = reads_one view (TakeFailed []) (reports (suc room) number line events) (Over InputFault) left later tt (omega arith, refl) fails.gives

      -- it ended
      ended : TakesByte view None left later → Comes (last_of event_taken report_over number line events)
      ended gives = reads_then view so_far.reads (by (SCRIPT_LIMIT - taken))
        where
          by : (room : ℕ) → Reads view (reports room number line events) (last_of event_taken report_over number line events) left later
          by zero =
              reads_one view (TookLast []) (reports 0 number line events) (last_of event_taken report_over number line events) left later tt
              (omega arith, refl) gives
          by (suc room) =
              reads_one view (TookLast []) (reports (suc room) number line events) (last_of event_taken report_over number line events) left later tt
              (omega arith, refl) gives

      -- the text after the last end was seen
      pub ends_last : (byte : Option ℕ) → ((some : ℕ) → byte ≡ Some some → ⊥) → TakesByte view byte left later → (bytes : List ℕ) → bytes ≡ line
          → (result : Result Seen ReportFault) → SeesLast number bytes events result → ReadsText view result from later
      ends_last byte none gives bytes same result sees =
          by result (ended (no_byte byte none gives)) (subst (λ (all : List ℕ). SeesLast number all events result) same sees)
        where
          no_byte : (byte : Option ℕ) → ((some : ℕ) → byte ≡ Some some → ⊥) → TakesByte view byte left later → TakesByte view None left later
          no_byte None none gives = gives
          no_byte (Some some) none gives = absurd (none some refl)

          some_on : 0 < length line → Comes (last_of event_taken report_over number line events) → Comes (event_taken number line events report_over)
          some_on some reads = subst Comes (sym (some_last number line events some)) reads

          by : (result : Result Seen ReportFault) → Comes (last_of event_taken report_over number line events) → SeesLast number line events result
              → ReadsText view result from later
          by (Ok all) reads (inl nothing) = record {
            events = events;
            tells = nothing.1;
            reads = subst (λ (bytes : List ℕ). Comes (last_of event_taken report_over number bytes events)) nothing.0 reads;
          }
          by (Ok all) reads (inr one) = record {
            events = one.0 ∷ events;
            tells = one.3;
            reads = reads_then view (some_on one.1 reads) (line_tells view number line events report_over later one.0 one.2);
          }
          by (Err why) reads none =
              reads_then view (some_on none.0 reads) (line_tells_none view number line events report_over later why none.1)

      -- more came than a text has
      pub too_long : SCRIPT_LIMIT ≤ taken → (byte : ℕ) → TakesByte view (Some byte) left later → Comes (Over (Input SCRIPT_LIMIT (SCRIPT_LIMIT + 1)))
      too_long past byte gives =
          let none : SCRIPT_LIMIT - taken ≡ 0 = omega (arith, past) in
          reads_then view
          (subst (λ (room : ℕ). Reads view report_program (reports room number line events) from left) none so_far.reads)
          (reads_one view (Took (byte ∷ [])) (reports 0 number line events) (Over (Input SCRIPT_LIMIT (SCRIPT_LIMIT + 1))) left later tt
          (record { enough = omega arith; within = omega arith }, refl) gives)

      module _ (below : taken < SCRIPT_LIMIT) (byte : ℕ) (gives : TakesByte view (Some byte) left later) where
        -- a byte came
        came : Comes (byte_on (SCRIPT_LIMIT - (taken + 1)) number line events (byte ∷ []))
        came =
            let room = SCRIPT_LIMIT - (taken + 1) in
            let more : SCRIPT_LIMIT - taken ≡ suc room = omega (arith, below) in
            reads_then view
            (subst (λ (all : ℕ). Reads view report_program (reports all number line events) from left) more so_far.reads)
            (reads_one view (Took (byte ∷ [])) (reports (suc room) number line events) (byte_on room number line events (byte ∷ [])) left later tt
            (record { enough = omega arith; within = omega arith }, refl) gives)

        module _ (other : (byte == 10) ≡ false) where
          of_line : Comes
              (if_so (nat_lt (length line) EVENT_LIMIT) (reports (SCRIPT_LIMIT - (taken + 1)) number (line ++ (byte ∷ [])) events) (Over (BadLine number)))
          of_line =
              subst
              (λ (end : Bool). Comes
              (if_so end (event_taken number line events (reports (SCRIPT_LIMIT - (taken + 1)) (number + 1) []))
              (if_so (nat_lt (length line) EVENT_LIMIT) (reports (SCRIPT_LIMIT - (taken + 1)) number (line ++ (byte ∷ [])) events) (Over (BadLine number)))))
              other came

          -- it is one more of the line
          pub one_more : (longer : List ℕ) → longer ≡ line ++ (byte ∷ []) → length line < EVENT_LIMIT → SawSoFar (taken + 1) number longer seen later
          one_more longer same room = record {
            events = events;
            tells = so_far.tells;
            few = omega (arith, so_far.few);
            numbered = omega (arith, so_far.numbered);
            short = omega (arith, ap length same, length-append line (byte ∷ []), room);
            reads =
                subst (λ (bytes : List ℕ). Comes (reports (SCRIPT_LIMIT - (taken + 1)) number bytes events)) (sym same)
                (subst
                (λ (short : Bool). Comes
                (if_so short (reports (SCRIPT_LIMIT - (taken + 1)) number (line ++ (byte ∷ [])) events) (Over (BadLine number))))
                (lt-ltb (length line) EVENT_LIMIT room) of_line);
          }

          -- or too many
          pub line_long : EVENT_LIMIT ≤ length line → Comes (Over (BadLine number))
          line_long past =
              subst
              (λ (short : Bool). Comes
              (if_so short (reports (SCRIPT_LIMIT - (taken + 1)) number (line ++ (byte ∷ [])) events) (Over (BadLine number))))
              (le-ltb (length line) EVENT_LIMIT past) of_line

        module _ (end : (byte == 10) ≡ true) (bytes : List ℕ) (same : bytes ≡ line) where
          -- it ends the line
          line_came : Comes (event_taken number line events (reports (SCRIPT_LIMIT - (taken + 1)) (number + 1) []))
          line_came =
              subst
              (λ (ends : Bool). Comes
              (if_so ends (event_taken number line events (reports (SCRIPT_LIMIT - (taken + 1)) (number + 1) []))
              (if_so (nat_lt (length line) EVENT_LIMIT) (reports (SCRIPT_LIMIT - (taken + 1)) number (line ++ (byte ∷ [])) events) (Over (BadLine number)))))
              end came

          -- which tells no event
          pub line_refused : (why : ReportFault) → IsEventOf number bytes (Err why) → Comes (Over (status_of_report why))
          line_refused why none =
              reads_then view line_came
              (line_tells_none view number line events (reports (SCRIPT_LIMIT - (taken + 1)) (number + 1) []) later why
              (subst (λ (all : List ℕ). IsEventOf number all (Err why)) same none))

          -- or one
          pub line_seen : (said : Event) → SpellsEvent bytes said → (after : Seen)
              → ((events : List Event) → Tells events seen → Tells (said ∷ events) after) → (fresh : List ℕ) → fresh ≡ []
              → SawSoFar (taken + 1) (number + 1) fresh after later
          line_seen said spells after adds fresh none = record {
            events = said ∷ events;
            tells = adds events so_far.tells;
            few = omega (arith, so_far.few);
            numbered = omega (arith, so_far.numbered);
            short = omega (arith, ap length none);
            reads =
                subst (λ (all : List ℕ). Comes (reports (SCRIPT_LIMIT - (taken + 1)) (number + 1) all (said ∷ events))) (sym none)
                (reads_then view line_came
                (line_tells view number line events (reports (SCRIPT_LIMIT - (taken + 1)) (number + 1) []) later said
                (subst (λ (all : List ℕ). SpellsEvent all said) same spells)));
          }

    -- this holds for equal parts
    pub same_saw : (taken : ℕ) (left : S) {n m : ℕ} → n ≡ m → {line bytes : List ℕ} → line ≡ bytes → {seen after : Seen} → seen ≡ after
        → SawSoFar taken m bytes after left → SawSoFar taken n line seen left
    same_saw taken left {n} {m} ns {line} {bytes} ls {seen} {after} ss saw =
        subst (λ (x : ℕ). SawSoFar taken x line seen left) (sym ns)
        (subst (λ (x : List ℕ). SawSoFar taken m x seen left) (sym ls) (subst (λ (x : Seen). SawSoFar taken m bytes x left) (sym ss) saw))
