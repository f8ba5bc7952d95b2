-- Traces that follow the program which copies two bytes, and runs over the new rack.
use Rattle.std.proofs.Common.{◌≡◌, ◌≢◌, ℕ, List, [], ◌∷◌, ◌++◌, inl, inr, refl, sym, ap, ◌∙◌, subst, arith, length, get_or, None, Some, Option, Ok, Err, false}
use Rattle.std.specs.Prelude.{◌==◌, Bool, if◌then◌else◌}
use Rattle.std.proofs.lemmas.Bool.{cases_eq, ne_eqb}
use Rattle.stair_rack.specs.Crash.{CrashMayLeave, SlotMayLeave, image_now}
use Rattle.stair_rack.specs.History.{Attach, Called, Happening, Made, Read, after_call, slot_state}
use Rattle.stair_rack.specs.Media.{Image}
use Rattle.stair_rack.proofs.CrashLemmas.{CrashMayLeave-now}
use Rattle.stair_rack.specs.declared.rack.Got.TheVariants.{Good as was_good}
use Rattle.stair_rack.specs.declared.rack.Reply.TheVariants.{Done as was_done}
use Rattle.stair_member.specs.Membership.{Membership}
use Rattle.stair_member.specs.Seats.{Seats}
use Rattle.stair_member.specs.declared.why.Why.TheVariants.{Gone}
use Rattle.stair_state.specs.Blocks.{zero_block}
use Rattle.stair_state.specs.Represents.{Represents, RepresentsAlone}
use Rattle.stair_state.specs.State.{Content, State, first_seats}
use Rattle.stair_state.proofs.AloneLemmas.{each_left}
use Rattle.stair_invariant.specs.Returning.{NoneReturns}
use Rattle.stair_array.specs.Machine.{Answer, InDoubt, IsAsItWas, Made as MadeChange, MayBeCut, ReadBlock, Refusal, Row, Step, write_block}
use Rattle.stair_array.specs.Promise.{Begun, IsLeftBy}
use Rattle.stair_reinsert.specs.Misled.{five}
use Rattle.stair_status.specs.declared.status.Status.{Status}
use Rattle.stair_status.specs.declared.status.Status.TheVariants.{Done, Input, InputFault, OutputFault}
use Rattle.stair_command.specs.Devices.{Devices, ExecutesWhole, WorksAll, devices}
use Rattle.stair_command.specs.Executes.{Bears, Executes}
use Rattle.stair_command.specs.Outside.{outside}
use Rattle.stair_command.specs.Program.{Over, Program, Put}
use Rattle.stair_command.specs.Run.{Goes, IsLeftByNext, IsNext, Now, Runs, TakesStep, now}
use Rattle.stair_command.specs.Trace.{TraceItem, Did, Found, Grew, HasPut, AlongTrace, StepsProgram, PutFailed, RanOut, Stepped, TakeFailed, Took, TookLast}
use Rattle.stair_command.proofs.PerformedLaws.{borne_whole}
use Rattle.stair_reinsert_examples.proofs.FiveConsistent.{made_tidy}
use Rattle.stair_examples.specs.Arrays.{chunk_sector, first_edition, made_new, new_rack, other_bytes, zero_words}
use Rattle.stair_examples.specs.Calls.{ExamplesOfGoes, ExamplesOfRefinesProgram, ExamplesOfIsRun, ExamplesOfIsSafe, ExamplesOfExecutes, RefinesProgramBy, IsSafeAt, closed_session, copies_two, holding_others, holding_zeros, looked, over_history, reads_block, streams, written}
use Rattle.stair_examples.specs.Journals.{knowing}
use Rattle.stair_examples.proofs.NewRackLemmas.{represents}
use Rattle.stair_examples.proofs.RepresentsLemmas.{HasChunk, has_chunk, holding, not_now, other_zero}

-- STORIES OF THE PLAN

-- a call that is over does nothing more
no_move : (item : TraceItem) (status : Status) (mid : Program) → ¬ StepsProgram item (Over status) mid
no_move (Found question) status mid moves = moves
no_move (Took bytes) status mid moves = moves
no_move (TookLast bytes) status mid moves = moves
no_move (TakeFailed bytes) status mid moves = moves
no_move (HasPut bytes) status mid moves = moves
no_move (PutFailed part) status mid moves = moves
no_move Grew status mid moves = moves
no_move RanOut status mid moves = moves
no_move (Did action came) status mid moves = moves
no_move (Stepped step came events left) status mid moves = moves

over_same : (trace : List TraceItem) (status : Status) → AlongTrace StepsProgram trace (Over status) (Over Done) → (trace ≡ []) × (status ≡ Done)
over_same [] status same = let done : status ≡ Done = cc in (refl, done)
over_same (item ∷ more) status leads = absurd (no_move item status leads.0 leads.1)

-- from a program that is known by an equation
over_then : (trace : List TraceItem) (mid : Program) (status : Status) → mid ≡ Over status → AlongTrace StepsProgram trace mid (Over Done)
    → (trace ≡ []) × (status ≡ Done)
over_then trace mid status is leads = over_same trace status (subst (λ (p : Program). AlongTrace StepsProgram trace p (Over Done)) is leads)

puts : (trace : List TraceItem) (bytes : List ℕ) → AlongTrace StepsProgram trace (Put bytes (Over Done)) (Over Done) → trace ≡ HasPut bytes ∷ []
puts [] bytes same = absurd (cc)
puts (HasPut put ∷ more) bytes leads =
    let all : put ≡ bytes = leads.1.0 in
    let rest : more ≡ [] = (over_then more leads.0 Done leads.1.1 leads.2).0 in
    cc
puts (PutFailed part ∷ more) bytes leads =
    let fault : OutputFault ≡ Done = (over_then more leads.0 OutputFault leads.1.1 leads.2).1 in absurd (cc)
puts (Found question ∷ more) bytes leads = absurd leads.1
puts (Took taken ∷ more) bytes leads = absurd leads.1
puts (TookLast taken ∷ more) bytes leads = absurd leads.1
puts (TakeFailed taken ∷ more) bytes leads = absurd leads.1
puts (Grew ∷ more) bytes leads = absurd leads.1
puts (RanOut ∷ more) bytes leads = absurd leads.1
puts (Did action came ∷ more) bytes leads = absurd leads.1
puts (Stepped step came events left ∷ more) bytes leads = absurd leads.1

-- two bytes are taken, and these are put out
record IsCopy (trace : List TraceItem) : Type 0 where
  bytes : List ℕ
  is : trace ≡ Took bytes ∷ HasPut bytes ∷ []

copies : (trace : List TraceItem) → AlongTrace StepsProgram trace copies_two (Over Done) → IsCopy trace
copies [] same = absurd (cc)
copies (Took bytes ∷ more) leads =
    let rest : more ≡ HasPut bytes ∷ [] = puts more bytes (subst (λ (p : Program). AlongTrace StepsProgram more p (Over Done)) leads.1.1 leads.2) in
    record { bytes = bytes; is = ap (λ (l : List TraceItem). Took bytes ∷ l) rest }
copies (TookLast bytes ∷ more) leads =
    let short : Input 2 (length bytes) ≡ Done = (over_then more leads.0 (Input 2 (length bytes)) leads.1.1 leads.2).1 in absurd (cc)
copies (TakeFailed bytes ∷ more) leads =
    let fault : InputFault ≡ Done = (over_then more leads.0 InputFault leads.1.1 leads.2).1 in absurd (cc)
copies (Found question ∷ more) leads = absurd leads.1
copies (HasPut bytes ∷ more) leads = absurd leads.1
copies (PutFailed part ∷ more) leads = absurd leads.1
copies (Grew ∷ more) leads = absurd leads.1
copies (RanOut ∷ more) leads = absurd leads.1
copies (Did action came ∷ more) leads = absurd leads.1
copies (Stepped step came events left ∷ more) leads = absurd leads.1

-- WHAT IT MEANS

abbrev copy : List TraceItem
copy = Took (7 ∷ 8 ∷ []) ∷ HasPut (7 ∷ 8 ∷ []) ∷ []

means : Executes streams copies_two (Over Done) (outside (7 ∷ 8 ∷ 9 ∷ []) [] 0) (outside (9 ∷ []) (7 ∷ 8 ∷ []) 0)
means = record {
  trace = copy;
  follows =
      (Put (7 ∷ 8 ∷ []) (Over Done), (record { enough = omega arith; within = omega arith }, refl), (Over Done, (refl, refl), refl));
  bears = record {
    gives = (9 ∷ [], (refl, refl, refl, omega arith), (9 ∷ [], refl, refl));
    holds = ([], refl, (7 ∷ 8 ∷ [], (refl, omega arith), refl));
    counts = (0, refl, (0, refl, refl));
  };
}

-- what is put out is what was taken
not_other : (trace : List TraceItem) → IsCopy trace → ¬ Bears streams trace (outside (7 ∷ 8 ∷ 9 ∷ []) [] 0) (outside (9 ∷ []) (7 ∷ 9 ∷ []) 0)
not_other trace of bears = by (subst (λ (s : List TraceItem). Bears streams s (outside (7 ∷ 8 ∷ 9 ∷ []) [] 0) (outside (9 ∷ []) (7 ∷ 9 ∷ []) 0)) of.is bears)
  where
    by : ¬ Bears streams (Took of.bytes ∷ HasPut of.bytes ∷ []) (outside (7 ∷ 8 ∷ 9 ∷ []) [] 0) (outside (9 ∷ []) (7 ∷ 9 ∷ []) 0)
    by is =
        let taken : 7 ∷ 8 ∷ 9 ∷ [] ≡ of.bytes ++ is.gives.0 = is.gives.1.0 in
        let left : is.gives.2.0 ≡ is.gives.0 = is.gives.2.1 in
        let over : 9 ∷ [] ≡ is.gives.2.0 = is.gives.2.2 in
        let none : is.holds.0 ≡ [] = is.holds.1 in
        let put : is.holds.2.0 ≡ is.holds.0 ++ of.bytes = is.holds.2.1.0 in
        let held : 7 ∷ 9 ∷ [] ≡ is.holds.2.0 = is.holds.2.2 in
        let bytes : 7 ∷ 9 ∷ [] ≡ of.bytes = held ∙ put ∙ ap (λ (l : List ℕ). l ++ of.bytes) none in
        let all : 7 ∷ 8 ∷ 9 ∷ [] ≡ 7 ∷ 9 ∷ 9 ∷ [] =
        taken ∙ ap (λ (l : List ℕ). of.bytes ++ l) (sym left ∙ sym over) ∙ ap (λ (l : List ℕ). l ++ 9 ∷ []) (sym bytes) in
        let second : 8 ≡ 9 = ap (λ (l : List ℕ). get_or l 1 0) all in
        omega (arith, second)

pub meanings : ExamplesOfExecutes
meanings = record { holds = means; fails = λ is. not_other is.trace (copies is.trace is.follows) is.bears }

-- WHOLE CALLS

whole : ExecutesWhole over_history streams copies_two (Over Done) (outside (7 ∷ 8 ∷ 9 ∷ []) [] 0) (outside (9 ∷ []) (7 ∷ 8 ∷ []) 0) made_new made_new [] []
unfolding means
whole = record {
  session = Begun;
  with = record { means = means; works = (devices made_new Begun [], refl, (devices made_new Begun [], refl, refl)) };
}

refines : RefinesProgramBy made_new
refines =
    borne_whole over_history streams copies_two (Over Done) (outside (7 ∷ 8 ∷ 9 ∷ []) [] 0) (outside (9 ∷ []) (7 ∷ 8 ∷ []) 0) made_new made_new [] [] whole

-- neither item calls a device
same_rack : (trace : List TraceItem) (first last : Devices (List Happening) (Unit {0})) → IsCopy trace → AlongTrace (WorksAll over_history) trace first last
    → last.rack ≡ first.rack
same_rack trace first last of works =
    by (subst (λ (s : List TraceItem). AlongTrace (WorksAll over_history) s first last) of.is works)
  where
    by : AlongTrace (WorksAll over_history) (Took of.bytes ∷ HasPut of.bytes ∷ []) first last → last.rack ≡ first.rack
    by is = ap (λ (x : Devices (List Happening) (Unit {0})). x.rack) (is.2.2 ∙ is.2.1 ∙ is.1)

not_refines : ¬ RefinesProgramBy written
not_refines is =
    let same : written ≡ made_new =
    same_rack is.over.means.trace (devices made_new Begun []) (devices written is.session [])
    (copies is.over.means.trace is.over.means.follows) is.over.works in
    let longer : 3 ≡ 1 = ap length same in
    omega (arith, longer)

pub calls : ExamplesOfRefinesProgram
calls = record { holds = refines; fails = not_refines }

-- STEPS

none_some : {A : Type 0} {x : A} → ¬ (◌≡◌ {A = Option A} None (Some x))
none_some same = cc

one_zero : other_bytes ≢ zero_block
one_zero same = other_zero (sym same)

abbrev before : Now
before = now holding_zeros made_new None

abbrev after : Now
after = now holding_others made_new None

abbrev some_member : Membership
some_member = knowing 2 Gone

writes : TakesStep NoneReturns made_new (write_block 0 other_bytes) (Ok tt) [] before after
writes = record {
  unstopped = refl;
  stops = refl;
  later = record { before = []; later = []; from = refl; to = refl };
  member = some_member;
  last = some_member;
  is_step = record {
    begun = first_seats five;
    begins = refl;
    row = record {
      geometry = refl;
      begins = refl;
      passes = λ begun. (omega arith, record { some = omega arith; within = omega arith }, refl);
      holds = record { content = refl; in_doubt = refl };
      seats = first_seats five;
      known = refl;
      marks = λ j. inl refl;
    };
  };
  events_are = refl;
}

reads : TakesStep NoneReturns made_new (ReadBlock 0) (Ok zero_block) [] before before
reads = record {
  unstopped = refl;
  stops = refl;
  later = record { before = []; later = []; from = refl; to = refl };
  member = some_member;
  last = some_member;
  is_step = record {
    begun = first_seats five;
    begins = refl;
    row = record {
      geometry = refl;
      begins = refl;
      passes = λ begun. omega arith;
      holds = (refl, record { content = refl; in_doubt = refl });
      seats = first_seats five;
      known = refl;
      marks = λ j. inl refl;
    };
  };
  events_are = refl;
}

pub steps : ExamplesOfGoes
steps = record {
  holds = inl writes;
  fails = λ goes.
      elim goes [
        | inl takes ↦ one_zero (sym (ap (λ (c : Content). c.blocks 0) takes.is_step.row.holds.content))
        | inr again ↦ none_some again.stopped
      ];
}

-- RUNS

not_read : (mid : Now) → ¬ Goes NoneReturns made_new (Stepped (ReadBlock 0) (Ok other_bytes) [] false) before mid
not_read mid (inl takes) = one_zero takes.is_step.row.holds.0
not_read mid (inr again) = none_some again.stopped

-- the new rack has zeros in the chunk of slot 0
new_chunk : HasChunk zero_block (image_now made_new)
new_chunk =
    has_chunk zero_block (image_now made_new) (refl, refl, refl) (refl, refl, refl) (refl, refl, refl) (refl, refl, refl) (refl, refl, refl) refl

-- a state by its parts
held_in : (s : State) (content : Content) → s.geometry ≡ five → s.content ≡ content → s.in_doubt ≡ None → s ≡ holding content s.seats
held_in s content geometry is certain x =
    record { geometry = geometry x; content = is x; in_doubt = certain x; seats = s.seats }

-- so it isn't an array to which a write was acknowledged
not_written : (mid : Now) → Goes NoneReturns made_new (Stepped (write_block 0 other_bytes) (Ok tt) [] false) before mid
    → ¬ Represents mid.state made_new
not_written mid (inl takes) stands =
    let row = takes.is_step.row in
    not_now zero_block made_new holding_others.content mid.state.seats new_chunk one_zero
    (subst (λ (s : State). Represents s made_new)
    (held_in mid.state holding_others.content row.geometry row.holds.content row.holds.in_doubt) stands)
not_written mid (inr again) stands = none_some again.stopped

pub runs : ExamplesOfIsRun
runs = record {
  holds = record {
    state = holding_zeros;
    stopped = None;
    runs = (before, inl reads, refl);
    is_in = record { stands = represents; serves = tt };
  };
  fails = λ run. not_read run.runs.0 run.runs.1;
  lost = λ run.
      not_written run.runs.0 run.runs.1
      (subst (λ (n : Now). Represents n.state made_new) run.runs.2 run.is_in.stands);
}

-- CRASHES

-- reading leaves every sector
same_sectors : (image : Image) → CrashMayLeave looked image → CrashMayLeave made_new image
same_sectors image leaves j =
    elim (cases_eq j 0) [
      | inl same ↦
          subst (λ (i : ℕ). SlotMayLeave (slot_state made_new i) (image i)) (sym same)
          (record { size = (leaves 0).size; each = (leaves 0).each; removed = (leaves 0).removed })
      | inr other ↦
          let away : (0 == j) ≡ false = ne_eqb 0 j (λ same. other (sym same)) in
          subst (λ (b : Bool). SlotMayLeave (if b then after_call (Read chunk_sector was_good) (if b then after_call (Attach was_done) (slot_state made_new j)
          else slot_state made_new j) else (if b then after_call (Attach was_done) (slot_state made_new j) else slot_state made_new j)) (image j)) away (leaves j)
    ]

safe : IsSafeAt looked
safe = record {
  done = [];
  later = [];
  part = refl;
  rest = reads_block;
  follows = refl;
  mid = closed_session made_new;
  ended = refl;
  not_ended = refl;
  ends_later = tt;
  reached = record {
    before = [];
    later = Called 0 (Read chunk_sector was_good) ∷ Called 0 (Attach was_done) ∷ [];
    from = refl;
    to = refl;
  };
  state = holding_zeros;
  stopped = None;
  runs = refl;
  images = λ image leaves.
      inl (each_left new_rack (made_tidy zero_words first_edition) (RepresentsAlone holding_zeros) represents image (same_sectors image leaves));
}

-- no item was done, so the state is the one before
first_state : (done later : List TraceItem) (state : State) (h : List Happening) (stopped : Option Refusal) → [] ≡ done ++ later
    → Runs NoneReturns made_new done (now holding_zeros made_new None) (now state h stopped) → state ≡ holding_zeros
first_state [] later state h stopped part run = ap (λ (n : Now). n.state) run
first_state (item ∷ done) later state h stopped part run = absurd (cc)

-- and all of the program is left
whole_program : (done later : List TraceItem) (program rest : Program) → [] ≡ done ++ later → AlongTrace StepsProgram done program rest → rest ≡ program
whole_program [] later program rest part leads = leads
whole_program (item ∷ done) later program rest part leads = absurd (cc)

-- a read changes nothing, whatever it answers
row_of_read : (answer : Answer (ReadBlock 0)) (begun : Seats) (new : State) → Row (ReadBlock 0) answer begun holding_zeros new
    → IsAsItWas holding_zeros new
row_of_read (Ok bytes) begun new row = row.holds.1
row_of_read (Err refusal) begun new row =
    elim row.holds [
      | inl same ↦ same
      | inr cut ↦ absurd (none_made cut.1)
    ]
  where
    none_made : MayBeCut None holding_zeros new → ⊥
    none_made (MadeChange what is changed) = none_some is
    none_made (InDoubt what is doubt) = none_some is

abbrev left : Image
left = image_now written

is_changed : HasChunk other_bytes (image_now (Made left ∷ []))
is_changed =
    has_chunk other_bytes (image_now (Made left ∷ [])) (refl, refl, refl) (refl, refl, refl) (refl, refl, refl) (refl, refl, refl)
    (refl, refl, refl) refl

-- what a cut of it leaves has zeros in block 0 too
cut_read : (step : Step) (m : Membership) (s : State) → step ≡ ReadBlock 0 → s ≡ holding_zeros
    → ¬ IsLeftBy NoneReturns step m made_new written s left
cut_read step m s read same by =
    not_by
    (subst (λ (t : Step). IsLeftBy NoneReturns t m made_new written holding_zeros left) read
    (subst (λ (t : State). IsLeftBy NoneReturns step m made_new written t left) same by))
  where
    not_state : (t : State) → t.geometry ≡ five → IsAsItWas holding_zeros t → ¬ RepresentsAlone t left
    not_state t geometry as_it_was stands =
        not_now other_bytes (Made left ∷ []) holding_zeros.content t.seats is_changed other_zero
        (subst (λ (u : State). RepresentsAlone u left)
        (held_in t holding_zeros.content geometry as_it_was.content as_it_was.in_doubt) stands)

    not_by : ¬ IsLeftBy NoneReturns (ReadBlock 0) m made_new written holding_zeros left
    not_by is =
        elim is.cut.within [
          | inl kept ↦
              not_state is.state (ap (λ (t : State). t.geometry) kept)
              (record { content = ap (λ (t : State). t.content) kept; in_doubt = ap (λ (t : State). t.in_doubt) kept }) is.stands
          | inr row ↦ not_state is.state row.1.geometry (row_of_read row.0 is.cut.begun is.state row.1) is.stands
        ]

not_safe : ¬ IsSafeAt written
not_safe is =
    elim (is.images left (CrashMayLeave-now written)) [
      | inl stands ↦
          not_now other_bytes (Made left ∷ []) holding_zeros.content holding_zeros.seats is_changed other_zero
          (subst (λ (s : State). RepresentsAlone s left) (first_state is.done is.later is.state is.mid.rack is.stopped is.part is.runs) stands)
      | inr next ↦ not_next is.state (first_state is.done is.later is.state is.mid.rack is.stopped is.part is.runs) next
    ]
  where
    -- what comes next is the read
    not_next : (s : State) → s ≡ holding_zeros
        → ¬ IsLeftByNext NoneReturns made_new written is.rest (now s is.mid.rack is.stopped) left
    not_next s same next =
        let read : next.step ≡ ReadBlock 0 = subst (λ (p : Program). IsNext p next.step) (whole_program is.done is.later reads_block is.rest is.part is.follows) next.next in
        cut_read next.step next.member s read same next.left

pub crashes : ExamplesOfIsSafe
crashes = record { holds = safe; fails = not_safe }
