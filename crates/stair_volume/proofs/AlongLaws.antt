-- What holds for the content of an array at each moment of a trace, because it holds along the program that the trace
-- follows.
use Rattle.std.proofs.Common.{◌≡◌, ◌≢◌, ◌∙◌, ◌<◌, ◌++◌, ◌⊎◌, ℕ, List, [], ◌∷◌, append-nil, append_assoc, inl, inr, length, Option, None, Some, Ok, Err, refl, sym, ap, subst}
use Rattle.std.specs.Prelude.{Bool, false}
use Rattle.stair_rack.specs.History.{Happening}
use Rattle.stair_rack.specs.declared.watcher.Event.{Event}
use Rattle.stair_state.specs.State.{BlocksAre, Change, Content, State, changed, changed_if, new_content}
use Rattle.stair_invariant.specs.Returning.{Returning}
use Rattle.stair_array.specs.Machine.{AlreadyArray, Answer, CutWithin, GivenBy, EpochsSpent, Frozen, Gone, IsAsItWas, IsFinal, JournalLost, Lost, MayBeCut, OutOfRange, ReadBlock, Refusal, Row, SlotBusy, SmallDevice, Step, TooFew, WriteBlocks, change_of}
use Rattle.stair_member.specs.Seats.{Seats}
use Rattle.stair_command.specs.Program.{Program, Over, Ask, Take, Put, Allocate, Do, Try, RebuildAll}
use Rattle.stair_command.specs.Question.{IsReply, Reply}
use Rattle.stair_command.specs.Run.{Goes, IsNext, IsRefusedAgain, Now, Runs, TakesStep, stop_of}
use Rattle.stair_command.specs.Trace.{AreEnough, TraceItem, Found, Took, TookLast, TakeFailed, HasPut, PutFailed, Grew, RanOut, Did, Stepped, AlongTrace, StepsProgram, put_in, taken_in}
use Rattle.stair_status.specs.declared.status.Status.{Status}
use Rattle.stair_status.specs.declared.status.Status.TheVariants.{Done, InputFault, OutputFault, OutOfMemory}
use Rattle.stair_command.proofs.LifeLaws.{Came, came_row, some_none}

-- what has come so far: what the array holds, what was taken, and what was put out
pub record Come : Type 0 where
  pub content : Content
  pub taken : List ℕ
  pub put : List ℕ

abbrev pub takes : Come → List ℕ → Come
takes come bytes = record come { taken = come.taken ++ bytes }

abbrev pub puts : Come → List ℕ → Come
puts come bytes = record come { put = come.put ++ bytes }

abbrev pub writes : Come → ℕ → List (List ℕ) → Come
writes come first contents = record come { content = changed (BlocksAre first contents) come.content }

-- the program is over, and not all was done
pub record EndsUndone (program : Program) : Type 0 where
  pub status : Status
  pub undone : status ≢ Done
  pub is : program ≡ Over status

-- an array that wasn't stopped holds this, and nothing is in doubt
pub record IsCertain (now : Now) (come : Come) : Type 0 where
  pub unstopped : now.stopped ≡ None
  pub content : now.state.content ≡ come.content
  pub certain : now.state.in_doubt ≡ None

-- a refusal for good stops the array, and no other does
final_stops : (T : Type 0) (refusal : Refusal) → IsFinal refusal → stop_of {T = T} (Err refusal) ≡ None → ⊥
final_stops T (TooFew whys) final none = cc
final_stops T EpochsSpent final none = cc
final_stops T (OutOfRange asked limit) final none = absurd final
final_stops T Frozen final none = absurd final
final_stops T (Lost t counts) final none = absurd final
final_stops T (JournalLost sector) final none = absurd final
final_stops T (SlotBusy j mark) final none = absurd final
final_stops T (Gone j) final none = absurd final
final_stops T (SmallDevice j has needs) final none = absurd final
final_stops T (AlreadyArray j) final none = absurd final

-- where nothing is in doubt what may be held is what is
pub certain_maybe : (s : State) → s.in_doubt ≡ None → new_content s ≡ s.content
certain_maybe s none = ap (λ (o : Option Change). changed_if o s.content) none

-- what was taken, and put out, over an item and then a trace
taken_more : (taken : List ℕ) (item : TraceItem) (trace : List TraceItem) → (taken ++ taken_in (item ∷ [])) ++ taken_in trace ≡ taken ++ taken_in (item ∷ trace)
taken_more taken (Found asked) trace = ap (λ (l : List ℕ). l ++ taken_in trace) (append-nil taken)
taken_more taken (Took bytes) trace = append_assoc taken (bytes ++ []) (taken_in trace) ∙ ap (λ (l : List ℕ). taken ++ (l ++ taken_in trace)) (append-nil bytes)
taken_more taken (TookLast bytes) trace = append_assoc taken (bytes ++ []) (taken_in trace) ∙ ap (λ (l : List ℕ). taken ++ (l ++ taken_in trace)) (append-nil bytes)
taken_more taken (TakeFailed bytes) trace = append_assoc taken (bytes ++ []) (taken_in trace) ∙ ap (λ (l : List ℕ). taken ++ (l ++ taken_in trace)) (append-nil bytes)
taken_more taken (HasPut bytes) trace = ap (λ (l : List ℕ). l ++ taken_in trace) (append-nil taken)
taken_more taken (PutFailed part) trace = ap (λ (l : List ℕ). l ++ taken_in trace) (append-nil taken)
taken_more taken Grew trace = ap (λ (l : List ℕ). l ++ taken_in trace) (append-nil taken)
taken_more taken RanOut trace = ap (λ (l : List ℕ). l ++ taken_in trace) (append-nil taken)
taken_more taken (Did action outcome) trace = ap (λ (l : List ℕ). l ++ taken_in trace) (append-nil taken)
taken_more taken (Stepped step answer events left) trace = ap (λ (l : List ℕ). l ++ taken_in trace) (append-nil taken)

put_more : (put : List ℕ) (item : TraceItem) (trace : List TraceItem) → (put ++ put_in (item ∷ [])) ++ put_in trace ≡ put ++ put_in (item ∷ trace)
put_more put (HasPut bytes) trace = append_assoc put (bytes ++ []) (put_in trace) ∙ ap (λ (l : List ℕ). put ++ (l ++ put_in trace)) (append-nil bytes)
put_more put (PutFailed part) trace = append_assoc put (part ++ []) (put_in trace) ∙ ap (λ (l : List ℕ). put ++ (l ++ put_in trace)) (append-nil part)
put_more put (Found asked) trace = ap (λ (l : List ℕ). l ++ put_in trace) (append-nil put)
put_more put (Took bytes) trace = ap (λ (l : List ℕ). l ++ put_in trace) (append-nil put)
put_more put (TookLast bytes) trace = ap (λ (l : List ℕ). l ++ put_in trace) (append-nil put)
put_more put (TakeFailed bytes) trace = ap (λ (l : List ℕ). l ++ put_in trace) (append-nil put)
put_more put Grew trace = ap (λ (l : List ℕ). l ++ put_in trace) (append-nil put)
put_more put RanOut trace = ap (λ (l : List ℕ). l ++ put_in trace) (append-nil put)
put_more put (Did action outcome) trace = ap (λ (l : List ℕ). l ++ put_in trace) (append-nil put)
put_more put (Stepped step answer events left) trace = ap (λ (l : List ℕ). l ++ put_in trace) (append-nil put)

module _ (IsSo : List ℕ → Content → Type 0) (IsEnd : Come → Type 0) where
  -- From here on `IsSo` holds for all content on the way, and `IsEnd` holds once all is done. This holds for all
  -- answers of the outside and of an array with this content. Only blocks are read and written.
  abbrev pub Stays : Program → Come → Type 0
  Stays (Over status) come = IsSo come.taken come.content × (status ≡ Done → IsEnd come)
  Stays (Ask question k) come = IsSo come.taken come.content × ((reply : Reply question) → IsReply question reply → Stays (k reply) come)
  Stays (Take least most k short) come = IsSo come.taken come.content
      × ((bytes : List ℕ) → AreEnough least most bytes → Stays (k bytes) (takes come bytes))
      × ((bytes : List ℕ) → length bytes < least → Stays (short bytes) (takes come bytes))
  Stays (Put bytes program) come = IsSo come.taken come.content × Stays program (puts come bytes)
  Stays (Allocate program) come = IsSo come.taken come.content × Stays program come
  Stays (Do action k) come = ⊥
  Stays (Try (ReadBlock b) k) come = IsSo come.taken come.content
      × ((bytes : List ℕ) (left : Bool) → bytes ≡ come.content.blocks b → Stays (k (Ok bytes) left) come)
      × ((refusal : Refusal) (left : Bool) → EndsUndone (k (Err refusal) left))
  Stays (Try (WriteBlocks first contents) k) come = IsSo come.taken come.content
      × ((left : Bool) → Stays (k (Ok tt) left) (writes come first contents))
      × ((refusal : Refusal) (left : Bool) → EndsUndone (k (Err refusal) left))
  Stays (Try step k) come = ⊥
  Stays (RebuildAll slots done k) come = ⊥

  -- this holds for the content now
  pub stays_now : (program : Program) (come : Come) → Stays program come → IsSo come.taken come.content
  stays_now (Over status) come stays = stays.0
  stays_now (Ask question k) come stays = stays.0
  stays_now (Take least most k short) come stays = stays.0
  stays_now (Put bytes program) come stays = stays.0
  stays_now (Allocate program) come stays = stays.0
  stays_now (Do action k) come stays = absurd stays
  stays_now (Try (ReadBlock b) k) come stays = stays.0
  stays_now (Try (WriteBlocks first contents) k) come stays = stays.0
  stays_now (Try step k) come stays = absurd stays
  stays_now (RebuildAll slots done k) come stays = absurd stays

  -- The result of an item: `IsSo` holds, whether a change in doubt is made or not. The program continues to satisfy
  -- `Stays`; or the array was stopped and the program is over.
  pub record Comes (rest : Program) (new : Now) (last : Come) : Type 0 where
    pub so : IsSo last.taken new.state.content
    pub so_maybe : IsSo last.taken (new_content new.state)
    pub goes : new.stopped ≡ None → IsCertain new last × Stays rest last
    pub over : (refusal : Refusal) → new.stopped ≡ Some refusal → EndsUndone rest

  pub record ComesBy (come : Come) (trace : List TraceItem) (rest : Program) (new : Now) : Type 0 where
    pub last : Come
    pub taken : last.taken ≡ come.taken ++ taken_in trace
    pub put : last.put ≡ come.put ++ put_in trace
    pub comes : Comes rest new last

  -- nothing was done to the array
  still : (rest : Program) (old new : Now) (last : Come) → new ≡ old → IsCertain old last → Stays rest last → Comes rest new last
  still rest old new last same is stays =
      let held : new.state.content ≡ last.content = ap (λ (n : Now). n.state.content) same ∙ is.content in
      let none : new.state.in_doubt ≡ None = ap (λ (n : Now). n.state.in_doubt) same ∙ is.certain in
      let so = stays_now rest last stays in
      record {
        so = subst (IsSo last.taken) (sym held) so;
        so_maybe = subst (IsSo last.taken) (sym (certain_maybe new.state none ∙ held)) so;
        goes = λ unstopped. (record { unstopped = unstopped; content = held; certain = none }, stays);
        over = λ refusal stopped. absurd (some_none stopped (ap (λ (n : Now). n.stopped) same ∙ is.unstopped));
      }

  -- what a change may have made of what is held
  came_so : (change : Option Change) (come : Come) (old new : State) → old.content ≡ come.content → old.in_doubt ≡ None → Came change old new
      → IsSo come.taken come.content → IsSo come.taken (changed_if change come.content)
      → IsSo come.taken new.content × IsSo come.taken (new_content new)
  came_so change come old new held none (Came.Kept same) so made =
      let is : new.content ≡ come.content = same.content ∙ held in
      (subst (IsSo come.taken) (sym is) so, subst (IsSo come.taken) (sym (certain_maybe new (same.in_doubt ∙ none) ∙ is)) so)
  came_so change come old new held none (Came.Settled nothing (inl same)) so made =
      let is : new.content ≡ come.content = same.content ∙ held in
      (subst (IsSo come.taken) (sym is) so, subst (IsSo come.taken) (sym (certain_maybe new same.in_doubt ∙ is)) so)
  came_so change come old new held none (Came.Settled nothing (inr same)) so made =
      let is : new.content ≡ come.content = same.content ∙ ap (λ (o : Option Change). changed_if o old.content) none ∙ held in
      (subst (IsSo come.taken) (sym is) so, subst (IsSo come.taken) (sym (certain_maybe new same.in_doubt ∙ is)) so)
  came_so change come old new held none (Came.Changed certain same) so made =
      let is : new.content ≡ changed_if change come.content = same.content ∙ ap (changed_if change) held in
      (subst (IsSo come.taken) (sym is) made, subst (IsSo come.taken) (sym (certain_maybe new same.in_doubt ∙ is)) made)
  came_so change come old new held none (Came.Doubted certain what some same) so made =
      let is : new.content ≡ come.content = same.content ∙ held in
      let either : new_content new ≡ changed_if change come.content =
      ap (λ (o : Option Change). changed_if o new.content) (same.in_doubt ∙ sym some) ∙ ap (changed_if change) is in
      (subst (IsSo come.taken) (sym is) so, subst (IsSo come.taken) (sym either) made)

  -- a step that was refused
  refused : (T : Type 0) (step : Step) (refusal : Refusal) (rest : Program) (come : Come) (begun : Seats) (old new : Now) → IsCertain old come
      → Row step (Err refusal) begun old.state new.state → new.stopped ≡ stop_of {T = T} (Err refusal)
      → (IsAsItWas old.state new.state ⊎ (IsFinal refusal × MayBeCut (change_of step) old.state new.state))
      → EndsUndone rest → IsSo come.taken come.content → IsSo come.taken (changed_if (change_of step) come.content)
      → Comes rest new come
  refused T step refusal rest come begun old new is row stops holds ends so made =
      let came = came_so (change_of step) come old.state new.state is.content is.certain (came_row step (Err refusal) begun old.state new.state row) so made in
      record {
        so = came.0;
        so_maybe = came.1;
        goes = λ unstopped. elim holds as (λ _. IsCertain new come × Stays rest come) [
          | inl same ↦ (
            record { unstopped = unstopped; content = same.content ∙ is.content; certain = same.in_doubt ∙ is.certain },
            subst (λ (program : Program). Stays program come) (sym ends.is) (so, λ done. absurd (ends.undone done)),
          )
          | inr cut ↦ absurd (final_stops T refusal cut.0 (sym stops ∙ unstopped))
        ];
        over = λ other stopped. ends;
      }

  -- a step that was done
  done_so : (step : Step) (given : GivenBy step) (rest : Program) (old new : Now) (last : Come) → new.stopped ≡ stop_of {T = GivenBy step} (Ok given)
      → new.state.content ≡ last.content → new.state.in_doubt ≡ None → Stays rest last → Comes rest new last
  done_so step given rest old new last stops held none stays =
      let so = stays_now rest last stays in
      record {
        so = subst (IsSo last.taken) (sym held) so;
        so_maybe = subst (IsSo last.taken) (sym (certain_maybe new.state none ∙ held)) so;
        goes = λ unstopped. (record { unstopped = unstopped; content = held; certain = none }, stays);
        over = λ refusal stopped. absurd (some_none stopped stops);
      }

  -- a read
  read_comes : (b : ℕ) (answer : Answer (ReadBlock b)) (left : Bool) (k : Answer (ReadBlock b) → Bool → Program) (come : Come) (begun : Seats) (old new : Now)
      → IsCertain old come → Stays (Try (ReadBlock b) k) come → Row (ReadBlock b) answer begun old.state new.state → new.stopped ≡ stop_of answer
      → Comes (k answer left) new come
  read_comes b (Ok bytes) left k come begun old new is stays row stops =
      done_so (ReadBlock b) bytes (k (Ok bytes) left) old new come stops (row.holds.1.content ∙ is.content) (row.holds.1.in_doubt ∙ is.certain)
      (stays.1 bytes left (row.holds.0 ∙ ap (λ (c : Content). c.blocks b) is.content))
  read_comes b (Err refusal) left k come begun old new is stays row stops =
      refused (List ℕ) (ReadBlock b) refusal (k (Err refusal) left) come begun old new is row stops row.holds (stays.2 refusal left) stays.0 stays.0

  -- a write
  write_comes : (first : ℕ) (contents : List (List ℕ)) (answer : Answer (WriteBlocks first contents)) (left : Bool)
      (k : Answer (WriteBlocks first contents) → Bool → Program) (come : Come) (begun : Seats) (old new : Now)
      → IsCertain old come → Stays (Try (WriteBlocks first contents) k) come → Row (WriteBlocks first contents) answer begun old.state new.state
      → new.stopped ≡ stop_of answer
      → (last : Come) × (last.taken ≡ come.taken) × (last.put ≡ come.put) × Comes (k answer left) new last
  write_comes first contents (Ok done) left k come begun old new is stays row stops = (
    writes come first contents,
    refl,
    refl,
    done_so (WriteBlocks first contents) done (k (Ok done) left) old new (writes come first contents) stops
        (row.holds.content ∙ ap (changed (BlocksAre first contents)) is.content) row.holds.in_doubt (stays.1 left),
  )
  write_comes first contents (Err refusal) left k come begun old new is stays row stops = (
    come,
    refl,
    refl,
    refused (Unit {0}) (WriteBlocks first contents) refusal (k (Err refusal) left) come begun old new is row stops row.holds (stays.2 refusal left) stays.0
        (stays_now (k (Ok tt) left) (writes come first contents) (stays.1 left)),
  )

  -- any step, by its own answer
  step_comes : (returning : Returning) (before : List Happening) (step : Step) (answer : Answer step) (events : List Event) (left : Bool)
      (k : Answer step → Bool → Program) (come : Come) (old new : Now) → IsCertain old come → Stays (Try step k) come
      → TakesStep returning before step answer events old new ⊎ IsRefusedAgain step answer old new
      → ComesBy come (Stepped step answer events left ∷ []) (k answer left) new
  step_comes returning before (ReadBlock b) answer events left k come old new is stays (inl taken) = record {
    last = come;
    taken = sym (append-nil come.taken);
    put = sym (append-nil come.put);
    comes = read_comes b answer left k come taken.is_step.begun old new is stays taken.is_step.row taken.stops;
  }
  step_comes returning before (WriteBlocks first contents) answer events left k come old new is stays (inl taken) =
      let comes = write_comes first contents answer left k come taken.is_step.begun old new is stays taken.is_step.row taken.stops in
      record { last = comes.0; taken = comes.1 ∙ sym (append-nil come.taken); put = comes.2 ∙ sym (append-nil come.put); comes = comes.3 }
  step_comes returning before step answer events left k come old new is stays (inl taken) = absurd stays
  step_comes returning before step answer events left k come old new is stays (inr again) = absurd (some_none again.stopped is.unstopped)

  -- nothing was done to the array, and the program goes on so
  on_still : (item : TraceItem) (rest next : Program) (come last : Come) (old new : Now) → new ≡ old → IsCertain old come → last.content ≡ come.content
      → last.taken ≡ come.taken ++ taken_in (item ∷ []) → last.put ≡ come.put ++ put_in (item ∷ []) → rest ≡ next → Stays next last
      → ComesBy come (item ∷ []) rest new
  on_still item rest next come last old new same is held taken put goes stays = record {
    last = last;
    taken = taken;
    put = put;
    comes = still rest old new last same (record { unstopped = is.unstopped; content = is.content ∙ sym held; certain = is.certain })
        (subst (λ (program : Program). Stays program last) (sym goes) stays);
  }

  -- where the program is over by a fault
  faulted : (status : Status) (come : Come) → IsSo come.taken come.content → status ≢ Done → Stays (Over status) come
  faulted status come so undone = (so, λ done. absurd (undone done))

  module _ (more : (taken bytes : List ℕ) (c : Content) → IsSo taken c → IsSo (taken ++ bytes) c) where
    -- one item on
    one_comes : (returning : Returning) (before : List Happening) (item : TraceItem) (program rest : Program) (come : Come) (old new : Now) → IsCertain old come
        → Stays program come → StepsProgram item program rest → Goes returning before item old new → ComesBy come (item ∷ []) rest new
    one_comes returning before (Found asked) (Ask question k) rest come old new is stays moves goes =
        on_still (Found asked) rest (k moves.0) come come old new goes is refl (sym (append-nil come.taken)) (sym (append-nil come.put)) moves.3
        (stays.1 moves.0 moves.2)
    one_comes returning before (Took bytes) (Take least most k short) rest come old new is stays moves goes =
        on_still (Took bytes) rest (k bytes) come (takes come bytes) old new goes is refl (ap (λ (l : List ℕ). come.taken ++ l) (sym (append-nil bytes)))
        (sym (append-nil come.put)) moves.1 (stays.1 bytes moves.0)
    one_comes returning before (TookLast bytes) (Take least most k short) rest come old new is stays moves goes =
        on_still (TookLast bytes) rest (short bytes) come (takes come bytes) old new goes is refl
        (ap (λ (l : List ℕ). come.taken ++ l) (sym (append-nil bytes))) (sym (append-nil come.put)) moves.1 (stays.2 bytes moves.0)
    one_comes returning before (TakeFailed bytes) (Take least most k short) rest come old new is stays moves goes =
        on_still (TakeFailed bytes) rest (Over InputFault) come (takes come bytes) old new goes is refl
        (ap (λ (l : List ℕ). come.taken ++ l) (sym (append-nil bytes))) (sym (append-nil come.put)) moves.1
        (faulted InputFault (takes come bytes) (more come.taken bytes come.content stays.0) (λ same. cc))
    one_comes returning before (HasPut bytes) (Put all program) rest come old new is stays moves goes =
        on_still (HasPut bytes) rest program come (puts come all) old new goes is refl (sym (append-nil come.taken))
        (ap (λ (l : List ℕ). come.put ++ l) (sym moves.0 ∙ sym (append-nil bytes))) moves.1 stays.1
    one_comes returning before (PutFailed part) (Put all program) rest come old new is stays moves goes =
        on_still (PutFailed part) rest (Over OutputFault) come (puts come part) old new goes is refl (sym (append-nil come.taken))
        (ap (λ (l : List ℕ). come.put ++ l) (sym (append-nil part))) moves.1 (faulted OutputFault (puts come part) stays.0 (λ same. cc))
    one_comes returning before Grew (Allocate program) rest come old new is stays moves goes =
        on_still Grew rest program come come old new goes is refl (sym (append-nil come.taken)) (sym (append-nil come.put)) moves stays.1
    one_comes returning before RanOut (Allocate program) rest come old new is stays moves goes =
        on_still RanOut rest (Over OutOfMemory) come come old new goes is refl (sym (append-nil come.taken)) (sym (append-nil come.put)) moves
        (faulted OutOfMemory come stays.0 (λ same. cc))
    one_comes returning before (Did did came) (Do action k) rest come old new is stays moves goes = absurd stays
    one_comes returning before (Stepped did came events left) (Try step k) rest come old new is stays moves goes =
        subst (λ (program : Program). ComesBy come (Stepped did came events left ∷ []) program new) (sym moves.2)
        (subst (λ (item : TraceItem). ComesBy come (item ∷ []) (k moves.0 left) new) (sym moves.1)
        (step_comes returning before step moves.0 events left k come old new is stays
        (subst (λ (item : TraceItem). Goes returning before item old new) moves.1 goes)))
    one_comes returning before (Stepped did came events left) (RebuildAll slots done k) rest come old new is stays moves goes = absurd stays
    one_comes returning before _ _ rest come old new is stays moves goes = absurd moves

    -- nothing moves where the program is over
    over_still : (item : TraceItem) (rest next : Program) → EndsUndone rest → StepsProgram item rest next → ⊥
    over_still item rest next ends moves = no_move item (subst (λ (program : Program). StepsProgram item program next) ends.is moves)
      where
        no_move : (item : TraceItem) → StepsProgram item (Over ends.status) next → ⊥
        no_move (Found asked) moves = moves
        no_move (Took bytes) moves = moves
        no_move (TookLast bytes) moves = moves
        no_move (TakeFailed bytes) moves = moves
        no_move (HasPut bytes) moves = moves
        no_move (PutFailed part) moves = moves
        no_move Grew moves = moves
        no_move RanOut moves = moves
        no_move (Did action outcome) moves = moves
        no_move (Stepped step answer events left) moves = moves

    -- along the trace
    pub trace_comes : (returning : Returning) (before : List Happening) (trace : List TraceItem) (program rest : Program) (come : Come) (old new : Now)
        → IsCertain old come → Stays program come → AlongTrace StepsProgram trace program rest → Runs returning before trace old new → ComesBy come trace rest new
    trace_comes returning before [] program rest come old new is stays follows runs = record {
      last = come;
      taken = sym (append-nil come.taken);
      put = sym (append-nil come.put);
      comes = still rest old new come runs is (subst (λ (p : Program). Stays p come) (sym follows) stays);
    }
    trace_comes returning before (item ∷ trace) program rest come old new is stays follows runs =
        let one = one_comes returning before item program follows.0 come old runs.0 is stays follows.1 runs.1 in
        by one (λ certain on. trace_comes returning before trace follows.0 rest one.last runs.0 new certain on follows.2 runs.2) (runs.0.stopped) refl
      where
        by : (one : ComesBy come (item ∷ []) follows.0 runs.0)
            → (IsCertain runs.0 one.last → Stays follows.0 one.last → ComesBy one.last trace rest new)
            → (stopped : Option Refusal) → runs.0.stopped ≡ stopped → ComesBy come (item ∷ trace) rest new
        by one on None unstopped =
            let goes = one.comes.goes unstopped in
            let later = on goes.0 goes.1 in
            record {
              last = later.last;
              taken = later.taken ∙ ap (λ (l : List ℕ). l ++ taken_in trace) one.taken ∙ taken_more come.taken item trace;
              put = later.put ∙ ap (λ (l : List ℕ). l ++ put_in trace) one.put ∙ put_more come.put item trace;
              comes = later.comes;
            }
        by one on (Some refusal) stopped = ended trace (one.comes.over refusal stopped) follows.2 runs.2
          where
            ended : (later : List TraceItem) → EndsUndone follows.0 → AlongTrace StepsProgram later follows.0 rest → Runs returning before later runs.0 new
                → ComesBy come (item ∷ later) rest new
            ended [] ends none same =
                subst (λ (n : Now). ComesBy come (item ∷ []) rest n) (sym same)
                (subst (λ (p : Program). ComesBy come (item ∷ []) p runs.0) (sym none) one)
            ended (next ∷ later) ends moves goes = absurd (over_still next follows.0 moves.0 ends moves.1)

    -- where a crash cuts the step that comes next
    pub cut_so : (rest : Program) (new : Now) (last : Come) (step : Step) (begun : Seats) (left : State) → Comes rest new last → IsNext rest step
        → new.stopped ≡ None → CutWithin step begun new.state left → IsSo last.taken left.content × IsSo last.taken (new_content left)
    cut_so rest new last step begun left comes next unstopped cut =
        let goes = comes.goes unstopped in within rest step next goes.1 cut
      where
        is : IsCertain new last
        is = (comes.goes unstopped).0

        by : (step : Step) → IsSo last.taken last.content → IsSo last.taken (changed_if (change_of step) last.content) → CutWithin step begun new.state left
            → IsSo last.taken left.content × IsSo last.taken (new_content left)
        by step so made (inl same) =
            subst (λ (s : State). IsSo last.taken s.content × IsSo last.taken (new_content s)) (sym same) (comes.so, comes.so_maybe)
        by step so made (inr row) = came_so (change_of step) last new.state left is.content is.certain (came_row step row.0 begun new.state left row.1) so made

        tried : (step this : Step) (k : Answer this → Bool → Program) → step ≡ this → Stays (Try this k) last → CutWithin step begun new.state left
            → IsSo last.taken left.content × IsSo last.taken (new_content left)
        tried step (ReadBlock b) k same stays cut =
            by (ReadBlock b) stays.0 stays.0 (subst (λ (s : Step). CutWithin s begun new.state left) same cut)
        tried step (WriteBlocks first contents) k same stays cut =
            by (WriteBlocks first contents) stays.0 (stays_now (k (Ok tt) false) (writes last first contents) (stays.1 false))
            (subst (λ (s : Step). CutWithin s begun new.state left) same cut)
        tried step this k same stays cut = absurd stays

        within : (rest : Program) (step : Step) → IsNext rest step → Stays rest last → CutWithin step begun new.state left
            → IsSo last.taken left.content × IsSo last.taken (new_content left)
        within (Try this k) step next stays cut = tried step this k next stays cut
        within (RebuildAll slots done k) step next stays cut = absurd stays
        within _ step next stays cut = absurd next
