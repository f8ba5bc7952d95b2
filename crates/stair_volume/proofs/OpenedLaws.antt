-- A call that opens an array and does a command on its volumes: its result at any moment.
use Rattle.std.proofs.Common.{◌≡◌, ◌∙◌, ◌⊎◌, ℕ, List, [], ◌∷◌, inl, inr, Option, None, Some, Ok, Err, refl, sym, ap, subst}
use Rattle.std.specs.Prelude.{Bool}
use Rattle.stair_model.specs.Geometry.{Geometry, IsWithinLimits, block_count}
use Rattle.stair_rack.specs.History.{Happening}
use Rattle.stair_rack.specs.declared.watcher.Event.{Event}
use Rattle.stair_member.specs.Seats.{Seats}
use Rattle.stair_member.specs.declared.fault.SurveyFault.{SurveyFault}
use Rattle.stair_member.specs.declared.fault.SurveyFault.TheVariants as survey
use Rattle.stair_state.specs.Blocks.{Blocks}
use Rattle.stair_state.specs.State.{Content, State, changed_if, new_content}
use Rattle.stair_invariant.specs.Returning.{Returning}
use Rattle.stair_array.specs.Machine.{Answer, CutWithin, HoldsAfter, InDoubt, IsAsItWas, IsDecided, Made, Recover, Refusal, Step}
use Rattle.stair_conf.specs.declared.job.VolumeJob.{VolumeJob}
use Rattle.stair_command.specs.Action.{OkOf, Outcome, Survey, status_of_survey}
use Rattle.stair_command.specs.Program.{Program, Over, Allocate, opens_array, take_step, unless_refused}
use Rattle.stair_command.specs.Refused.{status_of_refusal}
use Rattle.stair_command.specs.Run.{Goes as ItemGoes, IsNext, IsRefusedAgain, Now, Runs, TakesStep, now}
use Rattle.stair_command.specs.Trace.{TraceItem, Found, Took, TookLast, TakeFailed, HasPut, PutFailed, Grew, RanOut, Did, Stepped, AlongTrace, StepsProgram, after, put_in, taken_in}
use Rattle.stair_status.specs.declared.status.Status.{Status}
use Rattle.stair_status.specs.declared.status.Status.TheVariants.{Done, OutOfMemory}
use Rattle.stair_command.proofs.LifeLaws.{kept_whole, some_none}
use Rattle.stair_volume.specs.Commands.{volume_program}
use Rattle.stair_volume.specs.Volumes.{AreFront, Goes, HasVolumes, IsCommand, IsFinished, IsSettled, KeepsVolumes, PutsOut, after_job}
use Rattle.stair_volume.proofs.AlongLaws.{ComesBy, certain_maybe, cut_so, trace_comes}
use Rattle.stair_volume.proofs.HeldLaws.{keeps_same}
use Rattle.stair_volume.proofs.StayLaws.{EndsSo, IsSo, opened, refused_undone, so_more, volume_stays}

-- An opening that is refused leaves what was in doubt.
refused_holds : (refusal : Refusal) (old new : State) → HoldsAfter Recover (Err refusal) old new → IsAsItWas old new
refused_holds refusal old new (inl same) = same
refused_holds refusal old new (inr (final, Made what some changed)) = absurd (let none : None ≡ Some what = some in cc)
refused_holds refusal old new (inr (final, InDoubt what some doubt)) = absurd (let none : None ≡ Some what = some in cc)

-- what is held then was, or may have been
decided_held : (s mid : State) → IsDecided s mid → (mid.in_doubt ≡ None) × IsSettled s mid.content.blocks
decided_held s mid (inl same) = (same.in_doubt, inl (ap (λ (c : Content). c.blocks) same.content))
decided_held s mid (inr same) = (same.in_doubt, inr (ap (λ (c : Content). c.blocks) same.content))

module _ (returning : Returning) (before : List Happening) (job : VolumeJob) (is : IsCommand job) (s : State) (limits : IsWithinLimits s.geometry) where
  -- Nothing was decided, and no step but the opening comes next; or it was opened, and so it came on.
  pub data Reached (taken put : List ℕ) (rest : Program) (new : Now) : Type 0 where
    Before : IsAsItWas s new.state → ((step : Step) → IsNext rest step → step ≡ Recover) → (rest ≡ Over Done → ⊥) → Reached taken put rest new
    Behind : (c : Content) (trace : List TraceItem) → IsSettled s c.blocks
        → ComesBy (IsSo job s.geometry c.blocks) (EndsSo job s.geometry c.blocks) (opened c) trace rest new → taken_in trace ≡ taken → put_in trace ≡ put
        → Reached taken put rest new

  -- nothing moves where the program is over
  no_move : (item : TraceItem) (status : Status) (next : Program) → StepsProgram item (Over status) next → ⊥
  no_move (Found asked) status next moves = moves
  no_move (Took bytes) status next moves = moves
  no_move (TookLast bytes) status next moves = moves
  no_move (TakeFailed bytes) status next moves = moves
  no_move (HasPut bytes) status next moves = moves
  no_move (PutFailed part) status next moves = moves
  no_move Grew status next moves = moves
  no_move RanOut status next moves = moves
  no_move (Did action outcome) status next moves = moves
  no_move (Stepped step answer events left) status next moves = moves

  -- nothing was decided, and this is what is left of the program
  pub before_at : (taken put : List ℕ) (program rest : Program) (new : Now) → rest ≡ program → ((step : Step) → IsNext program step → step ≡ Recover)
      → (program ≡ Over Done → ⊥) → IsAsItWas s new.state → Reached taken put rest new
  before_at taken put program rest new left next undone same =
      Before same (λ step is. next step (subst (λ (p : Program). IsNext p step) left is)) (λ done. undone (sym left ∙ done))

  -- the program is over before anything was decided
  pub over_before : (trace : List TraceItem) (taken put : List ℕ) (status : Status) (rest : Program) (mid new : Now) → (status ≡ Done → ⊥) → IsAsItWas s mid.state
      → AlongTrace StepsProgram trace (Over status) rest → Runs returning before trace mid new → Reached taken put rest new
  over_before [] taken put status rest mid new undone same follows runs =
      before_at taken put (Over status) rest new follows (λ step next. absurd next) (λ done. undone (cc))
      (subst (λ (n : Now). IsAsItWas s n.state) (sym runs) same)
  over_before (item ∷ trace) taken put status rest mid new undone same follows runs = absurd (no_move item status follows.0 follows.1)

  -- the array is opened, or isn't
  reached_open : (slots : ℕ) (answer : Answer Recover) (events : List Event) (left : Bool) (trace : List TraceItem) (rest : Program) (old mid new : Now) → old.state ≡ s
      → TakesStep returning before Recover answer events old mid
      → AlongTrace StepsProgram trace (unless_refused slots (λ (g : Geometry) (left : Bool). volume_program job g) answer left) rest → Runs returning before trace mid new
      → Reached (taken_in trace) (put_in trace) rest new
  reached_open slots (Ok g) events left trace rest old mid new same taken follows runs =
      let holds = subst (λ (x : State). HoldsAfter Recover (Ok g) x mid.state) same taken.is_step.row.holds in
      let held = decided_held s mid.state holds.1 in
      Behind mid.state.content trace held.1
      (trace_comes (IsSo job s.geometry mid.state.content.blocks) (EndsSo job s.geometry mid.state.content.blocks)
      (so_more job s.geometry mid.state.content.blocks) returning before trace (volume_program job s.geometry) rest (opened mid.state.content) mid new
      (record { unstopped = taken.stops; content = refl; certain = held.0 }) (volume_stays s.geometry limits mid.state.content job is)
      (subst (λ (f : Geometry). AlongTrace StepsProgram trace (volume_program job f) rest) holds.0 follows) runs)
      refl refl
  reached_open slots (Err refusal) events left trace rest old mid new same taken follows runs =
      over_before trace (taken_in trace) (put_in trace) (status_of_refusal slots refusal) rest mid new (refused_undone slots refusal)
      (refused_holds refusal s mid.state (subst (λ (x : State). HoldsAfter Recover (Err refusal) x mid.state) same taken.is_step.row.holds)) follows runs

  abbrev Opening : ℕ → Program
  Opening slots = take_step slots Recover (volume_program job)

  reached_try : (slots : ℕ) (trace : List TraceItem) (rest : Program) (old new : Now) → old.state ≡ s → old.stopped ≡ None
      → AlongTrace StepsProgram trace (Opening slots) rest → Runs returning before trace old new → Reached (taken_in trace) (put_in trace) rest new
  reached_try slots [] rest old new same unstopped follows runs =
      before_at [] [] (Opening slots) rest new follows (λ step next. next) (λ done. cc) (kept_whole (ap (λ (n : Now). n.state) runs ∙ same))
  reached_try slots (Stepped did came events left ∷ trace) rest old new same unstopped follows runs =
      by (subst (λ (item : TraceItem). ItemGoes returning before item old runs.0) follows.1.1 runs.1)
    where
      by : TakesStep returning before Recover follows.1.0 events old runs.0 ⊎ IsRefusedAgain Recover follows.1.0 old runs.0
          → Reached (taken_in trace) (put_in trace) rest new
      by (inl taken) =
          reached_open slots follows.1.0 events left trace rest old runs.0 new same taken
          (subst (λ (p : Program). AlongTrace StepsProgram trace p rest) follows.1.2 follows.2) runs.2
      by (inr again) = absurd (some_none again.stopped unstopped)
  reached_try slots (_ ∷ trace) rest old new same unstopped follows runs = absurd follows.1

  reached_memory : (slots : ℕ) (trace : List TraceItem) (rest : Program) (old new : Now) → old.state ≡ s → old.stopped ≡ None
      → AlongTrace StepsProgram trace (Allocate (Opening slots)) rest → Runs returning before trace old new → Reached (taken_in trace) (put_in trace) rest new
  reached_memory slots [] rest old new same unstopped follows runs =
      before_at [] [] (Allocate (Opening slots)) rest new follows (λ step next. absurd next) (λ done. cc)
      (kept_whole (ap (λ (n : Now). n.state) runs ∙ same))
  reached_memory slots (Grew ∷ trace) rest old new same unstopped follows runs =
      reached_try slots trace rest runs.0 new (ap (λ (n : Now). n.state) runs.1 ∙ same) (ap (λ (n : Now). n.stopped) runs.1 ∙ unstopped)
      (subst (λ (p : Program). AlongTrace StepsProgram trace p rest) follows.1 follows.2) runs.2
  reached_memory slots (RanOut ∷ trace) rest old new same unstopped follows runs =
      over_before trace (taken_in trace) (put_in trace) OutOfMemory rest runs.0 new (λ done. cc)
      (kept_whole (ap (λ (n : Now). n.state) runs.1 ∙ same)) (subst (λ (p : Program). AlongTrace StepsProgram trace p rest) follows.1 follows.2) runs.2
  reached_memory slots (_ ∷ trace) rest old new same unstopped follows runs = absurd follows.1

  -- what was found
  reached_found : (outcome : Outcome Survey) (trace : List TraceItem) (rest : Program) (old new : Now) → old.state ≡ s → old.stopped ≡ None
      → AlongTrace StepsProgram trace (after Survey (λ (member : OkOf Survey). Allocate (Opening member.array.geometry.n)) outcome) rest
      → Runs returning before trace old new → Reached (taken_in trace) (put_in trace) rest new
  reached_found (Ok member) trace rest old new same unstopped follows runs =
      reached_memory member.array.geometry.n trace rest old new same unstopped follows runs
  reached_found (Err fault) trace rest old new same unstopped follows runs =
      over_before trace (taken_in trace) (put_in trace) _ rest old new (unfound fault) (kept_whole same) follows runs
    where
      unfound : (fault : SurveyFault) → status_of_survey fault ≡ Done → ⊥
      unfound survey.NoArray done = cc
      unfound (survey.TwoArrays first second) done = cc
      unfound (survey.TooFew whys) done = cc

  -- the whole call
  pub reached : (done : List TraceItem) (rest : Program) (h : List Happening) (new : Now) → AlongTrace StepsProgram done (opens_array (volume_program job)) rest
      → Runs returning before done (now s h None) new → Reached (taken_in done) (put_in done) rest new
  reached [] rest h new follows runs =
      before_at [] [] (opens_array (volume_program job)) rest new follows (λ step next. absurd next) (λ done. cc) (kept_whole (ap (λ (n : Now). n.state) runs))
  reached (Did did came ∷ trace) rest h new follows runs =
      let keeps = runs.1 in
      reached_found follows.1.0 trace rest runs.0 new keeps.state keeps.stopped (subst (λ (p : Program). AlongTrace StepsProgram trace p rest) follows.1.2 follows.2) runs.2
  reached (_ ∷ trace) rest h new follows runs = absurd follows.1

  -- so it goes
  pub goes_so : (done : List TraceItem) (rest : Program) (new : Now) → Reached (taken_in done) (put_in done) rest new → Goes job (taken_in done) s new.state
  goes_so done rest new (Before same next undone) = inl same
  goes_so done rest new (Behind c trace settled by taken put) =
      let held = λ (l : List ℕ). l in
      inr (record {
        held = c.blocks;
        settled = settled;
        holds = subst (λ (l : List ℕ). IsSo job s.geometry c.blocks l new.state.content) (by.taken ∙ taken) by.comes.so;
        may_hold = subst (λ (l : List ℕ). IsSo job s.geometry c.blocks l (new_content new.state)) (by.taken ∙ taken) by.comes.so_maybe;
      })

  -- what was in doubt is what it was
  settled_as : {now : State} {held : Blocks} → IsAsItWas s now → IsSettled now held → IsSettled s held
  settled_as same (inl is) = inl (is ∙ ap (λ (c : Content). c.blocks) same.content)
  settled_as same (inr is) = inr (is ∙ (λ i. (changed_if (same.in_doubt i) (same.content i)).blocks))

  -- and where a crash cuts the next step
  pub cut_goes : (done : List TraceItem) (rest : Program) (new : Now) (step : Step) (begun : Seats) (left : State)
      → Reached (taken_in done) (put_in done) rest new → IsNext rest step → new.stopped ≡ None → CutWithin step begun new.state left
      → Goes job (taken_in done) s left
  cut_goes done rest new step begun left (Before same next undone) is_next unstopped cut =
      opening_cut (subst (λ (t : Step). CutWithin t begun new.state left) (next step is_next) cut)
    where
      goes_on : IsAsItWas new.state left ⊎ IsDecided new.state left → Goes job (taken_in done) s left
      goes_on (inl kept) = inl (record { content = kept.content ∙ same.content; in_doubt = kept.in_doubt ∙ same.in_doubt })
      goes_on (inr decided) =
          let held = decided_held new.state left decided in
          let kept = keeps_same (block_count s.geometry) left.content.blocks in
          inr (record {
            held = left.content.blocks;
            settled = settled_as same held.1;
            holds = inl kept;
            may_hold = inl (subst (λ (c : Content). KeepsVolumes (block_count s.geometry) left.content.blocks c.blocks) (sym (certain_maybe left held.0)) kept);
          })

      opening_cut : CutWithin Recover begun new.state left → Goes job (taken_in done) s left
      opening_cut (inl stays) = goes_on (inl (kept_whole stays))
      opening_cut (inr (Ok g, row)) = goes_on (inr row.holds.1)
      opening_cut (inr (Err refusal, row)) = goes_on (inl (refused_holds refusal new.state left row.holds))
  cut_goes done rest new step begun left (Behind c trace settled by taken put) is_next unstopped cut =
      let both =
      cut_so (IsSo job s.geometry c.blocks) (EndsSo job s.geometry c.blocks) (so_more job s.geometry c.blocks) rest new by.last step begun left by.comes
      is_next unstopped cut in
      inr (record {
        held = c.blocks;
        settled = settled;
        holds = subst (λ (l : List ℕ). IsSo job s.geometry c.blocks l left.content) (by.taken ∙ taken) both.0;
        may_hold = subst (λ (l : List ℕ). IsSo job s.geometry c.blocks l (new_content left)) (by.taken ∙ taken) both.1;
      })

  -- and where all of it was done
  pub finished : (done : List TraceItem) (new : Now) → Reached (taken_in done) (put_in done) (Over Done) new → IsFinished job (taken_in done) (put_in done) s new.state
  finished done new (Before same next undone) = absurd (undone refl)
  finished done new (Behind c trace settled by taken put) = by_stopped new.stopped refl
    where
      by_stopped : (stopped : Option Refusal) → new.stopped ≡ stopped → IsFinished job (taken_in done) (put_in done) s new.state
      by_stopped (Some refusal) stopped =
          let ends = by.comes.over refusal stopped in absurd (ends.undone (let both : Over Done ≡ Over ends.status = ends.is in cc))
      by_stopped None unstopped =
          let goes = by.comes.goes unstopped in
          let ends = goes.1.1 refl in
          let same : by.last.content.blocks ≡ new.state.content.blocks = ap (λ (c : Content). c.blocks) (sym goes.0.content) in
          record {
            held = c.blocks;
            settled = settled;
            contents = ends.contents;
            front = subst (AreFront ends.contents) (by.taken ∙ taken) ends.front;
            all = ends.all;
            done = record {
              volumes = ends.done.volumes;
              begins = ends.done.begins;
              fits = ends.done.fits;
              has = subst (λ (now : Blocks). HasVolumes (block_count s.geometry) now (after_job job ends.contents ends.done.volumes)) same ends.done.has;
            };
            puts = subst (PutsOut job ends.done.volumes) (by.put ∙ put) ends.puts;
            certain = goes.0.certain;
          }
