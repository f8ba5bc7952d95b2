-- Calls on an array, one after the other, are a life of each of its volumes.
use Rattle.std.proofs.Common.{◌≡◌, ◌∙◌, ◌++◌, ℕ, List, [], ◌∷◌, None, append_assoc, inl, inr, refl, sym, ap, subst}
use Rattle.std.specs.Prelude.{IsTrue}
use Rattle.stair_model.specs.Geometry.{Geometry, IsWithinLimits, block_count}
use Rattle.stair_rack.specs.Answers.{IsHistory, Ran}
use Rattle.stair_rack.specs.Crash.{CrashMayLeave}
use Rattle.stair_rack.specs.History.{Happening, Made}
use Rattle.stair_rack.specs.Media.{Image}
use Rattle.stair_rack.specs.Moments.{IsMoment}
use Rattle.stair_rack.proofs.TidyLemmas.{history_made, history_on}
use Rattle.stair_member.specs.Seats.{Seats}
use Rattle.stair_state.specs.Blocks.{Blocks}
use Rattle.stair_state.specs.Represents.{no_write}
use Rattle.stair_state.specs.State.{Content, State, changed_if, without_seats}
use Rattle.stair_state.proofs.OutsideLemmas.{looks_stand}
use Rattle.stair_state.proofs.ReturnLemmas.{looked_consistent}
use Rattle.stair_invariant.specs.Returning.{AnyReturns, NoneReturns, Returning, StandsFor, StandsForAlone}
use Rattle.stair_array.specs.Machine.{CutWithin, RebuildNext, Step, change_of}
use Rattle.stair_array.specs.Promise.{Begun}
use Rattle.stair_conf.specs.Words.{Spells}
use Rattle.stair_conf.specs.declared.job.Job.TheVariants.{Volume}
use Rattle.stair_conf.specs.declared.job.VolumeJob.{VolumeJob}
use Rattle.stair_command.specs.Devices.{DeviceView, Devices, ExecutesWith, devices}
use Rattle.stair_command.specs.Ending.{EachStep}
use Rattle.stair_command.specs.Headline.{RefinesProgram}
use Rattle.stair_command.specs.Lives.{IsWriteOf}
use Rattle.stair_command.specs.Outside.{Outside, Views}
use Rattle.stair_command.specs.Program.{Program, Over, RebuildAll, Try}
use Rattle.stair_command.specs.Run.{Goes as ItemGoes, IsNext, IsRun, IsSafe, Now, Runs, history_of, now}
use Rattle.stair_command.specs.Sessions.{Calls, Cut, Ends, StaysWithinToleranceMeanwhile, StaysWithinToleranceOver, Starts, turns_of}
use Rattle.stair_command.specs.Trace.{TraceItem, Found, Took, TookLast, TakeFailed, HasPut, PutFailed, Grew, RanOut, Did as DidTo, Stepped, AlongTrace, StepsProgram, put_in, taken_in}
use Rattle.stair_command.proofs.LifeLaws.{Came, Changed, Doubted, Kept, Settled, came_row, kept_whole, other_step}
use Rattle.stair_command.proofs.PlannedLaws.{AllSteps, OfItem, rest_along}
use Rattle.stair_command.proofs.RunLaws.{forgets, works_ran}
use Rattle.stair_command.proofs.SessionLaws.{life_geometry, runs_are_lived}
use Rattle.stair_status.specs.declared.status.Status.{Status}
use Rattle.stair_status.specs.declared.status.Status.TheVariants.{Done}
use Rattle.stair_volume.specs.Volumes.{Goes, IsFinished, IsSettled}
use Rattle.stair_volume.proofs.OpenedLaws.{Reached, cut_goes, finished, goes_so}
use Rattle.stair_engine.specs.Programs.{program_of}
use Rattle.stair_engine.proofs.ChangedLaws.{reached_words}
use Rattle.stair_engine.proofs.VolumesLaws.{spelled_command}
use Rattle.stair_volume_lives.specs.CallLives.{IsCutTurnOf, IsTurnOf, IsVolumeLife, Kind, Kinds, Leaves, LeavesBlocks, OnVolumes, ProgramsWriteNone, WritesNone, turn_of}
use Rattle.stair_volume_lives.specs.Lives.{Began, Begins, IsExplained, IsOfVolume, LeavesVolume, Lives, Other, Turn, Turns}
use Rattle.stair_volume_lives.proofs.LivesLaws.{lives_are_explained, same_geometry, settled_before, settled_certain}

-- ---- a state whose seats are forgotten holds the same

goes_forgotten : (job : VolumeJob) (taken : List ℕ) (s now : State) → Goes job taken s now → Goes job taken s (without_seats now)
goes_forgotten job taken s now (inl same) = inl (record { content = same.content; in_doubt = same.in_doubt })
goes_forgotten job taken s now (inr opened) =
    inr (record { held = opened.held; settled = opened.settled; holds = opened.holds; may_hold = opened.may_hold })

finished_forgotten : (job : VolumeJob) (taken put : List ℕ) (s now : State) → IsFinished job taken put s now
    → IsFinished job taken put s (without_seats now)
finished_forgotten job taken put s now fin = record {
  held = fin.held;
  settled = fin.settled;
  contents = fin.contents;
  front = fin.front;
  all = fin.all;
  done = fin.done;
  puts = fin.puts;
  certain = fin.certain;
}

-- ---- blocks that no step writes

abbrev NoWrite : ℕ → Step → Type 0
NoWrite b step = ¬ IsWriteOf b step

-- what was held, which has each block that none of these writes
abbrev IsLeft : State → Blocks → (ℕ → Type 0) → Type 0
IsLeft s held Unwritten = (was : Blocks) × IsSettled s was × ((b : ℕ) → Unwritten b → held b ≡ was b)

came_left : (step : Step) (old new : State) (held : Blocks) → Came (change_of step) old new → IsSettled new held
    → IsLeft old held (λ b. NoWrite b step)
came_left step old new held (Kept same) settled = (held, settled_before old new held same settled, λ b off. refl)
came_left step old new held (Settled none (inl is)) settled =
    let same = settled_certain new held is.in_doubt settled in
    (held, inl (same ∙ ap (λ (c : Content). c.blocks) is.content), λ b off. refl)
came_left step old new held (Settled none (inr is)) settled =
    let same = settled_certain new held is.in_doubt settled in
    (held, inr (same ∙ ap (λ (c : Content). c.blocks) is.content), λ b off. refl)
came_left step old new held (Changed none is) settled =
    let same = settled_certain new held is.in_doubt settled in
    (old.content.blocks, inl refl, λ b off. ap (λ (f : Blocks). f b) (same ∙ ap (λ (c : Content). c.blocks) is.content) ∙ other_step step old.content b off)
came_left step old new held (Doubted none what some is) (inl same) =
    (old.content.blocks, inl refl, λ b off. ap (λ (f : Blocks). f b) (same ∙ ap (λ (c : Content). c.blocks) is.content))
came_left step old new held (Doubted none what some is) (inr same) = (
  old.content.blocks,
  inl refl,
  λ b off.
      ap (λ (f : Blocks). f b) (same ∙ (λ i. (changed_if ((is.in_doubt ∙ sym some) i) (is.content i)).blocks)) ∙ other_step step old.content b off,
)

cut_left : (step : Step) (begun : Seats) (old new : State) (held : Blocks) → CutWithin step begun old new → IsSettled new held
    → IsLeft old held (λ b. NoWrite b step)
cut_left step begun old new held (inl same) settled = came_left step old new held (Kept (kept_whole same)) settled
cut_left step begun old new held (inr row) settled = came_left step old new held (came_row step row.0 begun old new row.1) settled

module _ (returning : Returning) (before : List Happening) where
  same_left : (item : TraceItem) (old new : Now) (held : Blocks) → new ≡ old → IsSettled new.state held
      → IsLeft old.state held (λ b. OfItem (NoWrite b) item)
  same_left item old new held same settled = (held, subst (λ (n : Now). IsSettled n.state held) same settled, λ b off. refl)

  item_left : (item : TraceItem) (old new : Now) (held : Blocks) → ItemGoes returning before item old new → IsSettled new.state held
      → IsLeft old.state held (λ b. OfItem (NoWrite b) item)
  item_left (Stepped step answer events left) old new held (inl taken) settled =
      came_left step old.state new.state held (came_row step answer taken.is_step.begun old.state new.state taken.is_step.row) settled
  item_left (Stepped step answer events left) old new held (inr again) settled =
      same_left (Stepped step answer events left) old new held again.same settled
  item_left (DidTo action outcome) old new held goes settled =
      (held, subst (λ (s : State). IsSettled s held) goes.state settled, λ b off. refl)
  item_left (Found asked) old new held goes settled = same_left (Found asked) old new held goes settled
  item_left (Took bytes) old new held goes settled = same_left (Took bytes) old new held goes settled
  item_left (TookLast bytes) old new held goes settled = same_left (TookLast bytes) old new held goes settled
  item_left (TakeFailed bytes) old new held goes settled = same_left (TakeFailed bytes) old new held goes settled
  item_left (HasPut bytes) old new held goes settled = same_left (HasPut bytes) old new held goes settled
  item_left (PutFailed bytes) old new held goes settled = same_left (PutFailed bytes) old new held goes settled
  item_left Grew old new held goes settled = same_left Grew old new held goes settled
  item_left RanOut old new held goes settled = same_left RanOut old new held goes settled

  run_left : (trace : List TraceItem) (old new : Now) (held : Blocks) → Runs returning before trace old new → IsSettled new.state held
      → IsLeft old.state held (λ b. AllSteps (NoWrite b) trace)
  run_left [] old new held runs settled = (held, subst (λ (n : Now). IsSettled n.state held) runs settled, λ b off. refl)
  run_left (item ∷ trace) old new held runs settled =
      let later = run_left trace runs.0 new held runs.2 settled in
      let one = item_left item old runs.0 later.0 runs.1 later.1 in
      (one.0, one.1, λ b off. later.2 b off.1 ∙ one.2 b off.0)

  -- the geometry stays
  run_geometry : (trace : List TraceItem) (s : State) (h : List Happening) (new : Now) → Runs returning before trace (now s h None) new
      → new.state.geometry ≡ s.geometry
  run_geometry trace s h new runs =
      life_geometry (turns_of returning before trace (now s h None) new runs []) s new.state
      (runs_are_lived returning before trace (now s h None) new [] s runs refl)

cut_geometry : (step : Step) (begun : Seats) (old new : State) → CutWithin step begun old new → new.geometry ≡ old.geometry
cut_geometry step begun old new (inl same) = ap (λ (s : State). s.geometry) same
cut_geometry step begun old new (inr row) = row.1.geometry

-- the steps of a trace were next in its program
item_unwritten : (b : ℕ) (item : TraceItem) (program mid : Program) → StepsProgram item program mid → ((step : Step) → IsNext program step → NoWrite b step)
    → OfItem (NoWrite b) item
item_unwritten b (Stepped did came events left) (Try step k) mid moves none = subst (OfItem (NoWrite b)) (sym moves.1) (none step refl)
item_unwritten b (Stepped did came events left) (RebuildAll slots done k) mid moves none =
    subst (OfItem (NoWrite b)) (sym moves.1) (none RebuildNext refl)
item_unwritten b (Stepped did came events left) _ mid moves none = absurd moves
item_unwritten b _ program mid moves none = tt

steps_unwritten : (b : ℕ) (trace : List TraceItem) (program rest : Program) → AlongTrace StepsProgram trace program rest → WritesNone b program trace
    → AllSteps (NoWrite b) trace
steps_unwritten b [] program rest follows none = tt
steps_unwritten b (item ∷ trace) program rest follows none = (
  item_unwritten b item program follows.0 follows.1 (λ step next. none [] (item ∷ trace) program step refl refl next),
  steps_unwritten b trace follows.0 rest follows.2
      (λ done later left step part leads next.
      none (item ∷ done) later left step (ap (λ (l : List TraceItem). item ∷ l) part) (follows.0, follows.1, leads) next),
)

part_unwritten : (b : ℕ) (trace done later : List TraceItem) (program : Program) → trace ≡ done ++ later → WritesNone b program trace → WritesNone b program done
part_unwritten b trace done later program part none first more rest step is leads next =
    none first (more ++ later) rest step (part ∙ ap (λ (l : List TraceItem). l ++ later) is ∙ append_assoc first more later) leads next

-- a program that has no write of a block
next_unwritten : (b : ℕ) (program : Program) (step : Step) → EachStep (NoWrite b) program → IsNext program step → NoWrite b step
next_unwritten b (Try step k) next each is = subst (NoWrite b) (sym is) each.0
next_unwritten b (RebuildAll slots done k) next each is = subst (NoWrite b) (sym is) each.0
next_unwritten b _ next each is = absurd is

pub programs_write_none : ProgramsWriteNone
programs_write_none b program trace each done later rest step part leads next =
    next_unwritten b rest step (rest_along (NoWrite b) done program rest each leads) next

-- ---- a call that ended

by_status : (name : List ℕ) (job : VolumeJob) (status : Status) (taken put : List ℕ) (s now : State) → Goes job taken s now
    → (status ≡ Done → IsFinished job taken put s now) → Turns name (turn_of job status taken put) s now
by_status name job Done taken put s now goes fin = fin refl
by_status name job _ taken put s now goes fin = goes

module _ (name : List ℕ) {R W S K : Type 0} (view : DeviceView R W) (streams : Views S K) (returning : Returning) where
  module _ (program rest : Program) (old new : Outside S K) (x y : Devices R W) (over : ExecutesWith view streams program rest old new x y) (s : State)
      (limits : IsWithinLimits s.geometry) (rack_is : StandsFor returning s (history_of view x)) where
    abbrev trace : List TraceItem
    trace = over.means.trace

    abbrev before : List Happening
    before = history_of view x

    -- the result of the call, if it was a command on volumes
    came : (words : List (List ℕ)) (job : VolumeJob) (spells : Spells words (Volume job)) → program ≡ program_of words → (done : List TraceItem) (left : Program) (end : Now)
        → AlongTrace StepsProgram done program left → Runs returning before done (now s before None) end
        → Reached returning before job (spelled_command words job spells) s limits (taken_in done) (put_in done) left end
    came words job spells is done left end follows runs =
        reached_words returning before words job spells (spelled_command words job spells) s limits done left before end
        (subst (λ (p : Program). AlongTrace StepsProgram done p left) is follows) runs

    -- its turn
    ended : (kind : Kind name returning before program rest trace) (run : IsRun view returning before s trace x y)
        → (turn : Turn) × IsTurnOf kind turn × Turns name turn s (without_seats run.state)
    ended (OnVolumes words job status spells is ends) run =
        let end : Now = now run.state (history_of view y) run.stopped in
        let reached =
        subst (λ (p : Program). Reached returning before job (spelled_command words job spells) s limits (taken_in trace) (put_in trace) p end) ends
        (came words job spells is trace rest end over.means.follows run.runs) in (
          turn_of job status (taken_in trace) (put_in trace),
          refl,
          by_status name job status (taken_in trace) (put_in trace) s (without_seats run.state)
              (goes_forgotten job (taken_in trace) s run.state
              (goes_so returning before job (spelled_command words job spells) s limits trace (Over status) end reached))
              (λ done. finished_forgotten job (taken_in trace) (put_in trace) s run.state
              (finished returning before job (spelled_command words job spells) s limits trace end
              (subst (λ (st : Status). Reached returning before job (spelled_command words job spells) s limits (taken_in trace) (put_in trace) (Over st) end) done
              reached))),
        )
    ended (Leaves leaves) run = (Other, refl, kept)
      where
        kept : LeavesVolume name s (without_seats run.state)
        kept held settled =
            let was = run_left returning before trace (now s before None) (now run.state (history_of view y) run.stopped) held run.runs settled in (
              was.0,
              was.1,
              λ b of.
                  was.2 b (steps_unwritten b trace program rest over.means.follows (leaves s was.0 b rack_is was.1 of)),
            )

    -- ---- or that a crash cut

    record IsCutTo (kind : Kind name returning before program rest trace) (image : Image) : Type 0 where
      pub turn : Turn
      pub is_of : IsCutTurnOf kind turn
      pub state : State
      pub geometry : state.geometry ≡ s.geometry
      pub stands : StandsForAlone returning state image
      pub turns : Turns name turn s (without_seats state)

    module _ (c : List Happening) (safe : IsSafe view returning before s program trace x y c) where
      abbrev mid : Now
      mid = now safe.state (history_of view safe.mid) safe.stopped

      mid_geometry : safe.state.geometry ≡ s.geometry
      mid_geometry = run_geometry returning before safe.done s before mid safe.runs

      -- of another call
      left_to : (leaves : LeavesBlocks name returning before program trace) (held was : Blocks) → IsSettled safe.state was
          → ((b : ℕ) → ((step : Step) → IsNext safe.rest step → NoWrite b step) → held b ≡ was b)
          → (first : Blocks) × IsSettled s first × ((b : ℕ) → IsOfVolume name (block_count s.geometry) first b → held b ≡ first b)
      left_to leaves held was settled same =
          let first = run_left returning before safe.done (now s before None) mid was safe.runs settled in (
            first.0,
            first.1,
            λ b of.
                let none = leaves s first.0 b rack_is first.1 of in
                same b (λ step next. none safe.done safe.later safe.rest step safe.part safe.follows next)
                ∙ first.2 b (steps_unwritten b safe.done program safe.rest safe.follows (part_unwritten b trace safe.done safe.later program safe.part none)),
          )

      cut_to : (kind : Kind name returning before program rest trace) (image : Image) → CrashMayLeave c image → IsCutTo kind image
      cut_to (OnVolumes words job status spells is ends) image crash =
          let reached = came words job spells is safe.done safe.rest mid safe.follows safe.runs in
          elim (safe.images image crash) as (λ _. IsCutTo (OnVolumes words job status spells is ends) image) [
            | inl alone ↦ record {
              turn = Began job (taken_in safe.done);
              is_of = (safe.done, safe.later, safe.part, refl);
              state = safe.state;
              geometry = mid_geometry;
              stands = alone;
              turns = goes_forgotten job (taken_in safe.done) s safe.state
                  (goes_so returning before job (spelled_command words job spells) s limits safe.done safe.rest mid reached);
            }
            | inr next ↦ record {
              turn = Began job (taken_in safe.done);
              is_of = (safe.done, safe.later, safe.part, refl);
              state = next.left.state;
              geometry = cut_geometry next.step next.left.cut.begun safe.state next.left.state next.left.cut.within ∙ mid_geometry;
              stands = next.left.stands;
              turns = goes_forgotten job (taken_in safe.done) s next.left.state
                  (cut_goes returning before job (spelled_command words job spells) s limits safe.done safe.rest mid next.step next.left.cut.begun
                  next.left.state reached next.next next.unstopped next.left.cut.within);
            }
          ]
      cut_to (Leaves leaves) image crash =
          elim (safe.images image crash) as (λ _. IsCutTo (Leaves leaves) image) [
            | inl alone ↦ record {
              turn = Other;
              is_of = refl;
              state = safe.state;
              geometry = mid_geometry;
              stands = alone;
              turns = λ held settled. left_to leaves held held settled (λ b off. refl);
            }
            | inr next ↦ record {
              turn = Other;
              is_of = refl;
              state = next.left.state;
              geometry = cut_geometry next.step next.left.cut.begun safe.state next.left.state next.left.cut.within ∙ mid_geometry;
              stands = next.left.stands;
              turns = λ held settled.
                  let was = cut_left next.step next.left.cut.begun safe.state next.left.state held next.left.cut.within settled in
                  left_to leaves held was.0 was.1 (λ b off. was.2 b (off next.step next.next));
            }
          ]

  -- ---- calls, one after the other

  module _ (first : State) (honest : IsTrue view.rack.honest) (limits : IsWithinLimits first.geometry) where
    calls_history : (h : List Happening) → Calls view streams returning first h → IsHistory h
    calls_history h (Starts h' history stands) = history
    calls_history h (Ends later program rest old new x y watchers left calls borne calm acted between) =
        history_on (history_on (calls_history (view.rack.history x) calls)
        (works_ran view honest borne.over.means.trace (devices x Begun watchers) (devices y borne.session left) borne.over.works)) acted
    calls_history h (Cut c image later program rest old new x y watchers left calls borne at calm crash acted between) =
        history_on (history_made image) acted

    explains : (life : List Turn) (state : State) → Lives name life (without_seats first) state → Begins first → (held : Blocks) → IsSettled state held
        → IsExplained name life (without_seats first) held
    explains life state lives begins held settled =
        lives_are_explained name (without_seats first) state life held (record { certain = begins.certain; whole = begins.whole }) lives settled

    -- a state whose seats aren't known is as it is without them
    unseated : (s : State) → s.seats ≡ None → without_seats s ≡ s
    unseated s unknown = λ i. record s { seats = sym unknown i }

    run_of : (returning : Returning) (s : State) (program rest : Program) (old new : Outside S K) (x y : R) (watchers left : List W)
        (borne : RefinesProgram view streams program rest old new x y watchers left) → IsHistory (view.rack.history x) → StandsFor returning s (view.rack.history x)
        → StaysWithinToleranceOver view returning s.geometry (view.rack.history y) borne.over.means.trace (devices x Begun watchers) (devices y borne.session left)
        borne.over.works
        → IsRun view returning (view.rack.history x) (without_seats s) borne.over.means.trace (devices x Begun watchers) (devices y borne.session left)
    run_of NoneReturns s program rest old new x y watchers left borne history stands calm = borne.runs honest s history stands calm.0 calm.1
    run_of AnyReturns s program rest old new x y watchers left borne history stands calm = borne.wherever.runs honest s history stands calm

    cut_of : (returning : Returning) (s : State) (program rest : Program) (old new : Outside S K) (x y : R) (watchers left : List W)
        (borne : RefinesProgram view streams program rest old new x y watchers left) (c : List Happening) → IsHistory (view.rack.history x)
        → StandsFor returning s (view.rack.history x) → IsMoment (view.rack.history x) c (view.rack.history y)
        → StaysWithinToleranceOver view returning s.geometry c borne.over.means.trace (devices x Begun watchers) (devices y borne.session left) borne.over.works
        → IsSafe view returning (view.rack.history x) (without_seats s) program borne.over.means.trace (devices x Begun watchers) (devices y borne.session left) c
    cut_of NoneReturns s program rest old new x y watchers left borne c history stands at calm = borne.cuts honest s c history stands at calm.0 calm.1
    cut_of AnyReturns s program rest old new x y watchers left borne c history stands at calm = borne.wherever.cuts honest s c history stands at calm

    stands_then : (returning : Returning) (s : State) (old new : List Happening) → StandsFor returning s old → Ran no_write old new
        → StaysWithinToleranceMeanwhile returning s.geometry old new → StandsFor returning (without_seats s) new
    stands_then NoneReturns s old new stands acted calm = looks_stand s old old new stands acted calm.0 calm.1
    stands_then AnyReturns s old new stands acted calm = looked_consistent s old new stands acted

    pub calls_volumes : (h : List Happening) (calls : Calls view streams returning first h) (kinds : Kinds name view streams returning first h calls)
        → IsVolumeLife name view streams returning first h calls kinds
    calls_volumes h (Starts h' history stands) kinds = record {
      life = [];
      state = without_seats first;
      turns = refl;
      lives = refl;
      unknown = refl;
      stands = forgets returning first h' stands;
      explained = explains [] (without_seats first) refl;
    }
    calls_volumes h (Ends later program rest old new x y watchers left calls borne calm acted between) kinds =
        let before = calls_volumes (view.rack.history x) calls kinds.0 in
        let history = calls_history (view.rack.history x) calls in
        let same : before.state.geometry ≡ first.geometry = same_geometry name before.life (without_seats first) before.state before.lives in
        let from = devices x Begun watchers in
        let end = devices y borne.session left in
        let run = subst (λ (s : State). IsRun view returning (view.rack.history x) s borne.over.means.trace from end)
        (unseated before.state before.unknown)
        (run_of returning before.state program rest old new x y watchers left borne history before.stands
        (subst (λ (g : Geometry). StaysWithinToleranceOver view returning g (view.rack.history y) borne.over.means.trace from end borne.over.works) (sym same) calm)) in
        let stays = run_geometry returning (view.rack.history x) borne.over.means.trace before.state (view.rack.history x)
        (now run.state (view.rack.history y) run.stopped) run.runs in
        let turn = ended program rest old new from end borne.over before.state (subst IsWithinLimits (sym same) limits) before.stands kinds.1 run in
        let lives : Lives name (turn.0 ∷ before.life) (without_seats first) (without_seats run.state) = (before.state, before.lives, stays, turn.2) in
        record {
          life = turn.0 ∷ before.life;
          state = without_seats run.state;
          turns = (turn.0, before.life, before.turns, turn.1, refl {a = turn.0 ∷ before.life});
          lives = lives;
          unknown = refl;
          stands = stands_then returning run.state (view.rack.history y) later run.is_in.stands acted
              (subst (λ (g : Geometry). StaysWithinToleranceMeanwhile returning g (view.rack.history y) later) (sym (stays ∙ same)) between);
          explained = explains (turn.0 ∷ before.life) (without_seats run.state) lives;
        }
    calls_volumes h (Cut c image later program rest old new x y watchers left calls borne at calm crash acted between) kinds =
        let before = calls_volumes (view.rack.history x) calls kinds.0 in
        let history = calls_history (view.rack.history x) calls in
        let same : before.state.geometry ≡ first.geometry = same_geometry name before.life (without_seats first) before.state before.lives in
        let from = devices x Begun watchers in
        let end = devices y borne.session left in
        let safe = subst (λ (s : State). IsSafe view returning (view.rack.history x) s program borne.over.means.trace from end c)
        (unseated before.state before.unknown)
        (cut_of returning before.state program rest old new x y watchers left borne c history before.stands at
        (subst (λ (g : Geometry). StaysWithinToleranceOver view returning g c borne.over.means.trace from end borne.over.works) (sym same) calm)) in
        let cut = cut_to program rest old new from end borne.over before.state (subst IsWithinLimits (sym same) limits) before.stands c safe kinds.1 image crash in
        let lives : Lives name (cut.turn ∷ before.life) (without_seats first) (without_seats cut.state) = (before.state, before.lives, cut.geometry, cut.turns) in
        record {
          life = cut.turn ∷ before.life;
          state = without_seats cut.state;
          turns = (cut.turn, before.life, before.turns, cut.is_of, refl {a = cut.turn ∷ before.life});
          lives = lives;
          unknown = refl;
          stands = stands_then returning cut.state (Made image ∷ []) later cut.stands acted
              (subst (λ (g : Geometry). StaysWithinToleranceMeanwhile returning g (Made image ∷ []) later) (sym (cut.geometry ∙ same)) between);
          explained = explains (cut.turn ∷ before.life) (without_seats cut.state) lives;
        }
