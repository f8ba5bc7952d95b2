-- Sessions as parts of a life: one turn a step, and one call after the other.
use Rattle.std.proofs.Common.{◌≡◌, ◌∙◌, ℕ, List, [], ◌∷◌, None, Ok, Err, inl, inr, refl, sym, ap, subst}
use Rattle.std.proofs.lemmas.List.Elements.{All-cons}
use Rattle.std.specs.Prelude.{IsTrue}
use Rattle.stair_model.specs.Geometry.{Geometry}
use Rattle.stair_rack.specs.Answers.{IsHistory, Ran}
use Rattle.stair_rack.specs.Crash.{CrashMayLeave}
use Rattle.stair_rack.specs.History.{Happening, Made}
use Rattle.stair_rack.specs.Media.{Image}
use Rattle.stair_rack.specs.Moments.{IsMoment}
use Rattle.stair_rack.proofs.TidyLemmas.{history_made, history_on}
use Rattle.stair_state.specs.Represents.{no_write}
use Rattle.stair_state.specs.State.{State, without_seats}
use Rattle.stair_state.proofs.OutsideLemmas.{looks_stand}
use Rattle.stair_state.proofs.ReturnLemmas.{looked_consistent}
use Rattle.stair_invariant.specs.Returning.{AnyReturns, NoneReturns, Returning, StandsFor, StandsForAlone}
use Rattle.stair_array.specs.Promise.{Begun}
use Rattle.stair_command.specs.Devices.{DeviceView, Devices, devices}
use Rattle.stair_command.specs.Headline.{RefinesProgram}
use Rattle.stair_array.specs.Machine.{Answer, Step}
use Rattle.stair_command.specs.Ending.{EachStep}
use Rattle.stair_command.specs.Lives.{Ended, IsWriteOf, Lives, MayWrite, NoneWrites, Took, Turn, Turns, WasCut}
use Rattle.stair_command.specs.Outside.{Outside, Views}
use Rattle.stair_command.specs.Program.{Program, RebuildAll, Try}
use Rattle.stair_command.specs.Run.{Goes, IsNext, IsRun, IsSafe, Now, Runs, history_of, now}
use Rattle.stair_command.specs.Sessions.{Between, Calls, Cut, CutsAreOfProgram, Ends, StaysWithinToleranceMeanwhile, StaysWithinToleranceOver, IsLived, NextSession, RunsAreLived, Starts, TurnsOfCut, Within, turns_of, with_turn}
use Rattle.stair_command.specs.Trace.{TraceItem, Found, Took as TookBytes, TookLast, TakeFailed, HasPut, PutFailed, Grew, RanOut, Did, Stepped}
use Rattle.stair_command.proofs.LifeLaws.{reads_are_explained}
use Rattle.stair_command.proofs.PlannedLaws.{AllSteps, OfItem, rest_along, steps_along}
use Rattle.stair_command.proofs.RunLaws.{forgets, works_ran}

-- ---- a run

same_lives : (life : List Turn) (first : State) (old new : Now) → new ≡ old → Lives life first old.state → Lives life first new.state
same_lives life first old new same lives = subst (λ (n : Now). Lives life first n.state) (sym same) lives

one_lived : (returning : Returning) (before : List Happening) (item : TraceItem) (old new : Now) (life : List Turn) (first : State) (goes : Goes returning before item old new)
    → Lives life first old.state → Lives (with_turn returning before item old new goes life) first new.state
one_lived returning before (Stepped step answer events left) old new life first (inl taken) lives =
    (old.state, lives, (taken.is_step.begun, taken.is_step.row))
one_lived returning before (Stepped step answer events left) old new life first (inr again) lives = same_lives life first old new again.same lives
one_lived returning before (Did action outcome) old new life first goes lives = subst (λ (s : State). Lives life first s) (sym goes.state) lives
one_lived returning before (Found question) old new life first goes lives = same_lives life first old new goes lives
one_lived returning before (TookBytes bytes) old new life first goes lives = same_lives life first old new goes lives
one_lived returning before (TookLast bytes) old new life first goes lives = same_lives life first old new goes lives
one_lived returning before (TakeFailed bytes) old new life first goes lives = same_lives life first old new goes lives
one_lived returning before (HasPut bytes) old new life first goes lives = same_lives life first old new goes lives
one_lived returning before (PutFailed bytes) old new life first goes lives = same_lives life first old new goes lives
one_lived returning before Grew old new life first goes lives = same_lives life first old new goes lives
one_lived returning before RanOut old new life first goes lives = same_lives life first old new goes lives

pub runs_are_lived : RunsAreLived
runs_are_lived returning before [] old new life first runs lives = same_lives life first old new runs lives
runs_are_lived returning before (item ∷ trace) old new life first runs lives =
    runs_are_lived returning before trace runs.0 new (with_turn returning before item old runs.0 runs.1 life) first runs.2
    (one_lived returning before item old runs.0 life first runs.1 lives)

-- ---- a crash

-- what a crash left of a session, with its turns
record IsCutSo {R W : Type 0} (view : DeviceView R W) (returning : Returning) (before : List Happening) (s : State) (program : Program) (trace : List TraceItem)
    (x y : Devices R W) (c : List Happening) (safe : IsSafe view returning before s program trace x y c) (life : List Turn) (first : State) (image : Image) : Type 0 where
  pub turns : List Turn
  pub are_of : TurnsOfCut view returning before s program trace x y c safe life turns
  pub state : State
  pub lives : Lives turns first state
  pub stands : StandsForAlone returning state image

module _ {R W : Type 0} (view : DeviceView R W) where
  cut_so : (returning : Returning) (before c : List Happening) (s first : State) (program : Program) (trace : List TraceItem) (x y : Devices R W)
      (life : List Turn) (image : Image) → Lives life first s → (safe : IsSafe view returning before s program trace x y c) → CrashMayLeave c image
      → IsCutSo view returning before s program trace x y c safe life first image
  cut_so returning before c s first program trace x y life image lives safe left =
      let so_far = runs_are_lived returning before safe.done (now s (history_of view x) None) (now safe.state (history_of view safe.mid) safe.stopped) life first
      safe.runs lives in
      let turns = turns_of returning before safe.done (now s (history_of view x) None) (now safe.state (history_of view safe.mid) safe.stopped) safe.runs life in
      elim (safe.images image left) as (λ _. IsCutSo view returning before s program trace x y c safe life first image) [
        | inl stands ↦ record { turns = turns; are_of = Between; state = safe.state; lives = so_far; stands = stands }
        | inr next ↦ record {
          turns = WasCut next.step ∷ turns;
          are_of = Within next.step next.next;
          state = next.left.state;
          lives = (safe.state, so_far, (next.left.cut.begun, next.left.cut.within));
          stands = next.left.stands;
        }
      ]

  pub crashes_are_lived : (returning : Returning) (before c : List Happening) (s first : State) (program : Program) (trace : List TraceItem)
      (x y : Devices R W) (life : List Turn) (image : Image) → Lives life first s
      → (safe : IsSafe view returning before s program trace x y c) → CrashMayLeave c image
      → (turns : List Turn) × TurnsOfCut view returning before s program trace x y c safe life turns × NextSession returning first turns image
  crashes_are_lived returning before c s first program trace x y life image lives safe left =
      let cut = cut_so returning before c s first program trace x y life image lives safe left in (
        cut.turns,
        cut.are_of,
        record {
          state = without_seats cut.state;
          lives = (cut.state, cut.lives, refl);
          unknown = refl;
          stands = forgets returning cut.state (Made image ∷ []) cut.stands;
        },
      )

-- ---- no write but those of the program

module _ (b : ℕ) where
  abbrev NoWrite : Step → Type 0
  NoWrite step = ¬ IsWriteOf b step

  taken_unwritten : (step : Step) (answer : Answer step) → NoWrite step → ¬ MayWrite b (Took step answer)
  taken_unwritten step (Ok given) none = none
  taken_unwritten step (Err refusal) none = λ may. none may.0

  turn_unwritten : (returning : Returning) (before : List Happening) (item : TraceItem) (old new : Now) (life : List Turn)
      (goes : Goes returning before item old new) → OfItem NoWrite item → NoneWrites b life → NoneWrites b (with_turn returning before item old new goes life)
  turn_unwritten returning before (Stepped step answer events left) old new life (inl taken) none so =
      All-cons (λ turn. ¬ MayWrite b turn) (Took step answer) life (taken_unwritten step answer none) so
  turn_unwritten returning before (Stepped step answer events left) old new life (inr again) none so = so
  turn_unwritten returning before (Did action outcome) old new life goes none so = so
  turn_unwritten returning before (Found question) old new life goes none so = so
  turn_unwritten returning before (TookBytes bytes) old new life goes none so = so
  turn_unwritten returning before (TookLast bytes) old new life goes none so = so
  turn_unwritten returning before (TakeFailed bytes) old new life goes none so = so
  turn_unwritten returning before (HasPut bytes) old new life goes none so = so
  turn_unwritten returning before (PutFailed bytes) old new life goes none so = so
  turn_unwritten returning before Grew old new life goes none so = so
  turn_unwritten returning before RanOut old new life goes none so = so

  turns_unwritten : (returning : Returning) (before : List Happening) (trace : List TraceItem) (old new : Now) (life : List Turn)
      (runs : Runs returning before trace old new) → AllSteps NoWrite trace → NoneWrites b life
      → NoneWrites b (turns_of returning before trace old new runs life)
  turns_unwritten returning before [] old new life runs none so = so
  turns_unwritten returning before (item ∷ trace) old new life runs none so =
      turns_unwritten returning before trace runs.0 new (with_turn returning before item old runs.0 runs.1 life) runs.2 none.1
      (turn_unwritten returning before item old runs.0 life runs.1 none.0 so)

  next_unwritten : (program : Program) (step : Step) → EachStep NoWrite program → IsNext program step → NoWrite step
  next_unwritten (Try step k) next each is = subst NoWrite (sym is) each.0
  next_unwritten (RebuildAll slots done k) next each is = subst NoWrite (sym is) each.0
  next_unwritten _ next each is = absurd is

pub cuts_are_of_program : (R W : Type 0) → CutsAreOfProgram R W
cuts_are_of_program R W view returning before c s program trace x y life turns safe b each Between so =
    turns_unwritten b returning before safe.done (now s (history_of view x) None) (now safe.state (history_of view safe.mid) safe.stopped) life safe.runs
    (steps_along (NoWrite b) safe.done program safe.rest each safe.follows) so
cuts_are_of_program R W view returning before c s program trace x y life turns safe b each (Within step next) so =
    All-cons (λ turn. ¬ MayWrite b turn) (WasCut step) _
    (next_unwritten b safe.rest step (rest_along (NoWrite b) safe.done program safe.rest each safe.follows) next)
    (turns_unwritten b returning before safe.done (now s (history_of view x) None) (now safe.state (history_of view safe.mid) safe.stopped) life safe.runs
    (steps_along (NoWrite b) safe.done program safe.rest each safe.follows) so)

-- ---- calls, one after the other

turn_geometry : (turn : Turn) (old new : State) → Turns turn old new → new.geometry ≡ old.geometry
turn_geometry (Took step answer) old new turns = turns.1.geometry
turn_geometry (WasCut step) old new turns =
    elim turns.1 as (λ _. new.geometry ≡ old.geometry) [
      | inl same ↦ ap (λ (s : State). s.geometry) same
      | inr row ↦ row.1.geometry
    ]
turn_geometry Ended old new turns = ap (λ (s : State). s.geometry) turns

-- the geometry stays over a life
pub life_geometry : (life : List Turn) (first s : State) → Lives life first s → s.geometry ≡ first.geometry
life_geometry [] first s lives = ap (λ (t : State). t.geometry) lives
life_geometry (turn ∷ life) first s lives = turn_geometry turn lives.0 s lives.2 ∙ life_geometry life first lives.0 lives.1

-- a state whose seats aren't known is as it is without them
forgotten : (s : State) → s.seats ≡ None → without_seats s ≡ s
forgotten s unknown = λ i. record s { seats = sym unknown i }

-- what it represents after looks, and whatever the outside did
stands_between : (returning : Returning) (s : State) (old new : List Happening) → StandsFor returning s old → Ran no_write old new
    → StaysWithinToleranceMeanwhile returning s.geometry old new → StandsFor returning (without_seats s) new
stands_between NoneReturns s old new stands acted calm = looks_stand s old old new stands acted calm.0 calm.1
stands_between AnyReturns s old new stands acted calm = looked_consistent s old new stands acted

module _ {R W S K : Type 0} (view : DeviceView R W) (streams : Views S K) (honest : IsTrue view.rack.honest) where
  -- a call that is borne out is a run, whether media come back or not
  borne_run : (returning : Returning) (s : State) (program rest : Program) (old new : Outside S K) (x y : R) (watchers left : List W)
      (borne : RefinesProgram view streams program rest old new x y watchers left) → IsHistory (view.rack.history x) → StandsFor returning s (view.rack.history x)
      → StaysWithinToleranceOver view returning s.geometry (view.rack.history y) borne.over.means.trace (devices x Begun watchers) (devices y borne.session left)
      borne.over.works
      → IsRun view returning (view.rack.history x) (without_seats s) borne.over.means.trace (devices x Begun watchers) (devices y borne.session left)
  borne_run NoneReturns s program rest old new x y watchers left borne history stands calm = borne.runs honest s history stands calm.0 calm.1
  borne_run AnyReturns s program rest old new x y watchers left borne history stands calm = borne.wherever.runs honest s history stands calm

  -- and where a crash comes it cuts that
  borne_cut : (returning : Returning) (s : State) (program rest : Program) (old new : Outside S K) (x y : R) (watchers left : List W)
      (borne : RefinesProgram view streams program rest old new x y watchers left) (c : List Happening) → IsHistory (view.rack.history x)
      → StandsFor returning s (view.rack.history x) → IsMoment (view.rack.history x) c (view.rack.history y)
      → StaysWithinToleranceOver view returning s.geometry c borne.over.means.trace (devices x Begun watchers) (devices y borne.session left) borne.over.works
      → IsSafe view returning (view.rack.history x) (without_seats s) program borne.over.means.trace (devices x Begun watchers) (devices y borne.session left) c
  borne_cut NoneReturns s program rest old new x y watchers left borne c history stands at calm = borne.cuts honest s c history stands at calm.0 calm.1
  borne_cut AnyReturns s program rest old new x y watchers left borne c history stands at calm = borne.wherever.cuts honest s c history stands at calm

module _ {R W S K : Type 0} (view : DeviceView R W) (streams : Views S K) (returning : Returning) (first : State) (honest : IsTrue view.rack.honest) where
  -- what has happened is a history of an honest rack
  calls_history : (h : List Happening) → Calls view streams returning first h → IsHistory h
  calls_history h (Starts h' history stands) = history
  calls_history h (Ends later program rest old new x y watchers left calls borne calm acted between) =
      history_on (history_on (calls_history (view.rack.history x) calls)
      (works_ran view honest borne.over.means.trace (devices x Begun watchers) (devices y borne.session left) borne.over.works)) acted
  calls_history h (Cut c image later program rest old new x y watchers left calls borne at calm crash acted between) =
      history_on (history_made image) acted

  pub calls_are_lived : (h : List Happening) (calls : Calls view streams returning first h) → IsLived view streams returning first h calls
  calls_are_lived h (Starts h' history stands) = record {
    life = [];
    state = without_seats first;
    is_of = (refl, refl);
    lives = refl;
    unknown = refl;
    stands = forgets returning first h' stands;
    explained = λ certain. reads_are_explained (without_seats first) (without_seats first) [] certain refl;
  }
  calls_are_lived h (Ends later program rest old new x y watchers left calls borne calm acted between) =
      let before = calls_are_lived (view.rack.history x) calls in
      let history = calls_history (view.rack.history x) calls in
      let same = life_geometry before.life (without_seats first) before.state before.lives in
      let run = subst (λ (s : State). IsRun view returning (view.rack.history x) s borne.over.means.trace (devices x Begun watchers)
      (devices y borne.session left)) (forgotten before.state before.unknown)
      (borne_run view streams honest returning before.state program rest old new x y watchers left borne history before.stands
      (subst (λ (g : Geometry). StaysWithinToleranceOver view returning g (view.rack.history y) borne.over.means.trace (devices x Begun watchers)
      (devices y borne.session left) borne.over.works) (sym same) calm)) in
      let lived = runs_are_lived returning (view.rack.history x) borne.over.means.trace (now before.state (view.rack.history x) None)
      (now run.state (view.rack.history y) run.stopped) before.life (without_seats first) run.runs before.lives in
      let turns = turns_of returning (view.rack.history x) borne.over.means.trace (now before.state (view.rack.history x) None)
      (now run.state (view.rack.history y) run.stopped) run.runs before.life in
      let last = life_geometry turns (without_seats first) run.state lived in
      record {
        life = Ended ∷ turns;
        state = without_seats run.state;
        is_of = (before.life, before.state, before.is_of, run, refl {a = Ended ∷ turns}, refl);
        lives = (run.state, lived, refl);
        unknown = refl;
        stands = stands_between returning run.state (view.rack.history y) later run.is_in.stands acted
            (subst (λ (g : Geometry). StaysWithinToleranceMeanwhile returning g (view.rack.history y) later) (sym last) between);
        explained = λ certain.
            reads_are_explained (without_seats first) (without_seats run.state) (Ended ∷ turns) certain (run.state, lived, refl {a = without_seats run.state});
      }
  calls_are_lived h (Cut c image later program rest old new x y watchers left calls borne at calm crash acted between) =
      let before = calls_are_lived (view.rack.history x) calls in
      let history = calls_history (view.rack.history x) calls in
      let same = life_geometry before.life (without_seats first) before.state before.lives in
      let safe = subst (λ (s : State). IsSafe view returning (view.rack.history x) s program borne.over.means.trace (devices x Begun watchers)
      (devices y borne.session left) c) (forgotten before.state before.unknown)
      (borne_cut view streams honest returning before.state program rest old new x y watchers left borne c history before.stands at
      (subst (λ (g : Geometry). StaysWithinToleranceOver view returning g c borne.over.means.trace (devices x Begun watchers)
      (devices y borne.session left) borne.over.works) (sym same) calm)) in
      let cut = cut_so view returning (view.rack.history x) c before.state (without_seats first) program borne.over.means.trace (devices x Begun watchers)
      (devices y borne.session left) before.life image before.lives safe crash in
      record {
        life = Ended ∷ cut.turns;
        state = without_seats cut.state;
        is_of = (before.life, before.state, before.is_of, safe, cut.turns, cut.are_of, refl, refl);
        lives = (cut.state, cut.lives, refl);
        unknown = refl;
        stands = stands_between returning cut.state (Made image ∷ []) later cut.stands acted
            (subst (λ (g : Geometry). StaysWithinToleranceMeanwhile returning g (Made image ∷ []) later)
            (sym (life_geometry cut.turns (without_seats first) cut.state cut.lives)) between);
        explained = λ certain.
            reads_are_explained (without_seats first) (without_seats cut.state) (Ended ∷ cut.turns) certain (cut.state, cut.lives, refl {a = without_seats cut.state});
      }
