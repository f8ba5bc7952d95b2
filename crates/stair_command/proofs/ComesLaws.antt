-- What was done to devices alone, one thing after the other, and over any streams.
use Rattle.std.proofs.Common.{◌≡◌, ◌≤◌, ℕ, Bool, List, [], ◌∷◌, ◌++◌, Ok, Err, arith, length, refl, subst}
use Rattle.std.proofs.lemmas.Bool.Decides.{nat_tests}
use Rattle.std.specs.Prelude.{◌||◌, false}
use Rattle.stair_array.specs.Machine.{Answer, GivenBy, Refusal, Step}
use Rattle.stair_command.specs.Comes.{AreApart, ExecutesOnDevices, IsApart}
use Rattle.stair_command.specs.Devices.{DeviceView, Devices, ExecutesWith, WorksAll, some_left}
use Rattle.stair_command.specs.Executes.{Counts, Gives, Holds}
use Rattle.stair_command.specs.Outside.{Outside, SinkView, SourceView, Views}
use Rattle.stair_command.specs.Program.{Program, Over, take_step, watch_step}
use Rattle.stair_command.specs.Question.{Costs, EventLine, Judgement, Limits, ScriptLine, Text, Words}
use Rattle.stair_command.specs.Refused.{status_of_refusal}
use Rattle.stair_command.specs.Steps.{Takes}
use Rattle.stair_command.specs.Trace.{TraceItem, Did, Found, Grew, AlongTrace, StepsProgram, RanOut, Stepped}
use Rattle.stair_command.proofs.ProgramLaws.{leads_then}
use Rattle.stair_watch.proofs.WatchLemmas.{no_more_told}

-- ---- streams are as they were

module _ {S : Type 0} (view : SourceView S) (s : S) where
  source_same : (item : TraceItem) → IsApart item → Gives view item s s
  source_same (Found question) apart = refl
  source_same (Did action outcome) apart = refl
  source_same (Stepped step answer events left) apart = refl
  source_same Grew apart = refl
  source_same RanOut apart = refl
  source_same _ apart = absurd apart

  source_still : (trace : List TraceItem) → AreApart trace → AlongTrace (Gives view) trace s s
  source_still [] apart = refl
  source_still (item ∷ trace) apart = (s, source_same item apart.0, source_still trace apart.1)

module _ {K : Type 0} (view : SinkView K) (s : K) where
  sink_same : (item : TraceItem) → IsApart item → Holds view item s s
  sink_same (Found question) apart = refl
  sink_same (Did action outcome) apart = refl
  sink_same (Stepped step answer events left) apart = refl
  sink_same Grew apart = refl
  sink_same RanOut apart = refl
  sink_same _ apart = absurd apart

  sink_still : (trace : List TraceItem) → AreApart trace → AlongTrace (Holds view) trace s s
  sink_still [] apart = refl
  sink_still (item ∷ trace) apart = (s, sink_same item apart.0, sink_still trace apart.1)

counter_same : (item : TraceItem) (n : ℕ) → IsApart item → Counts item n n
counter_same (Found (Words words)) n apart = refl
counter_same (Found (Limits g)) n apart = refl
counter_same (Found (Text text)) n apart = refl
counter_same (Found (ScriptLine bytes)) n apart = refl
counter_same (Found (EventLine bytes)) n apart = refl
counter_same (Found (Costs g)) n apart = refl
counter_same (Found (Judgement command g input)) n apart = absurd apart
counter_same (Did action outcome) n apart = refl
counter_same (Stepped step answer events left) n apart = refl
counter_same Grew n apart = refl
counter_same RanOut n apart = refl
counter_same _ n apart = absurd apart

counter_still : (trace : List TraceItem) (n : ℕ) → AreApart trace → AlongTrace Counts trace n n
counter_still [] n apart = refl
counter_still (item ∷ trace) n apart = (n, counter_same item n apart.0, counter_still trace n apart.1)

both_apart : (first later : List TraceItem) → AreApart first → AreApart later → AreApart (first ++ later)
both_apart [] later one both = both
both_apart (item ∷ first) later one both = (one.0, both_apart first later one.1 both)

-- ---- whether a watcher left

-- none did where there are as many, and over two stretches one did where it did over either
pub none_left : {W : Type 0} (list : List W) → some_left list list ≡ false
none_left list = grind (arith, nat_tests)

pub left_either : {W : Type 0} (x y z : List W) → length y ≤ length x → length z ≤ length y → (some_left x y || some_left y z) ≡ some_left x z
left_either x y z first later = grind (arith, nat_tests, first, later)

-- ---- one thing after the other

module _ {R W : Type 0} (view : DeviceView R W) where
  pub comes_none : (program : Program) (x : Devices R W) → ExecutesOnDevices view program program x x
  comes_none program x = record { trace = []; apart = tt; follows = refl; works = refl }

  pub comes_then : {program mid rest : Program} {x y z : Devices R W} → ExecutesOnDevices view program mid x y → ExecutesOnDevices view mid rest y z → ExecutesOnDevices view program rest x z
  comes_then {program} {mid} {rest} {x} {y} {z} first later = record {
    trace = first.trace ++ later.trace;
    apart = both_apart first.trace later.trace first.apart later.apart;
    follows = leads_then StepsProgram first.trace later.trace program mid rest first.follows later.follows;
    works = leads_then (WorksAll view) first.trace later.trace x y z first.works later.works;
  }

  pub comes_by : (item : TraceItem) (program rest : Program) (x y : Devices R W) → IsApart item → StepsProgram item program rest → WorksAll view item x y
      → ExecutesOnDevices view program rest x y
  comes_by item program rest x y apart moves works =
      record { trace = item ∷ []; apart = (apart, tt); follows = (rest, moves, refl); works = (y, works, refl) }

  -- no watcher comes at a step
  pub takes_fewer : (step : Step) (answer : Answer step) (x y : Devices R W) → Takes view step answer x y → length y.watchers ≤ length x.watchers
  takes_fewer step answer x y takes = no_more_told view.watcher takes.events x.watchers y.watchers takes.works.1

  -- a step that was done, where it matters whether a watcher left
  pub comes_watched : (slots : ℕ) (step : Step) (given : GivenBy step) (k : GivenBy step → Bool → Program) (x y : Devices R W) → Takes view step (Ok given) x y
      → ExecutesOnDevices view (watch_step slots step k) (k given (some_left x.watchers y.watchers)) x y
  comes_watched slots step given k x y takes =
      subst (λ (left : Bool). ExecutesOnDevices view (watch_step slots step k) (k given left) x y) takes.works.2
      (comes_by (Stepped step (Ok given) takes.events takes.left) (watch_step slots step k) (k given takes.left) x y tt (Ok given, refl, refl) takes.works)

  -- where it doesn't, and one that was refused
  pub comes_step : (slots : ℕ) (step : Step) (given : GivenBy step) (k : GivenBy step → Program) (x y : Devices R W) → Takes view step (Ok given) x y
      → ExecutesOnDevices view (take_step slots step k) (k given) x y
  comes_step slots step given k x y takes = comes_watched slots step given (λ x left. k x) x y takes

  pub comes_refused : (slots : ℕ) (step : Step) (refusal : Refusal) (k : GivenBy step → Bool → Program) (x y : Devices R W)
      → Takes view step (Err refusal) x y → ExecutesOnDevices view (watch_step slots step k) (Over (status_of_refusal slots refusal)) x y
  comes_refused slots step refusal k x y takes =
      comes_by (Stepped step (Err refusal) takes.events takes.left) (watch_step slots step k) (Over (status_of_refusal slots refusal)) x y tt
      (Err refusal, refl, refl) takes.works

  pub comes_refusal : (slots : ℕ) (step : Step) (refusal : Refusal) (k : GivenBy step → Program) (x y : Devices R W) → Takes view step (Err refusal) x y
      → ExecutesOnDevices view (take_step slots step k) (Over (status_of_refusal slots refusal)) x y
  comes_refusal slots step refusal k x y takes = comes_refused slots step refusal (λ x left. k x) x y takes

  -- over any streams
  pub with_comes : {S K : Type 0} (streams : Views S K) (program rest : Program) (a : Outside S K) (x y : Devices R W) → ExecutesOnDevices view program rest x y
      → ExecutesWith view streams program rest a a x y
  with_comes streams program rest a x y comes = record {
    means = record {
      trace = comes.trace;
      follows = comes.follows;
      bears = record {
        gives = source_still streams.source a.source comes.trace comes.apart;
        holds = sink_still streams.sink a.sink comes.trace comes.apart;
        counts = counter_still comes.trace a.counter comes.apart;
      };
    };
    works = comes.works;
  }
