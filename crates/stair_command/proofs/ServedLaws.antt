-- An array that serves along a call's trace finds what is looked for, and does each step that passes its tests; what that says of
-- the steps of a program, and of how it ends.
use Rattle.std.proofs.Common.{◌≡◌, ◌∙◌, ◌<◌, ℕ, List, [], ◌∷◌, length, Option, Some, Ok, Err, inl, inr, refl, sym, ap, subst, arith}
use Rattle.std.proofs.lemmas.Bool.{false≢true}
use Rattle.std.proofs.lemmas.List.Elements.{All-cons, All-nil}
use Rattle.std.specs.Prelude.{◌⊎◌, All, Bool, false, true, IsOk, IsTrue, Result, ⊤}
use Rattle.stair_model.specs.Geometry.{Geometry, block_count}
use Rattle.stair_rack.specs.Count.{Rose}
use Rattle.stair_rack.specs.History.{Happening}
use Rattle.stair_rack.specs.declared.watcher.Event.{Event}
use Rattle.stair_member.specs.Membership.{Membership}
use Rattle.stair_member.specs.Seats.{Seats}
use Rattle.stair_state.specs.State.{State, without_seats}
use Rattle.stair_state.specs.Blocks.{AreOfOneStripe}
use Rattle.stair_invariant.specs.Effects.{Snapshot, snapshot}
use Rattle.stair_invariant.specs.Returning.{Returning}
use Rattle.stair_array.specs.Calls.{WritesBlocks}
use Rattle.stair_array.specs.Machine.{Answer, Chunk, Dropped, Frozen, HoldsAfter, Nothing, PassesTests, Progress, Promoted, Recover, Refusal, Row, Step, WriteBlocks}
use Rattle.stair_array.specs.Promise.{Begun, Performs, Seen, ServesState, Stops}
use Rattle.stair_array.proofs.OpenStepLemmas.{opening_or_open}
use Rattle.stair_command.specs.Action.{Action, Create, OkOf, Outcome, Survey}
use Rattle.stair_command.specs.Devices.{DeviceView, Devices, ExecutesWhole, WorksAll, devices, seen_of}
use Rattle.stair_command.specs.Ending.{AllowsAtMost}
use Rattle.stair_command.specs.Executes.{Gives, Holds}
use Rattle.stair_command.specs.Outside.{Outside, Views}
use Rattle.stair_command.specs.Program.{Program, Over, Ask, Take, Put, Allocate, Do, Try, RebuildAll, after_rebuild}
use Rattle.stair_command.specs.Served.{EachStepFor, EndsDone, EndsServed, IsDoneIfPassed, IsRefusedFrozen, IsServed, PassesItsTests}
use Rattle.stair_command.specs.Trace.{TraceItem, Found, Took, TookLast, TakeFailed, HasPut, PutFailed, Grew, RanOut, Did, Stepped, AlongTrace, StepsProgram, after}
use Rattle.stair_command.specs.Sure.{BeginsAs, EachCanReplace, HasNoFault, IsDone, ServesAlong, most_allowed}
use Rattle.stair_status.specs.declared.status.Status.{Status}
use Rattle.stair_status.specs.declared.status.Status.TheVariants.{OutOfMemory}
use Rattle.stair_command.proofs.EndingLaws.{ends_so}
use Rattle.stair_command.proofs.HeadlineLaws.{all_lead}
use Rattle.stair_command.proofs.PerformedLaws.{all_performed}
use Rattle.stair_command.proofs.PlannedLaws.{AllSteps, OfItem, took_last_told, took_told}
use Rattle.stair_command.proofs.PlannedSureLaws.{planned_draws}
use Rattle.stair_command.proofs.SureLaws.{sink_unfailed, source_unfailed}
use Rattle.stair_command.proofs.SureStepLaws.{IsReadyWith, given_by, goes_open, not_stopped, open_for, ready_first, seats_once, step_begins, step_behind, step_done, step_led, with_found, with_still}

-- ---- a step

-- what passes tests with the seats that a step begins with passes them with those that are known
passes_as : (step : Step) (s : State) (begun seats : Seats) → BeginsAs step s begun → s.seats ≡ Some seats → PassesTests step s begun
    → PassesTests step s seats
passes_as Recover s begun seats begins known passed = tt
passes_as step s begun seats begins known passed = subst (PassesTests step s) (seats_once (sym begins ∙ known)) passed

-- what passes all tests passes those that a step is tested for
its_tests : (step : Step) (s : State) (seats : Seats) → PassesTests step s seats → PassesItsTests step s seats
its_tests (WriteBlocks first contents) s seats passed = (passed.0, passed.2)
its_tests step s seats passed = passed

-- blocks of more than one stripe are never written
written_together : (first : ℕ) (contents : List (List ℕ)) (answer : Answer (WriteBlocks first contents)) (x y : Snapshot) → WritesBlocks first contents answer x y
    → (g : Geometry) → x.member.array.geometry ≡ g → x.member.array.frozen ≡ false → first < block_count g
    → AreOfOneStripe g first (length contents)
written_together first contents _ _ _ (WritesBlocks.OutOf x past) g same thawed below =
    absurd (omega (arith, past, below, ap block_count same))
written_together first contents _ _ _ (WritesBlocks.IsFrozen x below frozen) g same thawed within = absurd (false≢true (sym thawed ∙ frozen))
written_together first contents _ _ _ (WritesBlocks.Unready t cells loaded refusal x y place prepares) g same thawed below =
    subst (λ (f : Geometry). AreOfOneStripe f first (length contents)) same place.together
written_together first contents _ _ _ (WritesBlocks.Wrote redo loaded stripe refusal x y z place redoes prepares set redone) g same thawed below =
    subst (λ (f : Geometry). AreOfOneStripe f first (length contents)) same place.together

-- so what passes those that a step which is performed is tested for passes all
all_tests : (returning : Returning) (before : List Happening) (s : State) (step : Step) (answer : Answer step) (events : List Event) (x y : Seen) (seats : Seats)
    → Performs step answer events x y → ServesState returning before s x.session x.told → PassesItsTests step s seats → PassesTests step s seats
all_tests returning before s (WriteBlocks first contents) answer events x y seats does serves passed =
    elim (opening_or_open (WriteBlocks first contents) does.was x.session does.starts) [
      | inl opening ↦ let never : WriteBlocks first contents ≡ Recover = opening in absurd cc
      | inr began ↦
          let serving = open_for returning before s does.was x began.is_open began.unstopped serves in (
            passed.0,
            written_together first contents answer (snapshot does.was.member x.told) (snapshot does.is.member y.told) does.does s.geometry serving.geometry
                (serving.frozen ∙ passed.1) passed.0,
            passed.1,
          )
    ]
all_tests returning before s step answer events x y seats does serves passed = passed

-- a write of blocks that are there is refused where the array is frozen
write_frozen : (first : ℕ) (contents : List (List ℕ)) (answer : Answer (WriteBlocks first contents)) (x y : Snapshot) → WritesBlocks first contents answer x y
    → (g : Geometry) → x.member.array.geometry ≡ g → x.member.array.frozen ≡ true → first < block_count g → answer ≡ Err Frozen
write_frozen first contents _ _ _ (WritesBlocks.OutOf x past) g same frozen below = absurd (omega (arith, past, below, ap block_count same))
write_frozen first contents _ _ _ (WritesBlocks.IsFrozen x below is) g same frozen within = refl
write_frozen first contents _ _ _ (WritesBlocks.Unready t cells loaded refusal x y place prepares) g same frozen within =
    absurd (false≢true (sym place.thawed ∙ frozen))
write_frozen first contents _ _ _ (WritesBlocks.Wrote redo loaded stripe refusal x y z place redoes prepares set redone) g same frozen within =
    absurd (false≢true (sym place.thawed ∙ frozen))

frozen_refused : (returning : Returning) (before : List Happening) (s : State) (step : Step) (answer : Answer step) (events : List Event) (x y : Seen)
    → Performs step answer events x y → ServesState returning before s x.session x.told → IsRefusedFrozen step answer s
frozen_refused returning before s (WriteBlocks first contents) answer events x y does serves = λ below frozen.
    elim (opening_or_open (WriteBlocks first contents) does.was x.session does.starts) [
      | inl opening ↦ let never : WriteBlocks first contents ≡ Recover = opening in absurd cc
      | inr began ↦
          let serving = open_for returning before s does.was x began.is_open began.unstopped serves in
          write_frozen first contents answer (snapshot does.was.member x.told) (snapshot does.is.member y.told) does.does s.geometry serving.geometry
          (serving.frozen ∙ frozen) below
    ]
frozen_refused returning before s step answer events x y does serves = tt

-- an opening is tested for nothing
opening_passes : (step : Step) (s : State) (seats : Seats) → step ≡ Recover → PassesTests step s seats
opening_passes step s seats opening = subst (λ (begun : Step). PassesTests begun s seats) (sym opening) tt

-- a step that is done where it passes its tests doesn't stop the array
never_stops : (step : Step) (answer : Answer step) (begun : Seats) (s later : State) → Row step answer begun s later
    → (PassesTests step s begun → IsOk answer) → ¬ Stops answer
never_stops step (Ok given) begun s later row done stops = stops
never_stops step (Err refusal) begun s later row done stops = absurd (false≢true (done (row.passes stops)))

-- ---- along a trace

module _ {R W : Type 0} (returning : Returning) (view : DeviceView R W) (honest : IsTrue view.rack.honest) (before : List Happening) where
  -- nothing is counted on
  abbrev Ready : (s : State) (trace : List TraceItem) (x y : Devices R W) → AlongTrace (WorksAll view) trace x y → Type 0
  Ready s trace x y works = IsReadyWith returning view honest before [] s trace x y works

  -- a step is done where it passes its tests, and after it the array is ready again
  step_served : (s : State) (step : Step) (answer : Answer step) (events : List Event) (left : Bool) (trace : List TraceItem) (x y : Devices R W)
      (works : AlongTrace (WorksAll view) (Stepped step answer events left ∷ trace) x y) → Ready s (Stepped step answer events left ∷ trace) x y works
      → Performs step answer events (seen_of view x) (seen_of view works.0)
      → (later : State) × IsDoneIfPassed step answer s later × Ready later trace works.0 y works.2
  step_served s step answer events left trace x y works ready does =
      let led = step_led returning view honest before [] s step answer events left trace x y works ready does in
      let begins = step_begins returning view honest before [] s step answer events left trace x y works ready does in
      let done : PassesTests step s led.is_step.begun → IsOk answer =
      λ passed. step_done returning view honest before [] s step answer events left trace x y works ready does
      (λ seats known free. passes_as step s led.is_step.begun seats begins known passed) in
      let opened =
      goes_open step answer does.is works.0.session (λ opening. done (opening_passes step s led.is_step.begun opening))
      (never_stops step answer led.is_step.begun s led.state led.is_step.row done) does.ends in (
        led.state,
        record {
          begun = led.is_step.begun;
          begins = begins;
          row = led.is_step.row;
          done = λ passed.
              done (all_tests returning before s step answer events (seen_of view x) (seen_of view works.0) led.is_step.begun does
              ready.is_at.is_in.serves passed);
          frozen = frozen_refused returning before s step answer events (seen_of view x) (seen_of view works.0) does ready.is_at.is_in.serves;
        },
        step_behind returning view honest before [] s step answer events left trace x y works ready does [] opened (λ j none. absurd none),
      )

  -- so the trace is served
  served : (s : State) (trace : List TraceItem) (x y : Devices R W) (works : AlongTrace (WorksAll view) trace x y) → Ready s trace x y works → IsServed s trace
  served s [] x y works ready = tt
  served s (Did Survey (Ok member) ∷ trace) x y works ready =
      let finds = with_found returning view honest before [] s (Ok member) trace x y works ready in
      let same : member ≡ finds.member = let is = finds.found in cc in
      (ap (λ (m : Membership). m.array.geometry) same ∙ finds.geometry, served s trace works.0 y works.2 finds.ready)
  served s (Did Survey (Err fault) ∷ trace) x y works ready =
      let finds = with_found returning view honest before [] s (Err fault) trace x y works ready in
      let is = finds.found in absurd cc
  served s (Did (Create g) outcome ∷ trace) x y works ready = tt
  served s (Stepped step answer events left ∷ trace) x y works ready =
      elim works.1.0 [
        | inl does ↦
            let step_is = step_served s step answer events left trace x y works ready does in
            (step_is.0, step_is.1, served step_is.0 trace works.0 y works.2 step_is.2)
        | inr stopped ↦ absurd (not_stopped returning view honest before [] s step answer events left trace x y works ready stopped)
      ]
  served s (item ∷ trace) x y works ready =
      served s trace works.0 y works.2 (with_still returning view honest before [] s item trace x y works tt ready)

-- so is the trace of a whole call, of any program that draws few numbers
pub planned_served : {R W S K : Type 0} (view : DeviceView R W) (streams : Views S K) (returning : Returning) (program : Program) (status : Status) (s : State)
    (a b : Outside S K) (x y : R) (watchers left : List W) (whole : ExecutesWhole view streams program (Over status) a b x y watchers left)
    → AllowsAtMost most_allowed program
    → ServesAlong returning view s whole.with.means.trace (devices x Begun watchers) (devices y whole.session left) whole.with.works
    → EachCanReplace view s.geometry whole.with.means.trace (devices x Begun watchers) (devices y whole.session left) whole.with.works
    → IsServed (without_seats s) whole.with.means.trace
planned_served {R} {W} view streams returning program status s a b x y watchers left whole allowed serves can =
    let first : Devices R W = devices x Begun watchers in
    let last : Devices R W = devices y whole.session left in
    let trace = whole.with.means.trace in
    served returning view serves.honest (view.rack.history x) (without_seats s) trace first last whole.with.works
    (ready_first returning view serves.honest s trace first last whole.with.works refl serves.history serves.stands serves.calm
    (all_lead returning view (all_performed returning) trace first last whole.with.works)
    (planned_draws view streams returning program (Over status) s a b x y watchers left whole allowed serves) can)

-- ---- what is served after an item

-- the trace is served from a state of this geometry
record IsServedFor (g : Geometry) (trace : List TraceItem) : Type 0 where
  pub state : State
  pub geometry : state.geometry ≡ g
  pub served : IsServed state trace

-- no array is made
abbrev pub MakesNone : TraceItem → Type 0
MakesNone (Did (Create g) outcome) = ⊥
MakesNone _ = ⊤

-- after an item so is the rest
served_on : (g : Geometry) (item : TraceItem) (trace : List TraceItem) → MakesNone item → IsServedFor g (item ∷ trace) → IsServedFor g trace
served_on g (Did (Create array) outcome) trace none from = absurd none
served_on g (Did Survey (Ok member)) trace none from = record { state = from.state; geometry = from.geometry; served = from.served.1 }
served_on g (Did Survey (Err fault)) trace none from = absurd from.served
served_on g (Stepped step answer events left) trace none from =
    record { state = from.served.0; geometry = from.served.1.row.geometry ∙ from.geometry; served = from.served.2 }
served_on g item trace none from = record { state = from.state; geometry = from.geometry; served = from.served }

-- an opening is done, and tells the geometry
opened_for : (g : Geometry) (answer : Answer Recover) (events : List Event) (left : Bool) (trace : List TraceItem)
    → IsServedFor g (Stepped Recover answer events left ∷ trace) → answer ≡ Ok g
opened_for g answer events left trace from =
    let step = from.served.1 in
    let given = given_by answer (step.done (its_tests Recover from.state step.begun tt)) in
    let holds : HoldsAfter Recover (Ok given.0) from.state from.served.0 =
    subst (λ (a : Answer Recover). HoldsAfter Recover a from.state from.served.0) given.1 step.row.holds in
    given.1 ∙ ap (λ (f : Geometry). let told : Answer Recover = Ok f in told) (holds.0 ∙ from.geometry)

-- ---- the steps of a program

module _ (g : Geometry) (IsSo : Step → Type 0) where
  -- an array that is looked for is found
  did_for : (action : Action) (k : OkOf action → Program) (outcome : Outcome action) (trace : List TraceItem) → IsServedFor g (Did action outcome ∷ trace)
      → EachStepFor g IsSo (Do action k) → MakesNone (Did action outcome) × EachStepFor g IsSo (after action k outcome)
  did_for (Create array) k outcome trace from each = absurd each
  did_for Survey k (Ok member) trace from each = (tt, each member (from.served.0 ∙ from.geometry))
  did_for Survey k (Err fault) trace from each = absurd from.served

  -- an opening answers the geometry
  tried_for : (step : Step) (k : Answer step → Bool → Program) (answer : Answer step) (events : List Event) (left : Bool) (trace : List TraceItem)
      → IsServedFor g (Stepped step answer events left ∷ trace) → EachStepFor g IsSo (Try step k) → IsSo step × EachStepFor g IsSo (k answer left)
  tried_for Recover k answer events left trace from each = (
    each.0,
    subst (λ (a : Answer Recover). EachStepFor g IsSo (k a left)) (sym (opened_for g answer events left trace from)) (each.1 left),
  )
  tried_for step k answer events left trace from each = (each.0, each.1 answer left)

  -- a rebuild goes on, or is over
  rebuilt_for : (slots done : ℕ) (k : ℕ → Program) (answer : Result Progress Refusal) → EachStepFor g IsSo (RebuildAll slots done k)
      → EachStepFor g IsSo (after_rebuild slots done k answer)
  rebuilt_for slots done k (Ok Nothing) each = each.1 done
  rebuilt_for slots done k (Ok (Chunk j t)) each = each
  rebuilt_for slots done k (Ok (Promoted j)) each = each
  rebuilt_for slots done k (Ok (Dropped j)) each = each
  rebuilt_for slots done k (Err refusal) each = tt

  -- what is so of an item, and after it
  abbrev GoesFor : TraceItem → Program → Type 0
  GoesFor item rest = MakesNone item × OfItem IsSo item × EachStepFor g IsSo rest

  -- one move of the program
  goes_for : (item : TraceItem) (program rest : Program) (trace : List TraceItem) → IsServedFor g (item ∷ trace) → EachStepFor g IsSo program → StepsProgram item program rest
      → GoesFor item rest
  goes_for (Found asked) (Ask question k) rest trace from each moves = (tt, tt, subst (EachStepFor g IsSo) (sym moves.3) (each moves.0 moves.2))
  goes_for (Took bytes) (Take least most k short) rest trace from each moves = (tt, tt, subst (EachStepFor g IsSo) (sym moves.1) (each.0 bytes))
  goes_for (TookLast bytes) (Take least most k short) rest trace from each moves = (tt, tt, subst (EachStepFor g IsSo) (sym moves.1) (each.1 bytes))
  goes_for (TakeFailed bytes) (Take least most k short) rest trace from each moves = (tt, tt, subst (EachStepFor g IsSo) (sym moves.1) tt)
  goes_for (HasPut bytes) (Put all program) rest trace from each moves = (tt, tt, subst (EachStepFor g IsSo) (sym moves.1) each)
  goes_for (PutFailed part) (Put all program) rest trace from each moves = (tt, tt, subst (EachStepFor g IsSo) (sym moves.1) tt)
  goes_for Grew (Allocate program) rest trace from each moves = (tt, tt, subst (EachStepFor g IsSo) (sym moves) each)
  goes_for RanOut (Allocate program) rest trace from each moves = (tt, tt, subst (EachStepFor g IsSo) (sym moves) tt)
  goes_for (Did did came) (Do action k) rest trace from each moves =
      let one = did_for action k moves.0 trace (subst (λ (item : TraceItem). IsServedFor g (item ∷ trace)) moves.1 from) each in
      (subst MakesNone (sym moves.1) one.0, tt, subst (EachStepFor g IsSo) (sym moves.2) one.1)
  goes_for (Stepped did came events left) (Try step k) rest trace from each moves =
      let one = tried_for step k moves.0 events left trace (subst (λ (item : TraceItem). IsServedFor g (item ∷ trace)) moves.1 from) each in
      (tt, subst (OfItem IsSo) (sym moves.1) one.0, subst (EachStepFor g IsSo) (sym moves.2) one.1)
  goes_for (Stepped did came events left) (RebuildAll slots done k) rest trace from each moves =
      (tt, subst (OfItem IsSo) (sym moves.1) each.0, subst (EachStepFor g IsSo) (sym moves.2) (rebuilt_for slots done k moves.0 each))
  goes_for _ _ rest trace from each moves = absurd moves

  -- along the trace
  steps_served : (trace : List TraceItem) (program rest : Program) → IsServedFor g trace → EachStepFor g IsSo program → AlongTrace StepsProgram trace program rest
      → AllSteps IsSo trace × All MakesNone trace
  steps_served [] program rest from each follows = (tt, All-nil MakesNone)
  steps_served (item ∷ trace) program rest from each follows =
      let one = goes_for item program follows.0 trace from each follows.1 in
      let later = steps_served trace follows.0 rest (served_on g item trace one.0 from) one.2 follows.2 in
      ((one.1, later.0), All-cons MakesNone item trace one.0 later.1)

  -- What is so of each step of a program, for an array of this geometry, is so of each step of a trace that follows it and is served; and none
  -- is made in it.
  pub steps_for : (trace : List TraceItem) (program rest : Program) (s : State) → s.geometry ≡ g → IsServed s trace → EachStepFor g IsSo program
      → AlongTrace StepsProgram trace program rest → AllSteps IsSo trace × All MakesNone trace
  steps_for trace program rest s geometry served each follows =
      steps_served trace program rest (record { state = s; geometry = geometry; served = served }) each follows

-- ---- how a program ends

module _ {S K : Type 0} (streams : Views S K) (g : Geometry) where
  -- an array that is looked for is found
  did_done : (action : Action) (k : OkOf action → Program) (outcome : Outcome action) (trace : List TraceItem) (left : Option (List ℕ))
      → IsServedFor g (Did action outcome ∷ trace) → EndsDone g (Do action k) left → MakesNone (Did action outcome) × EndsDone g (after action k outcome) left
  did_done (Create array) k outcome trace left from ends = absurd ends
  did_done Survey k (Ok member) trace left from ends = (tt, ends member (from.served.0 ∙ from.geometry))
  did_done Survey k (Err fault) trace left from ends = absurd from.served

  -- an opening answers the geometry
  tried_done : (step : Step) (k : Answer step → Bool → Program) (answer : Answer step) (events : List Event) (gone : Bool) (trace : List TraceItem)
      (left : Option (List ℕ)) → IsServedFor g (Stepped step answer events gone ∷ trace) → EndsDone g (Try step k) left → EndsDone g (k answer gone) left
  tried_done Recover k answer events gone trace left from ends =
      subst (λ (a : Answer Recover). EndsDone g (k a gone) left) (sym (opened_for g answer events gone trace from)) (ends gone)
  tried_done step k answer events gone trace left from ends = ends answer gone

  -- after an item the rest of the program ends so, or memory was short
  abbrev EndsOn : Program → S → Type 0
  EndsOn rest b = EndsDone g rest (streams.source.left b) ⊎ (rest ≡ Over OutOfMemory)

  -- the source and the program that is left are the same
  ends_on : (rest next : Program) (a b : S) → rest ≡ next → b ≡ a → EndsDone g next (streams.source.left a) → EndsOn rest b
  ends_on rest next a b same kept ends =
      inl (subst (λ (program : Program). EndsDone g program (streams.source.left b)) (sym same)
      (subst (λ (source : S). EndsDone g next (streams.source.left source)) (sym kept) ends))

  -- one move of the program
  one_ends : (item : TraceItem) (program rest : Program) (trace : List TraceItem) (a b : S) (k l : K) → IsServedFor g (item ∷ trace) → StepsProgram item program rest
      → Gives streams.source item a b → Holds streams.sink item k l → ¬ Rose (streams.source.faults a) (streams.source.faults b)
      → ¬ Rose (streams.sink.faults k) (streams.sink.faults l) → EndsDone g program (streams.source.left a) → MakesNone item × EndsOn rest b
  one_ends (Found asked) (Ask question next) rest trace a b k l from moves gives holds sound whole ends =
      (tt, ends_on rest (next moves.0) a b moves.3 gives (ends moves.0 moves.2))
  one_ends (Took bytes) (Take least most next short) rest trace a b k l from moves gives holds sound whole ends = (
    tt,
    ends_on rest (next bytes) b b moves.1 refl
        (took_told (λ piece left. EndsDone g (next piece) left) (λ piece left. EndsDone g (short piece) left) least most bytes (streams.source.left a)
        (streams.source.left b) moves.0 gives.0 ends),
  )
  one_ends (TookLast bytes) (Take least most next short) rest trace a b k l from moves gives holds sound whole ends = (
    tt,
    ends_on rest (short bytes) b b moves.1 refl
        (took_last_told (λ piece left. EndsDone g (next piece) left) (λ piece left. EndsDone g (short piece) left) least most bytes (streams.source.left a)
        (streams.source.left b) moves.0 gives.0 gives.1 ends),
  )
  one_ends (TakeFailed bytes) (Take least most next short) rest trace a b k l from moves gives holds sound whole ends = absurd (sound gives.4)
  one_ends (HasPut bytes) (Put all program) rest trace a b k l from moves gives holds sound whole ends = (tt, ends_on rest program a b moves.1 gives ends)
  one_ends (PutFailed part) (Put all program) rest trace a b k l from moves gives holds sound whole ends = absurd (whole holds.2)
  one_ends Grew (Allocate program) rest trace a b k l from moves gives holds sound whole ends = (tt, ends_on rest program a b moves gives ends)
  one_ends RanOut (Allocate program) rest trace a b k l from moves gives holds sound whole ends = (tt, inr moves)
  one_ends (Did did came) (Do action next) rest trace a b k l from moves gives holds sound whole ends =
      let one =
      did_done action next moves.0 trace (streams.source.left a) (subst (λ (item : TraceItem). IsServedFor g (item ∷ trace)) moves.1 from) ends in
      (subst MakesNone (sym moves.1) one.0, ends_on rest (after action next moves.0) a b moves.2 gives one.1)
  one_ends (Stepped did came events gone) (Try step next) rest trace a b k l from moves gives holds sound whole ends = (
    tt,
    ends_on rest (next moves.0 gone) a b moves.2 gives
        (tried_done step next moves.0 events gone trace (streams.source.left a) (subst (λ (item : TraceItem). IsServedFor g (item ∷ trace)) moves.1 from) ends),
  )
  one_ends (Stepped did came events gone) (RebuildAll slots done next) rest trace a b k l from moves gives holds sound whole ends = absurd ends
  one_ends _ _ rest trace a b k l from moves gives holds sound whole ends = absurd moves

  -- along the trace
  ends_served : (trace : List TraceItem) (program : Program) (status : Status) (a b : S) (k l : K) → IsServedFor g trace → AlongTrace StepsProgram trace program (Over status)
      → AlongTrace (Gives streams.source) trace a b → AlongTrace (Holds streams.sink) trace k l → ¬ Rose (streams.source.faults a) (streams.source.faults b)
      → ¬ Rose (streams.sink.faults k) (streams.sink.faults l) → EndsDone g program (streams.source.left a) → IsDone status
  ends_served [] program status a b k l from follows gives holds sound whole ends =
      let over : EndsDone g (Over status) (streams.source.left a) = subst (λ (p : Program). EndsDone g p (streams.source.left a)) (sym follows) ends in
      inl over
  ends_served (item ∷ trace) program status a b k l from follows gives holds sound whole ends =
      let given = source_unfailed streams.source item trace a b gives sound in
      let held = sink_unfailed streams.sink item trace k l holds whole in
      let one = one_ends item program follows.0 trace a gives.0 k holds.0 from follows.1 gives.1 holds.1 given.0 held.0 ends in
      elim one.1 as (λ _. IsDone status) [
        | inl on ↦
            ends_served trace follows.0 status gives.0 b holds.0 l (served_on g item trace one.0 from) follows.2 gives.2 holds.2 given.1 held.1 on
        | inr short ↦ inr (ends_so trace OutOfMemory status (subst (λ (p : Program). AlongTrace StepsProgram trace p (Over status)) short follows.2))
      ]

-- a program that ends with Done, whatever an open array of this geometry answers, ends so in a call that is served, or for lack of memory
pub ends_anyhow : {R W S K : Type 0} (view : DeviceView R W) (streams : Views S K) (program : Program) (status : Status) (s : State) (a b : Outside S K)
    (x y : R) (watchers left : List W) (whole : ExecutesWhole view streams program (Over status) a b x y watchers left)
    → IsServed (without_seats s) whole.with.means.trace → HasNoFault streams a b → EndsDone s.geometry program (streams.source.left a.source) → IsDone status
ends_anyhow view streams program status s a b x y watchers left whole served none ends =
    ends_served streams s.geometry whole.with.means.trace program status a.source b.source a.sink b.sink
    (record { state = without_seats s; geometry = refl; served = served }) whole.with.means.follows whole.with.means.bears.gives
    whole.with.means.bears.holds none.source none.sink ends

-- ---- how a program ends by the states of an array that serves

module _ {S K : Type 0} (streams : Views S K) (IsEnd : Status → Type 0) where
  -- after an item the trace is served from a state in which the rest of the program ends so; or memory was short
  abbrev ServedOn : Program → List TraceItem → Type 0
  ServedOn rest trace = ((s : State) × IsServed s trace × EndsServed IsEnd rest s) ⊎ (rest ≡ Over OutOfMemory)

  on_as : (rest next : Program) (trace : List TraceItem) (s : State) → rest ≡ next → IsServed s trace → EndsServed IsEnd next s → ServedOn rest trace
  on_as rest next trace s same served ends = inl (s, served, subst (λ (program : Program). EndsServed IsEnd program s) (sym same) ends)

  did_on : (action : Action) (k : OkOf action → Program) (outcome : Outcome action) (rest : Program) (trace : List TraceItem) (s : State) → rest ≡ after action k outcome
      → IsServed s (Did action outcome ∷ trace) → EndsServed IsEnd (Do action k) s → ServedOn rest trace
  did_on (Create array) k outcome rest trace s same served ends = absurd ends
  did_on Survey k (Ok member) rest trace s same served ends = on_as rest (k member) trace s same served.1 (ends member served.0)
  did_on Survey k (Err fault) rest trace s same served ends = absurd served

  -- one move of the program
  one_on : (item : TraceItem) (program rest : Program) (trace : List TraceItem) (s : State) (a b : S) (k l : K) → IsServed s (item ∷ trace) → StepsProgram item program rest
      → Gives streams.source item a b → Holds streams.sink item k l → ¬ Rose (streams.source.faults a) (streams.source.faults b)
      → ¬ Rose (streams.sink.faults k) (streams.sink.faults l) → EndsServed IsEnd program s → ServedOn rest trace
  one_on (Found asked) (Ask question next) rest trace s a b k l served moves gives holds sound whole ends =
      on_as rest (next moves.0) trace s moves.3 served (ends moves.0 moves.2)
  one_on (Took bytes) (Take least most next short) rest trace s a b k l served moves gives holds sound whole ends =
      on_as rest (next bytes) trace s moves.1 served (ends.0 bytes moves.0)
  one_on (TookLast bytes) (Take least most next short) rest trace s a b k l served moves gives holds sound whole ends =
      on_as rest (short bytes) trace s moves.1 served (ends.1 bytes moves.0)
  one_on (TakeFailed bytes) (Take least most next short) rest trace s a b k l served moves gives holds sound whole ends = absurd (sound gives.4)
  one_on (HasPut bytes) (Put all program) rest trace s a b k l served moves gives holds sound whole ends = on_as rest program trace s moves.1 served ends
  one_on (PutFailed part) (Put all program) rest trace s a b k l served moves gives holds sound whole ends = absurd (whole holds.2)
  one_on Grew (Allocate program) rest trace s a b k l served moves gives holds sound whole ends = on_as rest program trace s moves served ends
  one_on RanOut (Allocate program) rest trace s a b k l served moves gives holds sound whole ends = inr moves
  one_on (Did did came) (Do action next) rest trace s a b k l served moves gives holds sound whole ends =
      did_on action next moves.0 rest trace s moves.2 (subst (λ (item : TraceItem). IsServed s (item ∷ trace)) moves.1 served) ends
  one_on (Stepped did came events gone) (Try step next) rest trace s a b k l served moves gives holds sound whole ends =
      let step_is = subst (λ (item : TraceItem). IsServed s (item ∷ trace)) moves.1 served in
      on_as rest (next moves.0 gone) trace step_is.0 moves.2 step_is.2 (ends moves.0 gone step_is.0 step_is.1)
  one_on (Stepped did came events gone) (RebuildAll slots done next) rest trace s a b k l served moves gives holds sound whole ends = absurd ends
  one_on _ _ rest trace s a b k l served moves gives holds sound whole ends = absurd moves

  -- along the trace
  ends_along : (trace : List TraceItem) (program : Program) (status : Status) (s : State) (a b : S) (k l : K) → IsServed s trace → AlongTrace StepsProgram trace program (Over status)
      → AlongTrace (Gives streams.source) trace a b → AlongTrace (Holds streams.sink) trace k l → ¬ Rose (streams.source.faults a) (streams.source.faults b)
      → ¬ Rose (streams.sink.faults k) (streams.sink.faults l) → EndsServed IsEnd program s → IsEnd status ⊎ (status ≡ OutOfMemory)
  ends_along [] program status s a b k l served follows gives holds sound whole ends =
      let over : EndsServed IsEnd (Over status) s = subst (λ (p : Program). EndsServed IsEnd p s) (sym follows) ends in
      inl over
  ends_along (item ∷ trace) program status s a b k l served follows gives holds sound whole ends =
      let given = source_unfailed streams.source item trace a b gives sound in
      let held = sink_unfailed streams.sink item trace k l holds whole in
      elim (one_on item program follows.0 trace s a gives.0 k holds.0 served follows.1 gives.1 holds.1 given.0 held.0 ends) as
      (λ _. IsEnd status ⊎ (status ≡ OutOfMemory)) [
        | inl on ↦ ends_along trace follows.0 status on.0 gives.0 b holds.0 l on.1 follows.2 gives.2 holds.2 given.1 held.1 on.2
        | inr short ↦ inr (ends_so trace OutOfMemory status (subst (λ (p : Program). AlongTrace StepsProgram trace p (Over status)) short follows.2))
      ]

  -- so a call that is served ends so, or for lack of memory
  pub ends_as_served : {R W : Type 0} (view : DeviceView R W) (program : Program) (status : Status) (s : State) (a b : Outside S K) (x y : R) (watchers left : List W)
      (whole : ExecutesWhole view streams program (Over status) a b x y watchers left) → IsServed (without_seats s) whole.with.means.trace
      → HasNoFault streams a b → EndsServed IsEnd program (without_seats s) → IsEnd status ⊎ (status ≡ OutOfMemory)
  ends_as_served view program status s a b x y watchers left whole served none ends =
      ends_along whole.with.means.trace program status (without_seats s) a.source b.source a.sink b.sink served whole.with.means.follows
      whole.with.means.bears.gives whole.with.means.bears.holds none.source none.sink ends
