-- A program that is sure to end with Done ends so, where memory isn't short and neither source nor sink fails: one induction on the
-- trace, whatever bears it out, and what follows over a rack alone.
use Rattle.std.proofs.Common.{◌≡◌, ◌∙◌, ℕ, ◌≤◌, List, [], ◌∷◌, Option, None, Some, Ok, inl, inr, refl, sym, ap, subst}
use Rattle.std.specs.Prelude.{Bool, IsTrue}
use Rattle.stair_rack.specs.Answers.{Ran, any_call}
use Rattle.stair_rack.specs.Count.{Rose, Rose-kept, kept-Rose}
use Rattle.stair_rack.specs.History.{Happening}
use Rattle.stair_rack.specs.Moments.{IsMoment}
use Rattle.stair_rack.specs.declared.watcher.Event.{Event}
use Rattle.stair_rack.proofs.MomentLemmas.{moment_between, moment_last, ran_any, ran_join, ran_none}
use Rattle.stair_member.specs.Membership.{Membership}
use Rattle.stair_member.proofs.AskedLemmas.{asked_ran}
use Rattle.stair_state.specs.State.{State, without_seats}
use Rattle.stair_state.proofs.OutsideLemmas.{unwritten_ran}
use Rattle.stair_invariant.specs.Returning.{Returning, StandsFor}
use Rattle.stair_array.specs.Machine.{Answer, Chunk, Dropped, GivenBy, Nothing, PassesTests, Progress, Promoted, RebuildNext, Step}
use Rattle.stair_member.specs.Seats.{Seats}
use Rattle.stair_status.specs.declared.status.Status.{Status}
use Rattle.stair_status.specs.declared.status.Status.TheVariants.{Done, OutOfMemory}
use Rattle.stair_command.specs.Action.{Action, Create, OkOf, Outcome, Survey}
use Rattle.stair_command.specs.Executes.{Gives, Holds}
use Rattle.stair_command.specs.Outside.{Outside, SinkView, SourceView, Views}
use Rattle.stair_command.specs.Program.{Program, Over, Ask, Take, Put, Allocate, Do, Try, RebuildAll, after_rebuild}
use Rattle.stair_command.specs.Rack.{ExecutesOver, RackView, Works, told_of}
use Rattle.stair_command.specs.Trace.{TraceItem, Found, Took, TookLast, TakeFailed, HasPut, PutFailed, Grew, RanOut, Did, Stepped, AlongTrace, StepsProgram, after}
use Rattle.stair_command.specs.Sure.{HasNoFault, StaysWithinToleranceBetween, IsDone, IsDoneFrom, IsFreeFor, Completes, Last, More, counted_behind}
use Rattle.stair_command.proofs.EndingLaws.{sink_on, source_on}
use Rattle.stair_command.proofs.EndingLaws.{ends_so}
use Rattle.stair_command.proofs.PlannedLaws.{took_last_told, took_told}
use Rattle.stair_command.proofs.RackLaws.{IsOffDevices, works_still}
use Rattle.stair_command.proofs.FoundLaws.{calm_first, calm_rest, looked_stands, survey_found}
use Rattle.stair_command.proofs.RunLaws.{forgets}

-- ---- a trace, whatever bears it out

-- An array that is looked for was found.
pub record IsFoundOn {X : Type 0} (One : TraceItem → X → X → Type 0) (IsReady : List ℕ → State → (trace : List TraceItem) → (x y : X) → AlongTrace One trace x y → Type 0)
    (counted : List ℕ) (s : State) (came : Outcome Survey) (trace : List TraceItem) (x y : X) (works : AlongTrace One (Did Survey came ∷ trace) x y) : Type 0 where
  pub member : Membership
  pub found : came ≡ Ok member
  pub geometry : member.array.geometry ≡ s.geometry
  pub ready : IsReady counted s trace works.0 y works.2

-- A step was done.
pub record IsSteppedOn {X : Type 0} (One : TraceItem → X → X → Type 0) (IsReady : List ℕ → State → (trace : List TraceItem) → (x y : X) → AlongTrace One trace x y → Type 0)
    (counted : List ℕ) (s : State) (step : Step) (answer : Answer step) (events : List Event) (left : Bool) (trace : List TraceItem) (x y : X)
    (works : AlongTrace One (Stepped step answer events left ∷ trace) x y) : Type 0 where
  pub given : GivenBy step
  pub is : answer ≡ Ok given
  pub later : State
  pub done : IsDoneFrom counted step given s later
  pub ready : IsReady (counted_behind step counted) later trace works.0 y works.2

-- What holds as a trace begins goes on after each of its items, and what can be done there is done.
pub record CarriesOn {X : Type 0} (One : TraceItem → X → X → Type 0) (IsReady : List ℕ → State → (trace : List TraceItem) → (x y : X) → AlongTrace One trace x y → Type 0)
    : Type 0 where
  pub still : (counted : List ℕ) (s : State) (item : TraceItem) (trace : List TraceItem) (x y : X) (works : AlongTrace One (item ∷ trace) x y) → IsOffDevices item
      → IsReady counted s (item ∷ trace) x y works → IsReady counted s trace works.0 y works.2
  pub found : (counted : List ℕ) (s : State) (came : Outcome Survey) (trace : List TraceItem) (x y : X) (works : AlongTrace One (Did Survey came ∷ trace) x y)
      → IsReady counted s (Did Survey came ∷ trace) x y works → IsFoundOn One IsReady counted s came trace x y works
  pub stepped : (counted : List ℕ) (s : State) (step : Step) (answer : Answer step) (events : List Event) (left : Bool) (trace : List TraceItem) (x y : X)
      (works : AlongTrace One (Stepped step answer events left ∷ trace) x y)
      → ((seats : Seats) → s.seats ≡ Some seats → IsFreeFor step seats → PassesTests step s seats)
      → IsReady counted s (Stepped step answer events left ∷ trace) x y works
      → IsSteppedOn One IsReady counted s step answer events left trace x y works

-- where no fault of a source came over a trace, none came at its first item, and none after it
pub source_unfailed : {S : Type 0} (view : SourceView S) (item : TraceItem) (trace : List TraceItem) (a b : S) (gives : AlongTrace (Gives view) (item ∷ trace) a b)
    → ¬ Rose (view.faults a) (view.faults b) → (¬ Rose (view.faults a) (view.faults gives.0)) × (¬ Rose (view.faults gives.0) (view.faults b))
source_unfailed view item trace a b gives sound = (λ rose. sound (Rose-kept _ _ _ rose later), λ rose. sound (kept-Rose _ _ _ first later rose))
  where
    first : view.faults a ≤ view.faults gives.0
    first = source_on view (item ∷ []) a gives.0 (gives.0, gives.1, refl)

    later : view.faults gives.0 ≤ view.faults b
    later = source_on view trace gives.0 b gives.2

-- and so it is of a sink
pub sink_unfailed : {K : Type 0} (view : SinkView K) (item : TraceItem) (trace : List TraceItem) (k l : K) (holds : AlongTrace (Holds view) (item ∷ trace) k l)
    → ¬ Rose (view.faults k) (view.faults l) → (¬ Rose (view.faults k) (view.faults holds.0)) × (¬ Rose (view.faults holds.0) (view.faults l))
sink_unfailed view item trace k l holds whole = (λ rose. whole (Rose-kept _ _ _ rose later), λ rose. whole (kept-Rose _ _ _ first later rose))
  where
    first : view.faults k ≤ view.faults holds.0
    first = sink_on view (item ∷ []) k holds.0 (holds.0, holds.1, refl)

    later : view.faults holds.0 ≤ view.faults l
    later = sink_on view trace holds.0 l holds.2

module _ {X S K : Type 0} (One : TraceItem → X → X → Type 0)
    (IsReady : List ℕ → State → (trace : List TraceItem) → (x y : X) → AlongTrace One trace x y → Type 0) (carries : CarriesOn One IsReady) (streams : Views S K) where
  -- after an item the rest of the program is sure, or memory was short
  data GoesSure (rest : Program) (trace : List TraceItem) (x y : X) (works : AlongTrace One trace x y) (left : Option (List ℕ)) : Type 0 where
    StaysSure : (counted : List ℕ) (later : State) → IsReady counted later trace x y works → Completes counted rest later left → GoesSure rest trace x y works left
    Short : rest ≡ Over OutOfMemory → GoesSure rest trace x y works left

  -- the source and the program that is left are the same
  same_sure : (counted : List ℕ) (s : State) (rest next : Program) (a b : S) → rest ≡ next → b ≡ a → Completes counted next s (streams.source.left a)
      → Completes counted rest s (streams.source.left b)
  same_sure counted s rest next a b same kept sure =
      subst (λ (program : Program). Completes counted program s (streams.source.left b)) (sym same)
      (subst (λ (source : S). Completes counted next s (streams.source.left source)) (sym kept) sure)

  -- an array was looked for
  did_sure : (counted : List ℕ) (s : State) (action : Action) (outcome : Outcome action) (k : OkOf action → Program) (rest : Program) (trace : List TraceItem) (x y : X) (a b : S)
      → rest ≡ after action k outcome → b ≡ a → Completes counted (Do action k) s (streams.source.left a)
      → (works : AlongTrace One (Did action outcome ∷ trace) x y) → IsReady counted s (Did action outcome ∷ trace) x y works
      → GoesSure rest trace works.0 y works.2 (streams.source.left b)
  did_sure counted s (Create g) outcome k rest trace x y a b goes kept sure works ready = absurd sure
  did_sure counted s Survey came k rest trace x y a b goes kept sure works ready =
      let finds = carries.found counted s came trace x y works ready in
      StaysSure counted s finds.ready
      (same_sure counted s rest (k finds.member) a b (goes ∙ ap (after Survey k) finds.found) kept (sure finds.member finds.geometry))

  -- what is left of a rebuild is sure
  rebuild_sure : (counted : List ℕ) (slots done : ℕ) (k : ℕ → Program) (progress : Progress) (s later : State) (left : Option (List ℕ))
      → Completes counted (RebuildAll slots done k) s left → IsDoneFrom counted RebuildNext progress s later
      → Completes counted (after_rebuild slots done k (Ok progress)) later left
  rebuild_sure counted slots done k Nothing s later left sure did = sure done later (Last s did)
  rebuild_sure counted slots done k (Chunk j t) s later left sure did = λ count end rebuilt. sure count end (More s later (Chunk j t) did rebuilt)
  rebuild_sure counted slots done k (Promoted j) s later left sure did = λ count end rebuilt. sure count end (More s later (Promoted j) did rebuilt)
  rebuild_sure counted slots done k (Dropped j) s later left sure did = λ count end rebuilt. sure count end (More s later (Dropped j) did rebuilt)

  -- a step was taken, which passes its tests, and after which the rest is sure
  stepped_sure : (counted : List ℕ) (s : State) (step : Step) (answer : Answer step) (events : List Event) (left : Bool) (goes_on : Answer step → Program) (rest : Program)
      (trace : List TraceItem) (x y : X) (a b : S) → rest ≡ goes_on answer → b ≡ a → ((seats : Seats) → s.seats ≡ Some seats → IsFreeFor step seats → PassesTests step s seats)
      → ((given : GivenBy step) (later : State) → IsDoneFrom counted step given s later → Completes (counted_behind step counted) (goes_on (Ok given)) later (streams.source.left a))
      → (works : AlongTrace One (Stepped step answer events left ∷ trace) x y) → IsReady counted s (Stepped step answer events left ∷ trace) x y works
      → GoesSure rest trace works.0 y works.2 (streams.source.left b)
  stepped_sure counted s step answer events left goes_on rest trace x y a b goes kept passes sure works ready =
      let stepped = carries.stepped counted s step answer events left trace x y works passes ready in
      StaysSure (counted_behind step counted) stepped.later stepped.ready
      (same_sure (counted_behind step counted) stepped.later rest (goes_on (Ok stepped.given)) a b (goes ∙ ap goes_on stepped.is) kept (sure stepped.given stepped.later stepped.done))

  one_sure : (counted : List ℕ) (s : State) (item : TraceItem) (program rest : Program) (trace : List TraceItem) (x y : X) (works : AlongTrace One (item ∷ trace) x y) (a b : S) (k l : K)
      → StepsProgram item program rest → Gives streams.source item a b → Holds streams.sink item k l
      → ¬ Rose (streams.source.faults a) (streams.source.faults b) → ¬ Rose (streams.sink.faults k) (streams.sink.faults l)
      → IsReady counted s (item ∷ trace) x y works → Completes counted program s (streams.source.left a)
      → GoesSure rest trace works.0 y works.2 (streams.source.left b)
  one_sure counted s (Found asked) (Ask question next) rest trace x y works a b k l moves gives holds sound whole ready sure =
      StaysSure counted s (carries.still counted s (Found asked) trace x y works tt ready)
      (same_sure counted s rest (next moves.0) a b moves.3 gives (sure moves.0 moves.2))
  one_sure counted s (Took bytes) (Take least most next short) rest trace x y works a b k l moves gives holds sound whole ready sure =
      StaysSure counted s (carries.still counted s (Took bytes) trace x y works tt ready)
      (same_sure counted s rest (next bytes) b b moves.1 refl
      (took_told (λ piece left. Completes counted (next piece) s left) (λ piece left. Completes counted (short piece) s left) least most bytes
      (streams.source.left a) (streams.source.left b) moves.0 gives.0 sure))
  one_sure counted s (TookLast bytes) (Take least most next short) rest trace x y works a b k l moves gives holds sound whole ready sure =
      StaysSure counted s (carries.still counted s (TookLast bytes) trace x y works tt ready)
      (same_sure counted s rest (short bytes) b b moves.1 refl
      (took_last_told (λ piece left. Completes counted (next piece) s left) (λ piece left. Completes counted (short piece) s left) least most bytes
      (streams.source.left a) (streams.source.left b) moves.0 gives.0 gives.1 sure))
  one_sure counted s (TakeFailed bytes) (Take least most next short) rest trace x y works a b k l moves gives holds sound whole ready sure =
      absurd (sound gives.4)
  one_sure counted s (HasPut bytes) (Put all program) rest trace x y works a b k l moves gives holds sound whole ready sure =
      StaysSure counted s (carries.still counted s (HasPut bytes) trace x y works tt ready) (same_sure counted s rest program a b moves.1 gives sure)
  one_sure counted s (PutFailed part) (Put all program) rest trace x y works a b k l moves gives holds sound whole ready sure = absurd (whole holds.2)
  one_sure counted s Grew (Allocate program) rest trace x y works a b k l moves gives holds sound whole ready sure =
      StaysSure counted s (carries.still counted s Grew trace x y works tt ready) (same_sure counted s rest program a b moves gives sure)
  one_sure counted s RanOut (Allocate program) rest trace x y works a b k l moves gives holds sound whole ready sure = Short moves
  one_sure counted s (Did did came) (Do action next) rest trace x y works a b k l moves gives holds sound whole ready sure =
      subst
      (λ (item : TraceItem). (works : AlongTrace One (item ∷ trace) x y) → IsReady counted s (item ∷ trace) x y works → GoesSure rest trace works.0 y works.2 (streams.source.left b))
      (sym moves.1) (did_sure counted s action moves.0 next rest trace x y a b moves.2 gives sure) works ready
  one_sure counted s (Stepped did came events left) (Try step next) rest trace x y works a b k l moves gives holds sound whole ready sure =
      subst
      (λ (item : TraceItem). (works : AlongTrace One (item ∷ trace) x y) → IsReady counted s (item ∷ trace) x y works → GoesSure rest trace works.0 y works.2 (streams.source.left b))
      (sym moves.1)
      (stepped_sure counted s step moves.0 events left (λ answer. next answer left) rest trace x y a b moves.2 gives sure.0
      (λ given later done. sure.1 given left later done)) works ready
  one_sure counted s (Stepped did came events left) (RebuildAll slots done next) rest trace x y works a b k l moves gives holds sound whole ready sure =
      subst
      (λ (item : TraceItem). (works : AlongTrace One (item ∷ trace) x y) → IsReady counted s (item ∷ trace) x y works → GoesSure rest trace works.0 y works.2 (streams.source.left b))
      (sym moves.1)
      (stepped_sure counted s RebuildNext moves.0 events left (after_rebuild slots done next) rest trace x y a b moves.2 gives (λ seats is free. tt)
      (λ given later did. rebuild_sure counted slots done next given s later (streams.source.left a) sure did)) works ready
  one_sure counted s _ _ rest trace x y works a b k l moves gives holds sound whole ready sure = absurd moves

  -- a sure program ends with Done, or for lack of memory
  pub ends_done : (counted : List ℕ) (trace : List TraceItem) (program : Program) (status : Status) (s : State) (x y : X) (works : AlongTrace One trace x y) (a b : S) (k l : K)
      → AlongTrace StepsProgram trace program (Over status) → AlongTrace (Gives streams.source) trace a b → AlongTrace (Holds streams.sink) trace k l
      → ¬ Rose (streams.source.faults a) (streams.source.faults b) → ¬ Rose (streams.sink.faults k) (streams.sink.faults l)
      → IsReady counted s trace x y works → Completes counted program s (streams.source.left a) → IsDone status
  ends_done counted [] program status s x y works a b k l follows gives holds sound whole ready sure =
      let over : Completes counted (Over status) s (streams.source.left a) = subst (λ (p : Program). Completes counted p s (streams.source.left a)) (sym follows) sure in
      inl over
  ends_done counted (item ∷ trace) program status s x y works a b k l follows gives holds sound whole ready sure =
      let given = source_unfailed streams.source item trace a b gives sound in
      let held = sink_unfailed streams.sink item trace k l holds whole in
      elim (one_sure counted s item program follows.0 trace x y works a gives.0 k holds.0 follows.1 gives.1 holds.1 given.0 held.0 ready sure) as (λ _. IsDone status) [
        | StaysSure behind later on still ↦
            ends_done behind trace follows.0 status later works.0 y works.2 gives.0 b holds.0 l follows.2 gives.2 holds.2 given.1 held.1 on still
        | Short out ↦ inr (ends_so trace OutOfMemory status (subst (λ (p : Program). AlongTrace StepsProgram trace p (Over status)) out follows.2))
      ]

-- ---- over a rack alone

module _ {R : Type 0} (returning : Returning) (rack : RackView R) (honest : IsTrue rack.honest) (before : List Happening) where
  abbrev h_of : R → List Happening
  h_of x = rack.history x

  same_ran : {x y : R} → y ≡ x → Ran any_call (h_of x) (h_of y)
  same_ran {x} {y} same = subst (λ (z : R). Ran any_call (h_of x) (h_of z)) (sym same) (ran_none (h_of x))

  item_ran : (item : TraceItem) (x y : R) → Works rack item x y → Ran any_call (h_of x) (h_of y)
  item_ran (Did (Create g) came) x y works = ran_any (works.ran honest)
  item_ran (Did Survey came) x y works = ran_any (asked_ran 32 (h_of x) (h_of y) (works.asked honest))
  item_ran (Stepped step answer events left) x y works = absurd works
  item_ran item x y works = same_ran works

  all_ran : (trace : List TraceItem) (x y : R) → AlongTrace (Works rack) trace x y → Ran any_call (h_of x) (h_of y)
  all_ran [] x y works = same_ran works
  all_ran (item ∷ trace) x y works = ran_join (item_ran item x works.0 works.1) (all_ran trace works.0 y works.2)

  -- The rack is an array in a state whose seats aren't known, and is within tolerance from here to the end.
  pub record IsReadyOver (counted : List ℕ) (s : State) (trace : List TraceItem) (x y : R) (works : AlongTrace (Works rack) trace x y) : Type 0 where
    pub since : Ran any_call before (h_of x)
    pub stands : StandsFor returning s (h_of x)
    pub unknown : s.seats ≡ None
    pub calm : StaysWithinToleranceBetween returning s.geometry before (h_of x) (h_of y)

  over_still : (counted : List ℕ) (s : State) (item : TraceItem) (trace : List TraceItem) (x y : R) (works : AlongTrace (Works rack) (item ∷ trace) x y) → IsOffDevices item
      → IsReadyOver counted s (item ∷ trace) x y works → IsReadyOver counted s trace works.0 y works.2
  over_still counted s item trace x y works off ready =
      let same : works.0 ≡ x = works_still rack item x works.0 off works.1 in
      record {
        since = subst (λ (z : R). Ran any_call before (h_of z)) (sym same) ready.since;
        stands = subst (λ (z : R). StandsFor returning s (h_of z)) (sym same) ready.stands;
        unknown = ready.unknown;
        calm = subst (λ (z : R). StaysWithinToleranceBetween returning s.geometry before (h_of z) (h_of y)) (sym same) ready.calm;
      }

  over_found : (counted : List ℕ) (s : State) (came : Outcome Survey) (trace : List TraceItem) (x y : R) (works : AlongTrace (Works rack) (Did Survey came ∷ trace) x y)
      → IsReadyOver counted s (Did Survey came ∷ trace) x y works → IsFoundOn (Works rack) IsReadyOver counted s came trace x y works
  over_found counted s came trace x y works ready =
      let looked = asked_ran 32 (h_of x) (h_of works.0) (works.1.asked honest) in
      let ran : Ran any_call (h_of x) (h_of works.0) = ran_any looked in
      let later = all_ran trace works.0 y works.2 in
      let until : IsMoment (h_of x) (h_of works.0) (h_of y) = moment_between ran later in
      let since = ran_join ready.since ran in
      let calm = calm_first s.geometry before (h_of x) (h_of works.0) (h_of y) until returning ready.since ready.calm in
      let finds = survey_found returning s before (told_of rack x) (told_of rack works.0) came works.1 honest ready.since ready.stands calm in
      record {
        member = finds.member;
        found = finds.found;
        geometry = finds.geometry;
        ready = record {
          since = since;
          stands = subst (λ (t : State). StandsFor returning t (h_of works.0)) (λ i. record s { seats = sym ready.unknown i })
              (looked_stands returning s before (h_of x) (h_of works.0) ready.stands (unwritten_ran looked) (moment_last since.more since.is) calm);
          unknown = ready.unknown;
          calm = calm_rest s.geometry before (h_of x) (h_of works.0) (h_of y) until returning ready.calm;
        };
      }

  over_carries : CarriesOn (Works rack) IsReadyOver
  over_carries = record {
    still = over_still;
    found = over_found;
    stepped = λ counted s step answer events left trace x y works passes ready. absurd works.1;
  }

  -- a sure program is done
  pub stepless_done : {S K : Type 0} (streams : Views S K) (program : Program) (status : Status) (s : State) (a b : Outside S K) (x y : R)
      → ExecutesOver rack streams program (Over status) a b x y → Ran any_call before (h_of x) → StandsFor returning s (h_of x)
      → StaysWithinToleranceBetween returning s.geometry before (h_of x) (h_of y) → HasNoFault streams a b
      → Completes [] program (without_seats s) (streams.source.left a.source) → IsDone status
  stepless_done streams program status s a b x y over since stands calm none sure =
      ends_done (Works rack) IsReadyOver over_carries streams [] over.means.trace program status (without_seats s) x y over.works a.source b.source
      a.sink b.sink over.means.follows over.means.bears.gives over.means.bears.holds none.source none.sink
      (record {
        since = since;
        stands = forgets returning s (h_of x) stands;
        unknown = refl;
        calm = calm;
      }) sure

-- ---- programs

-- A command that looks for the array and puts out what it found is sure, in every state and of any source.
pub look_sure : (counted : List ℕ) (text : Membership → List ℕ) (s : State) (left : Option (List ℕ))
    → Completes counted (Do Survey (λ member. Put (text member) (Over Done))) s left
look_sure counted text s left = λ member same. refl
