-- Over a rack, a session and watchers a sure program ends with Done: a step that can be done is done and leads on, and what comes
-- after it is sure again.
use Rattle.std.proofs.Common.{◌≡◌, ◌≢◌, ◌∙◌, ℕ, ◌<◌, List, [], ◌∷◌, Option, None, Some, Result, Ok, Err, inl, inr, refl, sym, ap, subst, arith}
use Rattle.std.proofs.lemmas.Bool.{false≢true}
use Rattle.std.specs.Prelude.{Bool, IsErr, IsOk, IsSome, IsTrue, false}
use Rattle.stair_model.specs.Geometry.{Geometry}
use Rattle.stair_rack.specs.Answers.{IsHistory, Ran, any_call}
use Rattle.stair_rack.specs.History.{Happening}
use Rattle.stair_rack.specs.Moments.{IsMoment}
use Rattle.stair_rack.specs.Offline.{IsHeld, IsOffline}
use Rattle.stair_rack.specs.RackState.{RackState}
use Rattle.stair_rack.specs.declared.watcher.Event.{Event}
use Rattle.stair_rack.proofs.MomentLemmas.{at_every_from, moment_between, moment_first, moment_last, moment_sooner, ran_join, ran_none}
use Rattle.stair_rack.proofs.OfflineLemmas.{held_on}
use Rattle.stair_rack.proofs.TidyLemmas.{history_on}
use Rattle.stair_super.specs.Superblock.{mark_in}
use Rattle.stair_super.specs.declared.mark.Mark.TheVariants.{Down}
use Rattle.stair_member.specs.Membership.{Membership}
use Rattle.stair_member.specs.Seats.{Seats}
use Rattle.stair_member.specs.declared.fault.FenceFault.{FenceFault}
use Rattle.stair_state.specs.State.{State, without_seats}
use Rattle.stair_invariant.specs.Returning.{StaysWithinTolerance, Returning, StandsFor}
use Rattle.stair_invariant.specs.Effects.{snapshot}
use Rattle.stair_invariant.specs.Session.{ArrayState, seats_in}
use Rattle.stair_array.specs.Draws.{HasDraws}
use Rattle.stair_array.specs.Machine.{Answer, EpochsSpent, GivenBy, PassesTests, Recover, Refusal, ReplaceSlot, Row, Step, TooFew}
use Rattle.stair_array.specs.Promise.{AnswersStopped, Begun, BeginsWith, EndsIn, Ends, Found, GoesOn, IsFitFor, IsLed, IsOpenFor, Keeps, MayReplace, Opened, Performs, Seen, ServesState, Phase, StartsFrom, Stops, is_open}
use Rattle.stair_array.proofs.OpenStepLemmas.{IsOpened, opening_or_open}
use Rattle.stair_status.specs.declared.status.Status.{Status}
use Rattle.stair_command.specs.Action.{Outcome, Survey}
use Rattle.stair_command.specs.Devices.{DeviceView, Devices, ExecutesWith, WorksAll, seen_of}
use Rattle.stair_command.specs.Outside.{Outside, Views}
use Rattle.stair_command.specs.Program.{Program, Over}
use Rattle.stair_command.specs.Run.{StaysWithinToleranceUpTo, TraceLeads}
use Rattle.stair_command.specs.Trace.{TraceItem, Did, Stepped, AlongTrace}
use Rattle.stair_reinsert.proofs.LookedSoFar.{survey_unwritten}
use Rattle.stair_command.specs.Sure.{BeginsAs, CanReplaceAt, EachCanReplace, EachItem, EachHasDraws, HasNoFault, StaysWithinToleranceAlong, StaysWithinToleranceUnreadAt, IsCounted, IsDone, IsFitFrom, IsFreeFor, Completes, IsThere, KeepsCounted, LeavesDraws, MediumLeavesDraws, NoneGoesDown, counted_behind}
use Rattle.stair_command.proofs.FoundLaws.{calm_between, survey_found}
use Rattle.stair_command.proofs.RackLaws.{IsOffDevices}
use Rattle.stair_command.proofs.RunLaws.{IsAt, IsStoppedBy, forgets, one_goes, one_ran, refusal_kept, upto_end, works_ran}
use Rattle.stair_command.proofs.SureSlotLaws.{replaced_held, stays_up}
use Rattle.stair_command.proofs.SureLaws.{CarriesOn, IsFoundOn, IsSteppedOn, ends_done}

-- ---- answers

pub given_by : {T E : Type 0} (answer : Result T E) → IsOk answer → (given : T) × (answer ≡ Ok given)
given_by (Ok given) ok = (given, refl)
given_by (Err refusal) ok = absurd (false≢true ok)

-- ---- a session over a step

-- the draws are those that the step's array knows of
starts_drawn : (step : Step) (was : ArrayState) (session : Phase) → StartsFrom step was session → LeavesDraws session → HasDraws was.member
starts_drawn Recover was (Found m) starts draws = subst (λ (a : ArrayState). HasDraws a.member) (sym starts) draws
starts_drawn Recover was _ starts draws = absurd starts
starts_drawn _ was (Opened a) starts draws = subst (λ (b : ArrayState). HasDraws b.member) (sym starts.0) draws
starts_drawn _ was _ starts draws = absurd starts

-- after a step that was done the array is open, and isn't stopped
pub ends_open : (step : Step) (given : GivenBy step) (is : ArrayState) (session : Phase) → EndsIn step (Ok given) is session → IsOpened is session
ends_open step given is session (Ends opens err same) = absurd (false≢true err)
ends_open step given is session (GoesOn opens keeps same) = record { is_open = same; unstopped = keeps }

-- an answer that isn't for good is kept by no array
never_kept : {T : Type 0} (answer : Result T Refusal) (kept : Option FenceFault) → ¬ Stops answer → Keeps answer kept → kept ≡ None
never_kept (Err (TooFew whys)) kept going keeps = absurd (going tt)
never_kept (Err EpochsSpent) kept going keeps = absurd (going tt)
never_kept _ kept going keeps = keeps

-- so it is after any step but a refused opening, where the answer doesn't stop the array
pub goes_open : (step : Step) (answer : Answer step) (is : ArrayState) (session : Phase) → (step ≡ Recover → IsOk answer) → ¬ Stops answer
    → EndsIn step answer is session → IsOpened is session
goes_open step answer is session done going (Ends opens err same) = absurd (refused answer (done opens) err)
  where
    refused : {T E : Type 0} (answer : Result T E) → IsOk answer → IsErr answer → ⊥
    refused (Ok given) ok err = false≢true err
    refused (Err refusal) ok err = false≢true ok
goes_open step answer is session done going (GoesOn opens keeps same) =
    record { is_open = same; unstopped = never_kept answer is.stopped going keeps }

opened_kept : (is : ArrayState) (session : Phase) → IsOpened is session → IsStoppedBy session None
opened_kept is session opened =
    subst (λ (end : Phase). IsStoppedBy end None) (sym opened.is_open) (sym (ap refusal_kept opened.unstopped))

-- where there is none there isn't one
pub none_some : (fault : Option FenceFault) → fault ≡ None → IsSome fault → ⊥
none_some None none some = false≢true some
none_some (Some fault) none some = let same : Some fault ≡ None = none in cc

-- no opening starts from an open array
never_opening : (step : Step) (was : ArrayState) (session : Phase) → step ≡ Recover → StartsFrom step was session → session ≡ Opened was → ⊥
never_opening step was session opening starts is =
    subst (λ (end : Phase). StartsFrom Recover was end) is (subst (λ (begun : Step). StartsFrom begun was session) opening starts)

-- what is so of an open array that isn't stopped
pub open_for : (returning : Returning) (before : List Happening) (s : State) (array : ArrayState) (x : Seen) → x.session ≡ Opened array → array.stopped ≡ None
    → ServesState returning before s x.session x.told → IsOpenFor returning before s array x.told.history
open_for returning before s array x opened unstopped serves = at (subst (λ (session : Phase). ServesState returning before s session x.told) opened serves)
  where
    at : ServesState returning before s (Opened array) x.told → IsOpenFor returning before s array x.told.history
    at (inl serving) = serving
    at (inr stopped) = absurd (none_some array.stopped unstopped stopped)

-- so the seats that it knows are those of the state
opened_seats : (returning : Returning) (before : List Happening) (s : State) (is : ArrayState) (session : Phase) (told : RackState) → IsOpened is session
    → ServesState returning before s session told → s.seats ≡ Some (seats_in is.member.array)
opened_seats returning before s is session told opened serves =
    (open_for returning before s is (record { told = told; session = session }) opened.is_open opened.unstopped serves).seats

-- a slot that was to be replaced is one of the array
replaced_below : (step : Step) (s : State) (seats : Seats) → PassesTests step s seats → (j : ℕ) → step ≡ ReplaceSlot j → j < s.geometry.n
replaced_below step s seats passes j is = let passed : PassesTests (ReplaceSlot j) s seats = subst (λ (begun : Step). PassesTests begun s seats) is passes in passed.0

-- the seats with which it begins
begins_as : (returning : Returning) (step : Step) (m : Membership) (before h : List Happening) (s : State) (begun : Seats)
    → BeginsWith returning step m before h s begun → BeginsAs step s begun
begins_as returning Recover m before h s begun begins = tt
begins_as returning _ m before h s begun begins = begins

pub seats_once : {a b : Seats} → Some a ≡ Some b → a ≡ b
seats_once same = cc

-- seats that are known twice are the same
kept_twice : (slots : ℕ → Type 0) (begun ended was is : Seats) (known later : Option Seats) → known ≡ Some begun → known ≡ Some was → later ≡ Some ended
    → later ≡ Some is → NoneGoesDown slots was is → NoneGoesDown slots begun ended
kept_twice slots begun ended was is known later is_begun is_was is_ended is_is kept =
    subst (λ (old : Seats). NoneGoesDown slots old ended) (seats_once (sym is_was ∙ is_begun))
    (subst (λ (new : Seats). NoneGoesDown slots was new) (seats_once (sym is_is ∙ is_ended)) kept)

-- what the array's seats do the row's do
keeps_by : (returning : Returning) (counted : List ℕ) (step : Step) (answer : Answer step) (events : List Event) (given : GivenBy step) (before h : List Happening)
    (s later : State) (begun : Seats) (row : Row step (Ok given) begun s later) (x y : Seen) (does : Performs step answer events x y)
    → BeginsWith returning step does.was.member before h s begun → IsOpened does.is y.session → ServesState returning before s x.session x.told
    → ServesState returning before later y.session y.told
    → (IsOpened does.was x.session → NoneGoesDown (IsCounted counted) (seats_in does.was.member.array) (seats_in does.is.member.array))
    → KeepsCounted counted step begun row.seats
keeps_by returning counted Recover answer events given before h s later begun row x y does begins opened serves serves_later kept = tt
keeps_by returning counted step answer events given before h s later begun row x y does begins opened serves serves_later kept =
    elim (opening_or_open step does.was x.session does.starts) [
      | inl opening ↦ let same : step ≡ Recover = opening in absurd cc
      | inr began ↦
          kept_twice (IsCounted counted) begun row.seats (seats_in does.was.member.array) (seats_in does.is.member.array) s.seats later.seats begins
          (opened_seats returning before s does.was x.session x.told began serves) row.known
          (opened_seats returning before later does.is y.session y.told opened serves_later) (kept began)
    ]

-- the slot that is to be replaced is Down in the state's seats, where it is in the array's
free_for : (returning : Returning) (step : Step) (before : List Happening) (s : State) (was : ArrayState) (session : Phase) (told : RackState) (seats : Seats)
    → StartsFrom step was session → ServesState returning before s session told → s.seats ≡ Some seats
    → ((j : ℕ) → step ≡ ReplaceSlot j → IsOpened was session → mark_in was.member.array j ≡ Down) → IsFreeFor step seats
free_for returning (ReplaceSlot j) before s was session told seats starts serves known down =
    elim (opening_or_open (ReplaceSlot j) was session starts) [
      | inl opening ↦ let same : ReplaceSlot j ≡ Recover = opening in absurd cc
      | inr began ↦
          subst (λ (is : Seats). (is j).mark ≡ Down) (seats_once (sym (opened_seats returning before s was session told began serves) ∙ known)) (down j refl began)
    ]
free_for returning _ before s was session told seats starts serves known down = tt

-- the moments of a step
may_replace : (g : Geometry) (j : ℕ) (old new last : List Happening) → Ran any_call old new → Ran any_call new last → IsFitFrom g old last j
    → MediumLeavesDraws (ReplaceSlot j) g old new → MayReplace g j old new
may_replace g j old new last ran later fit draws = record {
  online = at_every_from {P = λ h. ¬ IsOffline old h j} ran.more ran.is (λ h at. fit.there.online h (moment_sooner at until));
  large = fit.there.large old (let all = ran_join ran later in moment_first all.more all.is);
  own = λ h k super at unwritten place holds.
      let own = fit.own h k super (moment_sooner at until) unwritten place holds in
      (own, draws h k super at unwritten place holds own);
}
  where
    until : IsMoment old new last
    until = moment_between ran later

-- the medium is fit over the step that is to admit it
fit_for : (step : Step) (g : Geometry) (old new last : List Happening) → Ran any_call old new → Ran any_call new last
    → ((j : ℕ) → step ≡ ReplaceSlot j → IsFitFrom g old last j) → MediumLeavesDraws step g old new → IsFitFor step g old new
fit_for (ReplaceSlot j) g old new last ran later fit draws = may_replace g j old new last ran later (fit j refl) draws
fit_for _ g old new last ran later fit draws = tt

-- ---- traces

module _ {R W : Type 0} (returning : Returning) (view : DeviceView R W) (honest : IsTrue view.rack.honest) (before : List Happening) where
  abbrev h_of : Devices R W → List Happening
  h_of x = view.rack.history x.rack

  -- A slot was replaced, and is there from then on to the end.
  pub record StaysUp (g : Geometry) (h last : List Happening) (j : ℕ) : Type 0 where
    pub below : j < g.n
    pub from : List Happening
    pub since : Ran any_call from h
    pub held : IsHeld from h j
    pub there : IsThere g from from last j

  stays_on : (g : Geometry) (h then last : List Happening) (j : ℕ) → Ran any_call h then → StaysUp g h last j → StaysUp g then last j
  stays_on g h then last j ran stays = record {
    below = stays.below;
    from = stays.from;
    since = ran_join stays.since ran;
    held = held_on {allowed = any_call} j ran stays.held;
    there = stays.there;
  }

  abbrev pub StayUp : List ℕ → Geometry → List Happening → List Happening → Type 0
  StayUp counted g h last = (j : ℕ) → IsCounted counted j → StaysUp g h last j

  -- The rack is an array in this state, which isn't stopped; the rest of the trace is calm, its steps lead on, nothing of the
  -- outside is in their way, and the slots that are counted on stay up.
  pub record IsReadyWith (counted : List ℕ) (s : State) (trace : List TraceItem) (x y : Devices R W) (works : AlongTrace (WorksAll view) trace x y) : Type 0 where
    pub history : IsHistory (h_of x)
    pub is_at : IsAt view returning before s None x
    pub calm : StaysWithinToleranceUpTo view returning s.geometry before (h_of y) trace x y works
    pub unread : EachItem view (StaysWithinToleranceUnreadAt view returning s.geometry before) trace x y works
    pub lead : TraceLeads returning view trace x y works
    pub draws : EachHasDraws view s.geometry trace x y works
    pub can : EachCanReplace view s.geometry trace x y works
    pub stay : StayUp counted s.geometry (h_of x) (h_of y)

  -- what comes after an item
  behind : (counted after : List ℕ) (s later : State) (item : TraceItem) (trace : List TraceItem) (x y : Devices R W)
      (works : AlongTrace (WorksAll view) (item ∷ trace) x y) → later.geometry ≡ s.geometry → IsAt view returning before later None works.0
      → StayUp after s.geometry (h_of works.0) (h_of y) → IsReadyWith counted s (item ∷ trace) x y works → IsReadyWith after later trace works.0 y works.2
  behind counted after s later item trace x y works geometry is_at stay ready = record {
    history = history_on ready.history (one_ran view honest item x works.0 works.1);
    is_at = is_at;
    calm = subst (λ (g : Geometry). StaysWithinToleranceUpTo view returning g before (h_of y) trace works.0 y works.2) (sym geometry) ready.calm.1;
    unread = subst (λ (g : Geometry). EachItem view (StaysWithinToleranceUnreadAt view returning g before) trace works.0 y works.2) (sym geometry) ready.unread.1;
    lead = ready.lead.1;
    draws = subst (λ (g : Geometry). EachHasDraws view g trace works.0 y works.2) (sym geometry) ready.draws.1;
    can = subst (λ (g : Geometry). EachCanReplace view g trace works.0 y works.2) (sym geometry) ready.can.1;
    stay = subst (λ (g : Geometry). StayUp after g (h_of works.0) (h_of y)) (sym geometry) stay;
  }

  -- the slots that are counted on stay up over any item
  stay_on : (counted : List ℕ) (g : Geometry) (item : TraceItem) (x y last : Devices R W) → WorksAll view item x y → StayUp counted g (h_of x) (h_of last)
      → StayUp counted g (h_of y) (h_of last)
  stay_on counted g item x y last works stay j is = stays_on g (h_of x) (h_of y) (h_of last) j (one_ran view honest item x y works) (stay j is)

  -- calm over the first item
  calm_item : (counted : List ℕ) (s : State) (item : TraceItem) (trace : List TraceItem) (x y : Devices R W) (works : AlongTrace (WorksAll view) (item ∷ trace) x y)
      → IsReadyWith counted s (item ∷ trace) x y works → (h : List Happening) → IsMoment (h_of x) h (h_of works.0)
      → StaysWithinTolerance returning s.geometry (is_open x.session) before h
  calm_item counted s item trace x y works ready h at = ready.calm.0 h at (upto_end at (works_ran view honest trace works.0 y works.2))

  pub with_still : (counted : List ℕ) (s : State) (item : TraceItem) (trace : List TraceItem) (x y : Devices R W) (works : AlongTrace (WorksAll view) (item ∷ trace) x y) → IsOffDevices item
      → IsReadyWith counted s (item ∷ trace) x y works → IsReadyWith counted s trace works.0 y works.2
  with_still counted s item trace x y works off ready =
      behind counted counted s s item trace x y works refl (subst (IsAt view returning before s None) (sym (left item works.0 off works.1)) ready.is_at)
      (stay_on counted s.geometry item x works.0 y works.1 ready.stay) ready
    where
      left : (item : TraceItem) (z : Devices R W) → IsOffDevices item → WorksAll view item x z → z ≡ x
      left (Did action outcome) z off works = absurd off
      left (Stepped step answer events gone) z off works = absurd off
      left item z off works = works

  pub with_found : (counted : List ℕ) (s : State) (came : Outcome Survey) (trace : List TraceItem) (x y : Devices R W) (works : AlongTrace (WorksAll view) (Did Survey came ∷ trace) x y)
      → IsReadyWith counted s (Did Survey came ∷ trace) x y works → IsFoundOn (WorksAll view) IsReadyWith counted s came trace x y works
  with_found counted s came trace x y works ready =
      let surveys = works.1.0 in
      let calm = calm_item counted s (Did Survey came) trace x y works ready in
      let ran : Ran any_call (h_of x) (h_of works.0) = one_ran view honest (Did Survey came) x works.0 works.1 in
      let one = one_goes view honest returning before s None (Did Survey came) x works.0 works.1 tt ready.history ready.is_at calm in
      let serves = subst (λ (session : Phase). ServesState returning before s session (seen_of view x).told) works.1.1 ready.is_at.is_in.serves in
      let calm_now : StaysWithinTolerance returning s.geometry false (h_of x) (h_of works.0) =
      subst (λ (h : List Happening). StaysWithinTolerance returning s.geometry false h (h_of works.0)) serves.0
      (subst (λ (session : Phase). StaysWithinTolerance returning s.geometry (is_open session) before (h_of works.0)) works.1.1
      (calm (h_of works.0) (moment_last ran.more ran.is))) in
      let finds =
      survey_found returning s (h_of x) (seen_of view x).told (seen_of view works.0).told came surveys honest (ran_none (h_of x)) ready.is_at.is_in.stands
      (calm_between returning s.geometry (h_of x) (h_of works.0)
      (survey_unwritten came (seen_of view x).told (seen_of view works.0).told surveys honest) calm_now) in
      record {
        member = finds.member;
        found = finds.found;
        geometry = finds.geometry;
        ready = behind counted counted s s (Did Survey came) trace x y works refl
            (subst (λ (t : State). IsAt view returning before t None works.0) one.goes.state
            (subst (λ (stop : _). IsAt view returning before one.state stop works.0) one.goes.stopped one.is_at))
            (stay_on counted s.geometry (Did Survey came) x works.0 y works.1 ready.stay) ready;
      }

  -- no slot that is counted on goes Down over a step of an open array
  counted_up : (counted : List ℕ) (s : State) (step : Step) (answer : Answer step) (events : List Event) (x y : Devices R W) (last : List Happening)
      (does : Performs step answer events (seen_of view x) (seen_of view y)) → step ≢ Recover → IsOpened does.was x.session
      → ServesState returning before s x.session (seen_of view x).told → Ran any_call (h_of y) last → StayUp counted s.geometry (h_of x) last
      → NoneGoesDown (IsCounted counted) (seats_in does.was.member.array) (seats_in does.is.member.array)
  counted_up counted s step answer events x y last does other began serves later stay j is up =
      let up_to = stay j is in
      let serving = open_for returning before s does.was (seen_of view x) began.is_open began.unstopped serves in
      let below : j < does.was.member.array.geometry.n = omega (arith, up_to.below, ap (λ (g : Geometry). g.n) serving.geometry) in
      stays_up s.geometry up_to.from last does.was j (seen_of view x).told (seen_of view y).told
      (record {
        from = up_to.from;
        there = up_to.there;
        held = up_to.held;
        since = up_to.since;
        ran = does.later.ran honest;
        later = later;
        honest = honest;
        geometry = serving.geometry;
        below = below;
      }) step does.is.member other up (does.goes_on.marks j below)

  -- after a replacement its slot is counted on too
  stay_behind : (counted : List ℕ) (g : Geometry) (step : Step) (given : GivenBy step) (answer : Answer step) (events : List Event) (x y : Devices R W)
      (last : List Happening) (does : Performs step answer events (seen_of view x) (seen_of view y)) → answer ≡ Ok given
      → ((j : ℕ) → step ≡ ReplaceSlot j → (j < g.n) × IsFitFrom g (h_of x) last j) → StayUp counted g (h_of x) last
      → StayUp (counted_behind step counted) g (h_of y) last
  stay_behind counted g (ReplaceSlot slot) given answer events x y last does is fit stay j (inl same) =
      subst (StaysUp g (h_of y) last) (sym same) (record {
        below = (fit slot refl).0;
        from = h_of x;
        since = does.later.ran honest;
        held = replaced_held slot answer (snapshot does.was.member (seen_of view x).told) (snapshot does.is.member (seen_of view y).told) does.does
            is honest;
        there = (fit slot refl).1.there;
      })
  stay_behind counted g (ReplaceSlot slot) given answer events x y last does is fit stay j (inr has) =
      stays_on g (h_of x) (h_of y) last j (does.later.ran honest) (stay j has)
  stay_behind counted g _ given answer events x y last does is fit stay j has = stays_on g (h_of x) (h_of y) last j (does.later.ran honest) (stay j has)

  -- a step that an array which is ready performs
  module _ (counted : List ℕ) (s : State) (step : Step) (answer : Answer step) (events : List Event) (left : Bool) (trace : List TraceItem)
      (x y : Devices R W) (works : AlongTrace (WorksAll view) (Stepped step answer events left ∷ trace) x y)
      (ready : IsReadyWith counted s (Stepped step answer events left ∷ trace) x y works)
      (does : Performs step answer events (seen_of view x) (seen_of view works.0)) where
    -- the rack goes on over it, and after it
    step_ran : Ran any_call (h_of x) (h_of works.0)
    step_ran = does.later.ran honest

    rest_ran : Ran any_call (h_of works.0) (h_of y)
    rest_ran = works_ran view honest trace works.0 y works.2

    -- it is calm
    step_calm : StaysWithinTolerance returning s.geometry (is_open x.session) before (h_of works.0)
    step_calm = calm_item counted s (Stepped step answer events left) trace x y works ready (h_of works.0) (moment_last step_ran.more step_ran.is)

    -- it is one of the machine
    pub step_led : IsLed returning does.was.member before s step answer (seen_of view works.0)
    step_led = (ready.lead.0 does).leads honest before s ready.history ready.is_at.is_in step_calm

    -- the seats with which it begins
    pub step_begins : BeginsAs step s step_led.is_step.begun
    step_begins = begins_as returning step does.was.member before (h_of works.0) s step_led.is_step.begun step_led.is_step.begins

    -- a slot that it is to replace can be
    can_at : (step : Step) (answer : Answer step) → CanReplaceAt view s.geometry (h_of y) (Stepped step answer events left) x works.0 → (j : ℕ)
        → step ≡ ReplaceSlot j
        → ((was : ArrayState) → x.session ≡ Opened was → mark_in was.member.array j ≡ Down) × IsFitFrom s.geometry (h_of x) (h_of y) j
    can_at (ReplaceSlot slot) answer can j is =
        let same : slot ≡ j = cc in
        subst (λ (i : ℕ). ((was : ArrayState) → x.session ≡ Opened was → mark_in was.member.array i ≡ Down) × IsFitFrom s.geometry (h_of x) (h_of y) i)
        same can
    can_at _ answer can j is = absurd cc

    can_replace : (j : ℕ) → step ≡ ReplaceSlot j
        → ((was : ArrayState) → x.session ≡ Opened was → mark_in was.member.array j ≡ Down) × IsFitFrom s.geometry (h_of x) (h_of y) j
    can_replace = can_at step answer ready.can.0

    -- it is done where it passes its tests
    pub step_done : ((seats : Seats) → s.seats ≡ Some seats → IsFreeFor step seats → PassesTests step s seats) → IsOk answer
    step_done passes =
        (ready.lead.0 does).complete honest before s ready.history ready.is_at.is_in step_calm ready.unread.0
        (record {
          passes = λ seats known. passes seats known
              (free_for returning step before s does.was x.session (seen_of view x).told seats does.starts ready.is_at.is_in.serves known
              (λ j is began. (can_replace j is).0 does.was began.is_open));
          draws = starts_drawn step does.was x.session does.starts ready.draws.0.0;
          fit = fit_for step s.geometry (h_of x) (h_of works.0) (h_of y) step_ran rest_ran (λ j is. (can_replace j is).1) ready.draws.0.1;
        })

    -- where the array is open after it, it is ready again
    pub step_behind : (after : List ℕ) → IsOpened does.is works.0.session → StayUp after s.geometry (h_of works.0) (h_of y)
        → IsReadyWith after step_led.state trace works.0 y works.2
    step_behind after opened stay =
        behind counted after s step_led.state (Stepped step answer events left) trace x y works step_led.is_step.row.geometry
        (record { is_in = step_led.is_in; kept = opened_kept does.is works.0.session opened }) stay ready

    -- a step that can be done is done
    performed : ((seats : Seats) → s.seats ≡ Some seats → IsFreeFor step seats → PassesTests step s seats)
        → IsSteppedOn (WorksAll view) IsReadyWith counted s step answer events left trace x y works
    performed passes =
        let given = given_by answer (step_done passes) in
        let opened = ends_open step given.0 does.is works.0.session (subst (λ (a : Answer step). EndsIn step a does.is works.0.session) given.1 does.ends) in
        let row : Row step (Ok given.0) step_led.is_step.begun s step_led.state =
        subst (λ (a : Answer step). Row step a step_led.is_step.begun s step_led.state) given.1 step_led.is_step.row in
        record {
          given = given.0;
          is = given.1;
          later = step_led.state;
          done = record {
            begun = step_led.is_step.begun;
            begins = step_begins;
            row = row;
            keeps = keeps_by returning counted step answer events given.0 before (h_of works.0) s step_led.state step_led.is_step.begun row (seen_of view x)
                (seen_of view works.0) does step_led.is_step.begins opened ready.is_at.is_in.serves step_led.is_in.serves
                (λ began.
                counted_up counted s step answer events x works.0 (h_of y) does
                (λ opening. never_opening step does.was x.session opening does.starts began.is_open) began ready.is_at.is_in.serves rest_ran ready.stay);
          };
          ready = step_behind (counted_behind step counted) opened
              (stay_behind counted s.geometry step given.0 answer events x works.0 (h_of y) does given.1
              (λ j is. (replaced_below step s step_led.is_step.begun (row.passes tt) j is, (can_replace j is).1)) ready.stay);
        }

  -- an array that is ready wasn't stopped
  pub not_stopped : (counted : List ℕ) (s : State) (step : Step) (answer : Answer step) (events : List Event) (left : Bool) (trace : List TraceItem)
      (x y : Devices R W) (works : AlongTrace (WorksAll view) (Stepped step answer events left ∷ trace) x y)
      → IsReadyWith counted s (Stepped step answer events left ∷ trace) x y works
      → AnswersStopped step answer events (seen_of view x) (seen_of view works.0) → ⊥
  not_stopped counted s step answer events left trace x y works ready stopped =
      let kept : None ≡ refusal_kept stopped.array.stopped = subst (λ (session : Phase). IsStoppedBy session None) stopped.is_open ready.is_at.kept in
      let same : None ≡ refusal_kept (Some stopped.fault) = kept ∙ ap refusal_kept stopped.stopped in
      cc

  with_stepped : (counted : List ℕ) (s : State) (step : Step) (answer : Answer step) (events : List Event) (left : Bool) (trace : List TraceItem) (x y : Devices R W)
      (works : AlongTrace (WorksAll view) (Stepped step answer events left ∷ trace) x y)
      → ((seats : Seats) → s.seats ≡ Some seats → IsFreeFor step seats → PassesTests step s seats)
      → IsReadyWith counted s (Stepped step answer events left ∷ trace) x y works
      → IsSteppedOn (WorksAll view) IsReadyWith counted s step answer events left trace x y works
  with_stepped counted s step answer events left trace x y works passes ready =
      elim works.1.0 [
        | inl does ↦ performed counted s step answer events left trace x y works ready does passes
        | inr stopped ↦ absurd (not_stopped counted s step answer events left trace x y works ready stopped)
      ]

  with_carries : CarriesOn (WorksAll view) IsReadyWith
  with_carries = record { still = with_still; found = with_found; stepped = with_stepped }

-- ---- from a session's beginning

-- before anything was done in it
pub begins_at : {R W : Type 0} (returning : Returning) (view : DeviceView R W) (s : State) (x : Devices R W) → x.session ≡ Begun
    → StandsFor returning s (view.rack.history x.rack) → IsAt view returning (view.rack.history x.rack) (without_seats s) None x
begins_at returning view s x begun stands = record {
  is_in = record {
    stands = forgets returning s (view.rack.history x.rack) stands;
    serves = subst (λ (session : Phase). ServesState returning (view.rack.history x.rack) (without_seats s) session (seen_of view x).told) (sym begun)
        (refl, refl);
  };
  kept = subst (λ (session : Phase). IsStoppedBy session None) (sym begun) refl;
}

-- and it is ready for the whole trace
pub ready_first : {R W : Type 0} (returning : Returning) (view : DeviceView R W) (honest : IsTrue view.rack.honest) (s : State) (trace : List TraceItem)
    (x y : Devices R W) (works : AlongTrace (WorksAll view) trace x y) → x.session ≡ Begun → IsHistory (view.rack.history x.rack)
    → StandsFor returning s (view.rack.history x.rack) → StaysWithinToleranceAlong view returning s.geometry trace x y works
    → TraceLeads returning view trace x y works → EachHasDraws view s.geometry trace x y works → EachCanReplace view s.geometry trace x y works
    → IsReadyWith returning view honest (view.rack.history x.rack) [] (without_seats s) trace x y works
ready_first returning view honest s trace x y works begun history stands calm lead draws can = record {
  history = history;
  is_at = begins_at returning view s x begun stands;
  calm = calm.0;
  unread = calm.1;
  lead = lead;
  draws = draws;
  can = can;
  stay = λ j none. absurd none;
}

module _ {R W S K : Type 0} (view : DeviceView R W) (streams : Views S K) where
  -- a command whose program is sure is done
  pub sure_done : (returning : Returning) (program : Program) (status : Status) (s : State) (a b : Outside S K) (x y : Devices R W)
      (with : ExecutesWith view streams program (Over status) a b x y) → IsTrue view.rack.honest → x.session ≡ Begun
      → IsHistory (view.rack.history x.rack) → StandsFor returning s (view.rack.history x.rack)
      → StaysWithinToleranceAlong view returning s.geometry with.means.trace x y with.works → HasNoFault streams a b
      → TraceLeads returning view with.means.trace x y with.works → EachHasDraws view s.geometry with.means.trace x y with.works
      → EachCanReplace view s.geometry with.means.trace x y with.works
      → Completes [] program (without_seats s) (streams.source.left a.source) → IsDone status
  sure_done returning program status s a b x y with honest begun history stands calm none lead draws can sure =
      ends_done (WorksAll view) (IsReadyWith returning view honest (view.rack.history x.rack))
      (with_carries returning view honest (view.rack.history x.rack)) streams [] with.means.trace program status (without_seats s) x y with.works a.source b.source
      a.sink b.sink with.means.follows with.means.bears.gives with.means.bears.holds none.source none.sink
      (ready_first returning view honest s with.means.trace x y with.works begun history stands calm lead draws can) sure
