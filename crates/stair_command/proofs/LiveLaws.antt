-- A slot that is live and stays whole is live in the end: it is given up by no step, and its own superblock says so in what a crash
-- leaves.
use Rattle.std.proofs.Common.{◌≡◌, ◌∙◌, ◌⊎◌, ◌-◌, ◌<◌, ℕ, List, [], ◌∷◌, ◌++◌, None, Some, Ok, Err, Option, Result, inl, inr, refl, sym, ap, subst, arith}
use Rattle.std.specs.Prelude.{IsTrue}
use Rattle.stair_model.specs.Geometry.{Geometry}
use Rattle.stair_model.specs.Slots.{HasSlot}
use Rattle.stair_rack.specs.Answers.{Ran, any_call}
use Rattle.stair_rack.specs.Crash.{image_now}
use Rattle.stair_rack.specs.History.{Happening}
use Rattle.stair_rack.specs.Moments.{IsMoment}
use Rattle.stair_rack.specs.Offline.{IsAttached, IsHeld, IsOffline}
use Rattle.stair_rack.specs.Sector.{Sector, content, damaged}
use Rattle.stair_rack.specs.Stretch.{NothingWritten, every_slot}
use Rattle.stair_rack.specs.declared.watcher.Event.{Event}
use Rattle.stair_rack.proofs.CrashLemmas.{CrashMayLeave-now}
use Rattle.stair_rack.proofs.MomentLemmas.{moment_between, moment_last, moment_sooner, ran_any, ran_join, ran_none}
use Rattle.stair_rack.proofs.OfflineLemmas.{held_on}
use Rattle.stair_rack.proofs.StretchLemmas.{each_before, none_written}
use Rattle.stair_super.specs.Superblock.{mark_in}
use Rattle.stair_super.specs.declared.mark.Mark.TheVariants.{Down, Live}
use Rattle.stair_member.specs.Aims.{mark_for}
use Rattle.stair_member.specs.Asked.{LeavesSectors}
use Rattle.stair_member.specs.Current.{ByOutside, IsLost}
use Rattle.stair_member.specs.Membership.{Membership, place_of, why_of}
use Rattle.stair_member.specs.Reasons.{rank}
use Rattle.stair_member.specs.Survey.{Surveys}
use Rattle.stair_member.specs.declared.why.Why.TheVariants as why
use Rattle.stair_member.proofs.AskedLemmas.{asked_ran}
use Rattle.stair_member.proofs.SuperLemmas.{counts_limits}
use Rattle.stair_state.specs.State.{State, without_seats}
use Rattle.stair_state.specs.Surveyed.{FindsArray}
use Rattle.stair_state.specs.Tolerance.{IsWithinTolerance}
use Rattle.stair_state.proofs.SurveyedLemmas.{finds_array}
use Rattle.stair_invariant.specs.Effects.{Snapshot, snapshot}
use Rattle.stair_invariant.specs.Returning.{NoneReturns}
use Rattle.stair_invariant.specs.Session.{ArrayState, IsArray, IsLiveIn, Remembered}
use Rattle.stair_invariant.proofs.OwnPartLemmas.{live_left}
use Rattle.stair_array.specs.Causes.{IsFree, WasGoneTo, WhyGoesOn}
use Rattle.stair_array.specs.Machine.{Answer, EpochsSpent, Refusal, ReplaceSlot, Step, TooFew}
use Rattle.stair_array.specs.Mends.{Replaces}
use Rattle.stair_array.specs.Promise.{Begun, Closed, Does, Ends, Found, GoesOn, IsOpenFor, Keeps, Opened, Performs, Seen, Phase, StartsFrom, Stops}
use Rattle.stair_array.proofs.OpeningsLeadLemmas.{looks_write_none}
use Rattle.stair_command.specs.Action.{Create, Survey}
use Rattle.stair_command.specs.Devices.{DeviceView, Devices, WorksAll, seen_of}
use Rattle.stair_command.specs.Kept.{HasMember}
use Rattle.stair_command.specs.Living.{IsLiveAt, IsLiveUnwritten, LiveSlotsAreKept, LiveSlotsStay, StandsOver, StaysWhole}
use Rattle.stair_command.specs.Rack.{told_of}
use Rattle.stair_command.specs.Run.{history_of}
use Rattle.stair_command.specs.Trace.{TraceItem, Did, Stepped, AlongTrace}
use Rattle.stair_command.proofs.HeadlineLaws.{all_lead, calm_trace}
use Rattle.stair_command.proofs.KeptLaws.{Closes, Same, Takes, comes, known_begun, known_once, never_known, open_known, starts_known}
use Rattle.stair_command.proofs.PerformedLaws.{step_leads}
use Rattle.stair_command.proofs.ProgramLaws.{leads_then}
use Rattle.stair_command.proofs.RunLaws.{one_ran, runs_on, works_ran}
use Rattle.stair_command.proofs.SureSlotLaws.{not_gone}
use Rattle.stair_command.proofs.SureStepLaws.{begins_at, open_for}

-- ---- a step

-- a slot is replaced only where it is free
replaced_free : (slot : ℕ) (answer : Result (Unit {0}) Refusal) (x z : Snapshot) → Replaces slot answer x z → (z ≡ x) ⊎ IsFree x.member slot
replaced_free slot _ _ _ (Replaces.OutOf x past) = inl refl
replaced_free slot _ _ _ (Replaces.Busy x below busy) = inl refl
replaced_free slot _ _ _ (Replaces.Unprepared refusal x y free prepares) = inr free
replaced_free slot _ _ _ (Replaces.Admitted answer x y z free prepares joins) = inr free

admitted_free : (j : ℕ) (step : Step) (was : ArrayState) (after : Option Remembered) (answer : Answer step) (x y : Snapshot) → Does step was after answer x y → step ≡ ReplaceSlot j
    → (y ≡ x) ⊎ IsFree x.member j
admitted_free j (ReplaceSlot slot) was after answer x y does is =
    let same : slot ≡ j = cc in
    subst (λ (i : ℕ). (y ≡ x) ⊎ IsFree x.member i) same (replaced_free slot answer x y does)
admitted_free j _ was after answer x y does is = absurd (cc)

-- an open array that wasn't stopped keeps the rules of one
abbrev pub KeepsArray : Phase → Type 0
KeepsArray session = (a : ArrayState) → session ≡ Opened a → a.stopped ≡ None → IsArray a

-- a refusal for good stops the array
kept_unstopped : {T : Type 0} (answer : Result T Refusal) (is : ArrayState) → Keeps answer is.stopped → is.stopped ≡ None → ¬ Stops answer
kept_unstopped (Ok given) is keeps none stops = absurd stops
kept_unstopped {T} (Err refusal) is keeps none stops = final refusal keeps stops
  where
    final : (refusal : Refusal) → Keeps {T = T} (Err refusal) is.stopped → Stops {T = T} (Err refusal) → ⊥
    final (TooFew whys) keeps stops = let never : Some keeps.0 ≡ None = sym keeps.1 ∙ none in cc
    final EpochsSpent keeps stops = let never : Some keeps.0 ≡ None = sym keeps.1 ∙ none in cc
    final _ keeps stops = absurd stops

pub ends_array : (step : Step) (answer : Answer step) (events : List Event) (x y : Seen) → Performs step answer events x y → KeepsArray y.session
ends_array step answer events x y does a opened unstopped =
    elim does.ends [
      | Ends is err closed ↦ let never : Closed ≡ Opened a = sym closed ∙ opened in absurd cc
      | GoesOn ok keeps goes ↦
          let same : does.is ≡ a = let both : Opened does.is ≡ Opened a = sym goes ∙ opened in cc in
          subst IsArray same
          (does.array (kept_unstopped answer does.is keeps (ap (λ (b : ArrayState). b.stopped) same ∙ unstopped)))
    ]

module _ {R W : Type 0} (view : DeviceView R W) (honest : IsTrue view.rack.honest) (g : Geometry) (before : List Happening) (j : ℕ) where
  abbrev h_of : Devices R W → List Happening
  h_of x = view.rack.history x.rack

  -- The slot is live to the session, which holds it, and is there from a moment on at which it was so already.
  pub record IsUp (last : List Happening) (m : Membership) (x : Devices R W) : Type 0 where
    pub below : j < g.n
    pub here : why_of m j ≡ why.Here
    pub geometry : m.array.geometry ≡ g
    pub held : IsHeld before (h_of x) j
    pub from : List Happening
    pub since : Ran any_call from (h_of x)
    pub there : StaysWhole g before from last j
    pub array : KeepsArray x.session

  -- it is so over a step
  pub stays_here : (last : List Happening) (m : Membership) (x y : Devices R W) → IsUp last m x → (step : Step) (answer : Answer step) (events : List Event)
      (does : Performs step answer events (seen_of view x) (seen_of view y)) → does.was.member ≡ m → Ran any_call (h_of y) last → why_of does.is.member j ≡ why.Here
  stays_here last m x y up step answer events does known later = by (does.goes_on.whys j below)
    where
      was_here : why_of does.was.member j ≡ why.Here
      was_here = ap (λ (n : Membership). why_of n j) known ∙ up.here

      geometry : does.was.member.array.geometry ≡ g
      geometry = ap (λ (n : Membership). n.array.geometry) known ∙ up.geometry

      below : j < does.was.member.array.geometry.n
      below = let under = up.below in omega (arith, under, ap (λ (array : Geometry). array.n) geometry)

      gone : WasGoneTo does.was.member j (seen_of view x).told (seen_of view y).told → ⊥
      gone = not_gone g before last does.was j (seen_of view x).told (seen_of view y).told (record {
        from = up.from;
        there = up.there.there;
        held = up.held;
        since = up.since;
        ran = does.later.ran honest;
        later = later;
        honest = honest;
        geometry = geometry;
        below = below;
      })

      -- it isn't free, since the array marks it as its reason says
      never_free : step ≡ ReplaceSlot j → IsFree does.was.member j → ⊥
      never_free replaces free =
          let opened = replacing_open step does.was x.session replaces does.starts in
          let marked : mark_in does.was.member.array j ≡ mark_for (why_of does.was.member j) = (up.array does.was opened.0 opened.1).marks j below in
          let never : Down ≡ Live = sym free.1 ∙ marked ∙ ap mark_for was_here in
          cc
        where
          replacing_open : (step : Step) (was : ArrayState) (session : Phase) → step ≡ ReplaceSlot j → StartsFrom step was session
              → (session ≡ Opened was) × (was.stopped ≡ None)
          replacing_open (ReplaceSlot slot) was (Opened a) is starts = (ap Opened (sym starts.0), ap (λ (b : ArrayState). b.stopped) starts.0 ∙ starts.1)
          replacing_open (ReplaceSlot slot) was _ is starts = absurd starts
          replacing_open _ was session is starts = absurd (cc)

      by : WhyGoesOn step (seen_of view x).told (seen_of view y).told does.was.member does.is.member j → why_of does.is.member j ≡ why.Here
      by (WhyGoesOn.Stays same) = same ∙ was_here
      by (WhyGoesOn.Went was lost) = absurd (gone lost)
      by (WhyGoesOn.IsAdmitted replaces is) =
          elim (admitted_free j step does.was does.is.remembered answer (snapshot does.was.member (seen_of view x).told) (snapshot does.is.member (seen_of view y).told) does.does replaces) [
            | inl same ↦ ap (λ (p : Snapshot). why_of p.member j) same ∙ was_here
            | inr free ↦ absurd (never_free replaces free)
          ]
      by (WhyGoesOn.IsPromoted rebuilds was is) = is

  -- and over a trace
  up_over : (last : List Happening) (trace : List TraceItem) (x y : Devices R W) (works : AlongTrace (WorksAll view) trace x y) (m : Membership) → HasMember x.session m
      → IsUp last m x → Ran any_call (h_of y) last → (n : Membership) → HasMember y.session n → (why_of n j ≡ why.Here) × (n.array.geometry ≡ g)
  up_over last [] x y works m has up later n also =
      let same : m ≡ n = known_once x.session m n has (subst (λ (d : Devices R W). HasMember d.session n) works also) in
      (ap (λ (o : Membership). why_of o j) (sym same) ∙ up.here, ap (λ (o : Membership). o.array.geometry) (sym same) ∙ up.geometry)
  up_over last (item ∷ trace) x y works m has up later n also =
      let one = one_ran view honest item x works.0 works.1 in
      let rest = works_ran view honest trace works.0 y works.2 in
      elim (comes view item x works.0 m has works.1) [
        | Same same ↦
            up_over last trace works.0 y works.2 m (subst (λ (s : Phase). HasMember s m) (sym same) has) (record {
              below = up.below;
              here = up.here;
              geometry = up.geometry;
              held = held_on {allowed = any_call} j one up.held;
              from = up.from;
              since = ran_join up.since one;
              there = up.there;
              array = subst KeepsArray (sym same) up.array;
            }) later n also
        | Closes closed ↦ absurd (never_known view trace works.0 y n works.2 closed also)
        | Takes step answer events left is does known opened ↦
            up_over last trace works.0 y works.2 does.is.member (open_known works.0.session does.is.member opened) (record {
              below = up.below;
              here = stays_here last m x works.0 up step answer events does known (ran_join rest later);
              geometry = does.goes_on.geometry ∙ ap (λ (o : Membership). o.array.geometry) known ∙ up.geometry;
              held = held_on {allowed = any_call} j one up.held;
              from = up.from;
              since = ran_join up.since one;
              there = up.there;
              array = ends_array step answer events (seen_of view x) (seen_of view works.0) does;
            }) later n also
      ]

-- ---- the end

damaged_lost : (s : Sector) → s ≡ damaged → IsLost (content s)
damaged_lost s is = ByOutside (ap content is)

-- a held slot that isn't offline is attached
held_attached : (before h : List Happening) (j : ℕ) → IsHeld before h j → ¬ IsOffline before h j → IsAttached h j
held_attached before h j (IsHeld.InUse attached some least) online = attached
held_attached before h j (IsHeld.Unattached apart pulled) online = absurd (online (IsOffline.Unattached apart pulled))
held_attached before h j (IsHeld.RackStopped stops) online = absurd (online (IsOffline.RackStopped stops))

module _ {R W : Type 0} (view : DeviceView R W) (s : State) (j : ℕ) where
  -- what the session knows of the rack is so for some state of this array
  record ServesSome (before : List Happening) (b : ArrayState) (h : List Happening) : Type 0 where
    state : State
    geometry : state.geometry ≡ s.geometry
    is : IsOpenFor NoneReturns before state b h

  serves_at : (trace : List TraceItem) (x y last : Devices R W) (works : AlongTrace (WorksAll view) trace x y) (later : Ran any_call (history_of view y) (history_of view last))
      → StandsOver view s x last → (b : ArrayState) → y.session ≡ Opened b → b.stopped ≡ None → ServesSome (history_of view x) b (history_of view y)
  serves_at trace x y last works later stands b opened unstopped =
      let ran = works_ran view stands.honest trace x y works in
      let until : IsMoment (history_of view x) (history_of view y) (history_of view last) = moment_between ran later in
      let run =
      runs_on view stands.honest NoneReturns (history_of view x) (without_seats s) None trace x y works
      (all_lead NoneReturns view step_leads trace x y works) stands.history (begins_at NoneReturns view s x stands.begun stands.represents)
      (calm_trace view stands.honest s.geometry (history_of view x) (history_of view y) trace x y works (ran_none (history_of view x))
      (λ h at. stands.tolerated h (moment_sooner at until)) (each_before stands.returned until)) in
      record {
        state = run.state;
        geometry = run.geometry;
        is = open_for NoneReturns (history_of view x) run.state b (seen_of view y) opened unstopped run.is_at.is_in.serves;
      }

  -- a slot that is live to the session then is live in each image
  live_then : (trace : List TraceItem) (x y : Devices R W) (works : AlongTrace (WorksAll view) trace x y) → StandsOver view s x y → (b : ArrayState) → y.session ≡ Opened b
      → b.stopped ≡ None → why_of b.member j ≡ why.Here → b.member.array.geometry ≡ s.geometry → (from : List Happening)
      → IsMoment from (history_of view y) (history_of view y) → StaysWhole s.geometry (history_of view x) from (history_of view y) j
      → IsLiveAt s.geometry (history_of view y) j
  live_then trace x y works stands b opened unstopped here geometry from at stays =
      let serves = serves_at trace x y y works (ran_none (history_of view y)) stands b opened unstopped in
      let is = serves.is in
      let below : j < b.member.array.geometry.n = let under = stays.below in omega (arith, under, ap (λ (g : Geometry). g.n) geometry) in
      let attached : IsAttached (history_of view y) j =
      held_attached (history_of view x) (history_of view y) j (is.is_open.held j (record { below = below; why = inl here }))
      (stays.there.online (history_of view y) at) in
      subst (λ (g : Geometry). IsLiveAt g (history_of view y) j) geometry
      (live_left (history_of view x) b (history_of view y) j (record {
        array = is.is_open.array;
        ran = is.is_open.ran;
        held = is.is_open.held;
        own = is.is_open.own;
        shut = is.is_open.shut;
      }) is.knows (record { below = below; why = here }) attached
      (λ lost. stays.places (history_of view y) (1 - place_of b.member j) at (omega arith) (damaged_lost _ lost)))

  -- from a moment at which it was live to an open array
  pub live_stays : (done later : List TraceItem) (x mid y : Devices R W) → AlongTrace (WorksAll view) done x mid → AlongTrace (WorksAll view) later mid y
      → StandsOver view s x y → (a b : ArrayState) → mid.session ≡ Opened a → a.stopped ≡ None → IsLiveIn a.member j → y.session ≡ Opened b
      → b.stopped ≡ None → StaysWhole s.geometry (history_of view x) (history_of view mid) (history_of view y) j → IsLiveAt s.geometry (history_of view y) j
  live_stays done later x mid y first then stands a b opened unstopped live ended still stays =
      let after = works_ran view stands.honest later mid y then in
      let serves = serves_at done x mid y first after stands a opened unstopped in
      let is = serves.is in
      let same : a.member.array.geometry ≡ s.geometry = is.geometry ∙ serves.geometry in
      let up =
      up_over view stands.honest s.geometry (history_of view x) j (history_of view y) later mid y then a.member
      (subst (λ (session : Phase). HasMember session a.member) (sym opened) refl) (record {
        below = stays.below;
        here = live.why;
        geometry = same;
        held = is.is_open.held j (record { below = live.below; why = inl live.why });
        from = history_of view mid;
        since = ran_none (history_of view mid);
        there = stays;
        array = λ c session none. subst IsArray (let both : Opened a ≡ Opened c = sym opened ∙ session in cc) is.is_open.array;
      }) (ran_none (history_of view y)) b.member (subst (λ (session : Phase). HasMember session b.member) (sym ended) refl) in
      live_then (done ++ later) x y (leads_then (WorksAll view) done later x mid y first then) stands b ended still up.0 up.1 (history_of view mid) (moment_last after.more after.is) stays

  -- from a session's beginning
  pub record BeginsWhole (x y : Devices R W) : Type 0 where
    pub stands : StandsOver view s x y
    pub stays : StaysWhole s.geometry (history_of view x) (history_of view x) (history_of view y) j
    pub live : IsLiveUnwritten s.geometry (history_of view x) (history_of view y) j

  -- it was found
  pub found_up : (m : Membership) (trace : List TraceItem) (x mid y : Devices R W) → Surveys (Ok m) (told_of view.rack x.rack) (told_of view.rack mid.rack)
      → mid.session ≡ Found m → AlongTrace (WorksAll view) trace mid y → (begins : BeginsWhole x y)
      → IsUp view begins.stands.honest s.geometry (history_of view x) j (history_of view y) m mid
  found_up m trace x mid y surveys is_found works begins = record {
    below = begins.stays.below;
    here = here;
    geometry = geometry;
    held = (surveys.found.each j small).held stands.honest not_lost before (ran_none before);
    from = before;
    since = ran_any asked;
    there = begins.stays;
    array = λ a session none. absurd (let never : Found m ≡ Opened a = sym is_found ∙ session in cc);
  }
    where
      stands : StandsOver view s x y
      stands = begins.stands

      before : List Happening
      before = history_of view x

      last : List Happening
      last = history_of view y

      asked : Ran LeavesSectors before (history_of view mid)
      asked = asked_ran 32 before (history_of view mid) (surveys.asked stands.honest)

      at_end : IsMoment before (history_of view mid) (history_of view mid)
      at_end = moment_last asked.more asked.is

      until : IsMoment before (history_of view mid) last
      until = moment_between (ran_any asked) (works_ran view stands.honest trace mid y works)

      unwritten : NothingWritten before (history_of view mid)
      unwritten = none_written {allowed = LeavesSectors} {slots = every_slot} looks_write_none asked

      finds : FindsArray s (Ok m) before before (history_of view mid)
      finds =
          finds_array s before (told_of view.rack x.rack) (told_of view.rack mid.rack) (Ok m) surveys stands.honest (ran_none before) stands.represents
          (each_before stands.returned until) (λ h is. stands.tolerated h (moment_sooner is until))

      same : m ≡ finds.member
      same = let is = finds.found in cc

      geometry : m.array.geometry ≡ s.geometry
      geometry = ap (λ (n : Membership). n.array.geometry) same ∙ finds.identity

      within : IsWithinTolerance (IsOffline before (history_of view mid)) s.geometry (image_now (history_of view mid))
      within = stands.tolerated (history_of view mid) until (image_now (history_of view mid)) (CrashMayLeave-now (history_of view mid))

      here : why_of m j ≡ why.Here
      here =
          ap (λ (n : Membership). why_of n j) same
          ∙ finds.here within.current j within.is_current (record {
            live = begins.live (history_of view mid) until unwritten within.current within.is_current;
            places = λ k place. begins.stays.places (history_of view mid) k until place;
            online = begins.stays.there.online (history_of view mid) until;
          })

      below : j < m.array.geometry.n
      below = let under = begins.stays.below in omega (arith, under, ap (λ (g : Geometry). g.n) geometry)

      small : j < 32
      small =
          let drawn = surveys.answered.0.drawn in
          let slots = (counts_limits m.array.geometry surveys.findings.image drawn.slot drawn.super drawn.counts).devices.1 in
          omega (arith, below, slots)

      not_lost : ¬ HasSlot surveys.findings.gone j
      not_lost = (surveys.answered.0.reasons j below).first why.Gone (omega (arith, ap rank here))

  -- and stays so
  found_live : (m : Membership) (trace : List TraceItem) (x mid y : Devices R W) → Surveys (Ok m) (told_of view.rack x.rack) (told_of view.rack mid.rack)
      → mid.session ≡ Found m → AlongTrace (WorksAll view) trace mid y → BeginsWhole x y → (b : ArrayState) → y.session ≡ Opened b
      → (why_of b.member j ≡ why.Here) × (b.member.array.geometry ≡ s.geometry)
  found_live m trace x mid y surveys is_found works begins b opened =
      up_over view begins.stands.honest s.geometry (history_of view x) j (history_of view y) trace mid y works m
      (subst (λ (session : Phase). HasMember session m) (sym is_found) refl) (found_up m trace x mid y surveys is_found works begins)
      (ran_none (history_of view y)) b.member (subst (λ (session : Phase). HasMember session b.member) (sym opened) refl)

  begun_live : (trace : List TraceItem) (x y : Devices R W) → AlongTrace (WorksAll view) trace x y → BeginsWhole x y → (b : ArrayState) → y.session ≡ Opened b
      → (why_of b.member j ≡ why.Here) × (b.member.array.geometry ≡ s.geometry)
  begun_live [] x y works begins b opened =
      absurd (let never : Begun ≡ Opened b = sym begins.stands.begun ∙ sym (ap (λ (d : Devices R W). d.session) works) ∙ opened in cc)
  begun_live (Stepped step answer events left ∷ trace) x y works begins b opened = absurd (
      elim works.1.0 [
        | inl does ↦ known_begun x.session does.was.member begins.stands.begun (starts_known step does.was x.session does.starts)
        | inr stopped ↦ let never : Begun ≡ Opened stopped.array = sym begins.stands.begun ∙ stopped.is_open in cc
      ])
  begun_live (Did (Create g) outcome ∷ trace) x y works begins b opened =
      absurd (never_known view trace works.0 y b.member works.2 works.1.2 (subst (λ (session : Phase). HasMember session b.member) (sym opened) refl))
  begun_live (Did Survey (Err fault) ∷ trace) x y works begins b opened =
      absurd (never_known view trace works.0 y b.member works.2 works.1.2 (subst (λ (session : Phase). HasMember session b.member) (sym opened) refl))
  begun_live (Did Survey (Ok m) ∷ trace) x y works begins b opened = found_live m trace x works.0 y works.1.0 works.1.2 works.2 begins b opened
  begun_live (item ∷ trace) x y works begins b opened =
      begun_live trace works.0 y works.2 (subst (λ (d : Devices R W). BeginsWhole d y) (sym works.1) begins) b opened

  pub live_kept : (trace : List TraceItem) (x y : Devices R W) → AlongTrace (WorksAll view) trace x y → StandsOver view s x y → (b : ArrayState) → y.session ≡ Opened b
      → b.stopped ≡ None → StaysWhole s.geometry (history_of view x) (history_of view x) (history_of view y) j
      → IsLiveUnwritten s.geometry (history_of view x) (history_of view y) j → IsLiveAt s.geometry (history_of view y) j
  live_kept trace x y works stands b opened unstopped stays live =
      let here = begun_live trace x y works (record { stands = stands; stays = stays; live = live }) b opened in
      let ran = works_ran view stands.honest trace x y works in
      live_then trace x y works stands b opened unstopped here.0 here.1 (history_of view x) (moment_last ran.more ran.is) stays

pub live_slots_stay : (R W : Type 0) → LiveSlotsStay R W
live_slots_stay R W view s done later first mid last before after stands a b j opened unstopped live ended still stays =
    live_stays view s j done later first mid last before after stands a b opened unstopped live ended still stays

pub live_slots_kept : (R W : Type 0) → LiveSlotsAreKept R W
live_slots_kept R W view s trace first last works stands b j opened unstopped stays live =
    live_kept view s j trace first last works stands b opened unstopped stays live
