-- The number that a scrub tells is that of the cells that couldn't be read at first: no stripe is written before it is scrubbed, and
-- nothing of the outside comes between.
use Rattle.std.proofs.Common.{◌↔◌, ◌≡◌, ◌∙◌, ◌+◌, ◌<◌, ◌≤◌, ℕ, zero, suc, List, [], ◌∷◌, length, None, Some, Ok, inl, inr, refl, sym, ap, subst, false, arith}
use Rattle.std.proofs.lemmas.Bool.{cases_Bool, false≢true}
use Rattle.std.specs.Prelude.{Bool, IsSome, IsTrue}
use Rattle.std.specs.Io.KnownBytes.{Appends}
use Rattle.stair_model.specs.CellSet.{CellSet, cell_count}
use Rattle.stair_model.specs.Device.{cell_sector, gate_sector}
use Rattle.stair_model.specs.Geometry.{Geometry}
use Rattle.stair_model.specs.Slots.{HasSlot}
use Rattle.stair_rack.specs.Answers.{Ran, any_call, is_good}
use Rattle.stair_rack.specs.Crash.{image_now}
use Rattle.stair_rack.specs.History.{Happening, slot_state, stopped}
use Rattle.stair_rack.specs.Media.{has_sector}
use Rattle.stair_rack.specs.Moments.{AtSomeMoment, IsMoment}
use Rattle.stair_rack.specs.Offline.{IsHeld, IsOffline, WasPulled}
use Rattle.stair_rack.specs.Sector.{Good, content}
use Rattle.stair_rack.specs.Stretch.{NothingDamaged}
use Rattle.stair_rack.specs.declared.watcher.Event.{Event}
use Rattle.stair_rack.proofs.CrashLemmas.{CrashMayLeave-now}
use Rattle.stair_rack.proofs.KeptLemmas.{not_none}
use Rattle.stair_rack.proofs.MomentLemmas.{moment_between, moment_sooner, ran_after, ran_any, ran_before, ran_join, ran_none}
use Rattle.stair_rack.proofs.OfflineLemmas.{held_on, pulls_on}
use Rattle.stair_rack.proofs.StretchLemmas.{each_after, each_before}
use Rattle.stair_rack.proofs.TidyLemmas.{HasSize, size_on}
use Rattle.stair_member.specs.Membership.{IsMembership, Membership, why_of}
use Rattle.stair_member.specs.declared.why.Why.TheVariants as why
use Rattle.stair_state.specs.Represents.{ImageRepresents, IsImageOf, IsLargeEnough}
use Rattle.stair_state.specs.State.{State}
use Rattle.stair_member.specs.Asked.{LeavesSectors}
use Rattle.stair_member.specs.Current.{IsLive}
use Rattle.stair_member.specs.Reasons.{rank}
use Rattle.stair_member.specs.Survey.{Surveys}
use Rattle.stair_member.proofs.AskedLemmas.{asked_ran}
use Rattle.stair_member.proofs.SuperLemmas.{counts_limits}
use Rattle.stair_journal.specs.Gate.{closed_gate, open_gate}
use Rattle.stair_journal.specs.declared.redo.Redo.{Redo}
use Rattle.stair_state.specs.Surveyed.{FindsArray}
use Rattle.stair_state.proofs.RedoPhaseLemmas.{large_some}
use Rattle.stair_state.proofs.OutsideLemmas.{unwritten_ran}
use Rattle.stair_state.proofs.SurveyedLemmas.{finds_array}
use Rattle.stair_invariant.specs.Effects.{snapshot}
use Rattle.stair_invariant.specs.Session.{ArrayState, IsLiveIn}
use Rattle.stair_invariant.proofs.OpenLaws.{goes_on_within}
use Rattle.stair_array.specs.Causes.{WasGoneTo, WhyGoesOn}
use Rattle.stair_array.specs.Machine.{Recover, ScrubStripe}
use Rattle.stair_array.specs.Openings.{Recovers}
use Rattle.stair_array.specs.Promise.{AnswersStopped, AreRepaired, Begun, Found, Opened, Performs, Phase, StartsFrom, unopened}
use Rattle.stair_array.proofs.OpenStepLemmas.{IsOpened, starts_open}
use Rattle.stair_array.proofs.PartsLemmas.{IsPart, live_back}
use Rattle.stair_array.proofs.PerformsLemmas.{recovered_part}
use Rattle.stair_conf.specs.declared.job.Job.TheVariants.{Scrub}
use Rattle.stair_command.specs.Devices.{DeviceView, Devices, KeepsRules, WorksAll, devices, seen_of}
use Rattle.stair_command.specs.Rack.{told_of}
use Rattle.stair_command.specs.Living.{IsLiveAt}
use Rattle.stair_command.specs.Executes.{Holds}
use Rattle.stair_command.specs.Outside.{SinkView}
use Rattle.stair_command.specs.Question.{Question}
use Rattle.stair_status.specs.declared.status.Status.{Status}
use Rattle.stair_status.specs.declared.status.Status.TheVariants.{Done}
use Rattle.stair_command.specs.Program.{Over, Put}
use Rattle.stair_command.specs.Trace.{TraceItem, HasPut, PutFailed, Stepped, AlongTrace, StepsProgram}
use Rattle.stair_command.specs.Sure.{IsThere}
use Rattle.stair_command.proofs.RunLaws.{one_ran, works_ran}
use Rattle.stair_command.proofs.SureSlotLaws.{not_gone}
use Rattle.stair_command.proofs.SureStepLaws.{ends_open}
use Rattle.stair_status.specs.declared.status.Status.TheVariants.{Done}
use Rattle.stair_engine.specs.Counted.{AreBad, AreBadFrom, IsExact, IsQuiet, IsUndisturbed, PutsAlone, cells_in}
use Rattle.stair_engine.specs.Laws.{ScrubsAreCounted}
use Rattle.stair_engine.specs.Mending.{scrubbed_line, scrubs}
use Rattle.stair_engine.specs.Programs.{program_of}
use Rattle.stair_engine.proofs.FollowedLaws.{IsDoneBy, StepFirst, opened_trace, opens_first, puts_line, step_first}
use Rattle.stair_engine.proofs.OpeningLaws.{opening_spares, spared_asked}
use Rattle.stair_engine.proofs.QuietLaws.{live_found}
use Rattle.stair_engine.proofs.SparedLaws.{Spared, gate_none, held_before, spared_scrub, stays_bad, stays_good}

-- ---- slots of a rack that is left alone

module _ (g : Geometry) (before last : List Happening) (all : Ran any_call before last) (quiet : IsQuiet before last) where
  -- no medium that was there is pulled between two moments
  unpulled : {a b : List Happening} → Ran any_call before a → Ran any_call b last → (j : ℕ) → IsSome (slot_state before j).size
      → ¬ WasPulled a b j
  unpulled first later j some pulled =
      let start = pulls_on {allowed = any_call} j first in
      let rest = pulls_on {allowed = any_call} j later in
      quiet.unpulled j some (omega (arith, start, pulled, rest))

  -- none becomes damaged
  undamaged : {a b : List Happening} → Ran any_call before a → Ran any_call a b → Ran any_call b last → NothingDamaged a b
  undamaged first mid later = each_before (each_after quiet.undamaged (moment_between first (ran_join mid later))) (moment_between mid later)

  module _ (j : ℕ) (large : IsLargeEnough g (slot_state before j).size) where
    some : IsSome (slot_state before j).size
    some = large_some g (slot_state before j).size large

    same_size : {h : List Happening} → Ran any_call before h → Ran any_call h last → (slot_state h j).size ≡ (slot_state before j).size
    same_size {h} first later =
        elim (size_on {allowed = any_call} (slot_state before j).pulls (slot_state before j).size j some first (HasSize.Same refl refl)) [
          | HasSize.Same pulls is ↦ is
          | HasSize.Other less ↦ absurd (unpulled (ran_none before) later j some less)
        ]

    -- it is there at every moment
    there : ((h : List Happening) → IsMoment before h last → ¬ IsTrue (stopped h)) → IsThere g before before last j
    there going = record {
      online = λ h at offline. never h at offline;
      large = λ h at. subst (IsLargeEnough g) (sym (same_size (ran_before all at) (ran_after all at))) large;
    }
      where
        never : (h : List Happening) → IsMoment before h last → IsOffline before h j → ⊥
        never h at (IsOffline.NoMedium none) = not_none (slot_state before j).size (sym (same_size (ran_before all at) (ran_after all at)) ∙ none) some
        never h at (IsOffline.Unattached apart pulled) = unpulled (ran_none before) (ran_after all at) j some pulled
        never h at (IsOffline.RackStopped stops) = going h at stops

    -- where a cell can't be read later it couldn't be at first
    bad_before : {h : List Happening} (k : ℕ) → Ran any_call before h → Ran any_call h last → is_good (content ((slot_state h j).sector k)) ≡ false
        → is_good (content ((slot_state before j).sector k)) ≡ false
    bad_before {h} k first later bad =
        elim (cases_Bool (is_good (content ((slot_state before j).sector k)))) [
          | inl good ↦
              let still = stays_good j k some (unpulled (ran_none before) later j some) (undamaged (ran_none before) first later) first good in
              absurd (false≢true (sym bad ∙ still))
          | inr same ↦ same
        ]

    -- and where it isn't written it can't be read later
    bad_then : {h : List Happening} (k : ℕ) → Spared j k before h → Ran any_call h last → is_good (content ((slot_state before j).sector k)) ≡ false
        → is_good (content ((slot_state h j).sector k)) ≡ false
    bad_then k spared later bad = stays_bad j k some (unpulled (ran_none before) later j some) spared bad

-- ---- scrubs

-- the line is put out, and nothing else
put_alone : (line : List ℕ) (trace : List TraceItem) → IsDoneBy (Put line (Over Done)) trace → PutsAlone line trace
put_alone line [] follows = absurd (let same : Over Done ≡ Put line (Over Done) = follows in cc)
put_alone line (HasPut bytes ∷ trace) follows = (follows.1.0, (let put = (puts_line line (HasPut bytes ∷ trace) follows).is in cc))
put_alone line (PutFailed part ∷ trace) follows =
    absurd (let put = (puts_line line (PutFailed part ∷ trace) follows).is in let never : PutFailed part ≡ HasPut (puts_line line (PutFailed part ∷ trace) follows).bytes = cc in cc)
put_alone line (item ∷ trace) follows = absurd follows.1

module _ {R W : Type 0} (view : DeviceView R W) (honest : IsTrue view.rack.honest) (g : Geometry) (first last : Devices R W)
    (all : Ran any_call (view.rack.history first.rack) (view.rack.history last.rack))
    (quiet : IsQuiet (view.rack.history first.rack) (view.rack.history last.rack))
    (going : (h : List Happening) → IsMoment (view.rack.history first.rack) h (view.rack.history last.rack) → ¬ IsTrue (stopped h)) (m : Membership)
    (lives : (j : ℕ) → IsLiveIn m j → (j < g.n) × IsLargeEnough g (slot_state (view.rack.history first.rack) j).size) (some_slot : 0 < g.n)
    (same_live : (j : ℕ) → IsLiveIn m j ↔ IsLiveAt g (view.rack.history first.rack) j) where
  abbrev before : List Happening
  before = view.rack.history first.rack

  abbrev h_of : Devices R W → List Happening
  h_of x = view.rack.history x.rack

  -- The array is open; the slots that are live to it are those of the member; and no stripe from this one on was written.
  record Ready (t : ℕ) (x : Devices R W) : Type 0 where
    array : ArrayState
    opened : x.session ≡ Opened array
    unstopped : array.stopped ≡ None
    geometry : array.member.array.geometry ≡ g
    back : (j : ℕ) → IsLiveIn array.member j → IsLiveIn m j
    on : (j : ℕ) → IsLiveIn m j → IsLiveIn array.member j
    held : (j : ℕ) → IsLiveIn m j → IsHeld (view.rack.history first.rack) (view.rack.history x.rack) j
    since : Ran any_call (view.rack.history first.rack) (view.rack.history x.rack)
    later : Ran any_call (view.rack.history x.rack) (view.rack.history last.rack)
    spared : (u i j : ℕ) → t ≤ u → i < g.r → Spared j (cell_sector g u i) (view.rack.history first.rack) (view.rack.history x.rack)

  is_there : (j : ℕ) → IsLiveIn m j → IsThere g (view.rack.history first.rack) (view.rack.history first.rack) (view.rack.history last.rack) j
  is_there j live = there g (view.rack.history first.rack) (view.rack.history last.rack) all quiet j (lives j live).1 going

  -- ---- one stripe

  module _ (t : ℕ) (x y : Devices R W) (ready : Ready t x) (ran : Ran any_call (view.rack.history x.rack) (view.rack.history y.rack))
      (rest : Ran any_call (view.rack.history y.rack) (view.rack.history last.rack)) where
    has_places : (j : ℕ) → IsLiveIn m j → IsTrue (has_sector (slot_state (h_of x) j).size 1)
    has_places j live = (is_there j live).large (h_of x) (moment_between ready.since ready.later) 1 (omega arith)

    -- what was repaired of it is what couldn't be read at first
    repaired_is : (count : ℕ) (repaired : AreRepaired ready.array.member t count (seen_of view x).told (seen_of view y).told)
        → AreBad g (view.rack.history first.rack) t repaired.cells
    repaired_is count repaired = record {
      formed = repaired.formed;
      each = λ i j. (
        λ has.
            let one = repaired.each i j has in
            let live = ready.back j one.0 in
            let was = subst (λ (q : Geometry). AtSomeMoment (λ h. is_good (content ((slot_state h j).sector (cell_sector q t i))) ≡ false) (h_of x) (h_of y))
            ready.geometry one.2 in
            let from_x = ran_before ran was.is_one in
            let to_y = ran_after ran was.is_one in (
              subst (λ (q : Geometry). i < q.r) ready.geometry one.1,
              (same_live j).0 live,
              bad_before g (view.rack.history first.rack) (view.rack.history last.rack) all quiet j (lives j live).1 (cell_sector g t i)
                  (ran_join ready.since from_x) (ran_join to_y rest) was.holds,
            ),
        λ is.
            let live = (same_live j).1 is.1 in
            let inside : i < ready.array.member.array.geometry.r = subst (λ (q : Geometry). i < q.r) (sym ready.geometry) is.0 in
            let bad = bad_then g (view.rack.history first.rack) (view.rack.history last.rack) all quiet j (lives j live).1 (cell_sector g t i)
            (ready.spared t i j (omega arith) is.0) ready.later is.2 in
            let some = large_some g (slot_state (view.rack.history first.rack) j).size (lives j live).1 in
            repaired.all (view.rack.history first.rack) i j
            (unpulled g (view.rack.history first.rack) (view.rack.history last.rack) all quiet ready.since rest j some) (ready.on j live) inside
            (ready.held j live)
            ((is_there j live).online (h_of x) (moment_between ready.since ready.later)) (has_places j live)
            (subst (λ (q : Geometry). is_good (content ((slot_state (h_of x) j).sector (cell_sector q t i))) ≡ false) (sym ready.geometry) bad),
      );
    }

    -- after it the next one is ready
    next_ready : (count : ℕ) (events : List Event) (does : Performs (ScrubStripe t) (Ok count) events (seen_of view x) (seen_of view y))
        → does.was ≡ ready.array → Ready (t + 1) y
    next_ready count events does same = record {
      array = does.is;
      opened = ended.is_open;
      unstopped = ended.unstopped;
      geometry = does.goes_on.geometry ∙ was_geometry;
      back = λ j live. ready.back j (subst (λ (a : ArrayState). IsLiveIn a.member j) same (was_live j live));
      on = λ j live. still_live j live;
      held = λ j live. held_on {allowed = any_call} j ran (ready.held j live);
      since = ran_join ready.since ran;
      later = rest;
      spared = λ u i j above inside.
          ran_join (ready.spared u i j (omega (arith, above)) inside)
          (spared_scrub g u i j inside t (Ok count) (snapshot does.was.member (seen_of view x).told) (snapshot does.is.member (seen_of view y).told) does.does
          was_geometry some_slot (λ is. omega (arith, above, is)) honest);
    }
      where
        ended : IsOpened does.is y.session
        ended = ends_open (ScrubStripe t) count does.is y.session does.ends

        was_geometry : does.was.member.array.geometry ≡ g
        was_geometry = ap (λ (a : ArrayState). a.member.array.geometry) same ∙ ready.geometry

        -- a slot that is live then was so before
        live_by : (j : ℕ) → WhyGoesOn (ScrubStripe t) (seen_of view x).told (seen_of view y).told does.was.member does.is.member j → why_of does.is.member j ≡ why.Here
            → why_of does.was.member j ≡ why.Here
        live_by j (WhyGoesOn.Stays is) here = sym is ∙ here
        live_by j (WhyGoesOn.Went gone was) here = let never : why.Gone ≡ why.Here = sym gone ∙ here in absurd (cc)
        live_by j (WhyGoesOn.IsAdmitted replaces is) here = let never = replaces in absurd (cc)
        live_by j (WhyGoesOn.IsPromoted rebuilds was is) here = let never = rebuilds in absurd (cc)

        was_live : (j : ℕ) → IsLiveIn does.is.member j → IsLiveIn does.was.member j
        was_live j live =
            let below : j < does.was.member.array.geometry.n = subst (λ (q : Geometry). j < q.n) does.goes_on.geometry live.below in
            record { below = below; why = live_by j (does.goes_on.whys j below) live.why }

        -- and one that was live is live then, since it was gone to no call
        still_live : (j : ℕ) → IsLiveIn m j → IsLiveIn does.is.member j
        still_live j live =
            let was : IsLiveIn does.was.member j = subst (λ (a : ArrayState). IsLiveIn a.member j) (sym same) (ready.on j live) in
            record {
              below = subst (λ (q : Geometry). j < q.n) (sym does.goes_on.geometry) was.below;
              why = by (does.goes_on.whys j was.below) was.why;
            }
          where
            gone : (j < does.was.member.array.geometry.n) → WasGoneTo does.was.member j (seen_of view x).told (seen_of view y).told → ⊥
            gone below = not_gone g (view.rack.history first.rack) (view.rack.history last.rack) does.was j (seen_of view x).told (seen_of view y).told (record {
              from = view.rack.history first.rack;
              there = is_there j live;
              held = ready.held j live;
              since = ready.since;
              ran = ran;
              later = rest;
              honest = honest;
              geometry = was_geometry;
              below = below;
            })

            by : WhyGoesOn (ScrubStripe t) (seen_of view x).told (seen_of view y).told does.was.member does.is.member j → why_of does.was.member j ≡ why.Here
                → why_of does.is.member j ≡ why.Here
            by (WhyGoesOn.Stays is) here = is ∙ here
            by (WhyGoesOn.Went lost was) here = absurd (gone (below_here lost) was)
              where
                below_here : {T : Type 0} → T → j < does.was.member.array.geometry.n
                below_here any = subst (λ (a : ArrayState). j < a.member.array.geometry.n) (sym same) (ready.on j live).below
            by (WhyGoesOn.IsAdmitted replaces is) here = let never = replaces in absurd (cc)
            by (WhyGoesOn.IsPromoted rebuilds was is) here = is

  -- ---- all stripes

  pub record Counts (t left cells : ℕ) (trace : List TraceItem) : Type 0 where
    pub bad : List CellSet
    pub long : length bad ≡ left
    pub are : AreBadFrom g (view.rack.history first.rack) t bad
    pub put : PutsAlone (scrubbed_line (t + left) (cells + cells_in bad)) trace

  count_all : (slots : Geometry) (left t cells : ℕ) (trace : List TraceItem) → IsDoneBy (scrubs slots t left cells) trace → (x : Devices R W)
      → AlongTrace (WorksAll view) trace x last → Ready t x → Counts t left cells trace
  count_all slots zero t cells trace follows x works ready = record {
    bad = [];
    long = refl;
    are = tt;
    put = subst (λ line. PutsAlone line trace) same (put_alone (scrubbed_line t cells) trace follows);
  }
    where
      same : scrubbed_line t cells ≡ scrubbed_line (t + 0) (cells + 0)
      same = ap (λ n. scrubbed_line n cells) (omega arith) ∙ ap (scrubbed_line (t + 0)) (omega arith)
  count_all slots (suc left) t cells trace follows x works ready =
      one (λ count rest follows y works ready. count_all slots left (t + 1) (cells + count) rest follows y works ready)
      (step_first slots.n (ScrubStripe t) (λ count. scrubs slots (t + 1) left (cells + count)) trace follows)
    where
      one : ((count : ℕ) (rest : List TraceItem) → IsDoneBy (scrubs slots (t + 1) left (cells + count)) rest → (y : Devices R W)
          → AlongTrace (WorksAll view) rest y last → Ready (t + 1) y → Counts (t + 1) left (cells + count) rest)
          → StepFirst (ScrubStripe t) (λ count. scrubs slots (t + 1) left (cells + count)) trace → Counts t (suc left) cells trace
      one behind step = taken step (subst (λ (l : List TraceItem). AlongTrace (WorksAll view) l x last) step.is works)
        where
          taken : (step : StepFirst (ScrubStripe t) (λ count. scrubs slots (t + 1) left (cells + count)) trace)
              → AlongTrace (WorksAll view) (Stepped (ScrubStripe t) (Ok step.given) step.events step.left ∷ step.rest) x last → Counts t (suc left) cells trace
          taken step works =
              elim works.1.0 [
                | inl does ↦
                    let began = started does in
                    let ran = one_ran view honest (Stepped (ScrubStripe t) (Ok step.given) step.events step.left) x works.0 works.1 in
                    let rest = works_ran view honest step.rest works.0 last works.2 in
                    let repaired = subst (λ (a : ArrayState). AreRepaired a.member t step.given (seen_of view x).told (seen_of view works.0).told) began
                    (does.repaired honest) in
                    let later = behind step.given step.rest step.follows works.0 works.2
                    (next_ready t x works.0 ready ran rest step.given step.events does began) in
                    joined step repaired.cells repaired.number (repaired_is t x works.0 ready ran rest step.given repaired) later
                | inr stopped ↦ absurd (never_stopped stopped)
              ]
            where
              started : (does : Performs (ScrubStripe t) (Ok step.given) step.events (seen_of view x) (seen_of view works.0)) → does.was ≡ ready.array
              started does =
                  let began = starts_open (ScrubStripe t) (λ is. cc) does.was x.session does.starts in
                  let both : Opened does.was ≡ Opened ready.array = sym began.is_open ∙ ready.opened in
                  cc

              never_stopped : AnswersStopped (ScrubStripe t) (Ok step.given) step.events (seen_of view x) (seen_of view works.0) → ⊥
              never_stopped stopped =
                  let both : Opened stopped.array ≡ Opened ready.array = sym stopped.is_open ∙ ready.opened in
                  let same : stopped.array ≡ ready.array = cc in
                  let never : Some stopped.fault ≡ None = sym stopped.stopped ∙ ap (λ (a : ArrayState). a.stopped) same ∙ ready.unstopped in
                  cc

              joined : (step : StepFirst (ScrubStripe t) (λ count. scrubs slots (t + 1) left (cells + count)) trace) (found : CellSet) → cell_count found ≡ step.given
                  → AreBad g (view.rack.history first.rack) t found → Counts (t + 1) left (cells + step.given) step.rest → Counts t (suc left) cells trace
              joined step found number are later = record {
                bad = found ∷ later.bad;
                long = ap suc later.long;
                are = (are, later.are);
                put = subst (PutsAlone (scrubbed_line (t + suc left) (cells + (cell_count found + cells_in later.bad)))) (sym step.is)
                    (subst (λ line. PutsAlone line step.rest)
                    (ap (λ n. scrubbed_line n (cells + step.given + cells_in later.bad)) (omega arith)
                    ∙ ap (scrubbed_line (t + suc left)) (omega (arith, number))) later.put);
              }

-- ---- the opening

same_line : (stripes cells : ℕ) → scrubbed_line (0 + stripes) (0 + cells) ≡ scrubbed_line stripes cells
same_line stripes cells = ap (λ n. scrubbed_line n (0 + cells)) (omega arith) ∙ ap (scrubbed_line stripes) (omega arith)

abbrev IsTold : State → List Happening → List Happening → List TraceItem → Type 0
IsTold s first last trace = (count : ℕ) × IsExact s.geometry first count × PutsAlone (scrubbed_line s.geometry.stripes count) trace

module _ {R W : Type 0} (view : DeviceView R W) (honest : IsTrue view.rack.honest) (s : State) (m : Membership) (g : Geometry) (events : List Event) (left : Bool)
    (rest : List TraceItem) (x mid z y : Devices R W) (surveys : Surveys (Ok m) (told_of view.rack x.rack) (told_of view.rack mid.rack))
    (is_found : mid.session ≡ Found m) (opens : WorksAll view (Stepped Recover (Ok g) events left) mid z) (works : AlongTrace (WorksAll view) rest z y)
    (rack : IsUndisturbed s (view.rack.history x.rack) (view.rack.history y.rack)) where
  abbrev h_at : Devices R W → List Happening
  h_at d = view.rack.history d.rack

  asked : Ran LeavesSectors (h_at x) (h_at mid)
  asked = asked_ran 32 (h_at x) (h_at mid) (surveys.asked honest)

  opened_ran : Ran any_call (h_at mid) (h_at z)
  opened_ran = one_ran view honest (Stepped Recover (Ok g) events left) mid z opens

  rest_ran : Ran any_call (h_at z) (h_at y)
  rest_ran = works_ran view honest rest z y works

  after_ran : Ran any_call (h_at mid) (h_at y)
  after_ran = ran_join opened_ran rest_ran

  to_z : Ran any_call (h_at x) (h_at z)
  to_z = ran_join (ran_any asked) opened_ran

  all_ran : Ran any_call (h_at x) (h_at y)
  all_ran = ran_join to_z rest_ran

  until : IsMoment (h_at x) (h_at mid) (h_at y)
  until = moment_between (ran_any asked) after_ran

  going : (h : List Happening) → IsMoment (h_at x) h (h_at y) → ¬ IsTrue (stopped h)
  going h at = goes_on_within s.geometry (h_at x) h (rack.tolerated h at)

  finds : FindsArray s (Ok m) (h_at x) (h_at x) (h_at mid)
  finds =
      finds_array s (h_at x) (told_of view.rack x.rack) (told_of view.rack mid.rack) (Ok m) surveys honest (ran_none (h_at x)) rack.represents
      (each_before rack.returned until) (λ h is. rack.tolerated h (moment_sooner is until))

  same_member : m ≡ finds.member
  same_member = let is = finds.found in cc

  geometry : m.array.geometry ≡ s.geometry
  geometry = ap (λ (n : Membership). n.array.geometry) same_member ∙ finds.identity

  -- what the opening did
  performs : Performs Recover (Ok g) events (seen_of view mid) (seen_of view z)
  performs =
      elim opens.0 [
        | inl does ↦ does
        | inr stopped ↦ absurd (let never : Found m ≡ Opened stopped.array = sym is_found ∙ stopped.is_open in cc)
      ]

  was_found : performs.was ≡ unopened m
  was_found = subst (λ (session : Phase). StartsFrom Recover performs.was session) is_found performs.starts

  was_member : performs.was.member ≡ m
  was_member = ap (λ (a : ArrayState). a.member) was_found

  rules : IsMembership m
  rules = subst KeepsRules is_found opens.3

  last : Membership
  last = performs.is.member

  recovers : Recovers (Ok g) (snapshot m (told_of view.rack mid.rack)) (snapshot performs.is.member (told_of view.rack z.rack))
  recovers =
      subst (λ (n : Membership). Recovers (Ok g) (snapshot n (told_of view.rack mid.rack)) (snapshot performs.is.member (told_of view.rack z.rack))) was_member
      performs.does

  part : IsPart 1 (snapshot m (told_of view.rack mid.rack)) (snapshot performs.is.member (told_of view.rack z.rack))
  part = recovered_part (Ok g) (snapshot m (told_of view.rack mid.rack)) (snapshot performs.is.member (told_of view.rack z.rack)) recovers rules

  last_geometry : performs.is.member.array.geometry ≡ s.geometry
  last_geometry = part.geometry ∙ geometry

  back : (j : ℕ) → IsLiveIn performs.is.member j → IsLiveIn m j
  back j live = live_back 1 (snapshot m (told_of view.rack mid.rack)) (snapshot performs.is.member (told_of view.rack z.rack)) part j live

  -- a slot that was found live
  module _ (j : ℕ) (live : IsLiveIn m j) where
    below : j < s.geometry.n
    below = subst (λ (q : Geometry). j < q.n) geometry live.below

    live_first : IsLiveAt s.geometry (h_at x) j
    live_first = finds.live j below (subst (λ (n : Membership). why_of n j ≡ why.Here) same_member live.why)

    large : IsLargeEnough s.geometry (slot_state (h_at x) j).size
    large =
        let image = rack.represents.each (image_now (h_at x)) (IsImageOf.Left (CrashMayLeave-now (h_at x))) in
        image.full j (live_first (image_now (h_at x)) (CrashMayLeave-now (h_at x)) image.current image.is_current)

    held_mid : IsHeld (h_at x) (h_at mid) j
    held_mid = (surveys.found.each j small).held honest not_lost (h_at x) (ran_none (h_at x))
      where
        small : j < 32
        small =
            let drawn = surveys.answered.0.drawn in
            let slots = (counts_limits m.array.geometry surveys.findings.image drawn.slot drawn.super drawn.counts).devices.1 in
            let under = live.below in
            omega (arith, under, slots)

        not_lost : ¬ HasSlot surveys.findings.gone j
        not_lost = (surveys.answered.0.reasons j live.below).first why.Gone (omega (arith, ap rank live.why))

    held_last : IsHeld (h_at x) (h_at z) j
    held_last = held_on {allowed = any_call} j opened_ran held_mid

    -- its gate isn't open as long as it isn't written
    stays_closed : (redo : Redo) (h : List Happening) → Spared j gate_sector (h_at mid) h → Ran any_call h (h_at z)
        → ¬ (content ((slot_state h j).sector gate_sector) ≡ Good (open_gate m.array.geometry redo))
    stays_closed redo h spared later is_open =
        rack.gates j redo live_first
        (subst (λ (q : Geometry). content ((slot_state (h_at x) j).sector gate_sector) ≡ Good (open_gate q redo)) geometry
        (held_before j gate_sector (large_some s.geometry (slot_state (h_at x) j).size large)
        (unpulled s.geometry (h_at x) (h_at y) all_ran rack.quiet (ran_none (h_at x)) (ran_join later rest_ran) j
        (large_some s.geometry (slot_state (h_at x) j).size large))
        (open_gate m.array.geometry redo) (ran_join (spared_asked j gate_sector asked) spared) is_open))

  lives : (j : ℕ) → IsLiveIn performs.is.member j → (j < s.geometry.n) × IsLargeEnough s.geometry (slot_state (h_at x) j).size
  lives j live = (below j (back j live), large j (back j live))

  -- each cell of a stripe is as it was
  cells_spared : (t i j : ℕ) → i < s.geometry.r → Spared j (cell_sector s.geometry t i) (h_at x) (h_at z)
  cells_spared t i j inside =
      ran_join (spared_asked j (cell_sector s.geometry t i) asked)
      (opening_spares (Ok g) g (snapshot m (told_of view.rack mid.rack)) (snapshot performs.is.member (told_of view.rack z.rack)) recovers refl rules honest
      (λ slot redo live h spared later. stays_closed slot live redo h spared later) j (cell_sector s.geometry t i) (omega arith)
      (gate_none s.geometry t i j inside closed_gate))

  some_slot : 0 < s.geometry.n
  some_slot = let slots = rules.array.limits.devices.0 in omega (arith, slots, ap (λ (q : Geometry). q.n) geometry)

  -- a slot that was live is found so, and is live then
  module _ (j : ℕ) (live : IsLiveAt s.geometry (h_at x) j) where
    found_live : IsLiveIn m j
    found_live = record {
      below = subst (λ (q : Geometry). j < q.n) (sym geometry) (live_now.below);
      why = live_found s (told_of view.rack x.rack) (told_of view.rack mid.rack) surveys.findings surveys.found honest (surveys.began honest)
          (unwritten_ran asked) rack.represents (each_before rack.returned until) (λ h is. rack.tolerated h (moment_sooner is until))
          (undamaged s.geometry (h_at x) (h_at y) all_ran rack.quiet (ran_none (h_at x)) (ran_any asked) after_ran)
          (λ i some. unpulled s.geometry (h_at x) (h_at y) all_ran rack.quiet (ran_none (h_at x)) after_ran i some) m surveys.answered.0 image.current j
          image.is_current live_now;
    }
      where
        image : ImageRepresents s rack.represents.encodings (image_now (h_at x))
        image = rack.represents.each (image_now (h_at x)) (IsImageOf.Left (CrashMayLeave-now (h_at x)))

        live_now : IsLive s.geometry (image_now (h_at x)) image.current j
        live_now = live (image_now (h_at x)) (CrashMayLeave-now (h_at x)) image.current image.is_current

    was_live : IsLiveIn performs.was.member j
    was_live = subst (λ (n : Membership). IsLiveIn n j) (sym was_member) found_live

    was_gone : WasGoneTo performs.was.member j (told_of view.rack mid.rack) (told_of view.rack z.rack) → ⊥
    was_gone = not_gone s.geometry (h_at x) (h_at y) performs.was j (told_of view.rack mid.rack) (told_of view.rack z.rack) (record {
      from = h_at x;
      there = there s.geometry (h_at x) (h_at y) all_ran rack.quiet j (large j found_live) going;
      held = held_mid j found_live;
      since = ran_any asked;
      ran = opened_ran;
      later = rest_ran;
      honest = honest;
      geometry = ap (λ (n : Membership). n.array.geometry) was_member ∙ geometry;
      below = was_live.below;
    })

    by : WhyGoesOn Recover (told_of view.rack mid.rack) (told_of view.rack z.rack) performs.was.member performs.is.member j
        → why_of performs.is.member j ≡ why.Here
    by (WhyGoesOn.Stays is) = is ∙ was_live.why
    by (WhyGoesOn.Went lost was) = absurd (was_gone was)
    by (WhyGoesOn.IsAdmitted replaces is) = let never = replaces in absurd (cc)
    by (WhyGoesOn.IsPromoted rebuilds was is) = is

    stays_live : IsLiveIn performs.is.member j
    stays_live = record {
      below = subst (λ (q : Geometry). j < q.n) (sym (last_geometry ∙ sym geometry)) found_live.below;
      why = by (performs.goes_on.whys j was_live.below);
    }

  -- so the slots that are live to the array then are those that were live at first
  are_live : (j : ℕ) → IsLiveIn performs.is.member j ↔ IsLiveAt s.geometry (h_at x) j
  are_live j = (λ live. live_first j (back j live), λ live. stays_live j live)

  ready : Ready view honest s.geometry x y all_ran rack.quiet going performs.is.member lives some_slot are_live 0 z
  ready =
      let ended = ends_open Recover g performs.is z.session performs.ends in
      record {
        array = performs.is;
        opened = ended.is_open;
        unstopped = ended.unstopped;
        geometry = last_geometry;
        back = λ j live. live;
        on = λ j live. live;
        held = λ j live. held_last j (back j live);
        since = to_z;
        later = rest_ran;
        spared = λ t i j from inside. cells_spared t i j inside;
      }

  given_geometry : g ≡ s.geometry
  given_geometry = performs.allowed ∙ ap (λ (n : Membership). n.array.geometry) was_member ∙ geometry

  counted : IsDoneBy (scrubs g 0 g.stripes 0) rest → IsTold s (h_at x) (h_at y) rest
  counted follows =
      let counts = count_all view honest s.geometry x y all_ran rack.quiet going performs.is.member lives some_slot are_live g g.stripes 0 0 rest follows z works ready in (
        cells_in counts.bad,
        record {
          bad = counts.bad;
          stripes = counts.long ∙ ap (λ (q : Geometry). q.stripes) given_geometry;
          are = counts.are;
          sum = refl;
        },
        subst (λ (q : Geometry). PutsAlone (scrubbed_line q.stripes (cells_in counts.bad)) rest) given_geometry
            (subst (λ line. PutsAlone line rest) (same_line g.stripes (cells_in counts.bad)) counts.put),
      )

-- ---- every call

-- what was put out is held then
line_held : {K : Type 0} (sink : SinkView K) (line : List ℕ) (trace : List TraceItem) (x y : K) → PutsAlone line trace → AlongTrace (Holds sink) trace x y
    → Appends (sink.held x) (sink.held y) line
line_held sink line [] x y alone holds = absurd alone
line_held sink line (HasPut bytes ∷ trace) x y alone holds =
    let end : y ≡ holds.0 = subst (λ (l : List TraceItem). AlongTrace (Holds sink) l holds.0 y) alone.1 holds.2 in
    subst (λ (bytes : List ℕ). Appends (sink.held x) (sink.held y) bytes) alone.0
    (subst (λ k. Appends (sink.held x) (sink.held k) bytes) (sym end) holds.1.0)
line_held sink line (PutFailed bytes ∷ trace) x y alone holds = absurd alone
line_held sink line (item ∷ trace) x y alone holds =
    subst (λ k. Appends (sink.held k) (sink.held y) line) holds.1 (line_held sink line trace holds.0 y alone holds.2)

opened_told : {R W : Type 0} (view : DeviceView R W) (honest : IsTrue view.rack.honest) (s : State) (asked : Question) (m : Membership) (g : Geometry)
    (events : List Event) (left : Bool) (rest : List TraceItem) (x y : Devices R W) → AlongTrace (WorksAll view) (opened_trace asked m g events left rest) x y
    → IsDoneBy (scrubs g 0 g.stripes 0) rest → IsUndisturbed s (view.rack.history x.rack) (view.rack.history y.rack)
    → IsTold s (view.rack.history x.rack) (view.rack.history y.rack) (opened_trace asked m g events left rest)
opened_told view honest s question m g events left rest x y works follows rack =
    counted view honest s m g events left rest x works.2.2.0 works.2.2.2.2.0 y
    (subst (λ (d : Devices _ _). Surveys (Ok m) (told_of view.rack d.rack) (told_of view.rack works.2.2.0.rack)) (works.2.1 ∙ works.1) works.2.2.1.0)
    works.2.2.1.2
    (subst (λ (d : Devices _ _). WorksAll view (Stepped Recover (Ok g) events left) d works.2.2.2.2.0) works.2.2.2.1 works.2.2.2.2.1) works.2.2.2.2.2 rack
    follows

pub scrubs_are_counted : (R W S K : Type 0) → ScrubsAreCounted R W S K
scrubs_are_counted R W S K view streams words status a b x y watchers left spells whole honest done s rack =
    let with = whole.with in
    let opens = opens_first (λ g. scrubs g 0 g.stripes 0) words Scrub spells refl with.means.trace
    (subst (λ (t : Status). AlongTrace StepsProgram with.means.trace (program_of words) (Over t)) done with.means.follows) in
    let told = opened_told view honest s opens.asked opens.member opens.g opens.events opens.left opens.rest (devices x Begun watchers)
    (devices y whole.session left) (subst (λ (l : List TraceItem). AlongTrace (WorksAll view) l (devices x Begun watchers) (devices y whole.session left)) opens.is with.works)
    opens.follows rack in (
      told.0,
      told.1,
      line_held streams.sink (scrubbed_line s.geometry.stripes told.0) with.means.trace a.sink b.sink
          (subst (PutsAlone (scrubbed_line s.geometry.stripes told.0)) (sym opens.is) told.2) with.means.bears.holds,
    )
