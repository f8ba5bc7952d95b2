-- The laws over the life of an array: by the trace of each call, and from one call to the next.
use Rattle.std.proofs.Common.{◌≡◌, ◌∙◌, ◌++◌, ◌⊎◌, ℕ, List, [], ◌∷◌, None, append_assoc, inl, inr, refl, sym, ap, subst}
use Rattle.std.specs.Prelude.{IsSome, IsTrue}
use Rattle.stair_model.specs.Geometry.{Geometry}
use Rattle.stair_rack.specs.Answers.{IsHistory, Ran, any_call}
use Rattle.stair_rack.specs.Crash.{CrashMayLeave, EachImage}
use Rattle.stair_rack.specs.History.{Happening, Made, SlotCall}
use Rattle.stair_rack.specs.Media.{Image}
use Rattle.stair_rack.specs.Moments.{IsMoment}
use Rattle.stair_rack.proofs.MomentLemmas.{moment_first, ran_before, ran_none}
use Rattle.stair_rack.proofs.TidyLemmas.{history_made, history_on, history_tidy, left_past_end}
use Rattle.stair_member.specs.Membership.{Membership}
use Rattle.stair_member.specs.Seats.{Seats}
use Rattle.stair_state.specs.Holding.{IsConsistentUnderReassembly}
use Rattle.stair_state.specs.Reassembly.{Location}
use Rattle.stair_state.specs.Represents.{no_write}
use Rattle.stair_state.specs.State.{State, without_seats}
use Rattle.stair_invariant.specs.InSession.{IsBehindPlaces}
use Rattle.stair_invariant.specs.Returning.{AnyReturns, StandsFor}
use Rattle.stair_array.specs.Machine.{CutWithin, Step}
use Rattle.stair_array.specs.Promise.{Begun, Found, IsOpenFor, ServesState, Phase}
use Rattle.stair_array.proofs.KeepLemmas.{no_writes}
use Rattle.stair_command.specs.Devices.{DeviceView, Devices, WorksAll, devices, seen_of}
use Rattle.stair_command.specs.Headline.{RefinesProgram}
use Rattle.stair_command.specs.Outside.{Outside, Views}
use Rattle.stair_command.specs.Program.{Program}
use Rattle.stair_command.specs.Run.{StaysWithinToleranceUpTo, IsSafe, IsUpTo, TraceLeads, history_of, now}
use Rattle.stair_command.specs.Sessions.{Calls, Cut, Ends, IsLived, Starts, turns_of}
use Rattle.stair_command.specs.Trace.{TraceItem, AlongTrace}
use Rattle.stair_command.proofs.HeadlineLaws.{all_lead}
use Rattle.stair_command.proofs.PerformedLaws.{all_performed}
use Rattle.stair_command.proofs.RunLaws.{IsAt, IsStoppedBy, RunsOn, forgets, runs_on, works_ran}
use Rattle.stair_command.proofs.SessionLaws.{calls_are_lived, life_geometry, runs_are_lived}
use Rattle.stair_reinsert_examples.proofs.RefusedLemmas.{left_there}
use Rattle.stair_lives.specs.Stale.{ComesTo, IsLeftOut, IsNeverLive, IsNewest, IsOpenBy, IsReplacedIn, NamesOnce, NoneIsAdded, StandsSince}
use Rattle.stair_lives.proofs.BehindPlaces.{knows_behind}
use Rattle.stair_lives.proofs.Known.{IsKnown, here_up, up_here}
use Rattle.stair_lives.proofs.NewestLemmas.{knows_newest, left_newest, left_out_stays, looked_newest}
use Rattle.stair_lives.proofs.SessionLine.{Follows, SessionFollows, trace_follows}

-- DEEDS OF TWO PARTS

replaced_first : (j : ℕ) (one two : List TraceItem) → IsReplacedIn j one → IsReplacedIn j (one ++ two)
replaced_first j [] two has = absurd has
replaced_first j (item ∷ one) two (inl admits) = inl admits
replaced_first j (item ∷ one) two (inr has) = inr (replaced_first j one two has)

replaced_then : (j : ℕ) (one two : List TraceItem) → IsReplacedIn j two → IsReplacedIn j (one ++ two)
replaced_then j [] two has = has
replaced_then j (item ∷ one) two has = inr (replaced_then j one two has)

-- A PART OF A STORY

upto_then : {a b c : List Happening} → IsUpTo a b → IsUpTo b c → IsUpTo a c
upto_then {a} {b} {c} one two = record {
  before = [];
  later = two.later ++ one.later;
  from = refl;
  to = two.to ∙ ap (λ (h : List Happening). two.later ++ h) one.to ∙ sym (append_assoc two.later one.later a);
}

upto_ran : {allowed : ℕ → SlotCall → Type 0} {old new : List Happening} → Ran allowed old new → IsUpTo old new
upto_ran ran = moment_first ran.more ran.is

module _ {R W : Type 0} (view : DeviceView R W) where
  part_works : (trace : List TraceItem) (x y : Devices R W) (works : AlongTrace (WorksAll view) trace x y) (done : List TraceItem) (here : Devices R W)
      → ComesTo view trace x y works done here → AlongTrace (WorksAll view) done x here
  part_works trace x y works [] here comes = comes
  part_works [] x y works (one ∷ done) here comes = absurd comes
  part_works (item ∷ trace) x y works (one ∷ done) here comes = (
    works.0,
    subst (λ (d : TraceItem). WorksAll view d x works.0) (sym comes.0) works.1,
    part_works trace works.0 y works.2 done here comes.1,
  )

  -- what is asked of the outside was kept over it
  part_calm : (g : Geometry) (before c : List Happening) (trace : List TraceItem) (x y : Devices R W) (works : AlongTrace (WorksAll view) trace x y)
      (done : List TraceItem) (here : Devices R W) (comes : ComesTo view trace x y works done here) → IsUpTo (history_of view here) c
      → StaysWithinToleranceUpTo view AnyReturns g before c trace x y works
      → StaysWithinToleranceUpTo view AnyReturns g before (history_of view here) done x here (part_works trace x y works done here comes)
  unfolding part_works
  part_calm g before c trace x y works [] here comes upto calm = tt
  part_calm g before c [] x y works (one ∷ done) here comes upto calm = absurd comes
  part_calm g before c (item ∷ trace) x y works (one ∷ done) here comes upto calm = (
    λ h at sooner. calm.0 h at (upto_then sooner upto),
    part_calm g before c trace works.0 y works.2 done here comes.1 upto calm.1,
  )

-- ONE CALL

-- a member's epoch is the newest at h, and its marks are known
pub record IsLast (g : Geometry) (m : Membership) (h : List Happening) : Type 0 where
  pub newest : IsNewest g m h
  pub known : IsKnown m

-- what is newest, and which media are meant since the first member
pub record HasStood (g : Geometry) (m last : Membership) (trace_items : List TraceItem) (h : List Happening) : Type 0 where
  pub is : IsLast g last h
  pub line : NoneIsAdded m last trace_items

module _ {R W : Type 0} (view : DeviceView R W) (honest : IsTrue view.rack.honest) (s : State) (trace : List TraceItem) (x y : Devices R W)
    (works : AlongTrace (WorksAll view) trace x y) (history : IsHistory (history_of view x)) (begun : x.session ≡ Begun)
    (stands : StandsFor AnyReturns s (history_of view x))
    (calm : StaysWithinToleranceUpTo view AnyReturns s.geometry (history_of view x) (history_of view y) trace x y works) where
  begins : IsAt view AnyReturns (history_of view x) (without_seats s) None x
  begins = record {
    is_in = record {
      stands = forgets AnyReturns s (history_of view x) stands;
      serves =
          subst (λ (session : Phase). ServesState AnyReturns (history_of view x) (without_seats s) session (seen_of view x).told) (sym begun) (refl, refl);
    };
    kept = subst (λ (session : Phase). IsStoppedBy session None) (sym begun) refl;
  }

  led : TraceLeads AnyReturns view trace x y works
  led = all_lead AnyReturns view (all_performed AnyReturns) trace x y works

  run : RunsOn view honest AnyReturns (history_of view x) (without_seats s) None trace x y
  run = runs_on view honest AnyReturns (history_of view x) (without_seats s) None trace x y works led history begins calm

  -- an array that is open knows the newest epoch
  open_last : (m : Membership) → IsOpenBy y.session m → IsLast s.geometry m (history_of view y)
  open_last m serves = by (subst (λ (session : Phase). ServesState AnyReturns (history_of view x) run.state session (seen_of view y).told) serves.1 run.is_at.is_in.serves)
    where
      some_not : serves.0.stopped ≡ None → IsSome serves.0.stopped → ⊥
      some_not none some = cc

      last_of : IsOpenFor AnyReturns (history_of view x) run.state serves.0 (history_of view y) → IsLast s.geometry serves.0.member (history_of view y)
      last_of is = record {
        newest =
            subst (λ (g : Geometry). IsNewest g serves.0.member (history_of view y)) run.geometry
            (knows_newest run.state serves.0.member (history_of view y) is.knows is.geometry);
        known = record { rules = is.is_open.array.member; marks = is.is_open.array.marks };
      }

      by : IsOpenFor AnyReturns (history_of view x) run.state serves.0 (history_of view y) ⊎ IsSome serves.0.stopped → IsLast s.geometry m (history_of view y)
      by (inl is) = subst (λ (k : Membership). IsLast s.geometry k (history_of view y)) serves.3 (last_of is)
      by (inr stopped) = absurd (some_not serves.2 stopped)

  -- also while no superblock place is written from then on
  open_behind : (m : Membership) → IsOpenBy y.session m → (c : List Happening) → Ran IsBehindPlaces (history_of view y) c → IsNewest s.geometry m c
  open_behind m serves c behind =
      by (subst (λ (session : Phase). ServesState AnyReturns (history_of view x) run.state session (seen_of view y).told) serves.1 run.is_at.is_in.serves)
    where
      some_not : serves.0.stopped ≡ None → IsSome serves.0.stopped → ⊥
      some_not none some = cc

      by : IsOpenFor AnyReturns (history_of view x) run.state serves.0 (history_of view y) ⊎ IsSome serves.0.stopped → IsNewest s.geometry m c
      by (inl is) =
          subst (λ (k : Membership). IsNewest s.geometry k c) serves.3
          (subst (λ (g : Geometry). IsNewest g serves.0.member c) run.geometry
          (knows_behind run.state serves.0.member (history_of view y) c is.knows is.geometry
          (record { rules = is.is_open.array.member; marks = is.is_open.array.marks }) behind))
      by (inr stopped) = absurd (some_not serves.2 stopped)

  -- the array is found by the newest epoch
  found_last : (last : Membership) → IsNewest s.geometry last (history_of view x) → (found : Membership) → y.session ≡ Found found
      → found.array ≡ last.array
  found_last last newest found is_found =
      subst (SessionFollows last.array (λ j. IsReplacedIn j trace)) is_found
      (trace_follows view honest last s.geometry (history_of view x) newest (λ j. IsReplacedIn j trace) (without_seats s) None trace x y works led history
      begins refl calm (λ j has. has) (subst (SessionFollows last.array (λ j. IsReplacedIn j trace)) (sym begun) tt))

  -- and what it means was meant when the call began
  open_stood : (m last now : Membership) (trace_items : List TraceItem) → HasStood s.geometry m last trace_items (history_of view x) → IsOpenBy y.session now
      → HasStood s.geometry m now (trace_items ++ trace) (history_of view y)
  open_stood m last now trace_items stood serves = record { is = is_last; line = line }
    where
      is_last : IsLast s.geometry now (history_of view y)
      is_last = open_last now serves

      follows : Follows last.array (λ j. IsReplacedIn j trace) now.array
      follows =
          subst (λ (k : Membership). Follows last.array (λ j. IsReplacedIn j trace) k.array) serves.3
          (subst (SessionFollows last.array (λ j. IsReplacedIn j trace)) serves.1
          (trace_follows view honest last s.geometry (history_of view x) stood.is.newest (λ j. IsReplacedIn j trace) (without_seats s) None trace x y works
          led history begins refl calm (λ j has. has)
          (subst (SessionFollows last.array (λ j. IsReplacedIn j trace)) (sym begun) tt)) serves.2)

      line : NoneIsAdded m now (trace_items ++ trace)
      line j here =
          elim (follows j (up_here now is_last.known j here)) [
            | inl was ↦
                elim (stood.line j (here_up last stood.is.known j was.0)) [
                  | inl meant ↦ inl (record { here = meant.here; number = was.1 ∙ meant.number })
                  | inr before ↦ inr (replaced_first j trace_items trace before)
                ]
            | inr added ↦ inr (replaced_then j trace_items trace added)
          ]

-- FROM CALL TO CALL

own_line : (m : Membership) → NoneIsAdded m m []
own_line m j here = inl (record { here = here; number = refl })

looked_stood : (g : Geometry) (m last : Membership) (trace_items : List TraceItem) (old new : List Happening) → HasStood g m last trace_items old → Ran no_write old new
    → HasStood g m last trace_items new
looked_stood g m last trace_items old new stood looks = record {
  is = record { newest = looked_newest g last old new stood.is.newest looks; known = stood.is.known };
  line = stood.line;
}

module _ {R W S K : Type 0} (view : DeviceView R W) (streams : Views S K) (first : State) (honest : IsTrue view.rack.honest) where
  -- what has happened is a history
  pub life_history : (h : List Happening) → Calls view streams AnyReturns first h → IsHistory h
  life_history h (Starts h' history stands) = history
  life_history h (Ends later program rest old new x y watchers left calls borne calm acted between) =
      history_on (history_on (life_history (view.rack.history x) calls)
      (works_ran view honest borne.over.means.trace (devices x Begun watchers) (devices y borne.session left) borne.over.works)) acted
  life_history h (Cut c image later program rest old new x y watchers left calls borne at calm crash acted between) = history_on (history_made image) acted

  module _ (x : R) (calls : Calls view streams AnyReturns first (view.rack.history x)) (trace : List TraceItem) (watchers : List W) (y : Devices R W)
      (works : AlongTrace (WorksAll view) trace (devices x Begun watchers) y)
      (calm : StaysWithinToleranceUpTo view AnyReturns first.geometry (view.rack.history x) (history_of view y) trace (devices x Begun watchers) y works) where
    lived : IsLived view streams AnyReturns first (view.rack.history x) calls
    lived = calls_are_lived view streams AnyReturns first honest (view.rack.history x) calls

    same : lived.state.geometry ≡ first.geometry
    same = life_geometry lived.life (without_seats first) lived.state lived.lives

    own_calm : StaysWithinToleranceUpTo view AnyReturns lived.state.geometry (view.rack.history x) (history_of view y) trace (devices x Begun watchers) y works
    own_calm =
        subst (λ (g : Geometry). StaysWithinToleranceUpTo view AnyReturns g (view.rack.history x) (history_of view y) trace (devices x Begun watchers) y works) (sym same) calm

    pub call_last : (m : Membership) → IsOpenBy y.session m → IsLast first.geometry m (history_of view y)
    call_last m serves =
        subst (λ (g : Geometry). IsLast g m (history_of view y)) same
        (open_last view honest lived.state trace (devices x Begun watchers) y works (life_history (view.rack.history x) calls) refl lived.stands own_calm m serves)

    pub call_behind : (m : Membership) → IsOpenBy y.session m → (c : List Happening) → Ran IsBehindPlaces (history_of view y) c
        → IsNewest first.geometry m c
    call_behind m serves c behind =
        subst (λ (g : Geometry). IsNewest g m c) same
        (open_behind view honest lived.state trace (devices x Begun watchers) y works (life_history (view.rack.history x) calls) refl lived.stands own_calm m serves
        c behind)

    pub call_found : (last : Membership) → IsNewest first.geometry last (view.rack.history x) → (found : Membership) → y.session ≡ Found found
        → found.array ≡ last.array
    call_found last newest found is_found =
        found_last view honest lived.state trace (devices x Begun watchers) y works (life_history (view.rack.history x) calls) refl lived.stands own_calm last
        (subst (λ (g : Geometry). IsNewest g last (view.rack.history x)) (sym same) newest) found is_found

    pub call_stood : (m last now : Membership) (trace_items : List TraceItem) → HasStood first.geometry m last trace_items (view.rack.history x) → IsOpenBy y.session now
        → HasStood first.geometry m now (trace_items ++ trace) (history_of view y)
    call_stood m last now trace_items stood serves =
        subst (λ (g : Geometry). HasStood g m now (trace_items ++ trace) (history_of view y)) same
        (open_stood view honest lived.state trace (devices x Begun watchers) y works (life_history (view.rack.history x) calls) refl lived.stands own_calm m last
        now trace_items (subst (λ (g : Geometry). HasStood g m last trace_items (view.rack.history x)) (sym same) stood) serves)

  -- after a crash
  crashed : (m last : Membership) (trace_items : List TraceItem) (c : List Happening) (image : Image) → HasStood first.geometry m last trace_items c → IsHistory c
      → CrashMayLeave c image → HasStood first.geometry m last trace_items (Made image ∷ [])
  crashed m last trace_items c image stood was left = record {
    is = record { newest = left_newest first.geometry last c image stood.is.newest was left; known = stood.is.known };
    line = stood.line;
  }

  pub calls_stood : (h : List Happening) (calls : Calls view streams AnyReturns first h) (m last : Membership) (trace_items : List TraceItem)
      → StandsSince view streams first m h calls last trace_items → HasStood first.geometry m last trace_items h
  calls_stood h (Starts h' history stands) m last trace_items since = absurd since
  calls_stood h (Ends later program rest old new x y watchers left calls borne calm acted between) m last trace_items (inl opened) =
      looked_stood first.geometry m last trace_items (view.rack.history y) later
      (subst (λ (k : Membership). HasStood first.geometry m k trace_items (view.rack.history y)) (sym opened.1)
      (subst (λ (trace : List TraceItem). HasStood first.geometry m m trace (view.rack.history y)) (sym opened.2)
      (record {
        is = call_last x calls borne.over.means.trace watchers (devices y borne.session left) borne.over.works calm m opened.0;
        line = own_line m;
      }))) acted
  calls_stood h (Ends later program rest old new x y watchers left calls borne calm acted between) m last trace_items (inr (inl (before, earlier, since, serves, are))) =
      looked_stood first.geometry m last trace_items (view.rack.history y) later
      (subst (λ (trace : List TraceItem). HasStood first.geometry m last trace (view.rack.history y)) (sym are)
      (call_stood x calls borne.over.means.trace watchers (devices y borne.session left) borne.over.works calm m before last earlier
      (calls_stood (view.rack.history x) calls m before earlier since) serves)) acted
  calls_stood h (Ends later program rest old new x y watchers left calls borne calm acted between) m last trace_items (inr (inr (unwritten, since))) =
      looked_stood first.geometry m last trace_items (view.rack.history y) later
      (looked_stood first.geometry m last trace_items (view.rack.history x) (view.rack.history y)
      (calls_stood (view.rack.history x) calls m last trace_items since)
      (no_writes {allowed = any_call}
      (works_ran view honest borne.over.means.trace (devices x Begun watchers) (devices y borne.session left) borne.over.works) unwritten)) acted
  calls_stood h (Cut c image later program rest old new x y watchers left calls borne at calm crash acted between) m last trace_items (inl (done, open_then, same, none)) =
      let trace = borne.over.means.trace in
      let from = devices x Begun watchers in
      let end = devices y borne.session left in
      let works = part_works view trace from end borne.over.works done open_then.here open_then.comes in
      let kept =
      part_calm view first.geometry (view.rack.history x) c trace from end borne.over.works done open_then.here open_then.comes
      (upto_ran {allowed = IsBehindPlaces} open_then.behind) calm in
      let ran = ran_before {allowed = any_call} (works_ran view honest trace from end borne.over.works) at in
      looked_stood first.geometry m last trace_items (Made image ∷ []) later
      (subst (λ (k : Membership). HasStood first.geometry m k trace_items (Made image ∷ [])) (sym same)
      (subst (λ (some : List TraceItem). HasStood first.geometry m m some (Made image ∷ [])) (sym none)
      (crashed m m [] c image (record {
        is = record {
          newest = call_behind x calls done watchers open_then.here works kept m open_then.opened c open_then.behind;
          known = (call_last x calls done watchers open_then.here works kept m open_then.opened).known;
        };
        line = own_line m;
      }) (history_on (life_history (view.rack.history x) calls) ran) crash))) acted
  calls_stood h (Cut c image later program rest old new x y watchers left calls borne at calm crash acted between) m last trace_items (inr (inl (before, earlier, done, since, open_then, are))) =
      let trace = borne.over.means.trace in
      let from = devices x Begun watchers in
      let end = devices y borne.session left in
      let works = part_works view trace from end borne.over.works done open_then.here open_then.comes in
      let kept =
      part_calm view first.geometry (view.rack.history x) c trace from end borne.over.works done open_then.here open_then.comes
      (upto_ran {allowed = IsBehindPlaces} open_then.behind) calm in
      let ran = ran_before {allowed = any_call} (works_ran view honest trace from end borne.over.works) at in
      let stood =
      call_stood x calls done watchers open_then.here works kept m before last earlier (calls_stood (view.rack.history x) calls m before earlier since)
      open_then.opened in
      looked_stood first.geometry m last trace_items (Made image ∷ []) later
      (subst (λ (some : List TraceItem). HasStood first.geometry m last some (Made image ∷ [])) (sym are)
      (crashed m last (earlier ++ done) c image (record {
        is = record {
          newest = call_behind x calls done watchers open_then.here works kept last open_then.opened c open_then.behind;
          known = stood.is.known;
        };
        line = stood.line;
      }) (history_on (life_history (view.rack.history x) calls) ran) crash)) acted
  calls_stood h (Cut c image later program rest old new x y watchers left calls borne at calm crash acted between) m last trace_items (inr (inr (unwritten, since))) =
      let ran =
      ran_before {allowed = any_call}
      (works_ran view honest borne.over.means.trace (devices x Begun watchers) (devices y borne.session left) borne.over.works) at in
      looked_stood first.geometry m last trace_items (Made image ∷ []) later
      (crashed m last trace_items c image
      (looked_stood first.geometry m last trace_items (view.rack.history x) c (calls_stood (view.rack.history x) calls m last trace_items since)
      (no_writes {allowed = any_call} ran unwritten)) (history_on (life_history (view.rack.history x) calls) ran) crash) acted

  -- THE LAWS

  pub never_stale : (h : List Happening) (calls : Calls view streams AnyReturns first h) (m last : Membership) (trace_items : List TraceItem)
      → StandsSince view streams first m h calls last trace_items → IsNewest first.geometry last h × NoneIsAdded m last trace_items
  never_stale h calls m last trace_items since = let stood = calls_stood h calls m last trace_items since in (stood.is.newest, stood.line)

  pub never_stale_within : (x : R) (calls : Calls view streams AnyReturns first (view.rack.history x)) (m last : Membership) (trace_items trace : List TraceItem)
      (watchers : List W) (y : Devices R W) (works : AlongTrace (WorksAll view) trace (devices x Begun watchers) y)
      → StandsSince view streams first m (view.rack.history x) calls last trace_items
      → StaysWithinToleranceUpTo view AnyReturns first.geometry (view.rack.history x) (history_of view y) trace (devices x Begun watchers) y works → (now : Membership)
      → IsOpenBy y.session now → IsNewest first.geometry now (history_of view y) × NoneIsAdded m now (trace_items ++ trace)
  never_stale_within x calls m last trace_items trace watchers y works since calm now serves =
      let stood = call_stood x calls trace watchers y works calm m last now trace_items (calls_stood (view.rack.history x) calls m last trace_items since) serves in
      (stood.is.newest, stood.line)

  pub newest_is_found : (x : R) (calls : Calls view streams AnyReturns first (view.rack.history x)) (m last : Membership) (trace_items trace : List TraceItem)
      (watchers : List W) (y : Devices R W) (works : AlongTrace (WorksAll view) trace (devices x Begun watchers) y)
      → StandsSince view streams first m (view.rack.history x) calls last trace_items
      → StaysWithinToleranceUpTo view AnyReturns first.geometry (view.rack.history x) (history_of view y) trace (devices x Begun watchers) y works
      → (found : Membership) → y.session ≡ Found found → found.array ≡ last.array
  newest_is_found x calls m last trace_items trace watchers y works since calm found is_found =
      call_found x calls trace watchers y works calm last (calls_stood (view.rack.history x) calls m last trace_items since).is.newest found is_found

  -- MEDIA

  -- a medium that the earlier member leaves out the later one leaves out too
  out_since : (m last : Membership) (trace_items : List TraceItem) (h : List Happening) (j : ℕ) (name : Location) → NoneIsAdded m last trace_items → ¬ IsReplacedIn j trace_items
      → IsLeftOut first.geometry m h j name → IsLeftOut first.geometry last h j name
  out_since m last trace_items h j name line none out image left p medium is called s bears meant =
      elim (line j meant.here) [
        | inl was ↦ out image left p medium is called s bears (record { here = was.here; number = meant.number ∙ was.number })
        | inr replaced ↦ none replaced
      ]

  pub media_stay_out : (h : List Happening) (calls : Calls view streams AnyReturns first h) (m last : Membership) (trace_items : List TraceItem)
      → StandsSince view streams first m h calls last trace_items → (later : List Happening) (j : ℕ) (name : Location) → ¬ IsReplacedIn j trace_items
      → IsLeftOut first.geometry m h j name → Ran no_write h later → IsNeverLive first.geometry later j name
  media_stay_out h calls m last trace_items since later j name none out looks =
      let stood = calls_stood h calls m last trace_items since in
      left_out_stays first.geometry last h later j name (life_history h calls) stood.is.newest looks (out_since m last trace_items h j name stood.line none out)

  pub media_stay_out_within : (x : R) (calls : Calls view streams AnyReturns first (view.rack.history x)) (m last : Membership) (trace_items trace : List TraceItem)
      (watchers : List W) (y : Devices R W) (works : AlongTrace (WorksAll view) trace (devices x Begun watchers) y)
      → StandsSince view streams first m (view.rack.history x) calls last trace_items
      → StaysWithinToleranceUpTo view AnyReturns first.geometry (view.rack.history x) (history_of view y) trace (devices x Begun watchers) y works → (now : Membership)
      → IsOpenBy y.session now → (j : ℕ) (name : Location) → ¬ IsReplacedIn j (trace_items ++ trace) → IsLeftOut first.geometry m (history_of view y) j name
      → IsNeverLive first.geometry (history_of view y) j name
  media_stay_out_within x calls m last trace_items trace watchers y works since calm now serves j name none out =
      let stood = call_stood x calls trace watchers y works calm m last now trace_items (calls_stood (view.rack.history x) calls m last trace_items since) serves in
      let was = history_on (life_history (view.rack.history x) calls) (works_ran view honest trace (devices x Begun watchers) y works) in
      left_out_stays first.geometry now (history_of view y) (history_of view y) j name was stood.is.newest (ran_none (history_of view y))
      (out_since m now (trace_items ++ trace) (history_of view y) j name stood.line none out)

  -- ONE NAME FOR EACH

  once_of : (s : State) (h : List Happening) → s.geometry ≡ first.geometry → IsConsistentUnderReassembly s h → EachImage (NamesOnce first.geometry) h
  once_of s h same stands image left =
      subst (λ (g : Geometry). NamesOnce g image) same
      (record { one_list = (stands.is.each image left).one_list; own_joined = (stands.is.each image left).own_joined })

  pub all_name_once : (h : List Happening) → Calls view streams AnyReturns first h → EachImage (NamesOnce first.geometry) h
  all_name_once h calls =
      let lived = calls_are_lived view streams AnyReturns first honest h calls in
      once_of lived.state h (life_geometry lived.life (without_seats first) lived.state lived.lives) lived.stands

  -- what a crash left by itself
  once_alone : (s : State) (c : List Happening) (image : Image) → s.geometry ≡ first.geometry → IsHistory c → CrashMayLeave c image
      → IsConsistentUnderReassembly s (Made image ∷ []) → NamesOnce first.geometry image
  once_alone s c image same was left stands =
      once_of s (Made image ∷ []) same stands image (left_there image (left_past_end c (history_tidy was) image left))

  pub all_name_once_within : (program rest : Program) (old new : Outside S K) (x y : R) (watchers left : List W) (c : List Happening)
      → Calls view streams AnyReturns first (view.rack.history x) → (borne : RefinesProgram view streams program rest old new x y watchers left)
      → IsMoment (view.rack.history x) c (view.rack.history y)
      → StaysWithinToleranceUpTo view AnyReturns first.geometry (view.rack.history x) c borne.over.means.trace (devices x Begun watchers)
      (devices y borne.session left) borne.over.works → EachImage (NamesOnce first.geometry) c
  all_name_once_within program rest old new x y watchers left c calls borne at calm image crash =
      elim (safe.images image crash) [
        | inl stands ↦ once_alone safe.state c image run_geometry was crash stands
        | inr cut ↦ once_alone cut.left.state c image (cut_geometry cut.left.cut.within ∙ run_geometry) was crash cut.left.stands
      ]
    where
      lived : IsLived view streams AnyReturns first (view.rack.history x) calls
      lived = calls_are_lived view streams AnyReturns first honest (view.rack.history x) calls

      same : lived.state.geometry ≡ first.geometry
      same = life_geometry lived.life (without_seats first) lived.state lived.lives

      was : IsHistory c
      was =
          history_on (life_history (view.rack.history x) calls)
          (ran_before {allowed = any_call}
          (works_ran view honest borne.over.means.trace (devices x Begun watchers) (devices y borne.session left) borne.over.works) at)

      safe : IsSafe view AnyReturns (view.rack.history x) (without_seats lived.state) program borne.over.means.trace (devices x Begun watchers)
          (devices y borne.session left) c
      safe =
          borne.wherever.cuts honest lived.state c (life_history (view.rack.history x) calls) lived.stands at
          (subst
          (λ (g : Geometry). StaysWithinToleranceUpTo view AnyReturns g (view.rack.history x) c borne.over.means.trace (devices x Begun watchers)
          (devices y borne.session left) borne.over.works) (sym same) calm)

      run_geometry : safe.state.geometry ≡ first.geometry
      run_geometry =
          life_geometry
          (turns_of AnyReturns (view.rack.history x) safe.done (now (without_seats lived.state) (view.rack.history x) None)
          (now safe.state (history_of view safe.mid) safe.stopped) safe.runs []) (without_seats lived.state) safe.state
          (runs_are_lived AnyReturns (view.rack.history x) safe.done (now (without_seats lived.state) (view.rack.history x) None)
          (now safe.state (history_of view safe.mid) safe.stopped) [] (without_seats lived.state) safe.runs refl)
          ∙ same

      cut_geometry : {step : Step} {begun : Seats} {old new : State} → CutWithin step begun old new → new.geometry ≡ old.geometry
      cut_geometry (inl is) = ap (λ (s : State). s.geometry) is
      cut_geometry (inr row) = row.1.geometry
