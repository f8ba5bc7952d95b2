-- Over the trace of a session that began where a member's epoch was the newest, each slot that takes part in the end did then, with the
-- same medium, unless one was admitted to it.
use Rattle.std.proofs.Common.{◌≡◌, ◌∙◌, ◌⊎◌, ℕ, Bool, false, List, [], ◌∷◌, Option, None, Some, Ok, Err, inl, inr, refl, sym, ap, subst}
use Rattle.std.specs.Prelude.{◌≢◌, IsSome, IsTrue, ⊤}
use Rattle.stair_model.specs.Geometry.{Geometry}
use Rattle.stair_rack.specs.Answers.{IsHistory}
use Rattle.stair_rack.specs.History.{Happening}
use Rattle.stair_rack.specs.Moments.{IsMoment}
use Rattle.stair_rack.specs.declared.watcher.Event.{Event}
use Rattle.stair_rack.proofs.MomentLemmas.{moment_last}
use Rattle.stair_rack.proofs.TidyLemmas.{history_on}
use Rattle.stair_super.specs.Superblock.{joined_in, mark_in}
use Rattle.stair_super.specs.declared.configuration.Configuration.{Configuration}
use Rattle.stair_super.specs.declared.mark.Mark.TheVariants as mark
use Rattle.stair_member.specs.Membership.{Membership}
use Rattle.stair_member.specs.Seats.{Seats}
use Rattle.stair_member.proofs.AskedLemmas.{asked_ran}
use Rattle.stair_state.specs.State.{State}
use Rattle.stair_invariant.specs.Mixed.{IsToleratedUnwritten}
use Rattle.stair_invariant.specs.Returning.{AnyReturns, StaysWithinTolerance}
use Rattle.stair_invariant.specs.Session.{ArrayState, seats_in}
use Rattle.stair_array.specs.Machine.{Answer, AreKnown, Recover, Refusal, Row, SeatsAfter, Step}
use Rattle.stair_array.specs.Promise.{Begun, BeginsWith, Closed, Ends, EndsIn, Found, GoesOn, IsInState, IsLed, Opened, Performs, Seen, ServesState, Phase, StartsFrom, Stops, is_open}
use Rattle.stair_reinsert.proofs.LookedSoFar.{looked_mixed}
use Rattle.stair_command.specs.Action.{Create, Survey}
use Rattle.stair_command.specs.Devices.{DeviceView, Devices, WorksAll, seen_of}
use Rattle.stair_command.specs.Run.{ItemLeads, StaysWithinToleranceUpTo, TraceLeads, history_of}
use Rattle.stair_command.specs.Trace.{TraceItem, Found as FoundOut, Took, TookLast, TakeFailed, HasPut, PutFailed, Grew, RanOut, Did, Stepped, AlongTrace}
use Rattle.stair_command.proofs.RunLaws.{IsAt, one_goes, one_ran, upto_end, works_ran}
use Rattle.stair_lives.specs.Stale.{Admits, IsNewest, IsReplacedIn}
use Rattle.stair_lives.proofs.NewestLemmas.{NamesNewest, found_newest}
use Rattle.stair_lives.proofs.SeatsKept.{KeepsSeat, after_keep, going_on}

-- SEATS

-- Each slot that this array marks as one that takes part takes part in the earlier one too, with the same joined number, or this
-- holds of it.
abbrev pub Follows : Configuration → (ℕ → Type 0) → Configuration → Type 0
Follows base Added array = (j : ℕ) → mark_in array j ≢ mark.Down
    → ((mark_in base j ≢ mark.Down) × (joined_in array j ≡ joined_in base j)) ⊎ Added j

same_follows : (base array : Configuration) (Added : ℕ → Type 0) → array ≡ base → Follows base Added array
same_follows base array Added same j up =
    inl (subst (λ (c : Configuration). mark_in c j ≢ mark.Down) same up, ap (λ (c : Configuration). joined_in c j) same)

-- one step more
step_follows : (base : Configuration) (Added : ℕ → Type 0) (old new : Configuration) → Follows base Added old
    → ((j : ℕ) → KeepsSeat (seats_in old j) (seats_in new j) ⊎ Added j) → Follows base Added new
step_follows base Added old new follows keeps j up =
    elim (keeps j) [
      | inl kept ↦
          let was = kept up in
          elim (follows j was.0) [
            | inl before ↦ inl (before.0, was.1 ∙ before.1)
            | inr added ↦ inr added
          ]
      | inr added ↦ inr added
    ]

-- OVER A STORY

-- what the session has of the array follows the earlier one
abbrev pub SessionFollows : Configuration → (ℕ → Type 0) → Phase → Type 0
SessionFollows base Added Begun = ⊤
SessionFollows base Added (Found m) = m.array ≡ base
SessionFollows base Added (Opened a) = a.stopped ≡ None → Follows base Added a.member.array
SessionFollows base Added Closed = ⊤

-- the seats with which a step begins are those of what the session has
begun_seats : (base : Configuration) (Added : ℕ → Type 0) (step : Step) (was : ArrayState) (before h : List Happening) (s : State) (x : Seen)
    (begun : Seats) → StartsFrom step was x.session → BeginsWith AnyReturns step was.member before h s begun → IsInState AnyReturns before s x
    → SessionFollows base Added x.session → (array : Configuration) × Follows base Added array × (begun ≡ seats_in array)
begun_seats base Added step was before h s x begun starts begins is_in follows =
    by step x.session starts begins is_in.serves follows
  where
    other : (session : Phase) (a : ArrayState) → session ≡ Opened a → a.stopped ≡ None → s.seats ≡ Some begun
        → ServesState AnyReturns before s session x.told → SessionFollows base Added session
        → (array : Configuration) × Follows base Added array × (begun ≡ seats_in array)
    other session a is_opened unstopped seats serves line =
        elim (subst (λ (z : Phase). ServesState AnyReturns before s z x.told) is_opened serves) [
          | inl opened ↦
              let both : Some begun ≡ Some (seats_in a.member.array) = sym seats ∙ opened.seats in
              let same : begun ≡ seats_in a.member.array = cc in
              (a.member.array, subst (SessionFollows base Added) is_opened line unstopped, same)
          | inr stopped ↦ absurd (some_not unstopped stopped)
        ]
      where
        some_not : a.stopped ≡ None → IsSome a.stopped → ⊥
        some_not none some = cc

    by : (st : Step) (session : Phase) → StartsFrom st was session → BeginsWith AnyReturns st was.member before h s begun
        → ServesState AnyReturns before s session x.told → SessionFollows base Added session
        → (array : Configuration) × Follows base Added array × (begun ≡ seats_in array)
    by Recover (Found m) starts begins serves line =
        (was.member.array, same_follows base was.member.array Added (ap (λ (a : ArrayState). a.member.array) starts ∙ line), begins.0)
    by Recover Begun starts begins serves line = absurd starts
    by Recover (Opened a) starts begins serves line = absurd starts
    by Recover Closed starts begins serves line = absurd starts
    by _ (Opened a) starts begins serves line = other (Opened a) a refl starts.1 begins serves line
    by _ Begun starts begins serves line = absurd starts
    by _ (Found m) starts begins serves line = absurd starts
    by _ Closed starts begins serves line = absurd starts

-- the seats that an open array has after a step are those of the row
pub row_seats : (step : Step) (answer : Answer step) (begun seats : Seats) (old new : State) (row : Row step answer begun old new) → new.seats ≡ Some seats
    → row.seats ≡ seats
row_seats step answer begun seats old new row has = by step answer row.known
  where
    by : (st : Step) (a : Answer st) → AreKnown st a new.seats row.seats → row.seats ≡ seats
    by Recover (Err refusal) none = let never : None ≡ Some seats = sym none ∙ has in absurd (cc)
    by Recover (Ok g) known = let both : Some row.seats ≡ Some seats = sym known ∙ has in cc
    by _ _ known = let both : Some row.seats ≡ Some seats = sym known ∙ has in cc

module _ {R W : Type 0} (view : DeviceView R W) (honest : IsTrue view.rack.honest) (base : Membership) (g : Geometry) (before : List Happening)
    (newest : IsNewest g base before) (Added : ℕ → Type 0) where
  abbrev h_of : Devices R W → List Happening
  h_of x = history_of view x

  -- an array is found by the newest epoch
  found_follows : (s : State) (stopped : Option Refusal) (m : Membership) (x y : Devices R W) → WorksAll view (Did Survey (Ok m)) x y
      → IsAt view AnyReturns before s stopped x → s.geometry ≡ g → StaysWithinTolerance AnyReturns s.geometry (is_open x.session) before (h_of y)
      → m.array ≡ base.array
  found_follows s stopped m x y works is_at same calm =
      let serves : ServesState AnyReturns before s Begun (seen_of view x).told =
      subst (λ (session : Phase). ServesState AnyReturns before s session (seen_of view x).told) works.1 is_at.is_in.serves in
      let closed : StaysWithinTolerance AnyReturns g false before (h_of y) =
      subst (λ (k : Geometry). StaysWithinTolerance AnyReturns k false before (h_of y)) same
      (subst (λ (session : Phase). StaysWithinTolerance AnyReturns s.geometry (is_open session) before (h_of y)) works.1 calm) in
      let ran = asked_ran 32 (h_of x) (h_of y) (works.0.asked honest) in
      found_newest g m base.array (seen_of view x).told (seen_of view y).told works.0 honest
      (subst (λ (h : List Happening). NamesNewest g base.array h) serves.0 newest.current)
      (looked_mixed g (Ok m) (seen_of view x).told (seen_of view y).told (h_of y) works.0 honest (moment_last ran.more ran.is)
      (subst (λ (h : List Happening). IsToleratedUnwritten g h (h_of y)) serves.0 closed.1))

  stepped_follows : (s : State) (stopped : Option Refusal) (step : Step) (answer : Answer step) (events : List Event) (left : Bool) (x y : Devices R W)
      → WorksAll view (Stepped step answer events left) x y → ItemLeads AnyReturns view (Stepped step answer events left) x y → IsHistory (h_of x)
      → IsAt view AnyReturns before s stopped x → StaysWithinTolerance AnyReturns s.geometry (is_open x.session) before (h_of y)
      → ((j : ℕ) → Admits j (Stepped step answer events left) → Added j) → SessionFollows base.array Added x.session
      → SessionFollows base.array Added y.session
  stepped_follows s stopped step answer events left x y works led history is_at calm admits follows =
      elim works.0 [
        | inl does ↦ by_step does
        | inr again ↦
            subst (SessionFollows base.array Added) (sym (ap (λ (z : Seen). z.session) again.same ∙ again.is_open))
            (λ (none : again.array.stopped ≡ None). let never : None ≡ Some again.fault = sym none ∙ again.stopped in absurd (cc))
      ]
    where
      by_step : Performs step answer events (seen_of view x) (seen_of view y) → SessionFollows base.array Added y.session
      by_step does = ended does.ends
        where
          leads : IsLed AnyReturns does.was.member before s step answer (seen_of view y)
          leads = (led does).leads honest before s history is_at.is_in calm

          opened : y.session ≡ Opened does.is → does.is.stopped ≡ None → ¬ Stops answer → Follows base.array Added does.is.member.array
          opened is_opened unstopped goes =
              elim (subst (λ (z : Phase). ServesState AnyReturns before leads.state z (seen_of view y).told) is_opened leads.is_in.serves) [
                | inl now ↦
                    let began =
                    begun_seats base.array Added step does.was before (h_of y) s (seen_of view x) leads.is_step.begun does.starts leads.is_step.begins
                    is_at.is_in follows in
                    let after : leads.is_step.row.seats ≡ seats_in does.is.member.array =
                    row_seats step answer leads.is_step.begun (seats_in does.is.member.array) s leads.state leads.is_step.row now.seats in
                    step_follows base.array Added began.0 does.is.member.array began.1
                    (λ j.
                    elim
                    (after_keep step answer events left (seats_in began.0) (seats_in does.is.member.array)
                    (subst (λ (z : Seats). SeatsAfter step answer (seats_in began.0) z) after
                    (subst (λ (z : Seats). SeatsAfter step answer z leads.is_step.row.seats) began.2 leads.is_step.row.marks)) goes j) [
                      | inl kept ↦ inl kept
                      | inr added ↦ inr (admits j added)
                    ])
                | inr stops ↦ absurd (some_not unstopped stops)
              ]
            where
              some_not : does.is.stopped ≡ None → IsSome does.is.stopped → ⊥
              some_not none some = cc

          ended : EndsIn step answer does.is y.session → SessionFollows base.array Added y.session
          ended (Ends opens err closed) = subst (SessionFollows base.array Added) (sym closed) tt
          ended (GoesOn opens keeps is_opened) =
              subst (SessionFollows base.array Added) (sym is_opened)
              (λ unstopped. opened is_opened unstopped (going_on answer does.is.stopped keeps unstopped))

  -- an item that leaves all as it was
  still : (x y : Devices R W) → y ≡ x → SessionFollows base.array Added x.session → SessionFollows base.array Added y.session
  still x y same follows = subst (λ (z : Devices R W). SessionFollows base.array Added z.session) (sym same) follows

  one_follows : (s : State) (stopped : Option Refusal) (item : TraceItem) (x y : Devices R W) → WorksAll view item x y → ItemLeads AnyReturns view item x y
      → IsHistory (h_of x) → IsAt view AnyReturns before s stopped x → s.geometry ≡ g
      → StaysWithinTolerance AnyReturns s.geometry (is_open x.session) before (h_of y) → ((j : ℕ) → Admits j item → Added j)
      → SessionFollows base.array Added x.session → SessionFollows base.array Added y.session
  one_follows s stopped (Did (Create other) came) x y works led history is_at same calm admits follows =
      subst (SessionFollows base.array Added) (sym works.2) tt
  one_follows s stopped (Did Survey (Ok m)) x y works led history is_at same calm admits follows =
      subst (SessionFollows base.array Added) (sym works.2) (found_follows s stopped m x y works is_at same calm)
  one_follows s stopped (Did Survey (Err fault)) x y works led history is_at same calm admits follows =
      subst (SessionFollows base.array Added) (sym works.2) tt
  one_follows s stopped (Stepped step answer events left) x y works led history is_at same calm admits follows =
      stepped_follows s stopped step answer events left x y works led history is_at calm admits follows
  one_follows s stopped (FoundOut question) x y works led history is_at same calm admits follows = still x y works follows
  one_follows s stopped (Took bytes) x y works led history is_at same calm admits follows = still x y works follows
  one_follows s stopped (TookLast bytes) x y works led history is_at same calm admits follows = still x y works follows
  one_follows s stopped (TakeFailed bytes) x y works led history is_at same calm admits follows = still x y works follows
  one_follows s stopped (HasPut bytes) x y works led history is_at same calm admits follows = still x y works follows
  one_follows s stopped (PutFailed bytes) x y works led history is_at same calm admits follows = still x y works follows
  one_follows s stopped Grew x y works led history is_at same calm admits follows = still x y works follows
  one_follows s stopped RanOut x y works led history is_at same calm admits follows = still x y works follows

  pub trace_follows : (s : State) (stopped : Option Refusal) (trace : List TraceItem) (x y : Devices R W) (works : AlongTrace (WorksAll view) trace x y)
      → TraceLeads AnyReturns view trace x y works → IsHistory (h_of x) → IsAt view AnyReturns before s stopped x → s.geometry ≡ g
      → StaysWithinToleranceUpTo view AnyReturns s.geometry before (h_of y) trace x y works → ((j : ℕ) → IsReplacedIn j trace → Added j)
      → SessionFollows base.array Added x.session → SessionFollows base.array Added y.session
  trace_follows s stopped [] x y works led history is_at same calm replaced follows = still x y works follows
  trace_follows s stopped (item ∷ trace) x y works led history is_at same calm replaced follows =
      let ran = one_ran view honest item x works.0 works.1 in
      let later = works_ran view honest trace works.0 y works.2 in
      let upto = λ (c : List Happening) (at : IsMoment (h_of x) c (h_of works.0)). calm.0 c at (upto_end at later) in
      let one = one_goes view honest AnyReturns before s stopped item x works.0 works.1 led.0 history is_at upto in
      trace_follows one.state one.stop trace works.0 y works.2 led.1 (history_on history ran) one.is_at (one.geometry ∙ same)
      (subst (λ (k : Geometry). StaysWithinToleranceUpTo view AnyReturns k before (h_of y) trace works.0 y works.2) (sym one.geometry) calm.1)
      (λ j has. replaced j (inr has))
      (one_follows s stopped item x works.0 works.1 led.0 history is_at same (upto (h_of works.0) (moment_last ran.more ran.is)) (λ j has. replaced j (inl has))
      follows)
