-- A call on an array that stands finds no other one, and makes none.
use Rattle.std.proofs.Common.{◌≡◌, ◌∙◌, ◌⊎◌, List, [], ◌∷◌, Ok, Err, Result, inl, inr, sym, ap, subst}
use Rattle.std.specs.Prelude.{IsTrue}
use Rattle.stair_model.specs.Geometry.{Geometry}
use Rattle.stair_rack.specs.Answers.{Ran}
use Rattle.stair_rack.specs.History.{Happening}
use Rattle.stair_rack.specs.Moments.{IsMoment}
use Rattle.stair_rack.specs.Stretch.{NothingWritten}
use Rattle.stair_rack.proofs.MomentLemmas.{moment_between, moment_sooner, ran_any, ran_none}
use Rattle.stair_rack.proofs.StretchLemmas.{each_before}
use Rattle.stair_member.specs.Asked.{LeavesSectors}
use Rattle.stair_member.specs.Membership.{Membership}
use Rattle.stair_member.specs.Survey.{Surveys}
use Rattle.stair_member.proofs.AskedLemmas.{asked_ran}
use Rattle.stair_state.specs.State.{State}
use Rattle.stair_state.specs.Surveyed.{FindsArray}
use Rattle.stair_state.proofs.SurveyedLemmas.{finds_array}
use Rattle.stair_invariant.specs.Returning.{NoneReturns}
use Rattle.stair_array.specs.Creates.{Creates}
use Rattle.stair_array.specs.Machine.{Answer, Step}
use Rattle.stair_array.specs.Promise.{Begun, Closed, DoesStep, Ends, EndsIn, Found, GoesOn, Opened, Phase}
use Rattle.stair_rack.specs.declared.watcher.Event.{Event}
use Rattle.stair_invariant.specs.Session.{ArrayState}
use Rattle.stair_command.specs.Action.{Create, Outcome, Survey}
use Rattle.stair_command.specs.Bounded.{AreOfArray, IsOfArray}
use Rattle.stair_command.specs.Devices.{DeviceView, Devices, WorksAll, seen_of}
use Rattle.stair_command.specs.Living.{CallsAreOfArray, StandsOver}
use Rattle.stair_command.specs.Rack.{told_of}
use Rattle.stair_command.specs.Run.{history_of}
use Rattle.stair_command.specs.Trace.{TraceItem, Did, Stepped, AlongTrace}
use Rattle.stair_command.proofs.CreateLaws.{none_made}
use Rattle.stair_command.proofs.RunLaws.{one_ran, works_ran}

module _ {R W : Type 0} (view : DeviceView R W) (s : State) (y : Devices R W) where
  -- what is asked of the rack as long as nothing was done to an array
  abbrev Stands : Devices R W → Type 0
  Stands x = x.session ≡ Begun → StandsOver view s x y

  -- an item ends before the call does
  ended : (item : TraceItem) (trace : List TraceItem) (x mid : Devices R W) → WorksAll view item x mid → AlongTrace (WorksAll view) trace mid y → StandsOver view s x y
      → IsMoment (history_of view x) (history_of view mid) (history_of view y)
  ended item trace x mid works later stands =
      moment_between (one_ran view stands.honest item x mid works) (works_ran view stands.honest trace mid y later)

  found_this : (m : Membership) (trace : List TraceItem) (x mid : Devices R W) → WorksAll view (Did Survey (Ok m)) x mid → AlongTrace (WorksAll view) trace mid y
      → StandsOver view s x y → m.array.geometry ≡ s.geometry
  found_this m trace x mid works later stands =
      let until = ended (Did Survey (Ok m)) trace x mid works later stands in
      let finds : FindsArray s (Ok m) (history_of view x) (history_of view x) (history_of view mid) =
      finds_array s (history_of view x) (told_of view.rack x.rack) (told_of view.rack mid.rack) (Ok m) works.0 stands.honest
      (ran_none (history_of view x)) stands.represents (each_before stands.returned until) (λ h is. stands.tolerated h (moment_sooner is until)) in
      let same : m ≡ finds.member = let is = finds.found in cc in
      ap (λ (n : Membership). n.array.geometry) same ∙ finds.identity

  made_none : (array : Geometry) (outcome : Outcome (Create array)) (trace : List TraceItem) (x mid : Devices R W)
      → WorksAll view (Did (Create array) outcome) x mid → AlongTrace (WorksAll view) trace mid y → StandsOver view s x y
      → NothingWritten (history_of view x) (history_of view mid)
  made_none array outcome trace x mid works later stands =
      let until = ended (Did (Create array) outcome) trace x mid works later stands in
      (none_made NoneReturns array s.geometry (told_of view.rack x.rack) (told_of view.rack mid.rack) stands.honest outcome works.0
      (λ h at.
      let before = moment_sooner at until in
      (λ h' is. stands.tolerated h' (moment_sooner is before), each_before stands.returned before))).1

  of_item : (item : TraceItem) (trace : List TraceItem) (x mid : Devices R W) → WorksAll view item x mid → AlongTrace (WorksAll view) trace mid y → Stands x
      → IsOfArray view s.geometry item x mid
  of_item (Did Survey (Ok m)) trace x mid works later stands = found_this m trace x mid works later (stands works.1)
  of_item (Did Survey (Err fault)) trace x mid works later stands = tt
  of_item (Did (Create array) outcome) trace x mid works later stands = made_none array outcome trace x mid works later (stands works.1)
  of_item _ trace x mid works later stands = tt

  -- after a step, a survey or a making a session has gone on
  step_begun : (step : Step) (answer : Answer step) (events : List Event) (x mid : Devices R W) → DoesStep step answer events (seen_of view x) (seen_of view mid)
      → mid.session ≡ Begun → ⊥
  step_begun step answer events x mid (inl does) begun = by does.is does.ends
    where
      by : (is : ArrayState) → EndsIn step answer is mid.session → ⊥
      by is (Ends opens err closed) = let never : Begun ≡ Closed = sym begun ∙ closed in cc
      by is (GoesOn opens keeps opened) = let never : Begun ≡ Opened is = sym begun ∙ opened in cc
  step_begun step answer events x mid (inr stopped) begun =
      let never : Begun ≡ Opened stopped.array = sym begun ∙ ap (λ seen. seen.session) stopped.same ∙ stopped.is_open in cc

  stands_later : (item : TraceItem) (x mid : Devices R W) → WorksAll view item x mid → Stands x → Stands mid
  stands_later (Did Survey (Ok m)) x mid works stands begun = absurd (let never : Begun ≡ Found m = sym begun ∙ works.2 in cc)
  stands_later (Did Survey (Err fault)) x mid works stands begun = absurd (let never : Begun ≡ Closed = sym begun ∙ works.2 in cc)
  stands_later (Did (Create array) outcome) x mid works stands begun = absurd (let never : Begun ≡ Closed = sym begun ∙ works.2 in cc)
  stands_later (Stepped step answer events left) x mid works stands begun = absurd (step_begun step answer events x mid works.0 begun)
  stands_later _ x mid works stands begun =
      subst (λ (d : Devices R W). StandsOver view s d y) (sym works) (stands (sym (ap (λ (d : Devices R W). d.session) works) ∙ begun))

  of_trace : (trace : List TraceItem) (x : Devices R W) (works : AlongTrace (WorksAll view) trace x y) → Stands x → AreOfArray view s.geometry trace x y works
  of_trace [] x works stands = tt
  of_trace (item ∷ trace) x works stands = (
    of_item item trace x works.0 works.1 works.2 stands,
    of_trace trace works.0 works.2 (stands_later item x works.0 works.1 stands),
  )

pub calls_of_array : (R W : Type 0) → CallsAreOfArray R W
calls_of_array R W view s trace x y works stands = of_trace view s y trace x works (λ begun. stands)
