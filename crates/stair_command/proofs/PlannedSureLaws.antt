-- A sure program that draws few numbers is done, of whatever trace, where each slot that is to be replaced can be: draws are left.
use Rattle.std.proofs.Common.{◌≡◌, ◌∙◌, ◌≤◌, ℕ, List, [], ◌∷◌, Ok, Err, inl, inr, refl, sym, ap, subst, arith}
use Rattle.std.specs.Prelude.{IsTrue}
use Rattle.stair_model.specs.Geometry.{Geometry}
use Rattle.stair_rack.specs.Answers.{Ran, any_call}
use Rattle.stair_rack.specs.History.{Happening}
use Rattle.stair_rack.proofs.MomentLemmas.{at_last, ran_before}
use Rattle.stair_rack.proofs.StretchLemmas.{ran_sparing}
use Rattle.stair_member.specs.Membership.{Membership}
use Rattle.stair_state.specs.State.{State, without_seats}
use Rattle.stair_invariant.specs.Returning.{Returning}
use Rattle.stair_array.specs.Draws.{allowance, most_drawn}
use Rattle.stair_array.specs.Machine.{Answer, ReplaceSlot, Step}
use Rattle.stair_array.specs.Promise.{Begun, Closed, Found, Opened, Phase}
use Rattle.stair_command.specs.Action.{Create, Outcome, Survey}
use Rattle.stair_command.specs.Bounded.{IsBoundedAt, StaysBounded}
use Rattle.stair_command.specs.Devices.{DeviceView, Devices, ExecutesWhole, ExecutesWith, WorksAll, devices}
use Rattle.stair_command.specs.Drawn.{over_steps}
use Rattle.stair_command.specs.Ending.{AdmitsNone, AllowsAtMost, EachStep}
use Rattle.stair_command.specs.Kept.{HasMember}
use Rattle.stair_command.specs.Outside.{Outside, Views}
use Rattle.stair_command.specs.Program.{Program, Over}
use Rattle.stair_command.specs.Rack.{told_of}
use Rattle.stair_command.specs.Run.{history_of}
use Rattle.stair_command.specs.Trace.{TraceItem, Did, Stepped, AlongTrace}
use Rattle.stair_command.specs.Sure.{CanReplaceAt, EachCanReplace, EachItem, EachHasDraws, HasDrawsAt, HasNoFault, IsDone, Completes, LeavesDraws, MediumLeavesDraws, ServesAlong, most_allowed, most_borne}
use Rattle.stair_status.specs.declared.status.Status.{Status}
use Rattle.stair_command.proofs.AlongLaws.{Serves, along_found, serves_on}
use Rattle.stair_command.proofs.FoundLaws.{IsArrayFound}
use Rattle.stair_command.proofs.BoundedCallLaws.{survey_few, survey_slots, survey_stays}
use Rattle.stair_command.proofs.BoundedLaws.{slot_stays}
use Rattle.stair_command.proofs.BoundedTraceLaws.{HasRoom, IsAhead, goes_ahead, weigh_little}
use Rattle.stair_command.proofs.KeptLaws.{closed_on, known_closed, starts_known}
use Rattle.stair_command.proofs.HeadlineLaws.{all_lead}
use Rattle.stair_command.proofs.PerformedLaws.{all_performed}
use Rattle.stair_command.proofs.PlannedLaws.{AllSteps, allowed_along, steps_along}
use Rattle.stair_command.proofs.RunLaws.{one_ran}
use Rattle.stair_command.proofs.SureStepLaws.{sure_done}

-- ---- no medium is admitted

module _ {R W : Type 0} (view : DeviceView R W) where
  pub none_replaced_in : (g : Geometry) (h : List Happening) (trace : List TraceItem) (x y : Devices R W) (works : AlongTrace (WorksAll view) trace x y)
      → AllSteps AdmitsNone trace → EachItem view (CanReplaceAt view g h) trace x y works
  none_replaced_in g h [] x y works none = tt
  none_replaced_in g h (Stepped step answer events left ∷ trace) x y works none =
      (can step answer none.0, none_replaced_in g h trace works.0 y works.2 none.1)
    where
      can : (step : Step) (answer : Answer step) → AdmitsNone step → CanReplaceAt view g h (Stepped step answer events left) x works.0
      can (ReplaceSlot j) answer none = absurd none
      can _ answer none = tt
  none_replaced_in g h (item ∷ trace) x y works none = (tt, none_replaced_in g h trace works.0 y works.2 none.1)

  pub none_replaced : {S K : Type 0} (streams : Views S K) (program rest : Program) (g : Geometry) (a b : Outside S K) (x y : Devices R W)
      (with : ExecutesWith view streams program rest a b x y) → EachStep AdmitsNone program → EachCanReplace view g with.means.trace x y with.works
  none_replaced streams program rest g a b x y with none =
      none_replaced_in g (history_of view y) with.means.trace x y with.works (steps_along AdmitsNone with.means.trace program rest none with.means.follows)

-- ---- draws

leaves_draws : (session : Phase) → ((n : Membership) → HasMember session n → n.drawn ≤ most_drawn) → LeavesDraws session
leaves_draws (Found found) few = few found refl
leaves_draws (Opened array) few = few array.member refl
leaves_draws _ few = tt

module _ {R W : Type 0} (view : DeviceView R W) (honest : IsTrue view.rack.honest) (g : Geometry) where
  -- no step is taken in a session that ended
  closed_draws : (trace : List TraceItem) (x y : Devices R W) (works : AlongTrace (WorksAll view) trace x y) → x.session ≡ Closed → EachHasDraws view g trace x y works
  closed_draws [] x y works closed = tt
  closed_draws (Stepped step answer events left ∷ trace) x y works closed = absurd (
      elim works.1.0 [
        | inl does ↦ known_closed x.session does.was.member closed (starts_known step does.was x.session does.starts)
        | inr stopped ↦ let same : Closed ≡ Opened stopped.array = sym closed ∙ stopped.is_open in cc
      ])
  closed_draws (item ∷ trace) x y works closed = (tt, closed_draws trace works.0 y works.2 (closed_on view item x works.0 closed works.1))

  -- what a medium bears that is to be admitted was borne as the step began
  medium_leaves : (step : Step) (now : ℕ) (old new : List Happening) → Ran any_call old new → now ≤ most_drawn → IsBoundedAt g now old
      → MediumLeavesDraws step g old new
  medium_leaves (ReplaceSlot j) now old new ran few bounded = λ h k super at unwritten place holds same.
      let spared = ran_sparing {allowed = any_call} {slots = λ i. i ≡ j} (ran_before ran at) unwritten in
      let borne : super.draw ≤ now = slot_stays g now j spared bounded k place super holds same in
      omega (arith, borne, few)
  medium_leaves _ now old new ran few bounded = tt

  -- where there is room for all that the steps are allowed, draws are left at each
  known_draws : (trace : List TraceItem) (x y : Devices R W) (works : AlongTrace (WorksAll view) trace x y) (now : ℕ) → IsAhead view honest g most_drawn now trace x
      → EachHasDraws view g trace x y works
  known_draws [] x y works now ahead = tt
  known_draws (item ∷ trace) x y works now ahead =
      let goes = goes_ahead view honest g most_drawn item trace x works.0 now works.1 ahead in
      (first item (one_ran view honest item x works.0 works.1), known_draws trace works.0 y works.2 goes.then goes.ahead)
    where
      first : (item : TraceItem) → Ran any_call (history_of view x) (history_of view works.0) → HasDrawsAt view g item x works.0
      first (Stepped step answer events left) ran = (
        leaves_draws x.session (λ n has. let known = (ahead.has n has).known in omega (arith, known, ahead.few)),
        medium_leaves step now (history_of view x) (history_of view works.0) ran ahead.few ahead.bounded,
      )
      first _ ran = tt

module _ {R W : Type 0} (returning : Returning) (view : DeviceView R W) (s : State) (y : Devices R W) where
  -- what was found of the array leaves room
  found_draws : (trace : List TraceItem) (x : Devices R W) (found : Outcome Survey) (works : AlongTrace (WorksAll view) (Did Survey found ∷ trace) x y)
      → Serves returning view s y (Did Survey found ∷ trace) x works → over_steps allowance trace ≤ most_allowed
      → EachHasDraws view s.geometry trace works.0 y works.2
  found_draws trace x found works serves allowed = by found works.1 (along_found returning view s y found trace x works serves)
    where
      by : (found : Outcome Survey) → WorksAll view (Did Survey found) x works.0 → IsArrayFound s.geometry found
          → EachHasDraws view s.geometry trace works.0 y works.2
      by (Err fault) did finds = closed_draws view serves.1.honest s.geometry trace works.0 y works.2 did.2
      by (Ok m) did finds =
          let ready = serves.1 in
          let same : m ≡ finds.member = let is = finds.found in cc in
          let geometry : m.array.geometry ≡ s.geometry = ap (λ (n : Membership). n.array.geometry) same ∙ finds.geometry in
          let stays : StaysBounded s.geometry most_borne (view.rack.history x.rack) (view.rack.history works.0.rack) =
          survey_stays s.geometry most_borne (Ok m) (told_of view.rack x.rack) (told_of view.rack works.0.rack) ready.honest did.0 ready.drawn in
          let few : m.drawn ≤ most_borne =
          survey_few m (told_of view.rack x.rack) (told_of view.rack works.0.rack) most_borne ready.honest did.0
          (subst (λ (g : Geometry). StaysBounded g most_borne (view.rack.history x.rack) (view.rack.history works.0.rack)) (sym geometry) stays) in
          let small = weigh_little m (survey_slots m (told_of view.rack x.rack) (told_of view.rack works.0.rack) did.0) in
          known_draws view ready.honest s.geometry trace works.0 y works.2 most_borne (record {
            few = omega arith;
            begun = λ begun. let never : Found m ≡ Begun = sym did.2 ∙ begun in cc;
            bounded = at_last stays;
            has = λ n has.
                subst (HasRoom view ready.honest s.geometry most_drawn most_borne trace)
                (sym (subst (λ (session : Phase). HasMember session n) did.2 has))
                (record { geometry = geometry; known = few; room = omega (arith, small, allowed) });
          })

  begun_draws : (trace : List TraceItem) (x : Devices R W) (works : AlongTrace (WorksAll view) trace x y) → Serves returning view s y trace x works
      → over_steps allowance trace ≤ most_allowed → EachHasDraws view s.geometry trace x y works
  begun_draws [] x works serves allowed = tt
  begun_draws (Stepped step answer events left ∷ trace) x works serves allowed = absurd (
      elim works.1.0 [
        | inl does ↦ subst (λ (session : Phase). HasMember session does.was.member) serves.0 (starts_known step does.was x.session does.starts)
        | inr stopped ↦ let same : Begun ≡ Opened stopped.array = sym serves.0 ∙ stopped.is_open in cc
      ])
  begun_draws (Did (Create g) outcome ∷ trace) x works serves allowed =
      (tt, closed_draws view serves.1.honest s.geometry trace works.0 y works.2 works.1.2)
  begun_draws (Did Survey found ∷ trace) x works serves allowed = (tt, found_draws trace x found works serves (omega (arith, allowed)))
  begun_draws (item ∷ trace) x works serves allowed =
      (tt, begun_draws trace works.0 works.2 (serves_on returning view s y item trace x works works.1 serves) (omega (arith, allowed)))

-- ---- whole calls

module _ {R W S K : Type 0} (view : DeviceView R W) (streams : Views S K) where
  -- of a program that draws few numbers draws are left at each step
  pub planned_draws : (returning : Returning) (program rest : Program) (s : State) (a b : Outside S K) (x y : R) (watchers left : List W)
      (whole : ExecutesWhole view streams program rest a b x y watchers left) → AllowsAtMost most_allowed program
      → ServesAlong returning view s whole.with.means.trace (devices x Begun watchers) (devices y whole.session left) whole.with.works
      → EachHasDraws view s.geometry whole.with.means.trace (devices x Begun watchers) (devices y whole.session left) whole.with.works
  planned_draws returning program rest s a b x y watchers left whole allowed serves =
      begun_draws returning view s (devices y whole.session left) whole.with.means.trace (devices x Begun watchers) whole.with.works (refl, serves)
      (allowed_along most_allowed whole.with.means.trace program rest allowed whole.with.means.follows)

  -- so it is done
  pub planned_sure : (returning : Returning) (program : Program) (status : Status) (s : State) (a b : Outside S K) (x y : R) (watchers left : List W)
      (whole : ExecutesWhole view streams program (Over status) a b x y watchers left) → AllowsAtMost most_allowed program
      → ServesAlong returning view s whole.with.means.trace (devices x Begun watchers) (devices y whole.session left) whole.with.works
      → HasNoFault streams a b
      → EachCanReplace view s.geometry whole.with.means.trace (devices x Begun watchers) (devices y whole.session left) whole.with.works
      → Completes [] program (without_seats s) (streams.source.left a.source) → IsDone status
  planned_sure returning program status s a b x y watchers left whole allowed serves unfailed can sure =
      let first : Devices R W = devices x Begun watchers in
      let last : Devices R W = devices y whole.session left in
      let trace = whole.with.means.trace in
      sure_done view streams returning program status s a b first last whole.with serves.honest refl serves.history serves.stands serves.calm unfailed
      (all_lead returning view (all_performed returning) trace first last whole.with.works)
      (planned_draws returning program (Over status) s a b x y watchers left whole allowed serves) can sure
