-- A slot that is never offline in the session, and whose medium is large enough, is given up at no step.
use Rattle.std.proofs.Common.{◌≡◌, ◌≢◌, ◌∙◌, ℕ, ◌<◌, List, [], ◌∷◌, None, Option, inl, inr, sym, ap, subst, arith}
use Rattle.std.specs.Prelude.{Bool, IsTrue}
use Rattle.stair_model.specs.Geometry.{Geometry}
use Rattle.stair_model.specs.Slots.{HasSlot, Slots}
use Rattle.stair_rack.specs.Answers.{IsHistory, Ran, any_call}
use Rattle.stair_rack.specs.History.{Happening}
use Rattle.stair_rack.specs.declared.watcher.Event.{Event}
use Rattle.stair_rack.proofs.MomentLemmas.{ran_join, ran_none}
use Rattle.stair_rack.proofs.TidyLemmas.{history_on}
use Rattle.stair_super.specs.Superblock.{mark_in}
use Rattle.stair_super.specs.declared.mark.Mark.TheVariants.{Down}
use Rattle.stair_state.specs.State.{State, without_seats}
use Rattle.stair_invariant.specs.Returning.{Returning, StandsFor}
use Rattle.stair_invariant.specs.Session.{ArrayState, seats_in}
use Rattle.stair_array.specs.Causes.{MarkGoesOn}
use Rattle.stair_array.specs.Machine.{Answer, Recover, Refusal, Step}
use Rattle.stair_array.specs.Promise.{AnswersStopped, Begun, EndsIn, Ends, GoesOn, IsOpenFor, Opened, Performs, ServesState, Phase, StartsFrom, Seen}
use Rattle.stair_command.specs.Devices.{DeviceView, Devices, WorksAll, seen_of}
use Rattle.stair_command.specs.Run.{StaysWithinToleranceUpTo, TraceLeads}
use Rattle.stair_command.specs.Trace.{TraceItem, Stepped, AlongTrace}
use Rattle.stair_command.specs.Sure.{EachKeeps, KeepsAt, NoneGoesDown, StaysIn}
use Rattle.stair_command.proofs.RunLaws.{IsAt, one_goes, one_ran, upto_end, works_ran}
use Rattle.stair_command.proofs.SureSlotLaws.{HoldsOver, stays_up, up_slot}
use Rattle.stair_command.proofs.SureStepLaws.{begins_at, open_for}

-- ---- sessions

-- with which array a step of an open one begins
record BeginsOpen (step : Step) (was : ArrayState) (array : ArrayState) : Type 0 where
  pub other : step ≢ Recover
  pub same : was ≡ array
  pub unstopped : array.stopped ≡ None

begins_open : (step : Step) (was array : ArrayState) → StartsFrom step was (Opened array) → BeginsOpen step was array
begins_open Recover was array starts = absurd starts
begins_open step was array starts = record { other = λ same. let is : step ≡ Recover = same in cc; same = starts.0; unstopped = starts.1 }

-- with which one it ends
ends_as : (step : Step) (answer : Answer step) (is array : ArrayState) (session : Phase) → EndsIn step answer is session → session ≡ Opened array
    → is ≡ array
ends_as step answer is array session (Ends opens err closed) opened = absurd (let same = sym closed ∙ opened in cc)
ends_as step answer is array session (GoesOn opens keeps same) opened = let both : Opened is ≡ Opened array = sym same ∙ opened in cc

module _ {R W : Type 0} (returning : Returning) (view : DeviceView R W) (honest : IsTrue view.rack.honest) (kept : Slots) (before : List Happening) where
  abbrev h_of : Devices R W → List Happening
  h_of x = view.rack.history x.rack

  -- what it is for one to stay in over a step of an open array
  stays_over : (s : State) (was : ArrayState) (j : ℕ) (x y : Devices R W) (last : List Happening) → IsOpenFor returning before s was (h_of x)
      → StaysIn s.geometry before last j → mark_in was.member.array j ≢ Down → Ran any_call before (h_of x) → Ran any_call (h_of x) (h_of y)
      → Ran any_call (h_of y) last → HoldsOver s.geometry before last was j (seen_of view x).told (seen_of view y).told
  stays_over s was j x y last serving stays up since ran later = record {
    from = before;
    there = stays.there;
    held = serving.is_open.held j (up_slot was.member j below (serving.is_open.array.marks j below) up);
    since = since;
    ran = ran;
    later = later;
    honest = honest;
    geometry = serving.geometry;
    below = below;
  }
    where
      below : j < was.member.array.geometry.n
      below = omega (arith, stays.below, ap (λ (g : Geometry). g.n) serving.geometry)

  -- ---- items

  abbrev EachStays : State → List Happening → Type 0
  EachStays s last = (j : ℕ) → HasSlot kept j → StaysIn s.geometry before last j

  performed_keeps : (s : State) (step : Step) (answer : Answer step) (events : List Event) (left : Bool) (x y : Devices R W) (last : List Happening)
      → Performs step answer events (seen_of view x) (seen_of view y) → ServesState returning before s x.session (seen_of view x).told
      → Ran any_call before (h_of x) → Ran any_call (h_of y) last → EachStays s last → KeepsAt kept (Stepped step answer events left) x y
  performed_keeps s step answer events left x y last does serves since later stays was is opened ends =
      let began = begins_open step does.was was (subst (StartsFrom step does.was) opened does.starts) in
      let ended : does.is ≡ is = ends_as step answer does.is is y.session does.ends ends in
      let serving = open_for returning before s was (seen_of view x) opened began.unstopped serves in
      subst (λ (a : ArrayState). NoneGoesDown (HasSlot kept) (seats_in was.member.array) (seats_in a.member.array)) ended
      (λ j is_kept up.
      let stay = stays j is_kept in
      let holds = stays_over s was j x y last serving stay up since (does.later.ran honest) later in
      stays_up s.geometry before last was j (seen_of view x).told (seen_of view y).told holds step does.is.member began.other up
      (subst (λ (a : ArrayState). MarkGoesOn step (seen_of view x).told (seen_of view y).told a.member does.is.member j) began.same
      (does.goes_on.marks j (omega (arith, holds.below, ap (λ (a : ArrayState). a.member.array.geometry.n) began.same)))))

  stopped_keeps : (step : Step) (answer : Answer step) (events : List Event) (left : Bool) (x y : Devices R W)
      → AnswersStopped step answer events (seen_of view x) (seen_of view y) → KeepsAt kept (Stepped step answer events left) x y
  stopped_keeps step answer events left x y stopped was is opened ends =
      let both : Opened is ≡ Opened was = sym ends ∙ ap (λ (z : Seen). z.session) stopped.same ∙ opened in
      let same : is ≡ was = cc in
      subst (λ (a : ArrayState). NoneGoesDown (HasSlot kept) (seats_in was.member.array) (seats_in a.member.array)) (sym same) (λ j is_kept up. up)

  item_keeps : (s : State) (stopped : Option Refusal) (item : TraceItem) (x y : Devices R W) (last : List Happening) → WorksAll view item x y
      → IsAt view returning before s stopped x → Ran any_call before (h_of x) → Ran any_call (h_of y) last → EachStays s last → KeepsAt kept item x y
  item_keeps s stopped (Stepped step answer events left) x y last works is_at since later stays =
      elim works.0 [
        | inl does ↦ performed_keeps s step answer events left x y last does is_at.is_in.serves since later stays
        | inr again ↦ stopped_keeps step answer events left x y again
      ]
  item_keeps s stopped _ x y last works is_at since later stays = tt

  -- ---- traces

  each_keeps : (s : State) (stopped : Option Refusal) (trace : List TraceItem) (x y : Devices R W) (works : AlongTrace (WorksAll view) trace x y)
      → TraceLeads returning view trace x y works → IsHistory (h_of x) → IsAt view returning before s stopped x
      → StaysWithinToleranceUpTo view returning s.geometry before (h_of y) trace x y works → Ran any_call before (h_of x) → EachStays s (h_of y)
      → EachKeeps view kept trace x y works
  each_keeps s stopped [] x y works lead history is_at calm since stays = tt
  each_keeps s stopped (item ∷ trace) x y works lead history is_at calm since stays =
      let ran = one_ran view honest item x works.0 works.1 in
      let later = works_ran view honest trace works.0 y works.2 in
      let one = one_goes view honest returning before s stopped item x works.0 works.1 lead.0 history is_at (λ h at. calm.0 h at (upto_end at later)) in (
        item_keeps s stopped item x works.0 (h_of y) works.1 is_at since later stays,
        each_keeps one.state one.stop trace works.0 y works.2 lead.1 (history_on history ran) one.is_at
            (subst (λ (g : Geometry). StaysWithinToleranceUpTo view returning g before (h_of y) trace works.0 y works.2) (sym one.geometry) calm.1) (ran_join since ran)
            (subst (λ (g : Geometry). (j : ℕ) → HasSlot kept j → StaysIn g before (h_of y) j) (sym one.geometry) stays),
      )

-- from a session's beginning
pub staying_kept : {R W : Type 0} (returning : Returning) (view : DeviceView R W) (s : State) (kept : Slots) (trace : List TraceItem) (x y : Devices R W)
    (works : AlongTrace (WorksAll view) trace x y) → IsTrue view.rack.honest → x.session ≡ Begun → IsHistory (view.rack.history x.rack)
    → StandsFor returning s (view.rack.history x.rack)
    → StaysWithinToleranceUpTo view returning s.geometry (view.rack.history x.rack) (view.rack.history y.rack) trace x y works
    → TraceLeads returning view trace x y works
    → ((j : ℕ) → HasSlot kept j → StaysIn s.geometry (view.rack.history x.rack) (view.rack.history y.rack) j) → EachKeeps view kept trace x y works
staying_kept returning view s kept trace x y works honest begun history stands calm lead stays =
    each_keeps returning view honest kept (view.rack.history x.rack) (without_seats s) None trace x y works lead history
    (begins_at returning view s x begun stands) calm (ran_none (view.rack.history x.rack)) stays
