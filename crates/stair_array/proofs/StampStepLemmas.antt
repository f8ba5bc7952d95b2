-- A frozen mark or a label is a step of the array's machine, whether media come back or not, and what a crash leaves in the midst of it is
-- what one within the step leaves; and it is done where it can be.
use Rattle.std.proofs.Common.{◌≡◌, ℕ, ◌≤◌, Bool, List, inl, inr, refl, sym, ap, ◌∙◌, subst, None, Some, Option}
use Rattle.std.specs.Prelude.{IfErr, IsOk, IsTrue, Result, Ok, Err}
use Rattle.stair_model.specs.Geometry.{Geometry}
use Rattle.stair_model.specs.Slots.{HasSlot}
use Rattle.stair_rack.specs.Answers.{IsHistory, any_call}
use Rattle.stair_rack.specs.Crash.{EachImage}
use Rattle.stair_rack.specs.History.{Happening}
use Rattle.stair_rack.specs.Moments.{IsMoment}
use Rattle.stair_rack.specs.RackState.{RackState}
use Rattle.stair_rack.specs.declared.watcher.Event.{Event}
use Rattle.stair_rack.proofs.MomentLemmas.{ran_join}
use Rattle.stair_super.specs.declared.configuration.Configuration.{Configuration}
use Rattle.stair_member.specs.Aims.{IsAimed, frozen_then, label_then}
use Rattle.stair_member.specs.Establishing.{Establishes}
use Rattle.stair_member.specs.Membership.{Membership}
use Rattle.stair_member.specs.Seats.{Seats}
use Rattle.stair_member.specs.declared.aim.EpochChange.{EpochChange}
use Rattle.stair_member.specs.declared.aim.EpochChange.TheVariants.{Stamp}
use Rattle.stair_member.specs.declared.fault.FenceFault.{FenceFault}
use Rattle.stair_member.specs.declared.fault.FenceFault.TheVariants as fence
use Rattle.stair_state.specs.Blocks.{AreEncodingsOf, Codewords}
use Rattle.stair_state.specs.State.{Change, Content, FrozenIs, LabelIs, State, changed}
use Rattle.stair_invariant.specs.Effects.{Snapshot, snapshot}
use Rattle.stair_invariant.specs.InSession.{IsOfContent, state_with}
use Rattle.stair_invariant.specs.Returning.{StaysWithinTolerance, Returning}
use Rattle.stair_invariant.specs.SeatSteps.{EachMayDrop}
use Rattle.stair_invariant.specs.Session.{ArrayState, Remembered, seats_in}
use Rattle.stair_invariant.proofs.SeatLemmas.{listed_member}
use Rattle.stair_invariant.proofs.Serving.{StaysWithinToleranceTo, IsGoing, IsServing, LeadsReads}
use Rattle.stair_invariant.proofs.Stamping.{IsPlain, LeadsStamps, plain_drops}
use Rattle.stair_invariant.proofs.Mending.{calm_going}
use Rattle.stair_array.specs.Calls.{refused}
use Rattle.stair_array.specs.Causes.{AreSpent, HasCause}
use Rattle.stair_array.specs.Draws.{most_drawn}
use Rattle.stair_array.specs.Machine.{Answer, AreKnown, EpochsSpent, GivenBy, HoldsAfter, InDoubt, IsChanged, IsFinal, IsInDoubt, MayBegin, PassesTests, Recover, Refusal, ReplaceSlot, Row, SeatsAfter, SetFrozen, SetLabel, Step}
use Rattle.stair_array.specs.Mends.{Stamped, StampsAs}
use Rattle.stair_array.specs.Promise.{BeginsWith, CanBeDone, Does, IsInState, IsLed, IsLeftBy, IsOpenFor, Keeps, KeepsProgress, KeepsRebuild, LeadsStep, Performs, Remembers, Seen, is_open}
use Rattle.stair_array.proofs.DrawsLemmas.{draws_on, never_spent}
use Rattle.stair_array.proofs.OpenStepLemmas.{forgotten_in, calm_first, goes_on_as, kept_fault, open_first, serves_first, serves_over, stops_as}
use Rattle.stair_array.proofs.PerformsLemmas.{final_refused}

-- an epoch for this stands, or was refused
pub data IsStamped {T : Type 0} (aim : EpochChange) (x y : Snapshot) : Result T Refusal → Type 0 where
  Stood : (given : T) → Establishes aim x.member y.member None x.told y.told → IsStamped aim x y (Ok given)
  Failed : (fault : FenceFault) → Establishes aim x.member y.member (Some fault) x.told y.told → IsStamped aim x y (Err (refused fault))

-- A STEP THAT STAMPS: its epoch changes this of the content, and neither admits nor promotes a slot.
pub record Stamping (step : Step) (change : Change) (aim : Membership → EpochChange) : Type 0 where
  pub no_opening : ¬ (step ≡ Recover)
  pub no_replacement : (j : ℕ) → ¬ (step ≡ ReplaceSlot j)
  pub does : (was : ArrayState) (after : Option Remembered) (answer : Answer step) (x y : Snapshot) → Does step was after answer x y → IsStamped (aim x.member) x y answer
  pub plain : (m : Membership) (words : Codewords) (kept : Content) → IsOfContent m words kept → IsPlain (aim m) m words kept (Some change)
  pub leaves : (m last : Membership) (words : Codewords) (kept : Content) → IsOfContent m words kept → last.array.geometry ≡ m.array.geometry
      → last.array.frozen ≡ frozen_then (aim m) m.array → last.array.label ≡ label_then (aim m) m.array
      → IsOfContent last words (changed change kept)
  pub begins : (returning : Returning) (m : Membership) (before h : List Happening) (s : State) (seats : Seats) → s.seats ≡ Some seats
      → BeginsWith returning step m before h s seats
  pub may : (s : State) → s.in_doubt ≡ None → MayBegin step s
  pub passes : (s : State) (seats : Seats) → PassesTests step s seats
  pub done : (answer : Answer step) (old new : State) → IsOk answer → IsChanged (Some change) old new → HoldsAfter step answer old new
  pub cut : (refusal : Refusal) (old new : State) → IsFinal refusal → IsInDoubt change old new → HoldsAfter step (Err refusal) old new
  pub known : (answer : Answer step) (found : Option Seats) (seats : Seats) → found ≡ Some seats → AreKnown step answer found seats
  pub marks : (answer : Answer step) (old new : Seats) → EachMayDrop old new → SeatsAfter step answer old new
  pub keeps : (answer : Answer step) (was is : ArrayState) → KeepsRebuild step answer was is → KeepsProgress was is
  pub forgets : (was is : ArrayState) → Remembers step was is → is.remembered ≡ None
  pub spent : (was : ArrayState) (last : Membership) (old new : RackState) → HasCause step EpochsSpent was last old new → AreSpent last

module _ (returning : Returning) (laws : LeadsReads returning) (stamps : LeadsStamps returning) (step : Step) (change : Change)
    (aim : Membership → EpochChange) (of_step : Stamping step change aim) (answer : Answer step) (events : List Event) (x y : Seen)
    (p : Performs step answer events x y) (honest : IsTrue y.told.honest) (before : List Happening) (s : State) (history : IsHistory x.told.history)
    (state : IsInState returning before s x) where
  abbrev m : Membership
  m = p.was.member

  abbrev last : Membership
  last = p.is.member

  abbrev CalmTo : List Happening → Type 0
  CalmTo = StaysWithinToleranceTo returning m.array.geometry before

  abbrev begins : IsOpenFor returning before s p.was x.told.history
  begins = open_first returning laws step of_step.no_opening answer events x y p before s state

  serves : IsServing returning before p.was begins.words s.content x.told.history
  serves = serves_first returning laws step of_step.no_opening answer events x y p before s state history

  calm_begun : (h : List Happening) → StaysWithinTolerance returning s.geometry (is_open x.session) before h → CalmTo h
  calm_begun = calm_first returning laws step of_step.no_opening answer events x y p before s state

  plain : IsPlain (aim m) m begins.words s.content (Some change)
  plain = of_step.plain m begins.words s.content serves.of

  -- a row of the machine, of a refusal for good, that leaves the change in doubt
  doubtful : (given : Refusal) → IsFinal given → (array : Configuration) → EachMayDrop (seats_in m.array) (seats_in array)
      → Row step (Err given) (seats_in m.array) s (state_with m s.content (Some change) array)
  doubtful given final array dropped = record {
    geometry = begins.geometry;
    begins = of_step.may s begins.certain;
    passes = λ begun. of_step.passes s (seats_in m.array);
    holds = of_step.cut given s (state_with m s.content (Some change) array) final (record { content = refl; in_doubt = refl });
    seats = seats_in array;
    known = of_step.known (Err given) (Some (seats_in array)) (seats_in array) refl;
    marks = of_step.marks (Err given) (seats_in m.array) (seats_in array) dropped;
  }

  -- AN EPOCH that is refused

  failed : (fault : FenceFault) → Establishes (aim m) m last (Some fault) x.told y.told → answer ≡ Err (refused fault) → CalmTo y.told.history
      → IsLed returning m before s step answer y
  failed fault e same calm =
      let found =
      stamps.ended before p.was begins.words s.content (Some change) (aim m) last (Some fault) x.told y.told serves plain e honest calm in
      let now : State = state_with m s.content (Some change) found.array in
      record {
        state = now;
        is_step = record {
          begun = seats_in m.array;
          begins = of_step.begins returning m before y.told.history s (seats_in m.array) begins.seats;
          row =
              subst (λ (r : Answer step). Row step r (seats_in m.array) s now) (sym same)
              (doubtful (refused fault) (final_refused fault) found.array found.dropped);
        };
        is_in =
            stops_as returning laws step of_step.no_opening answer events x y p before s state now found.stands
            (kept_fault (GivenBy step) fault p.is.stopped
            (subst (λ (r : Answer step). Keeps r p.is.stopped) same
            (goes_on_as returning laws step of_step.no_opening answer events x y p before s state).1));
      }

  -- or stands

  stood : (given : GivenBy step) → Establishes (aim m) m last None x.told y.told → answer ≡ Ok given → CalmTo y.told.history
      → IsLed returning m before s step answer y
  stood given e same calm = record {
    state = now;
    is_step = record {
      begun = seats_in m.array;
      begins = of_step.begins returning m before y.told.history s (seats_in m.array) begins.seats;
      row = record {
        geometry = e.geometry ∙ begins.geometry;
        begins = of_step.may s begins.certain;
        passes = λ begun. of_step.passes s (seats_in m.array);
        holds = of_step.done answer s now (subst (λ (r : Answer step). IsOk r) (sym same) refl) (record { content = refl; in_doubt = refl });
        seats = seats_in last.array;
        known = of_step.known answer (Some (seats_in last.array)) (seats_in last.array) refl;
        marks = of_step.marks answer (seats_in m.array) (seats_in last.array) drops;
      };
    };
    is_in =
        serves_over returning laws step of_step.no_opening answer events x y p before s state begins.words (changed change s.content) e.geometry
        (stamps.serves before p.was begins.words s.content (Some change) (aim m) last x.told y.told serves plain e honest of_last on)
        (of_step.keeps answer p.was p.is p.rebuild)
        (forgotten_in begins.words p.is.remembered (of_step.forgets p.was p.is p.remembers)) calm;
  }
    where
      now : State
      now = state_with last (changed change s.content) None last.array

      on : IsGoing returning m.array.geometry before y.told.history
      on = calm_going returning m.array.geometry before y.told.history (ran_join {allowed = any_call} serves.is_open.ran (p.later.ran honest)) calm

      named : IsAimed (aim m) (HasSlot e.gone) m last.array
      named = (e.done refl).aimed_at

      of_last : IsOfContent last begins.words (changed change s.content)
      of_last = of_step.leaves m last begins.words s.content serves.of e.geometry named.frozen named.label

      drops : EachMayDrop (seats_in m.array) (seats_in last.array)
      drops =
          plain_drops (aim m) (HasSlot e.gone) m last.array serves.is_open.array.member (listed_member last e.rules) serves.is_open.array.marks
          plain.admits plain.promotes named

  -- AT EACH MOMENT OF IT

  cut_at : (refusal : Option FenceFault) → Establishes (aim m) m last refusal x.told y.told → (c : List Happening)
      → IsMoment x.told.history c y.told.history → CalmTo c → EachImage (IsLeftBy returning step m before c s) c
  cut_at refusal e c at calm image left =
      let found =
      stamps.moments before p.was begins.words s.content (Some change) (aim m) last refusal x.told y.told serves plain e honest c at calm image left in
      record {
        state = state_with m s.content (Some change) found.array;
        cut = record {
          begun = seats_in m.array;
          begins = of_step.begins returning m before c s (seats_in m.array) begins.seats;
          within = inr (Err EpochsSpent, doubtful EpochsSpent tt found.array found.dropped);
        };
        stands = found.stands;
      }

  -- WHAT IT DID

  did : IsStamped (aim m) (snapshot m x.told) (snapshot last y.told) answer
  did = of_step.does p.was p.is.remembered answer (snapshot m x.told) (snapshot last y.told) p.does

  leads : StaysWithinTolerance returning s.geometry (is_open x.session) before y.told.history → IsLed returning m before s step answer y
  leads calm = by answer refl did
    where
      by : (given : Answer step) → answer ≡ given → IsStamped (aim m) (snapshot m x.told) (snapshot last y.told) given
          → IsLed returning m before s step answer y
      by _ same (Stood given e) = stood given e same (calm_begun y.told.history calm)
      by _ same (Failed fault e) = failed fault e same (calm_begun y.told.history calm)

  cuts : (c : List Happening) → IsMoment x.told.history c y.told.history → StaysWithinTolerance returning s.geometry (is_open x.session) before c
      → EachImage (IsLeftBy returning step m before c s) c
  cuts c at calm = by answer did
    where
      by : (given : Answer step) → IsStamped (aim m) (snapshot m x.told) (snapshot last y.told) given
          → EachImage (IsLeftBy returning step m before c s) c
      by _ (Stood given e) = cut_at None e c at (calm_begun c calm)
      by _ (Failed fault e) = cut_at (Some fault) e c at (calm_begun c calm)

  -- it isn't refused for want of slots
  pub only_spent : StaysWithinTolerance returning s.geometry (is_open x.session) before y.told.history → (refusal : Refusal) → answer ≡ Err refusal
      → refusal ≡ EpochsSpent
  only_spent calm refusal same = by answer same did
    where
      spent : (fault : FenceFault) → Establishes (aim m) m last (Some fault) x.told y.told → refusal ≡ refused fault → refusal ≡ EpochsSpent
      spent (fence.TooFew whys) e is =
          absurd
          (stamps.enough before p.was begins.words s.content (Some change) (aim m) last whys x.told y.told serves plain e honest
          (calm_begun y.told.history calm))
      spent fence.EpochsSpent e is = is

      by : (given : Answer step) → given ≡ Err refusal → IsStamped (aim m) (snapshot m x.told) (snapshot last y.told) given → refusal ≡ EpochsSpent
      by _ is (Stood given e) = absurd (cc)
      by _ is (Failed fault e) = spent fault e (let one : refused fault ≡ refusal = cc in sym one)

  complete : StaysWithinTolerance returning s.geometry (is_open x.session) before y.told.history
      → CanBeDone step s m x.told.history y.told.history → IsOk answer
  complete calm can = by answer refl
    where
      room : p.draws_few.draw ≤ most_drawn
      room =
          subst (λ (n : ℕ). n ≤ most_drawn)
          (sym (draws_on step of_step.no_replacement m x.told y.told p.draws_few.draw p.draws_few.had_seen)) can.draws

      never : AreSpent last → ⊥
      never is = never_spent step m last x.told y.told serves.is_open.array.member p.draws_few room is.spent

      by : (given : Answer step) → answer ≡ given → IsOk answer
      by (Ok done) same = subst (λ (r : Answer step). IsOk r) (sym same) refl
      by (Err refusal) same =
          let at = same ∙ ap (λ (why : Refusal). Err why) (only_spent calm refusal same) in
          absurd
          (never
          (of_step.spent p.was last x.told y.told
          (subst (λ (r : Answer step). IfErr r (λ why. HasCause step why p.was last x.told y.told)) at p.caused)))

-- So it is what is promised of a step.
pub stamp_leads : (returning : Returning) → LeadsReads returning → LeadsStamps returning → (step : Step) (change : Change) (aim : Membership → EpochChange)
    → Stamping step change aim → (answer : Answer step) (events : List Event) (x y : Seen) (p : Performs step answer events x y)
    → LeadsStep returning p.was.member step answer x y
stamp_leads returning laws stamps step change aim of_step answer events x y p = record {
  leads = λ honest before s history state calm.
      leads returning laws stamps step change aim of_step answer events x y p honest before s history state calm;
  cuts = λ honest before s history state c at calm.
      cuts returning laws stamps step change aim of_step answer events x y p honest before s history state c at calm;
  complete = λ honest before s history state calm unread can.
      complete returning laws stamps step change aim of_step answer events x y p honest before s history state calm can;
}

-- THE TWO

stamped : (frozen : Bool) (label : List ℕ) (answer : Result (Unit {0}) Refusal) (x y : Snapshot) → StampsAs frozen label answer x y
    → IsStamped (Stamp frozen label) x y answer
stamped frozen label _ _ _ (Stamped (Ok fallen) x y does) = Stood tt does.establishes
stamped frozen label _ _ _ (Stamped (Err fault) x y does) = Failed fault does.establishes

pub freezing : (frozen : Bool) → Stamping (SetFrozen frozen) (FrozenIs frozen) (λ m. Stamp frozen m.array.label)
freezing frozen = record {
  no_opening = λ same. cc;
  no_replacement = λ j same. cc;
  does = λ was after answer x y did. stamped frozen x.member.array.label answer x y did;
  plain = λ m words kept of. record {
    admits = refl;
    promotes = λ j same. cc;
    says = record { encodings = of.encodings; frozen = inr refl; label = inl of.label };
    blocks = refl;
  };
  leaves = λ m last words kept of same frozen_is label_is. record {
    encodings = subst (λ (g : Geometry). AreEncodingsOf g kept.blocks words) (sym same) of.encodings;
    frozen = frozen_is;
    label = label_is ∙ of.label;
  };
  begins = λ returning m before h s seats is. is;
  may = λ s certain. certain;
  passes = λ s seats. tt;
  done = λ answer old new. freeze_done answer old new;
  cut = λ refusal old new final is. inr (final, InDoubt (FrozenIs frozen) refl is);
  known = λ answer found seats is. is;
  marks = λ answer old new dropped. dropped;
  keeps = λ answer was is kept. kept;
  forgets = λ was is none. none;
  spent = λ was last old new cause. cause.1;
}
  where
    freeze_done : (answer : Answer (SetFrozen frozen)) (old new : State) → IsOk answer → IsChanged (Some (FrozenIs frozen)) old new
        → HoldsAfter (SetFrozen frozen) answer old new
    freeze_done (Ok done) old new ok is = is
    freeze_done (Err refusal) old new ok is = absurd (cc)

pub labelling : (label : List ℕ) → Stamping (SetLabel label) (LabelIs label) (λ m. Stamp m.array.frozen label)
labelling label = record {
  no_opening = λ same. cc;
  no_replacement = λ j same. cc;
  does = λ was after answer x y did. stamped x.member.array.frozen label answer x y did;
  plain = λ m words kept of. record {
    admits = refl;
    promotes = λ j same. cc;
    says = record { encodings = of.encodings; frozen = inl of.frozen; label = inr refl };
    blocks = refl;
  };
  leaves = λ m last words kept of same frozen_is label_is. record {
    encodings = subst (λ (g : Geometry). AreEncodingsOf g kept.blocks words) (sym same) of.encodings;
    frozen = frozen_is ∙ of.frozen;
    label = label_is;
  };
  begins = λ returning m before h s seats is. is;
  may = λ s certain. certain;
  passes = λ s seats. tt;
  done = λ answer old new. label_done answer old new;
  cut = λ refusal old new final is. inr (final, InDoubt (LabelIs label) refl is);
  known = λ answer found seats is. is;
  marks = λ answer old new dropped. dropped;
  keeps = λ answer was is kept. kept;
  forgets = λ was is none. none;
  spent = λ was last old new cause. cause.1;
}
  where
    label_done : (answer : Answer (SetLabel label)) (old new : State) → IsOk answer → IsChanged (Some (LabelIs label)) old new
        → HoldsAfter (SetLabel label) answer old new
    label_done (Ok done) old new ok is = is
    label_done (Err refusal) old new ok is = absurd (cc)
