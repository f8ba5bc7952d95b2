-- The replacement of a slot keeps what is promised of a step, whether media come back or not: it is done where its medium is fit.
use Rattle.std.proofs.Common.{◌≡◌, ℕ, ◌<◌, ◌≤◌, List, refl, sym, ap, ◌∙◌, subst, arith, true, true≢false, Some, Option}
use Rattle.std.specs.Prelude.{IfErr, IsOk, IsTrue, Result, Ok, Err}
use Rattle.std.proofs.lemmas.Bool.{le-ltb}
use Rattle.stair_model.specs.Geometry.{Geometry, sectors_needed}
use Rattle.stair_model.specs.Slots.{Slots}
use Rattle.stair_rack.specs.Answers.{Ran, any_call, IsHistory}
use Rattle.stair_rack.specs.History.{Attach, Happening, slot_state}
use Rattle.stair_rack.specs.Media.{has_sector}
use Rattle.stair_rack.specs.Moments.{IsMoment}
use Rattle.stair_rack.specs.Offline.{IsOffline}
use Rattle.stair_rack.specs.Stretch.{NoneWritten}
use Rattle.stair_rack.specs.declared.rack.Reply.TheVariants as reply
use Rattle.stair_rack.specs.declared.watcher.Event.{Event}
use Rattle.stair_rack.proofs.MomentLemmas.{IsThis, at_every_from, at_moment, calls_ran, moment_sooner, moment_wider, ran_before, ran_none}
use Rattle.stair_member.specs.Establishing.{refusal_in}
use Rattle.stair_member.specs.Membership.{Membership}
use Rattle.stair_member.specs.Superblocks.{HoldsSuper}
use Rattle.stair_member.specs.declared.fault.AdmitFault.{AdmitFault}
use Rattle.stair_member.specs.declared.fault.AdmitFault.TheVariants as admit
use Rattle.stair_member.specs.declared.why.Why.{Why}
use Rattle.stair_state.specs.State.{State}
use Rattle.stair_invariant.specs.Effects.{Snapshot, snapshot}
use Rattle.stair_invariant.specs.Returning.{StaysWithinTolerance, Returning}
use Rattle.stair_invariant.specs.Session.{seats_in}
use Rattle.stair_invariant.proofs.Mending.{LeadsAdmissions, LeadsBeside}
use Rattle.stair_invariant.proofs.Serving.{LeadsReads}
use Rattle.stair_array.specs.Causes.{HasCause, IsFree, IsSmall}
use Rattle.stair_array.specs.Draws.{Before, HadSeen, OnMedium, most_drawn}
use Rattle.stair_array.specs.Looking.{cells_at}
use Rattle.stair_array.specs.Machine.{AlreadyArray, Answer, EpochsSpent, Frozen, Gone, JournalLost, Lost, OutOfRange, Refusal, ReplaceSlot, SlotBusy, SmallDevice, TooFew}
use Rattle.stair_array.specs.Mends.{Admitted, Busy, IsSecondLook, OutOf, PreparesSlot, Prepared, Replaces, Unprepared, WasGone, WasOther, WasSmall, joined_as}
use Rattle.stair_array.specs.Promise.{CanBeDone, IsInState, LeadsStep, Performs, Seen, is_open, IsOpenFor}
use Rattle.stair_array.proofs.CreateLemmas.{size_kept}
use Rattle.stair_array.proofs.DrawsLemmas.{never_spent}
use Rattle.stair_array.proofs.PreparedSlotLemmas.{HeldThen, held_then, looks_unwritten}
use Rattle.stair_array.proofs.ReplaceStepLemmas.{admission_enough, begins, calm_begun, cuts, leads, serves, unprepared_goes_on}

module _ (returning : Returning) (laws : LeadsReads returning) (besides : LeadsBeside returning) (admissions : LeadsAdmissions returning)
    (slot : ℕ) (answer : Answer (ReplaceSlot slot)) (events : List Event) (x y : Seen) (p : Performs (ReplaceSlot slot) answer events x y)
    (honest : IsTrue y.told.honest) (before : List Happening) (s : State) (history : IsHistory x.told.history)
    (state : IsInState returning before s x)
    (calm : StaysWithinTolerance returning s.geometry (is_open x.session) before y.told.history)
    (can : CanBeDone (ReplaceSlot slot) s p.was.member x.told.history y.told.history) where
  abbrev m : Membership
  m = p.was.member

  abbrev start : IsOpenFor returning before s p.was x.told.history
  start = begins returning laws besides admissions slot answer events x y p honest before s history state

  same_geometry : m.array.geometry ≡ s.geometry
  same_geometry = start.geometry

  -- THE SLOT is free, and its medium in use all along, as large as it was

  free : IsFree m slot
  free =
      let passes = can.passes (seats_in m.array) start.seats in
      (subst (λ (g : Geometry). slot < g.n) (sym same_geometry) passes.0, passes.1)

  ran : Ran any_call x.told.history y.told.history
  ran = p.later.ran honest

  online : (h : List Happening) → IsMoment x.told.history h y.told.history → ¬ IsOffline x.told.history h slot
  online h at = at_moment {P = λ k. ¬ IsOffline x.told.history k slot} can.fit.online at

  size_at : (h : List Happening) → IsMoment x.told.history h y.told.history → (slot_state h slot).size ≡ (slot_state x.told.history slot).size
  size_at h at =
      let upto = ran_before {allowed = any_call} ran at in
      size_kept x.told.history slot x.told.history h upto
      (at_every_from {P = λ k. ¬ IsOffline x.told.history k slot} upto.more upto.is (λ k so. online k (moment_sooner so at)))

  not_small : (has needs : ℕ) → ¬ IsSmall m.array.geometry slot has needs x.told y.told
  not_small has needs is =
      let had = is.had honest in
      let size : (slot_state x.told.history slot).size ≡ Some has = sym (size_at had.moment had.is_one) ∙ had.holds in
      let below : has < sectors_needed s.geometry = subst (λ (g : Geometry). has < sectors_needed g) same_geometry
      (subst (λ (n : ℕ). has < n) is.needs_is is.small) in
      let within : has_sector (Some has) has ≡ true = subst (λ (o : Option ℕ). has_sector o has ≡ true) size (can.fit.large has below) in
      true≢false (sym within ∙ le-ltb has has (omega arith))

  -- NO OTHER ARRAY is on it

  bears_no_other : (i : ℕ) (given : Result (Unit {0}) Refusal) (u v : Snapshot) → PreparesSlot slot given u v → given ≡ Err (AlreadyArray i)
      → u ≡ snapshot m x.told → v ≡ snapshot p.is.member y.told → ⊥
  bears_no_other i _ _ _ (WasGone u v only found) is at_u at_v = absurd (cc)
  bears_no_other i _ _ _ (WasSmall has needs mid u v looks small) is at_u at_v = absurd (cc)
  bears_no_other i _ _ _ (Prepared first second mid u v w looks fit later placed sees rules) is at_u at_v = absurd (cc)
  bears_no_other i _ _ _ (WasOther mid u v looks other) is at_u at_v =
      other.other (own.0 ∙ sym same_geometry ∙ ap (λ (w : Snapshot). w.member.array.geometry) (sym at_u))
    where
      honest_v : IsTrue v.told.honest
      honest_v = subst (λ (w : Snapshot). IsTrue w.told.honest) (sym at_v) honest

      honest_mid : IsTrue mid.honest
      honest_mid = subst IsTrue (sym looks.later.honest) honest_v

      held : HeldThen mid.history v.told.history slot other.place (other.cell other.place)
      held = held_then slot other.place mid v.told (other.cell other.place) (other.reading other.place other.place_in) honest_v

      at : IsMoment x.told.history held.moment y.told.history
      at =
          subst (λ (w : Snapshot). IsMoment w.told.history held.moment y.told.history) at_u
          (subst (λ (w : Snapshot). IsMoment u.told.history held.moment w.told.history) at_v
          (moment_wider {a = IsThis slot (Attach reply.Done)} {b = any_call} (calls_ran (looks.attached honest_mid)) (ran_none v.told.history)
          held.is_one))

      own : (other.super.array.geometry ≡ s.geometry) × (other.super.draw ≤ most_drawn)
      own =
          can.fit.own held.moment other.place other.super at
          (subst (λ (w : Snapshot). NoneWritten (λ i. i ≡ slot) w.told.history held.moment) at_u
          (looks_unwritten slot u.told.history mid.history held.moment (looks.attached honest_mid)
          (ran_before {allowed = IsSecondLook slot} (looks.ran honest_v) held.is_one))) other.place_in (held.does other.super other.holds)

  not_other : (i : ℕ) (given : Answer (ReplaceSlot slot)) (u v : Snapshot) → Replaces slot given u v → given ≡ Err (AlreadyArray i)
      → u ≡ snapshot m x.told → v ≡ snapshot p.is.member y.told → ⊥
  not_other i _ _ _ (OutOf u past) is at_u at_v = absurd (cc)
  not_other i _ _ _ (Busy u below busy) is at_u at_v = absurd (cc)
  not_other i _ _ _ (Unprepared refusal u v free prepares) is at_u at_v = bears_no_other i (Err refusal) u v prepares is at_u at_v
  not_other i _ _ _ (Admitted joined u z v free prepares joins) is at_u at_v = by joined is
    where
      by : (given : Result Slots AdmitFault) → joined_as given ≡ Err (AlreadyArray i) → ⊥
      by (Ok fallen) never = absurd (cc)
      by (Err (admit.TooFew whys)) never = absurd (cc)
      by (Err admit.EpochsSpent) never = absurd (cc)
      by (Err (admit.Gone k)) never = absurd (cc)

  -- ENOUGH SLOTS are left

  not_few : (whys : List Why) (given : Answer (ReplaceSlot slot)) (u v : Snapshot) → Replaces slot given u v → given ≡ Err (TooFew whys)
      → u ≡ snapshot m x.told → v ≡ snapshot p.is.member y.told → ⊥
  not_few whys _ _ _ (OutOf u past) is at_u at_v = absurd (cc)
  not_few whys _ _ _ (Busy u below busy) is at_u at_v = absurd (cc)
  not_few whys _ _ _ (Unprepared refusal u v free prepares) is at_u at_v =
      unprepared_goes_on slot (Err refusal) u v prepares (TooFew whys) is tt
  not_few whys _ _ _ (Admitted joined u z v free prepares joins) is at_u at_v = by joined refl is
    where
      by : (given : Result Slots AdmitFault) → joined ≡ given → joined_as given ≡ Err (TooFew whys) → ⊥
      by (Ok fallen) same never = absurd (cc)
      by (Err admit.EpochsSpent) same never = absurd (cc)
      by (Err (admit.Gone k)) same never = absurd (cc)
      by (Err (admit.TooFew other)) same never =
          admission_enough returning laws besides admissions slot answer events x y p honest before s history state joined u z v free prepares
          joins at_u at_v (calm_begun returning laws besides admissions slot answer events x y p honest before s history state y.told.history calm)
          other (ap refusal_in same)

  -- AND A DRAW is

  room : p.draws_few.draw ≤ most_drawn
  room = by p.draws_few.draw p.draws_few.had_seen
    where
      by : (draw : ℕ) → HadSeen (ReplaceSlot slot) m x.told y.told draw → draw ≤ most_drawn
      by draw (Before same) = subst (λ (n : ℕ). n ≤ most_drawn) (sym same) can.draws
      by draw (OnMedium j k super admits place moment geometry same least) =
          let at = moment honest in
          let one : j ≡ slot = cc in
          subst (λ (n : ℕ). n ≤ most_drawn) (sym same)
          (can.fit.own at.0 k super at.1 (subst (λ (i : ℕ). NoneWritten (λ l. l ≡ i) x.told.history at.0) one at.2) place
          (subst (λ (i : ℕ). HoldsSuper (cells_at at.0 i k) super) one at.3)).1

  -- So it is done.
  pub complete : IsOk answer
  complete = by answer refl
    where
      caused : (refusal : Refusal) → answer ≡ Err refusal → HasCause (ReplaceSlot slot) refusal p.was p.is.member x.told y.told
      caused refusal same =
          subst (λ (r : Answer (ReplaceSlot slot)). IfErr r (λ why. HasCause (ReplaceSlot slot) why p.was p.is.member x.told y.told)) same p.caused

      refused : (refusal : Refusal) → answer ≡ Err refusal → HasCause (ReplaceSlot slot) refusal p.was p.is.member x.told y.told → ⊥
      refused (OutOfRange asked limit) same cause = let above = cause.above in let below = free.0 in omega (arith, above, below)
      refused (SlotBusy i mark) same cause = cause.3 (sym cause.2 ∙ free.1)
      refused (Gone i) same cause = let some = cause.2.1 honest in online some.moment some.is_one some.holds
      refused (SmallDevice i has needs) same cause = not_small has needs cause.2
      refused (AlreadyArray i) same cause = not_other i answer (snapshot m x.told) (snapshot p.is.member y.told) p.does same refl refl
      refused (TooFew whys) same cause = not_few whys answer (snapshot m x.told) (snapshot p.is.member y.told) p.does same refl refl
      refused EpochsSpent same cause =
          never_spent (ReplaceSlot slot) m p.is.member x.told y.told
          (serves returning laws besides admissions slot answer events x y p honest before s history state).is_open.array.member p.draws_few room
          cause.1.spent
      refused Frozen same cause = cause
      refused (Lost t counts) same cause = cause
      refused (JournalLost sector) same cause = cause

      by : (given : Answer (ReplaceSlot slot)) → answer ≡ given → IsOk answer
      by (Ok done) same = subst (λ (r : Answer (ReplaceSlot slot)). IsOk r) (sym same) refl
      by (Err refusal) same = absurd (refused refusal same (caused refusal same))

-- So it is what is promised of a step.
pub promise : (returning : Returning) → LeadsReads returning → LeadsBeside returning → LeadsAdmissions returning → (slot : ℕ)
    (answer : Answer (ReplaceSlot slot)) (events : List Event) (x y : Seen) (p : Performs (ReplaceSlot slot) answer events x y)
    → LeadsStep returning p.was.member (ReplaceSlot slot) answer x y
promise returning laws besides admissions slot answer events x y p = record {
  leads = λ honest before s history state calm. leads returning laws besides admissions slot answer events x y p honest before s history state calm;
  cuts = λ honest before s history state c at calm.
      cuts returning laws besides admissions slot answer events x y p honest before s history state c at calm;
  complete = λ honest before s history state calm unread can.
      complete returning laws besides admissions slot answer events x y p honest before s history state calm can;
}
