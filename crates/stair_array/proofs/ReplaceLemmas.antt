-- What a replacement of a slot did is what is promised of a step, on any rack.
use Rattle.std.proofs.Common.{◌≡◌, ℕ, ◌<◌, ◌≤◌, List, arith, inl, inr, refl, sym, ap, ◌∙◌, subst, None, Option, Some}
use Rattle.std.specs.Prelude.{Err, IfErr, IsTrue, Ok, Result}
use Rattle.std.proofs.lemmas.Bool.{cases_lt}
use Rattle.stair_model.specs.Device.{chunks_start, gate_sector}
use Rattle.stair_model.specs.Geometry.{Geometry}
use Rattle.stair_model.specs.Slots.{HasSlot, Slots}
use Rattle.stair_rack.specs.Answers.{Ran, any_call}
use Rattle.stair_rack.specs.History.{Attach, Happening, Read, Sectors, SlotCall, Sync, Write, slot_state}
use Rattle.stair_rack.specs.Offline.{IsHeld, IsOffline, IsOfflineUntilAttached}
use Rattle.stair_rack.specs.Sector.{Good, content}
use Rattle.stair_rack.specs.Stretch.{WasAnswered}
use Rattle.stair_rack.specs.RackState.{IsFoundGone, IsLater, RackState}
use Rattle.stair_rack.specs.declared.rack.Reply.TheVariants as reply
use Rattle.stair_rack.proofs.MomentLemmas.{IsThis, at_end, at_some_wider, calls_ran, moment_between, moment_wider, ran_after, ran_join, ran_none, ran_weakened}
use Rattle.stair_rack.proofs.OfflineLemmas.{held_on, offline_now}
use Rattle.stair_rack.proofs.StretchLemmas.{answered_allowed}
use Rattle.stair_rack.proofs.RackStateLemmas.{gones_wider, later_join, later_none, reading_wider, some_wider}
use Rattle.stair_super.specs.Spelling.{spelled}
use Rattle.stair_super.specs.Superblock.{mark_in}
use Rattle.stair_super.specs.declared.configuration.Configuration.{Configuration}
use Rattle.stair_super.specs.declared.mark.Mark.TheVariants as mark
use Rattle.stair_member.specs.Aims.{mark_for}
use Rattle.stair_member.specs.Editions.{copy_of, edition_of}
use Rattle.stair_member.specs.Establishing.{Joins, refusal_in}
use Rattle.stair_member.specs.Membership.{IsHere, Membership, why_of}
use Rattle.stair_member.specs.declared.aim.EpochChange.TheVariants.{Admit}
use Rattle.stair_member.specs.declared.fault.AdmitFault.{AdmitFault}
use Rattle.stair_member.specs.declared.fault.AdmitFault.TheVariants as admit
use Rattle.stair_member.specs.declared.fault.FenceFault.{FenceFault}
use Rattle.stair_member.specs.declared.fault.FenceFault.TheVariants as fence
use Rattle.stair_journal.proofs.ToldLemmas.{answered_cases}
use Rattle.stair_invariant.specs.Effects.{Snapshot, snapshot}
use Rattle.stair_invariant.specs.Rebuilding.{Rebuild}
use Rattle.stair_invariant.specs.Session.{IsArray, Remembered}
use Rattle.stair_array.specs.Causes.{BearsOther, HasCause, IsAllowed, IsFree, IsSmall, MemberGoesOn, MarkGoesOn, WasGoneTo, WhyGoesOn}
use Rattle.stair_array.specs.Created.{created_sector}
use Rattle.stair_array.specs.Draws.{Before, DrawsFew, weights}
use Rattle.stair_array.specs.Events.{events_of}
use Rattle.stair_array.specs.Looking.{HadSectors}
use Rattle.stair_array.specs.Machine.{AlreadyArray, Answer, EpochsSpent, Gone, OutOfRange, Refusal, ReplaceSlot, SlotBusy, SmallDevice, TooFew}
use Rattle.stair_array.specs.Mends.{IsPreparing, IsSecondLook, Looks, OnlyPrepared, PreparesSlot, Replaces, joined_as}
use Rattle.stair_array.specs.Promise.{AreAllLeftOut, EndsIn, HasMade, Keeps, Opened, Performs, Stops, WasFitBefore, WasSound, left_of, running, unopened}
use Rattle.stair_array.proofs.AdmitPartLemmas.{admit_after, admit_draws, admit_geometry, admit_goes_on, admit_here}
use Rattle.stair_array.proofs.AnsweredLemmas.{epoch_left_out, never_answered}
use Rattle.stair_array.proofs.CauseLemmas.{epoch_array}
use Rattle.stair_array.proofs.GoesOnLemmas.{progress_kept, stands_rebuilt, without_rebuild}
use Rattle.stair_array.proofs.GoneToLemmas.{IsAfter}
use Rattle.stair_array.proofs.PreparedSlotLemmas.{IsReady, ready_array, ready_calls, ready_draw, ready_fit, ready_held, ready_landed, ready_later, ready_of, ready_places, ready_whys}
use Rattle.stair_array.proofs.ScrubMadeLemmas.{sound_by}

-- a slot that is marked Down doesn't take part
down_not_here : (m : Membership) (j : ℕ) → ((i : ℕ) → i < m.array.geometry.n → mark_in m.array i ≡ mark_for (why_of m i))
    → mark_in m.array j ≡ mark.Down → ¬ IsHere m j
down_not_here m j marks down here =
    elim here.why [
      | inl live ↦ let never : mark.Down ≡ mark.Live = sym down ∙ marks j here.below ∙ ap mark_for live in cc
      | inr rebuilt ↦ let never : mark.Down ≡ mark.Rebuilding = sym down ∙ marks j here.below ∙ ap mark_for rebuilt in cc
    ]

-- WHAT A REPLACEMENT CAME TO

-- the member is as it was, and no slot that takes part was called
record IsAsBefore (x z : Snapshot) : Type 0 where
  pub member : z.member ≡ x.member
  pub later : IsLater x.told z.told
  pub spared : IsTrue z.told.honest → (j : ℕ) (call : SlotCall) → IsHere x.member j → ¬ WasAnswered j call x.told.history z.told.history

data Replaced (slot : ℕ) (rebuild : Option Rebuild) (known : Option Remembered) (answer : Result (Unit {0}) Refusal) (x z : Snapshot) : Type 0 where
  AsBefore : (refusal : Refusal) → answer ≡ Err refusal → IsAsBefore x z
      → HasCause (ReplaceSlot slot) refusal (running x.member rebuild known) z.member x.told z.told → Replaced slot rebuild known answer x z
  Joined : (joined : Result Slots AdmitFault) (y : Snapshot) → answer ≡ joined_as joined → IsFree x.member slot → IsReady slot x y
      → Joins (Admit slot) slot y.member z.member joined y.told z.told → Replaced slot rebuild known answer x z

as_before_none : (x : Snapshot) → IsAsBefore x x
as_before_none x =
    record { member = refl; later = later_none x.told; spared = λ honest j call here was. never_answered j call x.told.history was }

-- where the calls are on a slot that doesn't take part
module _ (slot : ℕ) (x z : Snapshot) (away : ¬ IsHere x.member slot) where
  spared_by : Ran (λ j c. j ≡ slot) x.told.history z.told.history → (j : ℕ) (call : SlotCall) → IsHere x.member j
      → ¬ WasAnswered j call x.told.history z.told.history
  spared_by ran j call here was =
      away (subst (λ (i : ℕ). IsHere x.member i) (answered_allowed {allowed = λ i c. i ≡ slot} ran was) here)

  preparing_slot : (j : ℕ) (c : SlotCall) → IsPreparing x.member.array.geometry slot j c → j ≡ slot
  preparing_slot j (Attach answer) is = is
  preparing_slot j (Sectors size) is = is
  preparing_slot j (Read k answer) is = is
  preparing_slot j (Write k bytes answer) is = is.0
  preparing_slot j (Sync answer) is = is

  before_prepared : OnlyPrepared slot x z → IsAsBefore x z
  before_prepared only = record {
    member = only.member;
    later = only.later;
    spared = λ honest.
        spared_by
        (ran_weakened {allowed = IsPreparing x.member.array.geometry slot} {more = λ j c. j ≡ slot} preparing_slot (only.ran honest));
  }

  module _ (mid : RackState) (looks : Looks slot mid x z) where
    before_looks : IsAsBefore x z
    before_looks = record {
      member = looks.member;
      later = later_join looks.first looks.later;
      spared = λ honest.
          spared_by
          (ran_join {allowed = λ j c. j ≡ slot}
          (ran_weakened {allowed = IsThis slot (Attach reply.Done)} {more = λ j c. j ≡ slot} (λ j c is. is.0)
          (calls_ran (looks.attached (looks.later.honest ∙ honest))))
          (ran_weakened {allowed = IsSecondLook slot} {more = λ j c. j ≡ slot} (λ j c is. is.0.0) (looks.ran honest)));
    }

    sized_wider : (has : ℕ) → IsTrue z.told.honest → HadSectors slot has mid.history z.told.history → HadSectors slot has x.told.history z.told.history
    sized_wider has =
        some_wider x.told mid z.told z.told looks.first looks.later.honest looks.later.counts (later_none z.told)
        (λ h. (slot_state h slot).size ≡ Some has)

    small_wider : (g : Geometry) (has needs : ℕ) → IsSmall g slot has needs mid z.told → IsSmall g slot has needs x.told z.told
    small_wider g has needs is =
        record { needs_is = is.needs_is; small = is.small; had = λ honest. sized_wider has honest (is.had honest) }

    other_wider : (g : Geometry) → BearsOther g slot mid z.told → BearsOther g slot x.told z.told
    other_wider g is = record {
      large = λ honest. let was = is.large honest in (was.0, was.1, sized_wider was.0 honest was.2);
      cell = is.cell;
      reading = λ k below.
          reading_wider x.told mid z.told z.told looks.first looks.later.honest looks.later.counts (later_none z.told) slot k (is.cell k)
          (is.reading k below);
      place = is.place;
      place_in = is.place_in;
      super = is.super;
      holds = is.holds;
      other = is.other;
    }

unprepared : (slot : ℕ) (rebuild : Option Rebuild) (known : Option Remembered) (answer : Result (Unit {0}) Refusal) (x z : Snapshot) → PreparesSlot slot answer x z
    → IsFree x.member slot → ¬ IsHere x.member slot → (refusal : Refusal) → answer ≡ Err refusal
    → IsAsBefore x z × HasCause (ReplaceSlot slot) refusal (running x.member rebuild known) z.member x.told z.told
unprepared slot rebuild known _ _ _ (PreparesSlot.WasGone x z only gone) free away refusal is =
    let one : Gone slot ≡ refusal = cc in (
      before_prepared slot x z away only,
      subst (λ (r : Refusal). HasCause (ReplaceSlot slot) r (running x.member rebuild known) z.member x.told z.told) one (refl, free, gone),
    )
unprepared slot rebuild known _ _ _ (PreparesSlot.WasSmall has needs mid x z looks small) free away refusal is =
    let one : SmallDevice slot has needs ≡ refusal = cc in (
      before_looks slot x z away mid looks,
      subst (λ (r : Refusal). HasCause (ReplaceSlot slot) r (running x.member rebuild known) z.member x.told z.told) one
          (refl, free, small_wider slot x z away mid looks x.member.array.geometry has needs small),
    )
unprepared slot rebuild known _ _ _ (PreparesSlot.WasOther mid x z looks other) free away refusal is =
    let one : AlreadyArray slot ≡ refusal = cc in (
      before_looks slot x z away mid looks,
      subst (λ (r : Refusal). HasCause (ReplaceSlot slot) r (running x.member rebuild known) z.member x.told z.told) one
          (refl, free, other_wider slot x z away mid looks x.member.array.geometry other),
    )
unprepared slot rebuild known _ _ _ (PreparesSlot.Prepared first second mid x y z looks fit later placed sees rules) free away refusal is = absurd (cc)

replaced : (slot : ℕ) (rebuild : Option Rebuild) (known : Option Remembered) (answer : Result (Unit {0}) Refusal) (x z : Snapshot) → Replaces slot answer x z
    → IsArray (running x.member rebuild known) → Replaced slot rebuild known answer x z
replaced slot rebuild known _ _ _ (Replaces.OutOf x past) array =
    Replaced.AsBefore (OutOfRange slot x.member.array.geometry.n) refl (as_before_none x)
    (record { asked_is = refl; limit_is = refl; above = past; nothing = refl })
replaced slot rebuild known _ _ _ (Replaces.Busy x below busy) array =
    Replaced.AsBefore (SlotBusy slot (mark_in x.member.array slot)) refl (as_before_none x) (refl, below, refl, busy, refl)
replaced slot rebuild known _ _ _ (Replaces.Unprepared refusal x z free prepares) array =
    let both =
    unprepared slot rebuild known (Err refusal) x z prepares free (down_not_here x.member slot array.marks free.1) refusal refl in
    Replaced.AsBefore refusal refl both.0 both.1
replaced slot rebuild known _ _ _ (Replaces.Admitted joined x y z free prepares joins) array =
    Replaced.Joined joined y refl free (ready_of slot (Ok tt) x y prepares refl) joins

-- AN ADMISSION

module _ (slot : ℕ) (x y z : Snapshot) (joined : Result Slots AdmitFault) (free : IsFree x.member slot) (r : IsReady slot x y)
    (joins : Joins (Admit slot) slot y.member z.member joined y.told z.told) where
  after : IsAfter y.told z.told
  after =
      admit_after slot x.member y.member z.member (refusal_in joined) x.told y.told z.told joins.establishes (ready_array slot x y r)
      (ready_whys slot x y r) (ready_later slot x y r)

  joined_later : IsLater x.told z.told
  joined_later = later_join (ready_later slot x y r) after.later

  joined_geometry : z.member.array.geometry ≡ x.member.array.geometry
  joined_geometry =
      admit_geometry slot x.member y.member z.member (refusal_in joined) x.told y.told z.told joins.establishes (ready_array slot x y r)
      (ready_whys slot x y r) (ready_later slot x y r)

  honest_ready : IsTrue z.told.honest → IsTrue y.told.honest
  honest_ready honest = after.later.honest ∙ honest

  -- where the slot was gone to the epoch
  module _ (gone : HasSlot joins.establishes.gone slot) where
    shut : IsTrue z.told.honest → (before : List Happening) → IsHeld before y.told.history slot → IsOfflineUntilAttached before z.told.history slot
    shut honest before held = joins.establishes.were_gone.shut honest before slot gone held (ready_places slot x y r (honest_ready honest))

    gone_slot : WasGoneTo x.member slot x.told z.told
    gone_slot =
        WasGoneTo.Offline
        (record {
          rose =
              gones_wider x.told y.told z.told z.told (ready_later slot x y r) after.later.honest after.later.counts (later_none z.told) slot
              (joins.establishes.were_gone.rose slot gone);
          shut = λ honest before held.
              shut honest before (held_on {allowed = any_call} slot ((ready_later slot x y r).ran (honest_ready honest)) held);
        })

    found_gone : IsFoundGone slot x.told z.told
    found_gone = (
      gones_wider x.told y.told z.told z.told (ready_later slot x y r) after.later.honest after.later.counts (later_none z.told) slot
          (joins.establishes.were_gone.rose slot gone),
      λ honest.
          at_end {a = any_call} {P = λ h. IsOffline x.told.history h slot} (joined_later.ran honest)
          (offline_now (shut honest x.told.history (ready_held slot x y r (honest_ready honest)))),
    )

  -- ITS SLOTS AND DRAWS

  joined_goes_on : (rebuild : Option Rebuild) (known : Option Remembered) → IsArray (running x.member rebuild known) → MemberGoesOn (ReplaceSlot slot) x.told z.told x.member z.member
  joined_goes_on rebuild known array =
      admit_goes_on slot x.member y.member z.member (refusal_in joined) x.told y.told z.told joins.establishes (ready_array slot x y r)
      (ready_whys slot x y r) (ready_later slot x y r) free.0 gone_slot array.marks free.1 (ready_draw slot x y r z.told after.later).1

  joined_draws : (rebuild : Option Rebuild) (known : Option Remembered) → IsArray (running x.member rebuild known) → DrawsFew (ReplaceSlot slot) x.member z.member x.told z.told
  joined_draws rebuild known array = record {
    draw = y.member.drawn;
    had_seen = (ready_draw slot x y r z.told after.later).0;
    few =
        admit_draws slot x.member y.member z.member (refusal_in joined) x.told y.told z.told joins.establishes (ready_array slot x y r)
        (ready_whys slot x y r) (ready_later slot x y r) array.member free.0;
  }

  -- ON AN HONEST RACK

  joined_left_out : ¬ IsHere x.member slot → IsTrue z.told.honest → AreAllLeftOut x.member z.member x.told z.told
  joined_left_out away honest j call here was gone =
      elim (answered_cases (moment_between {a = any_call} {b = any_call} ((ready_later slot x y r).ran (honest_ready honest)) (after.later.ran honest)) was) [
        | inl early ↦ absurd (spared_by slot x y away (ready_calls slot x y r (honest_ready honest)) j call here early)
        | inr late ↦
            epoch_left_out (Admit slot) x.member y.member z.member (refusal_in joined) y.told z.told joins.establishes honest j call here late gone
      ]

  joined_fit : IsTrue z.told.honest → WasFitBefore (ReplaceSlot slot) (Ok tt) x.member x.told z.told
  joined_fit honest =
      let was = ready_fit slot x y r (honest_ready honest) in (
        was.0,
        moment_wider {a = any_call} {b = any_call} (ran_none {allowed = any_call} x.told.history) (after.later.ran honest) was.1,
        was.2,
        was.3,
      )

  -- its journal and its two places were sound
  module _ (honest : IsTrue z.told.honest) (done : refusal_in joined ≡ None) (here : IsHere z.member slot) where
    place_sound : (k : ℕ) → k < 2 → WasSound slot k x.told z.told
    place_sound k below =
        let got = (joins.establishes.on_disk honest done).got slot k here (inr (refl, below)) in
        sound_by x.told.history z.told.history slot k (spelled (copy_of (edition_of z.member) slot))
        (at_some_wider {a = any_call} {b = any_call}
        {P = λ h. content ((slot_state h slot).sector k) ≡ Good (spelled (copy_of (edition_of z.member) slot))}
        ((ready_later slot x y r).ran (honest_ready honest)) (ran_after {allowed = any_call} (after.later.ran honest) got.is_one) got.landed)

    journal_sound : (k : ℕ) → gate_sector ≤ k → k < chunks_start x.member.array.geometry → WasSound slot k x.told z.told
    journal_sound k past below =
        sound_by x.told.history z.told.history slot k (created_sector x.member.array.geometry slot k)
        (at_some_wider {a = any_call} {b = any_call}
        {P = λ h. content ((slot_state h slot).sector k) ≡ Good (created_sector x.member.array.geometry slot k)}
        (ran_none {allowed = any_call} x.told.history) (after.later.ran honest) (ready_landed slot x y r (honest_ready honest) k past below))

    joined_sound : (k : ℕ) → k < chunks_start z.member.array.geometry → WasSound slot k x.told z.told
    joined_sound k below =
        elim (cases_lt k 2) [
          | inl place ↦ place_sound k place
          | inr past ↦ journal_sound k past (subst (λ (g : Geometry). k < chunks_start g) joined_geometry below)
        ]

-- by what is answered of it
joined_caused : (slot : ℕ) (rebuild : Option Rebuild) (known : Option Remembered) (x y z : Snapshot) (joined : Result Slots AdmitFault) → IsFree x.member slot → IsReady slot x y
    → Joins (Admit slot) slot y.member z.member joined y.told z.told → (refusal : Refusal) → joined_as joined ≡ Err refusal
    → HasCause (ReplaceSlot slot) refusal (running x.member rebuild known) z.member x.told z.told
joined_caused slot rebuild known x y z (Ok fallen) free r joins refusal is = absurd (cc)
joined_caused slot rebuild known x y z (Err (admit.TooFew whys)) free r joins refusal is =
    let one : TooFew whys ≡ refusal = cc in
    let by = (joins.establishes.refused (fence.TooFew whys) refl).0 in
    subst (λ (s : Refusal). HasCause (ReplaceSlot slot) s (running x.member rebuild known) z.member x.told z.told) one
    (free, record { whys_are = by.0; many = by.1 })
joined_caused slot rebuild known x y z (Err admit.EpochsSpent) free r joins refusal is =
    let one : EpochsSpent ≡ refusal = cc in
    let by = (joins.establishes.refused fence.EpochsSpent refl).0 in
    subst (λ (s : Refusal). HasCause (ReplaceSlot slot) s (running x.member rebuild known) z.member x.told z.told) one
    (free, record { spent = by.0; enough = by.1 })
joined_caused slot rebuild known x y z (Err (admit.Gone told)) free r joins refusal is =
    let one : Gone told ≡ refusal = cc in
    subst (λ (s : Refusal). HasCause (ReplaceSlot slot) s (running x.member rebuild known) z.member x.told z.told) one
    (joins.told.0, free, found_gone slot x y z (Err (admit.Gone told)) free r joins joins.told.1)

-- where the array doesn't stop an epoch stands
joined_stands : (joined : Result Slots AdmitFault) → ¬ Stops (joined_as joined) → refusal_in joined ≡ None
joined_stands (Ok fallen) going = refl
joined_stands (Err (admit.TooFew whys)) going = absurd (going tt)
joined_stands (Err admit.EpochsSpent) going = absurd (going tt)
joined_stands (Err (admit.Gone told)) going = refl

joined_made : (slot : ℕ) (x y z : Snapshot) (joined : Result Slots AdmitFault) → IsFree x.member slot → IsReady slot x y
    → Joins (Admit slot) slot y.member z.member joined y.told z.told → joined_as joined ≡ Ok tt → IsTrue z.told.honest → (k : ℕ)
    → k < chunks_start z.member.array.geometry → WasSound slot k x.told z.told
joined_made slot x y z (Ok fallen) free r joins is honest =
    joined_sound slot x y z (Ok fallen) free r joins honest refl (admit_here slot y.member z.member None y.told z.told joins.establishes refl within joins.told)
  where
    within : slot < y.member.array.geometry.n
    within = subst (λ (c : Configuration). slot < c.geometry.n) (sym (ready_array slot x y r)) free.0
joined_made slot x y z (Err (admit.TooFew whys)) free r joins is honest = absurd (cc)
joined_made slot x y z (Err admit.EpochsSpent) free r joins is honest = absurd (cc)
joined_made slot x y z (Err (admit.Gone told)) free r joins is honest = absurd (cc)

-- WHAT IS PROMISED

module _ (slot : ℕ) (answer : Answer (ReplaceSlot slot)) (m last : Membership) (rebuild : Option Rebuild) (known : Option Remembered) (stopped : Option FenceFault)
    (old new : RackState) (array : IsArray (running m rebuild known)) (does : Replaces slot answer (snapshot m old) (snapshot last new))
    (kept : Keeps answer stopped) where
  abbrev Came : Type 0
  Came = Replaced slot rebuild known answer (snapshot m old) (snapshot last new)

  it : Came
  it = replaced slot rebuild known answer (snapshot m old) (snapshot last new) does array

  -- a slot that may be admitted doesn't take part
  not_here : IsFree m slot → ¬ IsHere m slot
  not_here free = down_not_here m slot array.marks free.1

  later : Came → IsLater old new
  later (Replaced.AsBefore refusal same is cause) = is.later
  later (Replaced.Joined joined y same free r joins) = joined_later slot (snapshot m old) y (snapshot last new) joined free r joins

  geometry : Came → last.array.geometry ≡ m.array.geometry
  geometry (Replaced.AsBefore refusal same is cause) = ap (λ (n : Membership). n.array.geometry) is.member
  geometry (Replaced.Joined joined y same free r joins) = joined_geometry slot (snapshot m old) y (snapshot last new) joined free r joins

  goes_on : Came → MemberGoesOn (ReplaceSlot slot) old new m last
  goes_on (Replaced.AsBefore refusal same is cause) = record {
    geometry = ap (λ (n : Membership). n.array.geometry) is.member;
    whys = λ j below. WhyGoesOn.Stays (ap (λ (n : Membership). why_of n j) is.member);
    marks = λ j below. MarkGoesOn.Stays (ap (λ (n : Membership). mark_in n.array j) is.member);
    drawn = let alike : last.drawn ≡ m.drawn = ap (λ (n : Membership). n.drawn) is.member in omega (arith, alike);
  }
  goes_on (Replaced.Joined joined y same free r joins) = joined_goes_on slot (snapshot m old) y (snapshot last new) joined free r joins rebuild known array

  draws : Came → DrawsFew (ReplaceSlot slot) m last old new
  draws (Replaced.AsBefore refusal same is cause) = record {
    draw = m.drawn;
    had_seen = Before refl;
    few =
        let drawn : last.drawn ≡ m.drawn = ap (λ (n : Membership). n.drawn) is.member in
        let weigh : weights last ≡ weights m = ap weights is.member in
        omega (arith, drawn, weigh);
  }
  draws (Replaced.Joined joined y same free r joins) = joined_draws slot (snapshot m old) y (snapshot last new) joined free r joins rebuild known array

  caused : Came → (given : Answer (ReplaceSlot slot)) → answer ≡ given
      → IfErr given (λ why. HasCause (ReplaceSlot slot) why (running m rebuild known) last old new)
  caused came (Ok done) is = tt
  caused (Replaced.AsBefore refusal same before cause) (Err why) is =
      let both : ◌≡◌ {A = Result (Unit {0}) Refusal} (Err refusal) (Err why) = sym same ∙ is in
      let one : refusal ≡ why = cc in
      subst (λ (s : Refusal). HasCause (ReplaceSlot slot) s (running m rebuild known) last old new) one cause
  caused (Replaced.Joined joined y same free r joins) (Err why) is =
      joined_caused slot rebuild known (snapshot m old) y (snapshot last new) joined free r joins why (sym same ∙ is)

  -- what is done was begun
  done_free : Came → answer ≡ Ok tt → IsFree m slot
  done_free (Replaced.AsBefore refusal same before cause) is =
      let never : ◌≡◌ {A = Result (Unit {0}) Refusal} (Err refusal) (Ok tt) = sym same ∙ is in absurd (cc)
  done_free (Replaced.Joined joined y same free r joins) is = free

  allowed : (given : Answer (ReplaceSlot slot)) → answer ≡ given → IsAllowed (ReplaceSlot slot) given (running m rebuild known)
  allowed (Ok done) is = done_free it is
  allowed (Err why) is = tt

  stands : Came → ¬ Stops answer → IsArray (unopened last)
  stands (Replaced.AsBefore refusal same is cause) going =
      subst (λ (n : Membership). IsArray (unopened n)) (sym is.member) (without_rebuild m m rebuild known stopped array refl)
  stands (Replaced.Joined joined y same free r joins) going =
      epoch_array (Admit slot) y.member last (refusal_in joined) y.told new joins.establishes
      (joined_stands joined (subst (λ (a : Result (Unit {0}) Refusal). ¬ Stops a) same going))

  left_out : Came → IsTrue new.honest → AreAllLeftOut m last old new
  left_out (Replaced.AsBefore refusal same is cause) honest = λ j call here was gone. absurd (is.spared honest j call here was)
  left_out (Replaced.Joined joined y same free r joins) honest =
      joined_left_out slot (snapshot m old) y (snapshot last new) joined free r joins (not_here free) honest

  made : (given : Answer (ReplaceSlot slot)) → answer ≡ given → IsTrue new.honest → HasMade (ReplaceSlot slot) given (running m rebuild known) last old new
  made (Err why) is honest = tt
  made (Ok done) is honest = by it
    where
      by : Came → (k : ℕ) → k < chunks_start last.array.geometry → WasSound slot k old new
      by (Replaced.AsBefore refusal same before cause) =
          let never : ◌≡◌ {A = Result (Unit {0}) Refusal} (Err refusal) (Ok done) = sym same ∙ is in absurd (cc)
      by (Replaced.Joined joined y same free r joins) =
          joined_made slot (snapshot m old) y (snapshot last new) joined free r joins (sym same ∙ is) honest

  looked : (given : Answer (ReplaceSlot slot)) → answer ≡ given → IsTrue new.honest → WasFitBefore (ReplaceSlot slot) given m old new
  looked (Err why) is honest = tt
  looked (Ok done) is honest = by it
    where
      by : Came → WasFitBefore (ReplaceSlot slot) (Ok done) m old new
      by (Replaced.AsBefore refusal same before cause) =
          let never : ◌≡◌ {A = Result (Unit {0}) Refusal} (Err refusal) (Ok done) = sym same ∙ is in absurd (cc)
      by (Replaced.Joined joined y same free r joins) = joined_fit slot (snapshot m old) y (snapshot last new) joined free r joins honest

  pub replace_performs : Performs (ReplaceSlot slot) answer (events_of (ReplaceSlot slot) answer m.array last.array)
      (record { told = old; session = Opened (running m rebuild known) })
      (record { told = new; session = Opened (left_of last rebuild stopped) })
  replace_performs = record {
    was = running m rebuild known;
    is = left_of last rebuild stopped;
    starts = (refl, refl);
    ends = EndsIn.GoesOn (λ never. absurd (cc)) kept refl;
    later = later it;
    goes_on = goes_on it;
    rebuild = progress_kept m last rebuild known stopped array (geometry it);
    draws_few = draws it;
    events_are = refl;
    caused = caused it answer refl;
    allowed = allowed answer refl;
    array = λ going. stands_rebuilt m last rebuild known stopped array (geometry it) (stands it going);
    counted = tt;
    remembers = refl;
    does = does;
    left_out = left_out it;
    made = made answer refl;
    repaired = λ honest. tt;
    looked = looked answer refl;
  }
