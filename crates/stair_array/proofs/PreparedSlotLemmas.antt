-- What is known of a slot that was looked at and given a new journal, before it is admitted.
use Rattle.std.proofs.Common.{◌≡◌, ℕ, ◌<◌, ◌≤◌, false, true, List, arith, inl, inr, refl, sym, ap, ◌∙◌, subst, None, Option, Some, slice_get}
use Rattle.std.specs.Prelude.{◌⊎◌, IsSome, IsTrue, Ok, Result, max, not}
use Rattle.std.proofs.lemmas.Bool.{cases_lt, cond-false, cond-true, le-ltb, lt-ltb, true≢false}
use Rattle.stair_model.specs.Device.{chunks_start, gate_sector}
use Rattle.stair_model.specs.Geometry.{sectors_needed}
use Rattle.stair_rack.specs.Answers.{Calls, IsBesideAttach, Ran, any_call, is_good, is_ready}
use Rattle.stair_rack.specs.History.{Attach, Happening, InsertedBlank, InsertedOld, Pulled, Read, SectorDamaged, Sectors, SlotAct, SlotCall, SlotState, Sync, Write, after_act, after_call, slot_state, stopped}
use Rattle.stair_rack.specs.Media.{has_sector}
use Rattle.stair_rack.specs.Moments.{AtSomeMoment, IsMoment}
use Rattle.stair_rack.specs.Offline.{ButForOutside, Here, IsHeld, Lost}
use Rattle.stair_rack.specs.Outside.{MayHappen}
use Rattle.stair_rack.specs.Passes.{Landed}
use Rattle.stair_rack.specs.Placed.{IsSlot, IsSyncOf, IsWriteOf, Placed}
use Rattle.stair_rack.specs.Sector.{Cell, Damaged, Good, Sector, Torn, TornOverDamage, content}
use Rattle.stair_rack.specs.Stretch.{NoneWritten}
use Rattle.stair_rack.specs.RackState.{IsLater, IsReading, RackState}
use Rattle.stair_rack.specs.declared.rack.Reply.TheVariants as reply
use Rattle.stair_rack.proofs.CallLemmas.{attach_done}
use Rattle.stair_rack.proofs.KeptLemmas.{SectorKeeps, keeps_sector, not_none, with_old_cases}
use Rattle.stair_rack.proofs.MomentLemmas.{IsThis, at_some_wider, calls_ran, moment_cases, moment_wider, ran_after, ran_any, ran_before, ran_join, ran_none, ran_weakened}
use Rattle.stair_rack.proofs.OfflineLemmas.{and-true_left, held_on, unready_when_stopped}
use Rattle.stair_rack.proofs.ReadLemmas.{ready_unpulled}
use Rattle.stair_rack.proofs.StepLemmas.{kept, keeps_slot}
use Rattle.stair_rack.proofs.StretchLemmas.{none_written}
use Rattle.stair_rack.proofs.RackStateLemmas.{later_join}
use Rattle.stair_super.specs.Superblock.{Superblock}
use Rattle.stair_member.specs.Membership.{IsMembership, Membership}
use Rattle.stair_member.specs.Seeing.{Sees, draw_in}
use Rattle.stair_member.specs.Superblocks.{HoldsSuper, HoldsThis}
use Rattle.stair_member.proofs.DecisionLemmas.{no_super}
use Rattle.stair_member.proofs.SightLemmas.{place_cases}
use Rattle.stair_invariant.specs.Effects.{Snapshot}
use Rattle.stair_array.specs.Created.{created_sector}
use Rattle.stair_array.specs.Draws.{HadSeen}
use Rattle.stair_array.specs.Look.{IsLook}
use Rattle.stair_array.specs.Looking.{cells_at}
use Rattle.stair_array.specs.Machine.{Refusal, ReplaceSlot}
use Rattle.stair_array.specs.Mends.{IsFit, IsSecondLook, Looks, PreparesSlot, new_journal}
use Rattle.stair_array.proofs.GoneToLemmas.{attaches_none}

-- WHAT A READ TELLS

-- at a moment the slot was in use, and its place held the superblocks that the cell holds
pub record HeldThen (old new : List Happening) (j k : ℕ) (cell : Cell) : Type 0 where
  pub moment : List Happening
  pub is_one : IsMoment old moment new
  pub ready : is_ready moment j ≡ true
  pub only : (s : Superblock) → HoldsSuper (cells_at moment j k) s → HoldsSuper cell s
  pub does : (s : Superblock) → HoldsSuper cell s → HoldsSuper (cells_at moment j k) s

pub held_then : (j k : ℕ) (old new : RackState) (cell : Cell) → IsReading j k old new cell → IsTrue new.honest
    → HeldThen old.history new.history j k cell
held_then j k old new (Good bytes) was honest =
    let read = was honest in
    record {
      moment = read.moment;
      is_one = read.is_one;
      ready = read.ready;
      only = λ s. subst (λ (c : Cell). HoldsSuper c s) read.found;
      does = λ s. subst (λ (c : Cell). HoldsSuper c s) (sym read.found);
    }
held_then j k old new Damaged was honest =
    let read = was.1 honest in
    record {
      moment = read.moment;
      is_one = read.is_one;
      ready = read.ready;
      only = λ s holds. absurd (no_super (cells_at read.moment j k) s read.found holds);
      does = λ s holds. absurd (no_super Damaged s refl holds);
    }
held_then j k old new Torn was honest = absurd was
held_then j k old new TornOverDamage was honest = absurd was

-- A SLOT IN USE

-- a held slot that is ready has a medium
some_ready : (before h : List Happening) (j : ℕ) → IsHeld before h j → is_ready h j ≡ true → IsSome (slot_state h j).size
some_ready before h j (IsHeld.InUse attached some least) ready = some
some_ready before h j (IsHeld.Unattached apart pulled) ready =
    absurd (true≢false (sym (and-true_left (slot_state h j).attached (not (stopped h)) ready) ∙ apart))
some_ready before h j (IsHeld.RackStopped is) ready = absurd (true≢false (sym ready ∙ unready_when_stopped h j is))

-- the slot's medium has so many sectors, or it isn't attached
abbrev IsSized : ℕ → SlotState → Type 0
IsSized has b = (b.size ≡ Some has) ⊎ (b.attached ≡ false)

some_sized : (has : ℕ) (b : SlotState) → b.size ≡ Some has → IsSome b.size
some_sized has b is = subst (λ (size : Option ℕ). IsSome size) (sym is) refl

sized_act : (has : ℕ) (b : SlotState) (a : SlotAct) → MayHappen b a → IsSized has b → IsSized has (after_act a b)
sized_act has b (Pulled m) may before = inr refl
sized_act has b (InsertedBlank size) may (inl is) = absurd (not_none b.size may (some_sized has b is))
sized_act has b (InsertedBlank size) may (inr apart) = inr apart
sized_act has b (InsertedOld i) may (inl is) = absurd (not_none b.size may.0 (some_sized has b is))
sized_act has b (InsertedOld i) may (inr apart) = with_old_cases (IsSized has) i (slice_get b.removed i) b (inr apart) (λ m. inr apart)
sized_act has b (SectorDamaged k) may (inl is) = inl is
sized_act has b (SectorDamaged k) may (inr apart) = inr apart

sized_call : (has : ℕ) (b : SlotState) (c : SlotCall) → IsBesideAttach c → IsSized has b → IsSized has (after_call c b)
sized_call has b (Attach answer) beside before = absurd beside
sized_call has b (Sectors size) beside before = before
sized_call has b (Read k answer) beside before = before
sized_call has b (Write k bytes reply.Done) beside (inl is) = inl is
sized_call has b (Write k bytes reply.Done) beside (inr apart) = inr apart
sized_call has b (Write k bytes reply.Gone) beside before = before
sized_call has b (Sync reply.Done) beside (inl is) = inl is
sized_call has b (Sync reply.Done) beside (inr apart) = inr apart
sized_call has b (Sync reply.Gone) beside before = before

sized_on : {old new : List Happening} (has j : ℕ) → Ran attaches_none old new → IsSized has (slot_state old j) → IsSized has (slot_state new j)
sized_on has j ran before =
    kept {allowed = attaches_none} {P = λ h. IsSized has (slot_state h j)}
    (keeps_slot {allowed = attaches_none} {j = j} {R = IsSized has}
    (record { act = sized_act has; call = λ h c may is now. sized_call has (slot_state h j) c may now })) ran before

-- A SLOT THAT IS LOOKED AT

second_beside : (slot j : ℕ) (c : SlotCall) → IsSecondLook slot j c → IsBesideAttach c
second_beside slot j c is = is.1

-- of two moments of the look at which the slot is in use, the later one has no superblock in a place but those of the earlier one
module _ (before a b : List Happening) (slot k : ℕ) (ran : Ran (IsSecondLook slot) a b) (held : IsHeld before a slot) (ready : is_ready a slot ≡ true)
    (still : is_ready b slot ≡ true) where
  abbrev ReadsAs : Sector → Type 0
  ReadsAs t = content t ≡ cells_at a slot k

  reads_on : SectorKeeps (IsSecondLook slot) slot k ReadsAs
  reads_on = record { write = λ bytes s may was. absurd may.0.1; sync = λ s may was. was }

  same_place : ButForOutside a b slot k ReadsAs
  same_place =
      kept {allowed = IsSecondLook slot} {P = λ h. ButForOutside a h slot k ReadsAs}
      (keeps_sector {allowed = IsSecondLook slot} {j = slot} {k = k} {P = ReadsAs} (slot_state a slot).pulls reads_on) ran
      (Here refl (some_ready before a slot held ready) (inr refl))

  earlier_super : (s : Superblock) → HoldsSuper (cells_at b slot k) s → HoldsSuper (cells_at a slot k) s
  earlier_super s holds = judged same_place
    where
      judged : ButForOutside a b slot k ReadsAs → HoldsSuper (cells_at a slot k) s
      judged (Here pulls some (inl damage)) = absurd (no_super (cells_at b slot k) s (ap (λ (t : Sector). is_good (content t)) damage) holds)
      judged (Here pulls some (inr same)) = subst (λ (c : Cell). HoldsSuper c s) same holds
      judged (Lost pulled) = absurd (ready_unpulled {allowed = IsSecondLook slot} slot (second_beside slot slot) ran still pulled)

-- nothing of the slot is written by it
pub looks_unwritten : (slot : ℕ) (old mid h : List Happening) → Calls old mid slot (Attach reply.Done) → Ran (IsSecondLook slot) mid h
    → NoneWritten (λ i. i ≡ slot) old h
looks_unwritten slot old mid h attached looked =
    none_written {allowed = IsLook} {slots = λ i. i ≡ slot} (λ j c no on. no)
    (ran_join {allowed = IsLook}
    (ran_weakened {allowed = IsThis slot (Attach reply.Done)} {more = IsLook} (λ j c is. subst (IsLook j) (sym is.1) tt) (calls_ran attached))
    (ran_weakened {allowed = IsSecondLook slot} {more = IsLook} (λ j c is. is.0.1) looked))

-- A SLOT THAT WAS PREPARED

pub record IsReady (slot : ℕ) (x z : Snapshot) : Type 0 where
  pub first : Option Superblock
  pub second : Option Superblock
  pub mid : RackState
  pub seen : Snapshot
  pub looks : Looks slot mid x seen
  pub fit : IsFit x.member.array.geometry slot first second mid seen.told
  pub later : IsLater seen.told z.told
  pub placed : IsTrue z.told.honest
      → Placed (new_journal x.member.array.geometry) (IsSlot slot) (λ j. ⊥) seen.told.history z.told.history
  pub sees : Sees slot first second seen.member z.member
  pub rules : IsMembership z.member

pub ready_of : (slot : ℕ) (answer : Result (Unit {0}) Refusal) (x z : Snapshot) → PreparesSlot slot answer x z → answer ≡ Ok tt → IsReady slot x z
ready_of slot _ _ _ (PreparesSlot.WasGone x y only gone) is = absurd (cc)
ready_of slot _ _ _ (PreparesSlot.WasSmall has needs mid x y looks small) is = absurd (cc)
ready_of slot _ _ _ (PreparesSlot.WasOther mid x y looks other) is = absurd (cc)
ready_of slot _ _ _ (PreparesSlot.Prepared first second mid x y z looks fit later placed sees rules) is = record {
  first = first;
  second = second;
  mid = mid;
  seen = y;
  looks = looks;
  fit = fit;
  later = later;
  placed = placed;
  sees = sees;
  rules = rules;
}

module _ (slot : ℕ) (x z : Snapshot) (r : IsReady slot x z) where
  pub ready_later : IsLater x.told z.told
  ready_later = later_join r.looks.first (later_join r.looks.later r.later)

  pub ready_array : z.member.array ≡ x.member.array
  ready_array = r.sees.array ∙ ap (λ (m : Membership). m.array) r.looks.member

  pub ready_whys : z.member.whys ≡ x.member.whys
  ready_whys = r.sees.whys ∙ ap (λ (m : Membership). m.whys) r.looks.member

  -- ON AN HONEST RACK

  module _ (honest : IsTrue z.told.honest) where
    honest_seen : IsTrue r.seen.told.honest
    honest_seen = r.later.honest ∙ honest

    honest_mid : IsTrue r.mid.honest
    honest_mid = r.looks.later.honest ∙ honest_seen

    attached : Calls x.told.history r.mid.history slot (Attach reply.Done)
    attached = r.looks.attached honest_mid

    looked : Ran (IsSecondLook slot) r.mid.history r.seen.told.history
    looked = r.looks.ran honest_seen

    journal : Placed (new_journal x.member.array.geometry) (IsSlot slot) (λ j. ⊥) r.seen.told.history z.told.history
    journal = r.placed honest

    -- no call after the first attaches a slot
    beside_after : Ran attaches_none r.mid.history z.told.history
    beside_after =
        ran_join {allowed = attaches_none}
        (ran_weakened {allowed = IsSecondLook slot} {more = attaches_none} (second_beside slot) looked)
        (ran_join {allowed = attaches_none}
        (ran_weakened {allowed = IsWriteOf (new_journal x.member.array.geometry) (IsSlot slot)} {more = attaches_none}
        (λ j c is. subst IsBesideAttach (sym is.is) tt) journal.writes)
        (ran_weakened {allowed = IsSyncOf (IsSlot slot)} {more = attaches_none} (λ j c is. subst IsBesideAttach (sym is.is) tt) journal.syncs))

    -- each call is on the slot
    pub ready_calls : Ran (λ j c. j ≡ slot) x.told.history z.told.history
    ready_calls =
        ran_join {allowed = λ j c. j ≡ slot}
        (ran_weakened {allowed = IsThis slot (Attach reply.Done)} {more = λ j c. j ≡ slot} (λ j c is. is.0) (calls_ran attached))
        (ran_join {allowed = λ j c. j ≡ slot}
        (ran_weakened {allowed = IsSecondLook slot} {more = λ j c. j ≡ slot} (λ j c is. is.0.0) looked)
        (ran_join {allowed = λ j c. j ≡ slot}
        (ran_weakened {allowed = IsWriteOf (new_journal x.member.array.geometry) (IsSlot slot)} {more = λ j c. j ≡ slot} (λ j c is. is.on) journal.writes)
        (ran_weakened {allowed = IsSyncOf (IsSlot slot)} {more = λ j c. j ≡ slot} (λ j c is. is.on) journal.syncs)))

    held_mid : IsHeld x.told.history r.mid.history slot
    held_mid = attach_done x.told.history r.mid.history slot x.told.history (omega arith) attached

    pub ready_held : IsHeld x.told.history z.told.history slot
    ready_held = held_on {allowed = attaches_none} slot beside_after held_mid

    -- both superblock places are there while it is attached
    pub ready_places : (slot_state z.told.history slot).attached ≡ true → IsTrue (has_sector (slot_state z.told.history slot).size 1)
    ready_places attached_then = by (sized_on has slot onward (inl at.holds))
      where
        has : ℕ
        has = (r.fit.large honest_seen).0

        at : AtSomeMoment (λ h. (slot_state h slot).size ≡ Some has) r.mid.history r.seen.told.history
        at = (r.fit.large honest_seen).2

        whole : IsMoment r.mid.history at.moment z.told.history
        whole = moment_wider {a = any_call} {b = any_call} {old = r.mid.history} {h = at.moment} (ran_none {allowed = any_call} r.mid.history) (r.later.ran honest) at.is_one

        onward : Ran attaches_none at.moment z.told.history
        onward = ran_after {allowed = attaches_none} beside_after whole

        by : IsSized has (slot_state z.told.history slot) → IsTrue (has_sector (slot_state z.told.history slot).size 1)
        by (inr apart) = absurd (true≢false (sym attached_then ∙ apart))
        by (inl is) =
            let enough : sectors_needed x.member.array.geometry ≤ has = (r.fit.large honest_seen).1 in
            subst (λ (size : Option ℕ). IsTrue (has_sector size 1)) (sym is) (lt-ltb 1 has (omega (arith, enough)))

    -- MOMENTS OF THE LOOK

    held_at : (k : ℕ) → k < 2 → HeldThen r.mid.history r.seen.told.history slot k (r.fit.cell k)
    held_at k below = held_then slot k r.mid r.seen.told (r.fit.cell k) (r.fit.reading k below) honest_seen

    -- a moment of the step before anything of the slot is written
    module _ (h : List Happening) (at : IsMoment r.mid.history h r.seen.told.history) where
      moment_of : IsMoment x.told.history h z.told.history
      moment_of = moment_wider {a = any_call} {b = any_call} (ran_any {allowed = IsThis slot (Attach reply.Done)} (calls_ran attached)) (r.later.ran honest) at

      unwritten : NoneWritten (λ i. i ≡ slot) x.told.history h
      unwritten = looks_unwritten slot x.told.history r.mid.history h attached (ran_before {allowed = IsSecondLook slot} looked at)

    -- the later of two reads tells of both places
    module _ (k i : ℕ) (a : HeldThen r.mid.history r.seen.told.history slot k (r.fit.cell k))
        (b : HeldThen r.mid.history r.seen.told.history slot i (r.fit.cell i)) (turn : IsMoment r.mid.history a.moment b.moment) where
      both_then : (s : Superblock) → HoldsSuper (cells_at b.moment slot k) s → HoldsSuper (r.fit.cell k) s
      both_then s holds =
          let sooner = ran_before {allowed = IsSecondLook slot} looked b.is_one in
          a.only s
          (earlier_super x.told.history a.moment b.moment slot k (ran_after {allowed = IsSecondLook slot} sooner turn)
          (held_on {allowed = IsSecondLook slot} slot (ran_before {allowed = IsSecondLook slot} sooner turn) held_mid) a.ready b.ready s holds)

    abbrev WasFit : Type 0
    WasFit = (moment : List Happening) × IsMoment x.told.history moment z.told.history × NoneWritten (λ i. i ≡ slot) x.told.history moment
        × ((k : ℕ) (s : Superblock) → k < 2 → HoldsSuper (cells_at moment slot k) s → s.array.geometry ≡ x.member.array.geometry)

    fit_then : (h : List Happening) → IsMoment r.mid.history h r.seen.told.history
        → ((s : Superblock) → HoldsSuper (cells_at h slot 0) s → HoldsSuper (r.fit.cell 0) s)
        → ((s : Superblock) → HoldsSuper (cells_at h slot 1) s → HoldsSuper (r.fit.cell 1) s) → WasFit
    fit_then h at zero one = (h, moment_of h at, unwritten h at, own)
      where
        own : (k : ℕ) (s : Superblock) → k < 2 → HoldsSuper (cells_at h slot k) s → s.array.geometry ≡ x.member.array.geometry
        own k s below holds =
            r.fit.own k s below
            (elim (place_cases k below) [
              | inl is ↦
                  subst (λ (i : ℕ). HoldsSuper (r.fit.cell i) s) (sym is)
                  (zero s (subst (λ (i : ℕ). HoldsSuper (cells_at h slot i) s) is holds))
              | inr is ↦
                  subst (λ (i : ℕ). HoldsSuper (r.fit.cell i) s) (sym is)
                  (one s (subst (λ (i : ℕ). HoldsSuper (cells_at h slot i) s) is holds))
            ])

    pub ready_fit : WasFit
    ready_fit = by (held_at 0 (omega arith)) (held_at 1 (omega arith))
      where
        by : HeldThen r.mid.history r.seen.told.history slot 0 (r.fit.cell 0) → HeldThen r.mid.history r.seen.told.history slot 1 (r.fit.cell 1) → WasFit
        by a b =
            elim (moment_cases a.is_one b.is_one) [
              | inl turn ↦ fit_then b.moment b.is_one (both_then 0 1 a b turn) b.only
              | inr turn ↦
                  fit_then a.moment a.is_one a.only
                  (both_then 1 0 b a (record { before = b.is_one.before; later = turn.before; from = b.is_one.from; to = turn.from }))
            ]

    -- its journal got its bytes
    ready_journal : (k : ℕ) → gate_sector ≤ k → k < chunks_start x.member.array.geometry
        → Landed r.seen.told.history z.told.history slot k (created_sector x.member.array.geometry slot k)
    ready_journal k past below =
        journal.landed slot k (created_sector x.member.array.geometry slot k) refl (λ never. never)
        (cond-false _ _ _ (le-ltb k gate_sector past) ∙ cond-true _ _ _ (lt-ltb k (chunks_start x.member.array.geometry) below))

    pub ready_landed : (k : ℕ) → gate_sector ≤ k → k < chunks_start x.member.array.geometry
        → Landed x.told.history z.told.history slot k (created_sector x.member.array.geometry slot k)
    ready_landed k past below =
        at_some_wider {a = any_call} {b = any_call}
        {P = λ h. content ((slot_state h slot).sector k) ≡ Good (created_sector x.member.array.geometry slot k)}
        ((later_join r.looks.first r.looks.later).ran honest_seen) (ran_none {allowed = any_call} z.told.history) (ready_journal k past below)

  -- THE GREATEST DRAW THAT WAS SEEN

  module _ (new : RackState) (further : IsLater z.told new) where
    abbrev IsSeen : ℕ → Type 0
    IsSeen draw = HadSeen (ReplaceSlot slot) x.member x.told new draw × (x.member.drawn ≤ draw)

    seen_in : (k : ℕ) → k < 2 → (s : Superblock) → HoldsSuper (r.fit.cell k) s → (draw : ℕ) → draw ≡ s.draw → x.member.drawn ≤ draw → IsSeen draw
    seen_in k below s holds draw is least = (
      HadSeen.OnMedium slot k s refl below
          (λ honest.
          let honest_z : IsTrue z.told.honest = further.honest ∙ honest in
          let at = held_at honest_z k below in (
            at.moment,
            moment_wider {a = any_call} {b = any_call} (ran_none {allowed = any_call} x.told.history) (further.ran honest)
                (moment_of honest_z at.moment at.is_one),
            unwritten honest_z at.moment at.is_one,
            at.does s holds,
          )) (r.fit.own k s below holds) is least,
      least,
    )

    seen_too : (k : ℕ) → k < 2 → (o : Option Superblock) → HoldsThis (r.fit.cell k) o → (draw : ℕ) → IsSeen draw → IsSeen (max draw (draw_in o))
    seen_too k below None none draw before = let same : draw ≡ max draw 0 = omega arith in subst IsSeen same before
    seen_too k below (Some s) holds draw before =
        elim (cases_lt draw s.draw) [
          | inl less ↦
              let least = before.1 in
              let same : max draw s.draw ≡ s.draw = omega (arith, less) in
              seen_in k below s holds (max draw s.draw) same (omega (arith, less, least, same))
          | inr most ↦ let same : draw ≡ max draw s.draw = omega (arith, most) in subst IsSeen same before
        ]

    pub ready_draw : IsSeen z.member.drawn
    ready_draw =
        let now : z.member.drawn ≡ max (max x.member.drawn (draw_in r.first)) (draw_in r.second) =
        r.sees.drawn ∙ ap (λ (m : Membership). max (max m.drawn (draw_in r.first)) (draw_in r.second)) r.looks.member in
        subst IsSeen (sym now)
        (seen_too 1 (omega arith) r.second r.fit.in_second (max x.member.drawn (draw_in r.first))
        (seen_too 0 (omega arith) r.first r.fit.in_first x.member.drawn (HadSeen.Before refl, omega arith)))
