-- Slots that are held or offline, and racks that are stopped, through acts and calls.
use Rattle.std.proofs.Common.{◌≡◌, ℕ, ◌<◌, ◌≤◌, Bool, true, false, List, ◌∷◌, ◌⊎◌, inl, inr, refl, sym, ap, ◌∙◌, subst, arith, slice_get, true≢false, Option, None, Some, if◌then◌else◌}
use Rattle.std.specs.Prelude.{IsSome, IsTrue, is_some, not, ◌&&◌, ⊤}
use Rattle.std.proofs.lemmas.Bool.{and_right, cases_Bool, cond-false, false≢true}
use Rattle.stair_rack.specs.Media.{has_sector}
use Rattle.stair_rack.specs.History.{SlotAct, Pulled, InsertedBlank, InsertedOld, SectorDamaged, SlotCall, Attach, Sectors, Read, Write, Sync, Happening, Made, Stopped, Acted, Called, SlotState, after_act, after_attach, after_write, after_sync, after_call, slot_state, stopped}
use Rattle.stair_rack.specs.Outside.{MayHappen, IsAct}
use Rattle.stair_rack.specs.Answers.{IsBesideAttach, IsNoAttach, any_call, IsGoneInRange, read_answer, is_readable, IsAnswered, reply_if, is_ready, attach_answer, Ran}
use Rattle.stair_rack.specs.Offline.{WasPulled, IsOffline, IsOfflineUntilAttached, IsHeld}
use Rattle.stair_rack.specs.declared.rack.Reply.{Reply}
use Rattle.stair_rack.specs.declared.rack.Reply.TheVariants as reply
use Rattle.stair_rack.specs.declared.rack.Got.TheVariants as got
use Rattle.stair_rack.proofs.StepLemmas.{slot_after_call, Keeps, SlotKeeps, keeps_slot, kept, slot_call_cases}
use Rattle.stair_rack.proofs.KeptLemmas.{not_none, with_old_cases}

-- ANSWERS

pub reply_if-Gone : (b : Bool) → reply.Gone ≡ reply_if b → b ≡ false
reply_if-Gone true is = absurd (cc)
reply_if-Gone false is = refl

pub reply_if-Done : (b : Bool) → reply.Done ≡ reply_if b → b ≡ true
reply_if-Done true is = refl
reply_if-Done false is = absurd (cc)

pub and-true_left : (a b : Bool) → (a && b) ≡ true → a ≡ true
and-true_left true b is = refl
and-true_left false b is = absurd (false≢true is)

pub and-true_right : (a b : Bool) → (a && b) ≡ true → b ≡ true
and-true_right true b is = is
and-true_right false b is = absurd (false≢true is)

pub and-false : (a b : Bool) → (a && b) ≡ false → a ≡ true → b ≡ false
and-false true b is holds = is
and-false false b is holds = absurd (false≢true holds)

not-false : (b : Bool) → not b ≡ false → b ≡ true
not-false true is = refl
not-false false is = absurd (true≢false is)

-- an attached slot that isn't ready is that of a stopped rack
pub stopped_from_unready : (h : List Happening) (j : ℕ) → is_ready h j ≡ false → (slot_state h j).attached ≡ true → IsTrue (stopped h)
stopped_from_unready h j unready attached = not-false (stopped h) (and-false (slot_state h j).attached (not (stopped h)) unready attached)

pub unready_when_stopped : (h : List Happening) (j : ℕ) → IsTrue (stopped h) → is_ready h j ≡ false
unready_when_stopped h j is_stopped = and_right (slot_state h j).attached (not (stopped h)) (ap not is_stopped)

-- a read is answered Gone where the slot isn't ready
pub read_unready : (h : List Happening) (j k : ℕ) → got.Gone ≡ read_answer h j k → is_ready h j ≡ false
read_unready h j k is = unready (is_ready h j) (is_readable (slot_state h j) k) is
  where
    unready : (ready readable : Bool) → got.Gone ≡ (if ready then (if readable then got.Good else got.Bad) else got.Gone) → ready ≡ false
    unready true true is = absurd (cc)
    unready true false is = absurd (cc)
    unready false readable is = refl

-- STOPPED RACKS

-- a stopped rack does none of these
abbrev pub IsRefused : ℕ → SlotCall → Type 0
IsRefused j (Attach answer) = answer ≡ reply.Gone
IsRefused j (Sectors size) = ⊤
IsRefused j (Read k answer) = answer ≡ got.Gone
IsRefused j (Write k bytes answer) = answer ≡ reply.Gone
IsRefused j (Sync answer) = answer ≡ reply.Gone

pub refused : (h : List Happening) (j : ℕ) (c : SlotCall) → IsTrue (stopped h) → IsAnswered h j c → IsRefused j c
refused h j (Attach answer) is answered = answered ∙ ap reply_if (and_right (is_some (slot_state h j).size) (not (stopped h)) (ap not is))
refused h j (Sectors size) is answered = tt
refused h j (Read k answer) is answered = answered ∙ cond-false _ _ _ (unready_when_stopped h j is)
refused h j (Write k bytes answer) is answered =
    answered ∙ ap (λ b. reply_if (b && has_sector (slot_state h j).size k)) (unready_when_stopped h j is)
refused h j (Sync answer) is answered = answered ∙ ap reply_if (unready_when_stopped h j is)

-- once stopped, always
pub keeps_stopped : {allowed : ℕ → SlotCall → Type 0} → Keeps allowed (λ h. IsTrue (stopped h))
keeps_stopped {allowed} = record { act = on_act; call = λ h j c may is before. before }
  where
    on_act : (h : List Happening) (e : Happening) → IsAct h e → IsTrue (stopped h) → IsTrue (stopped (e ∷ h))
    on_act h (Made image) is before = absurd is
    on_act h Stopped is before = refl
    on_act h (Acted i a) is before = before
    on_act h (Called i c) is before = absurd is

pub stopped_on : {allowed : ℕ → SlotCall → Type 0} {old new : List Happening} → Ran allowed old new → IsTrue (stopped old) → IsTrue (stopped new)
stopped_on {allowed} ran before = kept {allowed = allowed} {P = λ h. IsTrue (stopped h)} keeps_stopped ran before

-- A fact of one slot, unless the rack is stopped: acts and these calls keep it.
pub record KeepsUnlessStopped (allowed : ℕ → SlotCall → Type 0) (j : ℕ) (R : SlotState → Type 0) : Type 0 where
  pub act : (b : SlotState) (a : SlotAct) → MayHappen b a → R b → R (after_act a b)
  pub call : (h : List Happening) (c : SlotCall) → allowed j c → IsAnswered h j c → stopped h ≡ false → R (slot_state h j) → R (after_call c (slot_state h j))

pub keeps_unless_stopped : {allowed : ℕ → SlotCall → Type 0} {j : ℕ} {R : SlotState → Type 0} → KeepsUnlessStopped allowed j R
    → Keeps allowed (λ h. IsTrue (stopped h) ⊎ R (slot_state h j))
keeps_unless_stopped {allowed} {j} {R} keeps = record { act = on_act; call = on_call }
  where
    by_acts : (b : SlotState) (a : SlotAct) → MayHappen b a → R b → R (after_act a b)
    by_acts b a may before = keeps.act b a may before

    none : ℕ → SlotCall → Type 0
    none i c = ⊥

    slot_acts : Keeps none (λ h. R (slot_state h j))
    slot_acts = keeps_slot {allowed = none} {j = j} {R = R} (record { act = by_acts; call = λ h c may is before. absurd may })

    on_act : (h : List Happening) (e : Happening) → IsAct h e → IsTrue (stopped h) ⊎ R (slot_state h j) → IsTrue (stopped (e ∷ h)) ⊎ R (slot_state (e ∷ h) j)
    on_act h e is (inl before) = let all : Keeps none (λ g. IsTrue (stopped g)) = keeps_stopped in inl (all.act h e is before)
    on_act h e is (inr before) = inr (slot_acts.act h e is before)

    on_call : (h : List Happening) (i : ℕ) (c : SlotCall) → allowed i c → IsAnswered h i c → IsTrue (stopped h) ⊎ R (slot_state h j)
        → IsTrue (stopped h) ⊎ R (slot_state (Called i c ∷ h) j)
    on_call h i c may is (inl before) = inl before
    on_call h i c may is (inr before) =
        elim (cases_Bool (stopped h)) [
          | inl is_stopped ↦ inl is_stopped
          | inr goes_on ↦
              inr
              (slot_call_cases R h i j c
              (λ same. keeps.call h c (subst (λ k. allowed k c) same may) (subst (λ k. IsAnswered h k c) same is) goes_on before) before)
        ]

-- COUNTS OF PULLS

pub SlotKeeps-pulls : {allowed : ℕ → SlotCall → Type 0} (j n : ℕ) → SlotKeeps allowed j (λ b. n ≤ b.pulls)
SlotKeeps-pulls j n = record { act = on_act; call = λ h c may is before. on_call (slot_state h j) c before }
  where
    on_act : (b : SlotState) (a : SlotAct) → MayHappen b a → n ≤ b.pulls → n ≤ (after_act a b).pulls
    on_act b (Pulled m) may before = omega arith
    on_act b (InsertedBlank size) may before = before
    on_act b (InsertedOld i) may before = with_old_cases (λ x. n ≤ x.pulls) i (slice_get b.removed i) b before (λ m. before)
    on_act b (SectorDamaged k) may before = before

    on_call : (b : SlotState) (c : SlotCall) → n ≤ b.pulls → n ≤ (after_call c b).pulls
    on_call b (Attach reply.Done) before = before
    on_call b (Attach reply.Gone) before = before
    on_call b (Sectors size) before = before
    on_call b (Read k answer) before = before
    on_call b (Write k bytes reply.Done) before = before
    on_call b (Write k bytes reply.Gone) before = before
    on_call b (Sync reply.Done) before = before
    on_call b (Sync reply.Gone) before = before

-- the count of pulls never falls
pub pulls_on : {allowed : ℕ → SlotCall → Type 0} {old new : List Happening} (j : ℕ) → Ran allowed old new
    → (slot_state old j).pulls ≤ (slot_state new j).pulls
pulls_on {allowed} {old} j ran =
    kept {allowed = allowed} {P = λ h. (slot_state old j).pulls ≤ (slot_state h j).pulls}
    (keeps_slot (SlotKeeps-pulls {allowed = allowed} j (slot_state old j).pulls)) ran (omega arith)

-- what was pulled in a part of a stretch was pulled in the stretch
pub WasPulled-later : {allowed : ℕ → SlotCall → Type 0} {old new : List Happening} (before : List Happening) (j : ℕ) → Ran allowed old new
    → WasPulled before old j → WasPulled before new j
WasPulled-later {allowed} before j ran pulled = let more = pulls_on {allowed = allowed} j ran in omega (arith, more, pulled)

pub WasPulled-sooner : {allowed : ℕ → SlotCall → Type 0} {before old : List Happening} (new : List Happening) (j : ℕ) → Ran allowed before old
    → WasPulled old new j → WasPulled before new j
WasPulled-sooner {allowed} new j ran pulled = let more = pulls_on {allowed = allowed} j ran in omega (arith, more, pulled)

-- HELD SLOTS

-- held, but for a rack that is stopped
pub data HeldState (pulls : ℕ) (b : SlotState) : Type 0 where
  Used : b.attached ≡ true → IsSome b.size → pulls ≤ b.pulls → HeldState pulls b
  Away : b.attached ≡ false → pulls < b.pulls → HeldState pulls b

pub held_act : (pulls : ℕ) (b : SlotState) (a : SlotAct) → MayHappen b a → HeldState pulls b → HeldState pulls (after_act a b)
held_act pulls b (Pulled m) may (Used attached some least) = Away refl (omega arith)
held_act pulls b (Pulled m) may (Away not_attached less) = Away refl (omega arith)
held_act pulls b (InsertedBlank size) may (Used attached some least) = absurd (not_none b.size may some)
held_act pulls b (InsertedBlank size) may (Away not_attached less) = Away not_attached less
held_act pulls b (InsertedOld i) may (Used attached some least) = absurd (not_none b.size may.0 some)
held_act pulls b (InsertedOld i) may (Away not_attached less) =
    with_old_cases (HeldState pulls) i (slice_get b.removed i) b (Away not_attached less) (λ m. Away not_attached less)
held_act pulls b (SectorDamaged k) may (Used attached some least) = Used attached some least
held_act pulls b (SectorDamaged k) may (Away not_attached less) = Away not_attached less

held_write : (pulls : ℕ) (b : SlotState) (k : ℕ) (bytes : List ℕ) (answer : Reply) → HeldState pulls b → HeldState pulls (after_write k bytes answer b)
held_write pulls b k bytes reply.Done (Used attached some least) = Used attached some least
held_write pulls b k bytes reply.Done (Away not_attached less) = Away not_attached less
held_write pulls b k bytes reply.Gone held = held

held_sync : (pulls : ℕ) (b : SlotState) (answer : Reply) → HeldState pulls b → HeldState pulls (after_sync answer b)
held_sync pulls b reply.Done (Used attached some least) = Used attached some least
held_sync pulls b reply.Done (Away not_attached less) = Away not_attached less
held_sync pulls b reply.Gone held = held

-- an attach finds the medium that is there
held_attach : (pulls : ℕ) (h : List Happening) (j : ℕ) (answer : Reply) → answer ≡ attach_answer h j → stopped h ≡ false
    → HeldState pulls (slot_state h j) → HeldState pulls (after_attach answer (slot_state h j))
held_attach pulls h j reply.Done is goes_on held =
    let some = and-true_left (is_some (slot_state h j).size) (not (stopped h)) (reply_if-Done _ is) in
    Used refl some (elim held [ Used attached some' least ↦ least | Away not_attached less ↦ omega arith ])
held_attach pulls h j reply.Gone is goes_on (Used attached some least) =
    let none = and-false (is_some (slot_state h j).size) (not (stopped h)) (reply_if-Gone _ is) some in
    absurd (false≢true (sym goes_on ∙ not-false (stopped h) none))
held_attach pulls h j reply.Gone is goes_on (Away not_attached less) = Away refl less

held_call : (allowed : ℕ → SlotCall → Type 0) (j pulls : ℕ) (h : List Happening) (c : SlotCall) → allowed j c → IsAnswered h j c → stopped h ≡ false
    → HeldState pulls (slot_state h j) → HeldState pulls (after_call c (slot_state h j))
held_call allowed j pulls h (Attach answer) may is goes_on held = held_attach pulls h j answer is goes_on held
held_call allowed j pulls h (Sectors size) may is goes_on held = held
held_call allowed j pulls h (Read k answer) may is goes_on held = held
held_call allowed j pulls h (Write k bytes answer) may is goes_on held = held_write pulls (slot_state h j) k bytes answer held
held_call allowed j pulls h (Sync answer) may is goes_on held = held_sync pulls (slot_state h j) answer held

pub IsHeld-state : (before h : List Happening) (j : ℕ) → IsHeld before h j → IsTrue (stopped h) ⊎ HeldState (slot_state before j).pulls (slot_state h j)
IsHeld-state before h j (IsHeld.InUse attached some least) = inr (Used attached some least)
IsHeld-state before h j (IsHeld.Unattached not_attached pulled) = inr (Away not_attached pulled)
IsHeld-state before h j (IsHeld.RackStopped is) = inl is

pub IsHeld-from_state : (before h : List Happening) (j : ℕ) → IsTrue (stopped h) ⊎ HeldState (slot_state before j).pulls (slot_state h j) → IsHeld before h j
IsHeld-from_state before h j (inr (Used attached some least)) = IsHeld.InUse attached some least
IsHeld-from_state before h j (inr (Away not_attached less)) = IsHeld.Unattached not_attached less
IsHeld-from_state before h j (inl is) = IsHeld.RackStopped is

pub keeps_held_state : {allowed : ℕ → SlotCall → Type 0} (j pulls : ℕ) → Keeps allowed (λ h. IsTrue (stopped h) ⊎ HeldState pulls (slot_state h j))
keeps_held_state {allowed} j pulls =
    keeps_unless_stopped {allowed = allowed} {j = j} {R = HeldState pulls}
    (record { act = held_act pulls; call = held_call allowed j pulls })

-- a held slot stays held, whatever is called
pub held_on : {allowed : ℕ → SlotCall → Type 0} {before old new : List Happening} (j : ℕ) → Ran allowed old new → IsHeld before old j → IsHeld before new j
held_on {allowed} {before} {old} {new} j ran held =
    IsHeld-from_state before new j
    (kept {allowed = allowed} {P = λ h. IsTrue (stopped h) ⊎ HeldState (slot_state before j).pulls (slot_state h j)}
    (keeps_held_state j (slot_state before j).pulls) ran (IsHeld-state before old j held))

-- OFFLINE SLOTS

pub offline_now : {before h : List Happening} {j : ℕ} → IsOfflineUntilAttached before h j → IsOffline before h j
offline_now (IsOfflineUntilAttached.Unattached not_attached pulled) = IsOffline.Unattached not_attached pulled
offline_now (IsOfflineUntilAttached.RackStopped is) = IsOffline.RackStopped is

-- a held slot that isn't ready is offline
pub offline_from_unready : {before h : List Happening} {j : ℕ} → IsHeld before h j → is_ready h j ≡ false → IsOfflineUntilAttached before h j
offline_from_unready {before} {h} {j} (IsHeld.InUse attached some least) unready = IsOfflineUntilAttached.RackStopped (stopped_from_unready h j unready attached)
offline_from_unready (IsHeld.Unattached not_attached pulled) unready = IsOfflineUntilAttached.Unattached not_attached pulled
offline_from_unready (IsHeld.RackStopped is) unready = IsOfflineUntilAttached.RackStopped is

-- a medium was pulled, and none is attached
pub record AwayState (pulls : ℕ) (b : SlotState) : Type 0 where
  pub not_attached : b.attached ≡ false
  pub pulled : pulls < b.pulls

pub SlotKeeps-away : {allowed : ℕ → SlotCall → Type 0} (j pulls : ℕ) → ((c : SlotCall) → allowed j c → IsBesideAttach c)
    → SlotKeeps allowed j (AwayState pulls)
SlotKeeps-away {allowed} j pulls beside = record { act = on_act; call = λ h c may is away. on_call (slot_state h j) c (beside c may) away }
  where
    on_act : (b : SlotState) (a : SlotAct) → MayHappen b a → AwayState pulls b → AwayState pulls (after_act a b)
    on_act b (Pulled m) may away = record { not_attached = refl; pulled = omega (arith, away.pulled) }
    on_act b (InsertedBlank size) may away = record { not_attached = away.not_attached; pulled = away.pulled }
    on_act b (InsertedOld i) may away =
        with_old_cases (AwayState pulls) i (slice_get b.removed i) b away (λ m. record { not_attached = away.not_attached; pulled = away.pulled })
    on_act b (SectorDamaged k) may away = record { not_attached = away.not_attached; pulled = away.pulled }

    on_call : (b : SlotState) (c : SlotCall) → IsBesideAttach c → AwayState pulls b → AwayState pulls (after_call c b)
    on_call b (Attach answer) is away = absurd is
    on_call b (Sectors size) is away = away
    on_call b (Read k answer) is away = away
    on_call b (Write k bytes reply.Done) is away = record { not_attached = away.not_attached; pulled = away.pulled }
    on_call b (Write k bytes reply.Gone) is away = away
    on_call b (Sync reply.Done) is away = record { not_attached = away.not_attached; pulled = away.pulled }
    on_call b (Sync reply.Gone) is away = away

-- an offline slot stays so until it is attached
pub offline_on : {allowed : ℕ → SlotCall → Type 0} {before old new : List Happening} (j : ℕ) → ((c : SlotCall) → allowed j c → IsBesideAttach c)
    → Ran allowed old new → IsOfflineUntilAttached before old j → IsOfflineUntilAttached before new j
offline_on {allowed} {before} {old} {new} j beside ran (IsOfflineUntilAttached.RackStopped is) =
    IsOfflineUntilAttached.RackStopped (stopped_on {allowed = allowed} ran is)
offline_on {allowed} {before} {old} {new} j beside ran (IsOfflineUntilAttached.Unattached not_attached pulled) =
    let away : AwayState (slot_state before j).pulls (slot_state new j) =
    kept {allowed = allowed} {P = λ h. AwayState (slot_state before j).pulls (slot_state h j)}
    (keeps_slot (SlotKeeps-away {allowed = allowed} j (slot_state before j).pulls beside)) ran
    (record { not_attached = not_attached; pulled = pulled }) in
    IsOfflineUntilAttached.Unattached away.not_attached away.pulled

-- SLOTS THAT AREN'T READY

SlotKeeps-unattached : {allowed : ℕ → SlotCall → Type 0} (j : ℕ) → ((c : SlotCall) → allowed j c → IsBesideAttach c)
    → SlotKeeps allowed j (λ b. b.attached ≡ false)
SlotKeeps-unattached {allowed} j beside = record { act = on_act; call = λ h c may is before. on_call (slot_state h j) c (beside c may) before }
  where
    on_act : (b : SlotState) (a : SlotAct) → MayHappen b a → b.attached ≡ false → (after_act a b).attached ≡ false
    on_act b (Pulled m) may before = refl
    on_act b (InsertedBlank size) may before = before
    on_act b (InsertedOld i) may before = with_old_cases (λ x. x.attached ≡ false) i (slice_get b.removed i) b before (λ m. before)
    on_act b (SectorDamaged k) may before = before

    on_call : (b : SlotState) (c : SlotCall) → IsBesideAttach c → b.attached ≡ false → (after_call c b).attached ≡ false
    on_call b (Attach answer) is before = absurd is
    on_call b (Sectors size) is before = before
    on_call b (Read k answer) is before = before
    on_call b (Write k bytes reply.Done) is before = before
    on_call b (Write k bytes reply.Gone) is before = before
    on_call b (Sync reply.Done) is before = before
    on_call b (Sync reply.Gone) is before = before

unready_cases : (attached s : Bool) → (attached && not s) ≡ false → (attached ≡ false) ⊎ (s ≡ true)
unready_cases true true is = inr refl
unready_cases true false is = absurd (true≢false is)
unready_cases false s is = inl refl

unattached_unready : (attached s : Bool) → attached ≡ false → (attached && not s) ≡ false
unattached_unready true s is = absurd (true≢false is)
unattached_unready false s is = refl

-- a slot that isn't ready stays so until it is attached
pub unready_on : {allowed : ℕ → SlotCall → Type 0} {old new : List Happening} (j : ℕ) → ((c : SlotCall) → allowed j c → IsBesideAttach c)
    → Ran allowed old new → is_ready old j ≡ false → is_ready new j ≡ false
unready_on {allowed} {old} {new} j beside ran unready =
    elim (unready_cases (slot_state old j).attached (stopped old) unready) [
      | inl before ↦
          let after : (slot_state new j).attached ≡ false =
          kept {allowed = allowed} {P = λ h. (slot_state h j).attached ≡ false} (keeps_slot (SlotKeeps-unattached {allowed = allowed} j beside)) ran before in
          unattached_unready (slot_state new j).attached (stopped new) after
      | inr was ↦ unready_when_stopped new j (stopped_on {allowed = allowed} ran was)
    ]

none_or_stopped : (size : Option ℕ) (s : Bool) → (is_some size && not s) ≡ false → (size ≡ None) ⊎ (s ≡ true)
none_or_stopped None s is = inl refl
none_or_stopped (Some n) true is = inr refl
none_or_stopped (Some n) false is = absurd (true≢false is)

-- a slot that is gone in range isn't ready, or an attach found none
pub unready_from_gone : (h : List Happening) (j : ℕ) (c : SlotCall) → IsBesideAttach c → IsAnswered h j c → IsGoneInRange h j c
    → is_ready h j ≡ false
unready_from_gone h j (Attach answer) beside answered gone = absurd beside
unready_from_gone h j (Sectors size) beside answered gone = absurd gone
unready_from_gone h j (Read k answer) beside answered gone = read_unready h j k (sym gone ∙ answered)
unready_from_gone h j (Write k bytes answer) beside answered gone =
    elim gone.1 [
      | inl unready ↦ unready
      | inr has ↦
          elim (cases_Bool (is_ready h j)) [
            | inl ready ↦
                absurd (false≢true
                (sym (and-false (is_ready h j) (has_sector (slot_state h j).size k) (reply_if-Gone _ (sym gone.0 ∙ answered)) ready) ∙ has))
            | inr unready ↦ unready
          ]
    ]
unready_from_gone h j (Sync answer) beside answered gone = reply_if-Gone _ (sym gone ∙ answered)

-- where an attach answers Gone
pub attach_gone_now : (h : List Happening) (j : ℕ) → IsAnswered h j (Attach reply.Gone) → ((slot_state h j).size ≡ None) ⊎ IsTrue (stopped h)
attach_gone_now h j answered = none_or_stopped (slot_state h j).size (stopped h) (reply_if-Gone _ answered)

-- a held slot that is gone in range is offline
pub offline_from_gone : (before h : List Happening) (j : ℕ) (c : SlotCall) → IsHeld before h j → IsAnswered h j c → IsGoneInRange h j c
    → IsOffline before h j
offline_from_gone before h j (Attach answer) held answered gone =
    elim (attach_gone_now h j (sym gone ∙ answered)) [ inl none ↦ IsOffline.NoMedium none | inr is ↦ IsOffline.RackStopped is ]
offline_from_gone before h j (Sectors size) held answered gone = absurd gone
offline_from_gone before h j (Read k answer) held answered gone =
    offline_now (offline_from_unready held (unready_from_gone h j (Read k answer) tt answered gone))
offline_from_gone before h j (Write k bytes answer) held answered gone =
    offline_now (offline_from_unready held (unready_from_gone h j (Write k bytes answer) tt answered gone))
offline_from_gone before h j (Sync answer) held answered gone =
    offline_now (offline_from_unready held (unready_from_gone h j (Sync answer) tt answered gone))

-- a slot that was gone in range isn't ready until it is attached
pub unready_lasts : (h new : List Happening) (j : ℕ) (c : SlotCall) → IsAnswered h j c → IsGoneInRange h j c
    → Ran (IsNoAttach j) (Called j c ∷ h) new → is_ready new j ≡ false
unready_lasts h new j c answered gone ran =
    unready_on {allowed = IsNoAttach j} j (λ d no_attach. no_attach refl) ran (unready_after c answered gone)
  where
    still : (d : SlotCall) → after_call d (slot_state h j) ≡ slot_state h j → is_ready h j ≡ false → is_ready (Called j d ∷ h) j ≡ false
    still d same unready = ap (λ (b : SlotState). b.attached && not (stopped h)) (slot_after_call h j d ∙ same) ∙ unready

    unready_after : (d : SlotCall) → IsAnswered h j d → IsGoneInRange h j d → is_ready (Called j d ∷ h) j ≡ false
    unready_after (Attach answer) answered gone =
        let here : slot_state (Called j (Attach answer) ∷ h) j ≡ after_attach reply.Gone (slot_state h j) =
        slot_after_call h j (Attach answer) ∙ ap (λ r. after_attach r (slot_state h j)) gone in
        unattached_unready (slot_state (Called j (Attach answer) ∷ h) j).attached (stopped h) (ap (λ (b : SlotState). b.attached) here)
    unready_after (Sectors size) answered gone = absurd gone
    unready_after (Read k answer) answered gone =
        still (Read k answer) refl (unready_from_gone h j (Read k answer) tt answered gone)
    unready_after (Write k bytes answer) answered gone =
        still (Write k bytes answer) (ap (λ r. after_write k bytes r (slot_state h j)) gone.0)
        (unready_from_gone h j (Write k bytes answer) tt answered gone)
    unready_after (Sync answer) answered gone =
        still (Sync answer) (ap (λ r. after_sync r (slot_state h j)) gone) (unready_from_gone h j (Sync answer) tt answered gone)

-- a slot that an attach found is held in each session that began before, and stays so
pub held_lasts : (before h new : List Happening) (j : ℕ) → Ran any_call before h → IsAnswered h j (Attach reply.Done)
    → Ran any_call (Called j (Attach reply.Done) ∷ h) new → IsHeld before new j
held_lasts before h new j ran answered later = held_on {allowed = any_call} j later found
  where
    found : IsHeld before (Called j (Attach reply.Done) ∷ h) j
    found =
        let here = slot_after_call h j (Attach reply.Done) in
        IsHeld.InUse (ap (λ (b : SlotState). b.attached) here)
        (ap (λ (b : SlotState). is_some b.size) here ∙ and-true_left (is_some (slot_state h j).size) (not (stopped h)) (reply_if-Done _ answered))
        (subst (λ (b : SlotState). (slot_state before j).pulls ≤ b.pulls) (sym here) (pulls_on {allowed = any_call} j ran))
