-- What the places of slots hold while editions are written.
use Rattle.std.proofs.Common.{◌≡◌, ℕ, ◌<◌, List, [], ◌∷◌, ◌++◌, ◌⊎◌, inl, inr, refl, sym, ap, ◌∙◌, subst, arith, false, Option, None, Some}
use Rattle.std.specs.Prelude.{⊤, Contains, IsSome, not, ◌&&◌, slice_get}
use Rattle.std.proofs.lemmas.Bool.{cases_Bool, false≢true}
use Rattle.stair_model.specs.Geometry.{Geometry}
use Rattle.stair_model.specs.Slots.{Slots, HasSlot}
use Rattle.stair_rack.specs.Answers.{IsAnswered, IsCall, Ran, Runs, is_good, is_ready}
use Rattle.stair_rack.specs.Crash.{CrashMayLeave, image_now}
use Rattle.stair_rack.specs.History.{Happening, Made, Stopped, Acted, Called, SlotAct, Pulled, InsertedBlank, InsertedOld, SectorDamaged, SlotCall, Attach, Sectors, Read, Write, Sync, SlotState, IsTidy, after_act, after_call, slot_state, stopped}
use Rattle.stair_rack.specs.Media.{Image, has_sector}
use Rattle.stair_rack.specs.Offline.{IsAttached}
use Rattle.stair_rack.specs.Outside.{IsAct, MayHappen}
use Rattle.stair_rack.specs.Sector.{Cell, Good, Damaged, Torn, TornOverDamage, Sector, Leaves, MayLeave, content, damaged, settled, torn, wrote, synced}
use Rattle.stair_rack.specs.Stretch.{NothingReturned, ReturnsNothing}
use Rattle.stair_rack.specs.declared.rack.Reply.{Reply}
use Rattle.stair_rack.specs.declared.rack.Reply.TheVariants as reply
use Rattle.stair_rack.proofs.CrashLemmas.{CrashMayLeave-now, Leaves-settled, Leaves-synced, Leaves-wrote, nothing_unsynced, settled_left}
use Rattle.stair_rack.proofs.KeptLemmas.{not_none, with_old_cases, with_sector_cases}
use Rattle.stair_rack.proofs.MomentLemmas.{at_last}
use Rattle.stair_rack.proofs.OfflineLemmas.{reply_if-Done, and-true_left}
use Rattle.stair_rack.proofs.TidyLemmas.{history_tidy}
use Rattle.stair_rack.proofs.StepLemmas.{slot_act_cases, slot_call_cases}
use Rattle.stair_rack.proofs.StretchLemmas.{KeepsWhere, kept_where}
use Rattle.stair_super.specs.Spelling.{SpellsSuperblock, spelled}
use Rattle.stair_super.specs.Superblock.{Superblock, IsSuperblock}
use Rattle.stair_super.proofs.SpellsLaws.{spells}
use Rattle.stair_member.specs.Editions.{Edition, copy_of}
use Rattle.stair_member.specs.Epochs.{IsIssuing, AWrite, ASync}
use Rattle.stair_member.specs.Fencing.{IsBegun, IsCopy, MayBear}
use Rattle.stair_member.specs.Membership.{Membership}
use Rattle.stair_member.specs.Reserve.{Bears}
use Rattle.stair_member.specs.Superblocks.{HoldsSuper}
use Rattle.stair_member.proofs.CountingLemmas.{has_or_not}
use Rattle.stair_member.proofs.DecisionLemmas.{no_super}
use Rattle.stair_member.proofs.SuperLemmas.{holds_once}

-- ---- one slot

-- The slot has the medium that it had when it stood so, and each cell that a crash may leave of its superblock places has P;
-- or it isn't attached, and nothing can be read of it.
pub data SlotIs (first : SlotState) (P : ℕ → Cell → Type 0) (b : SlotState) : Type 0 where
  Same : IsSome first.size → b.pulls ≡ first.pulls → IsSome b.size → ((k : ℕ) → k < 2 → Leaves (P k) (λ c. ⊤) (b.sector k)) → SlotIs first P b
  Bare : b.attached ≡ false → ((k : ℕ) → b.sector k ≡ damaged) → SlotIs first P b

-- a slot that isn't attached isn't written
unattached_write : (h : List Happening) (j k : ℕ) (bytes : List ℕ) → (slot_state h j).attached ≡ false
    → ¬ IsAnswered h j (Write k bytes reply.Done)
unattached_write h j k bytes off answered =
    let both = reply_if-Done (is_ready h j && has_sector (slot_state h j).size k) answered in
    let ready = and-true_left (is_ready h j) (has_sector (slot_state h j).size k) both in
    false≢true (sym off ∙ and-true_left (slot_state h j).attached (not (stopped h)) ready)

-- what these calls write to slot j is so, and they attach nothing
pub record Places (allowed : ℕ → SlotCall → Type 0) (j : ℕ) (P : ℕ → Cell → Type 0) : Type 0 where
  pub harm : (k : ℕ) → P k Damaged
  pub write : (k : ℕ) (bytes : List ℕ) → allowed j (Write k bytes reply.Done) → P k (Good bytes)
  pub cut : (k : ℕ) (bytes : List ℕ) (cell : Cell) → allowed j (Write k bytes reply.Done) → P k (torn cell)
  pub attach : (answer : Reply) → ¬ allowed j (Attach answer)

module _ {allowed : ℕ → SlotCall → Type 0} {j : ℕ} {P : ℕ → Cell → Type 0} (places : Places allowed j P) where
  damaged_leaves : (k : ℕ) → Leaves (P k) (λ c. ⊤) damaged
  damaged_leaves k = Leaves-settled Damaged (places.harm k) tt

  is_act : (first : SlotState) (h : List Happening) (b : SlotState) (a : SlotAct) → MayHappen b a → ReturnsNothing h (Acted j a) → SlotIs first P b
      → SlotIs first P (after_act a b)
  is_act first h b (Pulled medium) may none is = Bare refl (λ k. refl)
  is_act first h b (InsertedBlank size) may none (Same was same some each) = absurd (not_none b.size may some)
  is_act first h b (InsertedBlank size) may none (Bare off bare) = Bare off (λ k. refl)
  is_act first h b (InsertedOld i) may none is = absurd none
  is_act first h b (SectorDamaged l) may none (Same was same some each) =
      Same was same some
      (λ k lt. with_sector_cases (Leaves (P k) (λ c. ⊤)) l k damaged b (λ at. damaged_leaves k) (each k lt))
  is_act first h b (SectorDamaged l) may none (Bare off bare) =
      Bare off (λ k. with_sector_cases (λ s. s ≡ damaged) l k damaged b (λ at. refl) (bare k))

  is_write : (first : SlotState) (h : List Happening) (l : ℕ) (bytes : List ℕ) (answer : Reply) → allowed j (Write l bytes answer)
      → IsAnswered h j (Write l bytes answer) → SlotIs first P (slot_state h j) → SlotIs first P (after_call (Write l bytes answer) (slot_state h j))
  is_write first h l bytes reply.Done may answered (Same was same some each) =
      Same was same some
      (λ k lt.
      with_sector_cases (Leaves (P k) (λ c. ⊤)) l k (wrote bytes ((slot_state h j).sector l)) (slot_state h j)
      (λ at.
      subst (λ i. Leaves (P i) (λ c. ⊤) (wrote bytes ((slot_state h j).sector l))) (sym at)
      (Leaves-wrote bytes (places.write l bytes may) (λ cell under. places.cut l bytes cell may) (each l (subst (λ i. i < 2) at lt)))) (each k lt))
  is_write first h l bytes reply.Done may answered (Bare off bare) = absurd (unattached_write h j l bytes off answered)
  is_write first h l bytes reply.Gone may answered is = is

  is_sync : (first : SlotState) (b : SlotState) (answer : Reply) → SlotIs first P b → SlotIs first P (after_call (Sync answer) b)
  is_sync first b reply.Done (Same was same some each) = Same was same some (λ k lt. Leaves-synced (λ cell holds. tt) (each k lt))
  is_sync first b reply.Done (Bare off bare) = Bare off (λ k. ap synced (bare k))
  is_sync first b reply.Gone is = is

  is_call : (first : SlotState) (h : List Happening) (c : SlotCall) → allowed j c → IsAnswered h j c → SlotIs first P (slot_state h j)
      → SlotIs first P (after_call c (slot_state h j))
  is_call first h (Attach answer) may answered is = absurd (places.attach answer may)
  is_call first h (Sectors size) may answered is = is
  is_call first h (Read k answer) may answered is = is
  is_call first h (Write k bytes answer) may answered is = is_write first h k bytes answer may answered is
  is_call first h (Sync answer) may answered is = is_sync first (slot_state h j) answer is

  keeps_places : (first : SlotState) → KeepsWhere ReturnsNothing allowed (λ h. SlotIs first P (slot_state h j))
  keeps_places first = record { act = on_act; call = on_call }
    where
      on_act : (h : List Happening) (e : Happening) → IsAct h e → ReturnsNothing h e → SlotIs first P (slot_state h j)
          → SlotIs first P (slot_state (e ∷ h) j)
      on_act h (Made image) may none is = absurd may
      on_act h Stopped may none is = is
      on_act h (Acted i a) may none is =
          slot_act_cases (SlotIs first P) h i j a
          (λ same.
          is_act first h (slot_state h j) a (subst (λ n. MayHappen (slot_state h n) a) same may.1)
          (subst (λ n. ReturnsNothing h (Acted n a)) same none) is) is
      on_act h (Called i c) may none is = absurd may

      on_call : (h : List Happening) (i : ℕ) (c : SlotCall) → allowed i c → IsAnswered h i c → ReturnsNothing h (Called i c)
          → SlotIs first P (slot_state h j) → SlotIs first P (slot_state (Called i c ∷ h) j)
      on_call h i c may answered none is =
          slot_call_cases (SlotIs first P) h i j c
          (λ same. is_call first h c (subst (λ n. allowed n c) same may) (subst (λ n. IsAnswered h n c) same answered) is) is

  pub places_on : {old new : List Happening} (first : SlotState) → NothingReturned old new → Ran allowed old new → SlotIs first P (slot_state old j)
      → SlotIs first P (slot_state new j)
  places_on {old} {new} first none ran start =
      at_last {P = λ h. SlotIs first P (slot_state h j)}
      (kept_where {P = ReturnsNothing} {allowed = allowed} {R = λ h. SlotIs first P (slot_state h j)} (keeps_places first) ran none start)

-- as it begins: nothing is unsynced in the places
pub places_first : {P : ℕ → Cell → Type 0} (h : List Happening) (j : ℕ) → IsTidy h
    → ((k : ℕ) → k < 2 → ((slot_state h j).sector k).since ≡ [])
    → ((k : ℕ) → k < 2 → P k (content ((slot_state h j).sector k))) → SlotIs (slot_state h j) P (slot_state h j)
places_first {P} h j tidy none holds = at_size (slot_state h j).size refl
  where
    whole : (k : ℕ) → k < 2 → Leaves (P k) (λ c. ⊤) ((slot_state h j).sector k)
    whole k lt =
        let s : Sector = (slot_state h j).sector k in
        let is : s ≡ settled s.base = nothing_unsynced s (none k lt) in
        subst (Leaves (P k) (λ c. ⊤)) (sym is) (Leaves-settled s.base (subst (P k) (ap content is) (holds k lt)) tt)

    at_size : (size : Option ℕ) → (slot_state h j).size ≡ size → SlotIs (slot_state h j) P (slot_state h j)
    at_size None is =
        Bare
        (elim (cases_Bool (slot_state h j).attached) [ inl on ↦ absurd (not_none (slot_state h j).size is (tidy.attached j on)) | inr off ↦ off ])
        (λ k. tidy.past_end j k (ap (λ size. has_sector size k) is))
    at_size (Some size) is = let some : IsSome (slot_state h j).size = subst IsSome (sym is) refl in Same some refl some whole

-- ---- editions

pub spells_copy : (e : Edition) (j : ℕ) → IsSuperblock (copy_of e j) → SpellsSuperblock (spelled (copy_of e j)) (copy_of e j)
spells_copy e j formed = spells (copy_of e j) formed

pub holds_copy : (cell : Cell) (e : Edition) (j : ℕ) → IsSuperblock (copy_of e j) → cell ≡ Good (spelled (copy_of e j))
    → HoldsSuper cell (copy_of e j)
holds_copy cell e j formed is = record { bytes = spelled (copy_of e j); good = is; spells = spells_copy e j formed }

-- what copies are the same are of the same edition
pub same_edition : (a b : Edition) (j : ℕ) → copy_of a j ≡ copy_of b j → a ≡ b
same_edition a b j same = λ i. record { array = (same i).array; draw = (same i).draw }

-- what a place of slot j holds that held `was`, where these editions are written to these slots
pub data Comes (slots : ℕ → Type 0) (a : List Edition) (j : ℕ) (was cell : Cell) : Type 0 where
  Stayed : cell ≡ was → Comes slots a j was cell
  Harmed : cell ≡ Damaged → Comes slots a j was cell
  Cut : slots j → is_good cell ≡ false → Comes slots a j was cell
  Wrote : (e : Edition) → slots j → Contains a e → IsSuperblock (copy_of e j) → cell ≡ Good (spelled (copy_of e j))
      → Comes slots a j was cell

torn_not_good : (cell : Cell) → is_good (torn cell) ≡ false
torn_not_good (Good bytes) = refl
torn_not_good Damaged = refl
torn_not_good Torn = refl
torn_not_good TornOverDamage = refl

-- what they are written to
module _ (slots : Slots) (to : ℕ → Type 0) (a : List Edition) (j : ℕ) (was : ℕ → Cell) (within : HasSlot slots j → to j) where
  written : (k : ℕ) (bytes : List ℕ) → IsIssuing slots a j (Write k bytes reply.Done) → Comes to a j (was k) (Good bytes)
  written k bytes (AWrite e l answer has among formed below is) =
      let same : bytes ≡ spelled (copy_of e j) = cc in
      Wrote e (within has) among formed (ap Good same)
  written k bytes (ASync answer has is) = absurd (cc)

  in_slots : (k : ℕ) (bytes : List ℕ) → IsIssuing slots a j (Write k bytes reply.Done) → HasSlot slots j
  in_slots k bytes (AWrite e l answer has among formed below is) = has
  in_slots k bytes (ASync answer has is) = has

  no_attach : (answer : Reply) → ¬ IsIssuing slots a j (Attach answer)
  no_attach answer (AWrite e l answer' has among formed below is) = absurd (cc)
  no_attach answer (ASync answer' has is) = absurd (cc)

  pub issuing_places : Places (IsIssuing slots a) j (λ k. Comes to a j (was k))
  issuing_places = record {
    harm = λ k. Harmed refl;
    write = λ k bytes may. written k bytes may;
    cut = λ k bytes cell may. Cut (within (in_slots k bytes may)) (torn_not_good cell);
    attach = λ answer may. no_attach answer may;
  }

-- ---- a slot that isn't attached

-- one of these slots, and it is attached when the call begins
abbrev pub IsWritable : Slots → List Happening → ℕ → Type 0
IsWritable slots old j = HasSlot slots j × IsAttached old j

pub writable_or_not : (slots : Slots) (old : List Happening) (j : ℕ) → IsWritable slots old j ⊎ (¬ IsWritable slots old j)
writable_or_not slots old j =
    elim (has_or_not slots j) [
      | inr out ↦ inr (λ is. out is.0)
      | inl has ↦
          elim (cases_Bool (slot_state old j).attached) [
            | inl on ↦ inl (has, on)
            | inr off ↦ inr (λ is. false≢true (sym off ∙ is.1))
          ]
    ]

-- a call that changes no sector of its slot, and doesn't attach it
abbrev IsIdleCall : SlotCall → Type 0
IsIdleCall (Attach answer) = ⊥
IsIdleCall (Sectors size) = ⊤
IsIdleCall (Read k answer) = ⊤
IsIdleCall (Write k bytes answer) = answer ≡ reply.Gone
IsIdleCall (Sync answer) = ⊤

abbrev IsIdle : ℕ → ℕ → SlotCall → Type 0
IsIdle j i call = i ≡ j → IsIdleCall call

module _ (slots : Slots) (a : List Edition) (j : ℕ) where
  idle_call : (h : List Happening) (i : ℕ) (c : SlotCall) → IsIssuing slots a i c → IsAnswered h i c → (slot_state h j).attached ≡ false → IsIdle j i c
  idle_call h i c (AWrite e k reply.Gone has among formed below is) answered off same = subst IsIdleCall (sym is) refl
  idle_call h i c (AWrite e k reply.Done has among formed below is) answered off same =
      absurd
      (unattached_write h i k (spelled (copy_of e i)) (subst (λ n. (slot_state h n).attached ≡ false) (sym same) off)
      (subst (λ d. IsAnswered h i d) is answered))
  idle_call h i c (ASync answer has is) answered off same = subst IsIdleCall (sym is) tt

  off_act : (act : SlotAct) (b : SlotState) → b.attached ≡ false → (after_act act b).attached ≡ false
  off_act (Pulled medium) b off = refl
  off_act (InsertedBlank size) b off = off
  off_act (InsertedOld i) b off = with_old_cases (λ c. c.attached ≡ false) i (slice_get b.removed i) b off (λ m. off)
  off_act (SectorDamaged k) b off = off

  off_call : (c : SlotCall) (b : SlotState) → IsIdleCall c → b.attached ≡ false → (after_call c b).attached ≡ false
  off_call (Attach answer) b idle off = absurd idle
  off_call (Sectors size) b idle off = off
  off_call (Read k answer) b idle off = off
  off_call (Write k bytes reply.Done) b idle off = off
  off_call (Write k bytes reply.Gone) b idle off = off
  off_call (Sync reply.Done) b idle off = off
  off_call (Sync reply.Gone) b idle off = off

  off_step : (h : List Happening) (e : Happening) → IsAct h e ⊎ IsCall (IsIssuing slots a) h e → (slot_state h j).attached ≡ false
      → (IsAct h e ⊎ IsCall (IsIdle j) h e) × ((slot_state (e ∷ h) j).attached ≡ false)
  off_step h (Made image) (inl act) off = absurd act
  off_step h (Made image) (inr call) off = absurd call
  off_step h Stopped (inl act) off = (inl act, off)
  off_step h Stopped (inr call) off = absurd call
  off_step h (Acted i act) (inl may) off =
      (inl may, slot_act_cases (λ b. b.attached ≡ false) h i j act (λ same. off_act act (slot_state h j) off) off)
  off_step h (Acted i act) (inr call) off = absurd call
  off_step h (Called i c) (inl act) off = absurd act
  off_step h (Called i c) (inr call) off =
      let idle : IsIdle j i c = idle_call h i c call.0 call.1 off in (
        inr (idle, call.1),
        slot_call_cases (λ b. b.attached ≡ false) h i j c (λ same. off_call c (slot_state h j) (idle same) off) off,
      )

  off_runs : (more old : List Happening) → Runs (IsIssuing slots a) more old → (slot_state old j).attached ≡ false
      → Runs (IsIdle j) more old × ((slot_state (more ++ old) j).attached ≡ false)
  off_runs [] old runs off = (tt, off)
  off_runs (e ∷ more) old runs off =
      let before = off_runs more old runs.0 off in
      let step = off_step (more ++ old) e runs.1 before.1 in
      ((before.0, step.0), step.1)

  idle_ran : {old h : List Happening} → Ran (IsIssuing slots a) old h → (slot_state old j).attached ≡ false → Ran (IsIdle j) old h
  idle_ran {old} ran off = record { more = ran.more; is = ran.is; runs = (off_runs ran.more old ran.runs off).0 }

  -- it stays so
  pub unattached_on : {old h : List Happening} → Ran (IsIssuing slots a) old h → (slot_state old j).attached ≡ false
      → (slot_state h j).attached ≡ false
  unattached_on {old} ran off = subst (λ h. (slot_state h j).attached ≡ false) (sym ran.is) (off_runs ran.more old ran.runs off).1

  idle_places : (to : ℕ → Type 0) (was : ℕ → Cell) → Places (IsIdle j) j (λ k. Comes to a j (was k))
  idle_places to was = record {
    harm = λ k. Harmed refl;
    write = λ k bytes may. let clash : reply.Done ≡ reply.Gone = may refl in absurd (cc);
    cut = λ k bytes cell may. let clash : reply.Done ≡ reply.Gone = may refl in absurd (cc);
    attach = λ answer may. may refl;
  }

-- ---- images

-- Slot j of an image, of whose media a crash may have left another image before: it has the same medium, and this in its
-- places; or nothing can be read of it.
pub data SlotComes (slots : ℕ → Type 0) (a : List Edition) (j pulls : ℕ) (state : SlotState) (was cell : ℕ → Cell) : Type 0 where
  SameMedium : state.pulls ≡ pulls → ((k : ℕ) → k < 2 → Comes slots a j (was k) (cell k)) → SlotComes slots a j pulls state was cell
  NothingThere : ((k : ℕ) → cell k ≡ Damaged) → SlotComes slots a j pulls state was cell

-- at a moment since
pub slot_is : (slots : Slots) (a : List Edition) (old h : List Happening) (j : ℕ) → IsTidy old
    → ((k : ℕ) → k < 2 → ((slot_state old j).sector k).since ≡ []) → Ran (IsIssuing slots a) old h → NothingReturned old h
    → SlotIs (slot_state old j) (λ k. Comes (IsWritable slots old) a j ((image_now old j).cell k)) (slot_state h j)
slot_is slots a old h j tidy none ran returned =
    elim (cases_Bool (slot_state old j).attached) [
      | inl on ↦
          places_on {allowed = IsIssuing slots a} {j = j} {P = P}
          (issuing_places slots (IsWritable slots old) a j ((image_now old j).cell) (λ has. (has, on))) (slot_state old j) returned ran start
      | inr off ↦
          places_on {allowed = IsIdle j} {j = j} {P = P} (idle_places slots a j (IsWritable slots old) ((image_now old j).cell)) (slot_state old j)
          returned (idle_ran slots a j ran off) start
    ]
  where
    P : ℕ → Cell → Type 0
    P k cell = Comes (IsWritable slots old) a j ((image_now old j).cell k) cell

    start : SlotIs (slot_state old j) P (slot_state old j)
    start = places_first {P = P} old j tidy none (λ k lt. Stayed refl)

pub slot_comes : (slots : Slots) (a : List Edition) (old h : List Happening) (image : Image) (j : ℕ) → IsTidy old
    → ((k : ℕ) → k < 2 → ((slot_state old j).sector k).since ≡ []) → Ran (IsIssuing slots a) old h → NothingReturned old h → CrashMayLeave h image
    → SlotComes (IsWritable slots old) a j (slot_state old j).pulls (slot_state h j) ((image_now old j).cell) ((image j).cell)
slot_comes slots a old h image j tidy none ran returned left =
    elim (slot_is slots a old h j tidy none ran returned) [
      | Same was same some each ↦ SameMedium same (λ k lt. (each k lt).each ((image j).cell k) ((left j).each k))
      | Bare off bare ↦
          NothingThere (λ k. settled_left Damaged ((image j).cell k) (subst (λ s. MayLeave s ((image j).cell k)) (bare k) ((left j).each k)))
    ]

-- ---- superblocks

-- A superblock that a place of slot j holds, which held `was`: it stood there, or is a copy of one of the editions.
pub data IsOf (slots : ℕ → Type 0) (a : List Edition) (j : ℕ) (was : Cell) (s : Superblock) : Type 0 where
  Entry : HoldsSuper was s → IsOf slots a j was s
  Issue : (e : Edition) → slots j → Contains a e → IsSuperblock (copy_of e j) → s ≡ copy_of e j → IsOf slots a j was s

pub held_of : (slots : ℕ → Type 0) (a : List Edition) (j : ℕ) (was cell : Cell) (s : Superblock) → Comes slots a j was cell → HoldsSuper cell s
    → IsOf slots a j was s
held_of slots a j was cell s (Stayed is) holds = Entry (subst (λ c. HoldsSuper c s) is holds)
held_of slots a j was cell s (Harmed is) holds = let good = holds.good in absurd (cc)
held_of slots a j was cell s (Cut has bad) holds = absurd (no_super cell s bad holds)
held_of slots a j was cell s (Wrote e has among formed is) holds =
    Issue e has among formed (holds_once cell s (copy_of e j) holds (holds_copy cell e j formed is))

-- where nothing can be read no superblock is held
pub none_held_there : (cell : Cell) (s : Superblock) → cell ≡ Damaged → ¬ HoldsSuper cell s
none_held_there cell s is holds = let good = holds.good in cc

-- of a slot whose superblock places were settled at first, and of an image since
pub bears_of : (slots : ℕ → Type 0) (a : List Edition) (j pulls : ℕ) (state : SlotState) (was cell : ℕ → Cell) (g : Geometry) (s : Superblock)
    → SlotComes slots a j pulls state was cell → (bears : Bears g j cell s) → IsOf slots a j (was bears.place) s
bears_of slots a j pulls state was cell g s (SameMedium same each) bears =
    held_of slots a j (was bears.place) (cell bears.place) s (each bears.place bears.place_in) bears.holds
bears_of slots a j pulls state was cell g s (NothingThere none) bears = absurd (none_held_there (cell bears.place) s (none bears.place) bears.holds)

-- a slot that bears a superblock of the array is one of it
pub bears_below : (g : Geometry) (j : ℕ) (cell : ℕ → Cell) (s : Superblock) → Bears g j cell s → j < g.n
bears_below g j cell s bears =
    let slot_in : s.slot < s.array.geometry.n = bears.holds.spells.block.rules.slot_in in
    let slot : s.slot ≡ j = bears.slot in
    let n : s.array.geometry.n ≡ g.n = ap (λ (h : Geometry). h.n) bears.identity in
    omega arith

-- each superblock that a slot bears there was borne when the call began, or is one of the editions written since
pub borne : (joining : Option ℕ) (m : Membership) (slots : Slots) (editions : List Edition) (old h : List Happening) (image : Image) (j : ℕ)
    (s : Superblock) → IsBegun joining m old → Ran (IsIssuing slots editions) old h → NothingReturned old h → CrashMayLeave h image
    → Bears m.array.geometry j ((image j).cell) s → MayBear m.array.geometry old j s ⊎ IsCopy slots editions j s
borne joining m slots editions old h image j s begun ran returned left bears =
    from
    (bears_of (IsWritable slots old) editions j (slot_state old j).pulls (slot_state h j) ((image_now old j).cell) ((image j).cell) m.array.geometry s
    (slot_comes slots editions old h image j (history_tidy begun.history)
    (λ k lt. begun.settled j k (bears_below m.array.geometry j ((image j).cell) s bears) lt) ran returned left) bears)
  where
    from : IsOf (IsWritable slots old) editions j ((image_now old j).cell bears.place) s → MayBear m.array.geometry old j s ⊎ IsCopy slots editions j s
    from (Entry holds) = inl (record {
      image = image_now old;
      left = CrashMayLeave-now old;
      bears = record { place = bears.place; place_in = bears.place_in; holds = holds; slot = bears.slot; identity = bears.identity };
    })
    from (Issue e has among formed is) = inr (record { slot = has.0; edition = e; among = among; is = is })
