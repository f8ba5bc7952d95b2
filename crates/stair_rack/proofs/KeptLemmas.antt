-- What is known of a sector but for the outside, through acts and calls.
use Rattle.std.proofs.Common.{◌≡◌, ◌≢◌, ℕ, ◌≤◌, List, ◌⊎◌, inl, inr, refl, sym, ap, ◌∙◌, subst, arith, Option, None, Some, slice_get, true≢false}
use Rattle.std.specs.Prelude.{⊤, IsSome, is_some}
use Rattle.std.proofs.lemmas.Bool.{cond-true, cond-false, eq-eqb, ne_eqb, cases_eq, cases_lt}
use Rattle.stair_rack.specs.Sector.{Sector, damaged, wrote, synced}
use Rattle.stair_rack.specs.Media.{Medium}
use Rattle.stair_rack.specs.History.{SlotAct, Pulled, InsertedBlank, InsertedOld, SectorDamaged, SlotCall, Attach, Sectors, Read, Write, Sync, Happening, SlotState, with_sector, with_old, after_act, after_attach, after_write, after_sync, after_call, slot_state}
use Rattle.stair_rack.specs.Outside.{MayHappen}
use Rattle.stair_rack.specs.Offline.{IsKept, Here, Lost, ButForOutside}
use Rattle.stair_rack.specs.declared.rack.Reply.{Reply}
use Rattle.stair_rack.specs.declared.rack.Reply.TheVariants as reply
use Rattle.stair_rack.proofs.StepLemmas.{Keeps, keeps_slot, kept}

pub not_none : {A : Type 0} (o : Option A) → o ≡ None → IsSome o → ⊥
not_none o none some = true≢false (sym some ∙ ap is_some none)

-- a slot into which a removed medium may have been put
pub with_old_cases : (R : SlotState → Type 0) (i : ℕ) (o : Option Medium) (b : SlotState) → R b → ((m : Medium) → R (with_old i (Some m) b))
    → R (with_old i o b)
with_old_cases R i None b none some = none
with_old_cases R i (Some m) b none some = some m

-- one sector changed
pub with_sector_same : (k : ℕ) (s : Sector) (b : SlotState) → (with_sector k s b).sector k ≡ s
with_sector_same k s b = cond-true _ _ _ (eq-eqb k k refl)

pub with_sector_other : (k l : ℕ) (s : Sector) (b : SlotState) → l ≢ k → (with_sector k s b).sector l ≡ b.sector l
with_sector_other k l s b other = cond-false _ _ _ (ne_eqb l k other)

pub with_sector_cases : (P : Sector → Type 0) (k l : ℕ) (s : Sector) (b : SlotState) → (l ≡ k → P s) → P (b.sector l) → P ((with_sector k s b).sector l)
with_sector_cases P k l s b here there =
    elim (cases_eq l k) [
      | inl same ↦ subst (λ i. P ((with_sector k s b).sector i)) (sym same) (subst P (sym (with_sector_same k s b)) (here same))
      | inr other ↦ subst P (sym (with_sector_other k l s b other)) there
    ]

-- whatever P is, the outside's acts keep it
pub IsKept-act : {pulls k : ℕ} {P : Sector → Type 0} (b : SlotState) (a : SlotAct) → MayHappen b a → IsKept pulls k P b → IsKept pulls k P (after_act a b)
IsKept-act b (Pulled m) may (Here same some holds) = Lost (omega arith)
IsKept-act b (Pulled m) may (Lost less) = Lost (omega arith)
IsKept-act b (InsertedBlank size) may (Here same some holds) = absurd (not_none b.size may some)
IsKept-act b (InsertedBlank size) may (Lost less) = Lost less
IsKept-act b (InsertedOld i) may (Here same some holds) = absurd (not_none b.size may.0 some)
IsKept-act {pulls} {k} {P} b (InsertedOld i) may (Lost less) =
    with_old_cases (IsKept pulls k P) i (slice_get b.removed i) b (Lost less) (λ m. Lost less)
IsKept-act {pulls} {k} {P} b (SectorDamaged l) may (Here same some holds) =
    Here same some (with_sector_cases (λ s. (s ≡ damaged) ⊎ P s) l k damaged b (λ at. inl refl) holds)
IsKept-act b (SectorDamaged l) may (Lost less) = Lost less

-- These calls of slot j keep P of its sector k.
pub record SectorKeeps (allowed : ℕ → SlotCall → Type 0) (j k : ℕ) (P : Sector → Type 0) : Type 0 where
  pub write : (bytes : List ℕ) (s : Sector) → allowed j (Write k bytes reply.Done) → (s ≡ damaged) ⊎ P s → P (wrote bytes s)
  pub sync : (s : Sector) → allowed j (Sync reply.Done) → P s → P (synced s)

IsKept-after_write : {pulls k : ℕ} {P : Sector → Type 0} (b : SlotState) (l : ℕ) (bytes : List ℕ) (answer : Reply)
    → ((s : Sector) → l ≡ k → answer ≡ reply.Done → (s ≡ damaged) ⊎ P s → P (wrote bytes s)) → IsKept pulls k P b
    → IsKept pulls k P (after_write l bytes answer b)
IsKept-after_write {pulls} {k} {P} b l bytes reply.Done write (Here same some holds) =
    Here same some
    (with_sector_cases (λ s. (s ≡ damaged) ⊎ P s) l k (wrote bytes (b.sector l)) b
    (λ at. inr (write (b.sector l) (sym at) refl (subst (λ i. (b.sector i ≡ damaged) ⊎ P (b.sector i)) at holds))) holds)
IsKept-after_write b l bytes reply.Done write (Lost less) = Lost less
IsKept-after_write b l bytes reply.Gone write keeps = keeps

IsKept-after_sync : {pulls k : ℕ} {P : Sector → Type 0} (b : SlotState) (answer : Reply)
    → ((s : Sector) → answer ≡ reply.Done → P s → P (synced s)) → IsKept pulls k P b → IsKept pulls k P (after_sync answer b)
IsKept-after_sync {pulls} {k} {P} b reply.Done sync (Here same some holds) = Here same some (settles (b.sector k) holds)
  where
    settles : (s : Sector) → (s ≡ damaged) ⊎ P s → (synced s ≡ damaged) ⊎ P (synced s)
    settles s (inl is) = inl (ap synced is)
    settles s (inr holds) = inr (sync s refl holds)
IsKept-after_sync b reply.Done sync (Lost less) = Lost less
IsKept-after_sync b reply.Gone sync keeps = keeps

IsKept-after_attach : {pulls k : ℕ} {P : Sector → Type 0} (b : SlotState) (answer : Reply) → IsKept pulls k P b → IsKept pulls k P (after_attach answer b)
IsKept-after_attach b reply.Done (Here same some holds) = Here same some holds
IsKept-after_attach b reply.Done (Lost less) = Lost less
IsKept-after_attach b reply.Gone (Here same some holds) = Here same some holds
IsKept-after_attach b reply.Gone (Lost less) = Lost less

pub IsKept-call : {allowed : ℕ → SlotCall → Type 0} {j k : ℕ} {P : Sector → Type 0} (pulls : ℕ) → SectorKeeps allowed j k P
    → (b : SlotState) (c : SlotCall) → allowed j c → IsKept pulls k P b → IsKept pulls k P (after_call c b)
IsKept-call pulls keeps b (Attach answer) may kept = IsKept-after_attach b answer kept
IsKept-call pulls keeps b (Sectors size) may kept = kept
IsKept-call pulls keeps b (Read l answer) may kept = kept
IsKept-call {allowed} {j} {k} {P} pulls keeps b (Write l bytes answer) may kept =
    IsKept-after_write b l bytes answer
    (λ s at done holds.
    let this : allowed j (Write k bytes answer) = subst (λ i. allowed j (Write i bytes answer)) at may in
    keeps.write bytes s (subst (λ r. allowed j (Write k bytes r)) done this) holds) kept
IsKept-call {allowed} {j} pulls keeps b (Sync answer) may kept =
    IsKept-after_sync b answer (λ s done holds. keeps.sync s (subst (λ r. allowed j (Sync r)) done may) holds) kept

-- what these calls keep of the sector is kept, but for the outside
pub keeps_sector : {allowed : ℕ → SlotCall → Type 0} {j k : ℕ} {P : Sector → Type 0} (pulls : ℕ) → SectorKeeps allowed j k P
    → Keeps allowed (λ h. IsKept pulls k P (slot_state h j))
keeps_sector {allowed} {j} {k} {P} pulls keeps =
    keeps_slot {allowed = allowed} {j = j} {R = IsKept pulls k P} (record {
      act = λ b a may kept. IsKept-act b a may kept;
      call = λ h c may is kept. IsKept-call {allowed = allowed} {j = j} pulls keeps (slot_state h j) c may kept;
    })

-- These calls look, and change no medium.
abbrev pub IsLooking : SlotCall → Type 0
IsLooking (Attach answer) = ⊤
IsLooking (Sectors size) = ⊤
IsLooking (Read k answer) = ⊤
IsLooking (Write k bytes answer) = ⊥
IsLooking (Sync answer) = ⊥

-- whatever P is, they keep it
pub SectorKeeps-looking : {allowed : ℕ → SlotCall → Type 0} (j k : ℕ) (P : Sector → Type 0) → ((c : SlotCall) → allowed j c → IsLooking c)
    → SectorKeeps allowed j k P
SectorKeeps-looking {allowed} j k P looking = record {
  write = λ bytes s may before. absurd (looking (Write k bytes reply.Done) may);
  sync = λ s may before. absurd (looking (Sync reply.Done) may);
}

-- a fact that follows from P is known wherever P is
pub IsKept-mapped : {pulls k : ℕ} {P Q : Sector → Type 0} {b : SlotState} → ((s : Sector) → P s → Q s) → IsKept pulls k P b → IsKept pulls k Q b
IsKept-mapped within (Here same some (inl is)) = Here same some (inl is)
IsKept-mapped within (Here same some (inr holds)) = Here same some (inr (within _ holds))
IsKept-mapped within (Lost less) = Lost less

-- P at a moment, and from then on Q
pub IsKept-onward : {pulls k : ℕ} {P Q R : Sector → Type 0} {mid new : SlotState} → mid.pulls ≤ new.pulls → IsKept pulls k P mid
    → (IsSome mid.size → IsKept mid.pulls k Q new)
    → ((s : Sector) → (mid.sector k ≡ damaged) ⊎ P (mid.sector k) → Q s → (s ≡ damaged) ⊎ R s) → IsKept pulls k R new
IsKept-onward {pulls} {k} {P} {Q} {R} {mid} {new} least (Here same some holds) later step = onward (later some)
  where
    onward : IsKept mid.pulls k Q new → IsKept pulls k R new
    onward (Here same' some' (inl is)) = Here (omega arith) some' (inl is)
    onward (Here same' some' (inr here)) = Here (omega arith) some' (step (new.sector k) holds here)
    onward (Lost less) = Lost (omega arith)
IsKept-onward least (Lost less) later step = Lost (omega arith)

-- what is known since a later moment is known since an earlier one
pub IsKept-since : {pulls k later : ℕ} {P : Sector → Type 0} {b : SlotState} → pulls ≤ later → IsKept later k P b → IsKept pulls k P b
IsKept-since {pulls} {k} {later} {P} {b} least (Here same some holds) =
    elim (cases_lt pulls later) [
      | inl less ↦ Lost (omega (arith, less, same))
      | inr most ↦ Here (omega (arith, least, most, same)) some holds
    ]
IsKept-since least (Lost less) = Lost (omega arith)

-- as it is now
pub IsKept-now : (h : List Happening) (j k : ℕ) → IsSome (slot_state h j).size → ButForOutside h h j k (λ s. s ≡ (slot_state h j).sector k)
IsKept-now h j k some = Here refl some (inr refl)
