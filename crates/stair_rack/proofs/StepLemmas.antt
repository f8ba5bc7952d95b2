-- What acts and allowed calls keep holds throughout a run.
use Rattle.std.proofs.Common.{◌≡◌, ◌≢◌, ℕ, List, [], ◌∷◌, ◌++◌, ◌⊎◌, inl, inr, refl, sym, subst}
use Rattle.std.proofs.lemmas.Bool.{cond-true, cond-false, eq-eqb, ne_eqb, cases_eq}
use Rattle.stair_rack.specs.History.{SlotAct, SlotCall, Happening, Made, Stopped, Acted, Called, SlotState, after_act, after_call, slot_state}
use Rattle.stair_rack.specs.Outside.{MayHappen, IsAct}
use Rattle.stair_rack.specs.Answers.{IsAnswered, IsCall, Runs, Ran}
use Rattle.stair_rack.specs.Moments.{Throughout, AtEveryMoment}

-- Acts and these calls keep P.
pub record Keeps (allowed : ℕ → SlotCall → Type 0) (P : List Happening → Type 0) : Type 0 where
  pub act : (h : List Happening) (e : Happening) → IsAct h e → P h → P (e ∷ h)
  pub call : (h : List Happening) (j : ℕ) (c : SlotCall) → allowed j c → IsAnswered h j c → P h → P (Called j c ∷ h)

-- an event on slot j, and one on another slot
pub slot_after_act : (h : List Happening) (j : ℕ) (a : SlotAct) → slot_state (Acted j a ∷ h) j ≡ after_act a (slot_state h j)
slot_after_act h j a = cond-true _ _ _ (eq-eqb j j refl)

pub slot_after_act_elsewhere : (h : List Happening) (i j : ℕ) (a : SlotAct) → i ≢ j → slot_state (Acted i a ∷ h) j ≡ slot_state h j
slot_after_act_elsewhere h i j a other = cond-false _ _ _ (ne_eqb i j other)

pub slot_after_call : (h : List Happening) (j : ℕ) (c : SlotCall) → slot_state (Called j c ∷ h) j ≡ after_call c (slot_state h j)
slot_after_call h j c = cond-true _ _ _ (eq-eqb j j refl)

pub slot_after_call_elsewhere : (h : List Happening) (i j : ℕ) (c : SlotCall) → i ≢ j → slot_state (Called i c ∷ h) j ≡ slot_state h j
slot_after_call_elsewhere h i j c other = cond-false _ _ _ (ne_eqb i j other)

-- Of one slot: acts on it and these calls of it keep R.
pub record SlotKeeps (allowed : ℕ → SlotCall → Type 0) (j : ℕ) (R : SlotState → Type 0) : Type 0 where
  pub act : (b : SlotState) (a : SlotAct) → MayHappen b a → R b → R (after_act a b)
  pub call : (h : List Happening) (c : SlotCall) → allowed j c → IsAnswered h j c → R (slot_state h j) → R (after_call c (slot_state h j))

pub slot_act_cases : (R : SlotState → Type 0) (h : List Happening) (i j : ℕ) (a : SlotAct) → (i ≡ j → R (after_act a (slot_state h j)))
    → R (slot_state h j) → R (slot_state (Acted i a ∷ h) j)
slot_act_cases R h i j a here before =
    elim (cases_eq i j) [
      | inl same ↦ subst (λ k. R (slot_state (Acted k a ∷ h) j)) (sym same) (subst R (sym (slot_after_act h j a)) (here same))
      | inr other ↦ subst R (sym (slot_after_act_elsewhere h i j a other)) before
    ]

pub slot_call_cases : (R : SlotState → Type 0) (h : List Happening) (i j : ℕ) (c : SlotCall) → (i ≡ j → R (after_call c (slot_state h j)))
    → R (slot_state h j) → R (slot_state (Called i c ∷ h) j)
slot_call_cases R h i j c here before =
    elim (cases_eq i j) [
      | inl same ↦ subst (λ k. R (slot_state (Called k c ∷ h) j)) (sym same) (subst R (sym (slot_after_call h j c)) (here same))
      | inr other ↦ subst R (sym (slot_after_call_elsewhere h i j c other)) before
    ]

keep_act : (allowed : ℕ → SlotCall → Type 0) (j : ℕ) (R : SlotState → Type 0) → SlotKeeps allowed j R
    → (h : List Happening) (e : Happening) → IsAct h e → R (slot_state h j) → R (slot_state (e ∷ h) j)
keep_act allowed j R keeps h (Made image) is before = absurd is
keep_act allowed j R keeps h Stopped is before = before
keep_act allowed j R keeps h (Acted i a) is before =
    slot_act_cases R h i j a (λ same. keeps.act (slot_state h j) a (subst (λ k. MayHappen (slot_state h k) a) same is.1) before) before
keep_act allowed j R keeps h (Called i c) is before = absurd is

keep_call : (allowed : ℕ → SlotCall → Type 0) (j : ℕ) (R : SlotState → Type 0) → SlotKeeps allowed j R
    → (h : List Happening) (i : ℕ) (c : SlotCall) → allowed i c → IsAnswered h i c → R (slot_state h j) → R (slot_state (Called i c ∷ h) j)
keep_call allowed j R keeps h i c may is before =
    slot_call_cases R h i j c
    (λ same. keeps.call h c (subst (λ k. allowed k c) same may) (subst (λ k. IsAnswered h k c) same is) before) before

-- what is kept of one slot is kept
pub keeps_slot : {allowed : ℕ → SlotCall → Type 0} {j : ℕ} {R : SlotState → Type 0} → SlotKeeps allowed j R
    → Keeps allowed (λ h. R (slot_state h j))
keeps_slot {allowed} {j} {R} keeps = record { act = keep_act allowed j R keeps; call = keep_call allowed j R keeps }

pub throughout_end : (P : List Happening → Type 0) (more old : List Happening) → Throughout P more old → P (more ++ old)
throughout_end P [] old each = each
throughout_end P (e ∷ more) old each = each.0

pub throughout_kept : {allowed : ℕ → SlotCall → Type 0} {P : List Happening → Type 0} → Keeps allowed P
    → (more old : List Happening) → Runs allowed more old → P old → Throughout P more old
throughout_kept keeps [] old runs start = start
throughout_kept {allowed} {P} keeps (e ∷ more) old runs start =
    let before = throughout_kept keeps more old runs.0 start in
    let last : P (more ++ old) = throughout_end P more old before in
    (next_kept allowed P keeps (more ++ old) e runs.1 last, before)
  where
    next_kept : (allowed : ℕ → SlotCall → Type 0) (P : List Happening → Type 0) → Keeps allowed P → (h : List Happening) (e : Happening)
        → IsAct h e ⊎ IsCall allowed h e → P h → P (e ∷ h)
    next_kept allowed P keeps h e (inl act) last = keeps.act h e act last
    next_kept allowed P keeps h (Made image) (inr call) last = absurd call
    next_kept allowed P keeps h Stopped (inr call) last = absurd call
    next_kept allowed P keeps h (Acted j a) (inr call) last = absurd call
    next_kept allowed P keeps h (Called j c) (inr call) last = keeps.call h j c call.0 call.1 last

-- THE RULE: what acts and allowed calls keep holds at every moment of a run, and at its end
pub kept_throughout : {allowed : ℕ → SlotCall → Type 0} {P : List Happening → Type 0} {old new : List Happening} → Keeps allowed P
    → Ran allowed old new → P old → AtEveryMoment P old new
kept_throughout {old = old} keeps ran start = record { more = ran.more; is = ran.is; each = throughout_kept keeps ran.more old ran.runs start }

pub kept : {allowed : ℕ → SlotCall → Type 0} {P : List Happening → Type 0} {old new : List Happening} → Keeps allowed P
    → Ran allowed old new → P old → P new
kept {P = P} {old = old} keeps ran start =
    subst P (sym ran.is) (throughout_end P ran.more old (throughout_kept keeps ran.more old ran.runs start))
