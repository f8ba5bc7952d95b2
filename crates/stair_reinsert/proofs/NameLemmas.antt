-- Media keep their names: no two of a slot have one, and a slot that wasn't pulled has the medium that it had.
use Rattle.std.proofs.Common.{◌≡◌, ℕ, ◌≤◌, List, [], ◌∷◌, inl, inr, refl, sym, ◌∙◌, subst, arith, true, slice_get}
use Rattle.std.specs.Prelude.{Option, None, Some, IsSome, ◌==◌, length}
use Rattle.std.proofs.lemmas.Bool.{cases_eq, cases_lt, cond-true, cond-false, eq-eqb, ne_eqb, false≢true}
use Rattle.stair_rack.specs.Answers.{IsAnswered, IsBesideAttach, IsHistory, IsNoAttach, Ran}
use Rattle.stair_rack.specs.History.{Happening, Made, Stopped, Acted, Called, Pulled, InsertedBlank, InsertedOld, SectorDamaged, SlotAct, SlotCall, Attach, Sectors, Read, Write, Sync, SlotState, after_act, after_call, slot_state, with_old}
use Rattle.stair_rack.specs.Media.{Medium}
use Rattle.stair_rack.specs.Offline.{IsAttached, WasPulled}
use Rattle.stair_rack.specs.Outside.{IsAct, MayHappen}
use Rattle.stair_rack.specs.declared.rack.Reply.TheVariants as reply
use Rattle.stair_rack.proofs.KeptLemmas.{not_none}
use Rattle.stair_rack.proofs.OfflineLemmas.{pulls_on}
use Rattle.stair_rack.proofs.StepLemmas.{Keeps, kept, keeps_slot}
use Rattle.stair_rack.proofs.TidyLemmas.{history_tidy}
use Rattle.stair_state.specs.Reassembly.{InSlot, Location, Outside}
use Rattle.stair_state.proofs.ReturnLemmas.{pulled_apart, returned_apart}
use Rattle.stair_reinsert.specs.Following.{before_act, name_of}

-- WHERE A MEDIUM LAY BEFORE AN ACT

pub not_outside : {i : ℕ} → Outside i ≡ InSlot → ⊥
not_outside same = cc

act_apart : (a : SlotAct) (b : SlotState) (p q : Location) → before_act a b p ≡ before_act a b q → p ≡ q
act_apart (Pulled m) b p q same =
    pulled_apart (length b.removed) p q same
act_apart (InsertedBlank size) b p q same = same
act_apart (InsertedOld i) b p q same = returned_apart i p q same
act_apart (SectorDamaged k) b p q same = same

-- NAMES

pub name_apart : (h : List Happening) (j : ℕ) (p q : Location) → name_of h j p ≡ name_of h j q → p ≡ q
name_apart [] j p q same = same
name_apart (Made image ∷ h) j p q same = same
name_apart (Stopped ∷ h) j p q same = name_apart h j p q same
name_apart (Called i c ∷ h) j p q same = name_apart h j p q same
name_apart (Acted i a ∷ h) j p q same =
    elim (cases_eq i j) [
      | inl here ↦
          act_apart a (slot_state h j) p q
          (name_apart h j (before_act a (slot_state h j) p) (before_act a (slot_state h j) q)
          (sym (cond-true _ _ _ (eq-eqb i j here)) ∙ same ∙ cond-true _ _ _ (eq-eqb i j here)))
      | inr other ↦ name_apart h j p q (sym (cond-false _ _ _ (ne_eqb i j other)) ∙ same ∙ cond-false _ _ _ (ne_eqb i j other))
    ]

-- how a slot stands, and the names of its media
pub named_act_cases : (R : SlotState → (Location → Location) → Type 0) (h : List Happening) (i j : ℕ) (a : SlotAct)
    → (i ≡ j → R (after_act a (slot_state h j)) (λ p. name_of h j (before_act a (slot_state h j) p))) → R (slot_state h j) (name_of h j)
    → R (slot_state (Acted i a ∷ h) j) (name_of (Acted i a ∷ h) j)
named_act_cases R h i j a here there =
    elim (cases_eq i j) [
      | inl same ↦
          let state : slot_state (Acted i a ∷ h) j ≡ after_act a (slot_state h j) = cond-true _ _ _ (eq-eqb i j same) in
          let names : name_of (Acted i a ∷ h) j ≡ (λ p. name_of h j (before_act a (slot_state h j) p)) =
          λ k p. cond-true (i == j) (name_of h j (before_act a (slot_state h j) p)) (name_of h j p) (eq-eqb i j same) k in
          subst (λ b. R b (name_of (Acted i a ∷ h) j)) (sym state) (subst (R (after_act a (slot_state h j))) (sym names) (here same))
      | inr other ↦
          let state : slot_state (Acted i a ∷ h) j ≡ slot_state h j = cond-false _ _ _ (ne_eqb i j other) in
          let names : name_of (Acted i a ∷ h) j ≡ name_of h j =
          λ k p. cond-false (i == j) (name_of h j (before_act a (slot_state h j) p)) (name_of h j p) (ne_eqb i j other) k in
          subst (λ b. R b (name_of (Acted i a ∷ h) j)) (sym state) (subst (R (slot_state h j)) (sym names) there)
    ]

pub named_call_cases : (R : SlotState → (Location → Location) → Type 0) (h : List Happening) (i j : ℕ) (c : SlotCall)
    → (i ≡ j → R (after_call c (slot_state h j)) (name_of h j)) → R (slot_state h j) (name_of h j)
    → R (slot_state (Called i c ∷ h) j) (name_of (Called i c ∷ h) j)
named_call_cases R h i j c here there =
    elim (cases_eq i j) [
      | inl same ↦
          let state : slot_state (Called i c ∷ h) j ≡ after_call c (slot_state h j) = cond-true _ _ _ (eq-eqb i j same) in
          subst (λ b. R b (name_of h j)) (sym state) (here same)
      | inr other ↦
          let state : slot_state (Called i c ∷ h) j ≡ slot_state h j = cond-false _ _ _ (ne_eqb i j other) in
          subst (λ b. R b (name_of h j)) (sym state) there
    ]

pub old_attached : (i : ℕ) (o : Option Medium) (b : SlotState) → (with_old i o b).attached ≡ b.attached
old_attached i None b = refl
old_attached i (Some m) b = refl

pub old_pulls : (i : ℕ) (o : Option Medium) (b : SlotState) → (with_old i o b).pulls ≡ b.pulls
old_pulls i None b = refl
old_pulls i (Some m) b = refl

pub call_pulls : (c : SlotCall) (b : SlotState) → (after_call c b).pulls ≡ b.pulls
call_pulls (Attach reply.Done) b = refl
call_pulls (Attach reply.Gone) b = refl
call_pulls (Sectors size) b = refl
call_pulls (Read k answer) b = refl
call_pulls (Write k bytes reply.Done) b = refl
call_pulls (Write k bytes reply.Gone) b = refl
call_pulls (Sync reply.Done) b = refl
call_pulls (Sync reply.Gone) b = refl

pub call_size : (c : SlotCall) (b : SlotState) → (after_call c b).size ≡ b.size
call_size (Attach reply.Done) b = refl
call_size (Attach reply.Gone) b = refl
call_size (Sectors size) b = refl
call_size (Read k answer) b = refl
call_size (Write k bytes reply.Done) b = refl
call_size (Write k bytes reply.Gone) b = refl
call_size (Sync reply.Done) b = refl
call_size (Sync reply.Gone) b = refl

-- A SLOT THAT WASN'T PULLED

-- the slot holds the medium of this name until it is pulled
record IsOwn (pulls : ℕ) (name : Location) (b : SlotState) (names : Location → Location) : Type 0 where
  least : pulls ≤ b.pulls
  own : b.pulls ≡ pulls → IsSome b.size × (names InSlot ≡ name)

own_act : (pulls : ℕ) (name : Location) (b : SlotState) (names : Location → Location) (a : SlotAct) → MayHappen b a → IsOwn pulls name b names
    → IsOwn pulls name (after_act a b) (λ p. names (before_act a b p))
own_act pulls name b names (Pulled m) may is =
    record { least = omega (arith, is.least); own = λ same. absurd (omega (arith, same, is.least)) }
own_act pulls name b names (InsertedBlank size) may is =
    record { least = is.least; own = λ same. absurd (not_none b.size may (is.own same).0) }
own_act pulls name b names (InsertedOld i) may is = record {
  least = subst (λ (n : ℕ). pulls ≤ n) (sym (old_pulls i (slice_get b.removed i) b)) is.least;
  own = λ same. absurd (not_none b.size may.0 (is.own (sym (old_pulls i (slice_get b.removed i) b) ∙ same)).0);
}
own_act pulls name b names (SectorDamaged k) may is = record { least = is.least; own = is.own }

own_call : (pulls : ℕ) (name : Location) (b : SlotState) (names : Location → Location) (c : SlotCall) → IsOwn pulls name b names
    → IsOwn pulls name (after_call c b) names
own_call pulls name b names c is = record {
  least = subst (λ (n : ℕ). pulls ≤ n) (sym (call_pulls c b)) is.least;
  own = λ same.
      let before = is.own (sym (call_pulls c b) ∙ same) in (subst (λ (o : Option ℕ). IsSome o) (sym (call_size c b)) before.0, before.1);
}

own_keeps : {allowed : ℕ → SlotCall → Type 0} (j pulls : ℕ) (name : Location) → Keeps allowed (λ h. IsOwn pulls name (slot_state h j) (name_of h j))
own_keeps {allowed} j pulls name = record { act = on_act; call = on_call }
  where
    on_act : (h : List Happening) (e : Happening) → IsAct h e → IsOwn pulls name (slot_state h j) (name_of h j)
        → IsOwn pulls name (slot_state (e ∷ h) j) (name_of (e ∷ h) j)
    on_act h (Made image) act is = absurd act
    on_act h Stopped act is = is
    on_act h (Acted i a) act is =
        named_act_cases (IsOwn pulls name) h i j a
        (λ same. own_act pulls name (slot_state h j) (name_of h j) a (subst (λ n. MayHappen (slot_state h n) a) same act.1) is) is
    on_act h (Called i c) act is = absurd act

    on_call : (h : List Happening) (i : ℕ) (c : SlotCall) → allowed i c → IsAnswered h i c → IsOwn pulls name (slot_state h j) (name_of h j)
        → IsOwn pulls name (slot_state (Called i c ∷ h) j) (name_of (Called i c ∷ h) j)
    on_call h i c may answered is =
        named_call_cases (IsOwn pulls name) h i j c (λ same. own_call pulls name (slot_state h j) (name_of h j) c is) is

-- not pulled, it was pulled as often as before
pub same_pulls : {allowed : ℕ → SlotCall → Type 0} {old new : List Happening} (j : ℕ) → Ran allowed old new → ¬ WasPulled old new j
    → (slot_state new j).pulls ≡ (slot_state old j).pulls
same_pulls {allowed} {old} {new} j ran not =
    let least = pulls_on {allowed = allowed} j ran in
    elim (cases_lt (slot_state old j).pulls (slot_state new j).pulls) [
      | inl pulled ↦ absurd (not pulled)
      | inr most ↦ omega (arith, least, most)
    ]

pub unpulled_name : {allowed : ℕ → SlotCall → Type 0} {old new : List Happening} (j : ℕ) → Ran allowed old new → IsSome (slot_state old j).size
    → ¬ WasPulled old new j → name_of new j InSlot ≡ name_of old j InSlot
unpulled_name {allowed} {old} {new} j ran some not =
    let pulls : ℕ = (slot_state old j).pulls in
    let name : Location = name_of old j InSlot in
    ((kept {allowed = allowed} {P = λ h. IsOwn pulls name (slot_state h j) (name_of h j)} (own_keeps {allowed = allowed} j pulls name) ran
    (record { least = omega arith; own = λ same. (some, refl) })).own (same_pulls j ran not)).1

-- A SLOT THAT IS ATTACHED STILL

-- it was attached at first, and not pulled since
abbrev IsStillAttached : SlotState → SlotState → Type 0
IsStillAttached first b = b.attached ≡ true → (first.attached ≡ true) × (b.pulls ≡ first.pulls)

attached_act : (first b : SlotState) (a : SlotAct) → IsStillAttached first b → IsStillAttached first (after_act a b)
attached_act first b (Pulled m) is on = absurd (false≢true on)
attached_act first b (InsertedBlank size) is on = is on
attached_act first b (InsertedOld i) is on =
    let before = is (sym (old_attached i (slice_get b.removed i) b) ∙ on) in (before.0, old_pulls i (slice_get b.removed i) b ∙ before.1)
attached_act first b (SectorDamaged l) is on = is on

attached_call : (first b : SlotState) (c : SlotCall) → IsBesideAttach c → IsStillAttached first b → IsStillAttached first (after_call c b)
attached_call first b (Attach answer) may is on = absurd may
attached_call first b (Sectors size) may is on = is on
attached_call first b (Read k answer) may is on = is on
attached_call first b (Write k bytes reply.Done) may is on = is on
attached_call first b (Write k bytes reply.Gone) may is on = is on
attached_call first b (Sync reply.Done) may is on = is on
attached_call first b (Sync reply.Gone) may is on = is on

pub still_attached : {old new : List Happening} (j : ℕ) → Ran (IsNoAttach j) old new → IsAttached new j
    → IsAttached old j × ((slot_state new j).pulls ≡ (slot_state old j).pulls)
still_attached {old} {new} j ran on =
    kept {allowed = IsNoAttach j} {P = λ h. IsStillAttached (slot_state old j) (slot_state h j)}
    (keeps_slot {allowed = IsNoAttach j} {j = j} {R = IsStillAttached (slot_state old j)} (record {
      act = λ b a may is. attached_act (slot_state old j) b a is;
      call = λ h c may answered is. attached_call (slot_state old j) (slot_state h j) c (may refl) is;
    })) ran (λ at. (at, refl)) on

pub attached_unpulled : {old new : List Happening} (j : ℕ) → Ran (IsNoAttach j) old new → IsAttached new j → ¬ WasPulled old new j
attached_unpulled j ran on pulled = let same = (still_attached j ran on).1 in omega (arith, same, pulled)

-- so it has the medium that it had
pub attached_name : {old new : List Happening} (j : ℕ) → IsHistory old → Ran (IsNoAttach j) old new → IsAttached new j
    → name_of new j InSlot ≡ name_of old j InSlot
attached_name {old} {new} j history ran on =
    unpulled_name {allowed = IsNoAttach j} j ran ((history_tidy history).attached j (still_attached j ran on).0) (attached_unpulled j ran on)
