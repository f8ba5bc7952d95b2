-- A slot that isn't attached anew: its medium, or whatever was put in once that was pulled.
use Rattle.std.proofs.Common.{◌≡◌, ℕ, ◌<◌, false, List, [], ◌∷◌, inl, inr, refl, sym, ap, ◌∙◌, subst, Option, None, Some, slice_get, true≢false}
use Rattle.std.specs.Prelude.{not, ◌&&◌, ⊤}
use Rattle.std.proofs.lemmas.Bool.{cases_Bool, cond-true, cond-false}
use Rattle.stair_model.specs.Geometry.{Geometry}
use Rattle.stair_rack.specs.Answers.{IsAnswered, IsBesideAttach, IsNoAttach, Ran}
use Rattle.stair_rack.specs.History.{SlotAct, Pulled, InsertedBlank, InsertedOld, SectorDamaged, SlotCall, Attach, Sectors, Read, Write, Sync, Happening, Made, Stopped, Acted, Called, SlotState, with_old, after_act, after_call, slot_state, stopped}
use Rattle.stair_rack.specs.Media.{Medium, has_sector, sectors_of}
use Rattle.stair_rack.specs.Outside.{IsAct}
use Rattle.stair_rack.specs.Sector.{Cell, Good, Damaged, Sector, settled, damaged, content}
use Rattle.stair_rack.specs.Stretch.{EachHappening}
use Rattle.stair_rack.specs.declared.rack.Reply.TheVariants as reply
use Rattle.stair_rack.proofs.StepLemmas.{slot_act_cases, slot_call_cases}
use Rattle.stair_rack.proofs.MomentLemmas.{at_last}
use Rattle.stair_rack.proofs.KeptLemmas.{with_sector_cases}
use Rattle.stair_rack.proofs.OfflineLemmas.{and-true_left, reply_if-Done}
use Rattle.stair_rack.proofs.StretchLemmas.{KeepsWhere, each_mapped, each_of_ran, kept_where}
use Rattle.stair_super.specs.Superblock.{Superblock}
use Rattle.stair_member.specs.Reserve.{Bears}
use Rattle.stair_member.specs.Superblocks.{HoldsSuper}
use Rattle.stair_array.specs.Created.{NoneComesBack, ReturnsNoneOf}

-- The slot has the medium that it had after so many pulls; or it isn't attached, nothing in it is unsynced, and each of its
-- cells has P.
pub data IsSameOrOther (P : ℕ → Cell → Type 0) (pulls : ℕ) (b : SlotState) : Type 0 where
  SameMedium : b.pulls ≡ pulls → IsSameOrOther P pulls b
  OtherMedium : b.attached ≡ false → ((k : ℕ) → (b.sector k).since ≡ []) → ((k : ℕ) → P k (content (b.sector k)))
      → IsSameOrOther P pulls b

-- of media that come back to the slot each cell has P
abbrev pub ReturnsOnly : (ℕ → Cell → Type 0) → ℕ → List Happening → Happening → Type 0
ReturnsOnly P j h (Made image) = ⊤
ReturnsOnly P j h Stopped = ⊤
ReturnsOnly P j h (Acted i (Pulled m)) = ⊤
ReturnsOnly P j h (Acted i (InsertedBlank size)) = ⊤
ReturnsOnly P j h (Acted i (InsertedOld l)) =
    i ≡ j → (medium : Medium) → slice_get (slot_state h j).removed l ≡ Some medium → (k : ℕ) → P k (medium.cell k)
ReturnsOnly P j h (Acted i (SectorDamaged k)) = ⊤
ReturnsOnly P j h (Called i call) = ⊤

module _ (P : ℕ → Cell → Type 0) (lost : (k : ℕ) → P k Damaged) (pulls j : ℕ) where
  -- a medium of these cells
  settled_since : (size : Option ℕ) (cell : ℕ → Cell) (k : ℕ) → (sectors_of size cell k).since ≡ []
  settled_since size cell k =
      elim (cases_Bool (has_sector size k)) [
        | inl has ↦ ap (λ (s : Sector). s.since) (cond-true _ (settled (cell k)) damaged has)
        | inr past ↦ ap (λ (s : Sector). s.since) (cond-false _ (settled (cell k)) damaged past)
      ]

  settled_has : (size : Option ℕ) (cell : ℕ → Cell) → ((k : ℕ) → P k (cell k)) → (k : ℕ) → P k (content (sectors_of size cell k))
  settled_has size cell each k =
      elim (cases_Bool (has_sector size k)) [
        | inl has ↦ subst (λ s. P k (content s)) (sym (cond-true _ (settled (cell k)) damaged has)) (each k)
        | inr past ↦ subst (λ s. P k (content s)) (sym (cond-false _ (settled (cell k)) damaged past)) (lost k)
      ]

  put_back : (b : SlotState) (o : Option Medium) → ((medium : Medium) → o ≡ Some medium → (k : ℕ) → P k (medium.cell k)) → (i : ℕ)
      → IsSameOrOther P pulls b → IsSameOrOther P pulls (with_old i o b)
  put_back b None each i before = before
  put_back b (Some m) each i (SameMedium is) = SameMedium is
  put_back b (Some m) each i (OtherMedium off synced has) =
      OtherMedium off (settled_since (Some m.size) m.cell) (settled_has (Some m.size) m.cell (each m refl))

  on_act : (h : List Happening) (a : SlotAct) → ReturnsOnly P j h (Acted j a) → IsSameOrOther P pulls (slot_state h j)
      → IsSameOrOther P pulls (after_act a (slot_state h j))
  on_act h (Pulled m) returns before = OtherMedium refl (λ k. refl) lost
  on_act h (InsertedBlank size) returns (SameMedium is) = SameMedium is
  on_act h (InsertedBlank size) returns (OtherMedium off synced has) = OtherMedium off (λ k. refl) lost
  on_act h (InsertedOld i) returns before =
      put_back (slot_state h j) (slice_get (slot_state h j).removed i) (λ m is. returns refl m is) i before
  on_act h (SectorDamaged l) returns (SameMedium is) = SameMedium is
  on_act h (SectorDamaged l) returns (OtherMedium off synced has) =
      OtherMedium off
      (λ k. with_sector_cases (λ s. s.since ≡ []) l k damaged (slot_state h j) (λ at. refl) (synced k))
      (λ k. with_sector_cases (λ s. P k (content s)) l k damaged (slot_state h j) (λ at. lost k) (has k))

  on_call : (h : List Happening) (c : SlotCall) → IsBesideAttach c → IsAnswered h j c → IsSameOrOther P pulls (slot_state h j)
      → IsSameOrOther P pulls (after_call c (slot_state h j))
  on_call h (Attach answer) beside is before = absurd beside
  on_call h (Sectors size) beside is before = before
  on_call h (Read k answer) beside is before = before
  on_call h (Write k bytes reply.Done) beside is (SameMedium same) = SameMedium same
  on_call h (Write k bytes reply.Done) beside is (OtherMedium off synced has) =
      let ready =
      and-true_left ((slot_state h j).attached && not (stopped h)) (has_sector (slot_state h j).size k) (reply_if-Done _ is) in
      let used = and-true_left (slot_state h j).attached (not (stopped h)) ready in
      absurd (true≢false (sym used ∙ off))
  on_call h (Write k bytes reply.Gone) beside is before = before
  on_call h (Sync reply.Done) beside is (SameMedium same) = SameMedium same
  on_call h (Sync reply.Done) beside is (OtherMedium off synced has) = OtherMedium off (λ k. refl) has
  on_call h (Sync reply.Gone) beside is before = before

  keeps : KeepsWhere (ReturnsOnly P j) (IsNoAttach j) (λ h. IsSameOrOther P pulls (slot_state h j))
  keeps = record { act = act; call = call }
    where
      act : (h : List Happening) (e : Happening) → IsAct h e → ReturnsOnly P j h e → IsSameOrOther P pulls (slot_state h j)
          → IsSameOrOther P pulls (slot_state (e ∷ h) j)
      act h (Made image) may returns before = absurd may
      act h Stopped may returns before = before
      act h (Acted i a) may returns before =
          slot_act_cases (IsSameOrOther P pulls) h i j a (λ same. on_act h a (subst (λ n. ReturnsOnly P j h (Acted n a)) same returns) before) before
      act h (Called i c) may returns before = absurd may

      call : (h : List Happening) (i : ℕ) (c : SlotCall) → IsNoAttach j i c → IsAnswered h i c → ReturnsOnly P j h (Called i c)
          → IsSameOrOther P pulls (slot_state h j) → IsSameOrOther P pulls (slot_state (Called i c ∷ h) j)
      call h i c beside answered returns before =
          slot_call_cases (IsSameOrOther P pulls) h i j c (λ same. on_call h c (beside same) (subst (λ n. IsAnswered h n c) same answered) before) before

  pub same_or_other : {old new : List Happening} → Ran (IsNoAttach j) old new → EachHappening (ReturnsOnly P j) old new
      → (slot_state old j).pulls ≡ pulls → IsSameOrOther P pulls (slot_state new j)
  same_or_other {old} {new} ran returns is =
      at_last {P = λ h. IsSameOrOther P pulls (slot_state h j)}
      (kept_where {P = ReturnsOnly P j} {allowed = IsNoAttach j} {R = λ h. IsSameOrOther P pulls (slot_state h j)} keeps ran returns (SameMedium is))

-- WHICH MEDIA COME BACK

-- whatever they are
abbrev pub any_cell : ℕ → Cell → Type 0
any_cell k cell = ⊤

pub returns_any : {allowed : ℕ → SlotCall → Type 0} {old new : List Happening} (j : ℕ) → Ran allowed old new → EachHappening (ReturnsOnly any_cell j) old new
returns_any {allowed} j ran = each_of_ran {allowed = allowed} {P = ReturnsOnly any_cell j} act (λ h i c may. tt) ran
  where
    act : (h : List Happening) (e : Happening) → IsAct h e → ReturnsOnly any_cell j h e
    act h (Made image) may = tt
    act h Stopped may = tt
    act h (Acted i (Pulled m)) may = tt
    act h (Acted i (InsertedBlank size)) may = tt
    act h (Acted i (InsertedOld l)) may = λ same medium is k. tt
    act h (Acted i (SectorDamaged k)) may = tt
    act h (Called i c) may = tt

-- a cell in a superblock place that bears none of the array for slot j
abbrev pub BearsNot : Geometry → ℕ → ℕ → Cell → Type 0
BearsNot g j k cell = k < 2 → (s : Superblock) → s.slot ≡ j → s.array.geometry ≡ g → ¬ HoldsSuper cell s

pub bears_not : (g : Geometry) (j : ℕ) (cell : ℕ → Cell) → ((s : Superblock) → ¬ Bears g j cell s) → (k : ℕ) → BearsNot g j k (cell k)
bears_not g j cell none k place s slot identity holds =
    none s (record { place = k; place_in = place; holds = holds; slot = slot; identity = identity })

pub bears_none : (g : Geometry) (j : ℕ) (cell : ℕ → Cell) → ((k : ℕ) → BearsNot g j k (cell k)) → (s : Superblock) → ¬ Bears g j cell s
bears_none g j cell each s bears = each bears.place bears.place_in s bears.slot bears.identity bears.holds

pub lost_bears_not : (g : Geometry) (j k : ℕ) → BearsNot g j k Damaged
lost_bears_not g j k place s slot identity holds = let never : Damaged ≡ Good holds.bytes = holds.good in absurd (cc)

pub returns_none : (g : Geometry) (j : ℕ) {old new : List Happening} → NoneComesBack g old new → EachHappening (ReturnsOnly (BearsNot g j) j) old new
returns_none g j none = each_mapped {P = ReturnsNoneOf g} {Q = ReturnsOnly (BearsNot g j) j} one none
  where
    one : (h : List Happening) (e : Happening) → ReturnsNoneOf g h e → ReturnsOnly (BearsNot g j) j h e
    one h (Made image) is = tt
    one h Stopped is = tt
    one h (Acted i (Pulled m)) is = tt
    one h (Acted i (InsertedBlank size)) is = tt
    one h (Acted i (InsertedOld l)) is = λ same medium at.
        bears_not g j medium.cell
        (λ s.
        subst (λ n. (m : Medium) (t : Superblock) → slice_get (slot_state h n).removed l ≡ Some m → ¬ Bears g n m.cell t) same is medium s at)
    one h (Acted i (SectorDamaged k)) is = tt
    one h (Called i c) is = tt
