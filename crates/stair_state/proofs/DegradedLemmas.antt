-- Degraded images: of each other, and what they keep.
use Rattle.std.proofs.Common.{◌≡◌, ℕ, ◌≤◌, ◌⊎◌, inl, inr, sym, refl, ap, ◌∙◌, subst, arith}
use Rattle.std.proofs.lemmas.Bool.{cases_lt}
use Rattle.std.specs.Prelude.{false}
use Rattle.stair_model.specs.Geometry.{Geometry}
use Rattle.stair_rack.specs.Media.{Image, SlotImage, has_sector}
use Rattle.stair_rack.specs.Sector.{Cell, Damaged}
use Rattle.stair_super.specs.Superblock.{Superblock}
use Rattle.stair_member.specs.Current.{IsLost}
use Rattle.stair_member.specs.Reserve.{Bears, HasReached, HasReserved, HidesNoOther, IsOrderly}
use Rattle.stair_member.specs.Superblocks.{Counts, HoldsSuper, IsSuperOf}
use Rattle.stair_member.proofs.CountingLemmas.{all_but_mapped}
use Rattle.stair_member.proofs.SuperLemmas.{hidden_same, holds_once, super_at, super_cells}
use Rattle.stair_state.specs.Degraded.{AreAllDamaged, AreDamagedCopies, IsDegraded, IsDegradedSlot, Taken, Blank, Stays}
use Rattle.stair_state.proofs.FormLemmas.{good_before, good_kept, same_kept}

-- copies of copies, of which some more may be damaged
pub copies_again : {a b c : ℕ → Cell} → AreDamagedCopies a b → AreDamagedCopies b c → AreDamagedCopies a c
copies_again first second k =
    elim (second k) [
      | inl same ↦ elim (first k) [ inl before ↦ inl (same ∙ before) | inr harmed ↦ inr (same ∙ harmed) ]
      | inr harmed ↦ inr harmed
    ]

-- of cells that are all damaged
pub copies_damaged : {a b : ℕ → Cell} → AreAllDamaged a → AreDamagedCopies a b → AreAllDamaged b
copies_damaged all copies k = elim (copies k) [ inl same ↦ same ∙ all k | inr harmed ↦ harmed ]

pub slot_again : {a b c : SlotImage} → IsDegradedSlot a b → IsDegradedSlot b c → IsDegradedSlot a c
slot_again first (Taken none all) = Taken none all
slot_again first (Blank size is all) = Blank size is all
slot_again (Taken none all) (Stays same copies) = Taken (same ∙ none) (copies_damaged all copies)
slot_again (Blank size is all) (Stays same copies) = Blank size (same ∙ is) (copies_damaged all copies)
slot_again (Stays same copies) (Stays same' copies') = Stays (same' ∙ same) (copies_again copies copies')

pub again : (a b c : Image) → IsDegraded a b → IsDegraded b c → IsDegraded a c
again a b c first second j = slot_again (first j) (second j)

pub degraded_same : (image : Image) → IsDegraded image image
degraded_same image j = Stays refl (λ k. inl refl)

-- CELLS

-- in each case the cells are those before, of which some may be damaged
pub degraded_copies : {more less : SlotImage} → IsDegradedSlot more less → AreDamagedCopies more.cell less.cell
degraded_copies (Taken none all) k = inr (all k)
degraded_copies (Blank size is all) k = inr (all k)
degraded_copies (Stays same copies) k = copies k

-- nothing can be read past the end of what is degraded from media of which nothing can
pub degraded_past_end : {more less : SlotImage} → IsDegradedSlot more less → ((k : ℕ) → has_sector more.size k ≡ false → more.cell k ≡ Damaged)
    → (k : ℕ) → has_sector less.size k ≡ false → less.cell k ≡ Damaged
degraded_past_end (Taken none all) tidy k past = all k
degraded_past_end (Blank size is all) tidy k past = all k
degraded_past_end (Stays same copies) tidy k past =
    elim (copies k) [
      | inl is ↦ is ∙ tidy k (sym (ap (λ size. has_sector size k) same) ∙ past)
      | inr harmed ↦ harmed
    ]

-- SUPERBLOCKS

-- a superblock that a cell holds was there before
pub holds_before : {was is : Cell} {s : Superblock} → (is ≡ was) ⊎ (is ≡ Damaged) → HoldsSuper is s → HoldsSuper was s
holds_before still holds = record { bytes = holds.bytes; good = good_before still holds.good; spells = holds.spells }

-- so one that a medium bears was borne before
pub bears_before : {g : Geometry} {j : ℕ} {was is : ℕ → Cell} {s : Superblock} → AreDamagedCopies was is → Bears g j is s → Bears g j was s
bears_before copies bears = record {
  place = bears.place;
  place_in = bears.place_in;
  holds = holds_before (copies bears.place) bears.holds;
  slot = bears.slot;
  identity = bears.identity;
}

-- where neither place is lost it counted before
pub counts_before : {g : Geometry} {more less : Image} {j : ℕ} {s : Superblock} → AreDamagedCopies (more j).cell (less j).cell
    → ¬ IsLost ((less j).cell 0) → ¬ IsLost ((less j).cell 1) → Counts g less j s → Counts g more j s
counts_before {more = more} {less = less} {j = j} {s = s} copies first second counts = record {
  super =
      super_cells ((less j).cell) ((more j).cell) s (same_kept (copies 0) first) (same_kept (copies 1) second) counts.super;
  slot = counts.slot;
  identity = counts.identity;
}

-- the superblocks of an image are in order where its cells are those of such an image, of which some may be damaged
module _ (g : Geometry) (more less : Image) (copies : (j : ℕ) → AreDamagedCopies (more j).cell (less j).cell)
    (orderly : IsOrderly g more) where
  lost_before : (j k : ℕ) → ¬ IsLost ((less j).cell k) → ¬ IsLost ((more j).cell k)
  lost_before j k kept lost = kept (subst IsLost (sym (same_kept (copies j k) kept)) lost)

  reserved_before : (j : ℕ) → HasReserved g more j → HasReserved g less j
  reserved_before j reserved s counts first second i t bears =
      reserved s (counts_before {more = more} {less = less} (copies j) first second counts)
      (lost_before j 0 first) (lost_before j 1 second) i t (bears_before (copies i) bears)

  reached_before : (epoch j : ℕ) → HasReached g more epoch j → HasReached g less epoch j
  reached_before epoch j reached s counts first second =
      reached s (counts_before {more = more} {less = less} (copies j) first second counts)
      (lost_before j 0 first) (lost_before j 1 second)

  -- what is newest is the superblock itself; or both places hold superblocks, and the medium has the newest that it had
  super_before : (j : ℕ) (s newest : Superblock) → Bears g j ((less j).cell) s → IsSuperOf ((less j).cell) newest
      → (newest ≡ s) ⊎ IsSuperOf ((more j).cell) newest
  super_before j s newest bears super =
      elim (cases_lt bears.place 1) [
        | inl below ↦
            let here : HoldsSuper ((less j).cell 0) s = subst (λ (k : ℕ). HoldsSuper ((less j).cell k) s) (omega arith) bears.holds in
            elim (super_at super) [
              | inl at ↦ inl (holds_once ((less j).cell 0) newest s at here)
              | inr at ↦ inr (both s newest here at)
            ]
        | inr above ↦
            let here : HoldsSuper ((less j).cell 1) s =
            subst (λ (k : ℕ). HoldsSuper ((less j).cell k) s) (omega (arith, bears.place_in)) bears.holds in
            elim (super_at super) [
              | inl at ↦ inr (both newest s at here)
              | inr at ↦ inl (holds_once ((less j).cell 1) newest s at here)
            ]
      ]
    where
      both : (first second : Superblock) → HoldsSuper ((less j).cell 0) first → HoldsSuper ((less j).cell 1) second → IsSuperOf ((more j).cell) newest
      both first second in_first in_second =
          super_cells ((less j).cell) ((more j).cell) newest (same_kept (copies j 0) (good_kept in_first.good))
          (same_kept (copies j 1) (good_kept in_second.good)) super

  hidden_before : (j : ℕ) (s newest : Superblock) → Bears g j ((less j).cell) s → IsSuperOf ((less j).cell) newest
      → Counts g less j newest × (s.array.epoch ≤ newest.array.epoch)
  hidden_before j s newest bears super =
      elim (super_before j s newest bears super) [
        | inl same ↦ hidden_same g less j s newest bears super same
        | inr was ↦
            let before = orderly.hidden j s newest (bears_before (copies j) bears) was in
            (record { super = super; slot = before.0.slot; identity = before.0.identity }, before.1)
      ]

  hides_before : HidesNoOther g less
  hides_before j s newest bears super live =
      elim (super_before j s newest bears super) [
        | inl same ↦ sym (ap (λ (t : Superblock). t.joined) same)
        | inr was ↦ orderly.hides j s newest (bears_before (copies j) bears) was live
      ]

  pub orderly_copies : IsOrderly g less
  orderly_copies = record {
    reserved = all_but_mapped {P = HasReserved g more} {Q = HasReserved g less} (λ j below reserved. reserved_before j reserved) orderly.reserved;
    one_list = λ i j a b first second.
        orderly.one_list i j a b (bears_before (copies i) first) (bears_before (copies j) second);
    hidden = hidden_before;
    hides = hides_before;
    reached = λ i j a b first second earlier.
        all_but_mapped {P = HasReached g more a.array.epoch} {Q = HasReached g less a.array.epoch}
        (λ k below reached. reached_before a.array.epoch k reached)
        (orderly.reached i j a b (bears_before (copies i) first) (bears_before (copies j) second) earlier);
    joined = λ i k j a b first second upto here there.
        orderly.joined i k j a b (bears_before (copies i) first) (bears_before (copies k) second) upto here there;
  }

-- the superblocks of a degraded image are in order
pub orderly_before : (g : Geometry) (more less : Image) → IsDegraded more less → IsOrderly g more → IsOrderly g less
orderly_before g more less degraded orderly = orderly_copies g more less (λ j. degraded_copies (degraded j)) orderly
