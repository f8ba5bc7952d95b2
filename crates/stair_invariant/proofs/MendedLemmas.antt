-- An image in whose superblock places writes were cut, and the one in which they weren't begun: the places of some slots as
-- they were, and of the others without what was cut.
use Rattle.std.proofs.Common.{◌≡◌, ℕ, Bool, true, false, ◌<◌, ◌≤◌, List, ◌⊎◌, inl, inr, refl, sym, ap, ◌∙◌, subst, subst₂, arith}
use Rattle.std.specs.Prelude.{◌↔◌, if◌then◌else◌, ltb}
use Rattle.std.proofs.lemmas.Bool.{cases_Bool, cases_lt, false≢true, cond-false, cond-true, lt-ltb, le-ltb}
use Rattle.stair_model.specs.Device.{gate_sector}
use Rattle.stair_rack.specs.Answers.{is_good}
use Rattle.stair_rack.specs.Media.{Image, SlotImage}
use Rattle.stair_rack.specs.Sector.{Cell, Damaged, Good, Torn, TornOverDamage}
use Rattle.stair_super.specs.Superblock.{Superblock}
use Rattle.stair_member.specs.Current.{IsLost}
use Rattle.stair_member.specs.Superblocks.{First, HoldsSuper, IsSuperOf, Second}
use Rattle.stair_member.proofs.SuperLemmas.{super_cells}
use Rattle.stair_state.specs.Degraded.{AreAllDamaged, AreDamagedCopies, Blank, IsDegraded, IsDegradedSlot, Stays, Taken}
use Rattle.stair_state.proofs.DegradedLemmas.{degraded_copies}
use Rattle.stair_invariant.proofs.LikeLemmas.{AreLike}

-- a place has what it had, or nothing that can be read
abbrev pub IsSameOrBad : Cell → Cell → Type 0
IsSameOrBad was is = (is ≡ was) ⊎ (is_good is ≡ false)

-- A slot of the image: less of it is left, or its places were written to and hold nothing new that can be read.
pub data IsRewritten (was is : SlotImage) : Type 0 where
  Less : IsDegradedSlot was is → IsRewritten was is
  Cut : is.size ≡ was.size → ((k : ℕ) → k < 2 → IsSameOrBad (was.cell k) (is.cell k))
      → ((k : ℕ) → gate_sector ≤ k → (is.cell k ≡ was.cell k) ⊎ (is.cell k ≡ Damaged)) → IsRewritten was is

-- A slot whose places may be put back as they were: neither was lost, and its superblock is the same then.
pub record IsMendable (was is : SlotImage) : Type 0 where
  pub size : is.size ≡ was.size
  pub behind : (k : ℕ) → gate_sector ≤ k → (is.cell k ≡ was.cell k) ⊎ (is.cell k ≡ Damaged)
  pub whole : (k : ℕ) → k < 2 → ¬ IsLost (was.cell k)
  pub same : (s : Superblock) → IsSuperOf is.cell s ↔ IsSuperOf was.cell s

-- what can't be read is given up
drop : Cell → Cell
drop (Good bytes) = Good bytes
drop Damaged = Damaged
drop Torn = Damaged
drop TornOverDamage = Damaged

drop_good : (cell : Cell) (bytes : List ℕ) → cell ≡ Good bytes → drop cell ≡ Good bytes
unfolding drop
drop_good (Good bytes') bytes is = is
drop_good Damaged bytes is = absurd (cc)
drop_good Torn bytes is = absurd (cc)
drop_good TornOverDamage bytes is = absurd (cc)

good_dropped : (cell : Cell) (bytes : List ℕ) → drop cell ≡ Good bytes → cell ≡ Good bytes
unfolding drop
good_dropped (Good bytes') bytes is = is
good_dropped Damaged bytes is = absurd (cc)
good_dropped Torn bytes is = absurd (cc)
good_dropped TornOverDamage bytes is = absurd (cc)

-- so that it is as it was, or damaged
drop_copy : (was is : Cell) → IsSameOrBad was is → (drop is ≡ was) ⊎ (drop is ≡ Damaged)
unfolding drop
drop_copy was (Good bytes) (inl same) = inl same
drop_copy was (Good bytes) (inr bad) = absurd (cc)
drop_copy was Damaged from = inr refl
drop_copy was Torn from = inr refl
drop_copy was TornOverDamage from = inr refl

drop_damaged : (cell : Cell) → cell ≡ Damaged → drop cell ≡ Damaged
unfolding drop
drop_damaged cell is = ap drop is

-- A SLOT

-- the cells of the places from the one, and the others
with_places : (ℕ → Cell) → (ℕ → Cell) → ℕ → Cell
with_places near far k = if ltb k 2 then near k else far k

at_place : (near far : ℕ → Cell) (k : ℕ) → k < 2 → with_places near far k ≡ near k
unfolding with_places
at_place near far k lt = cond-true _ _ _ (lt-ltb k 2 lt)

behind_places : (near far : ℕ → Cell) (k : ℕ) → 2 ≤ k → with_places near far k ≡ far k
unfolding with_places
behind_places near far k le = cond-false _ _ _ (le-ltb k 2 le)

-- what both have
choose_cells : (near far : ℕ → Cell) (P : ℕ → Cell → Type 0) → ((k : ℕ) → k < 2 → P k (near k)) → ((k : ℕ) → 2 ≤ k → P k (far k)) → (k : ℕ)
    → P k (with_places near far k)
choose_cells near far P first second k =
    elim (cases_lt k 2) [
      | inl lt ↦ subst (P k) (sym (at_place near far k lt)) (first k lt)
      | inr past ↦ subst (P k) (sym (behind_places near far k past)) (second k past)
    ]

-- the slot with its places as they were, or without what can't be read
mended : SlotImage → SlotImage → SlotImage
mended was is = record { size = is.size; cell = with_places was.cell is.cell; removed = is.removed }

pruned : SlotImage → SlotImage
pruned is = record { size = is.size; cell = with_places (λ k. drop (is.cell k)) is.cell; removed = is.removed }

mended_less : (was is : SlotImage) → IsMendable was is → IsDegradedSlot was (mended was is)
unfolding mended
mended_less was is of =
    Stays of.size
    (choose_cells was.cell is.cell (λ k c. (c ≡ was.cell k) ⊎ (c ≡ Damaged)) (λ k lt. inl refl) (λ k past. of.behind k past))

pruned_less : (was is : SlotImage) → IsRewritten was is → IsDegradedSlot was (pruned is)
unfolding pruned
pruned_less was is from = by from
  where
    all : AreAllDamaged is.cell → AreAllDamaged (with_places (λ l. drop (is.cell l)) is.cell)
    all none =
        choose_cells (λ l. drop (is.cell l)) is.cell (λ k c. c ≡ Damaged) (λ k lt. drop_damaged (is.cell k) (none k)) (λ k past. none k)

    stays : ((k : ℕ) → k < 2 → IsSameOrBad (was.cell k) (is.cell k))
        → ((k : ℕ) → gate_sector ≤ k → (is.cell k ≡ was.cell k) ⊎ (is.cell k ≡ Damaged))
        → AreDamagedCopies was.cell (with_places (λ l. drop (is.cell l)) is.cell)
    stays places behind =
        choose_cells (λ l. drop (is.cell l)) is.cell (λ k c. (c ≡ was.cell k) ⊎ (c ≡ Damaged))
        (λ k lt. drop_copy (was.cell k) (is.cell k) (places k lt)) (λ k past. behind k past)

    or_bad : (k : ℕ) → (is.cell k ≡ was.cell k) ⊎ (is.cell k ≡ Damaged) → IsSameOrBad (was.cell k) (is.cell k)
    or_bad k (inl same) = inl same
    or_bad k (inr harmed) = inr (ap is_good harmed)

    by : IsRewritten was is → IsDegradedSlot was (record { size = is.size; cell = with_places (λ k. drop (is.cell k)) is.cell; removed = is.removed })
    by (Less (Taken none each)) = Taken none (all each)
    by (Less (Blank size some each)) = Blank size some (all each)
    by (Less (Stays same copies)) = Stays same (stays (λ k lt. or_bad k (copies k)) (λ k past. copies k))
    by (Cut same places behind) = Stays same (stays places behind)

-- each place holds the same superblocks
super_like : (a b : ℕ → Cell) → ((k : ℕ) (s : Superblock) → k < 2 → HoldsSuper (a k) s ↔ HoldsSuper (b k) s) → (s : Superblock)
    → IsSuperOf a s → IsSuperOf b s
super_like a b holds s (First here rest) =
    First ((holds 0 s (omega arith)).0 here) (λ other there. rest other ((holds 1 other (omega arith)).1 there))
super_like a b holds s (Second here rest) =
    Second ((holds 1 s (omega arith)).0 here) (λ other there. rest other ((holds 0 other (omega arith)).1 there))

pruned_holds : (is : SlotImage) (k : ℕ) (s : Superblock) → k < 2 → HoldsSuper (is.cell k) s ↔ HoldsSuper ((pruned is).cell k) s
unfolding pruned
pruned_holds is k s lt = (
  λ holds. record {
    bytes = holds.bytes;
    good = at_place (λ l. drop (is.cell l)) is.cell k lt ∙ drop_good (is.cell k) holds.bytes holds.good;
    spells = holds.spells;
  },
  λ holds. record {
    bytes = holds.bytes;
    good = good_dropped (is.cell k) holds.bytes (sym (at_place (λ l. drop (is.cell l)) is.cell k lt) ∙ holds.good);
    spells = holds.spells;
  },
)

size_mended : (was is : SlotImage) → (mended was is).size ≡ is.size
unfolding mended
size_mended was is = refl

size_pruned : (is : SlotImage) → (pruned is).size ≡ is.size
unfolding pruned
size_pruned is = refl

mended_behind : (was is : SlotImage) (k : ℕ) → gate_sector ≤ k → (mended was is).cell k ≡ is.cell k
unfolding mended
mended_behind was is k past = behind_places was.cell is.cell k past

pruned_behind : (is : SlotImage) (k : ℕ) → gate_sector ≤ k → (pruned is).cell k ≡ is.cell k
unfolding pruned
pruned_behind is k past = behind_places (λ l. drop (is.cell l)) is.cell k past

mended_place : (was is : SlotImage) (k : ℕ) → k < 2 → (mended was is).cell k ≡ was.cell k
unfolding mended
mended_place was is k lt = at_place was.cell is.cell k lt

mended_supers : (was is : SlotImage) → IsMendable was is → (s : Superblock) → IsSuperOf is.cell s ↔ IsSuperOf ((mended was is).cell) s
mended_supers was is of s = (
  λ super.
      super_cells was.cell ((mended was is).cell) s (sym (mended_place was is 0 (omega arith))) (sym (mended_place was is 1 (omega arith)))
      ((of.same s).0 super),
  λ super.
      (of.same s).1
      (super_cells ((mended was is).cell) was.cell s (mended_place was is 0 (omega arith)) (mended_place was is 1 (omega arith)) super),
)

pruned_supers : (is : SlotImage) (s : Superblock) → IsSuperOf is.cell s ↔ IsSuperOf ((pruned is).cell) s
pruned_supers is s = (
  λ super. super_like is.cell ((pruned is).cell) (pruned_holds is) s super,
  λ super. super_like ((pruned is).cell) is.cell (λ k t lt. ((pruned_holds is k t lt).1, (pruned_holds is k t lt).0)) s super,
)

-- OF A SLOT, AND OF LESS OF IT

mended_both : (was a b : SlotImage) → IsMendable was a → IsMendable was b → IsDegradedSlot a b → IsDegradedSlot (mended was a) (mended was b)
unfolding mended
mended_both was a b of_a of_b less =
    Stays (of_b.size ∙ sym of_a.size)
    (choose_cells was.cell b.cell (λ k c. (c ≡ with_places was.cell a.cell k) ⊎ (c ≡ Damaged)) (λ k lt. inl (sym (at_place was.cell a.cell k lt)))
    (λ k past. elim (degraded_copies less k) [
      | inl same ↦ inl (same ∙ sym (behind_places was.cell a.cell k past))
      | inr harmed ↦ inr harmed
    ]))

-- what is pruned is less of a slot with these cells
pruned_of : (a b : SlotImage) (near : ℕ → Cell) → IsDegradedSlot a b
    → ((k : ℕ) → k < 2 → (drop (b.cell k) ≡ near k) ⊎ (drop (b.cell k) ≡ Damaged))
    → IsDegradedSlot (record { size = a.size; cell = with_places near a.cell; removed = a.removed }) (pruned b)
unfolding pruned
pruned_of a b near less places = by less
  where
    all : AreAllDamaged b.cell → AreAllDamaged (with_places (λ l. drop (b.cell l)) b.cell)
    all none =
        choose_cells (λ l. drop (b.cell l)) b.cell (λ k c. c ≡ Damaged) (λ k lt. drop_damaged (b.cell k) (none k)) (λ k past. none k)

    by : IsDegradedSlot a b → IsDegradedSlot (record { size = a.size; cell = with_places near a.cell; removed = a.removed })
        (record { size = b.size; cell = with_places (λ k. drop (b.cell k)) b.cell; removed = b.removed })
    by (Taken none each) = Taken none (all each)
    by (Blank size some each) = Blank size some (all each)
    by (Stays same copies) =
        Stays same
        (choose_cells (λ l. drop (b.cell l)) b.cell (λ k c. (c ≡ with_places near a.cell k) ⊎ (c ≡ Damaged))
        (λ k lt. elim (places k lt) [ inl is ↦ inl (is ∙ sym (at_place near a.cell k lt)) | inr harmed ↦ inr harmed ])
        (λ k past. elim (copies k) [ inl is ↦ inl (is ∙ sym (behind_places near a.cell k past)) | inr harmed ↦ inr harmed ]))

rewritten_place : (was is : SlotImage) → IsRewritten was is → (k : ℕ) → k < 2 → IsSameOrBad (was.cell k) (is.cell k)
rewritten_place was is (Less less) k lt = elim (degraded_copies less k) [ inl same ↦ inl same | inr harmed ↦ inr (ap is_good harmed) ]
rewritten_place was is (Cut size places behind) k lt = places k lt

pub rewritten_behind : (was is : SlotImage) → IsRewritten was is → (k : ℕ) → gate_sector ≤ k → (is.cell k ≡ was.cell k) ⊎ (is.cell k ≡ Damaged)
rewritten_behind was is (Less less) k past = degraded_copies less k
rewritten_behind was is (Cut size places behind) k past = behind k past

mended_then_pruned : (was a b : SlotImage) → IsRewritten was b → IsDegradedSlot a b → IsDegradedSlot (mended was a) (pruned b)
unfolding mended
mended_then_pruned was a b from less = pruned_of a b was.cell less (λ k lt. drop_copy (was.cell k) (b.cell k) (rewritten_place was b from k lt))

pruned_both : (a b : SlotImage) → IsDegradedSlot a b → IsDegradedSlot (pruned a) (pruned b)
unfolding pruned
pruned_both a b less = first (pruned_of a b (λ k. drop (a.cell k)) less places)
  where
    places : (k : ℕ) → k < 2 → (drop (b.cell k) ≡ drop (a.cell k)) ⊎ (drop (b.cell k) ≡ Damaged)
    places k lt = elim (degraded_copies less k) [ inl same ↦ inl (ap drop same) | inr harmed ↦ inr (drop_damaged (b.cell k) harmed) ]

    first : IsDegradedSlot (record { size = a.size; cell = with_places (λ k. drop (a.cell k)) a.cell; removed = a.removed }) (pruned b)
        → IsDegradedSlot (pruned a) (pruned b)
    first is = is

-- AN IMAGE

-- the image with the places of some slots put back, and the others' pruned
pub put_back : (ℕ → Bool) → Image → Image → Image
put_back back was x j = if back j then mended (was j) (x j) else pruned (x j)

module _ (was x : Image) (back : ℕ → Bool) (of : (j : ℕ) → back j ≡ true → IsMendable (was j) (x j)) (from : (j : ℕ) → IsRewritten (was j) (x j)) where
  slot_cases : (P : SlotImage → Type 0) (j : ℕ) → (back j ≡ true → P (mended (was j) (x j))) → (back j ≡ false → P (pruned (x j)))
      → P (put_back back was x j)
  unfolding put_back
  slot_cases P j first second =
      elim (cases_Bool (back j)) [
        | inl is ↦ subst P (sym (cond-true _ _ _ is)) (first is)
        | inr is ↦ subst P (sym (cond-false _ _ _ is)) (second is)
      ]

  pub put_less : IsDegraded was (put_back back was x)
  put_less j = slot_cases (IsDegradedSlot (was j)) j (λ is. mended_less (was j) (x j) (of j is)) (λ is. pruned_less (was j) (x j) (from j))

  pub put_like : AreLike x (put_back back was x)
  put_like = record {
    size = λ j. slot_cases (λ slot. slot.size ≡ (x j).size) j (λ is. size_mended (was j) (x j)) (λ is. size_pruned (x j));
    supers = λ j s.
        slot_cases (λ slot. IsSuperOf ((x j).cell) s ↔ IsSuperOf (slot.cell) s) j (λ is. mended_supers (was j) (x j) (of j is) s)
        (λ is. pruned_supers (x j) s);
    behind = λ j k past.
        slot_cases (λ slot. slot.cell k ≡ (x j).cell k) j (λ is. mended_behind (was j) (x j) k past) (λ is. pruned_behind (x j) k past);
  }

  -- the places of a slot that was put back are as they were
  pub put_place : (j k : ℕ) → back j ≡ true → k < 2 → (put_back back was x j).cell k ≡ (was j).cell k
  put_place j k is lt =
      slot_cases (λ slot. slot.cell k ≡ (was j).cell k) j (λ on. mended_place (was j) (x j) k lt) (λ off. absurd (false≢true (sym off ∙ is)))

-- LESS OF AN IMAGE

-- slots that are put back in the lesser image are so in the other
pub put_shrinks : (was a b : Image) (back_a back_b : ℕ → Bool) → ((j : ℕ) → back_a j ≡ true → IsMendable (was j) (a j))
    → ((j : ℕ) → back_b j ≡ true → IsMendable (was j) (b j)) → ((j : ℕ) → back_b j ≡ true → back_a j ≡ true) → ((j : ℕ) → IsRewritten (was j) (b j))
    → IsDegraded a b → IsDegraded (put_back back_a was a) (put_back back_b was b)
unfolding put_back
put_shrinks was a b back_a back_b of_a of_b within from less j =
    elim (cases_Bool (back_b j)) [
      | inl is ↦
          subst₂ IsDegradedSlot (sym (cond-true _ _ _ (within j is))) (sym (cond-true _ _ _ is))
          (mended_both (was j) (a j) (b j) (of_a j (within j is)) (of_b j is) (less j))
      | inr off ↦
          elim (cases_Bool (back_a j)) [
            | inl is ↦
                subst₂ IsDegradedSlot (sym (cond-true _ _ _ is)) (sym (cond-false _ _ _ off))
                (mended_then_pruned (was j) (a j) (b j) (from j) (less j))
            | inr out ↦ subst₂ IsDegradedSlot (sym (cond-false _ _ _ out)) (sym (cond-false _ _ _ off)) (pruned_both (a j) (b j) (less j))
          ]
    ]
