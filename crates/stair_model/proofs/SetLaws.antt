-- Sets of slots and of cells, by their members.
use Rattle.std.proofs.Common.{◌≡◌, ℕ, ◌+◌, ◌<◌, ◌≤◌, Bool, true, false, cond, refl, List, length, replicate, slice_index_or, sym, ap, subst, ◌∙◌, inl, inr, arith}
use Rattle.std.specs.Prelude.{◌↔◌, ◌⊎◌, IsTrue, if◌then◌else◌}
use Rattle.std.specs.List.{count_by}
use Rattle.std.proofs.lemmas.Bool.{false≢true, cases_lt, cases_Bool, false_from_ne_true}
use Rattle.std.proofs.lemmas.List.{get_or-replicate, get_or_past, get_or_default, length-replicate, same_lists}
use Rattle.std.proofs.lemmas.List.Elements.{All-get_or, All-replicate}
use Rattle.stair_model.specs.Sum.{sum_below}
use Rattle.stair_model.specs.Slots.{Slots, has_slot, HasSlot, slot_count, no_slots, IsSlotSet}
use Rattle.stair_model.specs.CellSet.{CellSet, HasCell, count_in_row, cell_count, IsCellSet}
use Rattle.stair_model.proofs.CountLaws.{sum_below_by, sum_below_le, sum_below_same, sum_below_changed, sum_below_marks, sum_below_zeros, sum_below_part, sum_below_more, sum_below_constant}

-- two tests that pass alike are one
pub same_test : (a b : Bool) → (IsTrue a ↔ IsTrue b) → a ≡ b
same_test a b alike =
    elim (cases_Bool a) [
      | inl passes ↦ passes ∙ sym (alike.0 passes)
      | inr fails ↦ fails ∙ sym (false_from_ne_true b (λ passes. false≢true (sym fails ∙ alike.1 passes)))
    ]

-- of equal tests at each place, in lists of 32, the lists are the same
pub same_slots : (a b : Slots) → IsSlotSet a → IsSlotSet b → ((j : ℕ) → HasSlot a j ↔ HasSlot b j) → a ≡ b
same_slots a b a_long b_long alike =
    let marks : a.marks ≡ b.marks =
    same_lists a.marks b.marks (a_long ∙ sym b_long)
    (λ k d within.
    get_or_default a.marks k d false within ∙ same_test (has_slot a k) (has_slot b k) (alike k)
    ∙ get_or_default b.marks k false d (omega (arith, a_long, b_long)))
    in
    ap (λ (m : List Bool). record { marks = m }) marks

pub same_cells : (a b : CellSet) → IsCellSet a → IsCellSet b → ((i j : ℕ) → HasCell a i j ↔ HasCell b i j) → a ≡ b
same_cells a b a_of b_of alike =
    let rows : a.rows ≡ b.rows =
    same_lists a.rows b.rows (a_of.count ∙ sym b_of.count)
    (λ k d within.
    let b_within : k < length b.rows = omega (arith, a_of.count, b_of.count) in
    get_or_default a.rows k d no_slots within
    ∙ same_slots (slice_index_or a.rows k no_slots) (slice_index_or b.rows k no_slots)
    (All-get_or IsSlotSet a.rows k no_slots within a_of.slots) (All-get_or IsSlotSet b.rows k no_slots b_within b_of.slots) (alike k)
    ∙ get_or_default b.rows k no_slots d b_within)
    in
    ap (λ (m : List Slots). record { rows = m }) rows

-- no slot is in the empty set, also past its end
pub has_slot-none : (j : ℕ) → has_slot no_slots j ≡ false
has_slot-none j =
    elim (cases_lt j 32) [
      | inl below ↦ get_or-replicate 32 j false false below
      | inr above ↦ get_or_past (replicate 32 false) j false (omega (arith, length-replicate 32 false))
    ]

-- of rows without slots
pub IsCellSet-none : (row : Slots) → IsSlotSet row → IsCellSet (record { rows = replicate 32 row })
IsCellSet-none row of = record { count = length-replicate 32 row; slots = All-replicate IsSlotSet 32 row of }

pub HasCell-none : (row : Slots) → ((j : ℕ) → ¬ HasSlot row j) → (i j : ℕ) → ¬ HasCell (record { rows = replicate 32 row }) i j
HasCell-none row none i j has =
    elim (cases_lt i 32) [
      | inl below ↦ none j (sym (ap (λ (s : Slots). has_slot s j) (get_or-replicate 32 i row no_slots below)) ∙ has)
      | inr above ↦
          false≢true
          (sym (ap (λ (s : Slots). has_slot s j) (get_or_past (replicate 32 row) i no_slots (omega (arith, length-replicate 32 row))) ∙ has_slot-none j)
          ∙ has)
    ]

-- the members of a set of slots, counted in its list
pub slot_count-marks : (set : Slots) → IsSlotSet set → slot_count set ≡ count_by (λ mark. mark) set.marks
slot_count-marks set long =
    ap (λ (n : ℕ). sum_below n (λ j. if has_slot set j then 1 else 0)) (sym long)
    ∙ sum_below_by (λ (mark : Bool). cond mark 1 0) false set.marks

-- marks of two tests, where the second passes wherever the first does
pub mark_le : (a b : Bool) → (IsTrue a → IsTrue b) → cond a 1 0 ≤ cond b 1 0
mark_le true true implies = omega arith
mark_le true false implies = absurd (false≢true (implies refl))
mark_le false b implies = omega arith

-- a set of fewer slots has no more of them
pub slot_count-subset : (fewer more : Slots) → ((j : ℕ) → HasSlot fewer j → HasSlot more j) → slot_count fewer ≤ slot_count more
slot_count-subset fewer more subset =
    sum_below_le 32 (λ j. cond (has_slot fewer j) 1 0) (λ j. cond (has_slot more j) 1 0)
    (λ j below. mark_le (has_slot fewer j) (has_slot more j) (subset j))

-- how many numbers below n pass a test
abbrev passing : ℕ → (ℕ → Bool) → ℕ
passing n test = sum_below n (λ j. cond (test j) 1 0)

-- b passes what a does, and x
abbrev OneMore : ℕ → (a b : ℕ → Bool) → ℕ → Type 0
OneMore n a b x = (j : ℕ) → j < n → IsTrue (b j) ↔ (IsTrue (a j) ⊎ (j ≡ x))

-- a mark is 0 or 1, and 0 where the test fails
pub mark_small : (b : Bool) → cond b 1 0 ≤ 1
mark_small true = omega arith
mark_small false = omega arith

pub unmarked : (b : Bool) → ¬ IsTrue b → ◌≡◌ {A = ℕ} (cond b 1 0) 0
unmarked b fails = ap (λ (t : Bool). cond t 1 0) (false_from_ne_true b fails)

-- a mark that counts is of a test that passes
marked : (b : Bool) → 0 < cond b 1 0 → IsTrue b
marked true above = refl
marked false above = absurd (omega arith)

-- tests that pass alike
passing_same : (n : ℕ) (a b : ℕ → Bool) → ((j : ℕ) → j < n → IsTrue (a j) ↔ IsTrue (b j)) → passing n a ≡ passing n b
passing_same n a b alike =
    sum_below_same n (λ j. cond (a j) 1 0) (λ j. cond (b j) 1 0)
    (λ j below. ap (λ (t : Bool). cond t 1 0) (same_test (a j) (b j) (alike j below)))

-- a test that nothing passes
passing_none : (n : ℕ) (a : ℕ → Bool) → ((j : ℕ) → j < n → ¬ IsTrue (a j)) → passing n a ≡ 0
passing_none n a none =
    sum_below_zeros n (λ j. cond (a j) 1 0)
    (λ j below. unmarked (a j) (none j below))

-- no more pass than are tested
passing_most : (n : ℕ) (a : ℕ → Bool) → passing n a ≤ n
passing_most n a = sum_below_marks n (λ j. cond (a j) 1 0) (λ j below. mark_small (a j))

-- what passes besides x does so before, and the other way round
apart : (n : ℕ) (a b : ℕ → Bool) (x : ℕ) → OneMore n a b x → (j : ℕ) → j < n → ¬ (j ≡ x) → IsTrue (b j) ↔ IsTrue (a j)
apart n a b x one j below other = (
  λ passes. elim ((one j below).0 passes) [ inl before ↦ before | inr is ↦ absurd (other is) ],
  λ passes. (one j below).1 (inl passes),
)

-- of an x that did not pass before
passing_more : (n : ℕ) (a b : ℕ → Bool) (x : ℕ) → x < n → ¬ IsTrue (a x) → OneMore n a b x → passing n b ≡ passing n a + 1
passing_more n a b x within missing one =
    sum_below_changed n x 1 (λ j. cond (a j) 1 0) (λ j. cond (b j) 1 0) within
    (ap (λ (t : Bool). cond t 1 0) ((one x within).1 (inr refl))
    ∙ sym (ap (λ (t : Bool). cond t 1 0 + 1) (false_from_ne_true (a x) missing)))
    (λ j below other. ap (λ (t : Bool). cond t 1 0) (same_test (b j) (a j) (apart n a b x one j below other)))

-- of an x that passes before
passing_again : (n : ℕ) (a b : ℕ → Bool) (x : ℕ) → IsTrue (a x) → OneMore n a b x → passing n b ≡ passing n a
passing_again n a b x has one =
    passing_same n b a
    (λ j below. (
      λ passes. elim ((one j below).0 passes) [ inl before ↦ before | inr is ↦ subst (λ (k : ℕ). IsTrue (a k)) (sym is) has ],
      λ passes. (one j below).1 (inl passes),
    ))

-- of a sum without its last term that is none
last_term : (x y : ℕ) → x ≤ 0 → 0 < x + y → 0 < y
last_term x y none above = omega arith

-- where a number passes, there is one
passing_one : (n : ℕ) (a : ℕ → Bool) → 0 < passing n a → (j : ℕ) × (j < n) × IsTrue (a j)
passing_one n a above =
    let found = sum_below_part n 0 (λ j. cond (a j) 1 0) above in
    let next : 0 < passing found.0 a + cond (a found.0) 1 0 =
    subst (λ (c : ℕ). 0 < c) (sum_below_more found.0 (λ j. cond (a j) 1 0)) found.3
    in
    let none : passing found.0 a ≤ 0 = found.2 in
    (found.0, found.1, marked (a found.0) (last_term (passing found.0 a) (cond (a found.0) 1 0) none next))

-- the same of slots
pub slot_count_none : (set : Slots) → ((j : ℕ) → j < 32 → ¬ HasSlot set j) → slot_count set ≡ 0
slot_count_none set = passing_none 32 (has_slot set)

pub slot_count_most : (set : Slots) → slot_count set ≤ 32
slot_count_most set = passing_most 32 (has_slot set)

pub slot_count_same : (a b : Slots) → ((j : ℕ) → j < 32 → HasSlot a j ↔ HasSlot b j) → slot_count a ≡ slot_count b
slot_count_same a b = passing_same 32 (has_slot a) (has_slot b)

pub slot_count_more : (fewer more : Slots) (x : ℕ) → x < 32 → ¬ HasSlot fewer x
    → ((j : ℕ) → j < 32 → HasSlot more j ↔ (HasSlot fewer j ⊎ (j ≡ x))) → slot_count more ≡ slot_count fewer + 1
slot_count_more fewer more = passing_more 32 (has_slot fewer) (has_slot more)

pub slot_count_again : (a b : Slots) (x : ℕ) → HasSlot a x
    → ((j : ℕ) → j < 32 → HasSlot b j ↔ (HasSlot a j ⊎ (j ≡ x))) → slot_count b ≡ slot_count a
slot_count_again a b = passing_again 32 (has_slot a) (has_slot b)

pub slot_count_member : (set : Slots) → 0 < slot_count set → (j : ℕ) × (j < 32) × HasSlot set j
slot_count_member set = passing_one 32 (has_slot set)

-- and of cells
pub cell_count_none : (cells : CellSet) → ((i j : ℕ) → i < 32 → j < 32 → ¬ HasCell cells i j) → cell_count cells ≡ 0
cell_count_none cells none =
    sum_below_zeros 32 (count_in_row cells)
    (λ i below. slot_count_none (slice_index_or cells.rows i no_slots) (λ j. none i j below))

pub cell_count_most : (cells : CellSet) → cell_count cells ≤ 1024
cell_count_most cells =
    let each : cell_count cells ≤ sum_below 32 (λ i. 32) =
    sum_below_le 32 (count_in_row cells) (λ i. 32) (λ i below. slot_count_most (slice_index_or cells.rows i no_slots))
    in
    omega (arith, each, sum_below_constant 32 32)

pub cell_count_same : (a b : CellSet) → ((i j : ℕ) → i < 32 → j < 32 → HasCell a i j ↔ HasCell b i j) → cell_count a ≡ cell_count b
cell_count_same a b alike =
    sum_below_same 32 (count_in_row a) (count_in_row b)
    (λ i below. slot_count_same (slice_index_or a.rows i no_slots) (slice_index_or b.rows i no_slots) (λ j. alike i j below))

-- b has the cells of a, and cell (i, j)
abbrev OneCellMore : (a b : CellSet) (i j : ℕ) → Type 0
OneCellMore a b i j =
    (k l : ℕ) → k < 32 → l < 32 → HasCell b k l ↔ (HasCell a k l ⊎ ((k ≡ i) × (l ≡ j)))

-- in its own row, it is one slot more
in_its_row : (a b : CellSet) (i j : ℕ) → i < 32 → OneCellMore a b i j
    → (l : ℕ) → l < 32 → HasCell b i l ↔ (HasCell a i l ⊎ (l ≡ j))
in_its_row a b i j in_rows one l below = (
  λ has. elim ((one i l in_rows below).0 has) [ inl before ↦ inl before | inr is ↦ inr is.1 ],
  λ has. (one i l in_rows below).1 (elim has [ inl before ↦ inl before | inr is ↦ inr (refl, is) ]),
)

-- the other rows are as they were
other_rows : (a b : CellSet) (i j : ℕ) → OneCellMore a b i j → (k : ℕ) → k < 32 → ¬ (k ≡ i)
    → count_in_row b k ≡ count_in_row a k
other_rows a b i j one k in_rows other =
    slot_count_same (slice_index_or b.rows k no_slots) (slice_index_or a.rows k no_slots)
    (λ l below. (
      λ has. elim ((one k l in_rows below).0 has) [ inl before ↦ before | inr is ↦ absurd (other is.0) ],
      λ has. (one k l in_rows below).1 (inl has),
    ))

pub cell_count_more : (a b : CellSet) (i j : ℕ) → i < 32 → j < 32 → ¬ HasCell a i j
    → ((k l : ℕ) → k < 32 → l < 32 → HasCell b k l ↔ (HasCell a k l ⊎ ((k ≡ i) × (l ≡ j))))
    → cell_count b ≡ cell_count a + 1
cell_count_more a b i j in_rows in_slots missing one =
    sum_below_changed 32 i 1 (count_in_row a) (count_in_row b) in_rows
    (slot_count_more (slice_index_or a.rows i no_slots) (slice_index_or b.rows i no_slots) j in_slots missing
    (in_its_row a b i j in_rows one))
    (other_rows a b i j one)

pub cell_count_again : (a b : CellSet) (i j : ℕ) → HasCell a i j
    → ((k l : ℕ) → k < 32 → l < 32 → HasCell b k l ↔ (HasCell a k l ⊎ ((k ≡ i) × (l ≡ j))))
    → cell_count b ≡ cell_count a
cell_count_again a b i j has one =
    cell_count_same b a
    (λ k l in_rows in_slots. (
      λ now. elim ((one k l in_rows in_slots).0 now) [
        | inl before ↦ before
        | inr is ↦ subst (λ (x : ℕ). HasCell a k x) (sym is.1) (subst (λ (x : ℕ). HasCell a x j) (sym is.0) has)
      ],
      λ before. (one k l in_rows in_slots).1 (inl before),
    ))

pub cell_count_member : (cells : CellSet) → 0 < cell_count cells → (i : ℕ) × (j : ℕ) × (i < 32) × (j < 32) × HasCell cells i j
cell_count_member cells above =
    let found = sum_below_part 32 0 (count_in_row cells) above in
    let next : 0 < sum_below found.0 (count_in_row cells) + count_in_row cells found.0 =
    subst (λ (c : ℕ). 0 < c) (sum_below_more found.0 (count_in_row cells)) found.3
    in
    let slot =
    slot_count_member (slice_index_or cells.rows found.0 no_slots)
    (last_term (sum_below found.0 (count_in_row cells)) (count_in_row cells found.0) found.2 next) in
    (found.0, slot.0, found.1, slot.1, slot.2)
