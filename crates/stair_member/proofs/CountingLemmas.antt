-- More than m slots, at most m slots, and all slots but m.
use Rattle.std.proofs.Common.{◌≡◌, ℕ, zero, suc, ◌+◌, ◌*◌, ◌<◌, ◌≤◌, Bool, true, false, cond, if◌then◌else◌, not, ◌&&◌, inl, inr, sym, ◌∙◌, arith}
use Rattle.std.specs.Prelude.{◌⊎◌, IsTrue, nat_lt}
use Rattle.std.proofs.lemmas.Bool.{cases_lt, cases_Bool, false≢true, lt-ltb, ltb-true, cond-true, and_parts, and_from, not-true, not_from_false}
use Rattle.std.proofs.lemmas.List.{get_or_past}
use Rattle.stair_model.specs.Sum.{sum_below}
use Rattle.stair_model.specs.Slots.{Slots, has_slot, HasSlot, IsSlotSet, slot_count}
use Rattle.stair_model.proofs.CountLaws.{sum_below_more, sum_below_longer, sum_below_le, sum_below_add, sum_below_constant}
use Rattle.stair_model.proofs.PlaceLaws.{list_of, length-list_of, list_of_at}
use Rattle.stair_model.proofs.SetLaws.{slot_count-subset}
use Rattle.stair_member.specs.Counting.{MoreThan, AtMost, AllBut}

-- a set has slots below 32 alone
pub slot_in_range : (set : Slots) (j : ℕ) → IsSlotSet set → HasSlot set j → j < 32
slot_in_range set j formed has =
    elim (cases_lt j 32) [
      | inl below ↦ below
      | inr past ↦ absurd (false≢true (sym (get_or_past set.marks j false (omega (arith, formed))) ∙ has))
    ]

-- a set that has a slot or hasn't
pub has_or_not : (set : Slots) (j : ℕ) → HasSlot set j ⊎ (¬ HasSlot set j)
has_or_not set j =
    elim (cases_Bool (has_slot set j)) [
      | inl has ↦ inl has
      | inr none ↦ inr (λ has. false≢true (sym none ∙ has))
    ]

pub apart : {m : ℕ} {P : ℕ → Type 0} → MoreThan m P → AtMost m P → ⊥
apart {m} more most =
    let within : slot_count more.slots ≤ slot_count most.slots = slot_count-subset more.slots most.slots (λ j has. most.within j (more.each j has)) in
    let many : m < slot_count more.slots = more.many in
    let few : slot_count most.slots ≤ m = most.few in
    omega arith

-- ---- slots that are in neither of two sets

-- of numbers below n some one passes neither test, where fewer than n pass one
neither_below : (n : ℕ) (a b : ℕ → Bool) → sum_below n (λ j. cond (a j) 1 0) + sum_below n (λ j. cond (b j) 1 0) < n
    → (j : ℕ) × (j < n) × (¬ IsTrue (a j)) × (¬ IsTrue (b j))
neither_below zero a b few = absurd (omega arith)
neither_below (suc n) a b few =
    let first : sum_below (suc n) (λ j. cond (a j) 1 0) ≡ sum_below n (λ j. cond (a j) 1 0) + cond (a n) 1 0 = sum_below_more n (λ j. cond (a j) 1 0) in
    let second : sum_below (suc n) (λ j. cond (b j) 1 0) ≡ sum_below n (λ j. cond (b j) 1 0) + cond (b n) 1 0 = sum_below_more n (λ j. cond (b j) 1 0) in
    elim (cases_Bool (a n)) [
      | inl in_a ↦
          let one : ◌≡◌ {A = ℕ} (cond (a n) 1 0) 1 = cond-true (a n) 1 0 in_a in
          earlier n a b (neither_below n a b (omega arith))
      | inr not_a ↦
          elim (cases_Bool (b n)) [
            | inl in_b ↦
                let one : ◌≡◌ {A = ℕ} (cond (b n) 1 0) 1 = cond-true (b n) 1 0 in_b in
                earlier n a b (neither_below n a b (omega arith))
            | inr not_b ↦ (n, omega arith, λ has. false≢true (sym not_a ∙ has), λ has. false≢true (sym not_b ∙ has))
          ]
    ]
  where
    earlier : (n : ℕ) (a b : ℕ → Bool) → (j : ℕ) × (j < n) × (¬ IsTrue (a j)) × (¬ IsTrue (b j))
        → (j : ℕ) × (j < suc n) × (¬ IsTrue (a j)) × (¬ IsTrue (b j))
    earlier n a b found = (found.0, omega arith, found.2, found.3)

pub in_neither : (n : ℕ) (a b : Slots) → n ≤ 32 → slot_count a + slot_count b < n → (j : ℕ) × (j < n) × (¬ HasSlot a j) × (¬ HasSlot b j)
in_neither n a b small few =
    let of_a : sum_below n (λ j. if has_slot a j then 1 else 0) ≤ slot_count a = sum_below_longer (λ j. if has_slot a j then 1 else 0) n 32 small in
    let of_b : sum_below n (λ j. if has_slot b j then 1 else 0) ≤ slot_count b = sum_below_longer (λ j. if has_slot b j then 1 else 0) n 32 small in
    neither_below n (has_slot a) (has_slot b) (omega arith)

pub common : {n m : ℕ} {P Q : ℕ → Type 0} → n ≤ 32 → 2 * m < n → AllBut n m P → AllBut n m Q → (j : ℕ) × (j < n) × P j × Q j
common {n} {m} {P} {Q} small most p q =
    let few_p : slot_count p.exceptions ≤ m = p.few in
    let few_q : slot_count q.exceptions ≤ m = q.few in
    let found = in_neither n p.exceptions q.exceptions small (omega arith) in
    (found.0, found.1, p.others found.0 found.1 found.2, q.others found.0 found.1 found.3)

-- ---- the slots that pass a test

pub slots_by : (ℕ → Bool) → Slots
slots_by test = record { marks = list_of 32 test }

pub slots_by-formed : (test : ℕ → Bool) → IsSlotSet (slots_by test)
unfolding slots_by
slots_by-formed test = length-list_of 32 test

pub slots_by-at : (test : ℕ → Bool) (j : ℕ) → j < 32 → has_slot (slots_by test) j ≡ test j
unfolding slots_by
slots_by-at test j below = list_of_at 32 test j false below

-- the slots below n that aren't in the set
rest_below : ℕ → Slots → Slots
rest_below n set = slots_by (λ j. nat_lt j n && not (has_slot set j))

in_rest : (n : ℕ) (set : Slots) (j : ℕ) → HasSlot (rest_below n set) j → (j < n) × (¬ HasSlot set j)
unfolding rest_below
in_rest n set j has =
    let test : ℕ → Bool = λ j. nat_lt j n && not (has_slot set j) in
    let below : j < 32 = slot_in_range (slots_by test) j (slots_by-formed test) has in
    let parts = and_parts (nat_lt j n) (not (has_slot set j)) (sym (slots_by-at test j below) ∙ has) in
    (ltb-true j n parts.0, λ in_set. false≢true (sym (not-true (has_slot set j) parts.1) ∙ in_set))

rest_below-formed : (n : ℕ) (set : Slots) → IsSlotSet (rest_below n set)
unfolding rest_below
rest_below-formed n set = slots_by-formed (λ j. nat_lt j n && not (has_slot set j))

-- each slot below n is in the set or in the rest
rest_each : (n : ℕ) (set : Slots) (j : ℕ) → j < n → n ≤ 32 → 1 ≤ cond (has_slot (rest_below n set) j) 1 0 + cond (has_slot set j) 1 0
unfolding rest_below
rest_each n set j below small =
    let test : ℕ → Bool = λ j. nat_lt j n && not (has_slot set j) in
    elim (cases_Bool (has_slot set j)) [
      | inl has ↦
          let one : ◌≡◌ {A = ℕ} (cond (has_slot set j) 1 0) 1 = cond-true (has_slot set j) 1 0 has in
          omega arith
      | inr none ↦
          let passes : has_slot (slots_by test) j ≡ true = slots_by-at test j (omega arith) ∙ and_from (nat_lt j n) (not (has_slot set j)) (lt-ltb j n below) (not_from_false (has_slot set j) none) in
          let one : ◌≡◌ {A = ℕ} (cond (has_slot (slots_by test) j) 1 0) 1 = cond-true (has_slot (slots_by test) j) 1 0 passes in
          omega arith
    ]

rest_count : (n : ℕ) (set : Slots) → n ≤ 32 → n ≤ slot_count (rest_below n set) + slot_count set
rest_count n set small =
    let rest = rest_below n set in
    let of_rest : ℕ → ℕ = λ j. cond (has_slot rest j) 1 0 in
    let of_set : ℕ → ℕ = λ j. cond (has_slot set j) 1 0 in
    let whole : sum_below n (λ j. 1) ≤ sum_below n (λ j. of_rest j + of_set j) = sum_below_le n (λ j. 1) (λ j. of_rest j + of_set j) (λ j below. rest_each n set j below small) in
    let parts : sum_below n (λ j. of_rest j + of_set j) ≡ sum_below n of_rest + sum_below n of_set = sum_below_add n of_rest of_set in
    let ones : sum_below n (λ j. 1) ≡ n * 1 = sum_below_constant n 1 in
    let first : sum_below n of_rest ≤ slot_count rest = sum_below_longer of_rest n 32 small in
    let second : sum_below n of_set ≤ slot_count set = sum_below_longer of_set n 32 small in
    omega arith

-- ---- of what follows from a property

pub all_but_mapped : {n m : ℕ} {P Q : ℕ → Type 0} → ((j : ℕ) → j < n → P j → Q j) → AllBut n m P → AllBut n m Q
all_but_mapped f p = record { exceptions = p.exceptions; formed = p.formed; few = p.few; others = λ j below out. f j below (p.others j below out) }

pub at_most_fewer : {m : ℕ} {P Q : ℕ → Type 0} → ((j : ℕ) → P j → Q j) → AtMost m Q → AtMost m P
at_most_fewer f q = record { slots = q.slots; formed = q.formed; few = q.few; within = λ j p. q.within j (f j p) }

pub more_mapped : {m : ℕ} {P Q : ℕ → Type 0} → ((j : ℕ) → P j → Q j) → MoreThan m P → MoreThan m Q
more_mapped f p = record { slots = p.slots; formed = p.formed; many = p.many; each = λ j has. f j (p.each j has) }

-- where m are less than half of n, all but m are more than m
pub more_from_all_but : {n m : ℕ} {P : ℕ → Type 0} → n ≤ 32 → 2 * m < n → AllBut n m P → MoreThan m P
more_from_all_but {n} {m} {P} small most p =
    let few : slot_count p.exceptions ≤ m = p.few in
    let count = rest_count n p.exceptions small in
    record {
      slots = rest_below n p.exceptions;
      formed = rest_below-formed n p.exceptions;
      many = omega arith;
      each = λ j has. let parts = in_rest n p.exceptions j has in p.others j parts.0 parts.1;
    }
