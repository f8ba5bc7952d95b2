-- Room is the least there is.
use Rattle.std.proofs.Common.{◌≡◌, ℕ, zero, suc, ◌+◌, ◌-◌, ◌<◌, ◌≤◌, Bool, true, false, None, Some, refl, sym, ap, ◌∙◌, subst, arith, inl, inr}
use Rattle.std.specs.Prelude.{◌↔◌, find}
use Rattle.std.specs.List.{range_with_len}
use Rattle.std.proofs.lemmas.Bool.{and_parts, ltb-true, both_ways, cases_Bool, cases_lt, cond-true, cond-false, false_from_ne_true}
use Rattle.std.proofs.lemmas.List.Elements.{All-contains}
use Rattle.std.proofs.lemmas.Option.{none-some, same_Some}
use Rattle.stair_volume.specs.declared.extent.Entry.{Entry}
use Rattle.stair_volume.specs.Table.{Table, AreApart, IsWithin, end_of, extent_of, is_free, is_within}
use Rattle.stair_volume.specs.Changes.{EndsMet, IsFree, IsLeastFree, room}
use Rattle.stair_volume.proofs.TestLaws.{Decides-free, Decides-within}

-- the first of n numbers from a on that passes
record IsFirstPass (p : ℕ → Bool) (a n first : ℕ) : Type 0 where
  low : a ≤ first
  high : first < a + n
  passes : p first ≡ true
  before : (k : ℕ) → a ≤ k → k < first → p k ≡ false

first_from_find : (p : ℕ → Bool) (a n first : ℕ) → find p (range_with_len a n) ≡ Some first → IsFirstPass p a n first
first_from_find p a zero first found = absurd (none-some first found)
first_from_find p a (suc n) first found =
    elim (cases_Bool (p a)) [
      | inl passes ↦
          let same : a ≡ first = same_Some a first (sym (cond-true (p a) (Some a) (find p (range_with_len (a + 1) n)) passes) ∙ found) in
          record {
            low = omega arith;
            high = omega arith;
            passes = subst (λ k. p k ≡ true) same passes;
            before = λ k low lt. absurd (omega arith);
          }
      | inr fails ↦
          let rest = first_from_find p (a + 1) n first (sym (cond-false (p a) (Some a) (find p (range_with_len (a + 1) n)) fails) ∙ found) in
          record {
            low = omega (arith, rest.low);
            high = omega (arith, rest.high);
            passes = rest.passes;
            before = λ k low lt. elim (cases_lt a k) [
              | inl above ↦ rest.before k (omega arith) lt
              | inr below ↦
                  let same : a ≡ k = omega arith in
                  subst (λ x. p x ≡ false) same fails
            ];
          }
    ]

find_from_first : (p : ℕ → Bool) (a n first : ℕ) → IsFirstPass p a n first → find p (range_with_len a n) ≡ Some first
find_from_first p a zero first h = absurd (omega (arith, h.low, h.high))
find_from_first p a (suc n) first h =
    elim (cases_lt a first) [
      | inl above ↦
          cond-false (p a) (Some a) (find p (range_with_len (a + 1) n)) (h.before a (omega arith) above)
          ∙ find_from_first p (a + 1) n first (record {
            low = omega arith;
            high = omega (arith, h.high);
            passes = h.passes;
            before = λ k low lt. h.before k (omega arith) lt;
          })
      | inr below ↦
          let same : first ≡ a = omega (arith, h.low) in
          cond-true (p a) (Some a) (find p (range_with_len (a + 1) n)) (subst (λ k. p k ≡ true) same h.passes) ∙ ap Some (sym same)
    ]

none_passes : (p : ℕ → Bool) (a n : ℕ) → find p (range_with_len a n) ≡ None → (k : ℕ) → a ≤ k → k < a + n → p k ≡ true → ⊥
none_passes p a zero none k low high passes = omega arith
none_passes p a (suc n) none k low high passes =
    elim (cases_Bool (p a)) [
      | inl first ↦ none-some a (sym none ∙ cond-true (p a) (Some a) (find p (range_with_len (a + 1) n)) first)
      | inr fails ↦ elim (cases_lt a k) [
        | inl above ↦ none_passes p (a + 1) n (sym (cond-false (p a) (Some a) (find p (range_with_len (a + 1) n)) fails) ∙ none) k (omega arith) (omega arith) passes
        | inr below ↦
            let same : k ≡ a = omega arith in
            both_ways (p a) fails (subst (λ x. p x ≡ true) same passes)
      ]
    ]

find-none : (p : ℕ → Bool) (a n : ℕ) → ((k : ℕ) → a ≤ k → k < a + n → p k ≡ false) → find p (range_with_len a n) ≡ None
find-none p a zero none = refl
find-none p a (suc n) none =
    cond-false (p a) (Some a) (find p (range_with_len (a + 1) n)) (none a (omega arith) (omega arith))
    ∙ find-none p (a + 1) n (λ k low high. none k (omega arith) (omega arith))

pub free_tested : (table : Table) (count first : ℕ) → IsFree table (extent_of first count) → is_free table.entries (extent_of first count) ≡ true
free_tested table count first free = (Decides-free table.entries (extent_of first count)).1 free.apart

pub free_from_test : (table : Table) (count first : ℕ) → 1 ≤ first → first + count ≤ table.blocks → is_free table.entries (extent_of first count) ≡ true → IsFree table (extent_of first count)
free_from_test table count first low high free = record {
  within = record { behind_table = low; inside = high };
  apart = (Decides-free table.entries (extent_of first count)).0 free;
}

-- `room` gives the least first block
pub least_from_room : (table : Table) (count first : ℕ) → room table count ≡ Some first → IsLeastFree table count first
unfolding room
least_from_room table count first found =
    let p : ℕ → Bool = λ k. is_free table.entries (extent_of k count) in
    let h = first_from_find p 1 (table.blocks - count) first found in
    record {
      free = free_from_test table count first h.low (omega (arith, h.high, h.low)) h.passes;
      least = λ other free. elim (cases_lt other first) [
        | inl below ↦ absurd (both_ways (p other) (h.before other free.within.behind_table below) (free_tested table count other free))
        | inr above ↦ above
      ];
    }

pub room_from_least : (table : Table) (count first : ℕ) → IsLeastFree table count first → room table count ≡ Some first
unfolding room
room_from_least table count first least =
    let p : ℕ → Bool = λ k. is_free table.entries (extent_of k count) in
    let inside : first + count ≤ table.blocks = least.free.within.inside in
    find_from_first p 1 (table.blocks - count) first (record {
      low = least.free.within.behind_table;
      high = omega arith;
      passes = free_tested table count first least.free;
      before = λ k low lt. false_from_ne_true (p k) (λ passes. absurd (omega (arith, least.least k (free_from_test table count k low (omega arith) passes))));
    })

pub room_is_least : (table : Table) (count first : ℕ) → (room table count ≡ Some first) ↔ IsLeastFree table count first
room_is_least table count first = (least_from_room table count first, room_from_least table count first)

-- None where there is no room
pub no_room_there : (table : Table) (count : ℕ) → room table count ≡ None → (first : ℕ) → IsFree table (extent_of first count) → ⊥
unfolding room
no_room_there table count none first free =
    let inside : first + count ≤ table.blocks = free.within.inside in
    let low : 1 ≤ first = free.within.behind_table in
    none_passes (λ k. is_free table.entries (extent_of k count)) 1 (table.blocks - count) none first low (omega arith) (free_tested table count first free)

pub room-none : (table : Table) (count : ℕ) → ((first : ℕ) → IsFree table (extent_of first count) → ⊥) → room table count ≡ None
unfolding room
room-none table count none =
    let p : ℕ → Bool = λ k. is_free table.entries (extent_of k count) in
    find-none p 1 (table.blocks - count) (λ k low high. false_from_ne_true (p k) (λ passes. none k (free_from_test table count k low (omega arith) passes)))

pub no_room_is : (table : Table) (count : ℕ) → (room table count ≡ None) ↔ ((first : ℕ) → IsFree table (extent_of first count) → ⊥)
no_room_is table count = (no_room_there table count, room-none table count)

-- no block below this one, and from 1 on, begins so many that are free
pub record NoneBelow (table : Table) (count first : ℕ) : Type 0 where
  pub low : 1 ≤ first
  pub none : (other : ℕ) → IsFree table (extent_of other count) → first ≤ other

pub room_found : (table : Table) (count first : ℕ) → NoneBelow table count first → is_free table.entries (extent_of first count) ≡ true → is_within table.blocks (extent_of first count) ≡ true → room table count ≡ Some first
room_found table count first below free within =
    room_from_least table count first (record {
      free = record {
        within = (Decides-within table.blocks (extent_of first count)).0 within;
        apart = (Decides-free table.entries (extent_of first count)).0 free;
      };
      least = below.none;
    })

pub room_past : (table : Table) (count first : ℕ) → NoneBelow table count first → is_within table.blocks (extent_of first count) ≡ false → room table count ≡ None
room_past table count first below past =
    room-none table count (λ other free.
    let least : first ≤ other = below.none other free in
    let inside : other + count ≤ table.blocks = free.within.inside in
    let within : IsWithin table.blocks (extent_of first count) = record { behind_table = below.low; inside = omega arith } in
    both_ways _ past ((Decides-within table.blocks (extent_of first count)).1 within))

-- a search goes on after a volume that has a block of it
pub none_below_more : (table : Table) (count first end : ℕ) → NoneBelow table count first → EndsMet table.entries (extent_of first count) end → NoneBelow table count end
none_below_more table count first end below met =
    let entry = met.0 in
    let both = and_parts _ _ met.2 in
    let begins : entry.extent.first < first + count = ltb-true _ _ both.0 in
    let ends : first < end_of entry.extent = ltb-true _ _ both.1 in
    let there : end ≡ end_of entry.extent = met.3 in
    record {
      low = omega arith;
      none = λ other free.
          let least : first ≤ other = below.none other free in
          elim (All-contains (λ (e : Entry). AreApart e.extent (extent_of other count)) table.entries entry free.apart met.1) [
            | inl before ↦ omega arith
            | inr behind ↦ absurd (omega arith)
          ];
    }

-- from block 1 on
pub none_below_one : (table : Table) (count : ℕ) → NoneBelow table count 1
none_below_one table count = record { low = omega arith; none = λ other free. free.within.behind_table }

-- more blocks than the array has are free nowhere
pub room-too_many : (table : Table) (count : ℕ) → table.blocks < count → room table count ≡ None
room-too_many table count many = room-none table count (λ first free.
    let inside : first + count ≤ table.blocks = free.within.inside in
    omega arith)
