-- What bytes spell an event.
use Rattle.std.proofs.Common.{◌≡◌, ◌∙◌, ◌⊎◌, ℕ, zero, suc, ◌<◌, ◌≤◌, ◌^◌, Bool, true, false, List, ◌∷◌, ◌++◌, length, length-append, get_or, inl, inr, refl, sym, ap, subst, arith, lit<, below_more}
use Rattle.std.specs.Prelude.{codes}
use Rattle.std.specs.Bool.{Decides}
use Rattle.std.specs.Fmt.{decimal}
use Rattle.std.proofs.lemmas.Bool.{cases_lt}
use Rattle.std.proofs.lemmas.Fmt.{decimal_injective, length-decimal-le}
use Rattle.std.proofs.lemmas.List.{append_cancel_left}
use Rattle.std.proofs.lemmas.Slice.Eq.{bytes_eq-Decides}
use Rattle.stair_model.proofs.FirstLaws.{IsKnown, known_both, known_le}
use Rattle.stair_rack.specs.declared.watcher.Event.{Event}
use Rattle.stair_rack.specs.declared.watcher.Event.TheVariants.{Fenced, Repaired, Admitted, Promoted}
use Rattle.stair_conf.specs.Words.{IsNumber}
use Rattle.stair_script.proofs.WordLemmas.{number-IsWord, one_cut, word-HasNoSpace}
use Rattle.stair_script.specs.Line.{SpellsNumber}
use Rattle.stair_script.specs.Events.{IsEvent, SpellsEvent, event_text}

-- ---- they are those as which it is printed

named_text : (name bytes : List ℕ) (n : ℕ) → SpellsNumber name bytes n → bytes ≡ name ++ 32 ∷ decimal n
named_text name bytes n spells = spells.spelled ∙ ap (λ word. name ++ 32 ∷ word) spells.number.spelled

pub spells-text : (bytes : List ℕ) (said : Event) → SpellsEvent bytes said → bytes ≡ event_text said
spells-text bytes (Fenced slot) spells = named_text (codes "fenced") bytes slot spells.words
spells-text bytes (Repaired stripe cells) spells =
    let words = spells.words in
    words.spelled
    ∙ ap (λ word. codes "repaired stripe " ++ (word ++ (codes " cells " ++ words.cells_word))) words.stripe_number.spelled
    ∙ ap (λ word. codes "repaired stripe " ++ (decimal stripe ++ (codes " cells " ++ word))) words.cells_number.spelled
spells-text bytes (Admitted slot) spells = named_text (codes "admitted") bytes slot spells.words
spells-text bytes (Promoted slot) spells = named_text (codes "promoted") bytes slot spells.words

small_number : (n : ℕ) → n < 4294967295 → IsNumber (decimal n) n
small_number n small = record { spelled = refl; fits = omega arith }

text_number : (name : List ℕ) (n : ℕ) → n < 4294967295 → SpellsNumber name (name ++ 32 ∷ decimal n) n
text_number name n small = record { word = decimal n; spelled = refl; number = small_number n small }

pub text-spells : (said : Event) → IsEvent said → SpellsEvent (event_text said) said
text-spells (Fenced slot) is = record { words = text_number (codes "fenced") slot (omega arith); range = is }
text-spells (Repaired stripe cells) is = record {
  words = record {
    stripe_word = decimal stripe;
    cells_word = decimal cells;
    spelled = refl;
    stripe_number = small_number stripe is.0;
    cells_number = small_number cells (let most = is.1.1 in omega arith);
  };
  range = is;
}
text-spells (Admitted slot) is = record { words = text_number (codes "admitted") slot (omega arith); range = is }
text-spells (Promoted slot) is = record { words = text_number (codes "promoted") slot (omega arith); range = is }

-- ---- at most 37 bytes

short_decimal : (k n : ℕ) → 0 < k → n < 10 ^ k → n < 4294967295 → length (decimal n) ≤ k
short_decimal k n some short small = length-decimal-le k n some short (omega arith)

pub text_length : (said : Event) → IsEvent said → length (event_text said) ≤ 37
text_length (Fenced slot) is = let short = short_decimal 2 slot (lit< tt) (omega arith) (omega arith) in omega arith
text_length (Repaired stripe cells) is =
    let most = is.1.1 in
    let first = short_decimal 10 stripe (lit< tt) (let few = is.0 in omega arith) is.0 in
    let second = short_decimal 4 cells (lit< tt) (omega arith) (omega arith) in
    omega (arith, first, second, length-append (decimal stripe) (codes " cells " ++ decimal cells))
text_length (Admitted slot) is = let short = short_decimal 2 slot (lit< tt) (omega arith) (omega arith) in omega arith
text_length (Promoted slot) is = let short = short_decimal 2 slot (lit< tt) (omega arith) (omega arith) in omega arith

pub spells-length : (bytes : List ℕ) (said : Event) → SpellsEvent bytes said → length bytes ≤ 37
spells-length bytes said spells = rw (spells-text bytes said spells) (text_length said spells.range)

-- ---- they spell one event at most: the words of the kinds differ in their first letters

same_number : (m n : ℕ) → m < 4294967295 → n < 4294967295 → decimal m ≡ decimal n → m ≡ n
same_number m n one two same = decimal_injective m n (omega arith) (omega arith) same

same_slot : (name : List ℕ) (m n : ℕ) → m < 32 → n < 32 → name ++ decimal m ≡ name ++ decimal n → m ≡ n
same_slot name m n one two same = same_number m n (omega arith) (omega arith) (append_cancel_left name _ _ same)

same_repair : (m n k l : ℕ) → IsEvent (Repaired m k) → IsEvent (Repaired n l) → event_text (Repaired m k) ≡ event_text (Repaired n l)
    → Repaired m k ≡ Repaired n l
same_repair m n k l one two same =
    let values = append_cancel_left (codes "repaired stripe ") (decimal m ++ (codes " cells " ++ decimal k)) (decimal n ++ (codes " cells " ++ decimal l)) same in
    let cut = one_cut (decimal m) (decimal n) (codes "cells " ++ decimal k) (codes "cells " ++ decimal l)
    (word-HasNoSpace (decimal m) (number-IsWord (decimal m) m (small_number m one.0)))
    (word-HasNoSpace (decimal n) (number-IsWord (decimal n) n (small_number n two.0))) values in
    let most = one.1.1 in
    let other_most = two.1.1 in
    let stripes = same_number m n one.0 two.0 cut.0 in
    let cells = same_number k l (omega arith) (omega arith) (append_cancel_left (codes "cells ") (decimal k) (decimal l) cut.1) in
    λ i. Repaired (stripes i) (cells i)

text_once : (a b : Event) → IsEvent a → IsEvent b → event_text a ≡ event_text b → a ≡ b
text_once (Fenced m) (Fenced n) one two same = ap Fenced (same_slot (codes "fenced ") m n one two same)
text_once (Repaired m k) (Repaired n l) one two same = same_repair m n k l one two same
text_once (Admitted m) (Admitted n) one two same = ap Admitted (same_slot (codes "admitted ") m n one two same)
text_once (Promoted m) (Promoted n) one two same = ap Promoted (same_slot (codes "promoted ") m n one two same)
text_once a b one two same = let first = ap (λ (text : List ℕ). get_or text 0 0) same in absurd (omega arith)

pub event_once : (bytes : List ℕ) (a b : Event) → SpellsEvent bytes a → SpellsEvent bytes b → a ≡ b
event_once bytes a b one two =
    text_once a b one.range two.range (sym (spells-text bytes a one) ∙ spells-text bytes b two)

-- ---- whether they spell one is decided: there are only so many events

known_by_test : {P : Type 0} (test : Bool) → Decides test P → IsKnown P
known_by_test true decides = inl (decides.0 refl)
known_by_test false decides = inr (λ p. let passes : false ≡ true = decides.1 p in cc)

known_lt : (a b : ℕ) → IsKnown (a < b)
known_lt a b =
    elim (cases_lt a b) [
      | inl less ↦ inl less
      | inr not ↦ inr (λ less. omega arith)
    ]

known_range : (said : Event) → IsKnown (IsEvent said)
known_range (Fenced slot) = known_lt slot 32
known_range (Repaired stripe cells) = known_both (known_lt stripe 4294967295) (known_both (known_le 1 cells) (known_le cells 1024))
known_range (Admitted slot) = known_lt slot 32
known_range (Promoted slot) = known_lt slot 32

known_event : (bytes : List ℕ) (said : Event) → IsKnown (SpellsEvent bytes said)
known_event bytes said =
    elim (known_range said) [
      | inr out ↦ inr (λ spells. out spells.range)
      | inl range ↦ elim (known_by_test _ (bytes_eq-Decides bytes (event_text said))) [
        | inr other ↦ inr (λ spells. other (spells-text bytes said spells))
        | inl same ↦ inl (subst (λ text. SpellsEvent text said) (sym same) (text-spells said range))
      ]
    ]

-- one of the numbers below has it, or none of them
some_below : (P : ℕ → Type 0) → ((k : ℕ) → IsKnown (P k)) → (n : ℕ) → ((k : ℕ) × P k) ⊎ ((k : ℕ) → k < n → ¬ P k)
some_below P known zero = inr (λ k below. absurd (omega arith))
some_below P known (suc n) =
    elim (some_below P known n) [
      | inl some ↦ inl some
      | inr none ↦ elim (known n) [
        | inl here ↦ inl (n, here)
        | inr not ↦ inr (λ k below. below_more (λ j. ¬ P j) n none not k (omega arith))
      ]
    ]

-- so of all numbers, where those that have it are below
known_some : (P : ℕ → Type 0) (n : ℕ) → ((k : ℕ) → IsKnown (P k)) → ((k : ℕ) → P k → k < n) → IsKnown ((k : ℕ) × P k)
known_some P n known within =
    elim (some_below P known n) [
      | inl some ↦ inl some
      | inr none ↦ inr (λ some. none some.0 (within some.0 some.1) some.1)
    ]

known_slot : (bytes : List ℕ) (make : ℕ → Event) → ((slot : ℕ) → IsEvent (make slot) → slot < 32)
    → IsKnown ((slot : ℕ) × SpellsEvent bytes (make slot))
known_slot bytes make within =
    known_some (λ slot. SpellsEvent bytes (make slot)) 32 (λ slot. known_event bytes (make slot)) (λ slot spells. within slot spells.range)

known_repair : (bytes : List ℕ) → IsKnown ((stripe : ℕ) × ((cells : ℕ) × SpellsEvent bytes (Repaired stripe cells)))
known_repair bytes =
    known_some (λ stripe. (cells : ℕ) × SpellsEvent bytes (Repaired stripe cells)) 4294967295
    (λ stripe. known_some (λ cells. SpellsEvent bytes (Repaired stripe cells)) 1025 (λ cells. known_event bytes (Repaired stripe cells))
    (λ cells spells. let most = spells.range.1.1 in omega arith))
    (λ stripe some. some.1.range.0)

pub event_known : (bytes : List ℕ) → ((said : Event) × SpellsEvent bytes said) ⊎ ((said : Event) → ¬ SpellsEvent bytes said)
event_known bytes =
    elim (known_slot bytes Fenced (λ slot within. within)) [
      | inl some ↦ inl (Fenced some.0, some.1)
      | inr no_fenced ↦ elim (known_slot bytes Admitted (λ slot within. within)) [
        | inl some ↦ inl (Admitted some.0, some.1)
        | inr no_admitted ↦ elim (known_slot bytes Promoted (λ slot within. within)) [
          | inl some ↦ inl (Promoted some.0, some.1)
          | inr no_promoted ↦ elim (known_repair bytes) [
            | inl some ↦ inl (Repaired some.0 some.1.0, some.1.1)
            | inr no_repair ↦ inr (none no_fenced no_admitted no_promoted no_repair)
          ]
        ]
      ]
    ]
  where
    none : ¬ ((slot : ℕ) × SpellsEvent bytes (Fenced slot)) → ¬ ((slot : ℕ) × SpellsEvent bytes (Admitted slot))
        → ¬ ((slot : ℕ) × SpellsEvent bytes (Promoted slot))
        → ¬ ((stripe : ℕ) × ((cells : ℕ) × SpellsEvent bytes (Repaired stripe cells)))
        → (said : Event) → ¬ SpellsEvent bytes said
    none no_fenced no_admitted no_promoted no_repair (Fenced slot) = λ spells. no_fenced (slot, spells)
    none no_fenced no_admitted no_promoted no_repair (Repaired stripe cells) = λ spells. no_repair (stripe, (cells, spells))
    none no_fenced no_admitted no_promoted no_repair (Admitted slot) = λ spells. no_admitted (slot, spells)
    none no_fenced no_admitted no_promoted no_repair (Promoted slot) = λ spells. no_promoted (slot, spells)
