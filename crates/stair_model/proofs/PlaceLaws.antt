-- Codewords and the places at which they are known, where a function lists these.
use Rattle.std.proofs.Common.{◌≡◌, ℕ, ◌+◌, ◌<◌, ◌≤◌, List, length, slice_index, slice_index_or, inl, inr, sym, ◌∙◌, ap, subst, arith, nat_lt, if◌then◌else◌}
use Rattle.std.specs.Prelude.{map}
use Rattle.std.specs.List.{range_with_len}
use Rattle.std.proofs.lemmas.Bool.{cases_lt, lt-ltb, le-ltb, cond-true, cond-false}
use Rattle.std.proofs.lemmas.List.Elements.{All-get_or, All-from_get_or}
use Rattle.std.proofs.lemmas.List.FromFn.{length-map-range_with_len, get_or-map-range_with_len}
use Rattle.stair_model.specs.Field.{product}
use Rattle.stair_model.specs.CauchyCode.{coefficient, AreDistinct, IsSystematicCodeword, AreKnownPlaces}
use Rattle.stair_model.proofs.FieldLaws.{product-lt, product-one_left}
use Rattle.stair_model.proofs.SumLaws.{field_sum_same}
use Rattle.stair_model.proofs.CodeLaws.{codeword_exists, codeword_determined}

-- ---- lists of a function's values

-- f 0, .. , f (n - 1)
pub list_of : {X : Type 0} → ℕ → (ℕ → X) → List X
list_of n f = map f (range_with_len 0 n)

pub length-list_of : {X : Type 0} (n : ℕ) (f : ℕ → X) → length (list_of n f) ≡ n
unfolding list_of
length-list_of n f = length-map-range_with_len f 0 n

pub list_of_at : {X : Type 0} (n : ℕ) (f : ℕ → X) (i : ℕ) (d : X) → i < n → slice_index_or (list_of n f) i d ≡ f i
unfolding list_of
list_of_at n f i d within = get_or-map-range_with_len f 0 n i i d within (omega arith)

-- ---- known places

-- f 0 .. f (held - 1) are places of a word, no two of them the same
pub record ArePlaces (held total : ℕ) (f : ℕ → ℕ) : Type 0 where
  pub below : (i : ℕ) → i < held → f i < total
  pub distinct : AreDistinct held f

known_places : (held total : ℕ) (f : ℕ → ℕ) → ArePlaces held total f → AreKnownPlaces held total (list_of held f)
known_places held total f places = record {
  count = count;
  below = All-from_get_or (λ p. p < total) (list_of held f) 0
      (λ i h. subst (λ (p : ℕ). p < total) (sym (at i h)) (places.below i (omega (arith, count))));
  distinct = λ i j i_in j_in same.
      places.distinct i j (omega (arith, count)) (omega (arith, count)) (sym (at i i_in) ∙ same ∙ at j j_in);
}
  where
    count : length (list_of held f) ≡ held
    count = length-list_of held f

    at : (i : ℕ) → i < length (list_of held f) → slice_index (list_of held f) i ≡ f i
    at i h = list_of_at held f i 0 (omega (arith, count))

-- codewords that agree at these places agree everywhere
pub same_from_places : (held total : ℕ) (f c d : ℕ → ℕ) (b : ℕ) → held ≤ total → total ≤ 256 → ArePlaces held total f
    → IsSystematicCodeword held total (coefficient held) c → IsSystematicCodeword held total (coefficient held) d
    → ((i : ℕ) → i < held → c (f i) ≡ d (f i)) → b < total → c b ≡ d b
same_from_places held total f c d b room few places first second agree within =
    codeword_determined held total (list_of held f) c d b room few (known_places held total f places) first second
    (All-from_get_or (λ p. c p ≡ d p) (list_of held f) 0
    (λ i h.
    let below : i < held = omega (arith, length-list_of held f) in
    subst (λ (p : ℕ). c p ≡ d p) (sym (list_of_at held f i 0 below)) (agree i below)))
    within

-- some codeword has any bytes at these places
pub codeword_through : (held total : ℕ) (f v : ℕ → ℕ) → held ≤ total → total ≤ 256 → ArePlaces held total f
    → (c : ℕ → ℕ) × IsSystematicCodeword held total (coefficient held) c × ((i : ℕ) → i < held → v (f i) < 256 → c (f i) ≡ v (f i))
codeword_through held total f v room few places =
    let made = codeword_exists held total (list_of held f) (λ p. product 1 (v p)) room few (known_places held total f places)
    (λ p p_in. product-lt 1 (v p))
    in (
      made.0,
      made.1,
      λ i below byte.
          subst (λ (p : ℕ). made.0 p ≡ product 1 (v p)) (list_of_at held f i 0 below)
          (All-get_or (λ p. made.0 p ≡ product 1 (v p)) (list_of held f) i 0 (omega (arith, length-list_of held f)) made.2)
          ∙ product-one_left (v (f i)) byte,
    )

-- a word that has at each place what a codeword has is a codeword
pub same_codeword : (held total : ℕ) (matrix : ℕ → ℕ → ℕ) (c d : ℕ → ℕ) → held ≤ total
    → IsSystematicCodeword held total matrix c → ((p : ℕ) → p < total → d p ≡ c p) → IsSystematicCodeword held total matrix d
same_codeword held total matrix c d room codeword same = record {
  bytes = λ p p_in. subst (λ (b : ℕ). b < 256) (sym (same p p_in)) (codeword.bytes p p_in);
  parity = λ k k_in.
      same (held + k) k_in ∙ codeword.parity k k_in
      ∙ field_sum_same held (λ j. product (matrix k j) (c j)) (λ j. product (matrix k j) (d j))
      (λ j j_in. ap (product (matrix k j)) (sym (same j (omega arith))));
}

-- ---- places of which some have moved

-- place i, or where bound is below e i the place s further
pub moved : ℕ → (ℕ → ℕ) → ℕ → ℕ → ℕ
moved bound e s i = if nat_lt bound (e i) then i + s else i

pub moved_stays : (bound : ℕ) (e : ℕ → ℕ) (s i : ℕ) → e i ≤ bound → moved bound e s i ≡ i
unfolding moved
moved_stays bound e s i h = cond-false _ _ _ (le-ltb bound (e i) h)

pub moved_goes : (bound : ℕ) (e : ℕ → ℕ) (s i : ℕ) → bound < e i → moved bound e s i ≡ i + s
unfolding moved
moved_goes bound e s i h = cond-true _ _ _ (lt-ltb bound (e i) h)

-- where all that move go past the held places and stay in the word, no two meet
pub moved_places : (held total bound : ℕ) (e : ℕ → ℕ) (s : ℕ) → held ≤ total
    → ((i : ℕ) → i < held → bound < e i → (held ≤ i + s) × (i + s < total)) → ArePlaces held total (moved bound e s)
moved_places held total bound e s room past = record {
  below = λ i h.
      elim (cases_lt bound (e i)) [
        | inl goes ↦ subst (λ (p : ℕ). p < total) (sym (moved_goes bound e s i goes)) (past i h goes).1
        | inr stays ↦ subst (λ (p : ℕ). p < total) (sym (moved_stays bound e s i stays)) (omega arith)
      ];
  distinct = distinct;
}
  where
    distinct : (i j : ℕ) → i < held → j < held → moved bound e s i ≡ moved bound e s j → i ≡ j
    distinct i j i_in j_in same =
        elim (cases_lt bound (e i)) [
          | inl goes ↦
              let to : moved bound e s i ≡ i + s = moved_goes bound e s i goes in
              let far : held ≤ i + s = (past i i_in goes).0 in
              elim (cases_lt bound (e j)) [
                | inl goes' ↦ let to' : moved bound e s j ≡ j + s = moved_goes bound e s j goes' in omega arith
                | inr stays' ↦ let to' : moved bound e s j ≡ j = moved_stays bound e s j stays' in absurd (omega arith)
              ]
          | inr stays ↦
              let to : moved bound e s i ≡ i = moved_stays bound e s i stays in
              elim (cases_lt bound (e j)) [
                | inl goes' ↦
                    let to' : moved bound e s j ≡ j + s = moved_goes bound e s j goes' in
                    let far : held ≤ j + s = (past j j_in goes').0 in
                    absurd (omega arith)
                | inr stays' ↦ let to' : moved bound e s j ≡ j = moved_stays bound e s j stays' in omega arith
              ]
        ]
