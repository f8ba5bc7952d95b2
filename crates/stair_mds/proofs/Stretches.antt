-- Stretches of a list of places, and the known and wanted places of a code that are such.
use Rattle.std.proofs.Common.{◌≡◌, ℕ, ◌+◌, ◌-◌, ◌<◌, ◌≤◌, ◌⊎◌, List, length, take, drop, slice_index, refl, inl, inr, sym, subst, ap, ◌∙◌, arith}
use Rattle.std.specs.Prelude.{All, Contains}
use Rattle.std.proofs.lemmas.List.{get_or-take, get_or-drop, get_or_default, length-take-le, length-drop}
use Rattle.std.proofs.lemmas.List.Elements.{All-from_get_or}
use Rattle.stair_model.specs.CauchyCode.{AreDistinct, AreKnownPlaces}
use Rattle.stair_mds.specs.Solving.{AreWantedPlaces, Shape}

-- the elements from this one on, so many of them
pub record IsStretch (from count : ℕ) (places stretch : List ℕ) : Type 0 where
  pub many : length stretch ≡ count
  pub each : (i : ℕ) → i < count → slice_index stretch i ≡ slice_index places (from + i)

pub IsStretch-take : (places : List ℕ) (from count n : ℕ) → from ≡ 0 → n ≡ count → count ≤ length places → IsStretch from count places (take n places)
IsStretch-take places from count n start same within = record {
  many = length-take-le n places (omega arith) ∙ same;
  each = λ i below. get_or-take n places i 0 (omega arith) ∙ ap (slice_index places) (omega arith);
}

pub IsStretch-range : (places : List ℕ) (from count a b : ℕ) → a ≡ from → b ≡ from + count → from + count ≤ length places
    → IsStretch from count places (take (b - a) (drop a places))
IsStretch-range places from count a b start end within = record {
  many = length-take-le (b - a) (drop a places) (omega (arith, length-drop a places)) ∙ omega arith;
  each = λ i below.
      get_or-take (b - a) (drop a places) i 0 (omega arith) ∙ get_or-drop a places i 0 ∙ ap (slice_index places) (omega arith);
}

module _ (from count : ℕ) (places stretch : List ℕ) (is : IsStretch from count places stretch) where
  -- the elements at these places are contained, and no others
  pub Contains-stretch : (p : ℕ) → from ≤ p → p < from + count → Contains stretch (slice_index places p)
  Contains-stretch p above below =
      let place : from + (p - from) ≡ p = omega arith in (
        p - from,
        omega (arith, is.many),
        get_or_default stretch (p - from) (slice_index places p) 0 (omega (arith, is.many))
            ∙ is.each (p - from) (omega arith) ∙ ap (slice_index places) place,
      )

  pub place_in_stretch : (y : ℕ) → Contains stretch y → (p : ℕ) × (from ≤ p) × (p < from + count) × (slice_index places p ≡ y)
  place_in_stretch y one = (
    from + one.0,
    omega arith,
    omega (arith, one.1, is.many),
    sym (is.each one.0 (omega (arith, one.1, is.many))) ∙ get_or_default stretch one.0 0 y one.1 ∙ one.2,
  )

  -- what holds of each of these holds of the whole stretch, and the other way round
  pub All-stretch : (P : ℕ → Type 0) → ((p : ℕ) → from ≤ p → p < from + count → P (slice_index places p)) → All P stretch
  All-stretch P each =
      All-from_get_or P stretch 0
      (λ i below. subst P (sym (is.each i (omega (arith, below, is.many)))) (each (from + i) (omega arith) (omega (arith, below, is.many))))

  pub stretch_each : (P : ℕ → Type 0) → All P stretch → (p : ℕ) → from ≤ p → p < from + count → P (slice_index places p)
  stretch_each P all p above below =
      let place : from + (p - from) ≡ p = omega arith in
      subst P (is.each (p - from) (omega arith) ∙ ap (slice_index places) place) (all (p - from) 0 (omega (arith, is.many)))

  -- and so does that no two of them are the same
  pub AreDistinct-stretch
      : ((s t : ℕ) → from ≤ s → s < from + count → from ≤ t → t < from + count → slice_index places s ≡ slice_index places t → s ≡ t)
      → AreDistinct (length stretch) (slice_index stretch)
  AreDistinct-stretch once i j i_in j_in same =
      let equal : from + i ≡ from + j =
      once (from + i) (from + j) (omega arith) (omega (arith, i_in, is.many)) (omega arith) (omega (arith, j_in, is.many))
      (sym (is.each i (omega (arith, i_in, is.many))) ∙ same ∙ is.each j (omega (arith, j_in, is.many))) in
      omega arith

-- a stretch of one list may be known, and one of another then be wanted
module _ (code : Shape) (known_from held from count : ℕ) (places others known wanted : List ℕ)
    (is_known : IsStretch known_from held places known) (is_wanted : IsStretch from count others wanted) where
  AreKnownPlaces-stretch : ((p : ℕ) → known_from ≤ p → p < known_from + held → slice_index places p < code.total)
      → ((s t : ℕ) → known_from ≤ s → s < known_from + held → known_from ≤ t → t < known_from + held
      → slice_index places s ≡ slice_index places t → s ≡ t)
      → AreKnownPlaces held code.total known
  AreKnownPlaces-stretch below once = record {
    count = is_known.many;
    below = All-stretch known_from held places known is_known (λ p. p < code.total) below;
    distinct = AreDistinct-stretch known_from held places known is_known once;
  }

  AreWantedPlaces-stretch : ((p : ℕ) → from ≤ p → p < from + count → slice_index others p < code.total)
      → ((s t : ℕ) → from ≤ s → s < from + count → from ≤ t → t < from + count → slice_index others s ≡ slice_index others t → s ≡ t)
      → ((s t : ℕ) → known_from ≤ s → s < known_from + held → from ≤ t → t < from + count
      → slice_index places s ≡ slice_index others t → ⊥)
      → AreWantedPlaces code known wanted
  AreWantedPlaces-stretch below once apart = record {
    below = All-stretch from count others wanted is_wanted (λ p. p < code.total) below;
    distinct = AreDistinct-stretch from count others wanted is_wanted once;
    unknown = All-stretch from count others wanted is_wanted (λ p. Contains known p → ⊥)
        (λ t above inside in_known.
        let one = place_in_stretch known_from held places known is_known (slice_index others t) in_known in
        apart one.0 t one.1 one.2 above inside one.3);
  }

-- ---- stretches of one list

-- the first `many` places lie below `total`, and no two of them are the same
pub record ArePlacesOnce (many total : ℕ) (places : List ℕ) : Type 0 where
  pub long : many ≤ length places
  pub below : (i : ℕ) → i < many → slice_index places i < total
  pub distinct : AreDistinct many (slice_index places)

-- a stretch as long as a code holds symbols may be known
pub known_stretch : (many held total from : ℕ) (places known : List ℕ) → ArePlacesOnce many total places
    → IsStretch from held places known → from + held ≤ many → AreKnownPlaces held total known
known_stretch many held total from places known once is within =
    AreKnownPlaces-stretch (record { held = held; total = total }) from held from held places places known known is is
    (λ p above below. once.below p (omega arith))
    (λ s t s_from s_to t_from t_to same. once.distinct s t (omega arith) (omega arith) same)

-- and a stretch beside it wanted
pub wanted_stretch : (many : ℕ) (code : Shape) (known_from held from count : ℕ) (places known wanted : List ℕ)
    → ArePlacesOnce many code.total places → IsStretch known_from held places known → IsStretch from count places wanted
    → known_from + held ≤ many → from + count ≤ many → (from + count ≤ known_from) ⊎ (known_from + held ≤ from)
    → AreWantedPlaces code known wanted
wanted_stretch many code known_from held from count places known wanted once is_known is known_within within apart =
    AreWantedPlaces-stretch code known_from held from count places places known wanted is_known is
    (λ p above below. once.below p (omega arith))
    (λ s t s_from s_to t_from t_to same. once.distinct s t (omega arith) (omega arith) same)
    (λ s t s_from s_to t_from t_to same.
    let equal : s ≡ t = once.distinct s t (omega arith) (omega arith) same in
    elim apart [ inl before ↦ omega arith | inr behind ↦ omega arith ])

-- ---- the first places of lists

module _ (n : ℕ) (xs : List ℕ) (room : n ≤ length xs) where
  first : IsStretch 0 n xs (take n xs)
  first = IsStretch-take xs 0 n n refl refl room

  pub Contains-first : (k j : ℕ) → k < n → slice_index xs k ≡ j → Contains (take n xs) j
  Contains-first k j below is =
      subst (Contains (take n xs)) is (Contains-stretch 0 n xs (take n xs) first k (omega arith) (omega arith))

  pub All-first : (P : ℕ → Type 0) → ((k : ℕ) → k < n → P (slice_index xs k)) → All P (take n xs)
  All-first P each = All-stretch 0 n xs (take n xs) first P (λ k above below. each k (omega arith))

-- the first `held` places of one list may be known, and the first `more` of another then be wanted
module _ (held more total : ℕ) (known wanted : List ℕ) (known_room : held ≤ length known) (wanted_room : more ≤ length wanted) where
  pub known_places : ((t : ℕ) → t < held → slice_index known t < total) → AreDistinct held (slice_index known)
      → AreKnownPlaces held total (take held known)
  known_places below distinct =
      AreKnownPlaces-stretch (record { held = held; total = total }) 0 held 0 more known wanted (take held known) (take more wanted)
      (first held known known_room) (first more wanted wanted_room)
      (λ p from to. below p (omega arith))
      (λ s t s_from s_to t_from t_to same. distinct s t (omega arith) (omega arith) same)

  pub wanted_places : ((k : ℕ) → k < more → slice_index wanted k < total) → AreDistinct more (slice_index wanted)
      → ((t k : ℕ) → t < held → k < more → slice_index known t ≡ slice_index wanted k → ⊥)
      → AreWantedPlaces (record { held = held; total = total }) (take held known) (take more wanted)
  wanted_places below distinct apart =
      AreWantedPlaces-stretch (record { held = held; total = total }) 0 held 0 more known wanted (take held known) (take more wanted)
      (first held known known_room) (first more wanted wanted_room)
      (λ p from to. below p (omega arith))
      (λ s t s_from s_to t_from t_to same. distinct s t (omega arith) (omega arith) same)
      (λ s t s_from s_to t_from t_to same. apart s t (omega arith) (omega arith) same)
