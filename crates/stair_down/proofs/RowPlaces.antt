-- The places by which a row is solved, made class by class, and the row that is solved by them.
use Rattle.std.proofs.Common.{◌≡◌, ℕ, ◌+◌, ◌-◌, ◌<◌, ◌≤◌, ◌⊎◌, List, length, take, set, slice_index, false, inl, inr, sym, subst, ap, ◌∙◌, arith}
use Rattle.std.specs.Prelude.{Contains}
use Rattle.std.proofs.lemmas.Bool.{cases_eq, cases_lt}
use Rattle.std.proofs.lemmas.Grind.{get_or-set_at}
use Rattle.std.proofs.lemmas.List.{get_or-set_other, length-set}
use Rattle.stair_model.specs.Canonical.{canonical_chunks, IsRowCodeword}
use Rattle.stair_model.specs.CauchyCode.{AreKnownPlaces, Agree}
use Rattle.stair_model.specs.Cell.{global_chunk, is_global, class_of}
use Rattle.stair_model.specs.Geometry.{Geometry, IsWithinLimits, classes, coverage, data_chunks}
use Rattle.stair_model.proofs.CellLaws.{is_global_tells}
use Rattle.stair_mds.specs.Solving.{AreWantedPlaces}
use Rattle.stair_canon.specs.Canonical.{CanonicalStripe, byte_at}
use Rattle.stair_canon.specs.Solving.{row_shape, SolvesRow}
use Rattle.stair_down.specs.DownstairsSteps.{CompletesRow}
use Rattle.stair_down.specs.Places.{IsPairOfClass, ArePlacesOfRow}
use Rattle.stair_mds.proofs.Stretches.{Contains-first, All-first, known_places, wanted_places}
use Rattle.stair_down.proofs.Lists.{solved_at}

-- ---- how the lists are made

-- the pairs of the classes below this one are set, and each later class still has its own chunk known
pub record HasPairs (g : Geometry) (i : ℕ) (known wanted : List ℕ) (class : ℕ) : Type 0 where
  pub limits : IsWithinLimits g
  pub known_room : length known ≡ 64
  pub wanted_room : length wanted ≡ 64
  pub first : (k : ℕ) → k < data_chunks g - classes g → slice_index known k ≡ k
  pub parities : (k : ℕ) → k < g.m → slice_index wanted k ≡ data_chunks g + k
  pub done : (l : ℕ) → l < class → IsPairOfClass g i l (slice_index known (global_chunk g l)) (slice_index wanted (g.m + l))
  pub left : (l : ℕ) → class ≤ l → l < classes g
      → (slice_index known (global_chunk g l) ≡ global_chunk g l) × (slice_index wanted (g.m + l) ≡ g.n + l)

module _ (g : Geometry) (i : ℕ) (known wanted : List ℕ) (class : ℕ) (within : class < classes g) (pairs : HasPairs g i known wanted class) where
  -- a class more, in a row above its global parities
  pub HasPairs-above : i < g.r - coverage g class → HasPairs g i known wanted (class + 1)
  HasPairs-above above = record {
    limits = pairs.limits;
    known_room = pairs.known_room;
    wanted_room = pairs.wanted_room;
    first = pairs.first;
    parities = pairs.parities;
    done = λ l below.
        elim (cases_eq l class) [
          | inl last ↦
              let at = pairs.left l (omega (arith, last)) (omega (arith, last)) in
              let row : i < g.r - coverage g l = subst (λ (x : ℕ). i < g.r - coverage g x) (sym last) above in
              record { above = λ is_above. at; below = λ is_below. absurd (omega (arith, row, is_below)) }
          | inr earlier ↦ pairs.done l (omega (arith, earlier))
        ];
    left = λ l from l_in. pairs.left l (omega arith) l_in;
  }

  -- and in a row of these
  pub HasPairs-below : (a x b y : ℕ) → a ≡ global_chunk g class → x ≡ g.n + class → b ≡ g.m + class → y ≡ global_chunk g class
      → g.r - coverage g class ≤ i → HasPairs g i (set known a x) (set wanted b y) (class + 1)
  HasPairs-below a x b y a_is x_is b_is y_is below = record {
    limits = pairs.limits;
    known_room = length-set known a x ∙ pairs.known_room;
    wanted_room = length-set wanted b y ∙ pairs.wanted_room;
    first = λ k k_in. get_or-set_other known a k x 0 (λ e. omega arith) ∙ pairs.first k k_in;
    parities = λ k k_in. get_or-set_other wanted b k y 0 (λ e. omega arith) ∙ pairs.parities k k_in;
    done = λ l l_in.
        elim (cases_eq l class) [
          | inl last ↦
              let row : g.r - coverage g l ≤ i = subst (λ (z : ℕ). g.r - coverage g z ≤ i) (sym last) below in
              let a_in : a < length known = omega (arith, pairs.known_room, pairs.limits.devices.1, pairs.limits.covered_chunks.1) in
              let b_in : b < length wanted =
              omega (arith, pairs.wanted_room, pairs.limits.devices.1, pairs.limits.majority, pairs.limits.covered_chunks.1) in
              record {
                above = λ is_above. absurd (omega (arith, row, is_above));
                below = λ is_below. (
                  get_or-set_at known a (global_chunk g l) x 0 (omega (arith, last, a_is)) a_in ∙ omega (arith, x_is, last),
                  get_or-set_at wanted b (g.m + l) y 0 (omega (arith, last, b_is)) b_in ∙ omega (arith, y_is, last),
                );
              }
          | inr earlier ↦
              let same_known : slice_index (set known a x) (global_chunk g l) ≡ slice_index known (global_chunk g l) =
              get_or-set_other known a (global_chunk g l) x 0 (λ e. earlier (omega (arith, e, a_is))) in
              let same_wanted : slice_index (set wanted b y) (g.m + l) ≡ slice_index wanted (g.m + l) =
              get_or-set_other wanted b (g.m + l) y 0 (λ e. earlier (omega (arith, e, b_is))) in
              let before = pairs.done l (omega (arith, earlier)) in
              record {
                above = λ is_above. (same_known ∙ (before.above is_above).0, same_wanted ∙ (before.above is_above).1);
                below = λ is_below. (same_known ∙ (before.below is_below).0, same_wanted ∙ (before.below is_below).1);
              }
        ];
    left = λ l from l_in. (
      get_or-set_other known a (global_chunk g l) x 0 (λ e. omega (arith, e, a_is)) ∙ (pairs.left l (omega arith) l_in).0,
      get_or-set_other wanted b (g.m + l) y 0 (λ e. omega (arith, e, b_is)) ∙ (pairs.left l (omega arith) l_in).1,
    );
  }

-- ---- what the lists are

-- a cell of a chunk before those that hold global parities is none
is_global-first : (g : Geometry) (i j : ℕ) → j < data_chunks g - classes g → is_global g i j ≡ false
is_global-first g i j before =
    elim (is_global_tells g i j) [
      | inl among ↦ absurd (omega (arith, among.chunk))
      | inr apart ↦ apart.test
    ]

-- nor is one above those of its class
is_global-above : (g : Geometry) (i l : ℕ) → i < g.r - coverage g l → is_global g i (global_chunk g l) ≡ false
is_global-above g i l above =
    elim (is_global_tells g i (global_chunk g l)) [
      | inl among ↦
          let class : class_of g (global_chunk g l) ≡ l = omega arith in
          let row : g.r - coverage g l + 0 ≤ i = subst (λ (x : ℕ). g.r - coverage g x + 0 ≤ i) class among.row in
          absurd (omega (arith, row, above))
      | inr apart ↦ apart.test
    ]

module _ (g : Geometry) (i : ℕ) (known wanted : List ℕ) (places : ArePlacesOfRow g i known wanted) where
  limits : IsWithinLimits g
  limits = places.limits

  -- the chunk in place t, from the first that holds global parities on
  at_class : (t : ℕ) → data_chunks g - classes g ≤ t → t < data_chunks g
      → (l : ℕ) × (l < classes g) × (global_chunk g l ≡ t)
  at_class t from below = (t - (data_chunks g - classes g), omega (arith, limits.covered_chunks.1), omega arith)

  -- the symbols of a class
  data Pair (l : ℕ) : Type 0 where
    Above : i < g.r - coverage g l → slice_index known (global_chunk g l) ≡ global_chunk g l
        → slice_index wanted (g.m + l) ≡ g.n + l → Pair l
    Below : g.r - coverage g l ≤ i → slice_index known (global_chunk g l) ≡ g.n + l
        → slice_index wanted (g.m + l) ≡ global_chunk g l → Pair l

  pair : (l : ℕ) → l < classes g → Pair l
  pair l within =
      elim (cases_lt i (g.r - coverage g l)) [
        | inl above ↦ let is = (places.pairs l within).above above in Above above is.0 is.1
        | inr below ↦ let is = (places.pairs l within).below below in Below below is.0 is.1
      ]

  -- a known place: its number, or the same number further on
  known_is : (t : ℕ) → t < data_chunks g
      → (slice_index known t ≡ t)
      ⊎ ((data_chunks g - classes g ≤ t) × (slice_index known t ≡ t + (g.m + classes g)))
  known_is t below =
      elim (cases_lt t (data_chunks g - classes g)) [
        | inl first ↦ inl (places.first t first)
        | inr from ↦
            let class = at_class t from below in
            elim (pair class.0 class.1) [
              | Above above is other ↦ inl (subst (λ (x : ℕ). slice_index known x ≡ x) class.2 is)
              | Below row is other ↦
                  inr (
                    from,
                    subst (λ (x : ℕ). slice_index known x ≡ g.n + class.0) class.2 is
                        ∙ omega (arith, class.2, limits.majority, limits.covered_chunks.1),
                  )
            ]
      ]

  -- a wanted place: that number, or the same further back
  wanted_is : (k : ℕ) → k < g.m + classes g
      → (slice_index wanted k ≡ data_chunks g + k)
      ⊎ ((g.m ≤ k) × (slice_index wanted k + (g.m + classes g) ≡ data_chunks g + k))
  wanted_is k below =
      elim (cases_lt k g.m) [
        | inl parity ↦ inl (places.parities k parity)
        | inr from ↦
            let l : ℕ = k - g.m in
            let here : g.m + l ≡ k = omega arith in
            elim (pair l (omega arith)) [
              | Above above other is ↦
                  inl (subst (λ (x : ℕ). slice_index wanted x ≡ g.n + l) here is ∙ omega (arith, here, limits.majority))
              | Below row other is ↦
                  let at : slice_index wanted k ≡ global_chunk g l = subst (λ (x : ℕ). slice_index wanted x ≡ global_chunk g l) here is in
                  inr (from, omega (arith, at, here, limits.covered_chunks.1))
            ]
      ]

  -- no place is known and wanted
  apart : (t k : ℕ) → t < data_chunks g → k < g.m + classes g → slice_index known t ≡ slice_index wanted k → ⊥
  apart t k t_in k_in same =
      elim (cases_lt t (data_chunks g - classes g)) [
        | inl first ↦
            elim (wanted_is k k_in) [
              | inl is ↦ omega (arith, same, is, places.first t first)
              | inr is ↦ omega (arith, same, is.0, is.1, places.first t first, limits.covered_chunks.1)
            ]
        | inr from ↦
            let class = at_class t from t_in in
            elim (cases_eq k (g.m + class.0)) [
              | inl own ↦
                  let meet : slice_index known (global_chunk g class.0) ≡ slice_index wanted (g.m + class.0) =
                  ap (slice_index known) class.2 ∙ same ∙ ap (slice_index wanted) own in
                  elim (pair class.0 class.1) [
                    | Above above is other ↦ omega (arith, meet, is, other, limits.majority, class.2)
                    | Below row is other ↦ omega (arith, meet, is, other, limits.majority, class.2)
                  ]
              | inr other ↦
                  elim (known_is t t_in) [
                    | inl is ↦
                        elim (wanted_is k k_in) [
                          | inl at ↦ omega (arith, same, is, at)
                          | inr at ↦ other (omega (arith, same, is, at.0, at.1, class.2, limits.covered_chunks.1))
                        ]
                    | inr is ↦
                        elim (wanted_is k k_in) [
                          | inl at ↦ other (omega (arith, same, is.1, at, class.2, limits.covered_chunks.1))
                          | inr at ↦ omega (arith, same, is.0, is.1, at.0, at.1, limits.parities)
                        ]
                  ]
            ]
      ]

  known_in : data_chunks g ≤ length known
  known_in = omega (arith, places.known_room, limits.devices.1)

  wanted_in : g.m + classes g ≤ length wanted
  wanted_in = omega (arith, places.wanted_room, limits.devices.1, limits.majority, limits.covered_chunks.1)

  pub AreKnownPlaces-row : AreKnownPlaces (data_chunks g) (canonical_chunks g) (take (data_chunks g) known)
  AreKnownPlaces-row =
      known_places (data_chunks g) (g.m + classes g) (canonical_chunks g) known wanted known_in wanted_in
      (λ t t_in. elim (known_is t t_in) [
        | inl is ↦ omega (arith, is)
        | inr is ↦ omega (arith, is.1, limits.majority)
      ])
      (λ s t s_in t_in same.
      elim (known_is s s_in) [
        | inl is ↦ elim (known_is t t_in) [
          | inl at ↦ omega (arith, same, is, at)
          | inr at ↦ absurd (omega (arith, same, is, at.0, at.1, limits.parities))
        ]
        | inr is ↦ elim (known_is t t_in) [
          | inl at ↦ absurd (omega (arith, same, is.0, is.1, at, limits.parities))
          | inr at ↦ omega (arith, same, is.1, at.1)
        ]
      ])

  pub AreWantedPlaces-row : AreWantedPlaces (row_shape g) (take (data_chunks g) known) (take (g.m + classes g) wanted)
  AreWantedPlaces-row =
      wanted_places (data_chunks g) (g.m + classes g) (canonical_chunks g) known wanted known_in wanted_in
      (λ k k_in. elim (wanted_is k k_in) [
        | inl is ↦ omega (arith, is, limits.majority)
        | inr is ↦ omega (arith, is.1, limits.majority)
      ])
      (λ k h k_in h_in same.
      elim (wanted_is k k_in) [
        | inl is ↦ elim (wanted_is h h_in) [
          | inl at ↦ omega (arith, same, is, at)
          | inr at ↦ absurd (omega (arith, same, is, at.1))
        ]
        | inr is ↦ elim (wanted_is h h_in) [
          | inl at ↦ absurd (omega (arith, same, is.1, at))
          | inr at ↦ omega (arith, same, is.1, at.1)
        ]
      ])
      apart

  -- each chunk is known or wanted
  each_place : (j : ℕ) → j < canonical_chunks g → Contains (take (data_chunks g) known) j ⊎ Contains (take (g.m + classes g) wanted) j
  each_place j j_in =
      elim (cases_lt j (data_chunks g - classes g)) [
        | inl first ↦ inl (Contains-first (data_chunks g) known known_in j j (omega arith) (places.first j first))
        | inr from ↦
            elim (cases_lt j (data_chunks g)) [
              | inl below ↦
                  let class = at_class j from below in
                  elim (pair class.0 class.1) [
                    | Above above is other ↦
                        inl (Contains-first (data_chunks g) known known_in (global_chunk g class.0) j (omega (arith, class.2)) (is ∙ class.2))
                    | Below row is other ↦
                        inr (Contains-first (g.m + classes g) wanted wanted_in (g.m + class.0) j (omega (arith, class.1)) (other ∙ class.2))
                  ]
              | inr past ↦
                  elim (cases_lt j g.n) [
                    | inl parity ↦
                        let k : ℕ = j - data_chunks g in
                        let k_in : k < g.m = omega (arith, limits.majority) in
                        inr (Contains-first (g.m + classes g) wanted wanted_in k j (omega arith) (places.parities k k_in ∙ omega arith))
                    | inr beyond ↦
                        let l : ℕ = j - g.n in
                        let l_in : l < classes g = omega arith in
                        let here : g.n + l ≡ j = omega arith in
                        elim (pair l l_in) [
                          | Above above is other ↦
                              inr (Contains-first (g.m + classes g) wanted wanted_in (g.m + l) j (omega arith) (other ∙ here))
                          | Below row is other ↦
                              inl (Contains-first (data_chunks g) known known_in (global_chunk g l) j
                              (omega (arith, limits.covered_chunks.1)) (is ∙ here))
                        ]
                  ]
            ]
      ]

  -- a codeword that has the data cells of the row, and the intermediate symbols of the classes whose global parities it has,
  -- has all known symbols
  known_agree : (c v : ℕ → ℕ)
      → ((j : ℕ) → j < data_chunks g → is_global g i j ≡ false → c j ≡ v j)
      → ((l : ℕ) → l < classes g → g.r - coverage g l ≤ i → c (g.n + l) ≡ v (g.n + l))
      → Agree (take (data_chunks g) known) c v
  known_agree c v cells symbols =
      All-first (data_chunks g) known known_in (λ p. c p ≡ v p)
      (λ t below.
      elim (cases_lt t (data_chunks g - classes g)) [
        | inl first ↦ subst (λ (p : ℕ). c p ≡ v p) (sym (places.first t first)) (cells t below (is_global-first g i t first))
        | inr from ↦
            let class = at_class t from below in
            subst (λ (x : ℕ). c (slice_index known x) ≡ v (slice_index known x)) class.2
            (elim (pair class.0 class.1) [
              | Above above is other ↦
                  subst (λ (p : ℕ). c p ≡ v p) (sym is)
                  (cells (global_chunk g class.0) (omega (arith, class.2)) (is_global-above g i class.0 above))
              | Below row is other ↦ subst (λ (p : ℕ). c p ≡ v p) (sym is) (symbols class.0 class.1 row)
            ])
      ])

-- a row that was solved by these places is completed
pub CompletesRow-from : (i : ℕ) (known wanted : List ℕ) (old new : CanonicalStripe) → ArePlacesOfRow old.geometry i known wanted
    → SolvesRow i (take (data_chunks old.geometry) known) (take (old.geometry.m + classes old.geometry) wanted) old new
    → CompletesRow old.geometry i old new
CompletesRow-from i known wanted old new places solves =
    let g = old.geometry in
    record {
      geometry = solves.changes.geometry;
      others = λ t j other. solves.changes.others t j (λ both. other both.0);
      row = λ q c q_in codeword cells symbols j j_in.
          solved_at (row_shape g) (IsRowCodeword g) (take (data_chunks g) known) (take (g.m + classes g) wanted)
          (λ p x. byte_at old p i x) (λ p x. byte_at new p i x) (AreWantedPlaces-row g i known wanted places) solves.symbols
          (λ p x other. ap (λ bytes. slice_index bytes p) (solves.changes.others i x (λ both. other both.1)))
          q c q_in codeword
          (known_agree g i known wanted places c (λ x. byte_at old q i x) cells symbols)
          j (each_place g i known wanted places j j_in);
    }
