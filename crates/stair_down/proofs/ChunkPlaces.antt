-- The places by which an intermediate chunk is solved, made row by row, and the chunk that is solved by them.
use Rattle.std.proofs.Common.{◌≡◌, ℕ, ◌+◌, ◌-◌, ◌<◌, ◌≤◌, ◌⊎◌, List, length, take, slice_index, inl, inr, sym, subst, ap, ◌∙◌, arith}
use Rattle.std.specs.Prelude.{Contains}
use Rattle.std.proofs.lemmas.Bool.{cases_lt}
use Rattle.stair_model.specs.Canonical.{canonical_rows, IsColumnCodeword}
use Rattle.stair_model.specs.CauchyCode.{AreKnownPlaces, Agree}
use Rattle.stair_model.specs.Geometry.{Geometry, IsWithinLimits, classes, coverage, greatest_coverage}
use Rattle.stair_model.proofs.CanonicalLaws.{coverage_le_greatest}
use Rattle.stair_mds.specs.Solving.{AreWantedPlaces}
use Rattle.stair_canon.specs.Canonical.{CanonicalStripe, byte_at}
use Rattle.stair_canon.specs.Solving.{column_shape, SolvesChunk}
use Rattle.stair_down.specs.DownstairsSteps.{CompletesChunk}
use Rattle.stair_down.specs.Places.{ArePlacesOfChunk}
use Rattle.stair_mds.proofs.Stretches.{Contains-first, All-first, known_places, wanted_places}
use Rattle.stair_down.proofs.Lists.{solved_at}

-- ---- how the list of known rows is made

-- the rows from the first global parity on, up to this one, stand as virtual ones
pub record HasMoved (rows covered : ℕ) (known : List ℕ) (row : ℕ) : Type 0 where
  pub room : length known ≡ 64
  pub above : (i : ℕ) → i < rows - covered → slice_index known i ≡ i
  pub virtual : (i : ℕ) → rows - covered ≤ i → i < row → slice_index known i ≡ i + covered

-- ---- what the lists are

module _ (g : Geometry) (l : ℕ) (within : l < classes g) (known wanted : List ℕ) (places : ArePlacesOfChunk g l known wanted) where
  limits : IsWithinLimits g
  limits = places.limits

  fits : coverage g l ≤ greatest_coverage g
  fits = coverage_le_greatest g limits l within

  known_in : g.r ≤ length known
  known_in = omega (arith, places.known_room, limits.rows.1)

  wanted_in : coverage g l ≤ length wanted
  wanted_in = omega (arith, places.wanted_room, places.covered, limits.rows.1)

  -- a known place: its number, or the same number further on
  known_is : (t : ℕ) → t < g.r
      → ((t < g.r - coverage g l) × (slice_index known t ≡ t))
      ⊎ ((g.r - coverage g l ≤ t) × (slice_index known t ≡ t + coverage g l))
  known_is t below =
      elim (cases_lt t (g.r - coverage g l)) [
        | inl above ↦ inl (above, places.above t above)
        | inr from ↦ inr (from, places.virtual t from below)
      ]

  pub AreKnownPlaces-chunk : AreKnownPlaces g.r (canonical_rows g) (take g.r known)
  AreKnownPlaces-chunk =
      known_places g.r (coverage g l) (canonical_rows g) known wanted known_in wanted_in
      (λ t t_in. elim (known_is t t_in) [
        | inl is ↦ omega (arith, is.1)
        | inr is ↦ omega (arith, is.1, fits)
      ])
      (λ s t s_in t_in same.
      elim (known_is s s_in) [
        | inl is ↦ elim (known_is t t_in) [
          | inl at ↦ omega (arith, same, is.1, at.1)
          | inr at ↦ absurd (omega (arith, same, is.0, is.1, at.0, at.1, places.covered))
        ]
        | inr is ↦ elim (known_is t t_in) [
          | inl at ↦ absurd (omega (arith, same, is.0, is.1, at.0, at.1, places.covered))
          | inr at ↦ omega (arith, same, is.1, at.1)
        ]
      ])

  pub AreWantedPlaces-chunk : AreWantedPlaces (column_shape g) (take g.r known) (take (coverage g l) wanted)
  AreWantedPlaces-chunk =
      wanted_places g.r (coverage g l) (canonical_rows g) known wanted known_in wanted_in
      (λ h h_in. omega (arith, places.below h h_in, places.covered))
      (λ h k h_in k_in same. omega (arith, same, places.below h h_in, places.below k k_in))
      (λ t h t_in h_in same.
      elim (known_is t t_in) [
        | inl is ↦ omega (arith, same, is.0, is.1, places.below h h_in)
        | inr is ↦ omega (arith, same, is.0, is.1, places.below h h_in, places.covered)
      ])

  -- each row up to the last virtual one that is zero is known or wanted
  each_place : (i : ℕ) → i < g.r + coverage g l → Contains (take g.r known) i ⊎ Contains (take (coverage g l) wanted) i
  each_place i i_in =
      elim (cases_lt i (g.r - coverage g l)) [
        | inl above ↦ inl (Contains-first g.r known known_in i i (omega arith) (places.above i above))
        | inr from ↦
            elim (cases_lt i g.r) [
              | inl below ↦
                  let h : ℕ = i - (g.r - coverage g l) in
                  let h_in : h < coverage g l = omega (arith, places.covered) in
                  inr (Contains-first (coverage g l) wanted wanted_in h i h_in (places.below h h_in ∙ omega arith))
              | inr past ↦
                  let t : ℕ = i - coverage g l in
                  let t_in : t < g.r = omega (arith, places.covered) in
                  inl (Contains-first g.r known known_in t i t_in (places.virtual t (omega (arith, places.covered)) t_in ∙ omega (arith, places.covered)))
            ]
      ]

  -- a codeword that has the symbols above the global parities and the first virtual ones has all known symbols
  known_agree : (c v : ℕ → ℕ)
      → ((i : ℕ) → i < g.r - coverage g l → c i ≡ v i)
      → ((h : ℕ) → h < coverage g l → c (g.r + h) ≡ v (g.r + h))
      → Agree (take g.r known) c v
  known_agree c v symbols zeros =
      All-first g.r known known_in (λ p. c p ≡ v p)
      (λ t below.
      elim (known_is t below) [
        | inl is ↦ subst (λ (p : ℕ). c p ≡ v p) (sym is.1) (symbols t is.0)
        | inr is ↦
            let h : ℕ = t - (g.r - coverage g l) in
            let here : slice_index known t ≡ g.r + h = omega (arith, is.0, is.1, places.covered) in
            subst (λ (p : ℕ). c p ≡ v p) (sym here) (zeros h (omega (arith, places.covered)))
      ])

-- an intermediate chunk that was solved by these places is completed
pub CompletesChunk-from : (l column : ℕ) (known wanted : List ℕ) (old new : CanonicalStripe) → l < classes old.geometry
    → column ≡ old.geometry.n + l → ArePlacesOfChunk old.geometry l known wanted
    → SolvesChunk column (take old.geometry.r known) (take (coverage old.geometry l) wanted) old new → CompletesChunk old.geometry l old new
CompletesChunk-from l column known wanted old new within is places solves' =
    let g = old.geometry in
    let solves : SolvesChunk (g.n + l) (take g.r known) (take (coverage g l) wanted) old new =
    subst (λ (x : ℕ). SolvesChunk x (take g.r known) (take (coverage g l) wanted) old new) is solves' in
    record {
      geometry = solves.changes.geometry;
      others = λ t j other. solves.changes.others t j (λ both. other both.1);
      chunk = λ q c q_in codeword symbols zeros i i_in.
          solved_at (column_shape g) (IsColumnCodeword g) (take g.r known) (take (coverage g l) wanted)
          (λ p x. byte_at old p x (g.n + l)) (λ p x. byte_at new p x (g.n + l))
          (AreWantedPlaces-chunk g l within known wanted places) solves.symbols
          (λ p x other. ap (λ bytes. slice_index bytes p) (solves.changes.others x (g.n + l) (λ both. other both.0)))
          q c q_in codeword
          (known_agree g l within known wanted places c (λ x. byte_at old q x (g.n + l)) symbols zeros)
          i (each_place g l within known wanted places i i_in);
    }
