-- The rows of a stripe and the virtual rows as places, and a chunk that is extended from its first ones.
use Rattle.std.proofs.Common.{◌≡◌, ℕ, ◌+◌, ◌-◌, ◌<◌, ◌≤◌, ◌⊎◌, ◌↔◌, List, length, take, drop, slice_index, refl, inl, inr, sym, subst, ap, ◌∙◌, arith}
use Rattle.std.specs.Prelude.{Contains}
use Rattle.std.proofs.lemmas.Bool.{cases_lt}
use Rattle.stair_model.specs.Canonical.{canonical_rows}
use Rattle.stair_model.specs.CauchyCode.{AreKnownPlaces, Agree}
use Rattle.stair_model.specs.Geometry.{Geometry, IsWithinLimits, greatest_coverage}
use Rattle.stair_model.specs.Matrix.{column_coefficient}
use Rattle.stair_model.proofs.PlaceLaws.{same_codeword}
use Rattle.stair_mds.specs.Solving.{AreWantedPlaces}
use Rattle.stair_mds.proofs.Stretches.{IsStretch, IsStretch-take, IsStretch-range, ArePlacesOnce, Contains-stretch, place_in_stretch, known_stretch, wanted_stretch}
use Rattle.stair_canon.specs.Canonical.{CanonicalStripe, byte_at}
use Rattle.stair_canon.proofs.Grid.{rows_few}
use Rattle.stair_canon.specs.Solving.{column_shape, SolvesChunk, ExtendsChunk}

-- the rows of a stripe, and the virtual rows, out of the 64 numbers
module _ (g : Geometry) (limits : IsWithinLimits g) (numbers : List ℕ) (r e : ℕ) (is_r : r ≡ g.r) (is_e : e ≡ greatest_coverage g)
    (long : length numbers ≡ 64) (each : (k : ℕ) → k < 64 → slice_index numbers k ≡ 0 + k) where
  pub number : (i : ℕ) → i < canonical_rows g → slice_index numbers i ≡ i
  number i below = omega (arith, each i (omega (arith, rows_few g limits)))

  once : ArePlacesOnce (canonical_rows g) (canonical_rows g) numbers
  once = record {
    long = omega (arith, long, rows_few g limits);
    below = λ i below. omega (arith, number i below);
    distinct = λ i j i_in j_in same. omega (arith, same, number i i_in, number j j_in);
  }

  pub first_rows : IsStretch 0 g.r numbers (take r numbers)
  first_rows = IsStretch-take numbers 0 g.r r refl is_r (omega (arith, long, rows_few g limits))

  pub virtual_rows : IsStretch g.r (greatest_coverage g) numbers (take (r + e - r) (drop r numbers))
  virtual_rows =
      IsStretch-range numbers g.r (greatest_coverage g) r (r + e) is_r (omega (arith, is_r, is_e)) (omega (arith, long, rows_few g limits))

  pub rows_known : AreKnownPlaces g.r (canonical_rows g) (take r numbers)
  rows_known = known_stretch (canonical_rows g) g.r (canonical_rows g) 0 numbers (take r numbers) once first_rows (omega arith)

  pub virtual_wanted : AreWantedPlaces (column_shape g) (take r numbers) (take (r + e - r) (drop r numbers))
  virtual_wanted =
      wanted_stretch (canonical_rows g) (column_shape g) 0 g.r g.r (greatest_coverage g) numbers (take r numbers)
      (take (r + e - r) (drop r numbers)) once first_rows virtual_rows (omega arith) (omega arith) (inr (omega arith))

-- a chunk whose virtual symbols were solved from its real ones
pub ExtendsChunk-from : (column : ℕ) (numbers known wanted : List ℕ) (old new : CanonicalStripe)
    → ((i : ℕ) → i < canonical_rows old.geometry → slice_index numbers i ≡ i)
    → IsStretch 0 old.geometry.r numbers known → IsStretch old.geometry.r (greatest_coverage old.geometry) numbers wanted
    → SolvesChunk column known wanted old new → ExtendsChunk column old new
ExtendsChunk-from column numbers known wanted old new number first rest solves = record {
  symbols = λ q in_sector.
      let made = solves.symbols.some q in_sector in
      same_codeword g.r (canonical_rows g) (column_coefficient g) made.0 (λ i. byte_at new q i column) (omega arith) made.1
      (λ p p_in. same q made.0 made.2 made.3 p p_in (cases_lt p g.r));
  changes = record {
    geometry = solves.changes.geometry;
    others = λ i j other.
        solves.changes.others i j (λ both. let is_virtual = (is_wanted i).0 both.0 in other (is_virtual.0, is_virtual.1, both.1));
    known = λ i j. (
      λ is_known. elim ((solves.changes.known i j).0 is_known) [
        | inl was ↦ inl was
        | inr both ↦ let is_virtual = (is_wanted i).0 both.0 in inr (is_virtual.0, is_virtual.1, both.1)
      ],
      λ either. (solves.changes.known i j).1 (elim either [
        | inl was ↦ inl was
        | inr three ↦ inr ((is_wanted i).1 (three.0, three.1), three.2)
      ]),
    );
  };
}
  where
    g : Geometry
    g = old.geometry

    is_wanted : (i : ℕ) → Contains wanted i ↔ ((g.r ≤ i) × (i < canonical_rows g))
    is_wanted i = (
      λ one.
          let place = place_in_stretch g.r (greatest_coverage g) numbers wanted rest i one in
          let is : i ≡ place.0 = sym place.3 ∙ number place.0 (omega (arith, place.2)) in
          (omega (arith, is, place.1), omega (arith, is, place.2)),
      λ both.
          subst (Contains wanted) (number i both.1)
          (Contains-stretch g.r (greatest_coverage g) numbers wanted rest i both.0 both.1),
    )

    -- a symbol of the new chunk is that of the codeword
    same : (q : ℕ) (c : ℕ → ℕ) → Agree known c (λ i. byte_at old q i column) → Agree wanted c (λ i. byte_at new q i column)
        → (p : ℕ) → p < canonical_rows g → (p < g.r) ⊎ (g.r ≤ p) → byte_at new q p column ≡ c p
    same q c real virtual p p_in (inl below) =
        let is : slice_index known p ≡ p = first.each p below ∙ number (0 + p) (omega (arith, p_in)) ∙ omega arith in
        ap (λ bytes. slice_index bytes q)
        (solves.changes.others p column (λ both. let is_virtual = (is_wanted p).0 both.0 in omega (arith, is_virtual.0)))
        ∙ sym (subst (λ (x : ℕ). c x ≡ byte_at old q x column) is (real p 0 (omega (arith, first.many))))
    same q c real virtual p p_in (inr above) =
        let is : slice_index wanted (p - g.r) ≡ p = rest.each (p - g.r) (omega arith) ∙ number (g.r + (p - g.r)) (omega arith) ∙ omega arith in
        sym (subst (λ (x : ℕ). c x ≡ byte_at new q x column) is (virtual (p - g.r) 0 (omega (arith, rest.many))))
