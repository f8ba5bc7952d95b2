-- A canonical stripe of which a line is solved, a row or a chunk.
use Rattle.std.proofs.Common.{◌≡◌, ℕ, ◌<◌, ◌⊎◌, ◌↔◌, List, slice_index, slice_index_or, inl, inr, refl, sym, subst, ap, ◌∙◌, arith}
use Rattle.std.specs.Prelude.{All, Contains}
use Rattle.std.proofs.lemmas.Bool.{cases_lt, false≢true}
use Rattle.stair_model.specs.Canonical.{canonical_chunks, canonical_rows}
use Rattle.stair_model.specs.CauchyCode.{AreKnownPlaces, AreSolved}
use Rattle.stair_model.specs.Geometry.{data_chunks}
use Rattle.stair_model.specs.Stripe.{IsSector}
use Rattle.stair_mds.specs.Solving.{AreWantedPlaces, IsCodewordOf, Shape, along}
use Rattle.stair_mds.specs.declared.line.Line.{Line}
use Rattle.stair_canon.specs.Canonical.{CanonicalStripe, KnownSymbols, IsKnown, IsWellFormed, bytes_of, byte_at, number, symbol}
use Rattle.stair_canon.specs.Along.{LiesAt, SolvesKnown}
use Rattle.stair_canon.specs.Solving.{ChangesOnly, SolvesChunk, SolvesRow, column_shape, row_shape}
use Rattle.stair_canon.proofs.Grid.{symbol-in, symbol-out, mark-in, mark-out, number_once}
use Rattle.stair_canon.proofs.Loading.{with_symbols}

-- what is below is also one that the list has
below_all : (total : ℕ) (places : List ℕ) → All (λ p. p < total) places → (p : ℕ) → Contains places p → p < total
below_all total places all p one = subst (λ (x : ℕ). x < total) one.2 (all one.0 p one.1)

-- the symbol in row i of column j is one of those at the wanted places
abbrev pub IsWantedAt : List ℕ → (ℕ → ℕ) → (ℕ → ℕ) → ℕ → ℕ → Type 0
IsWantedAt wanted at_row at_column i j = (p : ℕ) × Contains wanted p × (i ≡ at_row p) × (j ≡ at_column p)

-- place p of the line is the symbol in row at_row p of column at_column p
module _ (c : CanonicalStripe) (new : KnownSymbols) (code : Shape) (line : Line) (known wanted : List ℕ) (at_row at_column : ℕ → ℕ)
    (column_in : (p : ℕ) → p < code.total → at_column p < canonical_chunks c.geometry)
    (lies : (p : ℕ) → p < code.total → along line p ≡ number c.geometry (at_row p) (at_column p))
    (known_in : All (λ p. p < code.total) known) (wanted_in : All (λ p. p < code.total) wanted)
    (solves : SolvesKnown code line known wanted c.symbols new) where
  -- the bytes along the line are those of the symbols
  bytes_along : (s : KnownSymbols) (q p : ℕ) → p < code.total
      → slice_index (bytes_of s (along line p)) q ≡ byte_at (with_symbols c s) q (at_row p) (at_column p)
  bytes_along s q p p_in =
      ap (λ k. slice_index (bytes_of s k) q) (lies p p_in)
      ∙ ap (λ bytes. slice_index bytes q) (sym (symbol-in (with_symbols c s) (at_row p) (at_column p) (column_in p p_in)))

  -- a wanted place that lies at a symbol is in its row and column
  at_symbol : (i j : ℕ) → j < canonical_chunks c.geometry → LiesAt line wanted (number c.geometry i j) → IsWantedAt wanted at_row at_column i j
  at_symbol i j j_in one =
      let p_in : one.0 < code.total = below_all code.total wanted wanted_in one.0 one.1 in
      let same = number_once c.geometry i j (at_row one.0) (at_column one.0) j_in (column_in one.0 p_in) (sym one.2 ∙ lies one.0 p_in) in
      (one.0, one.1, same.0, same.1)

  lies_at : (i j : ℕ) → IsWantedAt wanted at_row at_column i j → (j < canonical_chunks c.geometry) × LiesAt line wanted (number c.geometry i j)
  lies_at i j one =
      let p_in : one.0 < code.total = below_all code.total wanted wanted_in one.0 one.1 in (
        subst (λ (x : ℕ). x < canonical_chunks c.geometry) (sym one.3) (column_in one.0 p_in),
        (
          one.0,
          one.1,
          lies one.0 p_in ∙ ap (λ (x : ℕ). number c.geometry x (at_column one.0)) (sym one.2) ∙ ap (number c.geometry i) (sym one.3),
        ),
      )

  AreSolved-line : AreSolved (IsCodewordOf code) known wanted (λ q p. byte_at c q (at_row p) (at_column p))
      (λ q p. byte_at (with_symbols c new) q (at_row p) (at_column p))
  AreSolved-line = record {
    some = λ q in_sector.
        let one = solves.symbols.some q in_sector in (
          one.0,
          one.1,
          λ i d below. one.2 i d below ∙ bytes_along c.symbols q (slice_index_or known i d) (known_in i d below),
          λ i d below. one.3 i d below ∙ bytes_along new q (slice_index_or wanted i d) (wanted_in i d below),
        );
    each = λ q w in_sector is_code real i d below.
        solves.symbols.each q w in_sector is_code
        (λ i' d' below'. real i' d' below' ∙ sym (bytes_along c.symbols q (slice_index_or known i' d') (known_in i' d' below')))
        i d below
        ∙ bytes_along new q (slice_index_or wanted i d) (wanted_in i d below);
  }

  others-line : (i j : ℕ) → ¬ IsWantedAt wanted at_row at_column i j → symbol (with_symbols c new) i j ≡ symbol c i j
  others-line i j apart =
      elim (cases_lt j (canonical_chunks c.geometry)) [
        | inl within ↦
            symbol-in (with_symbols c new) i j within
            ∙ solves.others (number c.geometry i j) (λ one. apart (at_symbol i j within one))
            ∙ sym (symbol-in c i j within)
        | inr past ↦ symbol-out (with_symbols c new) i j past ∙ sym (symbol-out c i j past)
      ]

  known-line : (i j : ℕ) → IsKnown (with_symbols c new) i j ↔ (IsKnown c i j ⊎ IsWantedAt wanted at_row at_column i j)
  known-line i j =
      elim (cases_lt j (canonical_chunks c.geometry)) [
        | inl within ↦ (
          λ now. elim ((solves.marked (number c.geometry i j)).0 (sym (mark-in (with_symbols c new) i j within) ∙ now)) [
            | inl before ↦ inl (mark-in c i j within ∙ before)
            | inr one ↦ inr (at_symbol i j within one)
          ],
          λ either. mark-in (with_symbols c new) i j within
              ∙ (solves.marked (number c.geometry i j)).1 (elim either [
                | inl before ↦ inl (sym (mark-in c i j within) ∙ before)
                | inr one ↦ inr (lies_at i j one).1
              ]),
        )
        | inr past ↦ (
          λ now. absurd (false≢true (sym (mark-out (with_symbols c new) i j past) ∙ now)),
          λ either. elim either [
            | inl before ↦ absurd (false≢true (sym (mark-out c i j past) ∙ before))
            | inr one ↦ absurd (omega (arith, past, (lies_at i j one).0))
          ],
        )
      ]

  -- where the solved symbols are told otherwise
  ChangesOnly-line : (IsSolved : ℕ → ℕ → Type 0) → ((i j : ℕ) → IsSolved i j ↔ IsWantedAt wanted at_row at_column i j)
      → ChangesOnly IsSolved c (with_symbols c new)
  ChangesOnly-line IsSolved same = record {
    geometry = refl;
    others = λ i j apart. others-line i j (λ one. apart ((same i j).1 one));
    known = λ i j. (
      λ now. elim ((known-line i j).0 now) [ inl before ↦ inl before | inr one ↦ inr ((same i j).1 one) ],
      λ either. (known-line i j).1 (elim either [ inl before ↦ inl before | inr one ↦ inr ((same i j).0 one) ]),
    );
  }

-- a row
pub SolvesRow-from : (c : CanonicalStripe) (new : KnownSymbols) (code : Shape) (line : Line) (row : ℕ) (known wanted : List ℕ)
    → code ≡ row_shape c.geometry
    → ((p : ℕ) → along line p ≡ number c.geometry row p)
    → AreKnownPlaces (data_chunks c.geometry) (canonical_chunks c.geometry) known → AreWantedPlaces (row_shape c.geometry) known wanted
    → SolvesKnown code line known wanted c.symbols new → SolvesRow row known wanted c (with_symbols c new)
SolvesRow-from c new code line row known wanted is_code lies real asked solved =
    let solves : SolvesKnown (row_shape c.geometry) line known wanted c.symbols new =
    subst (λ (x : Shape). SolvesKnown x line known wanted c.symbols new) is_code solved in
    record {
      symbols =
          AreSolved-line c new (row_shape c.geometry) line known wanted (λ p. row) (λ p. p) (λ p p_in. p_in) (λ p p_in. lies p)
          real.below asked.below solves;
      changes =
          ChangesOnly-line c new (row_shape c.geometry) line known wanted (λ p. row) (λ p. p) (λ p p_in. p_in) (λ p p_in. lies p)
          real.below asked.below solves (λ i j. (i ≡ row) × Contains wanted j)
          (λ i j. (
            λ both. (j, both.1, both.0, refl),
            λ one. (one.2, subst (Contains wanted) (sym one.3) one.1),
          ));
    }

-- a chunk
pub SolvesChunk-from : (c : CanonicalStripe) (new : KnownSymbols) (code : Shape) (line : Line) (column : ℕ) (known wanted : List ℕ)
    → column < canonical_chunks c.geometry → code ≡ column_shape c.geometry
    → ((p : ℕ) → along line p ≡ number c.geometry p column)
    → AreKnownPlaces c.geometry.r (canonical_rows c.geometry) known → AreWantedPlaces (column_shape c.geometry) known wanted
    → SolvesKnown code line known wanted c.symbols new → SolvesChunk column known wanted c (with_symbols c new)
SolvesChunk-from c new code line column known wanted column_in is_code lies real asked solved =
    let solves : SolvesKnown (column_shape c.geometry) line known wanted c.symbols new =
    subst (λ (x : Shape). SolvesKnown x line known wanted c.symbols new) is_code solved in
    record {
      symbols =
          AreSolved-line c new (column_shape c.geometry) line known wanted (λ p. p) (λ p. column) (λ p p_in. column_in) (λ p p_in. lies p)
          real.below asked.below solves;
      changes =
          ChangesOnly-line c new (column_shape c.geometry) line known wanted (λ p. p) (λ p. column) (λ p p_in. column_in) (λ p p_in. lies p)
          real.below asked.below solves (λ i j. Contains wanted i × (j ≡ column))
          (λ i j. (
            λ both. (i, both.0, refl, both.1),
            λ one. (subst (Contains wanted) (sym one.2) one.1, one.3),
          ));
    }

-- and it is still well formed
pub IsWellFormed-solved : (c : CanonicalStripe) (new : KnownSymbols) (code : Shape) (line : Line) (known wanted : List ℕ) → IsWellFormed c
    → All IsSector new.memory → SolvesKnown code line known wanted c.symbols new → IsWellFormed (with_symbols c new)
IsWellFormed-solved c new code line known wanted formed sectors solves = record {
  limits = formed.limits;
  count = solves.count ∙ formed.count;
  marks = solves.marks ∙ formed.marks;
  sectors = sectors;
}
