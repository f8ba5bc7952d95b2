-- What solving a row or a chunk finds of codewords.
use Rattle.std.proofs.Common.{◌≡◌, ℕ, ◌+◌, ◌<◌, ◌≤◌, List, slice_index, inl, inr, refl, sym, subst, ap, ◌∙◌}
use Rattle.std.specs.Prelude.{All, Contains}
use Rattle.std.proofs.lemmas.List.Elements.{All-contains}
use Rattle.std.proofs.lemmas.Bool.{cases_eq}
use Rattle.stair_model.specs.Canonical.{canonical_chunks, canonical_rows, IsRowCodeword}
use Rattle.stair_model.specs.CauchyCode.{AreSolved}
use Rattle.stair_model.specs.CellSet.{CellSet, HasCell}
use Rattle.stair_model.specs.Codeword.{Word}
use Rattle.stair_model.specs.Geometry.{Geometry}
use Rattle.stair_canon.specs.Canonical.{CanonicalStripe, byte_at}
use Rattle.stair_canon.specs.Solving.{ChangesOnly, SolvesRow, SolvesRows, SolvesChunk}
use Rattle.stair_up.specs.SolveSteps.{AreCanonical, IsFound, HasGiven, StaysFound, Keeps}
use Rattle.stair_mds.proofs.Stretches.{IsStretch, All-stretch, stretch_each, place_in_stretch}

-- where all that is solved is found, what was found stays so
pub StaysFound-changes : (x : ℕ → Word) (old new : CanonicalStripe) (IsSolved : ℕ → ℕ → Type 0) → ChangesOnly IsSolved old new
    → ((i j : ℕ) → IsSolved i j → IsFound x new i j) → StaysFound x old new
StaysFound-changes x old new IsSolved changes solved i j before q q_in =
    elim (cases_eq (byte_at new q i j) (x q i j)) [
      | inl same ↦ same
      | inr apart ↦
          absurd (apart (ap (λ (bytes : List ℕ). slice_index bytes q) (changes.others i j (λ is_solved. apart (solved i j is_solved q q_in)))
          ∙ before q q_in))
    ]

-- what is given stays given
pub HasGiven-stays : (g : Geometry) (erased : CellSet) (x : ℕ → Word) (old new : CanonicalStripe) → StaysFound x old new
    → HasGiven g erased x old → HasGiven g erased x new
HasGiven-stays g erased x old new stays given = record {
  held = λ i j i_in j_in not_erased. stays i j (given.held i j i_in j_in not_erased);
  zeros = λ l h l_in covers. stays _ _ (given.zeros l h l_in covers);
}

-- a row whose wanted symbols are those of the codeword that has the known ones
module _ (x : ℕ → Word) (row : ℕ) (columns known wanted : List ℕ) (a n b k : ℕ) (old new : CanonicalStripe)
    (is_known : IsStretch a n columns known) (is_wanted : IsStretch b k columns wanted) (canonical : AreCanonical old.geometry x)
    (row_in : row < canonical_rows old.geometry)
    (solved : AreSolved (IsRowCodeword old.geometry) known wanted (λ q j. byte_at old q row j) (λ q j. byte_at new q row j))
    (found : (p : ℕ) → a ≤ p → p < a + n → IsFound x old row (slice_index columns p)) where
  found_in_row : (p : ℕ) → b ≤ p → p < b + k → IsFound x new row (slice_index columns p)
  found_in_row p above below q q_in =
      sym (stretch_each b k columns wanted is_wanted (λ j. x q row j ≡ byte_at new q row j)
      (solved.each q (λ j. x q row j) q_in ((canonical q q_in).rows row row_in)
      (All-stretch a n columns known is_known (λ j. x q row j ≡ byte_at old q row j)
      (λ c from to. sym (found c from to q q_in))))
      p above below)

-- a row that was solved from known columns
module _ (x : ℕ → Word) (row : ℕ) (columns known wanted : List ℕ) (a n b k : ℕ) (old new : CanonicalStripe)
    (is_known : IsStretch a n columns known) (is_wanted : IsStretch b k columns wanted) (canonical : AreCanonical old.geometry x)
    (row_in : row < canonical_rows old.geometry) (solves : SolvesRow row known wanted old new)
    (found : (p : ℕ) → a ≤ p → p < a + n → IsFound x old row (slice_index columns p)) where
  pub row_found : (p : ℕ) → b ≤ p → p < b + k → IsFound x new row (slice_index columns p)
  row_found = found_in_row x row columns known wanted a n b k old new is_known is_wanted canonical row_in solves.symbols found

  pub row_stays : StaysFound x old new
  row_stays =
      StaysFound-changes x old new (λ i j. (i ≡ row) × Contains wanted j) solves.changes
      (λ i j is_solved.
      let one = place_in_stretch b k columns wanted is_wanted j is_solved.1 in
      subst (λ (s : ℕ). IsFound x new s j) (sym is_solved.0)
      (subst (λ (t : ℕ). IsFound x new row t) one.3 (row_found one.0 one.1 one.2)))

-- rows that were solved from the same known columns
module _ (x : ℕ → Word) (rows columns known wanted : List ℕ) (a n b k : ℕ) (old new : CanonicalStripe)
    (is_known : IsStretch a n columns known) (is_wanted : IsStretch b k columns wanted) (canonical : AreCanonical old.geometry x)
    (rows_in : All (λ row. row < canonical_rows old.geometry) rows) (solves : SolvesRows rows known wanted old new)
    (found : (row p : ℕ) → Contains rows row → a ≤ p → p < a + n → IsFound x old row (slice_index columns p)) where
  pub rows_found : (row p : ℕ) → Contains rows row → b ≤ p → p < b + k → IsFound x new row (slice_index columns p)
  rows_found row p is_one =
      found_in_row x row columns known wanted a n b k old new is_known is_wanted canonical
      (All-contains (λ i. i < canonical_rows old.geometry) rows row rows_in is_one)
      (All-contains
      (λ i. AreSolved (IsRowCodeword old.geometry) known wanted (λ q j. byte_at old q i j) (λ q j. byte_at new q i j)) rows row
      solves.symbols is_one)
      (λ c. found row c is_one) p

  pub rows_stay : StaysFound x old new
  rows_stay =
      StaysFound-changes x old new (λ i j. Contains rows i × Contains wanted j) solves.changes
      (λ i j is_solved.
      let one = place_in_stretch b k columns wanted is_wanted j is_solved.1 in
      subst (λ (t : ℕ). IsFound x new i t) one.3 (rows_found i one.0 is_solved.0 one.1 one.2))

-- a chunk that was solved from known rows
module _ (x : ℕ → Word) (column : ℕ) (rows known wanted : List ℕ) (a n b k : ℕ) (old new : CanonicalStripe)
    (is_known : IsStretch a n rows known) (is_wanted : IsStretch b k rows wanted) (canonical : AreCanonical old.geometry x)
    (column_in : column < canonical_chunks old.geometry) (solves : SolvesChunk column known wanted old new)
    (found : (p : ℕ) → a ≤ p → p < a + n → IsFound x old (slice_index rows p) column) where
  pub chunk_found : (p : ℕ) → b ≤ p → p < b + k → IsFound x new (slice_index rows p) column
  chunk_found p above below q q_in =
      sym (stretch_each b k rows wanted is_wanted (λ i. x q i column ≡ byte_at new q i column)
      (solves.symbols.each q (λ i. x q i column) q_in ((canonical q q_in).chunks column column_in)
      (All-stretch a n rows known is_known (λ i. x q i column ≡ byte_at old q i column)
      (λ c from to. sym (found c from to q q_in))))
      p above below)

  pub chunk_stays : StaysFound x old new
  chunk_stays =
      StaysFound-changes x old new (λ i j. Contains wanted i × (j ≡ column)) solves.changes
      (λ i j is_solved.
      let one = place_in_stretch b k rows wanted is_wanted i is_solved.0 in
      subst (λ (t : ℕ). IsFound x new i t) (sym is_solved.1)
      (subst (λ (s : ℕ). IsFound x new s column) one.3 (chunk_found one.0 one.1 one.2)))

-- cells that aren't erased stay where none of them is solved
pub Keeps-changes : (erased : CellSet) (old new : CanonicalStripe) (IsSolved : ℕ → ℕ → Type 0) → ChangesOnly IsSolved old new
    → ((i j : ℕ) → i < old.geometry.r → j < old.geometry.n → ¬ HasCell erased i j → IsSolved i j → ⊥) → Keeps erased old new
Keeps-changes erased old new IsSolved changes apart = record {
  geometry = changes.geometry;
  held = λ i j i_in j_in not_erased. changes.others i j (apart i j i_in j_in not_erased);
}

pub Keeps-none : (erased : CellSet) (c : CanonicalStripe) → Keeps erased c c
Keeps-none erased c = record { geometry = refl; held = λ i j i_in j_in not_erased. refl }

pub Keeps-both : (erased : CellSet) (a b c : CanonicalStripe) → Keeps erased a b → Keeps erased b c → Keeps erased a c
Keeps-both erased a b c first second = record {
  geometry = second.geometry ∙ first.geometry;
  held = λ i j i_in j_in not_erased.
      second.held i j (subst (λ (g : Geometry). i < g.r) (sym first.geometry) i_in)
      (subst (λ (g : Geometry). j < g.n) (sym first.geometry) j_in) not_erased
      ∙ first.held i j i_in j_in not_erased;
}
