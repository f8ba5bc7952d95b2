-- Each square submatrix of a Cauchy matrix is one over some of its points.
use Rattle.std.proofs.Common.{◌≡◌, ◌≢◌, ℕ, ◌+◌, ◌<◌, List, ◌++◌, length, slice_index, sym, ap, ◌∙◌, arith, length-append}
use Rattle.std.specs.Prelude.{bit_xor}
use Rattle.std.proofs.lemmas.List.{get_or_append_left, get_or-append-add}
use Rattle.stair_model.specs.Field.{inverse, product}
use Rattle.stair_model.specs.CauchyCode.{AreBytes, AreCauchyPoints}
use Rattle.stair_model.proofs.SumLaws.{field_sum_same}
use Rattle.stair_model.proofs.LagrangeLaws.{cauchy_nonsingular}
use Rattle.stair_cauchy.specs.Entries.{Entries, entry, IsCauchy, IsDistinct, IsSquareChoice, SquaresAreNonsingular}

module _ (xs ys : List ℕ) (distinct : IsDistinct (xs ++ ys)) where
  row_points : (i j : ℕ) → i < length xs → j < length xs → slice_index xs i ≡ slice_index xs j → i ≡ j
  row_points i j in_i in_j same =
      distinct i j (omega (arith, length-append xs ys)) (omega (arith, length-append xs ys))
      (get_or_append_left xs ys 0 i in_i ∙ same ∙ sym (get_or_append_left xs ys 0 j in_j))

  column_points : (i j : ℕ) → i < length ys → j < length ys → slice_index ys i ≡ slice_index ys j → i ≡ j
  column_points i j in_i in_j same =
      let one : length xs + i ≡ length xs + j =
      distinct (length xs + i) (length xs + j) (omega (arith, length-append xs ys)) (omega (arith, length-append xs ys))
      (get_or-append-add xs ys i 0 ∙ same ∙ sym (get_or-append-add xs ys j 0))
      in
      omega arith

  crossed : (i j : ℕ) → i < length xs → j < length ys → slice_index xs i ≢ slice_index ys j
  crossed i j in_i in_j same =
      let one : i ≡ length xs + j =
      distinct i (length xs + j) (omega (arith, length-append xs ys)) (omega (arith, length-append xs ys))
      (get_or_append_left xs ys 0 i in_i ∙ same ∙ sym (get_or-append-add xs ys j 0))
      in
      omega arith

  chosen_points : (matrix : Entries) (rows columns : List ℕ) → IsCauchy matrix xs ys → AreBytes (length xs) (slice_index xs) → AreBytes (length ys) (slice_index ys)
      → IsSquareChoice matrix rows columns
      → AreCauchyPoints (length rows) (λ i. slice_index xs (slice_index rows i)) (λ j. slice_index ys (slice_index columns j))
  chosen_points matrix rows columns cauchy row_bytes column_bytes chosen =
      let in_row : (i : ℕ) → i < length rows → slice_index rows i < length xs =
      λ i below. omega (arith, chosen.rows_in i 0 below, cauchy.rows)
      in
      let in_column : (j : ℕ) → j < length rows → slice_index columns j < length ys =
      λ j below. omega (arith, chosen.columns_in j 0 (omega (arith, chosen.square)), cauchy.columns)
      in
      record {
        row_bytes = λ i below. row_bytes (slice_index rows i) (in_row i below);
        column_bytes = λ j below. column_bytes (slice_index columns j) (in_column j below);
        rows_distinct = λ i j in_i in_j same.
            chosen.rows_distinct i j in_i in_j (row_points (slice_index rows i) (slice_index rows j) (in_row i in_i) (in_row j in_j) same);
        columns_distinct = λ i j in_i in_j same.
            chosen.columns_distinct i j (omega (arith, chosen.square)) (omega (arith, chosen.square))
            (column_points (slice_index columns i) (slice_index columns j) (in_column i in_i) (in_column j in_j) same);
        apart = λ i j in_i in_j. crossed (slice_index rows i) (slice_index columns j) (in_row i in_i) (in_column j in_j);
      }

  pub SquaresAreNonsingular-cauchy : (matrix : Entries) → IsCauchy matrix xs ys → AreBytes (length xs) (slice_index xs) → AreBytes (length ys) (slice_index ys)
      → SquaresAreNonsingular matrix
  SquaresAreNonsingular-cauchy matrix cauchy row_bytes column_bytes rows columns v chosen bytes zero =
      let n = length rows in
      cauchy_nonsingular n (λ i. slice_index xs (slice_index rows i)) (λ j. slice_index ys (slice_index columns j)) v
      (chosen_points matrix rows columns cauchy row_bytes column_bytes chosen) bytes
      (λ i below.
      field_sum_same n (λ j. product (inverse (bit_xor (slice_index xs (slice_index rows i)) (slice_index ys (slice_index columns j)))) (v j))
      (λ j. product (entry matrix (slice_index rows i) (slice_index columns j)) (v j))
      (λ j in_j.
      ap (λ a. product a (v j))
      (sym (cauchy.entries (slice_index rows i) (slice_index columns j) (omega (arith, chosen.rows_in i 0 below, cauchy.rows))
      (omega (arith, chosen.columns_in j 0 (omega (arith, chosen.square)), cauchy.columns)))))
      ∙ zero i below)
