-- The bytes of a stripe at one position, where they meet all equations: sums of multiples of such words meet them too, and the
-- data cells determine such a word.
use Rattle.std.proofs.Common.{◌≡◌, ℕ, zero, suc, ◌+◌, ◌<◌, sym, ◌∙◌, ap, ap₂, arith}
use Rattle.std.specs.Prelude.{bit_xor}
use Rattle.stair_model.specs.Field.{product}
use Rattle.stair_model.specs.Sum.{field_sum}
use Rattle.stair_model.specs.Geometry.{Geometry, IsWithinLimits, data_chunks}
use Rattle.stair_model.specs.Matrix.{row_coefficient, column_coefficient}
use Rattle.stair_model.specs.Cell.{Data, cell_at, data_before}
use Rattle.stair_model.specs.Codeword.{Word, row_sum, global_sum, MeetsEquations, IsCodeword}
use Rattle.stair_model.specs.Stripe.{Stripe, SECTOR, byte_of}
use Rattle.stair_model.proofs.FieldLaws.{product-zero_right, product-xor_right, product_left_comm}
use Rattle.stair_model.proofs.SumLaws.{field_sum_same, field_sum_zero, field_sum-xor, field_sum-product_left}
use Rattle.stair_model.proofs.CanonicalLaws.{extension_exists, row_sum_same, word_is_canonical}
use Rattle.stair_model.proofs.VirtualRowLaws.{SameDataCells, canonical_determined}
use Rattle.stair_model.proofs.EncodingLaws.{above_is_data}

-- ---- a multiple more

-- one word, with a multiple of another added
abbrev pub added : Word → ℕ → Word → Word
added v by w i j = bit_xor (v i j) (product by (w i j))

-- sums of products over the cells add up alike
sum_added : (n by : ℕ) (a x y : ℕ → ℕ)
    → field_sum n (λ j. product (a j) (bit_xor (x j) (product by (y j))))
    ≡ bit_xor (field_sum n (λ j. product (a j) (x j))) (product by (field_sum n (λ j. product (a j) (y j))))
sum_added n by a x y =
    field_sum_same n (λ j. product (a j) (bit_xor (x j) (product by (y j))))
    (λ j. bit_xor (product (a j) (x j)) (product by (product (a j) (y j))))
    (λ j below. product-xor_right (a j) (x j) (product by (y j))
    ∙ ap (bit_xor (product (a j) (x j))) (product_left_comm (a j) by (y j)))
    ∙ field_sum-xor n (λ j. product (a j) (x j)) (λ j. product by (product (a j) (y j)))
    ∙ ap (bit_xor (field_sum n (λ j. product (a j) (x j)))) (field_sum-product_left n by (λ j. product (a j) (y j)))

row_sum-added : (g : Geometry) (v w : Word) (by i k : ℕ)
    → row_sum g (added v by w) i k ≡ bit_xor (row_sum g v i k) (product by (row_sum g w i k))
row_sum-added g v w by i k = sum_added (data_chunks g) by (row_coefficient g k) (v i) (w i)

global_sum-added : (g : Geometry) (v w : Word) (by l h : ℕ)
    → global_sum g (added v by w) l h ≡ bit_xor (global_sum g v l h) (product by (global_sum g w l h))
global_sum-added g v w by l h =
    field_sum_same g.r (λ i. product (column_coefficient g h i) (row_sum g (added v by w) i (g.m + l)))
    (λ i. product (column_coefficient g h i) (bit_xor (row_sum g v i (g.m + l)) (product by (row_sum g w i (g.m + l)))))
    (λ i row. ap (product (column_coefficient g h i)) (row_sum-added g v w by i (g.m + l)))
    ∙ sum_added g.r by (column_coefficient g h) (λ i. row_sum g v i (g.m + l)) (λ i. row_sum g w i (g.m + l))

-- zeros meet all equations
pub MeetsEquations-zero : (g : Geometry) → MeetsEquations g (λ i j. 0)
MeetsEquations-zero g = record {
  rows = λ i k row k_in. sym (zero_row i k);
  globals = λ l h l_in h_in.
      field_sum_zero g.r (λ i. product (column_coefficient g h i) (row_sum g (λ s t. 0) i (g.m + l)))
      (λ i row. ap (product (column_coefficient g h i)) (zero_row i (g.m + l)) ∙ product-zero_right (column_coefficient g h i));
}
  where
    zero_row : (i k : ℕ) → row_sum g (λ s t. 0) i k ≡ 0
    zero_row i k =
        field_sum_zero (data_chunks g) (λ j. product (row_coefficient g k j) 0)
        (λ j before. product-zero_right (row_coefficient g k j))

-- and so does a word that meets them, with a multiple of another one added
pub MeetsEquations-added : (g : Geometry) (v w : Word) (by : ℕ) → MeetsEquations g v → MeetsEquations g w
    → MeetsEquations g (added v by w)
MeetsEquations-added g v w by first second = record {
  rows = λ i k row k_in.
      ap₂ bit_xor (first.rows i k row k_in) (ap (product by) (second.rows i k row k_in)) ∙ sym (row_sum-added g v w by i k);
  globals = λ l h l_in h_in.
      global_sum-added g v w by l h
      ∙ ap₂ bit_xor (first.globals l h l_in h_in) (ap (product by) (second.globals l h l_in h_in) ∙ product-zero_right by);
}

-- the sum of the first n words, each times its factor
abbrev pub weighted_sum : ℕ → (ℕ → ℕ) → (ℕ → Word) → Word
weighted_sum n factor x i j = field_sum n (λ d. product (factor d) (x d i j))

-- a sum of multiples of words that meet all equations meets them
pub MeetsEquations-weighted : (g : Geometry) (n : ℕ) (factor : ℕ → ℕ) (x : ℕ → Word)
    → ((d : ℕ) → d < n → MeetsEquations g (x d)) → MeetsEquations g (weighted_sum n factor x)
unfolding field_sum
MeetsEquations-weighted g zero factor x meets = MeetsEquations-zero g
MeetsEquations-weighted g (suc n) factor x meets =
    MeetsEquations-added g (weighted_sum n factor x) (x n) (factor n)
    (MeetsEquations-weighted g n factor x (λ d below. meets d (omega arith))) (meets n (omega arith))

-- ---- words with the same cells

-- the equations speak of the cells alone
pub MeetsEquations-same : (g : Geometry) (v w : Word) → IsWithinLimits g
    → ((i j : ℕ) → i < g.r → j < g.n → v i j ≡ w i j) → MeetsEquations g w → MeetsEquations g v
MeetsEquations-same g v w limits same meets = record {
  rows = λ i k row k_in.
      same i (data_chunks g + k) row (omega (arith, limits.majority))
      ∙ meets.rows i k row k_in
      ∙ sym (row_sum_same g v w i k (λ j chunk. same i j row chunk));
  globals = λ l h l_in h_in.
      field_sum_same g.r (λ i. product (column_coefficient g h i) (row_sum g v i (g.m + l)))
      (λ i. product (column_coefficient g h i) (row_sum g w i (g.m + l)))
      (λ i row. ap (product (column_coefficient g h i)) (row_sum_same g v w i (g.m + l) (λ j chunk. same i j row chunk)))
      ∙ meets.globals l h l_in h_in;
}

-- bytes that meet all equations are the same where the data cells are
pub words_agree : (g : Geometry) (v w : Word) → IsWithinLimits g
    → ((i j : ℕ) → i < g.r → j < g.n → v i j < 256) → MeetsEquations g v
    → ((i j : ℕ) → i < g.r → j < g.n → w i j < 256) → MeetsEquations g w
    → ((i j d : ℕ) → i < g.r → j < g.n → cell_at g i j ≡ Data d → v i j ≡ w i j)
    → (i j : ℕ) → i < g.r → j < g.n → v i j ≡ w i j
words_agree g v w limits v_bytes v_meets w_bytes w_meets same i j row chunk =
    let x = extension_exists g v in
    let y = extension_exists g w in
    let cells : SameDataCells g x.0 y.0 =
    λ s c c_in above.
    x.1.cells s c (omega arith) (omega arith)
    ∙ same s c (data_before g s c) (omega arith) (omega arith) (above_is_data g s c c_in above)
    ∙ sym (y.1.cells s c (omega arith) (omega arith))
    in
    sym (x.1.cells i j row chunk)
    ∙ canonical_determined g x.0 y.0 limits (word_is_canonical g v x.0 limits v_bytes v_meets x.1)
    (word_is_canonical g w y.0 limits w_bytes w_meets y.1) cells i j (omega arith) (omega arith)
    ∙ y.1.cells i j row chunk

-- ---- stripes

-- a codeword, with a multiple of another one added at each byte position, is a codeword
pub IsCodeword-added : (g : Geometry) (a b sum : Stripe) (by : ℕ → ℕ) → IsWithinLimits g → IsCodeword g a → IsCodeword g b
    → ((p i j : ℕ) → p < SECTOR → i < g.r → j < g.n → byte_of sum p i j ≡ bit_xor (byte_of a p i j) (product (by p) (byte_of b p i j)))
    → IsCodeword g sum
IsCodeword-added g a b sum by limits first second sums = record {
  words = λ p p_in.
      MeetsEquations-same g (byte_of sum p) (added (byte_of a p) (by p) (byte_of b p)) limits
      (λ i j row chunk. sums p i j p_in row chunk)
      (MeetsEquations-added g (byte_of a p) (byte_of b p) (by p) (first.words p p_in) (second.words p p_in));
}
