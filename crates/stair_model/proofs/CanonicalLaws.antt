-- Laws of the canonical stripe: a word has one extension, and a stripe is a codeword exactly where its extension is one of
-- the row code in each row, of the column code in each chunk, and has the global zeros.
use Rattle.std.proofs.Common.{◌≡◌, ℕ, ◌+◌, ◌-◌, ◌<◌, ◌≤◌, ◌↔◌, inl, inr, sym, ap, subst, ◌∙◌, nat_lt, if◌then◌else◌, arith}
use Rattle.std.proofs.lemmas.Bool.{lt-ltb, le-ltb, cond-true, cond-false}
use Rattle.stair_model.specs.Field.{product}
use Rattle.stair_model.specs.Sum.{field_sum}
use Rattle.stair_model.specs.CauchyCode.{IsSystematicCodeword}
use Rattle.stair_model.specs.Geometry.{Geometry, IsWithinLimits, classes, coverage, data_chunks, greatest_coverage}
use Rattle.stair_model.specs.Matrix.{row_coefficient, column_coefficient}
use Rattle.stair_model.specs.Stripe.{Stripe, SECTOR, IsStripeOf, IsWellFormed, byte_of}
use Rattle.stair_model.specs.Codeword.{Word, IsRowEquation, MeetsRowEquations, MeetsEquations, IsCodeword, row_sum, column_sum, global_sum}
use Rattle.stair_model.specs.Canonical.{canonical_chunks, canonical_rows, IsRowCodeword, IsColumnCodeword, IsExtensionOf, HasGlobalZeros, IsCanonicalCodeword}
use Rattle.stair_model.proofs.FieldLaws.{product-lt, product_left_comm}
use Rattle.stair_model.proofs.SumLaws.{field_sum_same, field_sum_exchange, field_sum-product_left, field_sum-lt}
use Rattle.stair_model.proofs.StripeLaws.{byte_of-lt}
use Rattle.stair_model.proofs.CodeLaws.{below_or_past}

-- ---- rows and chunks of one word

-- a parity of the row code in a parity row of the column code: the two sums change places
corner : (held total depth height : ℕ) (a b : ℕ → ℕ → ℕ) (w : Word)
    → ((i : ℕ) → i < depth → IsSystematicCodeword held total a (λ j. w i j))
    → ((j : ℕ) → j < total → IsSystematicCodeword depth height b (λ i. w i j))
    → (h k : ℕ) → depth + h < height → held + k < total
    → w (depth + h) (held + k) ≡ field_sum held (λ j. product (a k j) (w (depth + h) j))
corner held total depth height a b w rows chunks h k h_in k_in =
    (chunks (held + k) k_in).parity h h_in
    ∙ field_sum_same depth (λ i. product (b h i) (w i (held + k)))
    (λ i. field_sum held (λ j. product (a k j) (product (b h i) (w i j))))
    (λ i above. ap (product (b h i)) ((rows i above).parity k k_in)
    ∙ sym (field_sum-product_left held (b h i) (λ j. product (a k j) (w i j)))
    ∙ field_sum_same held (λ j. product (b h i) (product (a k j) (w i j))) (λ j. product (a k j) (product (b h i) (w i j)))
    (λ j before. product_left_comm (b h i) (a k j) (w i j)))
    ∙ field_sum_exchange depth held (λ i j. product (a k j) (product (b h i) (w i j)))
    ∙ field_sum_same held (λ j. field_sum depth (λ i. product (a k j) (product (b h i) (w i j))))
    (λ j. product (a k j) (w (depth + h) j))
    (λ j before. field_sum-product_left depth (a k j) (λ i. product (b h i) (w i j))
    ∙ ap (product (a k j)) (sym ((chunks j (omega arith)).parity h h_in)))

-- where the held rows are codewords of one code and all chunks codewords of another, all rows are codewords
pub product_law : (held total depth height : ℕ) (a b : ℕ → ℕ → ℕ) (w : Word)
    → ((i : ℕ) → i < depth → IsSystematicCodeword held total a (λ j. w i j))
    → ((j : ℕ) → j < total → IsSystematicCodeword depth height b (λ i. w i j))
    → (i : ℕ) → i < height → IsSystematicCodeword held total a (λ j. w i j)
product_law held total depth height a b w rows chunks i within =
    elim (below_or_past depth i) [
      | inl above ↦ rows i above
      | inr (h, e) ↦ record {
        bytes = λ j j_in. (chunks j j_in).bytes i within;
        parity = λ k k_in.
            subst (λ (t : ℕ). w t (held + k) ≡ field_sum held (λ j. product (a k j) (w t j))) (sym e)
            (corner held total depth height a b w rows chunks h k (omega arith) k_in);
      }
    ]

-- ---- the extension of a word

-- f below n, and g from there on
joined : ℕ → (ℕ → ℕ) → (ℕ → ℕ) → ℕ → ℕ
joined n f g i = if nat_lt i n then f i else g (i - n)

joined_below : (n : ℕ) (f g : ℕ → ℕ) (i : ℕ) → i < n → joined n f g i ≡ f i
unfolding joined
joined_below n f g i below = cond-true _ _ _ (lt-ltb i n below)

joined_past : (n : ℕ) (f g : ℕ → ℕ) (k : ℕ) → joined n f g (n + k) ≡ g k
unfolding joined
joined_past n f g k =
    let number : n + k - n ≡ k = omega arith in
    cond-false _ _ _ (le-ltb (n + k) n (omega arith)) ∙ ap g number

-- each word has an extension
pub extension_exists : (g : Geometry) (w : Word) → (x : Word) × IsExtensionOf g w x
extension_exists g w = (
  x,
  record {
    cells = λ i j row chunk. upper_is i j row ∙ joined_below g.n (w i) (further i) j chunk;
    intermediate = λ i l row l_in. upper_is i (g.n + l) row ∙ joined_past g.n (w i) (further i) l;
    virtual = λ h j h_in j_in.
        joined_past g.r (λ i. upper i j) (column_sum g (λ i. upper i j)) h
        ∙ field_sum_same g.r (λ i. product (column_coefficient g h i) (upper i j)) (λ i. product (column_coefficient g h i) (x i j))
        (λ i row. ap (product (column_coefficient g h i)) (sym (upper_is i j row)));
  },
)
  where
    further : ℕ → ℕ → ℕ
    further i l = row_sum g w i (g.m + l)

    upper : Word
    upper i j = joined g.n (w i) (further i) j

    x : Word
    x i j = joined g.r (λ t. upper t j) (column_sum g (λ t. upper t j)) i

    upper_is : (i j : ℕ) → i < g.r → x i j ≡ upper i j
    upper_is i j row = joined_below g.r (λ t. upper t j) (column_sum g (λ t. upper t j)) i row

-- two extensions of a word have the same cells and intermediate symbols
upper_same : (g : Geometry) (w x y : Word) → IsExtensionOf g w x → IsExtensionOf g w y
    → (i j : ℕ) → i < g.r → j < canonical_chunks g → x i j ≡ y i j
upper_same g w x y first second i j row j_in =
    elim (below_or_past g.n j) [
      | inl chunk ↦ first.cells i j row chunk ∙ sym (second.cells i j row chunk)
      | inr (l, e) ↦
          ap (x i) e ∙ first.intermediate i l row (omega arith)
          ∙ sym (ap (y i) e ∙ second.intermediate i l row (omega arith))
    ]

-- a word has one extension
pub extension_unique : (g : Geometry) (w x y : Word) → IsExtensionOf g w x → IsExtensionOf g w y
    → (i j : ℕ) → i < canonical_rows g → j < canonical_chunks g → x i j ≡ y i j
extension_unique g w x y first second i j i_in j_in =
    elim (below_or_past g.r i) [
      | inl row ↦ upper_same g w x y first second i j row j_in
      | inr (h, e) ↦
          ap (λ t. x t j) e ∙ first.virtual h j (omega arith) j_in
          ∙ field_sum_same g.r (λ t. product (column_coefficient g h t) (x t j)) (λ t. product (column_coefficient g h t) (y t j))
          (λ t row. ap (product (column_coefficient g h t)) (upper_same g w x y first second t j row j_in))
          ∙ sym (ap (λ t. y t j) e ∙ second.virtual h j (omega arith) j_in)
    ]

-- ---- bytes, and the two codes

-- the extension of bytes is bytes
pub extension-lt : (g : Geometry) (w x : Word) → ((i j : ℕ) → i < g.r → j < g.n → w i j < 256) → IsExtensionOf g w x
    → (i j : ℕ) → i < canonical_rows g → j < canonical_chunks g → x i j < 256
extension-lt g w x bytes extension i j i_in j_in =
    elim (below_or_past g.r i) [
      | inl row ↦
          elim (below_or_past g.n j) [
            | inl chunk ↦ subst (λ (b : ℕ). b < 256) (sym (extension.cells i j row chunk)) (bytes i j row chunk)
            | inr (l, e) ↦
                subst (λ (b : ℕ). b < 256) (sym (ap (x i) e ∙ extension.intermediate i l row (omega arith)))
                (field_sum-lt (data_chunks g) (λ c. product (row_coefficient g (g.m + l) c) (w i c))
                (λ c h. product-lt (row_coefficient g (g.m + l) c) (w i c)))
          ]
      | inr (h, e) ↦
          subst (λ (b : ℕ). b < 256) (sym (ap (λ t. x t j) e ∙ extension.virtual h j (omega arith) j_in))
          (field_sum-lt g.r (λ t. product (column_coefficient g h t) (x t j))
          (λ t row. product-lt (column_coefficient g h t) (x t j)))
    ]

-- each chunk of an extension is a codeword of the column code
pub extension_chunk : (g : Geometry) (w x : Word) → ((i j : ℕ) → i < g.r → j < g.n → w i j < 256) → IsExtensionOf g w x
    → (j : ℕ) → j < canonical_chunks g → IsColumnCodeword g (λ i. x i j)
extension_chunk g w x bytes extension j j_in = record {
  bytes = λ i i_in. extension-lt g w x bytes extension i j i_in j_in;
  parity = λ h h_in. extension.virtual h j (omega arith) j_in;
}

-- rows of the same cells have one sum
pub row_sum_same : (g : Geometry) (v w : Word) (i k : ℕ) → ((j : ℕ) → j < g.n → v i j ≡ w i j) → row_sum g v i k ≡ row_sum g w i k
row_sum_same g v w i k same =
    field_sum_same (data_chunks g) (λ j. product (row_coefficient g k j) (v i j)) (λ j. product (row_coefficient g k j) (w i j))
    (λ j before. ap (product (row_coefficient g k j)) (same j (omega arith)))

-- a row whose equations hold is in the extension a codeword of the row code
pub extension_row : (g : Geometry) (w x : Word) → IsWithinLimits g → ((i j : ℕ) → i < g.r → j < g.n → w i j < 256)
    → IsExtensionOf g w x → (i : ℕ) → i < g.r → ((k : ℕ) → k < g.m → IsRowEquation g w i k) → IsRowCodeword g (λ j. x i j)
extension_row g w x limits bytes extension i row equations = record {
  bytes = λ j j_in. extension-lt g w x bytes extension i j (omega arith) j_in;
  parity = λ k k_in. parity k k_in ∙ sym (row_sum_same g x w i k (λ j chunk. extension.cells i j row chunk));
}
  where
    parity : (k : ℕ) → data_chunks g + k < canonical_chunks g → x i (data_chunks g + k) ≡ row_sum g w i k
    parity k k_in =
        elim (below_or_past g.m k) [
          | inl of_row ↦ extension.cells i (data_chunks g + k) row (omega (arith, limits.majority)) ∙ equations k of_row
          | inr (l, e) ↦
              let place : data_chunks g + k ≡ g.n + l = omega (arith, limits.majority) in
              ap (x i) place ∙ extension.intermediate i l row (omega arith) ∙ ap (row_sum g w i) (sym e)
        ]

-- ---- global zeros

-- no class covers more than the last
pub coverage_le_greatest : (g : Geometry) → IsWithinLimits g → (l : ℕ) → l < classes g → coverage g l ≤ greatest_coverage g
coverage_le_greatest g limits l within = limits.covered_sectors.1 l (classes g - 1) 0 (omega arith) (omega arith)

-- the virtual symbols of an intermediate chunk are the sums of its class
pub global_zero_is : (g : Geometry) (w x : Word) → IsExtensionOf g w x → (l h : ℕ) → l < classes g → h < greatest_coverage g
    → x (g.r + h) (g.n + l) ≡ global_sum g w l h
global_zero_is g w x extension l h l_in h_in =
    extension.virtual h (g.n + l) h_in (omega arith)
    ∙ field_sum_same g.r (λ i. product (column_coefficient g h i) (x i (g.n + l)))
    (λ i. product (column_coefficient g h i) (row_sum g w i (g.m + l)))
    (λ i row. ap (product (column_coefficient g h i)) (extension.intermediate i l row l_in))

-- so are those that a class covers
covered_zero_is : (g : Geometry) (w x : Word) → IsWithinLimits g → IsExtensionOf g w x → (l h : ℕ) → l < classes g → h < coverage g l
    → x (g.r + h) (g.n + l) ≡ global_sum g w l h
covered_zero_is g w x limits extension l h l_in h_in =
    global_zero_is g w x extension l h l_in (omega (arith, coverage_le_greatest g limits l l_in))

-- ---- words that meet the equations

-- where the row equations hold, each row of the extension is a codeword of the row code, the virtual ones too
pub extension_rows : (g : Geometry) (w x : Word) → IsWithinLimits g → ((i j : ℕ) → i < g.r → j < g.n → w i j < 256)
    → MeetsRowEquations g w → IsExtensionOf g w x → (i : ℕ) → i < canonical_rows g → IsRowCodeword g (λ j. x i j)
extension_rows g w x limits bytes equations extension =
    product_law (data_chunks g) (canonical_chunks g) g.r (canonical_rows g) (row_coefficient g) (column_coefficient g) x
    (λ i row. extension_row g w x limits bytes extension i row (λ k k_in. equations i k row k_in))
    (λ j j_in. extension_chunk g w x bytes extension j j_in)

-- and where all equations hold, the extension is a canonical codeword
pub word_is_canonical : (g : Geometry) (w x : Word) → IsWithinLimits g → ((i j : ℕ) → i < g.r → j < g.n → w i j < 256)
    → MeetsEquations g w → IsExtensionOf g w x → IsCanonicalCodeword g x
word_is_canonical g w x limits bytes meets extension = record {
  rows = extension_rows g w x limits bytes meets.rows extension;
  chunks = λ j j_in. extension_chunk g w x bytes extension j j_in;
  zeros = λ l h l_in h_in. covered_zero_is g w x limits extension l h l_in h_in ∙ meets.globals l h l_in h_in;
}

-- ---- stripes

-- a stripe is a codeword exactly where at each byte its row equations hold and its extension has the global zeros
pub bridge : (g : Geometry) (stripe : Stripe) (x : ℕ → Word) → IsWithinLimits g
    → ((p : ℕ) → p < SECTOR → IsExtensionOf g (byte_of stripe p) (x p))
    → (IsCodeword g stripe ↔ ((p : ℕ) → p < SECTOR → MeetsRowEquations g (byte_of stripe p) × HasGlobalZeros g (x p)))
bridge g stripe x limits extensions = (from_codeword, to_codeword)
  where
    is_sum : (p l h : ℕ) → p < SECTOR → l < classes g → h < coverage g l → x p (g.r + h) (g.n + l) ≡ global_sum g (byte_of stripe p) l h
    is_sum p l h p_in l_in h_in = covered_zero_is g (byte_of stripe p) (x p) limits (extensions p p_in) l h l_in h_in

    from_codeword : IsCodeword g stripe → (p : ℕ) → p < SECTOR → MeetsRowEquations g (byte_of stripe p) × HasGlobalZeros g (x p)
    from_codeword codeword p p_in = (
      (codeword.words p p_in).rows,
      λ l h l_in h_in. is_sum p l h p_in l_in h_in ∙ (codeword.words p p_in).globals l h l_in h_in,
    )

    to_codeword : ((p : ℕ) → p < SECTOR → MeetsRowEquations g (byte_of stripe p) × HasGlobalZeros g (x p)) → IsCodeword g stripe
    to_codeword holds = record {
      words = λ p p_in. record {
        rows = (holds p p_in).0;
        globals = λ l h l_in h_in. sym (is_sum p l h p_in l_in h_in) ∙ (holds p p_in).1 l h l_in h_in;
      };
    }

-- at each byte the extension of a codeword is a canonical codeword
pub codeword_is_canonical : (g : Geometry) (stripe : Stripe) (p : ℕ) (x : Word) → IsWithinLimits g → IsStripeOf g stripe
    → IsWellFormed stripe → IsCodeword g stripe → p < SECTOR → IsExtensionOf g (byte_of stripe p) x → IsCanonicalCodeword g x
codeword_is_canonical g stripe p x limits of formed codeword p_in extension =
    word_is_canonical g (byte_of stripe p) x limits (λ i j row chunk. byte_of-lt stripe formed p i j) (codeword.words p p_in) extension

-- a canonical codeword is the extension of its cells, whose row equations hold
pub canonical_is_extension : (g : Geometry) (w x : Word) → IsWithinLimits g
    → ((i j : ℕ) → i < g.r → j < g.n → x i j ≡ w i j) → IsCanonicalCodeword g x → IsExtensionOf g w x × MeetsRowEquations g w
canonical_is_extension g w x limits cells canonical = (
  record {
    cells = cells;
    intermediate = λ i l row l_in.
        let place : g.n + l ≡ data_chunks g + (g.m + l) = omega (arith, limits.majority) in
        ap (x i) place ∙ parity i (g.m + l) row (omega (arith, limits.majority));
    virtual = λ h j h_in j_in. (canonical.chunks j j_in).parity h (omega arith);
  },
  λ i k row k_in.
      sym (cells i (data_chunks g + k) row (omega (arith, limits.majority)))
      ∙ parity i k row (omega (arith, limits.majority)),
)
  where
    parity : (i k : ℕ) → i < g.r → data_chunks g + k < canonical_chunks g → x i (data_chunks g + k) ≡ row_sum g w i k
    parity i k row k_in =
        (canonical.rows i (omega arith)).parity k k_in ∙ row_sum_same g x w i k (λ j chunk. cells i j row chunk)

-- a stripe whose cells are at each byte those of a canonical codeword is a codeword
pub canonical_is_codeword : (g : Geometry) (stripe : Stripe) (x : ℕ → Word) → IsWithinLimits g
    → ((p : ℕ) → p < SECTOR → ((i j : ℕ) → i < g.r → j < g.n → x p i j ≡ byte_of stripe p i j) × IsCanonicalCodeword g (x p))
    → IsCodeword g stripe
canonical_is_codeword g stripe x limits canonical =
    (bridge g stripe x limits (λ p p_in. (extension p p_in).0)).1
    (λ p p_in. ((extension p p_in).1, (canonical p p_in).1.zeros))
  where
    extension : (p : ℕ) → p < SECTOR → IsExtensionOf g (byte_of stripe p) (x p) × MeetsRowEquations g (byte_of stripe p)
    extension p p_in = canonical_is_extension g (byte_of stripe p) (x p) limits (canonical p p_in).0 (canonical p p_in).1
