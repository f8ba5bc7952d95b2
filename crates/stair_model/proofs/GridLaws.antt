-- Sums over numbers that represent the cells of rows and columns, and over some of the numbers.
use Rattle.std.proofs.Common.{◌≡◌, ℕ, zero, suc, ◌+◌, ◌*◌, Bool, true, false, if◌then◌else◌, refl, sym, ap, ◌∙◌, arith, add-zero, add-one, add_assoc}
use Rattle.std.proofs.Math.Nat.{zero-mul}
use Rattle.stair_model.specs.Sum.{sum_below}
use Rattle.stair_model.proofs.CountLaws.{sum_below_none, sum_below_more, sum_below_zeros, sum_below_add}

-- a sum in two parts
pub sum_below_parts : (m n : ℕ) (f : ℕ → ℕ) → sum_below (m + n) f ≡ sum_below m f + sum_below n (λ k. f (m + k))
unfolding sum_below
sum_below_parts m zero f =
    ap (λ (k : ℕ). sum_below k f) (add-zero m) ∙ sym (add-zero (sum_below m f))
sum_below_parts m (suc n) f =
    ap (λ (k : ℕ). sum_below k f) (next m n) ∙ ap (λ s. s + f (m + n)) (sum_below_parts m n f)
    ∙ add_assoc (sum_below m f) (sum_below n (λ k. f (m + k))) (f (m + n))
  where
    next : (a b : ℕ) → a + suc b ≡ suc (a + b)
    next a b = omega arith

-- row by row, and some columns of the next row
pub sum_below_rows : (rows columns j : ℕ) (f : ℕ → ℕ)
    → sum_below (rows * columns + j) f
    ≡ sum_below rows (λ i. sum_below columns (λ c. f (i * columns + c))) + sum_below j (λ c. f (rows * columns + c))
sum_below_rows rows columns j f = sum_below_parts (rows * columns) j f ∙ ap (λ s. s + sum_below j (λ c. f (rows * columns + c))) (whole rows)
  where
    next : (a b : ℕ) → suc a * b ≡ a * b + b
    next a b = omega arith

    whole : (i : ℕ) → sum_below (i * columns) f ≡ sum_below i (λ t. sum_below columns (λ c. f (t * columns + c)))
    whole zero =
        ap (λ (k : ℕ). sum_below k f) (zero-mul columns) ∙ sum_below_none f
        ∙ sym (sum_below_none (λ t. sum_below columns (λ c. f (t * columns + c))))
    whole (suc i) =
        ap (λ (k : ℕ). sum_below k f) (next i columns) ∙ sum_below_parts (i * columns) columns f
        ∙ ap (λ s. s + sum_below columns (λ c. f (i * columns + c))) (whole i)
        ∙ sym (sum_below_more i (λ t. sum_below columns (λ c. f (t * columns + c))))

-- all rows
pub sum_below_grid : (rows columns : ℕ) (f : ℕ → ℕ)
    → sum_below (rows * columns) f ≡ sum_below rows (λ i. sum_below columns (λ c. f (i * columns + c)))
sum_below_grid rows columns f =
    ap (λ (k : ℕ). sum_below k f) (sym (add-zero (rows * columns))) ∙ sum_below_rows rows columns 0 f
    ∙ ap (λ s. sum_below rows (λ i. sum_below columns (λ c. f (i * columns + c))) + s) (sum_below_none (λ c. f (rows * columns + c)))
    ∙ add-zero (sum_below rows (λ i. sum_below columns (λ c. f (i * columns + c))))

-- two sums change places
pub sum_below_exchange : (m n : ℕ) (f : ℕ → ℕ → ℕ)
    → sum_below m (λ i. sum_below n (λ j. f i j)) ≡ sum_below n (λ j. sum_below m (λ i. f i j))
unfolding sum_below
sum_below_exchange zero n f = sym (sum_below_zeros n (λ j. 0) (λ k h. refl))
sum_below_exchange (suc m) n f =
    ap (λ s. s + sum_below n (λ j. f m j)) (sum_below_exchange m n f)
    ∙ sym (sum_below_add n (λ j. sum_below m (λ i. f i j)) (λ j. f m j))

-- how many of the first n numbers pass a test
abbrev pub passed_before : (ℕ → Bool) → ℕ → ℕ
passed_before test n = sum_below n (λ k. if test k then 1 else 0)

-- a sum over the numbers that pass a test, each by how many passed before it
pub sum_below_passed : (n : ℕ) (test : ℕ → Bool) (f : ℕ → ℕ)
    → sum_below n (λ k. if test k then f (passed_before test k) else 0) ≡ sum_below (passed_before test n) f
unfolding sum_below
sum_below_passed zero test f = refl
sum_below_passed (suc n) test f =
    ap (λ s. s + (if test n then f (passed_before test n) else 0)) (sum_below_passed n test f) ∙ last (test n)
  where
    last : (b : Bool)
        → sum_below (passed_before test n) f + (if b then f (passed_before test n) else 0)
        ≡ sum_below (passed_before test n + (if b then 1 else 0)) f
    last true = sym (sum_below_more (passed_before test n) f) ∙ ap (λ (k : ℕ). sum_below k f) (sym (add-one (passed_before test n)))
    last false = add-zero (sum_below (passed_before test n) f) ∙ ap (λ (k : ℕ). sum_below k f) (sym (add-zero (passed_before test n)))

-- how many of the first n numbers fail a test
abbrev pub failed_before : (ℕ → Bool) → ℕ → ℕ
failed_before test n = sum_below n (λ k. if test k then 0 else 1)

-- a sum over the numbers that fail a test, each by how many failed before it
pub sum_below_failed : (n : ℕ) (test : ℕ → Bool) (f : ℕ → ℕ)
    → sum_below n (λ k. if test k then 0 else f (failed_before test k)) ≡ sum_below (failed_before test n) f
unfolding sum_below
sum_below_failed zero test f = refl
sum_below_failed (suc n) test f =
    ap (λ s. s + (if test n then 0 else f (failed_before test n))) (sum_below_failed n test f) ∙ last (test n)
  where
    last : (b : Bool)
        → sum_below (failed_before test n) f + (if b then 0 else f (failed_before test n))
        ≡ sum_below (failed_before test n + (if b then 0 else 1)) f
    last true = add-zero (sum_below (failed_before test n) f) ∙ ap (λ (k : ℕ). sum_below k f) (sym (add-zero (failed_before test n)))
    last false = sym (sum_below_more (failed_before test n) f) ∙ ap (λ (k : ℕ). sum_below k f) (sym (add-one (failed_before test n)))
