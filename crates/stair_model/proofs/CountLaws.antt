-- Laws of `sum_below`, the sum of the first values of a function.
use Rattle.std.proofs.Common.{◌≡◌, ℕ, zero, suc, ◌+◌, ◌-◌, ◌*◌, ◌<◌, ◌≤◌, inl, inr, refl, sym, ◌∙◌, ap, ap₂, subst, List, length, take, slice_index, slice_index_or, sum, arith}
use Rattle.std.proofs.Common.{add-one}
use Rattle.std.proofs.Math.Seq.{take-length}
use Rattle.std.proofs.lemmas.Bool.{cases_lt, cases_eq}
use Rattle.std.specs.List.{sum_by}
use Rattle.std.proofs.lemmas.List.Sums.{sum_by_more}
use Rattle.stair_model.specs.Sum.{sum_below}

-- of no terms
pub sum_below_none : (f : ℕ → ℕ) → sum_below 0 f ≡ 0
unfolding sum_below
sum_below_none f = refl

-- one term more
pub sum_below_more : (n : ℕ) (f : ℕ → ℕ) → sum_below (suc n) f ≡ sum_below n f + f n
unfolding sum_below
sum_below_more n f = refl

-- a sum so far, and one term more
pub sum_below_next : (n sum term : ℕ) (f : ℕ → ℕ) → sum ≡ sum_below n f → term ≡ f n → sum + term ≡ sum_below (n + 1) f
sum_below_next n sum term f so_far next =
    ap₂ (λ (a b : ℕ). a + b) so_far next ∙ sym (sum_below_more n f) ∙ ap (λ (k : ℕ). sum_below k f) (sym (add-one n))

-- sums of the same terms are the same
pub sum_below_same : (n : ℕ) (f g : ℕ → ℕ) → ((k : ℕ) → k < n → f k ≡ g k) → sum_below n f ≡ sum_below n g
unfolding sum_below
sum_below_same zero f g same = refl
sum_below_same (suc n) f g same =
    ap₂ (λ a b. a + b) (sum_below_same n f g (λ k below. same k (omega arith))) (same n (omega arith))

-- a sum of larger terms is larger
pub sum_below_le : (n : ℕ) (f g : ℕ → ℕ) → ((k : ℕ) → k < n → f k ≤ g k) → sum_below n f ≤ sum_below n g
unfolding sum_below
sum_below_le zero f g le = omega arith
sum_below_le (suc n) f g le =
    let earlier : sum_below n f ≤ sum_below n g = sum_below_le n f g (λ k below. le k (omega arith)) in
    let last : f n ≤ g n = le n (omega arith) in
    omega arith

-- a longer sum is larger
pub sum_below_longer : (f : ℕ → ℕ) (m n : ℕ) → m ≤ n → sum_below m f ≤ sum_below n f
unfolding sum_below
sum_below_longer f m zero le = let e : m ≡ 0 = omega arith in rw e (omega arith)
sum_below_longer f m (suc n) le =
    elim (cases_lt m (suc n)) [
      | inl below ↦ let rest : sum_below m f ≤ sum_below n f = sum_below_longer f m n (omega arith) in omega arith
      | inr above ↦ let e : m ≡ suc n = omega arith in rw e (omega arith)
    ]

-- a sum of sums of two is the sum of both sums
pub sum_below_add : (n : ℕ) (f g : ℕ → ℕ) → sum_below n (λ k. f k + g k) ≡ sum_below n f + sum_below n g
unfolding sum_below
sum_below_add zero f g = refl
sum_below_add (suc n) f g = omega (arith, sum_below_add n f g)

-- a sum of one term again and again
pub sum_below_constant : (n c : ℕ) → sum_below n (λ k. c) ≡ n * c
unfolding sum_below
sum_below_constant zero c = omega arith
sum_below_constant (suc n) c = omega (arith, sum_below_constant n c)

-- a sum with a first term apart
pub sum_below_first : (n : ℕ) (f : ℕ → ℕ) → sum_below (suc n) f ≡ f 0 + sum_below n (λ k. f (suc k))
unfolding sum_below
sum_below_first zero f = omega arith
sum_below_first (suc n) f = omega (arith, sum_below_first n f)

-- where one term grows, the sum grows by as much
pub sum_below_changed : (n k more : ℕ) (f g : ℕ → ℕ) → k < n → g k ≡ f k + more
    → ((l : ℕ) → l < n → (l ≡ k → ⊥) → g l ≡ f l) → sum_below n g ≡ sum_below n f + more
unfolding sum_below
sum_below_changed zero k more f g within grows others = absurd (omega arith)
sum_below_changed (suc n) k more f g within grows others =
    elim (cases_eq n k) [
      | inl here ↦
          let last : g n ≡ f n + more = rw here grows in
          let rest : sum_below n g ≡ sum_below n f = sum_below_same n g f (λ l below. others l (omega arith) (λ e. omega arith)) in
          omega arith
      | inr apart ↦
          let last : g n ≡ f n = others n (omega arith) apart in
          let earlier : (l : ℕ) → l < n → (l ≡ k → ⊥) → g l ≡ f l = λ l below. others l (omega arith) in
          let rest : sum_below n g ≡ sum_below n f + more = sum_below_changed n k more f g (omega arith) grows earlier in
          omega arith
    ]

-- the term in whose part of the whole sum a number falls
pub sum_below_part : (n d : ℕ) (f : ℕ → ℕ) → d < sum_below n f
    → (k : ℕ) × (k < n) × (sum_below k f ≤ d) × (d < sum_below (suc k) f)
unfolding sum_below
sum_below_part zero d f below = absurd (omega arith)
sum_below_part (suc n) d f below =
    elim (cases_lt d (sum_below n f)) [
      | inl earlier ↦ let found = sum_below_part n d f earlier in (found.0, omega arith, found.2, found.3)
      | inr last ↦ (n, omega arith, last, below)
    ]

-- of a sum of terms in rows and columns: row i and column j are those in whose part d falls, counting row by row
pub record IsCellOfSum (rows columns d : ℕ) (f : ℕ → ℕ → ℕ) (i j : ℕ) : Type 0 where
  pub in_rows : i < rows
  pub in_columns : j < columns
  pub from : sum_below i (λ t. sum_below columns (f t)) + sum_below j (f i) ≤ d
  pub to : d < sum_below i (λ t. sum_below columns (f t)) + sum_below (suc j) (f i)

pub sum_below_cell : (rows columns d : ℕ) (f : ℕ → ℕ → ℕ) → d < sum_below rows (λ t. sum_below columns (f t))
    → (i : ℕ) × (j : ℕ) × IsCellOfSum rows columns d f i j
sum_below_cell rows columns d f below =
    let row = sum_below_part rows d (λ t. sum_below columns (f t)) below in
    let i = row.0 in
    let above = sum_below i (λ t. sum_below columns (f t)) in
    let next : d < above + sum_below columns (f i) = subst (λ (c : ℕ). d < c) (sum_below_more i (λ t. sum_below columns (f t))) row.3 in
    let column = sum_below_part columns (d - above) (f i) (less above (sum_below columns (f i)) d row.2 next) in
    let j = column.0 in (
      i,
      j,
      record {
        in_rows = row.1;
        in_columns = column.1;
        from = low above (sum_below j (f i)) d row.2 column.2;
        to = high above (sum_below (suc j) (f i)) d column.3;
      },
    )
  where
    less : (a b d : ℕ) → a ≤ d → d < a + b → d - a < b
    less a b d p q = omega arith

    low : (a b d : ℕ) → a ≤ d → b ≤ d - a → a + b ≤ d
    low a b d p q = omega arith

    high : (a b d : ℕ) → d - a < b → d < a + b
    high a b d p = omega arith

-- of terms that are 0 or 1
pub sum_below_marks : (n : ℕ) (f : ℕ → ℕ) → ((k : ℕ) → k < n → f k ≤ 1) → sum_below n f ≤ n
unfolding sum_below
sum_below_marks zero f mark = omega arith
sum_below_marks (suc n) f mark =
    let earlier : sum_below n f ≤ n = sum_below_marks n f (λ k below. mark k (omega arith)) in
    let last : f n ≤ 1 = mark n (omega arith) in
    omega arith

-- a sum of zeros
pub sum_below_zeros : (n : ℕ) (f : ℕ → ℕ) → ((k : ℕ) → k < n → f k ≡ 0) → sum_below n f ≡ 0
unfolding sum_below
sum_below_zeros zero f none = refl
sum_below_zeros (suc n) f none =
    let earlier : sum_below n f ≡ 0 = sum_below_zeros n f (λ k below. none k (omega arith)) in
    let last : f n ≡ 0 = none n (omega arith) in
    omega arith

-- a longer sum whose further terms are zero
pub sum_below_tail : (m n : ℕ) (f : ℕ → ℕ) → m ≤ n → ((k : ℕ) → m ≤ k → k < n → f k ≡ 0) → sum_below n f ≡ sum_below m f
unfolding sum_below
sum_below_tail m zero f le none = let e : m ≡ 0 = omega arith in rw e refl
sum_below_tail m (suc n) f le none =
    elim (cases_lt m (suc n)) [
      | inl below ↦
          let earlier : sum_below n f ≡ sum_below m f = sum_below_tail m n f (omega arith) (λ k from to. none k from (omega arith)) in
          let last : f n ≡ 0 = none n (omega arith) (omega arith) in
          omega arith
      | inr above ↦ let e : m ≡ suc n = omega arith in rw e refl
    ]

-- the sum of the first elements of a list
sum_below_take : (xs : List ℕ) (n : ℕ) → n ≤ length xs → sum_below n (λ k. slice_index xs k) ≡ sum (take n xs)
unfolding sum_below
sum_below_take xs zero within = refl
sum_below_take xs (suc n) within =
    let earlier : sum_below n (λ k. slice_index xs k) ≡ sum (take n xs) = sum_below_take xs n (omega arith) in
    let step : sum (take (suc n) xs) ≡ sum (take n xs) + slice_index xs n = rw add-one at (sum_by_more (λ x. x) xs n 0 within) in
    omega arith

-- the sum of a list
pub sum_below_list : (xs : List ℕ) → sum_below (length xs) (λ k. slice_index xs k) ≡ sum xs
sum_below_list xs = sum_below_take xs (length xs) (omega arith) ∙ ap sum (take-length xs)

-- the sum of the parts of the first elements of a list
sum_below_by_take : {X : Type 0} (f : X → ℕ) (d : X) (xs : List X) (n : ℕ) → n ≤ length xs
    → sum_below n (λ k. f (slice_index_or xs k d)) ≡ sum_by f (take n xs)
unfolding sum_below
sum_below_by_take f d xs zero within = refl
sum_below_by_take f d xs (suc n) within =
    let earlier : sum_below n (λ k. f (slice_index_or xs k d)) ≡ sum_by f (take n xs) = sum_below_by_take f d xs n (omega arith) in
    let step : sum_by f (take (suc n) xs) ≡ sum_by f (take n xs) + f (slice_index_or xs n d) = rw add-one at (sum_by_more f xs n d within) in
    omega arith

-- the sum of the parts of a list's elements
pub sum_below_by : {X : Type 0} (f : X → ℕ) (d : X) (xs : List X) → sum_below (length xs) (λ k. f (slice_index_or xs k d)) ≡ sum_by f xs
sum_below_by f d xs = sum_below_by_take f d xs (length xs) (omega arith) ∙ ap (sum_by f) (take-length xs)
