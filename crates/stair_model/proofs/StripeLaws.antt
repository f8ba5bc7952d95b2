-- The cells of a stripe, one by one, and their bytes.
use Rattle.std.proofs.Common.{◌≡◌, ℕ, ◌+◌, ◌*◌, ◌/◌, ◌<◌, List, [], length, replicate, slice_index, slice_index_or, inl, inr, sym, ap, subst, ◌∙◌, arith}
use Rattle.std.specs.Prelude.{All}
use Rattle.std.proofs.lemmas.Bool.{cases_lt}
use Rattle.std.proofs.lemmas.List.{ext_get_or, get_or_past, get_or-replicate, get_or-set_same, get_or-set_other, length-replicate}
use Rattle.std.proofs.lemmas.List.Elements.{All-nil, All-get_or, All-replicate}
use Rattle.std.proofs.lemmas.Nat.{div-mul-add, mul-add-lt}
use Rattle.stair_model.specs.Geometry.{Geometry}
use Rattle.stair_model.specs.Stripe.{Stripe, SECTOR, IsSector, IsStripeOf, IsWellFormed, cell, byte_of, with_cell, zero_stripe}

-- two cells at one place of the list are one cell
one_place : (w i j row chunk : ℕ) → j < w → chunk < w → i * w + j ≡ row * w + chunk → (i ≡ row) × (j ≡ chunk)
one_place w i j row chunk j_in chunk_in same =
    let rows : i ≡ row = sym (div-mul-add i w j j_in) ∙ ap (λ (x : ℕ). x / w) same ∙ div-mul-add row w chunk chunk_in in
    let products : i * w ≡ row * w = ap (λ (x : ℕ). x * w) rows in
    (rows, omega (arith, same, products))

pub cell-with_cell_same : (s : Stripe) (row chunk : ℕ) (bytes : List ℕ) → IsWellFormed s → row < s.rows → chunk < s.chunks
    → cell (with_cell s row chunk bytes) row chunk ≡ bytes
cell-with_cell_same s row chunk bytes formed row_in chunk_in =
    let place : row * s.chunks + chunk < s.chunks * s.rows = mul-add-lt row s.chunks chunk s.rows row_in chunk_in in
    get_or-set_same s.cells (row * s.chunks + chunk) bytes _ (omega (arith, place, formed.count))

pub cell-with_cell_other : (s : Stripe) (i j row chunk : ℕ) (bytes : List ℕ) → j < s.chunks → chunk < s.chunks
    → ¬ ((i ≡ row) × (j ≡ chunk)) → cell (with_cell s row chunk bytes) i j ≡ cell s i j
cell-with_cell_other s i j row chunk bytes j_in chunk_in other =
    get_or-set_other s.cells (row * s.chunks + chunk) (i * s.chunks + j) bytes _
    (λ same. other (one_place s.chunks i j row chunk j_in chunk_in same))

pub cell-zero_stripe : (g : Geometry) (i j : ℕ) → i < g.r → j < g.n → cell (zero_stripe g) i j ≡ replicate SECTOR 0
cell-zero_stripe g i j i_in j_in =
    let place : i * g.n + j < g.n * g.r = mul-add-lt i g.n j g.r i_in j_in in
    get_or-replicate (g.r * g.n) (i * g.n + j) (replicate SECTOR 0) _ (omega (arith, place))

-- ---- stripes by their bytes

-- a place of a row and a place of a column are one of all cells
pub number_in : (g : Geometry) (i j : ℕ) → i < g.r → j < g.n → i * g.n + j < g.r * g.n
number_in g i j row chunk = omega (arith, mul-add-lt i g.n j g.r row chunk)

pub cell-IsSector : (g : Geometry) (stripe : Stripe) (i j : ℕ) → IsStripeOf g stripe → IsWellFormed stripe → i < g.r → j < g.n
    → IsSector (cell stripe i j)
cell-IsSector g stripe i j of formed row chunk =
    let place : i * stripe.chunks + j < stripe.chunks * stripe.rows =
    mul-add-lt i stripe.chunks j stripe.rows (omega (arith, of.rows)) (omega (arith, of.chunks))
    in
    All-get_or IsSector stripe.cells (i * stripe.chunks + j) [] (omega (arith, place, formed.count)) formed.sectors

-- each place of a list of bytes is a byte, also past its end
pub byte_at-lt : (bytes : List ℕ) (p : ℕ) → All (λ b. b < 256) bytes → slice_index bytes p < 256
byte_at-lt bytes p all =
    elim (cases_lt p (length bytes)) [
      | inl within ↦ All-get_or (λ b. b < 256) bytes p 0 within all
      | inr past ↦ let none : slice_index bytes p ≡ 0 = get_or_past bytes p 0 past in omega arith
    ]

-- sector k, or no bytes past the last sector
pub sector_bytes : (sectors : List (List ℕ)) (k : ℕ) → All IsSector sectors → All (λ b. b < 256) (slice_index_or sectors k [])
sector_bytes sectors k all =
    elim (cases_lt k (length sectors)) [
      | inl within ↦ (All-get_or IsSector sectors k [] within all).1
      | inr past ↦ subst (All (λ b. b < 256)) (sym (get_or_past sectors k [] past)) (All-nil (λ b. b < 256))
    ]

-- a sector that is filled with one byte
pub filled-IsSector : (b : ℕ) → b < 256 → IsSector (replicate SECTOR b)
filled-IsSector b byte = (length-replicate {A = ℕ} SECTOR b, All-replicate (λ x. x < 256) SECTOR b byte)

-- the bytes of a stripe are bytes, also past their ends
pub byte_of-lt : (stripe : Stripe) → IsWellFormed stripe → (p i j : ℕ) → byte_of stripe p i j < 256
byte_of-lt stripe formed p i j =
    byte_at-lt (cell stripe i j) p (sector_bytes stripe.cells (i * stripe.chunks + j) formed.sectors)

-- sectors with the same bytes are the same
pub same_sector : (x y : List ℕ) → length x ≡ SECTOR → length y ≡ SECTOR
    → ((p : ℕ) → p < SECTOR → slice_index x p ≡ slice_index y p) → x ≡ y
same_sector x y first second same = ext_get_or 0 x y (first ∙ sym second) (λ p p_in. same p (omega (arith, first)))

-- and so are cells
pub same_cell : (g : Geometry) (a b : Stripe) (i j : ℕ) → IsStripeOf g a → IsWellFormed a → IsStripeOf g b → IsWellFormed b
    → i < g.r → j < g.n → ((p : ℕ) → p < SECTOR → byte_of a p i j ≡ byte_of b p i j) → cell a i j ≡ cell b i j
same_cell g a b i j a_of a_formed b_of b_formed row chunk =
    same_sector (cell a i j) (cell b i j)
    (cell-IsSector g a i j a_of a_formed row chunk).0 (cell-IsSector g b i j b_of b_formed row chunk).0
