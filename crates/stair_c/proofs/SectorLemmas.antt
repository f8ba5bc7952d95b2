-- No two cells of stripes share a sector.
use Rattle.std.proofs.Common.{◌≡◌, ℕ, ◌+◌, ◌*◌, ◌/◌, ◌%◌, ◌<◌, ◌≤◌, List, [], inl, inr, length, slice_index_or, slice_set, zero, suc, sym, ap, ap₂, subst, ◌∙◌, arith}
use Rattle.std.proofs.lemmas.Bool.{cases_lt}
use Rattle.std.proofs.lemmas.List.{ext_get_or, get_or-set_same, get_or-set_other, length-set}
use Rattle.std.proofs.lemmas.Nat.{div-add-mod', div-mul-add, div_below, mod-mul-add, mod_below, mul-add-lt, mul-le, row_fits}
use Rattle.stair_model.specs.Geometry.{Geometry}
use Rattle.stair_model.specs.Stripe.{Stripe, IsStripeOf, IsWellFormed, cell, with_cell}
use Rattle.stair_model.proofs.StripeLaws.{cell-with_cell_other, cell-with_cell_same}
use Rattle.stair_c.specs.Chunks.{HasChunkOf, HasStripes, IsCodewordAt, IsSameAt, IsStripeAt, sector_at, sector_number}

-- a product that isn't zero
right_some : (k r n : ℕ) → k < r * n → 0 < n
right_some k r zero below = omega arith
right_some k r (suc n) below = omega arith

-- a number below w and one more digit have one sum
two_digits : (w a b c d : ℕ) → b < w → d < w → a * w + b ≡ c * w + d → (a ≡ c) × (b ≡ d)
two_digits w a b c d b_in d_in same =
    let first : a ≡ c = sym (div-mul-add a w b b_in) ∙ ap (λ (x : ℕ). x / w) same ∙ div-mul-add c w d d_in in
    let products : a * w ≡ c * w = ap (λ (x : ℕ). x * w) first in
    (first, omega (arith, same, products))

-- each cell has a sector of its own
pub one_cell : (g : Geometry) (k s i j t u v : ℕ) → s < k → t < k → i < g.r → u < g.r
    → sector_number g k s i j ≡ sector_number g k t u v → (s ≡ t) × (i ≡ u) × (j ≡ v)
one_cell g k s i j t u v s_in t_in i_in u_in same =
    let outer = two_digits g.r (j * k + s) i (v * k + t) u i_in u_in same in
    let inner = two_digits k j s v t s_in t_in outer.0 in
    (inner.1, outer.1, inner.0)

-- and it is one of the sectors
pub number_below : (g : Geometry) (k s i j : ℕ) → s < k → i < g.r → j < g.n → sector_number g k s i j < g.n * k * g.r
number_below g k s i j s_in i_in j_in =
    let group : j * k + s < g.n * k = omega (arith, mul-add-lt j k s g.n j_in s_in) in
    omega (arith, mul-add-lt (j * k + s) g.r i (g.n * k) group i_in)

-- each sector is that of a cell
pub has_cell : (g : Geometry) (k p : ℕ) → p < g.n * k * g.r
    → (s : ℕ) × (i : ℕ) × (j : ℕ) × (s < k) × (i < g.r) × (j < g.n) × (p ≡ sector_number g k s i j)
has_cell g k p within =
    let rows : 0 < g.r = right_some p (g.n * k) g.r within in
    let q = p / g.r in
    let among : q < g.n * k = div_below p g.r (g.n * k) rows within in
    let stripes : 0 < k = right_some q g.n k among in
    let chunk : q / k < g.n = div_below q k g.n stripes among in (
      q % k,
      p % g.r,
      q / k,
      mod_below q k stripes,
      mod_below p g.r rows,
      chunk,
      sym (ap (λ (x : ℕ). x * g.r + p % g.r) (div-add-mod' q k) ∙ div-add-mod' p g.r),
    )

-- the sectors of a slot follow those of the slots before
pub in_chunks : (g : Geometry) (k s i j : ℕ) → sector_number g k s i j ≡ j * (k * g.r) + (s * g.r + i)
in_chunks g k s i j = grind arith

-- the chunk of a stripe is among the chunks, and its sectors among the sectors
pub chunk_within : (n k r j s sectors : ℕ) → sectors ≡ n * k * r → 0 < r → j < n → s < k
    → (j * k + s < sectors + 1) × ((j * k + s) * r + r ≤ sectors)
chunk_within n k r j s sectors whole some j_in s_in =
    let group : j * k + s < n * k = omega (arith, row_fits j k n k j_in (omega arith), s_in) in
    let within : (j * k + s) * r + r ≤ n * k * r = row_fits (j * k + s) r (n * k) r group (omega arith) in
    let few : (j * k + s) * 1 ≤ (j * k + s) * r = mul-le (j * k + s) 1 (j * k + s) r (omega arith) some in
    (omega (arith, within, few, whole), omega (arith, within, whole))

-- ---- a cell is stored

-- the sectors with the bytes of cell (row, j) of stripe s in place
module _ (g : Geometry) (k : ℕ) (sectors : List (List ℕ)) (s j row place : ℕ) (bytes : List ℕ)
    (whole : HasStripes g k sectors) (s_in : s < k) (j_in : j < g.n) (row_in : row < g.r) (here : place ≡ sector_number g k s row j) where
  abbrev pub stored_in : List (List ℕ)
  stored_in = slice_set sectors place bytes

  pub stored-whole : HasStripes g k stored_in
  stored-whole = length-set sectors place bytes ∙ whole

  pub stored-here : sector_at g k stored_in s row j ≡ bytes
  stored-here =
      subst (λ (p : ℕ). slice_index_or stored_in p [] ≡ bytes) here
      (get_or-set_same sectors place bytes [] (omega (arith, here, whole, number_below g k s row j s_in row_in j_in)))

  -- any other cell's sector stays
  pub stored-others : (t i v : ℕ) → t < k → i < g.r → ¬ ((t ≡ s) × (i ≡ row) × (v ≡ j)) → sector_at g k stored_in t i v ≡ sector_at g k sectors t i v
  stored-others t i v t_in i_in other =
      get_or-set_other sectors place (sector_number g k t i v) bytes []
      (λ same. other (one_cell g k t i v s row j t_in s_in i_in row_in (same ∙ here)))

  -- a row more of a chunk
  pub stored-more : (stripe : Stripe) → bytes ≡ cell stripe row j → HasChunkOf g k sectors s stripe j row → HasChunkOf g k stored_in s stripe j (row + 1)
  stored-more stripe is before i i_in =
      elim (cases_lt i row) [
        | inl earlier ↦ before i earlier ∙ sym (stored-others s i j s_in (omega (arith, earlier, row_in)) (λ same. omega (arith, earlier, same.1)))
        | inr later ↦
            let same : i ≡ row = omega (arith, later, i_in) in
            rw same (sym is ∙ sym stored-here)
      ]

-- ---- a cell is loaded

-- the stripe with the bytes of the sector of cell (row, j)
module _ (g : Geometry) (k : ℕ) (sectors : List (List ℕ)) (s j row place : ℕ) (stripe : Stripe)
    (of : IsStripeOf g stripe) (formed : IsWellFormed stripe) (j_in : j < g.n) (row_in : row < g.r)
    (here : place ≡ sector_number g k s row j) where
  abbrev pub loaded : Stripe
  loaded = with_cell stripe row j (slice_index_or sectors place [])

  pub loaded-of : IsStripeOf g loaded
  loaded-of = record { rows = of.rows; chunks = of.chunks }

  -- any other cell stays
  pub loaded-others : (i v : ℕ) → v < g.n → ¬ ((i ≡ row) × (v ≡ j)) → cell loaded i v ≡ cell stripe i v
  loaded-others i v v_in other =
      cell-with_cell_other stripe i v row j (slice_index_or sectors place []) (omega (arith, of.chunks)) (omega (arith, of.chunks)) other

  -- a row more of a chunk
  pub loaded-more : HasChunkOf g k sectors s stripe j row → HasChunkOf g k sectors s loaded j (row + 1)
  loaded-more before i i_in =
      elim (cases_lt i row) [
        | inl earlier ↦ loaded-others i j j_in (λ same. omega (arith, earlier, same.0)) ∙ before i earlier
        | inr later ↦
            let same : i ≡ row = omega (arith, later, i_in) in
            let is : cell loaded row j ≡ slice_index_or sectors place [] =
            cell-with_cell_same stripe row j (slice_index_or sectors place []) formed (omega (arith, of.rows)) (omega (arith, of.chunks)) in
            rw same (is ∙ ap (λ (p : ℕ). slice_index_or sectors p []) here)
      ]

-- ---- one stripe for its sectors

-- a stripe by its three fields
abbrev stripe_from : ℕ → ℕ → List (List ℕ) → Stripe
stripe_from rows chunks cells = record { rows = rows; chunks = chunks; cells = cells }

-- the sectors of a stripe determine it
module _ (g : Geometry) (k : ℕ) (sectors : List (List ℕ)) (s : ℕ) (a b : Stripe) (a_at : IsStripeAt g k sectors s a) (b_at : IsStripeAt g k sectors s b) where
  rows : a.rows ≡ b.rows
  rows = a_at.of.rows ∙ sym b_at.of.rows

  chunks : a.chunks ≡ b.chunks
  chunks = a_at.of.chunks ∙ sym b_at.of.chunks

  place : (stripe : Stripe) → IsStripeOf g stripe → (p : ℕ) → p / g.n * stripe.chunks + p % g.n ≡ p
  place stripe of p = ap (λ (n : ℕ). p / g.n * n + p % g.n) of.chunks ∙ div-add-mod' p g.n

  same_cells : (p : ℕ) → p < length a.cells → slice_index_or a.cells p [] ≡ slice_index_or b.cells p []
  same_cells p p_in =
      let within : p < g.r * g.n = subst (λ (n : ℕ). p < n) (a_at.formed.count ∙ ap₂ (λ (x y : ℕ). x * y) a_at.of.rows a_at.of.chunks) p_in in
      let some : 0 < g.n = right_some p g.r g.n within in
      let row : p / g.n < g.r = div_below p g.n g.r some within in
      let chunk : p % g.n < g.n = mod_below p g.n some in
      ap (λ n. slice_index_or a.cells n []) (sym (place a a_at.of p))
      ∙ a_at.cells (p / g.n) (p % g.n) row chunk ∙ sym (b_at.cells (p / g.n) (p % g.n) row chunk)
      ∙ ap (λ n. slice_index_or b.cells n []) (place b b_at.of p)

  pub one_stripe : a ≡ b
  one_stripe =
      ap₂ (λ rows chunks. stripe_from rows chunks a.cells) rows chunks
      ∙ ap (λ cells. stripe_from b.rows b.chunks cells)
      (ext_get_or [] a.cells b.cells (a_at.formed.count ∙ ap₂ (λ (x y : ℕ). x * y) rows chunks ∙ sym b_at.formed.count) same_cells)

-- ---- the same sectors

-- a stripe stays where its sectors do
pub kept_at : (g : Geometry) (k : ℕ) (old new : List (List ℕ)) (s : ℕ) (stripe : Stripe) → IsSameAt g k old new s
    → IsStripeAt g k old s stripe → IsStripeAt g k new s stripe
kept_at g k old new s stripe same at = record {
  of = at.of;
  formed = at.formed;
  cells = λ i j i_in j_in. at.cells i j i_in j_in ∙ sym (same i j i_in j_in);
}

-- and was there before
pub was_at : (g : Geometry) (k : ℕ) (old new : List (List ℕ)) (s : ℕ) (stripe : Stripe) → IsSameAt g k old new s
    → IsStripeAt g k new s stripe → IsStripeAt g k old s stripe
was_at g k old new s stripe same at = record {
  of = at.of;
  formed = at.formed;
  cells = λ i j i_in j_in. at.cells i j i_in j_in ∙ same i j i_in j_in;
}

-- and is a codeword as before
pub codeword_kept : (g : Geometry) (k : ℕ) (old new : List (List ℕ)) (s : ℕ) → IsSameAt g k old new s
    → IsCodewordAt g k old s → IsCodewordAt g k new s
codeword_kept g k old new s same before = record {
  stripe = before.stripe;
  at = kept_at g k old new s before.stripe same before.at;
  codeword = before.codeword;
}

-- ---- whole stripes

-- sectors that are whole stripes are a multiple of a stripe's cells
pub no_stripes : (n r cells sectors : ℕ) → cells ≡ n * r → 0 < cells → ¬ (sectors % cells ≡ 0) → (k : ℕ) → ¬ (sectors ≡ n * k * r)
no_stripes n r cells sectors are some rest k whole =
    let turned : n * k * r ≡ k * cells + 0 = rw are (grind arith) in
    rest (ap (λ (x : ℕ). x % cells) (whole ∙ turned) ∙ mod-mul-add k cells 0 some)
