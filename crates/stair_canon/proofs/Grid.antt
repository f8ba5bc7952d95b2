-- The symbols of a canonical stripe by their rows and columns.
use Rattle.std.proofs.Common.{◌≡◌, ℕ, ◌-◌, ◌*◌, ◌/◌, ◌<◌, ◌≤◌, [], Bool, true, false, replicate, slice_index_or, ltb, ◌&&◌, inl, inr, sym, ap, ◌∙◌, lit<, arith}
use Rattle.std.proofs.lemmas.Bool.{cases_lt, lt-ltb, le-ltb, cond-true, cond-false, false≢true, false_from_ne_true}
use Rattle.std.proofs.lemmas.List.{get_or-replicate, get_or_past, length-replicate}
use Rattle.std.proofs.lemmas.List.Elements.{All-replicate}
use Rattle.std.proofs.lemmas.Nat.{mul-add-lt, div-mul-add}
use Rattle.stair_model.specs.Canonical.{canonical_chunks, canonical_rows}
use Rattle.stair_model.specs.Geometry.{Geometry, IsWithinLimits, classes}
use Rattle.stair_model.specs.Stripe.{IsSector, SECTOR}
use Rattle.stair_model.proofs.CellLaws.{coverage_le}
use Rattle.stair_model.proofs.StripeLaws.{filled-IsSector}
use Rattle.stair_canon.specs.Canonical.{CanonicalStripe, KnownSymbols, IsKnown, IsWellFormed, bytes_of, is_known, mark, number, symbol}

-- a canonical stripe has at most 64 rows and 64 columns
pub columns_few : (g : Geometry) → IsWithinLimits g → canonical_chunks g ≤ 64
columns_few g limits = omega (arith, limits.devices.1, limits.covered_chunks.1)

pub rows_few : (g : Geometry) → IsWithinLimits g → canonical_rows g ≤ 64
rows_few g limits = omega (arith, limits.rows.1, (coverage_le g limits (classes g - 1) (omega (arith, limits.covered_chunks.0))).1)

-- its rows have their symbols one after another
pub number_in : (g : Geometry) (i j : ℕ) → i < canonical_rows g → j < canonical_chunks g → number g i j < canonical_rows g * canonical_chunks g
number_in g i j row_in column_in = omega (arith, mul-add-lt i (canonical_chunks g) j (canonical_rows g) row_in column_in)

pub number_once : (g : Geometry) (i j s t : ℕ) → j < canonical_chunks g → t < canonical_chunks g → number g i j ≡ number g s t
    → (i ≡ s) × (j ≡ t)
number_once g i j s t j_in t_in same =
    let w = canonical_chunks g in
    let rows : i ≡ s = sym (div-mul-add i w j j_in) ∙ ap (λ (x : ℕ). x / w) same ∙ div-mul-add s w t t_in in
    let products : i * w ≡ s * w = ap (λ (x : ℕ). x * w) rows in
    (rows, omega (arith, same, products))

-- ---- symbols and marks within the last column, and beyond it

module _ (c : CanonicalStripe) (i j : ℕ) where
  pub symbol-in : j < canonical_chunks c.geometry → symbol c i j ≡ bytes_of c.symbols (number c.geometry i j)
  symbol-in within = cond-true (ltb j (canonical_chunks c.geometry)) _ _ (lt-ltb j (canonical_chunks c.geometry) within)

  pub symbol-out : canonical_chunks c.geometry ≤ j → symbol c i j ≡ []
  symbol-out past = cond-false (ltb j (canonical_chunks c.geometry)) _ _ (le-ltb j (canonical_chunks c.geometry) past)

  pub mark-in : j < canonical_chunks c.geometry → mark c i j ≡ is_known c.symbols (number c.geometry i j)
  mark-in within = ap (λ (b : Bool). b && is_known c.symbols (number c.geometry i j)) (lt-ltb j (canonical_chunks c.geometry) within)

  pub mark-out : canonical_chunks c.geometry ≤ j → mark c i j ≡ false
  mark-out past = ap (λ (b : Bool). b && is_known c.symbols (number c.geometry i j)) (le-ltb j (canonical_chunks c.geometry) past)

-- a known symbol is what its memory holds, and one that isn't is zero
pub bytes-known : (s : KnownSymbols) (k : ℕ) → is_known s k ≡ true → bytes_of s k ≡ slice_index_or s.memory k []
bytes-known s k known = cond-true (is_known s k) _ _ known

pub bytes-unknown : (s : KnownSymbols) (k : ℕ) → is_known s k ≡ false → bytes_of s k ≡ replicate SECTOR 0
bytes-unknown s k unknown = cond-false (is_known s k) _ _ unknown

pub symbol-known : (c : CanonicalStripe) (i j : ℕ) → j < canonical_chunks c.geometry → is_known c.symbols (number c.geometry i j) ≡ true
    → slice_index_or c.symbols.memory (number c.geometry i j) [] ≡ symbol c i j
symbol-known c i j within known = sym (symbol-in c i j within ∙ bytes-known c.symbols (number c.geometry i j) known)

pub symbol-unknown : (c : CanonicalStripe) (i j : ℕ) → j < canonical_chunks c.geometry → ¬ IsKnown c i j → symbol c i j ≡ replicate SECTOR 0
symbol-unknown c i j within unknown =
    symbol-in c i j within
    ∙ bytes-unknown c.symbols (number c.geometry i j) (sym (mark-in c i j within) ∙ false_from_ne_true (mark c i j) unknown)

-- zeros, none of them known
abbrev pub zeros : ℕ → KnownSymbols
zeros count = record { memory = replicate count (replicate 512 0); known = replicate count false }

pub zeros-unknown : (count k : ℕ) → is_known (zeros count) k ≡ false
zeros-unknown count k =
    elim (cases_lt k count) [
      | inl below ↦ get_or-replicate count k false false below
      | inr past ↦ get_or_past (replicate count false) k false (omega (arith, length-replicate count false))
    ]

module _ (g : Geometry) (count : ℕ) where
  pub IsWellFormed-zeros : IsWithinLimits g → count ≡ canonical_rows g * canonical_chunks g
      → IsWellFormed (record { geometry = g; symbols = zeros count })
  IsWellFormed-zeros limits all = record {
    limits = limits;
    count = length-replicate count (replicate 512 0) ∙ all;
    marks = length-replicate count false ∙ all;
    sectors = All-replicate IsSector count (replicate 512 0) (filled-IsSector 0 (lit< tt));
  }

  pub symbol-zeros : (i j : ℕ) → j < canonical_chunks g → symbol (record { geometry = g; symbols = zeros count }) i j ≡ replicate SECTOR 0
  symbol-zeros i j within =
      symbol-in (record { geometry = g; symbols = zeros count }) i j within
      ∙ bytes-unknown (zeros count) (number g i j) (zeros-unknown count (number g i j))

  pub unknown-zeros : (i j : ℕ) → j < canonical_chunks g → ¬ IsKnown (record { geometry = g; symbols = zeros count }) i j
  unknown-zeros i j within is_known =
      false≢true (sym (mark-in (record { geometry = g; symbols = zeros count }) i j within ∙ zeros-unknown count (number g i j)) ∙ is_known)
