-- Stripes of which, at each byte position, one data cell is 1, and the encoded stripes of one block that is filled with 01.
use Rattle.std.proofs.Common.{◌≡◌, ◌≢◌, ℕ, ◌+◌, ◌-◌, ◌*◌, ◌/◌, ◌%◌, ◌<◌, ◌≤◌, true, false, if◌then◌else◌, ◌==◌, List, slice_index, slice_set, replicate, inl, inr, sym, ◌∙◌, ap, ap₂, arith}
use Rattle.std.proofs.lemmas.Bool.{cases_eq, cond-true, cond-false, eq-eqb, ne_eqb, true≢false}
use Rattle.std.proofs.lemmas.List.{get_or-set_same, get_or-set_other, get_or-replicate, length-replicate}
use Rattle.stair_model.specs.Geometry.{Geometry, IsWithinLimits}
use Rattle.stair_model.specs.Cell.{Data, cell_at, is_parity}
use Rattle.stair_model.specs.Costs.{unit_blocks}
use Rattle.stair_model.specs.Encoding.{IsEncodedFrom, IsEncodingOf}
use Rattle.stair_model.specs.Stripe.{Stripe, SECTOR, IsStripeOf, IsWellFormed, byte_of, with_cell}
use Rattle.stair_model.proofs.StripeLaws.{byte_of-lt, number_in}
use Rattle.stair_model.proofs.LinearLaws.{words_agree}
use Rattle.stair_model.proofs.UnitLaws.{unit_encoding-data}
use Rattle.stair_std.specs.Cells.{cell_of_number, is_parity_number, blocks_before, byte_of_number}
use Rattle.stair_std.specs.UnitsSteps.{unit_byte, AreUnitBlocks, AreUnits}
use Rattle.stair_std.proofs.Numbers.{bytes_at-number, bytes_of-put, bytes_of-kept, bytes_of-number, cell_at-number, cell_of-number, block_number, block_cell, is_block, row_in, slot_in}

-- ---- one block of the stripe

pub unit_byte-one : (first p d : ℕ) → first + p ≡ d → unit_byte first p d ≡ 1
unit_byte-one first p d here = cond-true (first + p == d) 1 0 (eq-eqb (first + p) d here)

pub unit_byte-zero : (first p d : ℕ) → first + p ≢ d → unit_byte first p d ≡ 0
unit_byte-zero first p d other = cond-false (first + p == d) 1 0 (ne_eqb (first + p) d other)

-- the one byte is set where it falls into the sector
pub unit_block-set : (first block p : ℕ) → first ≤ block → block - first < 512 → p < 512
    → slice_index (slice_set (replicate 512 0) (block - first) 1) p ≡ unit_byte first p block
unit_block-set first block p from within p_in =
    elim (cases_eq p (block - first)) [
      | inl here ↦
          ap (slice_index (slice_set (replicate 512 0) (block - first) 1)) here
          ∙ get_or-set_same (replicate 512 0) (block - first) 1 0 (omega (arith, length-replicate {A = ℕ} 512 0))
          ∙ sym (unit_byte-one first p block (omega arith))
      | inr other ↦
          get_or-set_other (replicate 512 0) (block - first) p 1 0 other
          ∙ get_or-replicate 512 p 0 0 p_in ∙ sym (unit_byte-zero first p block (λ e. other (omega arith)))
    ]

pub unit_block-zero : (first block p : ℕ) → first + p ≢ block → p < 512 → slice_index (replicate 512 0) p ≡ unit_byte first p block
unit_block-zero first block p other p_in = get_or-replicate 512 p 0 0 p_in ∙ sym (unit_byte-zero first p block other)

-- ---- the blocks so far

pub record HasUnitBlocks (g : Geometry) (first c : ℕ) (stripe : Stripe) : Type 0 where
  pub of : IsStripeOf g stripe
  pub blocks :
      (p t : ℕ) → p < SECTOR → t < c → is_parity_number g t ≡ false →
      byte_of_number stripe p t ≡ unit_byte first p (blocks_before g t)

pub HasUnitBlocks-none : (g : Geometry) (first : ℕ) (stripe : Stripe) → IsStripeOf g stripe → HasUnitBlocks g first 0 stripe
HasUnitBlocks-none g first stripe of = record { of = of; blocks = λ p t p_in before. absurd (omega arith) }

-- a data cell more
pub HasUnitBlocks-block : (g : Geometry) (first c row slot d : ℕ) (stripe : Stripe) (bytes : List ℕ) → row ≡ c / g.n
    → slot ≡ c % g.n → c < g.r * g.n → cell_at g row slot ≡ Data d → IsWellFormed (with_cell stripe row slot bytes)
    → ((p : ℕ) → p < 512 → slice_index bytes p ≡ unit_byte first p d)
    → HasUnitBlocks g first c stripe → HasUnitBlocks g first (c + 1) (with_cell stripe row slot bytes)
HasUnitBlocks-block g first c row slot d stripe bytes row_is slot_is within is formed unit so_far = record {
  of = record { rows = so_far.of.rows; chunks = so_far.of.chunks };
  blocks = λ p t p_in before is_data.
      elim (cases_eq t c) [
        | inl here ↦
            ap (byte_of_number (with_cell stripe row slot bytes) p) here
            ∙ ap (λ (b : List ℕ). slice_index b p) (bytes_of-put g stripe c row slot bytes so_far.of row_is slot_is within formed)
            ∙ unit p p_in
            ∙ ap (unit_byte first p) (block_number g c d (sym (cell_at-number g c row slot row_is slot_is) ∙ is) ∙ ap (blocks_before g) (sym here))
        | inr other ↦
            ap (λ (b : List ℕ). slice_index b p) (bytes_of-kept g stripe c t row slot bytes so_far.of row_is slot_is other)
            ∙ so_far.blocks p t p_in (omega arith) is_data
      ];
}

-- a parity more
pub HasUnitBlocks-parity : (g : Geometry) (first c row slot : ℕ) (stripe : Stripe) → row ≡ c / g.n → slot ≡ c % g.n
    → is_parity (cell_at g row slot) ≡ true → HasUnitBlocks g first c stripe → HasUnitBlocks g first (c + 1) stripe
HasUnitBlocks-parity g first c row slot stripe row_is slot_is is so_far = record {
  of = so_far.of;
  blocks = λ p t p_in before is_data.
      elim (cases_eq t c) [
        | inl here ↦
            absurd (true≢false (sym (ap is_parity (sym (cell_at-number g c row slot row_is slot_is)) ∙ is)
            ∙ ap (is_parity_number g) (sym here) ∙ is_data))
        | inr other ↦ so_far.blocks p t p_in (omega arith) is_data
      ];
}

pub AreUnitBlocks-all : (g : Geometry) (first c : ℕ) (stripe : Stripe) → g.r * g.n ≤ c → HasUnitBlocks g first c stripe
    → AreUnitBlocks g first stripe
AreUnitBlocks-all g first c stripe all so_far = record {
  of = so_far.of;
  blocks = λ p t p_in within is_data. so_far.blocks p t p_in (omega arith) is_data;
}

-- encoding keeps the blocks
pub AreUnits-encoded : (g : Geometry) (first : ℕ) (before after : Stripe) → IsWithinLimits g → AreUnitBlocks g first before
    → IsEncodedFrom g before after → AreUnits g first after
AreUnits-encoded g first before after limits units encoded = record {
  units = record {
    of = encoded.of;
    blocks = λ p c p_in within is_data.
        ap (λ (b : List ℕ). slice_index b p)
        (sym (bytes_at-number g after c encoded.of)
        ∙ sym (encoded.same_data (c / g.n) (c % g.n) (blocks_before g c) (row_in g c limits within) (slot_in g c limits) (block_cell g c is_data))
        ∙ bytes_at-number g before c units.of)
        ∙ units.blocks p c p_in within is_data;
  };
  formed = encoded.formed;
  codeword = encoded.codeword;
}

-- ---- the encoded stripes of one block

-- a stripe with units at a byte has there the bytes of the encoded stripe
pub units_agree : (g : Geometry) (first byte d p : ℕ) (stripe encoded : Stripe) → IsWithinLimits g → AreUnits g first stripe
    → first + byte ≡ d → byte < 512 → p < 512 → IsEncodingOf g (unit_blocks g d) encoded
    → (i j : ℕ) → i < g.r → j < g.n → byte_of stripe byte i j ≡ byte_of encoded p i j
units_agree g first byte d p stripe encoded limits units here byte_in p_in is =
    words_agree g (byte_of stripe byte) (byte_of encoded p) limits
    (λ i j row chunk. byte_of-lt stripe units.formed byte i j)
    (units.codeword.words byte byte_in)
    (λ i j row chunk. byte_of-lt encoded is.formed p i j)
    (is.codeword.words p p_in)
    (λ i j e row chunk data_cell.
    let c = i * g.n + j in
    let cell_is : cell_of_number g (i * g.n + j) ≡ Data e = sym (cell_of-number g i j chunk) ∙ data_cell in
    ap (λ (b : List ℕ). slice_index b byte) (bytes_of-number g stripe i j units.units.of chunk)
    ∙ units.units.blocks byte c byte_in (number_in g i j row chunk) (is_block g c e cell_is)
    ∙ ap₂ (λ (a b : ℕ). if a == b then 1 else 0) here (sym (block_number g c e cell_is))
    ∙ sym (unit_encoding-data g d p i j e encoded limits is p_in row chunk data_cell))
