-- A stripe whose parities are the sums of coefficient times block is the encoded stripe of its blocks.
use Rattle.std.proofs.Common.{◌≡◌, ◌≢◌, ℕ, ◌+◌, ◌-◌, ◌*◌, ◌<◌, ◌≤◌, ◌==◌, true, false, if◌then◌else◌, List, slice_index, inl, inr, refl, sym, ◌∙◌, ap, ap₂, subst, arith, add-zero}
use Rattle.std.proofs.lemmas.Bool.{cases_eq, cases_Bool, true≢false, cond-true, cond-false, eq-eqb, ne_eqb}
use Rattle.stair_model.specs.Field.{product}
use Rattle.stair_model.specs.Sum.{sum_below}
use Rattle.stair_model.specs.Geometry.{Geometry, IsWithinLimits}
use Rattle.stair_model.specs.Cell.{Data, cell_at, is_parity}
use Rattle.stair_model.specs.Codeword.{Word, MeetsEquations}
use Rattle.stair_model.specs.Costs.{unit_blocks}
use Rattle.stair_model.specs.Encoding.{IsEncodedFrom, IsEncodingOf}
use Rattle.stair_model.specs.Stripe.{Stripe, IsStripeOf, IsWellFormed, byte_of, with_cell}
use Rattle.stair_model.proofs.FieldLaws.{product-zero_left, product-zero_right, product_comm, product-one_right}
use Rattle.stair_model.proofs.SumLaws.{field_sum_same, field_sum_one_term}
use Rattle.stair_model.proofs.CountLaws.{sum_below_none, sum_below_next}
use Rattle.stair_model.proofs.CellLaws.{cell_at_parity}
use Rattle.stair_model.proofs.StripeLaws.{byte_of-lt, number_in}
use Rattle.stair_model.proofs.LinearLaws.{weighted_sum, MeetsEquations-weighted, MeetsEquations-same}
use Rattle.stair_model.proofs.CostLaws.{unit_encoding}
use Rattle.stair_model.proofs.UnitLaws.{unit_encoding-data}
use Rattle.stair_std.specs.Cells.{is_parity_number, parities_before, blocks_before, bytes_of, byte_of_number, IsPart}
use Rattle.stair_std.specs.Coefficients.{Coefficients, IsGenerator, coefficient_of, nonzero_coefficients, parity_cells}
use Rattle.stair_std.specs.Standard.{block_byte, parity_byte, parity_steps}
use Rattle.stair_std.specs.declared.cells.Part.TheVariants.{Parity}
use Rattle.stair_std.proofs.Counting.{steps_of_cells}
use Rattle.stair_std.proofs.Numbers.{counts_split, IsNumberOf, IsNumberOf-at, next_row, next_slot, bytes_of-put, bytes_of-kept, cell_at-number, parities_before-parity, parities_before-block, parities_in_all, parity_in, bytes_of-number, cell_of-number, block_cell, block_in, is_block, block_once}

module _ (c : Coefficients) (generator : IsGenerator c) (old new : Stripe) (old_of : IsStripeOf c.geometry old)
    (of : IsStripeOf c.geometry new) (formed : IsWellFormed new)
    (kept : (t : ℕ) → t < c.geometry.r * c.geometry.n → is_parity_number c.geometry t ≡ false → bytes_of new t ≡ bytes_of old t)
    (summed : (t p : ℕ) → t < c.geometry.r * c.geometry.n → p < 512 → is_parity_number c.geometry t ≡ true
    → byte_of_number new p t ≡ parity_byte c old p (parities_before c.geometry t)) where
  -- the encoded stripe of the block of cell t alone, filled with 01
  abbrev encoded : ℕ → Stripe
  encoded t = (unit_encoding c.geometry (blocks_before c.geometry t) generator.limits).0

  is_encoded : (t : ℕ) → IsEncodingOf c.geometry (unit_blocks c.geometry (blocks_before c.geometry t)) (encoded t)
  is_encoded t = (unit_encoding c.geometry (blocks_before c.geometry t) generator.limits).1

  -- its bytes
  abbrev unit_word : ℕ → Word
  unit_word t = byte_of (encoded t) 0

  -- the sum of these, each times the block's byte
  abbrev summed_word : ℕ → Word
  summed_word p = weighted_sum (c.geometry.r * c.geometry.n) (block_byte c.geometry old p) unit_word

  summed_word-meets : (p : ℕ) → MeetsEquations c.geometry (summed_word p)
  summed_word-meets p =
      MeetsEquations-weighted c.geometry (c.geometry.r * c.geometry.n) (block_byte c.geometry old p) unit_word
      (λ t below. (is_encoded t).codeword.words 0 (omega arith))

  module _ (p i j : ℕ) (p_in : p < 512) (row : i < c.geometry.r) (chunk : j < c.geometry.n) where
    -- the cell's number
    abbrev here : ℕ
    here = i * c.geometry.n + j

    in_stripe : here < c.geometry.r * c.geometry.n
    in_stripe = number_in c.geometry i j row chunk

    byte_here : (s : Stripe) → IsStripeOf c.geometry s → byte_of s p i j ≡ byte_of_number s p here
    byte_here s s_of = ap (λ (b : List ℕ). slice_index b p) (bytes_of-number c.geometry s i j s_of chunk)

    -- what a parity has of a data cell
    term_of_parity : is_parity (cell_at c.geometry i j) ≡ true → (t : ℕ) → t < c.geometry.r * c.geometry.n
        → product (coefficient_of c (parities_before c.geometry here) (blocks_before c.geometry t)) (block_byte c.geometry old p t)
        ≡ product (block_byte c.geometry old p t) (unit_word t i j)
    term_of_parity is t below =
        elim (cases_Bool (is_parity_number c.geometry t)) [
          | inl parity ↦
              let zero : block_byte c.geometry old p t ≡ 0 = cond-true (is_parity_number c.geometry t) 0 (byte_of_number old p t) parity in
              ap (product (coefficient_of c (parities_before c.geometry here) (blocks_before c.geometry t))) zero
              ∙ product-zero_right (coefficient_of c (parities_before c.geometry here) (blocks_before c.geometry t))
              ∙ sym (ap (λ (a : ℕ). product a (unit_word t i j)) zero ∙ product-zero_left (unit_word t i j))
          | inr block ↦
              ap (λ (a : ℕ). product a (block_byte c.geometry old p t))
              (sym (generator.factors (blocks_before c.geometry t) i j (block_in c.geometry t generator.limits below block) row chunk is
              (encoded t) 0 (omega arith) (is_encoded t)))
              ∙ product_comm (unit_word t i j) (block_byte c.geometry old p t)
        ]

    parity_is : is_parity (cell_at c.geometry i j) ≡ true → byte_of new p i j ≡ summed_word p i j
    parity_is is =
        byte_here new of
        ∙ summed here p in_stripe p_in (ap is_parity (sym (cell_of-number c.geometry i j chunk)) ∙ is)
        ∙ field_sum_same (c.geometry.r * c.geometry.n)
        (λ t. product (coefficient_of c (parities_before c.geometry here) (blocks_before c.geometry t)) (block_byte c.geometry old p t))
        (λ t. product (block_byte c.geometry old p t) (unit_word t i j)) (term_of_parity is)

    module _ (no : is_parity_number c.geometry here ≡ false) where
      data_here : cell_at c.geometry i j ≡ Data (blocks_before c.geometry here)
      data_here = cell_of-number c.geometry i j chunk ∙ block_cell c.geometry here no

      unit_here : (t : ℕ) → unit_word t i j ≡ (if blocks_before c.geometry t == blocks_before c.geometry here then 1 else 0)
      unit_here t =
          unit_encoding-data c.geometry (blocks_before c.geometry t) 0 i j (blocks_before c.geometry here) (encoded t) generator.limits
          (is_encoded t) (omega arith) row chunk data_here

      other_term : (t : ℕ) → t < c.geometry.r * c.geometry.n → t ≢ here → product (block_byte c.geometry old p t) (unit_word t i j) ≡ 0
      other_term t below other =
          elim (cases_Bool (is_parity_number c.geometry t)) [
            | inl parity ↦
                ap (λ (a : ℕ). product a (unit_word t i j)) (cond-true (is_parity_number c.geometry t) 0 (byte_of_number old p t) parity)
                ∙ product-zero_left (unit_word t i j)
            | inr block ↦
                ap (product (block_byte c.geometry old p t))
                (unit_here t
                ∙ cond-false (blocks_before c.geometry t == blocks_before c.geometry here) 1 0
                (ne_eqb (blocks_before c.geometry t) (blocks_before c.geometry here) (λ e. other (block_once c.geometry t here block no e))))
                ∙ product-zero_right (block_byte c.geometry old p t)
          ]

      kept_byte : byte_of new p i j ≡ byte_of_number old p here
      kept_byte = byte_here new of ∙ ap (λ (b : List ℕ). slice_index b p) (kept here in_stripe no)

      block_here : block_byte c.geometry old p here ≡ byte_of new p i j
      block_here = cond-false (is_parity_number c.geometry here) 0 (byte_of_number old p here) no ∙ sym kept_byte

      block_is : byte_of new p i j ≡ summed_word p i j
      block_is =
          sym (product-one_right (byte_of new p i j) (byte_of-lt new formed p i j))
          ∙ ap₂ product (sym block_here)
          (sym (unit_here here
          ∙ cond-true (blocks_before c.geometry here == blocks_before c.geometry here) 1 0
          (eq-eqb (blocks_before c.geometry here) (blocks_before c.geometry here) refl)))
          ∙ sym (field_sum_one_term (c.geometry.r * c.geometry.n) here (λ t. product (block_byte c.geometry old p t) (unit_word t i j))
          in_stripe other_term)

    word_is : byte_of new p i j ≡ summed_word p i j
    word_is =
        elim (cases_Bool (is_parity (cell_at c.geometry i j))) [
          | inl parity ↦ parity_is parity
          | inr block ↦ block_is (ap is_parity (sym (cell_of-number c.geometry i j chunk)) ∙ block)
        ]

  pub encoded_from_sums : IsEncodedFrom c.geometry old new
  encoded_from_sums = record {
    of = of;
    formed = formed;
    codeword = record {
      words = λ p p_in.
          MeetsEquations-same c.geometry (byte_of new p) (summed_word p) generator.limits
          (λ i j row chunk. word_is p i j p_in row chunk) (summed_word-meets p);
    };
    same_data = λ i j d row chunk is.
        bytes_of-number c.geometry old i j old_of chunk
        ∙ sym (kept (i * c.geometry.n + j) (number_in c.geometry i j row chunk)
        (is_block c.geometry (i * c.geometry.n + j) d (sym (cell_of-number c.geometry i j chunk) ∙ is)))
        ∙ sym (bytes_of-number c.geometry new i j of chunk);
  }

-- ---- the parities so far

pub record HasEncoded (c : Coefficients) (old : Stripe) (start number : ℕ) (stripe : Stripe) (steps : ℕ) : Type 0 where
  pub of : IsStripeOf c.geometry stripe
  pub formed : 0 < parities_before c.geometry number → IsWellFormed stripe
  pub kept : (t : ℕ) → is_parity_number c.geometry t ≡ false → bytes_of stripe t ≡ bytes_of old t
  pub summed :
      (t p : ℕ) → p < 512 → t < number → is_parity_number c.geometry t ≡ true →
      byte_of_number stripe p t ≡ parity_byte c old p (parities_before c.geometry t)
  pub counted :
      steps
      ≡ start
      + sum_below number (λ t. if is_parity_number c.geometry t then parity_steps c (parities_before c.geometry t) else 0)

HasEncoded-none : (c : Coefficients) (old : Stripe) (start : ℕ) → IsStripeOf c.geometry old → HasEncoded c old start 0 old start
HasEncoded-none c old start of = record {
  of = of;
  formed = λ some. absurd (omega (arith, sum_below_none (λ t. if is_parity_number c.geometry t then 1 else 0)));
  kept = λ t no. refl;
  summed = λ t p p_in before. absurd (omega arith);
  counted = omega (
    arith,
    sum_below_none (λ t. if is_parity_number c.geometry t then parity_steps c (parities_before c.geometry t) else 0),
  );
}

module _ (c : Coefficients) (old stripe : Stripe) (start number steps row slot : ℕ) (at : IsNumberOf c.geometry number row slot)
    (so_far : HasEncoded c old start number stripe steps) where
  -- a data cell stays
  HasEncoded-block : (d : ℕ) → cell_at c.geometry row slot ≡ Data d → HasEncoded c old start (number + 1) stripe steps
  HasEncoded-block d is = record {
    of = so_far.of;
    formed = λ some. so_far.formed (omega (arith, parities_before-block c.geometry number here));
    kept = so_far.kept;
    summed = λ t p p_in before is_t.
        elim (cases_eq t number) [
          | inl last ↦ absurd (true≢false (sym is_t ∙ ap (is_parity_number c.geometry) last ∙ here))
          | inr other ↦ so_far.summed t p p_in (omega arith) is_t
        ];
    counted = omega (
      arith,
      so_far.counted,
      sum_below_next number _ 0 (λ t. if is_parity_number c.geometry t then parity_steps c (parities_before c.geometry t) else 0) refl
          (sym (cond-false (is_parity_number c.geometry number) (parity_steps c (parities_before c.geometry number)) 0 here)),
    );
  }
    where
      here : is_parity_number c.geometry number ≡ false
      here = is_block c.geometry number d (sym (cell_at-number c.geometry number row slot at.row_is at.slot_is) ∙ is)

  -- a parity of the stripe so far is one of the stripe before
  parity_of_old : (p a : ℕ) → parity_byte c stripe p a ≡ parity_byte c old p a
  parity_of_old p a =
      field_sum_same (c.geometry.r * c.geometry.n)
      (λ t. product (coefficient_of c a (blocks_before c.geometry t)) (block_byte c.geometry stripe p t))
      (λ t. product (coefficient_of c a (blocks_before c.geometry t)) (block_byte c.geometry old p t))
      (λ t below. ap (product (coefficient_of c a (blocks_before c.geometry t))) (same_block t))
    where
      same_block : (t : ℕ) → block_byte c.geometry stripe p t ≡ block_byte c.geometry old p t
      same_block t =
          elim (cases_Bool (is_parity_number c.geometry t)) [
            | inl is_t ↦
                cond-true (is_parity_number c.geometry t) 0 (byte_of_number stripe p t) is_t
                ∙ sym (cond-true (is_parity_number c.geometry t) 0 (byte_of_number old p t) is_t)
            | inr is_data ↦
                cond-false (is_parity_number c.geometry t) 0 (byte_of_number stripe p t) is_data
                ∙ ap (λ (b : List ℕ). slice_index b p) (so_far.kept t is_data)
                ∙ sym (cond-false (is_parity_number c.geometry t) 0 (byte_of_number old p t) is_data)
          ]

  -- a parity more
  HasEncoded-parity : (parity : ℕ) (bytes : List ℕ) → is_parity (cell_at c.geometry row slot) ≡ true
      → parity ≡ parities_before c.geometry number → IsWellFormed (with_cell stripe row slot bytes)
      → ((p : ℕ) → p < 512 → slice_index bytes p ≡ parity_byte c stripe p parity)
      → HasEncoded c old start (number + 1) (with_cell stripe row slot bytes) (steps + parity_steps c parity)
  HasEncoded-parity parity bytes is parity_is formed sums = record {
    of = record { rows = so_far.of.rows; chunks = so_far.of.chunks };
    formed = λ some. formed;
    kept = λ t no.
        bytes_of-kept c.geometry stripe number t row slot bytes so_far.of at.row_is at.slot_is
        (λ e. true≢false (sym here ∙ ap (is_parity_number c.geometry) (sym e) ∙ no))
        ∙ so_far.kept t no;
    summed = λ t p p_in before is_t.
        elim (cases_eq t number) [
          | inl last ↦
              ap (byte_of_number (with_cell stripe row slot bytes) p) last
              ∙ ap (λ (b : List ℕ). slice_index b p)
              (bytes_of-put c.geometry stripe number row slot bytes so_far.of at.row_is at.slot_is at.within formed)
              ∙ sums p p_in ∙ parity_of_old p parity
              ∙ ap (parity_byte c old p) (parity_is ∙ ap (parities_before c.geometry) (sym last))
          | inr other ↦
              ap (λ (b : List ℕ). slice_index b p)
              (bytes_of-kept c.geometry stripe number t row slot bytes so_far.of at.row_is at.slot_is other)
              ∙ so_far.summed t p p_in (omega arith) is_t
        ];
    counted = omega (
      arith,
      so_far.counted,
      sum_below_next number _ (parity_steps c parity)
          (λ t. if is_parity_number c.geometry t then parity_steps c (parities_before c.geometry t) else 0) refl
          (ap (parity_steps c) parity_is
          ∙ sym (cond-true (is_parity_number c.geometry number) (parity_steps c (parities_before c.geometry number)) 0 here)),
    );
  }
    where
      here : is_parity_number c.geometry number ≡ true
      here = ap is_parity (sym (cell_at-number c.geometry number row slot at.row_is at.slot_is)) ∙ is

-- ---- row by row

pub HasEncoded-start : (c : Coefficients) (old : Stripe) (start n : ℕ) → IsStripeOf c.geometry old
    → HasEncoded c old start (0 * n + 0) old start
HasEncoded-start c old start n of =
    let zero : 0 ≡ 0 * n + 0 = omega arith in
    subst (λ (k : ℕ). HasEncoded c old start k old start) zero (HasEncoded-none c old start of)

module _ (c : Coefficients) (old stripe : Stripe) (start row slot steps : ℕ) (row_below : row < c.geometry.r)
    (slot_below : slot < c.geometry.n) (so_far : HasEncoded c old start (row * c.geometry.n + slot) stripe steps) where
  pub HasEncoded-slot_block : (d : ℕ) → cell_at c.geometry row slot ≡ Data d
      → HasEncoded c old start (row * c.geometry.n + (slot + 1)) stripe steps
  HasEncoded-slot_block d is =
      subst (λ (k : ℕ). HasEncoded c old start k stripe steps) (sym (next_slot row slot c.geometry.n))
      (HasEncoded-block c old stripe start (row * c.geometry.n + slot) steps row slot
      (IsNumberOf-at c.geometry row slot row_below slot_below) so_far d is)

  pub HasEncoded-slot_parity : (parity : ℕ) (bytes : List ℕ) → IsPart c.geometry row slot (Parity parity)
      → IsWellFormed (with_cell stripe row slot bytes) → ((p : ℕ) → p < 512 → slice_index bytes p ≡ parity_byte c stripe p parity)
      → HasEncoded c old start (row * c.geometry.n + (slot + 1)) (with_cell stripe row slot bytes) (steps + parity_steps c parity)
  HasEncoded-slot_parity parity bytes is formed sums =
      subst (λ (k : ℕ). HasEncoded c old start k (with_cell stripe row slot bytes) (steps + parity_steps c parity))
      (sym (next_slot row slot c.geometry.n))
      (HasEncoded-parity c old stripe start (row * c.geometry.n + slot) steps row slot
      (IsNumberOf-at c.geometry row slot row_below slot_below) so_far parity bytes is.0 is.1 formed sums)

pub HasEncoded-turn : (c : Coefficients) (old stripe : Stripe) (start row slot steps : ℕ) → slot ≡ c.geometry.n
    → HasEncoded c old start (row * c.geometry.n + slot) stripe steps
    → HasEncoded c old start ((row + 1) * c.geometry.n + 0) stripe steps
HasEncoded-turn c old stripe start row slot steps end so_far =
    subst (λ (k : ℕ). HasEncoded c old start k stripe steps) (next_row row slot c.geometry.n end) so_far

-- a stripe has a parity
some_parity : (g : Geometry) → IsWithinLimits g → 0 < parity_cells g
some_parity g limits =
    let last : g.n - g.m < g.n = omega (arith, limits.parities, limits.devices.0) in
    let is : is_parity_number g (0 * g.n + (g.n - g.m)) ≡ true =
    ap is_parity (sym (cell_of-number g 0 (g.n - g.m) last) ∙ cell_at_parity g 0 (g.n - g.m) (omega arith)) in
    let within : 0 * g.n + (g.n - g.m) < g.r * g.n = number_in g 0 (g.n - g.m) (omega (arith, limits.rows.0)) last in
    omega (arith, parity_in g (0 * g.n + (g.n - g.m)) limits within is)

pub IsEncodedFrom-all : (c : Coefficients) (old stripe : Stripe) (start row steps : ℕ) → IsGenerator c → IsStripeOf c.geometry old
    → row ≡ c.geometry.r → HasEncoded c old start (row * c.geometry.n + 0) stripe steps → IsEncodedFrom c.geometry old stripe
IsEncodedFrom-all c old stripe start row steps generator old_of end so_far =
    encoded_from_sums c generator old stripe old_of so_far.of
    (so_far.formed (omega (
      arith,
      ap (parities_before c.geometry) all ∙ parities_in_all c.geometry generator.limits,
      some_parity c.geometry generator.limits,
    )))
    (λ t within no. so_far.kept t no)
    (λ t p within p_in is. so_far.summed t p p_in (omega (arith, all)) is)
  where
    all : row * c.geometry.n + 0 ≡ c.geometry.r * c.geometry.n
    all = ap (λ (k : ℕ). k * c.geometry.n + 0) end ∙ add-zero (c.geometry.r * c.geometry.n)

-- all steps are the coefficients that aren't zero
pub steps_in_all : (c : Coefficients) (old stripe : Stripe) (start row steps : ℕ) → IsGenerator c → row ≡ c.geometry.r
    → HasEncoded c old start (row * c.geometry.n + 0) stripe steps → steps ≡ start + nonzero_coefficients c
steps_in_all c old stripe start row steps generator end so_far =
    so_far.counted
    ∙ ap (λ s. start + s)
    (ap (λ n. sum_below n (λ t. if is_parity_number c.geometry t then parity_steps c (parities_before c.geometry t) else 0))
    (ap (λ (k : ℕ). k * c.geometry.n + 0) end ∙ add-zero (c.geometry.r * c.geometry.n))
    ∙ steps_of_cells c generator)

-- the parity at a cell
pub parity_below : (g : Geometry) (row slot a : ℕ) → IsWithinLimits g → row < g.r → slot < g.n → is_parity (cell_at g row slot) ≡ true
    → a ≡ parities_before g (row * g.n + slot) → a < parity_cells g
parity_below g row slot a limits row_below slot_below is a_is =
    omega (
      arith,
      a_is,
      parity_in g (row * g.n + slot) limits (number_in g row slot row_below slot_below)
          (ap is_parity (sym (cell_of-number g row slot slot_below)) ∙ is),
    )
