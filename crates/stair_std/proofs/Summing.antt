-- A parity of the blocks of the cells so far, and its steps.
use Rattle.std.proofs.Common.{◌≡◌, ◌≢◌, ℕ, ◌+◌, ◌*◌, ◌<◌, true, false, if◌then◌else◌, List, slice_index, inl, inr, refl, sym, ◌∙◌, ap, ap₂, subst, arith, add-zero, add-one}
use Rattle.std.specs.Prelude.{not, bit_xor}
use Rattle.std.specs.Int.Bits.{xor_zero_r}
use Rattle.std.proofs.lemmas.Bool.{cases_Bool, cond-true, cond-false, ne_eqb}
use Rattle.stair_model.specs.Field.{product}
use Rattle.stair_model.specs.Sum.{field_sum, sum_below}
use Rattle.stair_model.specs.Cell.{Data, cell_at, is_parity}
use Rattle.stair_model.specs.Stripe.{Stripe, IsStripeOf, cell}
use Rattle.stair_model.proofs.FieldLaws.{product-zero_left, product-zero_right}
use Rattle.stair_model.proofs.SumLaws.{field_sum_more}
use Rattle.stair_model.proofs.CountLaws.{sum_below_none, sum_below_next}
use Rattle.stair_gf.specs.AddsMultiple.{AddsMultiple}
use Rattle.stair_gf.proofs.SectorSums.{IsSumOf, IsSumOf-more}
use Rattle.stair_std.specs.Cells.{is_parity_number, blocks_before, byte_of_number}
use Rattle.stair_std.specs.Coefficients.{Coefficients, coefficient_of}
use Rattle.stair_std.specs.Standard.{block_byte, parity_byte, step_of, step_at, parity_steps}
use Rattle.stair_std.proofs.Numbers.{IsNumberOf, IsNumberOf-at, next_row, next_slot, bytes_at, cell_at-number, block_cell, block_number, is_block}

-- what the cell of number t adds to byte p of a parity
abbrev pub term : Coefficients → ℕ → Stripe → ℕ → ℕ → ℕ
term c parity stripe p t = product (coefficient_of c parity (blocks_before c.geometry t)) (block_byte c.geometry stripe p t)

pub record HasSummed (c : Coefficients) (parity : ℕ) (stripe : Stripe) (start number steps : ℕ) (sum : List ℕ) : Type 0 where
  pub summed : IsSumOf sum number (term c parity stripe)
  pub counted : steps ≡ start + sum_below number (step_at c parity)

HasSummed-none : (c : Coefficients) (parity : ℕ) (stripe : Stripe) (start : ℕ) (sum : List ℕ)
    → IsSumOf sum 0 (term c parity stripe) → HasSummed c parity stripe start 0 start sum
HasSummed-none c parity stripe start sum none = record {
  summed = none;
  counted = omega (arith, sum_below_none (step_at c parity));
}

-- a term that is zero
IsSumOf-still : (sum : List ℕ) (n : ℕ) (f : ℕ → ℕ → ℕ) → IsSumOf sum n f → ((p : ℕ) → p < 512 → f p n ≡ 0) → IsSumOf sum (n + 1) f
IsSumOf-still sum n f old zero = record {
  long = old.long;
  so_far = λ p h.
      old.so_far p h ∙ sym (xor_zero_r (field_sum n (f p))) ∙ ap (bit_xor (field_sum n (f p))) (sym (zero p h))
      ∙ sym (field_sum_more n (f p)) ∙ ap (λ k. field_sum k (f p)) (sym (add-one n));
}

more_steps : (start number steps more : ℕ) (f : ℕ → ℕ) → steps ≡ start + sum_below number f → more ≡ f number
    → steps + more ≡ start + sum_below (number + 1) f
more_steps start number steps more f so_far is = omega (arith, sum_below_next number (sum_below number f) more f refl is)

module _ (c : Coefficients) (parity : ℕ) (stripe : Stripe) (start number steps row slot : ℕ) (sum : List ℕ)
    (at : IsNumberOf c.geometry number row slot) (so_far : HasSummed c parity stripe start number steps sum) where
  -- a parity adds nothing
  HasSummed-parity : is_parity (cell_at c.geometry row slot) ≡ true → HasSummed c parity stripe start (number + 1) steps sum
  HasSummed-parity is = record {
    summed = IsSumOf-still sum number (term c parity stripe) so_far.summed
        (λ p h. ap (product (coefficient_of c parity (blocks_before c.geometry number)))
        (cond-true (is_parity_number c.geometry number) 0 (byte_of_number stripe p number) here)
        ∙ product-zero_right (coefficient_of c parity (blocks_before c.geometry number)));
    counted = sym (add-zero steps)
        ∙ more_steps start number steps 0 (step_at c parity) so_far.counted (sym (cond-true (is_parity_number c.geometry number) 0 _ here));
  }
    where
      here : is_parity_number c.geometry number ≡ true
      here = ap is_parity (sym (cell_at-number c.geometry number row slot at.row_is at.slot_is)) ∙ is

  module _ (d by : ℕ) (is : cell_at c.geometry row slot ≡ Data d) (by_is : by ≡ coefficient_of c parity d) where
    here_block : is_parity_number c.geometry number ≡ false
    here_block = is_block c.geometry number d (sym (cell_at-number c.geometry number row slot at.row_is at.slot_is) ∙ is)

    coefficient_here : by ≡ coefficient_of c parity (blocks_before c.geometry number)
    coefficient_here =
        by_is
        ∙ ap (coefficient_of c parity)
        (block_number c.geometry number d (sym (cell_at-number c.geometry number row slot at.row_is at.slot_is) ∙ is))

    step_here : step_of by ≡ step_at c parity number
    step_here = ap step_of coefficient_here ∙ sym (cond-false (is_parity_number c.geometry number) 0 _ here_block)

    -- a data cell over which the coefficient is zero adds nothing
    HasSummed-zero : by ≡ 0 → HasSummed c parity stripe start (number + 1) steps sum
    HasSummed-zero zero = record {
      summed = IsSumOf-still sum number (term c parity stripe) so_far.summed
          (λ p h. ap (λ (a : ℕ). product a (block_byte c.geometry stripe p number)) (sym coefficient_here ∙ zero)
          ∙ product-zero_left (block_byte c.geometry stripe p number));
      counted = sym (add-zero steps)
          ∙ more_steps start number steps 0 (step_at c parity) so_far.counted (ap step_of (sym zero) ∙ step_here);
    }

    -- each other one adds its multiple, in a step
    HasSummed-block : (new : List ℕ) → IsStripeOf c.geometry stripe → by ≢ 0 → AddsMultiple sum new (cell stripe row slot) by
        → HasSummed c parity stripe start (number + 1) (steps + 1) new
    HasSummed-block new of nonzero adds = record {
      summed = IsSumOf-more sum new (cell stripe row slot) by number (term c parity stripe) so_far.summed adds
          (λ p h. ap₂ product coefficient_here
          (ap (λ (b : List ℕ). slice_index b p) (bytes_at c.geometry stripe number row slot of at.row_is at.slot_is)
          ∙ sym (cond-false (is_parity_number c.geometry number) 0 (byte_of_number stripe p number) here_block)));
      counted = more_steps start number steps 1 (step_at c parity) so_far.counted
          (sym (ap (λ b. if not b then 1 else 0) (ne_eqb by 0 nonzero)) ∙ step_here);
    }

  -- as the coefficient over the cell is told: 0 where the cell is a parity
  module _ (by : ℕ) (over_block : (d : ℕ) → cell_at c.geometry row slot ≡ Data d → by ≡ coefficient_of c parity d) where
    -- where it is no parity, it is this data cell
    here_data : is_parity_number c.geometry number ≡ false → cell_at c.geometry row slot ≡ Data (blocks_before c.geometry number)
    here_data block = cell_at-number c.geometry number row slot at.row_is at.slot_is ∙ block_cell c.geometry number block

    HasSummed-still : by ≡ 0 → HasSummed c parity stripe start (number + 1) steps sum
    HasSummed-still zero =
        elim (cases_Bool (is_parity_number c.geometry number)) [
          | inl is ↦ HasSummed-parity (ap is_parity (cell_at-number c.geometry number row slot at.row_is at.slot_is) ∙ is)
          | inr block ↦
              HasSummed-zero (blocks_before c.geometry number) by (here_data block)
              (over_block (blocks_before c.geometry number) (here_data block)) zero
        ]

    HasSummed-more : (new : List ℕ) → (is_parity (cell_at c.geometry row slot) ≡ true → by ≡ 0) → IsStripeOf c.geometry stripe
        → by ≢ 0 → AddsMultiple sum new (cell stripe row slot) by → HasSummed c parity stripe start (number + 1) (steps + 1) new
    HasSummed-more new over_parity of nonzero adds =
        elim (cases_Bool (is_parity_number c.geometry number)) [
          | inl is ↦
              absurd (nonzero (over_parity (ap is_parity (cell_at-number c.geometry number row slot at.row_is at.slot_is) ∙ is)))
          | inr block ↦
              HasSummed-block (blocks_before c.geometry number) by (here_data block)
              (over_block (blocks_before c.geometry number) (here_data block)) new of nonzero adds
        ]

-- ---- row by row

pub HasSummed-start : (c : Coefficients) (parity : ℕ) (stripe : Stripe) (start n : ℕ) (sum : List ℕ)
    → IsSumOf sum 0 (term c parity stripe) → HasSummed c parity stripe start (0 * n + 0) start sum
HasSummed-start c parity stripe start n sum none =
    let zero : 0 ≡ 0 * n + 0 = omega arith in
    subst (λ (k : ℕ). HasSummed c parity stripe start k start sum) zero (HasSummed-none c parity stripe start sum none)

module _ (c : Coefficients) (parity : ℕ) (stripe : Stripe) (start row slot steps : ℕ) (sum : List ℕ) (row_below : row < c.geometry.r)
    (slot_below : slot < c.geometry.n) (so_far : HasSummed c parity stripe start (row * c.geometry.n + slot) steps sum)
    (by : ℕ) (over_block : (d : ℕ) → cell_at c.geometry row slot ≡ Data d → by ≡ coefficient_of c parity d) where
  pub HasSummed-slot_still : by ≡ 0 → HasSummed c parity stripe start (row * c.geometry.n + (slot + 1)) steps sum
  HasSummed-slot_still zero =
      subst (λ (k : ℕ). HasSummed c parity stripe start k steps sum) (sym (next_slot row slot c.geometry.n))
      (HasSummed-still c parity stripe start (row * c.geometry.n + slot) steps row slot sum
      (IsNumberOf-at c.geometry row slot row_below slot_below) so_far by over_block zero)

  pub HasSummed-slot_more : (new : List ℕ) → (is_parity (cell_at c.geometry row slot) ≡ true → by ≡ 0) → IsStripeOf c.geometry stripe
      → by ≢ 0 → AddsMultiple sum new (cell stripe row slot) by
      → HasSummed c parity stripe start (row * c.geometry.n + (slot + 1)) (steps + 1) new
  HasSummed-slot_more new over_parity of nonzero adds =
      subst (λ (k : ℕ). HasSummed c parity stripe start k (steps + 1) new) (sym (next_slot row slot c.geometry.n))
      (HasSummed-more c parity stripe start (row * c.geometry.n + slot) steps row slot sum
      (IsNumberOf-at c.geometry row slot row_below slot_below) so_far by over_block new over_parity of nonzero adds)

pub HasSummed-turn : (c : Coefficients) (parity : ℕ) (stripe : Stripe) (start row slot steps : ℕ) (sum : List ℕ) → slot ≡ c.geometry.n
    → HasSummed c parity stripe start (row * c.geometry.n + slot) steps sum
    → HasSummed c parity stripe start ((row + 1) * c.geometry.n + 0) steps sum
HasSummed-turn c parity stripe start row slot steps sum end so_far =
    subst (λ (k : ℕ). HasSummed c parity stripe start k steps sum) (next_row row slot c.geometry.n end) so_far

-- all cells
pub parity_byte-all : (c : Coefficients) (parity : ℕ) (stripe : Stripe) (start number steps : ℕ) (sum : List ℕ)
    → number ≡ c.geometry.r * c.geometry.n → HasSummed c parity stripe start number steps sum
    → (p : ℕ) → p < 512 → slice_index sum p ≡ parity_byte c stripe p parity
parity_byte-all c parity stripe start number steps sum all so_far p p_in =
    so_far.summed.so_far p p_in ∙ ap (λ (n : ℕ). field_sum n (term c parity stripe p)) all

pub parity_steps-all : (c : Coefficients) (parity : ℕ) (stripe : Stripe) (start number steps : ℕ) (sum : List ℕ)
    → number ≡ c.geometry.r * c.geometry.n → HasSummed c parity stripe start number steps sum
    → steps ≡ start + parity_steps c parity
parity_steps-all c parity stripe start number steps sum all so_far =
    so_far.counted ∙ ap (λ (n : ℕ). start + sum_below n (step_at c parity)) all
