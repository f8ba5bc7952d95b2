-- The coefficients so far: those over the first data cells, and over the next one those of the first parities.
use Rattle.std.proofs.Common.{◌≡◌, ◌≢◌, ℕ, ◌+◌, ◌-◌, ◌*◌, ◌/◌, ◌%◌, ◌<◌, ◌≤◌, true, false, ◌==◌, if◌then◌else◌, List, ◌++◌, length, take, drop, slice_index, slice_set, replicate, inl, inr, refl, sym, ◌∙◌, ap, subst, arith}
use Rattle.std.proofs.lemmas.Bool.{cases_eq, true≢false}
use Rattle.std.proofs.lemmas.List.{get_or-set_same, get_or-set_other, length-set, length-replicate, drop_all, take_all, append-nil}
use Rattle.std.proofs.lemmas.Nat.{mul-add-lt, div-mul-add, mod-mul-add}
use Rattle.stair_model.specs.Geometry.{Geometry, IsWithinLimits, data_cells}
use Rattle.stair_model.specs.Cell.{Data, cell_at, is_parity}
use Rattle.stair_model.specs.Dependents.{IsFactor}
use Rattle.stair_model.specs.Stripe.{Stripe}
use Rattle.stair_model.proofs.CountLaws.{sum_below_longer}
use Rattle.stair_model.proofs.StripeLaws.{number_in}
use Rattle.stair_model.proofs.UnitLaws.{unit_encoding-data}
use Rattle.stair_std.specs.Cells.{is_parity_number, parities_before, byte_of_number, IsPart}
use Rattle.stair_std.specs.Coefficients.{IsGenerator, parity_cells, coefficient_number}
use Rattle.stair_std.specs.UnitsSteps.{AreUnits, HasColumnSet}
use Rattle.stair_std.specs.declared.cells.Part.TheVariants.{Parity}
use Rattle.stair_std.proofs.Numbers.{bytes_at-number, cell_of-number, is_block, next_row, next_slot, parities_before-parity, parity_in, row_in, row_of_number, slot_in, slot_of_number}
use Rattle.stair_std.proofs.UnitStripes.{units_agree}

-- two coefficients that stand in one place are one
place_tells : (a b d e u : ℕ) → d < u → e < u → a * u + d ≡ b * u + e → (a ≡ b) × (d ≡ e)
place_tells a b d e u d_in e_in same = (
  sym (div-mul-add a u d d_in) ∙ ap (λ (k : ℕ). k / u) same ∙ div-mul-add b u e e_in,
  sym (mod-mul-add a u d d_in) ∙ ap (λ (k : ℕ). k % u) same ∙ mod-mul-add b u e e_in,
)

-- where it stands
pub place_in : (g : Geometry) (a d : ℕ) → a < parity_cells g → d < data_cells g → coefficient_number g a d < parity_cells g * data_cells g
place_in g a d a_in d_in = omega (arith, mul-add-lt a (data_cells g) d (parity_cells g) a_in d_in)

-- ---- over one data cell

-- those of the parities among the first c cells
pub record HasSet (g : Geometry) (stripe : Stripe) (p d c : ℕ) (old new : List ℕ) : Type 0 where
  pub count : length new ≡ length old
  pub set :
      (t : ℕ) → t < c → is_parity_number g t ≡ true →
      slice_index new (coefficient_number g (parities_before g t) d) ≡ byte_of_number stripe p t
  pub kept :
      (a e : ℕ) → e < data_cells g → e ≢ d →
      slice_index new (coefficient_number g a e) ≡ slice_index old (coefficient_number g a e)

HasSet-none : (g : Geometry) (stripe : Stripe) (p d : ℕ) (old : List ℕ) → HasSet g stripe p d 0 old old
HasSet-none g stripe p d old = record {
  count = refl;
  set = λ t before. absurd (omega arith);
  kept = λ a e e_in other. refl;
}

module _ (g : Geometry) (stripe : Stripe) (p d row slot : ℕ) (old now : List ℕ) (slot_below : slot < g.n)
    (so_far : HasSet g stripe p d (row * g.n + slot) old now) where
  abbrev number : ℕ
  number = row * g.n + slot

  -- a data cell more
  pub HasSet-block : (e : ℕ) → cell_at g row slot ≡ Data e → HasSet g stripe p d (row * g.n + slot + 1) old now
  HasSet-block e is = record {
    count = so_far.count;
    set = λ t before is_t.
        elim (cases_eq t number) [
          | inl last ↦
              absurd (true≢false (sym is_t ∙ ap (is_parity_number g) last
              ∙ is_block g number e (sym (cell_of-number g row slot slot_below) ∙ is)))
          | inr other ↦ so_far.set t (omega arith) is_t
        ];
    kept = so_far.kept;
  }

  -- a parity more
  pub HasSet-parity : (a byte : ℕ) (new : List ℕ) → IsPart g row slot (Parity a) → d < data_cells g
      → coefficient_number g a d < length now → new ≡ slice_set now (coefficient_number g a d) byte
      → byte ≡ byte_of_number stripe p (row * g.n + slot) → HasSet g stripe p d (row * g.n + slot + 1) old new
  HasSet-parity a byte new is d_in within written byte_is = record {
    count = ap length written ∙ length-set now (coefficient_number g a d) byte ∙ so_far.count;
    set = λ t before is_t.
        elim (cases_eq t number) [
          | inl last ↦
              ap (λ (k : ℕ). slice_index new (coefficient_number g k d)) (ap (parities_before g) last ∙ sym is.1)
              ∙ ap (λ (xs : List ℕ). slice_index xs (coefficient_number g a d)) written
              ∙ get_or-set_same now (coefficient_number g a d) byte 0 within
              ∙ byte_is ∙ ap (byte_of_number stripe p) (sym last)
          | inr other ↦
              ap (λ (xs : List ℕ). slice_index xs (coefficient_number g (parities_before g t) d)) written
              ∙ get_or-set_other now (coefficient_number g a d) (coefficient_number g (parities_before g t) d) byte 0
              (λ same.
              let both = place_tells (parities_before g t) a d d (data_cells g) d_in d_in same in
              let one : parities_before g t ≡ parities_before g number = both.0 ∙ is.1 in
              omega (arith, earlier t (omega arith) is_t, one))
              ∙ so_far.set t (omega arith) is_t
        ];
    kept = λ b e e_in other.
        ap (λ (xs : List ℕ). slice_index xs (coefficient_number g b e)) written
        ∙ get_or-set_other now (coefficient_number g a d) (coefficient_number g b e) byte 0
        (λ same. other (place_tells b a e d (data_cells g) e_in d_in same).1)
        ∙ so_far.kept b e e_in other;
  }
    where
      earlier : (t : ℕ) → t < number → is_parity_number g t ≡ true → parities_before g t < parities_before g number
      earlier t before is_t =
          omega (
            arith,
            parities_before-parity g t is_t,
            sum_below_longer (λ k. if is_parity_number g k then 1 else 0) (t + 1) number (omega arith),
          )

pub HasSet-start : (g : Geometry) (stripe : Stripe) (p d : ℕ) (old : List ℕ) → HasSet g stripe p d (0 * g.n + 0) old old
HasSet-start g stripe p d old =
    let zero : 0 ≡ 0 * g.n + 0 = omega arith in
    subst (λ (k : ℕ). HasSet g stripe p d k old old) zero (HasSet-none g stripe p d old)

pub HasSet-slot : (g : Geometry) (stripe : Stripe) (p d row slot : ℕ) (old new : List ℕ)
    → HasSet g stripe p d (row * g.n + slot + 1) old new → HasSet g stripe p d (row * g.n + (slot + 1)) old new
HasSet-slot g stripe p d row slot old new so_far =
    subst (λ (k : ℕ). HasSet g stripe p d k old new) (sym (next_slot row slot g.n)) so_far

pub HasSet-turn : (g : Geometry) (stripe : Stripe) (p d row slot : ℕ) (old new : List ℕ) → slot ≡ g.n
    → HasSet g stripe p d (row * g.n + slot) old new → HasSet g stripe p d ((row + 1) * g.n + 0) old new
HasSet-turn g stripe p d row slot old new end so_far =
    subst (λ (k : ℕ). HasSet g stripe p d k old new) (next_row row slot g.n end) so_far

pub HasColumnSet-all : (g : Geometry) (stripe : Stripe) (p d row : ℕ) (old new : List ℕ) → row ≡ g.r
    → HasSet g stripe p d (row * g.n + 0) old new → HasColumnSet g stripe p d old new
HasColumnSet-all g stripe p d row old new all so_far = record {
  count = so_far.count;
  set = λ t within is. so_far.set t (rw all (omega (arith, within))) is;
  kept = so_far.kept;
}

-- a slice that was written whole
pub whole_written : (count : ℕ) (new old : List ℕ) → length new ≡ length old → length old ≤ count
    → take count (new ++ drop (length new) old) ≡ new
whole_written count new old same within =
    ap (λ (rest : List ℕ). take count (new ++ rest)) (drop_all (length new) old (omega arith))
    ∙ ap (take count) (append-nil new) ∙ take_all count new (omega arith)

-- ---- over the first d data cells

pub record HasColumns (g : Geometry) (d : ℕ) (bytes : List ℕ) : Type 0 where
  pub count : length bytes ≡ parity_cells g * data_cells g
  pub factors :
      (e t : ℕ) → e < d → t < g.r * g.n → is_parity_number g t ≡ true →
      IsFactor g e (t / g.n) (t % g.n) (slice_index bytes (coefficient_number g (parities_before g t) e))

pub HasColumns-none : (g : Geometry) (count : ℕ) → count ≡ parity_cells g * data_cells g → HasColumns g 0 (replicate count 0)
HasColumns-none g count is = record {
  count = length-replicate {A = ℕ} count 0 ∙ is;
  factors = λ e t before. absurd (omega arith);
}

pub HasColumns-more : (g : Geometry) (d first byte : ℕ) (stripe : Stripe) (old new : List ℕ) → IsWithinLimits g → AreUnits g first stripe
    → first + byte ≡ d → byte < 512 → d < data_cells g → HasColumnSet g stripe byte d old new → HasColumns g d old
    → HasColumns g (d + 1) new
HasColumns-more g d first byte stripe old new limits units here byte_in d_in column so_far = record {
  count = column.count ∙ so_far.count;
  factors = λ e t before within is encoded p p_in encoding.
      elim (cases_eq e d) [
        | inl last ↦
            sym (ap (λ (k : ℕ). slice_index new (coefficient_number g (parities_before g t) k)) last
            ∙ column.set t within is
            ∙ ap (λ (b : List ℕ). slice_index b byte) (sym (bytes_at-number g stripe t units.units.of))
            ∙ units_agree g first byte e p stripe encoded limits units (here ∙ sym last) byte_in p_in encoding (t / g.n) (t % g.n)
            (row_in g t limits within) (slot_in g t limits))
        | inr other ↦
            so_far.factors e t (omega arith) within is encoded p p_in encoding
            ∙ sym (column.kept (parities_before g t) e (omega arith) other)
      ];
}

pub IsGenerator-all : (g : Geometry) (d : ℕ) (bytes : List ℕ) → IsWithinLimits g → d ≡ data_cells g → HasColumns g d bytes
    → IsGenerator (record { geometry = g; bytes = bytes })
IsGenerator-all g d bytes limits all columns = record {
  limits = limits;
  count = columns.count;
  factors = λ e i j e_in row chunk is.
      let place : ℕ = coefficient_number g (parities_before g (i * g.n + j)) e in
      subst (λ (k : ℕ). IsFactor g e k j (slice_index bytes place)) (sym (row_of_number g i j chunk))
      (subst (λ (k : ℕ). IsFactor g e ((i * g.n + j) / g.n) k (slice_index bytes place)) (sym (slot_of_number g i j chunk))
      (columns.factors e (i * g.n + j) (omega arith) (number_in g i j row chunk)
      (ap is_parity (sym (cell_of-number g i j chunk)) ∙ is)));
}

-- ---- factors of data cells

pub IsFactor-data : (g : Geometry) (d i j e factor : ℕ) → IsWithinLimits g → i < g.r → j < g.n → cell_at g i j ≡ Data e
    → factor ≡ (if d == e then 1 else 0) → IsFactor g d i j factor
IsFactor-data g d i j e factor limits row chunk is factor_is encoded p p_in encoding =
    unit_encoding-data g d p i j e encoded limits encoding p_in row chunk is ∙ sym factor_is

-- ---- passes of 512 data cells

-- a data cell has a byte in its pass
pub in_pass : (d : ℕ) → (d - d % 512 + d % 512 ≡ d) × (d % 512 < 512)
in_pass d = (omega arith, omega arith)

-- unless the next data cell begins a pass, it is in the same one
pub same_pass : (d : ℕ) → ((d + 1) % 512 ≢ 0) → d + 1 - (d + 1) % 512 ≡ d - d % 512
same_pass d more = omega arith
