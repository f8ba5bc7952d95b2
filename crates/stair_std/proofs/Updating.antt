-- The parities that were changed by a difference so far, and the stripe that comes of it.
use Rattle.std.proofs.Common.{◌≡◌, ◌≢◌, ℕ, ◌+◌, ◌*◌, ◌/◌, ◌%◌, ◌<◌, ◌≤◌, ◌==◌, ◌&&◌, not, true, false, if◌then◌else◌, List, [], length, slice_index, inl, inr, refl, sym, ◌∙◌, ap, ap₂, subst, arith, add-zero}
use Rattle.std.specs.Prelude.{bit_xor}
use Rattle.std.specs.Int.Bits.{xor_zero_r}
use Rattle.std.proofs.lemmas.Nat.{xor_comm, xor_lt}
use Rattle.std.proofs.lemmas.Bool.{cases_eq, cases_Bool, true≢false, cond-true, cond-false, ne_eqb}
use Rattle.std.proofs.lemmas.List.{get_or-set_other, length-set}
use Rattle.std.proofs.lemmas.List.Elements.{All-from_get_or, All-get_or}
use Rattle.stair_model.specs.Field.{product}
use Rattle.stair_model.specs.Sum.{sum_below}
use Rattle.stair_model.specs.Geometry.{Geometry, IsWithinLimits, data_cells}
use Rattle.stair_model.specs.Cell.{Data, cell_at, is_parity}
use Rattle.stair_model.specs.CellSet.{CellSet, cell_count}
use Rattle.stair_model.specs.Costs.{unit_blocks, is_nonzero, nonzero_parities}
use Rattle.stair_model.specs.Dependents.{AreDependents, IsFactor, IsUpdatedFrom}
use Rattle.stair_model.specs.Encoding.{IsEncodingOf}
use Rattle.stair_model.specs.Stripe.{Stripe, IsSector, IsStripeOf, IsWellFormed, cell, byte_of, with_cell}
use Rattle.stair_model.proofs.CostLaws.{unit_encoding}
use Rattle.stair_model.proofs.CountLaws.{sum_below_none, sum_below_next, sum_below_same}
use Rattle.stair_model.proofs.DataLaws.{data_in_range, data_once}
use Rattle.stair_model.proofs.DependentLaws.{factor_unique, factor_itself, factor_other, updated_by_factors}
use Rattle.stair_model.proofs.DependentSets.{dependents_count}
use Rattle.stair_model.proofs.FieldLaws.{product-zero_left, product-one_right, product_comm, xor_move}
use Rattle.stair_model.proofs.GridLaws.{sum_below_grid}
use Rattle.stair_model.proofs.StripeLaws.{byte_at-lt, cell-IsSector, number_in}
use Rattle.stair_model.proofs.UnitLaws.{is_nonzero-same}
use Rattle.stair_gf.specs.AddsMultiple.{AddsMultiple}
use Rattle.stair_std.specs.Cells.{cell_of_number, is_parity_number, blocks_before, bytes_of, byte_of_number}
use Rattle.stair_std.proofs.Numbers.{IsNumberOf, IsNumberOf-at, next_row, next_slot, bytes_at, bytes_of-put, bytes_of-kept, bytes_of-number, block_cell, block_number, cell_at-number, cell_of-number, is_block, number_at, row_of_number, slot_of_number}

-- ---- sectors

-- a stripe was well-formed before a cell was written, where that cell was a sector
formed_before : (stripe : Stripe) (row slot : ℕ) (bytes : List ℕ) → IsSector (cell stripe row slot)
    → IsWellFormed (with_cell stripe row slot bytes) → IsWellFormed stripe
formed_before stripe row slot bytes sector formed =
    let place : ℕ = row * stripe.chunks + slot in
    record {
      count = sym (length-set stripe.cells place bytes) ∙ formed.count;
      sectors = All-from_get_or IsSector stripe.cells []
          (λ k within.
          elim (cases_eq k place) [
            | inl here ↦ subst (λ (n : ℕ). IsSector (bytes_of stripe n)) (sym here) sector
            | inr other ↦
                subst IsSector (get_or-set_other stripe.cells place k bytes [] other)
                (All-get_or IsSector (with_cell stripe row slot bytes).cells k [] (omega (arith, length-set stripe.cells place bytes))
                formed.sectors)
          ]);
    }

-- ---- the cells so far

-- 1 where the cell of this number is a parity that isn't zero
abbrev mark : Geometry → Stripe → ℕ → ℕ
mark g encoded t = if is_parity_number g t && is_nonzero (cell encoded (t / g.n) (t % g.n)) then 1 else 0

-- the parities among the first c cells are changed, and counted where they change
pub record HasChanged (g : Geometry) (d : ℕ) (change : List ℕ) (old : Stripe) (start c : ℕ) (stripe : Stripe) (steps : ℕ) : Type 0 where
  pub of : IsStripeOf g stripe
  pub formed : IsWellFormed stripe → IsWellFormed old
  pub changed :
      (t p factor : ℕ) → p < 512 → t < c → is_parity_number g t ≡ true → IsFactor g d (t / g.n) (t % g.n) factor →
      byte_of_number stripe p t ≡ bit_xor (byte_of_number old p t) (product factor (slice_index change p))
  pub kept : (t : ℕ) → (is_parity_number g t ≡ true → c ≤ t) → bytes_of stripe t ≡ bytes_of old t
  pub counted :
      (encoded : Stripe) → IsEncodingOf g (unit_blocks g d) encoded → steps ≡ start + sum_below c (mark g encoded)

HasChanged-none : (g : Geometry) (d : ℕ) (change : List ℕ) (old : Stripe) (start : ℕ) → IsStripeOf g old
    → HasChanged g d change old start 0 old start
HasChanged-none g d change old start of = record {
  of = of;
  formed = λ formed. formed;
  changed = λ t p factor p_in before. absurd (omega arith);
  kept = λ t before. refl;
  counted = λ encoded is. omega (arith, sum_below_none (mark g encoded));
}

module _ (g : Geometry) (d : ℕ) (change : List ℕ) (old stripe : Stripe) (start number steps row slot : ℕ) (limits : IsWithinLimits g)
    (row_below : row < g.r) (slot_below : slot < g.n) (at : IsNumberOf g number row slot)
    (so_far : HasChanged g d change old start number stripe steps) (by : ℕ)
    (of_parity : is_parity (cell_at g row slot) ≡ true → IsFactor g d row slot by)
    (of_block : (e : ℕ) → cell_at g row slot ≡ Data e → by ≡ 0) where
  cell_here : cell_at g row slot ≡ cell_of_number g number
  cell_here = cell_at-number g number row slot at.row_is at.slot_is

  -- the factor of a cell with this number
  factor_here : (factor : ℕ) → is_parity_number g number ≡ true → IsFactor g d (number / g.n) (number % g.n) factor → factor ≡ by
  factor_here factor is of =
      factor_unique g d row slot factor by limits
      (subst (λ (k : ℕ). IsFactor g d k slot factor) (sym at.row_is)
      (subst (λ (k : ℕ). IsFactor g d (number / g.n) k factor) (sym at.slot_is) of))
      (of_parity (ap is_parity cell_here ∙ is))

  mark_here : (encoded : Stripe) → IsEncodingOf g (unit_blocks g d) encoded → mark g encoded number ≡ (if not (by == 0) then 1 else 0)
  mark_here encoded encodes =
      elim (cases_Bool (is_parity_number g number)) [
        | inl is ↦
            let of = of_parity (ap is_parity cell_here ∙ is) in
            let shows : is_nonzero (cell encoded row slot) ≡ not (by == 0) =
            is_nonzero-same (cell encoded row slot) by
            (cell-IsSector g encoded row slot encodes.of encodes.formed row_below slot_below).0 (λ p p_in. of encoded p p_in encodes)
            in
            ap (λ b. if b && is_nonzero (cell encoded (number / g.n) (number % g.n)) then 1 else 0) is
            ∙ ap (λ b. if true && b then 1 else 0) (ap₂ (λ (i j : ℕ). is_nonzero (cell encoded i j)) (sym at.row_is) (sym at.slot_is) ∙ shows)
        | inr block ↦
            ap (λ b. if b && is_nonzero (cell encoded (number / g.n) (number % g.n)) then 1 else 0) block
            ∙ sym (ap (λ (k : ℕ). if not (k == 0) then 1 else 0) (of_block _ (cell_here ∙ block_cell g number block)))
      ]

  -- a cell whose factor is zero stays
  HasChanged-still : by ≡ 0 → HasChanged g d change old start (number + 1) stripe steps
  HasChanged-still zero = record {
    of = so_far.of;
    formed = so_far.formed;
    changed = λ t p factor p_in before is of.
        elim (cases_eq t number) [
          | inl last ↦
              let none : factor ≡ 0 =
              factor_here factor (ap (is_parity_number g) (sym last) ∙ is)
              (subst (λ (k : ℕ). IsFactor g d (k / g.n) (k % g.n) factor) last of)
              ∙ zero in
              ap (λ (bytes : List ℕ). slice_index bytes p) (so_far.kept t (λ parity. omega (arith, last)))
              ∙ sym (ap (bit_xor (byte_of_number old p t))
              (ap (λ (f : ℕ). product f (slice_index change p)) none ∙ product-zero_left (slice_index change p))
              ∙ xor_zero_r (byte_of_number old p t))
          | inr other ↦ so_far.changed t p factor p_in (omega arith) is of
        ];
    kept = λ t before. so_far.kept t (λ is. let past : number + 1 ≤ t = before is in omega arith);
    counted = λ encoded is.
        let none : mark g encoded number ≡ 0 = mark_here encoded is ∙ ap (λ (k : ℕ). if not (k == 0) then 1 else 0) zero in
        omega (arith, so_far.counted encoded is, sum_below_next number _ 0 (mark g encoded) refl (sym none));
  }

  -- a parity more
  HasChanged-more : (bytes : List ℕ) → by ≢ 0 → IsSector (cell stripe row slot) → IsWellFormed (with_cell stripe row slot bytes)
      → AddsMultiple (cell stripe row slot) bytes change by
      → HasChanged g d change old start (number + 1) (with_cell stripe row slot bytes) (steps + 1)
  HasChanged-more bytes nonzero sector formed adds = record {
    of = record { rows = so_far.of.rows; chunks = so_far.of.chunks };
    formed = λ whole. so_far.formed (formed_before stripe row slot bytes sector whole);
    changed = λ t p factor p_in before is of.
        elim (cases_eq t number) [
          | inl last ↦
              let same : factor ≡ by =
              factor_here factor (ap (is_parity_number g) (sym last) ∙ is)
              (subst (λ (k : ℕ). IsFactor g d (k / g.n) (k % g.n) factor) last of) in
              ap (byte_of_number (with_cell stripe row slot bytes) p) last
              ∙ ap (λ (b : List ℕ). slice_index b p)
              (bytes_of-put g stripe number row slot bytes so_far.of at.row_is at.slot_is at.within formed)
              ∙ adds.bytes p (omega (arith, sector.0))
              ∙ ap₂ (λ (b : List ℕ) (f : ℕ). bit_xor (slice_index b p) (product f (slice_index change p)))
              (bytes_at g stripe number row slot so_far.of at.row_is at.slot_is ∙ so_far.kept number (λ parity. omega arith)
              ∙ ap (bytes_of old) (sym last))
              (sym same)
          | inr other ↦
              ap (λ (b : List ℕ). slice_index b p)
              (bytes_of-kept g stripe number t row slot bytes so_far.of at.row_is at.slot_is other)
              ∙ so_far.changed t p factor p_in (omega arith) is of
        ];
    kept = λ t before.
        bytes_of-kept g stripe number t row slot bytes so_far.of at.row_is at.slot_is
        (λ last. let past : number + 1 ≤ t = before (ap (is_parity_number g) last ∙ here) in omega arith)
        ∙ so_far.kept t (λ is. let past : number + 1 ≤ t = before is in omega arith);
    counted = λ encoded is.
        let one : mark g encoded number ≡ 1 =
        mark_here encoded is ∙ ap (λ b. if not b then 1 else 0) (ne_eqb by 0 nonzero) in
        omega (arith, so_far.counted encoded is, sum_below_next number _ 1 (mark g encoded) refl (sym one));
  }
    where
      here : is_parity_number g number ≡ true
      here =
          elim (cases_Bool (is_parity_number g number)) [
            | inl is ↦ is
            | inr block ↦ absurd (nonzero (of_block _ (cell_here ∙ block_cell g number block)))
          ]

-- ---- row by row

pub HasChanged-start : (g : Geometry) (d : ℕ) (change : List ℕ) (old : Stripe) (start : ℕ) → IsStripeOf g old
    → HasChanged g d change old start (0 * g.n + 0) old start
HasChanged-start g d change old start of =
    let zero : 0 ≡ 0 * g.n + 0 = omega arith in
    subst (λ (k : ℕ). HasChanged g d change old start k old start) zero (HasChanged-none g d change old start of)

module _ (g : Geometry) (d : ℕ) (change : List ℕ) (old stripe : Stripe) (start steps row slot : ℕ) (limits : IsWithinLimits g)
    (row_below : row < g.r) (slot_below : slot < g.n) (so_far : HasChanged g d change old start (row * g.n + slot) stripe steps)
    (by : ℕ) (of_parity : is_parity (cell_at g row slot) ≡ true → IsFactor g d row slot by)
    (of_block : (e : ℕ) → cell_at g row slot ≡ Data e → by ≡ 0) where
  pub HasChanged-slot_still : by ≡ 0 → HasChanged g d change old start (row * g.n + (slot + 1)) stripe steps
  HasChanged-slot_still zero =
      subst (λ (k : ℕ). HasChanged g d change old start k stripe steps) (sym (next_slot row slot g.n))
      (HasChanged-still g d change old stripe start (row * g.n + slot) steps row slot limits row_below slot_below
      (IsNumberOf-at g row slot row_below slot_below) so_far by of_parity of_block zero)

  pub HasChanged-slot_more : (bytes : List ℕ) → by ≢ 0 → IsSector (cell stripe row slot)
      → IsWellFormed (with_cell stripe row slot bytes) → AddsMultiple (cell stripe row slot) bytes change by
      → HasChanged g d change old start (row * g.n + (slot + 1)) (with_cell stripe row slot bytes) (steps + 1)
  HasChanged-slot_more bytes nonzero sector formed adds =
      subst (λ (k : ℕ). HasChanged g d change old start k (with_cell stripe row slot bytes) (steps + 1))
      (sym (next_slot row slot g.n))
      (HasChanged-more g d change old stripe start (row * g.n + slot) steps row slot limits row_below slot_below
      (IsNumberOf-at g row slot row_below slot_below) so_far by of_parity of_block bytes nonzero sector formed adds)

pub HasChanged-turn : (g : Geometry) (d : ℕ) (change : List ℕ) (old stripe : Stripe) (start row slot steps : ℕ) → slot ≡ g.n
    → HasChanged g d change old start (row * g.n + slot) stripe steps
    → HasChanged g d change old start ((row + 1) * g.n + 0) stripe steps
HasChanged-turn g d change old stripe start row slot steps end so_far =
    subst (λ (k : ℕ). HasChanged g d change old start k stripe steps) (next_row row slot g.n end) so_far

-- ---- all parities, and then the block

xor_back : (x y : ℕ) → bit_xor x (bit_xor y x) ≡ y
xor_back x y = xor_comm x (bit_xor y x) ∙ sym (xor_move y x (bit_xor y x) refl)

module _ (g : Geometry) (d k l : ℕ) (change block : List ℕ) (old stripe : Stripe) (start row steps : ℕ) (limits : IsWithinLimits g)
    (k_in : k < g.r) (l_in : l < g.n) (is : cell_at g k l ≡ Data d) (end : row ≡ g.r)
    (so_far : HasChanged g d change old start (row * g.n + 0) stripe steps) where
  all : row * g.n + 0 ≡ g.r * g.n
  all = ap (λ (n : ℕ). n * g.n + 0) end ∙ add-zero (g.r * g.n)

  abbrev number : ℕ
  number = k * g.n + l

  block_here : is_parity_number g number ≡ false
  block_here = is_block g number d (sym (cell_of-number g k l l_in) ∙ is)

  pub steps_taken : (set : CellSet) → AreDependents g d set → steps + 1 ≡ start + cell_count set
  steps_taken set are =
      let unit = unit_encoding g d limits in
      let below = data_in_range g k l d limits k_in is in
      let grid : sum_below (g.r * g.n) (mark g unit.0) ≡ nonzero_parities g unit.0 =
      sum_below_grid g.r g.n (mark g unit.0)
      ∙ sum_below_same g.r (λ i. sum_below g.n (λ j. mark g unit.0 (i * g.n + j)))
      (λ i. sum_below g.n (λ j. if is_parity (cell_at g i j) && is_nonzero (cell unit.0 i j) then 1 else 0))
      (λ i i_in.
      sum_below_same g.n (λ j. mark g unit.0 (i * g.n + j))
      (λ j. if is_parity (cell_at g i j) && is_nonzero (cell unit.0 i j) then 1 else 0)
      (λ j j_in.
      ap₂ (λ (s t : ℕ). if is_parity (cell_at g s t) && is_nonzero (cell unit.0 s t) then 1 else 0)
      (sym (row_of_number g i j j_in)) (sym (slot_of_number g i j j_in))))
      in
      let counted : steps ≡ start + sum_below (g.r * g.n) (mark g unit.0) =
      so_far.counted unit.0 unit.1 ∙ ap (λ (n : ℕ). start + sum_below n (mark g unit.0)) all in
      omega (arith, counted, grid, dependents_count g d set unit.0 limits below.0 are unit.1)

  module _ (old_of : IsStripeOf g old) (old_sector : IsSector (cell old k l)) (formed : IsWellFormed (with_cell stripe k l block))
      (change_is : (p : ℕ) → p < 512 → slice_index change p ≡ bit_xor (slice_index block p) (byte_of old p k l)) where
    abbrev new : Stripe
    new = with_cell stripe k l block

    new_of : IsStripeOf g new
    new_of = record { rows = so_far.of.rows; chunks = so_far.of.chunks }

    kept_here : cell stripe k l ≡ cell old k l
    kept_here =
        bytes_of-number g stripe k l so_far.of l_in ∙ so_far.kept number (λ parity. absurd (true≢false (sym parity ∙ block_here)))
        ∙ sym (bytes_of-number g old k l old_of l_in)

    old_formed : IsWellFormed old
    old_formed = so_far.formed (formed_before stripe k l block (subst IsSector (sym kept_here) old_sector) formed)

    other_cell : (t : ℕ) → t ≢ number → bytes_of new t ≡ bytes_of stripe t
    other_cell t other =
        bytes_of-kept g stripe number t k l block so_far.of (row_of_number g k l l_in) (slot_of_number g k l l_in) other

    module _ (p i j factor : ℕ) (p_in : p < 512) (row_in : i < g.r) (slot_in : j < g.n) (of : IsFactor g d i j factor) where
      abbrev here : ℕ
      here = i * g.n + j

      parity_byte : is_parity_number g here ≡ true
          → byte_of new p i j ≡ bit_xor (byte_of old p i j) (product factor (bit_xor (slice_index block p) (byte_of old p k l)))
      parity_byte parity =
          ap (λ (b : List ℕ). slice_index b p)
          (bytes_of-number g new i j new_of slot_in
          ∙ other_cell here (λ same. true≢false (sym parity ∙ ap (is_parity_number g) same ∙ block_here)))
          ∙ so_far.changed here p factor p_in (omega (arith, all, number_in g i j row_in slot_in)) parity
          (subst (λ (s : ℕ). IsFactor g d s (here % g.n) factor) (row_of_number g i j slot_in)
          (subst (λ (s : ℕ). IsFactor g d i s factor) (slot_of_number g i j slot_in) of))
          ∙ ap₂ (λ (b : List ℕ) (x : ℕ). bit_xor (slice_index b p) (product factor x))
          (sym (bytes_of-number g old i j old_of slot_in)) (change_is p p_in)

      own_byte : i ≡ k → j ≡ l
          → byte_of new p i j ≡ bit_xor (byte_of old p i j) (product factor (bit_xor (slice_index block p) (byte_of old p k l)))
      own_byte same_row same_slot =
          let one : factor ≡ 1 =
          factor_itself g d i j factor limits row_in slot_in of (ap₂ (cell_at g) same_row same_slot ∙ is) in
          let written : cell new k l ≡ block =
          bytes_of-number g new k l new_of l_in
          ∙ bytes_of-put g stripe number k l block so_far.of (row_of_number g k l l_in) (slot_of_number g k l l_in)
          (number_in g k l k_in l_in) formed in
          let sector = subst IsSector written (cell-IsSector g new k l new_of formed k_in l_in) in
          let difference : ℕ = bit_xor (slice_index block p) (byte_of old p k l) in
          let small : difference < 256 =
          xor_lt 8 (slice_index block p) (byte_of old p k l) (byte_at-lt block p sector.1) (byte_at-lt (cell old k l) p old_sector.1) in
          ap₂ (byte_of new p) same_row same_slot
          ∙ ap (λ (b : List ℕ). slice_index b p) written
          ∙ sym (xor_back (byte_of old p k l) (slice_index block p))
          ∙ ap₂ bit_xor (sym (ap₂ (byte_of old p) same_row same_slot))
          (sym (ap (λ (f : ℕ). product f difference) one ∙ product_comm 1 difference ∙ product-one_right difference small))

      block_byte : (e : ℕ) → cell_at g i j ≡ Data e
          → byte_of new p i j ≡ bit_xor (byte_of old p i j) (product factor (bit_xor (slice_index block p) (byte_of old p k l)))
      block_byte e data_cell =
          elim (cases_eq e d) [
            | inl same ↦
                let place = data_once g i j k l d (data_cell ∙ ap Data same) is in own_byte place.0 place.1
            | inr other ↦
                let zero : factor ≡ 0 = factor_other g d i j factor limits row_in slot_in of e data_cell other in
                let parity : is_parity_number g here ≡ false = is_block g here e (sym (cell_of-number g i j slot_in) ∙ data_cell) in
                ap (λ (b : List ℕ). slice_index b p)
                (bytes_of-number g new i j new_of slot_in
                ∙ other_cell here
                (λ same.
                other (block_number g here e (sym (cell_of-number g i j slot_in) ∙ data_cell)
                ∙ ap (blocks_before g) same
                ∙ sym (block_number g number d (sym (cell_of-number g k l l_in) ∙ is))))
                ∙ so_far.kept here (λ t. absurd (true≢false (sym t ∙ parity)))
                ∙ sym (bytes_of-number g old i j old_of slot_in))
                ∙ sym (ap (bit_xor (byte_of old p i j))
                (ap (λ (f : ℕ). product f (bit_xor (slice_index block p) (byte_of old p k l))) zero
                ∙ product-zero_left (bit_xor (slice_index block p) (byte_of old p k l)))
                ∙ xor_zero_r (byte_of old p i j))
          ]

      each_byte : byte_of new p i j ≡ bit_xor (byte_of old p i j) (product factor (bit_xor (slice_index block p) (byte_of old p k l)))
      each_byte =
          elim (cases_Bool (is_parity_number g here)) [
            | inl parity ↦ parity_byte parity
            | inr block_cell_here ↦ block_byte _ (cell_of-number g i j slot_in ∙ block_cell g here block_cell_here)
          ]

    pub updated : IsUpdatedFrom g d block old new
    updated =
        updated_by_factors g d k l block old new limits k_in l_in is old_of old_formed new_of formed
        (λ p i j factor p_in row_in slot_in of. each_byte p i j factor p_in row_in slot_in of)
