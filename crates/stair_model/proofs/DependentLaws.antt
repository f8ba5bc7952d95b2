-- The dependents of a data cell, and the factors by which they change with it.
use Rattle.std.proofs.Common.{◌≡◌, ◌≢◌, ℕ, ◌<◌, ◌⊎◌, ◌↔◌, ◌==◌, not, if◌then◌else◌, true, List, [], slice_index, slice_index_or, inl, inr, refl, sym, ◌∙◌, ap, ap₂, subst, arith}
use Rattle.std.specs.Prelude.{bit_xor}
use Rattle.std.specs.Int.Bits.{xor_self, xor_zero_r}
use Rattle.std.proofs.lemmas.Nat.{xor_comm, xor_lt}
use Rattle.std.proofs.lemmas.Bool.{cases_eq, cases_lt, cond-true, cond-false, eq-eqb, ne_eqb, false≢true}
use Rattle.std.proofs.lemmas.List.Elements.{All-from_get_or}
use Rattle.stair_model.specs.Field.{product}
use Rattle.stair_model.specs.Geometry.{Geometry, IsWithinLimits, data_cells}
use Rattle.stair_model.specs.Cell.{Data, cell_at, is_parity, data_before}
use Rattle.stair_model.specs.CellSet.{CellSet, IsCellSet}
use Rattle.stair_model.specs.Codeword.{Word, IsCodeword}
use Rattle.stair_model.specs.Costs.{unit_blocks, is_nonzero}
use Rattle.stair_model.specs.Encoding.{IsEncodingOf}
use Rattle.stair_model.specs.Dependents.{IsDependentIn, IsDependent, AreDependents, IsFactor, SameOtherData, HasBlockSet, IsUpdatedFrom}
use Rattle.stair_model.specs.Stripe.{Stripe, SECTOR, IsSector, IsStripeOf, IsWellFormed, cell, byte_of}
use Rattle.stair_model.proofs.FieldLaws.{product-lt, product-zero_left, product-zero_right, product-one_right, product_comm, no_zero_divisors, same_from_xor, xor_move}
use Rattle.stair_model.proofs.CellLaws.{OfParity, OfGlobal, OfData, kind_of_cell}
use Rattle.stair_model.proofs.DataLaws.{data_in_range, data_once, data_reached}
use Rattle.stair_model.proofs.SetLaws.{same_cells}
use Rattle.stair_model.proofs.PlaceLaws.{list_of, length-list_of, list_of_at}
use Rattle.stair_model.proofs.StripeLaws.{cell-IsSector, byte_of-lt, same_cell}
use Rattle.stair_model.proofs.EncodingLaws.{encoding_exists, encoding_unique, codewords_agree}
use Rattle.stair_model.proofs.CostLaws.{unit_encoding}
use Rattle.stair_model.proofs.LinearLaws.{added, MeetsEquations-added, words_agree}
use Rattle.stair_model.proofs.UnitLaws.{unit_encoding-data, unit_encoding-bytes, is_nonzero-same}

-- ---- which cells they are

-- whichever encoded stripe is taken
pub dependent_in_any : (g : Geometry) (d i j : ℕ) (encoded : Stripe) → IsWithinLimits g → IsEncodingOf g (unit_blocks g d) encoded
    → i < g.r → j < g.n → (IsDependent g d i j ↔ IsDependentIn g encoded d i j)
dependent_in_any g d i j encoded limits is row chunk = (
  λ dependent. dependent.in_each encoded is,
  λ here. record {
    row = row;
    chunk = chunk;
    in_each = λ other other_is.
        subst (λ (s : Stripe). IsDependentIn g s d i j)
        (encoding_unique g (unit_blocks g d) encoded other limits is other_is) here;
  },
)

-- so in each is in some
pub dependent_in_some : (g : Geometry) (d i j : ℕ) → IsWithinLimits g
    → (IsDependent g d i j
    ↔ ((i < g.r) × (j < g.n) × (encoded : Stripe) × IsEncodingOf g (unit_blocks g d) encoded × IsDependentIn g encoded d i j))
dependent_in_some g d i j limits = (
  λ dependent.
      let unit = unit_encoding g d limits in
      (dependent.row, dependent.chunk, unit.0, unit.1, dependent.in_each unit.0 unit.1),
  λ some. (dependent_in_any g d i j some.2 limits some.3 some.0 some.1).1 some.4,
)

-- a data cell is one of its own
pub dependent_itself : (g : Geometry) (d i j : ℕ) → i < g.r → j < g.n → cell_at g i j ≡ Data d → IsDependent g d i j
dependent_itself g d i j row chunk is = record { row = row; chunk = chunk; in_each = λ encoded encodes. inl is }

-- and no other data cell is
pub dependent_data : (g : Geometry) (d i j e : ℕ) → IsWithinLimits g → IsDependent g d i j → cell_at g i j ≡ Data e → e ≡ d
dependent_data g d i j e limits dependent is =
    let unit = unit_encoding g d limits in
    elim (dependent.in_each unit.0 unit.1) [
      | inl here ↦ let same : Data e ≡ Data d = sym is ∙ here in cc
      | inr parity ↦ absurd (false≢true (sym (ap is_parity is) ∙ parity.0))
    ]

-- sets of them are equal
pub dependents_same : (g : Geometry) (d : ℕ) (a b : CellSet) → IsCellSet a → IsCellSet b → AreDependents g d a → AreDependents g d b
    → a ≡ b
dependents_same g d a b a_of b_of first second =
    same_cells a b a_of b_of
    (λ i j. ((λ has. (second i j).1 ((first i j).0 has)), (λ has. (first i j).1 ((second i j).0 has))))

-- ---- factors

-- each cell has one
pub factor_exists : (g : Geometry) (d i j : ℕ) → IsWithinLimits g → i < g.r → j < g.n
    → (factor : ℕ) × (factor < 256) × IsFactor g d i j factor
factor_exists g d i j limits row chunk =
    let unit = unit_encoding g d limits in (
      byte_of unit.0 0 i j,
      byte_of-lt unit.0 unit.1.formed 0 i j,
      λ encoded p p_in is. unit_encoding-bytes g d p 0 i j encoded unit.0 limits is unit.1 p_in (omega arith) row chunk,
    )

pub factor_unique : (g : Geometry) (d i j a b : ℕ) → IsWithinLimits g → IsFactor g d i j a → IsFactor g d i j b → a ≡ b
factor_unique g d i j a b limits first second =
    let unit = unit_encoding g d limits in
    sym (first unit.0 0 (omega arith) unit.1) ∙ second unit.0 0 (omega arith) unit.1

module _ (g : Geometry) (d i j factor : ℕ) (limits : IsWithinLimits g) (row : i < g.r) (chunk : j < g.n)
    (is : IsFactor g d i j factor) where
  -- of a data cell
  factor_data : (e : ℕ) → cell_at g i j ≡ Data e → factor ≡ (if d == e then 1 else 0)
  factor_data e data_cell =
      let unit = unit_encoding g d limits in
      sym (is unit.0 0 (omega arith) unit.1)
      ∙ unit_encoding-data g d 0 i j e unit.0 limits unit.1 (omega arith) row chunk data_cell

  pub factor_itself : cell_at g i j ≡ Data d → factor ≡ 1
  factor_itself data_cell = factor_data d data_cell ∙ cond-true (d == d) 1 0 (eq-eqb d d refl)

  pub factor_other : (e : ℕ) → cell_at g i j ≡ Data e → e ≢ d → factor ≡ 0
  factor_other e data_cell other = factor_data e data_cell ∙ cond-false (d == e) 1 0 (ne_eqb d e (λ same. other (sym same)))

  factor_nonzero : (encoded : Stripe) → IsEncodingOf g (unit_blocks g d) encoded → is_nonzero (cell encoded i j) ≡ not (factor == 0)
  factor_nonzero encoded encodes =
      is_nonzero-same (cell encoded i j) factor (cell-IsSector g encoded i j encodes.of encodes.formed row chunk).0
      (λ p p_in. is encoded p p_in encodes)

  dependent-factor : IsDependent g d i j → factor ≢ 0
  dependent-factor dependent zero =
      let unit = unit_encoding g d limits in
      elim (dependent.in_each unit.0 unit.1) [
        | inl here ↦ let one : factor ≡ 1 = factor_itself here in omega arith
        | inr parity ↦
            false≢true
            (sym (factor_nonzero unit.0 unit.1 ∙ ap (λ (f : ℕ). not (f == 0)) zero) ∙ parity.1)
      ]

  factor-dependent : factor ≢ 0 → IsDependent g d i j
  factor-dependent nonzero = record {
    row = row;
    chunk = chunk;
    in_each = λ encoded encodes.
        let shows : is_nonzero (cell encoded i j) ≡ true = factor_nonzero encoded encodes ∙ ap not (ne_eqb factor 0 nonzero) in
        elim (kind_of_cell g i j) [
          | OfParity from place ↦ inr (ap is_parity place, shows)
          | OfGlobal below among place ↦ inr (ap is_parity place, shows)
          | OfData below apart place ↦
              elim (cases_eq (data_before g i j) d) [
                | inl here ↦ inl (place ∙ ap Data here)
                | inr other ↦ absurd (nonzero (factor_other (data_before g i j) place other))
              ]
        ];
  }

  -- it isn't zero where the cell is a dependent
  pub dependent_by_factor : IsDependent g d i j ↔ (factor ≢ 0)
  dependent_by_factor = (dependent-factor, factor-dependent)

  -- and zero everywhere else
  factor_zero : ¬ IsDependent g d i j → factor ≡ 0
  factor_zero other =
      elim (cases_eq factor 0) [
        | inl zero ↦ zero
        | inr nonzero ↦ absurd (other (factor-dependent nonzero))
      ]

-- a cell is a dependent or not
pub dependent_or_not : (g : Geometry) (d i j : ℕ) → IsWithinLimits g → i < g.r → j < g.n → IsDependent g d i j ⊎ ¬ IsDependent g d i j
dependent_or_not g d i j limits row chunk =
    let factor = factor_exists g d i j limits row chunk in
    let by_factor = dependent_by_factor g d i j factor.0 limits row chunk factor.2 in
    elim (cases_eq factor.0 0) [
      | inl zero ↦ inr (λ dependent. by_factor.0 dependent zero)
      | inr nonzero ↦ inl (by_factor.1 nonzero)
    ]

-- ---- codewords that differ in one block

xor_back : (x y : ℕ) → bit_xor x (bit_xor y x) ≡ y
xor_back x y = xor_comm x (bit_xor y x) ∙ sym (xor_move y x (bit_xor y x) refl)

-- what changes nothing is 0
xor_none : (x y : ℕ) → bit_xor x y ≡ x → y ≡ 0
xor_none x y same = xor_move y x x (xor_comm y x ∙ same) ∙ xor_self x

module _ (g : Geometry) (d : ℕ) (a b : Stripe) (limits : IsWithinLimits g) (a_of : IsStripeOf g a) (a_formed : IsWellFormed a)
    (a_codeword : IsCodeword g a) (b_of : IsStripeOf g b) (b_formed : IsWellFormed b) (b_codeword : IsCodeword g b)
    (same : SameOtherData g d a b) where
  module _ (k l : ℕ) (row : k < g.r) (chunk : l < g.n) (is : cell_at g k l ≡ Data d) where
    -- by what each byte of the block changes
    abbrev change : ℕ → ℕ
    change p = bit_xor (byte_of b p k l) (byte_of a p k l)

    change-lt : (p : ℕ) → change p < 256
    change-lt p = xor_lt 8 (byte_of b p k l) (byte_of a p k l) (byte_of-lt b b_formed p k l) (byte_of-lt a a_formed p k l)

    -- the bytes of the encoded stripe of the unit blocks
    abbrev unit_word : Word
    unit_word = byte_of (unit_encoding g d limits).0 0

    data_changes : (p s t e : ℕ) → s < g.r → t < g.n → cell_at g s t ≡ Data e
        → byte_of b p s t ≡ added (byte_of a p) (change p) unit_word s t
    data_changes p s t e s_in t_in data_cell =
        elim (cases_eq e d) [
          | inl here ↦
              let place = data_once g s t k l d (data_cell ∙ ap Data here) is in
              ap₂ (byte_of b p) place.0 place.1
              ∙ sym (xor_back (byte_of a p k l) (byte_of b p k l))
              ∙ ap₂ bit_xor (sym (ap₂ (byte_of a p) place.0 place.1))
              (sym (product-one_right (change p) (change-lt p))
              ∙ ap (product (change p)) (sym (unit_is ∙ cond-true (d == e) 1 0 (eq-eqb d e (sym here)))))
          | inr other ↦
              sym (ap (λ (bytes : List ℕ). slice_index bytes p) (same s t e s_in t_in data_cell other))
              ∙ sym (xor_zero_r (byte_of a p s t))
              ∙ ap (bit_xor (byte_of a p s t))
              (sym (ap (product (change p)) (unit_is ∙ cond-false (d == e) 1 0 (ne_eqb d e (λ alike. other (sym alike))))
              ∙ product-zero_right (change p)))
        ]
      where
        unit_is : unit_word s t ≡ (if d == e then 1 else 0)
        unit_is =
            unit_encoding-data g d 0 s t e (unit_encoding g d limits).0 limits (unit_encoding g d limits).1 (omega arith) s_in t_in
            data_cell

    word_changes : (p i j : ℕ) → p < SECTOR → i < g.r → j < g.n
        → byte_of b p i j ≡ added (byte_of a p) (change p) unit_word i j
    word_changes p i j p_in =
        words_agree g (byte_of b p) (added (byte_of a p) (change p) unit_word) limits
        (λ s t s_in t_in. byte_of-lt b b_formed p s t) (b_codeword.words p p_in)
        (λ s t s_in t_in. xor_lt 8 (byte_of a p s t) (product (change p) (unit_word s t)) (byte_of-lt a a_formed p s t)
        (product-lt (change p) (unit_word s t)))
        (MeetsEquations-added g (byte_of a p) unit_word (change p) (a_codeword.words p p_in)
        ((unit_encoding g d limits).1.codeword.words 0 (omega arith)))
        (data_changes p) i j

    -- each cell changes by its factor times the change of the block
    pub factor_difference : (p i j factor : ℕ) → p < SECTOR → i < g.r → j < g.n → IsFactor g d i j factor
        → byte_of b p i j ≡ bit_xor (byte_of a p i j) (product factor (bit_xor (byte_of b p k l) (byte_of a p k l)))
    factor_difference p i j factor p_in i_in j_in of =
        word_changes p i j p_in i_in j_in
        ∙ ap (bit_xor (byte_of a p i j))
        (product_comm (change p) (unit_word i j)
        ∙ ap (λ (f : ℕ). product f (change p)) (of (unit_encoding g d limits).0 0 (omega arith) (unit_encoding g d limits).1))

    -- so that all but the dependents stay
    others_stay_of : (i j : ℕ) → i < g.r → j < g.n → ¬ IsDependent g d i j → cell a i j ≡ cell b i j
    others_stay_of i j i_in j_in other =
        let factor = factor_exists g d i j limits i_in j_in in
        let zero : factor.0 ≡ 0 = factor_zero g d i j factor.0 limits i_in j_in factor.2 other in
        same_cell g a b i j a_of a_formed b_of b_formed i_in j_in
        (λ p p_in.
        sym (factor_difference p i j factor.0 p_in i_in j_in factor.2
        ∙ ap (bit_xor (byte_of a p i j)) (ap (λ (f : ℕ). product f (change p)) zero ∙ product-zero_left (change p))
        ∙ xor_zero_r (byte_of a p i j)))

    -- and a dependent stays only where the block does
    pub dependent_stays : (i j : ℕ) → IsDependent g d i j → cell a i j ≡ cell b i j → cell a k l ≡ cell b k l
    dependent_stays i j dependent stays =
        let factor = factor_exists g d i j limits dependent.row dependent.chunk in
        same_cell g a b k l a_of a_formed b_of b_formed row chunk
        (λ p p_in.
        elim (no_zero_divisors factor.0 (change p) factor.1 (change-lt p)
        (xor_none (byte_of a p i j) (product factor.0 (change p))
        (sym (factor_difference p i j factor.0 p_in dependent.row dependent.chunk factor.2)
        ∙ sym (ap (λ (bytes : List ℕ). slice_index bytes p) stays)))) [
          | inl zero ↦
              absurd ((dependent_by_factor g d i j factor.0 limits dependent.row dependent.chunk factor.2).0 dependent zero)
          | inr zero ↦ sym (same_from_xor (byte_of b p k l) (byte_of a p k l) zero)
        ])

  -- also where no data cell has this number, since then nothing changes
  pub others_stay : (i j : ℕ) → i < g.r → j < g.n → ¬ IsDependent g d i j → cell a i j ≡ cell b i j
  others_stay i j i_in j_in other =
      elim (cases_lt d (data_cells g)) [
        | inl below ↦
            let place = data_reached g d limits below in
            others_stay_of place.0 place.1 place.2 place.3 place.4 i j i_in j_in other
        | inr above ↦
            ap (λ (s : Stripe). cell s i j)
            (codewords_agree g a b limits a_of a_formed a_codeword b_of b_formed b_codeword
            (λ s t e s_in t_in data_cell.
            let below = data_in_range g s t e limits s_in data_cell in
            same s t e s_in t_in data_cell (λ here. omega (arith, below.0))))
      ]

-- ---- a block that is set

-- a codeword's block can be set to any sector
pub block_set_exists : (g : Geometry) (d : ℕ) (block : List ℕ) (before : Stripe) → IsWithinLimits g → IsStripeOf g before
    → IsWellFormed before → IsSector block → (after : Stripe) × HasBlockSet g d block before after
block_set_exists g d block before limits of formed sector = (
  encoded.0,
  record {
    of = encoded.1.of;
    formed = encoded.1.formed;
    codeword = encoded.1.codeword;
    holds = λ i j row chunk is.
        encoded.1.holds i j d row chunk is ∙ block_of i j d row chunk is ∙ cond-true (d == d) block _ (eq-eqb d d refl);
    same_data = λ i j e row chunk is other.
        sym (encoded.1.holds i j e row chunk is ∙ block_of i j e row chunk is
        ∙ cond-false (e == d) block (cell before (place e).0 (place e).1) (ne_eqb e d other)
        ∙ cell_of_place i j e row chunk is);
  },
)
  where
    -- the cell of data cell e, or the first one
    place : (e : ℕ) → (i : ℕ) × (j : ℕ) × (i < g.r) × (j < g.n) × (e < data_cells g → cell_at g i j ≡ Data e)
    place e =
        elim (cases_lt e (data_cells g)) [
          | inl below ↦
              let at = data_reached g e limits below in
              (at.0, at.1, at.2, at.3, λ h. at.4)
          | inr above ↦ (0, 0, omega (arith, limits.rows.0), omega (arith, limits.devices.0), λ below. absurd (omega arith))
        ]

    wanted : ℕ → List ℕ
    wanted e = if e == d then block else cell before (place e).0 (place e).1

    blocks : List (List ℕ)
    blocks = list_of (data_cells g) wanted

    wanted-IsSector : (e : ℕ) → IsSector (wanted e)
    wanted-IsSector e =
        elim (cases_eq e d) [
          | inl here ↦ subst IsSector (sym (cond-true (e == d) block (cell before (place e).0 (place e).1) (eq-eqb e d here))) sector
          | inr other ↦
              subst IsSector (sym (cond-false (e == d) block (cell before (place e).0 (place e).1) (ne_eqb e d other)))
              (cell-IsSector g before (place e).0 (place e).1 of formed (place e).2 (place e).3)
        ]

    encoded : (stripe : Stripe) × IsEncodingOf g blocks stripe
    encoded =
        encoding_exists g blocks limits (length-list_of (data_cells g) wanted)
        (All-from_get_or IsSector blocks []
        (λ e below.
        let within : e < data_cells g = omega (arith, length-list_of (data_cells g) wanted) in
        subst IsSector (sym (list_of_at (data_cells g) wanted e [] within)) (wanted-IsSector e)))

    block_of : (i j e : ℕ) → i < g.r → j < g.n → cell_at g i j ≡ Data e → slice_index_or blocks e [] ≡ wanted e
    block_of i j e row chunk is = list_of_at (data_cells g) wanted e [] (data_in_range g i j e limits row is).0

    cell_of_place : (i j e : ℕ) → i < g.r → j < g.n → cell_at g i j ≡ Data e → cell before (place e).0 (place e).1 ≡ cell before i j
    cell_of_place i j e row chunk is =
        let once = data_once g (place e).0 (place e).1 i j e ((place e).4 (data_in_range g i j e limits row is).0) is in
        ap₂ (cell before) once.0 once.1

-- in one way
pub block_set_unique : (g : Geometry) (d : ℕ) (block : List ℕ) (before a b : Stripe) → IsWithinLimits g
    → HasBlockSet g d block before a → HasBlockSet g d block before b → a ≡ b
block_set_unique g d block before a b limits first second =
    codewords_agree g a b limits first.of first.formed first.codeword second.of second.formed second.codeword
    (λ i j e row chunk is.
    elim (cases_eq e d) [
      | inl here ↦
          first.holds i j row chunk (is ∙ ap Data here) ∙ sym (second.holds i j row chunk (is ∙ ap Data here))
      | inr other ↦ sym (first.same_data i j e row chunk is other) ∙ second.same_data i j e row chunk is other
    ])

-- a stripe is updated where to each of its cells its factor times the change of the block was added
pub updated_by_factors : (g : Geometry) (d k l : ℕ) (block : List ℕ) (old new : Stripe) → IsWithinLimits g → k < g.r → l < g.n
    → cell_at g k l ≡ Data d → IsStripeOf g old → IsWellFormed old → IsStripeOf g new → IsWellFormed new
    → ((p i j factor : ℕ) → p < SECTOR → i < g.r → j < g.n → IsFactor g d i j factor
    → byte_of new p i j ≡ bit_xor (byte_of old p i j) (product factor (bit_xor (slice_index block p) (byte_of old p k l))))
    → IsUpdatedFrom g d block old new
updated_by_factors g d k l block old new limits row chunk is old_of old_formed new_of new_formed sums = record {
  of = new_of;
  formed = new_formed;
  dependents = λ before after of formed codeword agrees set i j dependent.
      let factor = factor_exists g d i j limits dependent.row dependent.chunk in
      same_cell g after new i j set.of set.formed new_of new_formed dependent.row dependent.chunk
      (λ p p_in.
      let here = agrees k l (dependent_itself g d k l row chunk is) in
      factor_difference g d before after limits of formed codeword set.of set.formed set.codeword set.same_data k l row chunk is p i j
      factor.0 p_in dependent.row dependent.chunk factor.2
      ∙ ap₂ (λ x y. bit_xor x (product factor.0 y))
      (ap (λ (bytes : List ℕ). slice_index bytes p) (agrees i j dependent))
      (ap₂ (λ (x y : List ℕ). bit_xor (slice_index x p) (slice_index y p)) (set.holds k l row chunk is) here)
      ∙ sym (sums p i j factor.0 p_in dependent.row dependent.chunk factor.2));
  others = λ i j i_in j_in other.
      let factor = factor_exists g d i j limits i_in j_in in
      let zero : factor.0 ≡ 0 = factor_zero g d i j factor.0 limits i_in j_in factor.2 other in
      same_cell g new old i j new_of new_formed old_of old_formed i_in j_in
      (λ p p_in.
      let change = bit_xor (slice_index block p) (byte_of old p k l) in
      sums p i j factor.0 p_in i_in j_in factor.2
      ∙ ap (bit_xor (byte_of old p i j)) (ap (λ (f : ℕ). product f change) zero ∙ product-zero_left change)
      ∙ xor_zero_r (byte_of old p i j));
}
