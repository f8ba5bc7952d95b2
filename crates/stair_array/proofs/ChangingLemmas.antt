-- The cells that change with blocks of a stripe.
use Rattle.std.proofs.Common.{◌≡◌, ◌≢◌, ℕ, ◌+◌, ◌*◌, ◌/◌, ◌%◌, ◌<◌, ◌≤◌, Bool, true, false, cond, inl, inr, refl, sym, ap, subst, ◌∙◌, arith, div-add-mod', mul_comm}
use Rattle.std.specs.Prelude.{◌⊎◌, ◌↔◌, IsTrue}
use Rattle.std.proofs.lemmas.Bool.{cases_eq}
use Rattle.std.proofs.lemmas.Nat.{div_below}
use Rattle.std.proofs.Math.Nat.{mul-le-mul_right}
use Rattle.stair_model.specs.Cell.{Data, IsPlaceOf}
use Rattle.stair_model.specs.CellSet.{CellSet, HasCell, IsCellSet, cell_count, count_in_slot, has_cell}
use Rattle.stair_model.specs.Dependents.{AreDependents, IsDependent}
use Rattle.stair_model.specs.Geometry.{Geometry, IsWithinLimits, block_count, data_cells}
use Rattle.stair_model.specs.Sum.{sum_below}
use Rattle.stair_model.proofs.CountLaws.{sum_below_more, sum_below_part}
use Rattle.stair_model.proofs.DependentLaws.{dependent_itself}
use Rattle.stair_model.proofs.SetLaws.{cell_count_same}
use Rattle.stair_journal.specs.Redo.{IsRedo}
use Rattle.stair_state.specs.Blocks.{AreOfOneStripe}
use Rattle.stair_array.specs.Calls.{AreOfBlocks, ChangesWith}

-- blocks of one stripe, of which the first is in range, are all in range
pub all_in_range : (g : Geometry) (first count : ℕ) → IsWithinLimits g → first < block_count g → AreOfOneStripe g first count
    → first + count ≤ block_count g
all_in_range g first count limits below together = by (stripe_below)
  where
    u : ℕ
    u = data_cells g

    stripe_below : first / u < g.stripes
    stripe_below = div_below first u g.stripes limits.blocks (omega (arith, below, mul_comm u g.stripes))

    by : first / u < g.stripes → first + count ≤ block_count g
    by stripe =
        let own : first / u * u + first % u ≡ first = div-add-mod' first u in
        let more : (first / u + 1) * u ≤ g.stripes * u = mul-le-mul_right {m = first / u + 1} {n = g.stripes} u (omega (arith, stripe)) in
        let whole : (first / u + 1) * u ≡ first / u * u + u = omega arith in
        let within = together.within in
        omega (arith, own, more, whole, within, mul_comm u g.stripes)

-- ONE MORE BLOCK

pub changes_none : (g : Geometry) (first i j : ℕ) → ¬ ChangesWith g first 0 i j
changes_none g first i j is = let from = is.from in let below = is.below in omega (arith, from, below)

module _ (g : Geometry) (first at t row chunk : ℕ) (place : IsPlaceOf g (first + at) t row chunk) where
  into : (i j : ℕ) → ChangesWith g first (at + 1) i j → ChangesWith g first at i j ⊎ IsDependent g ((first + at) % data_cells g) i j
  into i j is =
      elim (cases_eq is.block (first + at)) [
        | inl same ↦
            let number : Data is.data_cell ≡ Data (is.block % data_cells g) = sym is.is_one.at ∙ is.is_one.place.at in
            let cell : is.data_cell ≡ is.block % data_cells g = cc in
            inr (subst (λ (d : ℕ). IsDependent g d i j) (cell ∙ ap (λ (b : ℕ). b % data_cells g) same) is.dependent)
        | inr other ↦
            let below = is.below in
            inl
            (record {
              block = is.block;
              from = is.from;
              below = omega (arith, below, other);
              data_cell = is.data_cell;
              is_one = is.is_one;
              dependent = is.dependent;
            })
      ]

  from : (i j : ℕ) → ChangesWith g first at i j ⊎ IsDependent g ((first + at) % data_cells g) i j → ChangesWith g first (at + 1) i j
  from i j (inl is) =
      let below = is.below in
      record {
        block = is.block;
        from = is.from;
        below = omega (arith, below);
        data_cell = is.data_cell;
        is_one = is.is_one;
        dependent = is.dependent;
      }
  from i j (inr is) = record {
    block = first + at;
    from = omega arith;
    below = omega arith;
    data_cell = (first + at) % data_cells g;
    is_one = record { stripe = t; row = row; chunk = chunk; place = place; at = place.at };
    dependent = is;
  }

  pub changes_more : (i j : ℕ) → ChangesWith g first (at + 1) i j ↔ (ChangesWith g first at i j ⊎ IsDependent g ((first + at) % data_cells g) i j)
  changes_more i j = (into i j, from i j)

  -- so a set that is joined with the block's dependents has the cells that change with it too
  pub members_more : (old deps new : CellSet) → ((k l : ℕ) → HasCell old k l ↔ ChangesWith g first at k l)
      → AreDependents g ((first + at) % data_cells g) deps → ((k l : ℕ) → HasCell new k l ↔ (HasCell old k l ⊎ HasCell deps k l))
      → (k l : ℕ) → HasCell new k l ↔ ChangesWith g first (at + 1) k l
  members_more old deps new so_far are joined k l = (
    λ has.
        from k l
        (elim ((joined k l).0 has) [ inl was ↦ inl ((so_far k l).0 was) | inr one ↦ inr ((are k l).0 one) ]),
    λ is.
        (joined k l).1
        (elim (into k l is) [ inl was ↦ inl ((so_far k l).1 was) | inr one ↦ inr ((are k l).1 one) ]),
  )

-- the dependents of a block are among the cells that change with it and with others
pub dependents_change : (g : Geometry) (first count at t row chunk : ℕ) → IsPlaceOf g (first + at) t row chunk → at < count → (i j : ℕ)
    → IsDependent g ((first + at) % data_cells g) i j → ChangesWith g first count i j
dependents_change g first count at t row chunk place below i j is = record {
  block = first + at;
  from = omega arith;
  below = omega (arith, below);
  data_cell = (first + at) % data_cells g;
  is_one = record { stripe = t; row = row; chunk = chunk; place = place; at = place.at };
  dependent = is;
}

-- A REDO OF THEM

module _ (g : Geometry) (first count t row chunk : ℕ) (cells : CellSet) (limits : IsWithinLimits g) (below : t < g.stripes)
    (place : IsPlaceOf g first t row chunk) (some : 0 < count) (formed : IsCellSet cells) where
  -- of all cells of the stripe
  module _ (all : (i j : ℕ) → HasCell cells i j ↔ ((i < g.r) × (j < g.n))) where
    pub redo_of_all : IsRedo g (record { stripe = t; cells = cells })
    redo_of_all = record {
      stripe_in = below;
      formed = formed;
      inside = λ i j has. (all i j).0 has;
      row = 0;
      slot = 0;
      some = (all 0 0).1 (omega (arith, limits.rows.0), omega (arith, limits.devices.0));
    }

    pub all_change : count ≡ data_cells g → AreOfBlocks g first count cells
    all_change full i j = (λ has. ((all i j).0 has, inl full), λ both. (all i j).1 both.0)

  -- of those that change with them
  module _ (members : (i j : ℕ) → HasCell cells i j ↔ ChangesWith g first count i j) where
    own : IsDependent g ((first + 0) % data_cells g) row chunk
    own =
        subst (λ (b : ℕ). IsDependent g (b % data_cells g) row chunk) (omega arith)
        (dependent_itself g (first % data_cells g) row chunk place.row_in place.chunk_in place.at)

    pub redo_of_some : IsRedo g (record { stripe = t; cells = cells })
    redo_of_some = record {
      stripe_in = below;
      formed = formed;
      inside = λ i j has. let is = ((members i j).0 has).dependent in (is.row, is.chunk);
      row = row;
      slot = chunk;
      some =
          (members row chunk).1
          (dependents_change g first count 0 t row chunk (subst (λ (b : ℕ). IsPlaceOf g b t row chunk) (omega arith) place) some row chunk own);
    }

    pub some_change : count ≢ data_cells g → AreOfBlocks g first count cells
    some_change few i j = (
      λ has. let is = (members i j).0 has in ((is.dependent.row, is.dependent.chunk), inr is),
      λ both. elim both.1 [ inl full ↦ absurd (few full) | inr is ↦ (members i j).1 is ],
    )

-- whichever set has the cells, there are as many
pub as_many : (g : Geometry) (first count : ℕ) (a b : CellSet) → AreOfBlocks g first count a → AreOfBlocks g first count b
    → cell_count a ≡ cell_count b
as_many g first count a b of_a of_b =
    cell_count_same a b (λ i j row slot. (λ has. (of_b i j).1 ((of_a i j).0 has), λ has. (of_a i j).1 ((of_b i j).0 has)))

-- a slot with a count has a cell
pub slot_has_cell : (cells : CellSet) (j : ℕ) → 0 < count_in_slot cells j → (i : ℕ) × HasCell cells i j
slot_has_cell cells j some =
    let mark : ℕ → ℕ = λ i. cond (has_cell cells i j) 1 0 in
    let part = sum_below_part 32 0 mark some in
    (part.0, marked (has_cell cells part.0 j) (sum_below part.0 mark) (subst (λ (n : ℕ). 0 < n) (sum_below_more part.0 mark) part.3) part.2)
  where
    marked : (b : Bool) (sooner : ℕ) → 0 < sooner + cond b 1 0 → sooner ≤ 0 → IsTrue b
    marked true sooner above none = refl
    marked false sooner above none = absurd (omega (arith, above, none))
