-- The stripe of a write: its blocks can be set, one after the other, and only the cells that change with them differ then.
use Rattle.std.proofs.Common.{◌≡◌, ℕ, ◌+◌, ◌*◌, ◌/◌, ◌%◌, ◌<◌, ◌≤◌, List, [], ◌∷◌, length, inl, inr, refl, sym, ap, ap₂, ◌∙◌, arith}
use Rattle.std.specs.Prelude.{◌⊎◌, All}
use Rattle.std.proofs.lemmas.Bool.{cases_Bool, cases_eq, cond-false, cond-true, eq-eqb, ne_eqb, true≢false}
use Rattle.std.proofs.lemmas.List.Elements.{All-get_or, All-tail}
use Rattle.std.proofs.lemmas.Nat.{div-mul-add, mod-mul-add}
use Rattle.stair_model.specs.Cell.{Data, IsPlaceOf, cell_at}
use Rattle.stair_model.specs.CellSet.{HasCell, has_cell}
use Rattle.stair_model.specs.Codeword.{IsCodeword}
use Rattle.stair_model.specs.Dependents.{HasBlockSet, SameOtherData}
use Rattle.stair_model.specs.Encoding.{IsEncodedFrom}
use Rattle.stair_model.specs.Geometry.{Geometry, IsWithinLimits, data_cells}
use Rattle.stair_model.specs.Stripe.{IsSector, IsStripeOf, IsWellFormed, Stripe, cell, with_cell}
use Rattle.stair_model.proofs.DataLaws.{data_once, data_reached}
use Rattle.stair_model.proofs.DependentLaws.{block_set_exists, others_stay}
use Rattle.stair_model.proofs.StripeLaws.{cell-with_cell_other, cell-with_cell_same}
use Rattle.stair_journal.specs.Redo.{IsRedo}
use Rattle.stair_journal.specs.declared.redo.Redo.{Redo}
use Rattle.stair_state.specs.Blocks.{Codewords, IsSetFrom, with_word}
use Rattle.stair_state.specs.Forms.{IsInRedo}
use Rattle.stair_state.specs.Redoing.{IsRedoing}
use Rattle.stair_array.specs.Calls.{AreOfBlocks, AreSet, ChangesWith}

-- ONE BLOCK

-- a stripe of the array that meets its equations
pub record IsWord (g : Geometry) (stripe : Stripe) : Type 0 where
  pub of : IsStripeOf g stripe
  pub formed : IsWellFormed stripe
  pub codeword : IsCodeword g stripe

-- two cells are one, or they aren't
one_cell : (k l i j : ℕ) → ((k ≡ i) × (l ≡ j)) ⊎ (¬ ((k ≡ i) × (l ≡ j)))
one_cell k l i j =
    elim (cases_eq k i) [
      | inr other ↦ inr (λ both. other both.0)
      | inl row ↦ elim (cases_eq l j) [ inl chunk ↦ inl (row, chunk) | inr other ↦ inr (λ both. other both.1) ]
    ]

-- the stripe with the block in its place, encoded, is the codeword with the block set
encoded_set : (g : Geometry) (before after : Stripe) (i j d : ℕ) (bytes : List ℕ) → IsStripeOf g before → IsWellFormed before → i < g.r → j < g.n
    → cell_at g i j ≡ Data d → HasBlockSet g d bytes before after → IsEncodedFrom g (with_cell before i j bytes) after
encoded_set g before after i j d bytes of formed row_in chunk_in at is = record {
  of = is.of;
  formed = is.formed;
  codeword = is.codeword;
  same_data = same_data;
}
  where
    same_data : (k l e : ℕ) → k < g.r → l < g.n → cell_at g k l ≡ Data e → cell (with_cell before i j bytes) k l ≡ cell after k l
    same_data k l e row chunk data_cell =
        elim (one_cell k l i j) [
          | inl here ↦
              ap₂ (cell (with_cell before i j bytes)) here.0 here.1
              ∙ cell-with_cell_same before i j bytes formed (omega (arith, of.rows, row_in)) (omega (arith, of.chunks, chunk_in))
              ∙ sym (is.holds k l row chunk (ap₂ (cell_at g) here.0 here.1 ∙ at))
          | inr other ↦
              cell-with_cell_other before k l i j bytes (omega (arith, of.chunks, chunk)) (omega (arith, of.chunks, chunk_in)) other
              ∙ is.same_data k l e row chunk data_cell (λ same. other (data_once g k l i j d (data_cell ∙ ap Data same) at))
        ]

-- and another data cell is as it was before
others_same : (g : Geometry) (before after : Stripe) (i j d : ℕ) (bytes : List ℕ) → IsStripeOf g before → j < g.n → cell_at g i j ≡ Data d
    → IsEncodedFrom g (with_cell before i j bytes) after → SameOtherData g d before after
others_same g before after i j d bytes of chunk_in at is k l e row chunk data_cell other =
    sym
    (cell-with_cell_other before k l i j bytes (omega (arith, of.chunks, chunk)) (omega (arith, of.chunks, chunk_in))
    (λ here.
    let same : Data e ≡ Data d = sym data_cell ∙ ap₂ (cell_at g) here.0 here.1 ∙ at in
    other (let number : e ≡ d = cc in number)))
    ∙ is.same_data k l e row chunk data_cell

-- SEVERAL BLOCKS, from data cell d of stripe t on

module _ (g : Geometry) (limits : IsWithinLimits g) (t : ℕ) where
  placed_at : (d first i j : ℕ) → first ≡ t * data_cells g + d → d < data_cells g → i < g.r → j < g.n → cell_at g i j ≡ Data d → IsPlaceOf g first t i j
  placed_at d first i j same below row chunk at = record {
    in_stripe = sym (ap (λ (x : ℕ). x / data_cells g) same ∙ div-mul-add t (data_cells g) d below);
    row_in = row;
    chunk_in = chunk;
    at = at ∙ ap Data (sym (ap (λ (x : ℕ). x % data_cells g) same ∙ mod-mul-add t (data_cells g) d below));
  }

  pub set_exists : (d first : ℕ) (contents : List (List ℕ)) (before : Stripe) → first ≡ t * data_cells g + d
      → d + length contents ≤ data_cells g → All IsSector contents → IsStripeOf g before → IsWellFormed before
      → (after : Stripe) × IsSetFrom g t first contents before after
  set_exists d first [] before same within sectors of formed = (before, refl)
  set_exists d first (bytes ∷ more) before same within sectors of formed =
      let below : d < data_cells g = omega (arith, within) in
      let place = data_reached g d limits below in
      let sector : IsSector bytes = All-get_or IsSector (bytes ∷ more) 0 [] (omega arith) sectors in
      let mid = block_set_exists g d bytes before limits of formed sector in
      let rest =
      set_exists (d + 1) (first + 1) more mid.0 (omega (arith, same)) (omega (arith, within)) (All-tail IsSector bytes more sectors) mid.1.of
      mid.1.formed in (
        rest.0,
        (
          place.0,
          place.1,
          mid.0,
          placed_at d first place.0 place.1 same below place.2 place.3 place.4,
          sector,
          encoded_set g before mid.0 place.0 place.1 d bytes of formed place.2 place.3 place.4 mid.1,
          rest.1,
        ),
      )

  -- a cell that changes with none of them stays
  pub others_kept : (first : ℕ) (contents : List (List ℕ)) (before after : Stripe) → IsWord g before → IsSetFrom g t first contents before after
      → (i j : ℕ) → i < g.r → j < g.n → ¬ ChangesWith g first (length contents) i j → cell after i j ≡ cell before i j
  others_kept first [] before after is is_set i j row chunk out = ap (λ (s : Stripe). cell s i j) is_set
  others_kept first (bytes ∷ more) before after is is_set i j row chunk out =
      let k = is_set.0 in
      let l = is_set.1 in
      let mid = is_set.2 in
      let place = is_set.3 in
      let encoded = is_set.5 in
      let d : ℕ = first % data_cells g in
      others_kept (first + 1) more mid after (record { of = encoded.of; formed = encoded.formed; codeword = encoded.codeword }) is_set.6 i j row chunk
      (λ changes.
      out
      (record {
        block = changes.block;
        from = let from = changes.from in omega (arith, from);
        below = let below = changes.below in omega (arith, below);
        data_cell = changes.data_cell;
        is_one = changes.is_one;
        dependent = changes.dependent;
      }))
      ∙ sym
      (others_stay g d before mid limits is.of is.formed is.codeword encoded.of encoded.formed encoded.codeword
      (others_same g before mid k l d bytes is.of place.chunk_in place.at encoded) i j row chunk
      (λ dependent.
      out
      (record {
        block = first;
        from = omega arith;
        below = omega arith;
        data_cell = d;
        is_one = record { stripe = t; row = k; chunk = l; place = place; at = place.at };
        dependent = dependent;
      })))

-- A REDO that sets them

module _ (g : Geometry) (limits : IsWithinLimits g) (redo : Redo) (words : Codewords) (after : Stripe) where
  word_here : with_word words redo.stripe after redo.stripe ≡ after
  word_here = cond-true _ _ _ (eq-eqb redo.stripe redo.stripe refl)

  pub redoing_of : (first : ℕ) (contents : List (List ℕ)) → IsRedo g redo → AreOfBlocks g first (length contents) redo.cells
      → IsWord g (words redo.stripe) → IsSetFrom g redo.stripe first contents (words redo.stripe) after
      → IsRedoing (record { geometry = g; redo = redo; old = words; new = with_word words redo.stripe after })
  redoing_of first contents formed change is is_set = record { limits = limits; formed = formed; same = same }
    where
      kept : (i j : ℕ) → i < g.r → j < g.n → ¬ HasCell redo.cells i j → cell after i j ≡ cell (words redo.stripe) i j
      kept i j row chunk out =
          others_kept g limits redo.stripe first contents (words redo.stripe) after is is_set i j row chunk
          (λ changes. out ((change i j).1 ((row, chunk), inr changes)))

      same : (t i j : ℕ) → t < g.stripes → i < g.r → j < g.n
          → IsInRedo redo t i j ⊎ (cell (with_word words redo.stripe after t) i j ≡ cell (words t) i j)
      same t i j t_in row chunk =
          elim (cases_eq t redo.stripe) [
            | inr other ↦ inr (ap (λ (s : Stripe). cell s i j) (cond-false _ _ _ (ne_eqb t redo.stripe other)))
            | inl here ↦
                elim (cases_Bool (has_cell redo.cells i j)) [
                  | inl has ↦ inl (record { stripe = here; has = has })
                  | inr out ↦
                      inr
                      (ap (λ (s : Stripe). cell s i j) (cond-true _ _ _ (eq-eqb t redo.stripe here))
                      ∙ kept i j row chunk (λ has. true≢false (sym has ∙ out))
                      ∙ ap (λ (s : ℕ). cell (words s) i j) (sym here))
                ]
          ]

  -- what was prepared has its cells of the new stripe
  pub cells_of : (first : ℕ) (contents : List (List ℕ)) (loaded stripe : Stripe) → IsWord g (words redo.stripe)
      → AreSet g redo.stripe first contents redo.cells loaded stripe
      → (length contents ≡ data_cells g) ⊎ ((i j : ℕ) → HasCell redo.cells i j → cell (words redo.stripe) i j ≡ cell loaded i j)
      → IsSetFrom g redo.stripe first contents (words redo.stripe) after
      → (i j : ℕ) → HasCell redo.cells i j → cell stripe i j ≡ cell (with_word words redo.stripe after redo.stripe) i j
  cells_of first contents loaded stripe is are known is_set i j has =
      are (words redo.stripe) after is.of is.formed is.codeword known is_set i j has ∙ ap (λ (s : Stripe). cell s i j) (sym word_here)
