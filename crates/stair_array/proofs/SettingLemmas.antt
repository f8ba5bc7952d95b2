-- Blocks of a stripe that are set one after the other, where the cells that change with them are known.
use Rattle.std.proofs.Common.{◌≡◌, ℕ, ◌+◌, ◌%◌, ◌<◌, ◌≤◌, List, [], ◌∷◌, ◌++◌, length, slice_index_or, suc, take, inl, inr, refl, sym, ap, ap₂, subst, ◌∙◌, arith}
use Rattle.std.proofs.lemmas.List.{length-take-le, take_all}
use Rattle.std.proofs.Math.Seq.{take-suc}
use Rattle.stair_model.specs.Cell.{Data, IsPlaceOf, cell_at}
use Rattle.stair_model.specs.CellSet.{CellSet, HasCell}
use Rattle.stair_model.specs.Codeword.{IsCodeword}
use Rattle.stair_model.specs.Dependents.{HasBlockSet, IsDependent, IsUpdatedFrom}
use Rattle.stair_model.specs.Encoding.{IsEncodedFrom}
use Rattle.stair_model.specs.Geometry.{Geometry, IsWithinLimits, data_cells}
use Rattle.stair_model.specs.Stripe.{IsStripeOf, IsWellFormed, Stripe, cell, with_cell}
use Rattle.stair_model.proofs.DataLaws.{data_once}
use Rattle.stair_model.proofs.DependentLaws.{dependent_or_not, others_stay}
use Rattle.stair_model.proofs.StripeLaws.{cell-with_cell_other, cell-with_cell_same}
use Rattle.stair_state.specs.Blocks.{IsSetFrom}
use Rattle.stair_array.specs.Calls.{AreOfBlocks, AreSet}
use Rattle.stair_array.proofs.ChangingLemmas.{dependents_change}

-- a codeword of this geometry
pub record IsWord (g : Geometry) (stripe : Stripe) : Type 0 where
  pub of : IsStripeOf g stripe
  pub formed : IsWellFormed stripe
  pub codeword : IsCodeword g stripe

encoded_word : (g : Geometry) (before after : Stripe) → IsEncodedFrom g before after → IsWord g after
encoded_word g before after is = record { of = is.of; formed = is.formed; codeword = is.codeword }

-- blocks that are set make a codeword of one
pub set_word : (g : Geometry) (t first : ℕ) (contents : List (List ℕ)) (before after : Stripe) → IsWord g before
    → IsSetFrom g t first contents before after → IsWord g after
set_word g t first [] before after word is = subst (IsWord g) (sym is) word
set_word g t first (bytes ∷ more) before after word is =
    set_word g t (first + 1) more is.2 after (encoded_word g (with_cell before is.0 is.1 bytes) is.2 is.5) is.6

-- ONE MORE BLOCK

-- blocks were set, and then this one after them
pub record IsSetThen (g : Geometry) (t first : ℕ) (contents : List (List ℕ)) (bytes : List ℕ) (before after : Stripe) : Type 0 where
  pub row : ℕ
  pub chunk : ℕ
  pub mid : Stripe
  pub sooner : IsSetFrom g t first contents before mid
  pub place : IsPlaceOf g (first + length contents) t row chunk
  pub encoded : IsEncodedFrom g (with_cell mid row chunk bytes) after

pub set_then : (g : Geometry) (t first : ℕ) (contents : List (List ℕ)) (bytes : List ℕ) (before after : Stripe)
    → IsSetFrom g t first (contents ++ (bytes ∷ [])) before after → IsSetThen g t first contents bytes before after
set_then g t first [] bytes before after is = record {
  row = is.0;
  chunk = is.1;
  mid = before;
  sooner = refl;
  place = subst (λ (b : ℕ). IsPlaceOf g b t is.0 is.1) (omega arith) is.3;
  encoded = subst (IsEncodedFrom g (with_cell before is.0 is.1 bytes)) (sym is.6) is.5;
}
set_then g t first (one ∷ more) bytes before after is =
    let then = set_then g t (first + 1) more bytes is.2 after is.6 in
    record {
      row = then.row;
      chunk = then.chunk;
      mid = then.mid;
      sooner = (is.0, is.1, is.2, is.3, is.4, is.5, then.sooner);
      place = subst (λ (b : ℕ). IsPlaceOf g b t then.row then.chunk) (omega arith) then.place;
      encoded = then.encoded;
    }

-- a stripe that is encoded after a block was put in has that block set
pub has_block_set : (g : Geometry) (b t row chunk : ℕ) (bytes : List ℕ) (before after : Stripe) → IsWord g before → IsPlaceOf g b t row chunk
    → IsEncodedFrom g (with_cell before row chunk bytes) after → HasBlockSet g (b % data_cells g) bytes before after
has_block_set g b t row chunk bytes before after word place is = record {
  of = is.of;
  formed = is.formed;
  codeword = is.codeword;
  holds = λ i j row_in chunk_in datum.
      let same = data_once g i j row chunk (b % data_cells g) datum place.at in
      sym (is.same_data i j (b % data_cells g) row_in chunk_in datum)
      ∙ ap₂ (cell (with_cell before row chunk bytes)) same.0 same.1
      ∙ cell-with_cell_same before row chunk bytes word.formed (omega (arith, word.of.rows, place.row_in)) (omega (arith, word.of.chunks, place.chunk_in));
  same_data = λ i j e row_in chunk_in datum other.
      sym (cell-with_cell_other before i j row chunk bytes (omega (arith, word.of.chunks, chunk_in)) (omega (arith, word.of.chunks, place.chunk_in))
      (λ both.
      let number : Data e ≡ Data (b % data_cells g) = sym datum ∙ ap₂ (cell_at g) both.0 both.1 ∙ place.at in
      other (let same : e ≡ b % data_cells g = cc in same)))
      ∙ is.same_data i j e row_in chunk_in datum;
}

-- CELLS THAT ARE KNOWN

-- the stripe's cells are those of each codeword that had the loaded ones, with these blocks set
abbrev pub HasSet : Geometry → ℕ → ℕ → CellSet → Stripe → List (List ℕ) → Stripe → Type 0
HasSet g t first cells loaded contents stripe = (before after : Stripe) → IsWord g before
    → ((i j : ℕ) → HasCell cells i j → cell before i j ≡ cell loaded i j) → IsSetFrom g t first contents before after
    → (i j : ℕ) → HasCell cells i j → cell stripe i j ≡ cell after i j

module _ (g : Geometry) (t first : ℕ) (cells : CellSet) (loaded : Stripe) (limits : IsWithinLimits g) where
  pub set_none : HasSet g t first cells loaded [] loaded
  set_none before after word same is i j has = sym (same i j has) ∙ ap (λ (s : Stripe). cell s i j) (sym is)

  -- the block after them is set, and the cells that change with it are known
  pub set_more : (contents : List (List ℕ)) (bytes : List ℕ) (old new : Stripe) → HasSet g t first cells loaded contents old
      → ((i j : ℕ) → HasCell cells i j → (i < g.r) × (j < g.n))
      → ((i j : ℕ) → IsDependent g ((first + length contents) % data_cells g) i j → HasCell cells i j)
      → IsUpdatedFrom g ((first + length contents) % data_cells g) bytes old new → HasSet g t first cells loaded (contents ++ (bytes ∷ [])) new
  set_more contents bytes old new so_far inside known updated before after word same is i j has =
      elim (dependent_or_not g d i j limits (inside i j has).0 (inside i j has).1) [
        | inl dependent ↦
            sym
            (updated.dependents then.mid after mid_word.of mid_word.formed mid_word.codeword
            (λ k l on. sym (of_mid k l (known k l on))) block i j dependent)
        | inr other ↦
            updated.others i j (inside i j has).0 (inside i j has).1 other
            ∙ of_mid i j has
            ∙ others_stay g d then.mid after limits mid_word.of mid_word.formed mid_word.codeword block.of block.formed block.codeword block.same_data i j
            (inside i j has).0 (inside i j has).1 other
      ]
    where
      d : ℕ
      d = (first + length contents) % data_cells g

      then : IsSetThen g t first contents bytes before after
      then = set_then g t first contents bytes before after is

      mid_word : IsWord g then.mid
      mid_word = set_word g t first contents before then.mid word then.sooner

      of_mid : (k l : ℕ) → HasCell cells k l → cell old k l ≡ cell then.mid k l
      of_mid = so_far before then.mid word same then.sooner

      block : HasBlockSet g d bytes then.mid after
      block = has_block_set g (first + length contents) t then.row then.chunk bytes then.mid after mid_word then.place then.encoded

-- one after the other, of a list
module _ (g : Geometry) (t first : ℕ) (cells : CellSet) (loaded : Stripe) (limits : IsWithinLimits g) (contents : List (List ℕ))
    (of : AreOfBlocks g first (length contents) cells) where
  pub set_next : (at u row chunk : ℕ) (bytes : List ℕ) (old new : Stripe) → at < length contents → bytes ≡ slice_index_or contents at []
      → IsPlaceOf g (first + at) u row chunk → HasSet g t first cells loaded (take at contents) old
      → IsUpdatedFrom g ((first + at) % data_cells g) bytes old new → HasSet g t first cells loaded (take (at + 1) contents) new
  set_next at u row chunk bytes old new below is place so_far updated =
      subst (λ (l : List (List ℕ)). HasSet g t first cells loaded l new) (sym more)
      (set_more g t first cells loaded limits (take at contents) (slice_index_or contents at []) old new so_far
      (λ i j has. ((of i j).0 has).0)
      (λ i j dependent.
      let by = subst (λ (d : ℕ). IsDependent g d i j) number dependent in
      (of i j).1 ((by.row, by.chunk), inr (dependents_change g first (length contents) at u row chunk place below i j by)))
      (subst (λ (d : ℕ). IsUpdatedFrom g d (slice_index_or contents at []) old new) (sym number)
      (subst (λ (b : List ℕ). IsUpdatedFrom g ((first + at) % data_cells g) b old new) is updated)))
    where
      taken : length (take at contents) ≡ at
      taken = length-take-le at contents (omega (arith, below))

      number : (first + length (take at contents)) % data_cells g ≡ (first + at) % data_cells g
      number = ap (λ (k : ℕ). (first + k) % data_cells g) taken

      more : take (at + 1) contents ≡ take at contents ++ (slice_index_or contents at [] ∷ [])
      more = ap (λ (k : ℕ). take k contents) {y = suc at} (omega arith) ∙ take-suc contents at [] below

  pub are_set : (at : ℕ) (stripe : Stripe) → length contents ≤ at → length contents < data_cells g
      → HasSet g t first cells loaded (take at contents) stripe → AreSet g t first contents cells loaded stripe
  are_set at stripe all few is_set before after formed_of formed codeword either is i j has =
      elim either [
        | inl full ↦ absurd (omega (arith, few, full))
        | inr same ↦
            subst (λ (l : List (List ℕ)). HasSet g t first cells loaded l stripe) (take_all at contents all) is_set before after
            (record { of = formed_of; formed = formed; codeword = codeword }) same is i j has
      ]
