-- Blocks that fill a stripe.
use Rattle.std.proofs.Common.{◌≡◌, ◌≢◌, ℕ, suc, ◌+◌, ◌*◌, ◌/◌, ◌%◌, ◌<◌, ◌≤◌, List, [], ◌∷◌, length, slice_index_or, zero, inl, inr, sym, ap, ap₂, ◌∙◌, arith, div-add-mod'}
use Rattle.std.specs.Prelude.{◌⊎◌}
use Rattle.std.proofs.lemmas.Bool.{cases_eq}
use Rattle.std.proofs.lemmas.List.{get_or-set_same, length-set}
use Rattle.std.proofs.lemmas.Nat.{mod-mul-add, mul-add-lt}
use Rattle.stair_model.specs.Cell.{Data, IsPlaceOf, cell_at}
use Rattle.stair_model.specs.CellSet.{CellSet}
use Rattle.stair_model.specs.Dependents.{HasBlockSet}
use Rattle.stair_model.specs.Encoding.{IsEncodedFrom}
use Rattle.stair_model.specs.Geometry.{Geometry, IsWithinLimits, data_cells}
use Rattle.stair_model.specs.Stripe.{IsStripeOf, IsWellFormed, Stripe, cell, with_cell}
use Rattle.stair_model.proofs.DataLaws.{data_in_range, data_once}
use Rattle.stair_model.proofs.EncodingLaws.{codewords_agree}
use Rattle.stair_model.proofs.StripeLaws.{cell-with_cell_other}
use Rattle.stair_state.specs.Blocks.{AreOfOneStripe, IsSetFrom}
use Rattle.stair_array.specs.Calls.{AreSet}
use Rattle.stair_array.proofs.SettingLemmas.{IsWord, has_block_set, set_word}

-- the number of the block's data cell is the one that it has in the stripe
number_in : (g : Geometry) (t first at count : ℕ) → first ≡ t * data_cells g + at → at + suc count ≤ data_cells g
    → first % data_cells g ≡ at
number_in g t first at count is within =
    ap (λ (b : ℕ). b % data_cells g) is ∙ mod-mul-add t (data_cells g) at (omega (arith, within))

next_at : (u t first at : ℕ) → first ≡ t * u + at → first + 1 ≡ t * u + (at + 1)
next_at u t first at is = omega (arith, is)

-- of blocks from data cell `at` on, each other data cell stays
pub set_keeps : (g : Geometry) (t first at : ℕ) (contents : List (List ℕ)) (before after : Stripe) → IsWord g before
    → first ≡ t * data_cells g + at → at + length contents ≤ data_cells g → IsSetFrom g t first contents before after
    → (i j e : ℕ) → i < g.r → j < g.n → cell_at g i j ≡ Data e → (e < at) ⊎ (at + length contents ≤ e) → cell after i j ≡ cell before i j
set_keeps g t first at [] before after word starts within is i j e row chunk datum apart = ap (λ (s : Stripe). cell s i j) is
set_keeps g t first at (bytes ∷ more) before after word starts within is i j e row chunk datum apart =
    set_keeps g t (first + 1) (at + 1) more is.2 after mid_word (next_at (data_cells g) t first at starts) (omega (arith, within)) is.6 i j e row chunk
    datum (further apart)
    ∙ sym (block.same_data i j e row chunk datum other)
  where
    block : HasBlockSet g (first % data_cells g) bytes before is.2
    block = has_block_set g first t is.0 is.1 bytes before is.2 word is.3 is.5

    mid_word : IsWord g is.2
    mid_word = record { of = is.5.of; formed = is.5.formed; codeword = is.5.codeword }

    number : first % data_cells g ≡ at
    number = number_in g t first at (length more) starts within

    other : e ≢ first % data_cells g
    other same = elim apart [ inl below ↦ omega (arith, below, same, number) | inr above ↦ omega (arith, above, same, number) ]

    further : (e < at) ⊎ (at + length (bytes ∷ more) ≤ e) → (e < at + 1) ⊎ (at + 1 + length more ≤ e)
    further (inl below) = inl (omega (arith, below))
    further (inr above) = inr (omega (arith, above))

-- and each of theirs has its block
pub set_holds : (g : Geometry) (t first at : ℕ) (contents : List (List ℕ)) (before after : Stripe) → IsWord g before
    → first ≡ t * data_cells g + at → at + length contents ≤ data_cells g → IsSetFrom g t first contents before after
    → (i j k : ℕ) → i < g.r → j < g.n → cell_at g i j ≡ Data (at + k) → k < length contents → cell after i j ≡ slice_index_or contents k []
set_holds g t first at [] before after word starts within is i j k row chunk datum below = absurd (omega (arith, below))
set_holds g t first at (bytes ∷ more) before after word starts within is i j zero row chunk datum below =
    let block = has_block_set g first t is.0 is.1 bytes before is.2 word is.3 is.5 in
    let number : first % data_cells g ≡ at = number_in g t first at (length more) starts within in
    set_keeps g t (first + 1) (at + 1) more is.2 after (record { of = is.5.of; formed = is.5.formed; codeword = is.5.codeword })
    (next_at (data_cells g) t first at starts) (omega (arith, within)) is.6 i j (at + 0) row chunk datum (inl (omega arith))
    ∙ block.holds i j row chunk (datum ∙ ap Data (omega (arith, number)))
set_holds g t first at (bytes ∷ more) before after word starts within is i j (suc k) row chunk datum below =
    set_holds g t (first + 1) (at + 1) more is.2 after (record { of = is.5.of; formed = is.5.formed; codeword = is.5.codeword })
    (next_at (data_cells g) t first at starts) (omega (arith, within)) is.6 i j k row chunk (datum ∙ ap Data (omega arith)) (omega (arith, below))

-- BLOCKS THAT ARE PUT INTO THEIR CELLS

-- each data cell below this one has its block
abbrev pub HoldsBelow : Geometry → List (List ℕ) → ℕ → Stripe → Type 0
HoldsBelow g contents at stripe = (i j d : ℕ) → i < g.r → j < g.n → cell_at g i j ≡ Data d → d < at
    → cell stripe i j ≡ slice_index_or contents d []

-- a block of the stripe that begins with block `first` is put into its cell
module _ (g : Geometry) (first at t row chunk : ℕ) (contents : List (List ℕ)) (bytes : List ℕ) (old : Stripe) (of : IsStripeOf g old)
    (formed : IsWellFormed (with_cell old row chunk bytes)) (starts : first ≡ first / data_cells g * data_cells g) (below : at < data_cells g)
    (place : IsPlaceOf g (first + at) t row chunk) (is : bytes ≡ slice_index_or contents at []) where
  number : (first + at) % data_cells g ≡ at
  number =
      ap (λ (b : ℕ). (b + at) % data_cells g) starts ∙ mod-mul-add (first / data_cells g) (data_cells g) at below

  put_here : (i j : ℕ) → i ≡ row → j ≡ chunk → cell (with_cell old row chunk bytes) i j ≡ bytes
  put_here i j same_row same_chunk =
      let within : row * old.chunks + chunk < old.chunks * old.rows =
      mul-add-lt row old.chunks chunk old.rows (omega (arith, of.rows, place.row_in)) (omega (arith, of.chunks, place.chunk_in)) in
      ap₂ (λ (k l : ℕ). cell (with_cell old row chunk bytes) k l) same_row same_chunk
      ∙ get_or-set_same old.cells (row * old.chunks + chunk) bytes _
      (omega (arith, within, formed.count, length-set old.cells (row * old.chunks + chunk) bytes))

  pub put_more : HoldsBelow g contents at old → HoldsBelow g contents (at + 1) (with_cell old row chunk bytes)
  put_more holds i j d row_in chunk_in datum under =
      elim (cases_eq d at) [
        | inl same ↦
            let one = data_once g i j row chunk d datum (place.at ∙ ap Data (number ∙ sym same)) in
            put_here i j one.0 one.1 ∙ is ∙ ap (λ (k : ℕ). slice_index_or contents k []) (sym same)
        | inr other ↦
            cell-with_cell_other old i j row chunk bytes (omega (arith, of.chunks, chunk_in)) (omega (arith, of.chunks, place.chunk_in))
            (λ both.
            let numbers : Data d ≡ Data ((first + at) % data_cells g) = sym datum ∙ ap₂ (cell_at g) both.0 both.1 ∙ place.at in
            other (let same : d ≡ (first + at) % data_cells g = cc in same ∙ number))
            ∙ holds i j d row_in chunk_in datum (omega (arith, under, other))
      ]

-- blocks that fill a stripe begin it
pub fill_starts : (g : Geometry) (first count : ℕ) → AreOfOneStripe g first count → count ≡ data_cells g → first ≡ first / data_cells g * data_cells g
fill_starts g first count together full =
    let within = together.within in let own = div-add-mod' first (data_cells g) in omega (arith, within, own, full)

-- so where they fill the stripe it is the encoded one of them, whatever it was
module _ (g : Geometry) (first : ℕ) (contents : List (List ℕ)) (put stripe : Stripe) (limits : IsWithinLimits g)
    (together : AreOfOneStripe g first (length contents)) (fill : length contents ≡ data_cells g)
    (holds : HoldsBelow g contents (length contents) put) (encoded : IsEncodedFrom g put stripe) where
  abbrev t : ℕ
  t = first / data_cells g

  starts : first ≡ t * data_cells g
  starts = fill_starts g first (length contents) together fill

  filled : (before after : Stripe) → IsWord g before → IsSetFrom g t first contents before after → stripe ≡ after
  filled before after word is =
      let new = set_word g t first contents before after word is in
      codewords_agree g stripe after limits encoded.of encoded.formed encoded.codeword new.of new.formed new.codeword
      (λ i j d row chunk datum.
      let below = (data_in_range g i j d limits row datum).0 in
      sym (encoded.same_data i j d row chunk datum) ∙ holds i j d row chunk datum (omega (arith, below, fill))
      ∙ sym
      (set_holds g t first 0 contents before after word (omega (arith, starts)) (omega (arith, fill)) is i j d row chunk
      (datum ∙ ap Data (omega arith)) (omega (arith, below, fill))))

  pub are_filled : (cells : CellSet) (loaded : Stripe) → AreSet g t first contents cells loaded stripe
  are_filled cells loaded before after of formed codeword either is i j has =
      ap (λ (s : Stripe). cell s i j) (filled before after (record { of = of; formed = formed; codeword = codeword }) is)
