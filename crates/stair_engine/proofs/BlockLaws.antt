-- The blocks of a stripe, as bytes, one after the other.
use Rattle.std.proofs.Common.{◌≡◌, ℕ, ◌+◌, ◌*◌, ◌<◌, inl, inr, List, [], ◌∷◌, ◌++◌, length, refl, sym, ap, ◌∙◌, subst, arith}
use Rattle.std.specs.List.{concat}
use Rattle.std.proofs.lemmas.Bool.{cases_lt}
use Rattle.std.proofs.lemmas.List.{get_or_append_left, get_or_push, length_push}
use Rattle.std.proofs.lemmas.List.Elements.{All-append, All-nil, All-cons}
use Rattle.stair_model.specs.Cell.{Data, cell_at}
use Rattle.stair_model.specs.Encoding.{IsEncodedFrom, IsEncodingOf}
use Rattle.stair_model.specs.Geometry.{Geometry, IsWithinLimits, data_cells}
use Rattle.stair_model.specs.Stripe.{Stripe, IsSector, IsStripeOf, IsWellFormed, cell, with_cell}
use Rattle.stair_model.proofs.DataLaws.{data_in_range, data_once}
use Rattle.stair_model.proofs.StripeLaws.{cell-IsSector, cell-with_cell_other, cell-with_cell_same}
use Rattle.stair_command.specs.Encode.{HoldsBlocks}
use Rattle.stair_command.specs.Outside.{SourceView}
use Rattle.stair_command.specs.Taking.{TakesBytes}
use Rattle.stair_engine.specs.Taking.{HoldsInput, TakesBlocksTo}
use Rattle.stair_command.specs.declared.intake.Intake.{Intake}
use Rattle.stair_engine.proofs.CellLaws.{concat-push, length-concat}
use Rattle.stair_command.proofs.IntakeLaws.{TakesBytes-none, TakesBytes-more}

pub TakesBlocksTo-none : {S : Type 0} (view : SourceView S) (g : Geometry) (intake : Intake) (stripe : Stripe) (a : S)
    → TakesBlocksTo view g 0 intake intake stripe a a
TakesBlocksTo-none view g intake stripe a = record {
  blocks = [];
  as_many = refl;
  sectors = All-nil IsSector;
  held = λ i j d row chunk below is. absurd (omega (arith, below));
  taken = TakesBytes-none view intake a;
}

-- data cells of other numbers are other cells
same_number : (g : Geometry) (i j k l d e : ℕ) → cell_at g i j ≡ Data d → cell_at g k l ≡ Data e → (i ≡ k) × (j ≡ l) → d ≡ e
same_number g i j k l d e here there same =
    let one : Data d ≡ Data e = sym here ∙ ap (λ (x : ℕ). cell_at g x j) same.0 ∙ ap (λ (x : ℕ). cell_at g k x) same.1 ∙ there in cc

-- a block more, in its data cell
held_more : (g : Geometry) (stripe : Stripe) (blocks : List (List ℕ)) (count row slot : ℕ) (sector : List ℕ) → IsStripeOf g stripe
    → IsWellFormed stripe → length blocks ≡ count → row < g.r → slot < g.n → cell_at g row slot ≡ Data count
    → HoldsBlocks g count blocks stripe → HoldsBlocks g (count + 1) (blocks ++ sector ∷ []) (with_cell stripe row slot sector)
held_more g stripe blocks count row slot sector of formed many row_in slot_in at held i j d i_in j_in below is =
    elim (cases_lt d count) [
      | inl earlier ↦
          cell-with_cell_other stripe i j row slot sector (omega (arith, of.chunks, j_in)) (omega (arith, of.chunks, slot_in))
          (λ same. let one : d ≡ count = same_number g i j row slot d count is at same in omega (arith, one, earlier))
          ∙ held i j d i_in j_in earlier is
          ∙ sym (get_or_append_left blocks (sector ∷ []) [] d (omega (arith, earlier, many)))
      | inr last ↦
          let number : d ≡ count = omega (arith, last, below) in
          let same = data_once g i j row slot count (is ∙ ap Data number) at in
          ap (λ (x : ℕ). cell (with_cell stripe row slot sector) x j) same.0
          ∙ ap (λ (x : ℕ). cell (with_cell stripe row slot sector) row x) same.1
          ∙ cell-with_cell_same stripe row slot sector formed (omega (arith, of.rows, row_in)) (omega (arith, of.chunks, slot_in))
          ∙ sym (get_or_push blocks sector [] d (omega (arith, many, number)))
    ]

pub TakesBlocksTo-more : {S : Type 0} (view : SourceView S) (g : Geometry) (first now next : Intake) (stripe : Stripe) (count row slot : ℕ) (sector : List ℕ) (a b c : S)
    → IsStripeOf g stripe → IsWellFormed stripe → row < g.r → slot < g.n → cell_at g row slot ≡ Data count
    → IsWellFormed (with_cell stripe row slot sector) → TakesBlocksTo view g count first now stripe a b → TakesBytes view now next sector b c
    → TakesBlocksTo view g (count + 1) first next (with_cell stripe row slot sector) a c
TakesBlocksTo-more view g first now next stripe count row slot sector a b c of formed row_in slot_in at well before gives =
    let is_sector : IsSector sector =
    subst IsSector
    (cell-with_cell_same stripe row slot sector formed (omega (arith, of.rows, row_in)) (omega (arith, of.chunks, slot_in)))
    (cell-IsSector g (with_cell stripe row slot sector) row slot (record { rows = of.rows; chunks = of.chunks }) well row_in slot_in)
    in
    record {
      blocks = before.blocks ++ sector ∷ [];
      as_many = length_push before.blocks sector ∙ ap (λ (n : ℕ). n + 1) before.as_many;
      sectors = All-append IsSector before.blocks (sector ∷ []) before.sectors (All-cons IsSector sector [] is_sector (All-nil IsSector));
      held = held_more g stripe before.blocks count row slot sector of formed before.as_many row_in slot_in at before.held;
      taken =
          subst (λ (bytes : List ℕ). TakesBytes view first next bytes a c) (sym (concat-push before.blocks sector))
          (TakesBytes-more view first now next (concat before.blocks) sector a b c before.taken gives);
    }

-- how many bytes were counted
pub took_blocks : {S : Type 0} (view : SourceView S) (g : Geometry) (count : ℕ) (first now : Intake) (stripe : Stripe) (a b : S)
    → TakesBlocksTo view g count first now stripe a b → (now.took ≡ first.took + count * 512) × (now.needed ≡ first.needed)
took_blocks view g count first now stripe a b has = (
  omega (arith, ap (λ (k : Intake). k.took) has.taken.counted, length-concat has.blocks has.sectors, has.as_many),
  ap (λ (k : Intake). k.needed) has.taken.counted,
)

-- the bytes of all blocks
pub length-blocks : {S : Type 0} (view : SourceView S) (g : Geometry) (first now : Intake) (stripe : Stripe) (a b : S)
    (has : TakesBlocksTo view g (data_cells g) first now stripe a b) → length (concat has.blocks) ≡ data_cells g * 512
length-blocks view g first now stripe a b has = length-concat has.blocks has.sectors ∙ ap (λ (n : ℕ). n * 512) has.as_many

-- the stripe holds the bytes of all blocks
pub HoldsInput-all : {S : Type 0} (view : SourceView S) (g : Geometry) (first now : Intake) (stripe : Stripe) (a b : S)
    (has : TakesBlocksTo view g (data_cells g) first now stripe a b) → HoldsInput g stripe (concat has.blocks)
HoldsInput-all view g first now stripe a b has = (has.blocks, record { count = has.as_many; sectors = has.sectors; same_bytes = refl }, has.held)

-- a stripe that holds the blocks is encoded from it
pub IsEncodingOf-held : (g : Geometry) (blocks : List (List ℕ)) (before after : Stripe) → IsWithinLimits g
    → HoldsBlocks g (data_cells g) blocks before → IsEncodedFrom g before after → IsEncodingOf g blocks after
IsEncodingOf-held g blocks before after limits held encoded = record {
  of = encoded.of;
  formed = encoded.formed;
  codeword = encoded.codeword;
  holds = λ i j d row chunk is.
      sym (encoded.same_data i j d row chunk is) ∙ held i j d row chunk (data_in_range g i j d limits row is).0 is;
}
