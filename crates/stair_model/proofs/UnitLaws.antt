-- The encoded stripes of blocks that are zero but for one, which is filled with 01.
use Rattle.std.proofs.Common.{◌≡◌, ℕ, ◌<◌, ◌==◌, not, if◌then◌else◌, List, [], length, slice_index, slice_index_or, replicate, inl, inr, false, sym, ◌∙◌, ap, arith}
use Rattle.std.proofs.lemmas.Bool.{cases_eq, cases_Bool, cond-true, cond-false, eq-eqb, ne_eqb}
use Rattle.std.proofs.lemmas.List.{get_or-set_same, get_or-set_other, get_or-replicate, length-replicate}
use Rattle.std.proofs.lemmas.List.Elements.{All-from_get_or}
use Rattle.std.proofs.lemmas.List.Folds.{list_any_at, list_any_none}
use Rattle.stair_model.specs.Geometry.{Geometry, IsWithinLimits, data_cells}
use Rattle.stair_model.specs.Cell.{Data, cell_at}
use Rattle.stair_model.specs.Costs.{unit_blocks, is_nonzero}
use Rattle.stair_model.specs.Encoding.{IsEncodingOf}
use Rattle.stair_model.specs.Stripe.{Stripe, SECTOR, byte_of}
use Rattle.stair_model.proofs.DataLaws.{data_in_range}
use Rattle.stair_model.proofs.StripeLaws.{byte_of-lt}
use Rattle.stair_model.proofs.LinearLaws.{words_agree}

-- byte p of block e
pub unit_blocks-at : (g : Geometry) (d e p : ℕ) → e < data_cells g → p < 512
    → slice_index (slice_index_or (unit_blocks g d) e []) p ≡ (if d == e then 1 else 0)
unit_blocks-at g d e p e_in p_in =
    elim (cases_eq d e) [
      | inl here ↦
          ap (λ (k : ℕ). slice_index (slice_index_or (unit_blocks g d) k []) p) (sym here)
          ∙ ap (λ (b : List ℕ). slice_index b p)
          (get_or-set_same zeros d (replicate SECTOR 1) [] (omega (arith, count)))
          ∙ get_or-replicate 512 p 1 0 p_in ∙ sym (cond-true (d == e) 1 0 (eq-eqb d e here))
      | inr other ↦
          ap (λ (b : List ℕ). slice_index b p)
          (get_or-set_other zeros d e (replicate SECTOR 1) [] (λ same. other (sym same))
          ∙ get_or-replicate (data_cells g) e (replicate SECTOR 0) [] e_in)
          ∙ get_or-replicate 512 p 0 0 p_in ∙ sym (cond-false (d == e) 1 0 (ne_eqb d e other))
    ]
  where
    zeros : List (List ℕ)
    zeros = replicate (data_cells g) (replicate SECTOR 0)

    count : length zeros ≡ data_cells g
    count = length-replicate (data_cells g) (replicate SECTOR 0)

-- the data cells of their encoded stripe
pub unit_encoding-data : (g : Geometry) (d p i j e : ℕ) (encoded : Stripe) → IsWithinLimits g
    → IsEncodingOf g (unit_blocks g d) encoded → p < 512 → i < g.r → j < g.n → cell_at g i j ≡ Data e
    → byte_of encoded p i j ≡ (if d == e then 1 else 0)
unit_encoding-data g d p i j e encoded limits is p_in row chunk data_cell =
    ap (λ (b : List ℕ). slice_index b p) (is.holds i j e row chunk data_cell)
    ∙ unit_blocks-at g d e p (data_in_range g i j e limits row data_cell).0 p_in

-- all bytes of a cell of such stripes are the same
pub unit_encoding-bytes : (g : Geometry) (d p q i j : ℕ) (a b : Stripe) → IsWithinLimits g → IsEncodingOf g (unit_blocks g d) a
    → IsEncodingOf g (unit_blocks g d) b → p < 512 → q < 512 → i < g.r → j < g.n → byte_of a p i j ≡ byte_of b q i j
unit_encoding-bytes g d p q i j a b limits a_is b_is p_in q_in =
    words_agree g (byte_of a p) (byte_of b q) limits
    (λ s t row chunk. byte_of-lt a a_is.formed p s t) (a_is.codeword.words p p_in)
    (λ s t row chunk. byte_of-lt b b_is.formed q s t) (b_is.codeword.words q q_in)
    (λ s t e row chunk data_cell.
    unit_encoding-data g d p s t e a limits a_is p_in row chunk data_cell
    ∙ sym (unit_encoding-data g d q s t e b limits b_is q_in row chunk data_cell))
    i j

-- whether bytes that are all the same aren't zero
pub is_nonzero-same : (bytes : List ℕ) (b : ℕ) → length bytes ≡ 512 → ((p : ℕ) → p < 512 → slice_index bytes p ≡ b)
    → is_nonzero bytes ≡ not (b == 0)
is_nonzero-same bytes b count all =
    elim (cases_Bool (not (b == 0))) [
      | inl nonzero ↦
          list_any_at (λ x. not (x == 0)) bytes 0 0 (omega (arith, count))
          (ap (λ x. not (x == 0)) (all 0 (omega arith)) ∙ nonzero) ∙ sym nonzero
      | inr zero ↦
          list_any_none (λ x. not (x == 0)) bytes
          (All-from_get_or (λ x. not (x == 0) ≡ false) bytes 0
          (λ p within. ap (λ x. not (x == 0)) (all p (omega (arith, count))) ∙ zero)) ∙ sym zero
    ]
