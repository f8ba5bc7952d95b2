-- What the cells so far are.
use Rattle.std.proofs.Common.{◌≡◌, ℕ, ◌+◌, ◌*◌, ◌/◌, ◌%◌, ◌<◌, ◌≤◌, true, false, List, [], ◌∷◌, ◌++◌, length, slice_index_or, inl, inr, sym, ◌∙◌, ap, ap₂, subst, arith, add-zero, div-add-mod', length-append}
use Rattle.std.proofs.lemmas.Bool.{cases_eq}
use Rattle.std.proofs.lemmas.List.{get_or_append_left, get_or-append-add}
use Rattle.stair_model.specs.Geometry.{Geometry, IsWithinLimits}
use Rattle.stair_model.specs.Cell.{Data, cell_at, is_parity}
use Rattle.stair_model.proofs.CountLaws.{sum_below_none}
use Rattle.stair_model.proofs.StripeLaws.{number_in}
use Rattle.stair_std.specs.Cells.{IsPart, AreParts, parities_before}
use Rattle.stair_std.specs.declared.cells.Part.{Part}
use Rattle.stair_std.specs.declared.cells.Part.TheVariants.{Block, Parity}
use Rattle.stair_std.proofs.Numbers.{cell_at-number, counts_split, is_block, parities_before-block, parities_before-parity, row_of_number, slot_of_number}

-- of the first c cells, among them so many parities
pub record HasParts (g : Geometry) (c parities : ℕ) (parts : List Part) : Type 0 where
  pub count : length parts ≡ c
  pub counted : parities ≡ parities_before g c
  pub each : (t : ℕ) → t < c → IsPart g (t / g.n) (t % g.n) (slice_index_or parts t (Block 0))

pub HasParts-none : (g : Geometry) → HasParts g 0 0 []
HasParts-none g = record {
  count = omega arith;
  counted = sym (sum_below_none _);
  each = λ t before. absurd (omega arith);
}

module _ (g : Geometry) (c parities row slot : ℕ) (parts new : List Part) (row_is : row ≡ c / g.n) (slot_is : slot ≡ c % g.n)
    (so_far : HasParts g c parities parts) where
  HasParts-more : (part : Part) (more : ℕ) → IsPart g row slot part → new ≡ parts ++ part ∷ [] → more ≡ parities_before g (c + 1)
      → HasParts g (c + 1) more new
  HasParts-more part more is pushed counted = record {
    count = ap length pushed ∙ length-append parts (part ∷ []) ∙ omega (arith, so_far.count);
    counted = counted;
    each = λ t before.
        elim (cases_eq t c) [
          | inl last ↦
              let here : slice_index_or new t (Block 0) ≡ part =
              ap (λ (k : ℕ). slice_index_or new k (Block 0)) (last ∙ sym so_far.count ∙ sym (add-zero (length parts)))
              ∙ ap (λ (xs : List Part). slice_index_or xs (length parts + 0) (Block 0)) pushed
              ∙ get_or-append-add parts (part ∷ []) 0 (Block 0)
              in
              subst (IsPart g (t / g.n) (t % g.n)) (sym here)
              (subst (λ (k : ℕ). IsPart g k (t % g.n) part) (row_is ∙ ap (λ (k : ℕ). k / g.n) (sym last))
              (subst (λ (k : ℕ). IsPart g row k part) (slot_is ∙ ap (λ (k : ℕ). k % g.n) (sym last)) is))
          | inr other ↦
              subst (IsPart g (t / g.n) (t % g.n))
              (sym (ap (λ (xs : List Part). slice_index_or xs t (Block 0)) pushed
              ∙ get_or_append_left parts (part ∷ []) (Block 0) t (omega (arith, so_far.count))))
              (so_far.each t (omega arith))
        ];
  }

  -- a data cell more
  pub HasParts-block : (d : ℕ) → cell_at g row slot ≡ Data d → new ≡ parts ++ Block d ∷ [] → HasParts g (c + 1) parities new
  HasParts-block d is pushed =
      HasParts-more (Block d) parities is pushed
      (so_far.counted ∙ sym (parities_before-block g c (is_block g c d (sym (cell_at-number g c row slot row_is slot_is) ∙ is))))

  -- a parity more
  pub HasParts-parity : is_parity (cell_at g row slot) ≡ true → new ≡ parts ++ Parity parities ∷ []
      → HasParts g (c + 1) (parities + 1) new
  HasParts-parity is pushed =
      HasParts-more (Parity parities) (parities + 1)
      (is, so_far.counted ∙ ap (parities_before g) (sym (ap₂ (λ (a b : ℕ). a * g.n + b) row_is slot_is ∙ div-add-mod' c g.n)))
      pushed
      (ap (λ (k : ℕ). k + 1) so_far.counted
      ∙ sym (parities_before-parity g c (ap is_parity (sym (cell_at-number g c row slot row_is slot_is)) ∙ is)))

  pub parities_few : parities ≤ c
  parities_few = omega (arith, so_far.counted, counts_split g c)

pub AreParts-all : (g : Geometry) (c parities : ℕ) (parts : List Part) → c ≡ g.r * g.n → HasParts g c parities parts → AreParts g parts
AreParts-all g c parities parts all so_far = record {
  count = so_far.count ∙ all;
  each = λ i j row chunk.
      subst (λ (k : ℕ). IsPart g k j (slice_index_or parts (i * g.n + j) (Block 0))) (sym (row_of_number g i j chunk))
      (subst (λ (k : ℕ). IsPart g ((i * g.n + j) / g.n) k (slice_index_or parts (i * g.n + j) (Block 0)))
      (sym (slot_of_number g i j chunk))
      (so_far.each (i * g.n + j) (omega (arith, number_in g i j row chunk))));
}
