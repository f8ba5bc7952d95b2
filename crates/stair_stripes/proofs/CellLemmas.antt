-- Sets of cells that grow row by row of a chunk.
use Rattle.std.proofs.Common.{◌≡◌, ℕ, ◌+◌, ◌<◌, inl, inr, arith}
use Rattle.std.specs.Prelude.{◌⊎◌, ◌↔◌}
use Rattle.std.proofs.lemmas.Bool.{cases_eq}
use Rattle.stair_model.specs.CellSet.{CellSet, HasCell, IsCellSet, IsInStripe}
use Rattle.stair_model.specs.Geometry.{Geometry}
use Rattle.stair_stripes.specs.GatheringSteps.{ErasesChunk}

-- CHUNKS

-- of slot j, the wanted cells of the rows before this one were added
pub record ErasesRows (wanted : CellSet) (j row : ℕ) (old new : CellSet) : Type 0 where
  pub members : (i l : ℕ) → HasCell new i l ↔ (HasCell old i l ⊎ (HasCell wanted i l × (l ≡ j) × (i < row)))
  pub formed : IsCellSet new

pub erases_none : (wanted : CellSet) (j : ℕ) (cells : CellSet) → IsCellSet cells → ErasesRows wanted j 0 cells cells
erases_none wanted j cells formed = record {
  members = λ i l. (λ has. inl has, λ either. elim either [ inl has ↦ has | inr none ↦ absurd (omega (arith, none.2)) ]);
  formed = formed;
}

module _ (wanted : CellSet) (j row : ℕ) (old mid : CellSet) (so_far : ErasesRows wanted j row old mid) where
  pub erases_more : (new : CellSet) → HasCell wanted row j → ((i l : ℕ) → HasCell new i l ↔ (HasCell mid i l ⊎ ((i ≡ row) × (l ≡ j))))
      → IsCellSet new → ErasesRows wanted j (row + 1) old new
  erases_more new is_wanted added formed = record { members = λ i l. (into i l, from i l); formed = formed }
    where
      here_wanted : (i l : ℕ) → i ≡ row → l ≡ j → HasCell wanted i l
      here_wanted i l same_row same_slot = rw (same_row, same_slot) is_wanted

      into : (i l : ℕ) → HasCell new i l → HasCell old i l ⊎ (HasCell wanted i l × (l ≡ j) × (i < row + 1))
      into i l has =
          elim ((added i l).0 has) [
            | inl had ↦ elim ((so_far.members i l).0 had) [ inl was ↦ inl was | inr erased ↦ inr (erased.0, erased.1, omega (arith, erased.2)) ]
            | inr here ↦ inr (here_wanted i l here.0 here.1, here.1, omega (arith, here.0))
          ]

      from : (i l : ℕ) → HasCell old i l ⊎ (HasCell wanted i l × (l ≡ j) × (i < row + 1)) → HasCell new i l
      from i l (inl was) = (added i l).1 (inl ((so_far.members i l).1 (inl was)))
      from i l (inr erased) =
          elim (cases_eq i row) [
            | inl here ↦ (added i l).1 (inr (here, erased.1))
            | inr other ↦ (added i l).1 (inl ((so_far.members i l).1 (inr (erased.0, erased.1, omega (arith, erased.2, other)))))
          ]

  pub erases_skipped : ¬ HasCell wanted row j → ErasesRows wanted j (row + 1) old mid
  erases_skipped unwanted = record { members = λ i l. (into i l, from i l); formed = so_far.formed }
    where
      into : (i l : ℕ) → HasCell mid i l → HasCell old i l ⊎ (HasCell wanted i l × (l ≡ j) × (i < row + 1))
      into i l has =
          elim ((so_far.members i l).0 has) [ inl was ↦ inl was | inr erased ↦ inr (erased.0, erased.1, omega (arith, erased.2)) ]

      from : (i l : ℕ) → HasCell old i l ⊎ (HasCell wanted i l × (l ≡ j) × (i < row + 1)) → HasCell mid i l
      from i l (inl was) = (so_far.members i l).1 (inl was)
      from i l (inr erased) =
          elim (cases_eq i row) [
            | inl here ↦ absurd (unwanted (rw (← here, ← erased.1) erased.0))
            | inr other ↦ (so_far.members i l).1 (inr (erased.0, erased.1, omega (arith, erased.2, other)))
          ]

  pub erases_all : (g : Geometry) → IsInStripe g wanted → row ≡ g.r → ErasesChunk wanted j old mid
  erases_all g in_stripe all = record { members = λ i l. (into i l, from i l); formed = so_far.formed }
    where
      into : (i l : ℕ) → HasCell mid i l → HasCell old i l ⊎ (HasCell wanted i l × (l ≡ j))
      into i l has = elim ((so_far.members i l).0 has) [ inl was ↦ inl was | inr erased ↦ inr (erased.0, erased.1) ]

      from : (i l : ℕ) → HasCell old i l ⊎ (HasCell wanted i l × (l ≡ j)) → HasCell mid i l
      from i l (inl was) = (so_far.members i l).1 (inl was)
      from i l (inr erased) =
          (so_far.members i l).1 (inr (erased.0, erased.1, omega (arith, (in_stripe i l erased.0).0, all)))
