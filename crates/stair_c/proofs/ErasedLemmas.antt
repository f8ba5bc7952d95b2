-- The erased cells of a stripe, row by row of a chunk and chunk by chunk.
use Rattle.std.proofs.Common.{◌≡◌, ℕ, ◌+◌, ◌<◌, List, slice_index, inl, inr, subst, sym, arith}
use Rattle.std.specs.Prelude.{◌⊎◌, ◌↔◌}
use Rattle.std.proofs.lemmas.Bool.{cases_eq}
use Rattle.stair_model.proofs.SetLaws.{same_cells}
use Rattle.stair_model.specs.CellSet.{CellSet, HasCell, IsCellSet, IsInStripe}
use Rattle.stair_model.specs.Coverage.{IsCovered}
use Rattle.stair_model.specs.Geometry.{Geometry}
use Rattle.stair_c.specs.Chunks.{sector_number}
use Rattle.stair_c.specs.Restores.{AreErasedAt, IsCoveredAt, IsErased}

-- ---- a chunk

-- the erased cells of this chunk in the rows before this one were added
pub record AddsErased (g : Geometry) (k : ℕ) (erased : List ℕ) (s slot row : ℕ) (old new : CellSet) : Type 0 where
  pub members : (i j : ℕ) → HasCell new i j ↔ (HasCell old i j ⊎ ((i < row) × (j ≡ slot) × IsErased g k erased s i j))
  pub formed : IsCellSet new

module _ (g : Geometry) (k : ℕ) (erased : List ℕ) (s slot : ℕ) where
  pub adds_none : (cells : CellSet) → IsCellSet cells → AddsErased g k erased s slot 0 cells cells
  adds_none cells formed = record {
    members = λ i j. (λ has. inl has, λ either. elim either [ inl has ↦ has | inr none ↦ absurd (omega (arith, none.0)) ]);
    formed = formed;
  }

  -- the next one is erased
  pub adds_one : (row : ℕ) (old mid new : CellSet) → AddsErased g k erased s slot row old mid → IsErased g k erased s row slot
      → ((i j : ℕ) → HasCell new i j ↔ (HasCell mid i j ⊎ ((i ≡ row) × (j ≡ slot)))) → IsCellSet new
      → AddsErased g k erased s slot (row + 1) old new
  adds_one row old mid new so_far is added formed = record { members = λ i j. (into i j, from i j); formed = formed }
    where
      into : (i j : ℕ) → HasCell new i j → HasCell old i j ⊎ ((i < row + 1) × (j ≡ slot) × IsErased g k erased s i j)
      into i j has =
          elim ((added i j).0 has) [
            | inl had ↦ elim ((so_far.members i j).0 had) [ inl was ↦ inl was | inr here ↦ inr (omega (arith, here.0), here.1, here.2) ]
            | inr here ↦
                let erased_here : IsErased g k erased s i j =
                subst (λ (u : ℕ). IsErased g k erased s u j) (sym here.0) (subst (λ (v : ℕ). IsErased g k erased s row v) (sym here.1) is) in
                inr (omega (arith, here.0), here.1, erased_here)
          ]

      from : (i j : ℕ) → HasCell old i j ⊎ ((i < row + 1) × (j ≡ slot) × IsErased g k erased s i j) → HasCell new i j
      from i j (inl was) = (added i j).1 (inl ((so_far.members i j).1 (inl was)))
      from i j (inr here) =
          elim (cases_eq i row) [
            | inl last ↦ (added i j).1 (inr (last, here.1))
            | inr other ↦ (added i j).1 (inl ((so_far.members i j).1 (inr (omega (arith, here.0, other), here.1, here.2))))
          ]

  -- the next one isn't
  pub adds_no_more : (row : ℕ) (old new : CellSet) → AddsErased g k erased s slot row old new
      → slice_index erased (sector_number g k s row slot) ≡ 0 → AddsErased g k erased s slot (row + 1) old new
  adds_no_more row old new so_far zero = record { members = λ i j. (into i j, from i j); formed = so_far.formed }
    where
      into : (i j : ℕ) → HasCell new i j → HasCell old i j ⊎ ((i < row + 1) × (j ≡ slot) × IsErased g k erased s i j)
      into i j has = elim ((so_far.members i j).0 has) [ inl was ↦ inl was | inr here ↦ inr (omega (arith, here.0), here.1, here.2) ]

      from : (i j : ℕ) → HasCell old i j ⊎ ((i < row + 1) × (j ≡ slot) × IsErased g k erased s i j) → HasCell new i j
      from i j (inl was) = (so_far.members i j).1 (inl was)
      from i j (inr here) =
          elim (cases_eq i row) [
            | inl last ↦
                let last_erased : IsErased g k erased s row slot =
                subst (λ (u : ℕ). IsErased g k erased s u slot) last (subst (λ (v : ℕ). IsErased g k erased s i v) here.1 here.2) in
                absurd (last_erased zero)
            | inr other ↦ (so_far.members i j).1 (inr (omega (arith, here.0, other), here.1, here.2))
          ]

-- ---- all chunks

-- the erased cells of the chunks before this one
pub record HasErasedChunks (g : Geometry) (k : ℕ) (erased : List ℕ) (s slot : ℕ) (cells : CellSet) : Type 0 where
  pub members : (i j : ℕ) → HasCell cells i j ↔ ((i < g.r) × (j < slot) × IsErased g k erased s i j)
  pub formed : IsCellSet cells

module _ (g : Geometry) (k : ℕ) (erased : List ℕ) (s : ℕ) where
  pub chunks_none : (cells : CellSet) → ((i j : ℕ) → ¬ HasCell cells i j) → IsCellSet cells → HasErasedChunks g k erased s 0 cells
  chunks_none cells none formed =
      record { members = λ i j. (λ has. absurd (none i j has), λ all. absurd (omega (arith, all.1))); formed = formed }

  pub chunks_more : (slot : ℕ) (old new : CellSet) → HasErasedChunks g k erased s slot old → AddsErased g k erased s slot g.r old new
      → HasErasedChunks g k erased s (slot + 1) new
  chunks_more slot old new so_far added = record { members = λ i j. (into i j, from i j); formed = added.formed }
    where
      into : (i j : ℕ) → HasCell new i j → (i < g.r) × (j < slot + 1) × IsErased g k erased s i j
      into i j has =
          elim ((added.members i j).0 has) [
            | inl had ↦ let was = (so_far.members i j).0 had in (was.0, omega (arith, was.1), was.2)
            | inr here ↦ (here.0, omega (arith, here.1), here.2)
          ]

      from : (i j : ℕ) → (i < g.r) × (j < slot + 1) × IsErased g k erased s i j → HasCell new i j
      from i j all =
          elim (cases_eq j slot) [
            | inl here ↦ (added.members i j).1 (inr (all.0, here, all.2))
            | inr other ↦ (added.members i j).1 (inl ((so_far.members i j).1 (all.0, omega (arith, all.1, other), all.2)))
          ]

  pub chunks_all : (slot : ℕ) (cells : CellSet) → slot ≡ g.n → HasErasedChunks g k erased s slot cells → AreErasedAt g k erased s cells
  chunks_all slot cells all so_far = record {
    formed = so_far.formed;
    members = subst (λ (x : ℕ). (i j : ℕ) → HasCell cells i j ↔ ((i < g.r) × (j < x) × IsErased g k erased s i j)) all so_far.members;
  }

-- ---- the cells

module _ (g : Geometry) (k : ℕ) (erased : List ℕ) (s : ℕ) where
  -- they are cells of the stripe
  pub erased_inside : (cells : CellSet) → AreErasedAt g k erased s cells → IsInStripe g cells
  erased_inside cells are i j has = let there = (are.members i j).0 has in (there.0, there.1)

  -- one set has them
  pub one_set : (a b : CellSet) → AreErasedAt g k erased s a → AreErasedAt g k erased s b → a ≡ b
  one_set a b are_a are_b =
      same_cells a b are_a.formed are_b.formed
      (λ i j. (λ has. (are_b.members i j).1 ((are_a.members i j).0 has), λ has. (are_a.members i j).1 ((are_b.members i j).0 has)))

  pub covered_set : (cells : CellSet) → AreErasedAt g k erased s cells → IsCoveredAt g k erased s → IsCovered g cells
  covered_set cells are covered =
      subst (λ (x : CellSet). IsCovered g x) (one_set covered.cells cells covered.are are) covered.covered
