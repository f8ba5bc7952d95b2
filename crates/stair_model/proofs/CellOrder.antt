-- The order of places row by row, and what holds of those before a place.
use Rattle.std.proofs.Common.{◌≡◌, ℕ, ◌+◌, ◌<◌, ◌⊎◌, inl, inr, sym, subst, arith}
use Rattle.std.proofs.lemmas.Bool.{cases_eq}

-- place (i, j) comes before place (row, column)
abbrev pub IsBefore : ℕ → ℕ → ℕ → ℕ → Type 0
IsBefore i j row column = (i < row) ⊎ ((i ≡ row) × (j < column))

pub IsBefore-apart : (i j row column : ℕ) → IsBefore i j row column → ¬ ((i ≡ row) × (j ≡ column))
IsBefore-apart i j row column (inl above) both = omega (arith, both.0)
IsBefore-apart i j row column (inr beside) both = omega (arith, beside.1, both.1)

-- one place more
pub IsBefore-longer : (i j row column : ℕ) → IsBefore i j row column → IsBefore i j row (column + 1)
IsBefore-longer i j row column (inl above) = inl above
IsBefore-longer i j row column (inr beside) = inr (beside.0, omega (arith, beside.1))

pub IsBefore-next : (i j row column : ℕ) → IsBefore i j row (column + 1) → IsBefore i j row column ⊎ ((i ≡ row) × (j ≡ column))
IsBefore-next i j row column (inl above) = inl (inl above)
IsBefore-next i j row column (inr beside) =
    elim (cases_eq j column) [
      | inl here ↦ inr (beside.0, here)
      | inr apart ↦ inl (inr (beside.0, omega (arith, beside.1)))
    ]

-- one row more
pub IsBefore-turn : (i j row column : ℕ) → IsBefore i j row column → IsBefore i j (row + 1) 0
IsBefore-turn i j row column (inl above) = inl (omega arith)
IsBefore-turn i j row column (inr beside) = inl (omega (arith, beside.0))

-- the fact holds of the places before place (row, column), each row of this width
abbrev pub HoldsBefore : ℕ → (ℕ → ℕ → Type 0) → ℕ → ℕ → Type 0
HoldsBefore width P row column = (i j : ℕ) → j < width → IsBefore i j row column → P i j

pub HoldsBefore-none : (width : ℕ) (P : ℕ → ℕ → Type 0) → HoldsBefore width P 0 0
HoldsBefore-none width P i j column_in before =
    elim before [ inl above ↦ absurd (omega arith) | inr beside ↦ absurd (omega (arith, beside.1)) ]

pub HoldsBefore-turn : (width : ℕ) (P : ℕ → ℕ → Type 0) (row column : ℕ) → width ≡ column → HoldsBefore width P row column
    → HoldsBefore width P (row + 1) 0
HoldsBefore-turn width P row column all so_far i j column_in before =
    elim before [
      | inl above ↦
          elim (cases_eq i row) [
            | inl here ↦ so_far i j column_in (inr (here, omega (arith, all)))
            | inr higher ↦ so_far i j column_in (inl (omega arith))
          ]
      | inr beside ↦ absurd (omega (arith, beside.1))
    ]

-- what held before the place still holds, in another form, and holds of the place too
pub HoldsBefore-more : (width : ℕ) (P Q : ℕ → ℕ → Type 0) (row column : ℕ) → HoldsBefore width P row column
    → ((i j : ℕ) → j < width → IsBefore i j row column → P i j → Q i j) → Q row column → HoldsBefore width Q row (column + 1)
HoldsBefore-more width P Q row column so_far still now i j column_in before =
    elim (IsBefore-next i j row column before) [
      | inl earlier ↦ still i j column_in earlier (so_far i j column_in earlier)
      | inr here ↦ subst (λ (s : ℕ). Q s j) (sym here.0) (subst (λ (t : ℕ). Q row t) (sym here.1) now)
    ]

-- the rows so far are all
pub HoldsBefore-all : (width : ℕ) (P : ℕ → ℕ → Type 0) (rows row : ℕ) → rows ≡ row → HoldsBefore width P row 0
    → (i j : ℕ) → i < rows → j < width → P i j
HoldsBefore-all width P rows row all so_far i j row_in column_in = so_far i j column_in (inl (omega (arith, all)))
