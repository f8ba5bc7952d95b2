-- The cells of a stripe that were stored so far.
use Rattle.std.proofs.Common.{◌≡◌, ℕ, ◌+◌, ◌*◌, ◌<◌, List, inr, refl, ◌∙◌, arith}
use Rattle.std.proofs.lemmas.List.{get_or-set_same, length-set}
use Rattle.std.proofs.lemmas.Nat.{mul-add-lt}
use Rattle.stair_model.specs.CellSet.{CellSet, HasCell}
use Rattle.stair_model.specs.Geometry.{Geometry}
use Rattle.stair_model.specs.Stripe.{Stripe, IsStripeOf, IsWellFormed, cell, with_cell}
use Rattle.stair_model.proofs.CellOrder.{IsBefore, IsBefore-apart, IsBefore-longer, IsBefore-turn, HoldsBefore, HoldsBefore-all, HoldsBefore-none, HoldsBefore-turn, HoldsBefore-more}
use Rattle.stair_model.proofs.StripeLaws.{cell-with_cell_other, cell-with_cell_same}
use Rattle.stair_canon.specs.Canonical.{CanonicalStripe, symbol}

-- the cell is stored
abbrev pub IsStored : CanonicalStripe → Stripe → ℕ → ℕ → Type 0
IsStored c stripe i j = cell stripe i j ≡ symbol c i j

-- the cells before place (row, column) are stored
pub record HasStored (g : Geometry) (c : CanonicalStripe) (stripe : Stripe) (row column : ℕ) : Type 0 where
  pub of : IsStripeOf g stripe
  pub formed : 0 < row + column → IsWellFormed stripe
  pub so_far : HoldsBefore g.n (IsStored c stripe) row column

pub HasStored-none : (g : Geometry) (c : CanonicalStripe) (stripe : Stripe) → IsStripeOf g stripe → HasStored g c stripe 0 0
HasStored-none g c stripe of = record {
  of = of;
  formed = λ some. absurd (omega arith);
  so_far = HoldsBefore-none g.n (IsStored c stripe);
}

-- a row more
pub HasStored-turn : (g : Geometry) (c : CanonicalStripe) (stripe : Stripe) (row column : ℕ) → g.n ≡ column → 0 < g.n
    → HasStored g c stripe row column → HasStored g c stripe (row + 1) 0
HasStored-turn g c stripe row column all some stored = record {
  of = stored.of;
  formed = λ more. stored.formed (omega (arith, all));
  so_far = HoldsBefore-turn g.n (IsStored c stripe) row column all stored.so_far;
}

-- a cell more
module _ (g : Geometry) (c : CanonicalStripe) (stripe : Stripe) (row column : ℕ) (bytes : List ℕ) (stored : HasStored g c stripe row column)
    (row_in : row < g.r) (column_in : column < g.n) (formed : IsWellFormed (with_cell stripe row column bytes)) where
  here : cell (with_cell stripe row column bytes) row column ≡ bytes
  here =
      let place : row * stripe.chunks + column < stripe.chunks * stripe.rows =
      mul-add-lt row stripe.chunks column stripe.rows (omega (arith, stored.of.rows)) (omega (arith, stored.of.chunks)) in
      get_or-set_same stripe.cells (row * stripe.chunks + column) bytes _
      (omega (arith, place, formed.count, length-set stripe.cells (row * stripe.chunks + column) bytes))

  pub HasStored-more : bytes ≡ symbol c row column → HasStored g c (with_cell stripe row column bytes) row (column + 1)
  HasStored-more is = record {
    of = record { rows = stored.of.rows; chunks = stored.of.chunks };
    formed = λ more. formed;
    so_far =
        HoldsBefore-more g.n (IsStored c stripe) (IsStored c (with_cell stripe row column bytes)) row column stored.so_far
        (λ i j j_in before same.
        cell-with_cell_other stripe i j row column bytes (omega (arith, stored.of.chunks)) (omega (arith, stored.of.chunks))
        (IsBefore-apart i j row column before) ∙ same)
        (here ∙ is);
  }

-- ---- the cells of a set

-- the cell is stored where it is in the set, and is as it was elsewhere
pub record IsStoredOf (cells : CellSet) (c : CanonicalStripe) (old new : Stripe) (i j : ℕ) : Type 0 where
  pub stored : HasCell cells i j → cell new i j ≡ symbol c i j
  pub kept : ¬ HasCell cells i j → cell new i j ≡ cell old i j

-- the cells of the set before place (row, column) are stored
pub record HasStoredOf (g : Geometry) (cells : CellSet) (c : CanonicalStripe) (old new : Stripe) (row column : ℕ) : Type 0 where
  pub of : IsStripeOf g new
  pub formed : IsWellFormed new
  pub before : HoldsBefore g.n (IsStoredOf cells c old new) row column
  pub behind : (i j : ℕ) → i < g.r → j < g.n → ¬ IsBefore i j row column → cell new i j ≡ cell old i j

pub HasStoredOf-none : (g : Geometry) (cells : CellSet) (c : CanonicalStripe) (stripe : Stripe) → IsStripeOf g stripe → IsWellFormed stripe
    → HasStoredOf g cells c stripe stripe 0 0
HasStoredOf-none g cells c stripe of formed = record {
  of = of;
  formed = formed;
  before = HoldsBefore-none g.n (IsStoredOf cells c stripe stripe);
  behind = λ i j i_in j_in after. refl;
}

-- a row more
pub HasStoredOf-turn : (g : Geometry) (cells : CellSet) (c : CanonicalStripe) (old new : Stripe) (row column : ℕ) → g.n ≡ column
    → HasStoredOf g cells c old new row column → HasStoredOf g cells c old new (row + 1) 0
HasStoredOf-turn g cells c old new row column all so_far = record {
  of = so_far.of;
  formed = so_far.formed;
  before = HoldsBefore-turn g.n (IsStoredOf cells c old new) row column all so_far.before;
  behind = λ i j i_in j_in after. so_far.behind i j i_in j_in (λ earlier. after (IsBefore-turn i j row column earlier));
}

module _ (g : Geometry) (cells : CellSet) (c : CanonicalStripe) (old new : Stripe) (row column : ℕ)
    (so_far : HasStoredOf g cells c old new row column) (row_in : row < g.r) (column_in : column < g.n) where
  here_still : cell new row column ≡ cell old row column
  here_still = so_far.behind row column row_in column_in (λ before. IsBefore-apart row column row column before (refl, refl))

  -- a cell more, which is not in the set
  pub HasStoredOf-other : ¬ HasCell cells row column → HasStoredOf g cells c old new row (column + 1)
  HasStoredOf-other other = record {
    of = so_far.of;
    formed = so_far.formed;
    before =
        HoldsBefore-more g.n (IsStoredOf cells c old new) (IsStoredOf cells c old new) row column so_far.before
        (λ i j j_in before was. was)
        (record { stored = λ has. absurd (other has); kept = λ has_not. here_still });
    behind = λ i j i_in j_in after. so_far.behind i j i_in j_in (λ before. after (IsBefore-longer i j row column before));
  }

  -- or which is
  pub HasStoredOf-cell : HasCell cells row column → IsWellFormed (with_cell new row column (symbol c row column))
      → HasStoredOf g cells c old (with_cell new row column (symbol c row column)) row (column + 1)
  HasStoredOf-cell has formed =
      let stored = with_cell new row column (symbol c row column) in
      let apart : (i j : ℕ) → j < g.n → ¬ ((i ≡ row) × (j ≡ column)) → cell stored i j ≡ cell new i j =
      λ i j j_in other.
      cell-with_cell_other new i j row column (symbol c row column) (omega (arith, so_far.of.chunks)) (omega (arith, so_far.of.chunks)) other in
      record {
        of = record { rows = so_far.of.rows; chunks = so_far.of.chunks };
        formed = formed;
        before =
            HoldsBefore-more g.n (IsStoredOf cells c old new) (IsStoredOf cells c old stored) row column so_far.before
            (λ i j j_in before was.
            let same = apart i j j_in (IsBefore-apart i j row column before) in
            record { stored = λ in_set. same ∙ was.stored in_set; kept = λ not_in. same ∙ was.kept not_in })
            (record {
              stored = λ in_set.
                  cell-with_cell_same new row column (symbol c row column) so_far.formed (omega (arith, so_far.of.rows)) (omega (arith, so_far.of.chunks));
              kept = λ not_in. absurd (not_in has);
            });
        behind = λ i j i_in j_in after.
            apart i j j_in (λ same. after (inr (same.0, omega (arith, same.1))))
            ∙ so_far.behind i j i_in j_in (λ before. after (IsBefore-longer i j row column before));
      }

-- all cells of the set are stored
pub HasStoredOf-all : (g : Geometry) (cells : CellSet) (c : CanonicalStripe) (old new : Stripe) (row : ℕ) → g.r ≡ row
    → HasStoredOf g cells c old new row 0 → (i j : ℕ) → i < g.r → j < g.n → IsStoredOf cells c old new i j
HasStoredOf-all g cells c old new row all so_far i j row_in column_in =
    HoldsBefore-all g.n (IsStoredOf cells c old new) g.r row all so_far.before i j row_in column_in
