-- The parities among the cells so far, row by row.
use Rattle.std.proofs.Common.{◌≡◌, ℕ, ◌+◌, ◌<◌, ◌⊎◌, ◌↔◌, inl, inr, refl, sym, arith}
use Rattle.std.specs.Prelude.{IsTrue}
use Rattle.stair_model.specs.Geometry.{Geometry}
use Rattle.stair_model.specs.Cell.{cell_at, is_parity}
use Rattle.stair_model.specs.CellSet.{CellSet, HasCell, IsInStripe}
use Rattle.stair_model.proofs.CellOrder.{IsBefore, IsBefore-apart, IsBefore-longer, IsBefore-turn, HoldsBefore, HoldsBefore-none, HoldsBefore-turn, HoldsBefore-more}

-- the cell is a row parity or a global parity
abbrev pub IsParity : Geometry → ℕ → ℕ → Type 0
IsParity g i j = IsTrue (is_parity (cell_at g i j))

-- the cell is in the set exactly if it is a parity
abbrev pub IsSorted : Geometry → CellSet → ℕ → ℕ → Type 0
IsSorted g cells i j = HasCell cells i j ↔ IsParity g i j

-- of the cells before cell (row, slot) the parities are in the set, and nothing else is
pub record HasParitiesBefore (g : Geometry) (cells : CellSet) (row slot : ℕ) : Type 0 where
  pub inside : IsInStripe g cells
  pub before : (i j : ℕ) → HasCell cells i j → IsBefore i j row slot
  pub members : HoldsBefore g.n (IsSorted g cells) row slot

pub HasParitiesBefore-none : (g : Geometry) (cells : CellSet) → ((i j : ℕ) → ¬ HasCell cells i j) → HasParitiesBefore g cells 0 0
HasParitiesBefore-none g cells none = record {
  inside = λ i j has. absurd (none i j has);
  before = λ i j has. absurd (none i j has);
  members = HoldsBefore-none g.n (IsSorted g cells);
}

-- a row more
pub HasParitiesBefore-turn : (g : Geometry) (cells : CellSet) (row slot : ℕ) → slot ≡ g.n → HasParitiesBefore g cells row slot
    → HasParitiesBefore g cells (row + 1) 0
HasParitiesBefore-turn g cells row slot all so_far = record {
  inside = so_far.inside;
  before = λ i j has. IsBefore-turn i j row slot (so_far.before i j has);
  members = HoldsBefore-turn g.n (IsSorted g cells) row slot (sym all) so_far.members;
}

-- a cell more, which is a parity
pub HasParitiesBefore-parity : (g : Geometry) (old new : CellSet) (row slot : ℕ) → row < g.r → slot < g.n → IsParity g row slot
    → ((i j : ℕ) → HasCell new i j ↔ (HasCell old i j ⊎ ((i ≡ row) × (j ≡ slot)))) → HasParitiesBefore g old row slot
    → HasParitiesBefore g new row (slot + 1)
HasParitiesBefore-parity g old new row slot row_in slot_in parity_here added so_far = record {
  inside = λ i j has.
      elim ((added i j).0 has) [
        | inl earlier ↦ so_far.inside i j earlier
        | inr here ↦ (omega (arith, here.0), omega (arith, here.1))
      ];
  before = λ i j has.
      elim ((added i j).0 has) [
        | inl earlier ↦ IsBefore-longer i j row slot (so_far.before i j earlier)
        | inr here ↦ inr (here.0, omega (arith, here.1))
      ];
  members =
      HoldsBefore-more g.n (IsSorted g old) (IsSorted g new) row slot so_far.members
      (λ i j chunk before was. (
        λ has. elim ((added i j).0 has) [
          | inl known ↦ was.0 known
          | inr same ↦ absurd (IsBefore-apart i j row slot before same)
        ],
        λ parity. (added i j).1 (inl (was.1 parity)),
      ))
      (λ has. parity_here, λ parity. (added row slot).1 (inr (refl, refl)));
}

-- or which isn't
pub HasParitiesBefore-data : (g : Geometry) (cells : CellSet) (row slot : ℕ) → ¬ IsParity g row slot → HasParitiesBefore g cells row slot
    → HasParitiesBefore g cells row (slot + 1)
HasParitiesBefore-data g cells row slot no_parity so_far = record {
  inside = so_far.inside;
  before = λ i j has. IsBefore-longer i j row slot (so_far.before i j has);
  members =
      HoldsBefore-more g.n (IsSorted g cells) (IsSorted g cells) row slot so_far.members (λ i j chunk before was. was)
      (λ has. absurd (IsBefore-apart row slot row slot (so_far.before row slot has) (refl, refl)), λ parity. absurd (no_parity parity));
}
