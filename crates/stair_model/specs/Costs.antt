-- The steps that the encoders take for one stripe. A step is one known symbol that is used for one solved symbol.
use Rattle.std.specs.Prelude.{◌≡◌, ℕ, ◌+◌, ◌*◌, ◌<◌, ◌==◌, ◌&&◌, not, Bool, if◌then◌else◌, List, replicate, slice_set}
use Rattle.std.specs.List.{list_any}
use Rattle.stair_model.specs.Geometry.{Geometry, classes, data_cells, data_chunks, global_cells, greatest_coverage}
use Rattle.stair_model.specs.Sum.{sum_below}
use Rattle.stair_model.specs.Cell.{is_parity, cell_at}
use Rattle.stair_model.specs.Stripe.{Stripe, SECTOR, cell}
use Rattle.stair_model.specs.Encoding.{IsEncodingOf}

-- upstairs: (n-m)(m·r+s) for the row parities and globals, and r(n-m)·e_max for virtual symbols
abbrev pub upstairs_cost : Geometry → ℕ
upstairs_cost g = data_chunks g * (g.m * g.r + global_cells g) + g.r * data_chunks g
    * greatest_coverage g

-- downstairs: (n-m)(m+m')·r for the rows, and r·s for the intermediate chunks
abbrev pub downstairs_cost : Geometry → ℕ
downstairs_cost g = data_chunks g * (g.m + classes g) * g.r + g.r * global_cells g

-- the blocks of a stripe that are zero but for block d, whose bytes are all 1
abbrev pub unit_blocks : Geometry → ℕ → List (List ℕ)
unit_blocks g d = slice_set (replicate (data_cells g) (replicate SECTOR 0)) d (replicate SECTOR 1)

-- whether some byte isn't zero
abbrev pub is_nonzero : List ℕ → Bool
is_nonzero bytes = list_any (λ b. not (b == 0)) bytes

-- how many row parities and global parities of the stripe aren't zero
abbrev pub nonzero_parities : Geometry → Stripe → ℕ
nonzero_parities g stripe =
    sum_below g.r (λ i. sum_below g.n (λ j. if is_parity (cell_at g i j)
    && is_nonzero (cell stripe i j) then 1 else 0))

-- standard, where `encoded d` is the encoded stripe of unit_blocks g d: the pairs of a data cell d and a parity, row or
-- global, that isn't zero in it
abbrev pub standard_cost : Geometry → (ℕ → Stripe) → ℕ
standard_cost g encoded = sum_below (data_cells g) (λ d. nonzero_parities g (encoded d))

-- so many steps, whatever the encoded stripes are
abbrev pub IsStandardCost : Geometry → ℕ → Type 0
IsStandardCost g cost =
    (encoded : ℕ → Stripe) → ((d : ℕ) → d < data_cells g →
    IsEncodingOf g (unit_blocks g d) (encoded d)) →
    cost ≡ standard_cost g encoded
