-- Which of the erased cells are covered.
use Rattle.std.proofs.Common.{◌≡◌, ℕ, ◌+◌, ◌-◌, ◌<◌, ◌≤◌, refl, subst, arith}
use Rattle.stair_model.specs.Coverage.{IsCovered, rest}
use Rattle.stair_model.specs.Examples.{four_devices}
use Rattle.stair_model.specs.Geometry.{coverage}
use Rattle.stair_model.specs.Sum.{sum_below}
use Rattle.stair_model.proofs.CoverageLaws.{chunks_above, counts_from_covered, covered_from_counts}
use Rattle.stair_examples.specs.Stripes.{ExamplesOfIsCovered, chunk_and_cell, two_chunks}

-- one cell of each of two chunks is left
one_each : (chunks_above (rest four_devices chunk_and_cell) 4 1 ≡ 0) × (chunks_above (rest four_devices chunk_and_cell) 4 0 ≡ 2)
unfolding rest sum_below
one_each = (refl, refl)

-- two cells of each are
two_each : chunks_above (rest four_devices two_chunks) 4 1 ≡ 2
unfolding rest sum_below
two_each = refl

covered : IsCovered four_devices chunk_and_cell
covered =
    covered_from_counts four_devices (rest four_devices chunk_and_cell)
    (record { few = λ k below. few k below; none = omega (arith, one_each.1) })
  where
    few : (k : ℕ) → k < 1 → chunks_above (rest four_devices chunk_and_cell) 4 (coverage four_devices (1 - 1 - k)) ≤ 1 + k
    few k below =
        let zero : 0 ≡ k = omega (arith, below) in
        subst (λ (n : ℕ). chunks_above (rest four_devices chunk_and_cell) 4 (coverage four_devices (1 - 1 - n)) ≤ 1 + n) zero (omega (arith, one_each.0))

not_covered : ¬ IsCovered four_devices two_chunks
not_covered is = let few = (counts_from_covered four_devices (rest four_devices two_chunks) is).few 0 (omega arith) in omega (arith, few, two_each)

pub examples : ExamplesOfIsCovered
examples = record { holds = covered; fails = not_covered }
