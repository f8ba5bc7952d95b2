-- Ranges of blocks, as they are tested.
use Rattle.std.proofs.Common.{◌≡◌, ◌+◌, ℕ, zero, suc, true, arith, refl}
use Rattle.std.proofs.lemmas.Bool.{le-leb, leb-true}
use Rattle.stair_model.specs.Geometry.{Geometry, block_count}
use Rattle.stair_engine.specs.Blocks.{IsInRange, is_in_range}

pub in_range_is : (g : Geometry) (first count : ℕ) → IsInRange g first count → is_in_range g first count ≡ true
in_range_is g first zero within = refl
in_range_is g first (suc count) within = le-leb (first + suc count) (block_count g) (within (omega arith))

pub in_range_has : (g : Geometry) (first count : ℕ) → is_in_range g first count ≡ true → IsInRange g first count
in_range_has g first zero is = λ some. absurd (omega (arith, some))
in_range_has g first (suc count) is = λ some. leb-true (first + suc count) (block_count g) is
