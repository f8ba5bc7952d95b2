-- A geometry keeps all limits, or there is a first one that it breaks, and one alone.
use Rattle.std.proofs.Common.{◌≡◌, ℕ, ◌+◌, ◌-◌, ◌*◌, ◌^◌, ◌<◌, ◌≤◌, ◌⊎◌, zero, suc, inl, inr, List, length, slice_index, arith, le_trans, mul_comm, Decides}
use Rattle.std.specs.Prelude.{◌↔◌}
use Rattle.std.proofs.lemmas.Bool.{cases_lt, leb-true, le-leb}
use Rattle.std.proofs.lemmas.Bool.Decides.{Decides-and}
use Rattle.std.proofs.Math.Nat.{mul-le-mul, mul-le-mul_left, mul-le-mul_right}
use Rattle.std.proofs.lemmas.List.Elements.{All-get_or, All-from_get_or}
use Rattle.std.proofs.lemmas.List.Sorted.{IsNonDecreasingBy-from_default}
use Rattle.stair_model.specs.Geometry.{Geometry, block_count, classes, data_chunks, data_cells, sectors_needed, is_small, HasDevices, HasParity, HasMajority, HasClasses, HasRows, HasCoverage, HasBlocks, HasSize, IsCoverageVector, IsWithinLimits, IsFirstBrokenLimit, IsFirstBrokenUnder, IsSmall}
use Rattle.stair_model.specs.Geometry.IsFirstBrokenUnder.{devices, parities, majority, covered_chunks, rows, covered_sectors, blocks, size}
use Rattle.stair_model.proofs.FirstLaws.{HoldsBelow, none_below, one_first, one_more, IsKnown, known_le, known_both, known_below}

-- LIMITS OF WHICH THE EIGHTH IS THIS ONE

module _ (Size : Type 0) where
  -- the limit of this number
  abbrev pub KeepsLimit : Geometry → ℕ → Type 0
  KeepsLimit g zero = Unit {0}
  KeepsLimit g (suc zero) = HasDevices g
  KeepsLimit g (suc (suc zero)) = HasParity g
  KeepsLimit g (suc (suc (suc zero))) = HasMajority g
  KeepsLimit g (suc (suc (suc (suc zero)))) = HasClasses g
  KeepsLimit g (suc (suc (suc (suc (suc zero))))) = HasRows g
  KeepsLimit g (suc (suc (suc (suc (suc (suc zero)))))) = HasCoverage g
  KeepsLimit g (suc (suc (suc (suc (suc (suc (suc zero))))))) = HasBlocks g
  KeepsLimit g (suc (suc (suc (suc (suc (suc (suc (suc n)))))))) = Size

  limit_broken : (g : Geometry) (k : ℕ) → IsFirstBrokenUnder Size g k → ¬ KeepsLimit g k
  limit_broken g k (devices broken) = broken
  limit_broken g k (parities a broken) = broken
  limit_broken g k (majority a b broken) = broken
  limit_broken g k (covered_chunks a b c broken) = broken
  limit_broken g k (rows a b c d broken) = broken
  limit_broken g k (covered_sectors a b c d e broken) = broken
  limit_broken g k (blocks a b c d e f broken) = broken
  limit_broken g k (size a b c d e f h broken) = broken

  keeps_1 : (g : Geometry) → HoldsBelow (KeepsLimit g) 1
  keeps_1 g = one_more (KeepsLimit g) 0 (none_below (KeepsLimit g)) tt

  keeps_2 : (g : Geometry) → HasDevices g → HoldsBelow (KeepsLimit g) 2
  keeps_2 g a = one_more (KeepsLimit g) 1 (keeps_1 g) a

  keeps_3 : (g : Geometry) → HasDevices g → HasParity g → HoldsBelow (KeepsLimit g) 3
  keeps_3 g a b = one_more (KeepsLimit g) 2 (keeps_2 g a) b

  keeps_4 : (g : Geometry) → HasDevices g → HasParity g → HasMajority g → HoldsBelow (KeepsLimit g) 4
  keeps_4 g a b c = one_more (KeepsLimit g) 3 (keeps_3 g a b) c

  keeps_5 : (g : Geometry) → HasDevices g → HasParity g → HasMajority g → HasClasses g → HoldsBelow (KeepsLimit g) 5
  keeps_5 g a b c d = one_more (KeepsLimit g) 4 (keeps_4 g a b c) d

  keeps_6 : (g : Geometry) → HasDevices g → HasParity g → HasMajority g → HasClasses g → HasRows g → HoldsBelow (KeepsLimit g) 6
  keeps_6 g a b c d e = one_more (KeepsLimit g) 5 (keeps_5 g a b c d) e

  keeps_7 : (g : Geometry) → HasDevices g → HasParity g → HasMajority g → HasClasses g → HasRows g → HasCoverage g → HoldsBelow (KeepsLimit g) 7
  keeps_7 g a b c d e f = one_more (KeepsLimit g) 6 (keeps_6 g a b c d e) f

  keeps_8 : (g : Geometry) → HasDevices g → HasParity g → HasMajority g → HasClasses g → HasRows g → HasCoverage g → HasBlocks g → HoldsBelow (KeepsLimit g) 8
  keeps_8 g a b c d e f h = one_more (KeepsLimit g) 7 (keeps_7 g a b c d e f) h

  limits_below : (g : Geometry) (k : ℕ) → IsFirstBrokenUnder Size g k → HoldsBelow (KeepsLimit g) k
  limits_below g k (devices broken) = keeps_1 g
  limits_below g k (parities a broken) = keeps_2 g a
  limits_below g k (majority a b broken) = keeps_3 g a b
  limits_below g k (covered_chunks a b c broken) = keeps_4 g a b c
  limits_below g k (rows a b c d broken) = keeps_5 g a b c d
  limits_below g k (covered_sectors a b c d e broken) = keeps_6 g a b c d e
  limits_below g k (blocks a b c d e f broken) = keeps_7 g a b c d e f
  limits_below g k (size a b c d e f h broken) = keeps_8 g a b c d e f h

  -- there is one first broken limit at most
  pub one_limit : (g : Geometry) (j k : ℕ) → IsFirstBrokenUnder Size g j → IsFirstBrokenUnder Size g k → j ≡ k
  one_limit g j k a b =
      one_first (KeepsLimit g) j k (limit_broken g j a) (limits_below g j a) (limit_broken g k b) (limits_below g k b)

  -- where all limits are kept, none is broken
  pub none_under : (g : Geometry) (k : ℕ) → IsFirstBrokenUnder Size g k → IsWithinLimits g → ¬ Size
  none_under g k (devices broken) within = absurd (broken within.devices)
  none_under g k (parities a broken) within = absurd (broken within.parities)
  none_under g k (majority a b broken) within = absurd (broken within.majority)
  none_under g k (covered_chunks a b c broken) within = absurd (broken within.covered_chunks)
  none_under g k (rows a b c d broken) within = absurd (broken within.rows)
  none_under g k (covered_sectors a b c d e broken) within = absurd (broken within.covered_sectors)
  none_under g k (blocks a b c d e f broken) within = absurd (broken within.blocks)
  none_under g k (size a b c d e f h broken) within = broken

-- an eighth limit that asks for more is broken where this one is
pub broken_map : {F G : Type 0} (g : Geometry) (k : ℕ) → (G → F) → IsFirstBrokenUnder F g k → IsFirstBrokenUnder G g k
broken_map g k less (devices broken) = devices broken
broken_map g k less (parities a broken) = parities a broken
broken_map g k less (majority a b broken) = majority a b broken
broken_map g k less (covered_chunks a b c broken) = covered_chunks a b c broken
broken_map g k less (rows a b c d broken) = rows a b c d broken
broken_map g k less (covered_sectors a b c d e broken) = covered_sectors a b c d e broken
broken_map g k less (blocks a b c d e f broken) = blocks a b c d e f broken
broken_map g k less (size a b c d e f h broken) = size a b c d e f h (λ more. broken (less more))

-- where all limits are kept, none is broken
pub none_broken : (g : Geometry) (k : ℕ) → IsFirstBrokenLimit g k → ¬ IsWithinLimits g
none_broken g k broken within = none_under (HasSize g) g k broken within within.size

-- within all other limits an eighth one that fails is the first broken one
pub broken_size : {Size : Type 0} (g : Geometry) → IsWithinLimits g → ¬ Size → IsFirstBrokenUnder Size g 8
broken_size g within = size within.devices within.parities within.majority within.covered_chunks within.rows within.covered_sectors within.blocks

-- ---- one of both

-- entry k of a coverage vector is 1 to r, and none before it is above it
IsEntry : List ℕ → ℕ → ℕ → Type 0
IsEntry e r k = ((1 ≤ slice_index e k) × (slice_index e k ≤ r)) × HoldsBelow (λ i. slice_index e i ≤ slice_index e k) (suc k)

known_entry : (e : List ℕ) (r k : ℕ) → IsKnown (IsEntry e r k)
unfolding IsEntry
known_entry e r k =
    known_both (known_both (known_le 1 (slice_index e k)) (known_le (slice_index e k) r))
    (known_below (λ i. slice_index e i ≤ slice_index e k) (λ i. known_le (slice_index e i) (slice_index e k)) (suc k))

known_coverage : (e : List ℕ) (r : ℕ) → IsKnown (IsCoverageVector e r)
unfolding IsEntry
known_coverage e r =
    elim (known_below (IsEntry e r) (known_entry e r) (length e)) [
      | inl entries ↦
          inl (
            All-from_get_or (λ x. (1 ≤ x) × (x ≤ r)) e 0 (λ k k_in. (entries k k_in).0),
            IsNonDecreasingBy-from_default (λ x. x) e 0 (λ i j le j_in. (entries j j_in).1 i (omega arith)),
          )
      | inr not ↦
          inr (λ is. not (λ k k_in.
          (All-get_or (λ x. (1 ≤ x) × (x ≤ r)) e k 0 k_in is.0, (λ i i_in. is.1 i k 0 (omega arith) k_in))))
    ]

known_size : (g : Geometry) → IsKnown (HasSize g)
known_size g =
    elim (known_both (known_both (known_le 1 g.stripes) (known_le (g.stripes + 1) 4294967295)) (known_le (sectors_needed g) 4294967295)) [
      | inl kept ↦ inl (kept.0.0, omega (arith, kept.0.1), kept.1)
      | inr not ↦ inr (λ kept. not ((kept.0, omega (arith, kept.1)), kept.2))
    ]

-- ---- SIZES

-- where a device's sectors can be numbered, so can the stripes
pub size_from : (g : Geometry) → HasDevices g → HasRows g → 1 ≤ g.stripes → sectors_needed g ≤ 4294967295 → HasSize g
size_from g count rows_in some fits =
    let few : g.stripes * 1 ≤ g.stripes * g.r = mul-le-mul_left {m = 1} {n = g.r} g.stripes rows_in.0 in
    (some, omega (arith, few, fits), fits)

-- a small geometry has the eighth limit that there was before there were large ones, and no other
pub usual_size : (g : Geometry) → HasDevices g → HasRows g →
    (HasSize g × IsSmall g) ↔ ((1 ≤ g.stripes) × (g.stripes ≤ 65536) × (g.n * g.r * g.stripes ≤ 4194304))
usual_size g count rows_in = (
  (λ both. (both.0.0, both.1.0, both.1.1)),
  (λ usual.
      let bodies : g.n * g.r ≤ 32 * 32 = mul-le-mul count.1 rows_in.1 in
      let cells : g.stripes * g.r ≤ 65536 * 32 = mul-le-mul usual.1 rows_in.1 in
      (size_from g count rows_in usual.0 (omega (arith, bodies, cells)), (usual.1, usual.2))),
)

-- there are fewer blocks than 2^37: a device has fewer sectors than 2^32, and holds data of 31 at most
pub block_count_few : (g : Geometry) → IsWithinLimits g → block_count g < 2 ^ 37
block_count_few g limits =
    let chunk : data_cells g ≤ g.r * (g.n - g.m) = omega arith in
    let wide : g.r * (g.n - g.m) ≤ g.r * 31 = mul-le-mul_left {m = g.n - g.m} {n = 31} g.r (omega (arith, limits.devices, limits.parities)) in
    let all : data_cells g * g.stripes ≤ g.r * 31 * g.stripes = mul-le-mul_right {m = data_cells g} {n = g.r * 31} g.stripes (le_trans chunk wide) in
    let turned : g.r * 31 * g.stripes ≡ g.stripes * g.r * 31 = omega (arith, mul_comm g.r 31) in
    omega (arith, all, turned, limits.size.2)

-- the test of a small geometry is right
pub small_decides : (g : Geometry) → Decides (is_small g) (IsSmall g)
unfolding is_small
small_decides g =
    Decides-and _ _
    (leb-true g.stripes 65536, le-leb g.stripes 65536)
    (leb-true (g.n * g.r * g.stripes) 4194304, le-leb (g.n * g.r * g.stripes) 4194304)

pub known_small : (g : Geometry) → IsKnown (IsSmall g)
known_small g = known_both (known_le g.stripes 65536) (known_le (g.n * g.r * g.stripes) 4194304)

-- all limits are kept, or there is a first one that is broken
abbrev IsJudged : Geometry → Type 0
IsJudged g = IsWithinLimits g ⊎ ((limit : ℕ) × IsFirstBrokenLimit g limit)

from_blocks : (g : Geometry) → HasDevices g → HasParity g → HasMajority g → HasClasses g → HasRows g → HasCoverage g → IsJudged g
from_blocks g a b c d e f =
    elim (known_le 1 (data_cells g)) [
      | inr not ↦ inr (7, blocks a b c d e f not)
      | inl h ↦
          elim (known_size g) [
            | inr not ↦ inr (8, size a b c d e f h not)
            | inl i ↦
                inl (record {
                  devices = a;
                  parities = b;
                  majority = c;
                  covered_chunks = d;
                  rows = e;
                  covered_sectors = f;
                  blocks = h;
                  size = i;
                })
          ]
    ]

from_rows : (g : Geometry) → HasDevices g → HasParity g → HasMajority g → HasClasses g → IsJudged g
from_rows g a b c d =
    elim (known_both (known_le 1 g.r) (known_le g.r 32)) [
      | inr not ↦ inr (5, rows a b c d not)
      | inl e ↦
          elim (known_coverage g.e g.r) [
            | inr not ↦ inr (6, covered_sectors a b c d e not)
            | inl f ↦ from_blocks g a b c d e f
          ]
    ]

from_majority : (g : Geometry) → HasDevices g → HasParity g → IsJudged g
from_majority g a b =
    elim (cases_lt (2 * g.m) g.n) [
      | inr many ↦ inr (3, majority a b (λ few. omega arith))
      | inl c ↦
          elim (known_both (known_le 1 (classes g)) (known_le (classes g) (data_chunks g))) [
            | inr not ↦ inr (4, covered_chunks a b c not)
            | inl d ↦ from_rows g a b c d
          ]
    ]

pub within_or_broken : (g : Geometry) → IsWithinLimits g ⊎ ((limit : ℕ) × IsFirstBrokenLimit g limit)
within_or_broken g =
    elim (known_both (known_le 3 g.n) (known_le g.n 32)) [
      | inr not ↦ inr (1, devices not)
      | inl a ↦
          elim (known_le 1 g.m) [
            | inr not ↦ inr (2, parities a not)
            | inl b ↦ from_majority g a b
          ]
    ]
