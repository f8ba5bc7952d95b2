-- How many reads gathering takes.
use Rattle.std.proofs.Common.{◌≡◌, ℕ, ◌+◌, ◌*◌, ◌≤◌, Bool, inl, inr, refl, sym, ap, arith, Option, None, Some, slice_index_or}
use Rattle.std.specs.Prelude.{if◌then◌else◌}
use Rattle.stair_model.specs.CellSet.{CellSet, HasCell, IsInStripe, cell_count, count_in_row, count_in_slot, has_cell}
use Rattle.stair_model.specs.Geometry.{Geometry}
use Rattle.stair_model.specs.Slots.{no_slots}
use Rattle.stair_model.specs.Sum.{sum_below}
use Rattle.stair_model.proofs.CountLaws.{sum_below_constant, sum_below_le, sum_below_longer, sum_below_marks, sum_below_next, sum_below_tail}
use Rattle.stair_model.proofs.GridLaws.{sum_below_exchange}
use Rattle.stair_model.proofs.SetLaws.{mark_small, slot_count_none, unmarked}
use Rattle.stair_rack.specs.RackCounts.{CountsRead, RisesAtMost}
use Rattle.stair_rack.specs.declared.rack.Got.{Got}
use Rattle.stair_rack.specs.declared.rack.Got.TheVariants as got
use Rattle.stair_rack.proofs.PassCounts.{rises_more, rises_within}

-- one read
pub read_once : (answer : Got) (o n : Option ℕ) → CountsRead answer o n → RisesAtMost 1 o n
read_once got.Good None n counts = counts
read_once got.Good (Some count) n counts = (count + 1, counts, omega arith)
read_once got.Bad None n counts = counts
read_once got.Bad (Some count) n counts = (count + 1, counts, omega arith)
read_once got.Gone None n (inl same) = same
read_once got.Gone None n (inr more) = more
read_once got.Gone (Some count) n (inl same) = (count, same, omega arith)
read_once got.Gone (Some count) n (inr more) = (count + 1, more, omega arith)

-- CELLS BELOW A ROW

-- how many wanted cells of slot j lie in the rows below this one
abbrev pub wanted_below : CellSet → ℕ → ℕ → ℕ
wanted_below wanted j row = sum_below row (λ i. if has_cell wanted i j then 1 else 0)

pub wanted_more : (wanted : CellSet) (j row : ℕ) → HasCell wanted row j → wanted_below wanted j (row + 1) ≡ wanted_below wanted j row + 1
wanted_more wanted j row is =
    sym
    (sum_below_next row (wanted_below wanted j row) 1 (λ i. if has_cell wanted i j then 1 else 0) refl
    (sym (ap (λ (b : Bool). if b then 1 else 0) is)))

pub wanted_no_more : (wanted : CellSet) (j row : ℕ) → ¬ HasCell wanted row j → wanted_below wanted j (row + 1) ≡ wanted_below wanted j row
wanted_no_more wanted j row not_in =
    let next =
    sum_below_next row (wanted_below wanted j row) 0 (λ i. if has_cell wanted i j then 1 else 0) refl (sym (unmarked (has_cell wanted row j) not_in)) in
    omega (arith, next)

pub wanted_slot : (wanted : CellSet) (j row : ℕ) → row ≤ 32 → wanted_below wanted j row ≤ count_in_slot wanted j
wanted_slot wanted j row few = sum_below_longer (λ i. if has_cell wanted i j then 1 else 0) row 32 few

-- CELLS OF A SET

-- the cells of a set, slot by slot
pub slots_count : (wanted : CellSet) (n : ℕ) → n ≤ 32 → sum_below n (count_in_slot wanted) ≤ cell_count wanted
slots_count wanted n few =
    let whole : sum_below 32 (count_in_slot wanted) ≡ cell_count wanted = sum_below_exchange 32 32 (λ j i. if has_cell wanted i j then 1 else 0) in
    let part : sum_below n (count_in_slot wanted) ≤ sum_below 32 (count_in_slot wanted) = sum_below_longer (count_in_slot wanted) n 32 few in
    omega (arith, whole, part)

-- a row of a stripe has n cells
row_few : (g : Geometry) (cells : CellSet) → IsInStripe g cells → g.n ≤ 32 → (i : ℕ) → count_in_row cells i ≤ g.n
row_few g cells in_stripe n_few i =
    let f : ℕ → ℕ = λ j. if has_cell cells i j then 1 else 0 in
    let few : sum_below g.n f ≤ g.n = sum_below_marks g.n f (λ j below. mark_small (has_cell cells i j)) in
    let same : sum_below 32 f ≡ sum_below g.n f =
    sum_below_tail g.n 32 f n_few
    (λ j least below. unmarked (has_cell cells i j) (λ has. omega (arith, (in_stripe i j has).1, least))) in
    omega (arith, few, same)

-- a stripe has r·n cells
pub stripe_few : (g : Geometry) (cells : CellSet) → IsInStripe g cells → g.r ≤ 32 → g.n ≤ 32 → cell_count cells ≤ g.r * g.n
stripe_few g cells in_stripe r_few n_few =
    let same : cell_count cells ≡ sum_below g.r (count_in_row cells) =
    sum_below_tail g.r 32 (count_in_row cells) r_few
    (λ i least below.
    slot_count_none (slice_index_or cells.rows i no_slots) (λ j j_below has. omega (arith, (in_stripe i j has).0, least))) in
    let few : sum_below g.r (count_in_row cells) ≤ sum_below g.r (λ i. g.n) =
    sum_below_le g.r (count_in_row cells) (λ i. g.n) (λ i below. row_few g cells in_stripe n_few i) in
    omega (arith, same, few, sum_below_constant g.r g.n)

-- A CELL, A SLOT

module _ (wanted : CellSet) (j row : ℕ) (o m : Option ℕ) (so_far : RisesAtMost (wanted_below wanted j row) o m) where
  pub read_more : (n : Option ℕ) → HasCell wanted row j → (answer : Got) → CountsRead answer m n → RisesAtMost (wanted_below wanted j (row + 1)) o n
  read_more n is answer counts =
      rises_more (wanted_below wanted j row) 1 (wanted_below wanted j (row + 1)) o m n (sym (wanted_more wanted j row is)) so_far
      (read_once answer m n counts)

  pub read_no_more : ¬ HasCell wanted row j → RisesAtMost (wanted_below wanted j (row + 1)) o m
  read_no_more not_in =
      rises_within (wanted_below wanted j row) (wanted_below wanted j (row + 1)) o m (omega (arith, wanted_no_more wanted j row not_in)) so_far

  pub read_slot : row ≤ 32 → RisesAtMost (count_in_slot wanted j) o m
  read_slot few = rises_within (wanted_below wanted j row) (count_in_slot wanted j) o m (wanted_slot wanted j row few) so_far

module _ (wanted : CellSet) (slot : ℕ) (o m : Option ℕ) (so_far : RisesAtMost (sum_below slot (count_in_slot wanted)) o m) where
  pub slot_more : (n : Option ℕ) → RisesAtMost (count_in_slot wanted slot) m n → RisesAtMost (sum_below (slot + 1) (count_in_slot wanted)) o n
  slot_more n reads =
      rises_more (sum_below slot (count_in_slot wanted)) (count_in_slot wanted slot) (sum_below (slot + 1) (count_in_slot wanted)) o m n
      (sum_below_next slot (sum_below slot (count_in_slot wanted)) (count_in_slot wanted slot) (count_in_slot wanted) refl refl) so_far reads

  pub slot_no_more : RisesAtMost (sum_below (slot + 1) (count_in_slot wanted)) o m
  slot_no_more =
      rises_within (sum_below slot (count_in_slot wanted)) (sum_below (slot + 1) (count_in_slot wanted)) o m
      (sum_below_longer (count_in_slot wanted) slot (slot + 1) (omega arith)) so_far

  pub slots_all : slot ≤ 32 → RisesAtMost (cell_count wanted) o m
  slots_all few = rises_within (sum_below slot (count_in_slot wanted)) (cell_count wanted) o m (slots_count wanted slot few) so_far
