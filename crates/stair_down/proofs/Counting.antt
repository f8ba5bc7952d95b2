-- The steps of the walk down a canonical stripe.
use Rattle.std.proofs.Common.{◌≡◌, ℕ, ◌+◌, ◌-◌, ◌*◌, ◌<◌, ◌≤◌, inl, inr, sym, ◌∙◌, ap, arith, add-one, nat_lt, ◌==◌, if◌then◌else◌}
use Rattle.std.proofs.lemmas.Bool.{cases_eq, cases_lt, lt-ltb, le-ltb, eq-eqb, ne_eqb, cond-true, cond-false}
use Rattle.stair_model.specs.Costs.{downstairs_cost}
use Rattle.stair_model.specs.Geometry.{Geometry, IsWithinLimits, classes, coverage, data_chunks, global_cells}
use Rattle.stair_model.specs.Sum.{sum_below}
use Rattle.stair_model.proofs.CellLaws.{coverage_le}
use Rattle.stair_model.proofs.CountLaws.{sum_below_none, sum_below_more, sum_below_same, sum_below_add, sum_below_constant, sum_below_list}

-- what class l covers, if its global parities begin above this row; and if they begin in it
above : Geometry → ℕ → ℕ → ℕ
above g row l = if nat_lt (g.r - coverage g l) row then coverage g l else 0

beginning : Geometry → ℕ → ℕ → ℕ
beginning g row l = if (g.r - coverage g l) == row then coverage g l else 0

above_yes : (g : Geometry) (row l : ℕ) → g.r - coverage g l < row → above g row l ≡ coverage g l
unfolding above
above_yes g row l is = cond-true _ _ _ (lt-ltb _ _ is)

above_no : (g : Geometry) (row l : ℕ) → row ≤ g.r - coverage g l → above g row l ≡ 0
unfolding above
above_no g row l is = cond-false _ _ _ (le-ltb _ _ is)

beginning_yes : (g : Geometry) (row l : ℕ) → g.r - coverage g l ≡ row → beginning g row l ≡ coverage g l
unfolding beginning
beginning_yes g row l is = cond-true _ _ _ (eq-eqb _ _ is)

beginning_no : (g : Geometry) (row l : ℕ) → (g.r - coverage g l ≡ row → ⊥) → beginning g row l ≡ 0
unfolding beginning
beginning_no g row l is = cond-false _ _ _ (ne_eqb _ _ is)

-- the steps before this class is looked at in this row: those of the rows above, and r for each row that a class covers
-- whose intermediate chunk is solved
pub steps_to : Geometry → ℕ → ℕ → ℕ
steps_to g row class =
    data_chunks g * (g.m + classes g) * row + g.r * (sum_below (classes g) (above g row) + sum_below class (beginning g row))

pub steps_to-start : (g : Geometry) → steps_to g 0 0 ≡ 0
unfolding steps_to
steps_to-start g =
    let none : sum_below (classes g) (above g 0) ≡ 0 =
    sum_below_same (classes g) (above g 0) (λ l. 0) (λ l within. above_no g 0 l (omega arith))
    ∙ sum_below_constant (classes g) 0 ∙ omega arith in
    let first : sum_below 0 (beginning g 0) ≡ 0 = sum_below_none (beginning g 0) in
    nothing (data_chunks g * (g.m + classes g)) g.r (sum_below (classes g) (above g 0)) (sum_below 0 (beginning g 0)) none first
  where
    nothing : (w r a b : ℕ) → a ≡ 0 → b ≡ 0 → w * 0 + r * (a + b) ≡ 0
    nothing w r a b p q = ap (λ x. w * 0 + r * (x + b)) p ∙ ap (λ x. w * 0 + r * (0 + x)) q ∙ omega arith

-- one class more
class_more : (g : Geometry) (row class e : ℕ) → beginning g row class ≡ e → steps_to g row (class + 1) ≡ steps_to g row class + g.r * e
unfolding steps_to
class_more g row class e is =
    let one : sum_below (class + 1) (beginning g row) ≡ sum_below class (beginning g row) + e =
    ap (λ k. sum_below k (beginning g row)) (add-one class) ∙ sum_below_more class (beginning g row)
    ∙ ap (λ k. sum_below class (beginning g row) + k) is in
    ap (λ k. data_chunks g * (g.m + classes g) * row + g.r * (sum_below (classes g) (above g row) + k)) one
    ∙ more (data_chunks g * (g.m + classes g) * row) g.r (sum_below (classes g) (above g row)) (sum_below class (beginning g row)) e
  where
    more : (w r a b e : ℕ) → w + r * (a + (b + e)) ≡ w + r * (a + b) + r * e
    more w r a b e = omega arith

pub steps_to-chunk : (g : Geometry) (row class : ℕ) → row ≡ g.r - coverage g class
    → steps_to g row (class + 1) ≡ steps_to g row class + g.r * coverage g class
steps_to-chunk g row class begins = class_more g row class (coverage g class) (beginning_yes g row class (sym begins))

pub steps_to-skip : (g : Geometry) (row class : ℕ) → (row ≡ g.r - coverage g class → ⊥)
    → steps_to g row (class + 1) ≡ steps_to g row class
steps_to-skip g row class other =
    class_more g row class 0 (beginning_no g row class (λ e. other (sym e))) ∙ omega arith

-- one row more: what began in this row begins above the next
above_next : (g : Geometry) (row l : ℕ) → above g (row + 1) l ≡ above g row l + beginning g row l
above_next g row l =
    elim (cases_lt (g.r - coverage g l) row) [
      | inl earlier ↦
          omega (arith, above_yes g (row + 1) l (omega arith), above_yes g row l earlier, beginning_no g row l (λ e. omega arith))
      | inr from ↦
          elim (cases_eq (g.r - coverage g l) row) [
            | inl here ↦ omega (arith, above_yes g (row + 1) l (omega arith), above_no g row l from, beginning_yes g row l here)
            | inr other ↦ omega (arith, above_no g (row + 1) l (omega arith), above_no g row l from, beginning_no g row l other)
          ]
    ]

pub steps_to-row : (g : Geometry) (row class : ℕ) → classes g ≡ class
    → steps_to g (row + 1) 0 ≡ steps_to g row class + data_chunks g * (g.m + classes g)
unfolding steps_to
steps_to-row g row class all =
    let next : sum_below (classes g) (above g (row + 1)) ≡ sum_below (classes g) (above g row) + sum_below class (beginning g row) =
    sum_below_same (classes g) (above g (row + 1)) (λ l. above g row l + beginning g row l) (λ l within. above_next g row l)
    ∙ sum_below_add (classes g) (above g row) (beginning g row)
    ∙ ap (λ k. sum_below (classes g) (above g row) + sum_below k (beginning g row)) all in
    further (data_chunks g * (g.m + classes g)) g.r row (sum_below (classes g) (above g (row + 1)))
    (sum_below (classes g) (above g row)) (sum_below class (beginning g row)) (sum_below 0 (beginning g (row + 1)))
    next (sum_below_none (beginning g (row + 1)))
  where
    further : (w r row s a b z : ℕ) → s ≡ a + b → z ≡ 0 → w * (row + 1) + r * (s + z) ≡ w * row + r * (a + b) + w
    further w r row s a b z p q = ap (λ x. w * (row + 1) + r * (x + z)) p ∙ ap (λ x. w * (row + 1) + r * (a + b + x)) q ∙ omega arith

-- after the last row
pub steps_to-end : (g : Geometry) (row : ℕ) → IsWithinLimits g → g.r ≡ row → steps_to g row 0 ≡ downstairs_cost g
unfolding steps_to
steps_to-end g row limits end =
    let all : sum_below (classes g) (above g row) ≡ global_cells g =
    sum_below_same (classes g) (above g row) (coverage g)
    (λ l within. above_yes g row l (omega (arith, end, (coverage_le g limits l within).0, (coverage_le g limits l within).1)))
    ∙ sum_below_list g.e in
    last (data_chunks g * (g.m + classes g)) g.r row (sum_below (classes g) (above g row)) (global_cells g)
    (sum_below 0 (beginning g row)) end all (sum_below_none (beginning g row))
  where
    last : (w r row a s z : ℕ) → r ≡ row → a ≡ s → z ≡ 0 → w * row + r * (a + z) ≡ w * r + r * s
    last w r row a s z p q e =
        ap (λ x. w * x + r * (a + z)) (sym p) ∙ ap (λ x. w * r + r * (x + z)) q ∙ ap (λ x. w * r + r * (s + x)) e ∙ omega arith
