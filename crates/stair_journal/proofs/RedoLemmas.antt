-- Redos that compare equal.
use Rattle.std.proofs.Common.{◌≡◌, Bool, refl, ap, sym, ◌∙◌}
use Rattle.std.specs.Prelude.{◌==◌, ◌&&◌}
use mathlib.Core.Bool.{beq}
use Rattle.std.specs.Bool.{Decides}
use Rattle.std.specs.Cmp.{booleans_Decides}
use Rattle.std.specs.Cmp.Derive.{both_true}
use Rattle.std.specs.Cmp.Lexicographic.{pointwise}
use Rattle.std.proofs.lemmas.Bool.Decides.{Decides-eqb}
use Rattle.std.proofs.lemmas.Slice.Eq.{slice_eq-Decides}
use Rattle.stair_model.specs.Slots.{Slots}
use Rattle.stair_rack.proofs.OfflineLemmas.{and-true_left, and-true_right}
use Rattle.stair_journal.specs.declared.redo.Redo.{Redo}

-- the test by which sets of slots compare
abbrev pub same_marks : Slots → Slots → Bool
same_marks a b = pointwise beq a.marks b.marks

same_marks-Decides : (a b : Slots) → Decides (same_marks a b) (a ≡ b)
same_marks-Decides a b =
    let decides : Decides (same_marks a b) (a.marks ≡ b.marks) = slice_eq-Decides {E = beq} booleans_Decides a.marks b.marks (same_marks a b) refl in
    (λ is. let marks = decides.0 is in λ i. record { marks = marks i }, λ same. decides.1 (ap (λ (s : Slots). s.marks) same))

-- what `==` says of two redos
pub redo_eq-Decides : (a b : Redo) (r : Bool) → r ≡ ((a.stripe == b.stripe) && pointwise same_marks a.cells.rows b.cells.rows) → Decides r (a ≡ b)
redo_eq-Decides a b r is =
    let stripes : Decides (a.stripe == b.stripe) (a.stripe ≡ b.stripe) = Decides-eqb a.stripe b.stripe in
    let alike : Bool = pointwise same_marks a.cells.rows b.cells.rows in
    let rows : Decides alike (a.cells.rows ≡ b.cells.rows) =
    slice_eq-Decides {E = same_marks} same_marks-Decides a.cells.rows b.cells.rows alike refl in (
      λ holds.
          let stripe = stripes.0 (and-true_left (a.stripe == b.stripe) alike (sym is ∙ holds)) in
          let row = rows.0 (and-true_right (a.stripe == b.stripe) alike (sym is ∙ holds)) in
          λ i. record { stripe = stripe i; cells = record { rows = row i } },
      λ same.
          is
          ∙ both_true (stripes.1 (ap (λ (x : Redo). x.stripe) same)) (rows.1 (ap (λ (x : Redo). x.cells.rows) same)),
    )
