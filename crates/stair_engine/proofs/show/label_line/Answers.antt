-- The name, the label, and the end of the line.
use Rattle.std.proofs.Common.{◌≡◌, ◌==◌, ℕ, false, List, [], ◌∷◌, ◌++◌, append_assoc, length}
use Rattle.std.specs.Prelude.{codes}
use Rattle.stair_engine.specs.Show.{label_line as line_of_label, newline}
use Rattle.stair_engine.proofs.show.label_line.Goals as goal

-- the line of a label that isn't empty
line_told : (text label : List ℕ) → text ≡ label → false ≡ (length text == 0) → line_of_label label ≡ codes "label " ++ (text ++ newline)
line_told [] [] is some = cc
line_told (x ∷ xs) [] is some = cc
line_told [] (y ∷ ys) is some = cc
line_told (x ∷ xs) (y ∷ ys) is some = cc

pub returns : goal.returns
returns c =
    rw (line_told _ _ c.bytes-text.ensures.value c.if-is_empty.ensures)
    (simp (c.push-3.ensures.text, c.push-2.ensures.text, c.push.ensures.text, c.new-line.ensures.text, append_assoc))
