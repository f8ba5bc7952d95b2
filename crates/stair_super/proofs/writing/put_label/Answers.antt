-- One part after the other.
use Rattle.std.proofs.Common.{ℕ, ◌-◌, List, [], ◌∷◌, ◌++◌, length, ap, ◌∙◌}
use Rattle.stair_super.specs.Spelling.{zeros, label_part}
use Rattle.stair_super.proofs.Written.{both}
use Rattle.stair_super.proofs.writing.put_label.Goals as goal

pub returns-clause-text : goal.returns-clause-text
unfolding label_part
returns-clause-text c =
    let text = c.bytes-text.result.now in
    let rest = zeros (126 - length text) in
    let later = both c.put.new.self c.put-2.new.self c.skip.new.self text rest c.put-2.ensures.text c.skip.ensures.text in
    both c.args.page.now c.put.new.self c.skip.new.self (length text ∷ []) (text ++ rest) c.put.ensures.text later
    ∙ ap (λ (l : List ℕ). c.args.page.now ++ label_part l) c.bytes-text.ensures.value
