-- One part after the other.
use Rattle.std.proofs.Common.{◌≡◌, ℕ, ◌-◌, List, ◌++◌, length, ap, ◌∙◌, arith}
use Rattle.std.proofs.lemmas.List.{append-nil}
use Rattle.stair_super.specs.Spelling.{zeros, spelled_in, magic, geometry_part, numbers_part, entries, fields, notes_part}
use Rattle.stair_super.proofs.Written.{both, whole}
use Rattle.stair_super.proofs.writing.written.Goals as goal

pub returns : goal.returns
unfolding spelled_in zeros
returns c =
    let s = c.args.block.now in
    let v = c.args.version in
    let left : 512 - length c.put_notes.new.page ≡ 0 = omega arith in
    let array : c.put_geometry.new.page ≡ c.put_magic.new.page ++ geometry_part s.array.geometry =
    c.put_geometry.ensures.text ∙ ap (λ g. c.put_magic.new.page ++ geometry_part g) c.geometry.ensures.value in
    let last = both c.put_geometry.new.page _ _ (numbers_part s) (entries s 32) c.put_numbers.ensures.text c.put_entries.ensures.text in
    let middle = both c.put_magic.new.page _ _ (geometry_part s.array.geometry) (numbers_part s ++ entries s 32) array last in
    let rest = both c.put_magic.new.page _ _ (fields s) (notes_part v s.array) middle c.put_notes.ensures.text in
    c.bytes.ensures
    ∙ ap (λ (n : ℕ). c.put_notes.new.page ++ zeros n) left
    ∙ whole c.new-page.result c.put_magic.new.page c.put_notes.new.page (magic v) (fields s ++ notes_part v s.array) (zeros 0) c.new-page.ensures.text c.put_magic.ensures.text rest
    ∙ ap (λ (l : List ℕ). magic v ++ l) (append-nil (fields s ++ notes_part v s.array))
