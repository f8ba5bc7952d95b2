-- The field is in its place, between the bytes that were before and after it.
use Rattle.std.proofs.Common.{◌≡◌, ℕ, ◌+◌, ◌-◌, List, ◌++◌, length, take, drop, ap, ◌∙◌, arith}
use Rattle.std.proofs.lemmas.List.{drop-drop}
use Rattle.stair_volume.specs.Page.{with_field}
use Rattle.stair_volume.proofs.writing.put.Goals as goal

pub returns : goal.returns
unfolding with_field
returns c =
    let bytes = c.args.bytes.now in
    let field = c.args.field.now in
    let at = c.args.at in
    let count : at + length field - at ≡ length field = omega arith in
    ap (λ (l : List ℕ). take at bytes ++ (l ++ drop (at + length field - at) (drop at bytes))) c.copy_from_slice.ensures.after
    ∙ ap (λ (n : ℕ). take at bytes ++ (field ++ drop n (drop at bytes))) count
    ∙ ap (λ (l : List ℕ). take at bytes ++ (field ++ l)) (drop-drop (length field) at bytes)
