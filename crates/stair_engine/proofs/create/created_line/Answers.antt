use Rattle.std.proofs.Common.{◌≡◌, ◌∙◌, ◌++◌, ◌∷◌, [], List, ℕ, ap, rules, string_bytes}
use Rattle.std.specs.Prelude.{codes}
use Rattle.std.specs.Fmt.{decimal}
use Rattle.std.proofs.lemmas.Result.{IfOk-weaker}
use Rattle.hex.specs.Hex.{encode_lower}
use Rattle.stair_model.specs.Geometry.{block_count}
use Rattle.stair_engine.proofs.create.created_line.Goals as goal

-- the line of these digits and this number
abbrev line_of : List ℕ → ℕ → List ℕ
line_of digits blocks = codes "created " ++ (digits ++ (codes " blocks " ++ (decimal blocks ++ 10 ∷ [])))

pub returns : goal.returns
returns c =
    let g = c.args.geometry.now in
    let id : string_bytes c.in_ok-id.id ≡ encode_lower g.id = search rules in
    let blocks : c.blocks-2.result ≡ block_count g = c.blocks-2.ensures.value in
    IfOk-weaker c.format.result _ _ (λ line told.
    let is : string_bytes line ≡ line_of (string_bytes c.in_ok-id.id) c.blocks-2.result = told in
    is ∙ ap (λ digits. line_of digits c.blocks-2.result) id ∙ ap (line_of (encode_lower g.id)) blocks) c.format.ensures.ok
