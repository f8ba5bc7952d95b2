use Rattle.std.proofs.Common.{◌≡◌, ◌∙◌, append_assoc}
use Rattle.std.specs.String.{string_bytes}
use Rattle.std.proofs.lemmas.Result.{IfOk-weaker}
use Rattle.stair_filerack.specs.Slot.{path_of}
use Rattle.stair_filerack.proofs.rack.path_of.Goals as goal

pub returns : goal.returns
returns c =
    IfOk-weaker c.format.result _ (λ path. string_bytes path ≡ path_of c.args.folder.now c.args.slot)
    (λ path wrote. wrote ∙ simp append_assoc) c.format.ensures.ok
