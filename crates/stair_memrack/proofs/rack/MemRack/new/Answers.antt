-- It is made over blank media.
use Rattle.std.proofs.Common.{[], ◌∷◌, ap, ◌∙◌}
use Rattle.std.proofs.lemmas.Result.{IfOk-weaker}
use Rattle.stair_rack.specs.History.{Made}
use Rattle.stair_memrack.specs.Record.{history_of}
use Rattle.stair_memrack.proofs.NewLemmas.{blank_image-over}
use Rattle.stair_memrack.proofs.rack.MemRack.new.Goals as goal

pub returns-clause-made : goal.returns-clause-made
returns-clause-made c =
    IfOk-weaker c.over.result _ _
    (λ s is.
    ap history_of is
    ∙ ap (λ image. Made image ∷ []) (blank_image-over c.args.media c.args.sectors c.in_ok-blank_origins.field-0.items c.requires c.in_ok-blank_origins.ensures))
    c.over.ensures
