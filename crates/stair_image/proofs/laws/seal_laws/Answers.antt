use Rattle.std.proofs.Common.{◌≡◌, ◌++◌, ap, sym, ◌∙◌}
use Rattle.stair_image.specs.Seal.{tag_of, payload_in}
use Rattle.stair_image.proofs.SealLemmas.{payload_in-append, tag_in-append, sealed-payload_in}
use Rattle.stair_image.proofs.laws.seal_laws.Goals as goal

pub returns-clause-unseals : goal.returns-clause-unseals
returns-clause-unseals c number payload long =
    let its_tag = tag_of number payload in
    let parted : payload_in (payload ++ its_tag) ≡ payload = payload_in-append payload its_tag long in
    (tag_in-append payload its_tag long ∙ ap (tag_of number) (sym parted), parted)

pub returns-clause-only : goal.returns-clause-only
returns-clause-only c = sealed-payload_in

pub returns-clause-other_tag : goal.returns-clause-other_tag
returns-clause-other_tag c number payload tag long differs is_sealed =
    differs (sym (tag_in-append payload tag long) ∙ is_sealed ∙ ap (tag_of number) (payload_in-append payload tag long))
