use Rattle.std.proofs.Common.{◌≡◌, length, ◌∙◌, arith, refl}
use Rattle.stair_image.proofs.SealLemmas.{put_mid-tag}
use Rattle.stair_image.proofs.seal.Goals as goal

pub returns : goal.returns
returns c =
    let long : length c.copy_from_slice.new.self ≡ 512 = omega arith in
    put_mid-tag c.copy_from_slice.new.self _ c.copy_from_slice-2.new.self long refl ∙ cc
