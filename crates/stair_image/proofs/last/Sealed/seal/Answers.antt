use Rattle.std.proofs.Common.{◌≡◌, length, arith}
use Rattle.stair_image.proofs.SealLemmas.{sealed-again}
use Rattle.stair_image.proofs.last.Sealed.seal.Goals as goal

pub invariant_of-self : goal.invariant_of-self
invariant_of-self c =
    let long : length c.args.payload.now ≡ 512 = omega arith in
    sealed-again c.args.number c.args.payload.now c.seal-self-inside.result long c.seal-self-inside.ensures
