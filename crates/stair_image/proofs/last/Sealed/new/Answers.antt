use Rattle.std.proofs.Common.{replicate, refl}
use Rattle.stair_image.proofs.SealLemmas.{sealed-again}
use Rattle.stair_image.proofs.last.Sealed.new.Goals as goal

pub invariant_of-result : goal.invariant_of-result
invariant_of-result c = sealed-again 0 (replicate 512 0) c.seal.result refl c.seal.ensures
