use Rattle.std.proofs.Common.{ℕ, refl, arith}
use Rattle.std.proofs.lemmas.List.{length-replicate}
use Rattle.stair_super.specs.Spelling.{zeros}
use Rattle.stair_super.proofs.page.Page.new.Goals as goal

pub invariant_of-result : goal.invariant_of-result
unfolding zeros
invariant_of-result c = record { fits = omega arith; whole = length-replicate {A = ℕ} 512 0; rest = refl }
