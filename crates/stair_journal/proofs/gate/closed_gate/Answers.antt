-- The first eight bytes are the copied ones, and those after them are zero.
use Rattle.std.proofs.Common.{◌≡◌, ℕ, List, ◌++◌, replicate, refl}
use Rattle.stair_journal.specs.Gate.{MAGIC, closed_gate}
use Rattle.stair_journal.proofs.gate.closed_gate.Goals as goal

copied : (front rest : List ℕ) → front ≡ MAGIC → rest ≡ replicate 504 0 → front ++ rest ≡ closed_gate
unfolding closed_gate
copied front rest first behind = λ i. first i ++ behind i

pub returns : goal.returns
returns c = copied c.copy_from_slice.new.self _ c.copy_from_slice.ensures.after refl
