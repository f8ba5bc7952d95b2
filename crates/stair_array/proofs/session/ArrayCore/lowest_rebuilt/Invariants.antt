-- no slot below this one is rebuilt
use Rattle.std.proofs.Common.{ℕ, ◌<◌}
use Rattle.stair_invariant.specs.Session.{IsRebuiltIn}
use Rattle.stair_array.proofs.session.ArrayCore.lowest_rebuilt.Given as goal

abbrev pub invariant-loop-slot : goal.invariant-loop-slot
invariant-loop-slot l = (i : ℕ) → i < l.slot → ¬ IsRebuiltIn l.self.member i
