-- A rebuild is under way by the rules.
use Rattle.stair_array.proofs.array.Array.geometry.Goals as goal

pub returns-clause-under : goal.returns-clause-under
returns-clause-under g c = rw (← c.self.view_is) c.self.invariant.1
