-- A rebuild that is under way goes on where its slot is still rebuilt.
use Rattle.std.proofs.Common.{sym, ◌∙◌}
use Rattle.stair_array.proofs.RebuildingLemmas.{under_after}
use Rattle.stair_array.proofs.array.Array.stamp.Goals as goal

pub invariant_of-self : goal.invariant_of-self
invariant_of-self g c = (
  c.self.invariant.0 ∙ sym c.stamp-stamped.ensures.geometry,
  rw c.left_of-self-inside.ensures (under_after _ _ c.stamp-stamped.ensures.geometry _ c.self.invariant.1),
)
