-- The slot of an aim is below 32.
use Rattle.std.proofs.Common.{inl, inr}
use Rattle.stair_member.proofs.begin.aimed_whys.Goals as goal

pub bounds-aimed-from : goal.bounds-aimed-from
bounds-aimed-from c = rw c.from.ensures (c.requires _ (inl c.in-Admit.is))

pub bounds-aimed-from-in-Promote : goal.bounds-aimed-from-in-Promote
bounds-aimed-from-in-Promote c = rw c.from-in-Promote.ensures (c.requires _ (inr c.in-Promote.is))
