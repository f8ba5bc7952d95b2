-- The epoch, or its refusal.
use Rattle.stair_array.proofs.MendingLemmas.{stamp_refused, stamped}
use Rattle.stair_array.proofs.session.ArrayCore.stamp.Goals as goal

pub returns-in-Ok-clause-does : goal.returns-in-Ok-clause-does
returns-in-Ok-clause-does g c = stamped _ _ _ _ _ _ _ c.in-Ok.ensures.does

pub returns-in-Err-clause-does : goal.returns-in-Err-clause-does
returns-in-Err-clause-does g c = stamp_refused _ _ _ _ _ _ _ _ c.from.ensures c.in-Err.ensures.does
