-- The cells so far are stored.
use Rattle.stair_canon.specs.Kept.{shown}
use Rattle.stair_canon.proofs.Storing.{HasStored}
use Rattle.stair_canon.proofs.canon.Canon.store.Given as goal

abbrev pub invariant-loop-row : goal.invariant-loop-row
invariant-loop-row l = HasStored l.self-inside.geometry (shown l.self-inside) l.stripe l.row 0

abbrev pub invariant-loop-slot : goal.invariant-loop-slot
invariant-loop-slot l = HasStored l.self-inside.geometry (shown l.self-inside) l.stripe l.row l.slot
