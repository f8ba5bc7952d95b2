-- the slots so far are as they were, but for what they hold
use Rattle.stair_filerack.proofs.RackLemmas.{AreHeldAlone, rack_of}
use Rattle.stair_filerack.proofs.rack.FileRack.open_all.Given as goal

abbrev pub invariant-loop-slot : goal.invariant-loop-slot
invariant-loop-slot g l = AreHeldAlone l.fn.self (rack_of l.self-inside.access l.self-inside.bads l.self-inside.slots.items)
