-- The marks so far were added.
use Rattle.stair_engine.proofs.MapLaws.{AddsErased}
use Rattle.stair_engine.proofs.map.add_erased.Given as goal

abbrev pub invariant-loop-slot : goal.invariant-loop-slot
invariant-loop-slot l = AddsErased l.initial.erased l.erased l.row l.slot l.marks
