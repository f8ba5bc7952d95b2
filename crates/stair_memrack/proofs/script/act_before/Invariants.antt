-- the acts below the index were done
use Rattle.stair_memrack.proofs.ActLemmas.{ActsDone}
use Rattle.stair_memrack.proofs.script.act_before.Given as goal

abbrev pub invariant-loop-index : goal.invariant-loop-index
invariant-loop-index l =
    ActsDone l.call l.index l.acts.items l.initial.places.items l.initial.stopped l.places.items l.stopped l.blanks.items
