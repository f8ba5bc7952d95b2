-- those of the acts below the index
use Rattle.std.proofs.Common.{◌≡◌, map, take}
use Rattle.stair_memrack.specs.Shelf.{blank_for}
use Rattle.stair_memrack.proofs.rack.blanks.Given as goal

abbrev pub invariant-loop-act : goal.invariant-loop-act
invariant-loop-act l = l.blanks.items ≡ map (λ act. blank_for act.what) (take l.act-index l.script)
