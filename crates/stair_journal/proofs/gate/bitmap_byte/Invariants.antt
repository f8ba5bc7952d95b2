-- The bits above this place.
use Rattle.std.proofs.Common.{◌≡◌, ◌+◌, ◌-◌, ◌*◌, ◌^◌, cond}
use Rattle.stair_model.specs.Sum.{sum_below}
use Rattle.stair_journal.specs.Gate.{has_number}
use Rattle.stair_journal.proofs.gate.bitmap_byte.Given as goal

abbrev pub invariant-loop-p : goal.invariant-loop-p
invariant-loop-p l = l.byte ≡ sum_below l.p (λ p. cond (has_number l.geometry l.cells (8 * l.q + p)) (2 ^ (7 - p)) 0)
