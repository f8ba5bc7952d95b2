use Rattle.std.proofs.Common.{arith}
use Rattle.stair_journal.proofs.ReadGateLemmas.{bitmap_whole}
use Rattle.stair_journal.proofs.gate.bitmap.Goals as goal

pub returns : goal.returns
returns c =
    bitmap_whole c.args.geometry.now c.args.cells.now c.loop-q.bitmap c.loop-q.invariant.sized
    (λ k below. c.loop-q.invariant.written k (omega arith))
