-- the writer holds what it held
use Rattle.std.specs.Io.KnownBytes.{Keeps}
use Rattle.stair_rack.proofs.retry.write_retrying.Given as goal

abbrev pub invariant-loop : goal.invariant-loop
invariant-loop g l = Keeps (g.W.Write.contents l.initial.writer) (g.W.Write.contents l.writer)
