-- The symbols that are read stand in memory, and those that were solved are known.
use Rattle.std.proofs.Common.{refl, sym, subst, take}
use Rattle.stair_canon.specs.Along.{FillsIn}
use Rattle.stair_canon.specs.Canonical.{KnownSymbols}
use Rattle.stair_canon.proofs.SolvedLines.{SolvesKnown-from}
use Rattle.stair_canon.proofs.known.KnownSymbols.solve.Goals as goal

pub returns-clause-solved : goal.returns-clause-solved
returns-clause-solved g c =
    SolvesKnown-from c.args.codes.now c.args.line c.args.known.now c.args.wanted.now c.count_to_read-read.result c.args.self.now
    _ (record { memory = c.solve_along.new.work; known = c.self.inside.known.items }) c.make_known.new.self
    c.count_to_read-read.ensures.some c.count_to_read-read.ensures.rest
    (subst (λ (s : KnownSymbols). FillsIn c.args.line (take c.count_to_read-read.result c.args.known.now) c.args.self.now s) (sym c.self.view_is)
    c.fill_in.ensures)
    c.solve_along.ensures.solved refl c.make_known.ensures
