-- The wanted places were looked at.
use Rattle.std.proofs.Common.{◌<◌, length, arith}
use Rattle.std.specs.Prelude.{All}
use Rattle.stair_code_tests.proofs.solving.compare.Goals as goal

pub solve-requires-clause-wanted : goal.solve-requires-clause-wanted
solve-requires-clause-wanted g c =
    let below : All (λ p. p < length c.args.codeword.now) c.args.wanted.now = search (c.are_places-2.ensures.below) in
    record {
      below = λ k d in_wanted. omega (arith, c.requires.total, below k d in_wanted);
      distinct = search (c.are_places-2.ensures.distinct);
      unknown = search (c.are_unknown.ensures);
    }
