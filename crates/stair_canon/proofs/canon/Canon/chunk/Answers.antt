-- The symbols of a chunk lie a row apart.
use Rattle.std.proofs.Common.{◌*◌, ap, arith}
use Rattle.stair_canon.proofs.Grid.{number_in}
use Rattle.stair_canon.proofs.canon.Canon.chunk.Goals as goal

pub returns-clause-within : goal.returns-clause-within
returns-clause-within c =
    let g = c.args.self.now.geometry in
    record {
      apart = omega (arith, c.requires, c.columns.ensures.value);
      within = λ p p_in.
          omega (
            arith,
            number_in g p c.args.column p_in c.requires,
            ap (λ w. w * p) c.columns.ensures.value,
            c.columns.ensures.well_formed.count,
          );
    }

pub returns-clause-along : goal.returns-clause-along
returns-clause-along c p = omega (arith, ap (λ w. w * p) c.columns.ensures.value)
