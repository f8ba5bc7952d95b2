-- The symbols of a row lie one after another.
use Rattle.std.proofs.Common.{◌*◌, ap, arith}
use Rattle.stair_canon.proofs.Grid.{number_in}
use Rattle.stair_canon.proofs.canon.Canon.row.Goals as goal

pub returns-clause-within : goal.returns-clause-within
returns-clause-within c =
    let g = c.args.self.now.geometry in
    record {
      apart = omega arith;
      within = λ p p_in.
          omega (
            arith,
            number_in g c.args.row p c.requires p_in,
            ap (λ w. c.args.row * w) c.columns.ensures.value,
            c.columns.ensures.well_formed.count,
          );
    }
