-- A set has a cell exactly where it is counted.
use Rattle.std.proofs.Common.{ltb-true, arith}
use Rattle.std.proofs.lemmas.Bool.{lt-ltb}
use Rattle.stair_model.proofs.SetLaws.{cell_count_member}
use Rattle.stair_journal.proofs.ReadGateLemmas.{cell_counted}
use Rattle.stair_journal.proofs.gate.is_redo.Goals as goal

pub returns-then-redo-stripes : goal.returns-then-redo-stripes
returns-then-redo-stripes c = (
  λ above.
      let cell = cell_count_member c.args.redo.now.cells (omega (arith, ltb-true, c.count.ensures.value)) in
      record {
        stripe_in = omega (arith, c.stripes.ensures.value);
        formed = c.requires.formed;
        inside = c.requires.inside;
        row = cell.0;
        slot = cell.1;
        some = cell.4;
      },
  λ of.
      let inside = of.inside of.row of.slot of.some in
      let counted = cell_counted c.args.redo.now.cells of.row of.slot (omega (arith, inside.0, c.stripes.ensures.limits.rows.1)) (omega (arith, inside.1, c.stripes.ensures.limits.devices.1)) of.some in
      lt-ltb _ _ (omega (arith, c.count.ensures.value)),
)
