-- A row more, and all of them.
use Rattle.std.proofs.Common.{ap, arith}
use Rattle.stair_up.proofs.Finds.{Keeps-both}
use Rattle.stair_up.proofs.LightRows.{FindsLightRowsBefore-heavy, FindsLightRowsBefore-more, FindsLightRows-all}
use Rattle.stair_up.proofs.light_rows.solve_light_rows.Goals as goal
use Rattle.stair_up.proofs.light_rows.solve_light_rows.Goals.{then-count-m, else-count-m}

pub loop-row-preserved : goal.loop-row-preserved
loop-row-preserved g c =
    let before = c.loop-row.invariant in
    let here = c.geometry-geometry.ensures in
    elim c.if-count-m.branch [
      | then-count-m w ↦
          record {
            kept = rw w.canon-is (Keeps-both _ _ _ _ before.kept w.solve_light_row.ensures.kept);
            found = rw w.canon-is (FindsLightRowsBefore-more c.args.erased.now c.loop-row.row c.args.canon.now c.loop-row.canon before.kept.geometry
                before.found w.solve_light_row.new.canon w.solve_light_row.ensures.found);
          }
      | else-count-m w ↦
          record {
            kept = rw w.canon-is before.kept;
            found = rw w.canon-is (FindsLightRowsBefore-heavy c.args.erased.now c.loop-row.row c.args.canon.now c.loop-row.canon before.kept.geometry
                before.found (omega (arith, w.if-count-m.false, c.m.ensures.value, ap (λ x. x.m) here, c.count_in_row-count.ensures.value)));
          }
    ]

pub returns-clause-found : goal.returns-clause-found
returns-clause-found g c =
    FindsLightRows-all c.args.erased.now c.loop-row.row c.args.canon.now c.loop-row.canon c.loop-row.invariant.kept.geometry
    c.loop-row.invariant.found
    (omega (arith, c.loop-row-test.false, c.r-row-end.ensures.value, ap (λ x. x.r) c.geometry-geometry.ensures))
