-- A class more, in a row above its global parities or in one of theirs.
use Rattle.std.proofs.Common.{◌<◌, arith}
use Rattle.stair_model.specs.Geometry.{classes}
use Rattle.stair_down.proofs.RowPlaces.{HasPairs-above, HasPairs-below}
use Rattle.stair_down.proofs.places.row_places.Goals as goal
use Rattle.stair_down.proofs.places.row_places.Goals.{then-row-r, else-row-r}

pub loop-class-preserved : goal.loop-class-preserved
loop-class-preserved c =
    let g = c.args.geometry.now in
    let class = c.loop-class.class in
    let within : class < classes g = omega (arith, c.loop-class-test.true, c.classes-class-end.ensures.value) in
    elim c.if-row-r.branch [
      | then-row-r w ↦
          rw (w.known-is, w.wanted-is)
          (HasPairs-below g c.args.row c.loop-class.known c.loop-class.wanted class within c.loop-class.invariant
          w.from-then-row-r-2.result w.from-then-row-r.result w.from-then-row-r-4.result w.from-then-row-r-3.result
          (omega (arith, w.from-then-row-r-2.ensures, c.n.ensures.value, c.m-parities.ensures.value, c.classes.ensures.value))
          (omega (arith, w.from-then-row-r.ensures, w.n-then-row-r.ensures.value))
          (omega (arith, w.from-then-row-r-4.ensures, c.m-parities.ensures.value))
          (omega (arith, w.from-then-row-r-3.ensures, c.n.ensures.value, c.m-parities.ensures.value, c.classes.ensures.value))
          (omega (arith, w.if-row-r.true, c.r.ensures.value, c.coverage.ensures.value)))
      | else-row-r w ↦
          rw (w.known-is, w.wanted-is)
          (HasPairs-above g c.args.row c.loop-class.known c.loop-class.wanted class within c.loop-class.invariant
          (omega (arith, w.if-row-r.false, c.r.ensures.value, c.coverage.ensures.value)))
    ]
