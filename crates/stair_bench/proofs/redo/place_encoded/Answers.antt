-- The cells are those of the stripe, which stays one of the geometry.
use Rattle.stair_bench.proofs.Redos.{redo_of_all}
use Rattle.stair_bench.proofs.redo.place_encoded.Goals as goal

pub redo_once-requires-clause-redo : goal.redo_once-requires-clause-redo
redo_once-requires-clause-redo g c =
    redo_of_all c.args.geometry.now c.cells.result c.cells.ensures.limits c.cells.ensures.members c.cells.ensures.well_formed
