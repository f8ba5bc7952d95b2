-- The rows before this one were looked at.
use Rattle.stair_model.specs.CellSet.{IsCellSet}
use Rattle.stair_base.proofs.RestRows.{AreLeftBefore}
use Rattle.stair_base.proofs.sets.CellSet.rest.Given as goal

abbrev pub invariant-loop-row : goal.invariant-loop-row
invariant-loop-row l = record {
  well_formed : IsCellSet l.self;
  rows : AreLeftBefore l.geometry l.self.rows l.row l.rest-inside.rows;
}
