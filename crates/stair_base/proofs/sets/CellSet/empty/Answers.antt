-- No row has a slot.
use Rattle.stair_model.proofs.SetLaws.{IsCellSet-none, HasCell-none}
use Rattle.stair_base.proofs.sets.CellSet.empty.Goals as goal

pub invariant_of-result : goal.invariant_of-result
invariant_of-result c = IsCellSet-none c.empty.result c.empty.ensures.well_formed

pub returns-clause-none : goal.returns-clause-none
returns-clause-none c = HasCell-none c.empty.result c.empty.ensures.none

pub returns-clause-well_formed : goal.returns-clause-well_formed
returns-clause-well_formed c = invariant_of-result c
