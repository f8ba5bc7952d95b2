-- The laws are lemmas.
use Rattle.stair_model.specs.Slots.{HasSlot}
use Rattle.stair_state.proofs.CommitLemmas.{begun, committed, placed}
use Rattle.stair_state.proofs.CertainLemmas.{certain, torn}
use Rattle.stair_state.proofs.redos.redo_laws.Goals as goal

pub returns-clause-begun : goal.returns-clause-begun
returns-clause-begun c = λ g old new image live. begun g image (HasSlot live) old new

pub returns-clause-committed : goal.returns-clause-committed
returns-clause-committed c = λ g old new image live redo. committed g image (HasSlot live) old new redo

pub returns-clause-placed : goal.returns-clause-placed
returns-clause-placed c = λ g words image live stage. placed g image (HasSlot live) words stage

pub returns-clause-certain : goal.returns-clause-certain
returns-clause-certain c = λ g words image live. certain g (HasSlot live) image words

pub returns-clause-torn : goal.returns-clause-torn
returns-clause-torn c = λ g old new image live t i j. torn g (HasSlot live) image old new t i j
