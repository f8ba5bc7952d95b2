-- The laws are lemmas on the racks that right bodies leave.
use Rattle.stair_reinsert_examples.proofs.AllowedEpochs as epochs
use Rattle.stair_reinsert_examples.proofs.AllowedWrite as write
use Rattle.stair_reinsert_examples.proofs.examples.allowed_laws.Goals as goal

pub returns-clause-drawn : goal.returns-clause-drawn
returns-clause-drawn c = λ words encoded. epochs.drawn_allowed words encoded

pub returns-clause-dropped : goal.returns-clause-dropped
returns-clause-dropped c = λ before now encoded. epochs.dropped_allowed before now encoded

pub returns-clause-doubted : goal.returns-clause-doubted
returns-clause-doubted c = λ old new first second old_are new_are. write.doubted_consistent old new first second old_are new_are

pub returns-clause-late : goal.returns-clause-late
returns-clause-late c = λ old new encoded. write.late_allowed old new encoded
