-- The laws are lemmas on the racks that wrong bodies leave.
use Rattle.stair_reinsert_examples.proofs.RefusedEpochs as epochs
use Rattle.stair_reinsert_examples.proofs.RefusedSteps as steps
use Rattle.stair_reinsert_examples.proofs.RefusedWithin as within
use Rattle.stair_reinsert_examples.proofs.RefusedWrite as write
use Rattle.stair_reinsert_examples.proofs.examples.refused_laws.Goals as goal

pub returns-clause-undrawn : goal.returns-clause-undrawn
returns-clause-undrawn c = λ words. (within.undrawn_within words, epochs.names_two words, epochs.undrawn_refused words)

pub returns-clause-misjoined : goal.returns-clause-misjoined
returns-clause-misjoined c = λ before now. (within.misjoined_within before now, epochs.joins_two before now, epochs.misjoined_refused before now)

pub returns-clause-early : goal.returns-clause-early
returns-clause-early c = λ old new first second old_are new_are other.
    (within.writing_within old new, write.early_refused old new first second old_are new_are other)

pub returns-clause-moments : goal.returns-clause-moments
returns-clause-moments c = λ image step answer m x y before c s refused leads honest history state moment calm left.
    steps.not_left image step answer m x y before c s refused leads honest history state moment calm left

pub returns-clause-done : goal.returns-clause-done
returns-clause-done c = λ image step given m x y before s refused leads honest history ends state calm left.
    steps.not_settled image step given m x y before s refused leads honest history ends state calm left
