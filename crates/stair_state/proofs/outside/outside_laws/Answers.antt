-- The laws are lemmas.
use Rattle.stair_state.proofs.AloneLemmas.{left_consistent}
use Rattle.stair_state.proofs.OutsideLemmas.{tolerated_alone, looks_stand}
use Rattle.stair_state.proofs.HoldingLemmas.{consistent_by}
use Rattle.stair_state.proofs.ReturnLemmas.{looked_consistent}
use Rattle.stair_state.proofs.outside.outside_laws.Goals as goal

pub returns-clause-alone : goal.returns-clause-alone
returns-clause-alone c = tolerated_alone

pub returns-clause-still : goal.returns-clause-still
returns-clause-still c = λ s before old new history stands ran none tolerated. looks_stand s before old new stands ran none tolerated

pub returns-clause-consistent : goal.returns-clause-consistent
returns-clause-consistent c = λ s old new history consistent ran. looked_consistent s old new consistent ran

pub returns-clause-however : goal.returns-clause-however
returns-clause-however c = λ s h it.
    (it.is.encodings, λ image left. consistent_by s it.is.encodings it.current_media it.since image (it.is.each image left))

pub returns-clause-made : goal.returns-clause-made
returns-clause-made c = left_consistent
