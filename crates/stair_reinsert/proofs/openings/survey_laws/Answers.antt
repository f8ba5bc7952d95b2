-- The laws are lemmas.
use Rattle.stair_reinsert.proofs.KnownLemmas.{covers, known, was_surveyed}
use Rattle.stair_reinsert.proofs.SurveyLemmas.{finds}
use Rattle.stair_reinsert.proofs.openings.survey_laws.Goals as goal

pub returns-clause-finds : goal.returns-clause-finds
returns-clause-finds c = λ g before old new answer surveys honest began tolerated. finds before old new answer surveys honest began g tolerated

pub returns-clause-covers : goal.returns-clause-covers
returns-clause-covers c = λ s current_media since before old new answer m surveys honest began consistent tolerated answered.
    covers (was_surveyed answer surveys honest began consistent tolerated answered)

pub returns-clause-known : goal.returns-clause-known
returns-clause-known c = λ s current_media since before old new answer m surveys honest began consistent tolerated answered.
    known (was_surveyed answer surveys honest began consistent tolerated answered)
