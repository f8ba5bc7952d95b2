-- The laws are lemmas on the three histories.
use Rattle.stair_reinsert_examples.proofs.CutFences as fences
use Rattle.stair_reinsert_examples.proofs.CutPromotion as promotion
use Rattle.stair_reinsert_examples.proofs.FenceSurvey as fence
use Rattle.stair_reinsert_examples.proofs.FencesSurvey as fences_survey
use Rattle.stair_reinsert_examples.proofs.PromotionSurvey as promotion_survey
use Rattle.stair_reinsert.proofs.SurveyLemmas.{not_misled}
use Rattle.stair_reinsert_examples.proofs.examples.misled_laws.Goals as goal

pub returns-clause-counted : goal.returns-clause-counted
returns-clause-counted c = λ words encoded. (promotion_survey.misled words encoded, promotion.counted words)

pub returns-clause-worst : goal.returns-clause-worst
returns-clause-worst c = λ words encoded. (fence.misled words encoded, fence.tolerated_worst words)

pub returns-clause-taken : goal.returns-clause-taken
returns-clause-taken c = λ words encoded. (fences_survey.misled words encoded, fences.counted words, fences.none_returned words)

pub returns-clause-mixed : goal.returns-clause-mixed
returns-clause-mixed c = λ image new misled tolerated. not_misled image new misled tolerated
