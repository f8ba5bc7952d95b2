-- The laws are lemmas.
use Rattle.stair_invariant.proofs.StaysArrayLemmas.{body_stays, fence_stays, found_stays, left_stays, replay_stays, stage_stays}
use Rattle.stair_invariant.proofs.recovering.recovery_stays.Goals as goal

pub returns : goal.returns
returns c = record {
  fence = λ leaving answer x y fences rules. fence_stays leaving x y answer fences rules;
  left = left_stays;
  finding = found_stays;
  body = body_stays;
  stage = stage_stays;
  replaying = replay_stays;
}
