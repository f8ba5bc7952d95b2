-- The laws are lemmas.
use Rattle.std.proofs.Common.{refl}
use Rattle.stair_state.specs.Redoing.{AtRest}
use Rattle.stair_invariant.proofs.StandsWithinLemmas.{body_stands, closing_stands, finding_stands, replay_stands, stands_now}
use Rattle.stair_invariant.proofs.recovering.recovery_moments.Goals as goal

pub returns : goal.returns
returns c = record {
  now = stands_now;
  finding = λ s encodings a stage start redo opened refusal x y found is geometry names honest.
      finding_stands s encodings a stage start x is geometry names redo opened refusal y found honest;
  body = λ s encodings a stage start redo body was into refusal x y found is geometry names honest.
      body_stands s encodings a stage start x is geometry names redo body was into refusal y found honest;
  closing = λ s encodings a start live refusal x y are does is geometry names honest.
      closing_stands s encodings a AtRest start x is geometry names refl live refusal y are does honest;
  replaying = λ s encodings a stage start redo opened stripe refusal x y run is told redoing at_stage cells geometry names honest.
      replay_stands s encodings a stage start x is geometry names redo opened stripe refusal y told redoing at_stage cells run honest;
}
