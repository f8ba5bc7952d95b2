-- The laws are lemmas.
use Rattle.std.proofs.Common.{refl}
use Rattle.stair_state.specs.Redoing.{AtRest}
use Rattle.stair_invariant.proofs.DecidedLemmas.{decides, opens_as}
use Rattle.stair_invariant.proofs.RecoveryEndLemmas.{body_represents, closing_represents, finding_represents, first_represents, goes_on, replay_represents}
use Rattle.stair_invariant.proofs.StageFoundLemmas.{first_among, last_among}
use Rattle.stair_invariant.proofs.recovering.recovery_ends.Goals as goal

pub returns : goal.returns
returns c = record {
  fence = λ s m last answer before start old new found fences honest none tolerated.
      first_represents s m last answer before start old new found fences honest none tolerated;
  finding = λ s encodings a stage start before redo opened refusal x y found is geometry names honest none tolerated.
      finding_represents s encodings a stage start before x y is geometry names honest none tolerated redo opened refusal found;
  body = λ s encodings a stage start before redo body was into refusal x y found is geometry names honest none tolerated.
      body_represents s encodings a stage start before x y is geometry names honest none tolerated redo body was into refusal found;
  closing = λ s encodings a start before live refusal x y are does is geometry names honest none tolerated.
      closing_represents s encodings a AtRest start before x y is geometry names honest none tolerated refl live refusal are does;
  replaying = λ s encodings a stage start before redo opened stripe refusal x y run is told redoing at_stage cells geometry names honest none tolerated.
      replay_represents s encodings a stage start before x y is geometry names honest none tolerated redo opened stripe refusal told redoing at_stage cells
      run;
  words = λ old new first last between. (first_among between, last_among between);
  decides = decides;
  opens = λ s before x words content is session decided geometry none tolerated.
      opens_as s before x words content is session decided geometry none tolerated (goes_on s before x.told.history tolerated);
}
