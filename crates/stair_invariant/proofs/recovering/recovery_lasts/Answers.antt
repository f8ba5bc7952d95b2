-- The laws are lemmas.
use Rattle.std.proofs.Common.{refl, None}
use Rattle.stair_invariant.proofs.OpenCourseLemmas.{body_lasts, finding_lasts, gates_last, opens_with, replay_lasts}
use Rattle.stair_invariant.proofs.recovering.recovery_lasts.Goals as goal

pub returns : goal.returns
returns c = record {
  finding = λ before redo opened x y found is honest none going.
      finding_lasts before redo opened None x y found refl honest none going is;
  body = λ before redo body was into x y found is honest none going. body_lasts before redo body was into x y found honest none going is;
  gates = λ before gate to x y live does is honest none going. gates_last before gate to x y live does honest none going is;
  replaying = λ before a opened stripe x y run redoing cells same is honest none going.
      replay_lasts before a redoing stripe cells x.told.history opened None x y run refl same honest none going is;
  opens = opens_with;
}
