-- The laws are lemmas.
use Rattle.std.proofs.Common.{refl, None}
use Rattle.stair_invariant.proofs.LeavingOutLemmas.{left_out}
use Rattle.stair_invariant.proofs.RedoMoments.{leaving_moments, moments, says}
use Rattle.stair_invariant.proofs.RedoingLemmas.{left_in_session, phase, redo, way_begins, way_done, way_opens}
use Rattle.stair_invariant.proofs.redo.redo_laws.Goals as goal

pub returns : goal.returns
returns c = record {
  left_out = left_out;
  stays = left_in_session;
  leaving = leaving_moments;
  begins = way_begins;
  phase = λ a stripe stage to start x y redoing cells not_done over way.
      phase a redoing stripe cells start stage to x y not_done over way;
  ends = λ a stripe stage start x z redoing cells way run honest returned going.
      way_done a redoing stripe cells start stage None x z run honest refl way returned going;
  opens = way_opens;
  redo = redo;
  moments = moments;
  says = says;
}
