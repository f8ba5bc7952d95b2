-- The laws are lemmas.
use Rattle.std.proofs.Common.{refl, None, sym, subst}
use Rattle.stair_model.specs.Geometry.{Geometry}
use Rattle.stair_journal.specs.Gates.{ReadsGates}
use Rattle.stair_invariant.proofs.FindsLemmas.{body_cells, body_recovering, body_told, body_whole, finds}
use Rattle.stair_invariant.proofs.SurveyFoundLemmas.{found_for}
use Rattle.stair_invariant.proofs.FirstEpochLemmas.{first_fencing, first_stood}
use Rattle.stair_invariant.proofs.GatesTellLemmas.{told_by}
use Rattle.stair_invariant.proofs.OpenAmidLemmas.{opened_amid}
use Rattle.stair_invariant.proofs.OpeningEndLemmas.{begins, ends, large_found, recovers}
use Rattle.stair_invariant.proofs.ReadOnLemmas.{lasts, recovering_beside}
use Rattle.stair_invariant.proofs.ReplayLemmas.{closes, replays, rest_opens}
use Rattle.stair_invariant.proofs.RedoingLemmas.{way_opens}
use Rattle.stair_invariant.proofs.openings.opening_laws.Goals as goal

pub returns : goal.returns
returns c = record {
  found = found_for;
  fences = λ m last answer old new h e begun honest at none. first_fencing m last answer old new h e begun honest at none;
  stood = λ m last fallen old new e begun honest none. first_stood m last fallen old new e begun honest none;
  begins = λ s m last before old mid new gone found st going. begins s m last before old mid new found gone st going;
  large = λ s m last before old mid new gone j found st going used. large_found s m last before old mid new found gone st going j used;
  amid = λ s m last before old mid new gone found st going. opened_amid s m last before old mid new found gone st going;
  ends = λ s m last before old mid new gone found st going tolerated. ends s m last before old mid new found gone st going tolerated;
  recovers = λ s m last before old mid new gone found st going tolerated.
      recovers s m last before old mid new found gone st going tolerated;
  beside = λ a stage old_words new_words start m old new is ran none.
      recovering_beside a stage old_words new_words start m old new ran none is;
  leaves = λ a stage old_words new_words start gone x y out is here honest none going.
      (lasts a stage old_words new_words start gone x y is here honest none going out).recovering;
  located = λ a stage old_words new_words before start m live gates old new is are reads honest none all tolerated.
      let tells =
      told_by a stage old_words new_words before start m live gates old new is are
      (subst (λ (g : Geometry). ReadsGates g live gates old new) (sym is.way.geometry) reads) honest none all tolerated in
      (tells.stage, tells.recovering, tells.told);
  finds = λ a stage old_words new_words before start redo opened x y found is honest none going tolerated.
      let tells = finds a stage old_words new_words before start redo opened None x y found refl is honest none going tolerated in
      (tells.stage, tells.recovering, tells.told);
  body = λ a stage old_words new_words before start redo opened body was into x y found is told redoing at_stage honest none going tolerated.
      let whole = body_whole a stage old_words new_words before start body was into x y found is redoing at_stage honest none going tolerated in (
        body_recovering a stage old_words new_words before start body was into x y found is redoing at_stage honest none going,
        body_told a stage old_words new_words before start body was into x y found is redoing at_stage honest none going redo opened told,
        whole,
        body_cells a stage old_words new_words before start body was into x y found is redoing at_stage honest none going whole,
      );
  closes = λ a start live x y are does way honest none going.
      let now = closes a start live x y are does way honest none going in (now, rest_opens a start y.member y.told.history now);
  replays = λ a stage old_words new_words start redo opened stripe x y is told redoing at_stage cells run honest none going.
      let now = replays a stage old_words new_words start redo opened stripe None x y is told redoing at_stage cells run refl honest none going in
      (now, way_opens a start y.member y.told.history now);
}
