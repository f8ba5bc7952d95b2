-- Each law is a lemma.
use Rattle.stair_state.proofs.BegunLemmas.{begins}
use Rattle.stair_state.proofs.CoverLemmas.{covers_all}
use Rattle.stair_state.proofs.MarkedLemmas.{held_since, marks_by_reasons}
use Rattle.stair_state.proofs.NamedLemmas.{names_content}
use Rattle.stair_state.proofs.OwnLemmas.{found_own}
use Rattle.stair_state.proofs.ShutLemmas.{found_shut}
use Rattle.stair_state.proofs.SurveyedLemmas.{finds_array}
use Rattle.stair_state.proofs.surveys.survey_laws.Goals as goal

pub returns : goal.returns
returns c = record {
  found = finds_array;
  covers = covers_all;
  begun = begins;
  marked = λ s before old new answer m surveys honest began stands none tolerated rules ok.
      marks_by_reasons s before old new answer m surveys honest began stands none tolerated ok rules;
  held = held_since;
  own = found_own;
  rebuilding = found_shut;
  content = names_content;
}
