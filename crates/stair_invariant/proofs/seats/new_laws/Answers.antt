-- The laws are lemmas.
use Rattle.stair_invariant.proofs.NewKnownLemmas.{in_session, represents_created, tolerated}
use Rattle.stair_invariant.proofs.NewSessionLemmas.{all_here, new_content, new_state, not_empty, opens_new}
use Rattle.stair_invariant.proofs.seats.new_laws.Goals as goal

pub returns : goal.returns
returns c = record {
  opens = opens_new;
  not_empty = not_empty;
  in_session = in_session;
  all_here = all_here;
  tolerated = tolerated;
  created = λ g epoch limits. (new_content g epoch limits, new_state g epoch);
  represents = represents_created;
}
