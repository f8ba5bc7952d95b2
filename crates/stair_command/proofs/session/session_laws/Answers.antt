-- Each law, by the induction on traces.
use Rattle.stair_command.proofs.DrawnLaws.{drawn_few, drawn_within, spent_at_the_end}
use Rattle.stair_command.proofs.KeptLaws.{none_is_given_up, none_is_left_out}
use Rattle.stair_command.proofs.LeftOutLaws.{left_out_by_none}
use Rattle.stair_command.proofs.LiveLaws.{live_slots_kept, live_slots_stay}
use Rattle.stair_command.proofs.RebuiltLaws.{chunks_in_order, runs_are_whole}
use Rattle.stair_command.proofs.session.session_laws.Goals as goal

pub returns : goal.returns
returns g c = record {
  kept = λ view trace old new works first last j. none_is_given_up view j trace old new works first last;
  opened = λ view trace old new works first last j. none_is_left_out view j trace old new works first last;
  stays = live_slots_stay _ _;
  live = live_slots_kept _ _;
  left_out = left_out_by_none _ _;
  rebuilt = chunks_in_order;
  whole = runs_are_whole;
  drawn = drawn_few;
  within = drawn_within;
  spent = spent_at_the_end;
}
