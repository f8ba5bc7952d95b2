-- Each law of lives.
use Rattle.stair_command.proofs.ExampleLaws.{is_example}
use Rattle.stair_command.proofs.LifeLaws.{acknowledged_is_made, acknowledged_is_read, content_is_explained, reads_agree, reads_are_explained, unwritten_stays}
use Rattle.stair_command.proofs.lives.life_laws.Goals as goal

pub returns : goal.returns
returns c = record {
  reads = reads_are_explained;
  content = content_is_explained;
  made = acknowledged_is_made;
  unwritten = unwritten_stays;
  acknowledged = acknowledged_is_read;
  settled = reads_agree;
  example = is_example;
}
