-- The laws are lemmas.
use Rattle.stair_volume_lives.proofs.LivesLaws.{lives_are_explained, made_is_zero, reads_agree, reads_are_last, written_is_read}
use Rattle.stair_volume_lives.proofs.lives.volume_lives.Goals as goal

pub returns : goal.returns
returns c = record {
  explained = lives_are_explained;
  last = reads_are_last;
  written = written_is_read;
  made = made_is_zero;
  settled = reads_agree;
}
