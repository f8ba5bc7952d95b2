-- The laws are lemmas.
use Rattle.stair_lives.proofs.AmidCalls.{calm_amid}
use Rattle.stair_lives.proofs.LeftOutAgain.{left_out_again}
use Rattle.stair_lives.proofs.OpenedWithout.{each_opens_amid, each_opens_without}
use Rattle.stair_lives.proofs.stale.stale_example.Goals as goal

pub returns : goal.returns
returns c = record {
  left_out = λ now words encoded agree. left_out_again words now encoded agree;
  opened = λ now words encoded agree. each_opens_without words now encoded agree;
  amid = λ words. calm_amid words;
  opened_amid = λ now words encoded agree. each_opens_amid words now encoded agree;
}
