use Rattle.stair_model.specs.Geometry.{HasSize}
use Rattle.stair_model.proofs.LimitLaws.{none_broken, one_limit, within_or_broken, size_from, usual_size, small_decides, block_count_few}
use Rattle.stair_model.proofs.geometry.limit_laws.Goals as goal

pub returns : goal.returns
returns c =
    record {
      some = within_or_broken;
      not_both = none_broken;
      one = λ g. one_limit (HasSize g) g;
      size = size_from;
      usual = usual_size;
      small = small_decides;
      few = block_count_few;
    }
