-- Each by what a crash may leave of a superblock place.
use Rattle.stair_command.proofs.BoundedArrayLaws.{calls_of_array}
use Rattle.stair_command.proofs.BoundedCallLaws.{calls_bounded}
use Rattle.stair_command.proofs.BoundedLaws.{epochs_bounded}
use Rattle.stair_command.proofs.BoundedStepLaws.{stays_in_step}
use Rattle.stair_command.proofs.BoundedTraceLaws.{traces_bounded, traces_within}
use Rattle.stair_command.proofs.draws.draw_laws.Goals as goal

pub returns : goal.returns
returns g c = record {
  epochs = epochs_bounded;
  steps = stays_in_step;
  bounded = λ view trace old new works first most from. traces_bounded _ _ view trace old new works first most from;
  within = λ view trace old new works first most from slots.
      traces_within _ _ view trace old new works first most from slots;
  calls = λ view trace old new works array most honest begun bounded of.
      calls_bounded _ _ view trace old new works array most honest begun bounded of;
  alone = λ view s trace old new works stands. calls_of_array _ _ view s trace old new works stands;
}
