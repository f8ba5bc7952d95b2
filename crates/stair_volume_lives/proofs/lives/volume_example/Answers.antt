-- The laws are lemmas.
use Rattle.stair_volume_lives.proofs.ExampleLaws.{each_is_read_again, either_is_lived}
use Rattle.stair_volume_lives.proofs.lives.volume_example.Goals as goal

pub returns : goal.returns
returns c = record { either = either_is_lived; again = each_is_read_again }
