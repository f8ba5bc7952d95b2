-- the slots below this one are live since epoch 1
use Rattle.std.proofs.Common.{◌≡◌, ◌-◌, ◌++◌, replicate}
use Rattle.stair_super.specs.declared.mark.Mark.TheVariants.{Live, Down}
use Rattle.stair_array.proofs.new_device.first_configuration.Given as goal

abbrev pub invariant-loop-slot : goal.invariant-loop-slot
invariant-loop-slot l = record {
  marked : l.marks ≡ replicate l.slot Live ++ replicate (32 - l.slot) Down;
  joined : l.joins ≡ replicate l.slot 1 ++ replicate (32 - l.slot) 0;
}
