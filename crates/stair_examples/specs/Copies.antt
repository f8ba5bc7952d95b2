-- A device that was restored from a backup, in an array that is otherwise in order.
use Rattle.std.specs.Prelude.{◌==◌, ℕ, List, [], ◌∷◌, if◌then◌else◌}
use Rattle.stair_rack.specs.History.{Made}
use Rattle.stair_rack.specs.Media.{Image}
use Rattle.stair_super.specs.declared.configuration.Configuration.{Configuration}
use Rattle.stair_super.specs.declared.mark.Mark.TheVariants.{Live}
use Rattle.stair_member.specs.Editions.{Edition}
use Rattle.stair_copies.specs.Copies.{IsOlderCopy}
use Rattle.stair_state.specs.Holding.{IsConsistentUnderReassembly}
use Rattle.stair_state.specs.State.{created_state, without_seats}
use Rattle.stair_reinsert.specs.Misled.{five, naming, rack_of}
use Rattle.stair_reinsert_examples.specs.Refused.{all_live}
use Rattle.stair_examples.specs.Arrays.{zero_words}

-- epoch 5, in which all five devices are live, as they were in epoch 4
abbrev pub fifth : Configuration
fifth = naming 5 (Live ∷ Live ∷ Live ∷ Live ∷ Live ∷ []) (1 ∷ 1 ∷ 1 ∷ 1 ∷ 1 ∷ [])

-- All five devices had epoch 5. Then that of slot 3 was restored from a backup of epoch 4.
abbrev pub restored : ℕ → Edition
restored j = if j == 3 then all_live else record { array = fifth; draw = 5 }

abbrev pub restored_rack : Image
restored_rack = rack_of zero_words restored

-- The restored device is an older copy, and no other one is. The rack is still an array in a state, however its media
-- lie: a state asks nothing of the superblocks of m devices. Only what a call does to a rack can guarantee that there
-- is no older copy.
pub record ExamplesOfIsOlderCopy : Type 0 where
  pub holds : IsOlderCopy fifth 3 ((restored_rack 3).cell)
  pub fails : ¬ IsOlderCopy fifth 0 ((restored_rack 0).cell)
  pub consistent : IsConsistentUnderReassembly (without_seats (created_state five)) (Made restored_rack ∷ [])
