-- A life of two blocks of one stripe: a write of both that a crash cuts, and a read of each in the next session.
use Rattle.std.specs.Prelude.{ℕ, List, ◌∷◌}
use Rattle.stair_state.specs.Blocks.{zero_block}
use Rattle.stair_state.specs.State.{State, created_state, first_content}
use Rattle.stair_command.specs.LifeExample.{LeftNew, block_of, cut_write, example_geometry, first_session, held_after, open_with, opening}
use Rattle.stair_command.specs.Lives.{Ended, Lives, Turn, read_of}

-- the newest turn first: what block 1 reads as, and before it block 0
abbrev pub reads_after_cut : List ℕ → List ℕ → List Turn
reads_after_cut second first = read_of 1 second ∷ read_of 0 first ∷ opening ∷ Ended ∷ first_session

-- A write that was cut is made whole or not at all.
pub record ExamplesOfLives : Type 0 where
  pub holds : Lives (reads_after_cut (block_of 2) (block_of 1)) (created_state example_geometry)
      (open_with (held_after cut_write LeftNew first_content))
  pub fails : (s : State) → ¬ Lives (reads_after_cut zero_block (block_of 1)) (created_state example_geometry) s
