-- A life in which a write of two blocks is cut: what the next session may read.
use Rattle.std.proofs.Common.{◌≡◌, ℕ, ◌<◌, List, inl, refl, ap, arith, get_or}
use Rattle.std.specs.Prelude.{Bool, true, false}
use Rattle.stair_state.specs.Blocks.{zero_block}
use Rattle.stair_state.specs.State.{State, created_state, first_content, first_seats, without_seats}
use Rattle.stair_command.specs.LifeExample.{LeftNew, block_of, cut_write, example_geometry, held_after, left_by, open_with, opening}
use Rattle.stair_command.specs.Lives.{Lives, Turns, WasCut, after_turn, earlier, fate, read_of}
use Rattle.stair_command.proofs.ExampleLaws.{is_example}
use Rattle.stair_command.proofs.LifeLaws.{reads_are_explained}
use Rattle.stair_examples.specs.Histories.{ExamplesOfLives, reads_after_cut}

-- what the cut left where it was made, and what is then open
abbrev left : State
left = left_by cut_write LeftNew first_content

abbrev opened : State
opened = open_with (held_after cut_write LeftNew first_content)

opens : Turns opening (without_seats left) opened
opens = (
  first_seats example_geometry,
  record {
    geometry = refl;
    begins = tt;
    passes = λ begun. tt;
    holds = (refl, inl (record { content = refl; in_doubt = refl }));
    seats = first_seats example_geometry;
    known = refl;
    marks = λ j. inl refl;
  },
)

reads : (b : ℕ) (bytes : List ℕ) → b < 6 → bytes ≡ opened.content.blocks b → Turns (read_of b bytes) opened opened
reads b bytes inside is = (
  first_seats example_geometry,
  record {
    geometry = refl;
    begins = refl;
    passes = λ begun. inside;
    holds = (is, record { content = refl; in_doubt = refl });
    seats = first_seats example_geometry;
    known = refl;
    marks = λ j. inl refl;
  },
)

lives : Lives (reads_after_cut (block_of 2) (block_of 1)) (created_state example_geometry) opened
lives = (
  opened,
  (opened, (without_seats left, (left, is_example.first LeftNew, refl), opens), reads 0 (block_of 1) (omega arith) refl),
  reads 1 (block_of 2) (omega arith) refl,
)

-- the new bytes of one block and the old ones of the other, whether the write counts as made or not
torn : (made : Bool) → zero_block ≡ (after_turn (WasCut cut_write) made first_content).blocks 1
    → block_of 1 ≡ (after_turn (WasCut cut_write) made first_content).blocks 0 → ⊥
torn true second first = let bytes : 0 ≡ 2 = ap (λ (l : List ℕ). get_or l 0 0) second in omega (arith, bytes)
torn false second first = let bytes : 1 ≡ 0 = ap (λ (l : List ℕ). get_or l 0 0) first in omega (arith, bytes)

not_lived : (s : State) → ¬ Lives (reads_after_cut zero_block (block_of 1)) (created_state example_geometry) s
not_lived s life =
    let explained = reads_are_explained (created_state example_geometry) s (reads_after_cut zero_block (block_of 1)) refl life in
    torn (fate (earlier (earlier (earlier (earlier explained.0))))) explained.1.0 explained.1.1.0

pub examples : ExamplesOfLives
examples = record { holds = lives; fails = not_lived }
