-- A life as an example: of two blocks a write that a crash cuts, of one of them a write that is refused since too few devices
-- are left, and a read of that one after each.
use Rattle.std.specs.Prelude.{◌≡◌, ◌≤◌, ℕ, Bool, true, false, List, [], ◌∷◌, ◌++◌, Err, Ok, length, replicate, if◌then◌else◌}
use Rattle.stair_model.specs.Geometry.{Geometry, IsWithinLimits, geometry_of}
use Rattle.stair_model.specs.Stripe.{SECTOR}
use Rattle.stair_member.specs.declared.why.Why.TheVariants as why
use Rattle.stair_state.specs.Blocks.{zero_block}
use Rattle.stair_state.specs.State.{Content, State, changed_if, created_state, first_content}
use Rattle.stair_array.specs.Machine.{IsAsItWas, Recover, Refusal, Step, TooFew, WriteBlocks, change_of, write_block}
use Rattle.stair_command.specs.Lives.{EachReadsLast, Ended, Lives, Took, Turn, Turns, WasCut, read_of}

-- THE ARRAY

-- Three devices, of which one may be lost, and a sector of another; two stripes of three blocks each.
abbrev pub example_geometry : Geometry
example_geometry = geometry_of 3 1 2 (1 ∷ []) 2 (replicate 16 7)

-- it is open, nothing is in doubt, and all slots are live, as in a new array
abbrev pub open_with : Content → State
open_with held = record (created_state example_geometry) { content = held }

-- a block that has this byte throughout
abbrev pub block_of : ℕ → List ℕ
block_of byte = replicate SECTOR byte

-- THE WRITES

-- of blocks 0 and 1, both at once; it will be cut
abbrev pub cut_write : Step
cut_write = WriteBlocks 0 (block_of 1 ∷ block_of 2 ∷ [])

-- of block 1 alone; it will be refused
abbrev pub refused_write : Step
refused_write = write_block 1 (block_of 3)

-- two of the three devices are gone
abbrev pub two_gone : Refusal
two_gone = TooFew (why.Gone ∷ why.Gone ∷ why.Here ∷ [])

-- WHAT BECOMES OF THEM

-- A write that was cut or refused for good leaves its blocks old, or new, or in doubt: all of them alike, and no others. A
-- doubt stays until the next opening, by which they are new, or they aren't.
pub data Course : Type 0 where
  LeftOld LeftNew : Course
  LeftInDoubt : (found_new : Bool) → Course

-- whether it counts as made
abbrev pub is_made : Course → Bool
is_made LeftOld = false
is_made LeftNew = true
is_made (LeftInDoubt found_new) = found_new

-- the state that it leaves
abbrev pub left_by : Step → Course → Content → State
left_by step LeftOld held = open_with held
left_by step LeftNew held = open_with (changed_if (change_of step) held)
left_by step (LeftInDoubt found_new) held = record (open_with held) { in_doubt = change_of step }

-- what the array holds from the next opening on
abbrev pub held_after : Step → Course → Content → Content
held_after step course held = if is_made course then changed_if (change_of step) held else held

-- THE LIFE

abbrev pub opening : Turn
opening = Took Recover (Ok example_geometry)

-- what block 1 reads as after the write that was cut
abbrev pub read_first : Course → List ℕ
read_first cut = if is_made cut then block_of 2 else zero_block

-- and after the one that was refused
abbrev pub read_then : (cut refused : Course) → List ℕ
read_then cut refused = if is_made refused then block_of 3 else read_first cut

-- Its three sessions, the newest turn first: read each from its end.
abbrev pub first_session : List Turn
first_session = WasCut cut_write ∷ opening ∷ []

abbrev pub second_session : (cut : Course) → List Turn
second_session cut =
    Took refused_write (Err two_gone) ∷ read_of 1 (read_first cut) ∷ opening ∷ Ended ∷ []

abbrev pub third_session : (cut refused : Course) → List Turn
third_session cut refused = read_of 1 (read_then cut refused) ∷ opening ∷ Ended ∷ []

abbrev pub example_life : (cut refused : Course) → List Turn
example_life cut refused = third_session cut refused ++ (second_session cut ++ first_session)

-- what the array holds when it is opened again after the crash
abbrev pub held_between : (cut : Course) → Content
held_between cut = held_after cut_write cut first_content

-- what the array holds at its end
abbrev pub held_last : (cut refused : Course) → Content
held_last cut refused = held_after refused_write refused (held_between cut)

-- fates of its turns, of which these two are the writes'; those of the other turns say nothing
abbrev pub fates_with : (cut refused : Bool) → List Bool
fates_with cut refused = false ∷ false ∷ false
    ∷ refused ∷ false ∷ false ∷ false
    ∷ cut ∷ false ∷ []

-- Block 0 was old or new together with block 1 after the crash, and stays so; each block from 2 on is as at first.
pub record HoldsLast (cut refused : Course) (held : Content) : Type 0 where
  pub block_0 : held.blocks 0 ≡ (if is_made cut then block_of 1 else zero_block)
  pub block_1 : held.blocks 1 ≡ read_then cut refused
  pub others : (b : ℕ) → 2 ≤ b → held.blocks b ≡ zero_block

-- The example: in each course of both writes.
pub record IsExample : Type 0 where
  pub limits : IsWithinLimits example_geometry
  pub identity : length example_geometry.id ≡ 16
  -- a crash within the write may leave its blocks old, or new, or in doubt
  pub leaves : (course : Course) →
      Turns (WasCut cut_write) (open_with first_content) (left_by cut_write course first_content)
  -- and nothing else
  pub no_other : (s : State) → Turns (WasCut cut_write) (open_with first_content) s →
      (course : Course) × IsAsItWas (left_by cut_write course first_content) s
  -- from a new array to what the crash left, from there to what the refusal left, and to the end
  pub first : (cut : Course) → Lives first_session (created_state example_geometry)
      (left_by cut_write cut first_content)
  pub second : (cut refused : Course) → Lives (second_session cut)
      (left_by cut_write cut first_content) (left_by refused_write refused (held_between cut))
  pub third : (cut refused : Course) → Lives (third_session cut refused)
      (left_by refused_write refused (held_between cut)) (open_with (held_last cut refused))
  -- so the whole is a life
  pub lives : (cut refused : Course) → Lives (example_life cut refused)
      (created_state example_geometry) (open_with (held_last cut refused))
  pub holds : (cut refused : Course) → HoldsLast cut refused (held_last cut refused)
  -- both reads are explained where each write counts as made exactly if it was
  pub explained : (cut refused : Course) → EachReadsLast (example_life cut refused)
      (fates_with (is_made cut) (is_made refused)) first_content
  -- and by no other fates of the two: each was settled once
  pub once : (cut refused : Course) (cut_made refused_made : Bool) →
      EachReadsLast (example_life cut refused) (fates_with cut_made refused_made) first_content →
      (cut_made ≡ is_made cut) × (refused_made ≡ is_made refused)
