-- Erased cells of a stripe: some that the code restores, and some that it does not.
use Rattle.std.specs.Prelude.{true, false, ◌∷◌, Bool, replicate}
use Rattle.stair_model.specs.CellSet.{CellSet}
use Rattle.stair_model.specs.Coverage.{IsCovered}
use Rattle.stair_model.specs.Examples.{four_devices}
use Rattle.stair_model.specs.Slots.{Slots, no_slots}

-- the set of those of the first four slots that are marked so
abbrev pub of_four : Bool → Bool → Bool → Bool → Slots
of_four a b c d = record { marks = a ∷ b ∷ c ∷ d ∷ replicate 28 false }

-- cells of a stripe of two rows, row by row
abbrev pub two_rows : Slots → Slots → CellSet
two_rows first second = record { rows = first ∷ second ∷ replicate 30 no_slots }

-- the chunk of device 0 whole, and the first cell of device 1
abbrev pub chunk_and_cell : CellSet
chunk_and_cell = two_rows (of_four true true false false) (of_four true false false false)

-- and its second cell too
abbrev pub two_chunks : CellSet
two_chunks = two_rows (of_four true true false false) (of_four true true false false)

-- Of four devices with one row parity and the coverage (1) a whole one may be lost, and in another one a cell, but not two.
pub record ExamplesOfIsCovered : Type 0 where
  pub holds : IsCovered four_devices chunk_and_cell
  pub fails : ¬ IsCovered four_devices two_chunks
