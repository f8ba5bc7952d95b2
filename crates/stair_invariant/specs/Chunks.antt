-- The cells of a slot's chunk, and calls that leave the chunks of a slot that is rebuilt as they are.
use Rattle.std.specs.Prelude.{◌≡◌, ◌≢◌, ◌<◌, ◌↔◌, ℕ, List}
use Rattle.stair_model.specs.CellSet.{CellSet, HasCell}
use Rattle.stair_model.specs.Device.{cell_sector}
use Rattle.stair_model.specs.Geometry.{Geometry}
use Rattle.stair_rack.specs.Answers.{IsBesideAttach}
use Rattle.stair_rack.specs.History.{SlotCall, Write}
use Rattle.stair_rack.specs.declared.rack.Reply.{Reply}

-- these cells are those of slot j's chunk
abbrev pub AreOfChunk : Geometry → ℕ → CellSet → Type 0
AreOfChunk g j cells = (i k : ℕ) → HasCell cells i k ↔ ((i < g.r) × (k ≡ j))

-- calls that don't attach slot j, and write none of its chunks of the stripes below `next`
abbrev pub IsBesideChunks : Geometry → ℕ → ℕ → ℕ → SlotCall → Type 0
IsBesideChunks g j next i call = i ≡ j → IsBesideAttach call
    × ((t row : ℕ) (bytes : List ℕ) (answer : Reply) → t < next → row < g.r
    → call ≢ Write (cell_sector g t row) bytes answer)
