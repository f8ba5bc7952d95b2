-- What the commands take from a source.
use Rattle.std.specs.Prelude.{◌≡◌, ℕ, ◌+◌, ◌<◌, List, All, drop, length, take, Result, Ok, Err}
use Rattle.std.specs.List.{concat}
use Rattle.stair_model.specs.CellSet.{CellSet}
use Rattle.stair_model.specs.Geometry.{Geometry, data_cells}
use Rattle.stair_model.specs.Stripe.{Stripe, IsSector}
use Rattle.stair_command.specs.declared.fault.Fault.{Fault}
use Rattle.stair_command.specs.declared.fault.Fault.TheVariants as fault
use Rattle.stair_command.specs.declared.intake.Intake.{Intake}
use Rattle.stair_command.specs.Answer.{HasBytes, map_bytes}
use Rattle.stair_command.specs.Encode.{HasBlocks, HoldsBlocks}
use Rattle.stair_command.specs.Executes.{Gives}
use Rattle.stair_command.specs.Outside.{SourceView}
use Rattle.stair_command.specs.Restore.{IsErasedBy}
use Rattle.stair_command.specs.Trace.{Took, TookLast, TakeFailed}
use Rattle.stair_command.specs.Taking.{TakesBytes}
use Rattle.stair_engine.specs.Programs.{MAX_GEOMETRY_TEXT}

-- a map was taken, and these cells are erased by it
abbrev pub TakesMap : {S : Type 0} → SourceView S → Geometry → Intake → Intake → CellSet → S → S →
    Type 0
TakesMap view g first now erased old new =
    (map : List ℕ) × (length map ≡ map_bytes g) × IsErasedBy g map erased
    × TakesBytes view first now map old new

-- blocks of sectors were taken, and the first `count` data cells of the stripe hold them
pub record TakesBlocksTo {S : Type 0} (view : SourceView S) (g : Geometry) (count : ℕ)
    (first now : Intake) (stripe : Stripe) (old new : S) : Type 0 where
  pub blocks : List (List ℕ)
  pub as_many : length blocks ≡ count
  pub sectors : All IsSector blocks
  pub held : HoldsBlocks g count blocks stripe
  pub taken : TakesBytes view first now (concat blocks) old new

-- the input is the blocks that the stripe holds
abbrev pub HoldsInput : Geometry → Stripe → List ℕ → Type 0
HoldsInput g stripe input =
    (blocks : List (List ℕ)) × HasBlocks g blocks input × HoldsBlocks g (data_cells g) blocks stripe

-- the input is a map, by which these cells are erased, and then the cells of the stripe
abbrev pub IsMapAndCells : Geometry → Stripe → CellSet → List ℕ → Type 0
IsMapAndCells g stripe erased input = IsErasedBy g (take (map_bytes g) input) erased
    × HasBytes g stripe (drop (map_bytes g) input)

-- a text of at most so many bytes, and then the end; or it was refused
abbrev pub TakesText : {S : Type 0} → SourceView S → Result ℕ Fault → List ℕ → S → S → Type 0
TakesText view (Ok count) into old new = (count < MAX_GEOMETRY_TEXT + 1)
    × Gives view (TookLast (take count into)) old new
TakesText view (Err (fault.Length needed took)) into old new =
    (needed ≡ MAX_GEOMETRY_TEXT) × (took ≡ MAX_GEOMETRY_TEXT + 1) × ((bytes : List ℕ)
    × (length bytes ≡ MAX_GEOMETRY_TEXT + 1) × Gives view (Took bytes) old new)
TakesText view (Err fault.Input) into old new =
    (taken : List ℕ) × (length taken < MAX_GEOMETRY_TEXT + 1) × Gives view (TakeFailed taken) old new
TakesText view (Err _) into old new = ⊥
