-- What `create` guarantees beyond its program: what it made, and what it leaves alone.
use Rattle.std.specs.Prelude.{◌≡◌, ◌⊎◌, ℕ, List, Option, Ok, IfSome}
use Rattle.stair_model.specs.Geometry.{Geometry}
use Rattle.stair_rack.specs.History.{Happening}
use Rattle.stair_rack.specs.Stretch.{NothingReturned, NothingWritten}
use Rattle.stair_array.specs.Creates.{IsMade}
use Rattle.stair_array.specs.Keeping.{ToleratedUnwritten}
use Rattle.stair_conf.specs.Config.{TextReadsAs}
use Rattle.stair_engine.specs.Stands.{ArrayStands}
use Rattle.stair_status.specs.declared.status.Status.{Status}
use Rattle.stair_status.specs.declared.status.Status.TheVariants.{Done, OutputFault}

-- A `create` with this status made an array, even if its line was not put out.
abbrev pub IsOnceMade : Status → Type 0
IsOnceMade status = (status ≡ Done) ⊎ (status ≡ OutputFault)

-- an array was made, of the geometry that the input says
pub record MakesArray (input : Option (List ℕ)) (old new : List Happening) : Type 0 where
  pub geometry : Geometry
  pub said : IfSome input (λ text. TextReadsAs text (Ok geometry))
  pub made : IsMade geometry old new

-- No array was made, no device was written, and the rack still represents an array that it represented.
pub record MakesNothing (status : Status) (old new : List Happening) : Type 0 where
  pub none : ¬ IsOnceMade status
  pub unwritten : NothingWritten old new
  pub stands : ArrayStands old new

-- This holds if an array of any geometry is within tolerance at every moment before anything is written, and no medium
-- is reinserted.
abbrev pub SparesArrays : Status → List Happening → List Happening → Type 0
SparesArrays status old new = (array : Geometry) (before : List Happening) → NothingReturned old new
    → ToleratedUnwritten array before old new → MakesNothing status old new
