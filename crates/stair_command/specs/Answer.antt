-- What each command answers for an input, and what it puts out: the status and the output are determined by the words and the
-- input alone.
use Rattle.std.specs.Prelude.{◌≡◌, ◌≢◌, ℕ, ◌+◌, ◌*◌, List, [], ◌∷◌, ◌++◌, length, drop, min, take, codes}
use Rattle.std.specs.List.{concat}
use Rattle.stair_model.specs.Geometry.{Geometry, IsWithinLimits, IsFirstBrokenLimit, data_cells}
use Rattle.stair_model.specs.Stripe.{Stripe, SECTOR, IsStripeOf, IsWellFormed}
use Rattle.stair_model.specs.CellSet.{CellSet}
use Rattle.stair_model.specs.Codeword.{IsCodeword}
use Rattle.stair_model.specs.Equation.{IsFirstBroken}
use Rattle.stair_base.specs.Equations.{equation_of}
use Rattle.stair_status.specs.declared.status.Status.{Status}
use Rattle.stair_status.specs.declared.status.Status.TheVariants.{Done, NotCodeword, NoCodeword, Limit, Input, Lost}
use Rattle.stair_conf.specs.declared.job.StripeCommand.{StripeCommand}
use Rattle.stair_conf.specs.declared.job.StripeCommand.TheVariants.{Check, Encode, Restore}
use Rattle.stair_command.specs.Encode.{HasBlocks, JudgesBlocks}
use Rattle.stair_command.specs.Restore.{IsErasedBy, JudgesErased}

-- the bytes of a map, one for each cell
abbrev pub map_bytes : Geometry → ℕ
map_bytes g = g.r * g.n

-- the bytes of the cells of a stripe
abbrev pub cell_bytes : Geometry → ℕ
cell_bytes g = g.r * g.n * SECTOR

-- the bytes of the blocks of a stripe
abbrev pub block_bytes : Geometry → ℕ
block_bytes g = data_cells g * SECTOR

-- the bytes of the input: `check` takes the cells of a stripe, `stripe` its blocks, and `restore` a map before the cells
abbrev pub bytes_needed : StripeCommand → Geometry → ℕ
bytes_needed Check g = cell_bytes g
bytes_needed (Encode method) g = block_bytes g
bytes_needed Restore g = map_bytes g + cell_bytes g

-- the stripe of this geometry whose cells are these bytes, row by row
pub record HasBytes (g : Geometry) (stripe : Stripe) (bytes : List ℕ) : Type 0 where
  pub of : IsStripeOf g stripe
  pub well_formed : IsWellFormed stripe
  pub same_bytes : concat stripe.cells ≡ bytes
  pub count : length bytes ≡ cell_bytes g

-- the line for a codeword
abbrev pub codeword_line : List ℕ
codeword_line = codes "codeword" ++ 10 ∷ []

-- the status and the output for a stripe that is checked
abbrev pub JudgesStripe : Geometry → Stripe → Status → List ℕ → Type 0
JudgesStripe g stripe Done output = IsCodeword g stripe × (output ≡ codeword_line)
JudgesStripe g stripe (NotCodeword b) output = IsFirstBroken g stripe (equation_of b)
    × (output ≡ [])
JudgesStripe g stripe _ output = ⊥

-- the status and the output for an input of the length that the command needs
abbrev pub Judges : StripeCommand → Geometry → List ℕ → Status → List ℕ → Type 0
Judges Check g input status output = (stripe : Stripe) × HasBytes g stripe input
    × JudgesStripe g stripe status output
Judges (Encode method) g input status output =
    (blocks : List (List ℕ)) × HasBlocks g blocks input × JudgesBlocks g blocks status output
Judges Restore g input status output =
    (erased : CellSet) × (stripe : Stripe) × IsErasedBy g (take (map_bytes g) input) erased
    × HasBytes g stripe (drop (map_bytes g) input) × JudgesErased g erased stripe status output

-- the input has the length that the command needs, and is judged
pub record IsJudged (command : StripeCommand) (g : Geometry) (input : List ℕ) (status : Status)
    (output : List ℕ) : Type 0 where
  pub limits : IsWithinLimits g
  pub whole : length input ≡ bytes_needed command g
  pub judged : Judges command g input status output

-- the input has another length than needed; of a longer one, one byte more than needed is taken
pub record IsOtherLength (bytes : ℕ) (input : List ℕ) (needed took : ℕ) : Type 0 where
  pub other : length input ≢ bytes
  pub needs : needed ≡ bytes
  pub takes : took ≡ min (length input) (bytes + 1)

-- The status and the output for this input, of a geometry that may break a limit.
abbrev pub IsAnswer : StripeCommand → Geometry → List ℕ → Status → List ℕ → Type 0
IsAnswer command g input (Limit k) output = IsFirstBrokenLimit g k × (output ≡ [])
IsAnswer command g input (Input needed took) output =
    IsWithinLimits g × IsOtherLength (bytes_needed command g) input needed took × (output ≡ [])
IsAnswer command g input Done output = IsJudged command g input Done output
IsAnswer command g input (NotCodeword b) output = IsJudged command g input (NotCodeword b) output
IsAnswer command g input NoCodeword output = IsJudged command g input NoCodeword output
IsAnswer command g input (Lost stripe counts n) output =
    IsJudged command g input (Lost stripe counts n) output
IsAnswer command g input _ output = ⊥
