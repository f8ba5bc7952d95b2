-- What the calls for C answer, by their statuses.
use Rattle.std.specs.Prelude.{◌≡◌, ℕ, ◌+◌, ◌*◌, ◌<◌, ◌≤◌, List}
use Rattle.stair_model.specs.Cell.{IsPlaceOf}
use Rattle.stair_model.specs.Geometry.{Geometry, IsWithinLimits, IsFirstBrokenLimit, block_count}
use Rattle.stair_c.specs.Chunks.{HasStripes, IsCodewordAt, IsEncodedAt}
use Rattle.stair_plan.specs.Plan.{IsPlanOf}
use Rattle.stair_plan.specs.declared.plans.Plan.{Plan}

-- the call succeeded; the status of a broken limit is its number, 1 to 8
abbrev pub OK : ℕ
OK = 0

-- the memory isn't that of whole stripes, or the block is none of the array's
abbrev pub SIZE : ℕ
SIZE = 9

-- the method is none of the four
abbrev pub METHOD : ℕ
METHOD = 10

-- a stripe isn't a codeword
abbrev pub BROKEN : ℕ
BROKEN = 12

-- out of memory
abbrev pub MEMORY : ℕ
MEMORY = 13

-- what encoding all stripes does, by its status
pub data Encodes (g : Geometry) (method : ℕ) (old new : List (List ℕ)) : ℕ → Type 0 where
  done : IsWithinLimits g → method < 4 → (k : ℕ) → HasStripes g k old → HasStripes g k new →
      ((s : ℕ) → s < k → IsEncodedAt g k old new s) → Encodes g method old new OK
  limit : (status : ℕ) → IsFirstBrokenLimit g status → new ≡ old → Encodes g method old new status
  unknown : IsWithinLimits g → 4 ≤ method → new ≡ old → Encodes g method old new METHOD
  size : IsWithinLimits g → method < 4 → ((k : ℕ) → ¬ HasStripes g k old) → new ≡ old →
      Encodes g method old new SIZE
  memory : IsWithinLimits g → method < 4 → new ≡ old → Encodes g method old new MEMORY

-- what checking all stripes answers, and the number that it leaves
pub data Checks (g : Geometry) (sectors : List (List ℕ)) (old new : ℕ) : ℕ → Type 0 where
  sound : IsWithinLimits g → (k : ℕ) → HasStripes g k sectors →
      ((s : ℕ) → s < k → IsCodewordAt g k sectors s) → new ≡ old → Checks g sectors old new OK
  broken : IsWithinLimits g → (k : ℕ) → HasStripes g k sectors → new < k →
      ((s : ℕ) → s < new → IsCodewordAt g k sectors s) → ¬ IsCodewordAt g k sectors new →
      Checks g sectors old new BROKEN
  limit : (status : ℕ) → IsFirstBrokenLimit g status → new ≡ old → Checks g sectors old new status
  size : IsWithinLimits g → ((k : ℕ) → ¬ HasStripes g k sectors) → new ≡ old →
      Checks g sectors old new SIZE
  memory : IsWithinLimits g → new ≡ old → Checks g sectors old new MEMORY

-- where a block lies: the slot of its chunk, and its sector within the chunk
pub record IsSectorOf (g : Geometry) (block slot sector : ℕ) : Type 0 where
  pub stripe : ℕ
  pub row : ℕ
  pub within : stripe < g.stripes
  pub place : IsPlaceOf g block stripe row slot
  pub sector_is : sector ≡ stripe * g.r + row

-- what placing a block answers, and the two numbers that it leaves
pub data Places (g : Geometry) (block slot_old slot sector_old sector : ℕ) : ℕ → Type 0 where
  done : IsWithinLimits g → block < block_count g → IsSectorOf g block slot sector →
      Places g block slot_old slot sector_old sector OK
  limit : (status : ℕ) → IsFirstBrokenLimit g status → slot ≡ slot_old → sector ≡ sector_old →
      Places g block slot_old slot sector_old sector status
  size : IsWithinLimits g → block_count g ≤ block → slot ≡ slot_old → sector ≡ sector_old →
      Places g block slot_old slot sector_old sector SIZE

-- what counting costs answers, and the counts that it leaves
pub data Counts (g : Geometry) (old new : Plan) : ℕ → Type 0 where
  done : IsWithinLimits g → IsPlanOf g new → Counts g old new OK
  limit : (status : ℕ) → IsFirstBrokenLimit g status → new ≡ old → Counts g old new status
  memory : IsWithinLimits g → new ≡ old → Counts g old new MEMORY
