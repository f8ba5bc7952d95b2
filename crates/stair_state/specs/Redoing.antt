-- A redo over the devices of an array: its stages, as what each sector of a live slot may hold, and its run from phase to
-- phase.
use Rattle.std.specs.Prelude.{◌≡◌, ◌⊎◌, ◌<◌, ℕ, true, IsTrue, List, None, ⊤}
use Rattle.stair_model.specs.CellSet.{HasCell}
use Rattle.stair_model.specs.Device.{body_sector, cell_sector, gate_sector}
use Rattle.stair_model.specs.Geometry.{Geometry, IsWithinLimits}
use Rattle.stair_model.specs.Slots.{Slots, HasSlot}
use Rattle.stair_model.specs.Stripe.{cell}
use Rattle.stair_rack.specs.Answers.{IsBesideAttach, Ran, any_call}
use Rattle.stair_rack.specs.History.{Happening, SlotCall, Attach, Sectors, Read, Write, Sync, slot_state, stopped}
use Rattle.stair_rack.specs.Media.{Image}
use Rattle.stair_rack.specs.Offline.{ButForOutside, IsHeld, WasPulled}
use Rattle.stair_rack.specs.Placed.{Placed, Writes}
use Rattle.stair_rack.specs.Sector.{Cell, Leaves}
use Rattle.stair_member.specs.Current.{IsLost}
use Rattle.stair_journal.specs.Body.{IsOrDamaged}
use Rattle.stair_journal.specs.Gate.{IsOpenWith, ReadsClosed, closed_gate, open_gate}
use Rattle.stair_journal.specs.Journalling.{body_writes, gate_writes}
use Rattle.stair_journal.specs.Redo.{IsRedo}
use Rattle.stair_journal.specs.declared.redo.Redo.{Redo}
use Rattle.stair_stripes.specs.Placing.{cell_writes}
use Rattle.stair_state.specs.Blocks.{Codewords}
use Rattle.stair_state.specs.Forms.{IsInRedo}
use Rattle.stair_state.specs.Represents.{IsLargeEnough}

-- what a redo is to do: it leads from the old stripes to the new ones
pub record Redoing : Type 0 where
  pub geometry : Geometry
  pub redo : Redo
  pub old : Codewords
  pub new : Codewords

-- the stripes differ in the redo's cells alone
pub record IsRedoing (a : Redoing) : Type 0 where
  pub limits : IsWithinLimits a.geometry
  pub formed : IsRedo a.geometry a.redo
  pub same : (t i j : ℕ) → t < a.geometry.stripes → i < a.geometry.r → j < a.geometry.n
      → IsInRedo a.redo t i j ⊎ (cell (a.new t) i j ≡ cell (a.old t) i j)

-- STAGES

pub data Stage : Type 0 where
  -- the old stripes are in place, and every gate is closed
  AtRest : Stage
  -- the old stripes are in place and the redo's body is written; gates are being opened
  Uncommitted : Stage
  -- every gate is open, and the redo's cells are being placed
  Placing : Stage
  -- the new stripes are in place; gates are being closed
  InPlace : Stage
  -- the new stripes are in place, and every gate is closed
  Done : Stage

-- the stage to which its phase leads
abbrev pub next : Stage → Stage
next AtRest = Uncommitted
next Uncommitted = Placing
next Placing = InPlace
next InPlace = Done
next Done = Done

module _ (a : Redoing) where
  -- a gate may be open with this redo, and with no other one
  abbrev pub IsOpenWithNoOther : Cell → Type 0
  IsOpenWithNoOther gate = (other : Redo) → IsOpenWith a.geometry gate other → other ≡ a.redo

  -- what a crash may leave of a live slot's gate
  abbrev pub GateHas : Stage → Cell → Type 0
  GateHas AtRest gate = ReadsClosed a.geometry gate
  GateHas Uncommitted gate = IsOpenWithNoOther gate
  GateHas Placing gate = IsOpenWith a.geometry gate a.redo ⊎ IsLost gate
  GateHas InPlace gate = IsOpenWithNoOther gate
  GateHas Done gate = ReadsClosed a.geometry gate

  -- of the sector of its body that is for the redo's cell (i, c)
  abbrev pub IsBodyOf : ℕ → ℕ → Cell → Type 0
  IsBodyOf i c sector = IsOrDamaged (cell (a.new a.redo.stripe) i c) sector

  abbrev pub BodyHas : Stage → ℕ → ℕ → Cell → Type 0
  BodyHas AtRest i c sector = ⊤
  BodyHas Uncommitted i c sector = IsBodyOf i c sector
  BodyHas Placing i c sector = IsBodyOf i c sector
  BodyHas InPlace i c sector = IsBodyOf i c sector
  BodyHas Done i c sector = ⊤

  -- and of row i of slot j's chunk of stripe t
  abbrev pub ChunkHas : Stage → ℕ → ℕ → ℕ → Cell → Type 0
  ChunkHas AtRest t i j sector = IsOrDamaged (cell (a.old t) i j) sector
  ChunkHas Uncommitted t i j sector = IsOrDamaged (cell (a.old t) i j) sector
  ChunkHas Placing t i j sector = IsInRedo a.redo t i j ⊎ IsOrDamaged (cell (a.new t) i j) sector
  ChunkHas InPlace t i j sector = IsOrDamaged (cell (a.new t) i j) sector
  ChunkHas Done t i j sector = IsOrDamaged (cell (a.new t) i j) sector

  -- On each live slot the image holds what this stage allows.
  pub record IsLeftIn (stage : Stage) (live : ℕ → Type 0) (image : Image) : Type 0 where
    pub gates : (j : ℕ) → live j → GateHas stage ((image j).cell gate_sector)
    pub bodies : (j i c : ℕ) → live j → HasCell a.redo.cells i c
        → BodyHas stage i c ((image j).cell (body_sector a.geometry i c))
    pub chunks : (j t i : ℕ) → live j → j < a.geometry.n → t < a.geometry.stripes
        → i < a.geometry.r → ChunkHas stage t i j ((image j).cell (cell_sector a.geometry t i))

  -- The live slots are in this stage, but for what the outside did since `start`: all that a crash may leave of each
  -- sector, and what lies under its unsynced writes, is so.
  pub record IsIn (stage : Stage) (live : ℕ → Type 0) (start h : List Happening) : Type 0 where
    pub gates : (j : ℕ) → live j
        → ButForOutside start h j gate_sector (Leaves (GateHas stage) (GateHas stage))
    pub bodies : (j i c : ℕ) → live j → HasCell a.redo.cells i c
        → ButForOutside start h j (body_sector a.geometry i c)
        (Leaves (BodyHas stage i c) (BodyHas stage i c))
    pub chunks : (j t i : ℕ) → live j → j < a.geometry.n → t < a.geometry.stripes
        → i < a.geometry.r → ButForOutside start h j (cell_sector a.geometry t i)
        (Leaves (ChunkHas stage t i j) (ChunkHas stage t i j))

  -- in one of the stages
  pub record IsInSome (live : ℕ → Type 0) (start h : List Happening) : Type 0 where
    pub stage : Stage
    pub is_in : IsIn stage live start h

  -- A stage is reached, or the rack is stopped in one.
  pub data Reaches (stage : Stage) (live : ℕ → Type 0) (start h : List Happening) : Type 0 where
    IsReached : IsIn stage live start h → Reaches stage live start h
    IsStopped : IsTrue (stopped h) → IsInSome live start h → Reaches stage live start h

  -- as which stripes an image stands in each stage: before and after a change that may have been made
  abbrev pub old_in : Stage → Codewords
  old_in AtRest = a.old
  old_in Uncommitted = a.old
  old_in Placing = a.new
  old_in InPlace = a.new
  old_in Done = a.new

  abbrev pub new_in : Stage → Codewords
  new_in AtRest = a.old
  new_in Uncommitted = a.new
  new_in Placing = a.new
  new_in InPlace = a.new
  new_in Done = a.new

  -- what is written in each stage
  abbrev pub writes_in : Stage → Writes
  writes_in AtRest = body_writes a.geometry a.redo (a.new a.redo.stripe)
  writes_in Uncommitted = gate_writes (open_gate a.geometry a.redo)
  writes_in Placing = cell_writes a.geometry a.redo (a.new a.redo.stripe)
  writes_in InPlace = gate_writes closed_gate
  writes_in Done = λ j k. None

-- RUNS

-- At h each of these slots is held in the session that began at `start`; one that wasn't pulled since isn't too small; and
-- one that is attached wasn't pulled since, so that no other medium is read in its place.
pub record AreHeld (g : Geometry) (live : ℕ → Type 0) (start h : List Happening) : Type 0 where
  pub since : Ran any_call start h
  pub held : (j : ℕ) → live j → IsHeld start h j
  pub full : (j : ℕ) → live j → WasPulled start h j ⊎ IsLargeEnough g (slot_state h j).size
  pub same : (j : ℕ) → live j → (slot_state h j).attached ≡ true → ¬ WasPulled start h j

-- A phase over all live slots, but for those that lost their medium since `start`, and maybe over others. Of a stopped rack
-- nothing is asked.
pub record IsPhase (what : Writes) (live : ℕ → Type 0) (start old new : List Happening)
    : Type 0 where
  pub to : Slots
  pub gone : Slots
  pub placed : Placed what (HasSlot to) (HasSlot gone) old new
  pub over : IsTrue (stopped old) ⊎ ((j : ℕ) → live j → HasSlot to j ⊎ WasPulled start old j)

-- calls that attach none of these slots
abbrev pub AttachesNone : (ℕ → Type 0) → ℕ → SlotCall → Type 0
AttachesNone some j call = some j → IsBesideAttach call

-- calls that write to none of these slots from the gate on
abbrev pub WritesNone : (ℕ → Type 0) → ℕ → SlotCall → Type 0
WritesNone some j (Attach answer) = ⊤
WritesNone some j (Sectors size) = ⊤
WritesNone some j (Read k answer) = ⊤
WritesNone some j (Write k bytes answer) = some j → k < gate_sector
WritesNone some j (Sync answer) = ⊤

-- Calls between two phases: they attach no live slot, and write to none from the gate on. Whatever is done to the others, as
-- to one that is rebuilt.
abbrev pub IsApart : (ℕ → Type 0) → ℕ → SlotCall → Type 0
IsApart live j call = AttachesNone live j call × WritesNone live j call

-- a stage's phase, and the calls after it
pub record Leads (a : Redoing) (stage : Stage) (live : ℕ → Type 0)
    (start old new : List Happening) : Type 0 where
  pub phase_end : List Happening
  pub phase : IsPhase (writes_in a stage) live start old phase_end
  pub apart : Ran (IsApart live) phase_end new

-- A redo that was in stage `from` at `old`, as far as it went: maybe it was cut off there.
pub data RunsTo (a : Redoing) (from : Stage) (live : ℕ → Type 0) (start old : List Happening)
    : Stage → List Happening → Type 0 where
  Begins : (now : List Happening) → Ran (IsApart live) old now
      → RunsTo a from live start old from now
  Goes : (stage : Stage) (mid now : List Happening) → RunsTo a from live start old stage mid
      → Leads a stage live start mid now → RunsTo a from live start old (next stage) now
