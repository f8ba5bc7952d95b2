-- Why a step was refused or done, on any rack, and what may change of what the session knows of its slots.
use Rattle.std.specs.Prelude.{◌⊎◌, ◌≡◌, ◌≢◌, ◌+◌, ◌-◌, ◌^◌, ◌/◌, ◌<◌, ◌≤◌, ℕ, false, true, IsTrue, List, None, Ok, Some, slice_index, ⊤}
use Rattle.stair_model.specs.CellSet.{CellSet, HasCell, IsCellSet, IsInStripe, count_in_slot}
use Rattle.stair_model.specs.Coverage.{IsCovered}
use Rattle.stair_model.specs.Device.{body_sector, cell_sector, gate_sector}
use Rattle.stair_model.specs.Geometry.{Geometry, block_count, data_cells, sectors_needed}
use Rattle.stair_rack.specs.Count.{Rose}
use Rattle.stair_rack.specs.Sector.{Cell, Damaged, Good}
use Rattle.stair_rack.specs.RackState.{IsFoundGone, IsGone, IsReading, RackState}
use Rattle.stair_super.specs.Superblock.{Superblock, mark_in}
use Rattle.stair_super.specs.declared.mark.Mark.TheVariants.{Live, Down, Rebuilding}
use Rattle.stair_member.specs.Counting.{AtMost, MoreThan}
use Rattle.stair_member.specs.Membership.{IsHere, IsMissing, Membership, why_of}
use Rattle.stair_member.specs.Superblocks.{HoldsSuper}
use Rattle.stair_member.specs.declared.why.Why.{Why}
use Rattle.stair_member.specs.declared.why.Why.TheVariants as why
use Rattle.stair_journal.specs.Gate.{open_gate}
use Rattle.stair_journal.specs.Redo.{IsRedo}
use Rattle.stair_journal.specs.declared.redo.Redo.{Redo}
use Rattle.stair_invariant.specs.Rebuilding.{Rebuild}
use Rattle.stair_invariant.specs.Session.{ArrayState, IsLiveIn, IsRebuiltIn, seats_in}
use Rattle.stair_array.specs.Looking.{HadSectors}
use Rattle.stair_array.specs.Machine.{AlreadyArray, Answer, Chunk, Dropped, EpochsSpent, Frozen, Gone, JournalLost, LookAtSeats, Lost, Nothing, OutOfRange, Promoted, ReadBlock, RebuildNext, Recover, Refusal, ReplaceSlot, ScrubStripe, SetFrozen, SetLabel, SlotBusy, SmallDevice, Step, TooFew, WriteBlocks}

-- SLOTS THAT WERE GONE

-- The medium of the slot had so many sectors at a moment, fewer than the array needs.
pub record IsSmall (g : Geometry) (j has needs : ℕ) (old new : RackState) : Type 0 where
  pub needs_is : needs ≡ sectors_needed g
  pub small : has < needs
  pub had : IsTrue new.honest → HadSectors j has old.history new.history

-- The slot was gone to a call of the step, and its count rose. On an honest rack it is offline then, where the session holds
-- it; or it takes part, and its medium has too few sectors, past whose end a write is gone. A rack that represents a state
-- has no such medium on a live slot.
pub data WasGoneTo (m : Membership) (j : ℕ) (old new : RackState) : Type 0 where
  Offline : IsGone j old new → WasGoneTo m j old new
  PastEnd : Rose (old.gones j) (new.gones j) → IsHere m j → (has needs : ℕ)
      → IsSmall m.array.geometry j has needs old new → WasGoneTo m j old new

-- WHAT THE SESSION KNOWS GOES ON

-- why a slot isn't here changes with what it was gone to, and as the step says
pub data WhyGoesOn (step : Step) (old new : RackState) (m last : Membership) (j : ℕ) : Type 0 where
  Stays : why_of last j ≡ why_of m j → WhyGoesOn step old new m last j
  Went : why_of last j ≡ why.Gone → WasGoneTo m j old new → WhyGoesOn step old new m last j
  IsAdmitted : step ≡ ReplaceSlot j → why_of last j ≡ why.Rebuilding
      → WhyGoesOn step old new m last j
  IsPromoted : step ≡ RebuildNext → why_of m j ≡ why.Rebuilding → why_of last j ≡ why.Here
      → WhyGoesOn step old new m last j

-- A mark goes to Down only where the slot wasn't here as the array was opened, or was gone in the step.
pub data MarkGoesOn (step : Step) (old new : RackState) (m last : Membership) (j : ℕ) : Type 0 where
  Stays : mark_in last.array j ≡ mark_in m.array j → MarkGoesOn step old new m last j
  WasAway : step ≡ Recover → why_of m j ≢ why.Here → why_of m j ≢ why.Rebuilding
      → mark_in last.array j ≡ Down → MarkGoesOn step old new m last j
  Went : WasGoneTo m j old new → mark_in last.array j ≡ Down → MarkGoesOn step old new m last j
  IsAdmitted : step ≡ ReplaceSlot j → mark_in last.array j ≡ Rebuilding
      → MarkGoesOn step old new m last j
  IsPromoted : step ≡ RebuildNext → mark_in m.array j ≡ Rebuilding → mark_in last.array j ≡ Live
      → MarkGoesOn step old new m last j

pub record MemberGoesOn (step : Step) (old new : RackState) (m last : Membership) : Type 0 where
  pub geometry : last.array.geometry ≡ m.array.geometry
  pub whys : (j : ℕ) → j < m.array.geometry.n → WhyGoesOn step old new m last j
  pub marks : (j : ℕ) → j < m.array.geometry.n → MarkGoesOn step old new m last j
  pub drawn : m.drawn ≤ last.drawn

-- REFUSALS

-- a number was tested against a limit and is out of it, and nothing else was done
pub record IsOutOf (number limit asked at : ℕ) (old new : RackState) : Type 0 where
  pub asked_is : asked ≡ number
  pub limit_is : at ≡ limit
  pub above : limit ≤ number
  pub nothing : new ≡ old

-- The cell of a slot that was live is erased: the slot was gone in the step, and isn't live any more; or the cell read as bad.
pub data IsErasedFor (m last : Membership) (old new : RackState) (t i j : ℕ) : Type 0 where
  SlotGone : WasGoneTo m j old new → ¬ IsLiveIn last j → IsErasedFor m last old new t i j
  ReadBad : IsReading j (cell_sector m.array.geometry t i) old new Damaged
      → IsErasedFor m last old new t i j

-- a pattern of stripe t was found that isn't covered, and these are its counts
pub record IsLost (m last : Membership) (old new : RackState) (t : ℕ) (counts : List ℕ) : Type 0
  where
    pub erased : CellSet
    pub formed : IsCellSet erased
    pub inside : IsInStripe m.array.geometry erased
    pub uncovered : ¬ IsCovered m.array.geometry erased
    pub counted : (j : ℕ) → j < 32 → slice_index counts j ≡ count_in_slot erased j
    pub each : (i j : ℕ) → HasCell erased i j → IsLiveIn m j → IsErasedFor m last old new t i j

-- more than m slots weren't here in the end
pub record AreTooFew (last : Membership) (whys : List Why) : Type 0 where
  pub whys_are : whys ≡ last.whys
  pub many : MoreThan last.array.geometry.m (IsMissing last)

-- a slot that took part was gone in the step
pub record LostOne (m : Membership) (old new : RackState) : Type 0 where
  pub slot : ℕ
  pub here : IsHere m slot
  pub gone : WasGoneTo m slot old new

-- the last draw was seen, so that no epoch can follow
pub record AreSpent (last : Membership) : Type 0 where
  pub spent : last.drawn ≡ 2 ^ 64 - 1
  pub enough : AtMost last.array.geometry.m (IsMissing last)

-- a gate read open, and this sector of the redo's body as bad on each slot that was live in the end
pub record IsJournalLost (m last : Membership) (old new : RackState) (sector : ℕ) : Type 0 where
  pub redo : Redo
  pub formed : IsRedo m.array.geometry redo
  pub gate : ℕ
  pub live : IsLiveIn m gate
  pub reads_open : IsReading gate gate_sector old new (Good (open_gate m.array.geometry redo))
  pub row : ℕ
  pub slot : ℕ
  pub has : HasCell redo.cells row slot
  pub sector_is : sector ≡ body_sector m.array.geometry row slot
  pub bad : (j : ℕ) → IsLiveIn last j → IsReading j sector old new Damaged

-- the medium of the slot had enough sectors at a moment
abbrev pub HadEnough : Geometry → ℕ → RackState → RackState → Type 0
HadEnough g j old new = IsTrue new.honest
    → (has : ℕ) × (sectors_needed g ≤ has) × HadSectors j has old.history new.history

-- the medium of the slot is large enough, and of its two places, which were read, one holds a superblock of another array
pub record BearsOther (g : Geometry) (j : ℕ) (old new : RackState) : Type 0 where
  pub large : HadEnough g j old new
  pub cell : ℕ → Cell
  pub reading : (k : ℕ) → k < 2 → IsReading j k old new (cell k)
  pub place : ℕ
  pub place_in : place < 2
  pub super : Superblock
  pub holds : HoldsSuper (cell place) super
  pub other : super.array.geometry ≢ g

-- slot j may be admitted, but for its medium
abbrev pub IsFree : Membership → ℕ → Type 0
IsFree m j = (j < m.array.geometry.n) × (mark_in m.array j ≡ Down)

-- the lowest slot that is rebuilt
pub record IsLowestRebuilt (m : Membership) (j : ℕ) : Type 0 where
  pub rebuilt : IsRebuiltIn m j
  pub lowest : (i : ℕ) → i < j → ¬ IsRebuiltIn m i

-- the next chunk of a rebuild: of the slot that is under way, else of the lowest one that is rebuilt, from its first stripe on
pub data IsNextChunk (a : ArrayState) (slot stripe : ℕ) : Type 0 where
  UnderWay : (rebuild : Rebuild) → a.rebuild ≡ Some rebuild → rebuild.slot ≡ slot
      → rebuild.stripe ≡ stripe → IsNextChunk a slot stripe
  First : a.rebuild ≡ None → IsLowestRebuilt a.member slot → stripe ≡ 0
      → IsNextChunk a slot stripe

-- an epoch was to be established: the step is for one, or a slot that took part was gone in it
abbrev pub IsEpochDue : Step → ArrayState → RackState → RackState → Type 0
IsEpochDue Recover was old new = ⊤
IsEpochDue (SetFrozen frozen) was old new = ⊤
IsEpochDue (SetLabel label) was old new = ⊤
IsEpochDue (ReplaceSlot j) was old new = IsFree was.member j
IsEpochDue RebuildNext was old new = LostOne was.member old new
    ⊎ ((j t : ℕ) × IsNextChunk was j t × (was.member.array.geometry.stripes ≤ t + 1))
IsEpochDue (WriteBlocks b contents) was old new =
    (was.member.array.frozen ≡ false) × LostOne was.member old new
IsEpochDue step was old new = LostOne was.member old new

-- Why a step was refused that began with this array, of which the session knows `last` of its slots in the end: a row for each
-- refusal that the step has.
abbrev pub HasCause : Step → Refusal → ArrayState → Membership → RackState → RackState → Type 0
HasCause (ReadBlock b) (OutOfRange asked limit) was last old new =
    IsOutOf b (block_count was.member.array.geometry) asked limit old new
HasCause (WriteBlocks b contents) (OutOfRange asked limit) was last old new =
    IsOutOf b (block_count was.member.array.geometry) asked limit old new
HasCause (ScrubStripe t) (OutOfRange asked limit) was last old new =
    IsOutOf t was.member.array.geometry.stripes asked limit old new
HasCause (ReplaceSlot j) (OutOfRange asked limit) was last old new =
    IsOutOf j was.member.array.geometry.n asked limit old new
HasCause (WriteBlocks b contents) Frozen was last old new =
    (b < block_count was.member.array.geometry) × (was.member.array.frozen ≡ true) × (new ≡ old)
HasCause (ReadBlock b) (Lost t counts) was last old new =
    (t ≡ b / data_cells was.member.array.geometry) × IsLost was.member last old new t counts
HasCause (WriteBlocks b contents) (Lost t counts) was last old new =
    (t ≡ b / data_cells was.member.array.geometry) × (was.member.array.frozen ≡ false)
    × IsLost was.member last old new t counts
HasCause (ScrubStripe u) (Lost t counts) was last old new =
    (t ≡ u) × IsLost was.member last old new t counts
HasCause RebuildNext (Lost t counts) was last old new =
    (j : ℕ) × IsNextChunk was j t × IsLost was.member last old new t counts
HasCause Recover (JournalLost sector) was last old new =
    IsJournalLost was.member last old new sector
HasCause (ReplaceSlot j) (SlotBusy slot mark) was last old new = (slot ≡ j)
    × (j < was.member.array.geometry.n) × (mark_in was.member.array j ≡ mark) × (mark ≢ Down)
    × (new ≡ old)
HasCause (ReplaceSlot j) (Gone slot) was last old new =
    (slot ≡ j) × IsFree was.member j × IsFoundGone j old new
HasCause (ReplaceSlot j) (SmallDevice slot has needs) was last old new =
    (slot ≡ j) × IsFree was.member j × IsSmall was.member.array.geometry j has needs old new
HasCause (ReplaceSlot j) (AlreadyArray slot) was last old new =
    (slot ≡ j) × IsFree was.member j × BearsOther was.member.array.geometry j old new
HasCause LookAtSeats refusal was last old new = ⊥
HasCause step (TooFew whys) was last old new =
    IsEpochDue step was old new × AreTooFew last whys
HasCause step EpochsSpent was last old new = IsEpochDue step was old new × AreSpent last
HasCause _ _ was last old new = ⊥

-- WHAT AN ANSWER TELLS

-- why a step was done: what would have refused it first wasn't so
abbrev pub IsAllowed : (step : Step) → Answer step → ArrayState → Type 0
IsAllowed Recover (Ok g) was = g ≡ was.member.array.geometry
IsAllowed (ReadBlock b) (Ok bytes) was = b < block_count was.member.array.geometry
IsAllowed (WriteBlocks b contents) (Ok done) was =
    (b < block_count was.member.array.geometry) × (was.member.array.frozen ≡ false)
IsAllowed (ScrubStripe t) (Ok count) was = t < was.member.array.geometry.stripes
IsAllowed (ReplaceSlot j) (Ok done) was = IsFree was.member j
IsAllowed RebuildNext (Ok Nothing) was = (j : ℕ) → ¬ IsRebuiltIn was.member j
IsAllowed RebuildNext (Ok (Chunk j t)) was = IsNextChunk was j t
IsAllowed RebuildNext (Ok (Promoted j)) was = (t : ℕ) × IsNextChunk was j t
IsAllowed RebuildNext (Ok (Dropped j)) was = (t : ℕ) × IsNextChunk was j t
IsAllowed LookAtSeats (Ok seats) was = seats ≡ seats_in was.member.array
IsAllowed _ _ was = ⊤

-- of the step's own counts
abbrev pub HasCounted : (step : Step) → Answer step → RackState → RackState → Type 0
HasCounted (ScrubStripe t) (Ok count) old new = 0 < count → Rose old.bads new.bads
HasCounted RebuildNext (Ok (Dropped j)) old new = Rose (old.gones j) (new.gones j)
HasCounted _ _ old new = ⊤
