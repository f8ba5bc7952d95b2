-- The array as a machine: what a step asks, what it answers, and what it may change of a state.
use Rattle.std.specs.Prelude.{◌≡◌, ◌≢◌, ◌<◌, ◌⊎◌, ℕ, Bool, false, List, [], ◌∷◌, Option, None, Some, Result, Ok, Err, length, ⊤}
use Rattle.stair_model.specs.Geometry.{Geometry, block_count}
use Rattle.stair_super.specs.declared.mark.Mark.{Mark}
use Rattle.stair_super.specs.declared.mark.Mark.TheVariants.{Live, Down, Rebuilding}
use Rattle.stair_member.specs.Seats.{Seats}
use Rattle.stair_member.specs.declared.why.Why.{Why}
use Rattle.stair_state.specs.Blocks.{AreOfOneStripe}
use Rattle.stair_invariant.specs.SeatSteps.{EachMayDrop, SeatGoes}
use Rattle.stair_state.specs.State.{BlocksAre, Change, FrozenIs, LabelIs, State, changed_if}

pub data Step : Type 0 where
  -- the array is opened
  Recover : Step
  ReadBlock : ℕ → Step
  -- blocks of one stripe, from this one on
  WriteBlocks : ℕ → List (List ℕ) → Step
  ScrubStripe : ℕ → Step
  ReplaceSlot : ℕ → Step
  -- one step of a rebuild
  RebuildNext : Step
  SetFrozen : Bool → Step
  SetLabel : List ℕ → Step
  -- the seats are looked at
  LookAtSeats : Step

-- one block is written
abbrev pub write_block : ℕ → List ℕ → Step
write_block b bytes = WriteBlocks b (bytes ∷ [])

-- what a step of a rebuild came to
pub data Progress : Type 0 where
  -- no slot is rebuilt
  Nothing : Progress
  -- slot and stripe
  Chunk : ℕ → ℕ → Progress
  Promoted Dropped : ℕ → Progress

-- why a step is refused
pub data Refusal : Type 0 where
  -- asked, and the limit
  OutOfRange : ℕ → ℕ → Refusal
  Frozen : Refusal
  -- a stripe, and how many cells of each slot are erased
  Lost : ℕ → List ℕ → Refusal
  TooFew : List Why → Refusal
  EpochsSpent : Refusal
  -- a body sector
  JournalLost : ℕ → Refusal
  SlotBusy : ℕ → Mark → Refusal
  Gone : ℕ → Refusal
  -- a slot, how many sectors it has, and how many it needs
  SmallDevice : ℕ → ℕ → ℕ → Refusal
  AlreadyArray : ℕ → Refusal

-- what it gives where it is done
abbrev pub GivenBy : Step → Type 0
GivenBy Recover = Geometry
GivenBy (ReadBlock b) = List ℕ
GivenBy (ScrubStripe t) = ℕ
GivenBy RebuildNext = Progress
GivenBy LookAtSeats = Seats
GivenBy _ = Unit {0}

abbrev pub Answer : Step → Type 0
Answer step = Result (GivenBy step) Refusal

-- the array stops: no step follows in the session
abbrev pub IsFinal : Refusal → Type 0
IsFinal (TooFew whys) = ⊤
IsFinal EpochsSpent = ⊤
IsFinal _ = ⊥

-- CONTENT AND DOUBT

-- what a step is to change of what the array holds
abbrev pub change_of : Step → Option Change
change_of (WriteBlocks first contents) = Some (BlocksAre first contents)
change_of (SetFrozen frozen) = Some (FrozenIs frozen)
change_of (SetLabel label) = Some (LabelIs label)
change_of _ = None

-- what the array holds and what is in doubt are as they were
pub record IsAsItWas (old new : State) : Type 0 where
  pub content : new.content ≡ old.content
  pub in_doubt : new.in_doubt ≡ old.in_doubt

-- the change was made, if any was to be, and nothing is in doubt
pub record IsChanged (change : Option Change) (old new : State) : Type 0 where
  pub content : new.content ≡ changed_if change old.content
  pub in_doubt : new.in_doubt ≡ None

-- the change was made or not, and nobody knows
pub record IsInDoubt (change : Change) (old new : State) : Type 0 where
  pub content : new.content ≡ old.content
  pub in_doubt : new.in_doubt ≡ Some change

-- what was in doubt was done, or it wasn't
abbrev pub IsDecided : State → State → Type 0
IsDecided old new = IsChanged None old new ⊎ IsChanged old.in_doubt old new

-- where a change is refused for good it may have been made, or be in doubt
pub data MayBeCut (change : Option Change) (old new : State) : Type 0 where
  Made : (what : Change) → change ≡ Some what → IsChanged change old new → MayBeCut change old new
  InDoubt : (what : Change) → change ≡ Some what → IsInDoubt what old new
      → MayBeCut change old new

abbrev pub HoldsAfter : (step : Step) → Answer step → State → State → Type 0
HoldsAfter Recover (Ok g) old new = (g ≡ old.geometry) × IsDecided old new
HoldsAfter (ReadBlock b) (Ok bytes) old new =
    (bytes ≡ old.content.blocks b) × IsAsItWas old new
HoldsAfter step (Ok x) old new = IsChanged (change_of step) old new
HoldsAfter step (Err refusal) old new =
    IsAsItWas old new ⊎ (IsFinal refusal × MayBeCut (change_of step) old new)

-- SEATS

abbrev pub SeatsRebuilt : Progress → Seats → Seats → Type 0
SeatsRebuilt Nothing old new = ((j : ℕ) → (old j).mark ≢ Rebuilding) × EachMayDrop old new
SeatsRebuilt (Chunk j t) old new = SeatGoes j Rebuilding Rebuilding old new
SeatsRebuilt (Promoted j) old new = SeatGoes j Rebuilding Live old new
SeatsRebuilt (Dropped j) old new = SeatGoes j Rebuilding Down old new

abbrev pub SeatsAfter : (step : Step) → Answer step → Seats → Seats → Type 0
SeatsAfter RebuildNext (Ok progress) old new = SeatsRebuilt progress old new
SeatsAfter RebuildNext (Err refusal) old new =
    EachMayDrop old new ⊎ (IsFinal refusal × (progress : Progress) × SeatsRebuilt progress old new)
SeatsAfter (ReplaceSlot j) (Ok done) old new = SeatGoes j Down Rebuilding old new
SeatsAfter (ReplaceSlot j) (Err refusal) old new =
    EachMayDrop old new ⊎ (IsFinal refusal × SeatGoes j Down Rebuilding old new)
SeatsAfter LookAtSeats (Ok seats) old new = (seats ≡ old) × (new ≡ old)
SeatsAfter LookAtSeats (Err refusal) old new = new ≡ old
SeatsAfter _ _ old new = EachMayDrop old new

-- ROWS

-- a step but the opening is taken without a doubt
abbrev pub MayBegin : Step → State → Type 0
MayBegin Recover s = ⊤
MayBegin _ s = s.in_doubt ≡ None

-- what the step is tested for before it is begun
abbrev pub PassesTests : Step → State → Seats → Type 0
PassesTests (ReadBlock b) s seats = b < block_count s.geometry
PassesTests (WriteBlocks first contents) s seats = (first < block_count s.geometry)
    × AreOfOneStripe s.geometry first (length contents) × (s.content.frozen ≡ false)
PassesTests (ScrubStripe t) s seats = t < s.geometry.stripes
PassesTests (ReplaceSlot j) s seats = (j < s.geometry.n) × ((seats j).mark ≡ Down)
PassesTests _ s seats = ⊤

-- it was begun where it was done, or refused for good
abbrev pub WasBegun : (step : Step) → Answer step → Type 0
WasBegun step (Ok x) = ⊤
WasBegun step (Err refusal) = IsFinal refusal

-- the seats are known once an opening was done
abbrev pub AreKnown : (step : Step) → Answer step → Option Seats → Seats → Type 0
AreKnown Recover (Err refusal) known seats = known ≡ None
AreKnown _ _ known seats = known ≡ Some seats

-- A row of the machine's table: the step began with these seats. The geometry stays.
pub record Row (step : Step) (answer : Answer step) (begun : Seats) (old new : State) : Type 0
  where
    pub geometry : new.geometry ≡ old.geometry
    pub begins : MayBegin step old
    pub passes : WasBegun step answer → PassesTests step old begun
    pub holds : HoldsAfter step answer old new
    pub seats : Seats
    pub known : AreKnown step answer new.seats seats
    pub marks : SeatsAfter step answer begun seats

-- What a crash within a step leaves: the state before it, or one that it may leave, whatever it would have answered. So a
-- change may be in doubt then.
abbrev pub CutWithin : Step → Seats → State → State → Type 0
CutWithin step begun old new = (new ≡ old) ⊎ ((answer : Answer step) × Row step answer begun old new)
