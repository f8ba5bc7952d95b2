-- What reading and writing did, whichever media come back: chains of what the crates below say of their calls.
use Rattle.std.specs.Prelude.{false, All, ◌≡◌, ◌⊎◌, ◌↔◌, ◌+◌, ◌/◌, ◌<◌, ◌≤◌, ℕ, IsTrue, List, length, Option, None, Some, Result, Ok, Err, slice_index}
use Rattle.stair_model.specs.Cell.{Data, IsPlaceOf, cell_at}
use Rattle.stair_model.specs.CellSet.{CellSet, HasCell, IsCellSet, count_in_slot}
use Rattle.stair_model.specs.Codeword.{IsCodeword}
use Rattle.stair_model.specs.Coverage.{IsCovered}
use Rattle.stair_model.specs.Dependents.{IsDependent}
use Rattle.stair_model.specs.Device.{cell_sector}
use Rattle.stair_model.specs.Geometry.{Geometry, block_count, data_cells}
use Rattle.stair_model.specs.Restoring.{IsRestored, SameHeld}
use Rattle.stair_model.specs.Stripe.{IsSector, IsStripeOf, IsWellFormed, Stripe, cell}
use Rattle.stair_rack.specs.Answers.{Calls}
use Rattle.stair_rack.specs.History.{Read}
use Rattle.stair_rack.specs.Sector.{Damaged, Good}
use Rattle.stair_rack.specs.RackState.{IsGone, IsLater, IsReading}
use Rattle.stair_rack.specs.declared.rack.Got.{Got}
use Rattle.stair_rack.specs.declared.rack.Got.TheVariants as got
use Rattle.stair_super.specs.declared.configuration.Configuration.{Configuration}
use Rattle.stair_member.specs.declared.fault.FenceFault.{FenceFault}
use Rattle.stair_member.specs.declared.fault.FenceFault.TheVariants as fence
use Rattle.stair_journal.specs.Redo.{IsRedo}
use Rattle.stair_journal.specs.declared.redo.Redo.{Redo}
use Rattle.stair_stripes.specs.Gathering.{IsCellOf}
use Rattle.stair_stripes.specs.declared.gathering.Gathered.{Gathered}
use Rattle.stair_state.specs.Blocks.{AreOfOneStripe, IsSetFrom}
use Rattle.stair_state.specs.Redoing.{AtRest}
use Rattle.stair_invariant.specs.Effects.{Loads, Snapshot, Redoes}
use Rattle.stair_invariant.specs.Session.{IsLiveIn, Remembered}
use Rattle.stair_array.specs.Machine.{EpochsSpent, Frozen, Lost, OutOfRange, Refusal, TooFew}

-- the refusal of an epoch as one of a step
abbrev pub refused : FenceFault → Refusal
refused (fence.TooFew whys) = TooFew whys
refused fence.EpochsSpent = EpochsSpent

-- what is answered at the end of a chain, or where an epoch was refused in it
abbrev pub answer_of : {T : Type 0} → T → Option FenceFault → Result T Refusal
answer_of given None = Ok given
answer_of given (Some fault) = Err (refused fault)

-- A STRIPE

-- What is answered where these cells of stripe t were erased, `read` being what was read of it: the stripe restored, or how
-- many cells of each slot are erased.
abbrev pub IsLoaded : Geometry → ℕ → CellSet → Stripe → Stripe → Result (Unit {0}) Refusal → Type 0
IsLoaded g t erased read into (Ok done) =
    IsCovered g erased × SameHeld g erased into read × IsRestored g erased read into
IsLoaded g t erased read into (Err refusal) = (¬ IsCovered g erased)
    × ((counts : List ℕ) × (refusal ≡ Lost t counts)
    × ((j : ℕ) → j < 32 → slice_index counts j ≡ count_in_slot erased j))

-- stripe t is gathered whole and restored
pub data LoadsStripe (t : ℕ) (into : Stripe) : Result (Unit {0}) Refusal → Snapshot → Snapshot → Type 0
  where
    Loaded : (was read : Stripe) (gathered : Gathered) (answer : Result (Unit {0}) Refusal)
        (x y : Snapshot) → Loads t (IsCellOf x.member.array.geometry) gathered was read None x y
        → IsLoaded x.member.array.geometry t gathered.erased read into answer
        → LoadsStripe t into answer x y
    Stops : (was read : Stripe) (gathered : Gathered) (fault : FenceFault) (x y : Snapshot)
        → Loads t (IsCellOf x.member.array.geometry) gathered was read (Some fault) x y
        → LoadsStripe t into (Err (refused fault)) x y

-- READING

-- cell (i, j) of stripe t was asked for, of a live slot, once, and this was answered
pub record AsksFor (t i j : ℕ) (answer : Got) (x y : Snapshot) : Type 0 where
  pub live : IsLiveIn x.member j
  pub member : y.member ≡ x.member
  pub later : IsLater x.told y.told
  pub called : IsTrue y.told.honest → Calls x.told.history y.told.history j
      (Read (cell_sector x.member.array.geometry t i) answer)

-- it couldn't be had: its slot isn't live, it read as bad, or the slot was gone
pub data CannotHave (t i j : ℕ) (x y : Snapshot) : Type 0 where
  NotLive : ¬ IsLiveIn x.member j → y ≡ x → CannotHave t i j x y
  WasBad : AsksFor t i j got.Bad x y
      → IsReading j (cell_sector x.member.array.geometry t i) x.told y.told Damaged
      → CannotHave t i j x y
  WasGone : AsksFor t i j got.Gone x y → IsGone j x.told y.told → CannotHave t i j x y

-- block b is in range, and cell (i, j) of stripe t
pub record IsInPlace (g : Geometry) (b t i j : ℕ) : Type 0 where
  pub below : b < block_count g
  pub place : IsPlaceOf g b t i j

-- Block b was read, by an array that remembered this stripe and remembers that one afterwards. It is a cell of the stripe that
-- is remembered, and no call is made; its own cell was read; or that one couldn't be read and the stripe was restored, which is
-- remembered from then on.
pub data Reads (b : ℕ) (old : Option Remembered)
    : Option Remembered → Result (List ℕ) Refusal → Snapshot → Snapshot → Type 0 where
  OutOf : (x : Snapshot) → block_count x.member.array.geometry ≤ b
      → Reads b old old (Err (OutOfRange b (block_count x.member.array.geometry))) x x
  Recalled : (one : Remembered) (i j : ℕ) (x : Snapshot) → old ≡ Some one
      → IsInPlace x.member.array.geometry b one.stripe i j
      → Reads b old old (Ok (cell one.cells i j)) x x
  Own : (t i j : ℕ) (bytes : List ℕ) (x y : Snapshot) → IsInPlace x.member.array.geometry b t i j
      → AsksFor t i j got.Good x y
      → IsReading j (cell_sector x.member.array.geometry t i) x.told y.told (Good bytes)
      → Reads b old old (Ok bytes) x y
  Restored : (t i j : ℕ) (into : Stripe) (x y z : Snapshot) → IsInPlace x.member.array.geometry b t i j
      → CannotHave t i j x y → LoadsStripe t into (Ok tt) y z
      → Reads b old (Some (record { stripe = t; cells = into })) (Ok (cell into i j)) x z
  Refused : (t i j : ℕ) (into : Stripe) (refusal : Refusal) (x y z : Snapshot)
      → IsInPlace x.member.array.geometry b t i j → CannotHave t i j x y
      → LoadsStripe t into (Err refusal) y z → Reads b old None (Err refusal) x z

-- WRITING

-- block b is data cell d of its stripe
pub record IsDataCell (g : Geometry) (b d : ℕ) : Type 0 where
  pub stripe : ℕ
  pub row : ℕ
  pub chunk : ℕ
  pub place : IsPlaceOf g b stripe row chunk
  pub at : cell_at g row chunk ≡ Data d

-- the cell changes with one of so many blocks from `first` on
pub record ChangesWith (g : Geometry) (first count i j : ℕ) : Type 0 where
  pub block : ℕ
  pub from : first ≤ block
  pub below : block < first + count
  pub data_cell : ℕ
  pub is_one : IsDataCell g block data_cell
  pub dependent : IsDependent g data_cell i j

-- the cells of a stripe that change with these blocks, or all of them where the blocks fill the stripe
abbrev pub AreOfBlocks : Geometry → ℕ → ℕ → CellSet → Type 0
AreOfBlocks g first count cells = (i j : ℕ) → HasCell cells i j
    ↔ (IsCellOf g i j × ((count ≡ data_cells g) ⊎ ChangesWith g first count i j))

-- How the cells of a redo come to be known. The blocks fill the stripe, and nothing is read; these cells were read, each of
-- them; or the stripe was loaded, since one couldn't be read, or has a slot that isn't live.
pub data Prepares (t count : ℕ) (cells : CellSet) (loaded : Stripe)
    : Result (Unit {0}) Refusal → Snapshot → Snapshot → Type 0 where
  Filled : (x : Snapshot) → count ≡ data_cells x.member.array.geometry
      → Prepares t count cells loaded (Ok tt) x x
  ByCells : (gathered : Gathered) (was : Stripe) (x y : Snapshot)
      → count < data_cells x.member.array.geometry → Loads t (HasCell cells) gathered was loaded None x y
      → ((i j : ℕ) → ¬ HasCell gathered.erased i j) → Prepares t count cells loaded (Ok tt) x y
  Stops : (gathered : Gathered) (was : Stripe) (fault : FenceFault) (x y : Snapshot)
      → count < data_cells x.member.array.geometry
      → Loads t (HasCell cells) gathered was loaded (Some fault) x y
      → Prepares t count cells loaded (Err (refused fault)) x y
  AfterCells : (gathered : Gathered) (was into : Stripe) (i j : ℕ)
      (answer : Result (Unit {0}) Refusal) (x y z : Snapshot)
      → count < data_cells x.member.array.geometry
      → Loads t (HasCell cells) gathered was into None x y → HasCell gathered.erased i j
      → LoadsStripe t loaded answer y z → Prepares t count cells loaded answer x z
  ByStripe : (i j : ℕ) (answer : Result (Unit {0}) Refusal) (x y : Snapshot)
      → count < data_cells x.member.array.geometry → HasCell cells i j → ¬ IsLiveIn x.member j
      → LoadsStripe t loaded answer x y → Prepares t count cells loaded answer x y

-- where the loaded stripe has the cells of a codeword, this one has those of it with the blocks set
abbrev pub AreSet : Geometry → ℕ → ℕ → List (List ℕ) → CellSet → Stripe → Stripe → Type 0
AreSet g t first contents cells loaded stripe = (before after : Stripe) → IsStripeOf g before
    → IsWellFormed before → IsCodeword g before
    → (length contents ≡ data_cells g)
    ⊎ ((i j : ℕ) → HasCell cells i j → cell before i j ≡ cell loaded i j)
    → IsSetFrom g t first contents before after
    → (i j : ℕ) → HasCell cells i j → cell stripe i j ≡ cell after i j

-- where in the array the blocks are, sectors of one stripe, which may be written
pub record AreInPlace (array : Configuration) (first : ℕ) (contents : List (List ℕ)) (t : ℕ)
    (cells : CellSet) : Type 0 where
  pub below : first < block_count array.geometry
  pub thawed : array.frozen ≡ false
  pub sectors : All IsSector contents
  pub together : AreOfOneStripe array.geometry first (length contents)
  pub stripe : t ≡ first / data_cells array.geometry
  pub formed : IsCellSet cells
  pub change : AreOfBlocks array.geometry first (length contents) cells

pub data WritesBlocks (first : ℕ) (contents : List (List ℕ))
    : Result (Unit {0}) Refusal → Snapshot → Snapshot → Type 0 where
  OutOf : (x : Snapshot) → block_count x.member.array.geometry ≤ first
      → WritesBlocks first contents (Err (OutOfRange first (block_count x.member.array.geometry))) x x
  IsFrozen : (x : Snapshot) → first < block_count x.member.array.geometry
      → IsTrue x.member.array.frozen → WritesBlocks first contents (Err Frozen) x x
  Unready : (t : ℕ) (cells : CellSet) (loaded : Stripe) (refusal : Refusal) (x y : Snapshot)
      → AreInPlace x.member.array first contents t cells
      → Prepares t (length contents) cells loaded (Err refusal) x y
      → WritesBlocks first contents (Err refusal) x y
  Wrote : (redo : Redo) (loaded stripe : Stripe) (refusal : Option FenceFault) (x y z : Snapshot)
      → AreInPlace x.member.array first contents redo.stripe redo.cells
      → IsRedo x.member.array.geometry redo
      → Prepares redo.stripe (length contents) redo.cells loaded (Ok tt) x y
      → AreSet x.member.array.geometry redo.stripe first contents redo.cells loaded stripe
      → Redoes x.member.array.geometry redo stripe AtRest refusal y z
      → WritesBlocks first contents (answer_of tt refusal) x z
