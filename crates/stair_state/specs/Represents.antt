-- Which state of an array the media of a rack represent.
use Rattle.std.specs.Prelude.{◌≡◌, ◌<◌, ◌⊎◌, ℕ, IsTrue, List, [], ◌∷◌, Option, None, Some, ⊤}
use Rattle.stair_model.specs.Geometry.{Geometry, sectors_needed}
use Rattle.stair_rack.specs.Crash.{CrashMayLeave, EachImage}
use Rattle.stair_rack.specs.History.{Happening, Made, SlotCall, slot_state}
use Rattle.stair_rack.specs.Media.{Image, has_sector}
use Rattle.stair_rack.specs.Stretch.{IsNoWrite}
use Rattle.stair_super.specs.Superblock.{Superblock}
use Rattle.stair_member.specs.Current.{IsCurrent, IsLive, IsRebuilding}
use Rattle.stair_member.specs.Reserve.{IsOrderly}
use Rattle.stair_member.specs.Seats.{Seats, seats_of}
use Rattle.stair_member.specs.Superblocks.{IsOnlyIdentity}
use Rattle.stair_journal.specs.declared.redo.Redo.{Redo}
use Rattle.stair_state.specs.Blocks.{AreEncodingsOf, Codewords}
use Rattle.stair_state.specs.Degraded.{IsDegraded}
use Rattle.stair_state.specs.Forms.{IsOpen, RepresentsBy}
use Rattle.stair_state.specs.State.{State, new_content}
use Rattle.stair_state.specs.Tolerance.{IsToleratedAlone}

-- the encoded stripes of a state: of what the array holds, and of what it holds where the change in doubt was made
pub record Encodings (s : State) : Type 0 where
  pub old : Codewords
  pub new : Codewords
  pub old_are : AreEncodingsOf s.geometry s.content.blocks old
  pub new_are : AreEncodingsOf s.geometry (new_content s).blocks new

-- a medium of this size has each sector that a device of the array needs
abbrev pub IsLargeEnough : Geometry → Option ℕ → Type 0
IsLargeEnough g size = (k : ℕ) → k < sectors_needed g → IsTrue (has_sector size k)

-- An image represents the state, marks and joined numbers aside.
pub record ImageRepresents (s : State) (encodings : Encodings s) (image : Image) : Type 0 where
  pub identity : IsOnlyIdentity s.geometry image
  pub current : Superblock
  pub is_current : IsCurrent s.geometry image current
  pub full : (j : ℕ) → IsLive s.geometry image current j
      → IsLargeEnough s.geometry (image j).size
  pub form : RepresentsBy s.geometry encodings.old encodings.new
      (IsLive s.geometry image current) image
  -- no gate is open on a slot that is rebuilt
  pub rebuilding : (j : ℕ) (redo : Redo) → IsRebuilding s.geometry image current j
      → ¬ IsOpen s.geometry image j redo
  pub frozen : (current.array.frozen ≡ s.content.frozen)
      ⊎ (current.array.frozen ≡ (new_content s).frozen)
  pub label : (current.array.label ≡ s.content.label)
      ⊎ (current.array.label ≡ (new_content s).label)

-- The images of a rack: what a crash now may leave, the image now among it, and what is degraded from that and still within
-- tolerance.
pub data IsImageOf (g : Geometry) (h : List Happening) (image : Image) : Type 0 where
  Left : CrashMayLeave h image → IsImageOf g h image
  Lesser : (more : Image) → CrashMayLeave h more → IsDegraded more image
      → IsToleratedAlone g image → IsImageOf g h image

-- the current superblock of each image that a crash may leave has these marks and joined numbers, where they are known
abbrev pub HaveSeats : Option Seats → Geometry → List Happening → Type 0
HaveSeats None g h = ⊤
HaveSeats (Some seats) g h = EachImage (λ image. (current : Superblock) (j : ℕ)
    → IsOnlyIdentity g image → IsCurrent g image current → seats_of current j ≡ seats j) h

-- each slot that is live in the lesser image is live in the other
abbrev pub Shrinks : Geometry → Image → Image → Type 0
Shrinks g more less = (before after : Superblock) (j : ℕ) → IsCurrent g more before
    → IsCurrent g less after → IsLive g less after j → IsLive g more before j

-- of the image, and of what is degraded from it and within tolerance, no loss of media adds a live slot
abbrev pub OnlyShrinks : Geometry → Image → Type 0
OnlyShrinks g image = (more less : Image) → (more ≡ image) ⊎ IsToleratedAlone g more
    → IsDegraded image more → IsDegraded more less → IsToleratedAlone g less
    → Shrinks g more less

-- nothing is unsynced in the superblock places of the array's slots
abbrev pub AreSteady : Geometry → List Happening → Type 0
AreSteady g h = (j k : ℕ) → j < g.n → k < 2 → ((slot_state h j).sector k).since ≡ []

-- A rack with this history represents the state.
pub record Represents (s : State) (h : List Happening) : Type 0 where
  pub encodings : Encodings s
  pub each : (image : Image) → IsImageOf s.geometry h image → ImageRepresents s encodings image
  pub orderly : EachImage (IsOrderly s.geometry) h
  -- a loss of media only takes slots away
  pub shrinks : (more less : Image) → IsImageOf s.geometry h more → IsImageOf s.geometry h less
      → IsDegraded more less → Shrinks s.geometry more less
  pub seats : HaveSeats s.seats s.geometry h
  pub steady : AreSteady s.geometry h

-- so does a rack over these media, of which nothing is unsynced
abbrev pub RepresentsAlone : State → Image → Type 0
RepresentsAlone s image = Represents s (Made image ∷ [])

-- a call that writes nothing, on whatever slot; it may sync one
abbrev pub no_write : ℕ → SlotCall → Type 0
no_write j call = IsNoWrite call
