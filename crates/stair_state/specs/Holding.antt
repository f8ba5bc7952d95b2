-- What is consistent however its media lie, also once superblocks are written over lost ones: which medium holds the chunk of
-- a slot, and since which epoch.
use Rattle.std.specs.Prelude.{◌≡◌, ◌<◌, ◌≤◌, ◌⊎◌, ℕ, List, Option, Some}
use Rattle.stair_model.specs.Geometry.{Geometry}
use Rattle.stair_model.specs.Slots.{Slots, HasSlot}
use Rattle.stair_rack.specs.Crash.{EachImage}
use Rattle.stair_rack.specs.History.{Happening}
use Rattle.stair_rack.specs.Media.{Image, Medium}
use Rattle.stair_rack.specs.Sector.{Cell}
use Rattle.stair_super.specs.Superblock.{Superblock, joined_at, mark_at}
use Rattle.stair_super.specs.declared.mark.Mark.TheVariants.{Live, Rebuilding}
use Rattle.stair_member.specs.Counting.{AllBut}
use Rattle.stair_member.specs.Current.{IsLost}
use Rattle.stair_member.specs.Reserve.{Bears}
use Rattle.stair_member.specs.Superblocks.{IsSuperOf}
use Rattle.stair_journal.specs.declared.redo.Redo.{Redo}
use Rattle.stair_state.specs.Forms.{HasGate, IsOpen, RepresentsBy}
use Rattle.stair_state.specs.Reassembly.{IsBorne, IsMediumOf, IsReassembly, Location}
use Rattle.stair_state.specs.Represents.{AreSteady, Encodings, HaveSeats, IsLargeEnough}
use Rattle.stair_state.specs.State.{State, new_content}

-- for each slot the epoch in which the medium was admitted that holds its chunk; None where none does
abbrev pub CurrentMedia : Type 0
CurrentMedia = ℕ → Option ℕ

-- A medium of slot j with these cells is the slot's holder: it bears a superblock with that joined number, in either place.
pub record IsCurrentMedium (g : Geometry) (current_media : CurrentMedia) (j : ℕ) (cell : ℕ → Cell) : Type 0 where
  pub super : Superblock
  pub bears : Bears g j cell super
  pub joined : current_media j ≡ Some super.joined

-- each of these slots has its holder
abbrev pub HaveCurrentMedia : Geometry → CurrentMedia → Image → (ℕ → Type 0) → Type 0
HaveCurrentMedia g current_media image some = (j : ℕ) → some j → IsCurrentMedium g current_media j ((image j).cell)

-- a medium of the image bears this superblock, of no earlier epoch
pub record IsBorneSince (g : Geometry) (since : ℕ) (image : Image) (s : Superblock) : Type 0 where
  pub slot : ℕ
  pub place : Location
  pub borne : IsBorne g image slot place s
  pub since_then : since ≤ s.array.epoch

-- Of the medium of slot j that was admitted in this epoch this holds, wherever it lies, unless a superblock place of it is
-- lost.
abbrev pub OfAdmitted : Geometry → Image → ℕ → (Superblock → Type 0) → ℕ → Type 0
OfAdmitted g image joined Q j = (p : Location) (medium : Medium) (s : Superblock)
    → IsMediumOf (image j) p medium → IsSuperOf medium.cell s → s.slot ≡ j
    → s.array.geometry ≡ g → s.joined ≡ joined → ¬ IsLost (medium.cell 0)
    → ¬ IsLost (medium.cell 1) → Q s

-- where the superblock marks slot j live, the medium that it means names a later epoch by now
abbrev pub HasOvertaken : Geometry → Image → Superblock → ℕ → Type 0
HasOvertaken g image a j = mark_at a j ≡ Live
    → OfAdmitted g image (joined_at a j) (λ s. a.array.epoch < s.array.epoch) j

-- the draw of slot j's holder is at least every epoch that a medium bears, in a slot or outside
abbrev pub CurrentMediumReserved : Geometry → CurrentMedia → Image → ℕ → Type 0
CurrentMediumReserved g current_media image j = (joined : ℕ) → current_media j ≡ Some joined
    → OfAdmitted g image joined (λ s. (i : ℕ) (q : Location) (t : Superblock)
    → IsBorne g image i q t → t.array.epoch ≤ s.draw) j

-- The image is consistent however its media lie, by these holders, since this epoch: marks and joined numbers of the state
-- aside.
pub record IsConsistentBy (s : State) (encodings : Encodings s) (current_media : CurrentMedia) (since : ℕ)
    (image : Image) : Type 0 where
  -- of an earlier epoch, all media but m that were live in it name a later one
  pub overtaken : (i : ℕ) (p : Location) (a : Superblock) → IsBorne s.geometry image i p a
      → a.array.epoch < since → AllBut s.geometry.n s.geometry.m (HasOvertaken s.geometry image a)
  -- all holders but m have drawn every epoch that a medium bears
  pub reserved : AllBut s.geometry.n s.geometry.m (CurrentMediumReserved s.geometry current_media image)
  -- since then a slot is marked live with its holder alone
  pub live : (j : ℕ) (a : Superblock) → IsBorneSince s.geometry since image a
      → mark_at a j ≡ Live → current_media j ≡ Some (joined_at a j)
  -- and as one that is rebuilt, if it has one, with that alone too
  pub rebuilt : (j joined : ℕ) (a : Superblock) → IsBorneSince s.geometry since image a
      → mark_at a j ≡ Rebuilding → current_media j ≡ Some joined → joined ≡ joined_at a j
  -- and frozen mark and label are the state's
  pub frozen : (a : Superblock) → IsBorneSince s.geometry since image a
      → (a.array.frozen ≡ s.content.frozen) ⊎ (a.array.frozen ≡ (new_content s).frozen)
  pub label : (a : Superblock) → IsBorneSince s.geometry since image a
      → (a.array.label ≡ s.content.label) ⊎ (a.array.label ≡ (new_content s).label)
  -- whichever slots have their holders, one of which has a gate that isn't lost, represent the stripes
  pub forms : (to : Image) (some : Slots) → IsReassembly image to
      → HaveCurrentMedia s.geometry current_media to (HasSlot some) → HasGate (HasSlot some) to
      → RepresentsBy s.geometry encodings.old encodings.new (HasSlot some) to
  pub full : (to : Image) (j : ℕ) → IsReassembly image to
      → IsCurrentMedium s.geometry current_media j ((to j).cell) → IsLargeEnough s.geometry (to j).size
  -- no gate is open on a medium that is rebuilt
  pub rebuilding : (to : Image) (j : ℕ) (a b : Superblock) (redo : Redo) → IsReassembly image to
      → IsBorneSince s.geometry since image a → mark_at a j ≡ Rebuilding
      → Bears s.geometry j ((to j).cell) b → b.joined ≡ joined_at a j
      → ¬ IsOpen s.geometry to j redo
  -- an epoch names one configuration
  pub one_list : (i j : ℕ) (p q : Location) (a b : Superblock) → IsBorne s.geometry image i p a
      → IsBorne s.geometry image j q b → a.array.epoch ≡ b.array.epoch → a.array ≡ b.array
  -- no two media of a slot have one joined number
  pub own_joined : (j : ℕ) (p q : Location) (a b : Superblock) → IsBorne s.geometry image j p a
      → IsBorne s.geometry image j q b → a.joined ≡ b.joined → p ≡ q

-- what a crash now may leave is so, and has the state's marks where they are known
pub record IsConsistentSince (s : State) (current_media : CurrentMedia) (since : ℕ) (h : List Happening)
    : Type 0 where
  pub encodings : Encodings s
  pub each : EachImage (IsConsistentBy s encodings current_media since) h
  pub seats : HaveSeats s.seats s.geometry h
  pub steady : AreSteady s.geometry h

-- it is consistent under reassembly: by some holders, since some epoch
pub record IsConsistentUnderReassembly (s : State) (h : List Happening) : Type 0 where
  pub current_media : CurrentMedia
  pub since : ℕ
  pub is : IsConsistentSince s current_media since h
