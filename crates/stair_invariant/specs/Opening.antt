-- What an opening rests on: what a survey found of a rack that an earlier session left, and what its gates tell.
use Rattle.std.specs.Prelude.{◌≡◌, ◌<◌, ◌⊎◌, ℕ, List, [], None, Option, Some, IsTrue}
use Rattle.stair_model.specs.Device.{gate_sector}
use Rattle.stair_model.specs.Geometry.{Geometry}
use Rattle.stair_model.specs.Slots.{HasSlot, Slots}
use Rattle.stair_rack.specs.Answers.{Ran, any_call}
use Rattle.stair_rack.specs.Crash.{EachImage}
use Rattle.stair_rack.specs.History.{Happening, slot_state, stopped}
use Rattle.stair_rack.specs.Media.{Image}
use Rattle.stair_rack.specs.Offline.{IsHeld}
use Rattle.stair_rack.specs.Stretch.{NothingReturned}
use Rattle.stair_super.specs.Superblock.{Superblock}
use Rattle.stair_super.specs.declared.configuration.Configuration.{Configuration}
use Rattle.stair_member.specs.Asked.{LeavesSectors}
use Rattle.stair_member.specs.Current.{IsCurrent, IsLive}
use Rattle.stair_member.specs.Fencing.{IsBegun}
use Rattle.stair_member.specs.Membership.{IsHere, IsMembership, Membership, why_of}
use Rattle.stair_member.specs.declared.why.Why.TheVariants.{Here, Rebuilding}
use Rattle.stair_journal.specs.Gate.{ReadsClosed}
use Rattle.stair_journal.specs.declared.redo.Redo.{Redo}
use Rattle.stair_state.specs.Blocks.{AreEncodingsOf, Codewords}
use Rattle.stair_state.specs.Forms.{IsOpen}
use Rattle.stair_state.specs.Recovering.{IsKnownBad, IsKnownOpen}
use Rattle.stair_state.specs.Redoing.{AtRest, IsIn, IsRedoing, Placing, Redoing, Stage, Uncommitted, new_in, old_in}
use Rattle.stair_state.specs.Represents.{Represents, RepresentsAlone}
use Rattle.stair_state.specs.State.{Content, State, new_content}
use Rattle.stair_state.specs.Surveyed.{IsLeftShut, IsOwnOrBare, MarksByReasons, NamesContent}
use Rattle.stair_state.specs.Tolerance.{IsToleratedAlone, ToleratedSince}
use Rattle.stair_invariant.specs.Effects.{Snapshot}
use Rattle.stair_invariant.specs.Leading.{IsOpenAmid}
use Rattle.stair_invariant.specs.SeatSteps.{EachMayDrop}
use Rattle.stair_invariant.specs.Session.{ArrayState, seats_in}
use Rattle.stair_invariant.specs.UnderWay.{AreKept, IsInUse, IsUnderWay}

-- what is current in whatever a crash leaves names what the member says
abbrev pub IsNamedAt : Membership → List Happening → Type 0
IsNamedAt m h = EachImage (λ image. (current : Superblock)
    → IsCurrent m.array.geometry image current → current.array ≡ m.array) h

-- A survey from old to mid, in a session that began at `before`, found this member of a rack that represented the state, and no
-- medium came back meanwhile.
pub record IsFoundFor (s : State) (m : Membership) (before old mid : List Happening) : Type 0
  where
    pub represents : Represents s old
    pub geometry : s.geometry ≡ m.array.geometry
    pub began : Ran any_call before old
    pub ran : Ran LeavesSectors old mid
    pub returned : NothingReturned old mid
    pub tolerated : ToleratedSince m.array.geometry before mid
    -- an epoch may begin with it
    pub begun : IsBegun None m mid
    -- it says what the rack named at first, or at the end
    pub named : IsNamedAt m old ⊎ IsNamedAt m mid
    pub content : NamesContent s m.array
    -- each slot that is live to it was live at first
    pub live : (j : ℕ) → j < m.array.geometry.n → why_of m j ≡ Here
        → EachImage (λ image. (current : Superblock) → IsCurrent m.array.geometry image current
        → IsLive m.array.geometry image current j) old
    pub marked : MarksByReasons m mid
    pub rebuilding : (j : ℕ) → j < m.array.geometry.n → why_of m j ≡ Rebuilding
        → IsLeftShut m.array.geometry mid j
    -- a slot that takes part has the medium that it had, or is bare
    pub own : (j : ℕ) → IsHere m j → IsOwnOrBare (slot_state old j) (slot_state mid j)
    pub held : (j : ℕ) → IsHere m j → IsHeld old mid j

-- These slots are at rest, or in a stage of a redo, from the stripes before or after a change in doubt to one of the two.
pub record HasStage (g : Geometry) (old new : Codewords) (live : ℕ → Type 0)
    (start h : List Happening) : Type 0 where
  pub redoing : Redoing
  pub stage : Stage
  pub geometry : redoing.geometry ≡ g
  pub begun : (stage ≡ AtRest) ⊎ IsRedoing redoing
  pub is_in : IsIn redoing stage live start h
  pub old_is : (old_in redoing stage ≡ old) ⊎ (old_in redoing stage ≡ new)
  pub new_is : (new_in redoing stage ≡ old) ⊎ (new_in redoing stage ≡ new)

-- What reading the gates tells: one of these slots has an open one, or none has.
pub data GatesTell (g : Geometry) (live : ℕ → Type 0) (image : Image) : Type 0 where
  OneIsOpen : (j : ℕ) (redo : Redo) → live j → IsOpen g image j redo → GatesTell g live image
  AllAreClosed : ((j : ℕ) → live j → ReadsClosed g ((image j).cell gate_sector))
      → GatesTell g live image

-- The stripes from which and to which a redo leads: those before a change in doubt, those after it, or from the first to the
-- second.
pub data AreBetween (old new first last : Codewords) : Type 0 where
  Before : first ≡ old → last ≡ old → AreBetween old new first last
  Across : first ≡ old → last ≡ new → AreBetween old new first last
  After : first ≡ new → last ≡ new → AreBetween old new first last

-- A recovery goes on from here: the epoch stands, and the slots in use are at rest, or in a redo that was cut off before it
-- was committed or after. Its stripes are those before or after a change in doubt.
pub record IsRecovering (a : Redoing) (stage : Stage) (old new : Codewords)
    (start : List Happening) (m : Membership) (h : List Happening) : Type 0 where
  pub way : IsUnderWay a stage start m h
  -- nothing is unsynced in their gates
  pub settled : (j : ℕ) → IsInUse m h j → ((slot_state h j).sector gate_sector).since ≡ []
  pub begun : (stage ≡ AtRest)
      ⊎ (IsRedoing a × ((stage ≡ Uncommitted) ⊎ (stage ≡ Placing)))
  pub words : AreBetween old new a.old a.new

-- What was found of the gates is so: this redo, or none at rest. Of the slots in use these have gates that are open with
-- it, and while its cells are placed no other gate can be read.
pub record IsToldBy (redo : Option Redo) (opened : Slots) (a : Redoing) (stage : Stage)
    (start : List Happening) (m : Membership) (h : List Happening) : Type 0 where
  pub none : redo ≡ None → stage ≡ AtRest
  pub some : (told : Redo) → redo ≡ Some told → (told ≡ a.redo)
      × IsRedoing a × ((stage ≡ Uncommitted) ⊎ (stage ≡ Placing))
  pub opened_are : (j : ℕ) → IsInUse m h j → HasSlot opened j
      → IsKnownOpen a.geometry a.redo start h j
  pub others_bad : stage ≡ Placing → (j : ℕ) → IsInUse m h j → ¬ HasSlot opened j
      → IsKnownBad start h j

-- At h, if no medium has come back since `from`, whatever a crash leaves and is within tolerance represents the state, with the
-- seats of its own current superblock: those of this epoch, but for slots that are Down.
abbrev pub StandsWithin : State → Configuration → List Happening → List Happening → Type 0
StandsWithin s first from h = NothingReturned from h → ¬ IsTrue (stopped h)
    → EachImage (λ image. (tolerated : IsToleratedAlone s.geometry image)
    → RepresentsAlone (record s { seats = Some (seats_in tolerated.current.array) }) image
    × AreKept s.geometry first tolerated.current.array) h

-- The member's epoch says the same of the array, and of its content beside its blocks; each slot has the seat that it had, or
-- was dropped.
pub record StaysArray (was is : Membership) : Type 0 where
  pub rules : IsMembership is
  pub geometry : is.array.geometry ≡ was.array.geometry
  pub frozen : is.array.frozen ≡ was.array.frozen
  pub label : is.array.label ≡ was.array.label
  pub seats : EachMayDrop (seats_in was.array) (seats_in is.array)

-- an array that was opened with this member, of which no slot is rebuilt
abbrev pub opened_with : Membership → ArrayState
opened_with m = record { member = m; rebuild = None; stopped = None; remembered = None }

-- What lasts while it is opened, in a session that began at `before`, once its first epoch stands.
pub record IsOpening (before : List Happening) (x : Snapshot) : Type 0 where
  pub amid : IsOpenAmid before (opened_with x.member) x.told.history
  pub begun : IsBegun None x.member x.told.history

-- The change in doubt is decided: the array holds these stripes, which are of what the state holds before it or after it, and the
-- member's epoch says the rest of that.
pub record IsDecidedAs (s : State) (m : Membership) (words : Codewords) (content : Content) : Type 0
  where
    pub one : (content ≡ s.content) ⊎ (content ≡ new_content s)
    pub encodings : AreEncodingsOf s.geometry content.blocks words
    pub frozen : m.array.frozen ≡ content.frozen
    pub label : m.array.label ≡ content.label
