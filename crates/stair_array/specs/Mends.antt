-- What scrubbing, replacing, rebuilding and stamping did, whichever media come back.
use Rattle.std.specs.Prelude.{◌≡◌, ◌≢◌, ◌↔◌, ◌+◌, ◌<◌, ◌≤◌, ℕ, Bool, IsTrue, List, None, Option, Some, Result, Ok, Err, if◌then◌else◌, nat_lt}
use Rattle.stair_model.specs.CellSet.{CellSet, HasCell, cell_count}
use Rattle.stair_model.specs.Device.{chunks_start, first_place, gate_sector, second_place}
use Rattle.stair_model.specs.Geometry.{Geometry}
use Rattle.stair_model.specs.Slots.{HasSlot, Slots}
use Rattle.stair_model.specs.Stripe.{Stripe}
use Rattle.stair_rack.specs.Answers.{Calls, IsBesideAttach, Ran}
use Rattle.stair_rack.specs.Count.{Rose}
use Rattle.stair_rack.specs.History.{SlotCall, Attach, Sectors, Read, Write, Sync}
use Rattle.stair_rack.specs.Placed.{IsGoneSlot, IsSlot, Placed, Writes}
use Rattle.stair_rack.specs.Sector.{Cell}
use Rattle.stair_rack.specs.Stretch.{WasAnswered}
use Rattle.stair_rack.specs.RackState.{IsFoundGone, IsLater, IsReading, RackState}
use Rattle.stair_rack.specs.Writing.{IsOnSlot, Writing}
use Rattle.stair_rack.specs.declared.rack.Reply.{Reply}
use Rattle.stair_rack.specs.declared.rack.Reply.TheVariants as reply
use Rattle.stair_super.specs.Superblock.{Superblock, mark_in}
use Rattle.stair_super.specs.declared.mark.Mark.TheVariants.{Down}
use Rattle.stair_member.specs.Establishing.{Joins, Stamps, refusal_of}
use Rattle.stair_member.specs.Membership.{IsMembership, Membership}
use Rattle.stair_member.specs.Seeing.{Sees}
use Rattle.stair_member.specs.Superblocks.{HoldsSuper, HoldsThis}
use Rattle.stair_member.specs.declared.aim.EpochChange.TheVariants.{Admit, Promote}
use Rattle.stair_member.specs.declared.fault.AdmitFault.{AdmitFault}
use Rattle.stair_member.specs.declared.fault.AdmitFault.TheVariants as admit
use Rattle.stair_member.specs.declared.fault.FenceFault.{FenceFault}
use Rattle.stair_journal.specs.Phases.{AnswersGone}
use Rattle.stair_journal.specs.Redo.{IsRedo}
use Rattle.stair_journal.specs.declared.redo.Redo.{Redo}
use Rattle.stair_stripes.specs.Gathering.{IsCellOf}
use Rattle.stair_stripes.specs.Placing.{cell_writes}
use Rattle.stair_stripes.specs.declared.gathering.Gathered.{Gathered}
use Rattle.stair_state.specs.Redoing.{AtRest}
use Rattle.stair_invariant.specs.Chunks.{AreOfChunk}
use Rattle.stair_invariant.specs.Effects.{FencesGone, Loads, Snapshot, Redoes}
use Rattle.stair_invariant.specs.Session.{ArrayState, IsLiveIn, IsRebuiltIn}
use Rattle.stair_array.specs.Calls.{IsLoaded, LoadsStripe, answer_of, refused}
use Rattle.stair_array.specs.Causes.{BearsOther, HadEnough, IsFree, IsNextChunk, IsSmall}
use Rattle.stair_array.specs.Created.{created_sector}
use Rattle.stair_array.specs.Look.{IsLookAt}
use Rattle.stair_array.specs.Machine.{AlreadyArray, Chunk, Dropped, EpochsSpent, Gone, Nothing, OutOfRange, Progress, Promoted, Refusal, SlotBusy, SmallDevice, TooFew}

-- SCRUBBING

-- of a pattern the cells that lie on live slots
abbrev pub AreOnLive : Membership → CellSet → CellSet → Type 0
AreOnLive m erased cells = (i j : ℕ) → HasCell cells i j ↔ (HasCell erased i j × IsLiveIn m j)

-- Stripe t was gathered, and what couldn't be read of it on slots that are live after that was written anew, by a redo.
pub data Scrubs (t : ℕ) : Result ℕ Refusal → Snapshot → Snapshot → Type 0 where
  OutOf : (x : Snapshot) → x.member.array.geometry.stripes ≤ t
      → Scrubs t (Err (OutOfRange t x.member.array.geometry.stripes)) x x
  Stops : (was read : Stripe) (gathered : Gathered) (fault : FenceFault) (x y : Snapshot)
      → t < x.member.array.geometry.stripes
      → Loads t (IsCellOf x.member.array.geometry) gathered was read (Some fault) x y
      → Scrubs t (Err (refused fault)) x y
  Sound : (was read : Stripe) (gathered : Gathered) (x y : Snapshot)
      → t < x.member.array.geometry.stripes
      → Loads t (IsCellOf x.member.array.geometry) gathered was read None x y
      → ((i j : ℕ) → HasCell gathered.erased i j → ¬ IsLiveIn y.member j) → Scrubs t (Ok 0) x y
  Unrestored : (was read into : Stripe) (gathered : Gathered) (refusal : Refusal) (x y : Snapshot)
      → t < x.member.array.geometry.stripes
      → Loads t (IsCellOf x.member.array.geometry) gathered was read None x y
      → IsLoaded x.member.array.geometry t gathered.erased read into (Err refusal)
      → Scrubs t (Err refusal) x y
  Rewrote : (was read into : Stripe) (gathered : Gathered) (redo : Redo)
      (refusal : Option FenceFault) (x y z : Snapshot) → t < x.member.array.geometry.stripes
      → Loads t (IsCellOf x.member.array.geometry) gathered was read None x y
      → IsLoaded x.member.array.geometry t gathered.erased read into (Ok tt) → redo.stripe ≡ t
      → IsRedo x.member.array.geometry redo → AreOnLive y.member gathered.erased redo.cells
      → Redoes x.member.array.geometry redo into AtRest refusal y z
      → Scrubs t (answer_of (cell_count redo.cells) refusal) x z

-- REPLACING

-- calls on this slot that write nothing, or its journal alone, attaches too
abbrev pub IsPreparing : Geometry → ℕ → ℕ → SlotCall → Type 0
IsPreparing g slot j (Attach answer) = j ≡ slot
IsPreparing g slot j (Sectors size) = j ≡ slot
IsPreparing g slot j (Read k answer) = j ≡ slot
IsPreparing g slot j (Write k bytes answer) =
    (j ≡ slot) × (gate_sector ≤ k) × (k < chunks_start g)
IsPreparing g slot j (Sync answer) = j ≡ slot

-- a closed gate, and zeros for the body of a redo
abbrev pub new_journal : Geometry → Writes
new_journal g j k = if nat_lt k gate_sector then None
    else (if nat_lt k (chunks_start g) then Some (created_sector g j k) else None)

-- a call on this slot that writes nothing and attaches nothing
abbrev pub IsSecondLook : ℕ → ℕ → SlotCall → Type 0
IsSecondLook slot j call = IsLookAt slot j call × IsBesideAttach call

-- The member is as it was. The slot was attached, once, and then looked at.
pub record Looks (slot : ℕ) (mid : RackState) (x y : Snapshot) : Type 0 where
  pub member : y.member ≡ x.member
  pub first : IsLater x.told mid
  pub attached : IsTrue mid.honest → Calls x.told.history mid.history slot (Attach reply.Done)
  pub later : IsLater mid y.told
  pub ran : IsTrue y.told.honest → Ran (IsSecondLook slot) mid.history y.told.history

-- The member is as it was, and no device was written but for the slot's journal.
pub record OnlyPrepared (slot : ℕ) (x y : Snapshot) : Type 0 where
  pub member : y.member ≡ x.member
  pub later : IsLater x.told y.told
  pub ran : IsTrue y.told.honest
      → Ran (IsPreparing x.member.array.geometry slot) x.told.history y.told.history

-- The medium of the slot is large enough, and its two superblock places hold these, none of another array.
pub record IsFit (g : Geometry) (slot : ℕ) (first second : Option Superblock) (old new : RackState)
    : Type 0 where
  pub large : HadEnough g slot old new
  pub cell : ℕ → Cell
  pub reading : (k : ℕ) → k < 2 → IsReading slot k old new (cell k)
  pub in_first : HoldsThis (cell first_place) first
  pub in_second : HoldsThis (cell second_place) second
  pub own : (k : ℕ) (s : Superblock) → k < 2 → HoldsSuper (cell k) s → s.array.geometry ≡ g

-- A slot that is free was looked at, before anything of it was written, and given a new journal. What was found is of the one
-- medium that the attach found.
pub data PreparesSlot (slot : ℕ) : Result (Unit {0}) Refusal → Snapshot → Snapshot → Type 0 where
  WasGone : (x y : Snapshot) → OnlyPrepared slot x y → IsFoundGone slot x.told y.told
      → PreparesSlot slot (Err (Gone slot)) x y
  WasSmall : (has needs : ℕ) (mid : RackState) (x y : Snapshot) → Looks slot mid x y
      → IsSmall x.member.array.geometry slot has needs mid y.told
      → PreparesSlot slot (Err (SmallDevice slot has needs)) x y
  WasOther : (mid : RackState) (x y : Snapshot) → Looks slot mid x y
      → BearsOther x.member.array.geometry slot mid y.told
      → PreparesSlot slot (Err (AlreadyArray slot)) x y
  Prepared : (first second : Option Superblock) (mid : RackState) (x y z : Snapshot)
      → Looks slot mid x y
      → IsFit x.member.array.geometry slot first second mid y.told → IsLater y.told z.told
      → (IsTrue z.told.honest → Placed (new_journal x.member.array.geometry) (IsSlot slot) (λ j. ⊥)
      y.told.history z.told.history) → Sees slot first second y.member z.member
      → IsMembership z.member → PreparesSlot slot (Ok tt) x z

-- what is answered of an admission
abbrev pub joined_as : Result Slots AdmitFault → Result (Unit {0}) Refusal
joined_as (Ok fallen) = Ok tt
joined_as (Err (admit.TooFew whys)) = Err (TooFew whys)
joined_as (Err admit.EpochsSpent) = Err EpochsSpent
joined_as (Err (admit.Gone slot)) = Err (Gone slot)

pub data Replaces (slot : ℕ) : Result (Unit {0}) Refusal → Snapshot → Snapshot → Type 0 where
  OutOf : (x : Snapshot) → x.member.array.geometry.n ≤ slot
      → Replaces slot (Err (OutOfRange slot x.member.array.geometry.n)) x x
  Busy : (x : Snapshot) → slot < x.member.array.geometry.n → mark_in x.member.array slot ≢ Down
      → Replaces slot (Err (SlotBusy slot (mark_in x.member.array slot))) x x
  Unprepared : (refusal : Refusal) (x y : Snapshot) → IsFree x.member slot
      → PreparesSlot slot (Err refusal) x y → Replaces slot (Err refusal) x y
  Admitted : (answer : Result Slots AdmitFault) (x y z : Snapshot) → IsFree x.member slot
      → PreparesSlot slot (Ok tt) x y
      → Joins (Admit slot) slot y.member z.member answer y.told z.told
      → Replaces slot (joined_as answer) x z

-- REBUILDING

-- Slot j's chunk of stripe t is written, up to the first sector that is gone; nothing is synced.
pub record WritesChunk (j t : ℕ) (stripe : Stripe) (answer : Reply) (x y : Snapshot) : Type 0 where
  pub member : y.member ≡ x.member
  pub later : IsLater x.told y.told
  pub redo : Redo
  pub of_stripe : redo.stripe ≡ t
  pub formed : IsRedo x.member.array.geometry redo
  pub cells : AreOfChunk x.member.array.geometry j redo.cells
  pub wrote : IsTrue y.told.honest
      → Writing (cell_writes x.member.array.geometry redo stripe) (IsSlot j) (IsGoneSlot j answer)
      (IsOnSlot j) x.told.history y.told.history
  pub rose : answer ≡ reply.Gone → Rose (x.told.gones j) (y.told.gones j)
  pub gone : IsTrue y.told.honest → (i : ℕ) (call : SlotCall)
      → WasAnswered i call x.told.history y.told.history → AnswersGone call → IsGoneSlot j answer i

-- the slot that was rebuilt was gone, and is left out
pub record FencesSlot (j : ℕ) (refusal : Option FenceFault) (x y : Snapshot) : Type 0 where
  pub gone : Slots
  pub alone : (i : ℕ) → HasSlot gone i ↔ (i ≡ j)
  pub leaves : FencesGone gone refusal x y

-- slot j is synced
pub record SyncsSlot (j : ℕ) (answer : Reply) (x y : Snapshot) : Type 0 where
  pub member : y.member ≡ x.member
  pub later : IsLater x.told y.told
  pub synced : IsTrue y.told.honest → Calls x.told.history y.told.history j (Sync answer)
  pub rose : answer ≡ reply.Gone → Rose (x.told.gones j) (y.told.gones j)

-- what is answered of a promotion: one whose slot was gone dropped it
abbrev pub promoted_as : ℕ → Result Slots AdmitFault → Result Progress Refusal
promoted_as j (Ok fallen) = Ok (Promoted j)
promoted_as j (Err (admit.TooFew whys)) = Err (TooFew whys)
promoted_as j (Err admit.EpochsSpent) = Err EpochsSpent
promoted_as j (Err (admit.Gone slot)) = Ok (Dropped j)

-- all that was written on the slot is on the disk before it is promoted
pub data Promotes (j : ℕ) : Result Progress Refusal → Snapshot → Snapshot → Type 0 where
  Unsynced : (refusal : Option FenceFault) (x y z : Snapshot) → SyncsSlot j reply.Gone x y
      → FencesSlot j refusal y z → Promotes j (answer_of (Dropped j) refusal) x z
  Joined : (answer : Result Slots AdmitFault) (x y z : Snapshot) → SyncsSlot j reply.Done x y
      → Joins (Promote j) j y.member z.member answer y.told z.told
      → Promotes j (promoted_as j answer) x z

-- One step of a rebuild: the next chunk, and after the last one the promotion.
pub data Rebuilds (was : ArrayState) : Result Progress Refusal → Snapshot → Snapshot → Type 0 where
  NoneIs : (x : Snapshot) → ((j : ℕ) → ¬ IsRebuiltIn was.member j) → Rebuilds was (Ok Nothing) x x
  Unread : (j t : ℕ) (into : Stripe) (refusal : Refusal) (x y : Snapshot) → IsNextChunk was j t
      → t < x.member.array.geometry.stripes → LoadsStripe t into (Err refusal) x y
      → Rebuilds was (Err refusal) x y
  -- the slot itself fell as others were left out
  FellLoading : (j t : ℕ) (into : Stripe) (x y : Snapshot) → IsNextChunk was j t
      → t < x.member.array.geometry.stripes → LoadsStripe t into (Ok tt) x y
      → ¬ IsRebuiltIn y.member j → Rebuilds was (Ok (Dropped j)) x y
  Fell : (j t : ℕ) (into : Stripe) (refusal : Option FenceFault) (x y z w : Snapshot)
      → IsNextChunk was j t → t < x.member.array.geometry.stripes → LoadsStripe t into (Ok tt) x y
      → IsRebuiltIn y.member j → WritesChunk j t into reply.Gone y z → FencesSlot j refusal z w
      → Rebuilds was (answer_of (Dropped j) refusal) x w
  Wrote : (j t : ℕ) (into : Stripe) (x y z : Snapshot) → IsNextChunk was j t
      → t + 1 < x.member.array.geometry.stripes → LoadsStripe t into (Ok tt) x y
      → IsRebuiltIn y.member j → WritesChunk j t into reply.Done y z
      → Rebuilds was (Ok (Chunk j t)) x z
  WroteLast : (j t : ℕ) (into : Stripe) (answer : Result Progress Refusal) (x y z w : Snapshot)
      → IsNextChunk was j t → t + 1 ≡ x.member.array.geometry.stripes
      → LoadsStripe t into (Ok tt) x y → IsRebuiltIn y.member j
      → WritesChunk j t into reply.Done y z → Promotes j answer z w → Rebuilds was answer x w
  -- all chunks were written before
  OnlyPromotes : (j t : ℕ) (answer : Result Progress Refusal) (x y : Snapshot) → IsNextChunk was j t
      → t ≡ x.member.array.geometry.stripes → Promotes j answer x y → Rebuilds was answer x y

-- STAMPING

-- the frozen mark and the label of the next epoch
pub data StampsAs (frozen : Bool) (label : List ℕ)
    : Result (Unit {0}) Refusal → Snapshot → Snapshot → Type 0 where
  Stamped : (answer : Result Slots FenceFault) (x y : Snapshot)
      → Stamps frozen label x.member y.member answer x.told y.told
      → StampsAs frozen label (answer_of tt (refusal_of answer)) x y
