-- What establishing an epoch means: which superblocks are written, when an epoch stands, and why none does.
use Rattle.std.specs.Prelude.{◌≡◌, ◌⊎◌, ℕ, ◌+◌, ◌-◌, ◌^◌, ◌<◌, ◌≤◌, true, IsTrue, List, [], Contains, Option, Some, IsSome}
use Rattle.stair_model.specs.Slots.{Slots, HasSlot, IsSlotSet}
use Rattle.stair_rack.specs.Answers.{Ran, is_ready}
use Rattle.stair_rack.specs.Count.{Rose}
use Rattle.stair_rack.specs.History.{Happening, SlotCall, Attach, Sectors, Read, Sync, Write, slot_state, stopped}
use Rattle.stair_rack.specs.Media.{has_sector}
use Rattle.stair_rack.specs.Moments.{AtEveryMoment, IsMoment}
use Rattle.stair_rack.specs.Offline.{ButForOutside, IsHeld, IsOfflineUntilAttached}
use Rattle.stair_rack.specs.Passes.{Landed}
use Rattle.stair_rack.specs.Sector.{Damaged, Good, settled}
use Rattle.stair_rack.specs.Stretch.{WasAnswered}
use Rattle.stair_rack.specs.declared.rack.Reply.{Reply}
use Rattle.stair_rack.specs.declared.rack.Reply.TheVariants as reply
use Rattle.stair_super.specs.Spelling.{spelled}
use Rattle.stair_super.specs.Superblock.{Superblock, IsSuperblock, mark_in}
use Rattle.stair_super.specs.declared.configuration.Configuration.{Configuration}
use Rattle.stair_super.specs.declared.mark.Mark.TheVariants as mark
use Rattle.stair_member.specs.Aims.{IsAimed, admitted, mark_for}
use Rattle.stair_member.specs.Counting.{AllBut, AtMost, MoreThan}
use Rattle.stair_member.specs.Editions.{Edition, copy_of, edition_of}
use Rattle.stair_member.specs.Membership.{Membership, IsHere, IsMissing, place_of, why_of}
use Rattle.stair_rack.specs.RackState.{RackState}
use Rattle.stair_member.specs.declared.aim.EpochChange.{EpochChange}
use Rattle.stair_member.specs.declared.fault.AdmitFault.{AdmitFault}
use Rattle.stair_member.specs.declared.fault.AdmitFault.TheVariants as admit
use Rattle.stair_member.specs.declared.fault.FenceFault.{FenceFault}
use Rattle.stair_member.specs.declared.fault.FenceFault.TheVariants.{TooFew, EpochsSpent}
use Rattle.stair_member.specs.declared.why.Why.TheVariants.{Gone}

abbrev pub of_fence : FenceFault → AdmitFault
of_fence (TooFew whys) = admit.TooFew whys
of_fence EpochsSpent = admit.EpochsSpent

-- THE CALLS, on an honest rack

-- of these slots: a superblock of one of these editions is written to a place of its slot, or a slot is synced
pub data IsIssuing (slots : Slots) (editions : List Edition) (j : ℕ) (call : SlotCall) : Type 0
  where
    AWrite : (e : Edition) (k : ℕ) (answer : Reply) → HasSlot slots j → Contains editions e
        → IsSuperblock (copy_of e j) → k < 2 → call ≡ Write k (spelled (copy_of e j)) answer
        → IsIssuing slots editions j call
    ASync : (answer : Reply) → HasSlot slots j → call ≡ Sync answer
        → IsIssuing slots editions j call

-- place k of slot j holds this superblock on the disk, but for what the outside did since old
abbrev pub IsOnDisk : List Happening → List Happening → ℕ → ℕ → Superblock → Type 0
IsOnDisk old h j k block = ButForOutside old h j k (λ s. s ≡ settled (Good (spelled block)))

-- Place k of slot j got this superblock: it landed there, and from a moment after that on, at which the slot was ready, the
-- place has it on the disk, but for the outside. No call that establishes an epoch attaches a slot, so the medium hadn't been
-- pulled by that moment.
pub record HasGot (old new : List Happening) (j k : ℕ) (block : Superblock) : Type 0 where
  pub moment : List Happening
  pub is_one : IsMoment old moment new
  pub ready : is_ready moment j ≡ true
  pub landed : Landed old moment j k (spelled block)
  pub since : AtEveryMoment (λ h. IsOnDisk old h j k block) moment new

-- Slot j has one of these editions on its disk, but for the outside: with at least this draw, and of at least this epoch.
pub record HasDraw (editions : List Edition) (draw epoch : ℕ) (old h : List Happening) (j : ℕ)
    : Type 0 where
  pub edition : Edition
  pub among : Contains editions edition
  pub formed : IsSuperblock (copy_of edition j)
  pub draws : draw ≤ edition.draw
  pub reaches : epoch ≤ edition.array.epoch
  pub place : ℕ
  pub place_in : place < 2
  pub on_disk : IsOnDisk old h j place (copy_of edition j)

-- Slot j, one of these, was given such an edition: it got it in a place, and has it there since, but for the outside. A slot
-- that was pulled before has none.
pub record WasGiven (slots : Slots) (editions : List Edition) (draw epoch : ℕ)
    (old h : List Happening) (j : ℕ) : Type 0 where
  pub slot : HasSlot slots j
  pub has : HasDraw editions draw epoch old h j
  pub got : HasGot old h j has.place (copy_of has.edition j)

-- the slot is here, or is to be admitted
abbrev pub IsTaken : Option ℕ → Membership → ℕ → Type 0
IsTaken joining m j = IsHere m j ⊎ ((joining ≡ Some j) × (j < m.array.geometry.n))

-- a new epoch marks a slot Down that took part when the call began, or was to be admitted
pub record IsDropped (joining : Option ℕ) (m : Membership) (array : Configuration) (j : ℕ)
    : Type 0 where
  pub is_new : m.array.epoch < array.epoch
  pub taken : IsTaken joining m j
  pub down : mark_in array j ≡ mark.Down

-- What was written up to a moment, by a member that began so: these editions alone, which are some of the call's.
pub record AreReserved (joining : Option ℕ) (slots : Slots) (all : List Edition) (m : Membership)
    (old h : List Happening) : Type 0 where
  pub editions : List Edition
  pub within : (e : Edition) → Contains editions e → Contains all e
  pub ran : Ran (IsIssuing slots editions) old h
  -- before one of a new epoch is written, all slots but m were given a draw for it, which names the epoch before it
  pub reserved : (e : Edition) → Contains editions e → m.array.epoch < e.array.epoch
      → AllBut m.array.geometry.n m.array.geometry.m
      (λ j. WasGiven slots editions e.array.epoch m.array.epoch old h j)
  pub reached : (a b : Edition) → Contains editions a → Contains editions b
      → a.array.epoch < b.array.epoch
      → AllBut m.array.geometry.n m.array.geometry.m
      (λ j. WasGiven slots editions b.array.epoch a.array.epoch old h j)
  -- and each slot that it drops was gone before: it is offline, where it was held and had both places
  pub left_out : (e : Edition) (j : ℕ) → Contains editions e → IsDropped joining m e.array j
      → (before : List Happening) → IsHeld before old j
      → ((slot_state old j).attached ≡ true → IsTrue (has_sector (slot_state old j).size 1))
      → IsOfflineUntilAttached before h j

-- Of a slot with a medium, at a moment: the place that isn't next is as it was and the next one wasn't synced yet, but for
-- the outside; or it has an edition of the call on its disk, with a new draw.
pub data IsStanding (m : Membership) (editions : List Edition) (old h : List Happening) (j : ℕ)
    : Type 0 where
  AsWas : ButForOutside old h j (1 - place_of m j)
      (λ s. s ≡ (slot_state old j).sector (1 - place_of m j))
      → ButForOutside old h j (place_of m j)
      (λ s. (s.base ≡ ((slot_state old j).sector (place_of m j)).base) ⊎ (s.base ≡ Damaged))
      → IsStanding m editions old h j
  Given : HasDraw editions (m.drawn + 1) m.array.epoch old h j
      → IsStanding m editions old h j

-- An edition of a call that began with the member m and ended with `last`: a new draw with what the epoch named then, or a new
-- epoch, of which the last is the member's.
pub record IsIssued (aim : EpochChange) (gone : ℕ → Type 0) (m last : Membership) (e : Edition)
    : Type 0 where
  pub geometry : e.array.geometry ≡ m.array.geometry
  pub above : m.drawn < e.draw
  pub most : e.draw ≤ last.drawn
  pub known : e.array.epoch ≤ e.draw
  pub epoch : (e.array ≡ m.array)
      ⊎ ((m.drawn < e.array.epoch) × IsAimed aim gone m e.array)
  pub latest : (e.array ≡ last.array) ⊎ (e.array.epoch < last.array.epoch)

-- nothing is unsynced in a place of slot j, but for the outside
abbrev pub IsPlaceSettled : List Happening → List Happening → ℕ → ℕ → Type 0
IsPlaceSettled old h j k = ButForOutside old h j k (λ s. s.since ≡ [])

-- What a call wrote that began with the member m and ended with `last`, Ok or refused, for this, where the slots in `gone`
-- were gone to it.
pub record Issued (aim : EpochChange) (gone : Slots) (m last : Membership) (old new : List Happening)
    : Type 0 where
  pub slots : Slots
  pub taking : (j : ℕ) → HasSlot slots j → IsTaken (admitted aim) m j
  pub editions : List Edition
  pub ran : Ran (IsIssuing slots editions) old new
  pub each : (e : Edition) → Contains editions e → IsIssued aim (HasSlot gone) m last e
  -- an epoch names one configuration
  pub one_list : (a b : Edition) → Contains editions a → Contains editions b
      → a.array.epoch ≡ b.array.epoch → a.array ≡ b.array
  -- a greater draw never has an earlier epoch
  pub rising : (a b : Edition) → Contains editions a → Contains editions b → a.draw < b.draw
      → a.array.epoch ≤ b.array.epoch
  pub reserved : AtEveryMoment (AreReserved (admitted aim) slots editions m old) old new
  -- the superblock that a slot has is never written over
  pub standing : AtEveryMoment (λ h. (j : ℕ) → HasSlot slots j
      → IsSome (slot_state old j).size → IsStanding m editions old h j) old new
  -- where the epoch that is the member's at last is a new one, all slots but m were given a draw for it
  pub drew : m.array.epoch < last.array.epoch
      → AllBut m.array.geometry.n m.array.geometry.m
      (λ j. WasGiven slots editions last.array.epoch m.array.epoch old new j)
  -- a superblock place with nothing unsynced at first has none at last, or the rack is stopped
  pub steady : (j k : ℕ) → k < 2 → IsSome (slot_state old j).size
      → ((slot_state old j).sector k).since ≡ []
      → IsPlaceSettled old new j k ⊎ IsTrue (stopped new)
  -- of the two places of a slot at most one has something unsynced at a time
  pub apart : (j : ℕ) → IsSome (slot_state old j).size
      → ((k : ℕ) → k < 2 → ((slot_state old j).sector k).since ≡ [])
      → AtEveryMoment (λ h. IsPlaceSettled old h j 0 ⊎ IsPlaceSettled old h j 1) old new

-- SLOTS THAT WERE GONE

-- a write or a sync that was answered gone
abbrev pub IsGoneCall : SlotCall → Type 0
IsGoneCall (Attach answer) = ⊥
IsGoneCall (Sectors size) = ⊥
IsGoneCall (Read k answer) = ⊥
IsGoneCall (Write k bytes answer) = answer ≡ reply.Gone
IsGoneCall (Sync answer) = answer ≡ reply.Gone

-- where the call was answered so, the slot is one of these
abbrev pub IsGoneOf : (ℕ → Type 0) → ℕ → SlotCall → Type 0
IsGoneOf gone j call = IsGoneCall call → gone j

-- These slots answered gone in the call, and a held one whose medium has both places is offline until it is attached. On an
-- honest rack all that answered so are among them.
pub record WereGone (gone : Slots) (m last : Membership) (old new : RackState) : Type 0 where
  pub formed : IsSlotSet gone
  pub below : (j : ℕ) → HasSlot gone j → j < m.array.geometry.n
  pub rose : (j : ℕ) → HasSlot gone j → Rose (old.gones j) (new.gones j)
  pub dropped : (j : ℕ) → HasSlot gone j → why_of last j ≡ Gone
  pub told : IsTrue new.honest → (j : ℕ) (call : SlotCall)
      → WasAnswered j call old.history new.history → IsGoneCall call → HasSlot gone j
  pub shut : IsTrue new.honest → (before : List Happening) (j : ℕ) → HasSlot gone j
      → IsHeld before old.history j
      → ((slot_state old.history j).attached ≡ true
      → IsTrue (has_sector (slot_state old.history j).size 1))
      → IsOfflineUntilAttached before new.history j

-- AN EPOCH THAT STANDS

-- What an epoch names once it stands: each slot is marked as it is, a slot that stayed has its joined number, and the draw of
-- the epoch is the last one.
pub record Stands (m last : Membership) : Type 0 where
  pub geometry : last.array.geometry ≡ m.array.geometry
  pub above : m.drawn < last.array.epoch
  pub epoch : last.array.epoch ≡ last.drawn
  pub marks : (j : ℕ) → j < m.array.geometry.n
      → mark_in last.array j ≡ mark_for (why_of last j)
  -- enough slots are live
  pub enough : AtMost m.array.geometry.m (IsMissing last)

-- On an honest rack each slot that is here got a superblock of it in the call, has it on its disk, but for the outside, and
-- was synced whole; one that was admitted has it in both places. So where one is here the rack is running.
pub record StandsOnDisk (joining : Option ℕ) (last : Membership) (old new : List Happening)
    : Type 0 where
  pub got : (j k : ℕ) → IsHere last j
      → (k ≡ 1 - place_of last j) ⊎ ((joining ≡ Some j) × (k < 2))
      → HasGot old new j k (copy_of (edition_of last) j)
  pub on_disk : (j : ℕ) → IsHere last j
      → IsOnDisk old new j (1 - place_of last j) (copy_of (edition_of last) j)
  pub in_both : (j k : ℕ) → joining ≡ Some j → IsHere last j → k < 2
      → IsOnDisk old new j k (copy_of (edition_of last) j)
  pub synced : (j k : ℕ) → IsHere last j → IsSome (slot_state old j).size
      → IsPlaceSettled old new j k
  pub going : (j : ℕ) → IsHere last j → ¬ IsTrue (stopped new)

-- WHY NONE DOES

abbrev pub IsRefusedBy : Membership → FenceFault → Type 0
IsRefusedBy last (TooFew whys) = (whys ≡ last.whys) × MoreThan last.array.geometry.m (IsMissing last)
IsRefusedBy last EpochsSpent = (last.drawn ≡ 2 ^ 64 - 1)
    × AtMost last.array.geometry.m (IsMissing last)
