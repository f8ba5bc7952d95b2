-- What the calls that establish an epoch do.
use Rattle.std.specs.Prelude.{◌≡◌, ◌≢◌, ◌⊎◌, ◌↔◌, ℕ, ◌+◌, ◌<◌, Bool, IsTrue, List, Contains, Option, None, Some, Result, Ok, Err, length}
use Rattle.stair_model.specs.Slots.{Slots, HasSlot, IsSlotSet, slot_count}
use Rattle.stair_rack.specs.RackCounts.{NoneFalls}
use Rattle.stair_super.specs.Superblock.{mark_in}
use Rattle.stair_super.specs.declared.mark.Mark.TheVariants as mark
use Rattle.stair_member.specs.Aims.{IsAimed, admitted, aimed}
use Rattle.stair_member.specs.Editions.{edition_of}
use Rattle.stair_member.specs.Epochs.{IsRefusedBy, IsTaken, Issued, Stands, StandsOnDisk, WereGone}
use Rattle.stair_member.specs.Membership.{Membership, IsHere, IsMembership, why_of}
use Rattle.stair_rack.specs.RackState.{RackState}
use Rattle.stair_member.specs.declared.aim.EpochChange.{EpochChange}
use Rattle.stair_member.specs.declared.aim.EpochChange.TheVariants.{Fence, Stamp}
use Rattle.stair_member.specs.declared.fault.AdmitFault.{AdmitFault}
use Rattle.stair_member.specs.declared.fault.AdmitFault.TheVariants as admit
use Rattle.stair_member.specs.declared.fault.FenceFault.{FenceFault}
use Rattle.stair_member.specs.declared.fault.FenceFault.TheVariants as fence
use Rattle.stair_member.specs.declared.why.Why.TheVariants.{Gone}

-- the reasons are as the epoch is for, but of the slots that were gone
abbrev pub AreAimed : EpochChange → Slots → Membership → Membership → Type 0
AreAimed aim gone m last = (j : ℕ) → j < m.array.geometry.n → ¬ HasSlot gone j
    → why_of last j ≡ aimed aim j (why_of m j)

-- The epoch stands: it is for this, and the slots in `gone` were dropped meanwhile, each of which cost a draw.
pub record IsEstablished (aim : EpochChange) (m last : Membership) (gone : Slots) : Type 0 where
  pub stands : Stands m last
  pub drawn : last.drawn ≡ m.drawn + slot_count gone + 1
  pub whys : AreAimed aim gone m last
  pub aimed_at : IsAimed aim (HasSlot gone) m last.array

-- What the member says after a refusal: what it said at first, but that slots were gone; or what a new epoch names that was
-- begun.
pub data HasBegun (aim : EpochChange) (gone : Slots) (m last : Membership) : Type 0 where
  NotYet : last.array ≡ m.array
      → ((j : ℕ) → j < m.array.geometry.n → ¬ HasSlot gone j → why_of last j ≡ why_of m j)
      → HasBegun aim gone m last
  Did : m.drawn < last.array.epoch → IsAimed aim (HasSlot gone) m last.array
      → AreAimed aim gone m last → HasBegun aim gone m last

-- a slot became Down: it wasn't here, or was dropped as gone
pub record FellFor (m last : Membership) (gone : Slots) : Type 0 where
  pub cause : (j : ℕ) → j < m.array.geometry.n → mark_in last.array j ≡ mark.Down
      → mark_in m.array j ≢ mark.Down → (¬ IsHere m j) ⊎ HasSlot gone j

-- An epoch was established, or refused for this, by a member that was m and is `last`.
pub record Establishes (aim : EpochChange) (m last : Membership) (refusal : Option FenceFault)
    (old new : RackState) : Type 0 where
  pub gone : Slots
  -- on any rack
  pub honest : old.honest ≡ new.honest
  pub rules : IsMembership last
  pub geometry : last.array.geometry ≡ m.array.geometry
  pub were_gone : WereGone gone m last old new
  -- each slot that was gone took part when the call began, or was to be admitted
  pub took : (j : ℕ) → HasSlot gone j → IsTaken (admitted aim) m j
  pub done : refusal ≡ None → IsEstablished aim m last gone
  -- each slot that was gone cost a draw
  pub refused : (fault : FenceFault) → refusal ≡ Some fault
      → IsRefusedBy last fault × (last.drawn ≡ m.drawn + slot_count gone)
  pub began : HasBegun aim gone m last
  pub fell : FellFor m last gone
  pub counts : NoneFalls old.bads new.bads old.gones new.gones
  -- on an honest rack
  pub issued : IsTrue new.honest → Issued aim gone m last old.history new.history
  pub among : (honest : IsTrue new.honest) → refusal ≡ None
      → Contains (issued honest).editions (edition_of last)
  pub on_disk : IsTrue new.honest → refusal ≡ None → StandsOnDisk (admitted aim) last old.history
      new.history

-- THE CALLS

-- these slots are dropped, and nothing else is changed
pub record Leaves (leaving : Slots) (m start : Membership) : Type 0 where
  pub array : start.array ≡ m.array
  pub drawn : start.drawn ≡ m.drawn
  pub size : length start.whys ≡ length m.whys
  pub places : start.places ≡ m.places
  pub left : (j : ℕ) → HasSlot leaving j → why_of start j ≡ Gone
  pub others : (j : ℕ) → ¬ HasSlot leaving j → why_of start j ≡ why_of m j

-- the slots that became Down
pub record AreFallen (m last : Membership) (fallen : Slots) : Type 0 where
  pub formed : IsSlotSet fallen
  pub are : (j : ℕ) → HasSlot fallen j ↔ ((j < m.array.geometry.n)
      × (mark_in last.array j ≡ mark.Down) × (mark_in m.array j ≢ mark.Down))

abbrev pub refusal_of : {A : Type 0} → Result A FenceFault → Option FenceFault
refusal_of (Ok x) = None
refusal_of (Err fault) = Some fault

abbrev pub IsFallenIfOk : {E : Type 0} → Membership → Membership → Result Slots E → Type 0
IsFallenIfOk m last (Ok fallen) = AreFallen m last fallen
IsFallenIfOk m last (Err fault) = Unit {0}

-- what `fence` does
pub record Fences (leaving : Slots) (m last : Membership) (answer : Result Slots FenceFault)
    (old new : RackState) : Type 0 where
  pub start : Membership
  pub leaves : Leaves leaving m start
  pub establishes : Establishes Fence start last (refusal_of answer) old new
  pub fallen : IsFallenIfOk m last answer

-- what `stamp` does
pub record Stamps (frozen : Bool) (label : List ℕ) (m last : Membership)
    (answer : Result Slots FenceFault) (old new : RackState) : Type 0 where
  pub establishes : Establishes (Stamp frozen label) m last (refusal_of answer) old new
  pub fallen : IsFallenIfOk m last answer

-- What is refused of an admission or a promotion: an epoch; or the slot was gone, and an epoch without it stands.
abbrev pub refusal_in : Result Slots AdmitFault → Option FenceFault
refusal_in (Ok fallen) = None
refusal_in (Err (admit.TooFew whys)) = Some (fence.TooFew whys)
refusal_in (Err admit.EpochsSpent) = Some fence.EpochsSpent
refusal_in (Err (admit.Gone slot)) = None

-- the slot was gone exactly where that is the answer
abbrev pub IsGoneIfToldSo : ℕ → Slots → Result Slots AdmitFault → Type 0
IsGoneIfToldSo slot gone (Ok fallen) = ¬ HasSlot gone slot
IsGoneIfToldSo slot gone (Err (admit.Gone told)) = (told ≡ slot) × HasSlot gone slot
IsGoneIfToldSo slot gone (Err fault) = Unit {0}

-- what `admit` and `promote` do
pub record Joins (aim : EpochChange) (slot : ℕ) (m last : Membership)
    (answer : Result Slots AdmitFault) (old new : RackState) : Type 0 where
  pub establishes : Establishes aim m last (refusal_in answer) old new
  pub told : IsGoneIfToldSo slot establishes.gone answer
  pub fallen : IsFallenIfOk m last answer
