-- How a call begins that establishes an epoch, on a rack that is consistent however its media lie.
use Rattle.std.specs.Prelude.{◌≡◌, ◌≤◌, ◌⊎◌, ℕ, List, Contains, Some}
use Rattle.stair_model.specs.Device.{gate_sector}
use Rattle.stair_model.specs.Geometry.{Geometry}
use Rattle.stair_model.specs.Slots.{HasSlot, Slots}
use Rattle.stair_rack.specs.Answers.{IsHistory}
use Rattle.stair_rack.specs.Crash.{EachImage, image_now}
use Rattle.stair_rack.specs.History.{Happening, SlotCall}
use Rattle.stair_rack.specs.Media.{Image}
use Rattle.stair_rack.specs.Offline.{IsAttached}
use Rattle.stair_rack.specs.Stretch.{IsNoWrite}
use Rattle.stair_super.specs.Superblock.{joined_in, mark_in}
use Rattle.stair_super.specs.declared.mark.Mark.TheVariants.{Live, Rebuilding}
use Rattle.stair_member.specs.Aims.{admitted, frozen_then, label_then}
use Rattle.stair_member.specs.Counting.{AllBut}
use Rattle.stair_member.specs.Editions.{edition_of}
use Rattle.stair_member.specs.Epochs.{Issued, IsTaken, StandsOnDisk}
use Rattle.stair_member.specs.Establishing.{IsEstablished}
use Rattle.stair_member.specs.Membership.{IsHere, IsMembership, Membership, why_of}
use Rattle.stair_member.specs.declared.aim.EpochChange.{EpochChange}
use Rattle.stair_member.specs.declared.aim.EpochChange.TheVariants.{Promote}
use Rattle.stair_member.specs.declared.why.Why.TheVariants.{Gone}
use Rattle.stair_journal.specs.Gate.{ReadsClosed}
use Rattle.stair_state.specs.Holding.{CurrentMediumReserved, CurrentMedia, IsConsistentSince, OfAdmitted}
use Rattle.stair_state.specs.Reassembly.{IsReassembly}
use Rattle.stair_state.specs.Redoing.{AttachesNone}
use Rattle.stair_state.specs.State.{State, new_content}
use Rattle.stair_invariant.specs.Returning.{IsKnownWherever}
use Rattle.stair_reinsert.specs.Behind.{HasCurrentMedium, IsKnownBehind}
use Rattle.stair_reinsert.specs.Given.{KnowsSuper}

-- the draw of slot j's holder is at least every epoch that a medium bears, and the member's
abbrev pub HasDrawnAll : Membership → CurrentMedia → Image → ℕ → Type 0
HasDrawnAll m current_media image j = CurrentMediumReserved m.array.geometry current_media image j
    × ((joined : ℕ) → current_media j ≡ Some joined
    → OfAdmitted m.array.geometry image joined (λ x. m.array.epoch ≤ x.draw) j)

-- The slots have their holders by these numbers: one that takes part, is marked as one that is rebuilt, or is to be admitted, has
-- none or the medium that the member means; and one that is marked live, or is to be promoted, has that one.
pub record AreMeant (current_media : CurrentMedia) (aim : EpochChange) (m : Membership) : Type 0 where
  pub taken : (j n : ℕ) → IsTaken (admitted aim) m j → current_media j ≡ Some n
      → IsHere m j × (n ≡ joined_in m.array j)
  pub live : (j : ℕ) → mark_in m.array j ≡ Live → current_media j ≡ Some (joined_in m.array j)
  pub rebuilt : (j n : ℕ) → mark_in m.array j ≡ Rebuilding → current_media j ≡ Some n
      → n ≡ joined_in m.array j
  pub promoted : (j : ℕ) → aim ≡ Promote j → current_media j ≡ Some (joined_in m.array j)

-- a call that writes nothing, and attaches no slot that takes part
pub record IsBesideMember (m : Membership) (j : ℕ) (call : SlotCall) : Type 0 where
  pub writes : IsNoWrite call
  pub attaches : AttachesNone (IsHere m) j call

-- what the member's epoch says beside its slots, and what the new one is to say, is so of the state, before or after the change
-- in doubt
pub record SaysContent (s : State) (aim : EpochChange) (m : Membership) : Type 0 where
  pub frozen : (m.array.frozen ≡ s.content.frozen) ⊎ (m.array.frozen ≡ (new_content s).frozen)
  pub label : (m.array.label ≡ s.content.label) ⊎ (m.array.label ≡ (new_content s).label)
  pub frozen_new : (frozen_then aim m.array ≡ s.content.frozen)
      ⊎ (frozen_then aim m.array ≡ (new_content s).frozen)
  pub label_new : (label_then aim m.array ≡ s.content.label)
      ⊎ (label_then aim m.array ≡ (new_content s).label)

-- At h such a call begins: the rack is consistent by these holders, since an epoch that isn't later than the member's.
pub record BeginsWherever (s : State) (current_media : CurrentMedia) (since : ℕ) (aim : EpochChange) (m : Membership)
    (h : List Happening) : Type 0 where
  pub history : IsHistory h
  pub member : IsMembership m
  pub geometry : m.array.geometry ≡ s.geometry
  pub is : IsConsistentSince s current_media since h
  pub recent : since ≤ m.array.epoch
  -- what the member knows of all media, of the superblocks in the slots that it may write, and after the places
  pub known : EachImage (IsKnownWherever (admitted aim) m (IsAttached h)) h
  pub supers : (j : ℕ) → IsTaken (admitted aim) m j → IsAttached h j → KnowsSuper m h j
  pub behind : IsKnownBehind s is.encodings current_media since aim m h
  -- all holders but m have drawn every epoch, the member's too
  pub drawn : AllBut m.array.geometry.n m.array.geometry.m
      (HasDrawnAll m current_media (image_now h))
  pub meant : AreMeant current_media aim m
  pub says : SaysContent s aim m

-- A call that began so at `old` wrote what `issued` says, and at `new` its epoch stands.
pub record StandsWherever (aim : EpochChange) (gone : Slots) (m last : Membership)
    (old new : List Happening) : Type 0 where
  pub issued : Issued aim gone m last old new
  pub member : IsMembership last
  pub established : IsEstablished aim m last gone
  pub dropped : (j : ℕ) → HasSlot gone j → why_of last j ≡ Gone
  pub among : Contains issued.editions (edition_of last)
  pub on_disk : StandsOnDisk (admitted aim) last old new
  -- the slot that is promoted was here
  pub promoted : (slot : ℕ) → aim ≡ Promote slot → IsHere m slot

-- in each reassembly the gate of a slot that has its holder, or the medium in use that the member means by it, reads closed
abbrev pub AreCurrentMediaClosed : Geometry → CurrentMedia → Membership → List Happening → Type 0
AreCurrentMediaClosed g current_media m h = EachImage (λ image. (to : Image) (j : ℕ) → IsReassembly image to
    → HasCurrentMedium g current_media m h (image j) (to j) j → ReadsClosed g ((to j).cell gate_sector)) h
