-- What a session keeps of an array between the calls that touch its devices, all of it said of the slots that are attached now.
use Rattle.std.specs.Prelude.{◌≡◌, ◌≢◌, ◌⊎◌, ◌<◌, ◌≤◌, ℕ, true, List, None, Option, Some, ⊤}
use Rattle.stair_model.specs.Device.{gate_sector}
use Rattle.stair_rack.specs.Answers.{is_good}
use Rattle.stair_rack.specs.Crash.{EachImage}
use Rattle.stair_rack.specs.History.{Happening, SlotCall, Attach, Sectors, Read, Write, Sync, slot_state}
use Rattle.stair_rack.specs.Media.{Image}
use Rattle.stair_rack.specs.Offline.{IsAttached}
use Rattle.stair_rack.specs.Moments.{AtSomeMoment}
use Rattle.stair_rack.specs.Sector.{content, damaged}
use Rattle.stair_rack.specs.declared.rack.Reply.{Reply}
use Rattle.stair_super.specs.Superblock.{Superblock, mark_in}
use Rattle.stair_super.specs.declared.configuration.Configuration.{Configuration}
use Rattle.stair_member.specs.Aims.{admitted, frozen_then, label_then, mark_for}
use Rattle.stair_member.specs.Counting.{AllBut}
use Rattle.stair_member.specs.Current.{HasMark}
use Rattle.stair_member.specs.Fencing.{IsBegun}
use Rattle.stair_member.specs.Membership.{Membership, IsHere, why_of}
use Rattle.stair_member.specs.Reserve.{HasReached}
use Rattle.stair_member.specs.declared.aim.EpochChange.{EpochChange}
use Rattle.stair_member.specs.declared.aim.EpochChange.TheVariants.{Promote}
use Rattle.stair_member.specs.declared.why.Why.TheVariants.{Here, Rebuilding}
use Rattle.stair_state.specs.Blocks.{AreEncodingsOf, Codewords}
use Rattle.stair_invariant.specs.Changing.{IsAttachedOrBare}
use Rattle.stair_state.specs.Recovering.{IsShut}
use Rattle.stair_state.specs.Redoing.{AttachesNone, WritesNone}
use Rattle.stair_invariant.specs.Session.{ServesSlot, seats_in}
use Rattle.stair_state.specs.State.{Change, Content, State, changed_if}

-- all slots but m take part and have reached the member's epoch
abbrev pub HaveReached : Membership → Image → Type 0
HaveReached m image = AllBut m.array.geometry.n m.array.geometry.m
    (λ j. IsHere m j × HasReached m.array.geometry image m.array.epoch j)

-- The epoch of the member stands, and each slot that takes part is attached to its medium or bears nothing. An attached one
-- serves where it is live, and its gate is closed where it is rebuilt.
pub record IsInSession (m : Membership) (words : Codewords) (h : List Happening) : Type 0 where
  pub begun : IsBegun None m h
  pub marks : (j : ℕ) → j < m.array.geometry.n → mark_in m.array j ≡ mark_for (why_of m j)
  pub reached : EachImage (HaveReached m) h
  pub own : (j : ℕ) → IsHere m j → IsAttachedOrBare h j
  pub live : (j : ℕ) → j < m.array.geometry.n → why_of m j ≡ Here → IsAttached h j
      → ServesSlot m.array.geometry words h j
  pub shut : (j : ℕ) → j < m.array.geometry.n → why_of m j ≡ Rebuilding → IsAttached h j
      → IsShut m.array.geometry h h j

-- What an epoch that is for this asks besides: the slot that is promoted serves; the one that is admitted isn't here, is
-- attached or bears nothing, has its gate closed, and holds no greater draw than was seen.
pub record IsReadyFor (aim : EpochChange) (m : Membership) (words : Codewords) (h : List Happening)
    : Type 0 where
  pub session : IsInSession m words h
  pub begun : IsBegun (admitted aim) m h
  pub promoted : (j : ℕ) → aim ≡ Promote j → IsHere m j
  pub serves : (j : ℕ) → aim ≡ Promote j → IsAttached h j → ServesSlot m.array.geometry words h j
  pub absent : (j : ℕ) → admitted aim ≡ Some j → (j < m.array.geometry.n) × (¬ IsHere m j)
  pub own : (j : ℕ) → admitted aim ≡ Some j → IsAttachedOrBare h j
  pub shut : (j : ℕ) → admitted aim ≡ Some j → IsAttached h j → IsShut m.array.geometry h h j

-- calls that write no superblock place, whatever else they do, also to slots that are attached, zeroed and rebuilt
abbrev pub IsBehindPlaces : ℕ → SlotCall → Type 0
IsBehindPlaces j (Attach answer) = ⊤
IsBehindPlaces j (Sectors size) = ⊤
IsBehindPlaces j (Read k answer) = ⊤
IsBehindPlaces j (Write k bytes answer) = 2 ≤ k
IsBehindPlaces j (Sync answer) = ⊤

-- The part of it that no stripe has a say in: it is so in the midst of a redo too.
pub record HasEpoch (m : Membership) (h : List Happening) : Type 0 where
  pub begun : IsBegun None m h
  pub marks : (j : ℕ) → j < m.array.geometry.n → mark_in m.array j ≡ mark_for (why_of m j)
  pub reached : EachImage (HaveReached m) h
  pub own : (j : ℕ) → IsHere m j → IsAttachedOrBare h j
  pub shut : (j : ℕ) → j < m.array.geometry.n → why_of m j ≡ Rebuilding → IsAttached h j
      → IsShut m.array.geometry h h j

-- Calls of a session beside its epochs: they write no superblock place, attach no slot that takes part, and write no gate of
-- one that is rebuilt.
pub record IsBesideEpochs (m : Membership) (j : ℕ) (call : SlotCall) : Type 0 where
  pub behind : IsBehindPlaces j call
  pub attaches : AttachesNone (IsHere m) j call
  pub gate : j < m.array.geometry.n → why_of m j ≡ Rebuilding → (bytes : List ℕ) (answer : Reply)
      → call ≢ Write gate_sector bytes answer

-- and write nothing after the places of a slot that is live: they are beside its redos too
pub record IsBeside (m : Membership) (j : ℕ) (call : SlotCall) : Type 0 where
  pub epochs : IsBesideEpochs m j call
  pub spares : WritesNone (λ i. (i < m.array.geometry.n) × (why_of m i ≡ Here)) j call

-- each superblock of the member's epoch gives the slot its mark, and the slot's medium is the one that it means
abbrev pub TakesPart : Membership → ℕ → Image → Type 0
TakesPart m j image = (current : Superblock) → current.array ≡ m.array
    → HasMark m.array.geometry image current (mark_for (why_of m j)) j

-- the sector could be read at some moment from old to new, and can't be at its end: the outside damaged it
abbrev pub WasHarmed : List Happening → List Happening → ℕ → ℕ → Type 0
WasHarmed old new j k =
    AtSomeMoment (λ h. is_good (content ((slot_state h j).sector k)) ≡ true) old new
    × ((slot_state new j).sector k ≡ damaged)

-- a state of the member's array, with the seats of this epoch
abbrev pub state_with : Membership → Content → Option Change → Configuration → State
state_with m content doubt array = record {
  geometry = m.array.geometry;
  content = content;
  in_doubt = doubt;
  seats = Some (seats_in array);
}

-- the stripes are those of the content, and the member's epoch says the rest of it
pub record IsOfContent (m : Membership) (words : Codewords) (content : Content) : Type 0 where
  pub encodings : AreEncodingsOf m.array.geometry content.blocks words
  pub frozen : m.array.frozen ≡ content.frozen
  pub label : m.array.label ≡ content.label

-- what the new epoch says of the content: what the content has, or what it has where the change in doubt was made
pub record IsAimedContent (aim : EpochChange) (m : Membership) (words : Codewords) (content : Content)
    (doubt : Option Change) : Type 0 where
  pub encodings : AreEncodingsOf m.array.geometry (changed_if doubt content).blocks words
  pub frozen : (frozen_then aim m.array ≡ content.frozen)
      ⊎ (frozen_then aim m.array ≡ (changed_if doubt content).frozen)
  pub label : (label_then aim m.array ≡ content.label)
      ⊎ (label_then aim m.array ≡ (changed_if doubt content).label)
