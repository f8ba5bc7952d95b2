-- What it is to hand a slot a superblock, and to hand one to each slot of a set.
use Rattle.std.specs.Prelude.{◌≡◌, ◌≢◌, ◌⊎◌, ℕ, ◌-◌, ◌<◌, ◌≤◌, Bool, true, false, IsTrue, List, [], Option, None, Some, IsSome, ◌==◌, unwrap_or}
use Rattle.stair_model.specs.Slots.{Slots, HasSlot}
use Rattle.stair_rack.specs.Answers.{Ran}
use Rattle.stair_rack.specs.History.{Happening, SlotCall, SlotState, Sync, Write, slot_state, stopped}
use Rattle.stair_rack.specs.Media.{has_sector}
use Rattle.stair_rack.specs.Moments.{AtEveryMoment}
use Rattle.stair_rack.specs.Offline.{IsHeld, IsKept, IsOfflineUntilAttached}
use Rattle.stair_rack.specs.declared.rack.Reply.{Reply}
use Rattle.stair_rack.specs.declared.rack.Reply.TheVariants as reply
use Rattle.stair_super.specs.Spelling.{spelled}
use Rattle.stair_member.specs.ChangesSteps.{issue}
use Rattle.stair_member.specs.Epochs.{HasGot, IsGoneOf, IsOnDisk, IsPlaceSettled}
use Rattle.stair_member.specs.Membership.{Membership, place_of}

-- a slot that is attached has both superblock places
abbrev pub HasPlaces : SlotState → Type 0
HasPlaces b = b.attached ≡ true → IsTrue (has_sector b.size 1)

-- the place of slot j that is written: the next one, or both
abbrev pub IsGiven : Membership → Bool → ℕ → ℕ → Type 0
IsGiven m both j k = (k ≡ place_of m j) ⊎ (IsTrue both × (k < 2))

-- a call that hands slot j its superblock
pub data IsGiving (m : Membership) (both : Bool) (j : ℕ) (call : SlotCall) : Type 0 where
  Writes : (k : ℕ) (answer : Reply) → IsGiven m both j k
      → call ≡ Write k (spelled (issue m j)) answer → IsGiving m both j call
  Syncs : (answer : Reply) → call ≡ Sync answer → IsGiving m both j call

abbrev pub IsHanding : Membership → ℕ → Bool → ℕ → SlotCall → Type 0
IsHanding m j both i call = (i ≡ j) × IsGiving m both i call

-- a call of another slot, or one that writes slot j's superblock to its next place, or a sync that was gone
abbrev pub IsUnsynced : Membership → ℕ → ℕ → SlotCall → Type 0
IsUnsynced m j i call = i ≡ j → IsGiving m false j call × (call ≢ Sync reply.Done)

-- slot j wasn't synced, or its superblock stands in the place that was next
abbrev pub IsGivenOrNot : Membership → ℕ → List Happening → List Happening → Type 0
IsGivenOrNot m j old h = Ran (IsUnsynced m j) old h ⊎ IsOnDisk old h j (place_of m j) (issue m j)

-- in no superblock place something comes to be unsynced, unless the rack is stopped
pub record StaysSettled (old new : List Happening) : Type 0 where
  pub each : (j k pulls : ℕ) → IsKept pulls k (λ s. s.since ≡ []) (slot_state old j)
      → IsKept pulls k (λ s. s.since ≡ []) (slot_state new j) ⊎ IsTrue (stopped new)

-- in one of slot j's superblock places nothing is unsynced, of a medium that was there after so many pulls
abbrev pub AreApart : ℕ → ℕ → List Happening → Type 0
AreApart pulls j h = IsKept pulls 0 (λ s. s.since ≡ []) (slot_state h j)
    ⊎ IsKept pulls 1 (λ s. s.since ≡ []) (slot_state h j)

-- it is so of both, so that one of them may be written; or of one, and the rack is stopped
abbrev pub GoesOnApart : ℕ → ℕ → List Happening → Type 0
GoesOnApart pulls j h = (IsKept pulls 0 (λ s. s.since ≡ []) (slot_state h j)
    × IsKept pulls 1 (λ s. s.since ≡ []) (slot_state h j))
    ⊎ (IsTrue (stopped h) × AreApart pulls j h)

-- the second superblock place of a slot isn't written before the first is synced
pub record StaysApart (old new : List Happening) : Type 0 where
  pub each : (j pulls : ℕ) → GoesOnApart pulls j old → AtEveryMoment (AreApart pulls j) old new
  pub after : (j pulls : ℕ) → GoesOnApart pulls j old → GoesOnApart pulls j new

-- What is left of a slot that was gone to a pass, or that the pass didn't come to: it wasn't synced, and its next place is the
-- same; or its superblock stands in the place that isn't next.
pub data IsLeft (m last : Membership) (j : ℕ) (old new : List Happening) : Type 0 where
  Unsynced : place_of last j ≡ place_of m j → Ran (IsUnsynced m j) old new
      → IsLeft m last j old new
  Stands : IsOnDisk old new j (1 - place_of last j) (issue m j) → IsLeft m last j old new

-- slot j was handed its superblock, by a member that is `last` afterwards, or was gone
pub record Handed (m last : Membership) (j : ℕ) (both : Bool) (answer : Reply)
    (old new : List Happening) : Type 0 where
  pub ran : Ran (IsHanding m j both) old new
  pub told : Ran (IsGoneOf (λ i. (i ≡ j) × (answer ≡ reply.Gone))) old new
  pub got : answer ≡ reply.Done → (k : ℕ) → IsGiven m both j k
      → HasGot old new j k (issue m j)
  pub stands : answer ≡ reply.Done → (k : ℕ) → IsGiven m both j k
      → IsOnDisk old new j k (issue m j)
  pub synced : answer ≡ reply.Done → (k : ℕ) → IsSome (slot_state old j).size
      → IsPlaceSettled old new j k
  -- the rack is running
  pub going : answer ≡ reply.Done → ¬ IsTrue (stopped new)
  pub steady : StaysSettled old new
  pub apart : StaysApart old new
  pub shut : answer ≡ reply.Gone → (before : List Happening) → IsHeld before old j
      → HasPlaces (slot_state old j) → IsOfflineUntilAttached before new j
  pub left : answer ≡ reply.Gone → IsLeft m last j old new
  pub between : AtEveryMoment (IsGivenOrNot m j old) old new

-- the slot that is handed both places
abbrev pub is_twice : Option ℕ → ℕ → Bool
is_twice None j = false
is_twice (Some slot) j = slot == j

abbrev pub IsSpreading : Membership → Slots → Option ℕ → ℕ → SlotCall → Type 0
IsSpreading m to twice i call = HasSlot to i × IsGiving m (is_twice twice i) i call

-- the slots of `to` below i were handed their superblocks
pub record SpreadBelow (m : Membership) (to : Slots) (twice : Option ℕ) (i : ℕ)
    (old new : List Happening) : Type 0 where
  pub ran : Ran (IsSpreading m to twice) old new
  pub got : (j k : ℕ) → j < i → HasSlot to j → IsGiven m (is_twice twice j) j k
      → HasGot old new j k (issue m j)
  pub stands : (j k : ℕ) → j < i → HasSlot to j → IsGiven m (is_twice twice j) j k
      → IsOnDisk old new j k (issue m j)
  pub synced : (j k : ℕ) → j < i → HasSlot to j → IsSome (slot_state old j).size
      → IsPlaceSettled old new j k
  pub steady : StaysSettled old new
  pub apart : StaysApart old new
  pub between : (j : ℕ) → AtEveryMoment (IsGivenOrNot m j old) old new

-- all slots of `to` were, by a member that is `last` afterwards, or those below one that was gone
pub record Spread (m last : Membership) (to : Slots) (twice gone : Option ℕ)
    (old new : List Happening) : Type 0 where
  pub below : SpreadBelow m to twice (unwrap_or gone 32) old new
  pub told : Ran (IsGoneOf (λ j. gone ≡ Some j)) old new
  pub left : (j : ℕ) → unwrap_or gone 32 ≤ j → IsLeft m last j old new
  -- where none was gone and there is one of these, the rack is running
  pub going : gone ≡ None → (j : ℕ) → j < 32 → HasSlot to j → ¬ IsTrue (stopped new)
  pub shut : (j : ℕ) → gone ≡ Some j → (before : List Happening) → IsHeld before old j
      → HasPlaces (slot_state old j) → IsOfflineUntilAttached before new j

-- the next place of a slot after it was handed its superblock
abbrev pub place_after : Bool → ℕ → ℕ
place_after true place = place
place_after false place = 1 - place

abbrev pub with_places : Membership → List ℕ → Membership
with_places m places = record m { places = places }

-- the next place of slot j after it was handed its superblock, or was gone; and nothing else is changed
pub record PlacesHanded (m last : Membership) (j : ℕ) (both : Bool) (answer : Reply)
    : Type 0 where
  pub rest : last ≡ with_places m last.places
  pub done : answer ≡ reply.Done → place_of last j ≡ place_after both (place_of m j)
  pub gone : answer ≡ reply.Gone → both ≡ false → place_of last j ≡ place_of m j
  pub others : (i : ℕ) → i ≢ j → place_of last i ≡ place_of m i

-- the next places after a pass, and nothing else is changed
pub record PlacesBelow (m last : Membership) (to : Slots) (twice : Option ℕ) (i : ℕ)
    : Type 0 where
  pub rest : last ≡ with_places m last.places
  pub done : (j : ℕ) → j < i → HasSlot to j
      → place_of last j ≡ place_after (is_twice twice j) (place_of m j)
  pub out : (j : ℕ) → ¬ HasSlot to j → place_of last j ≡ place_of m j
  pub later : (j : ℕ) → i ≤ j → is_twice twice j ≡ false → place_of last j ≡ place_of m j
