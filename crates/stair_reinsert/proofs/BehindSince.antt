-- While superblocks alone are written media hold after them what they held, wherever they lie.
use Rattle.std.proofs.Common.{◌≡◌, ℕ, ◌<◌, ◌≤◌, List, ◌⊎◌, inl, inr, refl, sym, ap, ◌∙◌, subst, arith, Bool, true, false, Option, None, Some, if◌then◌else◌, ◌==◌}
use Rattle.std.specs.Prelude.{nat_lt}
use Rattle.std.proofs.lemmas.Bool.{cases_Bool, cases_lt, cond-true, cond-false, eq-eqb, eqb-true, false≢true, lt-ltb, le-ltb}
use Rattle.stair_model.specs.Device.{gate_sector}
use Rattle.stair_model.specs.Geometry.{Geometry}
use Rattle.stair_model.specs.Slots.{HasSlot, Slots, has_slot}
use Rattle.stair_rack.specs.Answers.{IsHistory, Ran}
use Rattle.stair_rack.specs.Crash.{CrashMayLeave, SlotMayLeave, image_now}
use Rattle.stair_rack.specs.History.{Happening, slot_state}
use Rattle.stair_rack.specs.Media.{Image, Medium, SlotImage, has_sector}
use Rattle.stair_rack.specs.Offline.{IsAttached}
use Rattle.stair_rack.specs.Sector.{Cell, Damaged}
use Rattle.stair_rack.proofs.CrashLemmas.{CrashMayLeave-now}
use Rattle.stair_super.specs.Superblock.{Superblock, joined_in}
use Rattle.stair_member.specs.Aims.{admitted}
use Rattle.stair_member.specs.Current.{IsLost}
use Rattle.stair_member.specs.Editions.{Edition}
use Rattle.stair_member.specs.Epochs.{IsIssuing}
use Rattle.stair_member.specs.Fencing.{IsCopy}
use Rattle.stair_member.specs.Membership.{IsHere, Membership}
use Rattle.stair_member.specs.Reserve.{Bears}
use Rattle.stair_member.specs.Superblocks.{HoldsSuper}
use Rattle.stair_member.specs.declared.aim.EpochChange.{EpochChange}
use Rattle.stair_journal.specs.Gate.{IsOpenWith, ReadsClosed}
use Rattle.stair_journal.specs.declared.redo.Redo.{Redo}
use Rattle.stair_state.specs.Degraded.{AreDamagedCopies}
use Rattle.stair_state.specs.Forms.{HasGate, IsOpen, RepresentsBy}
use Rattle.stair_state.specs.Holding.{HaveCurrentMedia, CurrentMedia, IsCurrentMedium}
use Rattle.stair_state.specs.Reassembly.{Empty, InSlot, IsMediumOf, IsReassembledSlot, IsReassembly, Location, OneOf, Unwritten}
use Rattle.stair_state.specs.Represents.{Encodings, IsLargeEnough, no_write}
use Rattle.stair_state.specs.State.{State}
use Rattle.stair_state.proofs.DegradedLemmas.{copies_again, holds_before}
use Rattle.stair_state.proofs.ExchangedLemmas.{slot_here, slot_left, with_slot}
use Rattle.stair_state.proofs.FormLemmas.{good_whole, represents_still}
use Rattle.stair_state.proofs.ReassembledLemmas.{IsBorneFrom, from_slot}
use Rattle.stair_state.proofs.ReturnLemmas.{IsFrom, MediaCameFrom, at_image, came_looking}
use Rattle.stair_reinsert.specs.Beginning.{AreCurrentMediaClosed}
use Rattle.stair_reinsert.specs.Behind.{Bearing, HasNumber, InUse, IsKnownBehind, IsRebuiltAs}
use Rattle.stair_reinsert.specs.Following.{name_of}
use Rattle.stair_reinsert.proofs.BorneSince.{copy_given}
use Rattle.stair_reinsert.proofs.NameLemmas.{name_apart}
use Rattle.stair_reinsert.proofs.MediaSince.{IsCellSince, IsHarmed, IsMediumSince, IsStill, IsWritten, New, Same, medium_since}

-- nothing can be read past the end of a reassembled slot
pub reassembled_past : (from to : SlotImage) → IsReassembledSlot from to → (k : ℕ) → has_sector to.size k ≡ false → to.cell k ≡ Damaged
reassembled_past from to (OneOf place medium is size copies past) k none = past k none
reassembled_past from to (Unwritten size is all) k none = all k
reassembled_past from to (Empty is all) k none = all k

-- so a superblock that it bears lies within it
pub held_within : (from to : SlotImage) → IsReassembledSlot from to → (o : Option ℕ) → to.size ≡ o → (k : ℕ) (s : Superblock) → HoldsSuper (to.cell k) s
    → has_sector o k ≡ true
held_within from to slot o size k s holds =
    elim (cases_Bool (has_sector o k)) [
      | inl is ↦ is
      | inr past ↦ absurd (good_whole holds.good (reassembled_past from to slot k (ap (λ (l : Option ℕ). has_sector l k) size ∙ past)))
    ]

-- AFTER CALLS THAT WRITE NOTHING

-- a slot of a reassembled image that bears a superblock has a medium that bore it before them
pub record BoreThen (g : Geometry) (old : List Happening) (j : ℕ) (to : SlotImage) (b : Superblock) : Type 0 where
  pub was : SlotImage
  pub left : SlotMayLeave (slot_state old j) was
  pub place : Location
  pub medium : Medium
  pub is_one : IsMediumOf was place medium
  pub size : to.size ≡ Some medium.size
  pub copies : AreDamagedCopies medium.cell to.cell
  pub bears : Bears g j medium.cell b
  pub within : has_sector (Some medium.size) bears.place ≡ true

pub bore_then : (g : Geometry) (old new : List Happening) → Ran no_write old new → (image : Image) → CrashMayLeave new image → (to : Image) (j : ℕ)
    → IsReassembledSlot (image j) (to j) → (b : Superblock) → Bears g j ((to j).cell) b → BoreThen g old j (to j) b
bore_then g old new looked image left to j slot b bears = by (come.medium came.place came.medium came.is_one)
  where
    came : IsBorneFrom g image to j b
    came = from_slot g image to j b slot bears

    come : MediaCameFrom (slot_state old j) (image j)
    come = at_image (came_looking j looked) (image j) (left j)

    by : IsFrom come.was (come.place came.place) came.medium → BoreThen g old j (to j) b
    by (IsFrom.New all) = absurd (good_whole came.bears.holds.good (all came.bears.place))
    by (IsFrom.Same earlier at same copied) = record {
      was = come.was;
      left = come.left;
      place = come.place came.place;
      medium = earlier;
      is_one = at;
      size = came.size ∙ ap Some (sym same);
      copies = copies_again copied came.copies;
      bears = record {
        place = bears.place;
        place_in = bears.place_in;
        holds = holds_before (copies_again copied came.copies bears.place) bears.holds;
        slot = bears.slot;
        identity = bears.identity;
      };
      within = held_within (image j) (to j) slot (Some earlier.size) (came.size ∙ ap Some (sym same)) bears.place b bears.holds;
    }

-- BEHIND THE SUPERBLOCKS

-- the superblocks as they were, and after them what there is now
as_it_was : Medium → SlotImage → SlotImage
as_it_was medium to = record {
  size = Some medium.size;
  cell = λ k. if nat_lt k gate_sector then (if has_sector (Some medium.size) k then medium.cell k else Damaged) else to.cell k;
  removed = to.removed;
}

module _ (medium : Medium) (to : SlotImage) where
  place_was : (k : ℕ) → k < gate_sector → has_sector (Some medium.size) k ≡ true → (as_it_was medium to).cell k ≡ medium.cell k
  unfolding as_it_was
  place_was k below within = cond-true _ _ _ (lt-ltb k gate_sector below) ∙ cond-true _ _ _ within

  place_past : (k : ℕ) → k < gate_sector → has_sector (Some medium.size) k ≡ false → (as_it_was medium to).cell k ≡ Damaged
  unfolding as_it_was
  place_past k below past = cond-true _ _ _ (lt-ltb k gate_sector below) ∙ cond-false _ _ _ past

  behind_is : (k : ℕ) → gate_sector ≤ k → (as_it_was medium to).cell k ≡ to.cell k
  unfolding as_it_was
  behind_is k behind = cond-false _ _ _ (le-ltb k gate_sector behind)

-- SLOTS THAT HOLD MEDIA OF BEFORE

-- how the medium that lay there had this joined number when the call began
pub data HadNumber (g : Geometry) (m : Membership) (old : List Happening) (j n : ℕ) (place : Location) (medium : Medium) : Type 0 where
  Bore : (s : Superblock) (bears : Bears g j medium.cell s) → s.joined ≡ n → has_sector (Some medium.size) bears.place ≡ true
      → HadNumber g m old j n place medium
  WasInUse : place ≡ InSlot → IsHere m j → IsAttached old j → n ≡ joined_in m.array j → HadNumber g m old j n place medium

-- the slot holds, from the gate on, a copy of a medium that had this joined number then
pub record IsStillSlot (g : Geometry) (m : Membership) (old : List Happening) (j n : ℕ) (to : SlotImage) : Type 0 where
  pub was : SlotImage
  pub left : SlotMayLeave (slot_state old j) was
  pub place : Location
  pub medium : Medium
  pub is_one : IsMediumOf was place medium
  pub number : HadNumber g m old j n place medium
  pub size : to.size ≡ Some medium.size
  pub past : (k : ℕ) → has_sector (Some medium.size) k ≡ false → to.cell k ≡ Damaged
  pub copies : (k : ℕ) → gate_sector ≤ k → (to.cell k ≡ medium.cell k) ⊎ (to.cell k ≡ Damaged)

module _ (g : Geometry) (m : Membership) (old : List Happening) (n : ℕ → ℕ) (to : Image) (some : ℕ → Bool)
    (still : (j : ℕ) → some j ≡ true → IsStillSlot g m old j (n j) (to j)) where
  was_then : (j : ℕ) (b : Bool) → some j ≡ b → SlotImage
  was_then j true on = (still j on).was
  was_then j false off = image_now old j

  slot_then : (j : ℕ) (b : Bool) → some j ≡ b → SlotImage
  slot_then j true on = as_it_was (still j on).medium (to j)
  slot_then j false off = record { size = None; cell = λ k. Damaged; removed = (to j).removed }

  abbrev first : Image
  first j = was_then j (some j) refl

  abbrev back : Image
  back j = slot_then j (some j) refl

  was_left : (j : ℕ) (b : Bool) (is : some j ≡ b) → SlotMayLeave (slot_state old j) (was_then j b is)
  unfolding was_then
  was_left j true on = (still j on).left
  was_left j false off = CrashMayLeave-now old j

  first_left : CrashMayLeave old first
  first_left j = was_left j (some j) refl

  as_copies : (j : ℕ) (on : some j ≡ true) → AreDamagedCopies (still j on).medium.cell ((as_it_was (still j on).medium (to j)).cell)
  as_copies j on k =
      let h = still j on in
      elim (cases_lt k gate_sector) [
        | inl below ↦
            elim (cases_Bool (has_sector (Some h.medium.size) k)) [
              | inl within ↦ inl (place_was h.medium (to j) k below within)
              | inr past ↦ inr (place_past h.medium (to j) k below past)
            ]
        | inr behind ↦
            elim (h.copies k behind) [
              | inl same ↦ inl (behind_is h.medium (to j) k behind ∙ same)
              | inr harmed ↦ inr (behind_is h.medium (to j) k behind ∙ harmed)
            ]
      ]

  slot_reassembled : (j : ℕ) (b : Bool) (is : some j ≡ b) → IsReassembledSlot (was_then j b is) (slot_then j b is)
  unfolding slot_then as_it_was was_then
  slot_reassembled j true on =
      let h = still j on in
      OneOf h.place h.medium h.is_one refl (as_copies j on)
      (λ k none. elim (cases_lt k gate_sector) [
        | inl below ↦ place_past h.medium (to j) k below none
        | inr behind ↦ behind_is h.medium (to j) k behind ∙ h.past k none
      ])
  slot_reassembled j false off = Empty refl (λ k. refl)

  back_reassembled : IsReassembly first back
  back_reassembled j = slot_reassembled j (some j) refl

  number_then : (j : ℕ) (b : Bool) (is : some j ≡ b) → b ≡ true → HasNumber g m old (was_then j b is) (slot_then j b is) j (n j)
  unfolding slot_then was_then as_it_was
  number_then j false off same = absurd (false≢true same)
  number_then j true on same = by h.number h.is_one
    where
      h : IsStillSlot g m old j (n j) (to j)
      h = still j on

      by : {place : Location} → HadNumber g m old j (n j) place h.medium → IsMediumOf h.was place h.medium
          → HasNumber g m old h.was (as_it_was h.medium (to j)) j (n j)
      by (Bore s bears joined within) is =
          let small : bears.place < 2 = bears.place_in in
          Bearing s
          (record {
            place = bears.place;
            place_in = bears.place_in;
            holds = subst (λ (c : Cell). HoldsSuper c s) (sym (place_was h.medium (to j) bears.place (omega (arith, small)) within)) bears.holds;
            slot = bears.slot;
            identity = bears.identity;
          }) joined
      by (WasInUse inside here used joined) is =
          let at : IsMediumOf h.was InSlot h.medium = subst (λ (p : Location). IsMediumOf h.was p h.medium) inside is in
          InUse here used joined (sym at.0)
          (subst (λ (cell : ℕ → Cell). AreDamagedCopies cell ((as_it_was h.medium (to j)).cell)) (sym at.1) (as_copies j on))

  back_number : (j : ℕ) → some j ≡ true → HasNumber g m old (first j) (back j) j (n j)
  back_number j on = number_then j (some j) refl on

  behind_then : (j k : ℕ) (b : Bool) (is : some j ≡ b) → b ≡ true → gate_sector ≤ k → (slot_then j b is).cell k ≡ (to j).cell k
  unfolding slot_then
  behind_then j k true on same behind = behind_is (still j on).medium (to j) k behind
  behind_then j k false off same behind = absurd (false≢true same)

  back_behind : (j k : ℕ) → some j ≡ true → gate_sector ≤ k → (back j).cell k ≡ (to j).cell k
  back_behind j k on behind = behind_then j k (some j) refl on behind

  size_then : (j : ℕ) (b : Bool) (is : some j ≡ b) → b ≡ true → (slot_then j b is).size ≡ (to j).size
  unfolding slot_then as_it_was
  size_then j true on same = sym (still j on).size
  size_then j false off same = absurd (false≢true same)

  back_size : (j : ℕ) → some j ≡ true → (back j).size ≡ (to j).size
  back_size j on = size_then j (some j) refl on

-- WHAT SUCH SLOTS HOLD, by what was known after the places

module _ (s : State) (encodings : Encodings s) (current_media : CurrentMedia) (since : ℕ) (aim : EpochChange) (m : Membership) (old : List Happening)
    (behind : IsKnownBehind s encodings current_media since aim m old) where
  -- one slot by itself
  module _ (to : Image) (j n : ℕ) (still : IsStillSlot s.geometry m old j n (to j)) where
    only : ℕ → Bool
    only i = i == j

    here : only j ≡ true
    unfolding only
    here = eq-eqb j j refl

    still_only : (i : ℕ) → only i ≡ true → IsStillSlot s.geometry m old i n (to i)
    unfolding only
    still_only i on = subst (λ (l : ℕ). IsStillSlot s.geometry m old l n (to l)) (sym (eqb-true i j on)) still

    pub large_still : current_media j ≡ Some n → IsLargeEnough s.geometry (to j).size
    large_still current_medium =
        subst (λ (o : Option ℕ). IsLargeEnough s.geometry o) (back_size s.geometry m old (λ i. n) to only still_only j here)
        (behind.full (first s.geometry m old (λ i. n) to only still_only) (first_left s.geometry m old (λ i. n) to only still_only)
        (back s.geometry m old (λ i. n) to only still_only) j (back_reassembled s.geometry m old (λ i. n) to only still_only)
        (record { joined = n; current_medium = current_medium; number = back_number s.geometry m old (λ i. n) to only still_only j here }))

    pub closed_still : current_media j ≡ Some n → AreCurrentMediaClosed s.geometry current_media m old → ReadsClosed s.geometry ((to j).cell gate_sector)
    closed_still current_medium closed redo opened =
        closed (first s.geometry m old (λ i. n) to only still_only) (first_left s.geometry m old (λ i. n) to only still_only)
        (back s.geometry m old (λ i. n) to only still_only) j (back_reassembled s.geometry m old (λ i. n) to only still_only)
        (record { joined = n; current_medium = current_medium; number = back_number s.geometry m old (λ i. n) to only still_only j here }) redo
        (subst (λ (c : Cell). IsOpenWith s.geometry c redo)
        (sym (back_behind s.geometry m old (λ i. n) to only still_only j gate_sector here (omega arith))) opened)

    -- its gate isn't open where it is rebuilt
    pub shut_still : IsRebuiltAs s.geometry since m old j n → (redo : Redo) → ¬ IsOpen s.geometry to j redo
    shut_still rebuilt redo opened =
        behind.rebuilding (first s.geometry m old (λ i. n) to only still_only) (first_left s.geometry m old (λ i. n) to only still_only)
        (back s.geometry m old (λ i. n) to only still_only) j n redo (back_reassembled s.geometry m old (λ i. n) to only still_only) rebuilt
        (back_number s.geometry m old (λ i. n) to only still_only j here)
        (subst (λ (c : Cell). IsOpenWith s.geometry c redo)
        (sym (back_behind s.geometry m old (λ i. n) to only still_only j gate_sector here (omega arith))) opened)

  -- slots that have their holders' numbers
  pub forms_still : (to : Image) (some : Slots) (number : ℕ → ℕ) → ((j : ℕ) → has_slot some j ≡ true → IsStillSlot s.geometry m old j (number j) (to j))
      → ((j : ℕ) → HasSlot some j → current_media j ≡ Some (number j)) → HasGate (HasSlot some) to
      → RepresentsBy s.geometry encodings.old encodings.new (HasSlot some) to
  forms_still to some number still current_medium gate =
      represents_still s.geometry (HasSlot some) (HasSlot some) (back s.geometry m old number to (has_slot some) still) to (λ j on. on)
      (record { each = λ j k on behind_places. inl (sym (back_behind s.geometry m old number to (has_slot some) still j k on behind_places)) })
      encodings.old encodings.new gate
      (behind.forms (first s.geometry m old number to (has_slot some) still) (first_left s.geometry m old number to (has_slot some) still)
      (back s.geometry m old number to (has_slot some) still) some (back_reassembled s.geometry m old number to (has_slot some) still)
      (λ j on. record {
        joined = number j;
        current_medium = current_medium j on;
        number = back_number s.geometry m old number to (has_slot some) still j on;
      })
      (record {
        slot = gate.slot;
        among = gate.among;
        kept = λ lost.
            gate.kept
            (subst (λ (c : Cell). IsLost c)
            (back_behind s.geometry m old number to (has_slot some) still gate.slot gate_sector gate.among (omega arith)) lost);
      }))

-- AT A MOMENT OF THE CALL

abbrev pub number_of : Option ℕ → ℕ
number_of None = 0
number_of (Some n) = n

module _ (s : State) (encodings : Encodings s) (current_media : CurrentMedia) (since : ℕ) (aim : EpochChange) (m : Membership) (slots : Slots) (editions : List Edition)
    (old h : List Happening) (history : IsHistory old) (ran : Ran (IsIssuing slots editions) old h)
    (behind : IsKnownBehind s encodings current_media since aim m old) (image : Image) (left : CrashMayLeave h image) where
  abbrev IsStillAt : ℕ → ℕ → SlotImage → Type 0
  IsStillAt j n to = IsStillSlot s.geometry m old j n to

  -- A slot that bears a superblock holds a medium of before, where one that was given to it names what the member means.
  pub still_at : (to : Image) → IsReassembly image to → (j : ℕ) (b : Superblock) → Bears s.geometry j ((to j).cell) b
      → (IsCopy slots editions j b → IsHere m j × (b.joined ≡ joined_in m.array j)) → IsStillAt j b.joined (to j)
  still_at to reassembly j b bears meant = by (medium_since slots editions old h j history ran image left came.place came.medium came.is_one)
    where
      came : IsBorneFrom s.geometry image to j b
      came = from_slot s.geometry image to j b (reassembly j) bears

      k : ℕ
      k = bears.place

      holds : HoldsSuper (came.medium.cell k) b
      holds = holds_before (came.copies k) bears.holds

      by : IsMediumSince slots editions old j (name_of h j came.place) came.medium.size came.medium.cell → IsStillAt j b.joined (to j)
      by (New all) = absurd (good_whole holds.good (all k))
      by (Same was place medium may at named size cells) = record {
        was = was;
        left = may;
        place = place;
        medium = medium;
        is_one = at;
        number = on (cells k);
        size = came.size ∙ ap Some (sym size);
        past = λ l none.
            reassembled_past (image j) (to j) (reassembly j) l
            (ap (λ (o : Option ℕ). has_sector o l) came.size ∙ ap (λ (i : ℕ). has_sector (Some i) l) (sym size) ∙ none);
        copies = λ l behind_places.
            elim (came.copies l) [
              | inr harmed ↦ inr harmed
              | inl same ↦ still l behind_places same (cells l)
            ];
      }
        where
          still : (l : ℕ) → gate_sector ≤ l → (to j).cell l ≡ came.medium.cell l → IsCellSince slots editions old j place l (medium.cell l) (came.medium.cell l)
              → ((to j).cell l ≡ medium.cell l) ⊎ ((to j).cell l ≡ Damaged)
          still l behind_places same (IsStill copy) = inl (same ∙ copy)
          still l behind_places same (IsHarmed harmed) = inr (same ∙ harmed)
          still l behind_places same (IsWritten inside used wrote) =
              let small : l < 2 = wrote.0 in absurd (omega (arith, small, behind_places))

          within : has_sector (Some medium.size) k ≡ true
          within = held_within (image j) (to j) (reassembly j) (Some medium.size) (came.size ∙ ap Some (sym size)) k b bears.holds

          on : IsCellSince slots editions old j place k (medium.cell k) (came.medium.cell k) → HadNumber s.geometry m old j b.joined place medium
          on (IsStill same) =
              Bore b
              (record {
                place = k;
                place_in = bears.place_in;
                holds = subst (λ (c : Cell). HoldsSuper c b) same holds;
                slot = bears.slot;
                identity = bears.identity;
              }) refl within
          on (IsHarmed harmed) = absurd (good_whole holds.good harmed)
          on (IsWritten inside used wrote) =
              let mine = meant (copy_given slots editions old j k (came.medium.cell k) b wrote holds) in WasInUse inside mine.0 used mine.1

  pub shut_since : (to : Image) → IsReassembly image to → (j : ℕ) (b : Superblock) → Bears s.geometry j ((to j).cell) b
      → (IsCopy slots editions j b → IsHere m j × (b.joined ≡ joined_in m.array j)) → IsRebuiltAs s.geometry since m old j b.joined → (redo : Redo)
      → ¬ IsOpen s.geometry to j redo
  shut_since to reassembly j b bears meant rebuilt redo = shut_still s encodings current_media since aim m old behind to j b.joined (still_at to reassembly j b bears meant) rebuilt redo

  -- nor where it is to be admitted
  pub laid_since : (to : Image) → IsReassembly image to → (j : ℕ) (b : Superblock) → Bears s.geometry j ((to j).cell) b → admitted aim ≡ Some j
      → ((p : Location) (medium : Medium) → IsMediumOf (image j) p medium → Bears s.geometry j medium.cell b
      → (name_of h j p ≡ name_of old j InSlot) × IsAttached old j) → (redo : Redo) → ¬ IsOpen s.geometry to j redo
  laid_since to reassembly j b bears joins own redo opened =
      by (medium_since slots editions old h j history ran image left came.place came.medium came.is_one)
    where
      came : IsBorneFrom s.geometry image to j b
      came = from_slot s.geometry image to j b (reassembly j) bears

      mine : (name_of h j came.place ≡ name_of old j InSlot) × IsAttached old j
      mine = own came.place came.medium came.is_one came.bears

      opens : IsOpenWith s.geometry (came.medium.cell gate_sector) redo
      opens =
          elim (came.copies gate_sector) [
            | inl same ↦ subst (λ (c : Cell). IsOpenWith s.geometry c redo) same opened
            | inr harmed ↦ absurd (good_whole opened.good harmed)
          ]

      by : IsMediumSince slots editions old j (name_of h j came.place) came.medium.size came.medium.cell → ⊥
      by (New all) = good_whole opens.good (all gate_sector)
      by (Same was place medium may at named size cells) = on (cells gate_sector)
        where
          inside : place ≡ InSlot
          inside = name_apart old j place InSlot (named ∙ mine.0)

          there : was.cell ≡ medium.cell
          there = (subst (λ (p : Location). IsMediumOf was p medium) inside at).1

          on : IsCellSince slots editions old j place gate_sector (medium.cell gate_sector) (came.medium.cell gate_sector) → ⊥
          on (IsHarmed harmed) = good_whole opens.good harmed
          on (IsWritten in_slot used wrote) = let small : gate_sector < 2 = wrote.0 in omega (arith, small)
          on (IsStill same) =
              behind.laid (with_slot (image_now old) j was) (slot_left old (image_now old) j was (CrashMayLeave-now old) may) j redo joins mine.1
              (subst (λ (c : Cell). IsOpenWith s.geometry c redo)
              (same ∙ ap (λ (cell : ℕ → Cell). cell gate_sector) (sym there)
              ∙ ap (λ (slot : SlotImage). slot.cell gate_sector) (sym (slot_here (image_now old) j was))) opens)

  module _ (numbers : (j n : ℕ) → HasSlot slots j → current_media j ≡ Some n → IsHere m j × (n ≡ joined_in m.array j)) where
    current_medium_still : (to : Image) → IsReassembly image to → (j : ℕ) (current_medium : IsCurrentMedium s.geometry current_media j ((to j).cell))
        → IsStillAt j current_medium.super.joined (to j)
    current_medium_still to reassembly j current_medium =
        still_at to reassembly j current_medium.super current_medium.bears (λ copy. numbers j current_medium.super.joined copy.slot current_medium.joined)

    pub full_since : (to : Image) (j : ℕ) → IsReassembly image to → IsCurrentMedium s.geometry current_media j ((to j).cell) → IsLargeEnough s.geometry (to j).size
    full_since to j reassembly current_medium = large_still s encodings current_media since aim m old behind to j current_medium.super.joined (current_medium_still to reassembly j current_medium) current_medium.joined

    -- where their gates read closed they do so still
    pub closed_since : AreCurrentMediaClosed s.geometry current_media m old → (to : Image) (j : ℕ) → IsReassembly image to
        → IsCurrentMedium s.geometry current_media j ((to j).cell) → ReadsClosed s.geometry ((to j).cell gate_sector)
    closed_since closed to j reassembly current_medium =
        closed_still s encodings current_media since aim m old behind to j current_medium.super.joined (current_medium_still to reassembly j current_medium) current_medium.joined closed

    module _ (to : Image) (some : Slots) (reassembly : IsReassembly image to) (have : HaveCurrentMedia s.geometry current_media to (HasSlot some)) where
      abbrev number : ℕ → ℕ
      number j = number_of (current_media j)

      is_number : (j : ℕ) (on : HasSlot some j) → (have j on).super.joined ≡ number j
      is_number j on = sym (ap number_of (have j on).joined)

      still : (j : ℕ) → has_slot some j ≡ true → IsStillAt j (number j) (to j)
      still j on = subst (λ (n : ℕ). IsStillAt j n (to j)) (is_number j on) (current_medium_still to reassembly j (have j on))

      pub forms_since : HasGate (HasSlot some) to → RepresentsBy s.geometry encodings.old encodings.new (HasSlot some) to
      forms_since gate =
          forms_still s encodings current_media since aim m old behind to some number still (λ j on. (have j on).joined ∙ ap Some (is_number j on)) gate
