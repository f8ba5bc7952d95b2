-- What new devices represent, however many of them are lost and however their media lie.
use Rattle.std.proofs.Common.{◌≡◌, ℕ, ◌<◌, ◌≤◌, ◌⊎◌, List, Option, None, Some, length, inl, inr, refl, sym, ◌∙◌, ap, subst, arith}
use Rattle.std.proofs.lemmas.Bool.{cases_lt, false≢true}
use Rattle.stair_model.specs.Device.{Chunk, cell_sector, gate_sector}
use Rattle.stair_model.specs.Geometry.{Geometry, IsWithinLimits}
use Rattle.stair_model.specs.Slots.{HasSlot, no_slots, slot_count}
use Rattle.stair_model.specs.Stripe.{cell, zero_stripe}
use Rattle.stair_model.proofs.DeviceLaws.{sector_in_range}
use Rattle.stair_model.proofs.SetLaws.{has_slot-none, slot_count_none}
use Rattle.stair_model.proofs.StripeLaws.{cell-zero_stripe}
use Rattle.stair_rack.specs.Answers.{IsHistory}
use Rattle.stair_rack.specs.Crash.{CrashMayLeave, EachImage}
use Rattle.stair_rack.specs.History.{Happening}
use Rattle.stair_rack.specs.Media.{Image, Medium, SlotImage, has_sector}
use Rattle.stair_rack.specs.Sector.{Cell, Good, Damaged}
use Rattle.stair_rack.proofs.TidyLemmas.{history_tidy, left_past_end}
use Rattle.stair_super.specs.Newer.{IsOlder}
use Rattle.stair_super.specs.Superblock.{Superblock, joined_at, joined_in, mark_at, mark_in}
use Rattle.stair_super.specs.declared.configuration.Configuration.{Configuration}
use Rattle.stair_super.specs.declared.mark.Mark.TheVariants.{Live, Rebuilding}
use Rattle.stair_member.specs.Current.{IsCurrent, IsLive, IsRebuilding}
use Rattle.stair_member.specs.Reserve.{Bears, IsOrderly}
use Rattle.stair_member.specs.Superblocks.{Counts, First, HoldsSuper, IsOnlyIdentity, IsSuperOf, Second}
use Rattle.stair_member.proofs.SuperLemmas.{counts_bears}
use Rattle.stair_journal.specs.Body.{IsOrDamaged, Harmed, Holds}
use Rattle.stair_journal.specs.Gate.{closed_gate, open_gate}
use Rattle.stair_journal.specs.declared.redo.Redo.{Redo}
use Rattle.stair_array.specs.Created.{AreNewMedia, BearNoneOutside, IsNewArray, IsNewDevice, IsNewSlot, Kept, Other, first_configuration, first_super, in_slot}
use Rattle.stair_state.specs.Degraded.{AreAllDamaged, AreDamagedCopies, Blank, IsDegraded, IsDegradedSlot, Stays, Taken}
use Rattle.stair_state.specs.Forms.{Encodes, IdleOld, IsOpen, RepresentsBy}
use Rattle.stair_state.specs.Holding.{CurrentMedia, IsBorneSince, IsConsistentBy, IsConsistentUnderReassembly, IsCurrentMedium}
use Rattle.stair_state.specs.Reassembly.{Empty, InSlot, IsBorne, IsMediumOf, IsReassembledSlot, IsReassembly, Location, OneOf, Outside, Unwritten}
use Rattle.stair_state.specs.Represents.{AreSteady, Encodings, HaveSeats, ImageRepresents, IsImageOf, IsLargeEnough, Left, Lesser, Represents, Shrinks}
use Rattle.stair_state.specs.State.{created_state, first_seats}
use Rattle.stair_state.specs.Tolerance.{IsTolerated, IsWithinTolerance}
use Rattle.stair_member.proofs.EditionLemmas.{bears_below}
use Rattle.stair_array.proofs.CreatedLemmas.{borne_first, closed_not_open, created_behind, created_gate, created_place, first_held, held_first, joined_first, kept_device, mark_first, place_needed, seats_first, zero}

-- NO SLOTS

pub not_in_none : (j : ℕ) → ¬ HasSlot no_slots j
not_in_none j has = false≢true (sym (has_slot-none j) ∙ has)

pub none_is_few : (m : ℕ) → slot_count no_slots ≤ m
none_is_few m = omega (arith, slot_count_none no_slots (λ j below. not_in_none j))

-- THE SUPERBLOCK OF A SLOT

not_older : (s : Superblock) → ¬ IsOlder s s
not_older s (inl less) = omega arith
not_older s (inr both) = omega (arith, both.1)

-- a new device that bears its superblock has it
pub device_super : (g : Geometry) (j k : ℕ) (slot : SlotImage) → IsWithinLimits g → length g.id ≡ 16 → j < g.n → IsNewDevice g j slot
    → k < 2 → HoldsSuper (slot.cell k) (first_super g j) → IsSuperOf slot.cell (first_super g j)
device_super g j k slot limits id below new place holds =
    elim (new.sectors 0 (place_needed g 0 (omega arith))) [
      | inl is ↦
          First
          (first_held g j (slot.cell 0) limits id below (is ∙ ap Good (created_place g j 0 (omega arith))))
          (λ other there older.
          not_older (first_super g j)
          (subst (IsOlder (first_super g j)) (held_first g j 1 slot other limits id below new (omega arith) there) older))
      | inr damaged ↦
          Second (subst (λ (p : ℕ). HoldsSuper (slot.cell p) (first_super g j)) (second damaged) holds)
          (λ other there. let none : Good there.bytes ≡ Damaged = sym there.good ∙ damaged in absurd (cc))
    ]
  where
    second : slot.cell 0 ≡ Damaged → k ≡ 1
    second damaged =
        elim (cases_lt k 1) [
          | inl first ↦
              let zero_place : k ≡ 0 = omega arith in
              let none : Good holds.bytes ≡ Damaged = sym holds.good ∙ ap slot.cell zero_place ∙ damaged in
              absurd (cc)
          | inr past ↦ omega arith
        ]

-- CELLS OF WHICH SOME ARE DAMAGED

copied_good : (was is : Cell) (bytes : List ℕ) → (is ≡ was) ⊎ (is ≡ Damaged) → is ≡ Good bytes → was ≡ Good bytes
copied_good was is bytes (inl same) good = sym same ∙ good
copied_good was is bytes (inr damaged) good = let none : Good bytes ≡ Damaged = sym good ∙ damaged in absurd (cc)

copied_holds : (was is : Cell) (s : Superblock) → (is ≡ was) ⊎ (is ≡ Damaged) → HoldsSuper is s → HoldsSuper was s
copied_holds was is s copied holds =
    record { bytes = holds.bytes; good = copied_good was is holds.bytes copied holds.good; spells = holds.spells }

copied_bears : (g : Geometry) (j : ℕ) (was is : ℕ → Cell) (s : Superblock) → AreDamagedCopies was is → Bears g j is s → Bears g j was s
copied_bears g j was is s copies bears = record {
  place = bears.place;
  place_in = bears.place_in;
  holds = copied_holds (was bears.place) (is bears.place) s (copies bears.place) bears.holds;
  slot = bears.slot;
  identity = bears.identity;
}

damaged_bears_none : (g : Geometry) (j : ℕ) (cells : ℕ → Cell) → AreAllDamaged cells → (s : Superblock) → ¬ Bears g j cells s
damaged_bears_none g j cells damaged s bears =
    let none : Good bears.holds.bytes ≡ Damaged = sym bears.holds.good ∙ damaged bears.place in absurd (cc)

-- a new slot stays one where cells of it are damaged
new_copied : (g : Geometry) (j : ℕ) (was is : SlotImage) → is.size ≡ was.size → AreDamagedCopies was.cell is.cell
    → IsNewSlot g j was → IsNewSlot g j is
new_copied g j was is size copies (Kept device) =
    Kept
    (record {
      full = subst (IsLargeEnough g) (sym size) device.full;
      sectors = λ k k_in.
          elim (copies k) [
            | inl same ↦ elim (device.sectors k k_in) [ inl good ↦ inl (same ∙ good) | inr damaged ↦ inr (same ∙ damaged) ]
            | inr damaged ↦ inr damaged
          ];
    })
new_copied g j was is size copies (Other none) = Other (λ s bears. none s (copied_bears g j was.cell is.cell s copies bears))

new_degraded_slot : (g : Geometry) (j : ℕ) (more less : SlotImage) → IsNewSlot g j more → IsDegradedSlot more less → IsNewSlot g j less
new_degraded_slot g j more less new (Taken none damaged) = Other (damaged_bears_none g j less.cell damaged)
new_degraded_slot g j more less new (Blank size has damaged) = Other (damaged_bears_none g j less.cell damaged)
new_degraded_slot g j more less new (Stays size copies) = new_copied g j more less size copies new

-- a degraded image of a new array is one
pub new_degraded : (g : Geometry) (more less : Image) → IsNewArray g more → IsDegraded more less → IsNewArray g less
new_degraded g more less new degraded j below = new_degraded_slot g j (more j) (less j) (new j below) (degraded j)

-- no gate of a new device is open
device_shut : (g : Geometry) (image : Image) (j : ℕ) (redo : Redo) → IsNewDevice g j (image j) → ¬ IsOpen g image j redo
device_shut g image j redo device open_with =
    elim (device.sectors gate_sector (omega arith)) [
      | inl is ↦
          let same : Good (closed_gate) ≡ Good (open_gate g redo) = ap Good (sym (created_gate g j)) ∙ sym is ∙ open_with.good in
          let bytes : closed_gate ≡ open_gate g redo = cc in
          closed_not_open g redo bytes
      | inr damaged ↦ let none : Good (open_gate g redo) ≡ Damaged = sym open_with.good ∙ damaged in absurd (cc)
    ]

-- each cell of its chunks is zero, or damaged
device_holds : (g : Geometry) (t i j : ℕ) (slot : SlotImage) → IsWithinLimits g → t < g.stripes → i < g.r → j < g.n → IsNewDevice g j slot
    → IsOrDamaged (cell (zero_stripe g) i j) (slot.cell (cell_sector g t i))
device_holds g t i j slot limits t_in i_in j_in device =
    elim (device.sectors (cell_sector g t i) (sector_in_range g (Chunk t i) limits (t_in, i_in))) [
      | inl is ↦ Holds (is ∙ ap Good (created_behind g j (cell_sector g t i) (omega arith) ∙ sym (cell-zero_stripe g i j i_in j_in)))
      | inr damaged ↦ Harmed damaged
    ]

-- ONE IMAGE

module _ (g : Geometry) (image : Image) (limits : IsWithinLimits g) (id : length g.id ≡ 16) (new : IsNewArray g image) where
  pub borne_is_first : (j : ℕ) (s : Superblock) → Bears g j ((image j).cell) s → s ≡ first_super g j
  borne_is_first j s bears =
      borne_first g j (image j) s limits id (new j (bears_below g j ((image j).cell) s bears)) bears

  borne_array : (j : ℕ) (s : Superblock) → Bears g j ((image j).cell) s → s.array ≡ first_configuration g
  borne_array j s bears = ap (λ (t : Superblock). t.array) (borne_is_first j s bears)

  pub counted_device : (j : ℕ) (s : Superblock) → Counts g image j s → IsNewDevice g j (image j)
  counted_device j s counts =
      let bears = counts_bears g image j s counts in
      kept_device g j (image j) s (new j (bears_below g j ((image j).cell) s bears)) bears

  pub current_array : (current : Superblock) → IsCurrent g image current → current.array ≡ first_configuration g
  current_array current is = borne_array current.slot current (counts_bears g image current.slot current is.counts)

  -- no gate is open on a slot that counts
  none_open : (j : ℕ) (s : Superblock) (redo : Redo) → Counts g image j s → ¬ IsOpen g image j redo
  none_open j s redo counts = device_shut g image j redo (counted_device j s counts)

  zero_encoded : (current : Superblock) → Encodes g (λ t. zero_stripe g) (IsLive g image current) image
  zero_encoded current t i j t_in i_in j_in live =
      device_holds g t i j (image j) limits t_in i_in j_in (counted_device j live.super live.counts)

  zero_form : (current : Superblock) → RepresentsBy g (λ t. zero_stripe g) (λ t. zero_stripe g) (IsLive g image current) image
  zero_form current = record {
    one_redo = λ i j a b live_i live_j open_i open_j. absurd (none_open i live_i.super a live_i.counts open_i);
    form = IdleOld
        (record {
          encodes = zero_encoded current;
          body = λ j redo live open_with. absurd (none_open j live.super redo live.counts open_with);
        });
  }

  none_rebuilt : (current : Superblock) (j : ℕ) → IsCurrent g image current → ¬ IsRebuilding g image current j
  none_rebuilt current j is rebuilding =
      let live : mark_at current j ≡ Live = ap (λ (array : Configuration). mark_in array j) (current_array current is) ∙ mark_first g j rebuilding.below in
      let both : Live ≡ Rebuilding = sym live ∙ rebuilding.marked in
      absurd (cc)

  -- the superblock of a new device, whatever it says, is the first one
  super_first : (j : ℕ) (slot : SlotImage) (s : Superblock) → j < g.n → IsNewDevice g j slot → IsSuperOf slot.cell s
      → s ≡ first_super g j
  super_first j slot s below device (First holds rest) = held_first g j 0 slot s limits id below device (omega arith) holds
  super_first j slot s below device (Second holds rest) = held_first g j 1 slot s limits id below device (omega arith) holds

  -- every epoch that a medium bears is 1
  pub new_orderly : IsOrderly g image
  new_orderly = record {
    reserved = record {
      exceptions = no_slots;
      formed = refl;
      few = none_is_few g.m;
      others = λ j below out s counts lost lost' i t bears.
          let draw : s.draw ≡ 1 = ap (λ (x : Superblock). x.draw) (borne_is_first j s (counts_bears g image j s counts)) in
          let epoch : t.array.epoch ≡ 1 = ap (λ (array : Configuration). array.epoch) (borne_array i t bears) in
          omega arith;
    };
    one_list = λ i j a b bears_a bears_b same. borne_array i a bears_a ∙ sym (borne_array j b bears_b);
    hidden = λ j s newest bears super.
        let is : newest ≡ first_super g j =
        super_first j (image j) newest (bears_below g j ((image j).cell) s bears)
        (kept_device g j (image j) s (new j (bears_below g j ((image j).cell) s bears)) bears) super in
        let named : newest.array ≡ first_configuration g = ap (λ (t : Superblock). t.array) is in
        let last : newest.array.epoch ≡ 1 = ap (λ (array : Configuration). array.epoch) named in
        let epoch : s.array.epoch ≡ 1 = ap (λ (array : Configuration). array.epoch) (borne_array j s bears) in (
          record {
            super = super;
            slot = ap (λ (t : Superblock). t.slot) is;
            identity = ap (λ (array : Configuration). array.geometry) named;
          },
          omega (arith, last, epoch),
        );
    hides = λ j s newest bears super live.
        let is : newest ≡ first_super g j =
        super_first j (image j) newest (bears_below g j ((image j).cell) s bears)
        (kept_device g j (image j) s (new j (bears_below g j ((image j).cell) s bears)) bears) super in
        ap (λ (t : Superblock). t.joined) (borne_is_first j s bears) ∙ sym (ap (λ (t : Superblock). t.joined) is);
    reached = λ i j a b bears_a bears_b earlier.
        let first : a.array.epoch ≡ 1 = ap (λ (array : Configuration). array.epoch) (borne_array i a bears_a) in
        let second : b.array.epoch ≡ 1 = ap (λ (array : Configuration). array.epoch) (borne_array j b bears_b) in
        absurd (omega (arith, first, second, earlier));
    joined = λ i k j a b bears_a bears_b upto here there.
        let same : joined_at a j ≡ joined_at b j =
        ap (λ (array : Configuration). joined_in array j) (borne_array i a bears_a ∙ sym (borne_array k b bears_b)) in
        omega (arith, same);
  }

  -- what the current superblock names is what the first epoch did
  current_mark : (current : Superblock) (j : ℕ) → IsCurrent g image current → j < g.n → mark_at current j ≡ Live
  current_mark current j is below =
      ap (λ (array : Configuration). mark_in array j) (current_array current is) ∙ mark_first g j below

  current_joined : (current : Superblock) (j : ℕ) → IsCurrent g image current → joined_at current j ≡ joined_in (first_configuration g) j
  current_joined current j is = ap (λ (array : Configuration). joined_in array j) (current_array current is)

  -- a slot below n that counts is live
  pub counted_live : (current : Superblock) (j : ℕ) (s : Superblock) → IsCurrent g image current → Counts g image j s → IsLive g image current j
  counted_live current j s is counts =
      let bears = counts_bears g image j s counts in
      let below : j < g.n = bears_below g j ((image j).cell) s bears in
      record {
        below = below;
        marked = current_mark current j is below;
        super = s;
        counts = counts;
        joined = ap (λ (x : Superblock). x.joined) (borne_is_first j s bears) ∙ sym (current_joined current j is ∙ joined_first g j below);
      }

-- ITS STATE

-- the stripes of zeros encode the blocks of a new array, in which no change is in doubt
abbrev pub zero_encodings : (g : Geometry) → IsWithinLimits g → Encodings (created_state g)
zero_encodings g limits =
    record { old = λ t. zero_stripe g; new = λ t. zero_stripe g; old_are = zero g limits; new_are = zero g limits }

-- an image of new devices in which this array stands alone represents blocks of zeros
pub image_represents : (g : Geometry) (image : Image) (current : Superblock) (limits : IsWithinLimits g) → length g.id ≡ 16
    → IsNewArray g image → IsOnlyIdentity g image → IsCurrent g image current
    → ImageRepresents (created_state g) (zero_encodings g limits) image
image_represents g image current limits id new identity is = record {
  identity = identity;
  current = current;
  is_current = is;
  full = λ j live. (counted_device g image limits id new j live.super live.counts).full;
  form = zero_form g image limits id new current;
  rebuilding = λ j redo rebuilding open_with. absurd (none_rebuilt g image limits id new current j is rebuilding);
  frozen = inl (ap (λ (array : Configuration). array.frozen) (current_array g image limits id new current is));
  label = inl (ap (λ (array : Configuration). array.label) (current_array g image limits id new current is));
}

-- one that is within tolerance does
pub tolerated_represents : (g : Geometry) (image : Image) (limits : IsWithinLimits g) → length g.id ≡ 16 → IsNewArray g image
    → {offline : ℕ → Type 0} → IsWithinTolerance offline g image → ImageRepresents (created_state g) (zero_encodings g limits) image
tolerated_represents g image limits id new tolerated =
    image_represents g image tolerated.current limits id new tolerated.identity tolerated.is_current

new_seats : (g : Geometry) (h : List Happening) → IsWithinLimits g → length g.id ≡ 16 → EachImage (IsNewArray g) h
    → HaveSeats (Some (first_seats g)) g h
new_seats g h limits id new image left current j identity is =
    seats_first g current j (current_array g image limits id (new image left) current is)

-- a slot of a new array that is live when media were lost was live before
new_shrinks : (g : Geometry) (more less : Image) → IsWithinLimits g → length g.id ≡ 16 → IsNewArray g more → IsDegraded more less
    → Shrinks g more less
new_shrinks g more less limits id new degraded before after j is_before is_after live =
    let copies : AreDamagedCopies (more j).cell (less j).cell = stayed (degraded j) in
    let bears : Bears g j ((more j).cell) live.super =
    copied_bears g j (more j).cell (less j).cell live.super copies (counts_bears g less j live.super live.counts) in
    let first : live.super ≡ first_super g j = borne_is_first g more limits id new j live.super bears in
    counted_live g more limits id new before j (first_super g j) is_before
    (record {
      super = device_super g j bears.place (more j) limits id live.below
          (kept_device g j (more j) live.super (new j live.below) bears) bears.place_in
          (subst (HoldsSuper ((more j).cell bears.place)) first bears.holds);
      slot = refl;
      identity = refl;
    })
  where
    stayed : IsDegradedSlot (more j) (less j) → AreDamagedCopies (more j).cell (less j).cell
    stayed (Taken none damaged) k = inr (damaged k)
    stayed (Blank size has damaged) k = inr (damaged k)
    stayed (Stays size copies) k = copies k

image_of_new : (g : Geometry) (h : List Happening) (image : Image) → EachImage (IsNewArray g) h → IsImageOf g h image → IsNewArray g image
image_of_new g h image new (Left left) = new image left
image_of_new g h image new (Lesser more left degraded alone) = new_degraded g more image (new more left) degraded

-- within tolerance a rack of new devices represents an array of zeros, all of whose slots are live
pub new_represents : (g : Geometry) (before h : List Happening) → IsWithinLimits g → length g.id ≡ 16 → EachImage (IsNewArray g) h
    → AreSteady g h → IsTolerated g before h → Represents (created_state g) h
new_represents g before h limits id new steady tolerated = record {
  encodings = zero_encodings g limits;
  each = each;
  orderly = λ image left. new_orderly g image limits id (new image left);
  shrinks = λ more less is_more is_less degraded. new_shrinks g more less limits id (image_of_new g h more new is_more) degraded;
  seats = new_seats g h limits id new;
  steady = steady;
}
  where
    each : (image : Image) → IsImageOf g h image → ImageRepresents (created_state g) (zero_encodings g limits) image
    each image (Left left) = tolerated_represents g image limits id (new image left) (tolerated image left)
    each image (Lesser more left degraded alone) =
        tolerated_represents g image limits id (new_degraded g more image (new more left) degraded) alone

-- HOWEVER THE MEDIA LIE

-- a slot that gets one of its media, a blank one or none is new again
reassembled_slot : (g : Geometry) (image : Image) (j : ℕ) (to : SlotImage) → AreNewMedia g image → j < g.n
    → IsReassembledSlot (image j) to → IsNewSlot g j to
reassembled_slot g image j to media below (OneOf place medium is size copies past) =
    new_copied g j (in_slot medium) to size copies (media.each j place medium below is)
reassembled_slot g image j to media below (Unwritten size has damaged) = Other (damaged_bears_none g j to.cell damaged)
reassembled_slot g image j to media below (Empty none damaged) = Other (damaged_bears_none g j to.cell damaged)

pub reassembled_new : (g : Geometry) (image to : Image) → AreNewMedia g image → IsReassembly image to → IsNewArray g to
reassembled_new g image to media reassembly j below = reassembled_slot g image j (to j) media below (reassembly j)

-- as the media lie now the slots are new, since nothing can be read where there is none
media_in_slots : (g : Geometry) (h : List Happening) (image : Image) → IsHistory h → CrashMayLeave h image → AreNewMedia g image
    → IsNewArray g image
media_in_slots g h image is left media j below = by_size (image j).size refl
  where
    by_size : (size : Option ℕ) → (image j).size ≡ size → IsNewSlot g j (image j)
    by_size None none =
        Other
        (damaged_bears_none g j (image j).cell
        (λ k. left_past_end h (history_tidy is) image left j k (ap (λ (size : Option ℕ). has_sector size k) none)))
    by_size (Some n) some =
        new_copied g j (in_slot (record { size = n; cell = (image j).cell })) (image j) some (λ k. inl refl)
        (media.each j InSlot (record { size = n; cell = (image j).cell }) below (some, refl))

-- all media that were written hold their chunks
abbrev pub first_current_media : Geometry → CurrentMedia
first_current_media g j = Some (joined_in (first_configuration g) j)

module _ (g : Geometry) (image : Image) (limits : IsWithinLimits g) (id : length g.id ≡ 16) (media : AreNewMedia g image) where
  first_of : (j : ℕ) (place : Location) (medium : Medium) (s : Superblock) → IsMediumOf (image j) place medium → Bears g j medium.cell s
      → s ≡ first_super g j
  first_of j place medium s is bears =
      borne_first g j (in_slot medium) s limits id (media.each j place medium (bears_below g j medium.cell s bears) is) bears

  array_of : (i : ℕ) (p : Location) (a : Superblock) → IsBorne g image i p a → a.array ≡ first_configuration g
  array_of i p a borne = ap (λ (t : Superblock). t.array) (first_of i p borne.medium a borne.is_one borne.bears)

  since_array : (a : Superblock) → IsBorneSince g 1 image a → a.array ≡ first_configuration g
  since_array a borne = array_of borne.slot borne.place a borne.borne

  -- a holder is a new device
  device : (to : Image) (j : ℕ) → IsReassembly image to → IsCurrentMedium g (first_current_media g) j ((to j).cell) → IsNewDevice g j (to j)
  device to j reassembly current_medium =
      kept_device g j (to j) current_medium.super (reassembled_new g image to media reassembly j (bears_below g j ((to j).cell) current_medium.super current_medium.bears)) current_medium.bears

  bears_super : (cell : ℕ → Cell) (j : ℕ) (x : Superblock) → IsSuperOf cell x → x.slot ≡ j → x.array.geometry ≡ g → Bears g j cell x
  bears_super cell j x (First holds rest) slot geometry =
      record { place = 0; place_in = omega arith; holds = holds; slot = slot; identity = geometry }
  bears_super cell j x (Second holds rest) slot geometry =
      record { place = 1; place_in = omega arith; holds = holds; slot = slot; identity = geometry }

  not_rebuilding : (a : Superblock) (j : ℕ) → a.array ≡ first_configuration g → j < g.n → ¬ (mark_at a j ≡ Rebuilding)
  not_rebuilding a j same below marked =
      let live : mark_at a j ≡ Live =
      ap (λ (c : Configuration). mark_in c j) same ∙ mark_first g j below in
      let both : Live ≡ Rebuilding = sym live ∙ marked in
      absurd (cc)

  pub new_consistent_by : IsConsistentBy (created_state g) (zero_encodings g limits) (first_current_media g) 1 image
  new_consistent_by = record {
    overtaken = λ i p a borne earlier.
        let begun : 1 ≤ a.array.epoch = borne.bears.holds.spells.block.rules.array.begun in absurd (omega arith);
    reserved = record {
      exceptions = no_slots;
      formed = refl;
      few = none_is_few g.m;
      others = λ j below out joined current_medium p medium x is super slot geometry same first second i q t borne.
          let draw : x.draw ≡ 1 = ap (λ (y : Superblock). y.draw) (first_of j p medium x is (bears_super medium.cell j x super slot geometry)) in
          let epoch : t.array.epoch ≡ 1 = ap (λ (c : Configuration). c.epoch) (array_of i q t borne) in
          omega arith;
    };
    live = λ j a borne marked. ap (λ (c : Configuration). Some (joined_in c j)) (sym (since_array a borne));
    rebuilt = λ j joined a borne marked current_medium.
        let mine : Some joined ≡ Some (joined_at a j) = sym current_medium ∙ ap (λ (c : Configuration). Some (joined_in c j)) (sym (since_array a borne)) in cc;
    frozen = λ a borne. inl (ap (λ (c : Configuration). c.frozen) (since_array a borne));
    label = λ a borne. inl (ap (λ (c : Configuration). c.label) (since_array a borne));
    forms = λ to some reassembly have gate. record {
      one_redo = λ i j a b on also open_i open_j. absurd (device_shut g to i a (device to i reassembly (have i on)) open_i);
      form = IdleOld (record {
        encodes = λ t i j t_in i_in j_in on.
            device_holds g t i j (to j) limits t_in i_in j_in (device to j reassembly (have j on));
        body = λ j redo on open_with. absurd (device_shut g to j redo (device to j reassembly (have j on)) open_with);
      });
    };
    full = λ to j reassembly current_medium. (device to j reassembly current_medium).full;
    rebuilding = λ to j a b redo reassembly borne marked bears same open_with.
        not_rebuilding a j (since_array a borne) (bears_below g j ((to j).cell) b bears) marked;
    one_list = λ i j p q a b first second same. array_of i p a first ∙ sym (array_of j q b second);
    own_joined = λ j p q a b first second same.
        media.once j p q first.medium second.medium a b first.is_one second.is_one first.bears second.bears;
  }

-- a rack is consistent under reassembly, since epoch 1, where each medium is new or bears no superblock of the array for its slot
pub new_consistent : (g : Geometry) (h : List Happening) → IsWithinLimits g → length g.id ≡ 16 → IsHistory h
    → EachImage (AreNewMedia g) h → AreSteady g h → IsConsistentUnderReassembly (created_state g) h
new_consistent g h limits id is media steady = record {
  current_media = first_current_media g;
  since = 1;
  is = record {
    encodings = zero_encodings g limits;
    each = λ image left. new_consistent_by g image limits id (media image left);
    seats = new_seats g h limits id (λ image left. media_in_slots g h image is left (media image left));
    steady = steady;
  };
}

-- MEDIA OUTSIDE

new_medium : (g : Geometry) (image : Image) (j : ℕ) (place : Location) (medium : Medium) → IsNewArray g image → BearNoneOutside g image
    → j < g.n → IsMediumOf (image j) place medium → IsNewSlot g j (in_slot medium)
new_medium g image j InSlot medium new outside below is =
    new_copied g j (image j) (in_slot medium) (sym is.0) (λ k. inl (ap (λ (cells : ℕ → Cell). cells k) (sym is.1))) (new j below)
new_medium g image j (Outside i) medium new outside below is = Other (λ s bears. outside.none j i medium s is bears)

one_place : (g : Geometry) (image : Image) (j : ℕ) (p q : Location) (a b : Medium) (s t : Superblock) → BearNoneOutside g image
    → IsMediumOf (image j) p a → IsMediumOf (image j) q b → Bears g j a.cell s → Bears g j b.cell t → p ≡ q
one_place g image j InSlot InSlot a b s t outside is_a is_b bears_a bears_b = refl
one_place g image j (Outside i) q a b s t outside is_a is_b bears_a bears_b = absurd (outside.none j i a s is_a bears_a)
one_place g image j InSlot (Outside i) a b s t outside is_a is_b bears_a bears_b = absurd (outside.none j i b t is_b bears_b)

-- all media of the array's slots are new where no medium outside bears a superblock of it
pub media_of_array : (g : Geometry) (image : Image) → IsNewArray g image → BearNoneOutside g image → AreNewMedia g image
media_of_array g image new outside = record {
  each = λ j place medium below is. new_medium g image j place medium new outside below is;
  once = λ j p q a b s t is_a is_b bears_a bears_b. one_place g image j p q a b s t outside is_a is_b bears_a bears_b;
}
