-- Which superblocks media bear at a moment of a call that establishes an epoch, wherever they lie, by those that they bore before it.
use Rattle.std.proofs.Common.{◌≡◌, ℕ, ◌<◌, List, refl, sym, ap, ◌∙◌, subst, arith, Some, slice_get}
use Rattle.stair_model.specs.Geometry.{Geometry}
use Rattle.stair_model.specs.Slots.{HasSlot, Slots}
use Rattle.stair_rack.specs.Answers.{IsHistory, Ran}
use Rattle.stair_rack.specs.Crash.{CrashMayLeave, SlotMayLeave, image_now}
use Rattle.stair_rack.specs.History.{Happening, slot_state}
use Rattle.stair_rack.specs.Media.{Image, Medium, SlotImage}
use Rattle.stair_rack.specs.Moments.{IsMoment}
use Rattle.stair_rack.specs.Offline.{IsAttached}
use Rattle.stair_rack.specs.Sector.{Cell, Damaged, MayLeave, Sector, content, settled}
use Rattle.stair_rack.proofs.CrashLemmas.{nothing_unsynced, settled_left}
use Rattle.stair_rack.proofs.MomentLemmas.{ran_before}
use Rattle.stair_super.specs.Superblock.{Superblock}
use Rattle.stair_member.specs.Current.{ByOutside, IsLost}
use Rattle.stair_member.specs.Editions.{Edition}
use Rattle.stair_member.specs.Epochs.{IsIssuing, Issued}
use Rattle.stair_member.specs.Fencing.{IsCopy}
use Rattle.stair_member.specs.Membership.{Membership}
use Rattle.stair_member.specs.Superblocks.{HoldsSuper, IsSuperOf}
use Rattle.stair_member.specs.declared.aim.EpochChange.{EpochChange}
use Rattle.stair_member.proofs.EditionLemmas.{Cut, Entry, Harmed, IsWritable, Issue, Stayed, Wrote, bears_below, held_of, none_held_there}
use Rattle.stair_member.proofs.SuperLemmas.{super_cells}
use Rattle.stair_state.specs.Reassembly.{InSlot, IsBorne, IsMediumOf, Location, Outside}
use Rattle.stair_state.specs.Represents.{AreSteady}
use Rattle.stair_state.proofs.FormLemmas.{good_whole}
use Rattle.stair_reinsert.specs.Following.{name_of, Wherever}
use Rattle.stair_reinsert.specs.Given.{AsBefore, GivenCopy, IsGivenOrOwn, KnowsSuper, HasGivenOrOwn}
use Rattle.stair_reinsert.proofs.MediaSince.{IsCellSince, IsHarmed, IsIssuedAt, IsMediumSince, IsStill, IsWritten, New, Same, medium_since}
use Rattle.stair_reinsert.proofs.SuperKept.{superblock_kept}

-- THE IMAGE WHEN THE CALL BEGAN

-- a medium of it, as it may have been, as it was: with the same superblock places
record IsThen (old : List Happening) (j : ℕ) (place : Location) (medium : Medium) : Type 0 where
  was : Medium
  is_one : IsMediumOf (image_now old j) place was
  places : (k : ℕ) → k < 2 → medium.cell k ≡ was.cell k

then_was : (g : Geometry) (old : List Happening) → AreSteady g old → (j : ℕ) → j < g.n → (was : SlotImage) (place : Location) (medium : Medium)
    → SlotMayLeave (slot_state old j) was → IsMediumOf was place medium → IsThen old j place medium
then_was g old steady j below was (Outside i) medium left is =
    record { was = medium; is_one = subst (λ xs. slice_get xs i ≡ Some medium) left.removed is; places = λ k small. refl }
then_was g old steady j below was InSlot medium left is = record {
  was = record { size = medium.size; cell = (image_now old j).cell };
  is_one = (sym left.size ∙ is.0, refl);
  places = λ k small.
      let s : Sector = (slot_state old j).sector k in
      let settles : s ≡ settled s.base = nothing_unsynced s (steady j k below small) in
      ap (λ (cell : ℕ → Cell). cell k) (sym is.1)
      ∙ settled_left s.base (was.cell k) (subst (λ t. MayLeave t (was.cell k)) settles (left.each k))
      ∙ sym (ap content settles);
}

-- A SUPERBLOCK THAT IS BORNE

-- It was borne by the medium of that name when the call began, or is a copy that was given to the medium in use.
pub data IsBorneOf (slots : Slots) (editions : List Edition) (g : Geometry) (old : List Happening) (j : ℕ) (name : Location) (s : Superblock)
    : Type 0 where
  Before : (place : Location) → name_of old j place ≡ name → IsBorne g (image_now old) j place s → IsBorneOf slots editions g old j name s
  Given : name ≡ name_of old j InSlot → IsAttached old j → IsCopy slots editions j s → IsBorneOf slots editions g old j name s

-- a place that was written holds a copy, or nothing
pub copy_given : (slots : Slots) (editions : List Edition) (old : List Happening) (j k : ℕ) (cell : Cell) (s : Superblock)
    → IsIssuedAt slots editions old j k cell → HoldsSuper cell s → IsCopy slots editions j s
copy_given slots editions old j k cell s is holds =
    elim (held_of (IsWritable slots old) editions j Damaged cell s (is.1 Damaged) holds) [
      | Entry none ↦ absurd (none_held_there Damaged s refl none)
      | Issue e has among formed same ↦ record { slot = has.0; edition = e; among = among; is = same }
    ]

module _ (slots : Slots) (editions : List Edition) (g : Geometry) (old h : List Happening) (history : IsHistory old)
    (ran : Ran (IsIssuing slots editions) old h) (steady : AreSteady g old) (image : Image) (left : CrashMayLeave h image) where
  pub borne_since : (j : ℕ) (p : Location) (s : Superblock) → IsBorne g image j p s → IsBorneOf slots editions g old j (name_of h j p) s
  borne_since j p s borne = by (medium_since slots editions old h j history ran image left p borne.medium borne.is_one)
    where
      k : ℕ
      k = borne.bears.place

      by : IsMediumSince slots editions old j (name_of h j p) borne.medium.size borne.medium.cell → IsBorneOf slots editions g old j (name_of h j p) s
      by (New all) = absurd (good_whole borne.bears.holds.good (all k))
      by (Same was place medium may at named size cells) = on (cells k)
        where
          on : IsCellSince slots editions old j place k (medium.cell k) (borne.medium.cell k) → IsBorneOf slots editions g old j (name_of h j p) s
          on (IsStill same) =
              let then = then_was g old steady j (bears_below g j borne.medium.cell s borne.bears) was place medium may at in
              Before place named (record {
                medium = then.was;
                is_one = then.is_one;
                bears = record {
                  place = k;
                  place_in = borne.bears.place_in;
                  holds = subst (λ (c : Cell). HoldsSuper c s) (same ∙ then.places k borne.bears.place_in) borne.bears.holds;
                  slot = borne.bears.slot;
                  identity = borne.bears.identity;
                };
              })
          on (IsHarmed is) = absurd (good_whole borne.bears.holds.good is)
          on (IsWritten inside used is) =
              Given (sym named ∙ ap (λ (q : Location). name_of old j q) inside) used
              (copy_given slots editions old j k (borne.medium.cell k) s is borne.bears.holds)

-- THE SUPERBLOCK OF A MEDIUM

-- the medium that lay there had this superblock when the call began, and neither place of it was lost
pub record WasSuper (old : List Happening) (j : ℕ) (place : Location) (x : Superblock) : Type 0 where
  pub medium : Medium
  pub is_one : IsMediumOf (image_now old j) place medium
  pub super : IsSuperOf medium.cell x
  pub first : ¬ IsLost (medium.cell 0)
  pub second : ¬ IsLost (medium.cell 1)

-- It is a copy that was given to the slot, or the one that the medium of that name had.
pub data IsLaterOf (slots : Slots) (editions : List Edition) (old : List Happening) (j : ℕ) (name : Location) (x : Superblock) : Type 0 where
  IsGiven : IsCopy slots editions j x → IsLaterOf slots editions old j name x
  Was : (place : Location) → name_of old j place ≡ name → WasSuper old j place x → IsLaterOf slots editions old j name x

module _ (aim : EpochChange) (gone : Slots) (m last : Membership) (old h new : List Happening) (issued : Issued aim gone m last old new)
    (at : IsMoment old h new) (g : Geometry) (history : IsHistory old) (steady : AreSteady g old)
    (knows : (j : ℕ) → HasSlot issued.slots j → IsAttached old j → KnowsSuper m old j) (image : Image) (left : CrashMayLeave h image) where
  abbrev IsLater : ℕ → Location → Superblock → Type 0
  IsLater j name x = IsLaterOf issued.slots issued.editions old j name x

  pub later_since : (j : ℕ) → j < g.n → (p : Location) (medium : Medium) (x : Superblock) → IsMediumOf (image j) p medium → IsSuperOf medium.cell x
      → ¬ IsLost (medium.cell 0) → ¬ IsLost (medium.cell 1) → IsLater j (name_of h j p) x
  later_since j below p medium x is super first second =
      by (medium_since issued.slots issued.editions old h j history (ran_before issued.ran at) image left p medium is)
    where
      by : IsMediumSince issued.slots issued.editions old j (name_of h j p) medium.size medium.cell → IsLater j (name_of h j p) x
      by (New all) = absurd (first (ByOutside (all 0)))
      by (Same was place then may at_place named size cells) = on (cells 0) (cells 1)
        where
          earlier : IsThen old j place then
          earlier = then_was g old steady j below was place then may at_place

          -- it was in use, and a place of it was written
          in_use : place ≡ InSlot → IsAttached old j → HasSlot issued.slots j → IsLater j (name_of h j p) x
          in_use inside on has = given (kept image left p medium is own first second x super)
            where
              own : name_of h j p ≡ name_of old j InSlot
              own = sym named ∙ ap (λ (q : Location). name_of old j q) inside

              kept : Wherever h j (name_of old j InSlot)
                  (HasGivenOrOwn issued.slots issued.editions old j)
              kept = superblock_kept aim gone m last old h new issued j at has (knows j has on)

              given : IsGivenOrOwn issued.slots issued.editions old j x → IsLater j (name_of h j p) x
              given (GivenCopy copy) = IsGiven copy
              given (AsBefore was_super was_first was_second) =
                  Was InSlot (sym own) (record {
                    medium = record { size = then.size; cell = (image_now old j).cell };
                    is_one = (sym may.size ∙ (subst (λ (q : Location). IsMediumOf was q then) inside at_place).0, refl);
                    super = was_super;
                    first = was_first;
                    second = was_second;
                  })

          has_slot_of : (k : ℕ) → ¬ IsLost (medium.cell k) → IsIssuedAt issued.slots issued.editions old j k (medium.cell k) → HasSlot issued.slots j
          has_slot_of k kept is =
              elim (is.1 Damaged) [
                | Stayed harmed ↦ absurd (kept (ByOutside harmed))
                | Harmed harmed ↦ absurd (kept (ByOutside harmed))
                | Cut has bad ↦ has.0
                | Wrote e has among formed same ↦ has.0
              ]

          on : IsCellSince issued.slots issued.editions old j place 0 (then.cell 0) (medium.cell 0)
              → IsCellSince issued.slots issued.editions old j place 1 (then.cell 1) (medium.cell 1) → IsLater j (name_of h j p) x
          on (IsHarmed is) other = absurd (first (ByOutside is))
          on other (IsHarmed is) = absurd (second (ByOutside is))
          on (IsWritten inside used is) other = in_use inside used (has_slot_of 0 first is)
          on other (IsWritten inside used is) = in_use inside used (has_slot_of 1 second is)
          on (IsStill a) (IsStill b) =
              let at_zero : medium.cell 0 ≡ earlier.was.cell 0 = a ∙ earlier.places 0 (omega arith) in
              let at_one : medium.cell 1 ≡ earlier.was.cell 1 = b ∙ earlier.places 1 (omega arith) in
              Was place named (record {
                medium = earlier.was;
                is_one = earlier.is_one;
                super = super_cells medium.cell earlier.was.cell x at_zero at_one super;
                first = subst (λ (c : Cell). ¬ IsLost c) at_zero first;
                second = subst (λ (c : Cell). ¬ IsLost c) at_one second;
              })
