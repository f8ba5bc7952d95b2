-- What bounds the draws in an image, through acts and calls.
use Rattle.std.proofs.Common.{refl, ◌≡◌, ◌<◌, ◌≤◌, ℕ, List, sym, subst, arith}
use Rattle.std.specs.Prelude.{Contains}
use Rattle.stair_model.specs.Geometry.{Geometry}
use Rattle.stair_model.specs.Slots.{Slots}
use Rattle.stair_rack.specs.Answers.{Ran}
use Rattle.stair_rack.specs.Crash.{image_now}
use Rattle.stair_rack.specs.EachMedium.{EachMedium}
use Rattle.stair_rack.specs.History.{Happening, SlotCall, Write, slot_state}
use Rattle.stair_rack.specs.Sector.{Cell, Damaged, Good, MayLeave, Torn, TornOverDamage, torn}
use Rattle.stair_rack.proofs.CrashLemmas.{content_left, CrashMayLeave-now, MayLeave-base, in_each_image}
use Rattle.stair_rack.proofs.MediumLemmas.{MediumKeeps, media_left, media_throughout}
use Rattle.stair_rack.proofs.MomentLemmas.{at_last, at_every_from, at_moment, ran_weakened}
use Rattle.stair_rack.specs.Stretch.{IsNoWrite}
use Rattle.stair_array.specs.Looking.{cells_at}
use Rattle.stair_super.specs.Spelling.{SpellsSuperblock, spelled}
use Rattle.stair_super.specs.Superblock.{IsSuperblock, Superblock}
use Rattle.stair_super.proofs.Once.{same_superblock}
use Rattle.stair_member.proofs.EditionLemmas.{spells_copy}
use Rattle.stair_member.specs.Editions.{Edition, copy_of}
use Rattle.stair_member.specs.Epochs.{ASync, AWrite, IsIssuing, Issued}
use Rattle.stair_member.specs.Membership.{Membership}
use Rattle.stair_member.specs.declared.aim.EpochChange.{EpochChange}
use Rattle.stair_command.specs.Bounded.{DrawsAtMost, EpochsAreBounded, IsBoundedAt, PlacesDrawAtMost, StaysBounded}

-- ---- calls

-- a call that writes to a superblock place only what draws at most this
abbrev pub IsFine : Geometry → ℕ → ℕ → SlotCall → Type 0
IsFine g most j (Write k bytes answer) = k < 2 → DrawsAtMost g most (Good bytes)
IsFine g most j _ = Unit {0}

module _ (g : Geometry) (most : ℕ) where
  abbrev pub IsIn : ℕ → Cell → Type 0
  IsIn k cell = k < 2 → DrawsAtMost g most cell

  -- a cell that can't be read holds no superblock
  none_damaged : DrawsAtMost g most Damaged
  none_damaged s holds same = absurd (let good = holds.good in cc)

  none_torn : (cell : Cell) → DrawsAtMost g most (torn cell)
  none_torn (Good bytes) s holds same = absurd (let good = holds.good in cc)
  none_torn Damaged s holds same = absurd (let good = holds.good in cc)
  none_torn Torn s holds same = absurd (let good = holds.good in cc)
  none_torn TornOverDamage s holds same = absurd (let good = holds.good in cc)

  keeps_places : (j : ℕ) → MediumKeeps (IsFine g most) j IsIn IsIn
  keeps_places j k = record {
    damage = λ place. none_damaged;
    under_damage = λ place. none_damaged;
    write = λ bytes may place. may place;
    cut = λ bytes cell may under place. none_torn cell;
    sync = λ cell may holds. holds;
  }

  -- ---- images, and sectors

  abbrev pub MediaIn : List Happening → ℕ → Type 0
  MediaIn h j = EachMedium IsIn IsIn (slot_state h j)

  pub media_of : (h : List Happening) → IsBoundedAt g most h → (j : ℕ) → MediaIn h j
  media_of h bounded j = record {
    inside = λ k.
        let each : (cell : Cell) → MayLeave ((slot_state h j).sector k) cell → IsIn k cell =
        in_each_image h j k (IsIn k) (λ image left place. (bounded image left).in_slots j k place) in
        record { each = each; base = each ((slot_state h j).sector k).base (MayLeave-base ((slot_state h j).sector k)) };
    removed = (bounded (image_now h) (CrashMayLeave-now h)).outside j;
  }

  pub bounded_by : (h : List Happening) → ((j : ℕ) → MediaIn h j) → IsBoundedAt g most h
  bounded_by h media image left = record {
    in_slots = λ j k place. (media_left h image j left (media j)).0 k place;
    outside = λ j. (media_left h image j left (media j)).1;
  }

  -- calls that are fine leave it so
  pub stays_bounded : {old new : List Happening} → Ran (IsFine g most) old new → IsBoundedAt g most old → StaysBounded g most old new
  stays_bounded {old} {new} ran bounded =
      at_every_from {P = IsBoundedAt g most} ran.more ran.is
      (λ h at. bounded_by h (λ j.
      at_moment {P = λ (h : List Happening). MediaIn h j}
      (media_throughout {allowed = IsFine g most} {j = j} {Q = IsIn} {Base = IsIn} (keeps_places j) (λ k cell holds. holds) ran (media_of old bounded j)) at))

  -- in one slot, over calls that don't write to it
  pub slot_stays : (j : ℕ) {old h : List Happening} → Ran (λ i call. i ≡ j → IsNoWrite call) old h → IsBoundedAt g most old
      → PlacesDrawAtMost g most (cells_at h j)
  slot_stays j {old} {h} ran bounded k place =
      let media : MediaIn h j =
      at_last {P = λ (h : List Happening). MediaIn h j}
      (media_throughout {allowed = λ i call. i ≡ j → IsNoWrite call} {j = j} {Q = IsIn} {Base = IsIn} (λ k. record {
        damage = λ place. none_damaged;
        under_damage = λ place. none_damaged;
        write = λ bytes may. absurd (may refl);
        cut = λ bytes cell may. absurd (may refl);
        sync = λ cell may holds. holds;
      }) (λ k cell holds. holds) ran (media_of old bounded j)) in
      (media.inside k).each (cells_at h j k) (content_left ((slot_state h j).sector k)) place

  -- ---- an epoch

  -- a copy of an edition holds its draw, and nothing else
  fine_copy : (e : Edition) (j : ℕ) → IsSuperblock (copy_of e j) → e.draw ≤ most → DrawsAtMost g most (Good (spelled (copy_of e j)))
  fine_copy e j formed few s holds same =
      let good = holds.good in
      let bytes : holds.bytes ≡ spelled (copy_of e j) = cc in
      let is : copy_of e j ≡ s = same_superblock holds.bytes (copy_of e j) s
      (subst (λ (b : List ℕ). SpellsSuperblock b (copy_of e j)) (sym bytes) (spells_copy e j formed)) holds.spells in
      subst (λ (t : Superblock). t.draw ≤ most) is few

  fine_issuing : {slots : Slots} {editions : List Edition} → ((e : Edition) → Contains editions e → e.draw ≤ most) → (j : ℕ) (call : SlotCall)
      → IsIssuing slots editions j call → IsFine g most j call
  fine_issuing few j call (AWrite e k answer slot among formed place is) =
      subst (IsFine g most j) (sym is) (λ place. fine_copy e j formed (few e among))
  fine_issuing few j call (ASync answer slot is) = subst (IsFine g most j) (sym is) tt

  pub fine_issued : {aim : EpochChange} {gone : Slots} {m last : Membership} {old new : List Happening} → Issued aim gone m last old new
      → last.drawn ≤ most → Ran (IsFine g most) old new
  fine_issued issued few =
      ran_weakened (fine_issuing {slots = issued.slots} {editions = issued.editions} (λ e among. omega (arith, (issued.each e among).most, few))) issued.ran

pub epochs_bounded : EpochsAreBounded
epochs_bounded aim gone m last old new g most issued few bounded =
    stays_bounded g most (fine_issued g most issued few) bounded
