-- What media hold while an epoch is established, wherever they lie, by what they held when the call began; and which superblocks they
-- bear.
use Rattle.std.proofs.Common.{◌≡◌, ℕ, ◌<◌, List, ◌⊎◌, inl, inr, refl, sym, ap, ◌∙◌, subst, arith, Some}
use Rattle.std.specs.Prelude.{IsSome, ⊤}
use Rattle.stair_model.specs.Slots.{Slots}
use Rattle.stair_rack.specs.Answers.{IsHistory, Ran}
use Rattle.stair_rack.specs.Crash.{CrashMayLeave, SlotMayLeave, image_now}
use Rattle.stair_rack.specs.History.{Happening, Write, slot_state}
use Rattle.stair_rack.specs.Media.{Image, Medium, SlotImage}
use Rattle.stair_rack.specs.Offline.{Here, IsAttached}
use Rattle.stair_rack.specs.Sector.{Cell, Damaged, Good, Leaves, MayLeave, torn}
use Rattle.stair_rack.specs.declared.rack.Reply.TheVariants as reply
use Rattle.stair_rack.proofs.CrashLemmas.{KeepsLeaving, content_left, leaves_on, CrashMayLeave-now}
use Rattle.stair_rack.proofs.MomentLemmas.{ran_before}
use Rattle.stair_rack.proofs.TidyLemmas.{HasSize, history_tidy, size_on}
use Rattle.stair_super.specs.Spelling.{spelled}
use Rattle.stair_member.specs.Editions.{Edition, copy_of}
use Rattle.stair_member.specs.Epochs.{ASync, AWrite, IsIssuing}
use Rattle.stair_member.proofs.EditionLemmas.{Comes, IsWritable}
use Rattle.stair_state.specs.Degraded.{AreAllDamaged, AreDamagedCopies}
use Rattle.stair_state.specs.Reassembly.{InSlot, IsMediumOf, Location, Outside}
use Rattle.stair_state.proofs.DegradedLemmas.{copies_damaged}
use Rattle.stair_reinsert.specs.Following.{SurvivesDamage, name_of}
use Rattle.stair_reinsert.proofs.GivenLemmas.{issuing_ran}
use Rattle.stair_reinsert.proofs.NameLemmas.{attached_name, still_attached}
use Rattle.stair_reinsert.proofs.SuperKept.{torn_not_good}
use Rattle.stair_reinsert.proofs.WhereverLemmas.{holds_wherever, kept_left}

module _ (slots : Slots) (editions : List Edition) (old : List Happening) (j : ℕ) where
  -- a place holds a copy of one of these editions, or what a cut write of one left
  abbrev pub IsIssuedAt : ℕ → Cell → Type 0
  IsIssuedAt k cell = (k < 2) × ((was : Cell) → Comes (IsWritable slots old) editions j was cell)

  -- It is what the cell of the slot's medium was that lay there, or damage; or it was written, where that one was in use.
  pub data IsCellSince (place : Location) (k : ℕ) (was cell : Cell) : Type 0 where
    IsStill : cell ≡ was → IsCellSince place k was cell
    IsHarmed : cell ≡ Damaged → IsCellSince place k was cell
    IsWritten : place ≡ InSlot → IsAttached old j → IsIssuedAt k cell → IsCellSince place k was cell

  -- the size and the cells of the slot's medium of this name, or of one that was never written
  pub data IsMediumSince (name : Location) (size : ℕ) (cell : ℕ → Cell) : Type 0 where
    Same : (was : SlotImage) (place : Location) (medium : Medium) → SlotMayLeave (slot_state old j) was → IsMediumOf was place medium
        → name_of old j place ≡ name → medium.size ≡ size → ((k : ℕ) → IsCellSince place k (medium.cell k) (cell k)) → IsMediumSince name size cell
    New : AreAllDamaged cell → IsMediumSince name size cell

  cell_harmed : (place : Location) (k : ℕ) (first was is : Cell) → (is ≡ was) ⊎ (is ≡ Damaged) → IsCellSince place k first was
      → IsCellSince place k first is
  cell_harmed place k first was is (inl same) since = subst (λ (c : Cell). IsCellSince place k first c) (sym same) since
  cell_harmed place k first was is (inr harmed) since = IsHarmed harmed

  since_survives : (name : Location) (size : ℕ) → SurvivesDamage (IsMediumSince name size)
  since_survives name size = record { harmed = harmed; blank = λ cell all. New all }
    where
      harmed : (was is : ℕ → Cell) → AreDamagedCopies was is → IsMediumSince name size was → IsMediumSince name size is
      harmed was is copies (Same first place medium left at named sized cells) =
          Same first place medium left at named sized (λ k. cell_harmed place k (medium.cell k) (was k) (is k) (copies k) (cells k))
      harmed was is copies (New all) = New (copies_damaged all copies)

  -- WHILE IT IS IN USE

  -- what a crash may leave of a sector
  data IsLeftSince (k : ℕ) (cell : Cell) : Type 0 where
    Gone : cell ≡ Damaged → IsLeftSince k cell
    Left : MayLeave ((slot_state old j).sector k) cell → IsLeftSince k cell
    Wrote : IsIssuedAt k cell → IsLeftSince k cell

  wrote : (k : ℕ) (bytes : List ℕ) → IsAttached old j → IsIssuing slots editions j (Write k bytes reply.Done) → IsLeftSince k (Good bytes)
  wrote k bytes on (AWrite e l answer has among formed below is) =
      let place : k ≡ l = cc in
      let same : bytes ≡ spelled (copy_of e j) = cc in
      Wrote (subst (λ (i : ℕ). i < 2) (sym place) below, λ was. Comes.Wrote e (has, on) among formed (ap Good same))
  wrote k bytes on (ASync answer has is) = absurd (cc)

  cut : (k : ℕ) (bytes : List ℕ) (cell : Cell) → IsAttached old j → IsIssuing slots editions j (Write k bytes reply.Done) → IsLeftSince k (torn cell)
  cut k bytes cell on (AWrite e l answer has among formed below is) =
      let place : k ≡ l = cc in
      Wrote (subst (λ (i : ℕ). i < 2) (sym place) below, λ was. Comes.Cut (has, on) (torn_not_good cell))
  cut k bytes cell on (ASync answer has is) = absurd (cc)

  sectors_keep : IsAttached old j → (k : ℕ) → KeepsLeaving (IsIssuing slots editions) j k (IsLeftSince k) (λ cell. ⊤)
  sectors_keep on k = record {
    damage = Gone refl;
    under_damage = tt;
    write = λ bytes may. wrote k bytes on may;
    cut = λ bytes cell may under. cut k bytes cell on may;
    sync = λ cell may has. tt;
  }

  module _ (x : List Happening) (history : IsHistory old) (ran : Ran (IsIssuing slots editions) old x) (on : IsAttached x j) (image : SlotImage)
      (left : SlotMayLeave (slot_state x j) image) (size : ℕ) (sized : image.size ≡ Some size) where
    before : IsAttached old j × ((slot_state x j).pulls ≡ (slot_state old j).pulls)
    before = still_attached j (issuing_ran slots editions j ran) on

    there : IsSome (slot_state old j).size
    there = (history_tidy history).attached j before.0

    left_since : (k : ℕ) → IsLeftSince k (image.cell k)
    left_since k =
        kept_left {P = Leaves (IsLeftSince k) (λ cell. ⊤)} (IsLeftSince k) (slot_state old j).pulls k (slot_state x j) image (Gone refl)
        (λ cell leaves may. leaves.each cell may) before.1 left
        (leaves_on {allowed = IsIssuing slots editions} (slot_state old j).pulls j k (sectors_keep before.0 k) ran
        (Here refl there (inr (record { each = λ cell may. Left may; base = tt }))))

    -- what it was then: the same, where it may have been so
    cell_then : (k : ℕ) (cell : Cell) → IsLeftSince k cell → Cell
    cell_then k cell (Gone is) = (image_now old j).cell k
    cell_then k cell (Left may) = cell
    cell_then k cell (Wrote is) = (image_now old j).cell k

    then_left : (k : ℕ) (cell : Cell) (since : IsLeftSince k cell) → MayLeave ((slot_state old j).sector k) (cell_then k cell since)
    unfolding cell_then
    then_left k cell (Gone is) = content_left ((slot_state old j).sector k)
    then_left k cell (Left may) = may
    then_left k cell (Wrote is) = content_left ((slot_state old j).sector k)

    then_since : (k : ℕ) (cell : Cell) (since : IsLeftSince k cell) → IsCellSince InSlot k (cell_then k cell since) cell
    unfolding cell_then
    then_since k cell (Gone is) = IsHarmed is
    then_since k cell (Left may) = IsStill refl
    then_since k cell (Wrote is) = IsWritten refl before.0 is

    size_then : (slot_state old j).size ≡ Some size
    size_then =
        by
        (size_on {allowed = IsIssuing slots editions} (slot_state old j).pulls (slot_state old j).size j there ran
        (HasSize.Same refl refl))
      where
        by : HasSize (slot_state old j).pulls (slot_state old j).size (slot_state x j) → (slot_state old j).size ≡ Some size
        by (HasSize.Same pulls is) = sym is ∙ sym left.size ∙ sized
        by (HasSize.Other less) = let same = before.1 in absurd (omega (arith, less, same))

    pub in_use : IsMediumSince (name_of old j InSlot) size image.cell
    in_use =
        Same (record { size = Some size; cell = λ k. cell_then k (image.cell k) (left_since k); removed = (slot_state old j).removed }) InSlot
        (record { size = size; cell = λ k. cell_then k (image.cell k) (left_since k) })
        (record { size = sym size_then; each = λ k. then_left k (image.cell k) (left_since k); removed = refl }) (refl, refl) refl refl
        (λ k. then_since k (image.cell k) (left_since k))

-- WHEREVER IT LIES

pub medium_since : (slots : Slots) (editions : List Edition) (old h : List Happening) (j : ℕ) → IsHistory old → Ran (IsIssuing slots editions) old h
    → (image : Image) → CrashMayLeave h image → (p : Location) (medium : Medium) → IsMediumOf (image j) p medium
    → IsMediumSince slots editions old j (name_of h j p) medium.size medium.cell
medium_since slots editions old h j history ran image left p medium is =
    holds_wherever j (name_of h j p) (IsMediumSince slots editions old j (name_of h j p)) (since_survives slots editions old j (name_of h j p))
    {allowed = IsIssuing slots editions} ran
    (λ x at on named slot may size sized.
    let upto : Ran (IsIssuing slots editions) old x = ran_before ran at in
    subst (λ (name : Location). IsMediumSince slots editions old j name size slot.cell)
    (sym (attached_name j history (issuing_ran slots editions j upto) on) ∙ named) (in_use slots editions old j x history upto on slot may size sized))
    (record {
      inside = λ named slot may size sized.
          Same slot InSlot (record { size = size; cell = slot.cell }) may (sized, refl) named refl (λ k. IsStill refl);
      outside = λ i m named at.
          Same (image_now old j) (Outside i) m (CrashMayLeave-now old j) at named refl (λ k. IsStill refl);
    }) image left p medium is refl
