-- Racks of five devices of which some are pulled and put back: how each moment stands.
use Rattle.std.proofs.Common.{◌≡◌, ℕ, ◌<◌, ◌≤◌, List, [], ◌∷◌, ◌⊎◌, inl, inr, refl, sym, ap, ◌∙◌, subst, arith, Option, Some, None, false}
use Rattle.std.specs.Prelude.{slice_get}
use Rattle.std.proofs.lemmas.Bool.{cases_lt, cond-true, cond-false, false≢true, lt-ltb, le-ltb}
use Rattle.stair_model.specs.Slots.{HasSlot, Slots}
use Rattle.stair_rack.specs.Crash.{CrashMayLeave, Settles, SlotMayLeave}
use Rattle.stair_rack.specs.History.{Acted, Happening, InsertedOld, Pulled, SlotAct, SlotState, after_act, slot_state, stopped, with_old}
use Rattle.stair_rack.specs.Media.{Image, Medium, SlotImage, sectors_of}
use Rattle.stair_rack.specs.Moments.{AtEveryMoment}
use Rattle.stair_rack.specs.Offline.{IsOffline, NoMedium, RackStopped, Unattached}
use Rattle.stair_rack.specs.Sector.{Cell, Damaged, MayLeave, damaged, settled}
use Rattle.stair_rack.proofs.CrashLemmas.{settled_left}
use Rattle.stair_rack.proofs.MomentLemmas.{at_every_from}
use Rattle.stair_rack.proofs.StepLemmas.{slot_act_cases}
use Rattle.stair_rack.proofs.StretchLemmas.{each_before}
use Rattle.stair_super.specs.Superblock.{joined_in, mark_in}
use Rattle.stair_super.specs.declared.mark.Mark.TheVariants.{Live}
use Rattle.stair_member.specs.Editions.{Edition}
use Rattle.stair_state.specs.Blocks.{Codewords}
use Rattle.stair_state.proofs.AloneLemmas.{made_settled}
use Rattle.stair_reinsert.specs.Misled.{device_cell, device_of, made_of, rack_of}
use Rattle.stair_reinsert.specs.Still.{IsStill}
use Rattle.stair_reinsert_examples.proofs.FiveConsistent.{inside, made_tidy}
use Rattle.stair_reinsert_examples.proofs.FiveDevices.{Bare, InPlace, IsDevice, IsWithin, Shows, past_cell}
use Rattle.stair_reinsert.proofs.StillStretch.{IsSame, still_same}

module _ (words : Codewords) (editions : ℕ → Edition) where
  -- SLOTS

  pub record HoldsDevice (j : ℕ) (b : SlotState) : Type 0 where
    pub below : j < 5
    pub size : b.size ≡ Some 9
    pub sectors : (k : ℕ) → b.sector k ≡ settled (device_cell words editions j k)

  pub data SlotIs (j : ℕ) (b : SlotState) : Type 0 where
    Holding : HoldsDevice j b → SlotIs j b
    Without : b.size ≡ None → ((k : ℕ) → b.sector k ≡ damaged) → SlotIs j b

  pub not_both : (j : ℕ) (b : SlotState) → b.size ≡ None → ¬ HoldsDevice j b
  not_both j b none is = let both : ◌≡◌ {A = Option ℕ} None (Some 9) = sym none ∙ is.size in absurd (cc)

  pub same_holds : (j : ℕ) (was is : SlotState) → IsSame was is → HoldsDevice j was → HoldsDevice j is
  same_holds j was is same holds =
      record { below = holds.below; size = same.size ∙ holds.size; sectors = λ k. same.sectors k ∙ holds.sectors k }

  same_back : (was is : SlotState) → IsSame was is → IsSame is was
  same_back was is same = record { size = sym same.size; sectors = λ k. sym (same.sectors k); pulls = sym same.pulls }

  same_slot : (j : ℕ) (was is : SlotState) → IsSame was is → SlotIs j was → SlotIs j is
  same_slot j was is same (Holding holds) = Holding (same_holds j was is same holds)
  same_slot j was is same (Without none all) = Without (same.size ∙ none) (λ k. same.sectors k ∙ all k)

  -- when the rack was made
  pub made_holds : (j : ℕ) → j < 5 → HoldsDevice j (slot_state (made_of words editions) j)
  made_holds j below = record {
    below = below;
    size = ap (λ (slot : SlotImage). slot.size) (inside words editions j below);
    sectors = λ k.
        made_settled (rack_of words editions) (made_tidy words editions) j k
        ∙ ap (λ (slot : SlotImage). settled (slot.cell k)) (inside words editions j below);
  }

  pub made_slot : (j : ℕ) → SlotIs j (slot_state (made_of words editions) j)
  made_slot j =
      elim (cases_lt j 5) [
        | inl below ↦ Holding (made_holds j below)
        | inr past ↦
            Without (ap (λ (slot : SlotImage). slot.size) (cond-false _ _ _ (le-ltb j 5 past)))
            (λ k.
            made_settled (rack_of words editions) (made_tidy words editions) j k
            ∙ ap (λ (slot : SlotImage). settled (slot.cell k)) (cond-false _ _ _ (le-ltb j 5 past)))
      ]

  -- of a device that was put back
  sectors_back : (j k : ℕ) → sectors_of (Some 9) (device_cell words editions j) k ≡ settled (device_cell words editions j k)
  sectors_back j k =
      elim (cases_lt k 9) [
        | inl within ↦ cond-true _ _ _ (lt-ltb k 9 within)
        | inr past ↦ cond-false _ _ _ (le-ltb k 9 past) ∙ ap settled (sym (past_cell words editions j k past))
      ]

  pub back_holds : (j : ℕ) (b : SlotState) → j < 5 → slice_get b.removed 0 ≡ Some (device_of words editions j)
      → HoldsDevice j (after_act (InsertedOld 0) b)
  back_holds j b below at =
      subst (λ (o : Option Medium). HoldsDevice j (with_old 0 o b)) (sym at)
      (record { below = below; size = refl; sectors = sectors_back j })

  -- it settles as its device when it is pulled
  pub settles : (j : ℕ) (b : SlotState) → HoldsDevice j b → Settles b (device_of words editions j)
  settles j b holds = record {
    size = holds.size;
    each = λ k. subst (λ s. MayLeave s (device_cell words editions j k)) (sym (holds.sectors k)) refl;
  }

  -- MOMENTS

  -- The rack goes on, and each of the five slots but these has its device, and was never pulled.
  pub record GoesOn (failed : Slots) (h : List Happening) : Type 0 where
    pub going : stopped h ≡ false
    pub slots : (j : ℕ) → SlotIs j (slot_state h j)
    pub kept : (j : ℕ) → j < 5 → ¬ HasSlot failed j → HoldsDevice j (slot_state h j) × ((slot_state h j).pulls ≡ 0)

  -- the superblock of slot c's device is current
  pub record IsNow (c : ℕ) (h : List Happening) : Type 0 where
    pub first : HoldsDevice c (slot_state h c)
    pub newest : (j : ℕ) → HoldsDevice j (slot_state h j) → ((editions j).array.epoch < (editions c).array.epoch)
        ⊎ (((editions j).array.epoch ≡ (editions c).array.epoch) × (c ≤ j))

  pub goes_made : (failed : Slots) → GoesOn failed (made_of words editions)
  goes_made failed = record { going = refl; slots = made_slot; kept = λ j below kept. (made_holds j below, refl) }

  -- a device is pulled, or put back
  acted : (failed : Slots) (h : List Happening) (i : ℕ) (a : SlotAct) → HasSlot failed i → SlotIs i (after_act a (slot_state h i)) → GoesOn failed h
      → GoesOn failed (Acted i a ∷ h)
  acted failed h i a has is on = record {
    going = on.going;
    slots = λ j.
        slot_act_cases (SlotIs j) h i j a (λ same. subst (λ (n : ℕ). SlotIs n (after_act a (slot_state h n))) same is) (on.slots j);
    kept = λ j below kept.
        slot_act_cases (λ b. HoldsDevice j b × (b.pulls ≡ 0)) h i j a (λ same. absurd (kept (subst (HasSlot failed) same has)))
        (on.kept j below kept);
  }

  pub goes_pulled : (failed : Slots) (h : List Happening) (i : ℕ) (m : Medium) → HasSlot failed i → GoesOn failed h
      → GoesOn failed (Acted i (Pulled m) ∷ h)
  goes_pulled failed h i m has on = acted failed h i (Pulled m) has (Without refl (λ k. refl)) on

  pub goes_back : (failed : Slots) (h : List Happening) (i : ℕ) → HasSlot failed i → i < 5
      → slice_get (slot_state h i).removed 0 ≡ Some (device_of words editions i) → GoesOn failed h → GoesOn failed (Acted i (InsertedOld 0) ∷ h)
  goes_back failed h i has below at on = acted failed h i (InsertedOld 0) has (Holding (back_holds i (slot_state h i) below at)) on

  -- while it is looked at
  pub goes_still : (failed : Slots) (x y : List Happening) → IsStill x y → GoesOn failed x → GoesOn failed y
  goes_still failed x y still on = record {
    going = (still_same 0 still).1 ∙ on.going;
    slots = λ j. same_slot j (slot_state x j) (slot_state y j) (still_same j still).0 (on.slots j);
    kept = λ j below kept.
        let before = on.kept j below kept in
        let same = (still_same j still).0 in
        (same_holds j (slot_state x j) (slot_state y j) same before.0, same.pulls ∙ before.1);
  }

  pub now_still : (c : ℕ) (x y : List Happening) → IsStill x y → IsNow c x → IsNow c y
  now_still c x y still now = record {
    first = same_holds c (slot_state x c) (slot_state y c) (still_same c still).0 now.first;
    newest = λ j holds.
        now.newest j
        (same_holds j (slot_state y j) (slot_state x j) (same_back (slot_state x j) (slot_state y j) (still_same j still).0) holds);
  }

  -- TOLERANCE

  left_cell : (b : SlotState) (image : SlotImage) (k : ℕ) (c : Cell) → SlotMayLeave b image → b.sector k ≡ settled c → image.cell k ≡ c
  left_cell b image k c left is = settled_left c (image.cell k) (subst (λ s. MayLeave s (image.cell k)) is (left.each k))

  pub left_device : (b : SlotState) (image : Image) (j : ℕ) → SlotMayLeave b (image j) → HoldsDevice j b → IsDevice words editions image j
  left_device b image j left holds = record {
    below = holds.below;
    cells = λ k. left_cell b (image j) k (device_cell words editions j k) left (holds.sectors k);
  }

  pub left_shows : (b : SlotState) (image : Image) (j : ℕ) → SlotMayLeave b (image j) → SlotIs j b → Shows words editions image j
  left_shows b image j left (Holding holds) = InPlace (left_device b image j left holds)
  left_shows b image j left (Without none all) = Bare (λ k. left_cell b (image j) k Damaged left (all k))

  -- no device is its own without one
  device_of_slot : (b : SlotState) (image : Image) (j : ℕ) → SlotMayLeave b (image j) → SlotIs j b → IsDevice words editions image j → HoldsDevice j b
  device_of_slot b image j left (Holding holds) is = holds
  device_of_slot b image j left (Without none all) is =
      let bare : (image j).cell 2 ≡ Damaged = left_cell b (image j) 2 Damaged left (all 2) in
      let both : device_cell words editions j 2 ≡ Damaged = sym (is.cells 2) ∙ bare in
      absurd (cc)

  pub online : (failed : Slots) (h : List Happening) → GoesOn failed h → (j : ℕ) → j < 5 → ¬ HasSlot failed j
      → ¬ IsOffline (made_of words editions) h j
  online failed h on j below kept (NoMedium none) = not_both j (slot_state h j) none (on.kept j below kept).0
  online failed h on j below kept (Unattached off pulled) = omega (arith, pulled, (on.kept j below kept).1)
  online failed h on j below kept (RackStopped stops) = false≢true (sym on.going ∙ stops)

  pub within : (failed : Slots) (c : ℕ) (h : List Happening) (image : Image) → GoesOn failed h → IsNow c h → CrashMayLeave h image
      → ((j : ℕ) → j < 5 → ¬ HasSlot failed j → mark_in (editions c).array j ≡ Live)
      → ((j : ℕ) → j < 5 → ¬ HasSlot failed j → joined_in (editions j).array j ≡ joined_in (editions c).array j)
      → IsWithin words editions failed (IsOffline (made_of words editions) h) image c
  within failed c h image on now left live joined = record {
    shows = λ j. left_shows (slot_state h j) image j (left j) (on.slots j);
    first = left_device (slot_state h c) image c (left c) now.first;
    newest = λ j is. now.newest j (device_of_slot (slot_state h j) image j (left j) (on.slots j) is);
    kept = λ j below kept. left_device (slot_state h j) image j (left j) (on.kept j below kept).0;
    online = online failed h on;
    live = live;
    joined = joined;
  }

  -- STRETCHES

  pub still_each : {x y : List Happening} (P : List Happening → Type 0) → ((m : List Happening) → IsStill x m → P m) → IsStill x y → AtEveryMoment P x y
  still_each {x} {y} P each still = at_every_from {P = P} still.more still.is (λ m at. each m (each_before still at))

  -- an act
  pub act_each : (P : List Happening → Type 0) (h : List Happening) (i : ℕ) (a : SlotAct) → P h → P (Acted i a ∷ h) → AtEveryMoment P h (Acted i a ∷ h)
  act_each P h i a before after = record { more = Acted i a ∷ []; is = refl; each = (after, before) }
