-- Racks whose media lie in a way that no state is consistent with.
use Rattle.std.proofs.Common.{◌≡◌, ◌<◌, ℕ, zero, suc, [], ◌∷◌, Option, None, Some, ap, ◌∙◌, inl, inr, refl, sym, subst, arith, false}
use Rattle.std.specs.Prelude.{nat_lt, if◌then◌else◌}
use Rattle.std.proofs.lemmas.Bool.{cases_lt, cond-true, cond-false, lt-ltb, le-ltb}
use Rattle.stair_model.specs.Geometry.{Geometry}
use Rattle.stair_rack.specs.Crash.{CrashMayLeave}
use Rattle.stair_rack.specs.History.{Made, empty_slot}
use Rattle.stair_rack.specs.Media.{Image, Medium, SlotImage, has_sector}
use Rattle.stair_rack.specs.Sector.{Damaged, Good, MayLeave}
use Rattle.stair_super.specs.Spelling.{spelled}
use Rattle.stair_super.specs.Superblock.{IsSuperblock}
use Rattle.stair_member.specs.Editions.{Edition, copy_of}
use Rattle.stair_member.specs.Reserve.{Bears}
use Rattle.stair_member.proofs.EditionLemmas.{holds_copy}
use Rattle.stair_state.specs.Holding.{IsConsistentBy, IsConsistentUnderReassembly}
use Rattle.stair_state.specs.Reassembly.{InSlot, IsBorne, IsMediumOf, Location, Outside}
use Rattle.stair_state.specs.State.{State}
use Rattle.stair_state.proofs.AloneLemmas.{IsImageTidy, made_settled}
use Rattle.stair_reinsert.specs.Misled.{five}
use Rattle.stair_reinsert_examples.specs.Refused.{IsRefused, JoinsTwo, NamesTwo, first_pulled, slot_with}
use Rattle.stair_reinsert_examples.proofs.FiveSurvey.{five_cases}

-- a rack that is made over media past whose end nothing can be read is left so by a crash
pub left_there : (image : Image) → IsImageTidy image → CrashMayLeave (Made image ∷ []) image
left_there image tidy j = record {
  size = refl;
  each = λ k. subst (λ s. MayLeave s ((image j).cell k)) (sym (made_settled image tidy j k)) refl;
  removed = refl;
}

-- so it is consistent itself, where a rack that is made so is
pub by_of : (s : State) (image : Image) → IsImageTidy image → (is : IsConsistentUnderReassembly s (Made image ∷ []))
    → IsConsistentBy s is.is.encodings is.current_media is.since image
by_of s image tidy is = is.is.each image (left_there image tidy)

pub two_lists_refused : (g : Geometry) (image : Image) → IsImageTidy image → NamesTwo g image → IsRefused g image
two_lists_refused g image tidy two s same is =
    two.two_lists
    ((by_of s image tidy is).one_list two.first two.second two.first_place two.second_place two.is two.also
    (subst (λ (x : Geometry). IsBorne x image two.first two.first_place two.is) (sym same) two.borne)
    (subst (λ (x : Geometry). IsBorne x image two.second two.second_place two.also) (sym same) two.borne_too) two.one_epoch)

pub two_media_refused : (g : Geometry) (image : Image) → IsImageTidy image → JoinsTwo g image → IsRefused g image
two_media_refused g image tidy two s same is =
    two.two_media
    ((by_of s image tidy is).own_joined two.slot two.first two.second two.is two.also
    (subst (λ (x : Geometry). IsBorne x image two.slot two.first two.is) (sym same) two.borne)
    (subst (λ (x : Geometry). IsBorne x image two.slot two.second two.also) (sym same) two.borne_too) two.one_joined)

-- a medium that has its superblock of an edition in its first place
pub bears_copy : (m : Medium) (e : Edition) (j : ℕ) → IsSuperblock (copy_of e j) → e.array.geometry ≡ five
    → m.cell 0 ≡ Good (spelled (copy_of e j)) → Bears five j m.cell (copy_of e j)
bears_copy m e j formed geometry is =
    record { place = 0; place_in = omega arith; holds = holds_copy (m.cell 0) e j formed is; slot = refl; identity = geometry }

-- RACKS

-- past the end of a medium nothing can be read
abbrev pub IsTidyMedium : Medium → Type 0
IsTidyMedium m = (k : ℕ) → nat_lt k m.size ≡ false → m.cell k ≡ Damaged

abbrev pub IsTidySlot : SlotImage → Type 0
IsTidySlot slot = (k : ℕ) → has_sector slot.size k ≡ false → slot.cell k ≡ Damaged

pub first_pulled_tidy : (devices : ℕ → Medium) → ((j : ℕ) → IsTidyMedium (devices j)) → IsImageTidy (first_pulled devices)
first_pulled_tidy devices tidy j =
    elim (cases_lt j 1) [
      | inl first ↦ subst IsTidySlot (sym (cond-true _ _ _ (lt-ltb j 1 first))) (λ k beyond. refl)
      | inr above ↦
          subst IsTidySlot (sym (cond-false _ _ _ (le-ltb j 1 above)))
          (elim (cases_lt j 5) [
            | inl below ↦ subst IsTidySlot (sym (cond-true _ _ _ (lt-ltb j 5 below))) (tidy j)
            | inr past ↦ subst IsTidySlot (sym (cond-false _ _ _ (le-ltb j 5 past))) (λ k beyond. refl)
          ])
    ]

-- where the device of a slot lies there
abbrev pub place_of : ℕ → Location
place_of j = if nat_lt j 1 then Outside 0 else InSlot

-- the medium is the device of its slot
pub record IsDeviceOf (devices : ℕ → Medium) (j : ℕ) (p : Location) (m : Medium) : Type 0 where
  pub below : j < 5
  pub place : p ≡ place_of j
  pub size : m.size ≡ (devices j).size
  pub cells : m.cell ≡ (devices j).cell

pub none_some : {A : Type 0} {x : A} → ¬ (◌≡◌ {A = Option A} None (Some x))
none_some same = cc

pub first_pulled_lies : (devices : ℕ → Medium) (j : ℕ) (p : Location) (m : Medium) → IsMediumOf (first_pulled devices j) p m → IsDeviceOf devices j p m
first_pulled_lies devices =
    five_cases (λ j. (p : Location) (m : Medium) → IsMediumOf (first_pulled devices j) p m → IsDeviceOf devices j p m) outside (inside 1 refl refl (omega arith))
    (inside 2 refl refl (omega arith)) (inside 3 refl refl (omega arith)) (inside 4 refl refl (omega arith))
    (λ j past p m is.
    absurd
    (bare p m
    (subst (λ (slot : SlotImage). IsMediumOf slot p m)
    (cond-false _ _ _ (le-ltb j 1 (omega (arith, past))) ∙ cond-false _ _ _ (le-ltb j 5 past)) is)))
  where
    outside : (p : Location) (m : Medium) → IsMediumOf (first_pulled devices 0) p m → IsDeviceOf devices 0 p m
    outside InSlot m is = absurd (none_some is.0)
    outside (Outside zero) m is =
        let same : devices 0 ≡ m = cc in
        record { below = omega arith; place = refl; size = sym (ap (λ (x : Medium). x.size) same); cells = sym (ap (λ (x : Medium). x.cell) same) }
    outside (Outside (suc i)) m is = absurd (none_some is)

    inside : (j : ℕ) → first_pulled devices j ≡ slot_with (devices j) [] → place_of j ≡ InSlot → j < 5 → (p : Location) (m : Medium)
        → IsMediumOf (first_pulled devices j) p m → IsDeviceOf devices j p m
    inside j slot place below p m is = by p (subst (λ (x : SlotImage). IsMediumOf x p m) slot is)
      where
        by : (q : Location) → IsMediumOf (slot_with (devices j) []) q m → IsDeviceOf devices j q m
        by InSlot there =
            let size : (devices j).size ≡ m.size = let same = there.0 in cc in
            record { below = below; place = sym place; size = sym size; cells = sym there.1 }
        by (Outside i) there = absurd (none_some there)

    bare : (p : Location) (m : Medium) → ¬ IsMediumOf empty_slot p m
    bare InSlot m is = none_some is.0
    bare (Outside i) m is = none_some is
