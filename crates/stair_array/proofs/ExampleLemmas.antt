-- There is a rack of new devices for each geometry, and it is all that new arrays are said to be.
use Rattle.std.proofs.Common.{◌≡◌, ℕ, ◌<◌, ◌≤◌, List, [], ◌∷◌, Some, None, Option, length, replicate, inl, inr, refl, sym, ◌∙◌, ap, arith, nat_lt, if◌then◌else◌}
use Rattle.std.specs.Prelude.{slice_get}
use Rattle.std.proofs.lemmas.Bool.{cases_lt, cond-true, cond-false, false≢true, lt-ltb, le-ltb}
use Rattle.stair_model.specs.Device.{Chunk, cell_sector}
use Rattle.stair_model.specs.Geometry.{Geometry, IsWithinLimits, sectors_needed}
use Rattle.stair_model.specs.Slots.{no_slots}
use Rattle.stair_model.proofs.CoverageLaws.{covered_none}
use Rattle.stair_model.proofs.DeviceLaws.{sector_in_range}
use Rattle.stair_model.proofs.RestLaws.{covered_by_chunks}
use Rattle.stair_model.proofs.SetLaws.{HasCell-none, slot_count_member}
use Rattle.stair_rack.specs.History.{Made, empty_slot}
use Rattle.stair_rack.specs.Media.{Image, Medium, SlotImage, has_sector}
use Rattle.stair_rack.specs.Offline.{IsOffline, NoMedium, RackStopped, Unattached}
use Rattle.stair_rack.specs.Sector.{Cell, Good, Damaged, TornOverDamage}
use Rattle.stair_rack.proofs.TidyLemmas.{history_made}
use Rattle.stair_super.specs.Superblock.{Superblock}
use Rattle.stair_member.specs.Counting.{AllBut}
use Rattle.stair_member.specs.Current.{ByOutside, IsCurrent, IsFailed, IsLive, IsLost, LostPlace, NotLive, Offline, Worn}
use Rattle.stair_member.specs.Reserve.{BearsFor, MayStand}
use Rattle.stair_member.specs.Superblocks.{Counts, CountsFor, IsOnlyIdentity}
use Rattle.stair_member.proofs.CountingLemmas.{more_from_all_but}
use Rattle.stair_member.proofs.SuperLemmas.{counts_bears, one_identity, super_held}
use Rattle.stair_array.specs.Created.{AreNewMedia, BearNoneOutside, IsNewArray, IsNewDevice, Kept, created_sector, first_super}
use Rattle.stair_state.specs.Represents.{Represents}
use Rattle.stair_state.specs.Holding.{IsConsistentUnderReassembly}
use Rattle.stair_state.specs.State.{created_state}
use Rattle.stair_state.specs.Tolerance.{IsStripeCovered, IsTolerated, IsWithinTolerance}
use Rattle.stair_state.proofs.AloneLemmas.{IsImageTidy, each_left, steady_made}
use Rattle.stair_array.proofs.CreatedLemmas.{created_place, first_held, held_first, place_needed}
use Rattle.stair_array.proofs.NewArrayLemmas.{borne_is_first, counted_live, device_super, media_of_array, new_consistent, new_represents, none_is_few, not_in_none}

-- A RACK THAT WAS JUST MADE

-- in a session that begins with it a slot is offline only where it holds no medium
made_online : (image : Image) (j : ℕ) → IsOffline [] (Made image ∷ []) j → (image j).size ≡ None
made_online image j (NoMedium none) = none
made_online image j (Unattached apart pulled) = absurd (omega arith)
made_online image j (RackStopped stopped) = absurd (false≢true stopped)

-- THE EXAMPLE

abbrev new_device : Geometry → ℕ → SlotImage
new_device g j = record {
  size = Some (sectors_needed g);
  cell = λ k. if nat_lt k (sectors_needed g) then Good (created_sector g j k) else Damaged;
  removed = [];
}

-- new devices with the sectors that are needed, and no other media
abbrev example_image : Geometry → Image
example_image g j = if nat_lt j g.n then new_device g j else empty_slot

inside : (g : Geometry) (j : ℕ) → j < g.n → example_image g j ≡ new_device g j
inside g j below = cond-true _ _ _ (lt-ltb j g.n below)

past : (g : Geometry) (j : ℕ) → g.n ≤ j → example_image g j ≡ empty_slot
past g j above = cond-false _ _ _ (le-ltb j g.n above)

example_cell : (g : Geometry) (j k : ℕ) → j < g.n → k < sectors_needed g → (example_image g j).cell k ≡ Good (created_sector g j k)
example_cell g j k below needed =
    ap (λ (slot : SlotImage). slot.cell k) (inside g j below) ∙ cond-true _ _ _ (lt-ltb k (sectors_needed g) needed)

none_past : (g : Geometry) (j k : ℕ) → g.n ≤ j → (example_image g j).cell k ≡ Damaged
none_past g j k above = ap (λ (slot : SlotImage). slot.cell k) (past g j above)

example_tidy : (g : Geometry) → IsImageTidy (example_image g)
example_tidy g j k beyond =
    elim (cases_lt j g.n) [
      | inl below ↦
          elim (cases_lt k (sectors_needed g)) [
            | inl needed ↦
                absurd
                (false≢true
                (sym (sym (ap (λ (slot : SlotImage). has_sector slot.size k) (inside g j below)) ∙ beyond)
                ∙ lt-ltb k (sectors_needed g) needed))
            | inr more ↦
                ap (λ (slot : SlotImage). slot.cell k) (inside g j below) ∙ cond-false _ _ _ (le-ltb k (sectors_needed g) more)
          ]
      | inr above ↦ none_past g j k above
    ]

example_removed : (g : Geometry) (j : ℕ) → (example_image g j).removed ≡ []
example_removed g j =
    elim (cases_lt j g.n) [
      | inl below ↦ ap (λ (slot : SlotImage). slot.removed) (inside g j below)
      | inr above ↦ ap (λ (slot : SlotImage). slot.removed) (past g j above)
    ]

example_device : (g : Geometry) (j : ℕ) → j < g.n → IsNewDevice g j (example_image g j)
example_device g j below = record {
  full = λ k needed.
      ap (λ (slot : SlotImage). has_sector slot.size k) (inside g j below) ∙ lt-ltb k (sectors_needed g) needed;
  sectors = λ k needed. inl (example_cell g j k below needed);
}

pub example_new : (g : Geometry) → IsNewArray g (example_image g)
example_new g j below = Kept (example_device g j below)

example_outside : (g : Geometry) → BearNoneOutside g (example_image g)
example_outside g = record {
  none = λ j i medium s is bears.
      let some : ◌≡◌ {A = Option Medium} None (Some medium) = sym (ap (λ (removed : List Medium). slice_get removed i) (example_removed g j)) ∙ is in
      absurd (cc);
}

good_not_lost : (cell : Cell) (bytes : List ℕ) → cell ≡ Good bytes → ¬ IsLost cell
good_not_lost cell bytes good (ByOutside damaged) = let none : Good bytes ≡ Damaged = sym good ∙ damaged in absurd (cc)
good_not_lost cell bytes good (Worn torn) = let none : Good bytes ≡ TornOverDamage = sym good ∙ torn in absurd (cc)

module _ (g : Geometry) (limits : IsWithinLimits g) (id : length g.id ≡ 16) where
  kept_cell : (j k : ℕ) → j < g.n → k < sectors_needed g → ¬ IsLost ((example_image g j).cell k)
  kept_cell j k below needed = good_not_lost ((example_image g j).cell k) (created_sector g j k) (example_cell g j k below needed)

  counts_first : (j : ℕ) → j < g.n → Counts g (example_image g) j (first_super g j)
  counts_first j below = record {
    super = device_super g j 0 (example_image g j) limits id below (example_device g j below) (omega arith)
        (first_held g j ((example_image g j).cell 0) limits id below
        (example_cell g j 0 below (place_needed g 0 (omega arith)) ∙ ap Good (created_place g j 0 (omega arith))));
    slot = refl;
    identity = refl;
  }

  counts_here : (j : ℕ) → j < g.n → CountsFor g (example_image g) j
  counts_here j below = record { super = first_super g j; counts = counts_first j below }

  -- a slot that counts, for whichever array, is one of this array's
  counts_within : (other : Geometry) (j : ℕ) → CountsFor other (example_image g) j → j < g.n
  counts_within other j for =
      let held = super_held ((example_image g j).cell) for.super for.counts.super in
      elim (cases_lt j g.n) [
        | inl below ↦ below
        | inr above ↦
            let none : Good held.holds.bytes ≡ Damaged = sym held.holds.good ∙ none_past g j held.place above in absurd (cc)
      ]

  example_identity : IsOnlyIdentity g (example_image g)
  example_identity = record {
    stands = more_from_all_but limits.devices.1 limits.majority all;
    alone = λ other stands.
        let some = slot_count_member stands.slots (omega (arith, stands.many)) in
        let for : CountsFor other (example_image g) some.0 = stands.each some.0 some.2 in
        one_identity other g (example_image g) some.0 for (counts_here some.0 (counts_within other some.0 for));
  }
    where
      all : AllBut g.n g.m (CountsFor g (example_image g))
      all = record {
        exceptions = no_slots;
        formed = refl;
        few = none_is_few g.m;
        others = λ j below out. counts_here j below;
      }

  -- nor would another array stand by hidden superblocks: each that is borne, for whichever array, is this one's
  borne_within : (other : Geometry) (j : ℕ) → BearsFor other (example_image g) j → other ≡ g
  borne_within other j for =
      elim (cases_lt j g.n) [
        | inl below ↦
            let is : for.super ≡ first_super g j =
            held_first g j for.bears.place (example_image g j) for.super limits id below (example_device g j below) for.bears.place_in
            for.bears.holds in
            sym for.bears.identity ∙ ap (λ (s : Superblock). s.array.geometry) is
        | inr above ↦
            let none : Good for.bears.holds.bytes ≡ Damaged = sym for.bears.holds.good ∙ none_past g j for.bears.place above in absurd (cc)
      ]

  example_others : (other : Geometry) → MayStand other (example_image g) → other ≡ g
  example_others other may =
      let some = slot_count_member may.slots (omega (arith, may.many)) in
      borne_within other some.0 (may.each some.0 some.2)

  example_current : IsCurrent g (example_image g) (first_super g 0)
  example_current = record {
    counts = counts_first 0 (omega (arith, limits.devices));
    newest = λ j s counts.
        inr (
          ap (λ (t : Superblock). t.array.epoch)
              (borne_is_first g (example_image g) limits id (example_new g) j s (counts_bears g (example_image g) j s counts)),
          omega arith,
        );
  }

  example_live : (j : ℕ) → j < g.n → IsLive g (example_image g) (first_super g 0) j
  example_live j below =
      counted_live g (example_image g) limits id (example_new g) (first_super g 0) j (first_super g j) example_current
      (counts_first j below)

  module _ (offline : ℕ → Type 0) (online : (j : ℕ) → j < g.n → ¬ offline j) where
    none_failed : (j : ℕ) → ¬ IsFailed offline g (example_image g) (first_super g 0) j
    none_failed j (NotLive below not) = not (example_live j below)
    none_failed j (LostPlace k below place lost) = kept_cell j k below (place_needed g k place) lost
    none_failed j (Offline below is) = online j below is

    none_erased : (t : ℕ) → t < g.stripes → IsStripeCovered offline g (example_image g) (first_super g 0) t
    none_erased t t_in = record {
      erased = record { rows = replicate 32 no_slots };
      covered = covered_by_chunks g (record { rows = replicate 32 no_slots })
          (covered_none g (record { rows = replicate 32 no_slots }) (HasCell-none no_slots not_in_none));
      has = λ i j row slot failed.
          absurd
          (elim failed [
            | inl is ↦ none_failed j is
            | inr damaged ↦
                kept_cell j (cell_sector g t i) slot (sector_in_range g (Chunk t i) limits (t_in, row)) (ByOutside damaged)
          ]);
    }

    example_within : IsWithinTolerance offline g (example_image g)
    example_within = record {
      identity = example_identity;
      others = example_others;
      current = first_super g 0;
      is_current = example_current;
      few = record {
        slots = no_slots;
        formed = refl;
        few = none_is_few g.m;
        within = λ j failed. absurd (none_failed j failed);
      };
      stripes = none_erased;
      journal_slot = 0;
      journal = record {
        serves = record {
          live = example_live 0 (omega (arith, limits.devices));
          places = λ k place. kept_cell 0 k (omega (arith, limits.devices)) (place_needed g k place);
          online = online 0 (omega (arith, limits.devices));
        };
        whole = λ k from to. kept_cell 0 k (omega (arith, limits.devices)) (omega arith);
      };
    }

  example_online : (j : ℕ) → j < g.n → ¬ IsOffline [] (Made (example_image g) ∷ []) j
  example_online j below offline =
      let some : ◌≡◌ {A = Option ℕ} (Some (sectors_needed g)) None =
      sym (ap (λ (slot : SlotImage). slot.size) (inside g j below)) ∙ made_online (example_image g) j offline in
      absurd (cc)

  example_tolerated : IsTolerated g [] (Made (example_image g) ∷ [])
  example_tolerated =
      each_left (example_image g) (example_tidy g) (IsWithinTolerance (IsOffline [] (Made (example_image g) ∷ [])) g)
      (example_within (IsOffline [] (Made (example_image g) ∷ [])) example_online)

  example_represents : Represents (created_state g) (Made (example_image g) ∷ [])
  example_represents =
      new_represents g [] (Made (example_image g) ∷ []) limits id
      (each_left (example_image g) (example_tidy g) (IsNewArray g) (example_new g))
      (steady_made g (example_image g)) example_tolerated

  example_consistent : IsConsistentUnderReassembly (created_state g) (Made (example_image g) ∷ [])
  example_consistent =
      new_consistent g (Made (example_image g) ∷ []) limits id (history_made (example_image g))
      (each_left (example_image g) (example_tidy g) (AreNewMedia g)
      (media_of_array g (example_image g) (example_new g) (example_outside g)))
      (steady_made g (example_image g))

  pub example : (image : Image) × IsNewArray g image × IsTolerated g [] (Made image ∷ [])
      × Represents (created_state g) (Made image ∷ []) × IsConsistentUnderReassembly (created_state g) (Made image ∷ [])
  example = (example_image g, example_new g, example_tolerated, example_represents, example_consistent)
