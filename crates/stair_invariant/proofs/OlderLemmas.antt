-- While a fence goes on an image may be left whose current superblock is of an epoch before the member's. What the fence wrote of it
-- can't be read, so the places of the slots that serve may be put back as they were.
use Rattle.std.proofs.Common.{◌≡◌, ◌≢◌, ℕ, ◌-◌, ◌<◌, ◌≤◌, List, [], ◌∷◌, ◌⊎◌, Bool, true, false, inl, inr, refl, sym, ap, ◌∙◌, subst, arith, Option, None, Some}
use Rattle.std.specs.Prelude.{Contains, IsSome}
use Rattle.std.proofs.lemmas.Bool.{cases_eq, cases_lt, false≢true}
use Rattle.stair_model.specs.Device.{gate_sector}
use Rattle.stair_model.specs.Geometry.{Geometry}
use Rattle.stair_model.specs.Slots.{Slots, HasSlot}
use Rattle.stair_rack.specs.Answers.{is_good}
use Rattle.stair_rack.specs.History.{Happening, slot_state}
use Rattle.stair_rack.specs.Media.{Image, SlotImage}
use Rattle.stair_rack.specs.Offline.{IsAttached, IsKept}
use Rattle.stair_rack.specs.Sector.{Cell, Damaged, Good, LeftOf, MayLeave, Sector, Torn, TornOverDamage, settled, torn}
use Rattle.stair_rack.proofs.CrashLemmas.{nothing_unsynced, settled_left}
use Rattle.stair_rack.proofs.MomentLemmas.{at_moment}
use Rattle.stair_rack.proofs.TidyLemmas.{history_tidy}
use Rattle.stair_super.specs.Spelling.{spelled}
use Rattle.stair_super.specs.Superblock.{IsSuperblock, Superblock}
use Rattle.stair_member.specs.Current.{ByOutside, IsLost, Serves, Worn}
use Rattle.stair_member.specs.Editions.{Edition, copy_of}
use Rattle.stair_member.specs.Epochs.{AsWas, Given, IsStanding, IsTaken}
use Rattle.stair_member.specs.Fencing.{IsKnownTo}
use Rattle.stair_member.specs.Membership.{IsHere, Membership, place_of}
use Rattle.stair_member.specs.Reserve.{Bears, MayStand}
use Rattle.stair_member.specs.Superblocks.{Counts, HoldsSuper, IsSuperOf}
use Rattle.stair_member.proofs.CountingLemmas.{has_or_not}
use Rattle.stair_member.proofs.DecisionLemmas.{no_super, super_decided}
use Rattle.stair_member.proofs.EditionLemmas.{Comes, Cut, Harmed, Stayed, Wrote, holds_copy}
use Rattle.stair_member.proofs.StandingLemmas.{serves_not_failed}
use Rattle.stair_member.proofs.SuperLemmas.{counts_bears, holds_once, one_super, super_cells}
use Rattle.stair_state.specs.Degraded.{Blank, IsDegraded, IsDegradedSlot, Stays, Taken}
use Rattle.stair_state.specs.Surveyed.{Bare, IsOwnOrBare, Own}
use Rattle.stair_state.specs.Tolerance.{IsToleratedAlone}
use Rattle.stair_state.proofs.AgreeLemmas.{borne_upto}
use Rattle.stair_state.proofs.DegradedLemmas.{degraded_copies, orderly_before, slot_again}
use Rattle.stair_state.proofs.ExchangedLemmas.{others_before, serves_or_failed}
use Rattle.stair_state.proofs.FormLemmas.{same_kept}
use Rattle.stair_state.proofs.StillLemmas.{known_none}
use Rattle.stair_invariant.proofs.CameLemmas.{IsIssuedTo, IsLeftBy, Less, Rewritten, copied_again, fence_ran, origin, own_first, own_issuing}
use Rattle.stair_invariant.proofs.LikeLemmas.{AreLike, tolerated_like}
use Rattle.stair_invariant.proofs.MendedLemmas as mended
use Rattle.stair_invariant.proofs.MendedLemmas.{IsMendable, IsRewritten, IsSameOrBad, put_back, put_less, put_like, put_place, put_shrinks}

-- A CELL

-- what can't be read and isn't lost was cut
torn_is : (cell : Cell) → is_good cell ≡ false → ¬ IsLost cell → cell ≡ Torn
torn_is (Good bytes) bad kept = absurd (cc)
torn_is Damaged bad kept = absurd (kept (ByOutside refl))
torn_is Torn bad kept = refl
torn_is TornOverDamage bad kept = absurd (kept (Worn refl))

torn_kept : (cell : Cell) → cell ≡ Torn → ¬ IsLost cell
torn_kept cell is (ByOutside harmed) = absurd (cc)
torn_kept cell is (Worn worn) = absurd (cc)

over_kept : (base : Cell) → Torn ≡ torn base → ¬ IsLost base
over_kept (Good bytes) is (ByOutside harmed) = absurd (cc)
over_kept (Good bytes) is (Worn worn) = absurd (cc)
over_kept Damaged is lost = absurd (cc)
over_kept Torn is (ByOutside harmed) = absurd (cc)
over_kept Torn is (Worn worn) = absurd (cc)
over_kept TornOverDamage is lost = absurd (cc)

-- what was cut was cut over a cell that wasn't lost
under_kept : (base : Cell) (since : List (List ℕ)) → LeftOf base since Torn → ¬ IsLost base
under_kept base [] left = torn_kept base (sym left)
under_kept base (bytes ∷ since) (inl is) = absurd (cc)
under_kept base (bytes ∷ since) (inr (inl is)) = over_kept base is
under_kept base (bytes ∷ since) (inr (inr left)) = under_kept base since left

-- A SLOT

-- a slot whose places are as they were
same_mendable : (was is : SlotImage) → is.size ≡ was.size → ((k : ℕ) → gate_sector ≤ k → (is.cell k ≡ was.cell k) ⊎ (is.cell k ≡ Damaged))
    → ((k : ℕ) → k < 2 → is.cell k ≡ was.cell k) → ((k : ℕ) → k < 2 → ¬ IsLost (is.cell k)) → IsMendable was is
same_mendable was is size behind same kept = record {
  size = size;
  behind = behind;
  whole = λ k lt lost. kept k lt (subst IsLost (sym (same k lt)) lost);
  same = λ s. (
    λ super. super_cells is.cell was.cell s (same 0 (omega arith)) (same 1 (omega arith)) super,
    λ super. super_cells was.cell is.cell s (sym (same 0 (omega arith))) (sym (same 1 (omega arith))) super,
  );
}

-- what is left of a slot that holds something is as large
pub kept_size : {was is : SlotImage} → IsDegradedSlot was is → is.cell 0 ≢ Damaged → is.size ≡ was.size
kept_size (Taken is all) whole = absurd (whole (all 0))
kept_size (Blank n is all) whole = absurd (whole (all 0))
kept_size (Stays same copies) whole = same

-- a slot serves or doesn't
pub serves_decided : (g : Geometry) (x : Image) (current : Superblock) (j : ℕ)
    → Serves (λ i. (x i).size ≡ None) g x current j ⊎ (¬ Serves (λ i. (x i).size ≡ None) g x current j)
serves_decided g x current j =
    elim (cases_lt j g.n) [
      | inr past ↦ inr (λ serves. let below : j < g.n = serves.live.below in omega (arith, below, past))
      | inl below ↦
          elim (serves_or_failed (λ i. (x i).size ≡ None) g x current j below (known_none (x j).size)) [
            | inl serves ↦ inl serves
            | inr failed ↦ inr (λ serves. serves_not_failed g x current j serves failed)
          ]
    ]

-- A DECISION, as a test

pub test_of : {A : Type 0} → A ⊎ (¬ A) → Bool
test_of (inl holds) = true
test_of (inr not) = false

pub test_holds : {A : Type 0} (d : A ⊎ (¬ A)) → test_of d ≡ true → A
unfolding test_of
test_holds (inl holds) is = holds
test_holds (inr not) is = absurd (false≢true is)

pub holds_test : {A : Type 0} (d : A ⊎ (¬ A)) → A → test_of d ≡ true
unfolding test_of
holds_test (inl holds) has = refl
holds_test (inr not) has = absurd (not has)

-- LESS OF THE IMAGE, within tolerance, in which an epoch before the member's is current
pub record IsOlder (m : Membership) (image x : Image) : Type 0 where
  pub degraded : IsDegraded image x
  pub alone : IsToleratedAlone m.array.geometry x
  pub older : alone.current.array.epoch < m.array.epoch

module _ {gone : Slots} {m last : Membership} {old h new : List Happening} {image : Image} (w : IsLeftBy gone m last old h new image) {x : Image}
    (o : IsOlder m image x) where
  abbrev g : Geometry
  g = m.array.geometry

  abbrev slots : Slots
  slots = w.issued.slots

  abbrev editions : List Edition
  editions = w.issued.editions

  abbrev was : Image
  was = (origin w).was

  abbrev current : Superblock
  current = o.alone.current

  abbrev serving : ℕ → Type 0
  serving j = Serves (λ i. (x i).size ≡ None) g x current j

  -- no superblock of an edition can be read
  no_edition : (j k : ℕ) (e : Edition) → k < 2 → Contains w.issued.editions e → IsSuperblock (copy_of e j)
      → (x j).cell k ≡ Good (spelled (copy_of e j)) → ⊥
  no_edition j k e lt among formed is =
      let issued = w.issued.each e among in
      let known : m.array.epoch ≤ m.drawn = w.begun.member.known in
      let older : current.array.epoch < m.array.epoch = o.older in
      let upto : e.array.epoch ≤ current.array.epoch =
      borne_upto g x current j (copy_of e j) (orderly_before g image x o.degraded w.orderly) o.alone.is_current
      (record { place = k; place_in = lt; holds = holds_copy ((x j).cell k) e j formed is; slot = refl; identity = issued.geometry }) in
      elim issued.epoch [
        | inl same ↦ let epoch : e.array.epoch ≡ m.array.epoch = ap (λ a. a.epoch) same in omega (arith, epoch, upto, older)
        | inr later ↦ let above : m.drawn < e.array.epoch = later.0 in omega (arith, above, upto, older, known)
      ]

  near : (j k : ℕ) (before : Cell) → k < 2 → Comes (HasSlot w.issued.slots) w.issued.editions j before ((image j).cell k)
      → ((x j).cell k ≡ (image j).cell k) ⊎ ((x j).cell k ≡ Damaged) → IsSameOrBad before ((x j).cell k)
  near j k before lt comes (inr harmed) = inr (ap is_good harmed)
  near j k before lt (Stayed is) (inl same) = inl (same ∙ is)
  near j k before lt (Harmed is) (inl same) = inr (ap is_good (same ∙ is))
  near j k before lt (Cut has bad) (inl same) = inr (ap is_good same ∙ bad)
  near j k before lt (Wrote e has among formed is) (inl same) = absurd (no_edition j k e lt among formed (same ∙ is))

  pub rewritten : (j : ℕ) → IsRewritten ((origin w).was j) (x j)
  rewritten j = by ((origin w).issued j) (o.degraded j)
    where
      by : IsIssuedTo w.issued.slots w.issued.editions j ((origin w).was j) (image j) → IsDegradedSlot (image j) (x j)
          → IsRewritten ((origin w).was j) (x j)
      by (Less first) second = mended.Less (slot_again first second)
      by (Rewritten size places far) (Taken is all) = mended.Less (Taken is all)
      by (Rewritten size places far) (Blank n is all) = mended.Less (Blank n is all)
      by (Rewritten size places far) (Stays same copies) =
          mended.Cut (same ∙ size) (λ k lt. near j k ((was j).cell k) lt (places k lt) (copies k)) (λ k from. copied_again (far k from) (copies k))

  -- A SLOT THAT SERVES

  module _ (j : ℕ) (serves : Serves (λ i. (x i).size ≡ None) m.array.geometry x o.alone.current j) where
    whole : (k : ℕ) → k < 2 → (x j).cell k ≢ Damaged
    whole k lt is = serves.places k lt (ByOutside is)

    here_too : (k : ℕ) → k < 2 → (x j).cell k ≡ (image j).cell k
    here_too k lt = same_kept {was = (image j).cell k} (degraded_copies (o.degraded j) k) (serves.places k lt)

    unharmed : (k : ℕ) → k < 2 → (image j).cell k ≢ Damaged
    unharmed k lt is = whole k lt (here_too k lt ∙ is)

    abbrev u : Superblock
    u = serves.live.super

    -- one that is written to
    module _ (size : (image j).size ≡ ((origin w).was j).size)
        (places : (k : ℕ) → k < 2 → Comes (HasSlot w.issued.slots) w.issued.editions j (((origin w).was j).cell k) ((image j).cell k))
        (far : (k : ℕ) → gate_sector ≤ k → ((image j).cell k ≡ ((origin w).was j).cell k) ⊎ ((image j).cell k ≡ Damaged))
        (on : HasSlot w.issued.slots j) where
      is_here : IsHere m j
      is_here = by (w.issued.taking j on)
        where
          by : IsTaken None m j → IsHere m j
          by (inl here) = here
          by (inr joins) = let never : None ≡ Some j = joins.0 in absurd (cc)

      all_behind : (k : ℕ) → gate_sector ≤ k → ((x j).cell k ≡ (was j).cell k) ⊎ ((x j).cell k ≡ Damaged)
      all_behind k from = copied_again (far k from) (degraded_copies (o.degraded j) k)

      size_was : (x j).size ≡ (was j).size
      size_was = kept_size (o.degraded j) (whole 0 (omega arith)) ∙ size

      -- it has its medium
      some : IsSome (slot_state old j).size
      some = by (slot_state old j).size (sym ((origin w).left j).size ∙ sym size_was)
        where
          by : (n : Option ℕ) → n ≡ (x j).size → IsSome n
          by None is = absurd (serves.online (sym is))
          by (Some n) is = refl

      pulls : (slot_state h j).pulls ≡ (slot_state old j).pulls
      pulls =
          by
          (own_issuing w.issued.slots w.issued.editions (slot_state old j) j old h (fence_ran w) w.returned
          (own_first old j (history_tidy w.begun.history)))
        where
          by : IsOwnOrBare (slot_state old j) (slot_state h j) → (slot_state h j).pulls ≡ (slot_state old j).pulls
          by (Own had same here) = same
          by (Bare off bare) =
              absurd
              (unharmed 0 (omega arith)
              (settled_left Damaged ((image j).cell 0) (subst (λ s. MayLeave s ((image j).cell 0)) (bare 0) ((w.left j).each 0))))

      -- what is known of a sector but for the outside
      known : {P : Sector → Type 0} (k : ℕ) → k < 2 → IsKept (slot_state old j).pulls k P (slot_state h j) → P ((slot_state h j).sector k)
      known {P} k lt (IsKept.Here same is (inl harmed)) =
          absurd
          (unharmed k lt
          (settled_left Damaged ((image j).cell k) (subst (λ s. MayLeave s ((image j).cell k)) harmed ((w.left j).each k))))
      known {P} k lt (IsKept.Here same is (inr holds)) = holds
      known {P} k lt (IsKept.Lost less) = absurd (omega (arith, less, pulls))

      -- nothing was unsynced in the places at first
      settled_first : (k : ℕ) → k < 2 → (slot_state old j).sector k ≡ settled ((slot_state old j).sector k).base
      settled_first k lt = nothing_unsynced ((slot_state old j).sector k) (w.begun.settled j k is_here.below lt)

      was_base : (k : ℕ) → k < 2 → (was j).cell k ≡ ((slot_state old j).sector k).base
      was_base k lt =
          settled_left ((slot_state old j).sector k).base ((was j).cell k)
          (subst (λ s. MayLeave s ((was j).cell k)) (settled_first k lt) (((origin w).left j).each k))

      abbrev p : ℕ
      p = place_of m j

      p_in : p < 2
      p_in = let most : m.array.geometry.n ≤ 32 = w.begun.member.array.limits.devices.1 in w.begun.member.places j (omega (arith, most, is_here.below))

      -- what both places have
      both_places : (P : ℕ → Type 0) → P (place_of m j) → P (1 - place_of m j) → (k : ℕ) → k < 2 → P k
      both_places P next other k lt =
          elim (cases_eq k p) [
            | inl is ↦ subst P (sym is) next
            | inr apart ↦ subst P (omega (arith, lt, apart, p_in)) other
          ]

      -- both places are as they were
      all_same : ((x j).cell (place_of m j) ≡ ((origin w).was j).cell (place_of m j))
          → ((x j).cell (1 - place_of m j) ≡ ((origin w).was j).cell (1 - place_of m j)) → IsMendable ((origin w).was j) (x j)
      all_same next other =
          same_mendable (was j) (x j) size_was all_behind (both_places (λ k. (x j).cell k ≡ (was j).cell k) next other)
          (λ k lt. serves.places k lt)

      -- the next place was cut
      cut_there : (x j).cell (place_of m j) ≡ Torn → ¬ IsLost (((origin w).was j).cell (place_of m j))
          → ((x j).cell (1 - place_of m j) ≡ ((origin w).was j).cell (1 - place_of m j)) → IsMendable ((origin w).was j) (x j)
      cut_there torn kept other = record {
        size = size_was;
        behind = all_behind;
        whole = both;
        same = λ s. (
          λ super. subst (λ (t : Superblock). IsSuperOf ((was j).cell) t) (one_super ((x j).cell) u s serves.live.counts.super super) super_was,
          λ super. subst (λ (t : Superblock). IsSuperOf ((x j).cell) t) (one_super ((was j).cell) u s super_was super) serves.live.counts.super,
        );
      }
        where
          both : (k : ℕ) → k < 2 → ¬ IsLost ((was j).cell k)
          both =
              both_places (λ k. ¬ IsLost ((was j).cell k)) kept
              (λ lost. serves.places (1 - p) (omega (arith, p_in)) (subst IsLost (sym other) lost))

          at_other : (k : ℕ) → k < 2 → HoldsSuper ((x j).cell k) u → HoldsSuper ((was j).cell (1 - p)) u
          at_other =
              both_places (λ k. HoldsSuper ((x j).cell k) u → HoldsSuper ((was j).cell (1 - p)) u)
              (λ holds. absurd (no_super ((x j).cell p) u (ap is_good torn) holds)) (λ holds. subst (λ (cell : Cell). HoldsSuper cell u) other holds)

          borne : Bears g j ((x j).cell) u
          borne = counts_bears g x j u serves.live.counts

          held : HoldsSuper ((was j).cell (1 - p)) u
          held = at_other borne.place borne.place_in borne.holds

          knows : IsKnownTo None m (IsAttached old) was
          knows = w.begun.known was (origin w).left

          bears_was : Bears g j ((was j).cell) u
          bears_was = record {
            place = 1 - p;
            place_in = omega (arith, p_in);
            holds = held;
            slot = serves.live.counts.slot;
            identity = serves.live.counts.identity;
          }

          super_was : IsSuperOf ((was j).cell) u
          super_was =
              elim (super_decided ((was j).cell)) [
                | inr not ↦ absurd (not (record { place = 1 - p; place_in = omega (arith, p_in); super = u; holds = held }))
                | inl found ↦
                    let counts : Counts g was j found.0 = (knows.orderly.hidden j u found.0 bears_was found.1).0 in
                    let lies : HoldsSuper ((was j).cell (1 - p)) found.0 =
                    knows.aside j found.0 is_here counts (both 0 (omega arith)) (both 1 (omega arith)) in
                    subst (λ (t : Superblock). IsSuperOf ((was j).cell) t) (holds_once ((was j).cell (1 - p)) found.0 u lies held) found.1
              ]

      by_standing : IsStanding m w.issued.editions old h j → IsMendable ((origin w).was j) (x j)
      by_standing (Given d) =
          let now = known d.place d.place_in d.on_disk in
          let good : (image j).cell d.place ≡ Good (spelled (copy_of d.edition j)) =
          settled_left (Good (spelled (copy_of d.edition j))) ((image j).cell d.place)
          (subst (λ s. MayLeave s ((image j).cell d.place)) now ((w.left j).each d.place)) in
          absurd (no_edition j d.place d.edition d.place_in d.among d.formed (here_too d.place d.place_in ∙ good))
      by_standing (AsWas other next) = by_place (places p p_in)
        where
          other_same : (x j).cell (1 - p) ≡ (was j).cell (1 - p)
          other_same =
              let lt : 1 - p < 2 = omega (arith, p_in) in
              let now = known (1 - p) lt other in
              here_too (1 - p) lt
              ∙ settled_left ((slot_state old j).sector (1 - p)).base ((image j).cell (1 - p))
              (subst (λ s. MayLeave s ((image j).cell (1 - p))) (now ∙ settled_first (1 - p) lt) ((w.left j).each (1 - p)))
              ∙ sym (was_base (1 - p) lt)

          under : (image j).cell p ≡ Torn → ¬ IsLost ((was j).cell p)
          under torn lost =
              let kept : ¬ IsLost ((slot_state h j).sector p).base =
              under_kept ((slot_state h j).sector p).base ((slot_state h j).sector p).since
              (subst (λ (cell : Cell). MayLeave ((slot_state h j).sector p) cell) torn ((w.left j).each p)) in
              elim (known p p_in next) [
                | inl same ↦ kept (subst IsLost (was_base p p_in ∙ sym same) lost)
                | inr harmed ↦ kept (ByOutside harmed)
              ]

          by_place : Comes (HasSlot w.issued.slots) w.issued.editions j ((was j).cell p) ((image j).cell p) → IsMendable (was j) (x j)
          by_place (Stayed is) = all_same (here_too p p_in ∙ is) other_same
          by_place (Harmed is) = absurd (unharmed p p_in is)
          by_place (Wrote e has among formed is) = absurd (no_edition j p e p_in among formed (here_too p p_in ∙ is))
          by_place (Cut has bad) =
              let torn : (image j).cell p ≡ Torn =
              torn_is ((image j).cell p) bad (λ lost. serves.places p p_in (subst IsLost (sym (here_too p p_in)) lost)) in
              cut_there (here_too p p_in ∙ torn) (under torn) other_same

    -- its places may be put back as they were
    pub mendable : IsMendable ((origin w).was j) (x j)
    mendable = by ((origin w).issued j)
      where
        by : IsIssuedTo w.issued.slots w.issued.editions j ((origin w).was j) (image j) → IsMendable ((origin w).was j) (x j)
        by (Less first) =
            let less : IsDegradedSlot (was j) (x j) = slot_again first (o.degraded j) in
            same_mendable (was j) (x j) (kept_size less (whole 0 (omega arith))) (λ k from. degraded_copies less k)
            (λ k lt. same_kept {was = (was j).cell k} (degraded_copies less k) (serves.places k lt)) (λ k lt. serves.places k lt)
        by (Rewritten size places far) =
            elim (has_or_not w.issued.slots j) [
              | inl on ↦
                  by_standing size places far on
                  (at_moment {P = λ b. (i : ℕ) → HasSlot w.issued.slots i → IsSome (slot_state old i).size → IsStanding m w.issued.editions old b i}
                  w.issued.standing w.at j on (some size places far on))
              | inr out ↦
                  same_mendable (was j) (x j) (kept_size (o.degraded j) (whole 0 (omega arith)) ∙ size)
                  (λ k from. copied_again (far k from) (degraded_copies (o.degraded j) k)) (λ k lt. here_too k lt ∙ unwritten out k lt (places k lt))
                  (λ k lt. serves.places k lt)
            ]
          where
            unwritten : ¬ HasSlot w.issued.slots j → (k : ℕ) → k < 2
                → Comes (HasSlot w.issued.slots) w.issued.editions j ((was j).cell k) ((image j).cell k) → (image j).cell k ≡ (was j).cell k
            unwritten out k lt (Stayed is) = is
            unwritten out k lt (Harmed is) = absurd (unharmed k lt is)
            unwritten out k lt (Cut has bad) = absurd (out has)
            unwritten out k lt (Wrote e has among formed is) = absurd (out has)

  -- WHERE THE SLOTS THAT SERVE ARE PUT BACK

  pub back : ℕ → Bool
  back j = test_of (serves_decided g x current j)

  pub back_serves : (j : ℕ) → back j ≡ true → Serves (λ i. (x i).size ≡ None) m.array.geometry x o.alone.current j
  unfolding back
  back_serves j is = test_holds (serves_decided g x current j) is

  serves_back : (j : ℕ) → Serves (λ i. (x i).size ≡ None) m.array.geometry x o.alone.current j → back j ≡ true
  unfolding back
  serves_back j serves = holds_test (serves_decided g x current j) serves

  pub back_mendable : (j : ℕ) → back j ≡ true → IsMendable ((origin w).was j) (x j)
  back_mendable j is = mendable j (back_serves j is)

  -- the image with their places as they were, and of the others without what was cut
  pub uncut : Image
  uncut = put_back back was x

  pub uncut_less : IsDegraded (origin w).was uncut
  unfolding uncut
  uncut_less = put_less was x back back_mendable rewritten

  pub uncut_like : AreLike x uncut
  unfolding uncut
  uncut_like = put_like was x back back_mendable rewritten

  -- more of it, where at least these slots are put back, is more of it then
  pub uncut_under : (more : Image) (back_more : ℕ → Bool) → ((j : ℕ) → back_more j ≡ true → IsMendable ((origin w).was j) (more j))
      → ((j : ℕ) → back j ≡ true → back_more j ≡ true) → IsDegraded more x → IsDegraded (put_back back_more (origin w).was more) uncut
  unfolding uncut
  uncut_under more back_more of within lesser = put_shrinks was more x back_more back of back_mendable within rewritten lesser

  uncut_whole : (j k : ℕ) → Serves (λ i. (x i).size ≡ None) m.array.geometry x o.alone.current j → k < 2 → ¬ IsLost ((uncut j).cell k)
  unfolding uncut
  uncut_whole j k serves lt lost =
      (mendable j serves).whole k lt (subst IsLost (put_place was x back back_mendable rewritten j k (serves_back j serves) lt) lost)

  -- it is within tolerance where no other array may stand
  pub uncut_alone : ((other : Geometry) → MayStand other (origin w).was → other ≡ m.array.geometry) → IsToleratedAlone m.array.geometry uncut
  uncut_alone only = tolerated_like g x uncut uncut_like o.alone uncut_whole (others_before g was uncut uncut_less only)
