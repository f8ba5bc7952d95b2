-- An image in which another slot lies in place of one. Where that one had failed, and what served is live, it is within
-- tolerance.
use Rattle.std.proofs.Common.{◌≡◌, ◌≢◌, ℕ, ◌<◌, List, None, ◌⊎◌, inl, inr, refl, sym, subst, arith, if◌then◌else◌}
use Rattle.std.specs.Prelude.{◌==◌}
use Rattle.std.proofs.lemmas.Bool.{cases_eq, cond-true, cond-false, eq-eqb, ne_eqb}
use Rattle.stair_model.specs.Device.{cell_sector}
use Rattle.stair_model.specs.Geometry.{Geometry, IsWithinLimits}
use Rattle.stair_model.proofs.FirstLaws.{IsKnown}
use Rattle.stair_rack.specs.Crash.{CrashMayLeave, SlotMayLeave}
use Rattle.stair_rack.specs.History.{Happening, slot_state}
use Rattle.stair_rack.specs.Media.{Image, SlotImage}
use Rattle.stair_rack.specs.Sector.{Damaged}
use Rattle.stair_super.specs.Superblock.{Superblock}
use Rattle.stair_super.specs.declared.mark.Mark.TheVariants.{Live}
use Rattle.stair_member.specs.Current.{IsCurrent, IsFailed, IsLive, IsLost, LostPlace, NotLive, Offline, Serves}
use Rattle.stair_member.specs.Reserve.{BearsFor, MayStand}
use Rattle.stair_member.specs.Superblocks.{Counts, CountsFor, Identifies, IsSuperOf}
use Rattle.stair_member.proofs.CountingLemmas.{all_but_mapped, more_from_all_but, more_mapped}
use Rattle.stair_member.proofs.DecisionLemmas.{has_mark_decided, lost_decided}
use Rattle.stair_member.proofs.StandingLemmas.{others, serves_not_failed}
use Rattle.stair_member.proofs.SuperLemmas.{counts_bears, counts_limits}
use Rattle.stair_state.specs.Degraded.{IsDegraded}
use Rattle.stair_state.specs.Tolerance.{IsStripeCovered, IsToleratedAlone, IsWithinTolerance}
use Rattle.stair_state.proofs.DegradedLemmas.{bears_before, degraded_copies}
use Rattle.stair_state.proofs.SeenLemmas.{whole_places}

-- ANOTHER SLOT

abbrev pub with_slot : Image → ℕ → SlotImage → Image
with_slot image j slot i = if i == j then slot else image i

pub slot_here : (image : Image) (j : ℕ) (slot : SlotImage) → with_slot image j slot j ≡ slot
slot_here image j slot = cond-true _ _ _ (eq-eqb j j refl)

pub slot_there : (image : Image) (j : ℕ) (slot : SlotImage) (i : ℕ) → i ≢ j → with_slot image j slot i ≡ image i
slot_there image j slot i other = cond-false _ _ _ (ne_eqb i j other)

pub slot_cases : (P : ℕ → SlotImage → Type 0) (image : Image) (j : ℕ) (slot : SlotImage) (i : ℕ) → P j slot → (i ≢ j → P i (image i))
    → P i (with_slot image j slot i)
slot_cases P image j slot i here there =
    elim (cases_eq i j) [
      | inl same ↦ subst (λ (n : ℕ). P n (with_slot image j slot n)) (sym same) (subst (P j) (sym (slot_here image j slot)) here)
      | inr other ↦ subst (P i) (sym (slot_there image j slot i other)) (there other)
    ]

-- a crash leaves a slot whatever it leaves of the others
pub slot_left : (h : List Happening) (image : Image) (j : ℕ) (slot : SlotImage) → CrashMayLeave h image → SlotMayLeave (slot_state h j) slot
    → CrashMayLeave h (with_slot image j slot)
slot_left h image j slot left here i = slot_cases (λ n s. SlotMayLeave (slot_state h n) s) image j slot i here (λ other. left i)

-- what counts in a slot is told by the slot alone
pub counts_in : (g : Geometry) (a b : Image) (i : ℕ) (s : Superblock) → a i ≡ b i → Counts g a i s → Counts g b i s
counts_in g a b i s same counts = record {
  super = subst (λ (slot : SlotImage). IsSuperOf slot.cell s) same counts.super;
  slot = counts.slot;
  identity = counts.identity;
}

-- WHICH ARRAYS STAND

-- an array that stands may stand
pub stands_may : (g : Geometry) (image : Image) → Identifies g image → MayStand g image
stands_may g image stands =
    more_mapped {P = CountsFor g image} {Q = BearsFor g image}
    (λ i for. record { super = for.super; bears = counts_bears g image i for.super for.counts }) stands

-- where no other array may stand none may in what is degraded
pub others_before : (g : Geometry) (more less : Image) → IsDegraded more less → ((other : Geometry) → MayStand other more → other ≡ g)
    → (other : Geometry) → MayStand other less → other ≡ g
others_before g more less degraded only other may =
    only other
    (more_mapped {P = BearsFor other less} {Q = BearsFor other more}
    (λ i for. record { super = for.super; bears = bears_before (degraded_copies (degraded i)) for.bears }) may)

-- A SLOT THAT HAD FAILED

failed_below : {offline : ℕ → Type 0} {g : Geometry} {image : Image} {current : Superblock} {j : ℕ} → IsFailed offline g image current j → j < g.n
failed_below (NotLive below not) = below
failed_below (LostPlace k below place lost) = below
failed_below (Offline below out) = below

-- a slot below n serves or has failed
pub serves_or_failed : (offline : ℕ → Type 0) (g : Geometry) (image : Image) (current : Superblock) (j : ℕ) → j < g.n → IsKnown (offline j)
    → Serves offline g image current j ⊎ IsFailed offline g image current j
serves_or_failed offline g image current j below known =
    elim (has_mark_decided g image current Live j) [
      | inr not ↦ inr (NotLive below not)
      | inl live ↦
          elim (lost_decided ((image j).cell 0)) [
            | inl lost ↦ inr (LostPlace 0 below (omega arith) lost)
            | inr first ↦
                elim (lost_decided ((image j).cell 1)) [
                  | inl lost ↦ inr (LostPlace 1 below (omega arith) lost)
                  | inr second ↦
                      elim known [
                        | inl out ↦ inr (Offline below out)
                        | inr online ↦ inl (record { live = live; places = whole_places image j first second; online = online })
                      ]
                ]
          ]
    ]

module _ {g : Geometry} {offline : ℕ → Type 0} {last : Image} (after : IsWithinTolerance offline g last) (j : ℕ) (slot : SlotImage)
    (failed : IsFailed offline g last after.current j) where
  abbrev image : Image
  image = with_slot last j slot

  abbrev serves : ℕ → Type 0
  serves i = Serves offline g last after.current i

  pub serves_elsewhere : (i : ℕ) → serves i → i ≢ j
  serves_elsewhere i is at = serves_not_failed g last after.current j (subst serves at is) failed

  pub serves_there : (i : ℕ) → serves i → image i ≡ last i
  serves_there i is = slot_there last j slot i (serves_elsewhere i is)

  -- the array stands
  pub exchanged_stands : Identifies g image
  exchanged_stands =
      let limits : IsWithinLimits g = counts_limits g last after.current.slot after.current after.is_current.counts in
      more_from_all_but {n = g.n} {m = g.m} {P = CountsFor g image} limits.devices.1 limits.majority
      (all_but_mapped {P = serves} {Q = CountsFor g image}
      (λ i below is. record {
        super = is.live.super;
        counts = counts_in g last image i is.live.super (sym (serves_there i is)) is.live.counts;
      }) (others g last after.current after.few))

  -- so it is within tolerance, where no other one may stand and each slot that served is live
  module _ (empty : (i : ℕ) → (last i).size ≡ None → offline i) (known : (i : ℕ) → IsKnown (offline i))
      (only : (other : Geometry) → MayStand other image → other ≡ g) (c : Superblock) (is_current : IsCurrent g image c)
      (lives : (i : ℕ) → serves i → IsLive g image c i) where
    abbrev gone : ℕ → Type 0
    gone i = (image i).size ≡ None

    serves_still : (i : ℕ) → serves i → Serves gone g image c i
    serves_still i is =
        let at : image i ≡ last i = serves_there i is in
        record {
          live = lives i is;
          places = λ k place lost. is.places k place (subst (λ (s : SlotImage). IsLost (s.cell k)) at lost);
          online = λ none. is.online (empty i (subst (λ (s : SlotImage). s.size ≡ None) at none));
        }

    failed_before : (i : ℕ) → IsFailed gone g image c i → IsFailed offline g last after.current i
    failed_before i now =
        elim (serves_or_failed offline g last after.current i (failed_below now) (known i)) [
          | inl is ↦ absurd (serves_not_failed g image c i (serves_still i is) now)
          | inr was ↦ was
        ]

    erased_before : (t i k : ℕ) → IsFailed gone g image c k ⊎ ((image k).cell (cell_sector g t i) ≡ Damaged)
        → IsFailed offline g last after.current k ⊎ ((last k).cell (cell_sector g t i) ≡ Damaged)
    erased_before t i k (inl now) = inl (failed_before k now)
    erased_before t i k (inr harmed) =
        elim (cases_eq k j) [
          | inl at ↦ inl (subst (λ (n : ℕ). IsFailed offline g last after.current n) (sym at) failed)
          | inr other ↦ inr (subst (λ (s : SlotImage). s.cell (cell_sector g t i) ≡ Damaged) (slot_there last j slot k other) harmed)
        ]

    stripe : (t : ℕ) → IsStripeCovered offline g last after.current t → IsStripeCovered gone g image c t
    stripe t covered = record {
      erased = covered.erased;
      covered = covered.covered;
      has = λ i k i_in k_in out. covered.has i k i_in k_in (erased_before t i k out);
    }

    pub exchanged_tolerated : IsToleratedAlone g image
    exchanged_tolerated = record {
      identity = record { stands = exchanged_stands; alone = λ other stands. only other (stands_may other image stands) };
      others = only;
      current = c;
      is_current = is_current;
      few = record {
        slots = after.few.slots;
        formed = after.few.formed;
        few = after.few.few;
        within = λ i now. after.few.within i (failed_before i now);
      };
      stripes = λ t t_in. stripe t (after.stripes t t_in);
      journal_slot = after.journal_slot;
      journal = record {
        serves = serves_still after.journal_slot after.journal.serves;
        whole = λ k from to lost.
            after.journal.whole k from to
            (subst (λ (s : SlotImage). IsLost (s.cell k)) (serves_there after.journal_slot after.journal.serves) lost);
      };
    }
