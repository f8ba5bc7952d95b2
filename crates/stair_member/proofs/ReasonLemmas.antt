-- Why a slot isn't here, by what was found.
use Rattle.std.proofs.Common.{◌≡◌, ◌≢◌, ℕ, ◌+◌, ◌<◌, ◌≤◌, ◌↔◌, inl, inr, refl, sym, ap, subst, ◌∙◌, List, length, length-set, set, get_or-set_other, get_or-set_same, Option, arith}
use Rattle.std.specs.Prelude.{replicate, slice_index_or}
use Rattle.std.proofs.lemmas.Bool.{cases_lt}
use Rattle.std.proofs.lemmas.List.{get_or-replicate, get_or_past, length-replicate}
use Rattle.stair_model.specs.Geometry.{Geometry}
use Rattle.stair_model.specs.Slots.{Slots, HasSlot, IsSlotSet, slot_count}
use Rattle.stair_rack.specs.Media.{Image}
use Rattle.stair_super.specs.Superblock.{Superblock, mark_at, joined_at}
use Rattle.stair_super.specs.declared.mark.Mark.{Mark}
use Rattle.stair_super.specs.declared.mark.Mark.TheVariants as mark
use Rattle.stair_member.specs.Counting.{AtMost, MoreThan}
use Rattle.stair_member.specs.Membership.{IsMarkedFor, IsMissing, Membership, why_of}
use Rattle.stair_member.specs.Reasons.{Applies, IsReason, rank}
use Rattle.stair_member.specs.JudgeSteps.{IsReasonByMark, Shows}
use Rattle.stair_member.specs.Superblocks.{HasSuper, IsSuperOf}
use Rattle.stair_member.specs.declared.why.Why.{Why}
use Rattle.stair_member.specs.declared.why.Why.TheVariants.{Here, Gone, NoSuper, OtherArray, OtherSlot, MarkedDown, OtherJoined, Rebuilding}
use Rattle.stair_member.proofs.JudgeLemmas.{below_or_last}
use Rattle.stair_member.proofs.SuperLemmas.{one_super, super_held}

rank_most : (why : Why) → rank why ≤ 7
rank_most Gone = omega arith
rank_most NoSuper = omega arith
rank_most OtherArray = omega arith
rank_most OtherSlot = omega arith
rank_most MarkedDown = omega arith
rank_most OtherJoined = omega arith
rank_most Rebuilding = omega arith
rank_most Here = omega arith

pub live_unless : (m : Mark) → m ≢ mark.Down → m ≢ mark.Rebuilding → m ≡ mark.Live
live_unless mark.Live up done = refl
live_unless mark.Rebuilding up done = absurd (done refl)
live_unless mark.Down up done = absurd (up refl)

module _ (gone : ℕ → Type 0) (g : Geometry) (image : Image) (current : Superblock) (j : ℕ) where
  -- no reason before this one applies
  none_before : (why : Why) → (0 < rank why → ¬ gone j) → (1 < rank why → HasSuper ((image j).cell))
      → (2 < rank why → (s : Superblock) → IsSuperOf ((image j).cell) s → s.array.geometry ≡ g)
      → (3 < rank why → (s : Superblock) → IsSuperOf ((image j).cell) s → s.slot ≡ j) → (4 < rank why → mark_at current j ≢ mark.Down)
      → (5 < rank why → (s : Superblock) → IsSuperOf ((image j).cell) s → s.joined ≡ joined_at current j)
      → (6 < rank why → mark_at current j ≢ mark.Rebuilding) → (other : Why) → rank other < rank why → ¬ Applies gone g image current j other
  none_before why here has same slot up joined live Gone lt is = here lt is
  none_before why here has same slot up joined live NoSuper lt is = is (has lt)
  none_before why here has same slot up joined live OtherArray lt is = is.2 (same lt is.0 is.1)
  none_before why here has same slot up joined live OtherSlot lt is = is.2 (slot lt is.0 is.1)
  none_before why here has same slot up joined live MarkedDown lt is = up lt is
  none_before why here has same slot up joined live OtherJoined lt is = is.2 (joined lt is.0 is.1)
  none_before why here has same slot up joined live Rebuilding lt is = live lt is
  none_before why here has same slot up joined live Here lt is = omega (arith, rank_most why, lt)

  -- what has a superblock
  module _ (here : ¬ gone j) (s : Superblock) (of : IsSuperOf ((image j).cell) s) where
    each_same : {A : Type 0} (f : Superblock → A) (a : A) → f s ≡ a → (t : Superblock) → IsSuperOf ((image j).cell) t → f t ≡ a
    each_same f a is t other = ap f (one_super ((image j).cell) t s other of) ∙ is

    pub reason_other_array : s.array.geometry ≢ g → IsReason gone g image current j OtherArray
    reason_other_array other = record {
      applies = (s, of, other);
      first =
          none_before OtherArray (λ lt. here) (λ lt. super_held ((image j).cell) s of) (λ lt. absurd (omega arith)) (λ lt. absurd (omega arith))
          (λ lt. absurd (omega arith)) (λ lt. absurd (omega arith)) (λ lt. absurd (omega arith));
    }

    module _ (same : s.array.geometry ≡ g) where
      pub reason_other_slot : s.slot ≢ j → IsReason gone g image current j OtherSlot
      reason_other_slot other = record {
        applies = (s, of, other);
        first =
            none_before OtherSlot (λ lt. here) (λ lt. super_held ((image j).cell) s of)
            (λ lt. each_same (λ (t : Superblock). t.array.geometry) g same)
            (λ lt. absurd (omega arith)) (λ lt. absurd (omega arith)) (λ lt. absurd (omega arith)) (λ lt. absurd (omega arith));
      }

      -- of a slot that counts for the array
      pub reason_counting : (why : Why) → s.slot ≡ j → IsReasonByMark s current j why → IsReason gone g image current j why
      reason_counting MarkedDown slot is = record {
        applies = is;
        first =
            none_before MarkedDown (λ lt. here) (λ lt. super_held ((image j).cell) s of)
            (λ lt. each_same (λ (t : Superblock). t.array.geometry) g same)
            (λ lt. each_same (λ (t : Superblock). t.slot) j slot) (λ lt. absurd (omega arith)) (λ lt. absurd (omega arith))
            (λ lt. absurd (omega arith));
      }
      reason_counting OtherJoined slot is = record {
        applies = (s, of, is.1);
        first =
            none_before OtherJoined (λ lt. here) (λ lt. super_held ((image j).cell) s of)
            (λ lt. each_same (λ (t : Superblock). t.array.geometry) g same)
            (λ lt. each_same (λ (t : Superblock). t.slot) j slot) (λ lt. is.0) (λ lt. absurd (omega arith)) (λ lt. absurd (omega arith));
      }
      reason_counting Rebuilding slot is = record {
        applies = is.0;
        first =
            none_before Rebuilding (λ lt. here) (λ lt. super_held ((image j).cell) s of)
            (λ lt. each_same (λ (t : Superblock). t.array.geometry) g same)
            (λ lt. each_same (λ (t : Superblock). t.slot) j slot) (λ lt down. absurd (let e = is.0 in cc))
            (λ lt. each_same (λ (t : Superblock). t.joined) (joined_at current j) is.1) (λ lt. absurd (omega arith));
      }
      reason_counting Here slot is = record {
        applies = tt;
        first =
            none_before Here (λ lt. here) (λ lt. super_held ((image j).cell) s of) (λ lt. each_same (λ (t : Superblock). t.array.geometry) g same)
            (λ lt. each_same (λ (t : Superblock). t.slot) j slot) (λ lt down. absurd (let e = is.0 in cc))
            (λ lt. each_same (λ (t : Superblock). t.joined) (joined_at current j) is.1) (λ lt rebuilt. absurd (let e = is.0 in cc));
      }
      reason_counting Gone slot is = absurd is
      reason_counting NoSuper slot is = absurd is
      reason_counting OtherArray slot is = absurd is
      reason_counting OtherSlot slot is = absurd is

  -- the mark that goes with a reason
  pub marked_for : (why : Why) → IsReason gone g image current j why → IsMarkedFor why (mark_at current j)
  marked_for Here is = live_unless (mark_at current j) (is.first MarkedDown (omega arith)) (is.first Rebuilding (omega arith))
  marked_for Rebuilding is = is.applies
  marked_for Gone is = tt
  marked_for NoSuper is = tt
  marked_for OtherArray is = tt
  marked_for OtherSlot is = tt
  marked_for MarkedDown is = tt
  marked_for OtherJoined is = tt

-- ---- the reasons of all slots

-- the reasons of the slots below i, and no others
pub record AreReasonsBelow (found : List (Option Superblock)) (gone : Slots) (current : Superblock) (i : ℕ) (whys : List Why) : Type 0 where
  pub each : (image : Image) → Shows found image → (j : ℕ) → j < i
      → IsReason (HasSlot gone) current.array.geometry image current j (slice_index_or whys j Here)
  pub absent : (j : ℕ) → i ≤ j → slice_index_or whys j Here ≡ Here
  pub size : length whys ≡ 32

pub reasons_none : (found : List (Option Superblock)) (gone : Slots) (current : Superblock) → AreReasonsBelow found gone current 0 (replicate 32 Here)
reasons_none found gone current =
    record { each = λ image shows j below. absurd (omega arith); absent = λ j least. here_at j 32; size = length-replicate {A = Why} 32 Here }
  where
    here_at : (j n : ℕ) → slice_index_or (replicate n Here) j Here ≡ Here
    here_at j n =
        elim (cases_lt j n) [
          | inl below ↦ get_or-replicate n j Here Here below
          | inr past ↦ get_or_past (replicate n Here) j Here (omega (arith, length-replicate {A = Why} n Here))
        ]

pub reasons_more : (found : List (Option Superblock)) (gone : Slots) (current : Superblock) (i : ℕ) (whys : List Why) (why : Why) → i < 32
    → AreReasonsBelow found gone current i whys
    → ((image : Image) → Shows found image → IsReason (HasSlot gone) current.array.geometry image current i why)
    → AreReasonsBelow found gone current (i + 1) (set whys i why)
reasons_more found gone current i whys why below_all before here = record { each = each; absent = absent; size = length-set whys i why ∙ before.size }
  where
    few : i < length whys
    few = omega (arith, before.size)

    each : (image : Image) → Shows found image → (j : ℕ) → j < i + 1
        → IsReason (HasSlot gone) current.array.geometry image current j (slice_index_or (set whys i why) j Here)
    each image shows j below =
        elim (below_or_last i j below) [
          | inl less ↦
              let other : j ≢ i = omega arith in
              subst (λ (w : Why). IsReason (HasSlot gone) current.array.geometry image current j w) (sym (get_or-set_other whys i j why Here other))
              (before.each image shows j less)
          | inr same ↦
              subst (λ (k : ℕ). IsReason (HasSlot gone) current.array.geometry image current k (slice_index_or (set whys i why) k Here)) (sym same)
              (subst (λ (w : Why). IsReason (HasSlot gone) current.array.geometry image current i w) (sym (get_or-set_same whys i why Here few))
              (here image shows))
        ]

    absent : (j : ℕ) → i + 1 ≤ j → slice_index_or (set whys i why) j Here ≡ Here
    absent j least =
        let other : j ≢ i = omega arith in
        get_or-set_other whys i j why Here other ∙ before.absent j (omega arith)

-- ---- what of a slot isn't live

module _ (m : Membership) (set : Slots) (formed : IsSlotSet set) (members : (j : ℕ) → HasSlot set j ↔ (why_of m j ≢ Here))
    (absent : (j : ℕ) → m.array.geometry.n ≤ j → why_of m j ≡ Here) where
  missing_below : (j : ℕ) → HasSlot set j → IsMissing m j
  missing_below j has =
      let why = (members j).0 has in
      record {
        below = elim (cases_lt j m.array.geometry.n) [ inl below ↦ below | inr past ↦ absurd (why (absent j past)) ];
        why = why;
      }

  pub few_missing : slot_count set ≤ m.array.geometry.m → AtMost m.array.geometry.m (IsMissing m)
  few_missing few = record { slots = set; formed = formed; few = few; within = λ j missing. (members j).1 missing.why }

  pub many_missing : m.array.geometry.m < slot_count set → MoreThan m.array.geometry.m (IsMissing m)
  many_missing many = record { slots = set; formed = formed; many = many; each = missing_below }
