-- What right bodies leave of the histories in which an epoch was raised: it stands on all slots but one, and the array of zeros is
-- consistent so.
use Rattle.std.proofs.Common.{◌≡◌, ◌≢◌, ℕ, zero, suc, ◌<◌, ◌≤◌, [], ◌∷◌, inl, inr, refl, sym, ap, ◌∙◌, subst, arith, Some, None, false, true, replicate}
use Rattle.std.specs.Prelude.{slice_index_or}
use Rattle.std.proofs.lemmas.Bool.{cases_eq, cases_lt, cond-false, le-ltb, ne_eqb}
use Rattle.stair_model.specs.Slots.{HasSlot, IsSlotSet, Slots, slot_count}
use Rattle.stair_model.specs.Sum.{sum_below}
use Rattle.stair_rack.specs.Media.{Image, Medium, SlotImage}
use Rattle.stair_rack.specs.Sector.{Cell, Damaged, Good}
use Rattle.stair_super.specs.Spelling.{spelled}
use Rattle.stair_super.specs.Superblock.{IsSuperblock, joined_in, mark_in}
use Rattle.stair_super.specs.declared.mark.Mark.{Mark}
use Rattle.stair_super.specs.declared.mark.Mark.TheVariants.{Down, Live, Rebuilding}
use Rattle.stair_member.specs.Editions.{Edition, copy_of}
use Rattle.stair_state.specs.Blocks.{AreEncodingsOf, Codewords, zero_blocks}
use Rattle.stair_state.specs.Reassembly.{InSlot, IsMediumOf, Location, Outside}
use Rattle.stair_state.proofs.AloneLemmas.{IsImageTidy}
use Rattle.stair_reinsert.specs.Misled.{device_cell, device_of, five}
use Rattle.stair_reinsert_examples.specs.Refused.{IsAllowed, all_live, drawn, dropped, fence_on_first, first_pulled, put_back, replaced}
use Rattle.stair_reinsert_examples.proofs.FiveConsistent.{inside, made_tidy}
use Rattle.stair_reinsert_examples.proofs.FiveDevices.{chunk_cell, gate_cell, place_cell}
use Rattle.stair_reinsert_examples.proofs.FiveStood.{HasBoth, HasStood, IsAtRest, stood_consistent}
use Rattle.stair_reinsert_examples.proofs.FiveSupers.{named_super}
use Rattle.stair_reinsert_examples.proofs.FiveSurvey.{five_cases, past_five}
use Rattle.stair_reinsert_examples.proofs.RefusedEpochs.{device_tidy}
use Rattle.stair_reinsert_examples.proofs.RefusedLemmas.{IsDeviceOf, IsTidySlot, first_pulled_lies, first_pulled_tidy, none_some}

live_up : Live ≢ Down
live_up same = cc

live_built : Live ≢ Rebuilding
live_built same = cc

down_built : Down ≢ Rebuilding
down_built same = cc

-- DEVICES

-- a device with these superblocks and these cells, in a slot or outside
both_there : (words : Codewords) (editions : ℕ → Edition) (e : Edition) (j : ℕ) (m : Medium) → j < 5 → editions j ≡ e → IsSuperblock (copy_of e j)
    → e.array.geometry ≡ five → m.cell ≡ device_cell words editions j → HasBoth m e j
both_there words editions e j m below is formed geometry cells = record {
  below = below;
  formed = formed;
  of_five = geometry;
  places = λ k place.
      subst (λ (x : Edition). m.cell k ≡ Good (spelled (copy_of x j))) is
      (ap (λ (c : ℕ → Cell). c k) cells ∙ place_cell words editions j k place);
}

rest_there : (words : Codewords) (editions : ℕ → Edition) (e : Edition) (j : ℕ) (p : Location) (m : Medium) → p ≡ InSlot → m.size ≡ 9
    → m.cell ≡ device_cell words editions j → HasBoth m e j → IsAtRest words e j p m
rest_there words editions e j p m place size cells both = record {
  place = place;
  both = both;
  size = size;
  gate = ap (λ (c : ℕ → Cell). c 2) cells ∙ gate_cell words editions j;
  chunk = ap (λ (c : ℕ → Cell). c 8) cells ∙ chunk_cell words editions j;
}

-- WITH A DRAW

abbrev pub only_first : Slots
only_first = record { marks = true ∷ false ∷ false ∷ false ∷ false ∷ replicate 27 false }

pub few_first : slot_count only_first ≤ 2
unfolding sum_below
few_first = let one : slot_count only_first ≡ 1 = refl in omega (arith, one)

pub has_first : HasSlot only_first 0
has_first = refl

pub first_formed : IsSlotSet only_first
first_formed = refl

first_super : IsSuperblock (copy_of fence_on_first 0)
first_super =
    named_super 5 Live Live Live Live Down 1 1 1 1 0 (omega arith) (omega arith, omega arith) (omega arith, omega arith) (omega arith, omega arith)
    (omega arith, omega arith) refl 5 0 (omega arith) (omega arith) (omega arith) live_up

drawn_super : (j : ℕ) → j < 5 → mark_in (drawn 1).array j ≢ Down → IsSuperblock (copy_of (drawn 1) j)
drawn_super j below up =
    named_super 6 Down Live Live Live Live 0 1 1 1 1 (omega arith) refl (omega arith, omega arith) (omega arith, omega arith)
    (omega arith, omega arith) (omega arith, omega arith) 6 j (omega arith) (omega arith) below up

drawn_supers : (j : ℕ) → j < 5 → j ≢ 0 → IsSuperblock (copy_of (drawn 1) j)
drawn_supers =
    five_cases (λ j. j < 5 → j ≢ 0 → IsSuperblock (copy_of (drawn 1) j)) (λ b other. absurd (other refl)) (λ b other. drawn_super 1 b live_up)
    (λ b other. drawn_super 2 b live_up) (λ b other. drawn_super 3 b live_up) (λ b other. drawn_super 4 b live_up)
    (λ j past below other. absurd (omega (arith, past, below)))

pub past_down : (a b c d e : Mark) (j : ℕ) → 5 ≤ j → slice_index_or (a ∷ b ∷ c ∷ d ∷ e ∷ replicate 27 Down) j Down ≢ Rebuilding
past_down a b c d e j past same = down_built (sym (past_five a b c d e Down j past) ∙ same)

module _ (words : Codewords) where
  abbrev first_rack : Image
  first_rack = first_pulled (device_of words drawn)

  drawn_stood : HasStood words first_rack (drawn 1) 0 (λ p. fence_on_first)
  drawn_stood = record {
    tidy = first_pulled_tidy (device_of words drawn) (device_tidy words drawn);
    kept = λ j p m other is. kept j p m other (first_pulled_lies (device_of words drawn) j p m is);
    old = λ p m is.
        let lies = first_pulled_lies (device_of words drawn) 0 p m is in
        both_there words drawn fence_on_first 0 m (omega arith) refl first_super refl lies.cells;
    earlier = λ p m is. omega arith;
    one = λ p q m n is also same. refl;
    apart = λ p q m n is also same.
        let first = first_pulled_lies (device_of words drawn) 0 p m is in
        let second = first_pulled_lies (device_of words drawn) 0 q n also in
        first.place ∙ sym second.place;
    drawn = omega arith;
    down = refl;
    none_rebuilt =
        five_cases (λ j. mark_in (drawn 1).array j ≢ Rebuilding) down_built live_built live_built live_built live_built (past_down Down Live Live Live Live);
    frozen = refl;
    label = refl;
  }
    where
      kept : (j : ℕ) (p : Location) (m : Medium) → j ≢ 0 → IsDeviceOf (device_of words drawn) j p m → IsAtRest words (drawn 1) j p m
      kept j p m other lies =
          let above : 1 ≤ j = elim (cases_lt j 1) [ inl first ↦ absurd (other (omega (arith, first))) | inr rest ↦ rest ] in
          let below : j < 5 = lies.below in
          rest_there words drawn (drawn 1) j p m (lies.place ∙ cond-false _ _ _ (le-ltb j 1 above)) lies.size lies.cells
          (both_there words drawn (drawn 1) j m below (cond-false _ _ _ (le-ltb j 1 above)) (drawn_supers j below other) refl lies.cells)

  pub drawn_allowed : AreEncodingsOf five zero_blocks words → IsAllowed first_rack
  drawn_allowed encoded = stood_consistent words first_rack (drawn 1) 0 (λ p. fence_on_first) encoded drawn_stood only_first first_formed few_first has_first

-- BY ITS JOINED NUMBER

abbrev only_fourth : Slots
only_fourth = record { marks = false ∷ false ∷ false ∷ true ∷ false ∷ replicate 27 false }

few_fourth : slot_count only_fourth ≤ 2
unfolding sum_below
few_fourth = let one : slot_count only_fourth ≡ 1 = refl in omega (arith, one)

has_fourth : HasSlot only_fourth 3
has_fourth = refl

fourth_formed : IsSlotSet only_fourth
fourth_formed = refl

replaced_super : IsSuperblock (copy_of replaced 3)
replaced_super =
    named_super 7 Live Live Live Live Live 1 1 1 6 1 (omega arith) (omega arith, omega arith) (omega arith, omega arith) (omega arith, omega arith)
    (omega arith, omega arith) (omega arith, omega arith) 7 3 (omega arith) (omega arith) (omega arith) live_up

live_super : IsSuperblock (copy_of all_live 3)
live_super =
    named_super 4 Live Live Live Live Live 1 1 1 1 1 (omega arith) (omega arith, omega arith) (omega arith, omega arith) (omega arith, omega arith)
    (omega arith, omega arith) (omega arith, omega arith) 4 3 (omega arith) (omega arith) (omega arith) live_up

dropped_super : (j : ℕ) → j < 5 → mark_in (dropped 0).array j ≢ Down → IsSuperblock (copy_of (dropped 0) j)
dropped_super j below up =
    named_super 8 Live Live Live Down Live 1 1 1 0 1 (omega arith) (omega arith, omega arith) (omega arith, omega arith) (omega arith, omega arith)
    refl (omega arith, omega arith) 8 j (omega arith) (omega arith) below up

dropped_supers : (j : ℕ) → j < 5 → j ≢ 3 → IsSuperblock (copy_of (dropped 0) j)
dropped_supers =
    five_cases (λ j. j < 5 → j ≢ 3 → IsSuperblock (copy_of (dropped 0) j)) (λ b other. dropped_super 0 b live_up) (λ b other. dropped_super 1 b live_up)
    (λ b other. dropped_super 2 b live_up) (λ b other. absurd (other refl)) (λ b other. dropped_super 4 b live_up)
    (λ j past below other. absurd (omega (arith, past, below)))

-- what slot 3's media have of superblocks
abbrev of_fourth : Location → Edition
of_fourth InSlot = all_live
of_fourth (Outside i) = replaced

module _ (before now : Codewords) where
  abbrev back : Image
  back = put_back before now dropped

  back_tidy : IsImageTidy back
  back_tidy j =
      elim (cases_eq j 3) [
        | inl same ↦ subst (λ (i : ℕ). IsTidySlot (back i)) (sym same) (device_tidy before dropped 3)
        | inr other ↦ subst IsTidySlot (sym (cond-false _ _ _ (ne_eqb j 3 other))) (made_tidy now dropped j)
      ]

  kept_back : (j : ℕ) (p : Location) (m : Medium) → j ≢ 3 → IsMediumOf (back j) p m → IsAtRest now (dropped 0) j p m
  kept_back j p m other is =
      elim (cases_lt j 5) [
        | inl below ↦
            by below p
            (subst (λ (slot : SlotImage). IsMediumOf slot p m) (cond-false _ _ _ (ne_eqb j 3 other) ∙ inside now dropped j below) is)
        | inr past ↦
            absurd
            (bare p
            (subst (λ (slot : SlotImage). IsMediumOf slot p m) (cond-false _ _ _ (ne_eqb j 3 other) ∙ cond-false _ _ _ (le-ltb j 5 past)) is))
      ]
    where
      by : j < 5 → (q : Location) → IsMediumOf (record { size = Some 9; cell = device_cell now dropped j; removed = [] }) q m → IsAtRest now (dropped 0) j q m
      by below InSlot there =
          let size : m.size ≡ 9 = let same = there.0 in cc in
          rest_there now dropped (dropped 0) j InSlot m refl size (sym there.1)
          (both_there now dropped (dropped 0) j m below (cond-false _ _ _ (ne_eqb j 3 other)) (dropped_supers j below other) refl (sym there.1))
      by below (Outside i) there = absurd (none_some there)

      bare : (q : Location) → ¬ IsMediumOf (record { size = None; cell = λ k. Damaged; removed = [] }) q m
      bare InSlot there = none_some there.0
      bare (Outside i) there = none_some there

  -- the two media of slot 3
  old_back : (p : Location) (m : Medium) → IsMediumOf (back 3) p m → HasBoth m (of_fourth p) 3
  old_back InSlot m is = both_there before dropped all_live 3 m (omega arith) refl live_super refl (sym is.1)
  old_back (Outside zero) m is =
      let same : device_of now (λ k. replaced) 3 ≡ m = cc in
      both_there now (λ k. replaced) replaced 3 m (omega arith) refl replaced_super refl (sym (ap (λ (x : Medium). x.cell) same))
  old_back (Outside (suc i)) m is = absurd (none_some is)

  earlier_back : (p : Location) (m : Medium) → IsMediumOf (back 3) p m → (of_fourth p).array.epoch < 8
  earlier_back InSlot m is = omega arith
  earlier_back (Outside i) m is = omega arith

  one_back : (p q : Location) → (of_fourth p).array.epoch ≡ (of_fourth q).array.epoch → (of_fourth p).array ≡ (of_fourth q).array
  one_back InSlot InSlot same = refl
  one_back InSlot (Outside i) same = absurd (omega (arith, same))
  one_back (Outside i) InSlot same = absurd (omega (arith, same))
  one_back (Outside i) (Outside k) same = refl

  apart_back : (p q : Location) (m n : Medium) → IsMediumOf (back 3) p m → IsMediumOf (back 3) q n
      → joined_in (of_fourth p).array 3 ≡ joined_in (of_fourth q).array 3 → p ≡ q
  apart_back InSlot InSlot m n is also same = refl
  apart_back InSlot (Outside i) m n is also same = absurd (omega (arith, same))
  apart_back (Outside i) InSlot m n is also same = absurd (omega (arith, same))
  apart_back (Outside zero) (Outside zero) m n is also same = refl
  apart_back (Outside zero) (Outside (suc k)) m n is also same = absurd (none_some also)
  apart_back (Outside (suc i)) (Outside k) m n is also same = absurd (none_some is)

  dropped_stood : HasStood now back (dropped 0) 3 of_fourth
  dropped_stood = record {
    tidy = back_tidy;
    kept = kept_back;
    old = old_back;
    earlier = earlier_back;
    one = λ p q m n is also same. one_back p q same;
    apart = apart_back;
    drawn = omega arith;
    down = refl;
    none_rebuilt =
        five_cases (λ j. mark_in (dropped 0).array j ≢ Rebuilding) live_built live_built live_built down_built live_built
        (past_down Live Live Live Down Live);
    frozen = refl;
    label = refl;
  }

  pub dropped_allowed : AreEncodingsOf five zero_blocks now → IsAllowed back
  dropped_allowed encoded = stood_consistent now back (dropped 0) 3 of_fourth encoded dropped_stood only_fourth fourth_formed few_fourth has_fourth
