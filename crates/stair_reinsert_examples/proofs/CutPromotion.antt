-- The first history: a promotion was cut, and while the rack is looked at two devices are pulled and put back, one after the other.
use Rattle.std.proofs.Common.{◌≡◌, ◌≢◌, ℕ, ◌<◌, ◌≤◌, List, [], ◌∷◌, ◌⊎◌, inl, inr, refl, sym, ap, ◌∙◌, subst, arith, Some, false, true, replicate}
use Rattle.std.proofs.lemmas.Bool.{cases_lt, cond-true, cond-false, false≢true, lt-ltb, le-ltb}
use Rattle.stair_model.specs.Slots.{HasSlot, Slots, no_slots, slot_count}
use Rattle.stair_model.specs.Sum.{sum_below}
use Rattle.stair_model.proofs.SetLaws.{has_slot-none, slot_count_none}
use Rattle.stair_rack.specs.History.{Acted, Attach, Called, Happening, InsertedOld, Pulled, SlotAct, slot_state}
use Rattle.stair_rack.specs.Moments.{AtEveryMoment, IsMoment}
use Rattle.stair_rack.specs.declared.rack.Reply.TheVariants.{Gone}
use Rattle.stair_rack.proofs.MomentLemmas.{at_every_join}
use Rattle.stair_super.specs.Superblock.{IsSuperblock, joined_in, mark_in}
use Rattle.stair_super.specs.declared.mark.Mark.TheVariants.{Down, Live, Rebuilding}
use Rattle.stair_member.specs.Editions.{Edition, copy_of}
use Rattle.stair_state.specs.Blocks.{Codewords}
use Rattle.stair_state.specs.Holding.{CurrentMedia}
use Rattle.stair_state.specs.Tolerance.{IsTolerated}
use Rattle.stair_reinsert.specs.Counted.{IsToleratedCounted}
use Rattle.stair_reinsert.specs.Misled.{cut_promotion, device_of, empty_after, five, looked_at, made_of, one_after_the_other}
use Rattle.stair_reinsert.specs.Still.{IsStill}
use Rattle.stair_reinsert_examples.proofs.FiveConsistent.{IsCut}
use Rattle.stair_reinsert_examples.proofs.FiveCounted.{Stands, each_act, each_still, stands_still, counted as counted_throughout, tolerated_at as tolerated_throughout}
use Rattle.stair_reinsert_examples.proofs.FiveDevices.{AreEditions}
use Rattle.stair_reinsert_examples.proofs.FiveMoments.{GoesOn, HoldsDevice, back_holds, goes_back, goes_made, goes_pulled, made_holds, not_both}
use Rattle.stair_reinsert_examples.proofs.FiveSupers.{call_still, look_still, named_super, past_none}
use Rattle.stair_reinsert_examples.proofs.FiveSurvey.{empty_still, five_cases}

-- slots 0 and 1 are gone at some time
abbrev pub failed : Slots
failed = record { marks = true ∷ true ∷ false ∷ false ∷ false ∷ replicate 27 false }

abbrev pub stand : Slots
stand = record { marks = false ∷ false ∷ true ∷ true ∷ true ∷ replicate 27 false }

pub few_failed : slot_count failed ≤ 2
unfolding sum_below
few_failed = let two : slot_count failed ≡ 2 = refl in omega (arith, two)

pub many_stand : 2 < slot_count stand
unfolding sum_below
many_stand = let three : slot_count stand ≡ 3 = refl in omega (arith, three)

pub stand_kept : (j : ℕ) → HasSlot stand j → (j < 5) × ¬ HasSlot failed j
stand_kept =
    five_cases (λ j. HasSlot stand j → (j < 5) × ¬ HasSlot failed j) (λ has. absurd (false≢true has)) (λ has. absurd (false≢true has))
    (λ has. (omega arith, λ out. false≢true out)) (λ has. (omega arith, λ out. false≢true out)) (λ has. (omega arith, λ out. false≢true out))
    (λ j past has. absurd (false≢true (sym (past_none false false true true true j past) ∙ has)))

-- THE SUPERBLOCKS

new_edition : (j : ℕ) → j < 2 → cut_promotion j ≡ cut_promotion 0
new_edition j below = cond-true _ _ _ (lt-ltb j 2 below)

pub old_edition : (j : ℕ) → 2 ≤ j → cut_promotion j ≡ cut_promotion 2
old_edition j above = cond-false _ _ _ (le-ltb j 2 above)

live_up : Live ≢ Down
live_up same = cc

rebuilding_up : Rebuilding ≢ Down
rebuilding_up same = cc

formed_new : (j : ℕ) → j < 5 → mark_in (cut_promotion 0).array j ≢ Down → IsSuperblock (copy_of (cut_promotion 0) j)
formed_new j below up =
    named_super 5 Live Live Live Live Live 1 1 1 2 1 (omega arith) (omega arith, omega arith) (omega arith, omega arith) (omega arith, omega arith)
    (omega arith, omega arith) (omega arith, omega arith) 5 j (omega arith) (omega arith) below up

formed_old : (j : ℕ) → j < 5 → mark_in (cut_promotion 2).array j ≢ Down → IsSuperblock (copy_of (cut_promotion 2) j)
formed_old j below up =
    named_super 4 Live Live Live Rebuilding Live 1 1 1 2 1 (omega arith) (omega arith, omega arith) (omega arith, omega arith)
    (omega arith, omega arith) (omega arith, omega arith) (omega arith, omega arith) 5 j (omega arith) (omega arith) below up

module _ (words : Codewords) where
  pub are : AreEditions words cut_promotion
  are = record {
    formed =
        five_cases (λ j. j < 5 → IsSuperblock (copy_of (cut_promotion j) j)) (λ b. formed_new 0 b live_up) (λ b. formed_new 1 b live_up)
        (λ b. formed_old 2 b live_up) (λ b. formed_old 3 b rebuilding_up) (λ b. formed_old 4 b live_up)
        (λ j past below. absurd (omega (arith, past, below)));
    of_five =
        five_cases (λ j. j < 5 → (cut_promotion j).array.geometry ≡ five) (λ b. refl) (λ b. refl) (λ b. refl) (λ b. refl) (λ b. refl)
        (λ j past below. absurd (omega (arith, past, below)));
  }

  -- IT IS CONSISTENT

  abbrev pub current_media : CurrentMedia
  current_media j = Some (joined_in (cut_promotion 0).array j)

  pub epochs : (j : ℕ) → (4 ≤ (cut_promotion j).array.epoch) × ((cut_promotion j).array.epoch ≤ 5) × ((cut_promotion j).draw ≡ 5)
  epochs j =
      elim (cases_lt j 2) [
        | inl below ↦
            subst (λ (x : Edition). (4 ≤ x.array.epoch) × (x.array.epoch ≤ 5) × (x.draw ≡ 5)) (sym (new_edition j below)) (omega arith, omega arith, refl)
        | inr above ↦
            subst (λ (x : Edition). (4 ≤ x.array.epoch) × (x.array.epoch ≤ 5) × (x.draw ≡ 5)) (sym (old_edition j above)) (omega arith, omega arith, refl)
      ]

  pub plain : (j : ℕ) → ((cut_promotion j).array.frozen ≡ false) × ((cut_promotion j).array.label ≡ [])
      × ((i : ℕ) → joined_in (cut_promotion j).array i ≡ joined_in (cut_promotion 0).array i)
  plain j =
      elim (cases_lt j 2) [
        | inl below ↦
            subst (λ (x : Edition). (x.array.frozen ≡ false) × (x.array.label ≡ []) × ((i : ℕ) → joined_in x.array i ≡ joined_in (cut_promotion 0).array i))
            (sym (new_edition j below)) (refl, refl, λ i. refl)
        | inr above ↦
            subst (λ (x : Edition). (x.array.frozen ≡ false) × (x.array.label ≡ []) × ((i : ℕ) → joined_in x.array i ≡ joined_in (cut_promotion 0).array i))
            (sym (old_edition j above)) (refl, refl, λ i. refl)
      ]

  one : (i j : ℕ) → (cut_promotion i).array.epoch ≡ (cut_promotion j).array.epoch → (cut_promotion i).array ≡ (cut_promotion j).array
  one i j same =
      elim (cases_lt i 2) [
        | inl below ↦
            elim (cases_lt j 2) [
              | inl also ↦ ap (λ (x : Edition). x.array) (new_edition i below ∙ sym (new_edition j also))
              | inr other ↦
                  absurd
                  (omega (
                    arith,
                    sym (ap (λ (x : Edition). x.array.epoch) (new_edition i below)) ∙ same ∙ ap (λ (x : Edition). x.array.epoch) (old_edition j other),
                  ))
            ]
        | inr above ↦
            elim (cases_lt j 2) [
              | inl other ↦
                  absurd
                  (omega (
                    arith,
                    sym (ap (λ (x : Edition). x.array.epoch) (old_edition i above)) ∙ same ∙ ap (λ (x : Edition). x.array.epoch) (new_edition j other),
                  ))
              | inr also ↦ ap (λ (x : Edition). x.array) (old_edition i above ∙ sym (old_edition j also))
            ]
      ]

  pub cut : IsCut words cut_promotion current_media 4
  cut = record {
    least = λ j below. (epochs j).0;
    drawn = record {
      exceptions = no_slots;
      formed = refl;
      few = omega (arith, slot_count_none no_slots (λ j small has. false≢true (sym (has_slot-none j) ∙ has)));
      others = λ j below out i i_in. omega (arith, (epochs i).1, (epochs j).2);
    };
    held = λ i j below up. ap Some (sym ((plain i).2 j));
    frozen = λ j below. (plain j).0;
    label = λ j below. (plain j).1;
    one = λ i j i_in j_in same. one i j same;
  }

  -- ITS MOMENTS

  abbrev pub h0 : List Happening
  h0 = made_of words cut_promotion

  abbrev pub h1 : List Happening
  h1 = Acted 0 (Pulled (device_of words cut_promotion 0)) ∷ h0

  abbrev pub h2 : List Happening
  h2 = Called 0 (Attach Gone) ∷ h1

  abbrev pub h3 : List Happening
  h3 = Acted 0 (InsertedOld 0) ∷ h2

  abbrev pub h4 : List Happening
  h4 = Acted 1 (Pulled (device_of words cut_promotion 1)) ∷ h3

  abbrev pub h5 : List Happening
  h5 = Called 1 (Attach Gone) ∷ h4

  abbrev pub h6 : List Happening
  h6 = Acted 1 (InsertedOld 0) ∷ h5

  abbrev pub h7 : List Happening
  h7 = looked_at 2 h6

  abbrev pub h8 : List Happening
  h8 = looked_at 3 h7

  abbrev pub h9 : List Happening
  h9 = looked_at 4 h8

  newest_first : (j : ℕ) → j < 5 → ((cut_promotion j).array.epoch < 5) ⊎ (((cut_promotion j).array.epoch ≡ 5) × (0 ≤ j))
  newest_first =
      five_cases (λ j. j < 5 → ((cut_promotion j).array.epoch < 5) ⊎ (((cut_promotion j).array.epoch ≡ 5) × (0 ≤ j))) (λ b. inr (refl, omega arith))
      (λ b. inr (refl, omega arith)) (λ b. inl (omega arith)) (λ b. inl (omega arith)) (λ b. inl (omega arith))
      (λ j past below. absurd (omega (arith, past, below)))

  newest_second : (j : ℕ) → j < 5 → ¬ (j ≡ 0) → ((cut_promotion j).array.epoch < 5) ⊎ (((cut_promotion j).array.epoch ≡ 5) × (1 ≤ j))
  newest_second =
      five_cases (λ j. j < 5 → ¬ (j ≡ 0) → ((cut_promotion j).array.epoch < 5) ⊎ (((cut_promotion j).array.epoch ≡ 5) × (1 ≤ j)))
      (λ b other. absurd (other refl)) (λ b other. inr (refl, omega arith)) (λ b other. inl (omega arith)) (λ b other. inl (omega arith))
      (λ b other. inl (omega arith)) (λ j past below. absurd (omega (arith, past, below)))

  live_first : (j : ℕ) → j < 5 → mark_in (cut_promotion 0).array j ≡ Live
  live_first =
      five_cases (λ j. j < 5 → mark_in (cut_promotion 0).array j ≡ Live) (λ b. refl) (λ b. refl) (λ b. refl) (λ b. refl) (λ b. refl)
      (λ j past below. absurd (omega (arith, past, below)))

  kept_live : (c j : ℕ) → j < 5 → ¬ HasSlot failed j → c < 2
      → (mark_in (cut_promotion c).array j ≡ Live) × (joined_in (cut_promotion j).array j ≡ joined_in (cut_promotion c).array j)
  kept_live c j below kept new =
      subst (λ (x : Edition). (mark_in x.array j ≡ Live) × (joined_in (cut_promotion j).array j ≡ joined_in x.array j)) (sym (new_edition c new))
      (live_first j below, (plain j).2 j)

  -- by slot 0's superblock, or by slot 1's while that one is away
  by_first : (h : List Happening) → GoesOn words cut_promotion failed h → HoldsDevice words cut_promotion 0 (slot_state h 0)
      → Stands words cut_promotion failed h
  by_first h goes holds = record {
    goes = goes;
    current = 0;
    now = record { first = holds; newest = λ j is. newest_first j is.below };
    live = λ j below kept. kept_live 0 j below kept (omega arith);
  }

  s0 : Stands words cut_promotion failed h0
  s0 = by_first h0 (goes_made words cut_promotion failed) (made_holds words cut_promotion 0 (omega arith))

  s1 : Stands words cut_promotion failed h1
  s1 = record {
    goes = goes_pulled words cut_promotion failed h0 0 (device_of words cut_promotion 0) refl s0.goes;
    current = 1;
    now = record {
      first = made_holds words cut_promotion 1 (omega arith);
      newest = λ j is.
          newest_second j is.below
          (λ same.
          not_both words cut_promotion 0 (slot_state h1 0) refl
          (subst (λ (i : ℕ). HoldsDevice words cut_promotion i (slot_state h1 i)) same is));
    };
    live = λ j below kept. kept_live 1 j below kept (omega arith);
  }

  s2 : Stands words cut_promotion failed h2
  s2 = stands_still words cut_promotion failed h1 h2 (call_still h1 0) s1

  s3 : Stands words cut_promotion failed h3
  s3 =
      by_first h3 (goes_back words cut_promotion failed h2 0 refl (omega arith) refl s2.goes)
      (back_holds words cut_promotion 0 (slot_state h2 0) (omega arith) refl)

  s4 : Stands words cut_promotion failed h4
  s4 =
      by_first h4 (goes_pulled words cut_promotion failed h3 1 (device_of words cut_promotion 1) refl s3.goes)
      (back_holds words cut_promotion 0 (slot_state h2 0) (omega arith) refl)

  s5 : Stands words cut_promotion failed h5
  s5 = stands_still words cut_promotion failed h4 h5 (call_still h4 1) s4

  s6 : Stands words cut_promotion failed h6
  s6 =
      by_first h6 (goes_back words cut_promotion failed h5 1 refl (omega arith) refl s5.goes)
      (back_holds words cut_promotion 0 (slot_state h2 0) (omega arith) refl)

  s7 : Stands words cut_promotion failed h7
  s7 = stands_still words cut_promotion failed h6 h7 (look_still h6 2) s6

  s8 : Stands words cut_promotion failed h8
  s8 = stands_still words cut_promotion failed h7 h8 (look_still h7 3) s7

  pub s9 : Stands words cut_promotion failed h9
  s9 = stands_still words cut_promotion failed h8 h9 (look_still h8 4) s8

  still : (x y : List Happening) → Stands words cut_promotion failed x → IsStill x y → AtEveryMoment (Stands words cut_promotion failed) x y
  still x y s is = each_still words cut_promotion failed x y s is

  act : (h : List Happening) (i : ℕ) (a : SlotAct) → Stands words cut_promotion failed h → Stands words cut_promotion failed (Acted i a ∷ h)
      → AtEveryMoment (Stands words cut_promotion failed) h (Acted i a ∷ h)
  act h i a before after = each_act words cut_promotion failed h i a before after

  throughout : AtEveryMoment (Stands words cut_promotion failed) h0 (one_after_the_other words)
  throughout =
      at_every_join (act h0 0 (Pulled (device_of words cut_promotion 0)) s0 s1)
      (at_every_join (still h1 h2 s1 (call_still h1 0))
      (at_every_join (act h2 0 (InsertedOld 0) s2 s3)
      (at_every_join (act h3 1 (Pulled (device_of words cut_promotion 1)) s3 s4)
      (at_every_join (still h4 h5 s4 (call_still h4 1))
      (at_every_join (act h5 1 (InsertedOld 0) s5 s6)
      (at_every_join (still h6 h7 s6 (look_still h6 2))
      (at_every_join (still h7 h8 s7 (look_still h7 3))
      (at_every_join (still h8 h9 s8 (look_still h8 4))
      (still h9 (empty_after 27 h9) s9 (empty_still 27 h9))))))))))

  -- TOLERANCE

  pub tolerated_at : (h : List Happening) → IsMoment h0 h (one_after_the_other words) → IsTolerated five h0 h
  tolerated_at =
      tolerated_throughout words cut_promotion failed are refl few_failed stand refl many_stand stand_kept 2 (omega arith) false≢true (one_after_the_other words)
      throughout

  pub counted : IsToleratedCounted five h0 h0 (one_after_the_other words)
  counted =
      counted_throughout words cut_promotion failed are refl few_failed stand refl many_stand stand_kept 2 (omega arith) false≢true (one_after_the_other words)
      throughout
