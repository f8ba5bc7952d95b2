-- How many of the five devices may be away.
use Rattle.std.proofs.Common.{◌≡◌, ℕ, ◌<◌, ◌≤◌, List, [], ◌∷◌, ◌++◌, ◌⊎◌, inl, inr, refl, sym, ap, ◌∙◌, subst, arith, length, None, Option, Some, true, false, replicate}
use Rattle.std.proofs.lemmas.Bool.{cases_eq, cond-false, false≢true, le-ltb}
use Rattle.stair_model.specs.Slots.{HasSlot, Slots, slot_count}
use Rattle.stair_model.specs.Sum.{sum_below}
use Rattle.stair_model.proofs.SetLaws.{slot_count-subset}
use Rattle.stair_rack.specs.Crash.{image_now}
use Rattle.stair_rack.specs.History.{Acted, Happening, InsertedOld, Pulled, slot_state}
use Rattle.stair_rack.specs.Media.{Image, SlotImage}
use Rattle.stair_rack.specs.Moments.{AtEveryMoment}
use Rattle.stair_rack.specs.Offline.{IsOffline, NoMedium}
use Rattle.stair_rack.specs.Stretch.{EachOf, ReturnsNothing}
use Rattle.stair_rack.proofs.CrashLemmas.{CrashMayLeave-now}
use Rattle.stair_rack.proofs.MomentLemmas.{at_every_join}
use Rattle.stair_member.specs.Current.{Offline}
use Rattle.stair_state.specs.Degraded.{AreAllDamaged}
use Rattle.stair_state.specs.Tolerance.{IsWithinTolerance}
use Rattle.stair_state.proofs.FormLemmas.{good_kept}
use Rattle.stair_array.proofs.CreatedLemmas.{mark_first}
use Rattle.stair_invariant.specs.Returning.{AnyReturns, StaysWithinTolerance}
use Rattle.stair_reinsert.specs.Misled.{device_of, five}
use Rattle.stair_reinsert_examples.proofs.AllowedEpochs.{few_first, first_formed, has_first, only_first}
use Rattle.stair_reinsert_examples.proofs.FiveConsistent.{inside}
use Rattle.stair_reinsert_examples.proofs.FiveCounted.{Stands, each_act, tolerated_at}
use Rattle.stair_reinsert_examples.proofs.FiveDevices.{good_cell, place_cell}
use Rattle.stair_reinsert_examples.proofs.FiveMoments.{HoldsDevice, back_holds, goes_back, goes_pulled, made_holds, not_both}
use Rattle.stair_reinsert_examples.proofs.FiveSupers.{past_none}
use Rattle.stair_reinsert_examples.proofs.FiveSurvey.{five_cases}
use Rattle.stair_reinsert_examples.proofs.FiveWithin.{IsAllBut, IsWhole, tolerated}
use Rattle.stair_examples.specs.Arrays.{ExamplesOfStaysWithinTolerance, ExamplesOfIsWithinTolerance, devices_from, first_edition, made_new, new_rack, pulled_of, returned, zero_words}
use Rattle.stair_examples.proofs.NewRackLemmas.{are, beside_first, beside_kept, live_all, many_beside, stood}

-- THREE ARE TOO MANY

abbrev first_three : Slots
first_three = record { marks = true ∷ true ∷ true ∷ false ∷ false ∷ replicate 27 false }

three : slot_count first_three ≡ 3
unfolding sum_below
three = refl

too_many : (offline : ℕ → Type 0) (image : Image) → offline 0 → offline 1 → offline 2 → ¬ IsWithinTolerance offline five image
too_many offline image zeroth first second is =
    omega (arith, is.few.few, three, slot_count-subset first_three is.few.slots subset)
  where
    subset : (j : ℕ) → HasSlot first_three j → HasSlot is.few.slots j
    subset =
        five_cases (λ j. HasSlot first_three j → HasSlot is.few.slots j) (λ has. is.few.within 0 (Offline (omega arith) zeroth))
        (λ has. is.few.within 1 (Offline (omega arith) first)) (λ has. is.few.within 2 (Offline (omega arith) second))
        (λ has. absurd (false≢true has)) (λ has. absurd (false≢true has))
        (λ j past has. absurd (false≢true (sym (past_none true true true false false j past) ∙ has)))

-- TWO MAY BE AWAY

abbrev first_two : Slots
first_two = record { marks = true ∷ true ∷ false ∷ false ∷ false ∷ replicate 27 false }

abbrev last_three : Slots
last_three = record { marks = false ∷ false ∷ true ∷ true ∷ true ∷ replicate 27 false }

few_two : slot_count first_two ≤ 2
unfolding sum_below
few_two = let two : slot_count first_two ≡ 2 = refl in omega (arith, two)

many_last : 2 < slot_count last_three
unfolding sum_below
many_last = let number : slot_count last_three ≡ 3 = refl in omega (arith, number)

last_kept : (j : ℕ) → HasSlot last_three j → (j < 5) × ¬ HasSlot first_two j
last_kept =
    five_cases (λ j. HasSlot last_three j → (j < 5) × ¬ HasSlot first_two j) (λ has. absurd (false≢true has)) (λ has. absurd (false≢true has))
    (λ has. (omega arith, λ out. false≢true out)) (λ has. (omega arith, λ out. false≢true out)) (λ has. (omega arith, λ out. false≢true out))
    (λ j past has. absurd (false≢true (sym (past_none false false true true true j past) ∙ has)))

abbrev two_away : Image
two_away = devices_from 2

some_size : ¬ (◌≡◌ {A = Option ℕ} (Some 9) None)
some_size same = cc

whole : (j : ℕ) → j < 5 → two_away j ≡ new_rack j → ¬ ((new_rack j).size ≡ None) → IsWhole two_away (first_edition 0) first_two j
whole j below there sized = record {
  formed = are.formed j below;
  places = λ k place. ap (λ (slot : SlotImage). slot.cell k) (there ∙ inside zero_words first_edition j below) ∙ place_cell zero_words first_edition j k place;
  good = λ k small.
      let it = good_cell zero_words first_edition j k small in
      good_kept (ap (λ (slot : SlotImage). slot.cell k) (there ∙ inside zero_words first_edition j below) ∙ it.1);
  online = λ none. sized (sym (ap (λ (slot : SlotImage). slot.size) there) ∙ none);
  live = mark_first five j below;
}

all_but : IsAllBut two_away (first_edition 0) first_two 2
all_but = record {
  holds =
      five_cases (λ j. j < 5 → ¬ HasSlot first_two j → IsWhole two_away (first_edition 0) first_two j) (λ b kept. absurd (kept refl))
      (λ b kept. absurd (kept refl)) (λ b kept. whole 2 b refl some_size) (λ b kept. whole 3 b refl some_size) (λ b kept. whole 4 b refl some_size)
      (λ j past b. absurd (omega (arith, past, b)));
  bare =
      five_cases (λ j. (5 ≤ j) ⊎ HasSlot first_two j → AreAllDamaged (two_away j).cell) (λ out k. refl) (λ out k. refl)
      (λ out. absurd (not_out 2 out (omega arith) false≢true)) (λ out. absurd (not_out 3 out (omega arith) false≢true))
      (λ out. absurd (not_out 4 out (omega arith) false≢true))
      (λ j past out k.
      ap (λ (slot : SlotImage). slot.cell k)
      (cond-false _ _ _ (le-ltb j 2 (omega (arith, past))) ∙ cond-false _ _ _ (le-ltb j 5 past)));
  of_five = refl;
  first_in = omega arith;
  first_kept = λ out. false≢true out;
  first =
      five_cases (λ j. j < 5 → ¬ HasSlot first_two j → 2 ≤ j) (λ b kept. absurd (kept refl)) (λ b kept. absurd (kept refl)) (λ b kept. omega arith)
      (λ b kept. omega arith) (λ b kept. omega arith) (λ j past b kept. omega (arith, past));
}
  where
    not_out : (j : ℕ) → (5 ≤ j) ⊎ HasSlot first_two j → j < 5 → ¬ HasSlot first_two j → ⊥
    not_out j (inl past) below kept = omega (arith, past, below)
    not_out j (inr has) below kept = kept has

pub away : ExamplesOfIsWithinTolerance
away = record {
  holds = tolerated two_away (first_edition 0) first_two 2 all_but refl few_two last_three refl many_last last_kept;
  fails = too_many (λ j. (devices_from 3 j).size ≡ None) (devices_from 3) refl refl refl;
}

-- PULLED AND PUT BACK

abbrev pulled : List Happening
pulled = pulled_of (0 ∷ [])

pulled_stands : Stands zero_words first_edition only_first pulled
pulled_stands = record {
  goes = goes_pulled zero_words first_edition only_first made_new 0 (device_of zero_words first_edition 0) has_first stood.goes;
  current = 1;
  now = record {
    first = made_holds zero_words first_edition 1 (omega arith);
    newest = λ j is. inr (
      refl,
      elim (cases_eq j 0) [
        | inl same ↦
            absurd
            (not_both zero_words first_edition 0 (slot_state pulled 0) refl
            (subst (λ (i : ℕ). HoldsDevice zero_words first_edition i (slot_state pulled i)) same is))
        | inr other ↦ omega (arith, other)
      ],
    );
  };
  live = live_all 1;
}

returned_stands : Stands zero_words first_edition only_first returned
returned_stands = record {
  goes = goes_back zero_words first_edition only_first pulled 0 has_first (omega arith) refl pulled_stands.goes;
  current = 0;
  now = record {
    first = back_holds zero_words first_edition 0 (slot_state pulled 0) (omega arith) refl;
    newest = λ j is. inr (refl, omega arith);
  };
  live = live_all 0;
}

throughout : AtEveryMoment (Stands zero_words first_edition only_first) made_new returned
throughout =
    at_every_join
    (each_act zero_words first_edition only_first made_new 0 (Pulled (device_of zero_words first_edition 0)) stood pulled_stands)
    (each_act zero_words first_edition only_first pulled 0 (InsertedOld 0) pulled_stands returned_stands)

calm : StaysWithinTolerance AnyReturns five true made_new returned
calm =
    tolerated_at zero_words first_edition only_first are first_formed few_first beside_first refl many_beside beside_kept 1 (omega arith)
    (λ out. false≢true out) returned throughout

-- it was put back
some_returned : (more : List Happening) → returned ≡ more ++ made_new → EachOf ReturnsNothing more made_new → ⊥
some_returned [] is each = let longer : 3 ≡ 1 = ap length is in absurd (omega (arith, longer))
some_returned (e ∷ more) is each =
    let last : e ≡ Acted 0 (InsertedOld 0) = cc in
    subst (ReturnsNothing (more ++ made_new)) last each.1

abbrev three_pulled : List Happening
three_pulled = pulled_of (2 ∷ 1 ∷ 0 ∷ [])

third : ¬ StaysWithinTolerance AnyReturns five true made_new three_pulled
third is =
    too_many (IsOffline made_new three_pulled) (image_now three_pulled) (NoMedium refl) (NoMedium refl) (NoMedium refl)
    (is three_pulled
    (record {
      before = Acted 2 (Pulled (device_of zero_words first_edition 2)) ∷ Acted 1 (Pulled (device_of zero_words first_edition 1))
          ∷ Acted 0 (Pulled (device_of zero_words first_edition 0)) ∷ [];
      later = [];
      from = refl;
      to = refl;
    })
    (image_now three_pulled) (CrashMayLeave-now three_pulled))

pub calms : ExamplesOfStaysWithinTolerance
calms = record { holds = calm; fails = λ is. some_returned is.1.more is.1.is is.1.each; third = third }
