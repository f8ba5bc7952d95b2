-- What a survey finds in the third history: epoch 5, which slot 0 had when it was read, marks two slots Down, and slot 1 is gone.
use Rattle.std.specs.Prelude.{Err}
use Rattle.std.proofs.Common.{◌≡◌, ℕ, ◌<◌, ◌≤◌, List, [], ◌∷◌, ◌⊎◌, inl, inr, refl, sym, ◌∙◌, subst, arith, false, true, replicate}
use Rattle.std.proofs.lemmas.Bool.{false≢true}
use Rattle.std.proofs.lemmas.List.{get_or-replicate}
use Rattle.stair_model.specs.Slots.{HasSlot, Slots, slot_count}
use Rattle.stair_model.specs.Sum.{sum_below}
use Rattle.stair_rack.specs.History.{Acted, Happening, Pulled, slot_state}
use Rattle.stair_rack.specs.Media.{Image}
use Rattle.stair_rack.specs.Offline.{IsHeld, InUse}
use Rattle.stair_member.specs.Counting.{MoreThan}
use Rattle.stair_member.specs.Current.{IsCurrent}
use Rattle.stair_member.specs.Editions.{copy_of}
use Rattle.stair_member.specs.Membership.{IsMissing, Membership, member_of, why_of}
use Rattle.stair_member.specs.Reasons.{IsReason}
use Rattle.stair_member.specs.Superblocks.{Identifies}
use Rattle.stair_member.specs.Survey.{IsNextPlace, IsSurveyed}
use Rattle.stair_member.specs.declared.fault.SurveyFault.TheVariants.{TooFew}
use Rattle.stair_member.specs.declared.why.Why.{Why}
use Rattle.stair_member.specs.declared.why.Why.TheVariants as why
use Rattle.stair_state.specs.Blocks.{AreEncodingsOf, Codewords, zero_blocks}
use Rattle.stair_reinsert.specs.Misled.{IsMisled, empty_after, five, only_pulled, rack_of, two_fences}
use Rattle.stair_reinsert_examples.proofs.CutFences.{are, cut, draws, current_media, q0, q1, q4, q5, q6, q7, s7, tolerated_at}
use Rattle.stair_reinsert_examples.proofs.CutPromotion.{failed, many_stand, stand}
use Rattle.stair_reinsert_examples.proofs.FiveConsistent.{made_consistent}
use Rattle.stair_reinsert_examples.proofs.FiveDevices.{IsDevice, Shows, current, identity}
use Rattle.stair_reinsert_examples.proofs.FiveMoments.{HoldsDevice, made_holds, settles}
use Rattle.stair_reinsert_examples.proofs.FiveSteps.{FiveSteps, Misses, Sees, asked_below, asked_each}
use Rattle.stair_reinsert_examples.proofs.FiveSupers.{past_has, past_none}
use Rattle.stair_reinsert_examples.proofs.FiveSurvey.{down_reason, findings, five_cases, found_drawn, found_image, found_shows, found_stands, found_surveys, gone_reason, gones, here_reason, next_place, not_bare, past_five, seen_device}

-- slot 1, and those that the array hasn't
abbrev gone : Slots
gone = record { marks = false ∷ true ∷ false ∷ false ∷ false ∷ replicate 27 true }

abbrev missing : Slots
missing = record { marks = false ∷ true ∷ true ∷ true ∷ false ∷ replicate 27 false }

abbrev whys : List Why
whys = why.Here ∷ why.Gone ∷ why.MarkedDown ∷ why.MarkedDown ∷ why.Here ∷ replicate 27 why.Here

abbrev member : Membership
member = member_of (two_fences 0).array 6 whys (replicate 32 1)

module _ (words : Codewords) where
  abbrev new : List Happening
  new = only_pulled words

  -- HOW IT GOES

  made : (j : ℕ) → j < 5 → HoldsDevice words two_fences j (slot_state (q0 words) j)
  made j below = made_holds words two_fences j below

  steps : FiveSteps words two_fences gone refl (q7 words)
  steps = record {
    x1 = q1 words;
    x2 = q4 words;
    x3 = q5 words;
    x4 = q6 words;
    s0 = Sees false≢true [] tt (made 0 (omega arith)) refl refl;
    s1 = Misses refl (Acted 1 (Pulled _) ∷ Acted 0 (Pulled _) ∷ []) (
      (
        tt,
        inl (
          omega arith,
          settles words two_fences 0 (slot_state (q1 words) 0)
              (record { below = omega arith; size = (made 0 (omega arith)).size; sectors = (made 0 (omega arith)).sectors }),
        ),
      ),
      inl (omega arith, settles words two_fences 1 (slot_state (q1 words) 1) (made 1 (omega arith))),
    ) refl refl;
    s2 = Sees false≢true [] tt (made 2 (omega arith)) refl refl;
    s3 = Sees false≢true [] tt (made 3 (omega arith)) refl refl;
    s4 = Sees false≢true [] tt (made 4 (omega arith)) refl refl;
  }

  held : (j : ℕ) → j < 5 → ¬ HasSlot gone j → IsHeld (q0 words) new j
  unfolding empty_after
  held =
      five_cases (λ j. j < 5 → ¬ HasSlot gone j → IsHeld (q0 words) new j) (λ b seen. IsHeld.Unattached refl (omega arith))
      (λ b seen. absurd (seen refl)) (λ b seen. InUse refl refl (omega arith)) (λ b seen. InUse refl refl (omega arith))
      (λ b seen. InUse refl refl (omega arith)) (λ j past b. absurd (omega (arith, past, b)))

  -- WHAT IS ANSWERED

  abbrev image : Image
  image = found_image words two_fences gone refl new

  past_gone : (j : ℕ) → 5 ≤ j → j < 32 → HasSlot gone j
  past_gone j past small = past_has false true false false false j past small

  shows : (j : ℕ) → Shows words two_fences image j
  shows j = found_shows words two_fences gone refl new (are words) past_gone 0 j

  newest : (j : ℕ) → IsDevice words two_fences image j → ((two_fences j).array.epoch < 5) ⊎ (((two_fences j).array.epoch ≡ 5) × (0 ≤ j))
  newest =
      five_cases (λ j. IsDevice words two_fences image j → ((two_fences j).array.epoch < 5) ⊎ (((two_fences j).array.epoch ≡ 5) × (0 ≤ j)))
      (λ is. inr (refl, omega arith)) (λ is. absurd (not_bare words two_fences gone refl new (are words) 1 refl is)) (λ is. inl (omega arith))
      (λ is. inl (omega arith)) (λ is. inl (omega arith)) (λ j past is. let below : j < 5 = is.below in absurd (omega (arith, past, below)))

  is_current : IsCurrent five image (copy_of (two_fences 0) 0)
  is_current = current words two_fences (are words) image shows 0 (seen_device words two_fences gone refl new 0 false≢true (omega arith)) newest

  stands : Identifies five image
  stands =
      found_stands words two_fences gone refl new (are words) stand refl many_stand
      (five_cases (λ j. HasSlot stand j → (j < 5) × ¬ HasSlot gone j) (λ has. absurd (false≢true has)) (λ has. absurd (false≢true has))
      (λ has. (omega arith, false≢true)) (λ has. (omega arith, false≢true)) (λ has. (omega arith, false≢true))
      (λ j past has. absurd (false≢true (sym (past_none false false true true true j past) ∙ has))))

  reasons : (j : ℕ) → j < 5 → IsReason (HasSlot gone) five image (copy_of (two_fences 0) 0) j (why_of member j)
  reasons =
      five_cases (λ j. j < 5 → IsReason (HasSlot gone) five image (copy_of (two_fences 0) 0) j (why_of member j))
      (λ b. here_reason words two_fences gone refl new (are words) past_gone 0 0 false≢true b refl refl)
      (λ b. gone_reason words two_fences gone refl new (are words) past_gone 0 1 refl)
      (λ b. down_reason words two_fences gone refl new (are words) past_gone 0 2 false≢true b refl)
      (λ b. down_reason words two_fences gone refl new (are words) past_gone 0 3 false≢true b refl)
      (λ b. here_reason words two_fences gone refl new (are words) past_gone 0 4 false≢true b refl refl) (λ j past b. absurd (omega (arith, past, b)))

  surveyed : IsSurveyed (findings words two_fences gone refl new) member
  surveyed = record {
    identity = identity words two_fences (are words) image shows stands;
    current = copy_of (two_fences 0) 0;
    is_current = is_current;
    array = refl;
    drawn = found_drawn words two_fences gone refl new (are words) shows 6 2 false≢true (omega arith) refl (draws words);
    reasons = reasons;
    absent = λ j past small. past_five why.Here why.Gone why.MarkedDown why.MarkedDown why.Here why.Here j past;
    places = λ j small.
        subst (IsNextPlace ((image j).cell)) (sym (get_or-replicate 32 j 1 0 small))
        (next_place words two_fences gone refl new (are words) past_gone 0 j);
  }

  too_few : MoreThan 2 (IsMissing member)
  unfolding sum_below
  too_few = record {
    slots = missing;
    formed = refl;
    many = let three : slot_count missing ≡ 3 = refl in omega (arith, three);
    each =
        five_cases (λ j. HasSlot missing j → IsMissing member j) (λ has. absurd (false≢true has)) (λ has. record { below = omega arith; why = λ same. cc })
        (λ has. record { below = omega arith; why = λ same. cc }) (λ has. record { below = omega arith; why = λ same. cc })
        (λ has. absurd (false≢true has)) (λ j past has. absurd (false≢true (sym (past_none false true true true false j past) ∙ has)));
  }

  pub misled : AreEncodingsOf five zero_blocks words → IsMisled (rack_of words two_fences) (only_pulled words)
  misled encoded = record {
    consistent = made_consistent words two_fences (are words) encoded (current_media words) 4 (cut words);
    tolerated = tolerated_at words;
    whys = whys;
    gones = gones words two_fences gone refl new;
    surveys =
        found_surveys words two_fences gone refl new (are words) (Err (TooFew whys))
        (asked_each words two_fences gone refl (q7 words) steps failed (s7 words).goes held past_gone)
        (asked_below words two_fences gone refl (q7 words) steps failed (s7 words).goes) (member, surveyed, refl, too_few);
  }
