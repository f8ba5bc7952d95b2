-- What a survey finds in the first history: the two devices that were away when their slots were attached are gone, and epoch 4, which
-- the others have, rebuilds a third one.
use Rattle.std.specs.Prelude.{Err}
use Rattle.std.proofs.Common.{◌≡◌, ℕ, ◌<◌, ◌≤◌, List, [], ◌∷◌, ◌⊎◌, inl, inr, refl, sym, ◌∙◌, subst, arith, false, true, replicate}
use Rattle.std.proofs.lemmas.Bool.{false≢true}
use Rattle.std.proofs.lemmas.List.{get_or-replicate}
use Rattle.stair_model.specs.Slots.{HasSlot, Slots, slot_count}
use Rattle.stair_model.specs.Sum.{sum_below}
use Rattle.stair_rack.specs.History.{Acted, Happening, InsertedOld, Pulled, slot_state}
use Rattle.stair_rack.specs.Media.{Image}
use Rattle.stair_rack.specs.Offline.{IsHeld, InUse}
use Rattle.stair_member.specs.Counting.{MoreThan}
use Rattle.stair_member.specs.Current.{IsCurrent}
use Rattle.stair_member.specs.Editions.{copy_of}
use Rattle.stair_member.specs.Membership.{IsMissing, Membership, member_of, why_of}
use Rattle.stair_member.specs.Reasons.{IsReason}
use Rattle.stair_member.specs.Superblocks.{Identifies}
use Rattle.stair_member.specs.Survey.{IsGreatestDraw, IsNextPlace, IsSurveyed}
use Rattle.stair_member.specs.declared.fault.SurveyFault.TheVariants.{TooFew}
use Rattle.stair_member.specs.declared.why.Why.{Why}
use Rattle.stair_member.specs.declared.why.Why.TheVariants as why
use Rattle.stair_state.specs.Blocks.{AreEncodingsOf, Codewords, zero_blocks}
use Rattle.stair_reinsert.specs.Misled.{IsMisled, cut_promotion, empty_after, five, one_after_the_other, rack_of}
use Rattle.stair_reinsert_examples.proofs.CutPromotion.{are, cut, epochs, failed, h0, h2, h3, h5, h7, h8, h9, current_media, many_stand, s9, stand, tolerated_at}
use Rattle.stair_reinsert_examples.proofs.FiveConsistent.{made_consistent}
use Rattle.stair_reinsert_examples.proofs.FiveDevices.{IsDevice, Shows, current, identity}
use Rattle.stair_reinsert_examples.proofs.FiveMoments.{HoldsDevice, made_holds, settles}
use Rattle.stair_reinsert_examples.proofs.FiveSteps.{FiveSteps, Misses, Sees, asked_below, asked_each}
use Rattle.stair_reinsert_examples.proofs.FiveSupers.{past_has, past_none}
use Rattle.stair_reinsert_examples.proofs.FiveSurvey.{findings, five_cases, found_drawn, found_image, found_shows, found_stands, found_surveys, gone_reason, gones, here_reason, next_place, not_bare, past_five, rebuilding_reason, seen_device}

-- slots 0 and 1, and those that the array hasn't
abbrev gone : Slots
gone = record { marks = true ∷ true ∷ false ∷ false ∷ false ∷ replicate 27 true }

abbrev missing : Slots
missing = record { marks = true ∷ true ∷ false ∷ true ∷ false ∷ replicate 27 false }

abbrev whys : List Why
whys = why.Gone ∷ why.Gone ∷ why.Here ∷ why.Rebuilding ∷ why.Here ∷ replicate 27 why.Here

abbrev member : Membership
member = member_of (cut_promotion 2).array 5 whys (replicate 32 1)

module _ (words : Codewords) where
  abbrev new : List Happening
  new = one_after_the_other words

  -- HOW IT GOES

  made : (j : ℕ) → j < 5 → HoldsDevice words cut_promotion j (slot_state (h0 words) j)
  made j below = made_holds words cut_promotion j below

  steps : FiveSteps words cut_promotion gone refl (h9 words)
  steps = record {
    x1 = h2 words;
    x2 = h5 words;
    x3 = h7 words;
    x4 = h8 words;
    s0 = Misses refl (Acted 0 (Pulled _) ∷ [])
        (tt, inl (omega arith, settles words cut_promotion 0 (slot_state (h0 words) 0) (made 0 (omega arith)))) refl refl;
    s1 = Misses refl (Acted 1 (Pulled _) ∷ Acted 0 (InsertedOld 0) ∷ []) (
      (tt, inl (omega arith, (refl, omega arith))),
      inl (omega arith, settles words cut_promotion 1 (slot_state (h3 words) 1) (made 1 (omega arith))),
    ) refl refl;
    s2 = Sees false≢true (Acted 1 (InsertedOld 0) ∷ []) (tt, inl (omega arith, (refl, omega arith))) (made 2 (omega arith)) refl refl;
    s3 = Sees false≢true [] tt (made 3 (omega arith)) refl refl;
    s4 = Sees false≢true [] tt (made 4 (omega arith)) refl refl;
  }

  held : (j : ℕ) → j < 5 → ¬ HasSlot gone j → IsHeld (h0 words) new j
  unfolding empty_after
  held =
      five_cases (λ j. j < 5 → ¬ HasSlot gone j → IsHeld (h0 words) new j) (λ b seen. absurd (seen refl)) (λ b seen. absurd (seen refl))
      (λ b seen. InUse refl refl (omega arith)) (λ b seen. InUse refl refl (omega arith)) (λ b seen. InUse refl refl (omega arith))
      (λ j past b. absurd (omega (arith, past, b)))

  -- WHAT IS ANSWERED

  abbrev image : Image
  image = found_image words cut_promotion gone refl new

  past_gone : (j : ℕ) → 5 ≤ j → j < 32 → HasSlot gone j
  past_gone j past small = past_has true true false false false j past small

  not_gone : (j : ℕ) → HasSlot gone j → ¬ IsDevice words cut_promotion image j
  not_gone j has = not_bare words cut_promotion gone refl new (are words) j has

  shows : (j : ℕ) → Shows words cut_promotion image j
  shows j = found_shows words cut_promotion gone refl new (are words) past_gone 2 j

  newest : (j : ℕ) → IsDevice words cut_promotion image j → ((cut_promotion j).array.epoch < 4) ⊎ (((cut_promotion j).array.epoch ≡ 4) × (2 ≤ j))
  newest =
      five_cases
      (λ j. IsDevice words cut_promotion image j → ((cut_promotion j).array.epoch < 4) ⊎ (((cut_promotion j).array.epoch ≡ 4) × (2 ≤ j)))
      (λ is. absurd (not_gone 0 refl is)) (λ is. absurd (not_gone 1 refl is)) (λ is. inr (refl, omega arith)) (λ is. inr (refl, omega arith))
      (λ is. inr (refl, omega arith)) (λ j past is. let below : j < 5 = is.below in absurd (omega (arith, past, below)))

  is_current : IsCurrent five image (copy_of (cut_promotion 2) 2)
  is_current =
      current words cut_promotion (are words) image shows 2 (seen_device words cut_promotion gone refl new 2 false≢true (omega arith)) newest

  stands : Identifies five image
  stands =
      found_stands words cut_promotion gone refl new (are words) stand refl many_stand
      (five_cases (λ j. HasSlot stand j → (j < 5) × ¬ HasSlot gone j) (λ has. absurd (false≢true has)) (λ has. absurd (false≢true has))
      (λ has. (omega arith, false≢true)) (λ has. (omega arith, false≢true)) (λ has. (omega arith, false≢true))
      (λ j past has. absurd (false≢true (sym (past_none false false true true true j past) ∙ has))))

  drawn : IsGreatestDraw five image 5
  drawn = found_drawn words cut_promotion gone refl new (are words) shows 5 2 false≢true (omega arith) refl (λ j below. omega (arith, (epochs words j).2))

  reasons : (j : ℕ) → j < 5 → IsReason (HasSlot gone) five image (copy_of (cut_promotion 2) 2) j (why_of member j)
  reasons =
      five_cases (λ j. j < 5 → IsReason (HasSlot gone) five image (copy_of (cut_promotion 2) 2) j (why_of member j))
      (λ b. gone_reason words cut_promotion gone refl new (are words) past_gone 2 0 refl)
      (λ b. gone_reason words cut_promotion gone refl new (are words) past_gone 2 1 refl)
      (λ b. here_reason words cut_promotion gone refl new (are words) past_gone 2 2 false≢true b refl refl)
      (λ b. rebuilding_reason words cut_promotion gone refl new (are words) past_gone 2 3 false≢true b refl refl)
      (λ b. here_reason words cut_promotion gone refl new (are words) past_gone 2 4 false≢true b refl refl)
      (λ j past b. absurd (omega (arith, past, b)))

  surveyed : IsSurveyed (findings words cut_promotion gone refl new) member
  surveyed = record {
    identity = identity words cut_promotion (are words) image shows stands;
    current = copy_of (cut_promotion 2) 2;
    is_current = is_current;
    array = refl;
    drawn = drawn;
    reasons = reasons;
    absent = λ j past small. past_five why.Gone why.Gone why.Here why.Rebuilding why.Here why.Here j past;
    places = λ j small.
        subst (IsNextPlace ((image j).cell)) (sym (get_or-replicate 32 j 1 0 small))
        (next_place words cut_promotion gone refl new (are words) past_gone 2 j);
  }

  too_few : MoreThan 2 (IsMissing member)
  unfolding sum_below
  too_few = record {
    slots = missing;
    formed = refl;
    many = let three : slot_count missing ≡ 3 = refl in omega (arith, three);
    each =
        five_cases (λ j. HasSlot missing j → IsMissing member j) (λ has. record { below = omega arith; why = λ same. cc })
        (λ has. record { below = omega arith; why = λ same. cc }) (λ has. absurd (false≢true has))
        (λ has. record { below = omega arith; why = λ same. cc }) (λ has. absurd (false≢true has))
        (λ j past has. absurd (false≢true (sym (past_none true true false true false j past) ∙ has)));
  }

  pub misled : AreEncodingsOf five zero_blocks words → IsMisled (rack_of words cut_promotion) (one_after_the_other words)
  misled encoded = record {
    consistent = made_consistent words cut_promotion (are words) encoded (current_media words) 4 (cut words);
    tolerated = tolerated_at words;
    whys = whys;
    gones = gones words cut_promotion gone refl new;
    surveys =
        found_surveys words cut_promotion gone refl new (are words) (Err (TooFew whys))
        (asked_each words cut_promotion gone refl (h9 words) steps failed (s9 words).goes held past_gone)
        (asked_below words cut_promotion gone refl (h9 words) steps failed (s9 words).goes) (member, surveyed, refl, too_few);
  }
