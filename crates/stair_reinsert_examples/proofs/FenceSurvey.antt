-- What a survey finds in the second history: epoch 5, which slot 0 had when it was read, marks two slots Down, and a third one is gone.
use Rattle.std.specs.Prelude.{Err}
use Rattle.std.proofs.Common.{◌≡◌, ℕ, ◌<◌, ◌≤◌, List, [], ◌∷◌, ◌⊎◌, inl, inr, refl, sym, ap, ◌∙◌, subst, arith, Option, None, Some, false, true, replicate}
use Rattle.std.proofs.lemmas.Bool.{cond-true, cond-false, false≢true, le-ltb}
use Rattle.std.proofs.lemmas.List.{get_or-replicate}
use Rattle.stair_model.specs.Slots.{HasSlot, Slots, slot_count}
use Rattle.stair_model.specs.Sum.{sum_below}
use Rattle.stair_rack.specs.Answers.{Ran, any_call}
use Rattle.stair_rack.specs.Sector.{content}
use Rattle.stair_rack.specs.History.{Acted, Happening, Pulled, slot_state}
use Rattle.stair_rack.specs.Media.{Image, SlotImage}
use Rattle.stair_rack.specs.Moments.{IsMoment}
use Rattle.stair_rack.specs.Offline.{IsHeld, InUse, NoMedium}
use Rattle.stair_rack.proofs.MomentLemmas.{moment_between, ran_join, ran_none}
use Rattle.stair_member.specs.Counting.{MoreThan}
use Rattle.stair_member.specs.Current.{IsCurrent}
use Rattle.stair_member.specs.Editions.{copy_of}
use Rattle.stair_member.specs.Membership.{IsMissing, Membership, member_of, why_of}
use Rattle.stair_member.specs.Reasons.{IsReason}
use Rattle.stair_member.specs.Superblocks.{Identifies}
use Rattle.stair_member.specs.Survey.{IsNextPlace, IsSurveyed}
use Rattle.stair_member.specs.declared.fault.SurveyFault.TheVariants.{TooFew}
use Rattle.stair_member.specs.declared.why.Why.{Why}
use Rattle.stair_member.specs.declared.why.Why.TheVariants as why
use Rattle.stair_member.proofs.CountingLemmas.{has_or_not}
use Rattle.stair_state.specs.Blocks.{AreEncodingsOf, Codewords, zero_blocks}
use Rattle.stair_state.specs.Degraded.{AreAllDamaged}
use Rattle.stair_state.specs.Tolerance.{IsToleratedAlone}
use Rattle.stair_state.proofs.OutsideLemmas.{slot_now, slot_now_left}
use Rattle.stair_invariant.specs.Mixed.{WasOffline}
use Rattle.stair_reinsert.specs.Misled.{Emptied, IsMisled, IsToleratedAtWorst, IsWorstSlot, Left, cut_fence, empty_after, five, read_and_pulled, rack_of}
use Rattle.stair_reinsert_examples.proofs.CutFence.{are, at, cut, draws, current_media, live_then, newest_second, pulled, r0, r1, r3, r4, r5, r7, s7, tolerated_at, tolerates_pulled}
use Rattle.stair_reinsert_examples.proofs.FiveConsistent.{inside, made_consistent}
use Rattle.stair_reinsert_examples.proofs.FiveDevices.{IsDevice, IsWithin, Shows, current, identity}
use Rattle.stair_reinsert_examples.proofs.FiveMoments.{GoesOn, HoldsDevice, made_holds, online, settles}
use Rattle.stair_reinsert_examples.proofs.FiveSteps.{FiveSteps, Misses, Sees, asked_below, asked_each, rest_5, to_5}
use Rattle.stair_reinsert_examples.proofs.FiveSupers.{past_has, past_none}
use Rattle.stair_reinsert_examples.proofs.FiveSurvey.{down_reason, findings, five_cases, found_drawn, found_image, found_shows, found_stands, found_surveys, gone_reason, gones, here_reason, next_place, not_bare, not_has, past_five, seen_device}

-- slot 4, and those that the array hasn't
abbrev gone : Slots
gone = record { marks = false ∷ false ∷ false ∷ false ∷ true ∷ replicate 27 true }

abbrev seen : Slots
seen = record { marks = true ∷ true ∷ true ∷ true ∷ false ∷ replicate 27 false }

abbrev missing : Slots
missing = record { marks = false ∷ true ∷ true ∷ false ∷ true ∷ replicate 27 false }

abbrev whys : List Why
whys = why.Here ∷ why.MarkedDown ∷ why.MarkedDown ∷ why.Here ∷ why.Gone ∷ replicate 27 why.Here

abbrev member : Membership
member = member_of (cut_fence 0).array 5 whys (replicate 32 1)

module _ (words : Codewords) where
  abbrev new : List Happening
  new = read_and_pulled words

  -- HOW IT GOES

  made : (j : ℕ) → j < 5 → HoldsDevice words cut_fence j (slot_state (r0 words) j)
  made j below = made_holds words cut_fence j below

  steps : FiveSteps words cut_fence gone refl (r7 words)
  steps = record {
    x1 = r1 words;
    x2 = r3 words;
    x3 = r4 words;
    x4 = r5 words;
    s0 = Sees false≢true [] tt (made 0 (omega arith)) refl refl;
    s1 = Sees false≢true (Acted 0 (Pulled _) ∷ []) (
      tt,
      inl (
        omega arith,
        settles words cut_fence 0 (slot_state (r1 words) 0)
            (record { below = omega arith; size = (made 0 (omega arith)).size; sectors = (made 0 (omega arith)).sectors }),
      ),
    ) (made 1 (omega arith)) refl refl;
    s2 = Sees false≢true [] tt (made 2 (omega arith)) refl refl;
    s3 = Sees false≢true [] tt (made 3 (omega arith)) refl refl;
    s4 = Misses refl (Acted 4 (Pulled _) ∷ []) (tt, inl (omega arith, settles words cut_fence 4 (slot_state (r5 words) 4) (made 4 (omega arith)))) refl
        refl;
  }

  held : (j : ℕ) → j < 5 → ¬ HasSlot gone j → IsHeld (r0 words) new j
  unfolding empty_after
  held =
      five_cases (λ j. j < 5 → ¬ HasSlot gone j → IsHeld (r0 words) new j) (λ b seen. IsHeld.Unattached refl (omega arith))
      (λ b seen. InUse refl refl (omega arith)) (λ b seen. InUse refl refl (omega arith)) (λ b seen. InUse refl refl (omega arith))
      (λ b seen. absurd (seen refl)) (λ j past b. absurd (omega (arith, past, b)))

  to_7 : Ran any_call (r0 words) (r7 words)
  to_7 = to_5 words cut_fence gone refl (r7 words) steps pulled (s7 words).goes

  rest_7 : Ran any_call (r7 words) new
  rest_7 = rest_5 words cut_fence gone refl (r7 words) steps pulled (s7 words).goes

  -- WHAT IS ANSWERED

  abbrev image : Image
  image = found_image words cut_fence gone refl new

  past_gone : (j : ℕ) → 5 ≤ j → j < 32 → HasSlot gone j
  past_gone j past small = past_has false false false false true j past small

  shows : (j : ℕ) → Shows words cut_fence image j
  shows j = found_shows words cut_fence gone refl new (are words) past_gone 0 j

  newest : (j : ℕ) → IsDevice words cut_fence image j → ((cut_fence j).array.epoch < 5) ⊎ (((cut_fence j).array.epoch ≡ 5) × (0 ≤ j))
  newest =
      five_cases (λ j. IsDevice words cut_fence image j → ((cut_fence j).array.epoch < 5) ⊎ (((cut_fence j).array.epoch ≡ 5) × (0 ≤ j)))
      (λ is. inr (refl, omega arith)) (λ is. inl (omega arith)) (λ is. inl (omega arith)) (λ is. inl (omega arith)) (λ is. inl (omega arith))
      (λ j past is. let below : j < 5 = is.below in absurd (omega (arith, past, below)))

  is_current : IsCurrent five image (copy_of (cut_fence 0) 0)
  is_current = current words cut_fence (are words) image shows 0 (seen_device words cut_fence gone refl new 0 false≢true (omega arith)) newest

  many : 2 < slot_count seen
  unfolding sum_below
  many = let four : slot_count seen ≡ 4 = refl in omega (arith, four)

  stands : Identifies five image
  stands =
      found_stands words cut_fence gone refl new (are words) seen refl many
      (five_cases (λ j. HasSlot seen j → (j < 5) × ¬ HasSlot gone j) (λ has. (omega arith, false≢true)) (λ has. (omega arith, false≢true))
      (λ has. (omega arith, false≢true)) (λ has. (omega arith, false≢true)) (λ has. absurd (false≢true has))
      (λ j past has. absurd (false≢true (sym (past_none true true true true false j past) ∙ has))))

  reasons : (j : ℕ) → j < 5 → IsReason (HasSlot gone) five image (copy_of (cut_fence 0) 0) j (why_of member j)
  reasons =
      five_cases (λ j. j < 5 → IsReason (HasSlot gone) five image (copy_of (cut_fence 0) 0) j (why_of member j))
      (λ b. here_reason words cut_fence gone refl new (are words) past_gone 0 0 false≢true b refl refl)
      (λ b. down_reason words cut_fence gone refl new (are words) past_gone 0 1 false≢true b refl)
      (λ b. down_reason words cut_fence gone refl new (are words) past_gone 0 2 false≢true b refl)
      (λ b. here_reason words cut_fence gone refl new (are words) past_gone 0 3 false≢true b refl refl)
      (λ b. gone_reason words cut_fence gone refl new (are words) past_gone 0 4 refl) (λ j past b. absurd (omega (arith, past, b)))

  surveyed : IsSurveyed (findings words cut_fence gone refl new) member
  surveyed = record {
    identity = identity words cut_fence (are words) image shows stands;
    current = copy_of (cut_fence 0) 0;
    is_current = is_current;
    array = refl;
    drawn = found_drawn words cut_fence gone refl new (are words) shows 5 0 false≢true (omega arith) refl (draws words);
    reasons = reasons;
    absent = λ j past small. past_five why.Here why.MarkedDown why.MarkedDown why.Here why.Gone why.Here j past;
    places = λ j small.
        subst (IsNextPlace ((image j).cell)) (sym (get_or-replicate 32 j 1 0 small))
        (next_place words cut_fence gone refl new (are words) past_gone 0 j);
  }

  too_few : MoreThan 2 (IsMissing member)
  unfolding sum_below
  too_few = record {
    slots = missing;
    formed = refl;
    many = let three : slot_count missing ≡ 3 = refl in omega (arith, three);
    each =
        five_cases (λ j. HasSlot missing j → IsMissing member j) (λ has. absurd (false≢true has)) (λ has. record { below = omega arith; why = λ same. cc })
        (λ has. record { below = omega arith; why = λ same. cc }) (λ has. absurd (false≢true has))
        (λ has. record { below = omega arith; why = λ same. cc })
        (λ j past has. absurd (false≢true (sym (past_none false true true false true j past) ∙ has)));
  }

  pub misled : AreEncodingsOf five zero_blocks words → IsMisled (rack_of words cut_fence) (read_and_pulled words)
  misled encoded = record {
    consistent = made_consistent words cut_fence (are words) encoded (current_media words) 4 (cut words);
    tolerated = tolerated_at words;
    whys = whys;
    gones = gones words cut_fence gone refl new;
    surveys =
        found_surveys words cut_fence gone refl new (are words) (Err (TooFew whys))
        (asked_each words cut_fence gone refl (r7 words) steps pulled (s7 words).goes held past_gone)
        (asked_below words cut_fence gone refl (r7 words) steps pulled (s7 words).goes) (member, surveyed, refl, too_few);
  }

  -- WHAT IS WORST AT THE END

  abbrev away : Slots
  away = record { marks = true ∷ false ∷ false ∷ false ∷ true ∷ replicate 27 true }

  abbrev worst : Image
  worst = found_image words cut_fence away refl new

  past_away : (j : ℕ) → 5 ≤ j → j < 32 → HasSlot away j
  past_away j past small = past_has true false false false true j past small

  worst_shows : (j : ℕ) → Shows words cut_fence worst j
  worst_shows j = found_shows words cut_fence away refl new (are words) past_away 1 j

  -- the other three are away from neither set
  kept_there : (j : ℕ) → j < 5 → ¬ HasSlot pulled j → ¬ HasSlot away j
  kept_there =
      five_cases (λ j. j < 5 → ¬ HasSlot pulled j → ¬ HasSlot away j) (λ b kept. absurd (kept refl)) (λ b kept. false≢true) (λ b kept. false≢true)
      (λ b kept. false≢true) (λ b kept. absurd (kept refl)) (λ j past b. absurd (omega (arith, past, b)))

  worst_size : (j : ℕ) → ¬ HasSlot away j → j < 5 → (worst j).size ≡ Some 9
  worst_size j stays below =
      ap (λ (slot : SlotImage). slot.size) (cond-false _ _ _ (not_has away j stays) ∙ inside words cut_fence j below)

  worst_within : IsWithin words cut_fence pulled (λ j. (worst j).size ≡ None) worst 1
  worst_within = record {
    shows = worst_shows;
    first = seen_device words cut_fence away refl new 1 false≢true (omega arith);
    newest = λ j is.
        newest_second words j is.below
        (λ same.
        not_bare words cut_fence away refl new (are words) 0 refl (subst (λ (i : ℕ). IsDevice words cut_fence worst i) same is));
    kept = λ j below kept. seen_device words cut_fence away refl new j (kept_there j below kept) below;
    online = λ j below kept none.
        let both : ◌≡◌ {A = Option ℕ} (Some 9) None = sym (worst_size j (kept_there j below kept) below) ∙ none in absurd (cc);
    live = λ j below kept. (live_then words j below kept).0;
    joined = λ j below kept. (live_then words j below kept).1;
  }

  worst_alone : IsToleratedAlone five worst
  worst_alone = tolerates_pulled words (λ j. (worst j).size ≡ None) worst worst_within

  -- a slot past the five holds nothing
  none_past : (j : ℕ) → 5 ≤ j → ((worst j).size ≡ None) × AreAllDamaged (worst j).cell × WasOffline (r0 words) (r0 words) new j
  none_past j past =
      elim (has_or_not away j) [
        | inl has ↦ (ap (λ (slot : SlotImage). slot.size) (cond-true _ _ _ has), λ k. ap (λ (slot : SlotImage). slot.cell k) (cond-true _ _ _ has), offline)
        | inr out ↦ (
          ap (λ (slot : SlotImage). slot.size) (cond-false _ _ _ (not_has away j out) ∙ cond-false _ _ _ (le-ltb j 5 past)),
          λ k. ap (λ (slot : SlotImage). slot.cell k) (cond-false _ _ _ (not_has away j out) ∙ cond-false _ _ _ (le-ltb j 5 past)),
          offline,
        )
      ]
    where
      offline : WasOffline (r0 words) (r0 words) new j
      offline = record {
        moment = r0 words;
        is_one = moment_between {a = any_call} {b = any_call} (ran_none (r0 words)) (ran_join to_7 rest_7);
        holds = NoMedium (ap (λ (slot : SlotImage). slot.size) (cond-false _ _ _ (le-ltb j 5 past)));
      }

  at_each : (h : List Happening) → IsMoment (r0 words) h new → GoesOn words cut_fence pulled h
  at_each h moment = (at words h moment).goes

  -- and one that was never pulled is as it was made
  left_there : (j : ℕ) → j < 5 → ¬ HasSlot pulled j → IsWorstSlot (r0 words) (r0 words) new j (worst j)
  left_there j below kept =
      Left
      (λ offline.
      online words cut_fence pulled offline.moment (at_each offline.moment offline.is_one) j below kept offline.holds)
      (slot_now (slot_state new j)) (slot_now_left (slot_state new j)) (worst_size j (kept_there j below kept) below ∙ sym (last_holds.0).size)
      (λ k damaged_once.
      device.cells k
      ∙ sym (ap content (((at_each damaged_once.moment damaged_once.is_one).kept j below kept).0.sectors k))
      ∙ ap content damaged_once.holds)
      (λ k. inl (device.cells k ∙ sym (ap content (last_holds.0.sectors k))))
    where
      device : IsDevice words cut_fence worst j
      device = seen_device words cut_fence away refl new j (kept_there j below kept) below

      last_holds : HoldsDevice words cut_fence j (slot_state new j) × ((slot_state new j).pulls ≡ 0)
      last_holds = (at_each new (moment_between {a = any_call} {b = any_call} (ran_join to_7 rest_7) (ran_none new))).kept j below kept

  worst_slot : (j : ℕ) → IsWorstSlot (r0 words) (r0 words) new j (worst j)
  worst_slot =
      five_cases (λ j. IsWorstSlot (r0 words) (r0 words) new j (worst j))
      (Emptied (record { moment = r7 words; is_one = moment_between to_7 rest_7; holds = NoMedium refl }) refl (λ k. refl))
      (left_there 1 (omega arith) false≢true) (left_there 2 (omega arith) false≢true) (left_there 3 (omega arith) false≢true)
      (Emptied (record { moment = r7 words; is_one = moment_between to_7 rest_7; holds = NoMedium refl }) refl (λ k. refl))
      (λ j past. let none = none_past j past in Emptied none.2 none.0 none.1)

  pub tolerated_worst : IsToleratedAtWorst five (r0 words) (r0 words) new
  tolerated_worst = record { moments = tolerated_at words; worst = worst; is = worst_slot; alone = worst_alone }
