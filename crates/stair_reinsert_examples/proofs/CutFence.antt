-- The second history: a fence was cut, and while the rack is looked at the one device with the new epoch is pulled, and then another one.
use Rattle.std.proofs.Common.{◌≡◌, ◌≢◌, ℕ, ◌<◌, ◌≤◌, List, [], ◌∷◌, ◌⊎◌, inl, inr, refl, sym, ap, ◌∙◌, subst, arith, None, Some, false, true, replicate}
use Rattle.std.proofs.lemmas.Bool.{cases_lt, cond-true, cond-false, false≢true, lt-ltb, le-ltb}
use Rattle.stair_model.specs.Slots.{HasSlot, Slots, slot_count}
use Rattle.stair_model.specs.Sum.{sum_below}
use Rattle.stair_rack.specs.History.{Acted, Attach, Called, Happening, Pulled, slot_state}
use Rattle.stair_rack.specs.Media.{Image}
use Rattle.stair_rack.specs.Moments.{AtEveryMoment, IsMoment}
use Rattle.stair_rack.specs.declared.rack.Reply.TheVariants.{Gone}
use Rattle.stair_rack.proofs.MomentLemmas.{at_every_join, at_moment}
use Rattle.stair_super.specs.Superblock.{IsSuperblock, joined_in, mark_in}
use Rattle.stair_super.specs.declared.configuration.Configuration.{Configuration}
use Rattle.stair_super.specs.declared.mark.Mark.TheVariants.{Down, Live}
use Rattle.stair_member.specs.Editions.{Edition, copy_of}
use Rattle.stair_state.specs.Blocks.{Codewords}
use Rattle.stair_state.specs.Holding.{CurrentMedia}
use Rattle.stair_state.specs.Tolerance.{IsTolerated, IsWithinTolerance}
use Rattle.stair_reinsert.specs.Misled.{cut_fence, device_of, empty_after, five, looked_at, made_of, read_and_pulled}
use Rattle.stair_reinsert.specs.Still.{IsStill}
use Rattle.stair_reinsert_examples.proofs.FiveConsistent.{IsCut}
use Rattle.stair_reinsert_examples.proofs.FiveCounted.{Stands, stands_still, tolerated}
use Rattle.stair_reinsert_examples.proofs.FiveDevices.{AreEditions, IsWithin, tolerates}
use Rattle.stair_reinsert_examples.proofs.FiveMoments.{GoesOn, HoldsDevice, act_each, goes_made, goes_pulled, goes_still, made_holds, not_both, still_each}
use Rattle.stair_reinsert_examples.proofs.FiveSupers.{call_still, look_still, named_super, past_none}
use Rattle.stair_reinsert_examples.proofs.FiveSurvey.{empty_still, five_cases, past_five}

-- slots 1 and 2, which the new epoch marks Down; and 0 and 4, which are pulled
abbrev down : Slots
down = record { marks = false ∷ true ∷ true ∷ false ∷ false ∷ replicate 27 false }

abbrev beside_down : Slots
beside_down = record { marks = true ∷ false ∷ false ∷ true ∷ true ∷ replicate 27 false }

abbrev pub pulled : Slots
pulled = record { marks = true ∷ false ∷ false ∷ false ∷ true ∷ replicate 27 false }

abbrev beside_pulled : Slots
beside_pulled = record { marks = false ∷ true ∷ true ∷ true ∷ false ∷ replicate 27 false }

-- THE SUPERBLOCKS

new_array : (j : ℕ) → j < 1 → (cut_fence j).array ≡ (cut_fence 0).array
new_array j below = ap (λ (x : Edition). x.array) (cond-true _ _ _ (lt-ltb j 1 below))

old_array : (j : ℕ) → 1 ≤ j → (cut_fence j).array ≡ (cut_fence 1).array
old_array j above = ap (λ (x : Edition). x.array) (cond-false _ _ _ (le-ltb j 1 above))

live_up : Live ≢ Down
live_up same = cc

formed_first : IsSuperblock (copy_of (cut_fence 0) 0)
formed_first =
    named_super 5 Live Down Down Live Live 1 0 0 1 1 (omega arith) (omega arith, omega arith) refl refl (omega arith, omega arith)
    (omega arith, omega arith) 5 0 (omega arith) (omega arith) (omega arith) live_up

formed_later : (draw j : ℕ) → draw < 6 → 4 ≤ draw → j < 5 → mark_in (cut_fence 1).array j ≢ Down
    → IsSuperblock (copy_of (record { array = (cut_fence 1).array; draw = draw }) j)
formed_later draw j small least below up =
    named_super 4 Live Live Live Live Live 1 1 1 1 1 (omega arith) (omega arith, omega arith) (omega arith, omega arith) (omega arith, omega arith)
    (omega arith, omega arith) (omega arith, omega arith) draw j (omega (arith, small)) least below up

module _ (words : Codewords) where
  pub are : AreEditions words cut_fence
  are = record {
    formed =
        five_cases (λ j. j < 5 → IsSuperblock (copy_of (cut_fence j) j)) (λ b. formed_first)
        (λ b. formed_later 4 1 (omega arith) (omega arith) b live_up) (λ b. formed_later 4 2 (omega arith) (omega arith) b live_up)
        (λ b. formed_later 5 3 (omega arith) (omega arith) b live_up) (λ b. formed_later 5 4 (omega arith) (omega arith) b live_up)
        (λ j past below. absurd (omega (arith, past, below)));
    of_five =
        five_cases (λ j. j < 5 → (cut_fence j).array.geometry ≡ five) (λ b. refl) (λ b. refl) (λ b. refl) (λ b. refl) (λ b. refl)
        (λ j past below. absurd (omega (arith, past, below)));
  }

  -- IT IS CONSISTENT

  abbrev pub current_media : CurrentMedia
  current_media j = Some (joined_in (cut_fence 1).array j)

  pub epochs : (j : ℕ) → (4 ≤ (cut_fence j).array.epoch) × ((cut_fence j).array.epoch ≤ 5) × ((cut_fence j).array.frozen ≡ false)
      × ((cut_fence j).array.label ≡ [])
  epochs j =
      elim (cases_lt j 1) [
        | inl below ↦
            subst (λ (x : Configuration). (4 ≤ x.epoch) × (x.epoch ≤ 5) × (x.frozen ≡ false) × (x.label ≡ [])) (sym (new_array j below))
            (omega arith, omega arith, refl, refl)
        | inr above ↦
            subst (λ (x : Configuration). (4 ≤ x.epoch) × (x.epoch ≤ 5) × (x.frozen ≡ false) × (x.label ≡ [])) (sym (old_array j above))
            (omega arith, omega arith, refl, refl)
      ]

  pub draws : (j : ℕ) → j < 5 → (cut_fence j).draw ≤ 5
  draws =
      five_cases (λ j. j < 5 → (cut_fence j).draw ≤ 5) (λ b. omega arith) (λ b. omega arith) (λ b. omega arith) (λ b. omega arith) (λ b. omega arith)
      (λ j past below. absurd (omega (arith, past, below)))

  one : (i j : ℕ) → (cut_fence i).array.epoch ≡ (cut_fence j).array.epoch → (cut_fence i).array ≡ (cut_fence j).array
  one i j same =
      elim (cases_lt i 1) [
        | inl below ↦
            elim (cases_lt j 1) [
              | inl also ↦ new_array i below ∙ sym (new_array j also)
              | inr other ↦
                  absurd
                  (omega (
                    arith,
                    sym (ap (λ (x : Configuration). x.epoch) (new_array i below)) ∙ same ∙ ap (λ (x : Configuration). x.epoch) (old_array j other),
                  ))
            ]
        | inr above ↦
            elim (cases_lt j 1) [
              | inl other ↦
                  absurd
                  (omega (
                    arith,
                    sym (ap (λ (x : Configuration). x.epoch) (old_array i above)) ∙ same ∙ ap (λ (x : Configuration). x.epoch) (new_array j other),
                  ))
              | inr also ↦ old_array i above ∙ sym (old_array j also)
            ]
      ]

  -- what the new epoch doesn't mark Down is as by the old one
  held_first : (j : ℕ) → mark_in (cut_fence 0).array j ≢ Down → joined_in (cut_fence 1).array j ≡ joined_in (cut_fence 0).array j
  held_first =
      five_cases (λ j. mark_in (cut_fence 0).array j ≢ Down → joined_in (cut_fence 1).array j ≡ joined_in (cut_fence 0).array j) (λ up. refl)
      (λ up. absurd (up refl)) (λ up. absurd (up refl)) (λ up. refl) (λ up. refl)
      (λ j past up. absurd (up (past_five Live Down Down Live Live Down j past)))

  held_then : (i j : ℕ) → mark_in (cut_fence i).array j ≢ Down → joined_in (cut_fence 1).array j ≡ joined_in (cut_fence i).array j
  held_then i j up =
      elim (cases_lt i 1) [
        | inl below ↦
            subst (λ (x : Configuration). joined_in (cut_fence 1).array j ≡ joined_in x j) (sym (new_array i below))
            (held_first j (λ down. up (ap (λ (x : Configuration). mark_in x j) (new_array i below) ∙ down)))
        | inr above ↦ ap (λ (x : Configuration). joined_in x j) (sym (old_array i above))
      ]

  few_down : slot_count down ≤ 2
  unfolding sum_below
  few_down = let two : slot_count down ≡ 2 = refl in omega (arith, two)

  pub cut : IsCut words cut_fence current_media 4
  cut = record {
    least = λ j below. (epochs j).0;
    drawn = record {
      exceptions = down;
      formed = refl;
      few = few_down;
      others =
          five_cases (λ j. j < 5 → ¬ HasSlot down j → (i : ℕ) → i < 5 → (cut_fence i).array.epoch ≤ (cut_fence j).draw)
          (λ b out i i_in. (epochs i).1) (λ b out. absurd (out refl)) (λ b out. absurd (out refl)) (λ b out i i_in. (epochs i).1)
          (λ b out i i_in. (epochs i).1) (λ j past below. absurd (omega (arith, past, below)));
    };
    held = λ i j below up. ap Some (held_then i j up);
    frozen = λ j below. (epochs j).2;
    label = λ j below. (epochs j).3;
    one = λ i j i_in j_in same. one i j same;
  }

  -- ITS MOMENTS

  abbrev pub r0 : List Happening
  r0 = made_of words cut_fence

  abbrev pub r1 : List Happening
  r1 = looked_at 0 r0

  abbrev pub r2 : List Happening
  r2 = Acted 0 (Pulled (device_of words cut_fence 0)) ∷ r1

  abbrev pub r3 : List Happening
  r3 = looked_at 1 r2

  abbrev pub r4 : List Happening
  r4 = looked_at 2 r3

  abbrev pub r5 : List Happening
  r5 = looked_at 3 r4

  abbrev pub r6 : List Happening
  r6 = Acted 4 (Pulled (device_of words cut_fence 4)) ∷ r5

  abbrev pub r7 : List Happening
  r7 = Called 4 (Attach Gone) ∷ r6

  live_beside : (j : ℕ) → j < 5 → ¬ HasSlot down j
      → (mark_in (cut_fence 0).array j ≡ Live) × (joined_in (cut_fence j).array j ≡ joined_in (cut_fence 0).array j)
  live_beside =
      five_cases
      (λ j. j < 5 → ¬ HasSlot down j → (mark_in (cut_fence 0).array j ≡ Live) × (joined_in (cut_fence j).array j ≡ joined_in (cut_fence 0).array j))
      (λ b kept. (refl, refl)) (λ b kept. absurd (kept refl)) (λ b kept. absurd (kept refl)) (λ b kept. (refl, refl)) (λ b kept. (refl, refl))
      (λ j past below. absurd (omega (arith, past, below)))

  pub live_then : (j : ℕ) → j < 5 → ¬ HasSlot pulled j
      → (mark_in (cut_fence 1).array j ≡ Live) × (joined_in (cut_fence j).array j ≡ joined_in (cut_fence 1).array j)
  live_then =
      five_cases
      (λ j. j < 5 → ¬ HasSlot pulled j → (mark_in (cut_fence 1).array j ≡ Live) × (joined_in (cut_fence j).array j ≡ joined_in (cut_fence 1).array j))
      (λ b kept. absurd (kept refl)) (λ b kept. (refl, refl)) (λ b kept. (refl, refl)) (λ b kept. (refl, refl)) (λ b kept. absurd (kept refl))
      (λ j past below. absurd (omega (arith, past, below)))

  -- By slot 0's superblock, which marks slots 1 and 2 Down, and by slot 1's once that one is pulled. Slots 1, 2 and 3 never are.
  pub record AtMoment (h : List Happening) : Type 0 where
    pub goes : GoesOn words cut_fence pulled h
    pub stands : Stands words cut_fence down h ⊎ Stands words cut_fence pulled h

  newest_first : (j : ℕ) → j < 5 → ((cut_fence j).array.epoch < 5) ⊎ (((cut_fence j).array.epoch ≡ 5) × (0 ≤ j))
  newest_first =
      five_cases (λ j. j < 5 → ((cut_fence j).array.epoch < 5) ⊎ (((cut_fence j).array.epoch ≡ 5) × (0 ≤ j))) (λ b. inr (refl, omega arith))
      (λ b. inl (omega arith)) (λ b. inl (omega arith)) (λ b. inl (omega arith)) (λ b. inl (omega arith))
      (λ j past below. absurd (omega (arith, past, below)))

  pub newest_second : (j : ℕ) → j < 5 → ¬ (j ≡ 0) → ((cut_fence j).array.epoch < 4) ⊎ (((cut_fence j).array.epoch ≡ 4) × (1 ≤ j))
  newest_second =
      five_cases (λ j. j < 5 → ¬ (j ≡ 0) → ((cut_fence j).array.epoch < 4) ⊎ (((cut_fence j).array.epoch ≡ 4) × (1 ≤ j)))
      (λ b other. absurd (other refl)) (λ b other. inr (refl, omega arith)) (λ b other. inr (refl, omega arith)) (λ b other. inr (refl, omega arith))
      (λ b other. inr (refl, omega arith)) (λ j past below. absurd (omega (arith, past, below)))

  s0 : AtMoment r0
  s0 = record {
    goes = goes_made words cut_fence pulled;
    stands =
        inl (record {
          goes = goes_made words cut_fence down;
          current = 0;
          now = record { first = made_holds words cut_fence 0 (omega arith); newest = λ j is. newest_first j is.below };
          live = live_beside;
        });
  }

  still_on : (x y : List Happening) → IsStill x y → AtMoment x → AtMoment y
  still_on x y still s = record {
    goes = goes_still words cut_fence pulled x y still s.goes;
    stands =
        elim s.stands [
          | inl by_first ↦ inl (stands_still words cut_fence down x y still by_first)
          | inr by_second ↦ inr (stands_still words cut_fence pulled x y still by_second)
        ];
  }

  s1 : AtMoment r1
  s1 = still_on r0 r1 (look_still r0 0) s0

  -- while slot 0 holds nothing
  without_first : (h : List Happening) → (slot_state h 0).size ≡ None → HoldsDevice words cut_fence 1 (slot_state h 1) → GoesOn words cut_fence pulled h
      → AtMoment h
  without_first h none holds goes = record {
    goes = goes;
    stands =
        inr (record {
          goes = goes;
          current = 1;
          now = record {
            first = holds;
            newest = λ j is.
                newest_second j is.below
                (λ same.
                not_both words cut_fence 0 (slot_state h 0) none (subst (λ (i : ℕ). HoldsDevice words cut_fence i (slot_state h i)) same is));
          };
          live = live_then;
        });
  }

  s2 : AtMoment r2
  s2 =
      without_first r2 refl (made_holds words cut_fence 1 (omega arith))
      (goes_pulled words cut_fence pulled r1 0 (device_of words cut_fence 0) refl s1.goes)

  s3 : AtMoment r3
  s3 = still_on r2 r3 (look_still r2 1) s2

  s4 : AtMoment r4
  s4 = still_on r3 r4 (look_still r3 2) s3

  s5 : AtMoment r5
  s5 = still_on r4 r5 (look_still r4 3) s4

  s6 : AtMoment r6
  s6 =
      without_first r6 refl
      (record {
        below = omega arith;
        size = (made_holds words cut_fence 1 (omega arith)).size;
        sectors = (made_holds words cut_fence 1 (omega arith)).sectors;
      })
      (goes_pulled words cut_fence pulled r5 4 (device_of words cut_fence 4) refl s5.goes)

  pub s7 : AtMoment r7
  s7 = still_on r6 r7 (call_still r6 4) s6

  still : (x y : List Happening) → AtMoment x → IsStill x y → AtEveryMoment AtMoment x y
  still x y s is = still_each words cut_fence AtMoment (λ m part. still_on x m part s) is

  throughout : AtEveryMoment AtMoment r0 (read_and_pulled words)
  throughout =
      at_every_join (still r0 r1 s0 (look_still r0 0))
      (at_every_join (act_each words cut_fence AtMoment r1 0 (Pulled (device_of words cut_fence 0)) s1 s2)
      (at_every_join (still r2 r3 s2 (look_still r2 1))
      (at_every_join (still r3 r4 s3 (look_still r3 2))
      (at_every_join (still r4 r5 s4 (look_still r4 3))
      (at_every_join (act_each words cut_fence AtMoment r5 4 (Pulled (device_of words cut_fence 4)) s5 s6)
      (at_every_join (still r6 r7 s6 (call_still r6 4))
      (still r7 (empty_after 27 r7) s7 (empty_still 27 r7))))))))

  -- TOLERANCE

  pub few_pulled : slot_count pulled ≤ 2
  unfolding sum_below
  few_pulled = let two : slot_count pulled ≡ 2 = refl in omega (arith, two)

  many_down : 2 < slot_count beside_down
  unfolding sum_below
  many_down = let three : slot_count beside_down ≡ 3 = refl in omega (arith, three)

  many_pulled : 2 < slot_count beside_pulled
  unfolding sum_below
  many_pulled = let three : slot_count beside_pulled ≡ 3 = refl in omega (arith, three)

  beside_down_kept : (j : ℕ) → HasSlot beside_down j → (j < 5) × ¬ HasSlot down j
  beside_down_kept =
      five_cases (λ j. HasSlot beside_down j → (j < 5) × ¬ HasSlot down j) (λ has. (omega arith, λ out. false≢true out)) (λ has. absurd (false≢true has))
      (λ has. absurd (false≢true has)) (λ has. (omega arith, λ out. false≢true out)) (λ has. (omega arith, λ out. false≢true out))
      (λ j past has. absurd (false≢true (sym (past_none true false false true true j past) ∙ has)))

  beside_pulled_kept : (j : ℕ) → HasSlot beside_pulled j → (j < 5) × ¬ HasSlot pulled j
  beside_pulled_kept =
      five_cases (λ j. HasSlot beside_pulled j → (j < 5) × ¬ HasSlot pulled j) (λ has. absurd (false≢true has)) (λ has. (omega arith, λ out. false≢true out))
      (λ has. (omega arith, λ out. false≢true out)) (λ has. (omega arith, λ out. false≢true out)) (λ has. absurd (false≢true has))
      (λ j past has. absurd (false≢true (sym (past_none false true true true false j past) ∙ has)))

  -- where slots 0 and 4 have failed
  pub tolerates_pulled : (offline : ℕ → Type 0) (image : Image) → IsWithin words cut_fence pulled offline image 1 → IsWithinTolerance offline five image
  tolerates_pulled offline image is =
      tolerates words cut_fence are pulled refl few_pulled beside_pulled refl many_pulled beside_pulled_kept 3 (omega arith) false≢true offline image 1 is

  pub at : (h : List Happening) → IsMoment r0 h (read_and_pulled words) → AtMoment h
  at h moment = at_moment {P = AtMoment} throughout moment

  pub tolerated_at : (h : List Happening) → IsMoment r0 h (read_and_pulled words) → IsTolerated five r0 h
  tolerated_at h moment =
      elim (at h moment).stands [
        | inl s ↦ tolerated words cut_fence down are refl few_down beside_down refl many_down beside_down_kept 3 (omega arith) false≢true h s
        | inr s ↦ tolerated words cut_fence pulled are refl few_pulled beside_pulled refl many_pulled beside_pulled_kept 3 (omega arith) false≢true h s
      ]
