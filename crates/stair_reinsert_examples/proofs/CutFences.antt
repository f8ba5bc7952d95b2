-- The third history: two fences were cut, and while the rack is looked at the two devices that have an epoch of their own are pulled.
use Rattle.std.proofs.Common.{◌≡◌, ◌≢◌, ℕ, ◌<◌, ◌≤◌, List, [], ◌∷◌, ◌⊎◌, inl, inr, refl, ap, subst, arith, None, Some, false, true, replicate}
use Rattle.std.proofs.lemmas.Bool.{false≢true}
use Rattle.stair_model.specs.Slots.{HasSlot, Slots, slot_count}
use Rattle.stair_model.specs.Sum.{sum_below}
use Rattle.stair_rack.specs.History.{Acted, Attach, Called, Happening, Made, Pulled, Stopped, slot_state}
use Rattle.stair_rack.specs.Moments.{AtEveryMoment, IsMoment}
use Rattle.stair_rack.specs.Stretch.{NothingReturned, ReturnsNothing}
use Rattle.stair_rack.specs.declared.rack.Reply.TheVariants.{Gone}
use Rattle.stair_rack.proofs.MomentLemmas.{at_every_join}
use Rattle.stair_rack.proofs.StretchLemmas.{each_join, each_mapped}
use Rattle.stair_super.specs.Superblock.{IsSuperblock, joined_in, mark_in}
use Rattle.stair_super.specs.declared.configuration.Configuration.{Configuration}
use Rattle.stair_super.specs.declared.mark.Mark.TheVariants.{Down, Live}
use Rattle.stair_member.specs.Editions.{copy_of}
use Rattle.stair_state.specs.Blocks.{Codewords}
use Rattle.stair_state.specs.Holding.{CurrentMedia}
use Rattle.stair_state.specs.Tolerance.{IsTolerated}
use Rattle.stair_reinsert.specs.Counted.{IsToleratedCounted}
use Rattle.stair_reinsert.specs.Misled.{device_of, five, looked_at, made_of, only_pulled, two_fences}
use Rattle.stair_reinsert.specs.Still.{IsLook, IsStill}
use Rattle.stair_reinsert_examples.proofs.CutPromotion.{failed, few_failed, many_stand, stand, stand_kept}
use Rattle.stair_reinsert_examples.proofs.FiveConsistent.{IsCut}
use Rattle.stair_reinsert_examples.proofs.FiveCounted.{Stands, counted as counted_throughout, each_act, each_still, stands_still, tolerated_at as tolerated_throughout}
use Rattle.stair_reinsert_examples.proofs.FiveDevices.{AreEditions}
use Rattle.stair_reinsert_examples.proofs.FiveMoments.{HoldsDevice, goes_made, goes_pulled, made_holds, not_both}
use Rattle.stair_reinsert_examples.proofs.FiveSupers.{call_still, look_still, named_super}
use Rattle.stair_reinsert_examples.proofs.FiveSurvey.{empty_still, five_cases, past_five}

-- slot 0, which didn't draw the later epoch
abbrev undrawn : Slots
undrawn = record { marks = true ∷ replicate 31 false }

-- THE SUPERBLOCKS

live_up : Live ≢ Down
live_up same = cc

formed_first : IsSuperblock (copy_of (two_fences 0) 0)
formed_first =
    named_super 5 Live Live Down Down Live 1 1 0 0 1 (omega arith) (omega arith, omega arith) (omega arith, omega arith) refl refl
    (omega arith, omega arith) 5 0 (omega arith) (omega arith) (omega arith) live_up

formed_second : IsSuperblock (copy_of (two_fences 1) 1)
formed_second =
    named_super 6 Down Live Live Live Live 0 1 1 1 1 (omega arith) refl (omega arith, omega arith) (omega arith, omega arith)
    (omega arith, omega arith) (omega arith, omega arith) 6 1 (omega arith) (omega arith) (omega arith) live_up

formed_old : (j : ℕ) → j < 5 → mark_in (two_fences 2).array j ≢ Down → IsSuperblock (copy_of (two_fences 2) j)
formed_old j below up =
    named_super 4 Live Live Live Live Live 1 1 1 1 1 (omega arith) (omega arith, omega arith) (omega arith, omega arith) (omega arith, omega arith)
    (omega arith, omega arith) (omega arith, omega arith) 6 j (omega arith) (omega arith) below up

module _ (words : Codewords) where
  pub are : AreEditions words two_fences
  are = record {
    formed =
        five_cases (λ j. j < 5 → IsSuperblock (copy_of (two_fences j) j)) (λ b. formed_first) (λ b. formed_second) (λ b. formed_old 2 b live_up)
        (λ b. formed_old 3 b live_up) (λ b. formed_old 4 b live_up) (λ j past below. absurd (omega (arith, past, below)));
    of_five =
        five_cases (λ j. j < 5 → (two_fences j).array.geometry ≡ five) (λ b. refl) (λ b. refl) (λ b. refl) (λ b. refl) (λ b. refl)
        (λ j past below. absurd (omega (arith, past, below)));
  }

  -- IT IS CONSISTENT

  abbrev pub current_media : CurrentMedia
  current_media j = Some (joined_in (two_fences 2).array j)

  -- what holds of the three epochs holds of each slot's
  by_epoch : (P : Configuration → Type 0) → P (two_fences 0).array → P (two_fences 1).array → P (two_fences 2).array → (j : ℕ) → j < 5
      → P (two_fences j).array
  by_epoch P first second old =
      five_cases (λ j. j < 5 → P (two_fences j).array) (λ b. first) (λ b. second) (λ b. old) (λ b. old) (λ b. old)
      (λ j past below. absurd (omega (arith, past, below)))

  pub draws : (j : ℕ) → j < 5 → (two_fences j).draw ≤ 6
  draws =
      five_cases (λ j. j < 5 → (two_fences j).draw ≤ 6) (λ b. omega arith) (λ b. omega arith) (λ b. omega arith) (λ b. omega arith) (λ b. omega arith)
      (λ j past below. absurd (omega (arith, past, below)))

  upto : (j : ℕ) → j < 5 → (two_fences j).array.epoch ≤ 6
  upto = by_epoch (λ x. x.epoch ≤ 6) (omega arith) (omega arith) (omega arith)

  -- an epoch names one configuration
  one : (i j : ℕ) → i < 5 → j < 5 → (two_fences i).array.epoch ≡ (two_fences j).array.epoch → (two_fences i).array ≡ (two_fences j).array
  one i j i_in j_in =
      by_epoch (λ x. x.epoch ≡ (two_fences j).array.epoch → x ≡ (two_fences j).array)
      (by_epoch (λ y. 5 ≡ y.epoch → (two_fences 0).array ≡ y) (λ same. refl) (λ same. absurd (omega (arith, same))) (λ same. absurd (omega (arith, same))) j j_in)
      (by_epoch (λ y. 6 ≡ y.epoch → (two_fences 1).array ≡ y) (λ same. absurd (omega (arith, same))) (λ same. refl) (λ same. absurd (omega (arith, same))) j j_in)
      (by_epoch (λ y. 4 ≡ y.epoch → (two_fences 2).array ≡ y) (λ same. absurd (omega (arith, same))) (λ same. absurd (omega (arith, same))) (λ same. refl) j j_in)
      i i_in

  -- a slot that an epoch doesn't mark Down has one joined number in all
  held_then : (i j : ℕ) → i < 5 → mark_in (two_fences i).array j ≢ Down → joined_in (two_fences 2).array j ≡ joined_in (two_fences i).array j
  held_then i j below =
      by_epoch (λ x. mark_in x j ≢ Down → joined_in (two_fences 2).array j ≡ joined_in x j) (of_first j) (of_second j) (λ up. refl) i below
    where
      of_first : (j : ℕ) → mark_in (two_fences 0).array j ≢ Down → joined_in (two_fences 2).array j ≡ joined_in (two_fences 0).array j
      of_first =
          five_cases (λ j. mark_in (two_fences 0).array j ≢ Down → joined_in (two_fences 2).array j ≡ joined_in (two_fences 0).array j) (λ up. refl)
          (λ up. refl) (λ up. absurd (up refl)) (λ up. absurd (up refl)) (λ up. refl)
          (λ j past up. absurd (up (past_five Live Live Down Down Live Down j past)))

      of_second : (j : ℕ) → mark_in (two_fences 1).array j ≢ Down → joined_in (two_fences 2).array j ≡ joined_in (two_fences 1).array j
      of_second =
          five_cases (λ j. mark_in (two_fences 1).array j ≢ Down → joined_in (two_fences 2).array j ≡ joined_in (two_fences 1).array j)
          (λ up. absurd (up refl)) (λ up. refl) (λ up. refl) (λ up. refl) (λ up. refl)
          (λ j past up. absurd (up (past_five Down Live Live Live Live Down j past)))

  few_undrawn : slot_count undrawn ≤ 2
  unfolding sum_below
  few_undrawn = let one : slot_count undrawn ≡ 1 = refl in omega (arith, one)

  pub cut : IsCut words two_fences current_media 4
  cut = record {
    least = by_epoch (λ x. 4 ≤ x.epoch) (omega arith) (omega arith) (omega arith);
    drawn = record {
      exceptions = undrawn;
      formed = refl;
      few = few_undrawn;
      others =
          five_cases (λ j. j < 5 → ¬ HasSlot undrawn j → (i : ℕ) → i < 5 → (two_fences i).array.epoch ≤ (two_fences j).draw)
          (λ b out. absurd (out refl)) (λ b out i i_in. upto i i_in) (λ b out i i_in. upto i i_in) (λ b out i i_in. upto i i_in)
          (λ b out i i_in. upto i i_in) (λ j past below. absurd (omega (arith, past, below)));
    };
    held = λ i j below up. ap Some (held_then i j below up);
    frozen = by_epoch (λ x. x.frozen ≡ false) refl refl refl;
    label = by_epoch (λ x. x.label ≡ []) refl refl refl;
    one = one;
  }

  -- ITS MOMENTS

  abbrev pub q0 : List Happening
  q0 = made_of words two_fences

  abbrev pub q1 : List Happening
  q1 = looked_at 0 q0

  abbrev pub q2 : List Happening
  q2 = Acted 0 (Pulled (device_of words two_fences 0)) ∷ q1

  abbrev pub q3 : List Happening
  q3 = Acted 1 (Pulled (device_of words two_fences 1)) ∷ q2

  abbrev pub q4 : List Happening
  q4 = Called 1 (Attach Gone) ∷ q3

  abbrev pub q5 : List Happening
  q5 = looked_at 2 q4

  abbrev pub q6 : List Happening
  q6 = looked_at 3 q5

  abbrev pub q7 : List Happening
  q7 = looked_at 4 q6

  newest_then : (j : ℕ) → j < 5 → ((two_fences j).array.epoch < 6) ⊎ (((two_fences j).array.epoch ≡ 6) × (1 ≤ j))
  newest_then =
      five_cases (λ j. j < 5 → ((two_fences j).array.epoch < 6) ⊎ (((two_fences j).array.epoch ≡ 6) × (1 ≤ j))) (λ b. inl (omega arith))
      (λ b. inr (refl, omega arith)) (λ b. inl (omega arith)) (λ b. inl (omega arith)) (λ b. inl (omega arith))
      (λ j past below. absurd (omega (arith, past, below)))

  newest_left : (j : ℕ) → j < 5 → ¬ (j ≡ 0) → ¬ (j ≡ 1) → ((two_fences j).array.epoch < 4) ⊎ (((two_fences j).array.epoch ≡ 4) × (2 ≤ j))
  newest_left =
      five_cases (λ j. j < 5 → ¬ (j ≡ 0) → ¬ (j ≡ 1) → ((two_fences j).array.epoch < 4) ⊎ (((two_fences j).array.epoch ≡ 4) × (2 ≤ j)))
      (λ b zeroth first. absurd (zeroth refl)) (λ b zeroth first. absurd (first refl)) (λ b zeroth first. inr (refl, omega arith))
      (λ b zeroth first. inr (refl, omega arith)) (λ b zeroth first. inr (refl, omega arith)) (λ j past below. absurd (omega (arith, past, below)))

  live_then : (j : ℕ) → j < 5 → ¬ HasSlot failed j
      → (mark_in (two_fences 1).array j ≡ Live) × (joined_in (two_fences j).array j ≡ joined_in (two_fences 1).array j)
  live_then =
      five_cases
      (λ j. j < 5 → ¬ HasSlot failed j → (mark_in (two_fences 1).array j ≡ Live) × (joined_in (two_fences j).array j ≡ joined_in (two_fences 1).array j))
      (λ b kept. absurd (kept refl)) (λ b kept. absurd (kept refl)) (λ b kept. (refl, refl)) (λ b kept. (refl, refl)) (λ b kept. (refl, refl))
      (λ j past below. absurd (omega (arith, past, below)))

  live_left : (j : ℕ) → j < 5 → ¬ HasSlot failed j
      → (mark_in (two_fences 2).array j ≡ Live) × (joined_in (two_fences j).array j ≡ joined_in (two_fences 2).array j)
  live_left =
      five_cases
      (λ j. j < 5 → ¬ HasSlot failed j → (mark_in (two_fences 2).array j ≡ Live) × (joined_in (two_fences j).array j ≡ joined_in (two_fences 2).array j))
      (λ b kept. absurd (kept refl)) (λ b kept. absurd (kept refl)) (λ b kept. (refl, refl)) (λ b kept. (refl, refl)) (λ b kept. (refl, refl))
      (λ j past below. absurd (omega (arith, past, below)))

  -- the current superblock is slot 1's, and slot 2's once that one is pulled
  abbrev At : List Happening → Type 0
  At h = Stands words two_fences failed h

  s0 : At q0
  s0 = record {
    goes = goes_made words two_fences failed;
    current = 1;
    now = record { first = made_holds words two_fences 1 (omega arith); newest = λ j is. newest_then j is.below };
    live = live_then;
  }

  s1 : At q1
  s1 = stands_still words two_fences failed q0 q1 (look_still q0 0) s0

  s2 : At q2
  s2 = record {
    goes = goes_pulled words two_fences failed q1 0 (device_of words two_fences 0) refl s1.goes;
    current = 1;
    now = record { first = made_holds words two_fences 1 (omega arith); newest = λ j is. newest_then j is.below };
    live = live_then;
  }

  away : (i j : ℕ) → (slot_state q3 i).size ≡ None → HoldsDevice words two_fences j (slot_state q3 j) → ¬ (j ≡ i)
  away i j none is same = not_both words two_fences i (slot_state q3 i) none (subst (λ (n : ℕ). HoldsDevice words two_fences n (slot_state q3 n)) same is)

  s3 : At q3
  s3 = record {
    goes = goes_pulled words two_fences failed q2 1 (device_of words two_fences 1) refl s2.goes;
    current = 2;
    now = record {
      first = made_holds words two_fences 2 (omega arith);
      newest = λ j is. newest_left j is.below (away 0 j refl is) (away 1 j refl is);
    };
    live = live_left;
  }

  s4 : At q4
  s4 = stands_still words two_fences failed q3 q4 (call_still q3 1) s3

  s5 : At q5
  s5 = stands_still words two_fences failed q4 q5 (look_still q4 2) s4

  s6 : At q6
  s6 = stands_still words two_fences failed q5 q6 (look_still q5 3) s5

  pub s7 : At q7
  s7 = stands_still words two_fences failed q6 q7 (look_still q6 4) s6

  -- the calls that follow both
  looks : IsStill q3 (only_pulled words)
  looks =
      each_join (call_still q3 1)
      (each_join (look_still q4 2) (each_join (look_still q5 3) (each_join (look_still q6 4) (empty_still 27 q7))))

  throughout : AtEveryMoment At q0 (only_pulled words)
  throughout =
      at_every_join (each_still words two_fences failed q0 q1 s0 (look_still q0 0))
      (at_every_join (each_act words two_fences failed q1 0 (Pulled (device_of words two_fences 0)) s1 s2)
      (at_every_join (each_act words two_fences failed q2 1 (Pulled (device_of words two_fences 1)) s2 s3)
      (each_still words two_fences failed q3 (only_pulled words) s3 looks)))

  pub tolerated_at : (h : List Happening) → IsMoment q0 h (only_pulled words) → IsTolerated five q0 h
  tolerated_at =
      tolerated_throughout words two_fences failed are refl few_failed stand refl many_stand stand_kept 2 (omega arith) false≢true (only_pulled words)
      throughout

  pub counted : IsToleratedCounted five q0 q0 (only_pulled words)
  counted =
      counted_throughout words two_fences failed are refl few_failed stand refl many_stand stand_kept 2 (omega arith) false≢true (only_pulled words)
      throughout

  -- nothing comes back
  none_by : (x y : List Happening) → IsStill x y → NothingReturned x y
  none_by x y still = each_mapped {P = IsLook} {Q = ReturnsNothing} each still
    where
      each : (h : List Happening) (e : Happening) → IsLook h e → ReturnsNothing h e
      each h (Made image) is = absurd is
      each h Stopped is = absurd is
      each h (Acted j act) is = absurd is
      each h (Called j call) is = tt

  pub none_returned : NothingReturned q0 (only_pulled words)
  none_returned =
      each_join (none_by q0 q1 (look_still q0 0))
      (each_join
      (record {
        more = Acted 1 (Pulled (device_of words two_fences 1)) ∷ Acted 0 (Pulled (device_of words two_fences 0)) ∷ [];
        is = refl;
        each = ((tt, tt), tt);
      })
      (none_by q3 (only_pulled words) looks))
