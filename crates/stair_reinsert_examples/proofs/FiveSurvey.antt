-- A survey of five devices, of which some are gone when their slots are attached.
use Rattle.std.specs.Prelude.{◌&&◌, Result, is_some, not as negated}
use Rattle.std.proofs.Common.{◌≡◌, ◌≢◌, ℕ, zero, suc, ◌+◌, ◌-◌, ◌<◌, ◌≤◌, List, [], ◌∷◌, inl, inr, refl, sym, ap, ◌∙◌, subst, arith, Bool, Option, None, false, true, replicate, slice_index_or, if◌then◌else◌}
use Rattle.std.proofs.lemmas.Bool.{cases_Bool, cases_lt, cond-true, cond-false, le-ltb}
use Rattle.stair_model.specs.Slots.{HasSlot, IsSlotSet, Slots, has_slot, slot_count}
use Rattle.stair_rack.specs.Answers.{Calls, Ran, Told, any_call, is_ready, reply_if}
use Rattle.stair_rack.specs.History.{Attach, Called, Happening, Read, empty_slot, slot_state, stopped}
use Rattle.stair_rack.specs.Media.{Image, SlotImage}
use Rattle.stair_rack.specs.Offline.{IsHeld, IsOffline, NoMedium}
use Rattle.stair_rack.specs.RackCounts.{IsLaterCount}
use Rattle.stair_rack.specs.Sector.{Damaged, content}
use Rattle.stair_rack.specs.RackState.{IsReading, RackState, rack_state}
use Rattle.stair_rack.specs.declared.rack.Got.TheVariants as got
use Rattle.stair_rack.specs.declared.rack.Reply.TheVariants.{Done, Gone}
use Rattle.stair_rack.proofs.MomentLemmas.{calls_ran, moment_between, ran_any, ran_join, ran_none}
use Rattle.stair_rack.proofs.OfflineLemmas.{pulls_on}
use Rattle.stair_rack.proofs.TidyLemmas.{history_made}
use Rattle.stair_super.specs.Superblock.{Superblock, joined_at, mark_at}
use Rattle.stair_super.specs.declared.mark.Mark.TheVariants as mark
use Rattle.stair_member.specs.Asked.{AsksBelow, FoundBoth, FoundNone, NotThere}
use Rattle.stair_member.specs.Editions.{Edition, copy_of}
use Rattle.stair_member.specs.Findings.{AreFound, Findings, IsFound, IsPlaceFound, Read as WasReadSo, Unread}
use Rattle.stair_member.specs.Membership.{Membership}
use Rattle.stair_member.specs.Reasons.{Applies, IsReason, rank}
use Rattle.stair_member.specs.Superblocks.{Counts, HoldsSuper, Identifies, IsSuperOf}
use Rattle.stair_member.specs.Survey.{InFirst, IsAnswer, IsGreatestDraw, IsNextPlace, IsPlaceOf, Surveys}
use Rattle.stair_member.specs.declared.fault.SurveyFault.{SurveyFault}
use Rattle.stair_member.specs.declared.why.Why.{Why}
use Rattle.stair_member.specs.declared.why.Why.TheVariants as why
use Rattle.stair_member.proofs.CountingLemmas.{has_or_not}
use Rattle.stair_member.proofs.SuperLemmas.{counts_bears, one_super, super_held}
use Rattle.stair_state.specs.Blocks.{Codewords}
use Rattle.stair_state.proofs.FormLemmas.{good_whole}
use Rattle.stair_invariant.proofs.NewSessionLemmas.{any_entry}
use Rattle.stair_reinsert.specs.Misled.{device_cell, empty_after, five, made_of, rack_of}
use Rattle.stair_reinsert.specs.Still.{IsStill}
use Rattle.stair_reinsert_examples.proofs.FiveConsistent.{in_place}
use Rattle.stair_reinsert_examples.proofs.FiveDevices.{AreEditions, Bare, InPlace, IsDevice, Shows, borne_own, device_counts, device_holds, device_super, place_cell}
use Rattle.stair_reinsert_examples.proofs.FiveMoments.{GoesOn, Holding, HoldsDevice, SlotIs, Without, goes_still}

-- LISTS OF 32

pub past_five : {A : Type 0} → (a b c d e x : A) (j : ℕ) → 5 ≤ j → slice_index_or (a ∷ b ∷ c ∷ d ∷ e ∷ replicate 27 x) j x ≡ x
past_five a b c d e x zero past = absurd (omega (arith, past))
past_five a b c d e x (suc zero) past = absurd (omega (arith, past))
past_five a b c d e x (suc (suc zero)) past = absurd (omega (arith, past))
past_five a b c d e x (suc (suc (suc zero))) past = absurd (omega (arith, past))
past_five a b c d e x (suc (suc (suc (suc zero)))) past = absurd (omega (arith, past))
past_five a b c d e x (suc (suc (suc (suc (suc i))))) past = any_entry 27 i x

pub five_cases : (P : ℕ → Type 0) → P 0 → P 1 → P 2 → P 3 → P 4 → ((j : ℕ) → 5 ≤ j → P j) → (j : ℕ) → P j
five_cases P a b c d e rest zero = a
five_cases P a b c d e rest (suc zero) = b
five_cases P a b c d e rest (suc (suc zero)) = c
five_cases P a b c d e rest (suc (suc (suc zero))) = d
five_cases P a b c d e rest (suc (suc (suc (suc zero)))) = e
five_cases P a b c d e rest (suc (suc (suc (suc (suc i))))) = rest (suc (suc (suc (suc (suc i))))) (omega arith)

pub not_has : (set : Slots) (j : ℕ) → ¬ HasSlot set j → has_slot set j ≡ false
not_has set j out = elim (cases_Bool (has_slot set j)) [ inl has ↦ absurd (out has) | inr is ↦ is ]

-- SLOTS THAT HOLD NOTHING

pub empty_still : (count : ℕ) (h : List Happening) → IsStill h (empty_after count h)
unfolding empty_after
empty_still zero h = record { more = []; is = refl; each = tt }
empty_still (suc count) h =
    let before = empty_still count h in
    record {
      more = Called (count + 5) (Attach Gone) ∷ before.more;
      is = ap (λ (x : List Happening). Called (count + 5) (Attach Gone) ∷ x) before.is;
      each = (before.each, tt);
    }

module _ (words : Codewords) (editions : ℕ → Edition) (failed : Slots) (old h : List Happening) (goes : GoesOn words editions failed h) where
  none_there : (count : ℕ) → (slot_state (empty_after count h) (count + 5)).size ≡ None
  none_there count =
      by ((goes_still words editions failed h (empty_after count h) (empty_still count h) goes).slots (count + 5))
    where
      by : SlotIs words editions (count + 5) (slot_state (empty_after count h) (count + 5)) → (slot_state (empty_after count h) (count + 5)).size ≡ None
      by (Holding holds) = let below : count + 5 < 5 = holds.below in absurd (omega arith)
      by (Without none all) = none

  pub empty_call : (count : ℕ) → Calls (empty_after count h) (empty_after (suc count) h) (count + 5) (Attach Gone)
  unfolding empty_after
  empty_call count = Told [] tt (sym (ap (λ (o : Option ℕ). reply_if (is_some o && negated (stopped (empty_after count h)))) (none_there count))) refl

  pub empty_asked : AsksBelow 5 old h → (count : ℕ) → AsksBelow (count + 5) old (empty_after count h)
  unfolding empty_after
  empty_asked asked zero = asked
  empty_asked asked (suc count) =
      subst (λ (n : ℕ). AsksBelow n old (empty_after (suc count) h)) same (next (empty_asked asked count))
    where
      same : suc (count + 5) ≡ suc count + 5
      same = omega arith

      next : AsksBelow (count + 5) old (empty_after count h) → AsksBelow (suc (count + 5)) old (empty_after (suc count) h)
      next before = (empty_after count h, before, NotThere (empty_call count))

-- WHAT IS FOUND

module _ (words : Codewords) (editions : ℕ → Edition) (gone : Slots) (gone_formed : IsSlotSet gone) (new : List Happening) where
  abbrev pub found_image : Image
  found_image j = if has_slot gone j then empty_slot else rack_of words editions j

  abbrev pub findings : Findings
  findings = record { image = found_image; gone = gone }

  abbrev pub gones : ℕ → ℕ
  gones j = if has_slot gone j then 1 else 0

  abbrev pub first : RackState
  first = rack_state true (made_of words editions) 0 (λ j. 0)

  abbrev pub last : RackState
  last = rack_state true new 0 gones

  abbrev old : List Happening
  old = made_of words editions

  -- a device was seen, or it was gone to the attach
  pub data Asked (j : ℕ) : Type 0 where
    WasGone : HasSlot gone j → (from to : List Happening) → Ran any_call old from → Calls from to j (Attach Gone) → IsOffline old to j
        → Ran any_call to new → Asked j
    WasSeen : ¬ HasSlot gone j → j < 5 → (from attached between to : List Happening) → Ran any_call old from
        → Calls from attached j (Attach Done) → Calls attached between j (Read 0 got.Good) → Calls between to j (Read 1 got.Good)
        → is_ready between j ≡ true → HoldsDevice words editions j (slot_state between j) → is_ready to j ≡ true
        → HoldsDevice words editions j (slot_state to j) → Ran any_call to new → IsHeld old new j → Asked j

  pub gone_cell : (j k : ℕ) → HasSlot gone j → (found_image j).cell k ≡ Damaged
  gone_cell j k has = ap (λ (slot : SlotImage). slot.cell k) (cond-true _ _ _ has)

  pub seen_device : (j : ℕ) → ¬ HasSlot gone j → j < 5 → IsDevice words editions found_image j
  seen_device j not below = record {
    below = below;
    cells = λ k.
        ap (λ (slot : SlotImage). slot.cell k) (cond-false _ _ _ (not_has gone j not))
        ∙ (in_place words editions j below).cells k;
  }

  held_sooner : (before : List Happening) (j : ℕ) → Ran any_call before old → IsHeld old new j → IsHeld before new j
  held_sooner before j ran (IsHeld.InUse on some least) = IsHeld.InUse on some (omega (arith, least, pulls_on {allowed = any_call} j ran))
  held_sooner before j ran (IsHeld.Unattached off pulled) = IsHeld.Unattached off (omega (arith, pulled, pulls_on {allowed = any_call} j ran))
  held_sooner before j ran (IsHeld.RackStopped stops) = IsHeld.RackStopped stops

  read_good : (j k : ℕ) (h : List Happening) → k < 2 → IsDevice words editions found_image j → Ran any_call old h → Ran any_call h new → is_ready h j ≡ true
      → HoldsDevice words editions j (slot_state h j) → IsPlaceFound (HasSlot gone j) j k first last ((found_image j).cell k)
  read_good j k h place is upto rest ready holds =
      WasReadSo
      (subst (IsReading j k first last) (sym (is.cells k ∙ place_cell words editions j k place))
      (λ honest. record {
        moment = h;
        is_one = moment_between upto rest;
        ready = ready;
        found = ap content (holds.sectors k) ∙ place_cell words editions j k place;
      }))

  pub is_found : (j : ℕ) → Asked j → IsFound findings j first last
  is_found j (WasGone has from to upto called off rest) = record {
    places = λ k place. Unread has (gone_cell j k has);
    finds = λ honest. record {
      from = from;
      to = to;
      sooner = upto;
      finds = FoundNone called (gone_cell j 0 has) (gone_cell j 1 has) has;
      later = rest;
    };
    gone = λ is. (
      record { greater_or_spent = inl (subst (λ (n : ℕ). 0 < n) (sym (cond-true _ _ _ has)) (omega arith)) },
      λ honest. record { moment = to; is_one = moment_between (ran_join upto (ran_any (calls_ran called))) rest; holds = off },
    );
    held = λ honest not before ran. absurd (not has);
  }
  is_found j (WasSeen not below from attached between to upto on one two ready_one holds_one ready_two holds_two rest held) = record {
    places = λ k place.
        elim (cases_lt k 1) [
          | inl at ↦
              subst (λ (i : ℕ). IsPlaceFound (HasSlot gone j) j i first last ((found_image j).cell i)) (omega (arith, at))
              (read_good j 0 between (omega arith) is upto_between rest_between ready_one holds_one)
          | inr at ↦
              subst (λ (i : ℕ). IsPlaceFound (HasSlot gone j) j i first last ((found_image j).cell i)) (omega (arith, at, place))
              (read_good j 1 to (omega arith) is (ran_join upto_between (ran_any (calls_ran two))) rest ready_two holds_two)
        ];
    finds = λ honest. record {
      from = from;
      to = to;
      sooner = upto;
      finds =
          FoundBoth attached between got.Good got.Good on one two (is.cells 0 ∙ sym (ap content (holds_one.sectors 0)))
          (is.cells 1 ∙ sym (ap content (holds_two.sectors 1))) (λ has. absurd (not has));
      later = rest;
    };
    gone = λ has. absurd (not has);
    held = λ honest is_not before ran. held_sooner before j ran held;
  }
    where
      is : IsDevice words editions found_image j
      is = seen_device j not below

      upto_between : Ran any_call old between
      upto_between = ran_join (ran_join upto (ran_any (calls_ran on))) (ran_any (calls_ran one))

      rest_between : Ran any_call between new
      rest_between = ran_join (ran_any (calls_ran two)) rest

  pub are_found : ((j : ℕ) → j < 32 → Asked j) → AreFound findings first last
  are_found each = record { formed = gone_formed; each = λ j small. is_found j (each j small) }

  -- REASONS

  module _ (are : AreEditions words editions) (past : (j : ℕ) → 5 ≤ j → j < 32 → HasSlot gone j) (c : ℕ) where
    abbrev current : Superblock
    current = copy_of (editions c) c

    pub found_shows : (j : ℕ) → Shows words editions found_image j
    found_shows j =
        elim (has_or_not gone j) [
          | inl has ↦ Bare (λ k. gone_cell j k has)
          | inr not ↦
              elim (cases_lt j 5) [
                | inl below ↦ InPlace (seen_device j not below)
                | inr above ↦
                    Bare
                    (λ k.
                    ap (λ (slot : SlotImage). slot.cell k) (cond-false _ _ _ (not_has gone j not))
                    ∙ ap (λ (slot : SlotImage). slot.cell k) (cond-false _ _ _ (le-ltb j 5 above)))
              ]
        ]

    pub gone_reason : (j : ℕ) → HasSlot gone j → IsReason (HasSlot gone) five found_image current j why.Gone
    gone_reason j has = record { applies = has; first = λ other less. absurd (omega (arith, less)) }

    module _ (j : ℕ) (not : ¬ HasSlot gone j) (below : j < 5) where
      own_super : (s : Superblock) → IsSuperOf ((found_image j).cell) s → s ≡ copy_of (editions j) j
      own_super s is =
          one_super ((found_image j).cell) s (copy_of (editions j) j) is (device_super words editions are found_image j (seen_device j not below))

      early : (other : Why) → rank other < 4 → ¬ Applies (HasSlot gone) five found_image current j other
      early why.Gone less has = not has
      early why.NoSuper less none =
          none (super_held ((found_image j).cell) (copy_of (editions j) j) (device_super words editions are found_image j (seen_device j not below)))
      early why.OtherArray less applies =
          applies.2 (ap (λ (s : Superblock). s.array.geometry) (own_super applies.0 applies.1) ∙ are.of_five j below)
      early why.OtherSlot less applies = applies.2 (ap (λ (s : Superblock). s.slot) (own_super applies.0 applies.1))
      early why.MarkedDown less applies = absurd (omega (arith, less))
      early why.OtherJoined less applies = absurd (omega (arith, less))
      early why.Rebuilding less applies = absurd (omega (arith, less))
      early why.Here less applies = absurd (omega (arith, less))

      pub down_reason : mark_at current j ≡ mark.Down → IsReason (HasSlot gone) five found_image current j why.MarkedDown
      down_reason down = record { applies = down; first = early }

      -- the medium is the one that the current superblock means
      late : mark_at current j ≢ mark.Down → (copy_of (editions j) j).joined ≡ joined_at current j → (other : Why) → rank other < 6
          → ¬ Applies (HasSlot gone) five found_image current j other
      late up joined why.MarkedDown less down = up down
      late up joined why.OtherJoined less applies =
          applies.2 (ap (λ (s : Superblock). s.joined) (own_super applies.0 applies.1) ∙ joined)
      late up joined why.Gone less applies = early why.Gone (omega arith) applies
      late up joined why.NoSuper less applies = early why.NoSuper (omega arith) applies
      late up joined why.OtherArray less applies = early why.OtherArray (omega arith) applies
      late up joined why.OtherSlot less applies = early why.OtherSlot (omega arith) applies
      late up joined why.Rebuilding less applies = absurd (omega (arith, less))
      late up joined why.Here less applies = absurd (omega (arith, less))

      pub rebuilding_reason : mark_at current j ≡ mark.Rebuilding → (copy_of (editions j) j).joined ≡ joined_at current j
          → IsReason (HasSlot gone) five found_image current j why.Rebuilding
      rebuilding_reason rebuilt joined =
          record { applies = rebuilt; first = late (λ down. let both : mark.Rebuilding ≡ mark.Down = sym rebuilt ∙ down in absurd (cc)) joined }

      pub here_reason : mark_at current j ≡ mark.Live → (copy_of (editions j) j).joined ≡ joined_at current j
          → IsReason (HasSlot gone) five found_image current j why.Here
      here_reason live joined = record { applies = tt; first = before }
        where
          up : mark_at current j ≢ mark.Down
          up down = let both : mark.Live ≡ mark.Down = sym live ∙ down in absurd (cc)

          before : (other : Why) → rank other < 7 → ¬ Applies (HasSlot gone) five found_image current j other
          before why.Rebuilding less rebuilt = let both : mark.Live ≡ mark.Rebuilding = sym live ∙ rebuilt in absurd (cc)
          before why.Gone less applies = late up joined why.Gone (omega arith) applies
          before why.NoSuper less applies = late up joined why.NoSuper (omega arith) applies
          before why.OtherArray less applies = late up joined why.OtherArray (omega arith) applies
          before why.OtherSlot less applies = late up joined why.OtherSlot (omega arith) applies
          before why.MarkedDown less applies = late up joined why.MarkedDown (omega arith) applies
          before why.OtherJoined less applies = late up joined why.OtherJoined (omega arith) applies
          before why.Here less applies = absurd (omega (arith, less))

    -- the next place is the second one, as both hold the same
    pub next_place : (j : ℕ) → IsNextPlace ((found_image j).cell) 1
    next_place j = record { below = omega arith; other = λ s is. by s is (found_shows j) }
      where
        by : (s : Superblock) → IsSuperOf ((found_image j).cell) s → Shows words editions found_image j → IsPlaceOf ((found_image j).cell) s 0
        by s is (Bare all) = let held = super_held ((found_image j).cell) s is in absurd (good_whole held.holds.good (all held.place))
        by s is (InPlace device) =
            InFirst
            (subst (λ (t : Superblock). HoldsSuper ((found_image j).cell 0) t)
            (one_super ((found_image j).cell) (copy_of (editions j) j) s (device_super words editions are found_image j device) is)
            (device_holds words editions are found_image j 0 device (omega arith)))

-- WHAT IS ANSWERED

module _ (words : Codewords) (editions : ℕ → Edition) (gone : Slots) (gone_formed : IsSlotSet gone) (new : List Happening)
    (are : AreEditions words editions) where
  abbrev image : Image
  image = found_image words editions gone gone_formed new

  -- a slot that was gone shows no device
  pub not_bare : (j : ℕ) → HasSlot gone j → ¬ IsDevice words editions image j
  not_bare j has is =
      let bare = gone_cell words editions gone gone_formed new j 2 has in
      let both : device_cell words editions j 2 ≡ Damaged = sym (is.cells 2) ∙ bare in
      absurd (cc)

  seen_counts : (j : ℕ) → ¬ HasSlot gone j → j < 5 → Counts five image j (copy_of (editions j) j)
  seen_counts j seen below = device_counts words editions are image j (seen_device words editions gone gone_formed new j seen below)

  -- the array stands by more than two devices that were seen
  pub found_stands : (stand : Slots) → IsSlotSet stand → 2 < slot_count stand → ((j : ℕ) → HasSlot stand j → (j < 5) × ¬ HasSlot gone j)
      → Identifies five image
  found_stands stand formed many kept = record {
    slots = stand;
    formed = formed;
    many = many;
    each = λ j has. record { super = copy_of (editions j) j; counts = seen_counts j (kept j has).1 (kept j has).0 };
  }

  -- of which this one has the greatest draw
  pub found_drawn : ((j : ℕ) → Shows words editions image j) → (draw c : ℕ) → ¬ HasSlot gone c → c < 5 → (editions c).draw ≡ draw
      → ((j : ℕ) → j < 5 → (editions j).draw ≤ draw) → IsGreatestDraw five image draw
  found_drawn shows draw c seen below is upto = record {
    above = λ j s counts.
        let own = borne_own words editions are image five j s (shows j) (counts_bears five image j s counts) in
        omega (arith, ap (λ (t : Superblock). t.draw) own.is, upto j own.device.below);
    slot = c;
    super = copy_of (editions c) c;
    counts = seen_counts c seen below;
    is = is;
  }

  later_count : (b : Bool) → IsLaterCount 0 (if b then 1 else 0)
  later_count true = record { not_less = omega arith; fits = λ fits. omega arith }
  later_count false = record { not_less = omega arith; fits = λ fits. omega arith }

  pub found_surveys : (answer : Result Membership SurveyFault) → ((j : ℕ) → j < 32 → Asked words editions gone gone_formed new j)
      → AsksBelow 32 (made_of words editions) new → IsAnswer (findings words editions gone gone_formed new) answer
      → Surveys answer (first words editions gone gone_formed new) (last words editions gone gone_formed new)
  found_surveys answer each asked answered = record {
    findings = findings words editions gone gone_formed new;
    found = are_found words editions gone gone_formed new each;
    answered = answered;
    counts = record { bad = record { not_less = omega arith; fits = λ fits. fits }; gone = λ j. later_count (has_slot gone j) };
    began = λ honest. history_made (rack_of words editions);
    asked = λ honest. asked;
  }

-- THE SLOTS PAST THE FIVE

module _ (words : Codewords) (editions : ℕ → Edition) (gone : Slots) (gone_formed : IsSlotSet gone) (failed : Slots) (h : List Happening)
    (goes : GoesOn words editions failed h) (upto : Ran any_call (made_of words editions) h) where
  pub tail_ran : (n count : ℕ) → Ran any_call (empty_after count h) (empty_after (n + count) h)
  tail_ran zero count = subst (λ (k : ℕ). Ran any_call (empty_after count h) (empty_after k h)) same (ran_none (empty_after count h))
    where
      same : count ≡ zero + count
      same = omega arith
  tail_ran (suc n) count =
      subst (λ (k : ℕ). Ran any_call (empty_after count h) (empty_after k h)) same
      (ran_join (tail_ran n count) (ran_any (calls_ran (empty_call words editions failed (made_of words editions) h goes (n + count)))))
    where
      same : suc (n + count) ≡ suc n + count
      same = omega arith

  asked_empty : (count : ℕ) → count < 27 → HasSlot gone (count + 5)
      → Asked words editions gone gone_formed (empty_after 27 h) (count + 5)
  unfolding empty_after
  asked_empty count small has =
      WasGone has (empty_after count h) (empty_after (suc count) h) (ran_join upto (from_start count))
      (empty_call words editions failed (made_of words editions) h goes count) (NoMedium none) rest
    where
      from_start : (k : ℕ) → Ran any_call h (empty_after k h)
      from_start k = subst (λ (i : ℕ). Ran any_call h (empty_after i h)) (omega_same k) (tail_ran k 0)
        where
          omega_same : (k : ℕ) → k + 0 ≡ k
          omega_same k = omega arith

      none : (slot_state (empty_after (suc count) h) (count + 5)).size ≡ None
      none =
          by ((goes_still words editions failed h (empty_after (suc count) h) (empty_still (suc count) h) goes).slots (count + 5))
        where
          by : SlotIs words editions (count + 5) (slot_state (empty_after (suc count) h) (count + 5))
              → (slot_state (empty_after (suc count) h) (count + 5)).size ≡ None
          by (Holding holds) = let below : count + 5 < 5 = holds.below in absurd (omega arith)
          by (Without is all) = is

      rest : Ran any_call (empty_after (suc count) h) (empty_after 27 h)
      rest = subst (λ (i : ℕ). Ran any_call (empty_after (suc count) h) (empty_after i h)) same (tail_ran (26 - count) (suc count))
        where
          same : (26 - count) + suc count ≡ 27
          same = omega (arith, small)

  pub asked_past : (j : ℕ) → 5 ≤ j → j < 32 → HasSlot gone j → Asked words editions gone gone_formed (empty_after 27 h) j
  asked_past j past small has =
      subst (Asked words editions gone gone_formed (empty_after 27 h)) same
      (asked_empty (j - 5) (omega (arith, past, small)) (subst (HasSlot gone) (sym same) has))
    where
      same : (j - 5) + 5 ≡ j
      same = omega (arith, past)
