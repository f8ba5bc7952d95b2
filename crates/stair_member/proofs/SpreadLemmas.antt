-- A pass that hands each slot of a set its superblock.
use Rattle.std.proofs.Common.{◌≡◌, ◌≢◌, ℕ, ◌+◌, ◌<◌, ◌≤◌, Bool, false, List, [], inl, inr, refl, sym, ap, ◌∙◌, subst, arith, Option, None, Some}
use Rattle.std.specs.Prelude.{⊤, IsTrue, IsSome}
use Rattle.std.proofs.lemmas.Bool.{cases_eq, eqb-true, false≢true}
use Rattle.stair_model.specs.Slots.{Slots, HasSlot}
use Rattle.stair_rack.specs.Answers.{Ran}
use Rattle.stair_rack.specs.History.{Happening, slot_state, stopped}
use Rattle.stair_rack.specs.Moments.{AtEveryMoment}
use Rattle.stair_rack.specs.Offline.{IsHeld, IsOfflineUntilAttached}
use Rattle.stair_rack.specs.Sector.{Good}
use Rattle.stair_rack.specs.declared.rack.Reply.{Reply}
use Rattle.stair_rack.specs.declared.rack.Reply.TheVariants as reply
use Rattle.stair_rack.proofs.KeptLemmas.{IsKept-onward, IsKept-since}
use Rattle.stair_rack.proofs.MomentLemmas.{at_every_from, at_every_join, at_every_mapped, at_every_none, at_last, ran_before, ran_join, ran_none, ran_weakened}
use Rattle.stair_rack.proofs.OfflineLemmas.{held_on, pulls_on}
use Rattle.stair_rack.proofs.WritingLemmas.{reach_on}
use Rattle.stair_rack.proofs.StandingLemmas.{medium_on, settled_on, standing_on}
use Rattle.stair_super.specs.Spelling.{spelled}
use Rattle.stair_member.specs.ChangesSteps.{issue}
use Rattle.stair_member.specs.Epochs.{HasGot, IsGoneOf, IsOnDisk, IsPlaceSettled}
use Rattle.stair_member.specs.HandSteps.{Handed, HasPlaces, IsGiven, IsGivenOrNot, IsGiving, IsHanding, IsLeft, IsSpreading, IsUnsynced, PlacesBelow, PlacesHanded, Spread, SpreadBelow, Stands, Unsynced, is_twice, place_after, with_places}
use Rattle.stair_member.specs.Membership.{Membership, IsMembership, place_of}
use Rattle.stair_member.proofs.ApartLemmas.{apart_join, apart_none}
use Rattle.stair_member.proofs.HandLemmas.{gone_wider, got_later, got_sooner, handed_back, spreading_beside, stays_join, stays_none}
use Rattle.stair_member.proofs.JudgeLemmas.{below_and_last}

-- the slots below i were handed their superblocks, and the next places of the others are as they were
pub record SpreadSoFar (m last : Membership) (to : Slots) (twice : Option ℕ) (i : ℕ) (honest : Bool) (old now : List Happening) : Type 0 where
  pub was : IsMembership m
  pub rules : IsMembership last
  pub rest : last ≡ with_places m last.places
  pub done : (j : ℕ) → j < i → HasSlot to j → place_of last j ≡ place_after (is_twice twice j) (place_of m j)
  pub out : (j : ℕ) → ¬ HasSlot to j → place_of last j ≡ place_of m j
  pub later : (j : ℕ) → i ≤ j → place_of last j ≡ place_of m j
  pub told : IsTrue honest → SpreadBelow m to twice i old now
  -- where there is one, the rack is running
  pub going : IsTrue honest → (j : ℕ) → j < i → HasSlot to j → ¬ IsTrue (stopped now)
  -- those from i on weren't touched
  pub untouched : IsTrue honest → (j : ℕ) → i ≤ j → Ran (IsUnsynced m j) old now
  -- and none was gone
  pub none_gone : IsTrue honest → Ran (IsGoneOf (λ j. ⊥)) old now

pub spread_start : (m : Membership) (to : Slots) (twice : Option ℕ) (honest : Bool) (h : List Happening) → IsMembership m
    → SpreadSoFar m m to twice 0 honest h h
spread_start m to twice honest h rules = record {
  was = rules;
  rules = rules;
  rest = refl;
  done = λ j below has. absurd (omega (arith, below));
  out = λ j no_slot. refl;
  later = λ j least. refl;
  told = λ is. record {
    ran = ran_none h;
    got = λ j k below has given. absurd (omega (arith, below));
    stands = λ j k below has given. absurd (omega (arith, below));
    synced = λ j k below has some. absurd (omega (arith, below));
    steady = stays_none h;
    apart = apart_none h;
    between = λ j. at_every_none h (inl (ran_none h));
  };
  going = λ is j below has. absurd (omega (arith, below));
  untouched = λ is j least. ran_none h;
  none_gone = λ is. ran_none h;
}

pub spread_skipped : (m last : Membership) (to : Slots) (twice : Option ℕ) (i : ℕ) (honest : Bool) (old now : List Happening)
    → SpreadSoFar m last to twice i honest old now → ¬ HasSlot to i → SpreadSoFar m last to twice (i + 1) honest old now
spread_skipped m last to twice i honest old now before skipped = record {
  was = before.was;
  rules = before.rules;
  rest = before.rest;
  done =
      below_and_last (λ j. HasSlot to j → place_of last j ≡ place_after (is_twice twice j) (place_of m j)) i before.done
      (λ has. absurd (skipped has));
  out = before.out;
  later = λ j least. before.later j (omega arith);
  told = λ is.
      let told = before.told is in record {
        ran = told.ran;
        got = λ j k.
            below_and_last (λ x. HasSlot to x → IsGiven m (is_twice twice x) x k → HasGot old now x k (issue m x)) i (λ x. told.got x k)
            (λ has. absurd (skipped has)) j;
        stands = λ j k.
            below_and_last (λ x. HasSlot to x → IsGiven m (is_twice twice x) x k → IsOnDisk old now x k (issue m x)) i (λ x. told.stands x k)
            (λ has. absurd (skipped has)) j;
        synced = λ j k.
            below_and_last (λ x. HasSlot to x → IsSome (slot_state old x).size → IsPlaceSettled old now x k) i (λ x. told.synced x k)
            (λ has. absurd (skipped has)) j;
        steady = told.steady;
        apart = told.apart;
        between = told.between;
      };
  going = λ is.
      below_and_last (λ j. HasSlot to j → ¬ IsTrue (stopped now)) i (before.going is) (λ has. absurd (skipped has));
  untouched = λ is j least. before.untouched is j (omega arith);
  none_gone = before.none_gone;
}

module _ (m last : Membership) (to : Slots) (twice : Option ℕ) (i : ℕ) (old now new : List Happening) (on : HasSlot to i)
    (before : SpreadBelow m to twice i old now) (fresh : Ran (IsUnsynced m i) old now) where
  spreading : {answer : Reply} → Handed m last i (is_twice twice i) answer now new → Ran (IsSpreading m to twice) now new
  spreading handed =
      ran_weakened {allowed = IsHanding m i (is_twice twice i)} {more = IsSpreading m to twice}
      (λ x c is. (subst (HasSlot to) (sym is.0) on, subst (λ y. IsGiving m (is_twice twice y) x c) (sym is.0) is.1)) handed.ran

  earlier_stands : {answer : Reply} → Handed m last i (is_twice twice i) answer now new → (j k : ℕ) → j < i → HasSlot to j → IsGiven m (is_twice twice j) j k
      → IsOnDisk old new j k (issue m j)
  earlier_stands handed j k below has given =
      standing_on {allowed = IsHanding m i (is_twice twice i)} (slot_state old j).pulls j k (Good (spelled (issue m j)))
      (λ bytes is. let same : j ≡ i = is.0 in omega arith) handed.ran (before.stands j k below has given)

  earlier_got : {answer : Reply} → Handed m last i (is_twice twice i) answer now new → (j k : ℕ) → j < i → HasSlot to j → IsGiven m (is_twice twice j) j k
      → HasGot old new j k (issue m j)
  earlier_got handed j k below has given =
      got_later {b = IsHanding m i (is_twice twice i)} (λ bytes is. let same : j ≡ i = is.0 in omega arith) handed.ran (before.got j k below has given)

  earlier_synced : {answer : Reply} → Handed m last i (is_twice twice i) answer now new → (j k : ℕ) → j < i → HasSlot to j → IsSome (slot_state old j).size
      → IsPlaceSettled old new j k
  earlier_synced handed j k below has some =
      settled_on {allowed = IsHanding m i (is_twice twice i)} (slot_state old j).pulls j k
      (λ bytes is. let same : j ≡ i = is.0 in omega arith) handed.ran (before.synced j k below has some)

  pub elsewhere : {answer : Reply} → Handed m last i (is_twice twice i) answer now new → (j : ℕ) → j ≢ i → Ran (IsUnsynced m j) now new
  elsewhere handed j other =
      ran_weakened {allowed = IsHanding m i (is_twice twice i)} {more = IsUnsynced m j} (λ x c is at. absurd (other (sym at ∙ is.0))) handed.ran

  -- the slot itself, which wasn't touched before
  between_here : {answer : Reply} → Handed m last i (is_twice twice i) answer now new → AtEveryMoment (IsGivenOrNot m i old) now new
  between_here handed =
      at_every_mapped {P = IsGivenOrNot m i now} {Q = IsGivenOrNot m i old}
      (λ x is.
      elim is [
        | inl more ↦ inl (ran_join fresh more)
        | inr stands ↦ inr (IsKept-since (pulls_on {allowed = IsUnsynced m i} i fresh) stands)
      ]) handed.between

  pub left_here : Handed m last i (is_twice twice i) reply.Gone now new → IsLeft m last i old new
  left_here handed =
      elim (handed.left refl) [
        | Unsynced same ran ↦ Unsynced same (ran_join fresh ran)
        | Stands on ↦ Stands (IsKept-since (pulls_on {allowed = IsUnsynced m i} i fresh) on)
      ]

  -- another one
  between_there : {answer : Reply} → Handed m last i (is_twice twice i) answer now new → (j : ℕ) → j ≢ i → IsGivenOrNot m j old now
      → AtEveryMoment (IsGivenOrNot m j old) now new
  between_there handed j other (inl ran) =
      at_every_from {P = IsGivenOrNot m j old} handed.ran.more handed.ran.is
      (λ x at. inl (ran_join ran (ran_before {allowed = IsUnsynced m j} (elsewhere handed j other) at)))
  between_there handed j other (inr stands) =
      at_every_from {P = IsGivenOrNot m j old} handed.ran.more handed.ran.is
      (λ x at.
      inr
      (standing_on {allowed = IsHanding m i (is_twice twice i)} (slot_state old j).pulls j (place_of m j) (Good (spelled (issue m j)))
      (λ bytes is. other is.0) (ran_before {allowed = IsHanding m i (is_twice twice i)} handed.ran at) stands))

  between_after : {answer : Reply} → Handed m last i (is_twice twice i) answer now new → (j : ℕ) → AtEveryMoment (IsGivenOrNot m j old) old new
  between_after handed j =
      at_every_join {P = IsGivenOrNot m j old} (before.between j)
      (elim (cases_eq j i) [
        | inl same ↦ subst (λ x. AtEveryMoment (IsGivenOrNot m x old) now new) (sym same) (between_here handed)
        | inr other ↦ between_there handed j other (at_last {P = IsGivenOrNot m j old} (before.between j))
      ])

  below_gone : Handed m last i (is_twice twice i) reply.Gone now new → SpreadBelow m to twice i old new
  below_gone handed = record {
    ran = ran_join before.ran (spreading handed);
    got = earlier_got handed;
    stands = earlier_stands handed;
    synced = earlier_synced handed;
    steady = stays_join {allowed = IsSpreading m to twice} before.steady (spreading handed) handed.steady;
    apart = apart_join before.apart handed.apart;
    between = between_after handed;
  }

  below_more : Handed m last i (is_twice twice i) reply.Done now new → SpreadBelow m to twice (i + 1) old new
  below_more handed = record {
    ran = ran_join before.ran (spreading handed);
    got = λ j k.
        below_and_last (λ x. HasSlot to x → IsGiven m (is_twice twice x) x k → HasGot old new x k (issue m x)) i (λ x. earlier_got handed x k)
        (λ has given. got_sooner {a = IsSpreading m to twice} before.ran (handed.got refl k given)) j;
    stands = λ j k.
        below_and_last (λ x. HasSlot to x → IsGiven m (is_twice twice x) x k → IsOnDisk old new x k (issue m x)) i (λ x. earlier_stands handed x k)
        (λ has given. IsKept-since (pulls_on {allowed = IsSpreading m to twice} i before.ran) (handed.stands refl k given)) j;
    synced = λ j k.
        below_and_last (λ x. HasSlot to x → IsSome (slot_state old x).size → IsPlaceSettled old new x k) i (λ x. earlier_synced handed x k)
        (λ has some. last_synced handed k some) j;
    steady = stays_join {allowed = IsSpreading m to twice} before.steady (spreading handed) handed.steady;
    apart = apart_join before.apart handed.apart;
    between = between_after handed;
  }
    where
      last_synced : Handed m last i (is_twice twice i) reply.Done now new → (k : ℕ) → IsSome (slot_state old i).size → IsPlaceSettled old new i k
      last_synced handed k some =
          IsKept-onward {P = λ s. ⊤} {Q = λ s. s.since ≡ []} {R = λ s. s.since ≡ []} (pulls_on {allowed = IsSpreading m to twice} i (spreading handed))
          (medium_on {allowed = IsSpreading m to twice} i k before.ran some) (λ there. handed.synced refl k there) (λ s was is. inr is)

  shut_there : Handed m last i (is_twice twice i) reply.Gone now new → (held_before : List Happening) → IsHeld held_before old i → HasPlaces (slot_state old i)
      → IsOfflineUntilAttached held_before new i
  shut_there handed held_before held has =
      handed.shut refl held_before (held_on {allowed = IsSpreading m to twice} {before = held_before} i before.ran held)
      (reach_on {allowed = IsSpreading m to twice} i 1 (spreading_beside m to twice i) before.ran has)

-- one more slot was handed its superblock
pub spread_more : (m last next : Membership) (to : Slots) (twice : Option ℕ) (i : ℕ) (honest : Bool) (old now new : List Happening)
    → SpreadSoFar m last to twice i honest old now → HasSlot to i → IsMembership next → PlacesHanded last next i (is_twice twice i) reply.Done
    → (IsTrue honest → Handed last next i (is_twice twice i) reply.Done now new) → SpreadSoFar m next to twice (i + 1) honest old new
spread_more m last next to twice i honest old now new before on rules places told = record {
  was = before.was;
  rules = rules;
  rest = places.rest ∙ ap (λ (x : Membership). with_places x next.places) before.rest;
  done = λ j below has.
      elim (cases_eq j i) [
        | inl same ↦
            subst (λ x. place_of next x ≡ place_after (is_twice twice x) (place_of m x)) (sym same)
            (places.done refl ∙ ap (place_after (is_twice twice i)) (before.later i (omega arith)))
        | inr other ↦ places.others j other ∙ before.done j (omega arith) has
      ];
  out = λ j skipped. places.others j (λ same. skipped (subst (HasSlot to) (sym same) on)) ∙ before.out j skipped;
  later = λ j least. places.others j (omega arith) ∙ before.later j (omega arith);
  told = λ is. below_more m next to twice i old now new on (before.told is) (before.untouched is i (omega arith)) (handed is);
  going = λ is j below has. (handed is).going refl;
  untouched = λ is j least.
      ran_join (before.untouched is j (omega arith))
      (elsewhere m next to twice i old now new on (before.told is) (before.untouched is i (omega arith)) (handed is) j (omega arith));
  none_gone = λ is.
      ran_join (before.none_gone is)
      (gone_wider {P = λ j. (j ≡ i) × (reply.Done ≡ reply.Gone)} {Q = λ j. ⊥}
      (λ j never. let clash : reply.Done ≡ reply.Gone = never.1 in absurd (cc)) (told is).told);
}
  where
    handed : IsTrue honest → Handed m next i (is_twice twice i) reply.Done now new
    handed is = handed_back m last next i (is_twice twice i) reply.Done now new before.rest (before.later i (omega arith)) (told is)

-- one was gone
pub spread_gone : (m last next : Membership) (to : Slots) (twice : Option ℕ) (i : ℕ) (honest : Bool) (old now new : List Happening)
    → SpreadSoFar m last to twice i honest old now → HasSlot to i → PlacesHanded last next i (is_twice twice i) reply.Gone
    → (IsTrue honest → Handed last next i (is_twice twice i) reply.Gone now new) → IsTrue honest → Spread m next to twice (Some i) old new
spread_gone m last next to twice i honest old now new before on places told is = record {
  below = below_gone m next to twice i old now new on (before.told is) fresh handed;
  told =
      ran_join (gone_wider {P = λ j. ⊥} {Q = λ j. Some i ≡ Some j} (λ j never. absurd never) (before.none_gone is))
      (gone_wider {P = λ j. (j ≡ i) × (reply.Gone ≡ reply.Gone)} {Q = λ j. Some i ≡ Some j}
      (λ j at. ap (λ (k : ℕ). Some k) (sym at.0)) handed.told);
  left = λ j least.
      elim (cases_eq j i) [
        | inl same ↦
            subst (λ x. IsLeft m next x old new) (sym same) (left_here m next to twice i old now new on (before.told is) fresh handed)
        | inr other ↦
            Unsynced (places.others j other ∙ before.later j least)
            (ran_join (before.untouched is j least) (elsewhere m next to twice i old now new on (before.told is) fresh handed j other))
      ];
  going = λ none. absurd (cc);
  shut = λ j same held_before held has.
      let at : i ≡ j = cc in
      subst (λ x. IsOfflineUntilAttached held_before new x) at
      (shut_there m next to twice i old now new on (before.told is) fresh handed held_before (subst (λ x. IsHeld held_before old x) (sym at) held)
      (subst (λ x. HasPlaces (slot_state old x)) (sym at) has));
}
  where
    fresh : Ran (IsUnsynced m i) old now
    fresh = before.untouched is i (omega arith)

    handed : Handed m next i (is_twice twice i) reply.Gone now new
    handed = handed_back m last next i (is_twice twice i) reply.Gone now new before.rest (before.later i (omega arith)) (told is)

pub places_gone : (m last next : Membership) (to : Slots) (twice : Option ℕ) (i : ℕ) (honest : Bool) (old now : List Happening)
    → SpreadSoFar m last to twice i honest old now → HasSlot to i → PlacesHanded last next i (is_twice twice i) reply.Gone
    → PlacesBelow m next to twice i
places_gone m last next to twice i honest old now before on places = record {
  rest = places.rest ∙ ap (λ (x : Membership). with_places x next.places) before.rest;
  done = λ j below has. places.others j (omega arith) ∙ before.done j below has;
  out = λ j skipped. places.others j (λ same. skipped (subst (HasSlot to) (sym same) on)) ∙ before.out j skipped;
  later = λ j least single.
      elim (cases_eq j i) [
        | inl same ↦
            subst (λ x. place_of next x ≡ place_of m x) (sym same)
            (places.gone refl (subst (λ x. is_twice twice x ≡ false) same single) ∙ before.later i (omega arith))
        | inr other ↦ places.others j other ∙ before.later j least
      ];
}

-- no slot was gone
abbrev pub no_slot : Option ℕ
no_slot = None

-- all were
pub spread_all : (m last : Membership) (to : Slots) (twice : Option ℕ) (i : ℕ) (honest : Bool) (old now : List Happening) → i ≡ 32
    → SpreadSoFar m last to twice i honest old now → IsTrue honest → Spread m last to twice None old now
spread_all m last to twice i honest old now all before is =
    record {
      below = subst (λ x. SpreadBelow m to twice x old now) all (before.told is);
      told = gone_wider {P = λ j. ⊥} {Q = λ j. no_slot ≡ Some j} (λ j never. absurd never) (before.none_gone is);
      left = λ j least. Unsynced (before.later j (omega (arith, all, least))) (before.untouched is j (omega (arith, all, least)));
      going = λ none j small. before.going is j (omega (arith, all, small));
      shut = λ j some. absurd (cc);
    }

pub places_all : (m last : Membership) (to : Slots) (twice : Option ℕ) (i : ℕ) (honest : Bool) (old now : List Happening) → i ≡ 32
    → SpreadSoFar m last to twice i honest old now → PlacesBelow m last to twice 32
places_all m last to twice i honest old now all before = record {
  rest = before.rest;
  done = λ j below has. before.done j (omega arith) has;
  out = before.out;
  later = λ j least single. before.later j (omega arith);
}

-- the slot that is handed both places
pub twice_is : (twice : Option ℕ) (j : ℕ) → IsTrue (is_twice twice j) → twice ≡ Some j
twice_is None j is = absurd (false≢true is)
twice_is (Some slot) j is = ap (λ (k : ℕ). Some k) (eqb-true slot j is)
