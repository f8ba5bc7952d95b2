-- The superblocks of a new array.
use Rattle.std.proofs.Common.{◌≡◌, ◌≢◌, ℕ, suc, ◌+◌, ◌-◌, ◌<◌, ◌≤◌, below_more, false, List, [], ◌∷◌, ◌++◌, replicate, set, ◌⊎◌, inl, inr, refl, sym, ap, ◌∙◌, subst, arith, None, Some, append_assoc}
use Rattle.std.specs.Prelude.{◌&&◌, ◌==◌, IsTrue}
use Rattle.std.proofs.lemmas.Bool.{and_right, cases_eq, cond-true, cond-false, eq-eqb, ne_eqb}
use Rattle.std.proofs.lemmas.List.{length-replicate, replicate-append-replicate}
use Rattle.std.proofs.Math.Seq.{set-append_seam}
use Rattle.stair_model.specs.Geometry.{Geometry}
use Rattle.stair_rack.specs.Answers.{IsCall, Ran, Runs, any_call}
use Rattle.stair_rack.specs.Count.{Rose, kept-Rose}
use Rattle.stair_rack.specs.History.{Happening, Made, Stopped, Acted, Called, SlotCall, Attach, Sectors, Read, Write, Sync, slot_state}
use Rattle.stair_rack.specs.Offline.{ButForOutside}
use Rattle.stair_rack.specs.Outside.{IsAct}
use Rattle.stair_rack.specs.Passes.{Landed}
use Rattle.stair_rack.specs.Placed.{IsGoneSlot, IsSlot, Placed, one_write}
use Rattle.stair_rack.specs.RackCounts.{NoneFalls}
use Rattle.stair_rack.specs.Sector.{Good, content, settled, synced}
use Rattle.stair_rack.specs.Stretch.{EachHappening, EachOf}
use Rattle.stair_rack.specs.declared.rack.Reply.{Reply}
use Rattle.stair_rack.specs.declared.rack.Reply.TheVariants as reply
use Rattle.stair_rack.proofs.MomentLemmas.{at_some_wider, ran_any, ran_join, ran_none}
use Rattle.stair_rack.proofs.KeptLemmas.{IsKept-onward, IsKept-since}
use Rattle.stair_rack.proofs.OfflineLemmas.{pulls_on}
use Rattle.stair_rack.proofs.PassCounts.{NoneFalls-same, NoneFalls-then}
use Rattle.stair_rack.proofs.KeepingLemmas.{phase_ran}
use Rattle.stair_rack.proofs.StretchLemmas.{each_join, each_mapped, each_none, each_of_ran}
use Rattle.stair_super.specs.Spelling.{spelled}
use Rattle.stair_super.specs.Superblock.{Superblock, superblock_of}
use Rattle.stair_super.specs.declared.configuration.Configuration.{Configuration}
use Rattle.stair_super.specs.declared.mark.Mark.{Mark}
use Rattle.stair_array.specs.Created.{created_sector, first_configuration, first_joins, first_marks, first_super}
use Rattle.stair_rack.specs.RackState.{RackState}
use Rattle.stair_array.specs.Making.{AreMade, IsFirst, IsInTurn, IsMaking, IsPlace, IsSlotOf, IsStoppedAt, IsStoppedBy, PlacesInTurn, WritesInTurn}
use Rattle.stair_array.specs.declared.fault.CreateFault.TheVariants.{Gone}
use Rattle.stair_array.proofs.CreatedLemmas.{created_place}
use Rattle.stair_array.proofs.LookLemmas.{taken_on}
use Rattle.stair_array.proofs.DeviceLemmas.{AreOfNew, made_from, made_on, made_sooner, making_no_attach, making_phase, making_within, stopped_from}

-- THE SUPERBLOCK PLACES

one_written : (slot sector : ℕ) (bytes : List ℕ) → one_write slot sector bytes slot sector ≡ Some bytes
one_written slot sector bytes =
    cond-true _ (Some bytes) None (ap (λ x. x && (sector == sector)) (eq-eqb slot slot refl) ∙ eq-eqb sector sector refl)

one_other : (slot sector k : ℕ) (bytes : List ℕ) → k ≢ sector → one_write slot sector bytes slot k ≡ None
one_other slot sector k bytes other = cond-false _ (Some bytes) None (and_right (slot == slot) (k == sector) (ne_eqb k sector other))

one_sector : (slot sector : ℕ) (bytes : List ℕ) (j k : ℕ) (bytes' : List ℕ) → one_write slot sector bytes j k ≡ Some bytes' → k ≡ sector
one_sector slot sector bytes j k bytes' is =
    elim (cases_eq k sector) [
      | inl at ↦ at
      | inr other ↦
          let none : None ≡ Some bytes' =
          sym (cond-false _ (Some bytes) None (and_right (j == slot) (k == sector) (ne_eqb k sector other))) ∙ is in
          absurd (cc)
    ]

place_cases : (k : ℕ) → IsPlace k → (k ≡ 0) ⊎ (k ≡ 1)
place_cases k below = elim (cases_eq k 0) [ inl is ↦ inl is | inr other ↦ inr (omega arith) ]

-- the superblock that is written
pub first_text : (array : Configuration) (slot : ℕ) (s : Superblock) (bytes : List ℕ) → array ≡ first_configuration array.geometry
    → bytes ≡ spelled s → s ≡ superblock_of array slot 1 1 → bytes ≡ spelled (first_super array.geometry slot)
first_text array slot s bytes first text is = text ∙ ap spelled (is ∙ ap (λ (x : Configuration). superblock_of x slot 1 1) first)

pub first_sector : (g : Geometry) (slot sector : ℕ) (bytes : List ℕ) → sector < 2 → bytes ≡ spelled (first_super g slot)
    → bytes ≡ created_sector g slot sector
first_sector g slot sector bytes place text = text ∙ sym (created_place g slot sector place)

-- what is written there is what a new array has there
place_new : (g : Geometry) (slot sector : ℕ) (bytes : List ℕ) → bytes ≡ created_sector g slot sector
    → AreOfNew g (one_write slot sector bytes) (IsSlot slot) (λ k. k ≡ sector)
place_new g slot sector bytes is j k bytes' on at =
    let there : k ≡ sector = one_sector slot sector bytes j k bytes' at in
    let here : one_write slot sector bytes j k ≡ Some bytes =
    ap (λ i. one_write slot sector bytes i k) on ∙ ap (one_write slot sector bytes slot) there ∙ one_written slot sector bytes in
    let both : Some bytes' ≡ Some bytes = sym at ∙ here in
    let same : bytes' ≡ bytes = cc in
    (there, same ∙ is ∙ ap (λ i. created_sector g i sector) (sym on) ∙ ap (created_sector g j) (sym there))

-- one place is written through
pub place_ran : (g : Geometry) (slot sector : ℕ) (bytes : List ℕ) (answer : Reply) {old new : List Happening} → bytes ≡ created_sector g slot sector
    → Placed (one_write slot sector bytes) (IsSlot slot) (IsGoneSlot slot answer) old new → Ran (IsMaking g (IsSlot slot) (λ k. k ≡ sector)) old new
place_ran g slot sector bytes answer is p =
    making_phase g (one_write slot sector bytes) (IsSlot slot) (IsGoneSlot slot answer) (λ k. k ≡ sector) (place_new g slot sector bytes is) p

pub of_place : (g : Geometry) {slot sector : ℕ} {old new : List Happening} → sector < 2 → Ran (IsMaking g (IsSlot slot) (λ k. k ≡ sector)) old new
    → Ran (IsMaking g (IsSlot slot) IsPlace) old new
of_place g {slot = slot} place ran =
    making_within g {slots = IsSlot slot} {more = IsSlot slot} (λ j on. on) (λ k at. subst IsPlace (sym at) place) ran

pub place_gone : (g : Geometry) (slot sector : ℕ) (bytes : List ℕ) (answer : Reply) (old now next : RackState) → sector < 2 → answer ≡ reply.Gone
    → NoneFalls old.bads now.bads old.gones now.gones → NoneFalls now.bads next.bads now.gones next.gones → Rose (now.gones slot) (next.gones slot)
    → (IsTrue next.honest → Ran (IsMaking g (IsSlot slot) IsPlace) old.history now.history)
    → (IsTrue next.honest → Placed (one_write slot sector bytes) (IsSlot slot) (IsGoneSlot slot answer) now.history next.history)
    → IsStoppedAt g slot old next
place_gone g slot sector bytes answer old now next place gone counts counts' rose ran told = record {
  gone = kept-Rose (old.gones slot) (now.gones slot) (next.gones slot) (counts.gone slot).not_less (counts'.gone slot).not_less rose;
  offline = λ is before t.
      let here : IsStoppedAt g slot now next =
      stopped_from g slot now next rose
      (λ is' before' held reach.
      (told is').shut before' slot (refl, gone) held
      (λ attached k bytes' at. reach k (omega (arith, one_sector slot sector bytes slot k bytes' at, place)) attached)) in
      here.offline is before (taken_on t (making_no_attach g slot (ran is)));
}

not_gone : (slot : ℕ) (answer : Reply) (j : ℕ) → answer ≡ reply.Done → ¬ IsGoneSlot slot answer j
not_gone slot answer j done gone = let never : reply.Done ≡ reply.Gone = sym done ∙ gone.1 in absurd (cc)

-- both places, one after the other
pub places_made : (g : Geometry) (slot : ℕ) (bytes : List ℕ) (first second : Reply) (old mid new : List Happening)
    → bytes ≡ spelled (first_super g slot) → first ≡ reply.Done → second ≡ reply.Done
    → Placed (one_write slot 0 bytes) (IsSlot slot) (IsGoneSlot slot first) old mid
    → Placed (one_write slot 1 bytes) (IsSlot slot) (IsGoneSlot slot second) mid new → AreMade g IsPlace slot old new
places_made g slot bytes first second old mid new text done done' p q = record {
  landed = λ k place below.
      elim (place_cases k place) [
        | inl is ↦
            subst (λ l. Landed old new slot l (created_sector g slot l)) (sym is)
            (at_some_wider {a = any_call} {b = any_call}
            {P = λ h. content ((slot_state h slot).sector 0) ≡ Good (created_sector g slot 0)} (ran_none old) (phase_ran q)
            (p.landed slot 0 (created_sector g slot 0) refl (not_gone slot first slot done) (holds 0 (omega arith))))
        | inr is ↦
            subst (λ l. Landed old new slot l (created_sector g slot l)) (sym is)
            (at_some_wider {a = any_call} {b = any_call}
            {P = λ h. content ((slot_state h slot).sector 1) ≡ Good (created_sector g slot 1)} (phase_ran p) (ran_none new)
            (q.landed slot 1 (created_sector g slot 1) refl (not_gone slot second slot done') (holds 1 (omega arith))))
      ];
  stands = λ k place below.
      elim (place_cases k place) [
        | inl is ↦ subst (λ l. ButForOutside old new slot l (λ s. s ≡ settled (Good (created_sector g slot l)))) (sym is) first_stands
        | inr is ↦
            subst (λ l. ButForOutside old new slot l (λ s. s ≡ settled (Good (created_sector g slot l)))) (sym is)
            (IsKept-since (pulls_on {allowed = any_call} slot (phase_ran p))
            (q.done slot 1 (created_sector g slot 1) refl (not_gone slot second slot done') (holds 1 (omega arith))))
      ];
}
  where
    holds : (sector : ℕ) → sector < 2 → one_write slot sector bytes slot sector ≡ Some (created_sector g slot sector)
    holds sector place = one_written slot sector bytes ∙ ap Some (text ∙ sym (created_place g slot sector place))

    first_stands : ButForOutside old new slot 0 (λ s. s ≡ settled (Good (created_sector g slot 0)))
    first_stands =
        IsKept-onward {P = λ s. s ≡ settled (Good (created_sector g slot 0))} {Q = λ s. s ≡ synced ((slot_state mid slot).sector 0)}
        {R = λ s. s ≡ settled (Good (created_sector g slot 0))} (pulls_on {allowed = any_call} slot (phase_ran q))
        (p.done slot 0 (created_sector g slot 0) refl (not_gone slot first slot done) (holds 0 (omega arith)))
        (λ some. q.rest slot 0 some refl (not_gone slot second slot done') (one_other slot 1 0 bytes (λ same. omega arith)))
        (λ s before same. elim before [ inl is ↦ inl (same ∙ ap synced is) | inr is ↦ inr (same ∙ ap synced is) ])

-- THE PLACES IN TURN

-- where no call writes a second place
pub none_second : (g : Geometry) {allowed : ℕ → SlotCall → Type 0} {old mid new : List Happening}
    → ((j k : ℕ) (bytes : List ℕ) (answer : Reply) → allowed j (Write k bytes answer) → k ≢ 1) → Ran allowed mid new
    → EachHappening (WritesInTurn g old) mid new
none_second g {allowed} {old} other ran = each_of_ran {allowed = allowed} {P = WritesInTurn g old} by_act call ran
  where
    by_act : (h : List Happening) (e : Happening) → IsAct h e → WritesInTurn g old h e
    by_act h (Made image) act = tt
    by_act h Stopped act = tt
    by_act h (Acted j a) act = tt
    by_act h (Called j c) act = absurd act

    call : (h : List Happening) (j : ℕ) (c : SlotCall) → allowed j c → WritesInTurn g old h (Called j c)
    call h j (Attach answer) may = tt
    call h j (Sectors size) may = tt
    call h j (Read k answer) may = tt
    call h j (Write k bytes answer) may = λ second. absurd (other j k bytes answer may second)
    call h j (Sync answer) may = tt

-- A run of which each call is in turn, given the run before it.
each_in_turn : (g : Geometry) (allowed : ℕ → SlotCall → Type 0) (start mid : List Happening)
    → ((h : List Happening) (j : ℕ) (c : SlotCall) → Ran allowed mid h → allowed j c → IsInTurn g start h j c) → (more : List Happening)
    → Runs allowed more mid → EachOf (WritesInTurn g start) more mid
each_in_turn g allowed start mid calls [] runs = tt
each_in_turn g allowed start mid calls (e ∷ more) runs =
    (each_in_turn g allowed start mid calls more runs.0, one e runs.1)
  where
    one : (e : Happening) → IsAct (more ++ mid) e ⊎ IsCall allowed (more ++ mid) e → WritesInTurn g start (more ++ mid) e
    one (Made image) may = tt
    one Stopped may = tt
    one (Acted j a) may = tt
    one (Called j c) (inl act) = absurd act
    one (Called j c) (inr call) = calls (more ++ mid) j c (record { more = more; is = refl; runs = runs.0 }) call.0

-- the second place of a slot whose first one is made
second_in_turn : (g : Geometry) {slot : ℕ} {old mid new : List Happening} → AreMade g IsFirst slot old mid
    → Ran (IsMaking g (IsSlot slot) (λ k. k ≡ 1)) mid new → EachHappening (WritesInTurn g old) mid new
second_in_turn g {slot} {old} {mid} made ran =
    record { more = ran.more; is = ran.is; each = each_in_turn g (IsMaking g (IsSlot slot) (λ k. k ≡ 1)) old mid call ran.more ran.runs }
  where
    call : (h : List Happening) (j : ℕ) (c : SlotCall) → Ran (IsMaking g (IsSlot slot) (λ k. k ≡ 1)) mid h
        → IsMaking g (IsSlot slot) (λ k. k ≡ 1) j c → IsInTurn g old h j c
    call h j (Attach answer) upto may = tt
    call h j (Sectors size) upto may = tt
    call h j (Read k answer) upto may = tt
    call h j (Write k bytes answer) upto may = λ second.
        subst (λ i. AreMade g IsFirst i old h) (sym may.0)
        (made_on {allowed = IsMaking g (IsSlot slot) (λ k. k ≡ 1)} made upto (λ l first bytes' other. omega (arith, first, other.1)))
    call h j (Sync answer) upto may = tt

-- what is in turn since a later moment is so since an earlier one
in_turn_sooner : (g : Geometry) {old now : List Happening} → Ran any_call old now → (h : List Happening) (e : Happening) → WritesInTurn g now h e
    → WritesInTurn g old h e
in_turn_sooner g ran h (Made image) is = tt
in_turn_sooner g ran h Stopped is = tt
in_turn_sooner g ran h (Acted j a) is = tt
in_turn_sooner g ran h (Called j (Attach answer)) is = tt
in_turn_sooner g ran h (Called j (Sectors size)) is = tt
in_turn_sooner g ran h (Called j (Read k answer)) is = tt
in_turn_sooner g ran h (Called j (Write k bytes answer)) is = λ second. made_sooner ran (is second)
in_turn_sooner g ran h (Called j (Sync answer)) is = tt

-- one stretch after another
pub in_turn_then : (g : Geometry) {old now next : List Happening} → Ran any_call old now → PlacesInTurn g old now → PlacesInTurn g now next
    → PlacesInTurn g old next
in_turn_then g {old} {now} ran first second =
    each_join first (each_mapped {P = WritesInTurn g now} {Q = WritesInTurn g old} (in_turn_sooner g ran) second)

-- the one place, and then the other
pub first_in_turn : (g : Geometry) {slot : ℕ} {old mid : List Happening} → Ran (IsMaking g (IsSlot slot) (λ k. k ≡ 0)) old mid → PlacesInTurn g old mid
first_in_turn g {slot} ran = none_second g {allowed = IsMaking g (IsSlot slot) (λ k. k ≡ 0)} (λ j k bytes answer may second. omega (arith, may.1, second)) ran

pub places_in_turn : (g : Geometry) (slot : ℕ) (bytes : List ℕ) (first second : Reply) (old mid new : List Happening)
    → bytes ≡ spelled (first_super g slot) → first ≡ reply.Done
    → Placed (one_write slot 0 bytes) (IsSlot slot) (IsGoneSlot slot first) old mid
    → Placed (one_write slot 1 bytes) (IsSlot slot) (IsGoneSlot slot second) mid new → PlacesInTurn g old new
places_in_turn g slot bytes first second old mid new text done p q =
    each_join (first_in_turn g (place_ran g slot 0 bytes first (first_sector g slot 0 bytes (omega arith) text) p))
    (second_in_turn g made (place_ran g slot 1 bytes second (first_sector g slot 1 bytes (omega arith) text) q))
  where
    made : AreMade g IsFirst slot old mid
    made =
        made_from g IsFirst slot (one_write slot 0 bytes) (IsSlot slot) (IsGoneSlot slot first) old mid p refl (not_gone slot first slot done)
        (λ k at below.
        subst (λ l. one_write slot 0 bytes slot l ≡ Some (created_sector g slot l)) (sym at)
        (one_written slot 0 bytes ∙ ap Some (first_sector g slot 0 bytes (omega arith) text)))

-- ALL SLOTS OF THE ARRAY

-- The slots below this one have their superblocks.
pub record EnrolledSoFar (g : Geometry) (i : ℕ) (old now : RackState) : Type 0 where
  pub each : IsTrue now.honest → (j : ℕ) → j < i → AreMade g IsPlace j old.history now.history
  pub ran : IsTrue now.honest → Ran (IsMaking g (IsSlotOf g) IsPlace) old.history now.history
  pub in_turn : IsTrue now.honest → PlacesInTurn g old.history now.history
  pub counts : NoneFalls old.bads now.bads old.gones now.gones

pub enrolled_none : (g : Geometry) (now : RackState) → EnrolledSoFar g 0 now now
enrolled_none g now = record {
  each = λ is j below. absurd (omega arith);
  ran = λ is. ran_none now.history;
  in_turn = λ is. each_none now.history;
  counts = NoneFalls-same now.bads now.gones;
}

module _ (g : Geometry) (i : ℕ) (old now next : RackState) (so_far : EnrolledSoFar g i old now) (same : now.honest ≡ next.honest) (within : i < g.n)
    (ran : IsTrue next.honest → Ran (IsMaking g (IsSlot i) IsPlace) now.history next.history)
    (in_turn : IsTrue next.honest → PlacesInTurn g now.history next.history) (counts : NoneFalls now.bads next.bads now.gones next.gones) where
  pub enrolled_ran : IsTrue next.honest → Ran (IsMaking g (IsSlotOf g) IsPlace) old.history next.history
  enrolled_ran is =
      ran_join (so_far.ran (same ∙ is))
      (making_within g {slots = IsSlot i} {more = IsSlotOf g} (λ j at. subst (IsSlotOf g) (sym at) within) (λ k place. place) (ran is))

  pub enrolled_in_turn : IsTrue next.honest → PlacesInTurn g old.history next.history
  enrolled_in_turn is = in_turn_then g (ran_any {allowed = IsMaking g (IsSlotOf g) IsPlace} (so_far.ran (same ∙ is))) (so_far.in_turn (same ∙ is)) (in_turn is)

  pub enrolled_more : (IsTrue next.honest → AreMade g IsPlace i now.history next.history) → EnrolledSoFar g (i + 1) old next
  enrolled_more made = record {
    each = λ is.
        below_more (λ j. AreMade g IsPlace j old.history next.history) i
        (λ j below.
        made_on {allowed = IsMaking g (IsSlot i) IsPlace} (so_far.each (same ∙ is) j below) (ran is)
        (λ k on bytes may. let at : j ≡ i = may.0 in omega arith))
        (made_sooner (ran_any {allowed = IsMaking g (IsSlotOf g) IsPlace} (so_far.ran (same ∙ is))) (made is));
    ran = enrolled_ran;
    in_turn = enrolled_in_turn;
    counts = NoneFalls-then so_far.counts counts;
  }

  pub enrolled_stopped : IsStoppedAt g i now next → IsStoppedBy g (Gone i) old next
  enrolled_stopped stop = (
    within,
    record {
      gone = kept-Rose (old.gones i) (now.gones i) (next.gones i) (so_far.counts.gone i).not_less (counts.gone i).not_less stop.gone;
      offline = λ is before t. stop.offline is before (taken_on t (making_no_attach g i (so_far.ran (same ∙ is))));
    },
  )

-- THE FIRST CONFIGURATION

pub fill_more : {A : Type 0} (i n : ℕ) (a b : A) → i < n → n ≤ 32
    → set (replicate i a ++ replicate (32 - i) b) i a ≡ replicate (i + 1) a ++ replicate (32 - (i + 1)) b
fill_more {A} i n a b below most =
    let left : 32 - i ≡ suc (32 - (i + 1)) = omega arith in
    ap (λ m. set (replicate i a ++ replicate m b) i a) left ∙ filled (32 - (i + 1))
  where
    filled : (m : ℕ) → set (replicate i a ++ replicate (suc m) b) i a ≡ replicate (i + 1) a ++ replicate m b
    filled m =
        ap (λ k. set (replicate i a ++ b ∷ replicate m b) k a) (sym (length-replicate i a))
        ∙ set-append_seam (replicate i a) b (replicate m b) a
        ∙ sym (append_assoc (replicate i a) (a ∷ []) (replicate m b))
        ∙ ap (λ xs. xs ++ replicate m b) (replicate-append-replicate i 1 a)

pub first_from : (g : Geometry) (marks : List Mark) (joins label : List ℕ) → marks ≡ first_marks g → joins ≡ first_joins g → label ≡ []
    → ◌≡◌ {A = Configuration} (record { geometry = g; epoch = 1; marks = marks; joins = joins; frozen = false; label = label }) (first_configuration g)
first_from g marks joins label is is' none = λ i. record { geometry = g; epoch = 1; marks = is i; joins = is' i; frozen = false; label = none i }
