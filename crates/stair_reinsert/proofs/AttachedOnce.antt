-- A survey attaches each slot once: so after the attach that found a slot's medium none follows.
use Rattle.std.proofs.Common.{◌≡◌, ℕ, zero, suc, ◌+◌, ◌<◌, ◌≤◌, List, [], ◌∷◌, ◌++◌, ◌⊎◌, inl, inr, refl, sym, ap, ◌∙◌, subst, arith, ◌==◌, if◌then◌else◌}
use Rattle.std.proofs.lemmas.Bool.{cases_eq, cond-true, cond-false, eq-eqb, ne_eqb}
use Rattle.stair_rack.specs.Answers.{Calls, IsCall, IsNoAttach, Ran, Runs, Told, Untold, no_call}
use Rattle.stair_rack.specs.History.{Acted, Attach, Called, Happening, Made, Read, Sectors, SlotCall, Stopped, Sync, Write}
use Rattle.stair_rack.specs.Outside.{IsAct}
use Rattle.stair_rack.specs.declared.rack.Reply.TheVariants.{Done, Gone}
use Rattle.stair_rack.proofs.OfflineLemmas.{refused}
use Rattle.stair_member.specs.Asked.{AsksBelow, AsksSlot, NotThere, There}

-- whether the happening is an attach of slot j
attach_in : ℕ → Happening → ℕ
attach_in j (Made image) = 0
attach_in j Stopped = 0
attach_in j (Acted i a) = 0
attach_in j (Called i (Attach answer)) = if i == j then 1 else 0
attach_in j (Called i (Sectors size)) = 0
attach_in j (Called i (Read k answer)) = 0
attach_in j (Called i (Write k bytes answer)) = 0
attach_in j (Called i (Sync answer)) = 0

-- how often it was attached
attaches : ℕ → List Happening → ℕ
attaches j [] = 0
attaches j (e ∷ h) = attach_in j e + attaches j h

none_lost : (j : ℕ) (more h : List Happening) → attaches j h ≤ attaches j (more ++ h)
unfolding attaches
none_lost j [] h = omega arith
none_lost j (e ∷ more) h = omega (arith, none_lost j more h)

-- a call that is none, or of another slot, and the acts before a call
is_none : (j i : ℕ) (c : SlotCall) → IsNoAttach j i c → attach_in j (Called i c) ≡ 0
unfolding attach_in
is_none j i (Attach answer) not =
    elim (cases_eq i j) [
      | inl same ↦ absurd (not same)
      | inr other ↦ cond-false _ _ _ (ne_eqb i j other)
    ]
is_none j i (Sectors size) not = refl
is_none j i (Read k answer) not = refl
is_none j i (Write k bytes answer) not = refl
is_none j i (Sync answer) not = refl

at_most_one : (j : ℕ) (e : Happening) → attach_in j e ≤ 1
unfolding attach_in
at_most_one j (Made image) = omega arith
at_most_one j Stopped = omega arith
at_most_one j (Acted i a) = omega arith
at_most_one j (Called i (Attach answer)) =
    elim (cases_eq i j) [
      | inl same ↦ omega (arith, cond-true {A = ℕ} (i == j) 1 0 (eq-eqb i j same))
      | inr other ↦ omega (arith, cond-false {A = ℕ} (i == j) 1 0 (ne_eqb i j other))
    ]
at_most_one j (Called i (Sectors size)) = omega arith
at_most_one j (Called i (Read k answer)) = omega arith
at_most_one j (Called i (Write k bytes answer)) = omega arith
at_most_one j (Called i (Sync answer)) = omega arith

acts_none : (j : ℕ) (acts h : List Happening) → Runs no_call acts h → attaches j (acts ++ h) ≡ attaches j h
unfolding attaches attach_in
acts_none j [] h runs = refl
acts_none j (Made image ∷ acts) h runs = omega (arith, acts_none j acts h runs.0)
acts_none j (Stopped ∷ acts) h runs = omega (arith, acts_none j acts h runs.0)
acts_none j (Acted i a ∷ acts) h runs = omega (arith, acts_none j acts h runs.0)
acts_none j (Called i c ∷ acts) h runs = absurd (elim runs.1 [ inl act ↦ act | inr call ↦ call.0 ])

-- one call
by_call : (j i : ℕ) (c : SlotCall) (old new : List Happening) → Calls old new i c
    → (attaches j new ≡ attach_in j (Called i c) + attaches j old) ⊎ (attaches j new ≡ attaches j old)
unfolding attaches
by_call j i c old new (Told acts runs answered is) =
    inl (ap (attaches j) is ∙ ap (λ n. attach_in j (Called i c) + n) (acts_none j acts old runs))
by_call j i c old new (Untold acts runs answered stops nothing is) = inr (ap (attaches j) is ∙ acts_none j acts old runs)

call_beside : (j i : ℕ) (c : SlotCall) (old new : List Happening) → IsNoAttach j i c → Calls old new i c → attaches j new ≤ attaches j old
call_beside j i c old new not called =
    elim (by_call j i c old new called) [
      | inl more ↦ omega (arith, more, is_none j i c not)
      | inr same ↦ omega (arith, same)
    ]

call_once : (j i : ℕ) (c : SlotCall) (old new : List Happening) → Calls old new i c → attaches j new ≤ attaches j old + 1
call_once j i c old new called =
    elim (by_call j i c old new called) [
      | inl more ↦ omega (arith, more, at_most_one j (Called i c))
      | inr same ↦ omega (arith, same)
    ]

-- the calls of a survey
slot_beside : (j i : ℕ) → ¬ (i ≡ j) → (old new : List Happening) → AsksSlot i old new → attaches j new ≤ attaches j old
slot_beside j i other old new (NotThere gone) = call_beside j i (Attach Gone) old new (λ same. absurd (other same)) gone
slot_beside j i other old new (There attached between first second found one two) =
    omega (
      arith,
      call_beside j i (Attach Done) old attached (λ same. absurd (other same)) found,
      call_beside j i (Read 0 first) attached between (λ same. tt) one,
      call_beside j i (Read 1 second) between new (λ same. tt) two,
    )

slot_once : (j : ℕ) (old new : List Happening) → AsksSlot j old new → attaches j new ≤ attaches j old + 1
slot_once j old new (NotThere gone) = call_once j j (Attach Gone) old new gone
slot_once j old new (There attached between first second found one two) =
    omega (
      arith,
      call_once j j (Attach Done) old attached found,
      call_beside j j (Read 0 first) attached between (λ same. tt) one,
      call_beside j j (Read 1 second) between new (λ same. tt) two,
    )

below_beside : (bound j : ℕ) → bound ≤ j → (old new : List Happening) → AsksBelow bound old new → attaches j new ≤ attaches j old
below_beside zero j small old new same = omega (arith, ap (attaches j) same)
below_beside (suc i) j small old new asked =
    omega
    (arith, below_beside i j (omega (arith, small)) old asked.0 asked.1, slot_beside j i (λ same. omega (arith, same, small)) asked.0 new asked.2)

below_once : (bound j : ℕ) → j < bound → (old new : List Happening) → AsksBelow bound old new → attaches j new ≤ attaches j old + 1
below_once zero j small old new asked = absurd (omega (arith, small))
below_once (suc i) j small old new asked =
    elim (cases_eq i j) [
      | inl at ↦
          omega (
            arith,
            below_beside i j (omega (arith, at)) old asked.0 asked.1,
            slot_once j asked.0 new (subst (λ (n : ℕ). AsksSlot n asked.0 new) at asked.2),
          )
      | inr other ↦
          omega (arith, below_once i j (omega (arith, small, other)) old asked.0 asked.1, slot_beside j i other asked.0 new asked.2)
    ]

-- where no attach was counted none came
uncounted : (allowed : ℕ → SlotCall → Type 0) (j : ℕ) (more h : List Happening) → Runs allowed more h → attaches j (more ++ h) ≤ attaches j h
    → Runs (IsNoAttach j) more h
unfolding attaches attach_in
uncounted allowed j [] h runs same = tt
uncounted allowed j (e ∷ more) h runs same =
    (uncounted allowed j more h runs.0 (omega (arith, same)), by e runs.1 (omega (arith, same, none_lost j more h)))
  where
    beside : (i : ℕ) (c : SlotCall) → attach_in j (Called i c) ≡ 0 → IsNoAttach j i c
    beside i (Attach answer) none same = absurd (omega (arith, none, cond-true {A = ℕ} (i == j) 1 0 (eq-eqb i j same)))
    beside i (Sectors size) none same = tt
    beside i (Read k answer) none same = tt
    beside i (Write k bytes answer) none same = tt
    beside i (Sync answer) none same = tt

    by : (e : Happening) → IsAct (more ++ h) e ⊎ IsCall allowed (more ++ h) e → attach_in j e ≡ 0
        → IsAct (more ++ h) e ⊎ IsCall (IsNoAttach j) (more ++ h) e
    by e (inl act) none = inl act
    by (Called i c) (inr call) none = inr (beside i c none, call.1)
    by (Made image) (inr call) none = absurd call
    by Stopped (inr call) none = absurd call
    by (Acted i a) (inr call) none = absurd call

-- an attach that was done is told
attach_counted : (j : ℕ) (old new : List Happening) → Calls old new j (Attach Done) → attaches j old + 1 ≤ attaches j new
unfolding attaches attach_in
attach_counted j old new (Told acts runs answered is) =
    omega (arith, ap (attaches j) is, acts_none j acts old runs, cond-true {A = ℕ} (j == j) 1 0 (eq-eqb j j refl))
attach_counted j old new (Untold acts runs answered stops nothing is) =
    let gone_then = refused (acts ++ old) j (Attach Done) stops answered in absurd (cc)

-- AFTER THE ATTACH
pub none_after : {a b : ℕ → SlotCall → Type 0} {old from attached new : List Happening} (j : ℕ) → j < 32 → AsksBelow 32 old new → Ran a old from
    → Calls from attached j (Attach Done) → Ran b attached new → Ran (IsNoAttach j) attached new
none_after {a} {b} {old} {from} {attached} {new} j small asked sooner called later = record {
  more = later.more;
  is = later.is;
  runs =
      uncounted b j later.more attached later.runs
      (omega (
        arith,
        below_once 32 j small old new asked,
        attach_counted j from attached called,
        ap (attaches j) later.is,
        subst (λ (h : List Happening). attaches j old ≤ attaches j h) (sym sooner.is) (none_lost j sooner.more old),
      ));
}
