-- Calls on the slots of a set, one after the other.
use Rattle.std.proofs.Common.{◌≡◌, ◌≢◌, ℕ, zero, suc, ◌<◌, ◌≤◌, true, false, List, [], ◌∷◌, ◌++◌, ◌⊎◌, inl, inr, refl, sym, ap, ◌∙◌, subst, arith}
use Rattle.std.specs.Prelude.{IsTrue, not}
use Rattle.std.proofs.lemmas.Bool.{cases_Bool, cases_eq, cond-true, cond-false, false≢true}
use Rattle.stair_model.specs.Slots.{Slots, has_slot, HasSlot}
use Rattle.stair_rack.specs.History.{SlotCall, Happening, Called, stopped}
use Rattle.stair_rack.specs.Answers.{IsAnswered, any_call, Calls, Told, Untold, Ran, reply_if}
use Rattle.stair_rack.specs.Moments.{AtEveryMoment}
use Rattle.stair_rack.specs.Passes.{InTurn, Turns, slots_below, IsOn}
use Rattle.stair_rack.specs.declared.rack.Reply.{Reply}
use Rattle.stair_rack.proofs.StepLemmas.{Keeps, kept, kept_throughout}
use Rattle.stair_rack.proofs.MomentLemmas.{ran_none, ran_any, ran_join, ran_weakened, ran_acts, calls_ran, IsThis, at_every_join, at_every_mapped}

-- the call on slot j, with its answer
abbrev pub turn : (Reply → SlotCall) → Slots → ℕ → SlotCall
turn call gone j = call (reply_if (not (has_slot gone j)))

-- THE LIST OF SLOTS

pub slots_below-zero : (set : Slots) → slots_below set 0 ≡ []
unfolding slots_below
slots_below-zero set = refl

pub slots_below-has : (set : Slots) (n : ℕ) → HasSlot set n → slots_below set (suc n) ≡ slots_below set n ++ n ∷ []
unfolding slots_below
slots_below-has set n has = cond-true _ _ _ has

pub slots_below-none : (set : Slots) (n : ℕ) → has_slot set n ≡ false → slots_below set (suc n) ≡ slots_below set n
unfolding slots_below
slots_below-none set n none = cond-false _ _ _ none

-- JOINING

pub in_turn_join : (call : Reply → SlotCall) (gone : Slots) (slots later : List ℕ) (old mid new : List Happening) → InTurn call gone slots old mid
    → InTurn call gone later mid new → InTurn call gone (slots ++ later) old new
in_turn_join call gone [] later old mid new first second = subst (λ h. InTurn call gone later h new) first second
in_turn_join call gone (j ∷ slots) later old mid new first second =
    (first.0, first.1, in_turn_join call gone slots later first.0 mid new first.2 second)

pub in_turn_split : (call : Reply → SlotCall) (gone : Slots) (slots later : List ℕ) (old new : List Happening) → InTurn call gone (slots ++ later) old new
    → (mid : List Happening) × InTurn call gone slots old mid × InTurn call gone later mid new
in_turn_split call gone [] later old new turns = (old, refl, turns)
in_turn_split call gone (j ∷ slots) later old new turns =
    let rest = in_turn_split call gone slots later turns.0 new turns.2 in (rest.0, (turns.0, turns.1, rest.1), rest.2)

pub turns_none : (call : Reply → SlotCall) (to gone : Slots) (h : List Happening) → Turns call to gone 0 h h
turns_none call to gone h = record { in_turn = subst (λ slots. InTurn call gone slots h h) (sym (slots_below-zero to)) refl }

pub turns_one_more : (call : Reply → SlotCall) (to gone : Slots) (n : ℕ) (old mid new : List Happening) → HasSlot to n → Turns call to gone n old mid
    → Calls mid new n (turn call gone n) → Turns call to gone (suc n) old new
turns_one_more call to gone n old mid new has turns called = record {
  in_turn =
      subst (λ slots. InTurn call gone slots old new) (sym (slots_below-has to n has))
      (in_turn_join call gone (slots_below to n) (n ∷ []) old mid new turns.in_turn (new, called, refl));
}

pub turns_skipped : (call : Reply → SlotCall) (to gone : Slots) (n : ℕ) (old new : List Happening) → has_slot to n ≡ false → Turns call to gone n old new
    → Turns call to gone (suc n) old new
turns_skipped call to gone n old new none turns =
    record { in_turn = subst (λ slots. InTurn call gone slots old new) (sym (slots_below-none to n none)) turns.in_turn }

-- the last of the calls
pub data LastTurn (call : Reply → SlotCall) (to gone : Slots) (n : ℕ) (old new : List Happening) : Type 0 where
  One : (mid : List Happening) → HasSlot to n → Turns call to gone n old mid → Calls mid new n (turn call gone n) → LastTurn call to gone n old new
  Skipped : has_slot to n ≡ false → Turns call to gone n old new → LastTurn call to gone n old new

pub last_turn : (call : Reply → SlotCall) (to gone : Slots) (n : ℕ) (old new : List Happening) → Turns call to gone (suc n) old new
    → LastTurn call to gone n old new
last_turn call to gone n old new turns =
    elim (cases_Bool (has_slot to n)) [
      | inl has ↦
          let split =
          in_turn_split call gone (slots_below to n) (n ∷ []) old new
          (subst (λ slots. InTurn call gone slots old new) (slots_below-has to n has) turns.in_turn) in
          let last : Calls split.0 new n (turn call gone n) = subst (λ h. Calls split.0 h n (turn call gone n)) (sym split.2.2) split.2.1 in
          One split.0 has (record { in_turn = split.1 }) last
      | inr none ↦ Skipped none (record { in_turn = subst (λ slots. InTurn call gone slots old new) (slots_below-none to n none) turns.in_turn })
    ]

-- as long as the answers below n are the same
pub turns_agree : (call : Reply → SlotCall) (to gone gone' : Slots) (n : ℕ) (old new : List Happening)
    → ((j : ℕ) → j < n → has_slot gone j ≡ has_slot gone' j) → Turns call to gone n old new → Turns call to gone' n old new
turns_agree call to gone gone' zero old new same turns =
    record {
      in_turn =
          subst (λ slots. InTurn call gone' slots old new) (sym (slots_below-zero to))
          (subst (λ slots. InTurn call gone slots old new) (slots_below-zero to) turns.in_turn);
    }
turns_agree call to gone gone' (suc n) old new same turns =
    elim (last_turn call to gone n old new turns) [
      | One mid has before last ↦
          turns_one_more call to gone' n old mid new has (turns_agree call to gone gone' n old mid (λ j below. same j (omega arith)) before)
          (subst (λ b. Calls mid new n (call (reply_if (not b)))) (same n (omega arith)) last)
      | Skipped none before ↦
          turns_skipped call to gone' n old new none (turns_agree call to gone gone' n old new (λ j below. same j (omega arith)) before)
    ]

-- WHAT THE CALLS ARE

-- one of the calls
pub record IsTurn (call : Reply → SlotCall) (to gone : Slots) (n j : ℕ) (c : SlotCall) : Type 0 where
  pub below : j < n
  pub on : HasSlot to j
  pub is : c ≡ turn call gone j

turn_sooner : (call : Reply → SlotCall) (to gone : Slots) (n j : ℕ) (c : SlotCall) → IsTurn call to gone n j c → IsTurn call to gone (suc n) j c
turn_sooner call to gone n j c is = record { below = omega (arith, is.below); on = is.on; is = is.is }

pub turns_ran : (call : Reply → SlotCall) (to gone : Slots) (n : ℕ) (old new : List Happening) → Turns call to gone n old new
    → Ran (IsTurn call to gone n) old new
turns_ran call to gone zero old new turns =
    let none : new ≡ old = subst (λ slots. InTurn call gone slots old new) (slots_below-zero to) turns.in_turn in
    subst (λ h. Ran (IsTurn call to gone 0) old h) (sym none) (ran_none old)
turns_ran call to gone (suc n) old new turns =
    elim (last_turn call to gone n old new turns) [
      | One mid has before last ↦
          let first : Ran (IsTurn call to gone (suc n)) old mid =
          ran_weakened (turn_sooner call to gone n) (turns_ran call to gone n old mid before) in
          let second : Ran (IsTurn call to gone (suc n)) mid new =
          ran_weakened {allowed = IsThis n (turn call gone n)} {more = IsTurn call to gone (suc n)}
          (λ j c this. record {
            below = omega (arith, this.0);
            on = subst (HasSlot to) (sym this.0) has;
            is = this.1 ∙ ap (turn call gone) (sym this.0);
          }) (calls_ran last) in
          ran_join first second
      | Skipped none before ↦ ran_weakened (turn_sooner call to gone n) (turns_ran call to gone n old new before)
    ]

pub IsOn-turn : (call : Reply → SlotCall) (to gone : Slots) (n j : ℕ) (c : SlotCall) → IsTurn call to gone n j c → IsOn to call j c
IsOn-turn call to gone n j c is = (is.on, (reply_if (not (has_slot gone j)), is.is))

-- a slot's turn
pub record TurnOf (call : Reply → SlotCall) (to gone : Slots) (j : ℕ) (old new : List Happening) : Type 0 where
  pub mid : List Happening
  pub next : List Happening
  pub sooner : Ran any_call old mid
  pub called : Calls mid next j (turn call gone j)
  pub later : Ran any_call next new

pub turn_of : (call : Reply → SlotCall) (to gone : Slots) (n j : ℕ) → j < n → HasSlot to j → (old new : List Happening) → Turns call to gone n old new
    → TurnOf call to gone j old new
turn_of call to gone zero j below has old new turns = absurd (omega (arith, below))
turn_of call to gone (suc n) j below has old new turns =
    elim (last_turn call to gone n old new turns) [
      | One mid has_n before last ↦
          elim (cases_eq n j) [
            | inl same ↦ record {
              mid = mid;
              next = new;
              sooner = ran_any {allowed = IsTurn call to gone n} (turns_ran call to gone n old mid before);
              called = subst (λ i. Calls mid new i (turn call gone i)) same last;
              later = ran_none new;
            }
            | inr other ↦
                let sooner = turn_of call to gone n j (omega (arith, below, other)) has old mid before in
                record {
                  mid = sooner.mid;
                  next = sooner.next;
                  sooner = sooner.sooner;
                  called = sooner.called;
                  later = ran_join sooner.later (ran_any {allowed = IsThis n (turn call gone n)} (calls_ran last));
                }
          ]
      | Skipped none before ↦
          let other : n ≢ j = (λ same. false≢true (sym none ∙ subst (λ i. has_slot to i ≡ true) (sym same) has)) in
          turn_of call to gone n j (omega (arith, below, other)) has old new before
    ]

-- BEFORE AND AFTER ONE SLOT'S TURN

-- a call on another slot than j
abbrev pub IsElsewhere : ℕ → ℕ → SlotCall → Type 0
IsElsewhere j i c = i ≢ j

-- A holds before a call of slot j, and B after it.
pub record Turned (A B : List Happening → Type 0) (j : ℕ) (c : SlotCall) : Type 0 where
  pub before : Keeps (IsElsewhere j) A
  pub after : Keeps (IsElsewhere j) B
  pub told : (h : List Happening) → A h → IsAnswered h j c → B (Called j c ∷ h)
  pub untold : (h : List Happening) → A h → IsTrue (stopped h) → IsAnswered h j c → B h

module _ (A B : List Happening → Type 0) where
  -- A up to the turn, and B from then on
  pub record BeforeAndAfter (old new : List Happening) : Type 0 where
    pub end : B new
    pub each : AtEveryMoment (λ h. A h ⊎ B h) old new

  before_throughout : (j : ℕ) (c : SlotCall) → Turned A B j c → (old new : List Happening) → Ran (IsElsewhere j) old new → A old
      → AtEveryMoment (λ h. A h ⊎ B h) old new
  before_throughout j c turned old new ran start =
      at_every_mapped {P = A} {Q = λ h. A h ⊎ B h} (λ h here. inl here) (kept_throughout {allowed = IsElsewhere j} {P = A} turned.before ran start)

  after_throughout : (j : ℕ) (c : SlotCall) → Turned A B j c → (old new : List Happening) → Ran (IsElsewhere j) old new → B old
      → AtEveryMoment (λ h. A h ⊎ B h) old new
  after_throughout j c turned old new ran start =
      at_every_mapped {P = B} {Q = λ h. A h ⊎ B h} (λ h here. inr here) (kept_throughout {allowed = IsElsewhere j} {P = B} turned.after ran start)

  pub one_turned : (j : ℕ) (c : SlotCall) → Turned A B j c → (old new : List Happening) → Calls old new j c → A old → BeforeAndAfter old new
  one_turned j c turned old new (Told acts runs answered is) start =
      let ran : Ran (IsElsewhere j) old (acts ++ old) = ran_acts acts old runs in
      let upto : A (acts ++ old) = kept {allowed = IsElsewhere j} {P = A} turned.before ran start in
      let then_b : B (Called j c ∷ (acts ++ old)) = turned.told (acts ++ old) upto answered in
      let first = before_throughout j c turned old (acts ++ old) ran start in
      let last : AtEveryMoment (λ h. A h ⊎ B h) (acts ++ old) (Called j c ∷ (acts ++ old)) =
      record { more = Called j c ∷ []; is = refl; each = (inr then_b, inl upto) } in
      record {
        end = subst B (sym is) then_b;
        each = subst (λ h. AtEveryMoment (λ g. A g ⊎ B g) old h) (sym is) (at_every_join first last);
      }
  one_turned j c turned old new (Untold acts runs answered is_stopped nothing is) start =
      let ran : Ran (IsElsewhere j) old (acts ++ old) = ran_acts acts old runs in
      let upto : A (acts ++ old) = kept {allowed = IsElsewhere j} {P = A} turned.before ran start in
      record {
        end = subst B (sym is) (turned.untold (acts ++ old) upto is_stopped answered);
        each = subst (λ h. AtEveryMoment (λ g. A g ⊎ B g) old h) (sym is) (before_throughout j c turned old (acts ++ old) ran start);
      }

  elsewhere : (call : Reply → SlotCall) (to gone : Slots) (n j : ℕ) → n ≤ j → (old new : List Happening) → Turns call to gone n old new
      → Ran (IsElsewhere j) old new
  elsewhere call to gone n j above old new turns =
      ran_weakened {allowed = IsTurn call to gone n} {more = IsElsewhere j} (λ i c is same. absurd (omega (arith, is.below, same)))
      (turns_ran call to gone n old new turns)

  pub turned_below : (call : Reply → SlotCall) (to gone : Slots) (j : ℕ) → HasSlot to j → Turned A B j (turn call gone j) → (n : ℕ) → j < n
      → (old new : List Happening) → Turns call to gone n old new → A old → BeforeAndAfter old new
  turned_below call to gone j has turned zero below old new turns start = absurd (omega (arith, below))
  turned_below call to gone j has turned (suc n) below old new turns start =
      elim (last_turn call to gone n old new turns) [
        | One mid has_n before last ↦
            elim (cases_eq n j) [
              | inl same ↦
                  let ran : Ran (IsElsewhere j) old mid = elsewhere call to gone n j (omega arith) old mid before in
                  let upto : A mid = kept {allowed = IsElsewhere j} {P = A} turned.before ran start in
                  let here = one_turned j (turn call gone j) turned mid new (subst (λ i. Calls mid new i (turn call gone i)) same last) upto in
                  record { end = here.end; each = at_every_join (before_throughout j _ turned old mid ran start) here.each }
              | inr other ↦
                  let first = turned_below call to gone j has turned n (omega arith) old mid before start in
                  let ran : Ran (IsElsewhere j) mid new =
                  ran_weakened {allowed = IsThis n (turn call gone n)} {more = IsElsewhere j} (λ i c this same. absurd (other (sym this.0 ∙ same)))
                  (calls_ran last) in
                  record {
                    end = kept {allowed = IsElsewhere j} {P = B} turned.after ran first.end;
                    each = at_every_join first.each (after_throughout j _ turned mid new ran first.end);
                  }
            ]
        | Skipped none before ↦
            let other : n ≢ j = (λ same. false≢true (sym none ∙ subst (λ i. has_slot to i ≡ true) (sym same) has)) in
            turned_below call to gone j has turned n (omega arith) old new before start
      ]
