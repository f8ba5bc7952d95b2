-- How far a pass over the slots of a set has come: its calls, the slots that were gone, and the counts.
use Rattle.std.proofs.Common.{◌≡◌, ℕ, ◌<◌, ◌≤◌, ◌+◌, Bool, true, false, List, ◌⊎◌, inl, inr, refl, sym, ◌∙◌, subst, arith, Option, None, Some, add-one}
use Rattle.std.specs.Prelude.{IsTrue, ◌↔◌, not}
use Rattle.std.proofs.Common.{rules}
use Rattle.std.proofs.lemmas.Bool.{false_from_ne_true}
use denote.Enum.Bare.{sameb, same_true, same_false}
use Rattle.stair_rack.specs.contracts.rack.Reply.{the_type}
use Rattle.stair_model.specs.Slots.{Slots, has_slot, HasSlot, IsSlotSet}
use Rattle.stair_model.proofs.SetLaws.{same_test}
use Rattle.stair_rack.specs.Count.{Rose, Rose-kept, kept-Rose}
use Rattle.stair_rack.specs.RackCounts.{IsLaterCount, NoneFalls, RisesAtMost}
use Rattle.stair_rack.specs.History.{Happening, SlotCall}
use Rattle.stair_rack.specs.Answers.{Calls, reply_if}
use Rattle.stair_rack.specs.Passes.{Turns}
use Rattle.stair_rack.specs.declared.rack.Reply.{Reply}
use Rattle.stair_rack.specs.declared.rack.Reply.TheVariants as reply
use Rattle.stair_rack.proofs.TurnLemmas.{turns_none, turns_one_more, turns_skipped, turns_agree}

-- COUNTS

pub IsLaterCount-same : (n : ℕ) → IsLaterCount n n
IsLaterCount-same n = record { not_less = omega arith; fits = λ fits. fits }

pub IsLaterCount-then : {a b c : ℕ} → IsLaterCount a b → IsLaterCount b c → IsLaterCount a c
IsLaterCount-then first second =
    record { not_less = omega (arith, first.not_less, second.not_less); fits = λ fits. second.fits (first.fits fits) }

pub NoneFalls-same : (bads : ℕ) (gones : ℕ → ℕ) → NoneFalls bads bads gones gones
NoneFalls-same bads gones = record { bad = IsLaterCount-same bads; gone = λ j. IsLaterCount-same (gones j) }

pub NoneFalls-then : {bads bads' bads'' : ℕ} {gones gones' gones'' : ℕ → ℕ} → NoneFalls bads bads' gones gones'
    → NoneFalls bads' bads'' gones' gones'' → NoneFalls bads bads'' gones gones''
NoneFalls-then first second =
    record { bad = IsLaterCount-then first.bad second.bad; gone = λ j. IsLaterCount-then (first.gone j) (second.gone j) }

-- an answer that compares equal to Gone, and one that doesn't
pub Gone-compared : (answer : Reply) → sameb the_type answer reply.Gone ≡ true → answer ≡ reply.Gone
Gone-compared answer is = same_true the_type (search rules) answer reply.Gone is

pub Done-compared : (answer : Reply) → sameb the_type answer reply.Gone ≡ false → answer ≡ reply.Done
Done-compared reply.Done is = refl
Done-compared reply.Gone is = absurd (same_false the_type reply.Gone reply.Gone is refl)

-- what of a rack a pass speaks of
pub record Seen : Type 0 where
  pub history : List Happening
  pub bads : ℕ
  pub gones : ℕ → ℕ
  pub reads : Option ℕ

-- The slots below n of `to` were called.
pub record PassSoFar (call : Reply → SlotCall) (to gone : Slots) (n : ℕ) (honest : Bool) (old new : Seen) : Type 0 where
  pub turns : IsTrue honest → Turns call to gone n old.history new.history
  -- known from the first call on
  pub to_set : 0 < n → IsSlotSet to
  pub gone_set : IsSlotSet gone
  pub gone_is : (j : ℕ) → HasSlot gone j → (j < n) × HasSlot to j × Rose (old.gones j) (new.gones j)
  pub counts : NoneFalls old.bads new.bads old.gones new.gones
  pub reads : new.reads ≡ old.reads

-- What one call leaves.
pub record OneCall (c : SlotCall) (j : ℕ) (honest : Bool) (old new : Seen) : Type 0 where
  pub told : IsTrue honest → Calls old.history new.history j c
  pub counts : NoneFalls old.bads new.bads old.gones new.gones
  pub reads : new.reads ≡ old.reads

pub pass_start : (call : Reply → SlotCall) (to gone : Slots) (honest : Bool) (s : Seen) → IsSlotSet gone → ((j : ℕ) → ¬ HasSlot gone j)
    → PassSoFar call to gone 0 honest s s
pass_start call to gone honest s gone_set none = record {
  turns = λ is. turns_none call to gone s.history;
  to_set = λ below. absurd (omega (arith, below));
  gone_set = gone_set;
  gone_is = λ j has. absurd (none j has);
  counts = NoneFalls-same s.bads s.gones;
  reads = refl;
}

module _ (call : Reply → SlotCall) (to gone : Slots) (n : ℕ) (honest : Bool) (old mid new : Seen) (to_set : IsSlotSet to)
    (so_far : PassSoFar call to gone n honest old mid) where
  still_gone : NoneFalls mid.bads new.bads mid.gones new.gones → (j : ℕ) → HasSlot gone j
      → (j < n + 1) × HasSlot to j × Rose (old.gones j) (new.gones j)
  still_gone counts j has =
      let was = so_far.gone_is j has in
      (omega (arith, was.0), was.1, Rose-kept (old.gones j) (mid.gones j) (new.gones j) was.2 (counts.gone j).not_less)

  not_yet : ¬ HasSlot gone n
  not_yet has = let was = so_far.gone_is n has in absurd (omega (arith, was.0))

  pub pass_done : HasSlot to n → OneCall (call reply.Done) n honest mid new → PassSoFar call to gone (n + 1) honest old new
  pass_done on one = record {
    turns = λ is.
        let fine : has_slot gone n ≡ false = false_from_ne_true (has_slot gone n) not_yet in
        let last = subst (λ b. Calls mid.history new.history n (call (reply_if (not b)))) (sym fine) (one.told is) in
        subst (λ i. Turns call to gone i old.history new.history) (sym (add-one n))
        (turns_one_more call to gone n old.history mid.history new.history on (so_far.turns is) last);
    to_set = λ below. to_set;
    gone_set = so_far.gone_set;
    gone_is = still_gone one.counts;
    counts = NoneFalls-then so_far.counts one.counts;
    reads = one.reads ∙ so_far.reads;
  }

  pub pass_gone : (more : Slots) → IsSlotSet more → ((j : ℕ) → HasSlot more j ↔ (HasSlot gone j ⊎ (j ≡ n))) → HasSlot to n
      → OneCall (call reply.Gone) n honest mid new → Rose (mid.gones n) (new.gones n) → PassSoFar call to more (n + 1) honest old new
  pass_gone more more_set members on one rose = record {
    turns = λ is.
        let here : has_slot more n ≡ true = (members n).1 (inr refl) in
        let last = subst (λ b. Calls mid.history new.history n (call (reply_if (not b)))) (sym here) (one.told is) in
        let before = turns_agree call to gone more n old.history mid.history (λ j below. same_test (has_slot gone j) (has_slot more j) (agree j below)) (so_far.turns is) in
        subst (λ i. Turns call to more i old.history new.history) (sym (add-one n))
        (turns_one_more call to more n old.history mid.history new.history on before last);
    to_set = λ below. to_set;
    gone_set = more_set;
    gone_is = λ j has.
        elim ((members j).0 has) [
          | inl was ↦ still_gone one.counts j was
          | inr same ↦ (
            omega (arith, same),
            subst (HasSlot to) (sym same) on,
            subst (λ i. Rose (old.gones i) (new.gones i)) (sym same)
                (kept-Rose (old.gones n) (mid.gones n) (new.gones n) (so_far.counts.gone n).not_less (one.counts.gone n).not_less rose),
          )
        ];
    counts = NoneFalls-then so_far.counts one.counts;
    reads = one.reads ∙ so_far.reads;
  }
    where
      agree : (j : ℕ) → j < n → IsTrue (has_slot gone j) ↔ IsTrue (has_slot more j)
      agree j below = (
        λ was. (members j).1 (inl was),
        λ has. elim ((members j).0 has) [ inl was ↦ was | inr same ↦ absurd (omega (arith, below, same)) ],
      )

pub pass_skipped : (call : Reply → SlotCall) (to gone : Slots) (n : ℕ) (honest : Bool) (old new : Seen) → IsSlotSet to
    → PassSoFar call to gone n honest old new → has_slot to n ≡ false → PassSoFar call to gone (n + 1) honest old new
pass_skipped call to gone n honest old new to_set so_far off = record {
  turns = λ is.
      subst (λ i. Turns call to gone i old.history new.history) (sym (add-one n))
      (turns_skipped call to gone n old.history new.history off (so_far.turns is));
  to_set = λ below. to_set;
  gone_set = so_far.gone_set;
  gone_is = λ j has. let was = so_far.gone_is j has in (omega (arith, was.0), was.1, was.2);
  counts = so_far.counts;
  reads = so_far.reads;
}

-- a number that rises by at most so much
pub rises_none : (o : Option ℕ) → RisesAtMost 0 o o
rises_none None = refl
rises_none (Some n) = (n, refl, omega arith)

pub rises_more : (a b c : ℕ) (o m n : Option ℕ) → a + b ≡ c → RisesAtMost a o m → RisesAtMost b m n → RisesAtMost c o n
rises_more a b c None m n sum first second = rises_from m first second
  where
    rises_from : (m : Option ℕ) → m ≡ None → RisesAtMost b m n → n ≡ None
    rises_from None is second = second
    rises_from (Some x) is second = absurd (cc)
rises_more a b c (Some x) None n sum first second = absurd (let e = first.1 in cc)
rises_more a b c (Some x) (Some y) n sum first second =
    let same : y ≡ first.0 = let e = first.1 in cc in
    (second.0, second.1, omega (arith, first.2, second.2, same, sum))

-- a number that rises by at most so much rises by at most as much or more
pub rises_within : (a b : ℕ) (o n : Option ℕ) → a ≤ b → RisesAtMost a o n → RisesAtMost b o n
rises_within a b None n le rises = rises
rises_within a b (Some x) n le rises = (rises.0, rises.1, omega (arith, rises.2))
