-- How far a phase has come, slot by slot: its writes, the slots that were gone, and the counts.
use Rattle.std.proofs.Common.{◌≡◌, ℕ, ◌<◌, ◌+◌, Bool, false, List, ◌⊎◌, inl, inr, refl, sym, ◌∙◌, subst, arith, Some}
use Rattle.std.specs.Prelude.{IsTrue, ◌↔◌}
use Rattle.std.proofs.lemmas.Bool.{false≢true, cases_eq}
use Rattle.stair_model.specs.Slots.{Slots, has_slot, HasSlot, IsSlotSet}
use Rattle.stair_rack.specs.Answers.{Calls}
use Rattle.stair_rack.specs.Count.{Rose, Rose-kept, kept-Rose}
use Rattle.stair_rack.specs.History.{Happening, Write}
use Rattle.stair_rack.specs.Placed.{Writes, IsSlot, IsGoneSlot, Placed, EndsPhase}
use Rattle.stair_rack.specs.RackCounts.{NoneFalls}
use Rattle.stair_rack.specs.Writing.{Writing}
use Rattle.stair_rack.specs.declared.rack.Reply.{Reply}
use Rattle.stair_rack.specs.declared.rack.Reply.TheVariants as reply
use Rattle.stair_rack.proofs.PassCounts.{Seen, NoneFalls-same, NoneFalls-then}
use Rattle.stair_rack.proofs.WritingLemmas.{writing_none, Writing-same}
use Rattle.stair_rack.proofs.PhaseLemmas.{writing_one, Writing-asked, writing_then, Placed-ended}

-- ONE SLOT

-- What some of a phase's writes do, those of one slot, of which the last one gave this answer.
pub record WritesSlot (what : Writes) (slot : ℕ) (answer : Reply) (made : ℕ → ℕ → Type 0) (honest : Bool) (old new : Seen) : Type 0 where
  pub told : IsTrue honest → Writing what (IsSlot slot) (IsGoneSlot slot answer) made old.history new.history
  pub gone : answer ≡ reply.Gone → Rose (old.gones slot) (new.gones slot)
  pub counts : NoneFalls old.bads new.bads old.gones new.gones
  pub reads : new.reads ≡ old.reads

pub done_not_gone : {slot : ℕ} (j : ℕ) → ¬ IsGoneSlot slot reply.Done j
done_not_gone j is = let never : reply.Done ≡ reply.Gone = is.1 in absurd (cc)

-- none of them
pub slot_none : (what : Writes) (slot : ℕ) (made : ℕ → ℕ → Type 0) (honest : Bool) (s : Seen)
    → ((j k : ℕ) (bytes : List ℕ) → made j k → ¬ (what j k ≡ Some bytes)) → WritesSlot what slot reply.Done made honest s s
slot_none what slot made honest s none = record {
  told = λ is.
      Writing-asked (λ j k bytes is fine one. none j k bytes is one)
      (Writing-same (λ j. (λ never. absurd never, λ gone. done_not_gone j gone)) (λ j k never. never) (writing_none what (IsSlot slot) s.history));
  gone = λ is. let never : reply.Done ≡ reply.Gone = is in absurd (cc);
  counts = NoneFalls-same s.bads s.gones;
  reads = refl;
}

-- one of them
pub slot_one : (what : Writes) (slot sector : ℕ) (bytes : List ℕ) (answer : Reply) (honest : Bool) (old new : Seen)
    → (IsTrue honest → Calls old.history new.history slot (Write sector bytes answer)) → what slot sector ≡ Some bytes
    → (answer ≡ reply.Gone → Rose (old.gones slot) (new.gones slot)) → NoneFalls old.bads new.bads old.gones new.gones
    → new.reads ≡ old.reads → WritesSlot what slot answer (λ j k. (j ≡ slot) × (k ≡ sector)) honest old new
slot_one what slot sector bytes answer honest old new called one gone counts reads = record {
  told = λ is. writing_one what slot sector bytes answer old.history new.history (called is) one;
  gone = gone;
  counts = counts;
  reads = reads;
}

-- what isn't asked for need not be made
pub slot_asked : {what : Writes} {slot : ℕ} {answer : Reply} {made all : ℕ → ℕ → Type 0} {honest : Bool} {old new : Seen}
    → ((j k : ℕ) (bytes : List ℕ) → all j k → what j k ≡ Some bytes → made j k) → WritesSlot what slot answer made honest old new
    → WritesSlot what slot answer all honest old new
slot_asked asked w = record {
  told = λ is. Writing-asked (λ j k bytes is fine one. asked j k bytes is one) (w.told is);
  gone = w.gone;
  counts = w.counts;
  reads = w.reads;
}

-- where the slot was gone, nothing need be made
pub slot_stopped : {what : Writes} {slot : ℕ} {made all : ℕ → ℕ → Type 0} {honest : Bool} {old new : Seen} → ((j k : ℕ) → all j k → j ≡ slot)
    → WritesSlot what slot reply.Gone made honest old new → WritesSlot what slot reply.Gone all honest old new
slot_stopped here w = record {
  told = λ is. Writing-asked (λ j k bytes is fine one. absurd (fine (here j k is, refl))) (w.told is);
  gone = w.gone;
  counts = w.counts;
  reads = w.reads;
}

-- these, and then those
pub slot_then : {what : Writes} {slot : ℕ} {answer : Reply} {made made' all : ℕ → ℕ → Type 0} {honest : Bool} {old mid new : Seen}
    → ((j k : ℕ) (bytes : List ℕ) → all j k → (¬ IsGoneSlot slot answer j) → what j k ≡ Some bytes → made j k ⊎ made' j k)
    → WritesSlot what slot reply.Done made honest old mid → WritesSlot what slot answer made' honest mid new
    → WritesSlot what slot answer all honest old new
slot_then {what} {slot} {answer} {old = old} {mid = mid} {new = new} asked w w' = record {
  told = λ is.
      Writing-asked asked (writing_then (λ j on. on) (λ j. (λ gone. elim gone [ inl was ↦ absurd (done_not_gone j was) | inr now ↦ now ], λ now. inr now))
      (λ j k made. made) (w.told is) (w'.told is));
  gone = λ is.
      kept-Rose (old.gones slot) (mid.gones slot) (new.gones slot) (w.counts.gone slot).not_less (w'.counts.gone slot).not_less (w'.gone is);
  counts = NoneFalls-then w.counts w'.counts;
  reads = w'.reads ∙ w.reads;
}

-- EVERY SLOT

-- The writes of the slots of `to` below n were made, but for those that were gone.
pub record PhaseSoFar (what : Writes) (to gone : Slots) (n : ℕ) (honest : Bool) (old new : Seen) : Type 0 where
  pub told : IsTrue honest → Writing what (HasSlot to) (HasSlot gone) (λ j k. HasSlot to j × (j < n)) old.history new.history
  -- known from the first slot on
  pub to_set : 0 < n → IsSlotSet to
  pub gone_set : IsSlotSet gone
  pub gone_is : (j : ℕ) → HasSlot gone j → HasSlot to j × (j < n) × Rose (old.gones j) (new.gones j)
  pub counts : NoneFalls old.bads new.bads old.gones new.gones
  pub reads : new.reads ≡ old.reads

pub phase_start : (what : Writes) (to gone : Slots) (honest : Bool) (s : Seen) → IsSlotSet gone → ((j : ℕ) → ¬ HasSlot gone j)
    → PhaseSoFar what to gone 0 honest s s
phase_start what to gone honest s gone_set none = record {
  told = λ is.
      Writing-same (λ j. (λ never. absurd never, λ has. none j has)) (λ j k made. absurd (omega (arith, made.1))) (writing_none what (HasSlot to) s.history);
  to_set = λ below. absurd (omega (arith, below));
  gone_set = gone_set;
  gone_is = λ j has. absurd (none j has);
  counts = NoneFalls-same s.bads s.gones;
  reads = refl;
}

module _ (what : Writes) (to gone : Slots) (n : ℕ) (honest : Bool) (old mid new : Seen) (to_set : IsSlotSet to)
    (so_far : PhaseSoFar what to gone n honest old mid) where
  one_slot_more : (made : ℕ → ℕ → Type 0) → ((k : ℕ) (bytes : List ℕ) → what n k ≡ Some bytes → made n k) → (j k : ℕ) (bytes : List ℕ)
      → HasSlot to j × (j < n + 1) → what j k ≡ Some bytes → (HasSlot to j × (j < n)) ⊎ made j k
  one_slot_more made covered j k bytes on is =
      elim (cases_eq j n) [
        | inl same ↦ inr (subst (λ i. made i k) (sym same) (covered k bytes (subst (λ i. what i k ≡ Some bytes) same is)))
        | inr other ↦ inl (on.0, omega (arith, on.1, other))
      ]

  still_gone : NoneFalls mid.bads new.bads mid.gones new.gones → (j : ℕ) → HasSlot gone j
      → HasSlot to j × (j < n + 1) × Rose (old.gones j) (new.gones j)
  still_gone counts j has =
      let was = so_far.gone_is j has in
      (was.0, omega (arith, was.1), Rose-kept (old.gones j) (mid.gones j) (new.gones j) was.2 (counts.gone j).not_less)

  on_slot : HasSlot to n → (j : ℕ) → IsSlot n j → HasSlot to j
  on_slot on j same = subst (HasSlot to) (sym same) on

  pub phase_done : {made : ℕ → ℕ → Type 0} → HasSlot to n → WritesSlot what n reply.Done made honest mid new
      → ((k : ℕ) (bytes : List ℕ) → what n k ≡ Some bytes → made n k) → PhaseSoFar what to gone (n + 1) honest old new
  phase_done {made} on w covered = record {
    told = λ is.
        Writing-asked (λ j k bytes further fine one. one_slot_more made covered j k bytes further one)
        (writing_then (on_slot on) (λ j. (λ either. elim either [ inl was ↦ was | inr now ↦ absurd (done_not_gone j now) ], λ was. inl was))
        (λ j k made. made) (so_far.told is) (w.told is));
    to_set = λ below. to_set;
    gone_set = so_far.gone_set;
    gone_is = still_gone w.counts;
    counts = NoneFalls-then so_far.counts w.counts;
    reads = w.reads ∙ so_far.reads;
  }

  pub phase_gone : {made : ℕ → ℕ → Type 0} → (more : Slots) → IsSlotSet more → ((j : ℕ) → HasSlot more j ↔ (HasSlot gone j ⊎ (j ≡ n))) → HasSlot to n
      → WritesSlot what n reply.Gone made honest mid new → ((k : ℕ) (bytes : List ℕ) → what n k ≡ Some bytes → made n k)
      → PhaseSoFar what to more (n + 1) honest old new
  phase_gone {made} more more_set members on w covered = record {
    told = λ is.
        Writing-asked (λ j k bytes further fine one. one_slot_more made covered j k bytes further one)
        (writing_then (on_slot on) gone_are (λ j k made. made) (so_far.told is) (w.told is));
    to_set = λ below. to_set;
    gone_set = more_set;
    gone_is = λ j has.
        elim ((members j).0 has) [
          | inl was ↦ still_gone w.counts j was
          | inr same ↦ (
            on_slot on j same,
            omega (arith, same),
            subst (λ i. Rose (old.gones i) (new.gones i)) (sym same)
                (kept-Rose (old.gones n) (mid.gones n) (new.gones n) (so_far.counts.gone n).not_less (w.counts.gone n).not_less (w.gone refl)),
          )
        ];
    counts = NoneFalls-then so_far.counts w.counts;
    reads = w.reads ∙ so_far.reads;
  }
    where
      gone_are : (j : ℕ) → (HasSlot gone j ⊎ IsGoneSlot n reply.Gone j) ↔ HasSlot more j
      gone_are j = (
        λ either. elim either [ inl was ↦ (members j).1 (inl was) | inr now ↦ (members j).1 (inr now.0) ],
        λ has. elim ((members j).0 has) [ inl was ↦ inl was | inr same ↦ inr (same, refl) ],
      )

pub phase_skipped : (what : Writes) (to gone : Slots) (n : ℕ) (honest : Bool) (old new : Seen) → IsSlotSet to
    → PhaseSoFar what to gone n honest old new → has_slot to n ≡ false → PhaseSoFar what to gone (n + 1) honest old new
phase_skipped what to gone n honest old new to_set so_far off = record {
  told = λ is. Writing-asked (λ j k bytes on fine one. (on.0, below j on.0 on.1)) (so_far.told is);
  to_set = λ below. to_set;
  gone_set = so_far.gone_set;
  gone_is = λ j has. let was = so_far.gone_is j has in (was.0, omega (arith, was.1), was.2);
  counts = so_far.counts;
  reads = so_far.reads;
}
  where
    below : (j : ℕ) → HasSlot to j → j < n + 1 → j < n
    below j on further =
        elim (cases_eq j n) [
          | inl same ↦ absurd (false≢true (sym off ∙ subst (HasSlot to) same on))
          | inr other ↦ omega (arith, further, other)
        ]

-- THE END

-- the writes of all slots below n were made, and no other slot has any
pub phase_placed : {what : Writes} {to gone all : Slots} {n : ℕ} {honest : Bool} {old mid : Seen} {new : List Happening} → PhaseSoFar what to gone n honest old mid
    → ((j k : ℕ) (bytes : List ℕ) → HasSlot to j → what j k ≡ Some bytes → j < n)
    → IsTrue honest → EndsPhase to gone all mid.history new → Placed what (HasSlot to) (HasSlot all) old.history new
phase_placed so_far below is ends = Placed-ended (so_far.told is) (λ j k bytes on fine one. (on, below j k bytes on one)) ends
