-- All that is pending of the slots goes to their files, one slot after the other.
use Rattle.std.proofs.Common.{◌≡◌, ◌≤◌, ◌<◌, ℕ, ◌+◌, List, [], Option, length, get_or, set, inl, inr, sym, ◌∙◌, subst, arith, refl}
use Rattle.std.proofs.lemmas.Bool.{cases_eq}
use Rattle.std.proofs.lemmas.List.{get_or-set_other}
use Rattle.stair_rack.specs.RackCounts.{IsLaterCount, NoneFalls}
use Rattle.stair_rack.specs.declared.rack.Reply.{Reply}
use Rattle.stair_filerack.specs.declared.access.Access.{Access}
use Rattle.stair_filerack.specs.Slot.{FileSlot, untouched}
use Rattle.stair_filerack.specs.FileRack.{FileRackState, gones_of}
use Rattle.stair_filerack.specs.Finish.{Finishes, FinishesAll}
use Rattle.stair_filerack.proofs.RackLemmas.{gones_kept, rack_of, same_count, slot_read, slot_same}

-- So many slots are finished, and the others are as they were.
pub record FinishedTo {File : Type 0} (contents : File → Option (List ℕ)) (count : ℕ) (first now : List (FileSlot File)) : Type 0 where
  pub done : (j : ℕ) → j < count → (answer : Reply) × Finishes contents answer (get_or first j (untouched [])) (get_or now j (untouched []))
  pub later : (j : ℕ) → IsLaterCount (get_or first j (untouched [])).gones (get_or now j (untouched [])).gones
  pub left : (j : ℕ) → count ≤ j → get_or now j (untouched []) ≡ get_or first j (untouched [])

-- one slot more
pub finished_next : {File : Type 0} (contents : File → Option (List ℕ)) (i : ℕ) (first slots : List (FileSlot File)) (was slot : FileSlot File)
    (answer : Reply) → i < length slots → was ≡ get_or slots i was → Finishes contents answer was slot → IsLaterCount was.gones slot.gones
    → FinishedTo contents i first slots → FinishedTo contents (i + 1) first (set slots i slot)
finished_next {File} contents i first slots was slot answer within is finishes later so_far =
    let none : FileSlot File = untouched [] in
    record {
      done = λ j below.
          elim (cases_eq j i) [
            | inl same ↦
                let old : was ≡ get_or first j none =
                slot_read slots i j was within (sym same) is ∙ so_far.left j (omega (arith, same)) in (
                  answer,
                  subst (λ (s : FileSlot File). Finishes contents answer (get_or first j none) s) (sym (slot_same slots i j slot within (sym same)))
                      (subst (λ (s : FileSlot File). Finishes contents answer s slot) old finishes),
                )
            | inr other ↦
                let before = so_far.done j (omega (arith, below, other)) in (
                  before.0,
                  subst (λ (s : FileSlot File). Finishes contents before.0 (get_or first j none) s) (sym (get_or-set_other slots i j slot none other)) before.1,
                )
          ];
      later = λ j.
          let step = gones_kept slots i was slot within is later j in
          let before = so_far.later j in
          record { not_less = omega (arith, step.not_less, before.not_less); fits = λ fits. step.fits (before.fits fits) };
      left = λ j past.
          get_or-set_other slots i j slot none (λ same. absurd (omega (arith, same, past))) ∙ so_far.left j (omega (arith, past));
    }

-- what the rack is once all are finished
pub finished_counts : {File : Type 0} (contents : File → Option (List ℕ)) (count : ℕ) (old : FileRackState File) (access : Access) (bads : ℕ)
    (slots now : List (FileSlot File)) → rack_of access bads slots ≡ old → FinishedTo contents count slots now
    → NoneFalls old.bads bads (gones_of old) (λ n. (get_or now n (untouched [])).gones)
finished_counts {File} contents count old access bads slots now parts all =
    subst (λ (r : FileRackState File). NoneFalls r.bads bads (gones_of r) (λ n. (get_or now n (untouched [])).gones)) parts
    (record { bad = same_count bads; gone = all.later })

pub finished_all : {File : Type 0} (contents : File → Option (List ℕ)) (count : ℕ) (old : FileRackState File) (access : Access) (bads : ℕ)
    (slots now : List (FileSlot File)) → rack_of access bads slots ≡ old → FinishedTo contents count slots now → 32 ≤ count
    → FinishesAll contents old (rack_of access bads now)
finished_all {File} contents count old access bads slots now parts all enough =
    subst (λ (r : FileRackState File). FinishesAll contents r (rack_of access bads now)) parts
    (record { access = refl; bads = refl; slots = λ j below. all.done j (omega (arith, below, enough)) })
