-- Sets of slots.
use Rattle.std.proofs.Common.{ℕ, ◌<◌, inl, inr, sym, ◌∙◌, arith}
use Rattle.std.specs.Prelude.{false}
use Rattle.std.proofs.lemmas.Bool.{cases_lt, false≢true}
use Rattle.std.proofs.lemmas.List.{get_or_past}
use Rattle.stair_model.specs.Slots.{Slots, HasSlot, IsSlotSet}

pub HasSlot-below : (set : Slots) → IsSlotSet set → (j : ℕ) → HasSlot set j → j < 32
HasSlot-below set of j has =
    elim (cases_lt j 32) [
      | inl below ↦ below
      | inr above ↦ absurd (false≢true (sym (get_or_past set.marks j false (omega (arith, of))) ∙ has))
    ]
