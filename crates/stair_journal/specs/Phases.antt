-- What a phase of a redo does on any rack.
use Rattle.std.specs.Prelude.{◌≡◌, ℕ, IsTrue}
use Rattle.stair_model.specs.Slots.{Slots, HasSlot, IsSlotSet}
use Rattle.stair_rack.specs.Count.{Rose}
use Rattle.stair_rack.specs.History.{SlotCall, Attach, Sectors, Read, Write, Sync}
use Rattle.stair_rack.specs.Placed.{Placed, Writes}
use Rattle.stair_rack.specs.RackCounts.{NoneFalls}
use Rattle.stair_rack.specs.Stretch.{WasAnswered}
use Rattle.stair_rack.specs.RackState.{RackState}
use Rattle.stair_rack.specs.declared.rack.Reply.TheVariants as reply

-- a write or a sync that was answered gone
abbrev pub AnswersGone : SlotCall → Type 0
AnswersGone (Attach answer) = ⊥
AnswersGone (Sectors size) = ⊥
AnswersGone (Read k answer) = ⊥
AnswersGone (Write k bytes answer) = answer ≡ reply.Gone
AnswersGone (Sync answer) = answer ≡ reply.Gone

-- These writes were made on the slots of `to`, which were then synced, but for those of `gone`: each of these was gone, and
-- its count rose.
pub record DoesPhase (what : Writes) (to gone : Slots) (old new : RackState) : Type 0 where
  pub honest : old.honest ≡ new.honest
  pub placed : IsTrue new.honest
      → Placed what (HasSlot to) (HasSlot gone) old.history new.history
  -- on an honest rack a slot that answered gone to a write or a sync is one of them
  pub told : IsTrue new.honest → (j : ℕ) (call : SlotCall)
      → WasAnswered j call old.history new.history → AnswersGone call → HasSlot gone j
  -- and one that isn't answered Done to its sync, so it was attached then
  pub synced : IsTrue new.honest → (j : ℕ) → HasSlot to j → ¬ HasSlot gone j
      → WasAnswered j (Sync reply.Done) old.history new.history
  pub among : (j : ℕ) → HasSlot gone j → HasSlot to j
  pub rose : (j : ℕ) → HasSlot gone j → Rose (old.gones j) (new.gones j)
  pub formed : IsSlotSet gone
  pub counts : NoneFalls old.bads new.bads old.gones new.gones
