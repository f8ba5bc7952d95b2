-- A phase that was made slot by slot, or sector by sector, and then synced.
use Rattle.std.proofs.Common.{◌≡◌, ℕ, ◌<◌, Bool, List, ◌⊎◌, inl, inr, refl, Some}
use Rattle.std.specs.Prelude.{IsTrue}
use Rattle.stair_model.specs.Slots.{Slots, HasSlot, IsSlotSet}
use Rattle.stair_rack.specs.Answers.{Ran, no_call}
use Rattle.stair_rack.specs.Count.{Rose, Rose-kept, kept-Rose}
use Rattle.stair_rack.specs.History.{Happening, SlotCall, Sync}
use Rattle.stair_rack.specs.Placed.{EndsPhase, Placed, Writes}
use Rattle.stair_rack.specs.RackCounts.{NoneFalls}
use Rattle.stair_rack.specs.Stretch.{WasAnswered}
use Rattle.stair_rack.specs.RackState.{rack_state}
use Rattle.stair_rack.specs.declared.rack.Reply.TheVariants as reply
use Rattle.stair_rack.proofs.MomentLemmas.{ran_none}
use Rattle.stair_rack.proofs.PassCounts.{NoneFalls-then, Seen}
use Rattle.stair_rack.proofs.PhaseCounts.{PhaseSoFar, phase_placed}
use Rattle.stair_rack.proofs.StretchLemmas.{answered_wider}
use Rattle.stair_journal.specs.Phases.{DoesPhase}
use Rattle.stair_journal.proofs.ToldLemmas.{AreGone, are_gone_ended}

-- a slot that was gone to neither was synced
pub synced_ended : {a : ℕ → SlotCall → Type 0} {to gone all : Slots} {old mid new : List Happening} → Ran a old mid → EndsPhase to gone all mid new
    → (j : ℕ) → HasSlot to j → ¬ HasSlot all j → WasAnswered j (Sync reply.Done) old new
synced_ended {a} {new = new} before ended j on fine =
    answered_wider {a = a} {b = no_call} before (ran_none new)
    (ended.settled.was_synced j (
      (ended.rest_are j).1 (on, λ was. fine ((ended.all_are j).1 (inl was))),
      λ last. fine ((ended.all_are j).1 (inr last)),
    ))

-- what was gone to the writes or to the syncs
module _ (what : Writes) (to gone all : Slots) (honest : Bool) (old mid : Seen)
    (new : List Happening) (bads : ℕ) (gones : ℕ → ℕ)
    (were : (j : ℕ) → HasSlot gone j → HasSlot to j × Rose (old.gones j) (mid.gones j)) (before : NoneFalls old.bads mid.bads old.gones mid.gones)
    (are : (j : ℕ) → HasSlot all j → HasSlot gone j ⊎ (HasSlot to j × Rose (mid.gones j) (gones j)))
    (after : NoneFalls mid.bads bads mid.gones gones) (formed : IsSlotSet all)
    (placed : IsTrue honest → Placed what (HasSlot to) (HasSlot all) old.history new)
    (told : IsTrue honest → AreGone (HasSlot all) old.history new)
    (synced : IsTrue honest → (j : ℕ) → HasSlot to j → ¬ HasSlot all j → WasAnswered j (Sync reply.Done) old.history new) where
  rose_in : (j : ℕ) → HasSlot all j → Rose (old.gones j) (gones j)
  rose_in j has =
      elim (are j has) [
        | inl was ↦ Rose-kept (old.gones j) (mid.gones j) (gones j) (were j was).1 (after.gone j).not_less
        | inr now ↦ kept-Rose (old.gones j) (mid.gones j) (gones j) (before.gone j).not_less (after.gone j).not_less now.1
      ]

  pub does_phase : DoesPhase what to all (rack_state honest old.history old.bads old.gones) (rack_state honest new bads gones)
  does_phase = record {
    honest = refl;
    placed = placed;
    told = told;
    synced = synced;
    among = λ j has. elim (are j has) [ inl was ↦ (were j was).0 | inr now ↦ now.0 ];
    rose = rose_in;
    formed = formed;
    counts = NoneFalls-then before after;
  }

-- all slots' writes, and the end
pub does_slots : (what : Writes) (to gone all : Slots) (n : ℕ) (honest : Bool) (old mid : Seen) (new : List Happening)
    (bads : ℕ) (gones : ℕ → ℕ) → PhaseSoFar what to gone n honest old mid
    → (IsTrue honest → AreGone (HasSlot gone) old.history mid.history)
    → ((j k : ℕ) (bytes : List ℕ) → HasSlot to j → what j k ≡ Some bytes → j < n)
    → ((j : ℕ) → HasSlot all j → HasSlot gone j ⊎ (HasSlot to j × Rose (mid.gones j) (gones j)))
    → NoneFalls mid.bads bads mid.gones gones → IsSlotSet all → (IsTrue honest → EndsPhase to gone all mid.history new)
    → DoesPhase what to all (rack_state honest old.history old.bads old.gones) (rack_state honest new bads gones)
does_slots what to gone all n honest old mid new bads gones so_far told covered are after formed ended =
    does_phase what to gone all honest old mid new bads gones (λ j has. ((so_far.gone_is j has).0, (so_far.gone_is j has).2)) so_far.counts are after formed
    (λ is. phase_placed so_far covered is (ended is)) (λ is. are_gone_ended (so_far.told is).ran (told is) (ended is))
    (λ is. synced_ended (so_far.told is).ran (ended is))
