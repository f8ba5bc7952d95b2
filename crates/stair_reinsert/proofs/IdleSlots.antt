-- A slot that isn't attached, and that no call attaches, has the media that it had, wherever they lie.
use Rattle.std.proofs.Common.{◌≡◌, ℕ, List, refl, sym, ap, ◌∙◌, Some, inl}
use Rattle.stair_rack.specs.Answers.{IsNoAttach, Ran}
use Rattle.stair_rack.specs.Crash.{CrashMayLeave, SlotMayLeave}
use Rattle.stair_rack.specs.History.{Happening, slot_state}
use Rattle.stair_rack.specs.Media.{Image, Medium, SlotImage}
use Rattle.stair_rack.specs.Offline.{IsAttached}
use Rattle.stair_rack.specs.Sector.{Cell}
use Rattle.stair_rack.proofs.MomentLemmas.{ran_before}
use Rattle.stair_state.specs.Degraded.{AreAllDamaged, AreDamagedCopies}
use Rattle.stair_state.specs.Reassembly.{Empty, InSlot, IsMediumOf, IsReassembledSlot, Location, OneOf, Outside, Unwritten}
use Rattle.stair_state.proofs.DegradedLemmas.{copies_again, copies_damaged}
use Rattle.stair_state.proofs.OutsideLemmas.{slot_now, slot_now_left}
use Rattle.stair_reinsert.specs.Following.{SurvivesDamage, name_of}
use Rattle.stair_reinsert.proofs.NameLemmas.{still_attached}
use Rattle.stair_reinsert.proofs.WhereverLemmas.{holds_wherever}

-- It is the slot's medium of this name as it was at `old`, some of whose cells may be damaged; or it was never written.
data IsMediumWas (old : List Happening) (j : ℕ) (name : Location) (size : ℕ) (cell : ℕ → Cell) : Type 0 where
  WasOne : (was : SlotImage) (place : Location) (medium : Medium) → SlotMayLeave (slot_state old j) was → IsMediumOf was place medium
      → name_of old j place ≡ name → medium.size ≡ size → AreDamagedCopies medium.cell cell → IsMediumWas old j name size cell
  WasNone : AreAllDamaged cell → IsMediumWas old j name size cell

was_survives : (old : List Happening) (j : ℕ) (name : Location) (size : ℕ) → SurvivesDamage (IsMediumWas old j name size)
was_survives old j name size = record { harmed = again; blank = λ cell all. WasNone all }
  where
    again : (was is : ℕ → Cell) → AreDamagedCopies was is → IsMediumWas old j name size was → IsMediumWas old j name size is
    again was is copies (WasOne first place medium left at named sized copied) =
        WasOne first place medium left at named sized (copies_again copied copies)
    again was is copies (WasNone all) = WasNone (copies_damaged all copies)

module _ (old h : List Happening) (ran : (j : ℕ) → Ran (IsNoAttach j) old h) (image : Image) (left : CrashMayLeave h image) (j : ℕ)
    (off : ¬ IsAttached old j) where
  was_wherever : (p : Location) (medium : Medium) → IsMediumOf (image j) p medium → IsMediumWas old j (name_of h j p) medium.size medium.cell
  was_wherever p medium is =
      holds_wherever j (name_of h j p) (IsMediumWas old j (name_of h j p)) (was_survives old j (name_of h j p)) {allowed = IsNoAttach j} (ran j)
      (λ x at on named slot may size sized. absurd (off (still_attached j (ran_before (ran j) at) on).0))
      (record {
        inside = λ named slot may size sized.
            WasOne slot InSlot (record { size = size; cell = slot.cell }) may (sized, refl) named refl (λ k. inl refl);
        outside = λ i m named at.
            WasOne (slot_now (slot_state old j)) (Outside i) m (slot_now_left (slot_state old j)) at named refl (λ k. inl refl);
      }) image left p medium is refl

  -- what it is reassembled of then it might have been at first
  pub record WasReassembled (to : SlotImage) : Type 0 where
    pub was : SlotImage
    pub may : SlotMayLeave (slot_state old j) was
    pub slot : IsReassembledSlot was to

  pub idle_slot : (to : SlotImage) → IsReassembledSlot (image j) to → WasReassembled to
  idle_slot to (Unwritten size is all) =
      record { was = slot_now (slot_state old j); may = slot_now_left (slot_state old j); slot = Unwritten size is all }
  idle_slot to (Empty none all) =
      record { was = slot_now (slot_state old j); may = slot_now_left (slot_state old j); slot = Empty none all }
  idle_slot to (OneOf p medium is size copies past) = by (was_wherever p medium is)
    where
      by : IsMediumWas old j (name_of h j p) medium.size medium.cell → WasReassembled to
      by (WasOne was place first may at named sized copied) =
          record { was = was; may = may; slot = OneOf place first at (size ∙ ap Some (sym sized)) (copies_again copied copies) past }
      by (WasNone all) = record {
        was = slot_now (slot_state old j);
        may = slot_now_left (slot_state old j);
        slot = Unwritten medium.size size (copies_damaged all copies);
      }
