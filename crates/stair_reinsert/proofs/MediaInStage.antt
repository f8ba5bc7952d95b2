-- A medium that was pulled in the midst of a redo stays in its stage, wherever it lies.
use Rattle.std.proofs.Common.{◌≡◌, ℕ, List, inl, inr, refl, sym, subst}
use Rattle.std.specs.Prelude.{IsSome}
use Rattle.stair_model.specs.Device.{DevicePart, sector_of}
use Rattle.stair_model.specs.Slots.{HasSlot, Slots}
use Rattle.stair_rack.specs.Answers.{IsNoAttach, Ran}
use Rattle.stair_rack.specs.Crash.{CrashMayLeave, SlotMayLeave}
use Rattle.stair_rack.specs.History.{Happening, slot_state}
use Rattle.stair_rack.specs.Media.{Image, SlotImage}
use Rattle.stair_rack.specs.Moments.{AtEveryMoment, IsMoment}
use Rattle.stair_rack.specs.Offline.{WasPulled}
use Rattle.stair_rack.specs.Placed.{IsSlot}
use Rattle.stair_rack.specs.Sector.{Cell}
use Rattle.stair_rack.proofs.MomentLemmas.{at_moment, ran_after, ran_before}
use Rattle.stair_state.specs.Degraded.{AreDamagedCopies}
use Rattle.stair_state.specs.Forms.{HasGate, RepresentsBy}
use Rattle.stair_state.specs.Reassembly.{InSlot}
use Rattle.stair_state.specs.Redoing.{IsIn, IsLeftIn, IsRedoing, Placing, Redoing, Stage, new_in, old_in}
use Rattle.stair_state.proofs.RedoFormLemmas.{stands}
use Rattle.stair_state.proofs.StageLemmas.{Concerns, PartHas, PartLeaves, is_left_in, left_in, part_damage, slot_in}
use Rattle.stair_reinsert.specs.Following.{HoldsNamed, SurvivesDamage, name_of}
use Rattle.stair_reinsert.proofs.WhereverLemmas.{kept_left, own_wherever}

-- a medium of slot j with these cells is in this stage
abbrev MediumIn : Redoing → Stage → ℕ → (ℕ → Cell) → Type 0
MediumIn a stage j cell = (part : DevicePart) → Concerns a j part → PartHas a stage j part (cell (sector_of a.geometry part))

in_copy : (a : Redoing) (stage : Stage) (j : ℕ) (was is : ℕ → Cell) → AreDamagedCopies was is → MediumIn a stage j was → MediumIn a stage j is
in_copy a stage j was is copies has part concerned =
    elim (copies (sector_of a.geometry part)) [
      | inl same ↦ subst (PartHas a stage j part) (sym same) (has part concerned)
      | inr harmed ↦ subst (PartHas a stage j part) (sym harmed) (part_damage a stage j part)
    ]

in_survives : (a : Redoing) (stage : Stage) (j : ℕ) → SurvivesDamage (MediumIn a stage j)
in_survives a stage j = record {
  harmed = in_copy a stage j;
  blank = λ cell all part concerned.
      subst (PartHas a stage j part) (sym (all (sector_of a.geometry part))) (part_damage a stage j part);
}

in_slot_now : (a : Redoing) (stage : Stage) (start x : List Happening) (j : ℕ) → IsIn a stage (IsSlot j) start x
    → (slot_state x j).pulls ≡ (slot_state start j).pulls → (image : SlotImage) → SlotMayLeave (slot_state x j) image → MediumIn a stage j image.cell
in_slot_now a stage start x j is same image left part concerned =
    kept_left {P = PartLeaves a stage j part} (PartHas a stage j part) (slot_state start j).pulls (sector_of a.geometry part) (slot_state x j) image
    (part_damage a stage j part) (λ cell leaves may. leaves.each cell may) same left ((slot_in a stage (IsSlot j) start x is j refl).each part concerned)

pub stage_wherever : (a : Redoing) (stage : Stage) (start from h : List Happening) (j : ℕ) (image to : Image) → IsSome (slot_state start j).size
    → IsMoment start from h → ¬ WasPulled start from j → Ran (IsNoAttach j) start h → AtEveryMoment (IsIn a stage (IsSlot j) start) from h
    → CrashMayLeave h image → HoldsNamed h image to (name_of start j InSlot) j → IsLeftIn a stage (IsSlot j) to
stage_wherever a stage start from h j image to some moment unpulled ran each left own =
    is_left_in a stage (IsSlot j) to
    (λ i on.
    subst (λ (n : ℕ). (part : DevicePart) → Concerns a n part → PartHas a stage n part ((to n).cell (sector_of a.geometry part))) (sym on)
    (in_copy a stage j own.medium.cell ((to j).cell) own.copies
    (own_wherever j (MediumIn a stage j) (in_survives a stage j) {allowed = IsNoAttach j} {start = start} {from = from} {h = h} some
    (ran_before ran moment) unpulled (ran_after ran moment)
    (λ x at same image' left'. in_slot_now a stage start x j (at_moment {P = IsIn a stage (IsSlot j) start} each at) same image' left')
    image left own.place own.medium own.is_one own.named)))

pub stands_together : (a : Redoing) (stage : Stage) (some : Slots) (to : Image) → IsRedoing a
    → ((j : ℕ) → HasSlot some j → IsLeftIn a stage (IsSlot j) to) → ((stage ≡ Placing) → HasGate (HasSlot some) to)
    → RepresentsBy a.geometry (old_in a stage) (new_in a stage) (HasSlot some) to
stands_together a stage some to redoing each gate =
    stands a redoing (HasSlot some) to stage gate
    (is_left_in a stage (HasSlot some) to (λ j on. left_in a stage (IsSlot j) to (each j on) j refl))
