-- What keeps a stage of a redo, and what its phase leads to, slot by slot.
use Rattle.std.proofs.Common.{◌≡◌, ℕ, ◌<◌, true, List, ◌++◌, ◌⊎◌, inl, inr, refl, sym, subst, arith, Option, None, Some, slice_get}
use Rattle.std.specs.Prelude.{IsSome, IsTrue}
use Rattle.std.proofs.lemmas.Bool.{false≢true}
use Rattle.stair_model.specs.Device.{DevicePart, gate_sector, sector_of}
use Rattle.stair_model.specs.Geometry.{Geometry}
use Rattle.stair_rack.specs.Answers.{IsBesideAttach, Ran, any_call}
use Rattle.stair_rack.specs.History.{SlotAct, Pulled, InsertedBlank, InsertedOld, SectorDamaged, SlotCall, Attach, Sectors, Read, Write, Sync, Happening, SlotState, after_act, after_call, slot_state, stopped}
use Rattle.stair_rack.specs.Moments.{AtEveryMoment}
use Rattle.stair_rack.specs.Offline.{ButForOutside, IsHeld, Lost, WasPulled}
use Rattle.stair_rack.specs.Outside.{MayHappen}
use Rattle.stair_rack.specs.Placed.{Placed}
use Rattle.stair_rack.specs.Sector.{Cell, Good, settled, torn}
use Rattle.stair_rack.specs.declared.rack.Reply.TheVariants as reply
use Rattle.stair_rack.proofs.CrashLemmas.{KeepsLeaving, Leaves-mapped, Leaves-settled, leaves_throughout, stopped_throughout}
use Rattle.stair_rack.proofs.KeptLemmas.{IsKept-mapped, IsKept-since, with_old_cases}
use Rattle.stair_rack.proofs.MomentLemmas.{at_every_from, at_last, at_moment}
use Rattle.stair_rack.proofs.OfflineLemmas.{WasPulled-later, held_on, pulls_on}
use Rattle.stair_rack.proofs.KeepingLemmas.{PhaseKeeps, phase_ends, phase_leaves, phase_ran}
use Rattle.stair_rack.proofs.StepLemmas.{kept, keeps_slot}
use Rattle.stair_rack.proofs.TidyLemmas.{HasSize, size_on}
use Rattle.stair_state.specs.Redoing.{AttachesNone, IsRedoing, Redoing, Stage, WritesNone, next, writes_in}
use Rattle.stair_state.specs.Represents.{IsLargeEnough}
use Rattle.stair_state.proofs.StageLemmas.{Concerns, PartHas, PartIn, PartLeaves, Same, SlotIn, Written, from_gate_on, part_damage, part_ends, part_written, same_part, written_in_range}

-- HELD SLOTS

-- where a medium is large enough there is one
pub large_some : (g : Geometry) (size : Option ℕ) → IsLargeEnough g size → IsSome size
large_some g None large = absurd (false≢true (large 0 (omega arith)))
large_some g (Some n) large = refl

-- what `AreHeld` says of one slot
pub record IsHeldFull (g : Geometry) (start h : List Happening) (j : ℕ) : Type 0 where
  pub held : IsHeld start h j
  pub full : WasPulled start h j ⊎ IsLargeEnough g (slot_state h j).size
  pub same : (slot_state h j).attached ≡ true → ¬ WasPulled start h j

-- a pull detaches the slot, and it stays so until it is attached
abbrev IsSame : ℕ → SlotState → Type 0
IsSame pulls b = b.attached ≡ true → ¬ (pulls < b.pulls)

same_act : (pulls : ℕ) (b : SlotState) (act : SlotAct) → MayHappen b act → IsSame pulls b → IsSame pulls (after_act act b)
same_act pulls b (Pulled m) may same = λ attached. absurd (false≢true attached)
same_act pulls b (InsertedBlank size) may same = same
same_act pulls b (InsertedOld i) may same = with_old_cases (IsSame pulls) i (slice_get b.removed i) b same (λ m. same)
same_act pulls b (SectorDamaged k) may same = same

same_call : (pulls : ℕ) (b : SlotState) (call : SlotCall) → IsBesideAttach call → IsSame pulls b → IsSame pulls (after_call call b)
same_call pulls b (Attach answer) beside same = absurd beside
same_call pulls b (Sectors size) beside same = same
same_call pulls b (Read k answer) beside same = same
same_call pulls b (Write k bytes reply.Done) beside same = same
same_call pulls b (Write k bytes reply.Gone) beside same = same
same_call pulls b (Sync reply.Done) beside same = same
same_call pulls b (Sync reply.Gone) beside same = same

same_on : {some : ℕ → Type 0} {old new : List Happening} (pulls j : ℕ) → some j → Ran (AttachesNone some) old new
    → IsSame pulls (slot_state old j) → IsSame pulls (slot_state new j)
same_on {some} pulls j on ran same =
    kept {allowed = AttachesNone some} {P = λ h. IsSame pulls (slot_state h j)}
    (keeps_slot {allowed = AttachesNone some} {j = j} {R = IsSame pulls}
    (record { act = same_act pulls; call = λ h call may is before. same_call pulls (slot_state h j) call (may on) before })) ran same

-- it stays so where it isn't attached
pub held_full_on : (g : Geometry) (some : ℕ → Type 0) (start old new : List Happening) (j : ℕ) → some j → Ran any_call start old
    → Ran (AttachesNone some) old new → IsHeldFull g start old j → IsHeldFull g start new j
held_full_on g some start old new j on since ran is = record {
  held = held_on {allowed = AttachesNone some} j ran is.held;
  full = elim is.full [ inl pulled ↦ inl (WasPulled-later {allowed = AttachesNone some} start j ran pulled) | inr large ↦ still large ];
  same = same_on {some = some} (slot_state start j).pulls j on ran is.same;
}
  where
    by_size : IsLargeEnough g (slot_state old j).size → HasSize (slot_state old j).pulls (slot_state old j).size (slot_state new j)
        → WasPulled start new j ⊎ IsLargeEnough g (slot_state new j).size
    by_size large (HasSize.Same same is) = inr (subst (IsLargeEnough g) (sym is) large)
    by_size large (HasSize.Other less) = inl (let more = pulls_on {allowed = any_call} j since in omega (arith, more, less))

    still : IsLargeEnough g (slot_state old j).size → WasPulled start new j ⊎ IsLargeEnough g (slot_state new j).size
    still large =
        let size = (slot_state old j).size in
        by_size large (size_on {allowed = AttachesNone some} (slot_state old j).pulls size j (large_some g size large) ran (HasSize.Same refl refl))

module _ (a : Redoing) (stage : Stage) (start : List Happening) (j : ℕ) where
  -- of a slot that lost its medium nothing is said
  pub slot_lost : (h : List Happening) → WasPulled start h j → SlotIn a stage start h j
  slot_lost h pulled = record { each = λ part concerns. Lost pulled }

  -- what holds of each part at every moment holds of the slot
  pub by_parts : (more old new : List Happening) → new ≡ more ++ old
      → ((part : DevicePart) → Concerns a j part → AtEveryMoment (PartIn a stage start j part) old new) → AtEveryMoment (λ h. SlotIn a stage start h j) old new
  by_parts more old new is each =
      at_every_from {P = λ h. SlotIn a stage start h j} more is
      (λ h moment. record { each = λ part concerns. at_moment {P = PartIn a stage start j part} (each part concerns) moment })

  -- calls that write no sector of it from the gate on keep it
  keeps_unwritten : (live : ℕ → Type 0) → live j → (part : DevicePart) → Concerns a j part
      → KeepsLeaving (WritesNone live) j (sector_of a.geometry part) (PartHas a stage j part) (PartHas a stage j part)
  keeps_unwritten live on part concerns = record {
    damage = part_damage a stage j part;
    under_damage = part_damage a stage j part;
    write = λ bytes before. absurd (before_gate (before on));
    cut = λ bytes under before holds. absurd (before_gate (before on));
    sync = λ sector apart holds. holds;
  }
    where
      before_gate : sector_of a.geometry part < gate_sector → ⊥
      before_gate before = let from = from_gate_on a j part concerns in absurd (omega (arith, before, from))

  pub slot_unwritten : (live : ℕ → Type 0) → live j → (old new : List Happening) → Ran (WritesNone live) old new → SlotIn a stage start old j
      → AtEveryMoment (λ h. SlotIn a stage start h j) old new
  slot_unwritten live on old new ran is =
      by_parts ran.more old new ran.is
      (λ part concerns.
      leaves_throughout {allowed = WritesNone live} {Q = PartHas a stage j part} {Base = PartHas a stage j part}
      (slot_state start j).pulls j (sector_of a.geometry part) (keeps_unwritten live on part concerns) ran (is.each part concerns))

  -- and so does whatever is called on a rack that is stopped
  pub slot_stopped : (old new : List Happening) → IsTrue (stopped old) → Ran any_call old new → SlotIn a stage start old j
      → AtEveryMoment (λ h. SlotIn a stage start h j) old new
  slot_stopped old new stops ran is =
      by_parts ran.more old new ran.is
      (λ part concerns.
      stopped_throughout {allowed = any_call} {P = PartLeaves a stage j part}
      (slot_state start j).pulls j (sector_of a.geometry part) stops ran (is.each part concerns))

  module _ (to gone : ℕ → Type 0) (old new : List Happening) (redoing : IsRedoing a) (phase : Placed (writes_in a stage) to gone old new)
      (is : SlotIn a stage start old j) where
    -- what is written to a part
    to_part : (part : DevicePart) (bytes : List ℕ) → Concerns a j part → writes_in a stage j (sector_of a.geometry part) ≡ Some bytes
        → PartHas a stage j part (Good bytes) × ((under : Cell) → PartHas a stage j part (torn under))
    to_part part bytes concerns written =
        let w = part_written a redoing stage j (sector_of a.geometry part) bytes written in
        subst (λ (p : DevicePart). PartHas a stage j p (Good bytes) × ((under : Cell) → PartHas a stage j p (torn under)))
        (same_part a redoing stage j part bytes concerns w) (w.has, w.cut)

    phase_keeps : (part : DevicePart) → Concerns a j part
        → PhaseKeeps (writes_in a stage) to j (sector_of a.geometry part) (PartHas a stage j part) (PartHas a stage j part)
    phase_keeps part concerns = record {
      damage = part_damage a stage j part;
      under_damage = part_damage a stage j part;
      write = λ bytes on written. (to_part part bytes concerns written).0;
      cut = λ bytes under on written holds. (to_part part bytes concerns written).1 under;
      sync = λ sector on holds. holds;
    }

    -- the stage's own phase keeps it at every moment
    pub slot_phase : AtEveryMoment (λ h. SlotIn a stage start h j) old new
    slot_phase =
        let ran = phase_ran phase in
        by_parts ran.more old new ran.is
        (λ part concerns.
        phase_leaves {Q = PartHas a stage j part} {Base = PartHas a stage j part}
        (slot_state start j).pulls j (sector_of a.geometry part) (phase_keeps part concerns) phase (is.each part concerns))

    -- THE END OF A PHASE

    -- A part is in the next stage where what was to be written to it is on the disk.
    pub part_next : (part : DevicePart) → Concerns a j part
        → ((bytes : List ℕ) → writes_in a stage j (sector_of a.geometry part) ≡ Some bytes
        → ButForOutside start new j (sector_of a.geometry part) (λ s. s ≡ settled (Good bytes)))
        → PartIn a (next stage) start j part new
    part_next part concerns there =
        elim (part_ends a redoing stage j part concerns) [
          | Written bytes written has ↦
              IsKept-mapped (λ s is. subst (PartLeaves a (next stage) j part) (sym is) (Leaves-settled (Good bytes) has has)) (there bytes written)
          | Same still ↦ IsKept-mapped (λ s leaves. Leaves-mapped still still leaves) ((at_last slot_phase).each part concerns)
        ]

    -- as on a slot that answered
    pub slot_answered : Ran any_call start old → to j → ¬ gone j → SlotIn a (next stage) start new j
    slot_answered since on fine = record {
      each = λ part concerns.
          part_next part concerns
          (λ bytes written. IsKept-since (pulls_on {allowed = any_call} j since) (phase.done j (sector_of a.geometry part) bytes on fine written));
    }

    part_held : (part : DevicePart) → Concerns a j part → ¬ IsTrue (stopped new) → Ran any_call start old → to j
        → IsHeld start old j → IsLargeEnough a.geometry (slot_state old j).size → PartIn a (next stage) start j part new
    part_held part concerns goes_on since on held large =
        part_next part concerns
        (λ bytes written.
        elim (phase_ends j (sector_of a.geometry part) bytes phase since on written held
        (λ attached k bytes' is. large k (written_in_range a redoing stage j k bytes' is))) [
          | inl stops ↦ absurd (goes_on stops)
          | inr there ↦ there
        ])

    -- and on one that is held, unless the rack is stopped
    pub slot_next : ¬ IsTrue (stopped new) → Ran any_call start old → to j ⊎ WasPulled start old j → IsHeldFull a.geometry start old j
        → SlotIn a (next stage) start new j
    slot_next goes_on since over is_held = record {
      each = λ part concerns.
          elim over [
            | inr pulled ↦ Lost (WasPulled-later {allowed = any_call} start j (phase_ran phase) pulled)
            | inl on ↦
                elim is_held.full [
                  | inl pulled ↦ Lost (WasPulled-later {allowed = any_call} start j (phase_ran phase) pulled)
                  | inr large ↦ part_held part concerns goes_on since on is_held.held large
                ]
          ];
    }
