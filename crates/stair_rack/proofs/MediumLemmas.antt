-- Facts that follow a medium out of its slot, through acts and calls.
use Rattle.std.proofs.Common.{ℕ, suc, List, ◌∷◌, ◌⊎◌, inl, inr, sym, subst, Option, Some, slice_get}
use Rattle.std.specs.Prelude.{All}
use Rattle.std.proofs.lemmas.Bool.{cases_Bool, cond-true, cond-false}
use Rattle.std.proofs.lemmas.Option.{slice_get_cases}
use Rattle.std.proofs.lemmas.List.Elements.{All-append, All-take, All-drop, All-push, All-get_or, All-weaker}
use Rattle.stair_rack.specs.Sector.{Cell, Damaged, settled, damaged, wrote, Leaves}
use Rattle.stair_rack.specs.Media.{Medium, SlotImage, Image, has_sector, sectors_of}
use Rattle.stair_rack.specs.History.{SlotAct, Pulled, InsertedBlank, InsertedOld, SectorDamaged, SlotCall, Attach, Sectors, Read, Write, Sync, Happening, Made, Stopped, Acted, Called, SlotState, with_old, made, after_act, after_write, after_sync, after_call, slot_state}
use Rattle.stair_rack.specs.Crash.{CrashMayLeave}
use Rattle.stair_rack.specs.Outside.{MayHappen, IsAct}
use Rattle.stair_rack.specs.Answers.{IsAnswered, Ran}
use Rattle.stair_rack.specs.Moments.{AtEveryMoment}
use Rattle.stair_rack.specs.Stretch.{ReturnsNothing, NothingReturned}
use Rattle.stair_rack.specs.EachMedium.{HasCells, EachMedium}
use Rattle.stair_rack.specs.declared.rack.Reply.{Reply}
use Rattle.stair_rack.specs.declared.rack.Reply.TheVariants as reply
use Rattle.stair_rack.proofs.StepLemmas.{slot_act_cases, slot_call_cases}
use Rattle.stair_rack.proofs.KeptLemmas.{with_sector_cases}
use Rattle.stair_rack.proofs.CrashLemmas.{KeepsLeaving, Leaves-settled, Leaves-wrote, Leaves-synced, Leaves-mapped}
use Rattle.stair_rack.proofs.StretchLemmas.{KeepsWhere, kept_where, each_of_ran, each_mapped}

-- What the outside and these calls of slot j do to each of its sectors keeps this.
abbrev pub MediumKeeps : (ℕ → SlotCall → Type 0) → ℕ → (ℕ → Cell → Type 0) → (ℕ → Cell → Type 0) → Type 0
MediumKeeps allowed j Q Base = (k : ℕ) → KeepsLeaving allowed j k (Q k) (Base k)

-- a medium that is put back has settled
abbrev pub Settling : (Q Base : ℕ → Cell → Type 0) → Type 0
Settling Q Base = (k : ℕ) (cell : Cell) → Q k cell → Base k cell

module _ {allowed : ℕ → SlotCall → Type 0} {j : ℕ} {Q Base : ℕ → Cell → Type 0} (keeps : MediumKeeps allowed j Q Base) where
  damaged_leaves : (k : ℕ) → Leaves (Q k) (Base k) damaged
  damaged_leaves k = Leaves-settled Damaged (keeps k).damage (keeps k).under_damage

  -- a medium of these cells
  sectors_leave : (size : Option ℕ) (cell : ℕ → Cell) → ((k : ℕ) → Q k (cell k)) → ((k : ℕ) → Base k (cell k)) → (k : ℕ)
      → Leaves (Q k) (Base k) (sectors_of size cell k)
  sectors_leave size cell holds under k =
      elim (cases_Bool (has_sector size k)) [
        | inl within ↦
            subst (Leaves (Q k) (Base k)) (sym (cond-true _ (settled (cell k)) damaged within)) (Leaves-settled (cell k) (holds k) (under k))
        | inr past ↦ subst (Leaves (Q k) (Base k)) (sym (cond-false _ (settled (cell k)) damaged past)) (damaged_leaves k)
      ]

  put_back : (b : SlotState) (i : ℕ) → Settling Q Base → EachMedium Q Base b → EachMedium Q Base (with_old i (slice_get b.removed i) b)
  put_back b i settling each =
      elim (slice_get_cases b.removed i).1 [
        | inl at ↦
            let m : Medium = at.0 in
            let holds : HasCells Q m = subst (HasCells Q) at.3 (All-get_or (HasCells Q) b.removed i m at.1 each.removed) in
            subst (λ o. EachMedium Q Base (with_old i o b)) (sym at.2) (record {
              inside = sectors_leave (Some m.size) m.cell holds (λ k. settling k (m.cell k) (holds k));
              removed =
                  All-append (HasCells Q) _ _ (All-take (HasCells Q) i b.removed each.removed) (All-drop (HasCells Q) (suc i) b.removed each.removed);
            })
        | inr past ↦ subst (λ o. EachMedium Q Base (with_old i o b)) (sym past.1) each
      ]

  medium_act : (h : List Happening) (b : SlotState) (a : SlotAct) → MayHappen b a → ReturnsNothing h (Acted j a) ⊎ Settling Q Base → EachMedium Q Base b
      → EachMedium Q Base (after_act a b)
  medium_act h b (Pulled m) may returns each = record {
    inside = damaged_leaves;
    removed = All-push (HasCells Q) b.removed m each.removed (λ k. (each.inside k).each (m.cell k) (may.each k));
  }
  medium_act h b (InsertedBlank size) may returns each = record { inside = damaged_leaves; removed = each.removed }
  medium_act h b (InsertedOld i) may (inl none) each = absurd none
  medium_act h b (InsertedOld i) may (inr settling) each = put_back b i settling each
  medium_act h b (SectorDamaged l) may returns each = record {
    inside = λ k. with_sector_cases (Leaves (Q k) (Base k)) l k damaged b (λ at. damaged_leaves k) (each.inside k);
    removed = each.removed;
  }

  medium_write : (b : SlotState) (l : ℕ) (bytes : List ℕ) (answer : Reply) → allowed j (Write l bytes answer) → EachMedium Q Base b
      → EachMedium Q Base (after_write l bytes answer b)
  medium_write b l bytes reply.Done may each = record {
    inside = λ k.
        with_sector_cases (Leaves (Q k) (Base k)) l k (wrote bytes (b.sector l)) b
        (λ at.
        subst (λ i. Leaves (Q i) (Base i) (wrote bytes (b.sector l))) (sym at)
        (Leaves-wrote bytes ((keeps l).write bytes may) (λ cell under. (keeps l).cut bytes cell may under) (each.inside l))) (each.inside k);
    removed = each.removed;
  }
  medium_write b l bytes reply.Gone may each = each

  medium_sync : (b : SlotState) (answer : Reply) → allowed j (Sync answer) → EachMedium Q Base b → EachMedium Q Base (after_sync answer b)
  medium_sync b reply.Done may each = record {
    inside = λ k. Leaves-synced (λ cell holds. (keeps k).sync cell may holds) (each.inside k);
    removed = each.removed;
  }
  medium_sync b reply.Gone may each = each

  medium_call : (b : SlotState) (c : SlotCall) → allowed j c → EachMedium Q Base b → EachMedium Q Base (after_call c b)
  medium_call b (Attach reply.Done) may each = record { inside = each.inside; removed = each.removed }
  medium_call b (Attach reply.Gone) may each = record { inside = each.inside; removed = each.removed }
  medium_call b (Sectors size) may each = each
  medium_call b (Read k answer) may each = each
  medium_call b (Write k bytes answer) may each = medium_write b k bytes answer may each
  medium_call b (Sync answer) may each = medium_sync b answer may each

  keeps_media : KeepsWhere (λ h e. ReturnsNothing h e ⊎ Settling Q Base) allowed (λ h. EachMedium Q Base (slot_state h j))
  keeps_media = record { act = on_act; call = on_call }
    where
      on_act : (h : List Happening) (e : Happening) → IsAct h e → ReturnsNothing h e ⊎ Settling Q Base → EachMedium Q Base (slot_state h j)
          → EachMedium Q Base (slot_state (e ∷ h) j)
      on_act h (Made image) may returns each = absurd may
      on_act h Stopped may returns each = each
      on_act h (Acted i a) may returns each =
          slot_act_cases (EachMedium Q Base) h i j a
          (λ same.
          medium_act h (slot_state h j) a (subst (λ n. MayHappen (slot_state h n) a) same may.1)
          (subst (λ n. ReturnsNothing h (Acted n a) ⊎ Settling Q Base) same returns) each) each
      on_act h (Called i c) may returns each = absurd may

      on_call : (h : List Happening) (i : ℕ) (c : SlotCall) → allowed i c → IsAnswered h i c → ReturnsNothing h (Called i c) ⊎ Settling Q Base
          → EachMedium Q Base (slot_state h j) → EachMedium Q Base (slot_state (Called i c ∷ h) j)
      on_call h i c may answered returns each =
          slot_call_cases (EachMedium Q Base) h i j c (λ same. medium_call (slot_state h j) c (subst (λ n. allowed n c) same may) each) each

  -- at every moment, whatever medium is put back
  pub media_throughout : {old new : List Happening} → Settling Q Base → Ran allowed old new → EachMedium Q Base (slot_state old j)
      → AtEveryMoment (λ h. EachMedium Q Base (slot_state h j)) old new
  media_throughout {old} {new} settling ran start =
      kept_where {P = λ h e. ReturnsNothing h e ⊎ Settling Q Base} {allowed = allowed} {R = λ h. EachMedium Q Base (slot_state h j)} keeps_media ran
      (each_of_ran {allowed = allowed} {P = λ h e. ReturnsNothing h e ⊎ Settling Q Base} (λ h e act. inr settling) (λ h i c may. inr settling) ran) start

  -- and where none is
  pub media_while : {old new : List Happening} → NothingReturned old new → Ran allowed old new → EachMedium Q Base (slot_state old j)
      → AtEveryMoment (λ h. EachMedium Q Base (slot_state h j)) old new
  media_while {old} {new} none ran start =
      kept_where {P = λ h e. ReturnsNothing h e ⊎ Settling Q Base} {allowed = allowed} {R = λ h. EachMedium Q Base (slot_state h j)} keeps_media ran
      (each_mapped {P = ReturnsNothing} {Q = λ h e. ReturnsNothing h e ⊎ Settling Q Base} (λ h e is. inl is) none) start

  -- of a rack that is made over these media
  pub media_made : (image : SlotImage) → ((k : ℕ) → Q k (image.cell k)) → ((k : ℕ) → Base k (image.cell k)) → All (HasCells Q) image.removed
      → EachMedium Q Base (made image)
  media_made image holds under removed = record { inside = sectors_leave image.size image.cell holds under; removed = removed }

-- in what a crash leaves: of the medium in the slot, and of the removed ones
pub media_left : {Q Base : ℕ → Cell → Type 0} (h : List Happening) (image : Image) (j : ℕ) → CrashMayLeave h image → EachMedium Q Base (slot_state h j)
    → ((k : ℕ) → Q k ((image j).cell k)) × All (HasCells Q) (image j).removed
media_left {Q} h image j left each =
    (λ k. (each.inside k).each ((image j).cell k) ((left j).each k), subst (All (HasCells Q)) (sym (left j).removed) each.removed)

-- a fact that follows
pub EachMedium-mapped : {Q Base Q' Base' : ℕ → Cell → Type 0} {b : SlotState} → ((k : ℕ) (cell : Cell) → Q k cell → Q' k cell)
    → ((k : ℕ) (cell : Cell) → Base k cell → Base' k cell) → EachMedium Q Base b → EachMedium Q' Base' b
EachMedium-mapped {Q} {Q' = Q'} {b = b} within under each = record {
  inside = λ k. Leaves-mapped (within k) (under k) (each.inside k);
  removed = All-weaker (HasCells Q) (HasCells Q') (λ m holds k. within k (m.cell k) (holds k)) b.removed each.removed;
}
