-- What acts that put no medium back, and calls that write nothing, leave of an array.
use Rattle.std.proofs.Common.{◌≡◌, ℕ, List, [], ◌∷◌, ◌⊎◌, inl, inr, refl, sym, ap, ◌∙◌, subst, slice_get}
use Rattle.std.specs.Prelude.{None, Some, ◌==◌, if◌then◌else◌}
use Rattle.std.proofs.lemmas.Bool.{cases_Bool, cases_eq, cond-true, cond-false, eq-eqb, ne_eqb}
use Rattle.stair_model.specs.Geometry.{Geometry}
use Rattle.stair_rack.specs.Answers.{Ran}
use Rattle.stair_rack.specs.Crash.{CrashMayLeave, SlotMayLeave}
use Rattle.stair_rack.specs.History.{Happening, Made, Stopped, Acted, Called, SlotAct, Pulled, InsertedBlank, InsertedOld, SectorDamaged, SlotCall, Attach, Sectors, Read, Write, Sync, SlotState, after_act, after_call, slot_state}
use Rattle.stair_rack.specs.Media.{Image, SlotImage, has_sector}
use Rattle.stair_rack.specs.Offline.{IsOffline, NoMedium}
use Rattle.stair_rack.specs.Outside.{IsAct, MayHappen}
use Rattle.stair_rack.specs.Sector.{Cell, Sector, Damaged, MayLeave, content, damaged, settled}
use Rattle.stair_rack.specs.Stretch.{NothingReturned, ReturnsNothing}
use Rattle.stair_rack.specs.declared.rack.Reply.TheVariants as reply
use Rattle.stair_rack.proofs.CrashLemmas.{synced_within, content_left, settled_left}
use Rattle.stair_rack.proofs.KeptLemmas.{with_old_cases, with_sector_cases}
use Rattle.stair_rack.proofs.MomentLemmas.{at_last, ran_weakened}
use Rattle.stair_rack.proofs.StepLemmas.{kept, keeps_slot, slot_act_cases, slot_call_cases}
use Rattle.stair_rack.proofs.StretchLemmas.{kept_where}
use Rattle.stair_member.specs.Asked.{LeavesSectors}
use Rattle.stair_state.specs.Degraded.{IsDegraded, IsDegradedSlot, Taken, Blank, Stays}
use Rattle.stair_state.specs.Represents.{AreSteady, IsImageOf, Left, Lesser, Represents, no_write}
use Rattle.stair_state.specs.State.{State, without_seats}
use Rattle.stair_state.specs.Tolerance.{IsTolerated, IsToleratedAlone}
use Rattle.stair_state.proofs.AloneLemmas.{encodings_without_seats, image_without_seats}
use Rattle.stair_state.proofs.DegradedLemmas.{again, degraded_same, orderly_before}
use Rattle.stair_state.proofs.ToleranceLemmas.{tolerated_fewer}

-- what is tolerated at a moment is tolerated alone
pub tolerated_alone : (g : Geometry) (before h : List Happening) (image : Image) → IsTolerated g before h → CrashMayLeave h image
    → IsToleratedAlone g image
tolerated_alone g before h image tolerated left =
    tolerated_fewer {fewer = λ j. (image j).size ≡ None} {more = IsOffline before h}
    (λ j none. NoMedium (sym (left j).size ∙ none)) (tolerated image left)

-- CALLS THAT WRITE NOTHING

-- those that neither write nor sync are such
pub unwritten_ran : {old new : List Happening} → Ran LeavesSectors old new → Ran no_write old new
unwritten_ran ran = ran_weakened {allowed = LeavesSectors} {more = no_write} leaves ran
  where
    leaves : (j : ℕ) (c : SlotCall) → LeavesSectors j c → no_write j c
    leaves j (Attach answer) may = tt
    leaves j (Sectors size) may = tt
    leaves j (Read k answer) may = tt
    leaves j (Write k bytes answer) may = absurd may
    leaves j (Sync answer) may = absurd may

-- SUPERBLOCK PLACES STAY SETTLED

-- of the slot nothing is unsynced in this sector
abbrev pub IsSettled : ℕ → SlotState → Type 0
IsSettled k b = (b.sector k).since ≡ []

pub settled_act : (k : ℕ) (b : SlotState) (a : SlotAct) → MayHappen b a → IsSettled k b → IsSettled k (after_act a b)
settled_act k b (Pulled m) may is = refl
settled_act k b (InsertedBlank size) may is = refl
settled_act k b (InsertedOld i) may is =
    with_old_cases (IsSettled k) i (slice_get b.removed i) b is
    (λ m.
    elim (cases_Bool (has_sector (Some m.size) k)) [
      | inl within ↦ ap (λ (s : Sector). s.since) (cond-true (has_sector (Some m.size) k) (settled (m.cell k)) damaged within)
      | inr past ↦ ap (λ (s : Sector). s.since) (cond-false (has_sector (Some m.size) k) (settled (m.cell k)) damaged past)
    ])
settled_act k b (SectorDamaged l) may is = with_sector_cases (λ s. s.since ≡ []) l k damaged b (λ at. refl) is

settled_call : (k : ℕ) (b : SlotState) (j : ℕ) (c : SlotCall) → no_write j c → IsSettled k b → IsSettled k (after_call c b)
settled_call k b j (Attach reply.Done) may is = is
settled_call k b j (Attach reply.Gone) may is = is
settled_call k b j (Sectors size) may is = is
settled_call k b j (Read l answer) may is = is
settled_call k b j (Write l bytes answer) may is = absurd may
settled_call k b j (Sync reply.Done) may is = refl
settled_call k b j (Sync reply.Gone) may is = is

pub steady_looks : (g : Geometry) (old new : List Happening) → Ran no_write old new → AreSteady g old → AreSteady g new
steady_looks g old new ran steady j k below place =
    kept {allowed = no_write} {P = λ h. IsSettled k (slot_state h j)}
    (keeps_slot {allowed = no_write} {j = j} {R = IsSettled k} (record {
      act = settled_act k;
      call = λ h c may is before. settled_call k (slot_state h j) j c may before;
    })) ran (steady j k below place)

-- IMAGES

-- what a crash may leave of a slot, and from it by taking away and damage this
pub record SlotComesFrom (b : SlotState) (image : SlotImage) : Type 0 where
  pub was : SlotImage
  pub left : SlotMayLeave b was
  pub degraded : IsDegradedSlot was image

-- the slot as reads find it
abbrev pub slot_now : SlotState → SlotImage
slot_now b = record { size = b.size; cell = λ k. content (b.sector k); removed = b.removed }

pub slot_now_left : (b : SlotState) → SlotMayLeave b (slot_now b)
slot_now_left b = record { size = refl; each = λ k. content_left (b.sector k); removed = refl }

damaged_left : (cell : Cell) → MayLeave damaged cell → cell ≡ Damaged
damaged_left cell left = settled_left Damaged cell left

pub slot_before : (h : List Happening) (j : ℕ) (b : SlotState) (a : SlotAct) → ReturnsNothing h (Acted j a) → (image : SlotImage)
    → SlotMayLeave (after_act a b) image → SlotComesFrom b image
slot_before h j b (Pulled m) none image left = record {
  was = slot_now b;
  left = slot_now_left b;
  degraded = Taken left.size (λ k. damaged_left (image.cell k) (left.each k));
}
slot_before h j b (InsertedBlank size) none image left = record {
  was = slot_now b;
  left = slot_now_left b;
  degraded = Blank size left.size (λ k. damaged_left (image.cell k) (left.each k));
}
slot_before h j b (InsertedOld i) none image left = absurd none
slot_before h j b (SectorDamaged l) none image left = record {
  was = record { size = image.size; cell = was_cell; removed = image.removed };
  left = record { size = left.size; each = was_left; removed = left.removed };
  degraded = Stays refl copies;
}
  where
    was_cell : ℕ → Cell
    was_cell k = if k == l then content (b.sector l) else image.cell k

    was_left : (k : ℕ) → MayLeave (b.sector k) (was_cell k)
    was_left k =
        elim (cases_eq k l) [
          | inl same ↦
              subst (MayLeave (b.sector k)) (ap (λ i. content (b.sector i)) same ∙ sym (cond-true _ _ _ (eq-eqb k l same)))
              (content_left (b.sector k))
          | inr other ↦
              subst (MayLeave (b.sector k)) (sym (cond-false _ _ _ (ne_eqb k l other)))
              (subst (λ s. MayLeave s (image.cell k)) (cond-false _ _ _ (ne_eqb k l other)) (left.each k))
        ]

    copies : (k : ℕ) → (image.cell k ≡ was_cell k) ⊎ (image.cell k ≡ Damaged)
    copies k =
        elim (cases_eq k l) [
          | inl same ↦
              inr (damaged_left (image.cell k) (subst (λ s. MayLeave s (image.cell k)) (cond-true _ _ _ (eq-eqb k l same)) (left.each k)))
          | inr other ↦ inl (sym (cond-false _ _ _ (ne_eqb k l other)))
        ]

pub same_slot : (b : SlotState) (image : SlotImage) → SlotMayLeave b image → SlotComesFrom b image
same_slot b image left = record { was = image; left = left; degraded = Stays refl (λ k. inl refl) }

act_before : (h : List Happening) (e : Happening) → IsAct h e → ReturnsNothing h e → (j : ℕ) (image : SlotImage)
    → SlotMayLeave (slot_state (e ∷ h) j) image → SlotComesFrom (slot_state h j) image
act_before h (Made media) act none j image left = absurd act
act_before h Stopped act none j image left = same_slot (slot_state h j) image left
act_before h (Acted i a) act none j image left =
    slot_act_cases (λ b. SlotMayLeave b image → SlotComesFrom (slot_state h j) image) h i j a
    (λ same. slot_before h i (slot_state h j) a none image) (same_slot (slot_state h j) image) left
act_before h (Called i c) act none j image left = absurd act

-- after a call that writes nothing a crash may leave no more than before
pub look_left : (b : SlotState) (j : ℕ) (c : SlotCall) → no_write j c → (image : SlotImage) → SlotMayLeave (after_call c b) image
    → SlotMayLeave b image
look_left b j (Attach reply.Done) may image left = record { size = left.size; each = left.each; removed = left.removed }
look_left b j (Attach reply.Gone) may image left = record { size = left.size; each = left.each; removed = left.removed }
look_left b j (Sectors size) may image left = left
look_left b j (Read k answer) may image left = left
look_left b j (Write k bytes answer) may image left = absurd may
look_left b j (Sync reply.Done) may image left =
    record { size = left.size; each = λ k. synced_within (b.sector k) (image.cell k) (left.each k); removed = left.removed }
look_left b j (Sync reply.Gone) may image left = left

look_before : (h : List Happening) (i : ℕ) (c : SlotCall) → no_write i c → (j : ℕ) (image : SlotImage)
    → SlotMayLeave (slot_state (Called i c ∷ h) j) image → SlotMayLeave (slot_state h j) image
look_before h i c may j image left =
    slot_call_cases (λ b. SlotMayLeave b image → SlotMayLeave (slot_state h j) image) h i j c
    (λ same. look_left (slot_state h j) i c may image) (λ is. is) left

-- an image that a crash may leave, and from it by taking away and damage this
pub record ComesFrom (h : List Happening) (image : Image) : Type 0 where
  pub was : Image
  pub left : CrashMayLeave h was
  pub degraded : IsDegraded was image

pub AllComeFrom : List Happening → List Happening → Type 0
AllComeFrom old new = (image : Image) → CrashMayLeave new image → ComesFrom old image

next_come : (old h : List Happening) (e : Happening) → IsAct h e → ReturnsNothing h e → AllComeFrom old h → AllComeFrom old (e ∷ h)
unfolding AllComeFrom
next_come old h e act none before image left =
    let slots = λ (j : ℕ). act_before h e act none j (image j) (left j) in
    let from = before (λ j. (slots j).was) (λ j. (slots j).left) in
    record {
      was = from.was;
      left = from.left;
      degraded = again from.was (λ j. (slots j).was) image from.degraded (λ j. (slots j).degraded);
    }

come_from : (old new : List Happening) → Ran no_write old new → NothingReturned old new → AllComeFrom old new
unfolding AllComeFrom
come_from old new ran none =
    at_last {P = AllComeFrom old}
    (kept_where {P = ReturnsNothing} {allowed = no_write} {R = AllComeFrom old} (record {
      act = λ h e act none before. next_come old h e act none before;
      call = λ h i c may answered none before image left. before image (λ j. look_before h i c may j (image j) (left j));
    }) ran none (λ image left. record { was = image; left = left; degraded = degraded_same image }))

pub comes_from : (old new : List Happening) → Ran no_write old new → NothingReturned old new → (image : Image) → CrashMayLeave new image
    → ComesFrom old image
unfolding AllComeFrom
comes_from old new ran none image left = come_from old new ran none image left

-- the rack represents the state, marks aside
pub looks_stand : (s : State) (before old new : List Happening) → Represents s old → Ran no_write old new → NothingReturned old new
    → IsTolerated s.geometry before new → Represents (without_seats s) new
unfolding AllComeFrom
looks_stand s before old new stands ran none tolerated =
    record {
      encodings = encodings_without_seats s stands.encodings;
      each = λ x is. image_without_seats s stands.encodings x (stands.each x (back x is));
      orderly = λ x left.
          let from = come x left in orderly_before s.geometry from.was x from.degraded (stands.orderly from.was from.left);
      shrinks = λ more less is also. stands.shrinks more less (back more is) (back less also);
      seats = tt;
      steady = steady_looks s.geometry old new ran stands.steady;
    }
  where
    come : AllComeFrom old new
    come = come_from old new ran none

    back : (x : Image) → IsImageOf s.geometry new x → IsImageOf s.geometry old x
    back x (Left left) =
        let from = come x left in Lesser from.was from.left from.degraded (tolerated_alone s.geometry before new x tolerated left)
    back x (Lesser more left degraded also) =
        let from = come more left in Lesser from.was from.left (again from.was more x from.degraded degraded) also
