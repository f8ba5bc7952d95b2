-- Once an epoch stands nothing is unsynced in superblock places, whatever came back.
use Rattle.std.proofs.Common.{◌≡◌, ℕ, List, [], inl, inr, refl, sym, ap, ◌∙◌, subst, arith, true, false, slice_get, Some}
use Rattle.std.specs.Prelude.{IsTrue, ◌&&◌, not}
use Rattle.std.proofs.lemmas.Bool.{cases_Bool, cond-true, cond-false, false≢true}
use Rattle.stair_model.specs.Geometry.{Geometry}
use Rattle.stair_model.specs.Slots.{Slots}
use Rattle.stair_rack.specs.Answers.{IsAnswered, IsHistory, is_ready}
use Rattle.stair_rack.specs.History.{Happening, InsertedBlank, InsertedOld, Pulled, SectorDamaged, SlotAct, SlotCall, SlotState, after_act, after_call, slot_state, stopped}
use Rattle.stair_rack.specs.Media.{has_sector}
use Rattle.stair_rack.specs.Offline.{Here, IsKept, Lost}
use Rattle.stair_rack.specs.Outside.{MayHappen}
use Rattle.stair_rack.specs.Sector.{Sector, damaged, settled}
use Rattle.stair_rack.specs.declared.rack.Reply.TheVariants as reply
use Rattle.stair_rack.proofs.KeptLemmas.{with_old_cases, with_sector_cases}
use Rattle.stair_rack.proofs.OfflineLemmas.{and-true_left, reply_if-Done}
use Rattle.stair_rack.proofs.StepLemmas.{keeps_slot, kept}
use Rattle.stair_rack.proofs.TidyLemmas.{history_tidy}
use Rattle.stair_member.specs.Editions.{Edition}
use Rattle.stair_member.specs.Epochs.{ASync, AWrite, IsIssuing, Issued}
use Rattle.stair_member.specs.Membership.{Membership}
use Rattle.stair_member.specs.declared.aim.EpochChange.{EpochChange}
use Rattle.stair_state.specs.Represents.{AreSteady}
use Rattle.stair_reinsert.proofs.GivenLemmas.{issuing_ran}
use Rattle.stair_reinsert.proofs.NameLemmas.{still_attached}

-- where the slot isn't attached nothing is unsynced in this sector
abbrev IsIdle : ℕ → SlotState → Type 0
IsIdle k b = b.attached ≡ false → (b.sector k).since ≡ []

idle_act : (k : ℕ) (b : SlotState) (a : SlotAct) → MayHappen b a → IsIdle k b → IsIdle k (after_act a b)
idle_act k b (Pulled m) may is = λ off. refl
idle_act k b (InsertedBlank size) may is = λ off. refl
idle_act k b (InsertedOld i) may is =
    with_old_cases (IsIdle k) i (slice_get b.removed i) b is
    (λ m off.
    elim (cases_Bool (has_sector (Some m.size) k)) [
      | inl within ↦ ap (λ (s : Sector). s.since) (cond-true (has_sector (Some m.size) k) (settled (m.cell k)) damaged within)
      | inr past ↦ ap (λ (s : Sector). s.since) (cond-false (has_sector (Some m.size) k) (settled (m.cell k)) damaged past)
    ])
idle_act k b (SectorDamaged l) may is = λ off. with_sector_cases (λ s. s.since ≡ []) l k damaged b (λ at. refl) (is off)

idle_call : (slots : Slots) (editions : List Edition) (k j : ℕ) (h : List Happening) (c : SlotCall) → IsIssuing slots editions j c → IsAnswered h j c
    → IsIdle k (slot_state h j) → IsIdle k (after_call c (slot_state h j))
idle_call slots editions k j h c (AWrite e l reply.Done has among formed below is) answered idle =
    subst (λ (d : SlotCall). IsIdle k (after_call d (slot_state h j))) (sym is)
    (λ off.
    let both = reply_if-Done (is_ready h j && has_sector (slot_state h j).size l) (subst (λ (d : SlotCall). IsAnswered h j d) is answered) in
    let ready = and-true_left (is_ready h j) (has_sector (slot_state h j).size l) both in
    absurd (false≢true (sym off ∙ and-true_left (slot_state h j).attached (not (stopped h)) ready)))
idle_call slots editions k j h c (AWrite e l reply.Gone has among formed below is) answered idle =
    subst (λ (d : SlotCall). IsIdle k (after_call d (slot_state h j))) (sym is) idle
idle_call slots editions k j h c (ASync reply.Done has is) answered idle =
    subst (λ (d : SlotCall). IsIdle k (after_call d (slot_state h j))) (sym is) (λ off. refl)
idle_call slots editions k j h c (ASync reply.Gone has is) answered idle =
    subst (λ (d : SlotCall). IsIdle k (after_call d (slot_state h j))) (sym is) idle

pub steady_epoch : (g : Geometry) (aim : EpochChange) (gone : Slots) (m last : Membership) (old new : List Happening) → IsHistory old → AreSteady g old
    → Issued aim gone m last old new → ¬ IsTrue (stopped new) → AreSteady g new
steady_epoch g aim gone m last old new history steady issued going j k below small =
    elim (cases_Bool (slot_state new j).attached) [
      | inl on ↦ attached on
      | inr off ↦
          kept {allowed = IsIssuing issued.slots issued.editions} {P = λ h. IsIdle k (slot_state h j)}
          (keeps_slot {allowed = IsIssuing issued.slots issued.editions} {j = j} {R = IsIdle k} (record {
            act = idle_act k;
            call = λ h c may is before. idle_call issued.slots issued.editions k j h c may is before;
          })) issued.ran (λ off_then. steady j k below small) off
    ]
  where
    attached : (slot_state new j).attached ≡ true → ((slot_state new j).sector k).since ≡ []
    attached on =
        let still = still_attached j (issuing_ran issued.slots issued.editions j issued.ran) on in
        elim (issued.steady j k small ((history_tidy history).attached j still.0) (steady j k below small)) [
          | inr stops ↦ absurd (going stops)
          | inl settles ↦ by still.1 settles
        ]
      where
        by : (slot_state new j).pulls ≡ (slot_state old j).pulls → IsKept (slot_state old j).pulls k (λ s. s.since ≡ []) (slot_state new j)
            → ((slot_state new j).sector k).since ≡ []
        by same (Here pulls some (inl harmed)) = ap (λ (s : Sector). s.since) harmed
        by same (Here pulls some (inr is)) = is
        by same (Lost less) = absurd (omega (arith, less, same))
