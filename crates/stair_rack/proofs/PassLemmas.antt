-- What a pass of writes, or of syncs, over the slots of a set leaves.
use Rattle.std.proofs.Common.{◌≡◌, ℕ, ◌<◌, true, List, [], ◌⊎◌, inl, inr, refl, sym, ap, ◌∙◌, subst, arith}
use Rattle.std.specs.Prelude.{IsTrue, IsSome, not}
use Rattle.std.proofs.lemmas.Bool.{cases_Bool, cases_eq, false≢true}
use Rattle.stair_model.specs.Slots.{Slots, has_slot, HasSlot}
use Rattle.stair_rack.specs.Sector.{Good, Sector, content, synced}
use Rattle.stair_rack.specs.Media.{has_sector}
use Rattle.stair_rack.specs.History.{SlotCall, Write, Sync, Happening, slot_state, stopped}
use Rattle.stair_rack.specs.Answers.{Calls, any_call, reply_if}
use Rattle.stair_rack.specs.Moments.{IsMoment, AtEveryMoment}
use Rattle.stair_rack.specs.Offline.{ButForOutside, IsHeld, IsOfflineUntilAttached}
use Rattle.stair_rack.specs.Passes.{Turns, IsOn, IsDone, Landed, WasSynced, IsWritten, IsWrittenOver, Wrote, Settled}
use Rattle.stair_rack.specs.Stretch.{WasAnswered}
use Rattle.stair_rack.specs.declared.rack.Reply.{Reply}
use Rattle.stair_rack.specs.declared.rack.Reply.TheVariants as reply
use Rattle.stair_rack.proofs.StepLemmas.{kept_throughout}
use Rattle.stair_rack.proofs.MomentLemmas.{ran_weakened, at_some_wider, at_every_from, at_moment, at_last}
use Rattle.stair_rack.proofs.KeptLemmas.{IsKept-mapped, SectorKeeps, keeps_sector, IsKept-now}
use Rattle.stair_rack.proofs.OfflineLemmas.{reply_if-Done, HeldState, IsHeld-state, AwayState}
use Rattle.stair_rack.proofs.CallLemmas.{write_landed, sync_landed, sync_told, ReachState, shut_from, Unwritten, write_turned, sync_turned, write_shut_turned, sync_shut_turned}
use Rattle.stair_rack.proofs.StretchLemmas.{answered_wider}
use Rattle.stair_rack.proofs.TurnLemmas.{turn, turn_of, IsTurn, IsOn-turn, turns_ran, Turned, BeforeAndAfter, turned_below}

-- ANSWERS OF A TURN

done_turn : (call : Reply → SlotCall) (to gone : Slots) (j : ℕ) → IsDone to gone j → turn call gone j ≡ call reply.Done
done_turn call to gone j done =
    elim (cases_Bool (has_slot gone j)) [
      | inl is_gone ↦ absurd (done.1 is_gone)
      | inr fine ↦ ap (λ b. call (reply_if (not b))) fine
    ]

gone_turn : (call : Reply → SlotCall) (gone : Slots) (j : ℕ) → HasSlot gone j → turn call gone j ≡ call reply.Gone
gone_turn call gone j is_gone = ap (λ b. call (reply_if (not b))) is_gone

-- a turn that was answered Done is of a slot that isn't gone
done_from_turn : (gone : Slots) (j : ℕ) → reply.Done ≡ reply_if (not (has_slot gone j)) → ¬ HasSlot gone j
done_from_turn gone j is has = false≢true (sym (ap not has) ∙ reply_if-Done _ is)

module _ (to gone : Slots) (within : (j : ℕ) → HasSlot gone j → HasSlot to j) (slots : (j : ℕ) → HasSlot to j → j < 32) (old new : List Happening) where
  -- WRITES

  module _ (k : ℕ) (bytes : List ℕ) (turns : Turns (Write k bytes) to gone 32 old new) where
    shut_write : (before : List Happening) (j : ℕ) → HasSlot gone j → IsHeld before old j
        → ((slot_state old j).attached ≡ true → IsTrue (has_sector (slot_state old j).size k)) → IsOfflineUntilAttached before new j
    shut_write before j is_gone held reach =
        let pulls = (slot_state before j).pulls in
        let A : List Happening → Type 0 = λ h. IsTrue (stopped h) ⊎ ReachState k pulls (slot_state h j) in
        let B : List Happening → Type 0 = λ h. IsTrue (stopped h) ⊎ AwayState pulls (slot_state h j) in
        let there : Turned A B j (turn (Write k bytes) gone j) = subst (Turned A B j) (sym (gone_turn (Write k bytes) gone j is_gone)) (write_shut_turned j k pulls bytes) in
        let start : A old =
        elim (IsHeld-state before old j held) [ inl is ↦ inl is | inr h ↦ inr (record { held = h; reach = reach }) ] in
        shut_from before new j
        (turned_below A B (Write k bytes) to gone j (within j is_gone) there 32 (slots j (within j is_gone)) old new turns start).end

    -- what isn't written is kept
    beside : (j l : ℕ) → (¬ (IsDone to gone j × (l ≡ k))) → SectorKeeps (IsTurn (Write k bytes) to gone 32) j l (λ s. s ≡ (slot_state old j).sector l)
    beside j l not_done = record {
      write = λ bytes' s may before.
          let same : Write l bytes' reply.Done ≡ Write k bytes (reply_if (not (has_slot gone j))) = may.is in
          let at : l ≡ k = cc in
          let done : reply.Done ≡ reply_if (not (has_slot gone j)) = cc in
          absurd (not_done ((may.on, done_from_turn gone j done), at));
      sync = λ s may before. let same : Sync reply.Done ≡ Write k bytes (reply_if (not (has_slot gone j))) = may.is in absurd (cc);
    }

    others_throughout : (j l : ℕ) → IsSome (slot_state old j).size → (¬ (IsDone to gone j × (l ≡ k)))
        → AtEveryMoment (λ h. ButForOutside old h j l (λ s. s ≡ (slot_state old j).sector l)) old new
    others_throughout j l some not_done =
        kept_throughout {allowed = IsTurn (Write k bytes) to gone 32} {P = λ h. ButForOutside old h j l (λ s. s ≡ (slot_state old j).sector l)}
        (keeps_sector {allowed = IsTurn (Write k bytes) to gone 32} {j = j} {k = l} {P = λ s. s ≡ (slot_state old j).sector l}
        (slot_state old j).pulls (beside j l not_done)) (turns_ran (Write k bytes) to gone 32 old new turns) (IsKept-now old j l some)

    written_throughout : (j : ℕ) → IsDone to gone j
        → BeforeAndAfter (λ h. Unwritten old k bytes j (slot_state h j)) (λ h. ButForOutside old h j k (IsWritten bytes (slot_state old j) k)) old new
    written_throughout j done =
        let A : List Happening → Type 0 = λ h. Unwritten old k bytes j (slot_state h j) in
        let B : List Happening → Type 0 = λ h. ButForOutside old h j k (IsWritten bytes (slot_state old j) k) in
        let there : Turned A B j (turn (Write k bytes) gone j) = subst (Turned A B j) (sym (done_turn (Write k bytes) to gone j done)) (write_turned old k bytes j) in
        let start : A old = record { least = omega arith; as_was = λ some. IsKept-now old j k some } in
        turned_below A B (Write k bytes) to gone j done.0 there 32 (slots j done.0) old new turns start

    -- is this sector written
    is_written : (j l : ℕ) → (IsDone to gone j × (l ≡ k)) ⊎ (¬ (IsDone to gone j × (l ≡ k)))
    is_written j l =
        elim (cases_eq l k) [
          | inl at ↦
              elim (cases_Bool (has_slot to j)) [
                | inl on ↦
                    elim (cases_Bool (has_slot gone j)) [
                      | inl is_gone ↦ inr (λ done. done.0.1 is_gone)
                      | inr fine ↦ inl ((on, λ is_gone. false≢true (sym fine ∙ is_gone)), at)
                    ]
                | inr off ↦ inr (λ done. false≢true (sym off ∙ done.0.0))
              ]
          | inr other ↦ inr (λ done. other done.1)
        ]

    abbrev Between : (j l : ℕ) → Sector → Type 0
    Between j l s =
        (s ≡ (slot_state old j).sector l) ⊎ (IsDone to gone j × (l ≡ k) × IsWrittenOver bytes ((slot_state old j).sector l) s)

    written_between : (j l : ℕ) → IsDone to gone j → l ≡ k → IsSome (slot_state old j).size → (h : List Happening) → IsMoment old h new
        → ButForOutside old h j l (Between j l)
    written_between j l done at some h moment =
        let A : List Happening → Type 0 = λ g. Unwritten old k bytes j (slot_state g j) in
        let B : List Happening → Type 0 = λ g. ButForOutside old g j k (IsWritten bytes (slot_state old j) k) in
        let here : A h ⊎ B h = at_moment {P = λ g. A g ⊎ B g} (written_throughout j done).each moment in
        subst (λ i. ButForOutside old h j i (Between j i)) (sym at)
        (elim here [
          | inl before ↦ IsKept-mapped (λ s is. inl is) (before.as_was some)
          | inr after ↦ IsKept-mapped (λ s is. inr (done, refl, is.over some)) after
        ])

    meanwhile_written : (h : List Happening) → IsMoment old h new → (j l : ℕ) → IsSome (slot_state old j).size → ButForOutside old h j l (Between j l)
    meanwhile_written h moment j l some =
        elim (is_written j l) [
          | inl done ↦ written_between j l done.0 done.1 some h moment
          | inr not_done ↦
              IsKept-mapped {P = λ s. s ≡ (slot_state old j).sector l} (λ s is. inl is)
              (at_moment {P = λ g. ButForOutside old g j l (λ s. s ≡ (slot_state old j).sector l)} (others_throughout j l some not_done) moment)
        ]

    landed_write : (j : ℕ) → IsDone to gone j → Landed old new j k bytes
    landed_write j done =
        let there = turn_of (Write k bytes) to gone 32 j (slots j done.0) done.0 old new turns in
        let called : Calls there.mid there.next j (Write k bytes reply.Done) =
        subst (Calls there.mid there.next j) (done_turn (Write k bytes) to gone j done) there.called in
        at_some_wider {a = any_call} {b = any_call} {P = λ h. content ((slot_state h j).sector k) ≡ Good bytes}
        there.sooner there.later (write_landed there.mid there.next j k bytes called)

    pub Wrote-from_turns : Wrote to gone k bytes old new
    Wrote-from_turns =
        let ran = turns_ran (Write k bytes) to gone 32 old new turns in
        record {
          ran = ran_weakened {allowed = IsTurn (Write k bytes) to gone 32} {more = IsOn to (Write k bytes)} (IsOn-turn (Write k bytes) to gone 32) ran;
          turns = turns;
          answered = within;
          landed = landed_write;
          written = λ j done. (written_throughout j done).end;
          others = λ j l some not_done.
              at_last {P = λ h. ButForOutside old h j l (λ s. s ≡ (slot_state old j).sector l)} (others_throughout j l some not_done);
          meanwhile =
              at_every_from {P = λ h. (j l : ℕ) → IsSome (slot_state old j).size → ButForOutside old h j l (Between j l)} ran.more ran.is
              meanwhile_written;
          shut = shut_write;
        }

  -- SYNCS

  module _ (turns : Turns Sync to gone 32 old new) where
    shut_sync : (before : List Happening) (j : ℕ) → HasSlot gone j → IsHeld before old j → IsOfflineUntilAttached before new j
    shut_sync before j is_gone held =
        let pulls = (slot_state before j).pulls in
        let A : List Happening → Type 0 = λ h. IsTrue (stopped h) ⊎ HeldState pulls (slot_state h j) in
        let B : List Happening → Type 0 = λ h. IsTrue (stopped h) ⊎ AwayState pulls (slot_state h j) in
        let there : Turned A B j (turn Sync gone j) = subst (Turned A B j) (sym (gone_turn Sync gone j is_gone)) (sync_shut_turned j pulls) in
        shut_from before new j
        (turned_below A B Sync to gone j (within j is_gone) there 32 (slots j (within j is_gone)) old new turns (IsHeld-state before old j held)).end

    -- what isn't synced is kept
    unsynced : (j k : ℕ) → (¬ IsDone to gone j) → SectorKeeps (IsTurn Sync to gone 32) j k (λ s. s ≡ (slot_state old j).sector k)
    unsynced j k not_done = record {
      write = λ bytes s may before.
          let same : Write k bytes reply.Done ≡ Sync (reply_if (not (has_slot gone j))) = may.is in absurd (cc);
      sync = λ s may before.
          let same : Sync reply.Done ≡ Sync (reply_if (not (has_slot gone j))) = may.is in
          let done : reply.Done ≡ reply_if (not (has_slot gone j)) = cc in
          absurd (not_done (may.on, done_from_turn gone j done));
    }

    unsynced_throughout : (j k : ℕ) → IsSome (slot_state old j).size → (¬ IsDone to gone j)
        → AtEveryMoment (λ h. ButForOutside old h j k (λ s. s ≡ (slot_state old j).sector k)) old new
    unsynced_throughout j k some not_done =
        kept_throughout {allowed = IsTurn Sync to gone 32} {P = λ h. ButForOutside old h j k (λ s. s ≡ (slot_state old j).sector k)}
        (keeps_sector {allowed = IsTurn Sync to gone 32} {j = j} {k = k} {P = λ s. s ≡ (slot_state old j).sector k}
        (slot_state old j).pulls (unsynced j k not_done)) (turns_ran Sync to gone 32 old new turns) (IsKept-now old j k some)

    synced_throughout : (j k : ℕ) → IsDone to gone j → IsSome (slot_state old j).size
        → BeforeAndAfter (λ h. ButForOutside old h j k (λ s. s ≡ (slot_state old j).sector k))
        (λ h. ButForOutside old h j k (λ s. s ≡ synced ((slot_state old j).sector k))) old new
    synced_throughout j k done some =
        let A : List Happening → Type 0 = λ h. ButForOutside old h j k (λ s. s ≡ (slot_state old j).sector k) in
        let B : List Happening → Type 0 = λ h. ButForOutside old h j k (λ s. s ≡ synced ((slot_state old j).sector k)) in
        let there : Turned A B j (turn Sync gone j) = subst (Turned A B j) (sym (done_turn Sync to gone j done)) (sync_turned old j k) in
        turned_below A B Sync to gone j done.0 there 32 (slots j done.0) old new turns (IsKept-now old j k some)

    is_synced : (j : ℕ) → IsDone to gone j ⊎ (¬ IsDone to gone j)
    is_synced j =
        elim (cases_Bool (has_slot to j)) [
          | inl on ↦
              elim (cases_Bool (has_slot gone j)) [
                | inl is_gone ↦ inr (λ done. done.1 is_gone)
                | inr fine ↦ inl (on, λ is_gone. false≢true (sym fine ∙ is_gone))
              ]
          | inr off ↦ inr (λ done. false≢true (sym off ∙ done.0))
        ]

    abbrev SyncedOrNot : (j k : ℕ) → Sector → Type 0
    SyncedOrNot j k s = (s ≡ (slot_state old j).sector k) ⊎ (IsDone to gone j × (s ≡ synced ((slot_state old j).sector k)))

    meanwhile_synced : (h : List Happening) → IsMoment old h new → (j k : ℕ) → IsSome (slot_state old j).size → ButForOutside old h j k (SyncedOrNot j k)
    meanwhile_synced h moment j k some =
        let A : List Happening → Type 0 = λ g. ButForOutside old g j k (λ s. s ≡ (slot_state old j).sector k) in
        let B : List Happening → Type 0 = λ g. ButForOutside old g j k (λ s. s ≡ synced ((slot_state old j).sector k)) in
        elim (is_synced j) [
          | inl done ↦
              let here : A h ⊎ B h = at_moment {P = λ g. A g ⊎ B g} (synced_throughout j k done some).each moment in
              elim here [
                | inl before ↦ IsKept-mapped {P = λ s. s ≡ (slot_state old j).sector k} (λ s is. inl is) before
                | inr after ↦ IsKept-mapped {P = λ s. s ≡ synced ((slot_state old j).sector k)} (λ s is. inr (done, is)) after
              ]
          | inr not_done ↦
              IsKept-mapped {P = λ s. s ≡ (slot_state old j).sector k} (λ s is. inl is) (at_moment {P = A} (unsynced_throughout j k some not_done) moment)
        ]

    landed_sync : (j : ℕ) → IsDone to gone j → WasSynced old new j
    landed_sync j done =
        let there = turn_of Sync to gone 32 j (slots j done.0) done.0 old new turns in
        let called : Calls there.mid there.next j (Sync reply.Done) =
        subst (Calls there.mid there.next j) (done_turn Sync to gone j done) there.called in
        at_some_wider {a = any_call} {b = any_call} {P = λ h. (k : ℕ) → ((slot_state h j).sector k).since ≡ []}
        there.sooner there.later (sync_landed there.mid there.next j called)

    told_sync : (j : ℕ) → IsDone to gone j → WasAnswered j (Sync reply.Done) old new
    told_sync j done =
        let there = turn_of Sync to gone 32 j (slots j done.0) done.0 old new turns in
        let called : Calls there.mid there.next j (Sync reply.Done) =
        subst (Calls there.mid there.next j) (done_turn Sync to gone j done) there.called in
        answered_wider {a = any_call} {b = any_call} there.sooner there.later (sync_told there.mid there.next j called)

    pub Settled-from_turns : Settled to gone old new
    Settled-from_turns =
        let ran = turns_ran Sync to gone 32 old new turns in
        record {
          ran = ran_weakened {allowed = IsTurn Sync to gone 32} {more = IsOn to Sync} (IsOn-turn Sync to gone 32) ran;
          turns = turns;
          answered = within;
          landed = landed_sync;
          was_synced = told_sync;
          settled = λ j k done some. (synced_throughout j k done some).end;
          others = λ j k some not_done.
              at_last {P = λ h. ButForOutside old h j k (λ s. s ≡ (slot_state old j).sector k)} (unsynced_throughout j k some not_done);
          meanwhile =
              at_every_from {P = λ h. (j k : ℕ) → IsSome (slot_state old j).size → ButForOutside old h j k (SyncedOrNot j k)} ran.more ran.is
              meanwhile_synced;
          shut = shut_sync;
        }
