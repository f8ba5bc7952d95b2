-- What one call leaves.
use Rattle.std.proofs.Common.{◌≡◌, ℕ, ◌≤◌, Bool, if◌then◌else◌, true, false, List, [], ◌∷◌, ◌⊎◌, inl, inr, refl, sym, ap, ◌∙◌, subst, arith, Option, None, Some, slice_get}
use Rattle.std.specs.Prelude.{IsTrue, IsSome, is_some, not, ◌++◌, unwrap_or}
use Rattle.std.proofs.lemmas.Bool.{cases_Bool, cases_lt, false≢true}
use Rattle.stair_rack.specs.Sector.{Good, content, wrote, synced}
use Rattle.stair_rack.specs.Media.{has_sector}
use Rattle.stair_rack.specs.History.{SlotAct, Pulled, InsertedBlank, InsertedOld, SectorDamaged, SlotCall, Attach, Sectors, Read, Write, Sync, Happening, Called, SlotState, with_sector, after_act, after_attach, after_write, after_sync, after_call, slot_state, stopped}
use Rattle.stair_rack.specs.Outside.{MayHappen}
use Rattle.stair_rack.specs.Answers.{IsAnswered, IsBesideAttach, ChangesNothing, IsNoAttach, Calls, Told, Untold, Ran, no_call, is_ready, is_readable}
use Rattle.stair_rack.specs.Offline.{IsKept, Here, Lost, ButForOutside, IsHeld, IsOfflineUntilAttached}
use Rattle.stair_rack.specs.Passes.{Landed, WasSynced, IsWritten, IsWrittenOver, OverOld, OverDamage}
use Rattle.stair_rack.specs.Stretch.{WasAnswered}
use Rattle.stair_rack.specs.declared.rack.Reply.{Reply}
use Rattle.stair_rack.specs.declared.rack.Got.TheVariants as got
use Rattle.stair_rack.specs.declared.rack.Reply.TheVariants as reply
use Rattle.stair_rack.proofs.StepLemmas.{Keeps, keeps_slot, kept, slot_after_call}
use Rattle.stair_rack.proofs.MomentLemmas.{calls_ran, IsThis, at_end}
use Rattle.stair_rack.proofs.KeptLemmas.{not_none, with_old_cases, with_sector_same, IsKept-act, keeps_sector, IsKept-now}
use Rattle.stair_rack.proofs.OfflineLemmas.{refused, read_unready, attach_gone_now, reply_if-Gone, reply_if-Done, and-true_left, and-true_right, and-false, stopped_from_unready, keeps_unless_stopped, SlotKeeps-pulls, pulls_on, HeldState, Used, Away, held_act, IsHeld-state, AwayState, SlotKeeps-away}
use Rattle.stair_rack.proofs.TurnLemmas.{IsElsewhere, Turned, one_turned}

-- what the outside's acts on slot j keep, its acts and calls on other slots keep
pub keeps_elsewhere : (j : ℕ) (R : SlotState → Type 0) → ((b : SlotState) (a : SlotAct) → MayHappen b a → R b → R (after_act a b))
    → Keeps (IsElsewhere j) (λ h. R (slot_state h j))
keeps_elsewhere j R on_act =
    keeps_slot {allowed = IsElsewhere j} {j = j} {R = R} (record { act = on_act; call = λ h c may is before. absurd (may refl) })

pub unless_stopped_elsewhere : (j : ℕ) (R : SlotState → Type 0) → ((b : SlotState) (a : SlotAct) → MayHappen b a → R b → R (after_act a b))
    → Keeps (IsElsewhere j) (λ h. IsTrue (stopped h) ⊎ R (slot_state h j))
unless_stopped_elsewhere j R on_act =
    keeps_unless_stopped {allowed = IsElsewhere j} {j = j} {R = R} (record { act = on_act; call = λ h c may is goes_on before. absurd (may refl) })

pub pulls_act : (n : ℕ) (b : SlotState) (a : SlotAct) → MayHappen b a → n ≤ b.pulls → n ≤ (after_act a b).pulls
pulls_act n b a may before = (SlotKeeps-pulls {allowed = IsElsewhere 0} 0 n).act b a may before

-- A SLOT THAT IS GONE

-- a held slot that isn't ready is away, unless the rack is stopped
pub away_from_unready : (h : List Happening) (j pulls : ℕ) → is_ready h j ≡ false → HeldState pulls (slot_state h j)
    → IsTrue (stopped h) ⊎ AwayState pulls (slot_state h j)
away_from_unready h j pulls unready (Used attached some least) = inl (stopped_from_unready h j unready attached)
away_from_unready h j pulls unready (Away not_attached less) = inr (record { not_attached = not_attached; pulled = less })

-- held, and if it is attached, it has the sector
pub record ReachState (k pulls : ℕ) (b : SlotState) : Type 0 where
  pub held : HeldState pulls b
  pub reach : b.attached ≡ true → IsTrue (has_sector b.size k)

pub reach_act : (k pulls : ℕ) (b : SlotState) (a : SlotAct) → MayHappen b a → ReachState k pulls b → ReachState k pulls (after_act a b)
reach_act k pulls b (Pulled m) may before =
    record { held = held_act pulls b (Pulled m) may before.held; reach = λ attached. absurd (false≢true attached) }
reach_act k pulls b (InsertedBlank size) may before = record {
  held = held_act pulls b (InsertedBlank size) may before.held;
  reach = λ attached. absurd (false≢true (ap (λ s. has_sector s k) (sym may) ∙ before.reach attached));
}
reach_act k pulls b (InsertedOld i) may before =
    with_old_cases (ReachState k pulls) i (slice_get b.removed i) b before
    (λ m. record {
      held = elim before.held [
        | Used attached some least ↦ absurd (not_none b.size may.0 some)
        | Away not_attached less ↦ Away not_attached less
      ];
      reach = λ attached. absurd (false≢true (ap (λ s. has_sector s k) (sym may.0) ∙ before.reach attached));
    })
reach_act k pulls b (SectorDamaged l) may before =
    record { held = held_act pulls b (SectorDamaged l) may before.held; reach = before.reach }

-- A slot's turn that is answered Gone: before it a fact of the slot that the outside keeps and by which a slot that is held
-- and answered Gone isn't ready.
pub shut_turned : (j pulls : ℕ) (R : SlotState → Type 0) (c : SlotCall) → ((b : SlotState) (a : SlotAct) → MayHappen b a → R b → R (after_act a b))
    → ((h : List Happening) → IsAnswered h j c → R (slot_state h j) → is_ready h j ≡ false) → ((b : SlotState) → R b → HeldState pulls b)
    → ((b : SlotState) → after_call c b ≡ b)
    → Turned (λ h. IsTrue (stopped h) ⊎ R (slot_state h j)) (λ h. IsTrue (stopped h) ⊎ AwayState pulls (slot_state h j)) j c
shut_turned j pulls R c on_act unready held same = record {
  before = unless_stopped_elsewhere j R on_act;
  after = unless_stopped_elsewhere j (AwayState pulls) ((SlotKeeps-away {allowed = IsElsewhere j} j pulls (λ d may. absurd (may refl))).act);
  told = told;
  untold = λ h before is_stopped answered. inl is_stopped;
}
  where
    told : (h : List Happening) → IsTrue (stopped h) ⊎ R (slot_state h j) → IsAnswered h j c
        → IsTrue (stopped h) ⊎ AwayState pulls (slot_state (Called j c ∷ h) j)
    told h (inl is) answered = inl is
    told h (inr before) answered =
        elim (away_from_unready h j pulls (unready h answered before) (held (slot_state h j) before)) [
          | inl is ↦ inl is
          | inr away ↦ inr (subst (AwayState pulls) (sym (slot_after_call h j c ∙ same (slot_state h j))) away)
        ]

pub write_shut_turned : (j k pulls : ℕ) (bytes : List ℕ)
    → Turned (λ h. IsTrue (stopped h) ⊎ ReachState k pulls (slot_state h j)) (λ h. IsTrue (stopped h) ⊎ AwayState pulls (slot_state h j)) j
    (Write k bytes reply.Gone)
write_shut_turned j k pulls bytes =
    shut_turned j pulls (ReachState k pulls) (Write k bytes reply.Gone) (reach_act k pulls) unready (λ b r. r.held) (λ b. refl)
  where
    unready : (h : List Happening) → IsAnswered h j (Write k bytes reply.Gone) → ReachState k pulls (slot_state h j) → is_ready h j ≡ false
    unready h answered r =
        elim (cases_Bool (is_ready h j)) [
          | inl ready ↦
              let reached = r.reach (and-true_left (slot_state h j).attached (not (stopped h)) ready) in
              absurd (false≢true (sym (and-false (is_ready h j) (has_sector (slot_state h j).size k) (reply_if-Gone _ answered) ready) ∙ reached))
          | inr not_ready ↦ not_ready
        ]

pub sync_shut_turned : (j pulls : ℕ)
    → Turned (λ h. IsTrue (stopped h) ⊎ HeldState pulls (slot_state h j)) (λ h. IsTrue (stopped h) ⊎ AwayState pulls (slot_state h j)) j
    (Sync reply.Gone)
sync_shut_turned j pulls =
    shut_turned j pulls (HeldState pulls) (Sync reply.Gone) (held_act pulls) (λ h answered r. reply_if-Gone _ answered) (λ b r. r) (λ b. refl)

pub read_shut_turned : (j k pulls : ℕ)
    → Turned (λ h. IsTrue (stopped h) ⊎ HeldState pulls (slot_state h j)) (λ h. IsTrue (stopped h) ⊎ AwayState pulls (slot_state h j)) j
    (Read k got.Gone)
read_shut_turned j k pulls =
    shut_turned j pulls (HeldState pulls) (Read k got.Gone) (held_act pulls) (λ h answered r. read_unready h j k answered) (λ b r. r) (λ b. refl)

pub shut_from : (before new : List Happening) (j : ℕ) → IsTrue (stopped new) ⊎ AwayState (slot_state before j).pulls (slot_state new j)
    → IsOfflineUntilAttached before new j
shut_from before new j (inl is) = IsOfflineUntilAttached.RackStopped is
shut_from before new j (inr away) = IsOfflineUntilAttached.Unattached away.not_attached away.pulled

module _ (old : List Happening) (k : ℕ) (bytes : List ℕ) where
  -- before the write of a slot: as it was, where it held a medium
  pub record Unwritten (j : ℕ) (b : SlotState) : Type 0 where
    pub least : (slot_state old j).pulls ≤ b.pulls
    pub as_was : IsSome (slot_state old j).size → IsKept (slot_state old j).pulls k (λ s. s ≡ (slot_state old j).sector k) b

  pub has_medium : (size : Option ℕ) → has_sector size k ≡ true → IsSome size
  has_medium None has = absurd (false≢true has)
  has_medium (Some n) has = refl

  over_what : (j : ℕ) (b : SlotState) → Unwritten j b → b.pulls ≡ (slot_state old j).pulls → IsSome (slot_state old j).size
      → IsWrittenOver bytes ((slot_state old j).sector k) (wrote bytes (b.sector k))
  over_what j b before same some =
      elim (before.as_was some) [
        | Here same' some' holds ↦
            elim holds [ inl is ↦ OverDamage (ap (wrote bytes) is) | inr is ↦ OverOld (ap (wrote bytes) is) ]
        | Lost less ↦ absurd (omega (arith, less, same))
      ]

  pub write_turned : (j : ℕ) → Turned (λ h. Unwritten j (slot_state h j)) (λ h. ButForOutside old h j k (IsWritten bytes (slot_state old j) k)) j (Write k bytes reply.Done)
  write_turned j = record {
    before = keeps_elsewhere j (Unwritten j) on_act;
    after = keeps_elsewhere j (IsKept (slot_state old j).pulls k (IsWritten bytes (slot_state old j) k)) (λ b a may kept. IsKept-act b a may kept);
    told = told;
    untold = λ h before is_stopped answered.
        let gone : reply.Done ≡ reply.Gone = refused h j (Write k bytes reply.Done) is_stopped answered in
        absurd (cc);
  }
    where
      on_act : (b : SlotState) (a : SlotAct) → MayHappen b a → Unwritten j b → Unwritten j (after_act a b)
      on_act b a may before =
          record { least = pulls_act (slot_state old j).pulls b a may before.least; as_was = λ some. IsKept-act b a may (before.as_was some) }

      written : (b : SlotState) → Unwritten j b → has_sector b.size k ≡ true
          → IsKept (slot_state old j).pulls k (IsWritten bytes (slot_state old j) k) (with_sector k (wrote bytes (b.sector k)) b)
      written b before has =
          elim (cases_lt (slot_state old j).pulls b.pulls) [
            | inl less ↦ Lost less
            | inr most ↦
                let same : b.pulls ≡ (slot_state old j).pulls = omega (arith, before.least, most) in
                let now : IsWritten bytes (slot_state old j) k (wrote bytes (b.sector k)) =
                record { bytes_are = refl; over = λ some. over_what j b before same some } in
                Here same (has_medium b.size has)
                (inr (subst (IsWritten bytes (slot_state old j) k) (sym (with_sector_same k (wrote bytes (b.sector k)) b)) now))
          ]

      told : (h : List Happening) → Unwritten j (slot_state h j) → IsAnswered h j (Write k bytes reply.Done)
          → ButForOutside old (Called j (Write k bytes reply.Done) ∷ h) j k (IsWritten bytes (slot_state old j) k)
      told h before answered =
          let has = and-true_right (is_ready h j) (has_sector (slot_state h j).size k) (reply_if-Done _ answered) in
          subst (IsKept (slot_state old j).pulls k (IsWritten bytes (slot_state old j) k)) (sym (slot_after_call h j (Write k bytes reply.Done)))
          (written (slot_state h j) before has)

module _ (old : List Happening) where
  pub sync_turned : (j k : ℕ)
      → Turned (λ h. ButForOutside old h j k (λ s. s ≡ (slot_state old j).sector k))
      (λ h. ButForOutside old h j k (λ s. s ≡ synced ((slot_state old j).sector k))) j (Sync reply.Done)
  sync_turned j k = record {
    before = keeps_elsewhere j (IsKept (slot_state old j).pulls k (λ s. s ≡ (slot_state old j).sector k)) (λ b a may kept. IsKept-act b a may kept);
    after =
        keeps_elsewhere j (IsKept (slot_state old j).pulls k (λ s. s ≡ synced ((slot_state old j).sector k))) (λ b a may kept. IsKept-act b a may kept);
    told = λ h before answered.
        subst (IsKept (slot_state old j).pulls k (λ s. s ≡ synced ((slot_state old j).sector k))) (sym (slot_after_call h j (Sync reply.Done)))
        (settles (slot_state h j) before);
    untold = λ h before is_stopped answered.
        let gone : reply.Done ≡ reply.Gone = refused h j (Sync reply.Done) is_stopped answered in
        absurd (cc);
  }
    where
      settles : (b : SlotState) → IsKept (slot_state old j).pulls k (λ s. s ≡ (slot_state old j).sector k) b
          → IsKept (slot_state old j).pulls k (λ s. s ≡ synced ((slot_state old j).sector k)) (after_call (Sync reply.Done) b)
      settles b (Here same some (inl is)) = Here same some (inl (ap synced is))
      settles b (Here same some (inr is)) = Here same some (inr (ap synced is))
      settles b (Lost less) = Lost less

-- ONE WRITE

module _ (old new : List Happening) (j k : ℕ) (bytes : List ℕ) where
  -- where it was done, the sector has the bytes
  pub write_done : Calls old new j (Write k bytes reply.Done) → ButForOutside old new j k (IsWritten bytes (slot_state old j) k)
  write_done called =
      let A : List Happening → Type 0 = λ h. Unwritten old k bytes j (slot_state h j) in
      let B : List Happening → Type 0 = λ h. ButForOutside old h j k (IsWritten bytes (slot_state old j) k) in
      let start : A old = record { least = omega arith; as_was = λ some. IsKept-now old j k some } in
      (one_turned A B j (Write k bytes reply.Done) (write_turned old k bytes j) old new called start).end

  -- and it read so at once
  pub write_landed : Calls old new j (Write k bytes reply.Done) → Landed old new j k bytes
  write_landed called =
      at_end {a = IsThis j (Write k bytes reply.Done)} {P = λ h. content ((slot_state h j).sector k) ≡ Good bytes} (calls_ran called) (reads called)
    where
      reads : Calls old new j (Write k bytes reply.Done) → content ((slot_state new j).sector k) ≡ Good bytes
      reads (Told acts runs answered is) =
          let h = acts ++ old in
          ap (λ g. content ((slot_state g j).sector k)) is
          ∙ ap (λ (b : SlotState). content (b.sector k)) (slot_after_call h j (Write k bytes reply.Done))
          ∙ ap content (with_sector_same k (wrote bytes ((slot_state h j).sector k)) (slot_state h j))
      reads (Untold acts runs answered is_stopped nothing is) =
          let gone : reply.Done ≡ reply.Gone = refused (acts ++ old) j (Write k bytes reply.Done) is_stopped answered in
          absurd (cc)

  -- where the slot was gone, and it is held and has the sector, it is offline
  pub write_gone : (before : List Happening) → Calls old new j (Write k bytes reply.Gone) → IsHeld before old j
      → ((slot_state old j).attached ≡ true → IsTrue (has_sector (slot_state old j).size k)) → IsOfflineUntilAttached before new j
  write_gone before called held reach =
      let pulls = (slot_state before j).pulls in
      let A : List Happening → Type 0 = λ h. IsTrue (stopped h) ⊎ ReachState k pulls (slot_state h j) in
      let B : List Happening → Type 0 = λ h. IsTrue (stopped h) ⊎ AwayState pulls (slot_state h j) in
      let start : A old =
      elim (IsHeld-state before old j held) [ inl is ↦ inl is | inr h ↦ inr (record { held = h; reach = reach }) ] in
      shut_from before new j (one_turned A B j (Write k bytes reply.Gone) (write_shut_turned j k pulls bytes) old new called start).end

  -- every other sector is as it was, and this one too where the slot was gone
  pub write_others : (answer : Reply) (i l : ℕ) → Calls old new j (Write k bytes answer) → IsSome (slot_state old i).size
      → (¬ ((i ≡ j) × (l ≡ k) × (answer ≡ reply.Done))) → ButForOutside old new i l (λ s. s ≡ (slot_state old i).sector l)
  write_others answer i l called some not_this =
      kept {allowed = IsThis j (Write k bytes answer)} {P = λ h. ButForOutside old h i l (λ s. s ≡ (slot_state old i).sector l)}
      (keeps_sector {allowed = IsThis j (Write k bytes answer)} {j = i} {k = l} {P = λ s. s ≡ (slot_state old i).sector l}
      (slot_state old i).pulls
      (record {
        write = λ bytes' s this before.
            let same : Write l bytes' reply.Done ≡ Write k bytes answer = this.1 in
            let at : l ≡ k = cc in
            let done : answer ≡ reply.Done = cc in
            absurd (not_this (this.0, at, done));
        sync = λ s this before. let same : Sync reply.Done ≡ Write k bytes answer = this.1 in absurd (cc);
      })) (calls_ran called) (IsKept-now old i l some)

-- ONE SYNC

module _ (old new : List Happening) (j : ℕ) where
  -- where it was done, the device is settled
  pub sync_done : (k : ℕ) → Calls old new j (Sync reply.Done) → IsSome (slot_state old j).size
      → ButForOutside old new j k (λ s. s ≡ synced ((slot_state old j).sector k))
  sync_done k called some =
      let A : List Happening → Type 0 = λ h. ButForOutside old h j k (λ s. s ≡ (slot_state old j).sector k) in
      let B : List Happening → Type 0 = λ h. ButForOutside old h j k (λ s. s ≡ synced ((slot_state old j).sector k)) in
      (one_turned A B j (Sync reply.Done) (sync_turned old j k) old new called (IsKept-now old j k some)).end

  -- and nothing was unsynced at once
  pub sync_landed : Calls old new j (Sync reply.Done) → WasSynced old new j
  sync_landed called =
      at_end {a = IsThis j (Sync reply.Done)} {P = λ h. (k : ℕ) → ((slot_state h j).sector k).since ≡ []} (calls_ran called) (nothing_unsynced called)
    where
      nothing_unsynced : Calls old new j (Sync reply.Done) → (k : ℕ) → ((slot_state new j).sector k).since ≡ []
      nothing_unsynced (Told acts runs answered is) k =
          ap (λ g. ((slot_state g j).sector k).since) is
          ∙ ap (λ (b : SlotState). (b.sector k).since) (slot_after_call (acts ++ old) j (Sync reply.Done))
      nothing_unsynced (Untold acts runs answered is_stopped nothing is) k =
          let gone : reply.Done ≡ reply.Gone = refused (acts ++ old) j (Sync reply.Done) is_stopped answered in
          absurd (cc)

  -- and the sync is told
  pub sync_told : Calls old new j (Sync reply.Done) → WasAnswered j (Sync reply.Done) old new
  sync_told (Told acts runs answered is) = record { earlier = acts; later = []; is = is }
  sync_told (Untold acts runs answered is_stopped nothing is) =
      let gone : reply.Done ≡ reply.Gone = refused (acts ++ old) j (Sync reply.Done) is_stopped answered in absurd (cc)

  -- where the slot was gone, and it is held, it is offline
  pub sync_gone : (before : List Happening) → Calls old new j (Sync reply.Gone) → IsHeld before old j → IsOfflineUntilAttached before new j
  sync_gone before called held =
      let pulls = (slot_state before j).pulls in
      let A : List Happening → Type 0 = λ h. IsTrue (stopped h) ⊎ HeldState pulls (slot_state h j) in
      let B : List Happening → Type 0 = λ h. IsTrue (stopped h) ⊎ AwayState pulls (slot_state h j) in
      shut_from before new j
      (one_turned A B j (Sync reply.Gone) (sync_shut_turned j pulls) old new called (IsHeld-state before old j held)).end

  -- every other slot is as it was, and this one too where it was gone
  pub sync_others : (answer : Reply) (i k : ℕ) → Calls old new j (Sync answer) → IsSome (slot_state old i).size
      → (¬ ((i ≡ j) × (answer ≡ reply.Done))) → ButForOutside old new i k (λ s. s ≡ (slot_state old i).sector k)
  sync_others answer i k called some not_this =
      kept {allowed = IsThis j (Sync answer)} {P = λ h. ButForOutside old h i k (λ s. s ≡ (slot_state old i).sector k)}
      (keeps_sector {allowed = IsThis j (Sync answer)} {j = i} {k = k} {P = λ s. s ≡ (slot_state old i).sector k} (slot_state old i).pulls
      (record {
        write = λ bytes s this before. let same : Write k bytes reply.Done ≡ Sync answer = this.1 in absurd (cc);
        sync = λ s this before.
            let same : Sync reply.Done ≡ Sync answer = this.1 in
            let done : answer ≡ reply.Done = cc in
            absurd (not_this (this.0, done));
      })) (calls_ran called) (IsKept-now old i k some)

-- ONE READ

module _ (old new : List Happening) (j k : ℕ) where
  pub read_gone : (before : List Happening) → Calls old new j (Read k got.Gone) → IsHeld before old j → IsOfflineUntilAttached before new j
  read_gone before called held =
      let pulls = (slot_state before j).pulls in
      let A : List Happening → Type 0 = λ h. IsTrue (stopped h) ⊎ HeldState pulls (slot_state h j) in
      let B : List Happening → Type 0 = λ h. IsTrue (stopped h) ⊎ AwayState pulls (slot_state h j) in
      shut_from before new j
      (one_turned A B j (Read k got.Gone) (read_shut_turned j k pulls) old new called (IsHeld-state before old j held)).end

  -- a sector that read as bad can't be read, and the slot is in use
  pub read_bad : Calls old new j (Read k got.Bad) → (is_readable (slot_state new j) k ≡ false) × ((slot_state new j).attached ≡ true)
  read_bad (Told acts runs answered is) =
      let there = unreadable (is_ready (acts ++ old) j) (is_readable (slot_state (acts ++ old) j) k) answered in
      let here : slot_state new j ≡ slot_state (acts ++ old) j =
      ap (λ h. slot_state h j) is ∙ slot_after_call (acts ++ old) j (Read k got.Bad) in (
        ap (λ b. is_readable b k) here ∙ there.0,
        ap (λ (b : SlotState). b.attached) here ∙ and-true_left (slot_state (acts ++ old) j).attached (not (stopped (acts ++ old))) there.1,
      )
    where
      unreadable : (ready readable : Bool) → got.Bad ≡ (if ready then (if readable then got.Good else got.Bad) else got.Gone)
          → (readable ≡ false) × (ready ≡ true)
      unreadable true true is = absurd (cc)
      unreadable true false is = (refl, refl)
      unreadable false readable is = absurd (cc)
  read_bad (Untold acts runs answered is_stopped nothing is) =
      let gone : got.Bad ≡ got.Gone = refused (acts ++ old) j (Read k got.Bad) is_stopped answered in
      absurd (cc)

-- ONE ATTACH

module _ (old new : List Happening) (j : ℕ) where
  -- a slot whose medium was found is held in every session that began before
  pub attach_done : (before : List Happening) → (slot_state before j).pulls ≤ (slot_state old j).pulls → Calls old new j (Attach reply.Done)
      → IsHeld before new j
  attach_done before least (Told acts runs answered is) =
      let h = acts ++ old in
      let more : (slot_state old j).pulls ≤ (slot_state h j).pulls = pulls_on {allowed = no_call} j (record { more = acts; is = refl; runs = runs }) in
      let some = and-true_left (is_some (slot_state h j).size) (not (stopped h)) (reply_if-Done _ answered) in
      let here : slot_state new j ≡ after_call (Attach reply.Done) (slot_state h j) =
      ap (λ g. slot_state g j) is ∙ slot_after_call h j (Attach reply.Done) in
      IsHeld.InUse (ap (λ (b : SlotState). b.attached) here) (ap (λ (b : SlotState). is_some b.size) here ∙ some)
      (subst (λ (b : SlotState). (slot_state before j).pulls ≤ b.pulls) (sym here) (omega (arith, least, more)))
  attach_done before least (Untold acts runs answered is_stopped nothing is) =
      let gone : reply.Done ≡ reply.Gone = refused (acts ++ old) j (Attach reply.Done) is_stopped answered in
      absurd (cc)

  -- a slot is gone to an attach where it holds no medium, or the rack is stopped
  pub attach_gone : Calls old new j (Attach reply.Gone) → ((slot_state new j).size ≡ None) ⊎ IsTrue (stopped new)
  attach_gone (Told acts runs answered is) =
      let h = acts ++ old in
      let here : slot_state new j ≡ after_call (Attach reply.Gone) (slot_state h j) =
      ap (λ g. slot_state g j) is ∙ slot_after_call h j (Attach reply.Gone) in
      let is_stopped : stopped new ≡ stopped h = ap stopped is in
      elim (attach_gone_now h j answered) [
        | inl none ↦ inl (ap (λ (b : SlotState). b.size) here ∙ none)
        | inr was ↦ inr (is_stopped ∙ was)
      ]
  attach_gone (Untold acts runs answered is_stopped nothing is) = inr (subst (λ h. IsTrue (stopped h)) (sym is) is_stopped)

-- CALLS THAT CHANGE NOTHING

-- a stopped rack's call that isn't an attach
pub refused_changes_nothing : (h : List Happening) (j : ℕ) (c : SlotCall) → IsTrue (stopped h) → IsAnswered h j c → IsBesideAttach c
    → ChangesNothing h j c
refused_changes_nothing h j (Attach answer) is answered beside = absurd beside
refused_changes_nothing h j (Sectors size) is answered beside = refl
refused_changes_nothing h j (Read k answer) is answered beside = refl
refused_changes_nothing h j (Write k bytes answer) is answered beside =
    ap (λ r. after_write k bytes r (slot_state h j)) (refused h j (Write k bytes answer) is answered)
refused_changes_nothing h j (Sync answer) is answered beside =
    ap (λ r. after_sync r (slot_state h j)) (refused h j (Sync answer) is answered)

-- an attach that finds none, where nothing is attached and the last one found none
pub attach_changes_nothing : (h : List Happening) (j : ℕ) → (slot_state h j).attached ≡ false → (slot_state h j).found ≡ 0
    → ChangesNothing h j (Attach reply.Gone)
attach_changes_nothing h j not_attached none = same (slot_state h j) not_attached none
  where
    same : (b : SlotState) → b.attached ≡ false → b.found ≡ 0 → after_attach reply.Gone b ≡ b
    same b not_attached none =
        ap (λ (n : ℕ). record b { attached = false; found = n }) (sym none)
        ∙ ap (λ (x : Bool). record b { attached = x; found = b.found }) (sym not_attached)

-- WHAT THE LAST ATTACH FOUND

some_size : (size : Option ℕ) → IsSome size → size ≡ Some (unwrap_or size 0)
some_size None some = absurd (false≢true some)
some_size (Some n) some = refl

module _ (old new : List Happening) (j : ℕ) where
  -- told or not, `sectors` answers what was found
  pub sectors_answered : (n : ℕ) → Calls old new j (Sectors n) → n ≡ (slot_state new j).found
  sectors_answered n (Told acts runs answered is) =
      answered ∙ sym (ap (λ (b : SlotState). b.found) (ap (λ h. slot_state h j) is ∙ slot_after_call (acts ++ old) j (Sectors n)))
  sectors_answered n (Untold acts runs answered is_stopped nothing is) = answered ∙ ap (λ h. (slot_state h j).found) (sym is)

  -- an attach finds the medium
  pub attach_found : Calls old new j (Attach reply.Done) → (slot_state new j).size ≡ Some (slot_state new j).found
  attach_found (Told acts runs answered is) =
      let h = acts ++ old in
      let here : slot_state new j ≡ after_call (Attach reply.Done) (slot_state h j) =
      ap (λ g. slot_state g j) is ∙ slot_after_call h j (Attach reply.Done) in
      let some = and-true_left (is_some (slot_state h j).size) (not (stopped h)) (reply_if-Done _ answered) in
      ap (λ (b : SlotState). b.size) here ∙ some_size (slot_state h j).size some ∙ sym (ap (λ (b : SlotState). Some b.found) here)
  attach_found (Untold acts runs answered is_stopped nothing is) =
      let gone : reply.Done ≡ reply.Gone = refused (acts ++ old) j (Attach reply.Done) is_stopped answered in
      absurd (cc)

  -- or nothing
  pub attach_found_none : Calls old new j (Attach reply.Gone) → (slot_state new j).found ≡ 0
  attach_found_none (Told acts runs answered is) =
      ap (λ (b : SlotState). b.found) (ap (λ h. slot_state h j) is ∙ slot_after_call (acts ++ old) j (Attach reply.Gone))
  attach_found_none (Untold acts runs answered is_stopped nothing is) =
      ap (λ h. (slot_state h j).found) is ∙ sym (ap (λ (b : SlotState). b.found) nothing)

found_act : (n : ℕ) (b : SlotState) (a : SlotAct) → b.found ≡ n → (after_act a b).found ≡ n
found_act n b (Pulled m) is = is
found_act n b (InsertedBlank size) is = is
found_act n b (InsertedOld i) is = with_old_cases (λ x. x.found ≡ n) i (slice_get b.removed i) b is (λ m. is)
found_act n b (SectorDamaged k) is = is

found_call : (n : ℕ) (b : SlotState) (c : SlotCall) → IsBesideAttach c → b.found ≡ n → (after_call c b).found ≡ n
found_call n b (Attach answer) beside is = absurd beside
found_call n b (Sectors size) beside is = is
found_call n b (Read k answer) beside is = is
found_call n b (Write k bytes reply.Done) beside is = is
found_call n b (Write k bytes reply.Gone) beside is = is
found_call n b (Sync reply.Done) beside is = is
found_call n b (Sync reply.Gone) beside is = is

-- what was found stays until the slot is attached anew
pub found_on : {allowed : ℕ → SlotCall → Type 0} {old new : List Happening} (j : ℕ) → ((c : SlotCall) → allowed j c → IsBesideAttach c)
    → Ran allowed old new → (slot_state new j).found ≡ (slot_state old j).found
found_on {allowed} {old} j beside ran =
    let n = (slot_state old j).found in
    kept {allowed = allowed} {P = λ h. (slot_state h j).found ≡ n}
    (keeps_slot {allowed = allowed} {j = j} {R = λ b. b.found ≡ n}
    (record { act = λ b a may is. found_act n b a is; call = λ h c may is found. found_call n (slot_state h j) c (beside c may) found })) ran refl

-- told or not, `sectors` answers what the last attach found
pub sectors_of_last : (mid now new : List Happening) (j n : ℕ) → Ran (IsNoAttach j) mid now → Calls now new j (Sectors n) → n ≡ (slot_state mid j).found
sectors_of_last mid now new j n ran called =
    sectors_answered now new j n called
    ∙ found_on {allowed = IsThis j (Sectors n)} j (λ c this. subst IsBesideAttach (sym this.1) tt) (calls_ran called)
    ∙ found_on {allowed = IsNoAttach j} j (λ c no_attach. no_attach refl) ran
