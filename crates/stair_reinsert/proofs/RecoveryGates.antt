-- What the gates tell a recovery of an array whose media come back, once those of all live slots were read: at rest none is open, and else
-- each is open with the redo that was cut off, or can't be read, or is opened with it.
use Rattle.std.specs.Prelude.{IsSome, not}
use Rattle.std.proofs.Common.{IsTrue, List, None, Option, ap, inl, inr, refl, subst, sym, ◌<◌, ◌∙◌, ◌≡◌, ◌⊎◌, arith, ℕ, [], false, true, not}
use Rattle.std.proofs.lemmas.Bool.{cases_Bool, cases_lt, false≢true}
use Rattle.stair_model.specs.Device.{DevicePart, chunks_start, gate_sector}
use Rattle.stair_model.specs.Slots.{HasSlot, Slots}
use Rattle.stair_rack.specs.Answers.{IsHistory, IsNoAttach, Ran, any_call, is_good, is_ready}
use Rattle.stair_rack.specs.Crash.{image_now}
use Rattle.stair_rack.specs.History.{Happening, slot_state, stopped}
use Rattle.stair_rack.specs.Moments.{AtEveryMoment, IsMoment}
use Rattle.stair_rack.specs.Offline.{IsAttached, IsKept, IsOffline}
use Rattle.stair_rack.specs.Placed.{IsSlot}
use Rattle.stair_rack.specs.Reading.{IsReadOf}
use Rattle.stair_rack.specs.Sector.{Cell, Damaged, Good, Leaves, Sector, Torn, TornOverDamage, content}
use Rattle.stair_rack.specs.Stretch.{every_slot}
use Rattle.stair_rack.specs.RackState.{IsReading, RackState}
use Rattle.stair_rack.proofs.CrashLemmas.{CrashMayLeave-now, Leaves-content, Leaves-mapped, Leaves-settled, nothing_unsynced}
use Rattle.stair_rack.proofs.KeptLemmas.{IsKept-mapped}
use Rattle.stair_rack.proofs.MomentLemmas.{at_moment, moment_last, ran_after, ran_before, ran_weakened, moment_first}
use Rattle.stair_rack.proofs.OfflineLemmas.{and-true_left, pulls_on}
use Rattle.stair_rack.proofs.TidyLemmas.{history_on, history_tidy}
use Rattle.stair_member.specs.Current.{IsLost}
use Rattle.stair_member.specs.Membership.{Membership}
use Rattle.stair_journal.specs.Body.{IsOrDamaged}
use Rattle.stair_journal.specs.Gate.{ReadsClosed, IsOpenWith}
use Rattle.stair_journal.specs.Gates.{IsGateSector, ReadsGates}
use Rattle.stair_journal.specs.declared.gates.Gates.{Gates}
use Rattle.stair_journal.specs.declared.redo.Redo.{Redo}
use Rattle.stair_state.specs.Holding.{IsCurrentMedium}
use Rattle.stair_state.specs.Recovering.{IsKnownBad, IsKnownClosed}
use Rattle.stair_state.specs.Redoing.{AtRest, AttachesNone, BodyHas, ChunkHas, GateHas, Placing, Redoing, Stage, Uncommitted, WritesNone}
use Rattle.stair_state.specs.State.{Change, Content}
use Rattle.stair_state.specs.Tolerance.{IsTolerated, IsWithinTolerance}
use Rattle.stair_state.proofs.FormLemmas.{good_kept, good_whole}
use Rattle.stair_state.proofs.HoldingLemmas.{live_current_medium}
use Rattle.stair_state.proofs.OutsideLemmas.{tolerated_alone}
use Rattle.stair_state.proofs.RecoveryLemmas.{still_bad, still_closed}
use Rattle.stair_state.proofs.RedoPhaseLemmas.{slot_unwritten}
use Rattle.stair_state.proofs.StageLemmas.{Concerns, PartIn, SlotIn, open_or_lost_alone, part_damage}
use Rattle.stair_state.proofs.SurveyedLemmas.{tolerated_last}
use Rattle.stair_invariant.specs.Effects.{AreLive, snapshot}
use Rattle.stair_invariant.specs.Returning.{current_media_of}
use Rattle.stair_invariant.specs.Session.{IsLiveIn}
use Rattle.stair_invariant.proofs.ReadOnLemmas.{gate_settled, reads_unwritten}
use Rattle.stair_invariant.proofs.Serving.{any_read}
use Rattle.stair_reinsert.proofs.NameLemmas.{still_attached}
use Rattle.stair_reinsert.proofs.RecoveryFence.{AreSynced, IsUntouched, reads_untouched, apart, epochs}
use Rattle.stair_reinsert.proofs.RecoveryFinding.{none_attached, reads_any}
use Rattle.stair_reinsert.proofs.RecoveryStage.{IsStaged, recovery_amid, recovery_doing, recovery_starts, staged}
use Rattle.stair_reinsert.proofs.RedoPhase.{IsAmidAny, amid_on}
use Rattle.stair_reinsert.proofs.RedoStart.{StartsRedo, in_redo, redo_by}
use Rattle.stair_reinsert.proofs.SessionBehind.{left_reassembled}
use Rattle.stair_reinsert.proofs.StageSince.{SinceIn, since_now, since_unwritten}
use Rattle.stair_reinsert.proofs.StoodSince.{IsHeldHere, held_here}

-- WITHIN TOLERANCE a live slot is attached whose gate isn't lost

pub record HasJournalSlot (m : Membership) (before h : List Happening) : Type 0 where
  pub slot : ℕ
  pub live : IsLiveIn m slot
  pub online : ¬ IsOffline before h slot
  pub kept : ¬ IsLost (content ((slot_state h slot).sector gate_sector))

module _ (before : List Happening) (kept : Content) (change : Option Change) (m : Membership) (h : List Happening) (is : IsUntouched before kept change m h)
    (tolerated : IsTolerated m.array.geometry before h) where
  pub journal_slot : HasJournalSlot m before h
  journal_slot = record {
    slot = within.journal_slot;
    live = record { below = held.below; why = held.here };
    online = within.journal.serves.online;
    kept = within.journal.whole gate_sector (omega arith) behind;
  }
    where
      within : IsWithinTolerance (IsOffline before h) m.array.geometry (image_now h)
      within = tolerated (image_now h) (CrashMayLeave-now h)

      current_medium : IsCurrentMedium m.array.geometry (current_media_of m) within.journal_slot ((image_now h within.journal_slot).cell)
      current_medium =
          live_current_medium (in_redo m kept change) is.stands.is.encodings (current_media_of m) m.array.epoch (image_now h)
          (is.stands.is.each (image_now h) (CrashMayLeave-now h)) (image_now h) (left_reassembled h is.history (image_now h) (CrashMayLeave-now h))
          (tolerated_alone m.array.geometry before h (image_now h) tolerated (CrashMayLeave-now h)) within.current within.is_current within.journal_slot
          within.journal.serves.live

      held : IsHeldHere m within.journal_slot current_medium.super.joined
      held = held_here m within.journal_slot current_medium.super.joined current_medium.joined

      behind : gate_sector < chunks_start m.array.geometry
      behind = omega arith

-- THE LAST ROUND

module _ (before : List Happening) (kept : Content) (change : Option Change) (m : Membership) (start mid : RackState)
    (is : IsUntouched before kept change m start.history) (settled : AreSynced m start.history) (live : Slots) (are : AreLive m live) (gates : Gates)
    (reads : ReadsGates m.array.geometry live gates start mid) (none : (j : ℕ) → ¬ HasSlot gates.gone j) (honest : IsTrue mid.honest) where
  ran : Ran (IsReadOf (HasSlot live) IsGateSector) start.history mid.history
  ran = reads.ran honest

  all_reads : Ran any_read start.history mid.history
  all_reads = reads_any {slots = HasSlot live} {sectors = IsGateSector} start.history mid.history ran

  alone : (j : ℕ) → Ran (IsNoAttach j) start.history mid.history
  alone = apart before kept change m start.history mid.history is all_reads

  unwritten : (j : ℕ) → Ran (WritesNone (IsSlot j)) start.history mid.history
  unwritten j = reads_unwritten (HasSlot live) IsGateSector start.history mid.history j ran

  -- a live slot was attached as its gate was read
  pub record WasSeen (j : ℕ) : Type 0 where
    pub moment : List Happening
    pub is_one : IsMoment start.history moment mid.history
    pub on : IsAttached moment j
    pub found : (content ((slot_state moment j).sector gate_sector) ≡ reads.gate j)
        ⊎ ((reads.gate j ≡ Damaged) × (is_good (content ((slot_state moment j).sector gate_sector)) ≡ false))

  ready_on : (h : List Happening) (j : ℕ) → is_ready h j ≡ true → IsAttached h j
  ready_on h j ready = and-true_left (slot_state h j).attached (not (stopped h)) ready

  pub seen : (j : ℕ) → HasSlot live j → WasSeen j
  seen j has = by (reads.gate j) refl (reads.read j (has, none j))
    where
      by : (cell : Cell) → reads.gate j ≡ cell → IsReading j gate_sector start mid cell → WasSeen j
      by (Good bytes) same read =
          let was = read honest in
          record { moment = was.moment; is_one = was.is_one; on = ready_on was.moment j was.ready; found = inl (was.found ∙ sym same) }
      by Damaged same read =
          let was = read.1 honest in
          record { moment = was.moment; is_one = was.is_one; on = ready_on was.moment j was.ready; found = inr (same, was.found) }
      by Torn same never = absurd never
      by TornOverDamage same never = absurd never

  pub all_attached : (j : ℕ) → HasSlot live j → IsAttached start.history j
  all_attached j has = (still_attached j (ran_before (alone j) (seen j has).is_one) (seen j has).on).0

  module _ (tolerated : IsTolerated m.array.geometry before start.history) where
    -- the stage in which it began
    abbrev pub q : IsStaged m is.stands.is.encodings.old is.stands.is.encodings.new (HasSlot live) (image_now start.history)
    q = staged before kept change m start is settled live are all_attached tolerated

    abbrev r : Redoing
    r = redo_by m q.first q.last q.redo

    abbrev starts : StartsRedo m q.first q.last q.redo kept change is.stands.is.encodings q.stage start.history
    starts = recovery_starts before kept change m start is settled live are all_attached tolerated

    live_is : (j : ℕ) → HasSlot live j → IsLiveIn m j
    live_is j has = (are.are j).0 has

    -- it stayed so on each live slot
    in_first : (j : ℕ) → HasSlot live j → AtEveryMoment (λ x. SlotIn r q.stage start.history x j) start.history mid.history
    in_first j has =
        slot_unwritten r q.stage start.history j (IsSlot j) refl start.history mid.history (unwritten j)
        (starts.in_stage j (live_is j has) (all_attached j has))

    pub since_first : (j : ℕ) → HasSlot live j → SinceIn r q.stage start.history mid.history j
    since_first j has =
        since_unwritten r q.stage start.history start.history j
        (since_now r q.stage start.history j (starts.in_stage j (live_is j has) (all_attached j has))) mid.history
        (moment_first (unwritten j).more (unwritten j).is) (unwritten j)

    -- AS A GATE WAS READ

    module _ (j : ℕ) (has : HasSlot live j) where
      abbrev h : List Happening
      h = (seen j has).moment

      same_pulls : (slot_state (seen j has).moment j).pulls ≡ (slot_state start.history j).pulls
      same_pulls = (still_attached j (ran_before (alone j) (seen j has).is_one) (seen j has).on).1

      history_then : IsHistory (seen j has).moment
      history_then = history_on {allowed = any_read} is.history (ran_before {allowed = any_read} all_reads (seen j has).is_one)

      some_then : IsSome (slot_state (seen j has).moment j).size
      some_then = (history_tidy history_then).attached j (seen j has).on

      on_disk : ((slot_state (seen j has).moment j).sector gate_sector).since ≡ []
      on_disk =
          gate_settled start.history (seen j has).moment j (ran_before (unwritten j) (seen j has).is_one)
          (ran_weakened {allowed = IsNoAttach j} {more = AttachesNone (λ i. i ≡ j)} (λ i call may at. may at)
          (ran_before (alone j) (seen j has).is_one))
          ((history_tidy is.history).attached j (all_attached j has)) (seen j has).on
          (settled j gate_sector (record { below = (live_is j has).below; why = inl (live_is j has).why }) (all_attached j has))

      -- what is so of its bytes is so of whatever a crash leaves of them
      gate_part : (stage : Stage) → GateHas r stage (content ((slot_state (seen j has).moment j).sector gate_sector))
          → PartIn r stage start.history j DevicePart.Gate (seen j has).moment
      gate_part stage gate =
          IsKept.Here same_pulls some_then
          (inr
          (subst (λ (x : Sector). Leaves (GateHas r stage) (GateHas r stage) x) (sym (nothing_unsynced sector on_disk))
          (Leaves-settled sector.base based based)))
        where
          sector : Sector
          sector = (slot_state (seen j has).moment j).sector gate_sector

          based : GateHas r stage sector.base
          based = subst (GateHas r stage) (ap content (nothing_unsynced sector on_disk)) gate

      -- the gate has what the stage allows
      gate_first : GateHas r q.stage (content ((slot_state (seen j has).moment j).sector gate_sector))
      gate_first = by ((at_moment {P = λ x. SlotIn r q.stage start.history x j} (in_first j has) (seen j has).is_one).each DevicePart.Gate tt)
        where
          by : PartIn r q.stage start.history j DevicePart.Gate (seen j has).moment
              → GateHas r q.stage (content ((slot_state (seen j has).moment j).sector gate_sector))
          by (IsKept.Here at some (inl harmed)) =
              subst (λ (s : Sector). GateHas r q.stage (content s)) (sym harmed) (part_damage r q.stage j DevicePart.Gate)
          by (IsKept.Here at some (inr leaves)) = Leaves-content leaves
          by (IsKept.Lost less) = let same = same_pulls in absurd (omega (arith, less, same))

      -- From then on the slot is in another stage that its gate allows, if its other sectors are.
      since_seen : (stage : Stage) → GateHas r stage (content ((slot_state (seen j has).moment j).sector gate_sector))
          → ((i c : ℕ) (cell : Cell) → BodyHas r q.stage i c cell → BodyHas r stage i c cell)
          → ((t i : ℕ) (cell : Cell) → Concerns r j (DevicePart.Chunk t i) → ChunkHas r q.stage t i j cell → ChunkHas r stage t i j cell)
          → SinceIn r stage start.history mid.history j
      since_seen stage gate body chunk = record {
        from = (seen j has).moment;
        is_one = (seen j has).is_one;
        there = λ pulled. let same = same_pulls in omega (arith, pulled, same);
        each =
            slot_unwritten r stage start.history j (IsSlot j) refl (seen j has).moment mid.history
            (ran_after {allowed = WritesNone (IsSlot j)} (unwritten j) (seen j has).is_one) (record { each = part_then });
      }
        where
          was : SlotIn r q.stage start.history (seen j has).moment j
          was = at_moment {P = λ x. SlotIn r q.stage start.history x j} (in_first j has) (seen j has).is_one

          part_then : (part : DevicePart) → Concerns r j part → PartIn r stage start.history j part (seen j has).moment
          part_then (DevicePart.Superblock place) never = absurd never
          part_then DevicePart.Gate concerned = gate_part stage gate
          part_then (DevicePart.Body i c) concerned =
              IsKept-mapped (λ s leaves. Leaves-mapped (body i c) (body i c) leaves) (was.each (DevicePart.Body i c) concerned)
          part_then (DevicePart.Chunk t i) concerned =
              IsKept-mapped (λ s leaves. Leaves-mapped (λ cell. chunk t i cell concerned) (λ cell. chunk t i cell concerned) leaves)
              (was.each (DevicePart.Chunk t i) concerned)

      -- BY THE CELL THAT WAS READ

      seen_closed : ReadsClosed m.array.geometry (reads.gate j)
          → ReadsClosed m.array.geometry (content ((slot_state (seen j has).moment j).sector gate_sector))
      seen_closed closed =
          elim (seen j has).found [
            | inl same ↦ subst (ReadsClosed m.array.geometry) (sym same) closed
            | inr bad ↦ λ redo opened. false≢true (sym bad.1 ∙ ap is_good opened.good)
          ]

      seen_open : (redo : Redo) → IsOpenWith m.array.geometry (reads.gate j) redo
          → IsOpenWith m.array.geometry (content ((slot_state (seen j has).moment j).sector gate_sector)) redo
      seen_open redo opened =
          elim (seen j has).found [
            | inl same ↦ subst (λ (c : Cell). IsOpenWith m.array.geometry c redo) (sym same) opened
            | inr bad ↦ absurd (good_whole opened.good bad.0)
          ]

    -- NONE IS OPEN

    module _ (closed : (j : ℕ) → HasSlot live j → ReadsClosed m.array.geometry (reads.gate j)) where
      rests_by : (q.stage ≡ AtRest) ⊎ (q.stage ≡ Uncommitted) → (j : ℕ) → HasSlot live j → SinceIn r AtRest start.history mid.history j
      rests_by which j has = since_seen j has AtRest (seen_closed j has (closed j has)) (λ i c cell body. tt) (λ t i cell concerned holds. chunk which t i cell holds)
        where
          chunk : (q.stage ≡ AtRest) ⊎ (q.stage ≡ Uncommitted) → (t i : ℕ) (cell : Cell) → ChunkHas r q.stage t i j cell → ChunkHas r AtRest t i j cell
          chunk (inl rest) t i cell holds = subst (λ (s : Stage). ChunkHas r s t i j cell) rest holds
          chunk (inr started) t i cell holds = subst (λ (s : Stage). ChunkHas r s t i j cell) started holds

      -- within tolerance no cells are being placed then
      not_placing : IsTolerated m.array.geometry before mid.history → q.stage ≡ Placing → ⊥
      not_placing tolerated_last placing = by known placed_last
        where
          later : IsUntouched before kept change m mid.history
          later = reads_untouched before kept change m start.history mid.history is all_reads

          journal : HasJournalSlot m before mid.history
          journal = journal_slot before kept change m mid.history later tolerated_last

          on : HasSlot live journal.slot
          on = (are.are journal.slot).1 journal.live

          end : IsMoment start.history mid.history mid.history
          end = moment_last (unwritten journal.slot).more (unwritten journal.slot).is

          same_last : (slot_state mid.history journal.slot).pulls ≡ (slot_state start.history journal.slot).pulls
          same_last =
              elim (cases_Bool (slot_state mid.history journal.slot).attached) [
                | inl used ↦ (still_attached journal.slot (alone journal.slot) used).1
                | inr off ↦
                    let least = pulls_on {allowed = any_call} journal.slot is.amid.ran in
                    let most = pulls_on {allowed = IsNoAttach journal.slot} journal.slot (alone journal.slot) in
                    elim (cases_lt (slot_state before journal.slot).pulls (slot_state mid.history journal.slot).pulls) [
                      | inl pulled ↦ absurd (journal.online (IsOffline.Unattached off pulled))
                      | inr unpulled ↦ omega (arith, least, most, unpulled)
                    ]
              ]

          known : IsKnownClosed m.array.geometry start.history mid.history journal.slot
          known =
              still_closed {some = IsSlot journal.slot} start.history (seen journal.slot on).moment mid.history journal.slot refl
              (ran_after {allowed = WritesNone (IsSlot journal.slot)} (unwritten journal.slot) (seen journal.slot on).is_one) m.array.geometry
              (IsKept.Here (same_pulls journal.slot on) (some_then journal.slot on)
              (inr
              (record {
                on_disk = on_disk journal.slot on;
                closed =
                    subst (ReadsClosed m.array.geometry)
                    (ap content (nothing_unsynced ((slot_state (seen journal.slot on).moment journal.slot).sector gate_sector) (on_disk journal.slot on)))
                    (seen_closed journal.slot on (closed journal.slot on));
              })))

          placed_last : PartIn r Placing start.history journal.slot DevicePart.Gate mid.history
          placed_last =
              subst (λ (s : Stage). PartIn r s start.history journal.slot DevicePart.Gate mid.history) placing
              ((at_moment {P = λ x. SlotIn r q.stage start.history x journal.slot} (in_first journal.slot on) end).each DevicePart.Gate tt)

          -- a gate that was read closed is so still, and one of this stage is open or lost
          by : IsKnownClosed m.array.geometry start.history mid.history journal.slot → PartIn r Placing start.history journal.slot DevicePart.Gate mid.history → ⊥
          by (IsKept.Lost less) part = let same = same_last in omega (arith, less, same)
          by (IsKept.Here at some shut) (IsKept.Lost less) = let same = same_last in omega (arith, less, same)
          by (IsKept.Here at some (inl harmed)) (IsKept.Here at' some' part) =
              journal.kept (subst (λ (s : Sector). IsLost (content s)) (sym harmed) (IsLost.ByOutside refl))
          by (IsKept.Here at some (inr shut)) (IsKept.Here at' some' (inl harmed)) =
              journal.kept (subst (λ (s : Sector). IsLost (content s)) (sym harmed) (IsLost.ByOutside refl))
          by (IsKept.Here at some (inr shut)) (IsKept.Here at' some' (inr leaves)) =
              elim (Leaves-content leaves) [
                | inr lost ↦ journal.kept lost
                | inl opened ↦
                    shut.closed r.redo
                    (subst (λ (c : Cell). IsOpenWith m.array.geometry c r.redo)
                    (ap content (nothing_unsynced ((slot_state mid.history journal.slot).sector gate_sector) shut.on_disk)) opened)
              ]

      pub at_rest : IsTolerated m.array.geometry before mid.history → (j : ℕ) → HasSlot live j → SinceIn r AtRest start.history mid.history j
      at_rest tolerated_last =
          elim q.begun [
            | inl rest ↦ rests_by (inl rest)
            | inr (inl started) ↦ rests_by (inr started)
            | inr (inr placing) ↦ absurd (not_placing tolerated_last placing)
          ]

    -- ONE IS OPEN

    -- it is of the redo that was cut off
    pub of_redo : (j : ℕ) → HasSlot live j → (redo : Redo) → IsOpenWith m.array.geometry (reads.gate j) redo
        → (redo ≡ q.redo) × ((q.stage ≡ Uncommitted) ⊎ (q.stage ≡ Placing))
    of_redo j on redo opened = by q.begun
      where
        allowed_then : (s : Stage) → q.stage ≡ s → GateHas r s (content ((slot_state (seen j on).moment j).sector gate_sector))
        allowed_then s at = subst (λ (t : Stage). GateHas r t (content ((slot_state (seen j on).moment j).sector gate_sector))) at (gate_first j on)

        by : (q.stage ≡ AtRest) ⊎ ((q.stage ≡ Uncommitted) ⊎ (q.stage ≡ Placing)) → (redo ≡ q.redo) × ((q.stage ≡ Uncommitted) ⊎ (q.stage ≡ Placing))
        by (inl rest) = absurd (allowed_then AtRest rest redo (seen_open j on redo opened))
        by (inr (inl started)) = (allowed_then Uncommitted started redo (seen_open j on redo opened), inl started)
        by (inr (inr placing)) = (
          open_or_lost_alone r q.redoing (content ((slot_state (seen j on).moment j).sector gate_sector)) (allowed_then Placing placing) redo
              (seen_open j on redo opened),
          inr placing,
        )

    module _ (going : (q.stage ≡ Uncommitted) ⊎ (q.stage ≡ Placing)) (j : ℕ) (on : HasSlot live j) where
      -- a slot whose gate was read open with it is ready for its cells
      pub opened_placing : IsOpenWith m.array.geometry (reads.gate j) q.redo → SinceIn r Placing start.history mid.history j
      opened_placing opened =
          since_seen j on Placing (inl (seen_open j on q.redo opened)) (λ i c cell holds. body going i c cell holds)
          (λ t i cell concerned holds. chunk going t i cell concerned holds)
        where
          body : (q.stage ≡ Uncommitted) ⊎ (q.stage ≡ Placing) → (i c : ℕ) (cell : Cell) → BodyHas r q.stage i c cell → BodyHas r Placing i c cell
          body (inl started) i c cell holds = subst (λ (s : Stage). BodyHas r s i c cell) started holds
          body (inr placing) i c cell holds = subst (λ (s : Stage). BodyHas r s i c cell) placing holds

          chunk : (q.stage ≡ Uncommitted) ⊎ (q.stage ≡ Placing) → (t i : ℕ) (cell : Cell) → Concerns r j (DevicePart.Chunk t i)
              → ChunkHas r q.stage t i j cell → ChunkHas r Placing t i j cell
          chunk (inr placing) t i cell concerned holds = subst (λ (s : Stage). ChunkHas r s t i j cell) placing holds
          chunk (inl started) t i held concerned holds =
              let old_there : ChunkHas r Uncommitted t i j held = subst (λ (s : Stage). ChunkHas r s t i j held) started holds in
              elim (q.redoing.same t i j concerned.1 concerned.2 concerned.0) [
                | inl inside ↦ inl inside
                | inr same ↦ inr (subst (λ (w : List ℕ). IsOrDamaged w held) (sym same) old_there)
              ]

      -- and while cells are placed another gate can't be read
      pub other_bad : q.stage ≡ Placing → ¬ IsOpenWith m.array.geometry (reads.gate j) q.redo → IsKnownBad start.history mid.history j
      other_bad placing other =
          still_bad {some = IsSlot j} start.history (seen j on).moment mid.history j refl
          (ran_after {allowed = WritesNone (IsSlot j)} (unwritten j) (seen j on).is_one) (IsKept.Here (same_pulls j on) (some_then j on) (inr bad))
        where
          lost_bad : (c : Cell) → IsLost c → is_good c ≡ false
          lost_bad (Good bytes) lost = absurd (good_kept refl lost)
          lost_bad Damaged lost = refl
          lost_bad Torn lost = refl
          lost_bad TornOverDamage lost = refl

          has : GateHas r Placing (content ((slot_state (seen j on).moment j).sector gate_sector))
          has = subst (λ (t : Stage). GateHas r t (content ((slot_state (seen j on).moment j).sector gate_sector))) placing (gate_first j on)

          bad : is_good (content ((slot_state (seen j on).moment j).sector gate_sector)) ≡ false
          bad =
              elim (seen j on).found [
                | inr unread ↦ unread.1
                | inl same ↦
                    elim has [
                      | inl opened ↦ absurd (other (subst (λ (c : Cell). IsOpenWith m.array.geometry c q.redo) same opened))
                      | inr lost ↦ lost_bad (content ((slot_state (seen j on).moment j).sector gate_sector)) lost
                    ]
              ]

    -- WHERE THE RECOVERY IS after it, in this stage

    pub round_amid : (stage : Stage) → ((j : ℕ) → HasSlot live j → SinceIn r stage start.history mid.history j)
        → IsAmidAny before (recovery_doing before kept change m start is settled live are all_attached tolerated) stage None None (snapshot m mid)
    round_amid stage since =
        amid_on before (recovery_doing before kept change m start is settled live are all_attached tolerated) q.stage (snapshot m start)
        (recovery_amid before kept change m start is settled live are all_attached tolerated) mid
        (epochs before kept change m start.history mid.history is all_reads)
        (ran_weakened {allowed = any_read} {more = AttachesNone every_slot} (λ j c may on. none_attached j c may) all_reads)
        (λ j on_live on. since_first j ((are.are j).1 on_live)) stage (λ j on_live on. since j ((are.are j).1 on_live))
        (inr (λ j on_live. all_attached j ((are.are j).1 on_live)))
