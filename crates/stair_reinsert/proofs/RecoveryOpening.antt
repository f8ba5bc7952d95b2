-- Gates are written in a recovery of an array whose media come back: closed at rest, or opened where the redo that was found is done again.
use Rattle.std.proofs.Common.{IsTrue, List, None, Option, Some, inl, inr, refl, subst, sym, ◌<◌, ◌≡◌, ℕ, arith}
use Rattle.stair_model.specs.Geometry.{Geometry}
use Rattle.stair_model.specs.Slots.{HasSlot, Slots}
use Rattle.stair_rack.specs.Answers.{IsNoAttach, Ran, any_call}
use Rattle.stair_rack.specs.History.{Happening}
use Rattle.stair_rack.specs.Moments.{AtEveryMoment, IsMoment}
use Rattle.stair_rack.specs.Offline.{IsHeld}
use Rattle.stair_rack.specs.Placed.{IsSlot, IsSyncOf, IsWriteOf, Placed}
use Rattle.stair_rack.specs.Stretch.{every_slot}
use Rattle.stair_rack.proofs.MomentLemmas.{at_every_from, at_every_join, at_moment, moment_between, moment_last, moment_sooner, ran_before, ran_join, ran_weakened}
use Rattle.stair_rack.proofs.OfflineLemmas.{held_on}
use Rattle.stair_rack.proofs.TidyLemmas.{history_on, history_tidy, left_past_end}
use Rattle.stair_member.specs.declared.fault.FenceFault.{FenceFault}
use Rattle.stair_member.proofs.CountingLemmas.{has_or_not}
use Rattle.stair_journal.specs.Gate.{closed_gate, open_gate}
use Rattle.stair_journal.specs.Journalling.{gate_writes}
use Rattle.stair_journal.specs.declared.redo.Redo.{Redo}
use Rattle.stair_state.specs.Holding.{IsConsistentUnderReassembly}
use Rattle.stair_state.specs.Redoing.{AtRest, AttachesNone, Placing, Redoing, Stage, Uncommitted, WritesNone}
use Rattle.stair_state.specs.State.{Change, Content}
use Rattle.stair_state.proofs.RecoveryLemmas.{slot_closing, slot_reopening}
use Rattle.stair_state.proofs.RedoPhaseLemmas.{slot_phase}
use Rattle.stair_state.proofs.RedoRunLemmas.{phase_attaches}
use Rattle.stair_state.proofs.StageLemmas.{SlotIn}
use Rattle.stair_invariant.specs.Effects.{AreLive, AreUnopened, DoesStage, FencesGone, Snapshot, snapshot}
use Rattle.stair_invariant.specs.InSession.{IsBesideEpochs}
use Rattle.stair_invariant.specs.Returning.{AnyReturns, current_media_of}
use Rattle.stair_invariant.specs.Session.{IsLiveIn}
use Rattle.stair_invariant.proofs.AmidRedoLemmas.{leaves_write, live_still}
use Rattle.stair_invariant.proofs.HonestLemmas.{mid_honest}
use Rattle.stair_invariant.proofs.RedoingLemmas.{out_ran}
use Rattle.stair_invariant.proofs.ReplayLemmas.{gates_beside}
use Rattle.stair_invariant.proofs.Serving.{StaysWithinToleranceTo}
use Rattle.stair_reinsert.proofs.RecoveryFence.{unseated, image_stands}
use Rattle.stair_reinsert.proofs.RecoveryFound.{IsToldAny}
use Rattle.stair_reinsert.proofs.RecoveryOut.{amid_out, amid_out_ended, amid_out_left}
use Rattle.stair_reinsert.proofs.RedoPhase.{IsAmidAny, amid_consistent, amid_on}
use Rattle.stair_reinsert.proofs.RedoStart.{in_redo, redo_by}
use Rattle.stair_reinsert.proofs.StageSince.{SinceIn, since_next, since_on, since_unwritten, slot_last}
use Rattle.stair_reinsert.proofs.RecoveryFinding.{StandsUnseated}

-- A PHASE OF GATES of live slots, in which the redo stays in its stage, and slots that were gone to it are left out

module _ (before : List Happening) (kept : Content) (change : Option Change) (told : Option Redo) (opened : Slots) (x : Snapshot)
    (is : IsToldAny before kept change told opened x) (gate : List ℕ) (to : Slots) (refusal : Option FenceFault) (y : Snapshot)
    (does : DoesStage (gate_writes gate) to refusal x y) (honest : IsTrue y.told.honest) (live : (j : ℕ) → HasSlot to j → IsLiveIn x.member j)
    (each : Placed (gate_writes gate) (HasSlot to) (HasSlot does.gone) x.told.history does.mid.history → (j : ℕ) → IsLiveIn x.member j
    → AtEveryMoment (λ h. SlotIn (redo_by is.m is.first is.last is.redo) is.stage is.start h j) x.told.history does.mid.history) where
  abbrev pub r : Redoing
  r = redo_by is.m is.first is.last is.redo

  abbrev pub g : Geometry
  g = is.m.array.geometry

  honest_mid : IsTrue does.mid.honest
  honest_mid = mid_honest (gate_writes gate) to refusal x y does honest

  pub gates_placed : Placed (gate_writes gate) (HasSlot to) (HasSlot does.gone) x.told.history does.mid.history
  gates_placed = does.phase.placed honest_mid

  beside : Ran (IsBesideEpochs x.member) x.told.history does.mid.history
  beside = gates_beside x.member gate to (HasSlot does.gone) x.told.history does.mid.history live gates_placed

  free : Ran (AttachesNone every_slot) x.told.history does.mid.history
  free = phase_attaches {live = every_slot} gates_placed

  pub to_mid : IsMoment is.start x.told.history does.mid.history
  to_mid = moment_between {a = AttachesNone every_slot} {b = AttachesNone every_slot} is.amid.amid.ran free

  pub end : IsMoment x.told.history does.mid.history does.mid.history
  end = moment_last free.more free.is

  pub unattached : (j : ℕ) → Ran (IsNoAttach j) is.start does.mid.history
  unattached j =
      ran_weakened {allowed = AttachesNone every_slot} {more = IsNoAttach j} (λ i call may same. may tt)
      (ran_join {allowed = AttachesNone every_slot} is.amid.amid.ran free)

  pub since_at : (c : List Happening) → IsMoment x.told.history c does.mid.history → (j : ℕ) → IsLiveIn x.member j
      → SinceIn (redo_by is.m is.first is.last is.redo) is.stage is.start c j
  since_at c at j alive =
      since_on (redo_by is.m is.first is.last is.redo) is.stage is.start x.told.history j (is.amid.since j alive (is.used j alive)) c
      (moment_between {a = AttachesNone every_slot} {b = AttachesNone every_slot} is.amid.amid.ran (ran_before {allowed = AttachesNone every_slot} free at))
      (at_every_from {P = λ h. SlotIn (redo_by is.m is.first is.last is.redo) is.stage is.start h j} at.before at.from
      (λ h within.
      at_moment {P = λ h. SlotIn (redo_by is.m is.first is.last is.redo) is.stage is.start h j} (each gates_placed j alive) (moment_sooner within at)))

  -- at its end
  pub gates_mid : IsAmidAny before is.of is.stage None None
      (snapshot x.member does.mid)
  gates_mid =
      amid_on before is.of is.stage x is.amid does.mid beside
      free (λ j alive on. since_at does.mid.history end j alive) is.stage (λ j alive on. since_at does.mid.history end j alive) (inr is.used)

  pub gone_below : (j : ℕ) → HasSlot does.gone j → j < x.member.array.geometry.n
  gone_below j has = (live j (does.phase.among j has)).below

  -- at each moment whatever a crash leaves represents the state
  pub gates_moments : AtEveryMoment (StandsUnseated before kept change is.m.array.geometry) x.told.history y.told.history
  gates_moments =
      at_every_join {P = StandsUnseated before kept change is.m.array.geometry}
      (at_every_from {P = StandsUnseated before kept change is.m.array.geometry} free.more free.is
      (λ c at calm image left.
      image_stands (in_redo is.m kept change) is.both (current_media_of x.member) x.member.array.epoch image refl
      (left_past_end c
      (history_tidy (history_on {allowed = IsBesideEpochs x.member} is.amid.history (ran_before {allowed = IsBesideEpochs x.member} beside at))) image left)
      (amid_consistent before is.of is.stage None None x
      is.amid c (ran_before {allowed = IsBesideEpochs x.member} beside at) (ran_before {allowed = AttachesNone every_slot} free at)
      (λ j alive on. since_at c at j alive) image left)))
      (at_every_from {P = StandsUnseated before kept change is.m.array.geometry} out.more out.is
      (λ c at calm image left.
      amid_out_left before is.of is.stage (snapshot x.member does.mid) gates_mid does.gone refusal y does.leaves honest gone_below c at calm image left))
    where
      out : Ran any_call does.mid.history y.told.history
      out = out_ran does.gone refusal (snapshot x.member does.mid) y does.leaves honest

  -- and so does the rack in the end
  pub gates_ended : StaysWithinToleranceTo AnyReturns is.m.array.geometry before y.told.history
      → IsConsistentUnderReassembly (unseated is.m.array.geometry kept change) y.told.history
  gates_ended calm =
      amid_out_ended before is.of is.stage (snapshot x.member does.mid) gates_mid does.gone refusal y does.leaves honest gone_below calm

-- AT REST they are closed

module _ (before : List Happening) (kept : Content) (change : Option Change) (opened : Slots) (x : Snapshot)
    (is : IsToldAny before kept change None opened x) (live : Slots) (are : AreLive x.member live) (refusal : Option FenceFault) (y : Snapshot)
    (does : DoesStage (gate_writes closed_gate) live refusal x y) (honest : IsTrue y.told.honest) where
  pub closed_each : Placed (gate_writes closed_gate) (HasSlot live) (HasSlot does.gone) x.told.history does.mid.history → (j : ℕ) → IsLiveIn x.member j
      → AtEveryMoment (λ h. SlotIn (redo_by is.m is.first is.last is.redo) is.stage is.start h j) x.told.history does.mid.history
  closed_each phase j alive =
      slot_closing (redo_by is.m is.first is.last is.redo) is.stage is.start j (HasSlot live) (HasSlot does.gone) x.told.history does.mid.history
      (inl (is.none refl)) phase
      (slot_last (redo_by is.m is.first is.last is.redo) is.stage is.start x.told.history j (is.amid.since j alive (is.used j alive)))

  pub live_is : (j : ℕ) → HasSlot live j → IsLiveIn x.member j
  live_is j has = (are.are j).0 has

  pub closing_moments : AtEveryMoment (StandsUnseated before kept change is.m.array.geometry) x.told.history y.told.history
  closing_moments = gates_moments before kept change None opened x is closed_gate live refusal y does honest live_is closed_each

  pub closing_ended : StaysWithinToleranceTo AnyReturns is.m.array.geometry before y.told.history
      → IsConsistentUnderReassembly (unseated is.m.array.geometry kept change) y.told.history
  closing_ended = gates_ended before kept change None opened x is closed_gate live refusal y does honest live_is closed_each

  -- and where that isn't refused it is at rest still
  module _ (fine : refusal ≡ None) (calm : StaysWithinToleranceTo AnyReturns is.m.array.geometry before y.told.history) where
    leaves : FencesGone does.gone None (snapshot x.member does.mid) y
    leaves = subst (λ (o : Option FenceFault). FencesGone does.gone o (snapshot x.member does.mid) y) fine does.leaves

    pub closed_rests : IsAmidAny before is.of AtRest None None y
    closed_rests =
        subst
        (λ (s : Stage). IsAmidAny before is.of s None None y) (is.none refl) (amid_out before is.of is.stage (snapshot x.member does.mid) mid
        does.gone y leaves honest below calm is.stage (λ j alive on. since_then j alive) (inr (λ j alive. is.used j (out j alive).0)))
      where
        mid : IsAmidAny before is.of is.stage None None (snapshot x.member does.mid)
        mid = gates_mid before kept change None opened x is closed_gate live refusal y does honest live_is closed_each

        below : (j : ℕ) → HasSlot does.gone j → j < x.member.array.geometry.n
        below = gone_below before kept change None opened x is closed_gate live refusal y does honest live_is closed_each

        out : (j : ℕ) → IsLiveIn y.member j → IsLiveIn x.member j × ¬ HasSlot does.gone j
        out j alive = live_still does.gone x.member does.mid y j leaves alive

        since_then : (j : ℕ) → IsLiveIn y.member j → SinceIn (redo_by is.m is.first is.last is.redo) is.stage is.start y.told.history j
        since_then j alive =
            since_unwritten (redo_by is.m is.first is.last is.redo) is.stage is.start does.mid.history j (mid.since j (out j alive).0 (is.used j (out j alive).0))
            y.told.history
            (moment_between {a = AttachesNone every_slot} {b = any_call} mid.amid.ran (out_ran does.gone None (snapshot x.member does.mid) y leaves honest))
            (leaves_write (IsSlot j) does.gone x.member does.mid y leaves honest)

-- WHERE A REDO WAS FOUND the gates that aren't open are opened with it

module _ (before : List Happening) (kept : Content) (change : Option Change) (one : Redo) (opened : Slots) (x : Snapshot)
    (is : IsToldAny before kept change (Some one) opened x) (to : Slots) (are : AreUnopened x.member opened to) (refusal : Option FenceFault) (y : Snapshot)
    (does : DoesStage (gate_writes (open_gate is.m.array.geometry is.redo)) to refusal x y) (honest : IsTrue y.told.honest) where
  abbrev gates : List ℕ
  gates = open_gate is.m.array.geometry is.redo

  pub live_to : (j : ℕ) → HasSlot to j → IsLiveIn x.member j
  live_to j has = ((are.are j).0 has).0

  now : (j : ℕ) → IsLiveIn x.member j → SlotIn (redo_by is.m is.first is.last is.redo) is.stage is.start x.told.history j
  now j alive = slot_last (redo_by is.m is.first is.last is.redo) is.stage is.start x.told.history j (is.amid.since j alive (is.used j alive))

  held : (j : ℕ) → IsLiveIn x.member j → IsHeld is.start x.told.history j
  held j alive =
      held_on {allowed = AttachesNone every_slot} j is.amid.amid.ran
      (IsHeld.InUse (is.used j alive) ((history_tidy is.starts.history).attached j (is.used j alive)) (omega arith))

  pub open_each : Placed (gate_writes (open_gate is.m.array.geometry is.redo)) (HasSlot to) (HasSlot does.gone) x.told.history does.mid.history → (j : ℕ)
      → IsLiveIn x.member j
      → AtEveryMoment (λ h. SlotIn (redo_by is.m is.first is.last is.redo) is.stage is.start h j) x.told.history does.mid.history
  open_each phase j alive =
      elim (is.some one refl).1 [
        | inl started ↦
            subst (λ (s : Stage). AtEveryMoment (λ h. SlotIn (redo_by is.m is.first is.last is.redo) s is.start h j) x.told.history does.mid.history)
            (sym started)
            (slot_phase (redo_by is.m is.first is.last is.redo) Uncommitted is.start j (HasSlot to) (HasSlot does.gone) x.told.history does.mid.history
            is.redoing phase (subst (λ (s : Stage). SlotIn (redo_by is.m is.first is.last is.redo) s is.start x.told.history j) started (now j alive)))
        | inr placing ↦
            subst (λ (s : Stage). AtEveryMoment (λ h. SlotIn (redo_by is.m is.first is.last is.redo) s is.start h j) x.told.history does.mid.history)
            (sym placing)
            (slot_reopening (redo_by is.m is.first is.last is.redo) is.start j (HasSlot to) (HasSlot does.gone) x.told.history does.mid.history is.redoing
            phase (subst (λ (s : Stage). SlotIn (redo_by is.m is.first is.last is.redo) s is.start x.told.history j) placing (now j alive)) (held j alive)
            (has_or_not to j) (λ has ready. is.others_bad placing j alive ((are.are j).0 has).1))
      ]

  pub opening_moments : AtEveryMoment (StandsUnseated before kept change is.m.array.geometry) x.told.history y.told.history
  opening_moments =
      gates_moments before kept change (Some one) opened x is (open_gate is.m.array.geometry is.redo) to refusal y does honest live_to open_each

  pub opening_ended : StaysWithinToleranceTo AnyReturns is.m.array.geometry before y.told.history
      → IsConsistentUnderReassembly (unseated is.m.array.geometry kept change) y.told.history
  opening_ended =
      gates_ended before kept change (Some one) opened x is (open_gate is.m.array.geometry is.redo) to refusal y does honest live_to open_each

  -- and where that isn't refused its cells can be placed
  module _ (fine : refusal ≡ None) (calm : StaysWithinToleranceTo AnyReturns is.m.array.geometry before y.told.history) where
    leaves_then : FencesGone does.gone None (snapshot x.member does.mid) y
    leaves_then = subst (λ (o : Option FenceFault). FencesGone does.gone o (snapshot x.member does.mid) y) fine does.leaves

    mid_then : IsAmidAny before is.of is.stage None None
        (snapshot x.member does.mid)
    mid_then = gates_mid before kept change (Some one) opened x is (open_gate is.m.array.geometry is.redo) to refusal y does honest live_to open_each

    phase_then : Placed (gate_writes (open_gate is.m.array.geometry is.redo)) (HasSlot to) (HasSlot does.gone) x.told.history does.mid.history
    phase_then = gates_placed before kept change (Some one) opened x is (open_gate is.m.array.geometry is.redo) to refusal y does honest live_to open_each

    to_mid_then : IsMoment is.start x.told.history does.mid.history
    to_mid_then = to_mid before kept change (Some one) opened x is (open_gate is.m.array.geometry is.redo) to refusal y does honest live_to open_each

    out_then : (j : ℕ) → IsLiveIn y.member j → IsLiveIn x.member j × ¬ HasSlot does.gone j
    out_then j alive = live_still does.gone x.member does.mid y j leaves_then alive

    -- a slot that isn't one of the phase isn't written
    skipped : (j : ℕ) → ¬ HasSlot to j → Ran (WritesNone (IsSlot j)) x.told.history does.mid.history
    skipped j none =
        ran_join {allowed = WritesNone (IsSlot j)}
        (ran_weakened {allowed = IsWriteOf (gate_writes (open_gate is.m.array.geometry is.redo)) (HasSlot to)} {more = WritesNone (IsSlot j)}
        (λ i call may. subst (WritesNone (IsSlot j) i) (sym may.is) (λ same. absurd (none (subst (HasSlot to) same may.on)))) phase_then.writes)
        (ran_weakened {allowed = IsSyncOf (HasSlot to)} {more = WritesNone (IsSlot j)}
        (λ i call may. subst (WritesNone (IsSlot j) i) (sym may.is) tt) phase_then.syncs)

    placing_mid : (j : ℕ) → IsLiveIn x.member j → ¬ HasSlot does.gone j → SinceIn (redo_by is.m is.first is.last is.redo) Placing is.start does.mid.history j
    placing_mid j alive stays =
        elim (has_or_not to j) [
          | inr out ↦
              elim (has_or_not opened j) [
                | inr closed ↦ absurd (out ((are.are j).1 (alive, closed)))
                | inl has ↦
                    since_unwritten (redo_by is.m is.first is.last is.redo) Placing is.start x.told.history j (is.ready one refl j alive has)
                    does.mid.history to_mid_then (skipped j out)
              ]
          | inl on ↦
              elim (is.some one refl).1 [
                | inr placing ↦
                    subst (λ (s : Stage). SinceIn (redo_by is.m is.first is.last is.redo) s is.start does.mid.history j) placing
                    (mid_then.since j alive (is.used j alive))
                | inl started ↦
                    since_next (redo_by is.m is.first is.last is.redo) is.redoing Uncommitted is.start x.told.history does.mid.history (HasSlot to)
                    (HasSlot does.gone) phase_then to_mid_then j
                    (subst (λ (s : Stage). SinceIn (redo_by is.m is.first is.last is.redo) s is.start x.told.history j) started
                    (is.amid.since j alive (is.used j alive)))
                    (unattached before kept change (Some one) opened x is (open_gate is.m.array.geometry is.redo) to refusal y does honest live_to open_each j)
                    on stays
                    (does.phase.synced (mid_honest (gate_writes (open_gate is.m.array.geometry is.redo)) to refusal x y does honest) j on stays)
              ]
        ]

    pub opened_placing : IsAmidAny before is.of Placing None None y
    opened_placing =
        amid_out before is.of is.stage (snapshot x.member does.mid) mid_then does.gone y leaves_then honest
        (λ j has. (live_to j (does.phase.among j has)).below) calm Placing
        (λ j alive on.
        since_unwritten (redo_by is.m is.first is.last is.redo) Placing is.start does.mid.history j (placing_mid j (out_then j alive).0 (out_then j alive).1)
        y.told.history
        (moment_between {a = AttachesNone every_slot} {b = any_call} mid_then.amid.ran
        (out_ran does.gone None (snapshot x.member does.mid) y leaves_then honest))
        (leaves_write (IsSlot j) does.gone x.member does.mid y leaves_then honest))
        (inr (λ j alive. is.used j (out_then j alive).0))
