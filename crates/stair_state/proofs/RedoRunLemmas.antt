-- A redo, from phase to phase.
use Rattle.std.proofs.Common.{◌≡◌, ℕ, ◌⊎◌, true, inl, inr, List, sym, subst, ◌∙◌}
use Rattle.std.specs.Prelude.{IsTrue}
use Rattle.std.proofs.lemmas.Bool.{cases_Bool, false≢true}
use Rattle.stair_model.specs.Geometry.{Geometry}
use Rattle.stair_model.specs.Slots.{HasSlot}
use Rattle.stair_rack.specs.Answers.{IsBesideAttach, Ran, any_call}
use Rattle.stair_rack.specs.History.{Happening, slot_state, stopped}
use Rattle.stair_rack.specs.Moments.{AtEveryMoment}
use Rattle.stair_rack.specs.Offline.{IsHeld, WasPulled}
use Rattle.stair_rack.specs.Placed.{IsSyncOf, IsWriteOf, Placed, Writes}
use Rattle.stair_rack.proofs.MomentLemmas.{at_every_from, at_every_join, at_every_mapped, at_last, at_moment, ran_any, ran_join, ran_weakened}
use Rattle.stair_rack.proofs.OfflineLemmas.{pulls_on, stopped_on}
use Rattle.stair_rack.proofs.WritingLemmas.{beside_writes}
use Rattle.stair_rack.proofs.KeepingLemmas.{phase_ran}
use Rattle.stair_state.specs.Redoing.{AreHeld, AttachesNone, Begins, Goes, IsApart, IsIn, IsInSome, IsPhase, IsReached, IsRedoing, IsStopped, Leads, Reaches, Redoing, RunsTo, Stage, WritesNone, next, writes_in}
use Rattle.stair_state.specs.Represents.{IsLargeEnough}
use Rattle.stair_state.proofs.RedoPhaseLemmas.{IsHeldFull, held_full_on, large_some, slot_answered, slot_lost, slot_next, slot_phase, slot_stopped, slot_unwritten}
use Rattle.stair_state.proofs.StageLemmas.{SlotIn, is_in, slot_in}

-- HELD SLOTS

pub held_full : (g : Geometry) (live : ℕ → Type 0) (start h : List Happening) → AreHeld g live start h → (j : ℕ) → live j
    → IsHeldFull g start h j
held_full g live start h are j on = record { held = are.held j on; full = are.full j on; same = are.same j on }

pub are_held_now : (g : Geometry) (live : ℕ → Type 0) (start h : List Happening) → Ran any_call start h
    → ((j : ℕ) → live j → ((slot_state h j).attached ≡ true) × (¬ WasPulled start h j) × IsLargeEnough g (slot_state h j).size)
    → AreHeld g live start h
are_held_now g live start h ran each = record {
  since = ran;
  held = λ j on. IsHeld.InUse (each j on).0 (large_some g (slot_state h j).size (each j on).2) (pulls_on {allowed = any_call} j ran);
  full = λ j on. inr (each j on).2;
  same = λ j on attached. (each j on).1;
}

pub are_held_on : (g : Geometry) (live : ℕ → Type 0) (start old new : List Happening) → AreHeld g live start old
    → Ran (AttachesNone live) old new → AreHeld g live start new
are_held_on g live start old new are ran = record {
  since = ran_join are.since (ran_any {allowed = AttachesNone live} ran);
  held = λ j on. (later j on).held;
  full = λ j on. (later j on).full;
  same = λ j on. (later j on).same;
}
  where
    later : (j : ℕ) → live j → IsHeldFull g start new j
    later j on = held_full_on g live start old new j on are.since ran (held_full g live start old are j on)

-- CALLS THAT ARE APART, AND PHASES

pub apart_attaches : {live : ℕ → Type 0} {old new : List Happening} → Ran (IsApart live) old new → Ran (AttachesNone live) old new
apart_attaches {live} ran = ran_weakened {allowed = IsApart live} {more = AttachesNone live} (λ j call is. is.0) ran

pub apart_writes : {live : ℕ → Type 0} {old new : List Happening} → Ran (IsApart live) old new → Ran (WritesNone live) old new
apart_writes {live} ran = ran_weakened {allowed = IsApart live} {more = WritesNone live} (λ j call is. is.1) ran

pub phase_attaches : {live : ℕ → Type 0} {what : Writes} {to gone : ℕ → Type 0} {old new : List Happening} → Placed what to gone old new
    → Ran (AttachesNone live) old new
phase_attaches {live} {what} {to} phase =
    ran_join
    (ran_weakened {allowed = IsWriteOf what to} {more = AttachesNone live} (λ j call is on. beside_writes what to j call is) phase.writes)
    (ran_weakened {allowed = IsSyncOf to} {more = AttachesNone live} (λ j call is on. subst IsBesideAttach (sym is.is) tt) phase.syncs)

module _ (a : Redoing) (live : ℕ → Type 0) (start : List Happening) where
  -- ALL LIVE SLOTS

  -- what holds of each live slot at every moment
  pub by_slots : (stage : Stage) (old new : List Happening) → Ran any_call old new
      → ((j : ℕ) → live j → AtEveryMoment (λ h. SlotIn a stage start h j) old new) → AtEveryMoment (IsIn a stage live start) old new
  by_slots stage old new ran each =
      at_every_from {P = IsIn a stage live start} ran.more ran.is
      (λ h moment. is_in a stage live start h (λ j on. at_moment {P = λ g. SlotIn a stage start g j} (each j on) moment))

  pub unwritten : (stage : Stage) (old new : List Happening) → IsIn a stage live start old → Ran (WritesNone live) old new
      → AtEveryMoment (IsIn a stage live start) old new
  unwritten stage old new is ran =
      by_slots stage old new (ran_any {allowed = WritesNone live} ran)
      (λ j on. slot_unwritten a stage start j live on old new ran (slot_in a stage live start old is j on))

  pub stays_stopped : (stage : Stage) (old new : List Happening) → IsIn a stage live start old → IsTrue (stopped old) → Ran any_call old new
      → AtEveryMoment (IsIn a stage live start) old new
  stays_stopped stage old new is stops ran =
      by_slots stage old new ran (λ j on. slot_stopped a stage start j old new stops ran (slot_in a stage live start old is j on))

  in_some : (stage : Stage) (old new : List Happening) → AtEveryMoment (IsIn a stage live start) old new
      → AtEveryMoment (IsInSome a live start) old new
  in_some stage old new every =
      at_every_mapped {P = IsIn a stage live start} {Q = IsInSome a live start} (λ h is. record { stage = stage; is_in = is }) every

  -- ONE PHASE

  module _ (stage : Stage) (old new : List Happening) (redoing : IsRedoing a) (held : AreHeld a.geometry live start old)
      (is : IsIn a stage live start old) (phase : IsPhase (writes_in a stage) live start old new) where
    pub phase_stays : AtEveryMoment (IsIn a stage live start) old new
    phase_stays =
        by_slots stage old new (phase_ran phase.placed)
        (λ j on.
        slot_phase a stage start j (HasSlot phase.to) (HasSlot phase.gone) old new redoing phase.placed (slot_in a stage live start old is j on))

    goes_on_next : ¬ IsTrue (stopped new) → IsIn a (next stage) live start new
    goes_on_next goes_on =
        is_in a (next stage) live start new
        (λ j on.
        slot_next a stage start j (HasSlot phase.to) (HasSlot phase.gone) old new redoing phase.placed (slot_in a stage live start old is j on)
        goes_on held.since (over j on) (held_full a.geometry live start old held j on))
      where
        over : (j : ℕ) → live j → HasSlot phase.to j ⊎ WasPulled start old j
        over j on =
            elim phase.over [
              | inl stops ↦ absurd (goes_on (stopped_on {allowed = any_call} (phase_ran phase.placed) stops))
              | inr each ↦ each j on
            ]

    pub phase_held : AreHeld a.geometry live start new
    phase_held = are_held_on a.geometry live start old new held (phase_attaches {live = live} phase.placed)

    pub phase_leads : Reaches a (next stage) live start new
    phase_leads =
        elim (cases_Bool (stopped new)) [
          | inl stops ↦ IsStopped stops (record { stage = stage; is_in = at_last {P = IsIn a stage live start} phase_stays })
          | inr goes_on ↦ IsReached (goes_on_next (λ stops. false≢true (sym goes_on ∙ stops)))
        ]

  -- the next stage is reached where each live slot answered the whole phase, or lost its medium
  pub answered : (stage : Stage) (to gone : ℕ → Type 0) (old new : List Happening) → IsRedoing a → Ran any_call start old
      → IsIn a stage live start old → Placed (writes_in a stage) to gone old new
      → ((j : ℕ) → live j → (to j × ¬ gone j) ⊎ WasPulled start new j) → IsIn a (next stage) live start new
  answered stage to gone old new redoing since is phase each =
      is_in a (next stage) live start new
      (λ j on.
      elim (each j on) [
        | inl fine ↦ slot_answered a stage start j to gone old new redoing phase (slot_in a stage live start old is j on) since fine.0 fine.1
        | inr pulled ↦ slot_lost a (next stage) start j new pulled
      ])

  -- A REDO

  -- from old to new in one of the stages at every moment, and at the end in this one, unless the rack is stopped
  pub record Arrives (stage : Stage) (old new : List Happening) : Type 0 where
    pub through : AtEveryMoment (IsInSome a live start) old new
    pub reaches : Reaches a stage live start new
    pub held : AreHeld a.geometry live start new

  -- a rack that is stopped arrives wherever it was to go
  arrives_stopped : (stage : Stage) (old new : List Happening) → AreHeld a.geometry live start old → Ran (AttachesNone live) old new
      → IsTrue (stopped old) → IsInSome a live start old → Arrives stage old new
  arrives_stopped stage old new held beside stops is =
      let ran = ran_any {allowed = AttachesNone live} beside in
      let every = stays_stopped is.stage old new is.is_in stops ran in
      record {
        through = in_some is.stage old new every;
        reaches =
            IsStopped (stopped_on {allowed = any_call} ran stops)
            (record { stage = is.stage; is_in = at_last {P = IsIn a is.stage live start} every });
        held = are_held_on a.geometry live start old new held beside;
      }

  arrives_apart : (stage : Stage) (old new : List Happening) → AreHeld a.geometry live start old → Ran (IsApart live) old new
      → Reaches a stage live start old → Arrives stage old new
  arrives_apart stage old new held ran (IsReached is) =
      let every = unwritten stage old new is (apart_writes {live = live} ran) in
      record {
        through = in_some stage old new every;
        reaches = IsReached (at_last {P = IsIn a stage live start} every);
        held = are_held_on a.geometry live start old new held (apart_attaches {live = live} ran);
      }
  arrives_apart stage old new held ran (IsStopped stops is) =
      arrives_stopped stage old new held (apart_attaches {live = live} ran) stops is

  arrives_then : (one two : Stage) (old mid new : List Happening) → Arrives one old mid → Arrives two mid new → Arrives two old new
  arrives_then one two old mid new first second = record {
    through = at_every_join {P = IsInSome a live start} first.through second.through;
    reaches = second.reaches;
    held = second.held;
  }

  module _ (redoing : IsRedoing a) where
    -- a stage's phase, and the calls after it
    leads : (stage : Stage) (old new : List Happening) → AreHeld a.geometry live start old → Reaches a stage live start old
        → Leads a stage live start old new → Arrives (next stage) old new
    leads stage old new held (IsReached is) l =
        let end = l.phase_end in
        let phase : Arrives (next stage) old end = record {
          through = in_some stage old end (phase_stays stage old end redoing held is l.phase);
          reaches = phase_leads stage old end redoing held is l.phase;
          held = phase_held stage old end redoing held is l.phase;
        } in
        arrives_then (next stage) (next stage) old end new phase
        (arrives_apart (next stage) end new phase.held l.apart phase.reaches)
    leads stage old new held (IsStopped stops is) l =
        arrives_stopped (next stage) old new held
        (ran_join (phase_attaches {live = live} l.phase.placed) (apart_attaches {live = live} l.apart)) stops is

    -- a redo, as far as it went
    pub whole : (from : Stage) (old : List Happening) → AreHeld a.geometry live start old → IsIn a from live start old
        → (stage : Stage) (new : List Happening) → RunsTo a from live start old stage new → Arrives stage old new
    whole from old held is stage new (Begins now ran) = arrives_apart from old new held ran (IsReached is)
    whole from old held is stage new (Goes before mid now runs l) =
        let arrives = whole from old held is before mid runs in
        arrives_then before (next before) old mid now arrives (leads before mid now arrives.held arrives.reaches l)
