-- Phases of gates in a recovery, slot by slot: over gates that are closed at rest, over bad gates while cells are placed, and
-- over all gates but those that are open.
use Rattle.std.proofs.Common.{◌≡◌, ℕ, ◌<◌, true, false, List, [], ◌∷◌, ◌⊎◌, inl, inr, refl, sym, ap, subst, ◌∙◌, arith, Some}
use Rattle.std.specs.Prelude.{IsTrue, not}
use Rattle.std.proofs.lemmas.Bool.{cases_Bool, cases_lt, false≢true}
use Rattle.stair_model.specs.Device.{Body, Chunk, DevicePart, Gate, Superblock, gate_sector, sector_of}
use Rattle.stair_model.specs.Geometry.{Geometry}
use Rattle.stair_model.specs.Slots.{HasSlot, Slots}
use Rattle.stair_rack.specs.Answers.{Ran, any_call, is_good, is_ready}
use Rattle.stair_rack.specs.History.{Happening, Sync, Write, slot_state, stopped}
use Rattle.stair_rack.specs.declared.rack.Reply.TheVariants as reply
use Rattle.stair_rack.specs.Moments.{AtEveryMoment}
use Rattle.stair_rack.specs.Offline.{ButForOutside, Here, IsHeld, IsKept, IsOfflineUntilAttached, Lost, WasPulled}
use Rattle.stair_rack.specs.Placed.{IsSyncOf, IsWriteOf, Placed, Writes}
use Rattle.stair_rack.specs.Sector.{Cell, Good, Leaves, Sector, newest, settled, synced, torn}
use Rattle.stair_rack.proofs.CrashLemmas.{Leaves-mapped, Leaves-settled, leaves_throughout, nothing_unsynced}
use Rattle.stair_rack.proofs.KeptLemmas.{IsKept-mapped, IsKept-onward, SectorKeeps, keeps_sector}
use Rattle.stair_rack.proofs.MomentLemmas.{at_every_from, at_every_join, at_every_mapped, at_last, ran_before}
use Rattle.stair_rack.proofs.OfflineLemmas.{WasPulled-later, and-true_left, offline_from_unready, pulls_on, unready_when_stopped}
use Rattle.stair_rack.proofs.KeepingLemmas.{PhaseKeeps, phase_leaves, phase_ran}
use Rattle.stair_rack.proofs.StepLemmas.{kept}
use Rattle.stair_member.specs.Current.{ByOutside, IsLost, Worn}
use Rattle.stair_member.proofs.CountingLemmas.{has_or_not}
use Rattle.stair_journal.specs.Gate.{ReadsClosed, closed_gate, open_gate}
use Rattle.stair_journal.specs.Journalling.{gate_writes}
use Rattle.stair_journal.proofs.WritesLemmas.{gate_writes_is}
use Rattle.stair_journal.specs.declared.redo.Redo.{Redo}
use Rattle.stair_journal.proofs.GateLemmas.{closed}
use Rattle.stair_state.specs.Recovering.{IsClosedSector, IsKnownBad, IsKnownClosed, IsKnownOpen, IsOpenSector, IsUnreadable}
use Rattle.stair_state.specs.Redoing.{AreHeld, AtRest, Done, GateHas, InPlace, IsIn, IsReached, IsRedoing, IsStopped, Placing, Reaches, Redoing, Stage, WritesNone, next, writes_in}
use Rattle.stair_state.proofs.RedoPhaseLemmas.{by_parts, part_next, slot_lost, slot_next, slot_phase, slot_stopped}
use Rattle.stair_state.proofs.RedoRunLemmas.{by_slots, held_full}
use Rattle.stair_state.proofs.StageLemmas.{Concerns, PartHas, PartIn, SlotIn, is_in, part_damage, slot_in, torn_bytes}

-- A PHASE OF GATES

module _ (a : Redoing) (stage : Stage) (start : List Happening) (j : ℕ) (gate : List ℕ) (to gone : ℕ → Type 0) (old new : List Happening)
    (phase : Placed (gate_writes gate) to gone old new) (is : SlotIn a stage start old j) where
  -- it writes nothing after the gate
  behind : (k : ℕ) (bytes : List ℕ) → gate_sector < k → gate_writes gate j k ≡ Some bytes → ⊥
  behind k bytes after written = let at = (gate_writes_is gate j k bytes written).at in absurd (omega (arith, after, at))

  keeps_behind : (part : DevicePart) → gate_sector < sector_of a.geometry part
      → PhaseKeeps (gate_writes gate) to j (sector_of a.geometry part) (PartHas a stage j part) (PartHas a stage j part)
  keeps_behind part after = record {
    damage = part_damage a stage j part;
    under_damage = part_damage a stage j part;
    write = λ bytes on written. absurd (behind (sector_of a.geometry part) bytes after written);
    cut = λ bytes under on written holds. absurd (behind (sector_of a.geometry part) bytes after written);
    sync = λ sector on holds. holds;
  }

  stays_behind : (part : DevicePart) → Concerns a j part → gate_sector < sector_of a.geometry part
      → AtEveryMoment (PartIn a stage start j part) old new
  stays_behind part concerns after =
      phase_leaves {Q = PartHas a stage j part} {Base = PartHas a stage j part}
      (slot_state start j).pulls j (sector_of a.geometry part) (keeps_behind part after) phase (is.each part concerns)

  -- so it keeps the stage where it keeps the gate in it
  pub by_gate : AtEveryMoment (PartIn a stage start j Gate) old new → AtEveryMoment (λ h. SlotIn a stage start h j) old new
  by_gate every = let ran = phase_ran phase in by_parts a stage start j ran.more old new ran.is part_stays
    where
      part_stays : (part : DevicePart) → Concerns a j part → AtEveryMoment (PartIn a stage start j part) old new
      part_stays (Superblock place) never = absurd never
      part_stays Gate concerned = every
      part_stays (Body i c) has = stays_behind (Body i c) has (omega arith)
      part_stays (Chunk t i) within = stays_behind (Chunk t i) within (omega arith)

  -- as it does where the slot isn't written, or the stage allows this gate and what a cut write leaves
  pub by_cells : (to j → GateHas a stage (Good gate)) → (to j → (under : Cell) → GateHas a stage (torn under))
      → AtEveryMoment (λ h. SlotIn a stage start h j) old new
  by_cells whole cut =
      by_gate (phase_leaves {Q = GateHas a stage} {Base = GateHas a stage} (slot_state start j).pulls j gate_sector (record {
        damage = part_damage a stage j Gate;
        under_damage = part_damage a stage j Gate;
        write = λ bytes on written. subst (λ (x : List ℕ). GateHas a stage (Good x)) (sym (gate_writes_is gate j gate_sector bytes written).is) (whole on);
        cut = λ bytes under on written holds. cut on under;
        sync = λ sector on holds. holds;
      }) phase (is.each Gate tt))

-- a slot that lost its medium at the beginning of a stretch is in whatever stage throughout
lost_stays : (a : Redoing) (stage : Stage) (start : List Happening) (j : ℕ) (old new : List Happening) → Ran any_call old new
    → WasPulled start old j → AtEveryMoment (λ h. SlotIn a stage start h j) old new
lost_stays a stage start j old new ran pulled =
    at_every_from {P = λ h. SlotIn a stage start h j} ran.more ran.is
    (λ h moment. slot_lost a stage start j h (WasPulled-later {allowed = any_call} start j (ran_before {allowed = any_call} ran moment) pulled))

-- CLOSING AT REST

-- what a cut write leaves reads as closed
torn_closed : (g : Geometry) (under : Cell) → ReadsClosed g (torn under)
torn_closed g under redo opened = torn_bytes under (open_gate g redo) opened.good

pub slot_closing : (a : Redoing) (stage : Stage) (start : List Happening) (j : ℕ) (to gone : ℕ → Type 0) (old new : List Happening)
    → (stage ≡ AtRest) ⊎ (stage ≡ Done) → Placed (gate_writes closed_gate) to gone old new → SlotIn a stage start old j
    → AtEveryMoment (λ h. SlotIn a stage start h j) old new
slot_closing a stage start j to gone old new (inl at) phase is =
    by_cells a stage start j closed_gate to gone old new phase is
    (λ on. subst (λ (x : Stage). GateHas a x (Good closed_gate)) (sym at) (closed a.geometry))
    (λ on under. subst (λ (x : Stage). GateHas a x (torn under)) (sym at) (torn_closed a.geometry under))
slot_closing a stage start j to gone old new (inr at) phase is =
    by_cells a stage start j closed_gate to gone old new phase is
    (λ on. subst (λ (x : Stage). GateHas a x (Good closed_gate)) (sym at) (closed a.geometry))
    (λ on under. subst (λ (x : Stage). GateHas a x (torn under)) (sym at) (torn_closed a.geometry under))

-- OPENING BAD GATES AGAIN

-- a cut write over a lost cell leaves a lost one
torn_lost : (under : Cell) → IsLost under → IsLost (torn under)
torn_lost under (ByOutside is) = subst (λ (x : Cell). IsLost (torn x)) (sym is) (Worn refl)
torn_lost under (Worn is) = subst (λ (x : Cell). IsLost (torn x)) (sym is) (Worn refl)

-- nothing lies over a cell where no bytes can be read
bad_base : (base : Cell) (since : List (List ℕ)) → is_good (newest base since) ≡ false → is_good base ≡ false
bad_base base [] bad = bad
bad_base base (bytes ∷ since) bad = absurd (false≢true (sym bad))

module _ (a : Redoing) (start : List Happening) (j : ℕ) (to gone : ℕ → Type 0) (old new : List Happening) (redoing : IsRedoing a)
    (phase : Placed (gate_writes (open_gate a.geometry a.redo)) to gone old new) (is : SlotIn a Placing start old j) where
  -- open with the redo, or lost
  abbrev Has : Cell → Type 0
  Has = GateHas a Placing

  -- the slot's gate, but for the outside
  abbrev GateKept : (Cell → Type 0) → List Happening → Type 0
  GateKept Under h = ButForOutside start h j gate_sector (Leaves Has Under)

  open_has : Has (Good (open_gate a.geometry a.redo))
  open_has = inl (record { good = refl; formed = redoing.formed })

  -- a gate of which no bytes can be read is lost, and so is what a cut write leaves of it
  bad_lost : (cell : Cell) → is_good cell ≡ false → Has cell → IsLost cell
  bad_lost cell bad (inl opened) = absurd (false≢true (sym bad ∙ ap is_good opened.good))
  bad_lost cell bad (inr lost) = lost

  lost_under : IsKnownBad start old j → GateKept Has old → GateKept IsLost old
  lost_under (Lost less) kept = Lost less
  lost_under (Here same some (inl harmed)) kept = Here same some (inl harmed)
  lost_under (Here same some (inr bad)) (Lost less) = Lost less
  lost_under (Here same some (inr bad)) (Here same' some' (inl harmed)) = Here same some (inl harmed)
  lost_under (Here same some (inr bad)) (Here same' some' (inr leaves)) =
      let s = (slot_state old j).sector gate_sector in
      Here same some (inr (record { each = leaves.each; base = bad_lost s.base (bad_base s.base s.since bad) leaves.base }))

  -- all writes come before all syncs
  gate_in_writes : GateKept IsLost old → AtEveryMoment (GateKept IsLost) old phase.mid
  gate_in_writes before =
      leaves_throughout {allowed = IsWriteOf (gate_writes (open_gate a.geometry a.redo)) to} {Q = Has} {Base = IsLost}
      (slot_state start j).pulls j gate_sector (record {
        damage = inr (ByOutside refl);
        under_damage = ByOutside refl;
        write = λ bytes may. subst (λ (x : List ℕ). Has (Good x)) (sym (this_gate bytes may)) open_has;
        cut = λ bytes under may lost. inr (torn_lost under lost);
        sync = λ cell may holds. let same : Sync reply.Done ≡ Write may.sector may.bytes may.answer = may.is in absurd (cc);
      }) phase.writes before
    where
      this_gate : (bytes : List ℕ) → IsWriteOf (gate_writes (open_gate a.geometry a.redo)) to j (Write gate_sector bytes reply.Done)
          → bytes ≡ open_gate a.geometry a.redo
      this_gate bytes may =
          let same : Write gate_sector bytes reply.Done ≡ Write may.sector may.bytes may.answer = may.is in
          let written : gate_writes (open_gate a.geometry a.redo) j gate_sector ≡ Some bytes = cc in
          (gate_writes_is (open_gate a.geometry a.redo) j gate_sector bytes written).is

  gate_in_syncs : GateKept Has phase.mid → AtEveryMoment (GateKept Has) phase.mid new
  gate_in_syncs before =
      leaves_throughout {allowed = IsSyncOf to} {Q = Has} {Base = Has} (slot_state start j).pulls j gate_sector (record {
        damage = inr (ByOutside refl);
        under_damage = inr (ByOutside refl);
        write = λ bytes may. let same : Write gate_sector bytes reply.Done ≡ Sync may.answer = may.is in absurd (cc);
        cut = λ bytes under may holds. let same : Write gate_sector bytes reply.Done ≡ Sync may.answer = may.is in absurd (cc);
        sync = λ cell may holds. holds;
      }) phase.syncs before

  slot_over_bad : IsKnownBad start old j → AtEveryMoment (λ h. SlotIn a Placing start h j) old new
  slot_over_bad bad =
      let gate = open_gate a.geometry a.redo in
      let weaker : (h : List Happening) → GateKept IsLost h → GateKept Has h =
      λ h. IsKept-mapped (λ s leaves. Leaves-mapped (λ cell has. has) (λ cell lost. inr lost) leaves) in
      let first : AtEveryMoment (GateKept Has) old phase.mid =
      at_every_mapped {P = GateKept IsLost} {Q = GateKept Has} weaker (gate_in_writes (lost_under bad (is.each Gate tt))) in
      by_gate a Placing start j gate to gone old new phase is
      (at_every_join {P = GateKept Has} first (gate_in_syncs (at_last {P = GateKept Has} first)))

  -- a slot that is held and written has a bad gate, where it is in use
  pub slot_reopening : IsHeld start old j → to j ⊎ (¬ to j) → (to j → is_ready old j ≡ true → IsKnownBad start old j)
      → AtEveryMoment (λ h. SlotIn a Placing start h j) old new
  slot_reopening held (inr off) bad =
      by_cells a Placing start j (open_gate a.geometry a.redo) to gone old new phase is (λ on. absurd (off on)) (λ on. absurd (off on))
  slot_reopening held (inl on) bad =
      elim (cases_Bool (is_ready old j)) [
        | inl ready ↦ slot_over_bad (bad on ready)
        | inr unready ↦
            elim (offline_from_unready held unready) [
              | IsOfflineUntilAttached.Unattached not_attached pulled ↦ lost_stays a Placing start j old new (phase_ran phase) pulled
              | IsOfflineUntilAttached.RackStopped stops ↦ slot_stopped a Placing start j old new stops (phase_ran phase) is
            ]
      ]

-- GATES THAT ARE KNOWN

-- what lies on the disk of a slot to which a phase doesn't write stays there
still_there : {what : Writes} {to gone : ℕ → Type 0} {cell : Cell} (start old new : List Happening) (j k : ℕ) → Placed what to gone old new → (¬ to j)
    → ButForOutside start old j k (λ s. s ≡ settled cell) → ButForOutside start new j k (λ s. s ≡ settled cell)
still_there {cell = cell} start old new j k phase off there =
    let b = slot_state old j in
    IsKept-onward {P = λ s. s ≡ settled cell} {Q = λ s. s ≡ b.sector k} {R = λ s. s ≡ settled cell} {mid = b} {new = slot_state new j}
    (pulls_on {allowed = any_call} j (phase_ran phase)) there (λ some. phase.others j k some off)
    (λ s before same. elim before [ inl harmed ↦ inl (same ∙ harmed) | inr at ↦ inr (same ∙ at) ])

-- a slot that a stage's phase leaves out is led on where it has on the disk what is to be written to it
pub slot_left_out : (a : Redoing) (stage : Stage) (start : List Happening) (j : ℕ) (to gone : ℕ → Type 0) (old new : List Happening)
    → IsRedoing a → Placed (writes_in a stage) to gone old new → SlotIn a stage start old j → (¬ to j)
    → ((k : ℕ) (bytes : List ℕ) → writes_in a stage j k ≡ Some bytes → ButForOutside start old j k (λ s. s ≡ settled (Good bytes)))
    → SlotIn a (next stage) start new j
slot_left_out a stage start j to gone old new redoing phase is off has = record {
  each = λ part concerns.
      let k = sector_of a.geometry part in
      part_next a stage start j to gone old new redoing phase is part concerns
      (λ bytes written. still_there start old new j k phase off (has k bytes written));
}

-- the gate is all that the phase of open gates writes
pub known_open : (a : Redoing) (start h : List Happening) (j : ℕ) → IsKnownOpen a.geometry a.redo start h j → (k : ℕ) (bytes : List ℕ)
    → writes_in a Stage.Uncommitted j k ≡ Some bytes → ButForOutside start h j k (λ s. s ≡ settled (Good bytes))
known_open a start h j known k bytes written =
    let w = gate_writes_is (open_gate a.geometry a.redo) j k bytes written in
    subst (λ (x : ℕ). ButForOutside start h j x (λ s. s ≡ settled (Good bytes))) (sym w.at)
    (subst (λ (x : List ℕ). ButForOutside start h j gate_sector (λ s. s ≡ settled (Good x))) (sym w.is) known)

-- a gate that is known closed may be left as a closed one alone
pub closed_leaves : (g : Geometry) (s : Sector) → IsClosedSector g s → Leaves (ReadsClosed g) (ReadsClosed g) s
closed_leaves g s is =
    subst (Leaves (ReadsClosed g) (ReadsClosed g)) (sym (nothing_unsynced s is.on_disk)) (Leaves-settled s.base is.closed is.closed)

-- what a sync keeps of a gate is kept while it isn't written
gate_kept : {some : ℕ → Type 0} {P : Sector → Type 0} (start old new : List Happening) (j : ℕ) → some j → Ran (WritesNone some) old new
    → ((s : Sector) → P s → P (synced s)) → ButForOutside start old j gate_sector P → ButForOutside start new j gate_sector P
gate_kept {some} {P} start old new j on ran syncs before =
    let pulls = (slot_state start j).pulls in
    let keeps : SectorKeeps (WritesNone some) j gate_sector P = record {
      write = λ bytes s apart holds. let below = apart on in absurd (omega (arith, below));
      sync = λ s apart holds. syncs s holds;
    } in
    kept {allowed = WritesNone some} {P = λ h. IsKept pulls gate_sector P (slot_state h j)}
    (keeps_sector {allowed = WritesNone some} {j = j} {k = gate_sector} {P = P} pulls keeps) ran before

module _ {some : ℕ → Type 0} (start old new : List Happening) (j : ℕ) (on : some j) (ran : Ran (WritesNone some) old new) where
  pub still_open : (g : Geometry) (redo : Redo) → IsKnownOpen g redo start old j → IsKnownOpen g redo start new j
  still_open g redo = gate_kept {some = some} {P = IsOpenSector g redo} start old new j on ran (λ s is. ap synced is)

  pub still_closed : (g : Geometry) → IsKnownClosed g start old j → IsKnownClosed g start new j
  still_closed g =
      gate_kept {some = some} {P = IsClosedSector g} start old new j on ran
      (λ s is. record { on_disk = refl; closed = subst (λ (since : List (List ℕ)). ReadsClosed g (newest s.base since)) (sym is.on_disk) is.closed })

  pub still_bad : IsKnownBad start old j → IsKnownBad start new j
  still_bad = gate_kept {some = some} {P = IsUnreadable} start old new j on ran (λ s bad. bad)

-- a slot that is ready holds the medium that it had, so that what is so of a sector is known
pub known_now : (P : Sector → Type 0) (g : Geometry) (live : ℕ → Type 0) (start h : List Happening) (j k : ℕ) → AreHeld g live start h → live j
    → is_ready h j ≡ true → P ((slot_state h j).sector k) → ButForOutside start h j k P
known_now P g live start h j k held on ready holds = by_hold (held.held j on)
  where
    attached : (slot_state h j).attached ≡ true
    attached = and-true_left (slot_state h j).attached (not (stopped h)) ready

    by_hold : IsHeld start h j → ButForOutside start h j k P
    by_hold (IsHeld.InUse is some least) =
        elim (cases_lt (slot_state start j).pulls (slot_state h j).pulls) [
          | inl pulled ↦ absurd (held.same j on attached pulled)
          | inr most ↦ Here (omega (arith, least, most)) some (inr holds)
        ]
    by_hold (IsHeld.Unattached not_attached pulled) = absurd (false≢true (sym not_attached ∙ attached))
    by_hold (IsHeld.RackStopped stops) = absurd (false≢true (sym (unready_when_stopped h j stops) ∙ ready))

-- ALL LIVE SLOTS

module _ (a : Redoing) (live : ℕ → Type 0) (start : List Happening) where
  pub closing : (stage : Stage) (to gone : ℕ → Type 0) (old new : List Happening) → (stage ≡ AtRest) ⊎ (stage ≡ Done)
      → IsIn a stage live start old → Placed (gate_writes closed_gate) to gone old new → AtEveryMoment (IsIn a stage live start) old new
  closing stage to gone old new rests is phase =
      by_slots a live start stage old new (phase_ran phase)
      (λ j on. slot_closing a stage start j to gone old new rests phase (slot_in a stage live start old is j on))

  pub reopening : (to : Slots) (gone : ℕ → Type 0) (old new : List Happening) → IsRedoing a → AreHeld a.geometry live start old
      → IsIn a Placing live start old → Placed (gate_writes (open_gate a.geometry a.redo)) (HasSlot to) gone old new
      → ((j : ℕ) → live j → HasSlot to j → is_ready old j ≡ true → IsKnownBad start old j) → AtEveryMoment (IsIn a Placing live start) old new
  reopening to gone old new redoing held is phase bad =
      by_slots a live start Placing old new (phase_ran phase)
      (λ j on.
      slot_reopening a start j (HasSlot to) gone old new redoing phase (slot_in a Placing live start old is j on) (held.held j on)
      (has_or_not to j) (bad j on))

  -- a stage's phase leads on where the live slots that it leaves out have its bytes on the disk
  pub partly : (stage : Stage) (to : Slots) (gone : ℕ → Type 0) (old new : List Happening) → IsRedoing a → AreHeld a.geometry live start old
      → IsIn a stage live start old → Placed (writes_in a stage) (HasSlot to) gone old new
      → ((j : ℕ) → live j → HasSlot to j ⊎ ((k : ℕ) (bytes : List ℕ) → writes_in a stage j k ≡ Some bytes
      → ButForOutside start old j k (λ s. s ≡ settled (Good bytes))))
      → AtEveryMoment (IsIn a stage live start) old new × Reaches a (next stage) live start new
  partly stage to gone old new redoing held is phase each = (
    every,
    elim (cases_Bool (stopped new)) [
      | inl stops ↦ IsStopped stops (record { stage = stage; is_in = at_last {P = IsIn a stage live start} every })
      | inr goes_on ↦ IsReached (is_in a (next stage) live start new (λ j on. by_slot j on (λ stops. false≢true (sym goes_on ∙ stops)) (has_or_not to j)))
    ],
  )
    where
      here : (j : ℕ) → live j → SlotIn a stage start old j
      here j on = slot_in a stage live start old is j on

      every : AtEveryMoment (IsIn a stage live start) old new
      every =
          by_slots a live start stage old new (phase_ran phase)
          (λ j on. slot_phase a stage start j (HasSlot to) gone old new redoing phase (here j on))

      by_slot : (j : ℕ) → live j → ¬ IsTrue (stopped new) → HasSlot to j ⊎ (¬ HasSlot to j) → SlotIn a (next stage) start new j
      by_slot j on goes_on (inl among) =
          slot_next a stage start j (HasSlot to) gone old new redoing phase (here j on) goes_on held.since (inl among)
          (held_full a.geometry live start old held j on)
      by_slot j on goes_on (inr off) =
          elim (each j on) [
            | inl among ↦ absurd (off among)
            | inr has ↦ slot_left_out a stage start j (HasSlot to) gone old new redoing phase (here j on) off has
          ]

  -- where every live gate is known closed, the redo wasn't committed, or is done
  pub unopened : (h : List Happening) → IsIn a Stage.Uncommitted live start h
      → ((j : ℕ) → live j → IsKnownClosed a.geometry start h j) → IsIn a AtRest live start h
  unopened h is shut = record {
    gates = λ j on. IsKept-mapped (closed_leaves a.geometry) (shut j on);
    bodies = λ j i c on has. IsKept-mapped (λ s leaves. Leaves-mapped (λ cell body. tt) (λ cell body. tt) leaves) (is.bodies j i c on has);
    chunks = is.chunks;
  }

  pub all_closed : (h : List Happening) → IsIn a InPlace live start h
      → ((j : ℕ) → live j → IsKnownClosed a.geometry start h j) → IsIn a Done live start h
  all_closed h is shut = record {
    gates = λ j on. IsKept-mapped (closed_leaves a.geometry) (shut j on);
    bodies = λ j i c on has. IsKept-mapped (λ s leaves. Leaves-mapped (λ cell body. tt) (λ cell body. tt) leaves) (is.bodies j i c on has);
    chunks = is.chunks;
  }
