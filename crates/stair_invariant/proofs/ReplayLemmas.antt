-- A recovery closes the gates at rest, or does the redo again that a crash cut off.
use Rattle.std.proofs.Common.{◌≡◌, ℕ, ◌≤◌, List, inl, inr, refl, sym, ◌∙◌, subst, arith, None, Option, Some}
use Rattle.std.specs.Prelude.{◌⊎◌, IsTrue, Ok, Err}
use Rattle.stair_model.specs.CellSet.{HasCell}
use Rattle.stair_model.specs.Device.{gate_sector}
use Rattle.stair_model.specs.Geometry.{Geometry}
use Rattle.stair_model.specs.Slots.{HasSlot, Slots}
use Rattle.stair_model.specs.Stripe.{Stripe, cell}
use Rattle.stair_rack.specs.Answers.{IsBesideAttach, Ran, any_call}
use Rattle.stair_rack.specs.History.{Happening, SlotCall, Sync, Write, slot_state, stopped}
use Rattle.stair_rack.specs.Moments.{AtEveryMoment, IsMoment}
use Rattle.stair_rack.specs.Offline.{IsHeld}
use Rattle.stair_rack.specs.Placed.{IsSyncOf, IsWriteOf, Placed}
use Rattle.stair_rack.specs.Stretch.{NothingReturned}
use Rattle.stair_rack.proofs.KeepingLemmas.{phase_ran}
use Rattle.stair_rack.proofs.MomentLemmas.{at_last, moment_between, moment_last, ran_any, ran_before, ran_join, ran_weakened}
use Rattle.stair_rack.proofs.OfflineLemmas.{pulls_on, stopped_on}
use Rattle.stair_rack.proofs.StretchLemmas.{each_after, each_before}
use Rattle.stair_member.specs.Membership.{IsHere, Membership}
use Rattle.stair_member.specs.declared.fault.FenceFault.{FenceFault}
use Rattle.stair_member.specs.declared.why.Why.TheVariants as why
use Rattle.stair_member.proofs.CountingLemmas.{has_or_not}
use Rattle.stair_journal.specs.Gate.{closed_gate, open_gate}
use Rattle.stair_journal.specs.Journalling.{gate_writes}
use Rattle.stair_journal.proofs.WritesLemmas.{gate_writes_is}
use Rattle.stair_journal.specs.declared.redo.Redo.{Redo}
use Rattle.stair_state.specs.Blocks.{Codewords}
use Rattle.stair_state.specs.Redoing.{AreHeld, AtRest, Done, IsIn, IsReached, IsRedoing, IsStopped, Placing, Reaches, Redoing, Stage, Uncommitted}
use Rattle.stair_state.proofs.RecoveryLemmas.{closing, known_open, partly, reopening}
use Rattle.stair_state.proofs.RedoPhaseLemmas.{large_some}
use Rattle.stair_state.proofs.StageLemmas.{slot_in}
use Rattle.stair_invariant.specs.Effects.{AreLive, AreUnopened, DoesStage, Fenced, FencesGone, NoneWas, Snapshot, Redoes, Replays, snapshot}
use Rattle.stair_invariant.specs.InSession.{IsBehindPlaces, IsBesideEpochs, IsInSession}
use Rattle.stair_invariant.specs.Opening.{IsRecovering, IsToldBy}
use Rattle.stair_invariant.specs.Session.{IsLiveIn}
use Rattle.stair_invariant.specs.UnderWay.{IsInUse, IsUnderWay}
use Rattle.stair_invariant.proofs.HonestLemmas.{honest_first, mid_honest}
use Rattle.stair_invariant.proofs.RedoingLemmas.{out_ran, redo_ran, way_done, way_opens}
use Rattle.stair_invariant.proofs.UnderWayLemmas.{beside_used, way_beside, way_left}

-- AT REST

-- slots at rest are those on which a redo is done that leads to the stripes that they have
abbrev resting : Redoing → Redoing
resting a = record { geometry = a.geometry; redo = a.redo; old = a.old; new = a.old }

pub rest_opens : (a : Redoing) (start : List Happening) (m : Membership) (h : List Happening) → IsUnderWay a AtRest start m h → IsInSession m a.old h
rest_opens a start m h way =
    way_opens (resting a) start m h (record {
      geometry = way.geometry;
      ran = way.ran;
      epoch = way.epoch;
      cells = record { gates = way.cells.gates; bodies = way.cells.bodies; chunks = way.cells.chunks };
      same = way.same;
      large = way.large;
    })

-- A PHASE OF GATES of live slots

in_use_held : (a : Redoing) (stage : Stage) (start : List Happening) (m : Membership) (h : List Happening) → IsUnderWay a stage start m h
    → AreHeld a.geometry (IsInUse m h) start h
in_use_held a stage start m h way = record {
  since = way.ran;
  held = λ j used.
      IsHeld.InUse used.1 (large_some a.geometry (slot_state h j).size (way.large j used)) (pulls_on {allowed = any_call} j way.ran);
  full = λ j used. inr (way.large j used);
  same = λ j used on. way.same j used;
}

module _ (m : Membership) (gate : List ℕ) (to : Slots) (gone : ℕ → Type 0) (old mid : List Happening)
    (live : (j : ℕ) → HasSlot to j → IsLiveIn m j) (placed : Placed (gate_writes gate) (HasSlot to) gone old mid) where
  write_beside : (j : ℕ) (c : SlotCall) → IsWriteOf (gate_writes gate) (HasSlot to) j c → IsBesideEpochs m j c
  write_beside j c is = record {
    behind =
        let at = (gate_writes_is gate j is.sector is.bytes is.is_one).at in
        subst (IsBehindPlaces j) (sym is.is) (let from : gate_sector ≤ is.sector = omega (arith, at) in omega (arith, from));
    attaches = λ here. subst IsBesideAttach (sym is.is) tt;
    gate = λ below rebuilt bytes answer same. let never : why.Rebuilding ≡ why.Here = sym rebuilt ∙ (live j is.on).why in absurd (cc);
  }

  sync_beside : (j : ℕ) (c : SlotCall) → IsSyncOf (HasSlot to) j c → IsBesideEpochs m j c
  sync_beside j c is = record {
    behind = subst (IsBehindPlaces j) (sym is.is) tt;
    attaches = λ here. subst IsBesideAttach (sym is.is) tt;
    gate = λ below rebuilt bytes answer same. let never : Sync is.answer ≡ Write gate_sector bytes answer = sym is.is ∙ same in absurd (cc);
  }

  -- is beside the epochs
  pub gates_beside : Ran (IsBesideEpochs m) old mid
  gates_beside =
      ran_join {allowed = IsBesideEpochs m}
      (ran_weakened {allowed = IsWriteOf (gate_writes gate) (HasSlot to)} {more = IsBesideEpochs m} write_beside placed.writes)
      (ran_weakened {allowed = IsSyncOf (HasSlot to)} {more = IsBesideEpochs m} sync_beside placed.syncs)

module _ (a : Redoing) (stage : Stage) (start : List Happening) (m : Membership) (gate : List ℕ) (to : Slots) (gone : ℕ → Type 0)
    (old mid : List Happening) (live : (j : ℕ) → HasSlot to j → IsLiveIn m j) (way : IsUnderWay a stage start m old)
    (placed : Placed (gate_writes gate) (HasSlot to) gone old mid) where
  -- at each moment of it they are in the stage in which the slots in use are
  pub gates_then : (c : List Happening) → IsMoment old c mid → NothingReturned old c → (then : Stage) → IsIn a then (IsInUse m old) start c
      → IsUnderWay a then start m c
  gates_then c at none then cells =
      let ran = ran_before {allowed = IsBesideEpochs m} (gates_beside m gate to gone old mid live placed) at in
      way_beside a stage start m old c way ran none then
      (λ j used. slot_in a then (IsInUse m old) start c cells j (beside_used a stage start m old c way ran none j used))

-- slots that are left out after it
way_out : (a : Redoing) (stage : Stage) (start : List Happening) (gone : Slots) (x y : Snapshot) → FencesGone gone None x y
    → IsUnderWay a stage start x.member x.told.history → ((j : ℕ) → HasSlot gone j → IsHere x.member j) → IsTrue y.told.honest
    → NothingReturned x.told.history y.told.history → ¬ IsTrue (stopped y.told.history) → IsUnderWay a stage start y.member y.told.history
way_out a stage start gone x y (NoneWas out same fine) way here honest returned going =
    subst (λ (p : Snapshot). IsUnderWay a stage start p.member p.told.history) (sym same) way
way_out a stage start gone x y (Fenced j has (Err fault) fine e) way here honest returned going = absurd (cc)
way_out a stage start gone x y (Fenced j has (Ok fallen) fine e) way here honest returned going =
    way_left a stage start gone fallen x.member y.member x.told y.told way here e honest returned going

module _ (a : Redoing) (start : List Happening) (gate : List ℕ) (to : Slots) (x y : Snapshot) (live : (j : ℕ) → HasSlot to j → IsLiveIn x.member j)
    (does : DoesStage (gate_writes gate) to None x y) (honest : IsTrue y.told.honest) (none : NothingReturned x.told.history y.told.history)
    (going : ¬ IsTrue (stopped y.told.history)) where
  placed : Placed (gate_writes gate) (HasSlot to) (HasSlot does.gone) x.told.history does.mid.history
  placed = does.phase.placed (mid_honest (gate_writes gate) to None x y does honest)

  first : Ran any_call x.told.history does.mid.history
  first = phase_ran placed

  rest : Ran any_call does.mid.history y.told.history
  rest = out_ran does.gone None (snapshot x.member does.mid) y does.leaves honest

  at : IsMoment x.told.history does.mid.history y.told.history
  at = moment_between {a = any_call} {b = any_call} first rest

  goes_on : ¬ IsTrue (stopped does.mid.history)
  goes_on stops = going (stopped_on {allowed = any_call} rest stops)

  led : (stage then : Stage) → IsUnderWay a stage start x.member x.told.history
      → IsIn a then (IsInUse x.member x.told.history) start does.mid.history → IsUnderWay a then start y.member y.told.history
  led stage then way cells =
      way_out a then start does.gone (snapshot x.member does.mid) y does.leaves
      (gates_then a stage start x.member gate to (HasSlot does.gone) x.told.history does.mid.history live way placed does.mid.history
      (moment_last first.more first.is) (each_before none at) then cells)
      (λ j has. let on = live j (does.phase.among j has) in record { below = on.below; why = inl on.why }) honest (each_after none at) going

-- CLOSING

-- At rest the gates of the live slots are closed, whatever they hold.
pub closes : (a : Redoing) (start : List Happening) (live : Slots) (x y : Snapshot) → AreLive x.member live
    → DoesStage (gate_writes closed_gate) live None x y → IsUnderWay a AtRest start x.member x.told.history → IsTrue y.told.honest
    → NothingReturned x.told.history y.told.history → ¬ IsTrue (stopped y.told.history) → IsUnderWay a AtRest start y.member y.told.history
closes a start live x y are does way honest none going =
    led a start closed_gate live x y (λ j has. (are.are j).0 has) does honest none going AtRest AtRest way
    (at_last {P = IsIn a AtRest (IsInUse x.member x.told.history) start}
    (closing a (IsInUse x.member x.told.history) start AtRest (HasSlot live) (HasSlot does.gone) x.told.history does.mid.history (inl refl) way.cells
    (placed a start closed_gate live x y (λ j has. (are.are j).0 has) does honest none going)))

-- DOING A REDO AGAIN

-- The gates that aren't open are opened: at each moment of that the stage stays, and it leads to the one in which cells are placed.
module _ (a : Redoing) (stage : Stage) (old_words new_words : Codewords) (start : List Happening) (redo : Option Redo) (opened to : Slots) (m : Membership)
    (gone : ℕ → Type 0) (old mid : List Happening) (is : IsRecovering a stage old_words new_words start m old)
    (told : IsToldBy redo opened a stage start m old) (redoing : IsRedoing a) (at_stage : (stage ≡ Uncommitted) ⊎ (stage ≡ Placing))
    (are : AreUnopened m opened to) (phase : Placed (gate_writes (open_gate a.geometry a.redo)) (HasSlot to) gone old mid) where
  abbrev CellsIn : Stage → Type 0
  CellsIn s = IsIn a s (IsInUse m old) start old

  abbrev StaysIn : Stage → Type 0
  StaysIn s = AtEveryMoment (IsIn a s (IsInUse m old) start) old mid

  held : AreHeld a.geometry (IsInUse m old) start old
  held = in_use_held a stage start m old is.way

  partly_opened : stage ≡ Uncommitted → AtEveryMoment (IsIn a Uncommitted (IsInUse m old) start) old mid
      × Reaches a Placing (IsInUse m old) start mid
  partly_opened started =
      partly a (IsInUse m old) start Uncommitted to gone old mid redoing held (subst CellsIn started is.way.cells) phase
      (λ j used.
      elim (has_or_not opened j) [
        | inl has ↦ inr (λ k bytes. known_open a start old j (told.opened_are j used has) k bytes)
        | inr out ↦ inl ((are.are j).1 (used.0, out))
      ])

  reopened : stage ≡ Placing → AtEveryMoment (IsIn a Placing (IsInUse m old) start) old mid
  reopened placing =
      reopening a (IsInUse m old) start to gone old mid redoing held (subst CellsIn placing is.way.cells) phase
      (λ j used on ready. told.others_bad placing j used ((are.are j).0 on).1)

  pub opening_stays : AtEveryMoment (IsIn a stage (IsInUse m old) start) old mid
  opening_stays =
      elim at_stage [
        | inl started ↦ subst StaysIn (sym started) (partly_opened started).0
        | inr placing ↦ subst StaysIn (sym placing) (reopened placing)
      ]

  pub opening_ends : ¬ IsTrue (stopped mid) → IsIn a Placing (IsInUse m old) start mid
  opening_ends going = elim at_stage [ inl started ↦ reached (partly_opened started).1 | inr placing ↦ at_last {P = IsIn a Placing (IsInUse m old) start} (reopened placing) ]
    where
      reached : Reaches a Placing (IsInUse m old) start mid → IsIn a Placing (IsInUse m old) start mid
      reached (IsReached cells) = cells
      reached (IsStopped stops cells) = absurd (going stops)

-- So its cells can be placed.
pub opens_gates : (a : Redoing) (stage : Stage) (old_words new_words : Codewords) (start : List Happening) (redo : Option Redo) (opened to : Slots) (x y : Snapshot)
    → IsRecovering a stage old_words new_words start x.member x.told.history → IsToldBy redo opened a stage start x.member x.told.history
    → IsRedoing a → ((stage ≡ Uncommitted) ⊎ (stage ≡ Placing)) → AreUnopened x.member opened to
    → DoesStage (gate_writes (open_gate a.geometry a.redo)) to None x y → IsTrue y.told.honest
    → NothingReturned x.told.history y.told.history → ¬ IsTrue (stopped y.told.history) → IsUnderWay a Placing start y.member y.told.history
opens_gates a stage old_words new_words start redo opened to x y is told redoing at_stage are does honest none going =
    led a start (open_gate a.geometry a.redo) to x y live does honest none going stage Placing is.way
    (opening_ends a stage old_words new_words start redo opened to x.member (HasSlot does.gone) x.told.history does.mid.history is told redoing at_stage are
    (placed a start (open_gate a.geometry a.redo) to x y live does honest none going)
    (goes_on a start (open_gate a.geometry a.redo) to x y live does honest none going))
  where
    live : (j : ℕ) → HasSlot to j → IsLiveIn x.member j
    live j has = ((are.are j).0 has).0

pub replay_ran : (a : Redoing) → IsRedoing a → (stripe : Stripe)
    → ((i c : ℕ) → HasCell a.redo.cells i c → cell stripe i c ≡ cell (a.new a.redo.stripe) i c) → (start : List Happening) (opened : Slots)
    (refusal : Option FenceFault) (x z : Snapshot) → Replays a.redo stripe opened refusal x z → a.geometry ≡ x.member.array.geometry
    → IsTrue z.told.honest → Ran any_call x.told.history z.told.history
replay_ran a redoing stripe cells start opened _ _ _ (Replays.Stops to fault x y are does) same honest =
    ran_join {allowed = any_call}
    (ran_any
    (phase_ran (does.phase.placed (mid_honest (gate_writes (open_gate x.member.array.geometry a.redo)) to (Some fault) x y does honest))))
    (out_ran does.gone (Some fault) (snapshot x.member does.mid) y does.leaves honest)
replay_ran a redoing stripe cells start opened _ _ _ (Replays.Goes to refusal x y z are does more) same honest =
    let run : Redoes a.geometry a.redo stripe Placing refusal y z =
    subst (λ (g : Geometry). Redoes g a.redo stripe Placing refusal y z) (sym same) more in
    let now : IsTrue y.told.honest = honest_first a.geometry a.redo stripe Placing refusal y z run honest in
    ran_join {allowed = any_call}
    (ran_join {allowed = any_call}
    (ran_any (phase_ran (does.phase.placed (mid_honest (gate_writes (open_gate x.member.array.geometry a.redo)) to None x y does now))))
    (out_ran does.gone None (snapshot x.member does.mid) y does.leaves now))
    (redo_ran a redoing stripe cells start Placing refusal y z run honest)

-- So a redo whose body was found whole is done, on the slots that are in use then.
pub replays : (a : Redoing) (stage : Stage) (old_words new_words : Codewords) (start : List Happening) (redo : Option Redo) (opened : Slots)
    (stripe : Stripe) (refusal : Option FenceFault) (x z : Snapshot)
    → IsRecovering a stage old_words new_words start x.member x.told.history → IsToldBy redo opened a stage start x.member x.told.history
    → IsRedoing a → ((stage ≡ Uncommitted) ⊎ (stage ≡ Placing))
    → ((i c : ℕ) → HasCell a.redo.cells i c → cell stripe i c ≡ cell (a.new a.redo.stripe) i c)
    → Replays a.redo stripe opened refusal x z → refusal ≡ None → IsTrue z.told.honest
    → NothingReturned x.told.history z.told.history → ¬ IsTrue (stopped z.told.history) → IsUnderWay a Done start z.member z.told.history
replays a stage old_words new_words start redo opened stripe _ _ _ is told redoing at_stage cells (Replays.Stops to fault x y are does) fine honest none going =
    absurd (cc)
replays a stage old_words new_words start redo opened stripe _ _ _ is told redoing at_stage cells (Replays.Goes to refusal x y z are does more) fine honest none going =
    let run : Redoes a.geometry a.redo stripe Placing refusal y z =
    subst (λ (g : Geometry). Redoes g a.redo stripe Placing refusal y z) (sym is.way.geometry) more in
    let opens : DoesStage (gate_writes (open_gate a.geometry a.redo)) to None x y =
    subst (λ (g : Geometry). DoesStage (gate_writes (open_gate g a.redo)) to None x y) (sym is.way.geometry) does in
    let now : IsTrue y.told.honest = honest_first a.geometry a.redo stripe Placing refusal y z run honest in
    let before : Ran any_call x.told.history y.told.history =
    ran_join {allowed = any_call}
    (phase_ran (opens.phase.placed (mid_honest (gate_writes (open_gate a.geometry a.redo)) to None x y opens now)))
    (out_ran opens.gone None (snapshot x.member opens.mid) y opens.leaves now) in
    let after : Ran any_call y.told.history z.told.history = redo_ran a redoing stripe cells start Placing refusal y z run honest in
    let at = moment_between {a = any_call} {b = any_call} before after in
    way_done a redoing stripe cells start Placing refusal y z run honest fine
    (opens_gates a stage old_words new_words start redo opened to x y is told redoing at_stage are opens now (each_before none at)
    (λ stops. going (stopped_on {allowed = any_call} after stops)))
    (each_after none at) going
