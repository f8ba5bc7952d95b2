-- A phase of a redo, and the slots that were gone in it left out, keep what lasts in the midst of it.
use Rattle.std.proofs.Common.{ℕ, ◌<◌, ◌≤◌, ◌∙◌, ◌≡◌, List, None, Some, arith, refl, subst, sym}
use Rattle.std.specs.Prelude.{IsTrue}
use Rattle.stair_model.specs.Device.{gate_sector}
use Rattle.stair_model.specs.Geometry.{Geometry}
use Rattle.stair_model.specs.Slots.{HasSlot, Slots}
use Rattle.stair_rack.specs.Answers.{Ran, any_call, IsHistory}
use Rattle.stair_rack.specs.History.{Happening, SlotCall, Sync, Write, stopped}
use Rattle.stair_rack.specs.Moments.{IsMoment}
use Rattle.stair_rack.specs.Placed.{IsSyncOf, IsWriteOf, Placed, Writes}
use Rattle.stair_rack.specs.Stretch.{NothingReturned}
use Rattle.stair_rack.specs.RackState.{RackState}
use Rattle.stair_rack.proofs.MomentLemmas.{moment_between, ran_any, ran_join, ran_none, ran_weakened}
use Rattle.stair_rack.proofs.OfflineLemmas.{stopped_on}
use Rattle.stair_rack.proofs.StretchLemmas.{each_before}
use Rattle.stair_rack.proofs.TidyLemmas.{history_on}
use Rattle.stair_rack.proofs.WritingLemmas.{beside_syncs, beside_writes}
use Rattle.stair_member.specs.Epochs.{IsIssuing}
use Rattle.stair_member.specs.Fencing.{IsBegun}
use Rattle.stair_member.specs.Membership.{Membership, why_of}
use Rattle.stair_member.specs.declared.why.Why.TheVariants.{Here, Rebuilding}
use Rattle.stair_stripes.proofs.PlacingLemmas.{cell_writes_is}
use Rattle.stair_state.specs.Redoing.{AtRest, Done, InPlace, IsRedoing, Placing, Redoing, Stage, Uncommitted, writes_in}
use Rattle.stair_state.proofs.StageLemmas.{written_from_gate}
use Rattle.stair_invariant.specs.Chunks.{IsBesideChunks}
use Rattle.stair_invariant.specs.Effects.{DoesStage, Fenced, IsOver, FencesGone, NoneWas, Snapshot, snapshot, stage_writes}
use Rattle.stair_invariant.specs.InSession.{IsBehindPlaces, IsBesideEpochs}
use Rattle.stair_invariant.specs.Leading.{IsOpenAmid, led_to}
use Rattle.stair_invariant.specs.Session.{ArrayState}
use Rattle.stair_invariant.proofs.FencesLemmas.{leaves_amid, amid_left}
use Rattle.stair_invariant.proofs.HonestLemmas.{mid_honest}
use Rattle.stair_invariant.proofs.OpenWithLemmas.{beside_amid, amid_beside}

-- A PHASE

-- Writes from the gate on, of which none is to the gate of a slot that is rebuilt, and the syncs after them,
module _ (what : Writes) (m : Membership) (to : ℕ → Type 0)
    (behind : (j k : ℕ) (bytes : List ℕ) → what j k ≡ Some bytes → gate_sector ≤ k)
    (shut : (j : ℕ) (bytes : List ℕ) → to j → why_of m j ≡ Rebuilding → ¬ (what j gate_sector ≡ Some bytes)) where
  writes_beside : (j : ℕ) (c : SlotCall) → IsWriteOf what to j c → IsBesideEpochs m j c
  writes_beside j c is = record {
    behind = let past : gate_sector ≤ is.sector = behind j is.sector is.bytes is.is_one in subst (IsBehindPlaces j) (sym is.is) (omega (arith, past));
    attaches = λ here. beside_writes what to j c is;
    gate = λ below rebuilt bytes answer wrote.
        let same : Write is.sector is.bytes is.answer ≡ Write gate_sector bytes answer = sym is.is ∙ wrote in
        let at : is.sector ≡ gate_sector = cc in
        shut j is.bytes is.on rebuilt (subst (λ (k : ℕ). what j k ≡ Some is.bytes) at is.is_one);
  }

  syncs_beside : (j : ℕ) (c : SlotCall) → IsSyncOf to j c → IsBesideEpochs m j c
  syncs_beside j c is = record {
    behind = subst (IsBehindPlaces j) (sym is.is) tt;
    attaches = λ here. beside_syncs to j c is;
    gate = λ below rebuilt bytes answer wrote.
        let never : Sync is.answer ≡ Write gate_sector bytes answer = sym is.is ∙ wrote in absurd (cc);
  }

  -- are beside the epochs
  pub placed_beside : {gone : ℕ → Type 0} {old new : List Happening} → Placed what to gone old new → Ran (IsBesideEpochs m) old new
  placed_beside phase =
      ran_join {allowed = IsBesideEpochs m}
      (ran_weakened {allowed = IsWriteOf what to} {more = IsBesideEpochs m} writes_beside phase.writes)
      (ran_weakened {allowed = IsSyncOf to} {more = IsBesideEpochs m} syncs_beside phase.syncs)

-- so a redo's phase is, where slots that are rebuilt take part only while cells are placed,
pub phase_beside : (r : Redoing) → IsRedoing r → (m : Membership) (stage : Stage) (to : ℕ → Type 0)
    → ((j : ℕ) → to j → why_of m j ≡ Rebuilding → stage ≡ Placing) → {gone : ℕ → Type 0} {old new : List Happening}
    → Placed (writes_in r stage) to gone old new → Ran (IsBesideEpochs m) old new
phase_beside r redoing m stage to alone =
    placed_beside (writes_in r stage) m to (written_from_gate r redoing stage)
    (λ j bytes on rebuilt written.
    let w =
    cell_writes_is r.geometry r.redo (r.new r.redo.stripe) j gate_sector bytes
    (subst (λ (s : Stage). writes_in r s j gate_sector ≡ Some bytes) (alone j on rebuilt) written) in
    omega (arith, w.at))

-- and beside the chunks of a slot on which it isn't
pub phase_spares : {gone : ℕ → Type 0} {old new : List Happening} (what : Writes) (to : ℕ → Type 0) (g : Geometry) (j next : ℕ) → ¬ to j
    → Placed what to gone old new → Ran (IsBesideChunks g j next) old new
phase_spares what to g j next out phase =
    ran_join {allowed = IsBesideChunks g j next}
    (ran_weakened {allowed = IsWriteOf what to} {more = IsBesideChunks g j next} (λ i c is same. absurd (out (subst to same is.on))) phase.writes)
    (ran_weakened {allowed = IsSyncOf to} {more = IsBesideChunks g j next} (λ i c is same. absurd (out (subst to same is.on))) phase.syncs)

-- A STAGE

same_writes : (r : Redoing) (stage : Stage) → stage_writes r.geometry r.redo (r.new r.redo.stripe) stage ≡ writes_in r stage
same_writes r AtRest = refl
same_writes r Uncommitted = refl
same_writes r Placing = refl
same_writes r InPlace = refl
same_writes r Done = refl

-- slots that are rebuilt take part where cells are placed alone
pub over_alone : (m : Membership) (to : Slots) (stage : Stage) → IsOver stage m to → (j : ℕ) → HasSlot to j → why_of m j ≡ Rebuilding → stage ≡ Placing
over_alone m to Placing over j on is = refl
over_alone m to stage over j on is =
    let live = (over.are j).0 on in
    let never : Here ≡ Rebuilding = sym live.why ∙ is in
    absurd (cc)

over_below : (m : Membership) (to : Slots) (stage : Stage) → IsOver stage m to → (j : ℕ) → HasSlot to j → j < m.array.geometry.n
over_below m to Placing over j on = ((over.are j).0 on).below
over_below m to stage over j on = ((over.are j).0 on).below

leaves_ran : (leaving : Slots) (m : Membership) (x : RackState) (y : Snapshot) → FencesGone leaving None (snapshot m x) y → IsTrue y.told.honest
    → Ran any_call x.history y.told.history
leaves_ran leaving m x y (NoneWas out same quiet) honest =
    subst (λ (p : Snapshot). Ran any_call x.history p.told.history) (sym same) (ran_none {allowed = any_call} x.history)
leaves_ran leaving m x y (Fenced j has answer fine does) honest =
    let issued = does.establishes.issued honest in ran_any {allowed = IsIssuing issued.slots issued.editions} issued.ran

module _ (r : Redoing) (redoing : IsRedoing r) (before : List Happening) (a : ArrayState) (stage : Stage) (to : Slots) (x : RackState) (y : Snapshot)
    (over : IsOver stage a.member to)
    (does : DoesStage (stage_writes r.geometry r.redo (r.new r.redo.stripe) stage) to None (snapshot a.member x) y)
    (honest : IsTrue y.told.honest) where
  pub placed : Placed (writes_in r stage) (HasSlot to) (HasSlot does.gone) x.history does.mid.history
  placed =
      subst (λ (w : Writes). Placed w (HasSlot to) (HasSlot does.gone) x.history does.mid.history) (same_writes r stage)
      (does.phase.placed (mid_honest (stage_writes r.geometry r.redo (r.new r.redo.stripe) stage) to None (snapshot a.member x) y does honest))

  pub ran_phase : Ran (IsBesideEpochs a.member) x.history does.mid.history
  ran_phase =
      phase_beside r redoing a.member stage (HasSlot to) (over_alone a.member to stage over) {gone = HasSlot does.gone} placed

  ran_later : Ran any_call does.mid.history y.told.history
  ran_later = leaves_ran does.gone a.member does.mid y does.leaves honest

  gone_below : (j : ℕ) → HasSlot does.gone j → j < a.member.array.geometry.n
  gone_below j has = over_below a.member to stage over j (does.phase.among j has)

  -- What lasts in the midst of a redo is led on by a stage of it, whichever media come back,
  pub amid_stage : IsHistory x.history → IsOpenAmid before a x.history → IsOpenAmid before (led_to a y.member) y.told.history
  amid_stage history is =
      amid_left does.gone before a does.mid y does.leaves honest (history_on {allowed = IsBesideEpochs a.member} history ran_phase)
      (amid_beside before a x.history does.mid.history is history ran_phase)

  -- and where none does so is the epoch.
  module _ (begun : IsBegun None a.member x.history) (none : NothingReturned before y.told.history) (going : ¬ IsTrue (stopped y.told.history))
      (is : IsOpenAmid before a x.history) where
    within : IsMoment before does.mid.history y.told.history
    within =
        moment_between {a = any_call} {b = any_call} (ran_join {allowed = any_call} is.ran (ran_any {allowed = IsBesideEpochs a.member} ran_phase))
        ran_later

    kept_to : IsOpenAmid before a does.mid.history × IsBegun None a.member does.mid.history
    kept_to =
        beside_amid before a x.history does.mid.history is begun ran_phase (each_before none within)
        (λ is_stopped. going (stopped_on {allowed = any_call} ran_later is_stopped))

    pub stage_amid : IsOpenAmid before (led_to a y.member) y.told.history × IsBegun None y.member y.told.history
    stage_amid = leaves_amid does.gone before a does.mid y does.leaves honest gone_below kept_to.1 none going kept_to.0
