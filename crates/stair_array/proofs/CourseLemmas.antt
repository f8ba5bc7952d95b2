-- What the parts of a redo and of an opening do to what a session knows of its slots, on any rack.
use Rattle.std.proofs.Common.{◌≡◌, ℕ, ◌<◌, List, inl, refl, sym, ◌∙◌, subst, None, Option, Some, arith}
use Rattle.std.specs.Prelude.{IfSome}
use Rattle.stair_model.specs.Device.{Body as BodyCell, Chunk}
use Rattle.stair_model.specs.Geometry.{Geometry, IsWithinLimits, sectors_needed}
use Rattle.stair_model.specs.Slots.{HasSlot, Slots}
use Rattle.stair_model.specs.Stripe.{Stripe}
use Rattle.stair_model.proofs.DeviceLaws.{sector_in_range}
use Rattle.stair_rack.specs.Answers.{IsBesideAttach}
use Rattle.stair_rack.specs.History.{SlotCall}
use Rattle.stair_rack.specs.Placed.{IsSyncOf, IsWriteOf, Writes}
use Rattle.stair_rack.specs.Reading.{IsReadOf}
use Rattle.stair_rack.specs.RackState.{RackState}
use Rattle.stair_rack.proofs.KeepingLemmas.{phase_ran}
use Rattle.stair_rack.proofs.MomentLemmas.{ran_any, ran_join, ran_weakened}
use Rattle.stair_rack.proofs.ReadRuns.{reads_beside}
use Rattle.stair_member.specs.Membership.{IsHere, IsMembership, Membership}
use Rattle.stair_member.specs.declared.fault.FenceFault.{FenceFault}
use Rattle.stair_journal.specs.Bodies.{IsBodySector, ReadsBody}
use Rattle.stair_journal.specs.Gate.{closed_gate, open_gate}
use Rattle.stair_journal.specs.Gates.{IsGateSector, ReadsGates}
use Rattle.stair_journal.specs.Journalling.{gate_writes}
use Rattle.stair_journal.specs.Phases.{DoesPhase}
use Rattle.stair_journal.specs.Redo.{IsRedo}
use Rattle.stair_journal.specs.declared.body.Body.{Body}
use Rattle.stair_journal.specs.declared.gates.Gates.{Gates}
use Rattle.stair_journal.specs.declared.redo.Redo.{Redo}
use Rattle.stair_journal.proofs.WritesLemmas.{body_writes_is, gate_writes_is}
use Rattle.stair_stripes.specs.Gathering.{Gathers, IsReadOfCell}
use Rattle.stair_stripes.specs.declared.gathering.Gathered.{Gathered}
use Rattle.stair_stripes.proofs.PlacingLemmas.{cell_writes_is}
use Rattle.stair_state.specs.Redoing.{AtRest, Done, InPlace, Placing, Stage, Uncommitted, next}
use Rattle.stair_invariant.specs.Effects.{AreLive, AreUnopened, DoesStage, FindsBody, FindsRedo, IsOver, FencesGone, Loads, Snapshot, Redoes, Replays, snapshot, stage_writes}
use Rattle.stair_invariant.proofs.FindsLemmas.{live_here}
use Rattle.stair_invariant.proofs.RedoingLemmas.{over_here}
use Rattle.stair_array.specs.Causes.{WasGoneTo}
use Rattle.stair_array.proofs.GoneToLemmas.{IsAfter, attaches_none, gone_to_by}
use Rattle.stair_array.proofs.PartsLemmas.{IsPart, out_part, part_join, part_none, part_told}
use Rattle.stair_array.proofs.RecoveryLemmas.{first_redo}

-- PHASES

pub writes_beside : (what : Writes) (to : ℕ → Type 0) (j : ℕ) (c : SlotCall) → IsWriteOf what to j c → attaches_none j c
writes_beside what to j c is = subst IsBesideAttach (sym is.is) tt

syncs_beside : (to : ℕ → Type 0) (j : ℕ) (c : SlotCall) → IsSyncOf to j c → attaches_none j c
syncs_beside to j c is = subst IsBesideAttach (sym is.is) tt

pub phase_after : (what : Writes) (to gone : Slots) (old new : RackState) → DoesPhase what to gone old new → IsAfter old new
phase_after what to gone old new does = record {
  later = record { counts = does.counts; honest = does.honest; ran = λ honest. phase_ran (does.placed honest) };
  beside = λ honest.
      let placed = does.placed honest in
      ran_join {allowed = attaches_none}
      (ran_weakened {allowed = IsWriteOf what (HasSlot to)} {more = attaches_none} (writes_beside what (HasSlot to)) placed.writes)
      (ran_weakened {allowed = IsSyncOf (HasSlot to)} {more = attaches_none} (syncs_beside (HasSlot to)) placed.syncs);
}

-- each sector that is written is one that the array needs
abbrev pub IsInRange : Geometry → Writes → Type 0
IsInRange g what = (j k : ℕ) (bytes : List ℕ) → what j k ≡ Some bytes → k < sectors_needed g

pub gate_in_range : (g : Geometry) (gate : List ℕ) → IsInRange g (gate_writes gate)
gate_in_range g gate j k bytes is =
    let at = (gate_writes_is gate j k bytes is).at in
    let needed : sectors_needed g ≡ sectors_needed g = refl in
    omega (arith, at)

pub stage_in_range : (g : Geometry) (redo : Redo) (stripe : Stripe) (stage : Stage) → IsWithinLimits g → IsRedo g redo
    → IsInRange g (stage_writes g redo stripe stage)
stage_in_range g redo stripe AtRest limits formed j k bytes is =
    let w = body_writes_is g redo stripe j k bytes is in
    subst (λ (x : ℕ). x < sectors_needed g) (sym w.at) (sector_in_range g (BodyCell w.row w.chunk) limits (formed.inside w.row w.chunk w.has))
stage_in_range g redo stripe Uncommitted limits formed j k bytes is = gate_in_range g (open_gate g redo) j k bytes is
stage_in_range g redo stripe Placing limits formed j k bytes is =
    let w = cell_writes_is g redo stripe j k bytes is in
    subst (λ (x : ℕ). x < sectors_needed g) (sym w.at)
    (sector_in_range g (Chunk redo.stripe w.row) limits (formed.stripe_in, (formed.inside w.row j w.has).0))
stage_in_range g redo stripe InPlace limits formed j k bytes is = gate_in_range g closed_gate j k bytes is
stage_in_range g redo stripe Done limits formed j k bytes is = absurd (cc)

-- a slot that took part and was gone to a phase
module _ (what : Writes) (to : Slots) (m : Membership) (gone : Slots) (old mid : RackState) (phase : DoesPhase what to gone old mid)
    (here : (j : ℕ) → HasSlot to j → IsHere m j) (range : IsInRange m.array.geometry what) where
  pub phase_gone : (j : ℕ) → HasSlot gone j → WasGoneTo m j old mid
  phase_gone j has =
      gone_to_by m j old mid (phase_after what to gone old mid phase) (here j (phase.among j has)) (phase.rose j has)
      (λ honest session held reach.
      (phase.placed honest).shut session j has held (λ attached k bytes written. reach attached k (range j k bytes written)))

pub stage_part : (what : Writes) (to : Slots) (refusal : Option FenceFault) (x y : Snapshot) → DoesStage what to refusal x y → IsMembership x.member
    → ((j : ℕ) → HasSlot to j → IsHere x.member j) → IsInRange x.member.array.geometry what → IsPart 0 x y
stage_part what to refusal x y does rules here range =
    out_part does.gone refusal x.member x.told does.mid y rules (phase_after what to does.gone x.told does.mid does.phase) does.phase.formed
    (λ j has. here j (does.phase.among j has)) (phase_gone what to x.member does.gone x.told does.mid does.phase here range) does.leaves

pub redo_range : (g : Geometry) (redo : Redo) (stripe : Stripe) (stage : Stage) (x : Snapshot) → g ≡ x.member.array.geometry → IsMembership x.member
    → IsRedo g redo → IsInRange x.member.array.geometry (stage_writes g redo stripe stage)
redo_range g redo stripe stage x same rules formed =
    subst (λ (k : Geometry). IsInRange k (stage_writes g redo stripe stage)) same
    (stage_in_range g redo stripe stage (subst IsWithinLimits (sym same) rules.array.limits) formed)

-- one stage of it
pub redo_stage_part : (g : Geometry) (redo : Redo) (stripe : Stripe) (stage : Stage) (to : Slots) (refusal : Option FenceFault) (x y : Snapshot)
    → IsOver stage x.member to → DoesStage (stage_writes g redo stripe stage) to refusal x y → IsMembership x.member → g ≡ x.member.array.geometry
    → IsRedo g redo → IsPart 0 x y
redo_stage_part g redo stripe stage to refusal x y over does rules same formed =
    stage_part (stage_writes g redo stripe stage) to refusal x y does rules (over_here stage x.member to over)
    (redo_range g redo stripe stage x same rules formed)

-- a redo from a stage on
pub redo_part : (g : Geometry) (redo : Redo) (stripe : Stripe) (stage : Stage) (refusal : Option FenceFault) (x z : Snapshot)
    → Redoes g redo stripe stage refusal x z → IsMembership x.member → g ≡ x.member.array.geometry → IsRedo g redo → IsPart 0 x z
redo_part g redo stripe _ _ _ _ (Redoes.Ends x) rules same formed = part_none x rules
redo_part g redo stripe _ _ _ _ (Redoes.Stops stage to fault x y not_done over does) rules same formed =
    redo_stage_part g redo stripe stage to (Some fault) x y over does rules same formed
redo_part g redo stripe _ _ _ _ (Redoes.Goes stage to refusal x y z not_done over does more) rules same formed =
    let first = redo_stage_part g redo stripe stage to None x y over does rules same formed in
    part_join 0 0 x y z first (redo_part g redo stripe (next stage) refusal y z more first.rules (same ∙ sym first.geometry) formed)

-- WHAT IS READ

pub gates_after : (g : Geometry) (live : Slots) (gates : Gates) (old new : RackState) → ReadsGates g live gates old new → IsAfter old new
gates_after g live gates old new reads = record {
  later = record {
    counts = reads.counts;
    honest = reads.honest;
    ran = λ honest. ran_any {allowed = IsReadOf (HasSlot live) IsGateSector} (reads.ran honest);
  };
  beside = λ honest.
      ran_weakened {allowed = IsReadOf (HasSlot live) IsGateSector} {more = attaches_none} (reads_beside (HasSlot live) IsGateSector)
      (reads.ran honest);
}

pub body_after : (g : Geometry) (live : Slots) (redo : Redo) (body : Body) (was into : Stripe) (old new : RackState)
    → ReadsBody g live redo body was into old new → IsAfter old new
body_after g live redo body was into old new reads = record {
  later = record {
    counts = reads.counts;
    honest = reads.honest;
    ran = λ honest. ran_any {allowed = IsReadOf (HasSlot live) (IsBodySector g redo)} (reads.ran honest);
  };
  beside = λ honest.
      ran_weakened {allowed = IsReadOf (HasSlot live) (IsBodySector g redo)} {more = attaches_none}
      (reads_beside (HasSlot live) (IsBodySector g redo)) (reads.ran honest);
}

-- one round of the gates, and those that were gone are left out
pub gates_part : (gates : Gates) (live : Slots) (mid : RackState) (refusal : Option FenceFault) (x y : Snapshot) → AreLive x.member live
    → ReadsGates x.member.array.geometry live gates x.told mid → FencesGone gates.gone refusal (snapshot x.member mid) y → IsMembership x.member
    → IsPart 0 x y
gates_part gates live mid refusal x y are reads leaves rules =
    out_part gates.gone refusal x.member x.told mid y rules (gates_after x.member.array.geometry live gates x.told mid reads) reads.formed_gone
    (λ j has. live_here x.member live are j (reads.live_gone j has)) (λ j has. WasGoneTo.Offline (reads.gone j has)) leaves

pub found_part : (redo : Option Redo) (opened : Slots) (refusal : Option FenceFault) (x z : Snapshot) → FindsRedo redo opened refusal x z
    → IsMembership x.member → IsPart 0 x z
found_part _ _ _ _ _ (FindsRedo.Found gates live mid x are reads none) rules =
    part_told x.member x.told mid rules (gates_after x.member.array.geometry live gates x.told mid reads)
found_part _ _ _ _ _ (FindsRedo.Again gates live mid redo opened refusal j x y z are reads gone leaves rest) rules =
    let first = gates_part gates live mid None x y are reads leaves rules in
    part_join 0 0 x y z first (found_part redo opened refusal y z rest first.rules)
found_part _ _ _ _ _ (FindsRedo.Stops gates live mid redo opened fault x y are reads leaves) rules =
    gates_part gates live mid (Some fault) x y are reads leaves rules

pub body_part : (redo : Redo) (body : Body) (was into : Stripe) (refusal : Option FenceFault) (x y : Snapshot)
    → FindsBody redo body was into refusal x y → IsMembership x.member → IsPart 0 x y
body_part redo body was into refusal x y found rules =
    out_part body.gone refusal x.member x.told found.mid y rules
    (body_after x.member.array.geometry found.live redo body was into x.told found.mid found.reads) found.reads.formed
    (λ j has. live_here x.member found.live found.are_live j (found.reads.live_gone j has))
    (λ j has. WasGoneTo.Offline (found.reads.gone j has)) found.leaves

-- the gates that aren't open are opened
pub opening_part : (redo : Redo) (opened to : Slots) (refusal : Option FenceFault) (x y : Snapshot) → AreUnopened x.member opened to
    → DoesStage (gate_writes (open_gate x.member.array.geometry redo)) to refusal x y → IsMembership x.member → IsPart 0 x y
opening_part redo opened to refusal x y are does rules =
    stage_part (gate_writes (open_gate x.member.array.geometry redo)) to refusal x y does rules
    (λ j has. let on = ((are.are j).0 has).0 in record { below = on.below; why = inl on.why })
    (gate_in_range x.member.array.geometry (open_gate x.member.array.geometry redo))

-- a redo that was found is done again
pub replay_part : (redo : Redo) (stripe : Stripe) (opened : Slots) (refusal : Option FenceFault) (x z : Snapshot)
    → Replays redo stripe opened refusal x z → IsMembership x.member → IsRedo x.member.array.geometry redo → IsPart 0 x z
replay_part redo stripe opened _ _ _ (Replays.Stops to fault x y are does) rules formed =
    opening_part redo opened to (Some fault) x y are does rules
replay_part redo stripe opened _ _ _ (Replays.Goes to refusal x y z are does rest) rules formed =
    let first = opening_part redo opened to None x y are does rules in
    part_join 0 0 x y z first
    (redo_part x.member.array.geometry redo stripe Placing refusal y z rest first.rules (sym first.geometry) formed)

-- a redo that gates tell is one
pub found_formed : (found : Option Redo) (opened : Slots) (refusal : Option FenceFault) (x z : Snapshot) → FindsRedo found opened refusal x z
    → refusal ≡ None → IsMembership x.member → IfSome found (IsRedo x.member.array.geometry)
found_formed _ _ _ _ _ (FindsRedo.Found gates live mid x are reads none) fine rules =
    first_redo x.member.array.geometry _ reads.gate gates.redo reads.redo
found_formed _ _ _ _ _ (FindsRedo.Again gates live mid redo opened refusal j x y z are reads gone leaves rest) fine rules =
    let first = gates_part gates live mid None x y are reads leaves rules in
    subst (λ (g : Geometry). IfSome redo (IsRedo g)) first.geometry (found_formed redo opened refusal y z rest fine first.rules)
found_formed _ _ _ _ _ (FindsRedo.Stops gates live mid redo opened fault x y are reads leaves) fine rules =
    absurd (let never : Some fault ≡ None = fine in cc)

-- cells of a stripe are gathered, and those slots that were gone are left out
cell_read_beside : (g : Geometry) (live : Slots) (t : ℕ) (wanted : ℕ → ℕ → Type 0) (j : ℕ) (c : SlotCall) → IsReadOfCell g live t wanted j c
    → attaches_none j c
cell_read_beside g live t wanted j c is = subst IsBesideAttach (sym is.is) tt

pub gathers_after : (g : Geometry) (live : Slots) (t : ℕ) (wanted : ℕ → ℕ → Type 0) (gathered : Gathered) (was into : Stripe) (old new : RackState)
    → Gathers g live t wanted gathered was into old new → IsAfter old new
gathers_after g live t wanted gathered was into old new gathers = record {
  later = record {
    counts = gathers.counts;
    honest = gathers.honest;
    ran = λ honest. ran_any {allowed = IsReadOfCell g live t wanted} (gathers.ran honest);
  };
  beside = λ honest.
      ran_weakened {allowed = IsReadOfCell g live t wanted} {more = attaches_none} (cell_read_beside g live t wanted) (gathers.ran honest);
}

pub load_part : (t : ℕ) (wanted : ℕ → ℕ → Type 0) (gathered : Gathered) (was into : Stripe) (refusal : Option FenceFault) (x y : Snapshot)
    → Loads t wanted gathered was into refusal x y → IsMembership x.member → IsPart 0 x y
load_part t wanted gathered was into refusal x y loads rules =
    out_part gathered.gone refusal x.member x.told loads.mid y rules
    (gathers_after x.member.array.geometry loads.live t wanted gathered was into x.told loads.mid loads.gathers) loads.gathers.formed_gone
    (λ j has. live_here x.member loads.live loads.are_live j (loads.gathers.live_gone j has).0)
    (λ j has. WasGoneTo.Offline (loads.gathers.gone j has)) loads.leaves
