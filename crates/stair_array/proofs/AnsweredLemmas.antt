-- Each slot that takes part and answers gone to a call is left out: in a redo and in an opening, on an honest rack.
use Rattle.std.proofs.Common.{◌≡◌, ℕ, ◌<◌, List, inl, inr, refl, sym, ◌∙◌, subst, None, Option, Some}
use Rattle.std.specs.Prelude.{◌⊎◌, IsTrue, Result}
use Rattle.stair_model.specs.Geometry.{Geometry}
use Rattle.stair_model.specs.Slots.{HasSlot, Slots}
use Rattle.stair_model.specs.Stripe.{Stripe}
use Rattle.stair_rack.specs.Answers.{any_call, no_call, Ran}
use Rattle.stair_rack.specs.History.{Attach, Happening, Read, Sectors, SlotCall, Sync, Write}
use Rattle.stair_rack.specs.Placed.{IsSyncOf, IsWriteOf, Writes}
use Rattle.stair_rack.specs.Reading.{IsReadOf}
use Rattle.stair_rack.specs.Stretch.{WasAnswered}
use Rattle.stair_rack.specs.RackState.{RackState}
use Rattle.stair_rack.specs.declared.rack.Got.TheVariants as got
use Rattle.stair_rack.proofs.MomentLemmas.{moment_between, ran_join, ran_none, ran_weakened}
use Rattle.stair_rack.proofs.StretchLemmas.{answered_allowed}
use Rattle.stair_member.specs.Editions.{Edition}
use Rattle.stair_member.specs.Epochs.{ASync, AWrite, IsGoneCall, IsIssuing}
use Rattle.stair_member.specs.Establishing.{Did, Establishes, Fences, HasBegun, NotYet, refusal_of}
use Rattle.stair_member.specs.Membership.{IsMembership, Membership, why_of}
use Rattle.stair_member.specs.declared.aim.EpochChange.{EpochChange}
use Rattle.stair_member.specs.declared.aim.EpochChange.TheVariants.{Fence}
use Rattle.stair_member.specs.declared.fault.FenceFault.{FenceFault}
use Rattle.stair_member.specs.declared.why.Why.{Why}
use Rattle.stair_member.specs.declared.why.Why.TheVariants as why
use Rattle.stair_member.proofs.CountingLemmas.{has_or_not}
use Rattle.stair_journal.specs.Bodies.{IsBodySector}
use Rattle.stair_journal.specs.Gate.{open_gate}
use Rattle.stair_journal.specs.Gates.{IsGateSector, ReadsGates}
use Rattle.stair_journal.specs.Journalling.{gate_writes}
use Rattle.stair_journal.specs.Phases.{AnswersGone}
use Rattle.stair_journal.specs.Redo.{IsRedo}
use Rattle.stair_journal.specs.declared.body.Body.{Body}
use Rattle.stair_journal.specs.declared.gates.Gates.{Gates}
use Rattle.stair_journal.specs.declared.redo.Redo.{Redo}
use Rattle.stair_journal.proofs.ToldLemmas.{answered_cases}
use Rattle.stair_state.specs.Redoing.{Placing, Stage, next}
use Rattle.stair_invariant.specs.Effects.{DoesStage, Fenced, FindsBody, FindsRedo, FencesGone, NoneWas, Snapshot, Redoes, Replays, snapshot, stage_writes}
use Rattle.stair_invariant.proofs.LeftOutLemmas.{start_geometry}
use Rattle.stair_array.specs.Promise.{AreAllLeftOut, IsAnsweredGone}
use Rattle.stair_array.proofs.CourseLemmas.{body_after, found_part, gates_after, gates_part, opening_part, phase_after, redo_part, redo_stage_part}
use Rattle.stair_array.proofs.GoneToLemmas.{IsAfter}
use Rattle.stair_array.proofs.PartsLemmas.{IsPart, WhyStays, out_after}

-- each slot that takes part at x and answers gone on the way to y doesn't take part at y
abbrev pub IsLeftOut : Snapshot → Snapshot → Type 0
IsLeftOut x y = AreAllLeftOut x.member y.member x.told y.told

pub never_answered : (j : ℕ) (call : SlotCall) (h : List Happening) → ¬ WasAnswered j call h h
never_answered j call h was = answered_allowed {allowed = no_call} (ran_none {allowed = no_call} h) was

-- an honest rack was honest before
pub honest_before : (old new : RackState) → IsAfter old new → IsTrue new.honest → IsTrue old.honest
honest_before old new after honest = subst IsTrue (sym after.later.honest) honest

-- IN TURN

gone_stays : (x y : Snapshot) (j : ℕ) → WhyStays x y j → why_of x.member j ≡ why.Gone → why_of y.member j ≡ why.Gone
gone_stays x y j (WhyStays.Same same) is = same ∙ is
gone_stays x y j (WhyStays.Went gone was) is = gone

pub left_out_join : (a b : ℕ) (x y z : Snapshot) → IsPart a x y → IsPart b y z → IsTrue z.told.honest → IsLeftOut x y → IsLeftOut y z → IsLeftOut x z
left_out_join a b x y z first second honest sooner later j call here was gone =
    elim (answered_cases (moment_between {a = any_call} {b = any_call} (first.after.later.ran before) (second.after.later.ran honest)) was) [
      | inl early ↦ gone_stays y z j (second.whys j below) (sooner j call here early gone)
      | inr late ↦ by (first.whys j here.below) late
    ]
  where
    before : IsTrue y.told.honest
    before = honest_before y.told z.told second.after honest

    below : j < y.member.array.geometry.n
    below = subst (λ (g : Geometry). j < g.n) (sym first.geometry) here.below

    by : WhyStays x y j → WasAnswered j call y.told.history z.told.history → why_of z.member j ≡ why.Gone
    by (WhyStays.Went dropped lost) late = gone_stays y z j (second.whys j below) dropped
    by (WhyStays.Same same) late =
        later j call (record { below = below; why = subst (λ (w : Why). (w ≡ why.Here) ⊎ (w ≡ why.Rebuilding)) (sym same) here.why }) late gone

-- AN EPOCH

issuing_gone : (slots : Slots) (editions : List Edition) (j : ℕ) (c : SlotCall) → IsIssuing slots editions j c → IsAnsweredGone c → IsGoneCall c
issuing_gone slots editions j c (AWrite e k answer on among formed small is) =
    subst (λ (d : SlotCall). IsAnsweredGone d → IsGoneCall d) (sym is) (λ gone. gone)
issuing_gone slots editions j c (ASync answer on is) = subst (λ (d : SlotCall). IsAnsweredGone d → IsGoneCall d) (sym is) (λ gone. gone)

pub epoch_left_out : (aim : EpochChange) (m start last : Membership) (refusal : Option FenceFault) (old new : RackState)
    → Establishes aim start last refusal old new → IsTrue new.honest → AreAllLeftOut m last old new
epoch_left_out aim m start last refusal old new e honest j call here was gone =
    let issued = e.issued honest in
    let may = answered_allowed {allowed = IsIssuing issued.slots issued.editions} issued.ran was in
    e.were_gone.dropped j (e.were_gone.told honest j call was (issuing_gone issued.slots issued.editions j call may gone))

pub fence_left_out : (leaving : Slots) (m last : Membership) (answer : Result Slots FenceFault) (old new : RackState)
    → Fences leaving m last answer old new → IsTrue new.honest → AreAllLeftOut m last old new
fence_left_out leaving m last answer old new e = epoch_left_out Fence m e.start last (refusal_of answer) old new e.establishes

-- a slot that is left out is gone then
fence_gone : (leaving : Slots) (m last : Membership) (answer : Result Slots FenceFault) (old new : RackState)
    → Fences leaving m last answer old new → (j : ℕ) → HasSlot leaving j → j < m.array.geometry.n → why_of last j ≡ why.Gone
fence_gone leaving m last answer old new e j has below =
    elim (has_or_not e.establishes.gone j) [
      | inl dropped ↦ e.establishes.were_gone.dropped j dropped
      | inr kept ↦ by e.establishes.began kept ∙ e.leaves.left j has
    ]
  where
    within : j < e.start.array.geometry.n
    within = subst (λ (g : Geometry). j < g.n) (sym (start_geometry leaving m e.start e.leaves)) below

    by : HasBegun Fence e.establishes.gone e.start last → ¬ HasSlot e.establishes.gone j → why_of last j ≡ why_of e.start j
    by (NotYet same whys) kept = whys j within kept
    by (Did above named whys) kept = whys j within kept

-- SLOTS THAT ARE LEFT OUT

pub out_gone : (gone : Slots) (refusal : Option FenceFault) (x y : Snapshot) → FencesGone gone refusal x y → (j : ℕ) → HasSlot gone j
    → j < x.member.array.geometry.n → why_of y.member j ≡ why.Gone
out_gone gone refusal x y (NoneWas none same fine) j has below = absurd (none j has)
out_gone gone refusal x y (Fenced i some answer fine e) j has below = fence_gone gone x.member y.member answer x.told y.told e j has below

out_own : (gone : Slots) (refusal : Option FenceFault) (x y : Snapshot) → FencesGone gone refusal x y → IsTrue y.told.honest → IsLeftOut x y
out_own gone refusal x y (NoneWas none same fine) honest =
    subst (λ (p : Snapshot). IsLeftOut x p) (sym same) (λ j call here was answered. absurd (never_answered j call x.told.history was))
out_own gone refusal x y (Fenced i some answer fine e) honest = fence_left_out gone x.member y.member answer x.told y.told e honest

-- where all that answered gone since x are left out
pub out_left_out : (gone : Slots) (refusal : Option FenceFault) (x y : Snapshot) (mid : RackState) → IsAfter x.told mid
    → (IsTrue mid.honest → (j : ℕ) (call : SlotCall) → WasAnswered j call x.told.history mid.history → IsAnsweredGone call → HasSlot gone j)
    → FencesGone gone refusal (snapshot x.member mid) y → IsTrue y.told.honest → IsLeftOut x y
out_left_out gone refusal x y mid before told leaves honest j call here was answered =
    let after = out_after gone refusal (snapshot x.member mid) y leaves in
    let honest_mid = honest_before mid y.told after honest in
    elim (answered_cases (moment_between {a = any_call} {b = any_call} (before.later.ran honest_mid) (after.later.ran honest)) was) [
      | inl early ↦ out_gone gone refusal (snapshot x.member mid) y leaves j (told honest_mid j call early answered) here.below
      | inr late ↦ out_own gone refusal (snapshot x.member mid) y leaves honest j call here late answered
    ]

-- PHASES

pub written_gone : (what : Writes) (to : ℕ → Type 0) (j : ℕ) (c : SlotCall) → (IsWriteOf what to j c ⊎ IsSyncOf to j c) → IsAnsweredGone c
    → AnswersGone c
written_gone what to j c (inl is) = subst (λ (d : SlotCall). IsAnsweredGone d → AnswersGone d) (sym is.is) (λ gone. gone)
written_gone what to j c (inr is) = subst (λ (d : SlotCall). IsAnsweredGone d → AnswersGone d) (sym is.is) (λ gone. gone)

pub stage_left_out : (what : Writes) (to : Slots) (refusal : Option FenceFault) (x y : Snapshot) → DoesStage what to refusal x y
    → IsTrue y.told.honest → IsLeftOut x y
stage_left_out what to refusal x y does =
    out_left_out does.gone refusal x y does.mid (phase_after what to does.gone x.told does.mid does.phase) told does.leaves
  where
    told : IsTrue does.mid.honest → (j : ℕ) (call : SlotCall) → WasAnswered j call x.told.history does.mid.history → IsAnsweredGone call
        → HasSlot does.gone j
    told honest j call was gone =
        let placed = does.phase.placed honest in
        let either : Ran (λ i c. IsWriteOf what (HasSlot to) i c ⊎ IsSyncOf (HasSlot to) i c) x.told.history does.mid.history =
        ran_join {allowed = λ i c. IsWriteOf what (HasSlot to) i c ⊎ IsSyncOf (HasSlot to) i c}
        (ran_weakened {allowed = IsWriteOf what (HasSlot to)} {more = λ i c. IsWriteOf what (HasSlot to) i c ⊎ IsSyncOf (HasSlot to) i c}
        (λ i c is. inl is) placed.writes)
        (ran_weakened {allowed = IsSyncOf (HasSlot to)} {more = λ i c. IsWriteOf what (HasSlot to) i c ⊎ IsSyncOf (HasSlot to) i c}
        (λ i c is. inr is) placed.syncs) in
        does.phase.told honest j call was
        (written_gone what (HasSlot to) j call
        (answered_allowed {allowed = λ i c. IsWriteOf what (HasSlot to) i c ⊎ IsSyncOf (HasSlot to) i c} either was) gone)

-- READS

pub read_gone : (slots sectors : ℕ → Type 0) (j : ℕ) (c : SlotCall) → IsReadOf slots sectors j c → IsAnsweredGone c
    → (k : ℕ) × (c ≡ Read k got.Gone)
read_gone slots sectors j (Attach answer) is gone = absurd is
read_gone slots sectors j (Sectors size) is gone = absurd is
read_gone slots sectors j (Read k answer) is gone = (k, (λ i. Read k (gone i)))
read_gone slots sectors j (Write k bytes answer) is gone = absurd is
read_gone slots sectors j (Sync answer) is gone = absurd is

-- reads of which those that were answered gone are told
reads_told : (slots sectors : ℕ → Type 0) (gone : Slots) (old new : List Happening) → Ran (IsReadOf slots sectors) old new
    → ((j k : ℕ) → WasAnswered j (Read k got.Gone) old new → HasSlot gone j) → (j : ℕ) (call : SlotCall) → WasAnswered j call old new
    → IsAnsweredGone call → HasSlot gone j
reads_told slots sectors gone old new ran told j call was answered =
    let is = read_gone slots sectors j call (answered_allowed {allowed = IsReadOf slots sectors} ran was) answered in
    told j is.0 (subst (λ (c : SlotCall). WasAnswered j c old new) is.1 was)

-- one round of the gates
gates_left_out : (gates : Gates) (live : Slots) (mid : RackState) (refusal : Option FenceFault) (x y : Snapshot)
    → ReadsGates x.member.array.geometry live gates x.told mid → FencesGone gates.gone refusal (snapshot x.member mid) y → IsTrue y.told.honest
    → IsLeftOut x y
gates_left_out gates live mid refusal x y reads leaves =
    out_left_out gates.gone refusal x y mid (gates_after x.member.array.geometry live gates x.told mid reads)
    (λ honest. reads_told (HasSlot live) IsGateSector gates.gone x.told.history mid.history (reads.ran honest) (reads.told honest)) leaves

pub found_left_out : (redo : Option Redo) (opened : Slots) (refusal : Option FenceFault) (x z : Snapshot) → FindsRedo redo opened refusal x z
    → IsMembership x.member → IsTrue z.told.honest → IsLeftOut x z
found_left_out _ _ _ _ _ (FindsRedo.Found gates live mid x are reads none) rules honest =
    gates_left_out gates live mid None x (snapshot x.member mid) reads (NoneWas none refl refl) honest
found_left_out _ _ _ _ _ (FindsRedo.Again gates live mid redo opened refusal j x y z are reads gone leaves rest) rules honest =
    let first = gates_part gates live mid None x y are reads leaves rules in
    let second = found_part redo opened refusal y z rest first.rules in
    left_out_join 0 0 x y z first second honest
    (gates_left_out gates live mid None x y reads leaves (honest_before y.told z.told second.after honest))
    (found_left_out redo opened refusal y z rest first.rules honest)
found_left_out _ _ _ _ _ (FindsRedo.Stops gates live mid redo opened fault x y are reads leaves) rules honest =
    gates_left_out gates live mid (Some fault) x y reads leaves honest

pub body_left_out : (redo : Redo) (body : Body) (was into : Stripe) (refusal : Option FenceFault) (x y : Snapshot)
    → FindsBody redo body was into refusal x y → IsTrue y.told.honest → IsLeftOut x y
body_left_out redo body was into refusal x y found =
    out_left_out body.gone refusal x y found.mid
    (body_after x.member.array.geometry found.live redo body was into x.told found.mid found.reads)
    (λ honest.
    reads_told (HasSlot found.live) (IsBodySector x.member.array.geometry redo) body.gone x.told.history found.mid.history (found.reads.ran honest)
    (found.reads.told honest)) found.leaves

-- A REDO

pub redo_left_out : (g : Geometry) (redo : Redo) (stripe : Stripe) (stage : Stage) (refusal : Option FenceFault) (x z : Snapshot)
    → Redoes g redo stripe stage refusal x z → IsMembership x.member → g ≡ x.member.array.geometry → IsRedo g redo → IsTrue z.told.honest
    → IsLeftOut x z
redo_left_out g redo stripe _ _ _ _ (Redoes.Ends x) rules same formed honest =
    λ j call here was answered. absurd (never_answered j call x.told.history was)
redo_left_out g redo stripe _ _ _ _ (Redoes.Stops stage to fault x y not_done over does) rules same formed honest =
    stage_left_out (stage_writes g redo stripe stage) to (Some fault) x y does honest
redo_left_out g redo stripe _ _ _ _ (Redoes.Goes stage to refusal x y z not_done over does more) rules same formed honest =
    let first = redo_stage_part g redo stripe stage to None x y over does rules same formed in
    let of_y = same ∙ sym first.geometry in
    let second = redo_part g redo stripe (next stage) refusal y z more first.rules of_y formed in
    left_out_join 0 0 x y z first second honest
    (stage_left_out (stage_writes g redo stripe stage) to None x y does (honest_before y.told z.told second.after honest))
    (redo_left_out g redo stripe (next stage) refusal y z more first.rules of_y formed honest)

pub replay_left_out : (redo : Redo) (stripe : Stripe) (opened : Slots) (refusal : Option FenceFault) (x z : Snapshot)
    → Replays redo stripe opened refusal x z → IsMembership x.member → IsRedo x.member.array.geometry redo → IsTrue z.told.honest
    → IsLeftOut x z
replay_left_out redo stripe opened _ _ _ (Replays.Stops to fault x y are does) rules formed honest =
    stage_left_out (gate_writes (open_gate x.member.array.geometry redo)) to (Some fault) x y does honest
replay_left_out redo stripe opened _ _ _ (Replays.Goes to refusal x y z are does rest) rules formed honest =
    let first = opening_part redo opened to None x y are does rules in
    let of_y = sym first.geometry in
    let second = redo_part x.member.array.geometry redo stripe Placing refusal y z rest first.rules of_y formed in
    left_out_join 0 0 x y z first second honest
    (stage_left_out (gate_writes (open_gate x.member.array.geometry redo)) to None x y does (honest_before y.told z.told second.after honest))
    (redo_left_out x.member.array.geometry redo stripe Placing refusal y z rest first.rules of_y formed honest)
