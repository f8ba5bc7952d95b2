-- The parts of what the calls of an array did, whichever media come back: chains of what the crates below say of their calls.
use Rattle.std.specs.Prelude.{◌≡◌, ◌≢◌, ◌↔◌, ℕ, Option, None, Some, Result}
use Rattle.stair_model.specs.Geometry.{Geometry}
use Rattle.stair_model.specs.Slots.{Slots, HasSlot, IsSlotSet}
use Rattle.stair_model.specs.Stripe.{Stripe}
use Rattle.stair_rack.specs.Placed.{Writes}
use Rattle.stair_rack.specs.RackState.{RackState}
use Rattle.stair_member.specs.Establishing.{Fences, refusal_of}
use Rattle.stair_member.specs.Membership.{IsHere, Membership}
use Rattle.stair_member.specs.declared.fault.FenceFault.{FenceFault}
use Rattle.stair_journal.specs.Bodies.{ReadsBody}
use Rattle.stair_journal.specs.Gate.{closed_gate, open_gate}
use Rattle.stair_journal.specs.Gates.{ReadsGates}
use Rattle.stair_journal.specs.Journalling.{body_writes, gate_writes}
use Rattle.stair_journal.specs.Phases.{DoesPhase}
use Rattle.stair_journal.specs.declared.body.Body.{Body}
use Rattle.stair_journal.specs.declared.gates.Gates.{Gates}
use Rattle.stair_journal.specs.declared.redo.Redo.{Redo}
use Rattle.stair_stripes.specs.Gathering.{Gathers}
use Rattle.stair_stripes.specs.Placing.{cell_writes}
use Rattle.stair_stripes.specs.declared.gathering.Gathered.{Gathered}
use Rattle.stair_state.specs.Redoing.{Stage, AtRest, Uncommitted, Placing, InPlace, Done, next}
use Rattle.stair_invariant.specs.Session.{IsLiveIn}

-- the member, and what the rack tells, at a moment of a call
pub record Snapshot : Type 0 where
  pub member : Membership
  pub told : RackState

abbrev pub snapshot : Membership → RackState → Snapshot
snapshot member told = record { member = member; told = told }

-- the set of the slots that are live, and of those that take part
pub record AreLive (m : Membership) (live : Slots) : Type 0 where
  pub formed : IsSlotSet live
  pub are : (j : ℕ) → HasSlot live j ↔ IsLiveIn m j

pub record TakePart (m : Membership) (to : Slots) : Type 0 where
  pub formed : IsSlotSet to
  pub are : (j : ℕ) → HasSlot to j ↔ IsHere m j

-- LEAVING SLOTS OUT

-- Slots that were gone are left out: where there are any, an epoch is established without them, or that is refused.
pub data FencesGone (gone : Slots) (refusal : Option FenceFault) (x y : Snapshot) : Type 0 where
  NoneWas : ((j : ℕ) → ¬ HasSlot gone j) → y ≡ x → refusal ≡ None → FencesGone gone refusal x y
  Fenced : (j : ℕ) → HasSlot gone j → (answer : Result Slots FenceFault)
      → refusal ≡ refusal_of answer → Fences gone x.member y.member answer x.told y.told
      → FencesGone gone refusal x y

-- A REDO

-- a phase over these slots, and those that were gone are left out
pub record DoesStage (what : Writes) (to : Slots) (refusal : Option FenceFault) (x y : Snapshot)
    : Type 0 where
  pub gone : Slots
  pub mid : RackState
  pub phase : DoesPhase what to gone x.told mid
  pub leaves : FencesGone gone refusal (snapshot x.member mid) y

-- the slots of a stage's phase: cells are placed on those that are rebuilt too
abbrev pub IsOver : Stage → Membership → Slots → Type 0
IsOver Placing m to = TakePart m to
IsOver _ m to = AreLive m to

abbrev pub stage_writes : Geometry → Redo → Stripe → Stage → Writes
stage_writes g redo stripe AtRest = body_writes g redo stripe
stage_writes g redo stripe Uncommitted = gate_writes (open_gate g redo)
stage_writes g redo stripe Placing = cell_writes g redo stripe
stage_writes g redo stripe InPlace = gate_writes closed_gate
stage_writes g redo stripe Done = λ j k. None

-- A redo from a stage on, to its end or to a refusal. Each phase is over the slots of the member as it is then, and none
-- begins before those that were gone in the one before are left out.
pub data Redoes (g : Geometry) (redo : Redo) (stripe : Stripe)
    : Stage → Option FenceFault → Snapshot → Snapshot → Type 0 where
  Ends : (x : Snapshot) → Redoes g redo stripe Done None x x
  Goes : (stage : Stage) (to : Slots) (refusal : Option FenceFault) (x y z : Snapshot) → stage ≢ Done
      → IsOver stage x.member to → DoesStage (stage_writes g redo stripe stage) to None x y
      → Redoes g redo stripe (next stage) refusal y z → Redoes g redo stripe stage refusal x z
  Stops : (stage : Stage) (to : Slots) (fault : FenceFault) (x y : Snapshot) → stage ≢ Done
      → IsOver stage x.member to
      → DoesStage (stage_writes g redo stripe stage) to (Some fault) x y
      → Redoes g redo stripe stage (Some fault) x y

-- LOADING

-- wanted cells of stripe t are gathered over the live slots, and those that were gone are left out
pub record Loads (t : ℕ) (wanted : ℕ → ℕ → Type 0) (gathered : Gathered) (was into : Stripe)
    (refusal : Option FenceFault) (x y : Snapshot) : Type 0 where
  pub live : Slots
  pub are_live : AreLive x.member live
  pub mid : RackState
  pub gathers : Gathers x.member.array.geometry live t wanted gathered was into x.told mid
  pub leaves : FencesGone gathered.gone refusal (snapshot x.member mid) y

-- WHAT A CUT SESSION LEFT

-- The gates of the live slots are read, and again after slots that were gone are left out. This redo was found, or none, and
-- these slots are open with it.
pub data FindsRedo : Option Redo → Slots → Option FenceFault → Snapshot → Snapshot → Type 0 where
  Found : (gates : Gates) (live : Slots) (mid : RackState) (x : Snapshot) → AreLive x.member live
      → ReadsGates x.member.array.geometry live gates x.told mid
      → ((j : ℕ) → ¬ HasSlot gates.gone j)
      → FindsRedo gates.redo gates.opened None x (snapshot x.member mid)
  Again : (gates : Gates) (live : Slots) (mid : RackState) (redo : Option Redo) (opened : Slots)
      (refusal : Option FenceFault) (j : ℕ) (x y z : Snapshot) → AreLive x.member live
      → ReadsGates x.member.array.geometry live gates x.told mid → HasSlot gates.gone j
      → FencesGone gates.gone None (snapshot x.member mid) y → FindsRedo redo opened refusal y z
      → FindsRedo redo opened refusal x z
  Stops : (gates : Gates) (live : Slots) (mid : RackState) (redo : Option Redo) (opened : Slots)
      (fault : FenceFault) (x y : Snapshot) → AreLive x.member live
      → ReadsGates x.member.array.geometry live gates x.told mid
      → FencesGone gates.gone (Some fault) (snapshot x.member mid) y
      → FindsRedo redo opened (Some fault) x y

-- the body of a redo is read over the live slots, and those that were gone are left out
pub record FindsBody (redo : Redo) (body : Body) (was into : Stripe) (refusal : Option FenceFault)
    (x y : Snapshot) : Type 0 where
  pub live : Slots
  pub are_live : AreLive x.member live
  pub mid : RackState
  pub reads : ReadsBody x.member.array.geometry live redo body was into x.told mid
  pub leaves : FencesGone body.gone refusal (snapshot x.member mid) y

-- the live slots whose gates don't read open with the redo
pub record AreUnopened (m : Membership) (opened to : Slots) : Type 0 where
  pub formed : IsSlotSet to
  pub are : (j : ℕ) → HasSlot to j ↔ (IsLiveIn m j × ¬ HasSlot opened j)

-- A redo whose body was found whole is done again: the gates that aren't open are opened, and its cells are placed. An open
-- gate isn't written again.
pub data Replays (redo : Redo) (stripe : Stripe) (opened : Slots) : Option FenceFault → Snapshot → Snapshot
    → Type 0 where
  Goes : (to : Slots) (refusal : Option FenceFault) (x y z : Snapshot) → AreUnopened x.member opened to
      → DoesStage (gate_writes (open_gate x.member.array.geometry redo)) to None x y
      → Redoes x.member.array.geometry redo stripe Placing refusal y z
      → Replays redo stripe opened refusal x z
  Stops : (to : Slots) (fault : FenceFault) (x y : Snapshot) → AreUnopened x.member opened to
      → DoesStage (gate_writes (open_gate x.member.array.geometry redo)) to (Some fault) x y
      → Replays redo stripe opened (Some fault) x y
