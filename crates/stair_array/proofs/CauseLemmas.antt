-- Why the parts of a redo and of an opening are refused, and what stands where they aren't, on any rack.
use Rattle.std.proofs.Common.{◌≡◌, ℕ, ◌<◌, inl, inr, refl, sym, ◌∙◌, subst, None, Option, Some}
use Rattle.std.specs.Prelude.{Result}
use Rattle.stair_model.specs.CellSet.{HasCell}
use Rattle.stair_model.specs.Device.{body_sector, gate_sector}
use Rattle.stair_model.specs.Geometry.{Geometry}
use Rattle.stair_model.specs.Slots.{Slots}
use Rattle.stair_model.specs.Stripe.{Stripe}
use Rattle.stair_rack.specs.Placed.{Writes}
use Rattle.stair_rack.specs.Sector.{Damaged, Good}
use Rattle.stair_rack.specs.RackState.{IsReading, RackState}
use Rattle.stair_rack.proofs.RackStateLemmas.{later_none, reading_wider}
use Rattle.stair_member.specs.Counting.{AtMost}
use Rattle.stair_member.specs.Epochs.{IsRefusedBy}
use Rattle.stair_member.specs.Establishing.{Establishes, Fences, refusal_of}
use Rattle.stair_member.specs.Membership.{IsMembership, IsMissing, Membership}
use Rattle.stair_member.specs.declared.aim.EpochChange.{EpochChange}
use Rattle.stair_member.specs.declared.aim.EpochChange.TheVariants.{Fence}
use Rattle.stair_member.specs.declared.fault.FenceFault.{FenceFault}
use Rattle.stair_journal.specs.Bodies.{AllGiven, GivesNot, IsFirstUngiven, UngivenFirst}
use Rattle.stair_journal.specs.Gate.{open_gate}
use Rattle.stair_journal.specs.Gates.{IsFirstRedo, IsRead, NoneOpen, OpenFirst, ReadsGates}
use Rattle.stair_journal.specs.Redo.{IsRedo}
use Rattle.stair_journal.specs.declared.body.Body.{Body}
use Rattle.stair_journal.specs.declared.gates.Gates.{Gates}
use Rattle.stair_journal.specs.declared.redo.Redo.{Redo}
use Rattle.stair_state.specs.Redoing.{Placing, Stage, next}
use Rattle.stair_invariant.specs.Effects.{AreLive, DoesStage, Fenced, FindsBody, FindsRedo, FencesGone, NoneWas, Snapshot, Redoes, Replays, snapshot}
use Rattle.stair_invariant.specs.Session.{IsArray, IsLiveIn}
use Rattle.stair_array.specs.Promise.{unopened}
use Rattle.stair_array.proofs.CourseLemmas.{found_part, gates_part}
use Rattle.stair_array.proofs.GoneToLemmas.{IsAfter, after_none}
use Rattle.stair_array.proofs.OutLemmas.{left_live, left_not}
use Rattle.stair_array.proofs.PartsLemmas.{IsPart, live_back, out_after}

-- WHY A PART IS REFUSED

pub left_refused : (gone : Slots) (refusal : Option FenceFault) (x y : Snapshot) → FencesGone gone refusal x y → (fault : FenceFault)
    → refusal ≡ Some fault → IsRefusedBy y.member fault
left_refused gone refusal x y (NoneWas none same fine) fault is = absurd (let never : None ≡ Some fault = sym fine ∙ is in cc)
left_refused gone refusal x y (Fenced j has answer same e) fault is = (e.establishes.refused fault (sym same ∙ is)).0

pub redo_refused : (g : Geometry) (redo : Redo) (stripe : Stripe) (stage : Stage) (refusal : Option FenceFault) (x z : Snapshot)
    → Redoes g redo stripe stage refusal x z → (fault : FenceFault) → refusal ≡ Some fault → IsRefusedBy z.member fault
redo_refused g redo stripe _ _ _ _ (Redoes.Ends x) fault is = absurd (let never : None ≡ Some fault = is in cc)
redo_refused g redo stripe _ _ _ _ (Redoes.Stops stage to by x y not_done over does) fault is =
    left_refused does.gone (Some by) (snapshot x.member does.mid) y does.leaves fault is
redo_refused g redo stripe _ _ _ _ (Redoes.Goes stage to refusal x y z not_done over does more) fault is =
    redo_refused g redo stripe (next stage) refusal y z more fault is

pub replay_refused : (redo : Redo) (stripe : Stripe) (opened : Slots) (refusal : Option FenceFault) (x z : Snapshot)
    → Replays redo stripe opened refusal x z → (fault : FenceFault) → refusal ≡ Some fault → IsRefusedBy z.member fault
replay_refused redo stripe opened _ _ _ (Replays.Stops to by x y are does) fault is =
    left_refused does.gone (Some by) (snapshot x.member does.mid) y does.leaves fault is
replay_refused redo stripe opened _ _ _ (Replays.Goes to refusal x y z are does rest) fault is =
    redo_refused x.member.array.geometry redo stripe Placing refusal y z rest fault is

pub found_refused : (redo : Option Redo) (opened : Slots) (refusal : Option FenceFault) (x z : Snapshot) → FindsRedo redo opened refusal x z
    → (fault : FenceFault) → refusal ≡ Some fault → IsRefusedBy z.member fault
found_refused _ _ _ _ _ (FindsRedo.Found gates live mid x are reads none) fault is = absurd (let never : None ≡ Some fault = is in cc)
found_refused _ _ _ _ _ (FindsRedo.Again gates live mid redo opened refusal j x y z are reads gone leaves rest) fault is =
    found_refused redo opened refusal y z rest fault is
found_refused _ _ _ _ _ (FindsRedo.Stops gates live mid redo opened by x y are reads leaves) fault is =
    left_refused gates.gone (Some by) (snapshot x.member mid) y leaves fault is

-- WHAT STANDS WHERE IT ISN'T

-- an epoch that stands names what the session knows
pub epoch_array : (aim : EpochChange) (m last : Membership) (refusal : Option FenceFault) (old new : RackState) → Establishes aim m last refusal old new
    → refusal ≡ None → IsArray (unopened last)
epoch_array aim m last refusal old new e fine =
    let stands = (e.done fine).stands in
    record {
      member = e.rules;
      marks = λ j below. stands.marks j (subst (λ (g : Geometry). j < g.n) e.geometry below);
      enough = subst (λ (g : Geometry). AtMost g.m (IsMissing last)) (sym e.geometry) stands.enough;
      rebuilds = λ rebuild is. absurd (cc);
    }

pub fence_array : (leaving : Slots) (m last : Membership) (answer : Result Slots FenceFault) (old new : RackState)
    → Fences leaving m last answer old new → refusal_of answer ≡ None → IsArray (unopened last)
fence_array leaving m last answer old new e = epoch_array Fence e.start last (refusal_of answer) old new e.establishes

pub left_array : (gone : Slots) (refusal : Option FenceFault) (x y : Snapshot) → FencesGone gone refusal x y → refusal ≡ None
    → IsArray (unopened x.member) → IsArray (unopened y.member)
left_array gone refusal x y (NoneWas none same fine) is array = subst (λ (p : Snapshot). IsArray (unopened p.member)) (sym same) array
left_array gone refusal x y (Fenced j has answer same e) is array = fence_array gone x.member y.member answer x.told y.told e (sym same ∙ is)

pub stage_array : (what : Writes) (to : Slots) (refusal : Option FenceFault) (x y : Snapshot) → DoesStage what to refusal x y → refusal ≡ None
    → IsArray (unopened x.member) → IsArray (unopened y.member)
stage_array what to refusal x y does is array = left_array does.gone refusal (snapshot x.member does.mid) y does.leaves is array

pub redo_array : (g : Geometry) (redo : Redo) (stripe : Stripe) (stage : Stage) (refusal : Option FenceFault) (x z : Snapshot)
    → Redoes g redo stripe stage refusal x z → refusal ≡ None → IsArray (unopened x.member) → IsArray (unopened z.member)
redo_array g redo stripe _ _ _ _ (Redoes.Ends x) is array = array
redo_array g redo stripe _ _ _ _ (Redoes.Stops stage to by x y not_done over does) is array = stage_array _ to (Some by) x y does is array
redo_array g redo stripe _ _ _ _ (Redoes.Goes stage to refusal x y z not_done over does more) is array =
    redo_array g redo stripe (next stage) refusal y z more is (stage_array _ to None x y does refl array)

pub replay_array : (redo : Redo) (stripe : Stripe) (opened : Slots) (refusal : Option FenceFault) (x z : Snapshot)
    → Replays redo stripe opened refusal x z → refusal ≡ None → IsArray (unopened x.member) → IsArray (unopened z.member)
replay_array redo stripe opened _ _ _ (Replays.Stops to by x y are does) is array = stage_array _ to (Some by) x y does is array
replay_array redo stripe opened _ _ _ (Replays.Goes to refusal x y z are does rest) is array =
    redo_array x.member.array.geometry redo stripe Placing refusal y z rest is (stage_array _ to None x y does refl array)

pub found_array : (redo : Option Redo) (opened : Slots) (refusal : Option FenceFault) (x z : Snapshot) → FindsRedo redo opened refusal x z
    → refusal ≡ None → IsArray (unopened x.member) → IsArray (unopened z.member)
found_array _ _ _ _ _ (FindsRedo.Found gates live mid x are reads none) is array = array
found_array _ _ _ _ _ (FindsRedo.Again gates live mid redo opened refusal j x y z are reads gone leaves rest) is array =
    found_array redo opened refusal y z rest is (left_array gates.gone None (snapshot x.member mid) y leaves refl array)
found_array _ _ _ _ _ (FindsRedo.Stops gates live mid redo opened by x y are reads leaves) is array =
    left_array gates.gone (Some by) (snapshot x.member mid) y leaves is array

-- WHAT IS READ

-- the gate of a slot that was live read open with this redo
pub record ReadOpen (redo : Redo) (x y : Snapshot) : Type 0 where
  pub formed : IsRedo x.member.array.geometry redo
  pub gate : ℕ
  pub live : IsLiveIn x.member gate
  pub reads_open : IsReading gate gate_sector x.told y.told (Good (open_gate x.member.array.geometry redo))

gates_open : (gates : Gates) (live : Slots) (mid : RackState) (x : Snapshot) → AreLive x.member live
    → (reads : ReadsGates x.member.array.geometry live gates x.told mid) → (redo : Redo) → gates.redo ≡ Some redo
    → ReadOpen redo x (snapshot x.member mid)
gates_open gates live mid x are reads redo is = by gates.redo reads.redo is
  where
    by : (found : Option Redo) → IsFirstRedo x.member.array.geometry (IsRead live gates.gone) reads.gate found → found ≡ Some redo
        → ReadOpen redo x (snapshot x.member mid)
    by _ (NoneOpen closed) never = absurd (cc)
    by _ (OpenFirst j told some is_open lower) same =
        let this : told ≡ redo = cc in
        subst (λ (r : Redo). ReadOpen r x (snapshot x.member mid)) this
        (record {
          formed = is_open.formed;
          gate = j;
          live = (are.are j).0 some.0;
          reads_open = subst (IsReading j gate_sector x.told mid) is_open.good (reads.read j some);
        })

-- and in each longer stretch
pub read_open_later : (more : ℕ) (redo : Redo) (x y z w : Snapshot) (first : IsPart more x y) → IsAfter y.told z.told → IsAfter z.told w.told
    → ReadOpen redo y z → ReadOpen redo x w
read_open_later more redo x y z w first second third is = record {
  formed = subst (λ (g : Geometry). IsRedo g redo) first.geometry is.formed;
  gate = is.gate;
  live = live_back more x y first is.gate is.live;
  reads_open =
      subst (λ (g : Geometry). IsReading is.gate gate_sector x.told w.told (Good (open_gate g redo))) first.geometry
      (reading_wider x.told y.told z.told w.told first.after.later second.later.honest second.later.counts third.later is.gate gate_sector
      (Good (open_gate y.member.array.geometry redo)) is.reads_open);
}

-- so a redo that is found was read in a gate
pub found_open : (found : Option Redo) (opened : Slots) (refusal : Option FenceFault) (x z : Snapshot) → FindsRedo found opened refusal x z
    → refusal ≡ None → IsMembership x.member → (redo : Redo) → found ≡ Some redo → ReadOpen redo x z
found_open _ _ _ _ _ (FindsRedo.Found gates live mid x are reads none) fine rules redo is = gates_open gates live mid x are reads redo is
found_open _ _ _ _ _ (FindsRedo.Again gates live mid found opened refusal j x y z are reads gone leaves rest) fine rules redo is =
    let first = gates_part gates live mid None x y are reads leaves rules in
    read_open_later 0 redo x y z z first (found_part found opened refusal y z rest first.rules).after (after_none z.told)
    (found_open found opened refusal y z rest fine first.rules redo is)
found_open _ _ _ _ _ (FindsRedo.Stops gates live mid found opened by x y are reads leaves) fine rules redo is =
    absurd (let never : Some by ≡ None = fine in cc)

-- a sector of the redo's body read as bad on each slot that was live in the end
pub record ReadLost (redo : Redo) (sector : ℕ) (x y : Snapshot) : Type 0 where
  pub row : ℕ
  pub slot : ℕ
  pub has : HasCell redo.cells row slot
  pub sector_is : sector ≡ body_sector x.member.array.geometry row slot
  pub bad : (j : ℕ) → IsLiveIn y.member j → IsReading j sector x.told y.told Damaged

module _ (redo : Redo) (body : Body) (was into : Stripe) (x y : Snapshot) (found : FindsBody redo body was into None x y) where
  left_after : IsAfter found.mid y.told
  left_after = out_after body.gone None (snapshot x.member found.mid) y found.leaves

  not_given : (j k : ℕ) → IsLiveIn y.member j → GivesNot x.member.array.geometry found.live body.gone was into x.told found.mid j k
      → IsReading j k x.told y.told Damaged
  not_given j k live (inl gone) = absurd (left_not body.gone (snapshot x.member found.mid) y j found.leaves live gone)
  not_given j k live (inr bad) =
      reading_wider x.told x.told found.mid y.told (later_none x.told) found.reads.honest found.reads.counts left_after.later j k Damaged bad

  pub body_lost : (sector : ℕ) → body.unread ≡ Some sector → ReadLost redo sector x y
  body_lost sector is = by body.unread found.reads.unread is
    where
      by : (unread : Option ℕ) → IsFirstUngiven x.member.array.geometry found.live body.gone was into x.told found.mid redo unread
          → unread ≡ Some sector → ReadLost redo sector x y
      by _ (AllGiven all) never = absurd (cc)
      by _ (UngivenFirst i c has ungiven lower) same =
          let this : body_sector x.member.array.geometry i c ≡ sector = cc in
          record {
            row = i;
            slot = c;
            has = has;
            sector_is = sym this;
            bad = λ j live.
                subst (λ (k : ℕ). IsReading j k x.told y.told Damaged) this
                (not_given j (body_sector x.member.array.geometry i c) live
                (ungiven.none j ((found.are_live.are j).1 (left_live body.gone (snapshot x.member found.mid) y j found.leaves live))));
          }
