-- A redo, from phase to phase.
use Rattle.std.proofs.Common.{◌≡◌, ◌≢◌, ℕ, List, inl, refl, sym, subst, arith, Option, None, Some, []}
use Rattle.std.specs.Prelude.{IsTrue, Ok, Err}
use Rattle.stair_model.specs.CellSet.{HasCell}
use Rattle.stair_model.specs.Geometry.{Geometry}
use Rattle.stair_model.specs.Slots.{Slots, HasSlot}
use Rattle.stair_model.specs.Stripe.{Stripe, cell}
use Rattle.stair_rack.specs.Answers.{Ran, any_call}
use Rattle.stair_rack.specs.History.{Happening, slot_state, stopped}
use Rattle.stair_rack.specs.Moments.{IsMoment}
use Rattle.stair_rack.specs.Placed.{IsSlot, Placed, Writes}
use Rattle.stair_rack.specs.Stretch.{NothingReturned}
use Rattle.stair_rack.proofs.MomentLemmas.{moment_between, ran_any, ran_join, ran_none}
use Rattle.stair_rack.proofs.OfflineLemmas.{stopped_on}
use Rattle.stair_rack.proofs.KeepingLemmas.{phase_ran}
use Rattle.stair_rack.proofs.StretchLemmas.{each_after, each_before}
use Rattle.stair_member.specs.Epochs.{IsIssuing}
use Rattle.stair_member.specs.Membership.{IsHere, Membership}
use Rattle.stair_member.specs.declared.fault.FenceFault.{FenceFault}
use Rattle.stair_journal.specs.declared.redo.Redo.{Redo}
use Rattle.stair_invariant.proofs.RebaseLemmas.{stage_now}
use Rattle.stair_state.specs.Blocks.{Codewords}
use Rattle.stair_state.specs.Represents.{IsLargeEnough}
use Rattle.stair_state.proofs.StageLemmas.{SlotIn, is_in, slot_in}
use Rattle.stair_state.specs.Redoing.{AtRest, Done, InPlace, IsIn, IsRedoing, Placing, Redoing, Stage, Uncommitted, next, writes_in}
use Rattle.stair_invariant.specs.Effects.{AreLive, DoesStage, Ends, Fenced, Goes, IsOver, FencesGone, NoneWas, Snapshot, Redoes, Stops, snapshot, stage_writes}
use Rattle.stair_invariant.specs.InSession.{IsInSession}
use Rattle.stair_invariant.specs.Session.{ServesSlot}
use Rattle.stair_invariant.specs.UnderWay.{IsInUse, IsUnderWay}
use Rattle.stair_invariant.proofs.BesideLemmas.{epoch_of, opens, served}
use Rattle.stair_invariant.proofs.HonestLemmas.{honest_first, mid_honest}
use Rattle.stair_invariant.proofs.UnderWayLemmas.{way_ends, way_left, writes_same}

-- CALLS

pub out_ran : (gone : Slots) (refusal : Option FenceFault) (x y : Snapshot) → FencesGone gone refusal x y → IsTrue y.told.honest
    → Ran any_call x.told.history y.told.history
out_ran gone refusal x y (NoneWas none same fine) honest =
    subst (λ (p : Snapshot). Ran any_call x.told.history p.told.history) (sym same) (ran_none x.told.history)
out_ran gone refusal x y (Fenced j has answer fine e) honest =
    let issued = e.establishes.issued honest in ran_any {allowed = IsIssuing issued.slots issued.editions} issued.ran

-- the slots of a phase take part
pub over_here : (stage : Stage) (m : Membership) (to : Slots) → IsOver stage m to → (j : ℕ) → HasSlot to j → IsHere m j
over_here stage m to over j on = by stage over
  where
    live : AreLive m to → IsHere m j
    live is = let at = (is.are j).0 on in record { below = at.below; why = inl at.why }

    by : (x : Stage) → IsOver x m to → IsHere m j
    by AtRest is = live is
    by Uncommitted is = live is
    by Placing is = (is.are j).0 on
    by InPlace is = live is
    by Done is = live is

-- ONE PHASE, and what is left out after it

module _ (a : Redoing) (redoing : IsRedoing a) (stripe : Stripe)
    (cells : (i c : ℕ) → HasCell a.redo.cells i c → cell stripe i c ≡ cell (a.new a.redo.stripe) i c) (start : List Happening) where
  module _ (stage : Stage) (to : Slots) (refusal : Option FenceFault) (x y : Snapshot) (over : IsOver stage x.member to)
      (does : DoesStage (stage_writes a.geometry a.redo stripe stage) to refusal x y) (honest : IsTrue y.told.honest) where
    abbrev pub placed : Placed (writes_in a stage) (HasSlot to) (HasSlot does.gone) x.told.history does.mid.history
    placed =
        subst (λ (what : Writes). Placed what (HasSlot to) (HasSlot does.gone) x.told.history does.mid.history) (writes_same a stripe stage cells)
        (does.phase.placed (mid_honest (stage_writes a.geometry a.redo stripe stage) to refusal x y does honest))

    pub ran_first : Ran any_call x.told.history does.mid.history
    ran_first = ran_any (phase_ran placed)

    pub ran_then : Ran any_call does.mid.history y.told.history
    ran_then = out_ran does.gone refusal (snapshot x.member does.mid) y does.leaves honest

    pub stage_ran : Ran any_call x.told.history y.told.history
    stage_ran = ran_join {allowed = any_call} ran_first ran_then

    pub halfway : IsMoment x.told.history does.mid.history y.told.history
    halfway = moment_between {a = any_call} {b = any_call} ran_first ran_then

    pub were_here : (j : ℕ) → HasSlot does.gone j → IsHere x.member j
    were_here j was = over_here stage x.member to over j (does.phase.among j was)

  pub phase : (stage : Stage) (to : Slots) (x y : Snapshot) → (stage ≢ Done) → IsOver stage x.member to → IsUnderWay a stage start x.member x.told.history
      → (does : DoesStage (stage_writes a.geometry a.redo stripe stage) to None x y) → IsTrue y.told.honest
      → NothingReturned x.told.history y.told.history → ¬ IsTrue (stopped y.told.history)
      → IsUnderWay a (next stage) start y.member y.told.history
  phase stage to x y not_done over way does honest returned going = by does.leaves
    where
      at : IsMoment x.told.history does.mid.history y.told.history
      at = halfway stage to None x y over does honest

      mid_way : IsUnderWay a (next stage) start x.member does.mid.history
      mid_way =
          way_ends a redoing stage start x.member to over (HasSlot does.gone) x.told.history does.mid.history way
          (placed stage to None x y over does honest) (each_before returned at) not_done
          (λ stops. going (stopped_on {allowed = any_call} (ran_then stage to None x y over does honest) stops))

      by : FencesGone does.gone None (snapshot x.member does.mid) y → IsUnderWay a (next stage) start y.member y.told.history
      by (NoneWas none same fine) = subst (λ (p : Snapshot). IsUnderWay a (next stage) start p.member p.told.history) (sym same) mid_way
      by (Fenced j has (Err fault) fine e) = absurd (cc)
      by (Fenced j has (Ok fallen) fine e) =
          way_left a (next stage) start does.gone fallen x.member y.member does.mid y.told mid_way
          (were_here stage to None x y over does honest) e honest (each_after returned at) going

  -- FROM A STAGE ON

  pub redo_ran : (stage : Stage) (refusal : Option FenceFault) (x z : Snapshot) (run : Redoes a.geometry a.redo stripe stage refusal x z)
      → IsTrue z.told.honest → Ran any_call x.told.history z.told.history
  redo_ran _ _ _ _ (Ends x) honest = ran_none x.told.history
  redo_ran _ _ _ _ (Goes stage to refusal x y z not_done over does more) honest =
      ran_join {allowed = any_call}
      (stage_ran stage to None x y over does (honest_first a.geometry a.redo stripe (next stage) refusal y z more honest))
      (redo_ran (next stage) refusal y z more honest)
  redo_ran _ _ _ _ (Stops stage to fault x y not_done over does) honest = stage_ran stage to (Some fault) x y over does honest

  pub way_done : (stage : Stage) (refusal : Option FenceFault) (x z : Snapshot) (run : Redoes a.geometry a.redo stripe stage refusal x z)
      → IsTrue z.told.honest → refusal ≡ None → IsUnderWay a stage start x.member x.told.history
      → NothingReturned x.told.history z.told.history → ¬ IsTrue (stopped z.told.history) → IsUnderWay a Done start z.member z.told.history
  way_done _ _ _ _ (Ends x) honest fine way returned going = way
  way_done _ _ _ _ (Stops stage to fault x y not_done over does) honest fine way returned going = absurd (cc)
  way_done _ _ _ _ (Goes stage to refusal x y z not_done over does more) honest fine way returned going =
      let now = honest_first a.geometry a.redo stripe (next stage) refusal y z more honest in
      let first = stage_ran stage to None x y over does now in
      let rest = redo_ran (next stage) refusal y z more honest in
      let at = moment_between {a = any_call} {b = any_call} first rest in
      way_done (next stage) refusal y z more honest fine
      (phase stage to x y not_done over way does now (each_before returned at)
      (λ stops. going (stopped_on {allowed = any_call} rest stops)))
      (each_after returned at) going

-- ITS BEGINNING AND ITS END

abbrev same_redo : Redoing → Geometry → Redoing
same_redo a g = record { geometry = g; redo = a.redo; old = a.old; new = a.new }

pub way_begins : (a : Redoing) (m : Membership) (h : List Happening) → IsInSession m a.old h → a.geometry ≡ m.array.geometry → IsUnderWay a AtRest h m h
way_begins a m h is same = record {
  geometry = same;
  ran = ran_none h;
  epoch = epoch_of m a.old h is;
  cells =
      is_in a AtRest (IsInUse m h) h h
      (λ j used.
      slot_in a AtRest (IsSlot j) h h
      (subst (λ g. IsIn (same_redo a g) AtRest (IsSlot j) h h) (sym same) ((is.live j used.0.below used.0.why used.1).rests a.redo a.new)) j refl);
  same = λ j used pulled. omega (arith, pulled);
  large = λ j used. subst (λ g. IsLargeEnough g (slot_state h j).size) (sym same) (is.live j used.0.below used.0.why used.1).large;
}

pub way_opens : (a : Redoing) (start : List Happening) (m : Membership) (h : List Happening) → IsUnderWay a Done start m h → IsInSession m a.new h
way_opens a start m h way =
    opens m a.new h way.epoch
    (λ j below up on.
    let used : IsInUse m h j = (record { below = below; why = up }, on) in
    subst (λ (g : Geometry). ServesSlot g a.new h j) way.geometry
    (served a start h j
    (is_in a Done (IsSlot j) start h
    (λ i at. subst (SlotIn a Done start h) (sym at) (slot_in a Done (IsInUse m h) start h way.cells j used))) (way.same j used) (way.large j used)))

-- From rest to its end a redo leads from the old stripes to the new ones.
pub redo : (a : Redoing) (stripe : Stripe) (x z : Snapshot) → IsRedoing a
    → ((i c : ℕ) → HasCell a.redo.cells i c → cell stripe i c ≡ cell (a.new a.redo.stripe) i c) → IsInSession x.member a.old x.told.history
    → a.geometry ≡ x.member.array.geometry → (run : Redoes a.geometry a.redo stripe AtRest None x z)
    → IsTrue z.told.honest → NothingReturned x.told.history z.told.history → ¬ IsTrue (stopped z.told.history)
    → IsInSession z.member a.new z.told.history
redo a stripe x z redoing cells is same run honest returned going =
    way_opens a x.told.history z.member z.told.history
    (way_done a redoing stripe cells x.told.history AtRest None x z run honest refl (way_begins a x.member x.told.history is same) returned going)

-- SLOTS THAT ARE LEFT OUT IN A SESSION

-- a redo that leads from these stripes, at rest
abbrev pub resting : Geometry → Codewords → Redo → Codewords → Redoing
resting g words redo after = record { geometry = g; redo = redo; old = words; new = after }

-- of no cells: at rest nothing is said of it
pub no_redo : Redo
no_redo = record { stripe = 0; cells = record { rows = [] } }

-- With slots left out a session holds the stripes that it held.
pub left_in_session : (gone : Slots) (x y : Snapshot) (words : Codewords) → FencesGone gone None x y → IsInSession x.member words x.told.history
    → ((j : ℕ) → HasSlot gone j → IsHere x.member j) → IsTrue y.told.honest → NothingReturned x.told.history y.told.history
    → ¬ IsTrue (stopped y.told.history) → IsInSession y.member words y.told.history
left_in_session gone x y words (NoneWas none same fine) is here honest returned going =
    subst (λ (p : Snapshot). IsInSession p.member words p.told.history) (sym same) is
left_in_session gone x y words (Fenced j has (Err fault) fine e) is here honest returned going = absurd (cc)
left_in_session gone x y words (Fenced k has (Ok fallen) fine e) is here honest returned going =
    opens y.member words y.told.history (way no_redo words).epoch
    (λ j below up on.
    let used : IsInUse y.member y.told.history j = (record { below = below; why = up }, on) in
    record {
      rests = λ redo after.
          let now = way redo after in
          subst (λ g. IsIn (same_redo (resting x.member.array.geometry words redo after) g) AtRest (IsSlot j) y.told.history y.told.history) now.geometry
          (stage_now (resting x.member.array.geometry words redo after) AtRest (IsInUse y.member y.told.history) (IsSlot j) x.told.history y.told.history now.cells
          (λ i at. (subst (IsInUse y.member y.told.history) (sym at) used, now.same i (subst (IsInUse y.member y.told.history) (sym at) used))));
      large =
          subst (λ (g : Geometry). IsLargeEnough g (slot_state y.told.history j).size) (way no_redo words).geometry
          ((way no_redo words).large j used);
    })
  where
    way : (redo : Redo) (after : Codewords) → IsUnderWay (resting x.member.array.geometry words redo after) AtRest x.told.history y.member y.told.history
    way redo after =
        way_left (resting x.member.array.geometry words redo after) AtRest x.told.history gone fallen x.member y.member x.told y.told
        (way_begins (resting x.member.array.geometry words redo after) x.member x.told.history is refl) here e honest returned going
