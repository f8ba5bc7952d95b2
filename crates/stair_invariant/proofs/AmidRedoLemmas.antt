-- A redo leads the record of a session from stage to stage, over the slots that are live still.
use Rattle.std.proofs.Common.{ℕ, ◌<◌, ◌∙◌, ◌≡◌, ◌≢◌, ◌⊎◌, List, None, Option, Some, inl, inr, refl, subst, sym}
use Rattle.std.specs.Prelude.{IsTrue}
use Rattle.stair_model.specs.Geometry.{Geometry}
use Rattle.stair_model.specs.Slots.{HasSlot, Slots}
use Rattle.stair_rack.specs.Answers.{Ran, IsHistory}
use Rattle.stair_rack.specs.History.{Happening, slot_state, stopped}
use Rattle.stair_rack.specs.Offline.{IsAttached, WasPulled}
use Rattle.stair_rack.specs.Placed.{IsSlot, Placed}
use Rattle.stair_rack.specs.Stretch.{NothingReturned, every_slot}
use Rattle.stair_rack.specs.RackState.{RackState}
use Rattle.stair_rack.proofs.MomentLemmas.{at_last, ran_any, ran_join, ran_none, ran_weakened}
use Rattle.stair_member.specs.Epochs.{IsIssuing}
use Rattle.stair_member.specs.Fencing.{IsBegun}
use Rattle.stair_member.specs.Membership.{Membership, why_of}
use Rattle.stair_member.specs.declared.aim.EpochChange.TheVariants.{Fence}
use Rattle.stair_member.specs.declared.why.Why.{Why}
use Rattle.stair_member.specs.declared.why.Why.TheVariants.{Gone, Here, Rebuilding}
use Rattle.stair_member.proofs.CountingLemmas.{has_or_not}
use Rattle.stair_state.specs.Blocks.{AreEncodingsOf, Codewords}
use Rattle.stair_state.specs.Redoing.{AtRest, AttachesNone, Done, InPlace, IsIn, IsRedoing, Placing, Redoing, Stage, Uncommitted, WritesNone, new_in, next, old_in, writes_in}
use Rattle.stair_state.specs.Represents.{IsLargeEnough, Represents}
use Rattle.stair_state.specs.State.{Change, Content, changed_if}
use Rattle.stair_state.specs.Tolerance.{IsTolerated}
use Rattle.stair_state.proofs.RedoRunLemmas.{answered, phase_attaches, unwritten}
use Rattle.stair_state.proofs.StageLemmas.{SlotIn, is_in, slot_in}
use Rattle.stair_invariant.specs.Chunks.{IsBesideChunks}
use Rattle.stair_invariant.specs.Effects.{AreLive, DoesStage, Fenced, IsOver, FencesGone, NoneWas, Snapshot, snapshot, stage_writes}
use Rattle.stair_invariant.specs.InSession.{state_with}
use Rattle.stair_invariant.specs.Leading.{IsAmidRedo, led_to, rebuild_in, rebuilt_words, IsOpenAmid}
use Rattle.stair_invariant.specs.Rebuilding.{IsRebuiltTo, Rebuild}
use Rattle.stair_invariant.specs.Session.{ArrayState, IsLiveIn, IsOpenWith, IsRebuiltIn}
use Rattle.stair_invariant.specs.UnderWay.{IsInUse, IsUnderWay}
use Rattle.stair_invariant.proofs.AmidLemmas.{represents_amid}
use Rattle.stair_invariant.proofs.BesideLemmas.{large_on}
use Rattle.stair_invariant.proofs.EstablishingLemmas.{issuing_attaches, issuing_writes}
use Rattle.stair_invariant.proofs.KnownLemmas.{attached_before}
use Rattle.stair_invariant.proofs.LeftOutLemmas.{start_geometry, why_before}
use Rattle.stair_invariant.proofs.OpenLaws.{goes_on_within}
use Rattle.stair_invariant.proofs.OpenWithLemmas.{amid_of, epoch_amid, goes_on_from, issued_beside, redone_amid}
use Rattle.stair_invariant.proofs.RebuildingLemmas.{rebuilt_beside, rebuilt_placed}
use Rattle.stair_invariant.proofs.StageBesideLemmas.{phase_spares, placed, stage_amid, amid_stage}

-- SLOTS THAT TAKE PART STILL

-- a slot that isn't gone once slots are left out had the reason that it has, and isn't one of these
module _ (leaving : Slots) (m : Membership) (x : RackState) (y : Snapshot) (j : ℕ) (w : Why) (other : w ≢ Gone) where
  pub still_for : FencesGone leaving None (snapshot m x) y → j < y.member.array.geometry.n → why_of y.member j ≡ w
      → (j < m.array.geometry.n) × (why_of m j ≡ w) × ¬ HasSlot leaving j
  still_for (NoneWas out same quiet) below is =
      subst (λ (p : Snapshot). j < p.member.array.geometry.n → why_of p.member j ≡ w
      → (j < m.array.geometry.n) × (why_of m j ≡ w) × ¬ HasSlot leaving j) (sym same) (λ inside was. (inside, was, out j)) below is
  still_for (Fenced i has answer fine does) below is =
      let stands = does.establishes.done (sym fine) in
      let inside : j < does.start.array.geometry.n = subst (λ (g : Geometry). j < g.n) does.establishes.geometry below in
      let was : why_of does.start j ≡ w =
      elim (has_or_not does.establishes.gone j) [
        | inl dropped ↦ absurd (other (sym is ∙ does.establishes.were_gone.dropped j dropped))
        | inr out ↦ sym (stands.whys j inside out) ∙ is
      ] in (
        subst (λ (g : Geometry). j < g.n) (start_geometry leaving m does.start does.leaves) inside,
        sym (why_before leaving m does.start does.leaves j (λ gone. other (sym was ∙ gone))) ∙ was,
        λ left. other (sym was ∙ does.leaves.left j left),
      )

pub live_still : (leaving : Slots) (m : Membership) (x : RackState) (y : Snapshot) (j : ℕ) → FencesGone leaving None (snapshot m x) y → IsLiveIn y.member j
    → IsLiveIn m j × ¬ HasSlot leaving j
live_still leaving m x y j leaves live =
    let was = still_for leaving m x y j Here (λ same. cc) leaves live.below live.why in (record { below = was.0; why = was.1 }, was.2)

leaves_attach : (leaving : Slots) (m : Membership) (x : RackState) (y : Snapshot) → FencesGone leaving None (snapshot m x) y → IsTrue y.told.honest
    → Ran (AttachesNone every_slot) x.history y.told.history
leaves_attach leaving m x y (NoneWas out same quiet) honest =
    subst (λ (p : Snapshot). Ran (AttachesNone every_slot) x.history p.told.history) (sym same) (ran_none {allowed = AttachesNone every_slot} x.history)
leaves_attach leaving m x y (Fenced j has answer fine does) honest =
    let issued = does.establishes.issued honest in
    ran_weakened {allowed = IsIssuing issued.slots issued.editions} {more = AttachesNone every_slot}
    (λ i c may. issuing_attaches issued.slots issued.editions every_slot i c may) issued.ran

pub leaves_write : (live : ℕ → Type 0) (leaving : Slots) (m : Membership) (x : RackState) (y : Snapshot) → FencesGone leaving None (snapshot m x) y
    → IsTrue y.told.honest → Ran (WritesNone live) x.history y.told.history
leaves_write live leaving m x y (NoneWas out same quiet) honest =
    subst (λ (p : Snapshot). Ran (WritesNone live) x.history p.told.history) (sym same) (ran_none {allowed = WritesNone live} x.history)
leaves_write live leaving m x y (Fenced j has answer fine does) honest =
    let issued = does.establishes.issued honest in
    ran_weakened {allowed = IsIssuing issued.slots issued.editions} {more = WritesNone live}
    (λ i c may. issuing_writes issued.slots issued.editions live i c may) issued.ran

leaves_geometry : (leaving : Slots) (m : Membership) (x : RackState) (y : Snapshot) → FencesGone leaving None (snapshot m x) y
    → y.member.array.geometry ≡ m.array.geometry
leaves_geometry leaving m x y (NoneWas out same quiet) =
    subst (λ (p : Snapshot). p.member.array.geometry ≡ m.array.geometry) (sym same) refl
leaves_geometry leaving m x y (Fenced j has answer fine does) =
    does.establishes.geometry ∙ start_geometry leaving m does.start does.leaves

leaves_beside : (g : Geometry) (j next : ℕ) (leaving : Slots) (m : Membership) (x : RackState) (y : Snapshot) → FencesGone leaving None (snapshot m x) y
    → IsTrue y.told.honest → Ran (IsBesideChunks g j next) x.history y.told.history
leaves_beside g j next leaving m x y (NoneWas out same quiet) honest =
    subst (λ (p : Snapshot). Ran (IsBesideChunks g j next) x.history p.told.history) (sym same) (ran_none {allowed = IsBesideChunks g j next} x.history)
leaves_beside g j next leaving m x y (Fenced i has answer fine does) honest =
    issued_beside Fence does.establishes.gone does.start y.member x.history y.told.history (does.establishes.issued honest) g j next

-- a phase is over each live slot
pub over_live : (m : Membership) (to : Slots) (stage : Stage) → IsOver stage m to → (j : ℕ) → IsLiveIn m j → HasSlot to j
over_live m to Placing over j live = (over.are j).1 (record { below = live.below; why = inl live.why })
over_live m to stage over j live = (over.are j).1 live

-- ITS BEGINNING

pub redo_begins : (r : Redoing) (before : List Happening) (a : ArrayState) (h : List Happening) → IsOpenWith before a r.old h
    → r.geometry ≡ a.member.array.geometry → IsAmidRedo r before a AtRest h h
redo_begins r before a h is same = record {
  amid = amid_of before a r.old h is;
  geometry = same;
  ran = ran_none {allowed = AttachesNone every_slot} h;
  large = λ j live on. subst (λ (g : Geometry). IsLargeEnough g (slot_state h j).size) (sym same) (is.live j live on).large;
  is_in =
      is_in r AtRest (λ j. IsLiveIn a.member j × IsAttached h j) h h
      (λ j on.
      slot_in r AtRest (IsSlot j) h h
      (subst (λ (g : Geometry). IsIn (record { geometry = g; redo = r.redo; old = r.old; new = r.new }) AtRest (IsSlot j) h h) (sym same)
      ((is.live j on.0 on.1).rests r.redo r.new)) j refl);
  rebuilt = λ rebuild of on.
      subst (λ (g : Geometry). IsRebuiltTo g r.old rebuild.slot rebuild.stripe h h) (sym same) (is.rebuilt rebuild of on);
}

-- A STAGE

-- a slot that is rebuilt is one of a phase exactly where cells are placed
over_rebuilt : (m : Membership) (to : Slots) (stage : Stage) → IsOver stage m to → (j : ℕ) → IsRebuiltIn m j
    → ((stage ≡ Placing) × HasSlot to j) ⊎ ((stage ≢ Placing) × ¬ HasSlot to j)
over_rebuilt m to stage over j rebuilt = by stage over
  where
    never : AreLive m to → ¬ HasSlot to j
    never is on = let clash : Here ≡ Rebuilding = sym ((is.are j).0 on).why ∙ rebuilt.why in cc

    by : (x : Stage) → IsOver x m to → ((x ≡ Placing) × HasSlot to j) ⊎ ((x ≢ Placing) × ¬ HasSlot to j)
    by AtRest is = inr (λ same. cc, never is)
    by Uncommitted is = inr (λ same. cc, never is)
    by Placing is = inl (refl, (is.are j).1 (record { below = rebuilt.below; why = inr rebuilt.why }))
    by InPlace is = inr (λ same. cc, never is)
    by Done is = inr (λ same. cc, never is)

-- and holds the same stripes after any other phase
words_still : (r : Redoing) (stage : Stage) → stage ≢ Placing → rebuilt_words r (next stage) ≡ rebuilt_words r stage
words_still r AtRest other = refl
words_still r Uncommitted other = refl
words_still r Placing other = absurd (other refl)
words_still r InPlace other = refl
words_still r Done other = refl

module _ (r : Redoing) (redoing : IsRedoing r) (before : List Happening) (a : ArrayState) (stage : Stage) (to : Slots) (start : List Happening)
    (x : RackState) (y : Snapshot) (over : IsOver stage a.member to)
    (does : DoesStage (stage_writes r.geometry r.redo (r.new r.redo.stripe) stage) to None (snapshot a.member x) y)
    (honest : IsTrue y.told.honest) (is : IsAmidRedo r before a stage start x.history) where
  abbrev Still : ℕ → Type 0
  Still j = IsLiveIn y.member j × IsAttached start j

  fewer : IsIn r stage Still start x.history
  fewer =
      is_in r stage Still start x.history
      (λ j on.
      slot_in r stage (λ i. IsLiveIn a.member i × IsAttached start i) start x.history is.is_in j
      ((live_still does.gone a.member does.mid y j does.leaves on.0).0, on.1))

  reached : IsIn r (next stage) Still start does.mid.history
  reached =
      answered r Still start stage (HasSlot to) (HasSlot does.gone) x.history does.mid.history redoing
      (ran_any {allowed = AttachesNone every_slot} is.ran) fewer
      (placed r redoing before a stage to x y over does honest)
      (λ j on.
      let still = live_still does.gone a.member does.mid y j does.leaves on.0 in inl (over_live a.member to stage over j still.0, still.1))

  led : IsIn r (next stage) Still start y.told.history
  led =
      at_last {P = IsIn r (next stage) Still start}
      (unwritten r Still start (next stage) does.mid.history y.told.history reached
      (leaves_write Still does.gone a.member does.mid y does.leaves honest))

  -- the chunks that a rebuild has come to go with it
  module _ (rebuild : Rebuild) (of : rebuild_in y.member a.rebuild ≡ Some rebuild) (on : IsAttached start rebuild.slot) where
    was : a.rebuild ≡ Some rebuild
    was = (goes_on_from y.member a.rebuild rebuild of).0

    slot : IsRebuiltIn a.member rebuild.slot
    slot = (is.amid.array.rebuilds rebuild was).0

    slot_in_array : rebuild.slot < r.geometry.n
    slot_in_array = subst (λ (g : Geometry). rebuild.slot < g.n) (sym is.geometry) slot.below

    -- it wasn't gone to the phase, since it is rebuilt still
    not_gone : ¬ HasSlot does.gone rebuild.slot
    not_gone =
        (still_for does.gone a.member does.mid y rebuild.slot Rebuilding (λ same. cc) does.leaves
        (subst (λ (g : Geometry). rebuild.slot < g.n) (sym (leaves_geometry does.gone a.member does.mid y does.leaves)) slot.below)
        (goes_on_from y.member a.rebuild rebuild of).1).2

    abbrev phase : Placed (writes_in r stage) (HasSlot to) (HasSlot does.gone) x.history does.mid.history
    phase = placed r redoing before a stage to x y over does honest

    after_phase : IsRebuiltTo r.geometry (rebuilt_words r (next stage)) rebuild.slot rebuild.stripe start does.mid.history
    after_phase =
        elim (over_rebuilt a.member to stage over rebuild.slot slot) [
          | inr beside ↦
              subst (λ (words : Codewords). IsRebuiltTo r.geometry words rebuild.slot rebuild.stripe start does.mid.history)
              (sym (words_still r stage beside.0))
              (rebuilt_beside r.geometry (rebuilt_words r stage) rebuild.slot rebuild.stripe start x.history does.mid.history
              (is.rebuilt rebuild was on)
              (phase_spares {gone = HasSlot does.gone} (writes_in r stage) (HasSlot to) r.geometry rebuild.slot rebuild.stripe beside.1 phase))
          | inl placing ↦
              subst (λ (s : Stage). IsRebuiltTo r.geometry (rebuilt_words r (next s)) rebuild.slot rebuild.stripe start does.mid.history)
              (sym placing.0)
              (rebuilt_placed r redoing rebuild.slot rebuild.stripe slot_in_array start x.history does.mid.history (HasSlot to) (HasSlot does.gone)
              (subst (λ (s : Stage). Placed (writes_in r s) (HasSlot to) (HasSlot does.gone) x.history does.mid.history) placing.0 phase)
              placing.1 not_gone
              (subst (λ (s : Stage). IsRebuiltTo r.geometry (rebuilt_words r s) rebuild.slot rebuild.stripe start x.history) placing.0
              (is.rebuilt rebuild was on)))
        ]

    rebuilt_led : IsRebuiltTo r.geometry (rebuilt_words r (next stage)) rebuild.slot rebuild.stripe start y.told.history
    rebuilt_led =
        rebuilt_beside r.geometry (rebuilt_words r (next stage)) rebuild.slot rebuild.stripe start does.mid.history y.told.history after_phase
        (leaves_beside r.geometry rebuild.slot rebuild.stripe does.gone a.member does.mid y does.leaves honest)

  led_with : IsOpenAmid before (led_to a y.member) y.told.history → IsAmidRedo r before (led_to a y.member) (next stage) start y.told.history
  led_with amid = record {
    amid = amid;
    geometry = is.geometry ∙ sym (leaves_geometry does.gone a.member does.mid y does.leaves);
    ran =
        ran_join {allowed = AttachesNone every_slot} is.ran
        (ran_join {allowed = AttachesNone every_slot} (phase_attaches {live = every_slot} (placed r redoing before a stage to x y over does honest))
        (leaves_attach does.gone a.member does.mid y does.leaves honest));
    large = λ j live on. is.large j (live_still does.gone a.member does.mid y j does.leaves live).0 on;
    is_in = led;
    rebuilt = rebuilt_led;
  }

  -- whichever media come back,
  pub goes_amid : IsHistory x.history → IsAmidRedo r before (led_to a y.member) (next stage) start y.told.history
  goes_amid history = led_with (amid_stage r redoing before a stage to x y over does honest history is.amid)

  -- and where none does with the epoch
  pub redo_goes : IsBegun None a.member x.history → NothingReturned before y.told.history → ¬ IsTrue (stopped y.told.history)
      → IsAmidRedo r before (led_to a y.member) (next stage) start y.told.history × IsBegun None y.member y.told.history
  redo_goes begun none going =
      let kept = stage_amid r redoing before a stage to x y over does honest begun none going is.amid in (led_with kept.0, kept.1)

-- ITS END

-- the medium of an attached live slot is large enough, as it was when the redo began
large_now : (r : Redoing) (before : List Happening) (a : ArrayState) (stage : Stage) (start h : List Happening) → IsAmidRedo r before a stage start h
    → (j : ℕ) → IsLiveIn a.member j → IsAttached h j → IsLargeEnough a.member.array.geometry (slot_state h j).size
large_now r before a stage start h is j live on =
    let was = attached_before {some = every_slot} j tt is.ran on in
    subst (λ (g : Geometry). IsLargeEnough g (slot_state h j).size) is.geometry
    (large_on r.geometry start h j
    (ran_weakened {allowed = AttachesNone every_slot} {more = AttachesNone (λ i. i ≡ j)} (λ i c may at. may tt) is.ran) was.0 on
    (is.large j live was.0))

pub redo_ends : (r : Redoing) (before : List Happening) (a : ArrayState) (start h : List Happening) → IsAmidRedo r before a Done start h
    → IsOpenWith before a r.new h
redo_ends r before a start h is =
    redone_amid r before a (λ j. IsLiveIn a.member j × IsAttached start j) start h is.amid is.geometry is.is_in
    (λ j live on.
    let was = attached_before {some = every_slot} j tt is.ran on in
    ((live, was.0), (was.1, large_now r before a Done start h is j live on)))
    (λ rebuild of on.
    let was = attached_before {some = every_slot} rebuild.slot tt is.ran on in (
      was.1,
      subst (λ (g : Geometry). IsRebuiltTo g r.new rebuild.slot rebuild.stripe start h) is.geometry (is.rebuilt rebuild of was.0),
    ))

-- AMONG THE SLOTS IN USE

-- it is under way on the slots that are in use
pub redo_under_way : (r : Redoing) (before : List Happening) (a : ArrayState) (stage : Stage) (start h : List Happening)
    → IsAmidRedo r before a stage start h → NothingReturned before h → ¬ IsTrue (stopped h) → IsBegun None a.member h
    → IsUnderWay r stage start a.member h
redo_under_way r before a stage start h is none going begun = record {
  geometry = is.geometry;
  ran = ran_any {allowed = AttachesNone every_slot} is.ran;
  epoch = epoch_amid before a h is.amid none going begun;
  cells =
      is_in r stage (IsInUse a.member h) start h
      (λ j used.
      slot_in r stage (λ i. IsLiveIn a.member i × IsAttached start i) start h is.is_in j
      (used.0, (attached_before {some = every_slot} j tt is.ran used.1).0));
  same = λ j used. (attached_before {some = every_slot} j tt is.ran used.1).1;
  large = λ j used.
      subst (λ (g : Geometry). IsLargeEnough g (slot_state h j).size) (sym is.geometry)
      (large_now r before a stage start h is j used.0 used.1);
}

-- WHAT THE RACK REPRESENTS

-- in a stage of the redo the state, with the redo's change in doubt
module _ (r : Redoing) (redoing : IsRedoing r) (before : List Happening) (a : ArrayState) (stage : Stage) (start h : List Happening)
    (is : IsAmidRedo r before a stage start h) (none : NothingReturned before h) (begun : IsBegun None a.member h) (content : Content)
    (doubt : Option Change) (old_are : AreEncodingsOf a.member.array.geometry content.blocks (old_in r stage))
    (new_are : AreEncodingsOf a.member.array.geometry (changed_if doubt content).blocks (new_in r stage))
    (frozen : a.member.array.frozen ≡ content.frozen) (label : a.member.array.label ≡ content.label)
    (tolerated : IsTolerated a.member.array.geometry before h) where
  abbrev over_geometry : Geometry → Redoing
  over_geometry g = record { geometry = g; redo = r.redo; old = r.old; new = r.new }

  serving : (j : ℕ) → j < a.member.array.geometry.n → why_of a.member j ≡ Here → IsAttached h j
      → SlotIn (over_geometry a.member.array.geometry) stage start h j
      × (¬ WasPulled start h j)
      × IsLargeEnough a.member.array.geometry (slot_state h j).size
  serving j below up on =
      let live : IsLiveIn a.member j = record { below = below; why = up } in
      let was = attached_before {some = every_slot} j tt is.ran on in (
        subst (λ (g : Geometry). SlotIn (over_geometry g) stage start h j) is.geometry
            (slot_in r stage (λ i. IsLiveIn a.member i × IsAttached start i) start h is.is_in j (live, was.0)),
        was.1,
        large_now r before a stage start h is j live on,
      )

  pub redo_represents : Represents (state_with a.member content doubt a.member.array) h
  redo_represents =
      represents_amid a.member r.redo r.old r.new stage start h
      (epoch_amid before a h is.amid none (goes_on_within a.member.array.geometry before h tolerated) begun)
      (inr (subst (λ (g : Geometry). IsRedoing (over_geometry g)) is.geometry redoing)) serving content doubt
      (record {
        old_are = subst (λ (g : Geometry). AreEncodingsOf a.member.array.geometry content.blocks (old_in (over_geometry g) stage)) is.geometry old_are;
        new_are =
            subst (λ (g : Geometry). AreEncodingsOf a.member.array.geometry (changed_if doubt content).blocks (new_in (over_geometry g) stage))
            is.geometry new_are;
        frozen = frozen;
        label = label;
        frozen_new = inl frozen;
        label_new = inl label;
      }) before tolerated
