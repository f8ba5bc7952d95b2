-- What a crash leaves of a redo that is under way, also while slots are left out.
use Rattle.std.proofs.Common.{◌⊎◌, ◌≡◌, ℕ, ◌<◌, ◌≤◌, List, inl, inr, refl, sym, ◌∙◌, subst, arith, Option, None, ap}
use Rattle.std.proofs.lemmas.Bool.{cases_eq}
use Rattle.stair_model.specs.Device.{gate_sector}
use Rattle.stair_model.specs.Geometry.{Geometry}
use Rattle.stair_rack.specs.Answers.{IsHistory}
use Rattle.stair_rack.specs.Crash.{CrashMayLeave}
use Rattle.stair_rack.specs.History.{Happening, slot_state}
use Rattle.stair_rack.specs.Media.{Image}
use Rattle.stair_rack.specs.Offline.{IsAttached, WasPulled}
use Rattle.stair_rack.specs.Sector.{Damaged, MayLeave}
use Rattle.stair_rack.proofs.CrashLemmas.{cell_left, settled_left}
use Rattle.stair_rack.proofs.TidyLemmas.{history_tidy, left_past_end}
use Rattle.stair_super.specs.Superblock.{mark_in, joined_in}
use Rattle.stair_member.specs.Aims.{mark_for, IsAimed}
use Rattle.stair_member.specs.Fencing.{IsKnownTo}
use Rattle.stair_member.specs.Membership.{IsHere, Membership, why_of}
use Rattle.stair_member.specs.Reserve.{BearsFor, HasReached}
use Rattle.stair_member.specs.declared.aim.EpochChange.TheVariants.{Fence}
use Rattle.stair_member.specs.declared.why.Why.TheVariants as why
use Rattle.stair_member.proofs.CountingLemmas.{all_but_mapped}
use Rattle.stair_member.proofs.EditionLemmas.{bears_below, none_held_there}
use Rattle.stair_journal.specs.Gate.{ReadsClosed}
use Rattle.stair_super.specs.declared.configuration.Configuration.{Configuration}
use Rattle.stair_super.specs.declared.mark.Mark.{Mark}
use Rattle.stair_invariant.proofs.ChangingLemmas.{AsBefore, IsNow, New, current_now}
use Rattle.stair_super.specs.declared.mark.Mark.TheVariants as mark
use Rattle.stair_state.specs.Blocks.{AreEncodingsOf}
use Rattle.stair_state.specs.Recovering.{IsShut}
use Rattle.stair_state.specs.Redoing.{AtRest, Done, InPlace, IsIn, IsRedoing, Placing, Redoing, Stage, Uncommitted, new_in, old_in}
use Rattle.stair_state.specs.Represents.{IsLargeEnough}
use Rattle.stair_state.specs.State.{Change, Content, changed_if}
use Rattle.stair_state.specs.Tolerance.{IsToleratedAlone}
use Rattle.stair_state.proofs.FormLemmas.{good_whole}
use Rattle.stair_state.proofs.RedoFormLemmas.{slot_left}
use Rattle.stair_state.proofs.StageLemmas.{LeftIn, slot_in}
use Rattle.stair_invariant.specs.Changing.{Earlier, IsAttachedOrBare, IsChanging, IsSettled, Present}
use Rattle.stair_invariant.specs.InSession.{HasEpoch}
use Rattle.stair_invariant.specs.UnderWay.{AreKept, IsBeforeOrAfter, IsInUse, IsOfRedo, IsUnderWay, content_in, doubt_in}
use Rattle.stair_invariant.proofs.MidwayLemmas.{AreInStage, IsOfStage, doing, midway}

-- AN IMAGE

-- Live slots that are attached are in this stage, each on the medium that it had at `start`; others that take part bear nothing.
pub record AreFound (a : Redoing) (stage : Stage) (start : List Happening) (m : Membership) (h : List Happening) : Type 0 where
  pub own : (j : ℕ) → IsHere m j → IsAttachedOrBare h j
  pub cells : IsIn a stage (IsInUse m h) start h
  pub same : (j : ℕ) → IsInUse m h j → ¬ WasPulled start h j
  pub large : (j : ℕ) → IsInUse m h j → IsLargeEnough a.geometry (slot_state h j).size
  pub shut : (j : ℕ) → j < m.array.geometry.n → why_of m j ≡ why.Rebuilding → IsAttached h j → IsShut m.array.geometry h h j

abbrev over : Redoing → Geometry → Redoing
over a g = record { geometry = g; redo = a.redo; old = a.old; new = a.new }

module _ (a : Redoing) (stage : Stage) (redoing : (stage ≡ AtRest) ⊎ IsRedoing a) (start : List Happening) (m : Membership) (h : List Happening)
    (geometry : a.geometry ≡ m.array.geometry) (found : AreFound a stage start m h) (history : IsHistory h)
    (marks : (j : ℕ) → j < m.array.geometry.n → mark_in m.array j ≡ mark_for (why_of m j)) (left_out : ℕ → Type 0) (image : Image)
    (left : CrashMayLeave h image) (is : IsChanging Fence left_out m image) where
  settled : IsSettled Fence m
  settled = record { marks = marks; joining = λ j here. (λ same. cc) }

  attached_of : (j : ℕ) → IsHere m j → BearsFor m.array.geometry image j → IsAttached h j
  attached_of j here for =
      elim (found.own j here) [
        | inl on ↦ on.0
        | inr off ↦
            let place : ℕ = for.bears.place in
            let at : (image j).cell place ≡ Damaged =
            settled_left Damaged ((image j).cell place) (subst (λ s. MayLeave s ((image j).cell place)) (off.1 place) ((left j).each place)) in
            absurd (none_held_there ((image j).cell place) for.super at for.bears.holds)
      ]

  below_of : (j : ℕ) → BearsFor m.array.geometry image j → j < m.array.geometry.n
  below_of j for = bears_below m.array.geometry j ((image j).cell) for.super for.bears

  used_of : (j : ℕ) → why_of m j ≡ why.Here → BearsFor m.array.geometry image j → IsInUse m h j
  used_of j up for =
      let below = below_of j for in
      (record { below = below; why = up }, attached_of j (record { below = below; why = inl up }) for)

  part_of : (j : ℕ) → why_of m j ≡ why.Here → BearsFor m.array.geometry image j → LeftIn (doing m a.redo a.old a.new) stage image j
  part_of j up for =
      let used = used_of j up for in
      subst (λ (g : Geometry). LeftIn (over a g) stage image j) geometry
      (slot_left a stage start h image j left (found.same j used) (slot_in a stage (IsInUse m h) start h found.cells j used))

  pub in_stage : AreInStage Fence m (doing m a.redo a.old a.new) stage image
  in_stage = record {
    each = λ j up for. part_of j up for;
    large = λ j up for.
        subst (IsLargeEnough m.array.geometry) (sym (left j).size)
        (subst (λ (g : Geometry). IsLargeEnough g (slot_state h j).size) geometry (found.large j (used_of j up for)));
    shut = λ j which for.
        let below = below_of j for in
        let up : why_of m j ≡ why.Rebuilding = elim which [ inl rebuilt ↦ rebuilt | inr never ↦ absurd (cc) ] in
        let on = attached_of j (record { below = below; why = inr up }) for in
        elim
        (cell_left {Q = ReadsClosed m.array.geometry} {Base = ReadsClosed m.array.geometry} h image (slot_state h j).pulls j gate_sector
        (λ other opened. good_whole opened.good refl) left (found.shut j below up on)) [
          | inl pulled ↦ absurd (omega (arith, pulled))
          | inr closed ↦ closed
        ];
  }

  pub of_stage : (content : Content) (change : Option Change) → IsOfRedo a m content change
      → IsOfStage Fence m (doing m a.redo a.old a.new) stage (content_in stage content change) (doubt_in stage change)
  of_stage content change of = record {
    old_are = subst (λ (g : Geometry). AreEncodingsOf g (content_in stage content change).blocks (old_in a stage)) geometry (old_are stage);
    new_are =
        subst (λ (g : Geometry). AreEncodingsOf g (changed_if (doubt_in stage change) (content_in stage content change)).blocks (new_in a stage)) geometry
        (new_are stage);
    frozen = frozen stage;
    label = label stage;
    frozen_new = inl (frozen stage);
    label_new = inl (label stage);
  }
    where
      old_are : (x : Stage) → AreEncodingsOf a.geometry (content_in x content change).blocks (old_in a x)
      old_are AtRest = of.old_are
      old_are Uncommitted = of.old_are
      old_are Placing = of.new_are
      old_are InPlace = of.new_are
      old_are Done = of.new_are

      new_are : (x : Stage) → AreEncodingsOf a.geometry (changed_if (doubt_in x change) (content_in x content change)).blocks (new_in a x)
      new_are AtRest = of.old_are
      new_are Uncommitted = of.new_are
      new_are Placing = of.new_are
      new_are InPlace = of.new_are
      new_are Done = of.new_are

      frozen : (x : Stage) → m.array.frozen ≡ (content_in x content change).frozen
      frozen AtRest = of.frozen
      frozen Uncommitted = of.frozen
      frozen Placing = of.frozen ∙ sym of.frozen_new
      frozen InPlace = of.frozen ∙ sym of.frozen_new
      frozen Done = of.frozen ∙ sym of.frozen_new

      label : (x : Stage) → m.array.label ≡ (content_in x content change).label
      label AtRest = of.label
      label Uncommitted = of.label
      label Placing = of.label ∙ sym of.label_new
      label InPlace = of.label ∙ sym of.label_new
      label Done = of.label ∙ sym of.label_new

  -- An image represents what goes with the stage, with the seats of its own current superblock.
  pub image_stands : (content : Content) (change : Option Change) → IsOfRedo a m content change → (tolerated : IsToleratedAlone m.array.geometry image)
      → IsBeforeOrAfter m.array.geometry content change tolerated.current.array image
  image_stands content change of tolerated = (
    stage,
    midway Fence left_out m settled a.redo a.old a.new stage (content_in stage content change) (doubt_in stage change)
        (elim redoing [ inl rest ↦ inl rest | inr going ↦ inr (subst (λ (g : Geometry). IsRedoing (over a g)) geometry going) ]) (of_stage content change of) image is tolerated
        (left_past_end h (history_tidy history) image left) in_stage,
  )

-- MARKS

-- what an epoch names without some slots keeps the others as they were
pub kept_aimed : (m : Membership) → ((j : ℕ) → j < m.array.geometry.n → mark_in m.array j ≡ mark_for (why_of m j)) → (out : ℕ → Type 0)
    → (array : Configuration) → IsAimed Fence out m array → AreKept m.array.geometry m.array array
kept_aimed m marks out array named j below =
    elim (named.marks j below) [
      | inr gone ↦ inr gone.1
      | inl as_aimed ↦ by (mark_in array j) refl (as_aimed ∙ sym (marks j below))
    ]
  where
    stays : (x : Mark) → mark_in array j ≡ x → (x ≡ mark.Down → ⊥) → mark_in array j ≡ mark_in m.array j
        → ((mark_in array j ≡ mark_in m.array j) × (joined_in array j ≡ joined_in m.array j)) ⊎ (mark_in array j ≡ mark.Down)
    stays x is up same = inl (same, named.joined j below (λ down. up (sym is ∙ down)) (λ never. cc))

    by : (x : Mark) → mark_in array j ≡ x → mark_in array j ≡ mark_in m.array j
        → ((mark_in array j ≡ mark_in m.array j) × (joined_in array j ≡ joined_in m.array j)) ⊎ (mark_in array j ≡ mark.Down)
    by mark.Down is same = inr is
    by mark.Live is same = stays mark.Live is (λ down. cc) same
    by mark.Rebuilding is same = stays mark.Rebuilding is (λ down. cc) same

-- and so does what is current in an image
pub now_keeps : (m : Membership) → ((j : ℕ) → j < m.array.geometry.n → mark_in m.array j ≡ mark_for (why_of m j)) → (left_out : ℕ → Type 0)
    → (array : Configuration) → IsNow Fence left_out m array → AreKept m.array.geometry m.array array
now_keeps m marks left_out array (AsBefore same) = λ j below.
    inl (ap (λ (c : Configuration). mark_in c j) same, ap (λ (c : Configuration). joined_in c j) same)
now_keeps m marks left_out array (New above named) = kept_aimed m marks left_out array named

pub image_keeps : (m : Membership) → ((j : ℕ) → j < m.array.geometry.n → mark_in m.array j ≡ mark_for (why_of m j)) → (left_out : ℕ → Type 0)
    → (image : Image) → IsChanging Fence left_out m image → (tolerated : IsToleratedAlone m.array.geometry image)
    → AreKept m.array.geometry m.array tolerated.current.array
image_keeps m marks left_out image is tolerated =
    now_keeps m marks left_out tolerated.current.array
    (current_now Fence left_out m {offline = λ j. (image j).size ≡ None} image tolerated.current is tolerated.is_current tolerated.few)

-- BETWEEN EPOCHS

abbrev no_one : ℕ → Type 0
no_one j = ⊥

-- while the member's epoch stands
pub unchanging : (m : Membership) (h : List Happening) → HasEpoch m h → (image : Image) → CrashMayLeave h image → IsChanging Fence no_one m image
unchanging m h is image left =
    let known : IsKnownTo None m (IsAttached h) image = is.begun.known image left in
    record {
      orderly = known.orderly;
      names = λ j s bears.
          let most : s.array.epoch ≤ m.array.epoch = known.latest j s bears in
          elim (cases_eq s.array.epoch m.array.epoch) [
            | inl same ↦ Present (known.named j s bears same)
            | inr other ↦ Earlier (omega (arith, most, other))
          ];
      reached =
          all_but_mapped {P = λ j. IsHere m j × HasReached m.array.geometry image m.array.epoch j}
          {Q = HasReached m.array.geometry image m.array.epoch} (λ j below has. has.1) (is.reached image left);
      bare = λ j never. absurd never;
    }

pub way_found : (a : Redoing) (stage : Stage) (start : List Happening) (m : Membership) (h : List Happening) → IsUnderWay a stage start m h
    → AreFound a stage start m h
way_found a stage start m h way =
    record { own = way.epoch.own; cells = way.cells; same = way.same; large = way.large; shut = way.epoch.shut }

pub way_stands : (a : Redoing) (stage : Stage) → (stage ≡ AtRest) ⊎ IsRedoing a → (start : List Happening) (m : Membership) (h : List Happening) → IsUnderWay a stage start m h
    → (image : Image) → CrashMayLeave h image → (content : Content) (change : Option Change) → IsOfRedo a m content change
    → (tolerated : IsToleratedAlone m.array.geometry image) → IsBeforeOrAfter m.array.geometry content change tolerated.current.array image
way_stands a stage redoing start m h way image left content change of tolerated =
    image_stands a stage redoing start m h way.geometry (way_found a stage start m h way) way.epoch.begun.history way.epoch.marks no_one image left
    (unchanging m h way.epoch image left) content change of tolerated

pub way_keeps : (a : Redoing) (stage : Stage) (start : List Happening) (m : Membership) (h : List Happening) → IsUnderWay a stage start m h
    → (image : Image) → CrashMayLeave h image → (tolerated : IsToleratedAlone m.array.geometry image)
    → AreKept m.array.geometry m.array tolerated.current.array
way_keeps a stage start m h way image left tolerated =
    image_keeps m way.epoch.marks no_one image (unchanging m h way.epoch image left) tolerated
