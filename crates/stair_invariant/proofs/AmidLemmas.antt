-- In the midst of a redo, between epochs, the rack represents the state, with a change in doubt.
use Rattle.stair_invariant.proofs.InSessionLemmas.{IsPrepared}
use Rattle.stair_state.specs.Recovering.{IsShut}
use Rattle.stair_member.specs.Epochs.{IsTaken}
use Rattle.std.specs.Prelude.{IsTrue}
use Rattle.std.proofs.Common.{◌≡◌, ℕ, ◌<◌, ◌≤◌, List, ◌⊎◌, inl, inr, sym, subst, arith, Option, None, ◌≢◌, Some}
use Rattle.std.proofs.lemmas.Bool.{cases_eq}
use Rattle.stair_model.specs.Device.{gate_sector}
use Rattle.stair_model.specs.Geometry.{Geometry}
use Rattle.stair_model.specs.Slots.{Slots, HasSlot}
use Rattle.stair_rack.specs.Crash.{CrashMayLeave, EachImage}
use Rattle.stair_rack.specs.History.{Happening, slot_state, stopped}
use Rattle.stair_rack.specs.Media.{Image}
use Rattle.stair_rack.specs.Offline.{WasPulled, IsAttached}
use Rattle.stair_rack.proofs.CrashLemmas.{cell_left}
use Rattle.stair_rack.proofs.TidyLemmas.{history_tidy, left_past_end}
use Rattle.stair_super.specs.declared.configuration.Configuration.{Configuration}
use Rattle.stair_member.specs.Fencing.{IsKnownTo, IsFencing}
use Rattle.stair_member.specs.Membership.{Membership, IsHere, why_of}
use Rattle.stair_member.specs.Reserve.{BearsFor, HasReached}
use Rattle.stair_member.specs.declared.aim.EpochChange.TheVariants as aims
use Rattle.stair_member.specs.declared.why.Why.TheVariants as why
use Rattle.stair_member.proofs.CountingLemmas.{all_but_mapped}
use Rattle.stair_member.proofs.SuperLemmas.{counts_bears}
use Rattle.stair_journal.specs.Gate.{ReadsClosed}
use Rattle.stair_journal.specs.declared.redo.Redo.{Redo}
use Rattle.stair_state.specs.Blocks.{AreEncodingsOf, Codewords}
use Rattle.stair_state.specs.Redoing.{AtRest, IsIn, IsRedoing, Redoing, Stage, new_in, old_in}
use Rattle.stair_state.specs.Represents.{IsLargeEnough, Represents, RepresentsAlone}
use Rattle.stair_state.specs.State.{Change, Content, changed_if}
use Rattle.stair_state.specs.Tolerance.{IsTolerated, IsToleratedAlone}
use Rattle.stair_state.proofs.OutsideLemmas.{tolerated_alone}
use Rattle.stair_state.proofs.RedoFormLemmas.{slot_left}
use Rattle.stair_state.proofs.StageLemmas.{SlotIn, slot_in}
use Rattle.stair_invariant.specs.Changing.{Earlier, IsChanging, IsSettled, Present, IsAttachedOrBare}
use Rattle.stair_invariant.specs.InSession.{HasEpoch, state_with}
use Rattle.stair_invariant.proofs.EstablishingLemmas.{none_open, AreStaged, stands_then}
use Rattle.stair_invariant.proofs.ChangingLemmas.{AsBefore, New, current_now}
use Rattle.stair_invariant.proofs.EachAloneLemmas.{each_alone}
use Rattle.stair_invariant.proofs.MidwayLemmas.{AreInStage, IsOfStage, doing, midway, bears_none, below_of}

abbrev no_one : ℕ → Type 0
no_one j = ⊥

abbrev nothing : Option ℕ
nothing = None

-- Each live slot that is attached is in this stage of a redo, with the medium that it had at the start, which is large enough.
module _ (m : Membership) (redo : Redo) (old_words new_words : Codewords) (stage : Stage) (start h : List Happening) (is : HasEpoch m h)
    (redoing : (stage ≡ AtRest) ⊎ IsRedoing (doing m redo old_words new_words))
    (serving : (j : ℕ) → j < m.array.geometry.n → why_of m j ≡ why.Here → IsAttached h j
    → SlotIn (doing m redo old_words new_words) stage start h j × (¬ WasPulled start h j) × IsLargeEnough m.array.geometry (slot_state h j).size) where
  settled : IsSettled aims.Fence m
  settled = record { marks = is.marks; joining = λ j here. (λ same. cc) }

  unchanging : (image : Image) → CrashMayLeave h image → IsChanging aims.Fence no_one m image
  unchanging image left =
      let known : IsKnownTo None m (IsAttached h) image = is.begun.known image left in
      record {
        orderly = known.orderly;
        names = λ j s bears.
            let most : s.array.epoch ≤ m.array.epoch = known.latest j s bears in
            elim (cases_eq s.array.epoch m.array.epoch) [
              | inl same ↦ Present (known.named j s bears same)
              | inr other ↦ Earlier (omega (arith, most, other))
            ];
        reached =
            all_but_mapped {P = λ j. IsHere m j × HasReached m.array.geometry image m.array.epoch j}
            {Q = HasReached m.array.geometry image m.array.epoch} (λ j below has. has.1) (is.reached image left);
        bare = λ j never. absurd never;
      }

  attached_of : (image : Image) → CrashMayLeave h image → (j : ℕ) → IsHere m j → BearsFor m.array.geometry image j → IsAttached h j
  attached_of image left j here for =
      elim (is.own j here) [
        | inl on ↦ on.0
        | inr off ↦ absurd (bears_none m.array.geometry h image j left off.1 for)
      ]

  staged_slots : (image : Image) → CrashMayLeave h image → AreInStage aims.Fence m (doing m redo old_words new_words) stage image
  staged_slots image left = record {
    each = λ j up for.
        let below = below_of m.array.geometry image j for in
        let on = attached_of image left j (record { below = below; why = inl up }) for in
        let of = serving j below up on in
        slot_left (doing m redo old_words new_words) stage start h image j left of.1 of.0;
    large = λ j up for.
        let below = below_of m.array.geometry image j for in
        let on = attached_of image left j (record { below = below; why = inl up }) for in
        subst (IsLargeEnough m.array.geometry) (sym (left j).size) (serving j below up on).2;
    shut = λ j which for.
        let below = below_of m.array.geometry image j for in
        let up : why_of m j ≡ why.Rebuilding = elim which [ inl rebuilt ↦ rebuilt | inr never ↦ absurd (cc) ] in
        let on = attached_of image left j (record { below = below; why = inr up }) for in
        elim
        (cell_left {Q = ReadsClosed m.array.geometry} {Base = ReadsClosed m.array.geometry} h image (slot_state h j).pulls j gate_sector
        (none_open m.array.geometry) left (is.shut j below up on)) [
          | inl pulled ↦ absurd (omega (arith, pulled))
          | inr closed ↦ closed
        ];
  }

  module _ (content : Content) (doubt : Option Change) (of : IsOfStage aims.Fence m (doing m redo old_words new_words) stage content doubt)
      (before : List Happening) (tolerated : IsTolerated m.array.geometry before h) where
    alone : EachImage (λ image. RepresentsAlone (state_with m content doubt m.array) image) h
    alone image left =
        let within : IsToleratedAlone m.array.geometry image = tolerated_alone m.array.geometry before h image tolerated left in
        subst (λ (c : Configuration). RepresentsAlone (state_with m content doubt c) image)
        (current_is image left within)
        (midway aims.Fence no_one m settled redo old_words new_words stage content doubt redoing of image (unchanging image left) within
        (left_past_end h (history_tidy is.begun.history) image left) (staged_slots image left))
      where
        current_is : (image : Image) → CrashMayLeave h image → (within : IsToleratedAlone m.array.geometry image) → within.current.array ≡ m.array
        current_is image left within =
            elim
            (current_now aims.Fence no_one m {offline = λ j. (image j).size ≡ None} image within.current (unchanging image left) within.is_current
            within.few) [
              | AsBefore same ↦ same
              | New above named ↦
                  let most : within.current.array.epoch ≤ m.array.epoch =
                  (is.begun.known image left).latest within.current.slot within.current
                  (counts_bears m.array.geometry image within.current.slot within.current within.is_current.counts) in
                  absurd (omega arith)
            ]

    -- At a moment of the redo the rack represents the state.
    pub represents_amid : Represents (state_with m content doubt m.array) h
    represents_amid =
        each_alone (state_with m content doubt m.array) before h is.begun.member.array.limits is.begun.history tolerated
        (λ j k below place. is.begun.settled j k below place) alone

  -- WHERE SLOTS ARE LEFT OUT IN THE MIDST OF IT

  prepared : IsPrepared aims.Fence m h
  prepared = record {
    promoted = λ slot never. absurd (cc);
    own = λ j taken. own_taken j taken;
    large = λ j below up on. (serving j below up on).2;
    reached = λ image left.
        all_but_mapped {P = λ j. IsHere m j × HasReached m.array.geometry image m.array.epoch j}
        {Q = λ j. (nothing ≢ Some j) × HasReached m.array.geometry image m.array.epoch j} (λ j below has. (λ never. cc, has.1)) (is.reached image left);
  }
    where
      own_taken : (j : ℕ) → IsTaken None m j → IsAttachedOrBare h j
      own_taken j (inl here) = is.own j here
      own_taken j (inr never) = let joins = never.0 in absurd (cc)

  staged : AreStaged aims.Fence m (doing m redo old_words new_words) stage start h
  staged = record { up = λ j below up on. let of = serving j below up on in (of.0, of.1); shut = shut_taken }
    where
      shut_taken : (j : ℕ) → j < m.array.geometry.n → (why_of m j ≡ why.Rebuilding) ⊎ (nothing ≡ Some j) → IsAttached h j
          → IsShut m.array.geometry h h j
      shut_taken j below (inl rebuilt) on = is.shut j below rebuilt on
      shut_taken j below (inr never) on = absurd (cc)

  -- Whatever a crash leaves then represents the state, with the marks of that image's current superblock.
  pub represents_fenced : (gone : Slots) (last : Membership) (now new : List Happening) (image : Image) (content : Content) (doubt : Option Change)
      → IsOfStage aims.Fence m (doing m redo old_words new_words) stage content doubt → IsFencing aims.Fence gone m last h now new
      → ¬ IsTrue (stopped now) → CrashMayLeave now image → (tolerated : IsToleratedAlone m.array.geometry image)
      → RepresentsAlone (state_with m content doubt tolerated.current.array) image
  represents_fenced gone last now new image content doubt of f going left =
      stands_then aims.Fence gone m last h now new f prepared going image left redo old_words new_words stage start settled staged content doubt redoing of

-- OF ANY REDO

module _ (a : Redoing) (m : Membership) (stage : Stage) (live : Slots) (start h : List Happening) (content : Content) (doubt : Option Change)
    (is : HasEpoch m h) (same : a.geometry ≡ m.array.geometry) (redoing : IsRedoing a) (in_stage : IsIn a stage (HasSlot live) start h)
    (serving : (j : ℕ) → j < m.array.geometry.n → why_of m j ≡ why.Here → IsAttached h j
    → HasSlot live j × ((¬ WasPulled start h j) × IsLargeEnough m.array.geometry (slot_state h j).size))
    (old_are : AreEncodingsOf m.array.geometry content.blocks (old_in a stage))
    (new_are : AreEncodingsOf m.array.geometry (changed_if doubt content).blocks (new_in a stage))
    (frozen : m.array.frozen ≡ content.frozen) (label : m.array.label ≡ content.label) where
  -- the redo, of an array with this geometry
  abbrev over : Geometry → Redoing
  over g = record { geometry = g; redo = a.redo; old = a.old; new = a.new }

  redoing_over : (stage ≡ AtRest) ⊎ IsRedoing (over m.array.geometry)
  redoing_over = inr (subst (λ g. IsRedoing (over g)) same redoing)

  serving_over : (j : ℕ) → j < m.array.geometry.n → why_of m j ≡ why.Here → IsAttached h j
      → SlotIn (over m.array.geometry) stage start h j × (¬ WasPulled start h j) × IsLargeEnough m.array.geometry (slot_state h j).size
  serving_over j below up on =
      let of = serving j below up on in (
        slot_in (over m.array.geometry) stage (HasSlot live) start h (subst (λ g. IsIn (over g) stage (HasSlot live) start h) same in_stage) j of.0,
        of.1.0,
        of.1.1,
      )

  of_stage : IsOfStage aims.Fence m (over m.array.geometry) stage content doubt
  of_stage = record {
    old_are = subst (λ g. AreEncodingsOf m.array.geometry content.blocks (old_in (over g) stage)) same old_are;
    new_are = subst (λ g. AreEncodingsOf m.array.geometry (changed_if doubt content).blocks (new_in (over g) stage)) same new_are;
    frozen = frozen;
    label = label;
    frozen_new = inl frozen;
    label_new = inl label;
  }

  pub amid : (before : List Happening) → IsTolerated m.array.geometry before h → Represents (state_with m content doubt m.array) h
  amid = represents_amid m a.redo a.old a.new stage start h is redoing_over serving_over content doubt of_stage

  pub fenced : (gone : Slots) (last : Membership) (now new : List Happening) (image : Image) → IsFencing aims.Fence gone m last h now new
      → ¬ IsTrue (stopped now) → CrashMayLeave now image → (tolerated : IsToleratedAlone m.array.geometry image)
      → RepresentsAlone (state_with m content doubt tolerated.current.array) image
  fenced gone last now new image =
      represents_fenced m a.redo a.old a.new stage start h is redoing_over serving_over gone last now new image content doubt of_stage
