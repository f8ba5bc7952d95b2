-- What a crash leaves while an epoch is established represents the state.
use Rattle.std.proofs.Common.{◌≡◌, ℕ, ◌<◌, List, ◌⊎◌, inl, inr, refl, sym, ap, ◌∙◌, subst, Option, Some}
use Rattle.std.specs.Prelude.{None}
use Rattle.std.proofs.lemmas.Bool.{cases_eq, cond-true, cond-false, eq-eqb, ne_eqb}
use Rattle.stair_model.specs.Device.{DevicePart, gate_sector, sector_of}
use Rattle.stair_model.specs.Geometry.{Geometry}
use Rattle.stair_rack.specs.Crash.{CrashMayLeave}
use Rattle.stair_rack.specs.History.{Happening, slot_state}
use Rattle.stair_rack.specs.Media.{Image}
use Rattle.stair_rack.specs.Sector.{Damaged, MayLeave, damaged}
use Rattle.stair_rack.proofs.CrashLemmas.{settled_left}
use Rattle.stair_super.specs.Superblock.{Superblock, mark_in}
use Rattle.stair_super.specs.declared.configuration.Configuration.{Configuration}
use Rattle.stair_super.specs.declared.mark.Mark.TheVariants as mark
use Rattle.stair_member.specs.Aims.{admitted, aimed, frozen_then, label_then, mark_for}
use Rattle.stair_member.specs.Counting.{AtMost}
use Rattle.stair_member.specs.Current.{IsCurrent, IsFailed, IsLive}
use Rattle.stair_member.specs.Membership.{Membership, why_of}
use Rattle.stair_member.specs.Reserve.{BearsFor}
use Rattle.stair_member.specs.Superblocks.{IsOnlyIdentity}
use Rattle.stair_member.specs.declared.aim.EpochChange.{EpochChange}
use Rattle.stair_member.specs.declared.aim.EpochChange.TheVariants as aims
use Rattle.stair_member.specs.declared.why.Why.{Why}
use Rattle.stair_member.specs.declared.why.Why.TheVariants.{Here, Rebuilding}
use Rattle.stair_member.proofs.EditionLemmas.{bears_below, none_held_there}
use Rattle.stair_member.proofs.SuperLemmas.{counts_bears, one_current}
use Rattle.stair_journal.specs.Gate.{ReadsClosed}
use Rattle.stair_journal.specs.declared.redo.Redo.{Redo}
use Rattle.stair_state.specs.Blocks.{AreEncodingsOf, Codewords}
use Rattle.stair_state.specs.Degraded.{Blank, IsDegraded, Stays, Taken}
use Rattle.stair_state.specs.Forms.{HasGate, IdleOld, RepresentsBy}
use Rattle.stair_state.specs.Redoing.{AtRest, IsLeftIn, IsRedoing, Placing, Redoing, Stage, new_in, old_in}
use Rattle.stair_state.specs.Represents.{Encodings, ImageRepresents, IsLargeEnough, RepresentsAlone}
use Rattle.stair_state.specs.State.{Change, Content, State, changed_if}
use Rattle.stair_state.specs.Tolerance.{IsToleratedAlone}
use Rattle.stair_state.proofs.AloneLemmas.{IsImageTidy}
use Rattle.stair_state.proofs.DegradedLemmas.{bears_before, degraded_copies}
use Rattle.stair_state.proofs.FormLemmas.{good_before}
use Rattle.stair_state.proofs.RedoFormLemmas.{stands}
use Rattle.stair_state.proofs.StageLemmas.{LeftIn, PartHas, is_left_in, part_damage}
use Rattle.stair_state.proofs.ToleranceLemmas.{journal_gate}
use Rattle.stair_invariant.specs.Changing.{IsChanging, IsSettled}
use Rattle.stair_invariant.specs.InSession.{state_with}
use Rattle.stair_invariant.proofs.ChangingLemmas.{AsBefore, IsNow, New, changing_less, current_now, live_aimed, shrinks}
use Rattle.stair_invariant.proofs.OverImageLemmas.{seats_over, stands_over}

-- REASONS

pub rebuilding_why : (w : Why) → mark_for w ≡ mark.Rebuilding → w ≡ Rebuilding
rebuilding_why Rebuilding marked = refl
rebuilding_why w marked = absurd (cc)

-- who is aimed to be rebuilt was so, or is admitted
pub rebuilt_before : (aim : EpochChange) (j : ℕ) (w : Why) → aimed aim j w ≡ Rebuilding → (w ≡ Rebuilding) ⊎ (admitted aim ≡ Some j)
rebuilt_before aims.Fence j w is = inl is
rebuilt_before (aims.Stamp frozen label) j w is = inl is
rebuilt_before (aims.Admit slot) j w is =
    elim (cases_eq j slot) [
      | inl same ↦ inr (ap (λ (k : ℕ). Some k) (sym same))
      | inr other ↦ inl (sym (cond-false _ _ _ (ne_eqb j slot other)) ∙ is)
    ]
rebuilt_before (aims.Promote slot) j w is =
    elim (cases_eq j slot) [
      | inl same ↦ let never : Here ≡ Rebuilding = sym (cond-true _ _ _ (eq-eqb j slot same)) ∙ is in absurd (cc)
      | inr other ↦ inl (sym (cond-false _ _ _ (ne_eqb j slot other)) ∙ is)
    ]

-- who is aimed to be here was so, or is promoted
pub here_aimed : (aim : EpochChange) (j : ℕ) (w : Why) → aimed aim j w ≡ Here → (w ≡ Here) ⊎ (aim ≡ aims.Promote j)
here_aimed aims.Fence j w up = inl up
here_aimed (aims.Stamp frozen label) j w up = inl up
here_aimed (aims.Admit slot) j w up =
    elim (cases_eq j slot) [
      | inl at ↦ let never : Rebuilding ≡ Here = sym (cond-true _ _ _ (eq-eqb j slot at)) ∙ up in absurd (cc)
      | inr other ↦ inl (sym (cond-false _ _ _ (ne_eqb j slot other)) ∙ up)
    ]
here_aimed (aims.Promote slot) j w up =
    elim (cases_eq j slot) [
      | inl at ↦ inr (ap (λ (k : ℕ). aims.Promote k) (sym at))
      | inr other ↦ inl (sym (cond-false _ _ _ (ne_eqb j slot other)) ∙ up)
    ]

-- THE SLOTS OF AN IMAGE IN A STAGE OF A REDO

-- a slot of which nothing can be read bears nothing
pub bears_none : (g : Geometry) (h : List Happening) (image : Image) (j : ℕ) → CrashMayLeave h image
    → ((k : ℕ) → (slot_state h j).sector k ≡ damaged) → ¬ BearsFor g image j
bears_none g h image j left bare for =
    let place : ℕ = for.bears.place in
    let is : (image j).cell place ≡ Damaged =
    settled_left Damaged ((image j).cell place) (subst (λ s. MayLeave s ((image j).cell place)) (bare place) ((left j).each place)) in
    none_held_there ((image j).cell place) for.super is for.bears.holds

pub below_of : (g : Geometry) (image : Image) (j : ℕ) → BearsFor g image j → j < g.n
below_of g image j for = bears_below g j ((image j).cell) for.super for.bears

-- Slots that are live or will be, and that bear a superblock, are in the stage and large enough; those that are rebuilt are shut.
pub record AreInStage (aim : EpochChange) (m : Membership) (a : Redoing) (stage : Stage) (image : Image) : Type 0 where
  pub each : (j : ℕ) → aimed aim j (why_of m j) ≡ Here → BearsFor m.array.geometry image j → LeftIn a stage image j
  pub large : (j : ℕ) → aimed aim j (why_of m j) ≡ Here → BearsFor m.array.geometry image j → IsLargeEnough m.array.geometry (image j).size
  pub shut : (j : ℕ) → (why_of m j ≡ Rebuilding) ⊎ (admitted aim ≡ Some j) → BearsFor m.array.geometry image j
      → ReadsClosed m.array.geometry ((image j).cell gate_sector)

bears_for : {g : Geometry} {more less : Image} {j : ℕ} → IsDegraded more less → BearsFor g less j → BearsFor g more j
bears_for {j = j} degraded for = record { super = for.super; bears = bears_before (degraded_copies (degraded j)) for.bears }

pub in_stage_less : (aim : EpochChange) (m : Membership) (a : Redoing) (stage : Stage) (more less : Image) → IsDegraded more less
    → AreInStage aim m a stage more → AreInStage aim m a stage less
in_stage_less aim m a stage more less degraded is = record {
  each = λ j up for part concerns. part_less j part (is.each j up (bears_for degraded for) part concerns);
  large = λ j up for. size_less j for (is.large j up (bears_for degraded for));
  shut = λ j which for redo opened.
      is.shut j which (bears_for degraded for) redo
      (record { good = good_before (degraded_copies (degraded j) gate_sector) opened.good; formed = opened.formed });
}
  where
    part_less : (j : ℕ) (part : DevicePart) → PartHas a stage j part ((more j).cell (sector_of a.geometry part))
        → PartHas a stage j part ((less j).cell (sector_of a.geometry part))
    part_less j part has =
        elim (degraded_copies (degraded j) (sector_of a.geometry part)) [
          | inl same ↦ subst (PartHas a stage j part) (sym same) has
          | inr harmed ↦ subst (PartHas a stage j part) (sym harmed) (part_damage a stage j part)
        ]

    size_less : (j : ℕ) → BearsFor m.array.geometry less j → IsLargeEnough m.array.geometry (more j).size → IsLargeEnough m.array.geometry (less j).size
    size_less j for large =
        elim (degraded j) [
          | Taken none all ↦ absurd (bare all)
          | Blank size some all ↦ absurd (bare all)
          | Stays same copies ↦ subst (IsLargeEnough m.array.geometry) (sym same) large
        ]
      where
        bare : ((k : ℕ) → (less j).cell k ≡ Damaged) → ⊥
        bare all =
            let never = sym (all for.bears.place) ∙ for.bears.holds.good in
            cc

-- THE FORM OF A STAGE

-- at rest whatever redo is meant
resting : (a : Redoing) (live : ℕ → Type 0) (image : Image) → IsLeftIn a AtRest live image → RepresentsBy a.geometry a.old a.old live image
resting a live image left = record {
  one_redo = λ i j x y on also first second. absurd (left.gates i on x first);
  form =
      IdleOld (record {
        encodes = λ t i j t_in i_in j_in on. left.chunks j t i on j_in t_in i_in;
        body = λ j other on opened. absurd (left.gates j on other opened);
      });
}

form_of : (a : Redoing) (stage : Stage) (live : ℕ → Type 0) (image : Image) → (stage ≡ AtRest) ⊎ IsRedoing a
    → ((stage ≡ Placing) → HasGate live image) → IsLeftIn a stage live image → RepresentsBy a.geometry (old_in a stage) (new_in a stage) live image
form_of a stage live image (inl rest) gate left =
    subst (λ (x : Stage). RepresentsBy a.geometry (old_in a x) (new_in a x) live image) (sym rest)
    (resting a live image (subst (λ (x : Stage). IsLeftIn a x live image) rest left))
form_of a stage live image (inr redoing) gate left = stands a redoing live image stage gate left

-- WHAT IT REPRESENTS

-- a redo of the member's array
abbrev pub doing : Membership → Redo → Codewords → Codewords → Redoing
doing m redo old new = record { geometry = m.array.geometry; redo = redo; old = old; new = new }

-- The stripes of the stage are those of the state, and so are frozen mark and label, now and when the epoch stands.
pub record IsOfStage (aim : EpochChange) (m : Membership) (a : Redoing) (stage : Stage) (content : Content) (doubt : Option Change) : Type 0 where
  pub old_are : AreEncodingsOf m.array.geometry content.blocks (old_in a stage)
  pub new_are : AreEncodingsOf m.array.geometry (changed_if doubt content).blocks (new_in a stage)
  pub frozen : m.array.frozen ≡ content.frozen
  pub label : m.array.label ≡ content.label
  pub frozen_new : (frozen_then aim m.array ≡ content.frozen) ⊎ (frozen_then aim m.array ≡ (changed_if doubt content).frozen)
  pub label_new : (label_then aim m.array ≡ content.label) ⊎ (label_then aim m.array ≡ (changed_if doubt content).label)

module _ (aim : EpochChange) (left_out : ℕ → Type 0) (m : Membership) (settled : IsSettled aim m) (redo : Redo) (old new : Codewords) (stage : Stage)
    (content : Content) (doubt : Option Change) where
  abbrev a : Redoing
  a = doing m redo old new

  abbrev state : Superblock → State
  state current = state_with m content doubt current.array

  module _ (redoing : (stage ≡ AtRest) ⊎ IsRedoing a) (of : IsOfStage aim m a stage content doubt) where
    abbrev encodings : (current : Superblock) → Encodings (state current)
    encodings current = record { old = old_in a stage; new = new_in a stage; old_are = of.old_are; new_are = of.new_are }

    frozen_is : (array : Configuration) → IsNow aim left_out m array
        → (array.frozen ≡ content.frozen) ⊎ (array.frozen ≡ (changed_if doubt content).frozen)
    frozen_is array (AsBefore same) = inl (ap (λ (c : Configuration). c.frozen) same ∙ of.frozen)
    frozen_is array (New above is) = elim of.frozen_new [ inl at ↦ inl (is.frozen ∙ at) | inr at ↦ inr (is.frozen ∙ at) ]

    label_is : (array : Configuration) → IsNow aim left_out m array → (array.label ≡ content.label) ⊎ (array.label ≡ (changed_if doubt content).label)
    label_is array (AsBefore same) = inl (ap (λ (c : Configuration). c.label) same ∙ of.label)
    label_is array (New above is) = elim of.label_new [ inl at ↦ inl (is.label ∙ at) | inr at ↦ inr (is.label ∙ at) ]

    rebuilding_is : (array : Configuration) (j : ℕ) → j < m.array.geometry.n → IsNow aim left_out m array → mark_in array j ≡ mark.Rebuilding
        → (why_of m j ≡ Rebuilding) ⊎ (admitted aim ≡ Some j)
    rebuilding_is array j below (AsBefore same) marked =
        inl (rebuilding_why (why_of m j) (sym (settled.marks j below) ∙ ap (λ (c : Configuration). mark_in c j) (sym same) ∙ marked))
    rebuilding_is array j below (New above is) marked =
        elim (is.marks j below) [
          | inl as_aimed ↦ rebuilt_before aim j (why_of m j) (rebuilding_why (aimed aim j (why_of m j)) (sym as_aimed ∙ marked))
          | inr down ↦ let never : mark.Rebuilding ≡ mark.Down = sym marked ∙ down.1 in absurd (cc)
        ]

    -- an image by itself, whose current superblock names the member's epoch or a new one
    module _ (first : Superblock) (image : Image) (current : Superblock) (is_current : IsCurrent m.array.geometry image current)
        (now : IsNow aim left_out m current.array) (there : AreInStage aim m a stage image) where
      up : (j : ℕ) → IsLive m.array.geometry image current j → aimed aim j (why_of m j) ≡ Here
      up j live = live_aimed aim left_out m settled current.array j live.below now live.marked

      bears : (j : ℕ) → IsLive m.array.geometry image current j → BearsFor m.array.geometry image j
      bears j live = record { super = live.super; bears = counts_bears m.array.geometry image j live.super live.counts }

      pub image_now_midway : IsOnlyIdentity m.array.geometry image → (stage ≡ Placing → HasGate (IsLive m.array.geometry image current) image)
          → ImageRepresents (state first) (encodings first) image
      image_now_midway identity gate = record {
        identity = identity;
        current = current;
        is_current = is_current;
        full = λ j live. there.large j (up j live) (bears j live);
        form =
            form_of a stage (IsLive m.array.geometry image current) image redoing gate
            (is_left_in a stage (IsLive m.array.geometry image current) image (λ j live. there.each j (up j live) (bears j live)));
        rebuilding = λ j other rebuilt opened.
            there.shut j (rebuilding_is current.array j rebuilt.below now rebuilt.marked)
            (record { super = rebuilt.super; bears = counts_bears m.array.geometry image j rebuilt.super rebuilt.counts }) other opened;
        frozen = frozen_is current.array now;
        label = label_is current.array now;
      }

    -- as it does within tolerance
    pub image_midway : (first : Superblock) (image : Image) → IsChanging aim left_out m image → IsToleratedAlone m.array.geometry image
        → AreInStage aim m a stage image → ImageRepresents (state first) (encodings first) image
    image_midway first image is tolerated there =
        image_now_midway first image tolerated.current tolerated.is_current
        (current_now aim left_out m {offline = λ j. (image j).size ≡ None} image tolerated.current is tolerated.is_current tolerated.few) there
        tolerated.identity
        (λ is_placing. record {
          slot = tolerated.journal_slot;
          among = tolerated.journal.serves.live;
          kept =
              journal_gate (λ j. (image j).size ≡ None) m.array.geometry image tolerated.current tolerated.journal_slot tolerated.journal;
        })

    -- A rack over an image represents the state, with the marks of the image's current superblock.
    module _ (image : Image) (is : IsChanging aim left_out m image) (tolerated : IsToleratedAlone m.array.geometry image)
        (tidy : IsImageTidy image) (there : AreInStage aim m a stage image) where
      pub midway : RepresentsAlone (state_with m content doubt tolerated.current.array) image
      midway =
          stands_over (state_with m content doubt tolerated.current.array) (encodings tolerated.current) image tidy tolerated is.orderly
          (seats_over m.array.geometry image tidy tolerated)
          (λ x p.
          image_midway tolerated.current x (changing_less aim left_out m image x p.degraded is) p.alone
          (in_stage_less aim m a stage image x p.degraded there))
          (λ more less p q degraded before after j is_before is_after live.
          shrinks aim left_out m settled {offline = λ i. (more i).size ≡ None} {offline' = λ i. (less i).size ≡ None} more less before after j
          (changing_less aim left_out m image more p.degraded is) degraded is_before is_after
          (few_of more before p.alone is_before) (few_of less after q.alone is_after) live)
        where
          few_of : (x : Image) (current : Superblock) → (t : IsToleratedAlone m.array.geometry x) → IsCurrent m.array.geometry x current
              → AtMost m.array.geometry.m (IsFailed (λ i. (x i).size ≡ None) m.array.geometry x current)
          few_of x current t is_current =
              subst (λ (c : Superblock). AtMost m.array.geometry.m (IsFailed (λ i. (x i).size ≡ None) m.array.geometry x c))
              (one_current m.array.geometry x t.current current t.is_current is_current) t.few
