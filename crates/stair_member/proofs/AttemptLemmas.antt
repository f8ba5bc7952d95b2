-- What of a member changes in the rounds of establishing an epoch.
use Rattle.std.proofs.Common.{◌≡◌, ◌≢◌, ℕ, ◌+◌, ◌<◌, ◌≤◌, ◌⊎◌, inl, inr, refl, sym, ap, ◌∙◌, subst, arith, Option, None, Some}
use Rattle.std.proofs.lemmas.Bool.{cases_eq, cond-true, cond-false, ne_eqb, eq-eqb}
use Rattle.stair_model.specs.Geometry.{Geometry}
use Rattle.stair_rack.specs.Count.{Rose, kept-Rose}
use Rattle.stair_rack.specs.RackCounts.{NoneFalls}
use Rattle.stair_super.specs.Superblock.{joined_in, mark_in}
use Rattle.stair_super.specs.declared.configuration.Configuration.{Configuration}
use Rattle.stair_super.specs.declared.mark.Mark.{Mark}
use Rattle.stair_super.specs.declared.mark.Mark.TheVariants as mark
use Rattle.stair_member.specs.ChangesSteps.{MayBegin, joined_then, joined_up}
use Rattle.stair_member.specs.Aims.{admitted, aimed, frozen_then, label_then, mark_for}
use Rattle.stair_member.specs.Counting.{AtMost}
use Rattle.stair_member.specs.Membership.{Membership, IsMissing, why_of}
use Rattle.stair_member.specs.RoundSteps.{BeganOut, BrokeOff, DrewOut, Round, WentOn}
use Rattle.stair_rack.specs.RackState.{RackState}
use Rattle.stair_member.specs.declared.aim.EpochChange.{EpochChange}
use Rattle.stair_member.specs.declared.aim.EpochChange.TheVariants as aims
use Rattle.stair_member.specs.declared.why.Why.{Why}
use Rattle.stair_member.specs.declared.why.Why.TheVariants as why
use Rattle.stair_member.proofs.ChangeLemmas.{IsUp, mark_for_cases, same_number, up_here, was_up}
use Rattle.stair_rack.proofs.PassCounts.{NoneFalls-then}

-- ---- aims

-- what is frozen then, of an array that is frozen so, and its label
pub frozen_same : (aim : EpochChange) (a b : Configuration) → a.frozen ≡ b.frozen → frozen_then aim a ≡ frozen_then aim b
frozen_same aims.Fence a b same = same
frozen_same (aims.Admit slot) a b same = same
frozen_same (aims.Promote slot) a b same = same
frozen_same (aims.Stamp frozen label) a b same = refl

pub label_same : (aim : EpochChange) (a b : Configuration) → a.label ≡ b.label → label_then aim a ≡ label_then aim b
label_same aims.Fence a b same = same
label_same (aims.Admit slot) a b same = same
label_same (aims.Promote slot) a b same = same
label_same (aims.Stamp frozen label) a b same = refl

frozen_twice : (aim : EpochChange) (a b : Configuration) → a.frozen ≡ frozen_then aim b → frozen_then aim a ≡ frozen_then aim b
frozen_twice aims.Fence a b same = same
frozen_twice (aims.Admit slot) a b same = same
frozen_twice (aims.Promote slot) a b same = same
frozen_twice (aims.Stamp frozen label) a b same = refl

label_twice : (aim : EpochChange) (a b : Configuration) → a.label ≡ label_then aim b → label_then aim a ≡ label_then aim b
label_twice aims.Fence a b same = same
label_twice (aims.Admit slot) a b same = same
label_twice (aims.Promote slot) a b same = same
label_twice (aims.Stamp frozen label) a b same = refl

-- aimed at twice
pub aimed_twice : (aim : EpochChange) (j : ℕ) (w : Why) → aimed aim j (aimed aim j w) ≡ aimed aim j w
aimed_twice aims.Fence j w = refl
aimed_twice (aims.Admit slot) j w =
    elim (cases_eq j slot) [
      | inl same ↦ cond-true _ _ _ (eq-eqb j slot same) ∙ sym (cond-true _ _ _ (eq-eqb j slot same))
      | inr other ↦ cond-false _ _ _ (ne_eqb j slot other)
    ]
aimed_twice (aims.Promote slot) j w =
    elim (cases_eq j slot) [
      | inl same ↦ cond-true _ _ _ (eq-eqb j slot same) ∙ sym (cond-true _ _ _ (eq-eqb j slot same))
      | inr other ↦ cond-false _ _ _ (ne_eqb j slot other)
    ]
aimed_twice (aims.Stamp frozen label) j w = refl

-- a slot that is live is live then, but one that is admitted
pub aimed_here : (aim : EpochChange) (j : ℕ) → admitted aim ≢ Some j → aimed aim j why.Here ≡ why.Here
aimed_here aims.Fence j other = refl
aimed_here (aims.Admit slot) j other = cond-false _ _ _ (ne_eqb j slot (λ same. other (ap (λ (k : ℕ). Some k) (sym same))))
aimed_here (aims.Promote slot) j other =
    elim (cases_eq j slot) [
      | inl same ↦ cond-true _ _ _ (eq-eqb j slot same)
      | inr apart ↦ cond-false _ _ _ (ne_eqb j slot apart)
    ]
aimed_here (aims.Stamp frozen label) j other = refl

-- a slot that is here is here then
pub aimed_up : (aim : EpochChange) (j : ℕ) (w : Why) → IsUp w → IsUp (aimed aim j w)
aimed_up aims.Fence j w up = up
aimed_up (aims.Admit slot) j w up =
    elim (cases_eq j slot) [
      | inl same ↦ inr (cond-true _ _ _ (eq-eqb j slot same))
      | inr other ↦ subst IsUp (sym (cond-false _ _ _ (ne_eqb j slot other))) up
    ]
aimed_up (aims.Promote slot) j w up =
    elim (cases_eq j slot) [
      | inl same ↦ inl (cond-true _ _ _ (eq-eqb j slot same))
      | inr other ↦ subst IsUp (sym (cond-false _ _ _ (ne_eqb j slot other))) up
    ]
aimed_up (aims.Stamp frozen label) j w up = up

pub mark_up : (w : Why) → IsUp w → mark_for w ≢ mark.Down
mark_up w (inl is) down = let live : mark_for w ≡ mark.Live = ap mark_for is in absurd (cc)
mark_up w (inr is) down = let live : mark_for w ≡ mark.Rebuilding = ap mark_for is in absurd (cc)

up_by_mark : (w : Why) → mark_for w ≢ mark.Down → IsUp w
up_by_mark w up =
    elim (mark_for_cases w) [
      | inl here ↦ inl here
      | inr more ↦ elim more [ inl here ↦ inr here | inr down ↦ absurd (up down) ]
    ]

pub gone_down : (w : Why) → w ≡ why.Gone → ¬ IsUp w
gone_down w is (inl here) = absurd (cc)
gone_down w is (inr here) = absurd (cc)

number_up : (aim : EpochChange) (epoch j joined : ℕ) (m : Mark) → m ≢ mark.Down → joined_then aim epoch j m joined ≡ joined_up aim epoch j joined
number_up aim epoch j joined mark.Live up = refl
number_up aim epoch j joined mark.Rebuilding up = refl
number_up aim epoch j joined mark.Down up = absurd (up refl)

-- ---- a round

-- the epoch of a round stands in the member
pub record Whole (aim : EpochChange) (m last : Membership) : Type 0 where
  pub few : AtMost m.array.geometry.m (IsMissing m)
  pub epoch : last.array.epoch ≡ last.drawn
  pub whys : (j : ℕ) → j < m.array.geometry.n → why_of last j ≡ aimed aim j (why_of m j)
  pub marks : (j : ℕ) → j < m.array.geometry.n → mark_in last.array j ≡ mark_for (why_of last j)
  pub joins : (j : ℕ) → j < m.array.geometry.n → admitted aim ≡ Some j → mark_in last.array j ≢ mark.Down → joined_in last.array j ≡ last.array.epoch
  pub frozen : last.array.frozen ≡ frozen_then aim m.array
  pub label : last.array.label ≡ label_then aim m.array

pub record Moved (aim : EpochChange) (m last : Membership) (which : Option ℕ) (old new : RackState) : Type 0 where
  pub geometry : last.array.geometry ≡ m.array.geometry
  pub drawn : last.drawn ≡ m.drawn + 1
  pub whys : (j : ℕ) → j < m.array.geometry.n → (why_of last j ≡ why_of m j) ⊎ (why_of last j ≡ aimed aim j (why_of m j))
  pub marks : (j : ℕ) → j < m.array.geometry.n
      → (mark_in last.array j ≡ mark_in m.array j) ⊎ (mark_in last.array j ≡ mark_for (aimed aim j (why_of m j)))
  pub joined : (j : ℕ) → j < m.array.geometry.n → mark_in last.array j ≢ mark.Down → admitted aim ≢ Some j
      → (mark_in m.array j ≢ mark.Down) × (joined_in last.array j ≡ joined_in m.array j)
  pub frozen : frozen_then aim last.array ≡ frozen_then aim m.array
  pub label : label_then aim last.array ≡ label_then aim m.array
  pub fell : (j : ℕ) → which ≡ Some j
      → (j < m.array.geometry.n) × Rose (old.gones j) (new.gones j) × (IsUp (why_of m j) ⊎ IsUp (aimed aim j (why_of m j)))
  pub counts : NoneFalls old.bads new.bads old.gones new.gones
  pub whole : which ≡ None → Whole aim m last
  pub went : ((last.array ≡ m.array) × ((j : ℕ) → why_of last j ≡ why_of m j)) ⊎ Whole aim m last

moved_drawn : (aim : EpochChange) (m last : Membership) (j : ℕ) (which : Option ℕ) (old new : RackState) → which ≡ Some j → DrewOut m last (Some j) old new
    → Moved aim m last which old new
moved_drawn aim m last j which old new is drew =
    let array : last.array ≡ m.array = ap (λ (x : Membership). x.array) drew.places.rest in record {
      geometry = ap (λ (a : Configuration). a.geometry) array;
      drawn = ap (λ (x : Membership). x.drawn) drew.places.rest;
      whys = λ i below. inl (ap (λ (x : Membership). why_of x i) drew.places.rest);
      marks = λ i below. inl (ap (λ (a : Configuration). mark_in a i) array);
      joined = λ i below up other. (
        λ down. up (ap (λ (a : Configuration). mark_in a i) array ∙ down),
        ap (λ (a : Configuration). joined_in a i) array,
      );
      frozen = ap (frozen_then aim) array;
      label = ap (label_then aim) array;
      fell = λ i at.
          let same : Some j ≡ Some i = sym is ∙ at in
          let rose = drew.rose i same in
          let live = (drew.lives i).0 rose.0 in
          (live.below, rose.1, inl (inl live.why));
      counts = drew.counts;
      whole = λ none. let clash : Some j ≡ None = sym is ∙ none in absurd (cc);
      went = inl (array, λ i. ap (λ (x : Membership). why_of x i) drew.places.rest);
    }

moved_begun : (aim : EpochChange) (m mid last : Membership) (which : Option ℕ) (old between new : RackState) → MayBegin aim m → DrewOut m mid None old between
    → BeganOut aim mid last which between new → Moved aim m last which old new
moved_begun aim m mid last which old between new may drew began = record {
  geometry = geometry;
  drawn = drawn;
  whys = λ j below. inr (why_is j below);
  marks = λ j below. inr (mark_is j below);
  joined = λ j below up other.
      let begun_up : mark_in began.begun.array j ≢ mark.Down = λ down. up (ap (λ (a : Configuration). mark_in a j) array ∙ down) in
      let now : IsUp (aimed aim j (why_of m j)) = up_by_mark (aimed aim j (why_of m j)) (λ down. up (mark_is j below ∙ down)) in (
        up_here (why_of m j) (mark_in m.array j) (drew.was.marked j below) (was_up aim m j may other now),
        ap (λ (a : Configuration). joined_in a j) array ∙ began.begins.names.joins j (small j below)
            ∙ number_up aim mid.drawn j (joined_in mid.array j) (mark_in began.begun.array j) begun_up ∙ same_number aim mid.drawn j (joined_in mid.array j) other
            ∙ ap (λ (a : Configuration). joined_in a j) mid_array,
      );
  frozen = frozen_twice aim last.array m.array frozen;
  label = label_twice aim last.array m.array label;
  fell = λ j at.
      let rose = began.rose j at in
      let here = (began.heres j).0 rose.0 in
      let below : j < m.array.geometry.n = subst (λ (g : Geometry). j < g.n) begun_geometry here.below in (
        below,
        kept-Rose (old.gones j) (between.gones j) (new.gones j) (drew.counts.gone j).not_less (began.counts.gone j).not_less rose.1,
        inr (subst IsUp (began.begins.whys j (small j below) ∙ ap (aimed aim j) (ap (λ (x : Membership). why_of x j) drew.places.rest)) here.why),
      );
  counts = NoneFalls-then drew.counts began.counts;
  whole = λ none. all;
  went = inr all;
}
  where
    array : last.array ≡ began.begun.array
    array = ap (λ (x : Membership). x.array) began.places.rest

    mid_array : mid.array ≡ m.array
    mid_array = ap (λ (x : Membership). x.array) drew.places.rest

    begun_geometry : began.begun.array.geometry ≡ m.array.geometry
    begun_geometry = began.begins.names.geometry ∙ ap (λ (a : Configuration). a.geometry) mid_array

    geometry : last.array.geometry ≡ m.array.geometry
    geometry = ap (λ (a : Configuration). a.geometry) array ∙ begun_geometry

    drawn : last.drawn ≡ m.drawn + 1
    drawn = ap (λ (x : Membership). x.drawn) began.places.rest ∙ began.begins.drawn ∙ ap (λ (x : Membership). x.drawn) drew.places.rest

    small : (j : ℕ) → j < m.array.geometry.n → j < 32
    small j below = let most : m.array.geometry.n ≤ 32 = drew.was.array.limits.devices.1 in omega (arith, below, most)

    why_is : (j : ℕ) → j < m.array.geometry.n → why_of last j ≡ aimed aim j (why_of m j)
    why_is j below =
        ap (λ (x : Membership). why_of x j) began.places.rest ∙ began.begins.whys j (small j below)
        ∙ ap (aimed aim j) (ap (λ (x : Membership). why_of x j) drew.places.rest)

    mark_is : (j : ℕ) → j < m.array.geometry.n → mark_in last.array j ≡ mark_for (aimed aim j (why_of m j))
    mark_is j below =
        ap (λ (a : Configuration). mark_in a j) array ∙ began.begins.names.marks j (subst (λ (a : Configuration). j < a.geometry.n) (sym mid_array) below)
        ∙ ap mark_for (sym (ap (λ (x : Membership). why_of x j) began.places.rest) ∙ why_is j below)

    frozen : last.array.frozen ≡ frozen_then aim m.array
    frozen = ap (λ (a : Configuration). a.frozen) array ∙ began.begins.names.frozen ∙ ap (frozen_then aim) mid_array

    label : last.array.label ≡ label_then aim m.array
    label = ap (λ (a : Configuration). a.label) array ∙ began.begins.names.label ∙ ap (label_then aim) mid_array

    number_of : (aim : EpochChange) (epoch j joined : ℕ) → admitted aim ≡ Some j → joined_up aim epoch j joined ≡ epoch
    number_of aims.Fence epoch j joined is = absurd (cc)
    number_of (aims.Admit slot) epoch j joined is = let same : slot ≡ j = cc in cond-true _ _ _ (eq-eqb j slot (sym same))
    number_of (aims.Promote slot) epoch j joined is = absurd (cc)
    number_of (aims.Stamp frozen label) epoch j joined is = absurd (cc)

    all : Whole aim m last
    all = record {
      few = drew.few;
      epoch = ap (λ (a : Configuration). a.epoch) array ∙ began.begins.names.epoch_is ∙ sym began.begins.drawn ∙ sym (ap (λ (x : Membership). x.drawn) began.places.rest);
      whys = why_is;
      marks = λ j below. mark_is j below ∙ ap mark_for (sym (why_is j below));
      joins = λ j below at up.
          let begun_up : mark_in began.begun.array j ≢ mark.Down = λ down. up (ap (λ (a : Configuration). mark_in a j) array ∙ down) in
          ap (λ (a : Configuration). joined_in a j) array ∙ began.begins.names.joins j (small j below)
          ∙ number_up aim mid.drawn j (joined_in mid.array j) (mark_in began.begun.array j) begun_up ∙ number_of aim mid.drawn j (joined_in mid.array j) at
          ∙ sym began.begins.names.epoch_is ∙ sym (ap (λ (a : Configuration). a.epoch) array);
      frozen = frozen;
      label = label;
    }

pub moved : (aim : EpochChange) (m last : Membership) (which : Option ℕ) (old new : RackState) → MayBegin aim m → Round aim m last which old new
    → Moved aim m last which old new
moved aim m last which old new may (BrokeOff j is drew) = moved_drawn aim m last j which old new is drew
moved aim m last which old new may (WentOn mid between honest drew began) = moved_begun aim m mid last which old between new may drew began
