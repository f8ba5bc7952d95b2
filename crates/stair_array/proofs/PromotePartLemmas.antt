-- What a step of a rebuild does to what a session knows of its slots, on any rack: they may be gone, and one that is rebuilt be promoted.
use Rattle.std.proofs.Common.{◌≡◌, ◌≢◌, ◌⊎◌, ℕ, ◌+◌, ◌<◌, ◌≤◌, cond, inl, inr, refl, suc, sym, ap, ◌∙◌, subst, None, Option, Some, arith}
use Rattle.std.specs.Prelude.{◌==◌, IsTrue}
use Rattle.std.proofs.lemmas.Bool.{cases_eq, cond-false, cond-true, eq-eqb, ne_eqb}
use Rattle.stair_model.specs.Geometry.{Geometry, sectors_needed}
use Rattle.stair_model.specs.Slots.{HasSlot, has_slot, slot_count}
use Rattle.stair_model.specs.Sum.{sum_below}
use Rattle.stair_model.proofs.CountLaws.{sum_below_add, sum_below_le, sum_below_longer, sum_below_more}
use Rattle.stair_model.proofs.SetLaws.{unmarked}
use Rattle.stair_rack.specs.Answers.{any_call}
use Rattle.stair_rack.specs.Stretch.{WasAnswered}
use Rattle.stair_rack.specs.RackState.{RackState}
use Rattle.stair_rack.proofs.MomentLemmas.{moment_between}
use Rattle.stair_rack.proofs.RackStateLemmas.{later_none}
use Rattle.stair_super.specs.Superblock.{mark_in}
use Rattle.stair_super.specs.declared.configuration.Configuration.{Configuration}
use Rattle.stair_super.specs.declared.mark.Mark.TheVariants as mark
use Rattle.stair_member.specs.Aims.{aimed, mark_for}
use Rattle.stair_member.specs.Establishing.{Did, Establishes, HasBegun, NotYet}
use Rattle.stair_member.specs.Membership.{IsHere, IsMembership, Membership, why_of}
use Rattle.stair_member.specs.declared.aim.EpochChange.TheVariants.{Promote}
use Rattle.stair_member.specs.declared.fault.FenceFault.{FenceFault}
use Rattle.stair_member.specs.declared.why.Why.{Why}
use Rattle.stair_member.specs.declared.why.Why.TheVariants as why
use Rattle.stair_member.proofs.CountingLemmas.{has_or_not}
use Rattle.stair_journal.proofs.ToldLemmas.{answered_cases}
use Rattle.stair_invariant.specs.Effects.{Snapshot, snapshot}
use Rattle.stair_invariant.specs.Session.{IsRebuiltIn}
use Rattle.stair_array.specs.Causes.{MarkGoesOn, MemberGoesOn, WasGoneTo, WhyGoesOn}
use Rattle.stair_array.specs.Draws.{weight, weights}
use Rattle.stair_array.specs.Machine.{RebuildNext, Recover, ReplaceSlot}
use Rattle.stair_array.proofs.AnsweredLemmas.{IsLeftOut, honest_before}
use Rattle.stair_array.proofs.GoesOnLemmas.{mark_goes_on, why_goes_on}
use Rattle.stair_array.proofs.GoneToLemmas.{IsAfter, after_join, after_none, gone_to_by, gone_to_earlier, gone_to_wider}
use Rattle.stair_array.proofs.PartsLemmas.{IsPart, counted_below, epoch_after, here_not_gone, here_weighs}

-- WHAT A PART OF A REBUILD DOES

-- the epoch names what the session knows of its slots
abbrev pub AreMarked : Membership → Type 0
AreMarked m = (j : ℕ) → j < m.array.geometry.n → mark_in m.array j ≡ mark_for (why_of m j)

-- From x to y slots may have been gone and dropped, and one that is rebuilt promoted. The draws and the weights together didn't rise.
pub record IsRebuildPart (x y : Snapshot) : Type 0 where
  pub after : IsAfter x.told y.told
  pub rules : IsMembership y.member
  pub goes_on : MemberGoesOn RebuildNext x.told y.told x.member y.member
  pub draws : y.member.drawn + weights y.member ≤ x.member.drawn + weights x.member

pub part_rebuilds : (x y : Snapshot) → AreMarked x.member → IsPart 0 x y → IsRebuildPart x y
part_rebuilds x y marked part = record {
  after = part.after;
  rules = part.rules;
  goes_on = record {
    geometry = part.geometry;
    whys = λ j below. why_goes_on RebuildNext x y j (part.whys j below);
    marks = λ j below. mark_goes_on RebuildNext x y j (marked j below) (part.marks j below);
    drawn = part.drawn;
  };
  draws = let at = part.draws in omega (arith, at);
}

-- IN TURN

never_admits : (j : ℕ) → RebuildNext ≢ ReplaceSlot j
never_admits j is = cc

-- a slot that was gone stays so
gone_still : (x y : Snapshot) (j : ℕ) → WhyGoesOn RebuildNext x.told y.told x.member y.member j → why_of x.member j ≡ why.Gone
    → why_of y.member j ≡ why.Gone
gone_still x y j (WhyGoesOn.Stays same) is = same ∙ is
gone_still x y j (WhyGoesOn.Went gone was) is = gone
gone_still x y j (WhyGoesOn.IsAdmitted step rebuilt) is = absurd (never_admits j step)
gone_still x y j (WhyGoesOn.IsPromoted step rebuilt here) is = absurd (let never : why.Gone ≡ why.Rebuilding = sym is ∙ rebuilt in cc)

module _ (x y : Snapshot) (p : IsRebuildPart x y) where
  below_back : (j : ℕ) → j < y.member.array.geometry.n → j < x.member.array.geometry.n
  below_back j below = subst (λ (g : Geometry). j < g.n) p.goes_on.geometry below

  here_by : (j : ℕ) → WhyGoesOn RebuildNext x.told y.told x.member y.member j → IsHere y.member j → IsHere x.member j
  here_by j (WhyGoesOn.Stays same) here =
      record { below = below_back j here.below; why = subst (λ (w : Why). (w ≡ why.Here) ⊎ (w ≡ why.Rebuilding)) same here.why }
  here_by j (WhyGoesOn.Went gone was) here = absurd (here_not_gone y.member j here gone)
  here_by j (WhyGoesOn.IsAdmitted step rebuilt) here = absurd (never_admits j step)
  here_by j (WhyGoesOn.IsPromoted step rebuilt live) here = record { below = below_back j here.below; why = inr rebuilt }

  -- a slot that takes part in the end did so at first
  here_first : (j : ℕ) → IsHere y.member j → IsHere x.member j
  here_first j here = here_by j (p.goes_on.whys j (below_back j here.below)) here

module _ (x y z : Snapshot) (first : IsRebuildPart x y) (second : IsRebuildPart y z) where
  sooner : (j : ℕ) → WasGoneTo x.member j x.told y.told → WasGoneTo x.member j x.told z.told
  sooner j = gone_to_wider x.member j x.told x.told y.told z.told (later_none x.told) first.after.later second.after

  afterwards : (j : ℕ) → WasGoneTo y.member j y.told z.told → WasGoneTo x.member j x.told z.told
  afterwards j was =
      gone_to_wider x.member j x.told y.told z.told z.told first.after.later second.after.later (after_none z.told)
      (gone_to_earlier x.member y.member j y.told z.told first.goes_on.geometry (here_first x y first j) was)

  whys_join : (j : ℕ) → WhyGoesOn RebuildNext x.told y.told x.member y.member j → WhyGoesOn RebuildNext y.told z.told y.member z.member j
      → WhyGoesOn RebuildNext x.told z.told x.member z.member j
  whys_join j (WhyGoesOn.Went gone was) on = WhyGoesOn.Went (gone_still y z j on gone) (sooner j was)
  whys_join j (WhyGoesOn.IsAdmitted step rebuilt) on = absurd (never_admits j step)
  whys_join j before (WhyGoesOn.Went gone was) = WhyGoesOn.Went gone (afterwards j was)
  whys_join j before (WhyGoesOn.IsAdmitted step rebuilt) = absurd (never_admits j step)
  whys_join j (WhyGoesOn.Stays same) (WhyGoesOn.Stays again) = WhyGoesOn.Stays (again ∙ same)
  whys_join j (WhyGoesOn.Stays same) (WhyGoesOn.IsPromoted step rebuilt live) = WhyGoesOn.IsPromoted step (sym same ∙ rebuilt) live
  whys_join j (WhyGoesOn.IsPromoted step rebuilt live) (WhyGoesOn.Stays again) = WhyGoesOn.IsPromoted step rebuilt (again ∙ live)
  whys_join j (WhyGoesOn.IsPromoted step rebuilt live) (WhyGoesOn.IsPromoted again still so) =
      absurd (let never : why.Here ≡ why.Rebuilding = sym live ∙ still in cc)

  marks_join : (j : ℕ) → MarkGoesOn RebuildNext x.told y.told x.member y.member j → MarkGoesOn RebuildNext y.told z.told y.member z.member j
      → MarkGoesOn RebuildNext x.told z.told x.member z.member j
  marks_join j (MarkGoesOn.WasAway step live rebuilt down) on = absurd (let never : RebuildNext ≡ Recover = step in cc)
  marks_join j (MarkGoesOn.IsAdmitted step rebuilt) on = absurd (never_admits j step)
  marks_join j before (MarkGoesOn.WasAway step live rebuilt down) = absurd (let never : RebuildNext ≡ Recover = step in cc)
  marks_join j before (MarkGoesOn.IsAdmitted step rebuilt) = absurd (never_admits j step)
  marks_join j before (MarkGoesOn.Went was down) = MarkGoesOn.Went (afterwards j was) down
  marks_join j (MarkGoesOn.Stays same) (MarkGoesOn.Stays again) = MarkGoesOn.Stays (again ∙ same)
  marks_join j (MarkGoesOn.Stays same) (MarkGoesOn.IsPromoted step rebuilt live) = MarkGoesOn.IsPromoted step (sym same ∙ rebuilt) live
  marks_join j (MarkGoesOn.Went was down) (MarkGoesOn.Stays again) = MarkGoesOn.Went (sooner j was) (again ∙ down)
  marks_join j (MarkGoesOn.Went was down) (MarkGoesOn.IsPromoted step rebuilt live) =
      absurd (let never : mark.Down ≡ mark.Rebuilding = sym down ∙ rebuilt in cc)
  marks_join j (MarkGoesOn.IsPromoted step rebuilt live) (MarkGoesOn.Stays again) = MarkGoesOn.IsPromoted step rebuilt (again ∙ live)
  marks_join j (MarkGoesOn.IsPromoted step rebuilt live) (MarkGoesOn.IsPromoted again still so) =
      absurd (let never : mark.Live ≡ mark.Rebuilding = sym live ∙ still in cc)

  to_y : (j : ℕ) → j < x.member.array.geometry.n → j < y.member.array.geometry.n
  to_y j below = subst (λ (g : Geometry). j < g.n) (sym first.goes_on.geometry) below

  pub rebuilds_join : IsRebuildPart x z
  rebuilds_join = record {
    after = after_join first.after second.after;
    rules = second.rules;
    goes_on = record {
      geometry = second.goes_on.geometry ∙ first.goes_on.geometry;
      whys = λ j below. whys_join j (first.goes_on.whys j below) (second.goes_on.whys j (to_y j below));
      marks = λ j below. marks_join j (first.goes_on.marks j below) (second.goes_on.marks j (to_y j below));
      drawn = let lower = first.goes_on.drawn in let upper = second.goes_on.drawn in omega (arith, lower, upper);
    };
    draws = let lower = first.draws in let upper = second.draws in omega (arith, lower, upper);
  }

  -- each slot that answered gone is left out
  pub rebuilds_left_out : IsTrue z.told.honest → IsLeftOut x y → IsLeftOut y z → IsLeftOut x z
  rebuilds_left_out honest early late j call here was gone =
      elim (answered_cases (moment_between {a = any_call} {b = any_call} (first.after.later.ran before) (second.after.later.ran honest)) was) [
        | inl is ↦ gone_still y z j (second.goes_on.whys j below) (early j call here is gone)
        | inr is ↦ by (first.goes_on.whys j here.below) is
      ]
    where
      before : IsTrue y.told.honest
      before = honest_before y.told z.told second.after honest

      below : j < y.member.array.geometry.n
      below = to_y j here.below

      still : IsHere y.member j → WasAnswered j call y.told.history z.told.history → why_of z.member j ≡ why.Gone
      still on is = late j call on is gone

      by : WhyGoesOn RebuildNext x.told y.told x.member y.member j → WasAnswered j call y.told.history z.told.history
          → why_of z.member j ≡ why.Gone
      by (WhyGoesOn.Stays same) is =
          still (record { below = below; why = subst (λ (w : Why). (w ≡ why.Here) ⊎ (w ≡ why.Rebuilding)) (sym same) here.why }) is
      by (WhyGoesOn.Went dropped lost) is = gone_still y z j (second.goes_on.whys j below) dropped
      by (WhyGoesOn.IsAdmitted step rebuilt) is = absurd (never_admits j step)
      by (WhyGoesOn.IsPromoted step rebuilt live) is = still (record { below = below; why = inl live }) is

-- A PROMOTION

-- a sum of which one term is at least 1
pub one_counted : (n k : ℕ) (f : ℕ → ℕ) → k < n → f k ≡ 1 → 1 ≤ sum_below n f
one_counted n k f below one =
    let longer : sum_below (suc k) f ≤ sum_below n f = sum_below_longer f (suc k) n (omega (arith, below)) in
    let more : sum_below (suc k) f ≡ sum_below k f + f k = sum_below_more k f in
    omega (arith, one, longer, more)

-- An epoch that promotes a slot that is rebuilt, of an array whose marks say what is known.
module _ (slot : ℕ) (m last : Membership) (refusal : Option FenceFault) (old new : RackState) (e : Establishes (Promote slot) m last refusal old new)
    (rules : IsMembership m) (marked : AreMarked m) (rebuilt : IsRebuiltIn m slot) where
  after : IsAfter old new
  after = epoch_after (Promote slot) m last refusal old new e

  gone_here : (j : ℕ) → HasSlot e.gone j → IsHere m j
  gone_here j has = elim (e.took j has) [ inl is ↦ is | inr joins ↦ absurd (let never : None ≡ Some j = joins.0 in cc) ]

  gone_within : (j : ℕ) → HasSlot e.gone j → WasGoneTo m j old new
  gone_within j has =
      gone_to_by m j old new after (gone_here j has) (e.were_gone.rose j has)
      (λ honest session held reach.
      e.were_gone.shut honest session j has held
      (λ attached.
      reach attached 1 (let needed : sectors_needed m.array.geometry ≡ sectors_needed m.array.geometry = refl in omega arith)))

  aimed_own : (j : ℕ) (w : Why) → j ≡ slot → aimed (Promote slot) j w ≡ why.Here
  aimed_own j w same = cond-true _ _ _ (eq-eqb j slot same)

  aimed_other : (j : ℕ) (w : Why) → j ≢ slot → aimed (Promote slot) j w ≡ w
  aimed_other j w other = cond-false _ _ _ (ne_eqb j slot other)

  was_rebuilt : (j : ℕ) → j ≡ slot → why_of m j ≡ why.Rebuilding
  was_rebuilt j same = subst (λ (k : ℕ). why_of m k ≡ why.Rebuilding) (sym same) rebuilt.why

  -- reasons
  abbrev is_kept : ℕ → Type 0
  is_kept j = (why_of last j ≡ why_of m j) ⊎ ((j ≡ slot) × (why_of last j ≡ why.Here))

  by_aim : (j : ℕ) → why_of last j ≡ aimed (Promote slot) j (why_of m j) → is_kept j
  by_aim j is =
      elim (cases_eq j slot) [
        | inl same ↦ inr (same, is ∙ aimed_own j (why_of m j) same)
        | inr other ↦ inl (is ∙ aimed_other j (why_of m j) other)
      ]

  why_kept : (j : ℕ) → j < m.array.geometry.n → ¬ HasSlot e.gone j → is_kept j
  why_kept j below out = by e.began
    where
      by : HasBegun (Promote slot) e.gone m last → is_kept j
      by (NotYet same whys) = inl (whys j below out)
      by (Did above named whys) = by_aim j (whys j below out)

  promoted_whys : (j : ℕ) → j < m.array.geometry.n → WhyGoesOn RebuildNext old new m last j
  promoted_whys j below =
      elim (has_or_not e.gone j) [
        | inl dropped ↦ WhyGoesOn.Went (e.were_gone.dropped j dropped) (gone_within j dropped)
        | inr kept ↦
            elim (why_kept j below kept) [
              | inl same ↦ WhyGoesOn.Stays same
              | inr up ↦ WhyGoesOn.IsPromoted refl (was_rebuilt j up.0) up.1
            ]
      ]

  -- marks
  mark_by : (j : ℕ) → j < m.array.geometry.n → mark_in last.array j ≡ mark_for (aimed (Promote slot) j (why_of m j))
      → MarkGoesOn RebuildNext old new m last j
  mark_by j below is =
      elim (cases_eq j slot) [
        | inl same ↦
            MarkGoesOn.IsPromoted refl (marked j below ∙ ap mark_for (was_rebuilt j same)) (is ∙ ap mark_for (aimed_own j (why_of m j) same))
        | inr other ↦ MarkGoesOn.Stays (is ∙ ap mark_for (aimed_other j (why_of m j) other) ∙ sym (marked j below))
      ]

  promoted_marks : (j : ℕ) → j < m.array.geometry.n → MarkGoesOn RebuildNext old new m last j
  promoted_marks j below = by e.began
    where
      by : HasBegun (Promote slot) e.gone m last → MarkGoesOn RebuildNext old new m last j
      by (NotYet same whys) = MarkGoesOn.Stays (ap (λ (c : Configuration). mark_in c j) same)
      by (Did above named whys) =
          elim (named.marks j below) [
            | inl as_aimed ↦ mark_by j below as_aimed
            | inr dropped ↦ MarkGoesOn.Went (gone_within j dropped.0) dropped.1
          ]

  -- draws: each slot that was gone made room for its draw, and so did the promotion
  lighter_gone : (j : ℕ) (more : ℕ) → HasSlot e.gone j → 1 + more ≤ weight (why_of m j)
      → weight (why_of last j) + cond (has_slot e.gone j) 1 0 + more ≤ weight (why_of m j)
  lighter_gone j more has room =
      let weighs : weight (why_of last j) ≡ 0 = ap weight (e.were_gone.dropped j has) in
      let one : ◌≡◌ {A = ℕ} (cond (has_slot e.gone j) 1 0) 1 = ap (λ b. cond b 1 0) has in
      omega (arith, weighs, one, room)

  summed : (more : ℕ → ℕ)
      → ((j : ℕ) → j < m.array.geometry.n → weight (why_of last j) + cond (has_slot e.gone j) 1 0 + more j ≤ weight (why_of m j))
      → weights last + slot_count e.gone + sum_below m.array.geometry.n more ≤ weights m
  summed more lighter =
      let n = m.array.geometry.n in
      let own : weights last ≡ sum_below n (λ j. weight (why_of last j)) =
      ap (λ (g : Geometry). sum_below g.n (λ j. weight (why_of last j))) e.geometry in
      let of_gone : slot_count e.gone ≡ sum_below n (λ j. cond (has_slot e.gone j) 1 0) =
      counted_below e.gone n rules.array.limits.devices.1 (λ j has. (gone_here j has).below) in
      let two = sum_below_add n (λ j. weight (why_of last j)) (λ j. cond (has_slot e.gone j) 1 0) in
      let three = sum_below_add n (λ j. weight (why_of last j) + cond (has_slot e.gone j) 1 0) more in
      let all : sum_below n (λ j. weight (why_of last j) + cond (has_slot e.gone j) 1 0 + more j) ≤ weights m =
      sum_below_le n (λ j. weight (why_of last j) + cond (has_slot e.gone j) 1 0 + more j) (λ j. weight (why_of m j)) lighter in
      omega (arith, own, of_gone, two, three, all)

  -- the slot itself
  abbrev own_draw : ℕ → ℕ
  own_draw j = cond (j == slot) 1 0

  own_room : (j : ℕ) → IsHere m j → 1 + own_draw j ≤ weight (why_of m j)
  own_room j here =
      elim (cases_eq j slot) [
        | inl same ↦
            let one : ◌≡◌ {A = ℕ} (own_draw j) 1 = cond-true _ _ _ (eq-eqb j slot same) in
            let two : weight (why_of m j) ≡ 2 = ap weight (was_rebuilt j same) in
            omega (arith, one, two)
        | inr other ↦
            let none : ◌≡◌ {A = ℕ} (own_draw j) 0 = cond-false _ _ _ (ne_eqb j slot other) in
            let some = here_weighs m j here in
            omega (arith, none, some)
      ]

  lighter_aimed : (j : ℕ) → ¬ HasSlot e.gone j → why_of last j ≡ aimed (Promote slot) j (why_of m j)
      → weight (why_of last j) + cond (has_slot e.gone j) 1 0 + own_draw j ≤ weight (why_of m j)
  lighter_aimed j kept is =
      let zero : ◌≡◌ {A = ℕ} (cond (has_slot e.gone j) 1 0) 0 = unmarked (has_slot e.gone j) kept in
      elim (cases_eq j slot) [
        | inl same ↦
            let one : ◌≡◌ {A = ℕ} (own_draw j) 1 = cond-true _ _ _ (eq-eqb j slot same) in
            let two : weight (why_of m j) ≡ 2 = ap weight (was_rebuilt j same) in
            let now : weight (why_of last j) ≡ 1 = ap weight (is ∙ aimed_own j (why_of m j) same) in
            omega (arith, zero, one, two, now)
        | inr other ↦
            let none : ◌≡◌ {A = ℕ} (own_draw j) 0 = cond-false _ _ _ (ne_eqb j slot other) in
            let now : weight (why_of last j) ≡ weight (why_of m j) = ap weight (is ∙ aimed_other j (why_of m j) other) in
            omega (arith, zero, none, now)
      ]

  weights_aimed : ((j : ℕ) → j < m.array.geometry.n → ¬ HasSlot e.gone j → why_of last j ≡ aimed (Promote slot) j (why_of m j))
      → weights last + slot_count e.gone + 1 ≤ weights m
  weights_aimed whys =
      let one = one_counted m.array.geometry.n slot own_draw rebuilt.below (cond-true _ _ _ (eq-eqb slot slot refl)) in
      let all =
      summed own_draw
      (λ j below.
      elim (has_or_not e.gone j) [
        | inl dropped ↦ lighter_gone j (own_draw j) dropped (own_room j (gone_here j dropped))
        | inr kept ↦ lighter_aimed j kept (whys j below kept)
      ])
      in
      omega (arith, one, all)

  weights_left : ((j : ℕ) → j < m.array.geometry.n → ¬ HasSlot e.gone j → why_of last j ≡ why_of m j)
      → weights last + slot_count e.gone ≤ weights m
  weights_left whys =
      let all =
      summed (λ j. 0)
      (λ j below.
      elim (has_or_not e.gone j) [
        | inl dropped ↦
            let some = here_weighs m j (gone_here j dropped) in lighter_gone j 0 dropped (omega (arith, some))
        | inr kept ↦
            let zero : ◌≡◌ {A = ℕ} (cond (has_slot e.gone j) 1 0) 0 = unmarked (has_slot e.gone j) kept in
            let now : weight (why_of last j) ≡ weight (why_of m j) = ap weight (whys j below kept) in
            omega (arith, zero, now)
      ])
      in
      omega (arith, all)

  drawn_by : (found : Option FenceFault) → refusal ≡ found → (m.drawn ≤ last.drawn) × (last.drawn + weights last ≤ m.drawn + weights m)
  drawn_by None is =
      let at = (e.done is).drawn in let lighter = weights_aimed (e.done is).whys in (omega (arith, at), omega (arith, at, lighter))
  drawn_by (Some fault) is =
      let at = (e.refused fault is).1 in let lighter = weights_begun in (omega (arith, at), omega (arith, at, lighter))
    where
      weights_begun : weights last + slot_count e.gone ≤ weights m
      weights_begun = by e.began
        where
          by : HasBegun (Promote slot) e.gone m last → weights last + slot_count e.gone ≤ weights m
          by (NotYet same whys) = weights_left whys
          by (Did above named whys) = let lighter = weights_aimed whys in omega (arith, lighter)

  pub promotion_rebuilds : IsRebuildPart (snapshot m old) (snapshot last new)
  promotion_rebuilds = record {
    after = after;
    rules = e.rules;
    goes_on = record { geometry = e.geometry; whys = promoted_whys; marks = promoted_marks; drawn = (drawn_by refusal refl).0 };
    draws = (drawn_by refusal refl).1;
  }
