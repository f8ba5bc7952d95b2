-- What an epoch that admits a slot does to what a session knows of its slots, on any rack.
use Rattle.std.proofs.Common.{◌≡◌, ◌≢◌, ℕ, ◌+◌, ◌<◌, ◌≤◌, List, arith, cond, inl, inr, refl, sym, ap, ◌∙◌, subst, None, Option, Some}
use Rattle.std.specs.Prelude.{◌⊎◌, ◌==◌, slice_index_or}
use Rattle.std.proofs.lemmas.Bool.{cases_eq, cond-false, cond-true, eq-eqb, ne_eqb}
use Rattle.stair_model.specs.Geometry.{Geometry, sectors_needed}
use Rattle.stair_model.specs.Slots.{HasSlot, has_slot, slot_count}
use Rattle.stair_model.specs.Sum.{sum_below}
use Rattle.stair_model.proofs.CountLaws.{sum_below_add, sum_below_changed, sum_below_le}
use Rattle.stair_model.proofs.SetLaws.{mark_small, unmarked}
use Rattle.stair_rack.specs.RackState.{IsLater, RackState}
use Rattle.stair_super.specs.Superblock.{mark_in}
use Rattle.stair_super.specs.declared.configuration.Configuration.{Configuration}
use Rattle.stair_super.specs.declared.mark.Mark.TheVariants.{Down}
use Rattle.stair_member.specs.Aims.{aimed, mark_for}
use Rattle.stair_member.specs.Establishing.{Did, Establishes, HasBegun, NotYet}
use Rattle.stair_member.specs.Membership.{IsHere, IsMembership, Membership, why_of}
use Rattle.stair_member.specs.declared.aim.EpochChange.TheVariants.{Admit}
use Rattle.stair_member.specs.declared.fault.FenceFault.{FenceFault}
use Rattle.stair_member.specs.declared.why.Why.{Why}
use Rattle.stair_member.specs.declared.why.Why.TheVariants as why
use Rattle.stair_member.proofs.CountingLemmas.{has_or_not}
use Rattle.stair_array.specs.Causes.{MarkGoesOn, MemberGoesOn, WasGoneTo, WhyGoesOn}
use Rattle.stair_array.specs.Draws.{weight, weights}
use Rattle.stair_array.specs.Machine.{ReplaceSlot}
use Rattle.stair_array.proofs.GoneToLemmas.{IsAfter, after_none, gone_to_by, gone_to_earlier, gone_to_wider}
use Rattle.stair_array.proofs.PartsLemmas.{counted_below, epoch_after, epoch_drawn, here_weighs}

weighs_two : (w : Why) → weight w ≤ 2
weighs_two why.Here = omega arith
weighs_two why.Rebuilding = omega arith
weighs_two w = omega arith

-- a slot that was admitted, and wasn't gone, takes part once the epoch stands
pub admit_here : (slot : ℕ) (m last : Membership) (refusal : Option FenceFault) (old new : RackState)
    → (e : Establishes (Admit slot) m last refusal old new) → refusal ≡ None → slot < m.array.geometry.n → ¬ HasSlot e.gone slot → IsHere last slot
admit_here slot m last refusal old new e done within out = record {
  below = subst (λ (g : Geometry). slot < g.n) (sym e.geometry) within;
  why = inr ((e.done done).whys slot within out ∙ cond-true _ _ _ (eq-eqb slot slot refl));
}

-- An epoch that admits a slot, which isn't here, begun by a member that has the array and the reasons of m.
module _ (slot : ℕ) (m start last : Membership) (refusal : Option FenceFault) (old mid new : RackState)
    (e : Establishes (Admit slot) start last refusal mid new) (same_array : start.array ≡ m.array) (same_whys : start.whys ≡ m.whys)
    (before : IsLater old mid) where
  pub admit_after : IsAfter mid new
  admit_after = epoch_after (Admit slot) start last refusal mid new e

  of_start : start.array.geometry ≡ m.array.geometry
  of_start = ap (λ (c : Configuration). c.geometry) same_array

  pub admit_geometry : last.array.geometry ≡ m.array.geometry
  admit_geometry = e.geometry ∙ of_start

  start_n : (j : ℕ) → j < m.array.geometry.n → j < start.array.geometry.n
  start_n j below = subst (λ (g : Geometry). j < g.n) (sym of_start) below

  why_start : (j : ℕ) → why_of start j ≡ why_of m j
  why_start j = ap (λ (whys : List Why). slice_index_or whys j why.Here) same_whys

  here_first : (j : ℕ) → IsHere start j → IsHere m j
  here_first j here = record {
    below = subst (λ (g : Geometry). j < g.n) of_start here.below;
    why = subst (λ (w : Why). (w ≡ why.Here) ⊎ (w ≡ why.Rebuilding)) (why_start j) here.why;
  }

  -- what the epoch is for
  aimed_slot : (w : Why) → aimed (Admit slot) slot w ≡ why.Rebuilding
  aimed_slot w = cond-true _ _ _ (eq-eqb slot slot refl)

  aimed_other : (j : ℕ) → j ≢ slot → (w : Why) → aimed (Admit slot) j w ≡ w
  aimed_other j other w = cond-false _ _ _ (ne_eqb j slot other)

  -- another slot that was gone to the epoch took part
  gone_here : (j : ℕ) → j ≢ slot → HasSlot e.gone j → IsHere start j
  gone_here j other has =
      elim (e.took j has) [
        | inl is ↦ is
        | inr joins ↦ let one : Some slot ≡ Some j = joins.0 in let same : j ≡ slot = cc in absurd (other same)
      ]

  gone_within : (j : ℕ) → j ≢ slot → HasSlot e.gone j → WasGoneTo m j old new
  gone_within j other has =
      gone_to_wider m j old mid new new before admit_after.later (after_none new)
      (gone_to_earlier m start j mid new of_start (here_first j)
      (gone_to_by start j mid new admit_after (gone_here j other has) (e.were_gone.rose j has)
      (λ honest session held reach.
      e.were_gone.shut honest session j has held
      (λ attached.
      reach attached 1
      (let needed : sectors_needed start.array.geometry ≡ sectors_needed start.array.geometry = refl in omega arith)))))

  -- REASONS

  why_kept : (j : ℕ) → j ≢ slot → j < m.array.geometry.n → ¬ HasSlot e.gone j → why_of last j ≡ why_of m j
  why_kept j other below out = by e.began
    where
      by : HasBegun (Admit slot) e.gone start last → why_of last j ≡ why_of m j
      by (NotYet same whys) = whys j (start_n j below) out ∙ why_start j
      by (Did above named whys) = whys j (start_n j below) out ∙ aimed_other j other (why_of start j) ∙ why_start j

  -- the slot itself is admitted, or it was gone
  module _ (within : slot < m.array.geometry.n) (gone_slot : HasSlot e.gone slot → WasGoneTo m slot old new) where
    why_slot : WhyGoesOn (ReplaceSlot slot) old new m last slot
    why_slot =
        elim (has_or_not e.gone slot) [
          | inl dropped ↦ WhyGoesOn.Went (e.were_gone.dropped slot dropped) (gone_slot dropped)
          | inr out ↦ by e.began out
        ]
      where
        by : HasBegun (Admit slot) e.gone start last → ¬ HasSlot e.gone slot → WhyGoesOn (ReplaceSlot slot) old new m last slot
        by (NotYet same whys) out = WhyGoesOn.Stays (whys slot (start_n slot within) out ∙ why_start slot)
        by (Did above named whys) out = WhyGoesOn.IsAdmitted refl (whys slot (start_n slot within) out ∙ aimed_slot (why_of start slot))

    admit_whys : (j : ℕ) → j < m.array.geometry.n → WhyGoesOn (ReplaceSlot slot) old new m last j
    admit_whys j below =
        elim (cases_eq j slot) [
          | inl same ↦ subst (WhyGoesOn (ReplaceSlot slot) old new m last) (sym same) why_slot
          | inr other ↦
              elim (has_or_not e.gone j) [
                | inl dropped ↦ WhyGoesOn.Went (e.were_gone.dropped j dropped) (gone_within j other dropped)
                | inr out ↦ WhyGoesOn.Stays (why_kept j other below out)
              ]
        ]

    -- MARKS

    module _ (marks : (j : ℕ) → j < m.array.geometry.n → mark_in m.array j ≡ mark_for (why_of m j)) (free : mark_in m.array slot ≡ Down) where
      mark_slot : (mark_in last.array slot ≡ mark_for (aimed (Admit slot) slot (why_of start slot)))
          ⊎ (HasSlot e.gone slot × (mark_in last.array slot ≡ Down)) → MarkGoesOn (ReplaceSlot slot) old new m last slot
      mark_slot (inl as_aimed) = MarkGoesOn.IsAdmitted refl (as_aimed ∙ ap mark_for (aimed_slot (why_of start slot)))
      mark_slot (inr dropped) = MarkGoesOn.Stays (dropped.1 ∙ sym free)

      mark_other : (j : ℕ) → j ≢ slot → j < m.array.geometry.n → (mark_in last.array j ≡ mark_for (aimed (Admit slot) j (why_of start j)))
          ⊎ (HasSlot e.gone j × (mark_in last.array j ≡ Down)) → MarkGoesOn (ReplaceSlot slot) old new m last j
      mark_other j other below (inl as_aimed) =
          MarkGoesOn.Stays (as_aimed ∙ ap mark_for (aimed_other j other (why_of start j) ∙ why_start j) ∙ sym (marks j below))
      mark_other j other below (inr dropped) = MarkGoesOn.Went (gone_within j other dropped.0) dropped.1

      admit_marks : (j : ℕ) → j < m.array.geometry.n → MarkGoesOn (ReplaceSlot slot) old new m last j
      admit_marks j below = by e.began
        where
          by : HasBegun (Admit slot) e.gone start last → MarkGoesOn (ReplaceSlot slot) old new m last j
          by (NotYet same whys) = MarkGoesOn.Stays (ap (λ (c : Configuration). mark_in c j) (same ∙ same_array))
          by (Did above named whys) =
              elim (cases_eq j slot) [
                | inl same ↦
                    subst (MarkGoesOn (ReplaceSlot slot) old new m last) (sym same) (mark_slot (named.marks slot (start_n slot within)))
                | inr other ↦ mark_other j other below (named.marks j (start_n j below))
              ]

      pub admit_goes_on : m.drawn ≤ start.drawn → MemberGoesOn (ReplaceSlot slot) old new m last
      admit_goes_on least = record {
        geometry = admit_geometry;
        whys = admit_whys;
        marks = admit_marks;
        drawn = let above = (epoch_drawn (Admit slot) start last refusal mid new e).0 in omega (arith, least, above);
      }

  -- DRAWS

  -- one that is rebuilt from now on weighs two
  abbrev more_for : ℕ → ℕ
  more_for j = weight (why_of m j) + cond (j == slot) 2 0

  more_slot : more_for slot ≡ weight (why_of m slot) + 2
  more_slot = ap (λ (n : ℕ). weight (why_of m slot) + n) (cond-true _ _ _ (eq-eqb slot slot refl))

  more_other : (j : ℕ) → j ≢ slot → more_for j ≡ weight (why_of m j)
  more_other j other =
      let none : ◌≡◌ {A = ℕ} (cond (j == slot) 2 0) 0 = cond-false _ _ _ (ne_eqb j slot other) in omega (arith, none)

  -- a slot that was gone weighs nothing any more
  abbrev weighs_less : ℕ → Type 0
  weighs_less j = weight (why_of last j) + cond (has_slot e.gone j) 1 0 ≤ more_for j

  lighter_slot : weighs_less slot
  lighter_slot =
      let plus = more_slot in
      elim (has_or_not e.gone slot) [
        | inl dropped ↦
            let weighs : weight (why_of last slot) ≡ 0 = ap weight (e.were_gone.dropped slot dropped) in
            let one = mark_small (has_slot e.gone slot) in
            omega (arith, plus, weighs, one)
        | inr out ↦
            let zero : ◌≡◌ {A = ℕ} (cond (has_slot e.gone slot) 1 0) 0 = unmarked (has_slot e.gone slot) out in
            let two = weighs_two (why_of last slot) in
            omega (arith, plus, zero, two)
      ]

  lighter_other : (j : ℕ) → j ≢ slot → j < m.array.geometry.n → weighs_less j
  lighter_other j other below =
      let plus = more_other j other in
      elim (has_or_not e.gone j) [
        | inl dropped ↦
            let weighs : weight (why_of last j) ≡ 0 = ap weight (e.were_gone.dropped j dropped) in
            let one = mark_small (has_slot e.gone j) in
            let was : 1 ≤ weight (why_of m j) = here_weighs m j (here_first j (gone_here j other dropped)) in
            omega (arith, plus, weighs, one, was)
        | inr out ↦
            let zero : ◌≡◌ {A = ℕ} (cond (has_slot e.gone j) 1 0) 0 = unmarked (has_slot e.gone j) out in
            let weighs : weight (why_of last j) ≡ weight (why_of m j) = ap weight (why_kept j other below out) in
            omega (arith, plus, zero, weighs)
      ]

  lighter : (j : ℕ) → j < m.array.geometry.n → weighs_less j
  lighter j below = elim (cases_eq j slot) [ inl same ↦ subst weighs_less (sym same) lighter_slot | inr other ↦ lighter_other j other below ]

  admit_weights : IsMembership m → slot < m.array.geometry.n → weights last + slot_count e.gone ≤ weights m + 2
  admit_weights rules within =
      let n = m.array.geometry.n in
      let limit : n ≤ 32 = rules.array.limits.devices.1 in
      let own : weights last ≡ sum_below n (λ j. weight (why_of last j)) =
      ap (λ (g : Geometry). sum_below g.n (λ j. weight (why_of last j))) admit_geometry in
      let of_gone : slot_count e.gone ≡ sum_below n (λ j. cond (has_slot e.gone j) 1 0) =
      counted_below e.gone n limit (λ j has. subst (λ (g : Geometry). j < g.n) of_start (e.were_gone.below j has)) in
      let two = sum_below_add n (λ j. weight (why_of last j)) (λ j. cond (has_slot e.gone j) 1 0) in
      let all : sum_below n (λ j. weight (why_of last j) + cond (has_slot e.gone j) 1 0) ≤ sum_below n more_for =
      sum_below_le n (λ j. weight (why_of last j) + cond (has_slot e.gone j) 1 0) more_for lighter in
      let grown : sum_below n more_for ≡ weights m + 2 =
      sum_below_changed n slot 2 (λ j. weight (why_of m j)) more_for within more_slot (λ j below other. more_other j other) in
      omega (arith, own, of_gone, two, all, grown)

  pub admit_draws : IsMembership m → slot < m.array.geometry.n → last.drawn + weights last ≤ start.drawn + weights m + 3
  admit_draws rules within =
      let most = (epoch_drawn (Admit slot) start last refusal mid new e).1 in
      let lighter_by = admit_weights rules within in
      omega (arith, most, lighter_by)
