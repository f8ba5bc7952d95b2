-- How the establishing of an epoch goes on after a slot was gone.
use Rattle.std.proofs.Common.{◌≡◌, ◌≢◌, ℕ, suc, replicate, ◌-◌, ◌<◌, ◌≤◌, true, false, ◌⊎◌, inl, inr, refl, sym, ap, ◌∙◌, subst, arith, Some}
use Rattle.std.specs.Prelude.{◌↔◌}
use Rattle.std.proofs.lemmas.Bool.{cases_eq, cond-true, cond-false, eq-eqb, ne_eqb}
use Rattle.std.proofs.lemmas.List.{get_or-replicate}
use Rattle.stair_model.specs.Geometry.{Geometry}
use Rattle.stair_model.specs.Slots.{Slots, HasSlot, IsSlotSet, slot_count}
use Rattle.stair_model.proofs.SetLaws.{slot_count_more, slot_count_most}
use Rattle.stair_rack.specs.Count.{Rose, kept-Rose}
use Rattle.stair_rack.proofs.PassCounts.{NoneFalls-then}
use Rattle.stair_super.specs.declared.configuration.Configuration.{Configuration}
use Rattle.stair_member.specs.ChangesSteps.{MayBegin, without}
use Rattle.stair_member.specs.Epochs.{IsTaken}
use Rattle.stair_member.specs.Aims.{admitted, aimed, frozen_then, label_then}
use Rattle.stair_member.specs.Membership.{Membership, IsMembership, why_of}
use Rattle.stair_member.specs.RoundSteps.{Round, left_after}
use Rattle.stair_rack.specs.RackState.{RackState}
use Rattle.stair_member.specs.declared.aim.EpochChange.{EpochChange}
use Rattle.stair_member.specs.declared.aim.EpochChange.TheVariants as aims
use Rattle.stair_member.specs.declared.why.Why.{Why}
use Rattle.stair_member.specs.declared.why.Why.TheVariants as why
use Rattle.stair_member.proofs.AttemptLemmas.{Moved, aimed_up, gone_down, moved}
use Rattle.stair_member.proofs.ChangeLemmas.{IsUp, why_others, why_without}
use Rattle.stair_member.proofs.RoundLemmas.{come_like}
use Rattle.stair_member.proofs.TakingLemmas.{IsAway, IsNamedFor, admits_below, admits_up, began_wider, named_wider, taking, taking_only}
use Rattle.stair_member.proofs.EstablishLemmas.{Attempt, aimed_taken, began_after, come_after, fell_after, gone_after, joined_after, rose_after, why_after}

-- the aim goes on, and isn't at this slot; or it was at this slot, and nothing is left of it
left_which : (aim : EpochChange) (j : ℕ) → ((left_after aim j ≡ aim) × ((w : Why) → aimed aim j w ≡ w))
    ⊎ ((left_after aim j ≡ aims.Fence) × ((gone : Slots) → HasSlot gone j → IsAway aim gone))
left_which aims.Fence j = inl (refl, λ w. refl)
left_which (aims.Admit slot) j =
    elim (cases_eq slot j) [
      | inr other ↦ inl (cond-false _ _ _ (ne_eqb slot j other), λ w. cond-false _ _ _ (ne_eqb j slot (λ same. other (sym same))))
      | inl same ↦
          inr (
            cond-true _ _ _ (eq-eqb slot j same),
            λ gone has. record {
              whys = λ i w out. cond-false _ _ _ (ne_eqb i slot (λ at. out (subst (HasSlot gone) (sym (at ∙ same)) has)));
              admits = λ i is. let at : slot ≡ i = cc in subst (HasSlot gone) (sym same ∙ at) has;
              frozen = λ c. refl;
              label = λ c. refl;
            },
          )
    ]
left_which (aims.Promote slot) j =
    elim (cases_eq slot j) [
      | inr other ↦ inl (cond-false _ _ _ (ne_eqb slot j other), λ w. cond-false _ _ _ (ne_eqb j slot (λ same. other (sym same))))
      | inl same ↦
          inr (
            cond-true _ _ _ (eq-eqb slot j same),
            λ gone has. record {
              whys = λ i w out. cond-false _ _ _ (ne_eqb i slot (λ at. out (subst (HasSlot gone) (sym (at ∙ same)) has)));
              admits = λ i is. absurd (cc);
              frozen = λ c. refl;
              label = λ c. refl;
            },
          )
    ]
left_which (aims.Stamp frozen label) j = inl (refl, λ w. refl)

-- a set that has slot j
all_slots : ℕ → Slots
all_slots j = record { marks = replicate (suc j) true }

all_slots-has : (j : ℕ) → HasSlot (all_slots j) j
unfolding all_slots
all_slots-has j = get_or-replicate (suc j) j true false (omega arith)

left_frozen : (aim : EpochChange) (j : ℕ) (c : Configuration) → frozen_then (left_after aim j) c ≡ frozen_then aim c
left_frozen aim j c =
    elim (left_which aim j) [
      | inl on ↦ ap (λ (x : EpochChange). frozen_then x c) on.0
      | inr off ↦ ap (λ (x : EpochChange). frozen_then x c) off.0 ∙ sym ((off.1 (all_slots j) (all_slots-has j)).frozen c)
    ]

left_label : (aim : EpochChange) (j : ℕ) (c : Configuration) → label_then (left_after aim j) c ≡ label_then aim c
left_label aim j c =
    elim (left_which aim j) [
      | inl on ↦ ap (λ (x : EpochChange). label_then x c) on.0
      | inr off ↦ ap (λ (x : EpochChange). label_then x c) off.0 ∙ sym ((off.1 (all_slots j) (all_slots-has j)).label c)
    ]

away_more : (aim : EpochChange) (gone more : Slots) → ((j : ℕ) → HasSlot gone j → HasSlot more j) → IsAway aim gone → IsAway aim more
away_more aim gone more within away = record {
  whys = λ j w out. away.whys j w (λ has. out (within j has));
  admits = λ j is. within j (away.admits j is);
  frozen = away.frozen;
  label = away.label;
}

-- of a member that says the same of other slots
may_go_on : (aim : EpochChange) (j : ℕ) (m x : Membership) → x.array.geometry ≡ m.array.geometry
    → ((i : ℕ) → i < m.array.geometry.n → i ≢ j → IsUp (why_of m i) → IsUp (why_of x i)) → MayBegin aim m → ((w : Why) → aimed aim j w ≡ w)
    → MayBegin aim x
may_go_on aims.Fence j m x geometry up may apart = tt
may_go_on (aims.Admit slot) j m x geometry up may apart = subst (λ (g : Geometry). slot < g.n) (sym geometry) may
may_go_on (aims.Promote slot) j m x geometry up may apart = (
  subst (λ (g : Geometry). slot < g.n) (sym geometry) may.0,
  up slot may.0 (λ same.
      let here : why.Here ≡ why.Gone = sym (cond-true _ _ _ (eq-eqb j slot (sym same))) ∙ apart why.Gone in
      absurd (cc)) may.1,
)
may_go_on (aims.Stamp frozen label) j m x geometry up may apart = tt

module _ (aim0 aim : EpochChange) (m0 m last : Membership) (gone more : Slots) (j : ℕ) (old now new : RackState) (a : Attempt aim0 aim m0 m gone old now)
    (round : Round aim m last (Some j) now new) (same : now.honest ≡ new.honest) (formed : IsSlotSet more)
    (members : (i : ℕ) → HasSlot more i ↔ (HasSlot gone i ⊎ (i ≡ j))) (sizes : IsMembership last) (rules : IsMembership (without last j)) where
  moves_now : Moved aim m last (Some j) now new
  moves_now = moved aim m last (Some j) now new a.may round

  at_slot : j < m0.array.geometry.n
  at_slot = subst (λ (g : Geometry). j < g.n) a.geometry (moves_now.fell j refl).0

  few : m0.array.geometry.n ≤ 32
  few = a.rules0.array.limits.devices.1

  small : j < 32
  small = omega (arith, few, at_slot)

  out_before : ¬ HasSlot gone j
  out_before has =
      elim (moves_now.fell j refl).2 [
        | inl up ↦ gone_down (why_of m j) (a.dropped j has) up
        | inr up ↦ gone_down (aimed aim j (why_of m j)) (a.apart j (why_of m j) has ∙ a.dropped j has) up
      ]

  -- the slots that may still be gone are fewer
  pub fewer_left : 32 - slot_count more < 32 - slot_count gone
  fewer_left =
      let counted = slot_count_more gone more j small out_before (λ i below. members i) in
      let most = slot_count_most more in
      omega (arith, counted, most)

  into : (i : ℕ) → HasSlot gone i → HasSlot more i
  into i has = (members i).1 (inl has)

  has_it : HasSlot more j
  has_it = (members j).1 (inr refl)

  other_slot : (i : ℕ) → ¬ HasSlot more i → i ≢ j
  other_slot i out is = out ((members i).1 (inr is))

  gone_now : (i : ℕ) → HasSlot more i → why_of (without last j) i ≡ why.Gone
  gone_now i has =
      elim (cases_eq i j) [
        | inl at ↦ ap (why_of (without last j)) at ∙ why_without last j small sizes.sizes.whys
        | inr other ↦
            why_others last j i other
            ∙ gone_after aim0 aim m0 m gone old now a last (Some j) new round i
            (elim ((members i).0 has) [ inl had ↦ had | inr at ↦ absurd (other at) ])
      ]

  -- the slot was here at first, or is admitted
  took_part : IsTaken (admitted aim0) m0 j
  took_part =
      taking_only aim0 m0 j
      (aimed_taken aim0 aim m0 m gone old now a j at_slot
      (elim (moves_now.fell j refl).2 [ inl up ↦ aimed_up aim j (why_of m j) up | inr up ↦ up ]))

  left_now : (left_after aim j ≡ aim0) ⊎ ((left_after aim j ≡ aims.Fence) × IsAway aim0 more)
  left_now =
      elim a.left [
        | inl as_first ↦
            elim (left_which aim j) [
              | inl on ↦ inl (on.0 ∙ as_first)
              | inr off ↦ inr (off.0, subst (λ (x : EpochChange). IsAway x more) as_first (off.1 more has_it))
            ]
        | inr away ↦
            inr (ap (λ (x : EpochChange). left_after x j) away.0, away_more aim0 gone more into away.1)
      ]

  apart_now : (i : ℕ) (w : Why) → HasSlot more i → aimed (left_after aim j) i w ≡ w
  apart_now i w has =
      elim (left_which aim j) [
        | inr off ↦ ap (λ (x : EpochChange). aimed x i w) off.0
        | inl on ↦
            ap (λ (x : EpochChange). aimed x i w) on.0 ∙ elim ((members i).0 has) [
              | inl had ↦ a.apart i w had
              | inr at ↦ ap (λ (k : ℕ). aimed aim k w) at ∙ on.1 w
            ]
      ]

  up_now : (i : ℕ) → i < m.array.geometry.n → i ≢ j → IsUp (why_of m i) → IsUp (why_of (without last j) i)
  up_now i below other up =
      subst IsUp (sym (why_others last j i other))
      (elim (moves_now.whys i below) [
        | inl as_was ↦ subst IsUp (sym as_was) up
        | inr is ↦ subst IsUp (sym is) (aimed_up aim i (why_of m i) up)
      ])

  may_now : MayBegin (left_after aim j) (without last j)
  may_now =
      elim (left_which aim j) [
        | inr off ↦ subst (λ (x : EpochChange). MayBegin x (without last j)) (sym off.0) tt
        | inl on ↦
            subst (λ (x : EpochChange). MayBegin x (without last j)) (sym on.0)
            (may_go_on aim j m (without last j) moves_now.geometry up_now a.may on.1)
      ]

  down_now : (i : ℕ) → admitted aim0 ≡ Some i → why_of (without last j) i ≢ why.Here
  down_now i is here =
      let below : i < m.array.geometry.n = subst (λ (g : Geometry). i < g.n) (sym a.geometry) (admits_below aim0 m0 i a.may0 is) in
      elim (cases_eq i j) [
        | inl at ↦
            let dropped : why.Gone ≡ why.Here = sym (gone_now i (subst (HasSlot more) (sym at) has_it)) ∙ here in
            absurd (cc)
        | inr other ↦
            let here_last : why_of last i ≡ why.Here = sym (why_others last j i other) ∙ here in
            elim (moves_now.whys i below) [
              | inl as_was ↦ a.down i is (sym as_was ∙ here_last)
              | inr now_is ↦
                  elim a.left [
                    | inl as_first ↦
                        let rebuilt : why.Rebuilding ≡ why.Here =
                        sym (admits_up aim i (why_of m i) (ap admitted as_first ∙ is)) ∙ sym now_is ∙ here_last in
                        absurd (cc)
                    | inr away ↦ a.down i is (sym (ap (λ (x : EpochChange). aimed x i (why_of m i)) away.0) ∙ sym now_is ∙ here_last)
                  ]
            ]
      ]

  pub attempt_more : Attempt aim0 (left_after aim j) m0 (without last j) more old new
  attempt_more = record {
    rules0 = a.rules0;
    rules = rules;
    geometry = moves_now.geometry ∙ a.geometry;
    formed = formed;
    drawn =
        let counted = slot_count_more gone more j small out_before (λ i below. members i) in
        omega (arith, counted, moves_now.drawn, a.drawn);
    below = λ i has. elim ((members i).0 has) [ inl had ↦ a.below i had | inr at ↦ subst (λ (k : ℕ). k < m0.array.geometry.n) (sym at) at_slot ];
    dropped = gone_now;
    took = λ i has. elim ((members i).0 has) [ inl had ↦ a.took i had | inr at ↦ subst (IsTaken (admitted aim0) m0) (sym at) took_part ];
    others = λ i below out.
        let after = why_after aim0 aim m0 m gone old now a last (Some j) new round i below (λ has. out (into i has)) in
        let as_last = why_others last j i (other_slot i out) in
        elim after [ inl is ↦ inl (as_last ∙ is) | inr is ↦ inr (as_last ∙ is) ];
    left = left_now;
    apart = apart_now;
    may0 = a.may0;
    may = may_now;
    down = down_now;
    joined = λ i below up other. joined_after aim0 aim m0 m gone old now a last (Some j) new round i below up other;
    fell = λ i below is was.
        elim (fell_after aim0 aim m0 m gone old now a last (Some j) new round i below is was) [
          | inl not_here ↦ inl not_here
          | inr has ↦ inr (into i has)
        ];
    frozen = left_frozen aim j last.array ∙ moves_now.frozen ∙ a.frozen;
    label = left_label aim j last.array ∙ moves_now.label ∙ a.label;
    rose = λ i has.
        elim ((members i).0 has) [
          | inl had ↦ rose_after aim0 aim m0 m gone old now a last (Some j) new round i had
          | inr at ↦
              subst (λ (k : ℕ). Rose (old.gones k) (new.gones k)) (sym at)
              (kept-Rose (old.gones j) (now.gones j) (new.gones j) (a.counts.gone j).not_less (moves_now.counts.gone j).not_less (moves_now.fell j refl).1)
        ];
    counts = NoneFalls-then a.counts moves_now.counts;
    honest = sym same ∙ a.honest;
    began =
        began_wider aim0 gone more m0 last (without last j) into refl (λ i out. why_others last j i (other_slot i out))
        (began_after aim0 aim m0 m gone old now a last (Some j) new round);
    told = λ honest.
        come_like (taking aim0 m0) m0 last (without last j) (admitted aim0) (λ i. HasSlot gone i ⊎ (Some j ≡ Some i)) (HasSlot more)
        (IsNamedFor aim0 gone m0) (IsNamedFor aim0 more m0) old.history new.history refl refl refl
        (λ i. (
          λ has. elim ((members i).0 has) [ inl had ↦ inl had | inr at ↦ inr (ap (λ (k : ℕ). Some k) (sym at)) ],
          λ is. (members i).1 (elim is [ inl had ↦ inl had | inr at ↦ inr (let same : i ≡ j = cc in same) ]),
        ))
        (λ c is. named_wider aim0 gone more m0 c into is)
        (come_after aim0 aim m0 m gone old now a last (Some j) new round same honest);
  }
