-- How far the establishing of an epoch has come.
use Rattle.std.proofs.Common.{◌≡◌, ◌≢◌, ℕ, ◌+◌, ◌<◌, ◌≤◌, false, ◌⊎◌, inl, inr, refl, sym, ap, ◌∙◌, subst, arith, Option, None, Some}
use Rattle.std.specs.Prelude.{IsTrue}
use Rattle.std.proofs.lemmas.Bool.{cases_Bool, false≢true}
use Rattle.stair_model.specs.Geometry.{Geometry}
use Rattle.stair_model.specs.Slots.{Slots, HasSlot, IsSlotSet, slot_count}
use Rattle.stair_model.proofs.SetLaws.{slot_count_none}
use Rattle.stair_rack.specs.Count.{Rose, Rose-kept}
use Rattle.stair_rack.specs.RackCounts.{NoneFalls}
use Rattle.stair_rack.proofs.PassCounts.{NoneFalls-same}
use Rattle.stair_super.specs.Superblock.{joined_in, mark_in}
use Rattle.stair_super.specs.declared.mark.Mark.TheVariants as mark
use Rattle.stair_super.specs.declared.configuration.Configuration.{Configuration}
use Rattle.stair_member.specs.ChangesSteps.{IsLiveSlot, MayBegin}
use Rattle.stair_member.specs.Epochs.{IsDropped, IsTaken}
use Rattle.stair_member.specs.Aims.{IsAimed, admitted, aimed, frozen_then, label_then, mark_for}
use Rattle.stair_member.specs.Establishing.{Did, HasBegun, NotYet}
use Rattle.stair_member.specs.HandSteps.{is_twice}
use Rattle.stair_member.specs.Membership.{Membership, IsHere, IsMembership, why_of}
use Rattle.stair_member.specs.RoundSteps.{BeganOut, BrokeOff, DrewOut, Round, WentOn}
use Rattle.stair_rack.specs.RackState.{RackState}
use Rattle.stair_member.specs.declared.aim.EpochChange.{EpochChange}
use Rattle.stair_member.specs.declared.aim.EpochChange.TheVariants as aims
use Rattle.stair_member.specs.declared.why.Why.{Why}
use Rattle.stair_member.specs.declared.why.Why.TheVariants as why
use Rattle.stair_member.proofs.AttemptLemmas.{Moved, Whole, aimed_twice, aimed_up, gone_down, mark_up, moved}
use Rattle.stair_member.proofs.ChangeLemmas.{IsUp, was_up}
use Rattle.stair_member.proofs.CountingLemmas.{has_or_not}
use Rattle.stair_member.proofs.RoundLemmas.{HasCome, come_begun, come_drawn, come_first, come_like, twice_at}
use Rattle.stair_member.proofs.SpreadLemmas.{twice_is}
use Rattle.stair_member.proofs.TakingLemmas.{IsAway, IsNamedFor, admits_below, admits_up, began_wider, named_of, taking, taking_all}

pub record Attempt (aim0 aim : EpochChange) (m0 m : Membership) (gone : Slots) (old now : RackState) : Type 0 where
  pub rules0 : IsMembership m0
  pub rules : IsMembership m
  pub geometry : m.array.geometry ≡ m0.array.geometry
  pub formed : IsSlotSet gone
  pub drawn : m.drawn ≡ m0.drawn + slot_count gone
  pub below : (j : ℕ) → HasSlot gone j → j < m0.array.geometry.n
  pub dropped : (j : ℕ) → HasSlot gone j → why_of m j ≡ why.Gone
  pub took : (j : ℕ) → HasSlot gone j → IsTaken (admitted aim0) m0 j
  pub others : (j : ℕ) → j < m0.array.geometry.n → ¬ HasSlot gone j
      → (why_of m j ≡ why_of m0 j) ⊎ (why_of m j ≡ aimed aim0 j (why_of m0 j))
  pub left : (aim ≡ aim0) ⊎ ((aim ≡ aims.Fence) × IsAway aim0 gone)
  pub apart : (j : ℕ) (w : Why) → HasSlot gone j → aimed aim j w ≡ w
  pub may0 : MayBegin aim0 m0
  pub may : MayBegin aim m
  pub down : (j : ℕ) → admitted aim0 ≡ Some j → why_of m j ≢ why.Here
  pub joined : (j : ℕ) → j < m0.array.geometry.n → mark_in m.array j ≢ mark.Down → admitted aim0 ≢ Some j
      → joined_in m.array j ≡ joined_in m0.array j
  pub fell : (j : ℕ) → j < m0.array.geometry.n → mark_in m.array j ≡ mark.Down → mark_in m0.array j ≢ mark.Down
      → (¬ IsHere m0 j) ⊎ HasSlot gone j
  pub frozen : frozen_then aim m.array ≡ frozen_then aim0 m0.array
  pub label : label_then aim m.array ≡ label_then aim0 m0.array
  pub rose : (j : ℕ) → HasSlot gone j → Rose (old.gones j) (now.gones j)
  pub counts : NoneFalls old.bads now.bads old.gones now.gones
  pub honest : now.honest ≡ old.honest
  pub began : HasBegun aim0 gone m0 m
  pub told : IsTrue now.honest
      → HasCome (taking aim0 m0) m0 m (admitted aim0) (HasSlot gone) (IsNamedFor aim0 gone m0) old.history now.history

pub attempt_first : (aim : EpochChange) (m : Membership) (gone : Slots) (now : RackState) → IsMembership m → MayBegin aim m
    → ((j : ℕ) → admitted aim ≡ Some j → why_of m j ≢ why.Here) → IsSlotSet gone → ((j : ℕ) → ¬ HasSlot gone j) → Attempt aim aim m m gone now now
attempt_first aim m gone now rules may down formed none = record {
  rules0 = rules;
  rules = rules;
  geometry = refl;
  formed = formed;
  drawn = let zero_is = slot_count_none gone (λ j small. none j) in omega (arith, zero_is);
  below = λ j has. absurd (none j has);
  dropped = λ j has. absurd (none j has);
  took = λ j has. absurd (none j has);
  others = λ j below out. inl refl;
  left = inl refl;
  apart = λ j w has. absurd (none j has);
  may0 = may;
  may = may;
  down = down;
  joined = λ j below up other. refl;
  fell = λ j below is no_one. absurd (no_one is);
  frozen = refl;
  label = refl;
  rose = λ j has. absurd (none j has);
  counts = NoneFalls-same now.bads now.gones;
  honest = refl;
  began = NotYet refl (λ j below out. refl);
  told = λ is. come_first (taking aim m) m (admitted aim) (HasSlot gone) (IsNamedFor aim gone m) now.history none;
}

-- ---- slots that an epoch drops

-- a slot that takes part is aimed to be up, so one that is dropped was gone
taken_up : (aim : EpochChange) (m : Membership) (j : ℕ) → IsTaken (admitted aim) m j → IsUp (aimed aim j (why_of m j))
taken_up aim m j (inl here) = aimed_up aim j (why_of m j) here.why
taken_up aim m j (inr joins) = inr (admits_up aim j (why_of m j) joins.0)

taken_below : (joining : Option ℕ) (m : Membership) (j : ℕ) → IsTaken joining m j → j < m.array.geometry.n
taken_below joining m j (inl here) = here.below
taken_below joining m j (inr joins) = joins.1

pub dropped_gone : (aim : EpochChange) (m : Membership) (gone : Slots) (c : Configuration) (j : ℕ) → IsNamedFor aim gone m c
    → IsDropped (admitted aim) m c j → HasSlot gone j
dropped_gone aim m gone c j (inl same) drops =
    let later : m.array.epoch < c.epoch = drops.is_new in
    let epoch : c.epoch ≡ m.array.epoch = ap (λ (x : Configuration). x.epoch) same in
    absurd (omega (arith, later, epoch))
dropped_gone aim m gone c j (inr named) drops =
    elim (named.1.marks j (taken_below (admitted aim) m j drops.taken)) [
      | inl as_aimed ↦ absurd (mark_up (aimed aim j (why_of m j)) (taken_up aim m j drops.taken) (sym as_aimed ∙ drops.down))
      | inr was ↦ was.0
    ]

-- ---- of an attempt

module _ (aim0 aim : EpochChange) (m0 m : Membership) (gone : Slots) (old now : RackState) (a : Attempt aim0 aim m0 m gone old now) where
  devices : m0.array.geometry.n ≤ 32
  devices = a.rules0.array.limits.devices.1

  below_start : (j : ℕ) → j < m.array.geometry.n → j < m0.array.geometry.n
  below_start j below = subst (λ (g : Geometry). j < g.n) a.geometry below

  below_now : (j : ℕ) → j < m0.array.geometry.n → j < m.array.geometry.n
  below_now j below = subst (λ (g : Geometry). j < g.n) (sym a.geometry) below

  -- a slot that is here was here at first, or is admitted
  was_here : (j : ℕ) → j < m0.array.geometry.n → IsUp (why_of m j) → IsUp (why_of m0 j) ⊎ (admitted aim0 ≡ Some j)
  was_here j below up =
      elim (has_or_not gone j) [
        | inl has ↦ absurd (gone_down (why_of m j) (a.dropped j has) up)
        | inr out ↦
            elim (a.others j below out) [
              | inl same ↦ inl (subst IsUp same up)
              | inr is ↦ was_aimed j (subst IsUp is up)
            ]
      ]
    where
      was_aimed : (j : ℕ) → IsUp (aimed aim0 j (why_of m0 j)) → IsUp (why_of m0 j) ⊎ (admitted aim0 ≡ Some j)
      was_aimed j up =
          elim (cases_Bool (is_twice (admitted aim0) j)) [
            | inl is ↦ inr (twice_is (admitted aim0) j is)
            | inr no_one ↦ inl (was_up aim0 m0 j a.may0 (λ at. false≢true (sym no_one ∙ twice_at (admitted aim0) j at)) up)
          ]

  -- what is aimed at now was aimed at, or is as it was
  pub now_aimed : (j : ℕ) → j < m0.array.geometry.n → ¬ HasSlot gone j → aimed aim j (why_of m j) ≡ aimed aim0 j (why_of m0 j)
  now_aimed j below out =
      elim a.left [
        | inl same ↦
            ap (λ (x : EpochChange). aimed x j (why_of m j)) same ∙ elim (a.others j below out) [
              | inl is ↦ ap (aimed aim0 j) is
              | inr is ↦ ap (aimed aim0 j) is ∙ aimed_twice aim0 j (why_of m0 j)
            ]
        | inr away ↦
            ap (λ (x : EpochChange). aimed x j (why_of m j)) away.0 ∙ elim (a.others j below out) [
              | inl is ↦ is ∙ sym (away.1.whys j (why_of m0 j) out)
              | inr is ↦ is
            ]
      ]

  -- the aim admits no other slot
  pub admits_less : (j : ℕ) → admitted aim ≡ Some j → admitted aim0 ≡ Some j
  admits_less j is =
      elim a.left [
        | inl same ↦ ap admitted (sym same) ∙ is
        | inr away ↦ let clash : None ≡ Some j = ap admitted (sym away.0) ∙ is in absurd (cc)
      ]

  pub single : (j : ℕ) → IsLiveSlot m j → (is_twice (admitted aim0) j ≡ false) × (admitted aim ≢ Some j)
  single j live = (
    elim (cases_Bool (is_twice (admitted aim0) j)) [
      | inl is ↦ absurd (a.down j (twice_is (admitted aim0) j is) live.why)
      | inr no_one ↦ no_one
    ],
    λ is. a.down j (admits_less j is) live.why,
  )

  pub only : (j : ℕ) → is_twice (admitted aim0) j ≡ false → is_twice (admitted aim) j ≡ false
  only j no_one =
      elim (cases_Bool (is_twice (admitted aim) j)) [
        | inl is ↦ absurd (false≢true (sym no_one ∙ twice_at (admitted aim0) j (admits_less j (twice_is (admitted aim) j is))))
        | inr no_slot ↦ no_slot
      ]

  pub live_taken : (j : ℕ) → IsLiveSlot m j → HasSlot (taking aim0 m0) j
  live_taken j live =
      let below = below_start j live.below in
      taking_all aim0 m0 j devices below (was_here j below (inl live.why))

  -- a slot that is here once the epoch has begun
  pub aimed_taken : (j : ℕ) → j < m0.array.geometry.n → IsUp (aimed aim j (why_of m j)) → HasSlot (taking aim0 m0) j
  aimed_taken j below up =
      taking_all aim0 m0 j devices below
      (elim (cases_Bool (is_twice (admitted aim) j)) [
        | inl is ↦ inr (admits_less j (twice_is (admitted aim) j is))
        | inr no_one ↦ was_here j below (was_up aim m j a.may (λ at. false≢true (sym no_one ∙ twice_at (admitted aim) j at)) up)
      ])

  module _ (last : Membership) (which : Option ℕ) (new : RackState) (round : Round aim m last which now new) where
    moves : Moved aim m last which now new
    moves = moved aim m last which now new a.may round

    -- the reasons after the round of a slot that wasn't gone before it, and of one that was
    pub why_after : (j : ℕ) → j < m0.array.geometry.n → ¬ HasSlot gone j
        → (why_of last j ≡ why_of m0 j) ⊎ (why_of last j ≡ aimed aim0 j (why_of m0 j))
    why_after j below out =
        elim (moves.whys j (below_now j below)) [
          | inl same ↦ elim (a.others j below out) [ inl is ↦ inl (same ∙ is) | inr is ↦ inr (same ∙ is) ]
          | inr is ↦ inr (is ∙ now_aimed j below out)
        ]

    pub gone_after : (j : ℕ) → HasSlot gone j → why_of last j ≡ why.Gone
    gone_after j has =
        elim (moves.whys j (below_now j (a.below j has))) [
          | inl same ↦ same ∙ a.dropped j has
          | inr is ↦ is ∙ a.apart j (why_of m j) has ∙ a.dropped j has
        ]

    pub fell_after : (j : ℕ) → j < m0.array.geometry.n → mark_in last.array j ≡ mark.Down → mark_in m0.array j ≢ mark.Down
        → (¬ IsHere m0 j) ⊎ HasSlot gone j
    fell_after j below is was =
        elim (moves.marks j (below_now j below)) [
          | inl same ↦ a.fell j below (sym same ∙ is) was
          | inr now_is ↦
              elim (has_or_not gone j) [
                | inl has ↦ inr has
                | inr out ↦
                    inl (λ here. mark_up (aimed aim j (why_of m j))
                    (subst IsUp (sym (now_aimed j below out)) (aimed_up aim0 j (why_of m0 j) here.why)) (sym now_is ∙ is))
              ]
        ]

    pub joined_after : (j : ℕ) → j < m0.array.geometry.n → mark_in last.array j ≢ mark.Down → admitted aim0 ≢ Some j
        → joined_in last.array j ≡ joined_in m0.array j
    joined_after j below up other =
        let was = moves.joined j (below_now j below) up (λ is. other (admits_less j is)) in
        was.1 ∙ a.joined j below was.0 other

    pub rose_after : (j : ℕ) → HasSlot gone j → Rose (old.gones j) (new.gones j)
    rose_after j has = Rose-kept (old.gones j) (now.gones j) (new.gones j) (a.rose j has) (moves.counts.gone j).not_less

    named_now : IsNamedFor aim0 gone m0 m.array
    named_now = named_of aim0 gone m0 m a.began

    above_after : Whole aim m last → m0.drawn < last.array.epoch
    above_after whole = omega (arith, a.drawn, moves.drawn, whole.epoch)

    pub aimed_after : Whole aim m last → IsAimed aim0 (HasSlot gone) m0 last.array
    aimed_after whole = record {
      geometry = moves.geometry ∙ a.geometry;
      frozen = whole.frozen ∙ a.frozen;
      label = whole.label ∙ a.label;
      marks = λ j below.
          elim (has_or_not gone j) [
            | inl has ↦ inr (has, down_after j below has)
            | inr out ↦
                inl (whole.marks j (below_now j below) ∙ ap mark_for (whole.whys j (below_now j below) ∙ now_aimed j below out))
          ];
      joined = joined_after;
      joins = λ j is up.
          elim a.left [
            | inl as_first ↦ whole.joins j (below_now j (admits_below aim0 m0 j a.may0 is)) (ap admitted as_first ∙ is) up
            | inr away ↦ absurd (up (down_after j (admits_below aim0 m0 j a.may0 is) (away.1.admits j is)))
          ];
    }
      where
        down_after : (j : ℕ) → j < m0.array.geometry.n → HasSlot gone j → mark_in last.array j ≡ mark.Down
        down_after j below has = whole.marks j (below_now j below) ∙ ap mark_for (gone_after j has)

    pub named_after : IsNamedFor aim0 gone m0 last.array
    named_after =
        elim moves.went [
          | inl same ↦ subst (IsNamedFor aim0 gone m0) (sym same.0) named_now
          | inr whole ↦ inr (above_after whole, aimed_after whole)
        ]

    pub began_after : HasBegun aim0 gone m0 last
    began_after =
        elim moves.went [
          | inl same ↦ began_wider aim0 gone gone m0 m last (λ i has. has) same.0 (λ i out. same.1 i) a.began
          | inr whole ↦
              Did (above_after whole) (aimed_after whole)
              (λ j below out. whole.whys j (below_now j below) ∙ now_aimed j below out)
        ]

    pub come_after : now.honest ≡ new.honest → IsTrue new.honest
        → HasCome (taking aim0 m0) m0 last (admitted aim0) (λ j. HasSlot gone j ⊎ (which ≡ Some j)) (IsNamedFor aim0 gone m0) old.history new.history
    come_after same honest = by round
      where
        before : HasCome (taking aim0 m0) m0 m (admitted aim0) (HasSlot gone) (IsNamedFor aim0 gone m0) old.history now.history
        before = a.told (same ∙ honest)

        here_taken : (mid : Membership) (between : RackState) (drew : DrewOut m mid None now between) (began : BeganOut aim mid last which between new) (j : ℕ)
            → IsHere began.begun j → HasSlot (taking aim0 m0) j
        here_taken mid between drew began j here =
            let same_geometry : began.begun.array.geometry ≡ m.array.geometry =
            began.begins.names.geometry ∙ ap (λ (x : Membership). x.array.geometry) drew.places.rest in
            let below : j < m0.array.geometry.n = below_start j (subst (λ (g : Geometry). j < g.n) same_geometry here.below) in
            aimed_taken j below
            (subst IsUp (began.begins.whys j (omega (arith, devices, below)) ∙ ap (aimed aim j) (ap (λ (x : Membership). why_of x j) drew.places.rest)) here.why)

        by : Round aim m last which now new
            → HasCome (taking aim0 m0) m0 last (admitted aim0) (λ j. HasSlot gone j ⊎ (which ≡ Some j)) (IsNamedFor aim0 gone m0) old.history new.history
        by (BrokeOff j is drew) =
            come_like (taking aim0 m0) m0 last last (admitted aim0) (λ i. HasSlot gone i ⊎ (Some j ≡ Some i)) (λ i. HasSlot gone i ⊎ (which ≡ Some i))
            (IsNamedFor aim0 gone m0) (IsNamedFor aim0 gone m0) old.history new.history refl refl refl
            (λ i. (
              λ at. elim at [ inl has ↦ inl has | inr one ↦ inr (sym is ∙ one) ],
              λ at. elim at [ inl has ↦ inl has | inr one ↦ inr (is ∙ one) ],
            )) (λ x is_named. is_named)
            (come_drawn (taking aim0 m0) m0 m (admitted aim0) (HasSlot gone) (IsNamedFor aim0 gone m0) old.history now.history before (dropped_gone aim0 m0 gone) named_now a.rules0 a.rules drew.room drew.live drew.lives
            live_taken last (Some j) new.history (drew.told honest) drew.places)
        by (WentOn mid between now_same drew began) =
            come_begun (taking aim0 m0) m0 m (admitted aim0) (HasSlot gone) (IsNamedFor aim0 gone m0) old.history now.history before (dropped_gone aim0 m0 gone) named_now a.rules0 a.rules drew.room drew.live drew.lives
            live_taken aim mid began.begun last between.history new.history which began.here drew.few (drew.told (sym now_same ∙ same ∙ honest)) drew.places
            began.begins began.begun_rules began.heres (here_taken mid between drew began) (began.told honest) began.places single only
            (subst (λ (x : Membership). IsNamedFor aim0 gone m0 x.array) began.places.rest named_after)

-- ---- the end
