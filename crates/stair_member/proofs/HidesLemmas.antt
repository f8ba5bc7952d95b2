-- While an epoch is established a medium whose superblock marks its slot Live hides none with another joined number.
use Rattle.std.proofs.Common.{◌≡◌, ◌≢◌, ℕ, ◌-◌, ◌<◌, ◌≤◌, List, inl, inr, refl, sym, ap, ◌∙◌, subst, arith, Some}
use Rattle.std.specs.Prelude.{◌⊎◌, Contains, IsSome, Option, None}
use Rattle.std.proofs.lemmas.Bool.{cases_eq, cases_lt, cond-true, eq-eqb}
use Rattle.stair_model.specs.Geometry.{Geometry}
use Rattle.stair_model.specs.Slots.{Slots}
use Rattle.stair_rack.specs.Crash.{CrashMayLeave, image_now}
use Rattle.stair_rack.specs.History.{Happening, slot_state}
use Rattle.stair_rack.specs.Media.{Image, has_sector}
use Rattle.stair_rack.specs.Sector.{content}
use Rattle.stair_rack.proofs.TidyLemmas.{history_tidy}
use Rattle.stair_super.specs.Newer.{IsOlder}
use Rattle.stair_super.specs.Superblock.{Superblock, joined_in, mark_at, mark_in}
use Rattle.stair_super.specs.declared.configuration.Configuration.{Configuration}
use Rattle.stair_super.specs.declared.mark.Mark.TheVariants.{Down, Live}
use Rattle.stair_super.specs.declared.mark.Mark.TheVariants as mark
use Rattle.stair_member.specs.Aims.{admitted, aimed, mark_for}
use Rattle.stair_member.specs.Editions.{Edition, copy_of}
use Rattle.stair_member.specs.Epochs.{AreReserved, IsTaken}
use Rattle.stair_member.specs.Fencing.{IsFencing}
use Rattle.stair_member.specs.Membership.{IsHere, Membership, place_of, why_of}
use Rattle.stair_member.specs.Reserve.{Bears, HidesNoOther}
use Rattle.stair_member.specs.Superblocks.{Counts, First, HoldsSuper, IsSuperOf, Second}
use Rattle.stair_member.specs.declared.aim.EpochChange.{EpochChange}
use Rattle.stair_member.specs.declared.aim.EpochChange.TheVariants as aims
use Rattle.stair_member.specs.declared.why.Why.{Why}
use Rattle.stair_member.specs.declared.why.Why.TheVariants.{Rebuilding}
use Rattle.stair_member.proofs.EditionLemmas.{Entry, IsOf, IsWritable, Issue, bears_below, none_held_there}
use Rattle.stair_member.proofs.FencingLemmas.{from, known}
use Rattle.stair_member.proofs.SuperLemmas.{holds_once, super_at, super_by_holds}
use Rattle.stair_member.proofs.TurnLemmas.{turn_in}

-- the slot that is admitted is rebuilt
aimed_joining : (aim : EpochChange) (j : ℕ) (w : Why) → admitted aim ≡ Some j → aimed aim j w ≡ Rebuilding
aimed_joining aims.Fence j w joins = absurd (cc)
aimed_joining (aims.Admit slot) j w joins = cond-true _ _ _ (eq-eqb j slot (sym (some_once slot j joins)))
  where
    some_once : (a b : ℕ) → Some a ≡ Some b → a ≡ b
    some_once a b is = cc
aimed_joining (aims.Promote slot) j w joins = absurd (cc)
aimed_joining (aims.Stamp frozen label) j w joins = absurd (cc)

module _ (aim : EpochChange) (gone : Slots) (m last : Membership) (old h new : List Happening) (f : IsFencing aim gone m last old h new)
    (image : Image) (left : CrashMayLeave h image)
    (r : AreReserved (admitted aim) f.issued.slots f.issued.editions m old h)
    (hidden : (j : ℕ) (s newest : Superblock) → Bears m.array.geometry j ((image j).cell) s → IsSuperOf ((image j).cell) newest
    → Counts m.array.geometry image j newest × (s.array.epoch ≤ newest.array.epoch)) where
  abbrev g : Geometry
  g = m.array.geometry

  among_all : (e : Edition) → Contains r.editions e → Contains f.issued.editions e
  among_all e among = r.within e among

  is_here : (j : ℕ) → admitted aim ≢ Some j → IsWritable f.issued.slots old j → IsHere m j
  is_here j none has = by (f.issued.taking j has.0)
    where
      by : IsTaken (admitted aim) m j → IsHere m j
      by (inl here) = here
      by (inr joins) = absurd (none joins.0)

  -- an edition doesn't mark the slot Live that is admitted
  joins_not : (e : Edition) (j : ℕ) → Contains f.issued.editions e → j < g.n → mark_in e.array j ≡ Live → admitted aim ≢ Some j
  joins_not e j among below live joins =
      elim (f.issued.each e among).epoch [
        | inl same ↦
            let both : Live ≡ Down = sym live ∙ ap (λ (a : Configuration). mark_in a j) same ∙ f.begun.down j joins below in
            absurd (cc)
        | inr later ↦
            elim (later.1.marks j below) [
              | inl so ↦
                  let both : Live ≡ mark.Rebuilding = sym live ∙ so ∙ ap mark_for (aimed_joining aim j (why_of m j) joins) in
                  absurd (cc)
              | inr gone_is ↦ let both : Live ≡ Down = sym live ∙ gone_is.1 in absurd (cc)
            ]
      ]

  -- an edition gives a slot the number that the member has
  number_of : (e : Edition) (j : ℕ) → Contains f.issued.editions e → j < g.n → mark_in e.array j ≢ Down → admitted aim ≢ Some j → joined_in e.array j ≡ joined_in m.array j
  number_of e j among below up none =
      elim (f.issued.each e among).epoch [
        | inl same ↦ ap (λ (a : Configuration). joined_in a j) same
        | inr later ↦ later.1.joined j below up none
      ]

  module _ (j : ℕ) (s newest : Superblock) (bears : Bears g j ((image j).cell) s) (super : IsSuperOf ((image j).cell) newest)
      (live : mark_at newest j ≡ Live) where
    counts : Counts g image j newest × (s.array.epoch ≤ newest.array.epoch)
    counts = hidden j s newest bears super

    below : j < g.n
    below = bears_below g j ((image j).cell) s bears

    by_places : (q : ℕ) → q < 2 → HoldsSuper ((image j).cell q) newest → HoldsSuper ((image j).cell (1 - q)) s → s.joined ≡ newest.joined
    by_places q q_in in_new in_s =
        by (from aim gone m last old h new f image left r j newest bears_new) (from aim gone m last old h new f image left r j s bears_s)
      where
        bears_new : Bears g j ((image j).cell) newest
        bears_new = record { place = q; place_in = q_in; holds = in_new; slot = counts.0.slot; identity = counts.0.identity }

        bears_s : Bears g j ((image j).cell) s
        bears_s = record { place = 1 - q; place_in = omega arith; holds = in_s; slot = bears.slot; identity = bears.identity }

        other_or : (k : ℕ) → k < 2 → (k ≡ q) ⊎ (k ≡ 1 - q)
        other_or k lt = elim (cases_eq k q) [ inl is ↦ inl is | inr apart ↦ inr (omega (arith, lt, apart, q_in)) ]

        -- the newer one isn't hidden
        not_older : newest.draw < s.draw → ⊥
        not_older less = by_super super
          where
            differ : newest ≡ s → ⊥
            differ same = let draws : newest.draw ≡ s.draw = ap (λ (t : Superblock). t.draw) same in omega (arith, draws, less)

            -- the hidden one lies beside it
            beside : (k : ℕ) → k < 2 → HoldsSuper ((image j).cell k) newest → HoldsSuper ((image j).cell (1 - k)) s
            beside k lt here =
                elim (other_or (1 - k) (omega arith)) [
                  | inl is ↦
                      absurd
                      (differ
                      (holds_once ((image j).cell k) newest s here
                      (subst (λ (l : ℕ). HoldsSuper ((image j).cell l) s) (omega (arith, is, lt, q_in)) in_s)))
                  | inr is ↦ subst (λ (l : ℕ). HoldsSuper ((image j).cell l) s) (sym is) in_s
                ]

            by_super : IsSuperOf ((image j).cell) newest → ⊥
            by_super (First here rest) = rest s (beside 0 (omega arith) here) (inl less)
            by_super (Second here rest) = back (rest s (beside 1 (omega arith) here))
              where
                back : IsOlder s newest → ⊥
                back (inl more) = omega (arith, more, less)
                back (inr tie) = let same : s.draw ≡ newest.draw = tie.0 in omega (arith, same, less)

        none_of : (e : Edition) → Contains r.editions e → newest ≡ copy_of e j → admitted aim ≢ Some j
        none_of e among is =
            joins_not e j (among_all e among) below (sym (ap (λ (t : Superblock). mark_at t j) is) ∙ live)

        -- what is new of this slot
        joined_new : (e : Edition) → Contains r.editions e → newest ≡ copy_of e j → newest.joined ≡ joined_in m.array j
        joined_new e among is =
            ap (λ (t : Superblock). t.joined) is
            ∙ number_of e j (among_all e among) below
            (λ is_down.
            let both : Live ≡ Down = sym live ∙ ap (λ (t : Superblock). mark_at t j) is ∙ is_down in
            absurd (cc)) (none_of e among is)

        up : mark_at s j ≢ Down
        up = subst (λ (i : ℕ). mark_at s i ≢ Down) bears.slot in_s.spells.block.rules.here

        most : (t : Superblock) → IsWritable f.issued.slots old j → (k : ℕ) → k < 2 → HoldsSuper ((image_now old j).cell k) t → t.draw ≤ m.drawn
        most t has k lt holds = (known f).drawn j k t (f.issued.taking j has.0) has.1 lt holds

        -- a slot of which a superblock could be read had a medium
        medium_there : (k : ℕ) → HoldsSuper ((image_now old j).cell k) s → IsSome (slot_state old j).size
        medium_there k holds = at_size (slot_state old j).size refl
          where
            at_size : (size : Option ℕ) → (slot_state old j).size ≡ size → IsSome (slot_state old j).size
            at_size None is =
                absurd
                (none_held_there ((image_now old j).cell k) s
                (ap content ((history_tidy f.begun.history).past_end j k (ap (λ (n : Option ℕ). has_sector n k) is))) holds)
            at_size (Some size) is = subst IsSome (sym is) refl

        p_in : IsWritable f.issued.slots old j → place_of m j < 2
        p_in has =
            let fits : m.array.geometry.n ≤ 32 = f.begun.member.array.limits.devices.1 in f.begun.member.places j (omega (arith, fits, below))

        old_super : HoldsSuper ((image_now old j).cell q) newest → HoldsSuper ((image_now old j).cell (1 - q)) s → IsSuperOf ((image_now old j).cell) newest
        old_super was_new was_s =
            super_by_holds ((image j).cell) ((image_now old j).cell) newest
            (λ k t lt holds.
            elim (other_or k lt) [
              | inl one ↦
                  let same : t ≡ newest =
                  holds_once ((image j).cell q) t newest (subst (λ (l : ℕ). HoldsSuper ((image j).cell l) t) one holds) in_new in
                  subst (λ (l : ℕ). HoldsSuper ((image_now old j).cell l) t) (sym one) (subst (HoldsSuper ((image_now old j).cell q)) (sym same) was_new)
              | inr two ↦
                  let same : t ≡ s =
                  holds_once ((image j).cell (1 - q)) t s (subst (λ (l : ℕ). HoldsSuper ((image j).cell l) t) two holds) in_s in
                  subst (λ (l : ℕ). HoldsSuper ((image_now old j).cell l) t) (sym two) (subst (HoldsSuper ((image_now old j).cell (1 - q))) (sym same) was_s)
            ])
            (λ k t lt holds.
            elim (other_or k lt) [
              | inl one ↦
                  let same : t ≡ newest =
                  holds_once ((image_now old j).cell q) t newest (subst (λ (l : ℕ). HoldsSuper ((image_now old j).cell l) t) one holds) was_new in
                  subst (λ (l : ℕ). HoldsSuper ((image j).cell l) t) (sym one) (subst (HoldsSuper ((image j).cell q)) (sym same) in_new)
              | inr two ↦
                  let same : t ≡ s =
                  holds_once ((image_now old j).cell (1 - q)) t s (subst (λ (l : ℕ). HoldsSuper ((image_now old j).cell l) t) two holds) was_s in
                  subst (λ (l : ℕ). HoldsSuper ((image j).cell l) t) (sym two) (subst (HoldsSuper ((image j).cell (1 - q))) (sym same) in_s)
            ]) super

        by : IsOf (IsWritable f.issued.slots old) r.editions j ((image_now old j).cell q) newest → IsOf (IsWritable f.issued.slots old) r.editions j ((image_now old j).cell (1 - q)) s
            → s.joined ≡ newest.joined
        by (Entry was_new) (Entry was_s) =
            (known f).orderly.hides j s newest (record { place = 1 - q; place_in = omega arith; holds = was_s; slot = bears.slot; identity = bears.identity })
            (old_super was_new was_s) live
        by (Entry was_new) (Issue e has among formed is) =
            let above : m.drawn < e.draw = (f.issued.each e (among_all e among)).above in
            let draw : s.draw ≡ e.draw = ap (λ (t : Superblock). t.draw) is in
            let upto : newest.draw ≤ m.drawn = most newest has q q_in was_new in
            absurd (not_older (omega (arith, above, draw, upto)))
        by (Issue e has among formed is) (Entry was_s) =
            elim (cases_eq q (place_of m j)) [
              | inl at_next ↦
                  (known f).own j s (is_here j (none_of e among is) has) has.1 (subst (λ (l : ℕ). HoldsSuper ((image_now old j).cell (1 - l)) s) at_next was_s) ∙ sym (joined_new e among is)
              | inr apart ↦
                  let p_less : place_of m j < 2 = p_in has in
                  let other : 1 - q ≡ place_of m j = omega (arith, apart, q_in, p_less) in
                  let here : q ≡ 1 - place_of m j = omega (arith, apart, q_in, p_less) in
                  absurd
                  (turn_in aim gone m last old h new f j (is_here j (none_of e among is) has) has.0 has.1 (medium_there (1 - q) was_s) image left e s (among_all e among) formed
                  (subst (λ (l : ℕ). HoldsSuper ((image_now old j).cell l) s) other was_s)
                  (subst (λ (l : ℕ). HoldsSuper ((image j).cell l) s) other in_s)
                  (subst (λ (l : ℕ). HoldsSuper ((image j).cell l) (copy_of e j)) here (subst (HoldsSuper ((image j).cell q)) is in_new)))
            ]
        by (Issue e has among formed is) (Issue e' has' among' formed' is') =
            ap (λ (t : Superblock). t.joined) is'
            ∙ number_of e' j (among_all e' among') below (subst (λ (t : Superblock). mark_at t j ≢ Down) is' up) (none_of e among is)
            ∙ sym (joined_new e among is)

    kept : s.joined ≡ newest.joined
    kept =
        elim (cases_lt bears.place 1) [
          | inl first ↦
              let here : HoldsSuper ((image j).cell 0) s = subst (λ (k : ℕ). HoldsSuper ((image j).cell k) s) (omega (arith, first)) bears.holds in
              elim (super_at super) [
                | inl at_first ↦ ap (λ (t : Superblock). t.joined) (holds_once ((image j).cell 0) s newest here at_first)
                | inr at_second ↦ by_places 1 (omega arith) at_second here
              ]
          | inr past ↦
              let here : HoldsSuper ((image j).cell 1) s =
              subst (λ (k : ℕ). HoldsSuper ((image j).cell k) s) (omega (arith, past, bears.place_in)) bears.holds in
              elim (super_at super) [
                | inl at_first ↦ by_places 0 (omega arith) at_first here
                | inr at_second ↦ ap (λ (t : Superblock). t.joined) (holds_once ((image j).cell 1) s newest here at_second)
              ]
        ]

  pub hides_kept : HidesNoOther g image
  hides_kept j s newest bears super live = kept j s newest bears super live
