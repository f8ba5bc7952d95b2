-- How a member changes while an epoch is established.
use Rattle.std.proofs.Common.{◌≡◌, ◌≢◌, ℕ, ◌+◌, ◌<◌, ◌≤◌, List, length, inl, inr, refl, sym, ap, ◌∙◌, subst, arith, Some, replicate}
use Rattle.std.specs.Prelude.{◌⊎◌, slice_index_or, slice_set}
use Rattle.std.proofs.lemmas.Bool.{cases_lt, cases_eq, cond-true, cond-false, eq-eqb, ne_eqb}
use Rattle.std.proofs.lemmas.List.{get_or_past, get_or-replicate, get_or-set_other, get_or-set_same, length-replicate, length-set}
use Rattle.stair_model.specs.Geometry.{Geometry}
use Rattle.stair_model.specs.Slots.{Slots, HasSlot}
use Rattle.stair_super.specs.Label.{IsLabel}
use Rattle.stair_super.specs.Superblock.{IsConfiguration, IsJoined, joined_in, mark_in}
use Rattle.stair_super.specs.declared.configuration.Configuration.{Configuration}
use Rattle.stair_super.specs.declared.mark.Mark.{Mark}
use Rattle.stair_super.specs.declared.mark.Mark.TheVariants.{Live, Rebuilding, Down}
use Rattle.stair_member.specs.ChangesSteps.{MayBegin, Names, joined_then, joined_up, without}
use Rattle.stair_member.specs.Aims.{admitted, aimed, mark_for}
use Rattle.stair_member.specs.Membership.{Membership, IsMarkedFor, IsMembership, member_of, why_of}
use Rattle.stair_member.specs.declared.aim.EpochChange.{EpochChange}
use Rattle.stair_member.specs.declared.aim.EpochChange.TheVariants as aims
use Rattle.stair_member.specs.declared.why.Why.{Why}
use Rattle.stair_member.specs.declared.why.Why.TheVariants as why
use Rattle.stair_member.proofs.JudgeLemmas.{below_or_last}

-- ---- marks by reasons

-- the marks of the slots below i, and no others
abbrev pub AreMarksBelow : List Why → ℕ → List Mark → Type 0
AreMarksBelow whys i marks =
    (length marks ≡ 32) × ((j : ℕ) → j < i → slice_index_or marks j Down ≡ mark_for (slice_index_or whys j why.Here))
    × ((j : ℕ) → i ≤ j → slice_index_or marks j Down ≡ Down)

pub marks_none : (whys : List Why) → AreMarksBelow whys 0 (replicate 32 Down)
marks_none whys = (length-replicate {A = Mark} 32 Down, λ j below. absurd (omega arith), λ j least. down_at j 32)
  where
    down_at : (j n : ℕ) → slice_index_or (replicate n Down) j Down ≡ Down
    down_at j n =
        elim (cases_lt j n) [
          | inl below ↦ get_or-replicate n j Down Down below
          | inr past ↦ get_or_past (replicate n Down) j Down (omega (arith, length-replicate {A = Mark} n Down))
        ]

pub marks_more : (whys : List Why) (i : ℕ) (marks : List Mark) (mark : Mark) → i < 32 → AreMarksBelow whys i marks
    → mark ≡ mark_for (slice_index_or whys i why.Here) → AreMarksBelow whys (i + 1) (slice_set marks i mark)
marks_more whys i marks mark below_all before here = (length-set marks i mark ∙ before.0, each, absent)
  where
    few : i < length marks
    few = omega (arith, before.0)

    each : (j : ℕ) → j < i + 1 → slice_index_or (slice_set marks i mark) j Down ≡ mark_for (slice_index_or whys j why.Here)
    each j below =
        elim (below_or_last i j below) [
          | inl less ↦ let other : j ≢ i = omega arith in get_or-set_other marks i j mark Down other ∙ before.1 j less
          | inr same ↦
              subst (λ (k : ℕ). slice_index_or (slice_set marks i mark) k Down ≡ mark_for (slice_index_or whys k why.Here)) (sym same)
              (get_or-set_same marks i mark Down few ∙ here)
        ]

    absent : (j : ℕ) → i + 1 ≤ j → slice_index_or (slice_set marks i mark) j Down ≡ Down
    absent j least = let other : j ≢ i = omega arith in get_or-set_other marks i j mark Down other ∙ before.2 j (omega arith)

-- ---- reasons

-- a slot whose reason was set
pub why_without : (m : Membership) (i : ℕ) → i < 32 → length m.whys ≡ 32 → why_of (without m i) i ≡ why.Gone
why_without m i below size = get_or-set_same m.whys i why.Gone why.Here (omega (arith, size))

pub why_others : (m : Membership) (i j : ℕ) → j ≢ i → why_of (without m i) j ≡ why_of m j
why_others m i j other = get_or-set_other m.whys i j why.Gone why.Here other

-- ---- an epoch that begins keeps the rules

pub mark_for_cases : (w : Why) → (w ≡ why.Here) ⊎ ((w ≡ why.Rebuilding) ⊎ (mark_for w ≡ Down))
mark_for_cases why.Here = inl refl
mark_for_cases why.Gone = inr (inr refl)
mark_for_cases why.NoSuper = inr (inr refl)
mark_for_cases why.OtherArray = inr (inr refl)
mark_for_cases why.OtherSlot = inr (inr refl)
mark_for_cases why.MarkedDown = inr (inr refl)
mark_for_cases why.OtherJoined = inr (inr refl)
mark_for_cases why.Rebuilding = inr (inl refl)

marked_for : (w : Why) → IsMarkedFor w (mark_for w)
marked_for why.Here = refl
marked_for why.Gone = tt
marked_for why.NoSuper = tt
marked_for why.OtherArray = tt
marked_for why.OtherSlot = tt
marked_for why.MarkedDown = tt
marked_for why.OtherJoined = tt
marked_for why.Rebuilding = refl

-- a slot that is here isn't marked Down
pub up_here : (w : Why) (mark : Mark) → IsMarkedFor w mark → (w ≡ why.Here) ⊎ (w ≡ why.Rebuilding) → mark ≢ Down
up_here w mark is (inl here) down = let live : mark ≡ Live = subst (λ (x : Why). IsMarkedFor x mark) here is in absurd (cc)
up_here w mark is (inr here) down = let live : mark ≡ Rebuilding = subst (λ (x : Why). IsMarkedFor x mark) here is in absurd (cc)

-- of a slot that isn't Down
joined_bounds : (mark : Mark) (joined epoch : ℕ) → mark ≢ Down → IsJoined mark joined epoch → (1 ≤ joined) × (joined ≤ epoch)
joined_bounds Live joined epoch up is = is
joined_bounds Rebuilding joined epoch up is = is
joined_bounds Down joined epoch up is = absurd (up refl)

joined_from : (aim : EpochChange) (mark : Mark) (epoch j joined : ℕ)
    → (mark ≢ Down → (1 ≤ joined_up aim epoch j joined) × (joined_up aim epoch j joined ≤ epoch))
    → IsJoined mark (joined_then aim epoch j mark joined) epoch
joined_from aim Live epoch j joined bounds = bounds (λ is. cc)
joined_from aim Rebuilding epoch j joined bounds = bounds (λ is. cc)
joined_from aim Down epoch j joined bounds = refl

pub same_number : (aim : EpochChange) (epoch j joined : ℕ) → admitted aim ≢ Some j → joined_up aim epoch j joined ≡ joined
same_number aims.Fence epoch j joined other = refl
same_number (aims.Admit slot) epoch j joined other = cond-false _ _ _ (ne_eqb j slot (λ same. other (ap (λ (k : ℕ). Some k) (sym same))))
same_number (aims.Promote slot) epoch j joined other = refl
same_number (aims.Stamp frozen label) epoch j joined other = refl

same_number_or : (aim : EpochChange) (epoch j joined : ℕ) → (joined_up aim epoch j joined ≡ epoch) ⊎ (admitted aim ≢ Some j)
same_number_or aims.Fence epoch j joined = inr (λ is. cc)
same_number_or (aims.Admit slot) epoch j joined =
    elim (cases_eq j slot) [
      | inl same ↦ inl (cond-true _ _ _ (eq-eqb j slot same))
      | inr other ↦ inr (λ is. let same : slot ≡ j = cc in other (sym same))
    ]
same_number_or (aims.Promote slot) epoch j joined = inr (λ is. cc)
same_number_or (aims.Stamp frozen label) epoch j joined = inr (λ is. cc)

abbrev pub IsUp : Why → Type 0
IsUp w = (w ≡ why.Here) ⊎ (w ≡ why.Rebuilding)

-- a slot that is here then, and isn't admitted, was here
pub was_up : (aim : EpochChange) (m : Membership) (j : ℕ) → MayBegin aim m → admitted aim ≢ Some j → IsUp (aimed aim j (why_of m j)) → IsUp (why_of m j)
was_up aims.Fence m j may other up = up
was_up (aims.Admit slot) m j may other up =
    subst IsUp (cond-false _ _ _ (ne_eqb j slot (λ same. other (ap (λ (k : ℕ). Some k) (sym same))))) up
was_up (aims.Promote slot) m j may other up =
    elim (cases_eq j slot) [
      | inl same ↦ subst (λ (k : ℕ). IsUp (why_of m k)) (sym same) may.1
      | inr apart ↦ subst IsUp (cond-false _ _ _ (ne_eqb j slot apart)) up
    ]
was_up (aims.Stamp frozen label) m j may other up = up

-- the slots that the array hasn't aren't aimed at
aimed_past : (aim : EpochChange) (m : Membership) (j : ℕ) → MayBegin aim m → m.array.geometry.n ≤ j → aimed aim j (why_of m j) ≡ why_of m j
aimed_past aims.Fence m j may past = refl
aimed_past (aims.Admit slot) m j may past = cond-false _ _ _ (ne_eqb j slot (λ same. omega (arith, may, past, same)))
aimed_past (aims.Promote slot) m j may past = cond-false _ _ _ (ne_eqb j slot (λ same. omega (arith, may.0, past, same)))
aimed_past (aims.Stamp frozen label) m j may past = refl

module _ (aim : EpochChange) (m : Membership) (named : Configuration) (whys : List Why) (rules : IsMembership m) (may : MayBegin aim m)
    (names : Names aim m.array whys m.drawn named) (each : (j : ℕ) → j < 32 → slice_index_or whys j why.Here ≡ aimed aim j (why_of m j)) where
  begun_bounds : (j : ℕ) → j < 32 → mark_in named j ≢ Down
      → (1 ≤ joined_up aim m.drawn j (joined_in m.array j)) × (joined_up aim m.drawn j (joined_in m.array j) ≤ m.drawn)
  begun_bounds j small up =
      let begun : 1 ≤ m.array.epoch = rules.array.begun in
      let known : m.array.epoch ≤ m.drawn = rules.known in
      elim (cases_lt j m.array.geometry.n) [
        | inr past ↦ absurd (up (names.absent j past))
        | inl below ↦
            elim (same_number_or aim m.drawn j (joined_in m.array j)) [
              | inl is ↦
                  subst (λ (x : ℕ). (1 ≤ x) × (x ≤ m.drawn)) (sym is) (omega (arith, begun, known), omega arith)
              | inr other ↦
                  let now : IsUp (slice_index_or whys j why.Here) =
                  elim (mark_for_cases (slice_index_or whys j why.Here)) [
                    | inl here ↦ inl here
                    | inr more ↦
                        elim more [
                          | inl here ↦ inr here
                          | inr down ↦ absurd (up (names.marks j below ∙ down))
                        ]
                  ] in
                  let was : IsUp (why_of m j) = was_up aim m j may other (subst IsUp (each j small) now) in
                  let marked = rules.marked j below in
                  let bounds = joined_bounds (mark_in m.array j) (joined_in m.array j) m.array.epoch (up_here (why_of m j) (mark_in m.array j) marked was)
                  (rules.array.entries j small) in
                  subst (λ (x : ℕ). (1 ≤ x) × (x ≤ m.drawn)) (sym (same_number aim m.drawn j (joined_in m.array j) other))
                  (bounds.0, omega (arith, bounds.1, known))
            ]
      ]

  begun_array : IsConfiguration named
  begun_array = record {
    limits = rw names.geometry rules.array.limits;
    begun = let begun : 1 ≤ m.array.epoch = rules.array.begun in omega (arith, begun, rules.known, names.epoch_is);
    entries = λ j small.
        rw (names.joins j small, names.epoch_is) (joined_from aim (mark_in named j) m.drawn j (joined_in m.array j) (begun_bounds j small));
    absent = λ j past small. names.absent j (subst (λ (g : Geometry). g.n ≤ j) names.geometry past);
  }

  pub begun_rules : length whys ≡ 32 → IsLabel named.label → IsMembership (member_of named m.drawn whys m.places)
  begun_rules whys_size label = record {
    sizes = record {
      id = rw names.geometry rules.sizes.id;
      drawn = rules.sizes.drawn;
      marks = names.marks_size;
      joins = names.joins_size;
      label = label;
      whys = whys_size;
      places = rules.sizes.places;
    };
    array = begun_array;
    known = omega (arith, names.epoch_is);
    absent = λ j past small.
        let most : m.array.geometry.n ≤ j = subst (λ (g : Geometry). g.n ≤ j) names.geometry past in
        each j small ∙ aimed_past aim m j may most ∙ rules.absent j most small;
    marked = λ j below.
        let less : j < m.array.geometry.n = subst (λ (g : Geometry). j < g.n) names.geometry below in
        subst (λ (x : Mark). IsMarkedFor (slice_index_or whys j why.Here) x) (sym (names.marks j less)) (marked_for (slice_index_or whys j why.Here));
    places = rules.places;
  }

-- ---- slots that are dropped

pub record AreLeftBelow (leaving : Slots) (m : Membership) (i : ℕ) (now : Membership) : Type 0 where
  pub rules : IsMembership now
  pub array : now.array ≡ m.array
  pub drawn : now.drawn ≡ m.drawn
  pub size : length now.whys ≡ length m.whys
  pub places : now.places ≡ m.places
  pub left : (j : ℕ) → j < i → HasSlot leaving j → why_of now j ≡ why.Gone
  pub others : (j : ℕ) → ¬ HasSlot leaving j → why_of now j ≡ why_of m j

pub left_more : (leaving : Slots) (m now next : Membership) (i : ℕ) → i < 32 → AreLeftBelow leaving m i now → HasSlot leaving i
    → next ≡ without now i → IsMembership next → AreLeftBelow leaving m (i + 1) next
left_more leaving m now next i small before has is rules = record {
  rules = rules;
  array = ap (λ (x : Membership). x.array) is ∙ before.array;
  drawn = ap (λ (x : Membership). x.drawn) is ∙ before.drawn;
  size = ap (λ (x : Membership). length x.whys) is ∙ length-set now.whys i why.Gone ∙ before.size;
  places = ap (λ (x : Membership). x.places) is ∙ before.places;
  left = λ j below has_j.
      ap (λ (x : Membership). why_of x j) is ∙ elim (below_or_last i j below) [
        | inl less ↦ why_others now i j (omega arith) ∙ before.left j less has_j
        | inr same ↦ ap (why_of (without now i)) same ∙ why_without now i small before.rules.sizes.whys
      ];
  others = λ j out.
      ap (λ (x : Membership). why_of x j) is ∙ why_others now i j (λ same. out (subst (HasSlot leaving) (sym same) has)) ∙ before.others j out;
}

pub left_kept : (leaving : Slots) (m now : Membership) (i : ℕ) → AreLeftBelow leaving m i now → ¬ HasSlot leaving i → AreLeftBelow leaving m (i + 1) now
left_kept leaving m now i before out = record {
  rules = before.rules;
  array = before.array;
  drawn = before.drawn;
  size = before.size;
  places = before.places;
  left = λ j below has.
      elim (below_or_last i j below) [
        | inl less ↦ before.left j less has
        | inr same ↦ absurd (out (subst (HasSlot leaving) same has))
      ];
  others = before.others;
}
