-- What superblocks that were found say of arrays.
use Rattle.std.proofs.Common.{◌≡◌, ◌≢◌, ℕ, suc, ◌+◌, ◌<◌, ◌≤◌, ◌↔◌, Bool, true, false, inl, inr, refl, sym, ap, subst, ◌∙◌, List, length, Option, None, Some, arith, cond, Equal, Greater, Less, Ordering, true≢false}
use Rattle.std.specs.Prelude.{◌⊎◌, is_some, slice_index_or, if◌then◌else◌, max, nat_le}
use Rattle.std.specs.Cmp.{nat_cmp_is}
use Rattle.std.specs.Ordering.{is_lt, nat_cmp, ord_max}
use Rattle.std.proofs.lemmas.Bool.{cases_Bool, cases_eq, cases_lt, false≢true, leb-false, leb-true}
use Rattle.std.proofs.lemmas.List.{get_or_default}
use Rattle.std.proofs.lemmas.Option.{same_Some}
use Rattle.std.proofs.Math.Nat.{le-max_left, le-max_right}
use Rattle.stair_model.specs.Geometry.{Geometry}
use Rattle.stair_model.specs.Slots.{Slots, HasSlot, IsSlotSet, slot_count}
use Rattle.stair_model.proofs.SetLaws.{slot_count-subset, slot_count_member}
use Rattle.stair_rack.specs.Media.{Image}
use Rattle.stair_super.specs.Superblock.{Superblock}
use Rattle.stair_member.specs.JudgeSteps.{IsCounting, IsCountingFor, IsCurrentOf, IsFirst, IsNewest, Shows, StandsAt, later_super, newest_at}
use Rattle.stair_member.specs.Superblocks.{HasSuper, IsSuperOf, Counts, CountsFor, Identifies, IsOnlyIdentity}
use Rattle.stair_member.specs.Survey.{AreFirstTwo, IsGreatestDraw, IsLowestOf}
use Rattle.stair_member.proofs.StandingLemmas.{IsBest, best_first, best_kept, best_newer, best_without, none_more}
use Rattle.stair_member.proofs.SuperLemmas.{counts_limits, one_identity, one_super, slot_below, super_held}

-- ---- sets of slots below a number

-- of the slots below i the set has those that have the property
pub record IsSetBelow (P : ℕ → Type 0) (i : ℕ) (set : Slots) : Type 0 where
  pub members : (j : ℕ) → HasSlot set j ↔ ((j < i) × P j)

pub set_none : (P : ℕ → Type 0) (set : Slots) → ((j : ℕ) → ¬ HasSlot set j) → IsSetBelow P 0 set
set_none P set none = record { members = λ j. (λ has. absurd (none j has), λ p. absurd (omega (arith, p.0))) }

pub below_or_last : (i j : ℕ) → j < i + 1 → (j < i) ⊎ (j ≡ i)
below_or_last i j below = elim (cases_lt j i) [ inl less ↦ inl less | inr more ↦ inr (omega arith) ]

-- so what holds below i and at i holds below i + 1
pub below_and_last : (P : ℕ → Type 0) (i : ℕ) → ((j : ℕ) → j < i → P j) → P i → (j : ℕ) → j < i + 1 → P j
below_and_last P i less last j below =
    elim (below_or_last i j below) [ inl under ↦ less j under | inr same ↦ subst P (sym same) last ]

pub set_added : (P : ℕ → Type 0) (i : ℕ) (set more : Slots) → IsSetBelow P i set → P i → ((j : ℕ) → HasSlot more j ↔ (HasSlot set j ⊎ (j ≡ i)))
    → IsSetBelow P (i + 1) more
set_added P i set more before here added = record { members = λ j. (into j, onto j) }
  where
    into : (j : ℕ) → HasSlot more j → (j < i + 1) × P j
    into j has =
        elim ((added j).0 has) [
          | inl had ↦ let p = (before.members j).0 had in (omega (arith, p.0), p.1)
          | inr same ↦ (omega arith, subst P (sym same) here)
        ]

    onto : (j : ℕ) → (j < i + 1) × P j → HasSlot more j
    onto j p =
        elim (below_or_last i j p.0) [
          | inl less ↦ (added j).1 (inl ((before.members j).1 (less, p.1)))
          | inr same ↦ (added j).1 (inr same)
        ]

pub set_kept : (P : ℕ → Type 0) (i : ℕ) (set : Slots) → IsSetBelow P i set → ¬ P i → IsSetBelow P (i + 1) set
set_kept P i set before not_here = record { members = λ j. (into j, onto j) }
  where
    into : (j : ℕ) → HasSlot set j → (j < i + 1) × P j
    into j has = let p = (before.members j).0 has in (omega (arith, p.0), p.1)

    onto : (j : ℕ) → (j < i + 1) × P j → HasSlot set j
    onto j p =
        elim (below_or_last i j p.0) [
          | inl less ↦ (before.members j).1 (less, p.1)
          | inr same ↦ absurd (not_here (subst P same p.1))
        ]

pub set_all : (P : ℕ → Type 0) (i : ℕ) (set : Slots) → IsSetBelow P i set → ((j : ℕ) → P j → j < i) → (j : ℕ) → HasSlot set j ↔ P j
set_all P i set before below j = (λ has. ((before.members j).0 has).1, λ p. (before.members j).1 (below j p, p))

-- ---- one slot

-- what counts for an array is a slot below 32
pub counts_in : (g : Geometry) (image : Image) (j : ℕ) → CountsFor g image j → j < 32
counts_in g image j counts =
    let below = slot_below g image j counts.super counts.counts in
    let limits = counts_limits g image j counts.super counts.counts in
    let most : g.n ≤ 32 = limits.devices.1 in
    omega arith

module _ (found : List (Option Superblock)) (image : Image) (shows : Shows found image) (j : ℕ) (below : j < 32) where
  pub shown_none : newest_at found j ≡ None → ¬ HasSuper ((image j).cell)
  shown_none is = subst (λ (o : Option Superblock). IsNewest ((image j).cell) o) is (shows.each j below)

  pub shown_some : (s : Superblock) → newest_at found j ≡ Some s → IsSuperOf ((image j).cell) s
  shown_some s is = subst (λ (o : Option Superblock). IsNewest ((image j).cell) o) is (shows.each j below)

  pub counts_none : newest_at found j ≡ None → IsCounting image j None
  counts_none is g counts = shown_none is (super_held ((image j).cell) counts.super counts.counts.super)

  pub counts_some : (s : Superblock) → newest_at found j ≡ Some s → s.slot ≡ j → IsCounting image j (Some s)
  counts_some s is slot = record { super = shown_some s is; slot = slot; identity = refl }

  pub counts_other : (s : Superblock) → newest_at found j ≡ Some s → s.slot ≢ j → IsCounting image j None
  counts_other s is slot g counts =
      let same : counts.super ≡ s = one_super ((image j).cell) counts.super s counts.counts.super (shown_some s is) in
      slot (sym (ap (λ (t : Superblock). t.slot) same) ∙ counts.counts.slot)

-- a read of what was found
pub newest_read : (found : List (Option Superblock)) (i j : ℕ) (d o : Option Superblock) → i ≡ j → j < 32 → length found ≡ 32
    → slice_index_or found i d ≡ o → newest_at found j ≡ o
newest_read found i j d o same below long is =
    ap (λ (k : ℕ). newest_at found k) (sym same) ∙ get_or_default found i None d (omega arith) ∙ is

-- of a slot that counts for an array
pub counting_elsewhere : (g : Geometry) (image : Image) (j : ℕ) (s : Superblock) → IsCounting image j (Some s) → s.array.geometry ≢ g
    → IsCountingFor g image j None
counting_elsewhere g image j s counts other here =
    other (one_identity s.array.geometry g image j (record { super = s; counts = counts }) here)

pub counting_true : (g : Geometry) (image : Image) (j : ℕ) (o : Option Superblock) → IsCountingFor g image j o → is_some o ≡ true
    → CountsFor g image j
counting_true g image j None counts is = absurd (false≢true is)
counting_true g image j (Some s) counts is = record { super = s; counts = counts }

pub counting_false : (g : Geometry) (image : Image) (j : ℕ) (o : Option Superblock) → IsCountingFor g image j o → is_some o ≡ false
    → ¬ CountsFor g image j
counting_false g image j None counts is = counts
counting_false g image j (Some s) counts is = absurd (true≢false is)

-- ---- an array that stands

pub stands_if : (g : Geometry) (image : Image) (set : Slots) → IsSlotSet set → ((j : ℕ) → HasSlot set j ↔ CountsFor g image j) → g.m < slot_count set
    → Identifies g image
stands_if g image set formed members many = record { slots = set; formed = formed; many = many; each = λ j has. (members j).0 has }

pub stands_only : (g : Geometry) (image : Image) (set : Slots) → ((j : ℕ) → HasSlot set j ↔ CountsFor g image j) → Identifies g image
    → g.m < slot_count set
stands_only g image set members stands =
    let within : slot_count stands.slots ≤ slot_count set = slot_count-subset stands.slots set (λ j has. (members j).1 (stands.each j has)) in
    let many : g.m < slot_count stands.slots = stands.many in
    omega arith

-- some slot counts for it
pub stands_some : (g : Geometry) (image : Image) → Identifies g image → (j : ℕ) × (j < 32) × CountsFor g image j
stands_some g image stands =
    let many : g.m < slot_count stands.slots = stands.many in
    let some = slot_count_member stands.slots (omega arith) in
    (some.0, some.1, stands.each some.0 some.2)

-- of the slots below i that count for the array the current one
abbrev pub IsCurrentBelow : Geometry → Image → ℕ → Option Superblock → Type 0
IsCurrentBelow g image i None = (j : ℕ) → j < i → ¬ CountsFor g image j
IsCurrentBelow g image i (Some b) = IsBest g image i b

current_suc : (g : Geometry) (image : Image) (i : ℕ) (current : Option Superblock) (s : Superblock) → IsCurrentBelow g image i current
    → Counts g image i s
    → IsCurrentBelow g image (suc i) (later_super current s)
current_suc g image i None s before counts = best_first g image i s counts before
current_suc g image i (Some b) s before counts =
    elim (cases_Bool (nat_le s.array.epoch b.array.epoch)) [
      | inl is ↦
          subst (λ (t : Bool). IsCurrentBelow g image (suc i) (if t then Some b else Some s)) (sym is)
          (best_kept g image i b s before counts (leb-true s.array.epoch b.array.epoch is))
      | inr is ↦
          subst (λ (t : Bool). IsCurrentBelow g image (suc i) (if t then Some b else Some s)) (sym is)
          (best_newer g image i b s before counts (leb-false s.array.epoch b.array.epoch is))
    ]

pub current_more : (g : Geometry) (image : Image) (i : ℕ) (current : Option Superblock) (s : Superblock) → IsCurrentBelow g image i current
    → Counts g image i s
    → IsCurrentBelow g image (i + 1) (later_super current s)
current_more g image i current s before counts =
    subst (λ (k : ℕ). IsCurrentBelow g image k (later_super current s)) (omega arith) (current_suc g image i current s before counts)

kept_suc : (g : Geometry) (image : Image) (i : ℕ) (current : Option Superblock) → IsCurrentBelow g image i current → ¬ CountsFor g image i
    → IsCurrentBelow g image (suc i) current
kept_suc g image i None before none = none_more g image i before none
kept_suc g image i (Some b) before none = best_without g image i b before none

pub current_kept : (g : Geometry) (image : Image) (i : ℕ) (current : Option Superblock) → IsCurrentBelow g image i current → ¬ CountsFor g image i
    → IsCurrentBelow g image (i + 1) current
current_kept g image i current before none =
    subst (λ (k : ℕ). IsCurrentBelow g image k current) (omega arith) (kept_suc g image i current before none)

pub current_all : (g : Geometry) (image : Image) (current : Option Superblock) → IsCurrentBelow g image 32 current → IsCurrentOf g image current
current_all g image None none = λ j counts. none j (counts_in g image j counts) counts
current_all g image (Some b) best = record {
  counts = best.counts;
  newest = λ j s counts. best.newest j (counts_in g image j (record { super = s; counts = counts })) s counts;
}

-- ---- draws

-- the greater one of two numbers
pub max_is : (a b : ℕ) → ord_max nat_cmp a b ≡ max a b
max_is a b =
    elim (cases_lt b a) [
      | inl less ↦ subst (λ (r : Ordering). cond (is_lt r) a b ≡ max a b) (nat_cmp_is b a Less less) (omega arith)
      | inr more ↦
          elim (cases_eq b a) [
            | inl same ↦ subst (λ (r : Ordering). cond (is_lt r) a b ≡ max a b) (nat_cmp_is b a Equal same) (omega arith)
            | inr other ↦ subst (λ (r : Ordering). cond (is_lt r) a b ≡ max a b) (nat_cmp_is b a Greater (omega arith)) (omega arith)
          ]
    ]

pub record IsDrawn (g : Geometry) (image : Image) (draw : ℕ) : Type 0 where
  pub slot : ℕ
  pub super : Superblock
  pub counts : Counts g image slot super
  pub is : super.draw ≡ draw

-- the greatest draw of the slots below i that count for the array, where one does
pub record IsDrawnBelow (g : Geometry) (image : Image) (i draw : ℕ) : Type 0 where
  pub above : (j : ℕ) → j < i → (s : Superblock) → Counts g image j s → s.draw ≤ draw
  pub one : ((draw ≡ 0) × ((j : ℕ) → j < i → ¬ CountsFor g image j)) ⊎ IsDrawn g image draw

pub drawn_none : (g : Geometry) (image : Image) → IsDrawnBelow g image 0 0
drawn_none g image = record { above = λ j below. absurd (omega arith); one = inl (refl, λ j below. absurd (omega arith)) }

pub drawn_kept : (g : Geometry) (image : Image) (i draw : ℕ) → IsDrawnBelow g image i draw → ¬ CountsFor g image i → IsDrawnBelow g image (i + 1) draw
drawn_kept g image i draw before none = record { above = above; one = one before.one }
  where
    above : (j : ℕ) → j < i + 1 → (s : Superblock) → Counts g image j s → s.draw ≤ draw
    above j below s counts =
        elim (below_or_last i j below) [
          | inl less ↦ before.above j less s counts
          | inr same ↦ absurd (none (record { super = s; counts = subst (λ (k : ℕ). Counts g image k s) same counts }))
        ]

    one : ((draw ≡ 0) × ((j : ℕ) → j < i → ¬ CountsFor g image j)) ⊎ IsDrawn g image draw
        → ((draw ≡ 0) × ((j : ℕ) → j < i + 1 → ¬ CountsFor g image j)) ⊎ IsDrawn g image draw
    one (inl not_one) = inl (not_one.0, below_and_last (λ j. ¬ CountsFor g image j) i not_one.1 none)
    one (inr some) = inr some

pub drawn_more : (g : Geometry) (image : Image) (i draw more : ℕ) (s : Superblock) → IsDrawnBelow g image i draw → Counts g image i s
    → more ≡ max draw s.draw → IsDrawnBelow g image (i + 1) more
drawn_more g image i draw more s before counts is = record { above = above; one = inr (one (cases_lt draw s.draw) before.one) }
  where
    above : (j : ℕ) → j < i + 1 → (t : Superblock) → Counts g image j t → t.draw ≤ more
    above j below t other =
        elim (below_or_last i j below) [
          | inl less ↦ let least = before.above j less t other in omega (arith, is, le-max_left draw s.draw)
          | inr same ↦
              let here : Counts g image i t = subst (λ (k : ℕ). Counts g image k t) same other in
              let draws : t.draw ≡ s.draw = ap (λ (u : Superblock). u.draw) (one_super ((image i).cell) t s here.super counts.super) in
              omega (arith, is, le-max_right draw s.draw)
        ]

    one : (draw < s.draw) ⊎ (s.draw ≤ draw) → ((draw ≡ 0) × ((j : ℕ) → j < i → ¬ CountsFor g image j)) ⊎ IsDrawn g image draw → IsDrawn g image more
    one (inl less) some = record { slot = i; super = s; counts = counts; is = omega (arith, is) }
    one (inr least) (inr some) = record { slot = some.slot; super = some.super; counts = some.counts; is = omega (arith, is, some.is) }
    one (inr least) (inl none) = record { slot = i; super = s; counts = counts; is = omega (arith, is, none.0) }

pub drawn_all : (g : Geometry) (image : Image) (draw : ℕ) → IsDrawnBelow g image 32 draw → Identifies g image → IsGreatestDraw g image draw
drawn_all g image draw drawn stands =
    elim drawn.one [
      | inl none ↦ let some = stands_some g image stands in absurd (none.1 some.0 some.1 some.2)
      | inr one ↦ record {
        above = λ j s counts. drawn.above j (counts_in g image j (record { super = s; counts = counts })) s counts;
        slot = one.slot;
        super = one.super;
        counts = one.counts;
        is = one.is;
      }
    ]

-- ---- which arrays stand

pub stands_nowhere : (but : Option Geometry) (image : Image) (j : ℕ) → IsCounting image j None → StandsAt but image j None
stands_nowhere but image j none g counts stands = absurd (none g counts)

pub stands_not : (but : Option Geometry) (image : Image) (j : ℕ) (s : Superblock) → IsCounting image j (Some s)
    → (but ≡ Some s.array.geometry) ⊎ (¬ Identifies s.array.geometry image) → StandsAt but image j None
stands_not but image j s counting not_or_this g counts stands =
    let same : s.array.geometry ≡ g = one_identity s.array.geometry g image j (record { super = s; counts = counting }) counts in
    elim not_or_this [
      | inl this ↦ this ∙ ap Some same
      | inr fails ↦ absurd (fails (subst (λ (h : Geometry). Identifies h image) (sym same) stands))
    ]

pub stands_here : (but : Option Geometry) (image : Image) (j : ℕ) (s : Superblock) → IsCounting image j (Some s) → but ≢ Some s.array.geometry
    → Identifies s.array.geometry image → StandsAt but image j (Some s.array.geometry)
stands_here but image j s counting other stands = (other, record { super = s; counts = counting }, stands)

-- of the slots below i each one that counts for an array that stands counts for this one
abbrev pub IsNoneBelow : Option Geometry → Image → ℕ → Type 0
IsNoneBelow but image i = (j : ℕ) → j < i → StandsAt but image j None

pub none_below_more : (but : Option Geometry) (image : Image) (i : ℕ) (o : Option Geometry) → IsNoneBelow but image i → StandsAt but image i o
    → o ≡ None
    → IsNoneBelow but image (i + 1)
none_below_more but image i o before here is =
    below_and_last (λ j. StandsAt but image j None) i before (subst (λ (p : Option Geometry). StandsAt but image i p) is here)

pub none_if : (o : Option Geometry) → is_some o ≡ false → o ≡ None
none_if None is = refl
none_if (Some g) is = absurd (true≢false is)

pub first_none : (but : Option Geometry) (image : Image) → IsNoneBelow but image 32 → IsFirst but image None
first_none but image none g stands =
    let some = stands_some g image stands in
    none some.0 some.1 g some.2 stands

pub first_some : (but : Option Geometry) (image : Image) (i : ℕ) (o : Option Geometry) → IsNoneBelow but image i → StandsAt but image i o → o ≢ None
    → IsFirst but image o
first_some but image i None before here some = absurd (some refl)
first_some but image i (Some g) before here some = (
  i,
  record { stands = here.2; counts = here.1; lowest = lowest },
  here.0,
  others,
)
  where
    lowest : (j : ℕ) → CountsFor g image j → i ≤ j
    lowest j counts =
        elim (cases_lt j i) [
          | inl less ↦ absurd (here.0 (before j less g counts here.2))
          | inr more ↦ more
        ]

    others : (other : Geometry) (j : ℕ) → IsLowestOf other image j → (but ≡ Some other) ⊎ (i ≤ j)
    others other j lowest_of =
        elim (cases_lt j i) [
          | inl less ↦ inl (before j less other lowest_of.counts lowest_of.stands)
          | inr more ↦ inr more
        ]

pub only_one : (image : Image) (g : Geometry) → IsFirst None image (Some g) → IsFirst (Some g) image None → IsOnlyIdentity g image
only_one image g first none = record { stands = first.1.stands; alone = λ other stands. sym (same_Some g other (none other stands)) }

pub first_two : (image : Image) (a b : Geometry) → IsFirst None image (Some a) → IsFirst (Some a) image (Some b) → AreFirstTwo image a b
first_two image a b first second =
    let of_a : IsLowestOf a image first.0 = first.1 in
    let of_b : IsLowestOf b image second.0 = second.1 in
    record {
      slot = first.0;
      next = second.0;
      of_first = of_a;
      of_second = of_b;
      order = order of_a of_b (first.3 b second.0 of_b);
      others = λ g j of_g. others g j of_b of_g (second.3 g j of_g);
    }
  where
    order : {i j : ℕ} → IsLowestOf a image i → IsLowestOf b image j → (None ≡ Some b) ⊎ (i ≤ j) → i < j
    order of_a of_b (inl e) = absurd (cc)
    order {i} {j} of_a of_b (inr least) =
        elim (cases_eq i j) [
          | inl same ↦
              absurd
              (second.2 (ap Some (one_identity a b image j (subst (λ (k : ℕ). CountsFor a image k) same of_a.counts) of_b.counts)))
          | inr other ↦ omega arith
        ]

    others : (g : Geometry) (j : ℕ) {i : ℕ} → IsLowestOf b image i → IsLowestOf g image j → (Some a ≡ Some g) ⊎ (i ≤ j) → (g ≡ a) ⊎ (g ≡ b) ⊎ (i < j)
    others g j of_b of_g (inl e) = inl (sym (same_Some a g e))
    others g j {i} of_b of_g (inr least) =
        elim (cases_eq i j) [
          | inl same ↦ inr (inl (one_identity g b image j of_g.counts (subst (λ (k : ℕ). CountsFor b image k) same of_b.counts)))
          | inr other ↦ inr (inr (omega arith))
        ]
