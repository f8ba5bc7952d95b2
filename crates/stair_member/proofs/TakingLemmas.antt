-- Which slots take part in an epoch, and what stays so as more slots are gone.
use Rattle.std.proofs.Common.{◌≡◌, ℕ, ◌<◌, ◌≤◌, Bool, true, false, ◌&&◌, ◌⊎◌, inl, inr, refl, sym, ap, ◌∙◌, subst, arith, Some}
use Rattle.std.specs.Prelude.{◌||◌, nat_lt}
use Rattle.std.proofs.lemmas.Bool.{and_from, and_parts, cond-true, eq-eqb, false≢true, lt-ltb, ltb-true}
use Rattle.stair_model.specs.Slots.{Slots, HasSlot}
use Rattle.stair_super.specs.declared.configuration.Configuration.{Configuration}
use Rattle.stair_member.specs.ChangesSteps.{MayBegin}
use Rattle.stair_member.specs.Aims.{IsAimed, admitted, aimed, frozen_then, label_then}
use Rattle.stair_member.specs.Establishing.{Did, HasBegun, NotYet}
use Rattle.stair_member.specs.HandSteps.{is_twice}
use Rattle.stair_member.specs.Membership.{Membership, IsHere, why_of}
use Rattle.stair_member.specs.declared.aim.EpochChange.{EpochChange}
use Rattle.stair_member.specs.declared.aim.EpochChange.TheVariants as aims
use Rattle.stair_member.specs.declared.why.Why.{Why}
use Rattle.stair_member.specs.declared.why.Why.TheVariants as why
use Rattle.stair_member.proofs.ChangeLemmas.{IsUp}
use Rattle.stair_member.proofs.CountingLemmas.{slot_in_range, slots_by, slots_by-at, slots_by-formed}
use Rattle.stair_member.proofs.RoundLemmas.{twice_at}
use Rattle.stair_member.proofs.SpreadLemmas.{twice_is}

-- ---- the slots that are written

is_up : Why → Bool
is_up why.Here = true
is_up why.Gone = false
is_up why.NoSuper = false
is_up why.OtherArray = false
is_up why.OtherSlot = false
is_up why.MarkedDown = false
is_up why.OtherJoined = false
is_up why.Rebuilding = true

up_from : (w : Why) → is_up w ≡ true → IsUp w
unfolding is_up
up_from why.Here is = inl refl
up_from why.Gone is = absurd (false≢true is)
up_from why.NoSuper is = absurd (false≢true is)
up_from why.OtherArray is = absurd (false≢true is)
up_from why.OtherSlot is = absurd (false≢true is)
up_from why.MarkedDown is = absurd (false≢true is)
up_from why.OtherJoined is = absurd (false≢true is)
up_from why.Rebuilding is = inr refl

up_to : (w : Why) → IsUp w → is_up w ≡ true
unfolding is_up
up_to w (inl is) = ap is_up is
up_to w (inr is) = ap is_up is

or_parts : (a b : Bool) → (a || b) ≡ true → (a ≡ true) ⊎ (b ≡ true)
or_parts true b is = inl refl
or_parts false b is = inr is

or_from : (a b : Bool) → (a ≡ true) ⊎ (b ≡ true) → (a || b) ≡ true
or_from true b is = refl
or_from false b (inl is) = absurd (false≢true is)
or_from false b (inr is) = is

taking_test : EpochChange → Membership → ℕ → Bool
taking_test aim m j = nat_lt j m.array.geometry.n && (is_up (why_of m j) || is_twice (admitted aim) j)

pub taking : EpochChange → Membership → Slots
taking aim m = slots_by (taking_test aim m)

pub taking_only : (aim : EpochChange) (m : Membership) (j : ℕ) → HasSlot (taking aim m) j
    → IsHere m j ⊎ ((admitted aim ≡ Some j) × (j < m.array.geometry.n))
unfolding taking taking_test
taking_only aim m j has =
    let small : j < 32 = slot_in_range (slots_by (taking_test aim m)) j (slots_by-formed (taking_test aim m)) has in
    let parts = and_parts (nat_lt j m.array.geometry.n) (is_up (why_of m j) || is_twice (admitted aim) j) (sym (slots_by-at (taking_test aim m) j small) ∙ has) in
    let below : j < m.array.geometry.n = ltb-true j m.array.geometry.n parts.0 in
    elim (or_parts (is_up (why_of m j)) (is_twice (admitted aim) j) parts.1) [
      | inl up ↦ inl (record { below = below; why = up_from (why_of m j) up })
      | inr twice ↦ inr (twice_is (admitted aim) j twice, below)
    ]

pub taking_all : (aim : EpochChange) (m : Membership) (j : ℕ) → m.array.geometry.n ≤ 32 → j < m.array.geometry.n → IsUp (why_of m j) ⊎ (admitted aim ≡ Some j)
    → HasSlot (taking aim m) j
unfolding taking taking_test
taking_all aim m j most below which =
    slots_by-at (taking_test aim m) j (omega (arith, most, below))
    ∙ and_from (nat_lt j m.array.geometry.n) (is_up (why_of m j) || is_twice (admitted aim) j) (lt-ltb j m.array.geometry.n below)
    (or_from (is_up (why_of m j)) (is_twice (admitted aim) j) (elim which [ inl up ↦ inl (up_to (why_of m j) up) | inr at ↦ inr (twice_at (admitted aim) j at) ]))

-- ---- an aim whose slot was gone

-- without the slots that were gone nothing else is aimed at
pub record IsAway (aim : EpochChange) (gone : Slots) : Type 0 where
  pub whys : (j : ℕ) (w : Why) → ¬ HasSlot gone j → aimed aim j w ≡ w
  pub admits : (j : ℕ) → admitted aim ≡ Some j → HasSlot gone j
  pub frozen : (a : Configuration) → frozen_then aim a ≡ a.frozen
  pub label : (a : Configuration) → label_then aim a ≡ a.label

-- ---- the slot that is admitted

pub admits_up : (aim : EpochChange) (j : ℕ) (w : Why) → admitted aim ≡ Some j → aimed aim j w ≡ why.Rebuilding
admits_up aims.Fence j w is = absurd (cc)
admits_up (aims.Admit slot) j w is = let same : slot ≡ j = cc in cond-true _ _ _ (eq-eqb j slot (sym same))
admits_up (aims.Promote slot) j w is = absurd (cc)
admits_up (aims.Stamp frozen label) j w is = absurd (cc)

pub admits_below : (aim : EpochChange) (m : Membership) (j : ℕ) → MayBegin aim m → admitted aim ≡ Some j → j < m.array.geometry.n
admits_below aims.Fence m j may is = absurd (cc)
admits_below (aims.Admit slot) m j may is = let same : slot ≡ j = cc in subst (λ (k : ℕ). k < m.array.geometry.n) same may
admits_below (aims.Promote slot) m j may is = absurd (cc)
admits_below (aims.Stamp frozen label) m j may is = absurd (cc)

-- ---- how far it has come

-- an epoch names what it did at first, or what was begun for the aim
abbrev pub IsNamedFor : EpochChange → Slots → Membership → Configuration → Type 0
IsNamedFor aim gone m c = (c ≡ m.array) ⊎ ((m.drawn < c.epoch) × IsAimed aim (HasSlot gone) m c)

aimed_wider : (aim : EpochChange) (gone more : Slots) (m : Membership) (c : Configuration) → ((i : ℕ) → HasSlot gone i → HasSlot more i)
    → IsAimed aim (HasSlot gone) m c → IsAimed aim (HasSlot more) m c
aimed_wider aim gone more m c into is = record {
  geometry = is.geometry;
  frozen = is.frozen;
  label = is.label;
  marks = λ j below. elim (is.marks j below) [ inl as_aimed ↦ inl as_aimed | inr was ↦ inr (into j was.0, was.1) ];
  joined = is.joined;
  joins = is.joins;
}

pub named_wider : (aim : EpochChange) (gone more : Slots) (m : Membership) (c : Configuration) → ((i : ℕ) → HasSlot gone i → HasSlot more i)
    → IsNamedFor aim gone m c → IsNamedFor aim more m c
named_wider aim gone more m c into (inl same) = inl same
named_wider aim gone more m c into (inr is) = inr (is.0, aimed_wider aim gone more m c into is.1)

-- of a member that says the same of the slots that weren't gone
pub began_wider : (aim : EpochChange) (gone more : Slots) (m0 m x : Membership) → ((i : ℕ) → HasSlot gone i → HasSlot more i) → x.array ≡ m.array
    → ((i : ℕ) → ¬ HasSlot more i → why_of x i ≡ why_of m i) → HasBegun aim gone m0 m → HasBegun aim more m0 x
began_wider aim gone more m0 m x into array whys (NotYet same are) =
    NotYet (array ∙ same) (λ j below out. whys j out ∙ are j below (λ has. out (into j has)))
began_wider aim gone more m0 m x into array whys (Did above is are) =
    Did (subst (λ (c : Configuration). m0.drawn < c.epoch) (sym array) above)
    (subst (λ (c : Configuration). IsAimed aim (HasSlot more) m0 c) (sym array) (aimed_wider aim gone more m0 m.array into is))
    (λ j below out. whys j out ∙ are j below (λ has. out (into j has)))

pub named_of : (aim : EpochChange) (gone : Slots) (m0 m : Membership) → HasBegun aim gone m0 m → IsNamedFor aim gone m0 m.array
named_of aim gone m0 m (NotYet same are) = inl same
named_of aim gone m0 m (Did above is are) = inr (above, is)
