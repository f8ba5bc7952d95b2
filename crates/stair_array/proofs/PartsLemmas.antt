-- What each part of a call does to what a session knows of its slots, on any rack: an epoch, a phase, slots that are left out.
use Rattle.std.proofs.Common.{◌≡◌, ◌≢◌, ℕ, ◌+◌, ◌<◌, ◌≤◌, Bool, List, cond, inl, inr, refl, sym, ap, ◌∙◌, subst, None, Option, Some, arith}
use Rattle.std.specs.Prelude.{◌⊎◌, Result}
use Rattle.std.proofs.lemmas.Bool.{true≢false}
use Rattle.stair_model.specs.Geometry.{Geometry, sectors_needed}
use Rattle.stair_model.specs.Slots.{HasSlot, IsSlotSet, Slots, has_slot, no_slots, slot_count}
use Rattle.stair_model.specs.Sum.{sum_below}
use Rattle.stair_model.proofs.CountLaws.{sum_below_add, sum_below_le, sum_below_tail}
use Rattle.stair_model.proofs.SetLaws.{has_slot-none, unmarked}
use Rattle.stair_rack.specs.History.{SlotCall}
use Rattle.stair_rack.specs.Placed.{IsSlot}
use Rattle.stair_rack.specs.RackState.{RackState}
use Rattle.stair_rack.proofs.MomentLemmas.{ran_any, ran_weakened}
use Rattle.stair_rack.proofs.RackStateLemmas.{later_none}
use Rattle.stair_super.specs.Superblock.{mark_in}
use Rattle.stair_super.specs.declared.configuration.Configuration.{Configuration}
use Rattle.stair_super.specs.declared.mark.Mark.TheVariants.{Down}
use Rattle.stair_member.specs.Aims.{admitted, aimed, mark_for}
use Rattle.stair_member.specs.Editions.{Edition}
use Rattle.stair_member.specs.Epochs.{IsIssuing}
use Rattle.stair_member.specs.Establishing.{Did, Establishes, Fences, HasBegun, Leaves, NotYet, Stamps, refusal_of}
use Rattle.stair_member.specs.Membership.{IsHere, IsMarkedFor, IsMembership, Membership, why_of}
use Rattle.stair_member.specs.declared.aim.EpochChange.{EpochChange}
use Rattle.stair_member.specs.declared.aim.EpochChange.TheVariants.{Fence, Stamp}
use Rattle.stair_member.specs.declared.fault.FenceFault.{FenceFault}
use Rattle.stair_member.specs.declared.why.Why.{Why}
use Rattle.stair_member.specs.declared.why.Why.TheVariants as why
use Rattle.stair_member.proofs.CountingLemmas.{has_or_not}
use Rattle.stair_invariant.specs.Effects.{Fenced, FencesGone, NoneWas, Snapshot, snapshot}
use Rattle.stair_invariant.specs.Session.{IsLiveIn}
use Rattle.stair_invariant.proofs.EstablishingLemmas.{issuing_attaches}
use Rattle.stair_invariant.proofs.LeftOutLemmas.{here_before, none_leave, start_geometry}
use Rattle.stair_array.specs.Causes.{WasGoneTo}
use Rattle.stair_array.specs.Draws.{weight, weights}
use Rattle.stair_array.proofs.GoneToLemmas.{IsAfter, after_join, after_none, attaches_none, gone_to_by, gone_to_earlier, gone_to_wider}
use Rattle.stair_array.proofs.OutLemmas.{slot_counted}

-- WHAT A PART DOES

-- why a slot isn't here stays, or it was gone
pub data WhyStays (x y : Snapshot) (j : ℕ) : Type 0 where
  Same : why_of y.member j ≡ why_of x.member j → WhyStays x y j
  Went : why_of y.member j ≡ why.Gone → WasGoneTo x.member j x.told y.told → WhyStays x y j

-- its mark stays, or goes to Down, since it wasn't here or was gone
pub data MarkStays (x y : Snapshot) (j : ℕ) : Type 0 where
  Same : mark_in y.member.array j ≡ mark_in x.member.array j → MarkStays x y j
  WasAway : why_of x.member j ≢ why.Here → why_of x.member j ≢ why.Rebuilding → mark_in y.member.array j ≡ Down
      → MarkStays x y j
  Went : WasGoneTo x.member j x.told y.told → mark_in y.member.array j ≡ Down → MarkStays x y j

-- From x to y slots may have been gone and dropped, and the draws and the weights rose together by no more than this.
pub record IsPart (more : ℕ) (x y : Snapshot) : Type 0 where
  pub after : IsAfter x.told y.told
  pub rules : IsMembership y.member
  pub geometry : y.member.array.geometry ≡ x.member.array.geometry
  pub whys : (j : ℕ) → j < x.member.array.geometry.n → WhyStays x y j
  pub marks : (j : ℕ) → j < x.member.array.geometry.n → MarkStays x y j
  pub drawn : x.member.drawn ≤ y.member.drawn
  pub draws : y.member.drawn + weights y.member ≤ x.member.drawn + weights x.member + more

-- PARTS IN TURN

module _ (more : ℕ) (x y : Snapshot) (p : IsPart more x y) where
  below_back : (j : ℕ) → j < y.member.array.geometry.n → j < x.member.array.geometry.n
  below_back j below = subst (λ (g : Geometry). j < g.n) p.geometry below

  here_by : (j : ℕ) → WhyStays x y j → IsHere y.member j → IsHere x.member j
  here_by j (WhyStays.Same same) here =
      record { below = below_back j here.below; why = subst (λ (w : Why). (w ≡ why.Here) ⊎ (w ≡ why.Rebuilding)) same here.why }
  here_by j (WhyStays.Went gone was) here =
      elim here.why [
        | inl live ↦ let never : why.Gone ≡ why.Here = sym gone ∙ live in absurd (cc)
        | inr rebuilt ↦ let never : why.Gone ≡ why.Rebuilding = sym gone ∙ rebuilt in absurd (cc)
      ]

  live_by : (j : ℕ) → WhyStays x y j → IsLiveIn y.member j → IsLiveIn x.member j
  live_by j (WhyStays.Same same) live = record { below = below_back j live.below; why = sym same ∙ live.why }
  live_by j (WhyStays.Went gone was) live = let never : why.Gone ≡ why.Here = sym gone ∙ live.why in absurd (cc)

  -- a slot that takes part in the end did so at first, and so does one that is live
  pub here_back : (j : ℕ) → IsHere y.member j → IsHere x.member j
  here_back j here = here_by j (p.whys j (below_back j here.below)) here

  pub live_back : (j : ℕ) → IsLiveIn y.member j → IsLiveIn x.member j
  live_back j live = live_by j (p.whys j (below_back j live.below)) live

pub part_none : (x : Snapshot) → IsMembership x.member → IsPart 0 x x
part_none x rules = record {
  after = after_none x.told;
  rules = rules;
  geometry = refl;
  whys = λ j below. WhyStays.Same refl;
  marks = λ j below. MarkStays.Same refl;
  drawn = omega arith;
  draws = omega arith;
}

-- where nothing was known to change but what the rack tells
pub part_told : (m : Membership) (old new : RackState) → IsMembership m → IsAfter old new → IsPart 0 (snapshot m old) (snapshot m new)
part_told m old new rules after = record {
  after = after;
  rules = rules;
  geometry = refl;
  whys = λ j below. WhyStays.Same refl;
  marks = λ j below. MarkStays.Same refl;
  drawn = omega arith;
  draws = omega arith;
}

module _ (a b : ℕ) (x y z : Snapshot) (first : IsPart a x y) (second : IsPart b y z) where
  sooner : (j : ℕ) → WasGoneTo x.member j x.told y.told → WasGoneTo x.member j x.told z.told
  sooner j = gone_to_wider x.member j x.told x.told y.told z.told (later_none x.told) first.after.later second.after

  afterwards : (j : ℕ) → WasGoneTo y.member j y.told z.told → WasGoneTo x.member j x.told z.told
  afterwards j was =
      gone_to_wider x.member j x.told y.told z.told z.told first.after.later second.after.later (after_none z.told)
      (gone_to_earlier x.member y.member j y.told z.told first.geometry (here_back a x y first j) was)

  whys_join : (j : ℕ) → WhyStays x y j → WhyStays y z j → WhyStays x z j
  whys_join j (WhyStays.Same same) (WhyStays.Same again) = WhyStays.Same (again ∙ same)
  whys_join j (WhyStays.Went gone was) (WhyStays.Same again) = WhyStays.Went (again ∙ gone) (sooner j was)
  whys_join j before (WhyStays.Went gone was) = WhyStays.Went gone (afterwards j was)

  -- a slot that wasn't here amid the two wasn't at first, or was gone
  away_join : (j : ℕ) → WhyStays x y j → why_of y.member j ≢ why.Here → why_of y.member j ≢ why.Rebuilding → mark_in z.member.array j ≡ Down
      → MarkStays x z j
  away_join j (WhyStays.Same same) live rebuilt down = MarkStays.WasAway (λ is. live (same ∙ is)) (λ is. rebuilt (same ∙ is)) down
  away_join j (WhyStays.Went gone was) live rebuilt down = MarkStays.Went (sooner j was) down

  marks_join : (j : ℕ) → WhyStays x y j → MarkStays x y j → MarkStays y z j → MarkStays x z j
  marks_join j stays (MarkStays.Same same) (MarkStays.Same again) = MarkStays.Same (again ∙ same)
  marks_join j stays (MarkStays.WasAway live rebuilt down) (MarkStays.Same again) = MarkStays.WasAway live rebuilt (again ∙ down)
  marks_join j stays (MarkStays.Went was down) (MarkStays.Same again) = MarkStays.Went (sooner j was) (again ∙ down)
  marks_join j stays before (MarkStays.WasAway live rebuilt down) = away_join j stays live rebuilt down
  marks_join j stays before (MarkStays.Went was down) = MarkStays.Went (afterwards j was) down

  to_y : (j : ℕ) → j < x.member.array.geometry.n → j < y.member.array.geometry.n
  to_y j below = subst (λ (g : Geometry). j < g.n) (sym first.geometry) below

  pub part_join : IsPart (a + b) x z
  part_join = record {
    after = after_join first.after second.after;
    rules = second.rules;
    geometry = second.geometry ∙ first.geometry;
    whys = λ j below. whys_join j (first.whys j below) (second.whys j (to_y j below));
    marks = λ j below. marks_join j (first.whys j below) (first.marks j below) (second.marks j (to_y j below));
    drawn = let lower = first.drawn in let upper = second.drawn in omega (arith, lower, upper);
    draws = let lower = first.draws in let upper = second.draws in omega (arith, lower, upper);
  }

-- AN EPOCH

issuing_beside : (slots : Slots) (editions : List Edition) (j : ℕ) (c : SlotCall) → IsIssuing slots editions j c → attaches_none j c
issuing_beside slots editions j c may = issuing_attaches slots editions (IsSlot j) j c may refl

pub epoch_after : (aim : EpochChange) (m last : Membership) (refusal : Option FenceFault) (old new : RackState) → Establishes aim m last refusal old new
    → IsAfter old new
epoch_after aim m last refusal old new e = record {
  later = record {
    counts = e.counts;
    honest = e.honest;
    ran = λ honest.
        let issued = e.issued honest in ran_any {allowed = IsIssuing issued.slots issued.editions} issued.ran;
  };
  beside = λ honest.
      let issued = e.issued honest in
      ran_weakened {allowed = IsIssuing issued.slots issued.editions} {more = attaches_none} (issuing_beside issued.slots issued.editions) issued.ran;
}

pub fence_after : (leaving : Slots) (m last : Membership) (answer : Result Slots FenceFault) (old new : RackState)
    → Fences leaving m last answer old new → IsAfter old new
fence_after leaving m last answer old new e = epoch_after Fence e.start last (refusal_of answer) old new e.establishes

-- the slots of a set that are below n, where it has no others
pub counted_below : (set : Slots) (n : ℕ) → n ≤ 32 → ((j : ℕ) → HasSlot set j → j < n)
    → slot_count set ≡ sum_below n (λ j. cond (has_slot set j) 1 0)
counted_below set n limit below =
    sum_below_tail n 32 (λ j. cond (has_slot set j) 1 0) limit
    (λ j past small. unmarked (has_slot set j) (λ has. let under : j < n = below j has in absurd (omega (arith, under, past))))

pub here_not_gone : (m : Membership) (j : ℕ) → IsHere m j → ¬ (why_of m j ≡ why.Gone)
here_not_gone m j here is =
    elim here.why [
      | inl live ↦ let never : why.Here ≡ why.Gone = sym live ∙ is in cc
      | inr rebuilt ↦ let never : why.Rebuilding ≡ why.Gone = sym rebuilt ∙ is in cc
    ]

pub here_weighs : (m : Membership) (j : ℕ) → IsHere m j → 1 ≤ weight (why_of m j)
here_weighs m j here =
    elim here.why [
      | inl live ↦ subst (λ (w : Why). 1 ≤ weight w) (sym live) (omega arith)
      | inr rebuilt ↦ subst (λ (w : Why). 1 ≤ weight w) (sym rebuilt) (omega arith)
    ]

no_slot : (j : ℕ) → ¬ HasSlot no_slots j
no_slot j has = true≢false (sym has ∙ has_slot-none j)

-- an epoch draws once for each slot that was gone to it, and once more at most
pub epoch_drawn : (aim : EpochChange) (m last : Membership) (refusal : Option FenceFault) (old new : RackState) → (e : Establishes aim m last refusal old new)
    → (m.drawn + slot_count e.gone ≤ last.drawn) × (last.drawn ≤ m.drawn + slot_count e.gone + 1)
epoch_drawn aim m last refusal old new e = by refusal refl
  where
    by : (found : Option FenceFault) → refusal ≡ found → (m.drawn + slot_count e.gone ≤ last.drawn) × (last.drawn ≤ m.drawn + slot_count e.gone + 1)
    by None is = let at = (e.done is).drawn in (omega (arith, at), omega (arith, at))
    by (Some fault) is = let at = (e.refused fault is).1 in (omega (arith, at), omega (arith, at))

-- An epoch without slots that took part and were gone since `old`, which admits none and promotes none.
module _ (aim : EpochChange) (as_was : (j : ℕ) (w : Why) → aimed aim j w ≡ w) (none : admitted aim ≡ None) (leaving : Slots) (m start last : Membership)
    (leaves : Leaves leaving m start) (refusal : Option FenceFault) (old mid new : RackState) (e : Establishes aim start last refusal mid new)
    (rules : IsMembership m) (before : IsAfter old mid) (here : (j : ℕ) → HasSlot leaving j → IsHere m j)
    (gone : (j : ℕ) → HasSlot leaving j → WasGoneTo m j old mid) where
  after : IsAfter mid new
  after = epoch_after aim start last refusal mid new e

  start_n : (j : ℕ) → j < m.array.geometry.n → j < start.array.geometry.n
  start_n j below = subst (λ (g : Geometry). j < g.n) (sym (start_geometry leaving m start leaves)) below

  geometry : last.array.geometry ≡ m.array.geometry
  geometry = e.geometry ∙ start_geometry leaving m start leaves

  left_before : (j : ℕ) → HasSlot leaving j → WasGoneTo m j old new
  left_before j has = gone_to_wider m j old old mid new (later_none old) before.later after (gone j has)

  -- one that was gone to the epoch took part
  gone_start : (j : ℕ) → HasSlot e.gone j → IsHere start j
  gone_start j has =
      elim (e.took j has) [ inl is ↦ is | inr joins ↦ absurd (let never : None ≡ Some j = sym none ∙ joins.0 in cc) ]

  gone_within : (j : ℕ) → HasSlot e.gone j → WasGoneTo m j old new
  gone_within j has =
      gone_to_wider m j old mid new new before.later after.later (after_none new)
      (gone_to_earlier m start j mid new (start_geometry leaving m start leaves) (here_before leaving m start leaves j)
      (gone_to_by start j mid new after (gone_start j has) (e.were_gone.rose j has)
      (λ honest session held reach.
      e.were_gone.shut honest session j has held
      (λ attached.
      reach attached 1
      (let needed : sectors_needed start.array.geometry ≡ sectors_needed start.array.geometry = refl in omega arith)))))

  -- reasons
  why_kept : (j : ℕ) → j < m.array.geometry.n → ¬ HasSlot e.gone j → why_of last j ≡ why_of start j
  why_kept j below out = by e.began
    where
      by : HasBegun aim e.gone start last → why_of last j ≡ why_of start j
      by (NotYet same whys) = whys j (start_n j below) out
      by (Did above named whys) = whys j (start_n j below) out ∙ as_was j (why_of start j)

  epoch_whys : (j : ℕ) → j < m.array.geometry.n → WhyStays (snapshot m old) (snapshot last new) j
  epoch_whys j below =
      elim (has_or_not e.gone j) [
        | inl dropped ↦ WhyStays.Went (e.were_gone.dropped j dropped) (gone_within j dropped)
        | inr kept ↦
            elim (has_or_not leaving j) [
              | inl left ↦ WhyStays.Went (why_kept j below kept ∙ leaves.left j left) (left_before j left)
              | inr out ↦ WhyStays.Same (why_kept j below kept ∙ leaves.others j out)
            ]
      ]

  -- marks
  mark_by : (j : ℕ) (w : Why) → why_of m j ≡ w → IsMarkedFor w (mark_in m.array j) → mark_in last.array j ≡ mark_for w
      → MarkStays (snapshot m old) (snapshot last new) j
  mark_by j why.Here is marked named = MarkStays.Same (named ∙ sym marked)
  mark_by j why.Rebuilding is marked named = MarkStays.Same (named ∙ sym marked)
  mark_by j w is marked named = MarkStays.WasAway (λ live. cc) (λ rebuilt. cc) named

  epoch_marks : (j : ℕ) → j < m.array.geometry.n → MarkStays (snapshot m old) (snapshot last new) j
  epoch_marks j below = by e.began
    where
      by : HasBegun aim e.gone start last → MarkStays (snapshot m old) (snapshot last new) j
      by (NotYet same whys) = MarkStays.Same (ap (λ (c : Configuration). mark_in c j) (same ∙ leaves.array))
      by (Did above named whys) =
          elim (named.marks j (start_n j below)) [
            | inr dropped ↦ MarkStays.Went (gone_within j dropped.0) dropped.1
            | inl as_aimed ↦
                let marked : mark_in last.array j ≡ mark_for (why_of start j) = as_aimed ∙ ap mark_for (as_was j (why_of start j)) in
                elim (has_or_not leaving j) [
                  | inl left ↦ MarkStays.Went (left_before j left) (marked ∙ ap mark_for (leaves.left j left))
                  | inr out ↦ mark_by j (why_of m j) refl (rules.marked j below) (marked ∙ ap mark_for (leaves.others j out))
                ]
          ]

  -- draws

  -- a slot that was gone weighs nothing any more
  abbrev weighs_less : ℕ → Type 0
  weighs_less j =
      weight (why_of last j) + cond (has_slot e.gone j) 1 0 + cond (has_slot leaving j) 1 0 ≤ weight (why_of m j)

  lighter_gone : (j : ℕ) → HasSlot e.gone j → weighs_less j
  lighter_gone j has =
      let is_here : IsHere start j = gone_start j has in
      let weighs : weight (why_of last j) ≡ 0 = ap weight (e.were_gone.dropped j has) in
      let one : ◌≡◌ {A = ℕ} (cond (has_slot e.gone j) 1 0) 1 = ap (λ b. cond b 1 0) has in
      let none : ◌≡◌ {A = ℕ} (cond (has_slot leaving j) 1 0) 0 =
      unmarked (has_slot leaving j) (λ left. here_not_gone start j is_here (leaves.left j left)) in
      let was : 1 ≤ weight (why_of m j) = here_weighs m j (here_before leaving m start leaves j is_here) in
      omega (arith, weighs, one, none, was)

  lighter_kept : (j : ℕ) → j < m.array.geometry.n → ¬ HasSlot e.gone j → weighs_less j
  lighter_kept j below kept =
      let zero : ◌≡◌ {A = ℕ} (cond (has_slot e.gone j) 1 0) 0 = unmarked (has_slot e.gone j) kept in
      elim (has_or_not leaving j) [
        | inl left ↦
            let weighs : weight (why_of last j) ≡ 0 = ap weight (why_kept j below kept ∙ leaves.left j left) in
            let one : ◌≡◌ {A = ℕ} (cond (has_slot leaving j) 1 0) 1 = ap (λ b. cond b 1 0) left in
            let was : 1 ≤ weight (why_of m j) = here_weighs m j (here j left) in
            omega (arith, zero, weighs, one, was)
        | inr out ↦
            let weighs : weight (why_of last j) ≡ weight (why_of m j) = ap weight (why_kept j below kept ∙ leaves.others j out) in
            let none : ◌≡◌ {A = ℕ} (cond (has_slot leaving j) 1 0) 0 = unmarked (has_slot leaving j) out in
            omega (arith, zero, weighs, none)
      ]

  lighter : (j : ℕ) → j < m.array.geometry.n → weighs_less j
  lighter j below = elim (has_or_not e.gone j) [ inl dropped ↦ lighter_gone j dropped | inr kept ↦ lighter_kept j below kept ]

  -- so each slot that was gone made room for its draw
  epoch_weights : weights last + slot_count e.gone + slot_count leaving ≤ weights m
  epoch_weights =
      let n = m.array.geometry.n in
      let limit : n ≤ 32 = rules.array.limits.devices.1 in
      let own : weights last ≡ sum_below n (λ j. weight (why_of last j)) =
      ap (λ (g : Geometry). sum_below g.n (λ j. weight (why_of last j))) geometry in
      let of_gone : slot_count e.gone ≡ sum_below n (λ j. cond (has_slot e.gone j) 1 0) =
      counted_below e.gone n limit (λ j has. (here_before leaving m start leaves j (gone_start j has)).below) in
      let of_leaving : slot_count leaving ≡ sum_below n (λ j. cond (has_slot leaving j) 1 0) =
      counted_below leaving n limit (λ j has. (here j has).below) in
      let two = sum_below_add n (λ j. weight (why_of last j)) (λ j. cond (has_slot e.gone j) 1 0) in
      let three =
      sum_below_add n (λ j. weight (why_of last j) + cond (has_slot e.gone j) 1 0) (λ j. cond (has_slot leaving j) 1 0) in
      let all : sum_below n (λ j. weight (why_of last j) + cond (has_slot e.gone j) 1 0 + cond (has_slot leaving j) 1 0) ≤ weights m =
      sum_below_le n (λ j. weight (why_of last j) + cond (has_slot e.gone j) 1 0 + cond (has_slot leaving j) 1 0)
      (λ j. weight (why_of m j)) lighter in
      omega (arith, own, of_gone, of_leaving, two, three, all)

  pub epoch_part : (more : ℕ) → 1 ≤ more + slot_count leaving → IsPart more (snapshot m old) (snapshot last new)
  epoch_part more room = record {
    after = after_join before after;
    rules = e.rules;
    geometry = geometry;
    whys = epoch_whys;
    marks = epoch_marks;
    drawn = let at = (epoch_drawn aim start last refusal mid new e).0 in let same = leaves.drawn in omega (arith, at, same);
    draws =
        let at = (epoch_drawn aim start last refusal mid new e).1 in
        let same = leaves.drawn in
        let lighter_by = epoch_weights in
        omega (arith, at, same, lighter_by, room);
  }

pub fence_part : (leaving : Slots) (m last : Membership) (answer : Result Slots FenceFault) (old mid new : RackState)
    → Fences leaving m last answer mid new → IsMembership m → IsAfter old mid → ((j : ℕ) → HasSlot leaving j → IsHere m j)
    → ((j : ℕ) → HasSlot leaving j → WasGoneTo m j old mid) → (more : ℕ) → 1 ≤ more + slot_count leaving
    → IsPart more (snapshot m old) (snapshot last new)
fence_part leaving m last answer old mid new e rules before here gone more room =
    epoch_part Fence (λ j w. refl) refl leaving m e.start last e.leaves (refusal_of answer) old mid new e.establishes rules before here gone more room

-- The first epoch of an opening draws once more than it has slots that it drops.
pub first_part : (m last : Membership) (answer : Result Slots FenceFault) (old new : RackState) → Fences no_slots m last answer old new
    → IsMembership m → IsPart 1 (snapshot m old) (snapshot last new)
first_part m last answer old new e rules =
    fence_part no_slots m last answer old old new e rules (after_none old) (λ j has. absurd (no_slot j has)) (λ j has. absurd (no_slot j has)) 1
    (omega arith)

-- A frozen mark and a label are an epoch's own.
pub stamp_part : (frozen : Bool) (label : List ℕ) (m last : Membership) (answer : Result Slots FenceFault) (old new : RackState)
    → Stamps frozen label m last answer old new → IsMembership m → IsPart 1 (snapshot m old) (snapshot last new)
stamp_part frozen label m last answer old new e rules =
    epoch_part (Stamp frozen label) (λ j w. refl) refl no_slots m m last (none_leave m) (refusal_of answer) old old new e.establishes rules
    (after_none old) (λ j has. absurd (no_slot j has)) (λ j has. absurd (no_slot j has)) 1 (omega arith)

-- SLOTS THAT ARE LEFT OUT

-- slots that took part and were gone since `old`
pub out_part : (gone : Slots) (refusal : Option FenceFault) (m : Membership) (old mid : RackState) (y : Snapshot) → IsMembership m → IsAfter old mid
    → IsSlotSet gone → ((j : ℕ) → HasSlot gone j → IsHere m j) → ((j : ℕ) → HasSlot gone j → WasGoneTo m j old mid)
    → FencesGone gone refusal (snapshot m mid) y → IsPart 0 (snapshot m old) y
out_part gone refusal m old mid y rules before formed here was (NoneWas none same fine) =
    subst (λ (p : Snapshot). IsPart 0 (snapshot m old) p) (sym same) (part_told m old mid rules before)
out_part gone refusal m old mid y rules before formed here was (Fenced j has answer fine e) =
    let some : 0 < slot_count gone = slot_counted gone j formed has in
    fence_part gone m y.member answer old mid y.told e rules before here was 0 (omega (arith, some))

pub out_after : (gone : Slots) (refusal : Option FenceFault) (x y : Snapshot) → FencesGone gone refusal x y → IsAfter x.told y.told
out_after gone refusal x y (NoneWas none same fine) = subst (λ (p : Snapshot). IsAfter x.told p.told) (sym same) (after_none x.told)
out_after gone refusal x y (Fenced j has answer fine e) = fence_after gone x.member y.member answer x.told y.told e
