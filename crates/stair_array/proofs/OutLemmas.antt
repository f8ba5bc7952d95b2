-- Live slots, and slots that were gone and are left out.
use Rattle.std.proofs.Common.{◌≡◌, ◌≢◌, ◌+◌, ◌<◌, ◌≤◌, ℕ, None, Option, Some, suc, ap, subst, arith, inl, inr, refl, sym, ◌∙◌}
use Rattle.std.specs.Prelude.{◌||◌, ◌==◌, Err, Ok, Result, cond}
use Rattle.std.specs.Result.{IsErrAnd}
use Rattle.std.proofs.lemmas.Bool.{eq-eqb, eqb-true, or_left, or_cases, or_right}
use Rattle.stair_model.specs.Geometry.{Geometry}
use Rattle.stair_model.specs.Slots.{HasSlot, IsSlotSet, Slots, has_slot, slot_count}
use Rattle.stair_model.specs.Sum.{sum_below}
use Rattle.stair_model.proofs.CountLaws.{sum_below_longer, sum_below_more}
use Rattle.stair_model.proofs.SetLaws.{slot_count-subset, slot_count_member, slot_count_more}
use Rattle.stair_rack.specs.RackState.{RackState}
use Rattle.stair_member.specs.Establishing.{Fences, refusal_of}
use Rattle.stair_member.specs.Membership.{Membership, why_of}
use Rattle.stair_member.specs.declared.fault.FenceFault.{FenceFault}
use Rattle.stair_member.specs.declared.why.Why.TheVariants.{Gone, Here}
use Rattle.stair_member.proofs.CountingLemmas.{has_or_not, slot_in_range, slots_by, slots_by-at, slots_by-formed}
use Rattle.stair_member.proofs.JudgeLemmas.{IsSetBelow}
use Rattle.stair_invariant.specs.Effects.{AreLive, Fenced, FencesGone, NoneWas, Snapshot, snapshot}
use Rattle.stair_invariant.specs.Session.{IsLiveIn}
use Rattle.stair_invariant.proofs.LeftOutLemmas.{live_before, start_geometry}

-- the slots below n that are live are all of them
pub all_live : (m : Membership) (n : ℕ) (live : Slots) → n ≡ m.array.geometry.n → IsSlotSet live
    → IsSetBelow (λ j. why_of m j ≡ Here) n live → AreLive m live
all_live m n live end formed set = record {
  formed = formed;
  are = λ j. (
    λ has. let both = (set.members j).0 has in record { below = omega (arith, both.0, end); why = both.1 },
    λ is. let below : j < n = omega (arith, is.below, end) in (set.members j).1 (below, is.why),
  );
}

-- a set with a slot counts at least one
pub slot_counted : (set : Slots) (j : ℕ) → IsSlotSet set → HasSlot set j → 0 < slot_count set
slot_counted set j formed has =
    let small = slot_in_range set j formed has in
    let mark : ℕ → ℕ = λ k. cond (has_slot set k) 1 0 in
    let one : mark j ≡ 1 = ap (λ b. cond b 1 0) has in
    let longer : sum_below (suc j) mark ≤ sum_below 32 mark = sum_below_longer mark (suc j) 32 (omega (arith, small)) in
    let more : sum_below (suc j) mark ≡ sum_below j mark + mark j = sum_below_more j mark in
    omega (arith, one, longer, more)

-- a set that counts none has no slot, and one that counts some has one
pub counts_none : (gone : Slots) (count : ℕ) → count ≡ slot_count gone → IsSlotSet gone → count ≡ 0 → (j : ℕ) → ¬ HasSlot gone j
counts_none gone count counted formed zero j has = let above = slot_counted gone j formed has in absurd (omega (arith, above, counted, zero))

pub counts_some : (gone : Slots) (count : ℕ) → count ≡ slot_count gone → count ≢ 0 → (j : ℕ) × (j < 32) × HasSlot gone j
counts_some gone count counted some =
    let above : 0 < count = omega (arith, some) in
    slot_count_member gone (omega (arith, above, counted))

-- a fault that is handed on
pub handed_on : {A : Type 0} (result : Result A FenceFault) (fault : FenceFault) → IsErrAnd result (λ e. e ≡ fault)
    → refusal_of result ≡ Some fault
handed_on (Ok x) fault is = absurd is
handed_on (Err e) fault same = ap Some same

module _ (gone : Slots) (count : ℕ) (counted : count ≡ slot_count gone) (m last : Membership) (old new : RackState) where
  pub none_leaves : count ≡ 0 → IsSlotSet gone → FencesGone gone None (snapshot m old) (snapshot m old)
  none_leaves zero formed = NoneWas (counts_none gone count counted formed zero) refl refl

  pub some_leave : count ≢ 0 → (answer : Result Slots FenceFault) (refusal : Option FenceFault) → refusal ≡ refusal_of answer
      → Fences gone m last answer old new → FencesGone gone refusal (snapshot m old) (snapshot last new)
  some_leave some answer refusal same fences =
      let one = counts_some gone count counted some in
      Fenced one.0 one.2 answer same fences

-- a fence leaves the geometry as it was
pub fence_geometry : (leaving : Slots) (m last : Membership) (answer : Result Slots FenceFault) (old new : RackState)
    → Fences leaving m last answer old new → last.array.geometry ≡ m.array.geometry
fence_geometry leaving m last answer old new e = e.establishes.geometry ∙ start_geometry leaving m e.start e.leaves

-- FEWER ARE LIVE

-- a set that lacks a slot of another one, and has no other slots than that, counts fewer
pub fewer_counted : (fewer more : Slots) (x : ℕ) → IsSlotSet more → ((j : ℕ) → HasSlot fewer j → HasSlot more j) → HasSlot more x
    → ¬ HasSlot fewer x → slot_count fewer < slot_count more
fewer_counted fewer more x formed within has lacks =
    let small = slot_in_range more x formed has in
    let plus = slots_by (λ j. has_slot fewer j || (j == x)) in
    let at : (j : ℕ) → j < 32 → has_slot plus j ≡ (has_slot fewer j || (j == x)) = slots_by-at (λ j. has_slot fewer j || (j == x)) in
    let one : slot_count plus ≡ slot_count fewer + 1 =
    slot_count_more fewer plus x small lacks
    (λ j below. (
      λ in_plus. elim (or_cases _ _ (sym (at j below) ∙ in_plus)) [ inl in_fewer ↦ inl in_fewer | inr same ↦ inr (eqb-true j x same) ],
      λ either. at j below ∙ elim either [ inl in_fewer ↦ or_left _ _ in_fewer | inr same ↦ or_right _ _ (eq-eqb j x same) ],
    ))
    in
    let most : slot_count plus ≤ slot_count more =
    slot_count-subset plus more
    (λ j in_plus.
    let below = slot_in_range plus j (slots_by-formed (λ k. has_slot fewer k || (k == x))) in_plus in
    elim (or_cases _ _ (sym (at j below) ∙ in_plus)) [
      | inl in_fewer ↦ within j in_fewer
      | inr same ↦ subst (λ (k : ℕ). HasSlot more k) (sym (eqb-true j x same)) has
    ])
    in
    omega (arith, one, most)

-- where these slots were left out and an epoch stands, a live slot was live before, and is none of them
module _ (leaving : Slots) (m last : Membership) (answer : Result Slots FenceFault) (old new : RackState) (stands : None ≡ refusal_of answer)
    (e : Fences leaving m last answer old new) (j : ℕ) (live : IsLiveIn last j) where
  below_first : j < e.start.array.geometry.n
  below_first = subst (λ (g : Geometry). j < g.n) e.establishes.geometry live.below

  live_then : why_of e.start j ≡ Here
  live_then =
      elim (has_or_not e.establishes.gone j) [
        | inl dropped ↦ let never : Here ≡ Gone = sym live.why ∙ e.establishes.were_gone.dropped j dropped in absurd (cc)
        | inr kept ↦ sym ((e.establishes.done (sym stands)).whys j below_first kept) ∙ live.why
      ]

  fence_live : IsLiveIn m j
  fence_live = record {
    below = subst (λ (g : Geometry). j < g.n) (start_geometry leaving m e.start e.leaves) below_first;
    why = live_before leaving m e.start e.leaves j live_then;
  }

  fence_not : ¬ HasSlot leaving j
  fence_not has = let never : Here ≡ Gone = sym live_then ∙ e.leaves.left j has in cc

module _ (gone : Slots) (x y : Snapshot) (j : ℕ) where
  pub left_live : FencesGone gone None x y → IsLiveIn y.member j → IsLiveIn x.member j
  left_live (NoneWas none same fine) live = subst (λ (p : Snapshot). IsLiveIn p.member j) same live
  left_live (Fenced i has answer fine e) live = fence_live gone x.member y.member answer x.told y.told fine e j live

  pub left_not : FencesGone gone None x y → IsLiveIn y.member j → ¬ HasSlot gone j
  left_not (NoneWas none same fine) live has = none j has
  left_not (Fenced i some answer fine e) live has = fence_not gone x.member y.member answer x.told y.told fine e j live has

-- so where a live slot was gone fewer are live
pub fewer_live : (gone live later : Slots) (x y : Snapshot) (j : ℕ) → FencesGone gone None x y → AreLive x.member live → AreLive y.member later
    → HasSlot gone j → HasSlot live j → slot_count later < slot_count live
fewer_live gone live later x y j leaves are are_later was_gone was_live =
    fewer_counted later live j are.formed
    (λ i has. (are.are i).1 (left_live gone x y i leaves ((are_later.are i).0 has))) was_live
    (λ has. left_not gone x y j leaves ((are_later.are j).0 has) was_gone)
