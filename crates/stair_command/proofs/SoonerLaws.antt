-- Each step of a rebuild brings it nearer to its end.
use Rattle.std.proofs.Common.{◌⊎◌, ◌≡◌, ◌∙◌, ◌+◌, ◌-◌, ◌*◌, ◌<◌, ◌≤◌, ℕ, zero, suc, List, Option, None, Some, Ok, Err, inl, inr, refl, sym, ap, subst, arith}
use Rattle.std.specs.Prelude.{IfOk, Result}
use Rattle.std.proofs.lemmas.Bool.{cases_eq}
use Rattle.std.proofs.Math.Nat.{mul-le-mul_right, suc-mul}
use Rattle.stair_model.specs.Geometry.{Geometry}
use Rattle.stair_model.specs.Sum.{sum_below}
use Rattle.stair_model.proofs.CountLaws.{sum_below_le}
use Rattle.stair_rack.specs.RackState.{RackState}
use Rattle.stair_rack.specs.declared.watcher.Event.{Event}
use Rattle.stair_member.specs.declared.fault.FenceFault.{FenceFault}
use Rattle.stair_member.specs.Membership.{IsHere, Membership, why_of}
use Rattle.stair_member.specs.declared.why.Why.{Why}
use Rattle.stair_member.specs.declared.why.Why.TheVariants as why
use Rattle.stair_invariant.specs.Rebuilding.{Rebuild}
use Rattle.stair_invariant.specs.Session.{ArrayState, IsArray, IsRebuiltIn}
use Rattle.stair_array.specs.Arrays.{OpenArray, progress_for, rebuilt_as, state_of}
use Rattle.stair_array.specs.Calls.{refused}
use Rattle.stair_array.specs.declared.fault.Progress.{Progress as Told}
use Rattle.stair_array.specs.declared.fault.Progress.TheVariants as told
use Rattle.stair_array.specs.declared.fault.RebuildFault.{RebuildFault}
use Rattle.stair_array.specs.Causes.{First, IsNextChunk, UnderWay}
use Rattle.stair_array.specs.Draws.{weight, weights}
use Rattle.stair_array.specs.Machine.{Chunk, Dropped, Nothing, Progress, Promoted, RebuildNext, Refusal}
use Rattle.stair_array.specs.Promise.{Closed, Ends, EndsIn, GoesOn, Opened, Performs, Seen}
use Rattle.stair_command.specs.Rebuilt.{steps_left, stripes_done}
use Rattle.stair_command.proofs.DrawnLaws.{weights_grow, why_weighs}
use Rattle.stair_command.proofs.TakenLaws.{Promises}

-- where one term falls and none grows, the sum falls
sum_falls : (n k : ℕ) (f g : ℕ → ℕ) → k < n → g k < f k → ((j : ℕ) → j < n → g j ≤ f j) → sum_below n g < sum_below n f
unfolding sum_below
sum_falls zero k f g below falls none = absurd (omega (arith, below))
sum_falls (suc n) k f g below falls none =
    let last : g n ≤ f n = none n (omega arith) in
    elim (cases_eq n k) [
      | inl same ↦
          let rest : sum_below n g ≤ sum_below n f = sum_below_le n g f (λ j inside. none j (omega arith)) in
          let here : g n < f n = subst (λ (j : ℕ). g j < f j) (sym same) falls in
          omega arith
      | inr apart ↦
          let rest : sum_below n g < sum_below n f =
          sum_falls n k f g (omega (arith, below, λ (e : n ≡ k). apart e)) falls (λ j inside. none j (omega arith)) in
          omega arith
    ]

-- ---- one step

abbrev weighs : Membership → ℕ → ℕ
weighs m j = weight (why_of m j)

weight_rebuilt : (reason : Why) → reason ≡ why.Rebuilding → weight reason ≡ 2
weight_rebuilt reason is = ap weight is

weight_away : (m : Membership) (j : ℕ) → j < m.array.geometry.n → ¬ IsHere m j → weighs m j ≡ 0
weight_away m j below away = by (why_of m j) (λ here. away (record { below = below; why = here }))
  where
    by : (reason : Why) → ((reason ≡ why.Here) ⊎ (reason ≡ why.Rebuilding) → ⊥) → weight reason ≡ 0
    by why.Here not = absurd (not (inl refl))
    by why.Rebuilding not = absurd (not (inr refl))
    by _ not = refl

module _ (answer : Result Progress Refusal) (events : List Event) (x y : Seen) (performs : Performs RebuildNext answer events x y) where
  abbrev was : ArrayState
  was = performs.was

  abbrev is : ArrayState
  is = performs.is

  abbrev stripes : ℕ
  stripes = was.member.array.geometry.stripes

  same : is.member.array.geometry ≡ was.member.array.geometry
  same = performs.goes_on.geometry

  none_heavier : weights is.member ≤ weights was.member
  none_heavier = omega (arith, weights_grow x.told y.told was.member is.member RebuildNext performs.goes_on)

  -- a slot that is lighter than before
  lighter : (j : ℕ) → j < was.member.array.geometry.n → weighs is.member j < weighs was.member j → weights is.member < weights was.member
  lighter j below falls =
      let sums = sum_falls was.member.array.geometry.n j (weighs was.member) (weighs is.member) below falls
      (λ i inside. why_weighs RebuildNext x.told y.told was.member is.member i (performs.goes_on.whys i inside) (λ other. cc)) in
      subst (λ (g : Geometry). sum_below g.n (weighs is.member) < weights was.member) (sym same) sums

  left_is : steps_left is ≡ weights is.member * (stripes + 1) - stripes_done is.rebuild
  left_is = ap (λ (g : Geometry). weights is.member * (g.stripes + 1) - stripes_done is.rebuild) same

  fewer_slots : weights is.member < weights was.member → stripes_done was.rebuild ≤ stripes → steps_left is < steps_left was
  fewer_slots less done =
      let product : suc (weights is.member) * (stripes + 1) ≤ weights was.member * (stripes + 1) = mul-le-mul_right (stripes + 1) (omega (arith, less)) in
      let more : suc (weights is.member) * (stripes + 1) ≡ weights is.member * (stripes + 1) + (stripes + 1) = suc-mul (weights is.member) (stripes + 1) in
      omega (arith, left_is, product, more, done)

  more_stripes : (t : ℕ) → 0 < weights was.member → stripes_done was.rebuild ≡ t → t ≤ stripes → stripes_done is.rebuild ≡ t + 1
      → steps_left is < steps_left was
  more_stripes t some before within after =
      let product : weights is.member * (stripes + 1) ≤ weights was.member * (stripes + 1) = mul-le-mul_right (stripes + 1) none_heavier in
      let room : 1 * (stripes + 1) ≤ weights was.member * (stripes + 1) = mul-le-mul_right (stripes + 1) (omega (arith, some)) in
      omega (arith, left_is, product, room, before, within, after)

  -- the chunk that comes next is of a slot that is rebuilt, at this stripe
  record Next (j t : ℕ) : Type 0 where
    rebuilt : IsRebuiltIn was.member j
    done : stripes_done was.rebuild ≡ t
    within : t ≤ stripes

  next : (array : IsArray was) (j t : ℕ) → IsNextChunk was j t → Next j t
  next array j t (UnderWay rebuild is_under slot stripe) = record {
    rebuilt = subst (IsRebuiltIn was.member) slot (array.rebuilds rebuild is_under).0;
    done = ap stripes_done is_under ∙ stripe;
    within = omega (arith, (array.rebuilds rebuild is_under).1, stripe);
  }
  next array j t (First none lowest first) =
      record { rebuilt = lowest.rebuilt; done = ap stripes_done none ∙ sym first; within = omega (arith, first) }

  done_few : (array : IsArray was) → stripes_done was.rebuild ≤ stripes
  done_few array = by was.rebuild refl
    where
      by : (rebuild : Option Rebuild) → was.rebuild ≡ rebuild → stripes_done was.rebuild ≤ stripes
      by None none = omega (arith, ap stripes_done none)
      by (Some rebuild) under = omega (arith, ap stripes_done under, (array.rebuilds rebuild under).1)

-- So the steps that are left are fewer after each but the one that finds nothing.
pub sooner : (progress : Progress) (events : List Event) (x y : Seen) (performs : Performs RebuildNext (Ok progress) events x y)
    → IsArray performs.was → (progress ≡ Nothing → ⊥) → steps_left performs.is < steps_left performs.was
sooner Nothing events x y performs array other = absurd (other refl)
sooner (Chunk j t) events x y performs array other =
    let to = next (Ok (Chunk j t)) events x y performs array j t performs.allowed in
    let m = performs.was.member in
    let heavy : weighs m j ≡ 2 = weight_rebuilt (why_of m j) to.rebuilt.why in
    let some : sum_below m.array.geometry.n (λ i. 0) < weights m =
    sum_falls m.array.geometry.n j (weighs m) (λ i. 0) to.rebuilt.below (omega (arith, heavy)) (λ i inside. omega arith) in
    more_stripes (Ok (Chunk j t)) events x y performs t (omega (arith, some)) to.done to.within (ap stripes_done performs.rebuild.2)
sooner (Promoted j) events x y performs array other =
    let to = next (Ok (Promoted j)) events x y performs array j performs.allowed.0 performs.allowed.1 in
    let heavy = weight_rebuilt (why_of performs.was.member j) to.rebuilt.why in
    let light : weighs performs.is.member j ≡ 1 = ap weight performs.rebuild.1.why in
    fewer_slots (Ok (Promoted j)) events x y performs
    (lighter (Ok (Promoted j)) events x y performs j to.rebuilt.below (omega (arith, heavy, light)))
    (done_few (Ok (Promoted j)) events x y performs array)
sooner (Dropped j) events x y performs array other =
    let to = next (Ok (Dropped j)) events x y performs array j performs.allowed.0 performs.allowed.1 in
    let heavy = weight_rebuilt (why_of performs.was.member j) to.rebuilt.why in
    let inside : j < performs.is.member.array.geometry.n =
    subst (λ (g : Geometry). j < g.n) (sym performs.goes_on.geometry) to.rebuilt.below in
    let light : weighs performs.is.member j ≡ 0 = weight_away performs.is.member j inside performs.rebuild.1 in
    fewer_slots (Ok (Dropped j)) events x y performs
    (lighter (Ok (Dropped j)) events x y performs j to.rebuilt.below (omega (arith, heavy, light)))
    (done_few (Ok (Dropped j)) events x y performs array)

-- so it is of a call's answer, which promises what a step does unless the array was stopped
pub sooner_promised : (result : Result Told RebuildFault) (was is : OpenArray) (had : ArrayState) (x y : RackState) → state_of was ≡ had
    → Promises RebuildNext (rebuilt_as result) was is x y → (was.stopped ≡ None → IsArray (state_of was))
    → ((fault : FenceFault) → was.stopped ≡ Some fault → rebuilt_as result ≡ Err (refused fault))
    → IfOk result (λ progress. (progress ≡ told.Nothing → ⊥) → steps_left (state_of is) < steps_left had)
sooner_promised (Err fault) was is had x y same promises array stopped = tt
sooner_promised (Ok progress) was is had x y same promises array stopped = λ other. by was.stopped refl other
  where
    ends : (a b : ArrayState) → EndsIn RebuildNext (Ok (progress_for progress)) a (Opened b) → a ≡ b
    ends a b (Ends is err closed) = absurd (let clash : Opened b ≡ Closed = closed in cc)
    ends a b (GoesOn ok kept opened) = let same : Opened b ≡ Opened a = opened in cc

    another : (progress : Told) → (progress ≡ told.Nothing → ⊥) → progress_for progress ≡ Nothing → ⊥
    another told.Nothing other is = other refl
    another (told.Chunk slot stripe) other is = cc
    another (told.Promoted slot) other is = cc
    another (told.Dropped slot) other is = cc

    by : (at : Option FenceFault) → was.stopped ≡ at → (progress ≡ told.Nothing → ⊥) → steps_left (state_of is) < steps_left had
    by (Some fault) stopped_by other = absurd (let clash = stopped fault stopped_by in cc)
    by None none other =
        let performs = promises none in
        let before : performs.was ≡ had = performs.starts.0 ∙ same in
        let after : performs.is ≡ state_of is = ends performs.is (state_of is) performs.ends in
        subst (λ (a : ArrayState). steps_left a < steps_left had) after
        (subst (λ (a : ArrayState). steps_left performs.is < steps_left a) before
        (sooner (progress_for progress) _ _ _ performs (subst IsArray (sym performs.starts.0) (array none)) (another progress other)))
