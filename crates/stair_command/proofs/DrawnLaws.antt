-- A trace draws no more than the weights of its slots and its steps allow.
use Rattle.std.proofs.Common.{◌≡◌, ◌+◌, ◌*◌, ◌<◌, ◌≤◌, ℕ, zero, suc, List, [], ◌∷◌, ◌⊎◌, inl, inr, refl, sym, ap, subst, arith}
use Rattle.std.specs.Prelude.{Bool}
use Rattle.std.proofs.lemmas.Bool.{cases_eq}
use Rattle.stair_model.specs.Geometry.{Geometry}
use Rattle.stair_model.specs.Sum.{sum_below}
use Rattle.stair_model.proofs.CountLaws.{sum_below_constant, sum_below_le}
use Rattle.stair_rack.specs.declared.watcher.Event.{Event}
use Rattle.stair_rack.specs.RackState.{RackState}
use Rattle.stair_member.specs.Membership.{Membership, why_of}
use Rattle.stair_member.specs.declared.why.Why.{Why}
use Rattle.stair_member.specs.declared.why.Why.TheVariants as why
use Rattle.stair_invariant.specs.Session.{ArrayState}
use Rattle.stair_array.specs.Causes.{AreSpent, HasCause, MemberGoesOn, WhyGoesOn, Stays, Went, IsAdmitted, IsPromoted}
use Rattle.stair_array.specs.Draws.{Before, HadSeen, OnMedium, allowance, weight, weights}
use Rattle.stair_array.specs.Machine.{Answer, EpochsSpent, LookAtSeats, ReadBlock, RebuildNext, Recover, ReplaceSlot, ScrubStripe, SetFrozen, SetLabel, Step, WriteBlocks}
use Rattle.stair_array.specs.Promise.{Performs, Phase}
use Rattle.stair_command.specs.Devices.{DeviceView, Devices, WorksAll, seen_of}
use Rattle.stair_command.specs.Drawn as drawn
use Rattle.stair_command.specs.Drawn.{AreDrawnFew, AreDrawnWithin, BoreDraw, BoreDrawAt, BoreDrawIn, NoneIsAbove, SpentAtTheEnd, at_step, opens, over_steps, replaces, stamps}
use Rattle.stair_command.specs.Kept.{HasMember}
use Rattle.stair_command.specs.Trace.{TraceItem, Stepped, AlongTrace}
use Rattle.stair_command.proofs.KeptLaws.{Closes, Same, Takes, comes, known_once, never_known, open_known, same_session}

-- ---- weights

-- where one term may grow by two, the sum grows by two at most
sum_grows : (n k : ℕ) (f g : ℕ → ℕ) → g k ≤ f k + 2 → ((j : ℕ) → j < n → (j ≡ k → ⊥) → g j ≤ f j) → sum_below n g ≤ sum_below n f + 2
unfolding sum_below
sum_grows zero k f g here others = omega arith
sum_grows (suc n) k f g here others =
    elim (cases_eq n k) [
      | inl same ↦
          let last : g n ≤ f n + 2 = subst (λ (j : ℕ). g j ≤ f j + 2) (sym same) here in
          let earlier : sum_below n g ≤ sum_below n f = sum_below_le n g f (λ j below. others j (omega arith) (λ e. omega arith)) in
          omega arith
      | inr apart ↦
          let last : g n ≤ f n = others n (omega arith) apart in
          let rest : sum_below n g ≤ sum_below n f + 2 = sum_grows n k f g here (λ j below. others j (omega arith)) in
          omega arith
    ]

weight_small : (reason : Why) → weight reason ≤ 2
weight_small why.Here = omega arith
weight_small why.Rebuilding = omega arith
weight_small _ = omega arith

abbrev weighs : Membership → ℕ → ℕ
weighs m j = weight (why_of m j)

-- the weight of a slot that isn't replaced doesn't grow
pub why_weighs : (step : Step) (old new : RackState) (m last : Membership) (j : ℕ) → WhyGoesOn step old new m last j → (step ≡ ReplaceSlot j → ⊥)
    → weighs last j ≤ weighs m j
why_weighs step old new m last j goes other =
    elim goes [
      | Stays same ↦ let e : weighs last j ≡ weighs m j = ap weight same in omega arith
      | Went gone to ↦ let e : weighs last j ≡ 0 = ap weight gone in omega arith
      | IsAdmitted is rebuilding ↦ absurd (other is)
      | IsPromoted is was here ↦ let e : weighs last j ≡ 1 = ap weight here in let f : weighs m j ≡ 2 = ap weight was in omega arith
    ]

module _ (old new : RackState) (m last : Membership) where
  none_weighs_more : (step : Step) → ((j : ℕ) → step ≡ ReplaceSlot j → ⊥) → MemberGoesOn step old new m last → weights last ≤ weights m
  none_weighs_more step other goes =
      let sums = sum_below_le m.array.geometry.n (weighs last) (weighs m)
      (λ j below. why_weighs step old new m last j (goes.whys j below) (other j)) in
      subst (λ (g : Geometry). sum_below g.n (weighs last) ≤ weights m) (sym goes.geometry) sums

  one_weighs_more : (k : ℕ) → MemberGoesOn (ReplaceSlot k) old new m last → weights last ≤ weights m + 2
  one_weighs_more k goes =
      let sums = sum_grows m.array.geometry.n k (weighs m) (weighs last) (omega (arith, weight_small (why_of last k)))
      (λ j below apart. why_weighs (ReplaceSlot k) old new m last j (goes.whys j below) (λ same. apart cc)) in
      subst (λ (g : Geometry). sum_below g.n (weighs last) ≤ weights m + 2) (sym goes.geometry) sums

  -- a step raises the weights by no more than it is allowed
  pub weights_grow : (step : Step) → MemberGoesOn step old new m last → weights last ≤ weights m + allowance step
  weights_grow (ReplaceSlot k) goes = omega (arith, one_weighs_more k goes)
  weights_grow step goes = omega (arith, none_weighs_more step (λ j same. cc) goes)

-- ---- traces

module _ {R W : Type 0} (view : DeviceView R W) where
  -- one more item in front
  one_allowed : (step : Step) (answer : Answer step) (events : List Event) (left : Bool) (item : TraceItem) (count : Step → ℕ)
      → item ≡ Stepped step answer events left → at_step count item ≡ count step
  one_allowed step answer events left item count is = ap (at_step count) is

  -- the draw of a step
  step_seen : (step : Step) (answer : Answer step) (events : List Event) (left : Bool) (m : Membership) (draw : ℕ) (x y : Devices R W)
      → HadSeen step m (seen_of view x).told (seen_of view y).told draw
      → (draw ≡ m.drawn) ⊎ BoreDrawAt view m.array.geometry draw (Stepped step answer events left) x y
  step_seen step answer events left m draw x y (Before is) = inl is
  step_seen step answer events left m draw x y (OnMedium j k super is below bore geometry is_draw above) = inr (at step answer is)
    where
      at : (s : Step) (answer : Answer s) → s ≡ ReplaceSlot j → BoreDrawAt view m.array.geometry draw (Stepped s answer events left) x y
      at (ReplaceSlot i) answer is =
          let same : i ≡ j = cc in
          let bored : BoreDraw m.array.geometry j draw (seen_of view x).told (seen_of view y).told =
          record { place = k; place_in = below; super = super; geometry = geometry; draw_is = sym is_draw; bore = bore } in
          subst (λ (slot : ℕ). BoreDraw m.array.geometry slot draw (seen_of view x).told (seen_of view y).told) (sym same) bored
      at s answer is = absurd (let same = is in cc)

  pub drawn_few : (trace : List TraceItem) (x y : Devices R W) (works : AlongTrace (WorksAll view) trace x y) (m last : Membership) → HasMember x.session m
      → HasMember y.session last → AreDrawnFew view m last trace x y works
  drawn_few [] x y works m last has ends =
      let same : last ≡ m = known_once x.session last m (subst (λ (s : Phase). HasMember s last) (same_session view works) ends) has in
      record {
        draw = m.drawn;
        seen = drawn.AtFirst refl;
        few = let e : last.drawn + weights last ≡ m.drawn + weights m = ap (λ (n : Membership). n.drawn + weights n) same in omega arith;
      }
  drawn_few (item ∷ trace) x y works m last has ends =
      elim (comes view item x works.0 m has works.1) [
        | Same same ↦ wait (drawn_few trace works.0 y works.2 m last (subst (λ (s : Phase). HasMember s m) (sym same) has) ends)
        | Closes closed ↦ absurd (never_known view trace works.0 y last works.2 closed ends)
        | Takes step answer events left is does known opened ↦
            took step answer events left is does known
            (drawn_few trace works.0 y works.2 does.is.member last (open_known works.0.session does.is.member opened) ends)
      ]
    where
      wait : AreDrawnFew view m last trace works.0 y works.2 → AreDrawnFew view m last (item ∷ trace) x y works
      wait rest = record {
        draw = rest.draw;
        seen = elim rest.seen [ drawn.AtFirst is ↦ drawn.AtFirst is | drawn.OnMedium bore ↦ drawn.OnMedium (inr bore) ];
        few = omega (arith, rest.few);
      }

      took : (step : Step) (answer : Answer step) (events : List Event) (left : Bool) → item ≡ Stepped step answer events left
          → (does : Performs step answer events (seen_of view x) (seen_of view works.0)) → does.was.member ≡ m
          → AreDrawnFew view does.is.member last trace works.0 y works.2 → AreDrawnFew view m last (item ∷ trace) x y works
      took step answer events left is does known rest =
          subst (λ (n : Membership). AreDrawnFew view n last (item ∷ trace) x y works) known whole
        where
          whole : AreDrawnFew view does.was.member last (item ∷ trace) x y works
          whole =
              let allowed : at_step allowance item ≡ allowance step = one_allowed step answer events left item allowance is in
              let grow = weights_grow (seen_of view x).told (seen_of view works.0).told does.was.member does.is.member step does.goes_on in
              elim rest.seen [
                | drawn.AtFirst is_drawn ↦ record {
                  draw = does.draws_few.draw;
                  seen = elim (step_seen step answer events left does.was.member does.draws_few.draw x works.0 does.draws_few.had_seen) [
                    | inl at_first ↦ drawn.AtFirst at_first
                    | inr bore ↦ drawn.OnMedium (inl (subst (λ (d : TraceItem). BoreDrawAt view does.was.member.array.geometry does.draws_few.draw d x works.0) (sym is) bore))
                  ];
                  few = omega (arith, rest.few, does.draws_few.few);
                }
                | drawn.OnMedium bore ↦ record {
                  draw = rest.draw;
                  seen = drawn.OnMedium (inr (subst (λ (g : Geometry). BoreDrawIn view g rest.draw trace works.0 y works.2) does.goes_on.geometry bore));
                  few = omega (arith, rest.few, grow);
                }
              ]

-- ---- plain numbers

pub weights_small : (m : Membership) → m.array.geometry.n ≤ 32 → weights m ≤ 64
weights_small m few =
    let sums = sum_below_le m.array.geometry.n (weighs m) (λ j. 2) (λ j below. weight_small (why_of m j)) in
    omega (arith, sums, sum_below_constant m.array.geometry.n 2)

-- what a step is allowed, by its kind
allowance_is : (step : Step) → allowance step ≡ opens step + 3 * replaces step + stamps step
allowance_is Recover = refl
allowance_is (ReplaceSlot j) = refl
allowance_is (SetFrozen frozen) = refl
allowance_is (SetLabel label) = refl
allowance_is _ = refl

item_allowance : (item : TraceItem) → at_step allowance item ≡ at_step opens item + 3 * at_step replaces item + at_step stamps item
item_allowance (Stepped step answer events left) = allowance_is step
item_allowance _ = refl

allowances_are : (trace : List TraceItem) → over_steps allowance trace ≡ over_steps opens trace + 3 * over_steps replaces trace + over_steps stamps trace
allowances_are [] = refl
allowances_are (item ∷ trace) = omega (arith, item_allowance item, allowances_are trace)

module _ {R W : Type 0} (view : DeviceView R W) where
  pub drawn_within : (trace : List TraceItem) (x y : Devices R W) (works : AlongTrace (WorksAll view) trace x y) (m last : Membership) (most : ℕ)
      → HasMember x.session m → HasMember y.session last → m.array.geometry.n ≤ 32 → NoneIsAbove view m most trace x y works
      → AreDrawnWithin last most trace
  drawn_within trace x y works m last most has ends slots none =
      let few = drawn_few view trace x y works m last has ends in
      let below : few.draw ≤ most = elim few.seen [ drawn.AtFirst is ↦ omega (arith, none.at_first) | drawn.OnMedium bore ↦ none.on_media few.draw bore ] in
      let small = weights_small m slots in
      let split = allowances_are trace in
      record {
        allowed = omega (arith, few.few, below, small);
        counted = λ q p opened replaced stamped. omega (arith, few.few, below, small, split, opened, replaced, stamped);
      }

-- ---- no epoch left

spent_of : (step : Step) (was : ArrayState) (last : Membership) (old new : RackState) → HasCause step EpochsSpent was last old new → AreSpent last
spent_of Recover was last old new cause = cause.1
spent_of (ReadBlock b) was last old new cause = cause.1
spent_of (WriteBlocks first contents) was last old new cause = cause.1
spent_of (ScrubStripe t) was last old new cause = cause.1
spent_of (ReplaceSlot j) was last old new cause = cause.1
spent_of RebuildNext was last old new cause = cause.1
spent_of (SetFrozen frozen) was last old new cause = cause.1
spent_of (SetLabel label) was last old new cause = cause.1
spent_of LookAtSeats was last old new cause = absurd cause

allowance_small : (step : Step) → allowance step ≤ 3
allowance_small Recover = omega arith
allowance_small (ReplaceSlot j) = omega arith
allowance_small (SetFrozen frozen) = omega arith
allowance_small (SetLabel label) = omega arith
allowance_small _ = omega arith

pub spent_at_the_end : SpentAtTheEnd
spent_at_the_end step events x y performs slots =
    let spent = spent_of step performs.was performs.is.member x.told y.told performs.caused in
    let small = weights_small performs.was.member slots in
    omega (arith, performs.draws_few.few, spent.spent, small, allowance_small step)
