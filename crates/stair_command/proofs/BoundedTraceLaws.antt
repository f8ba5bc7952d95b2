-- How great the draws in an image become over a trace.
use Rattle.std.proofs.Common.{◌≡◌, ◌-◌, ◌∙◌, ◌*◌, ◌+◌, ◌≤◌, ◌≢◌, ℕ, List, [], ◌∷◌, inl, inr, refl, sym, ap, subst, arith}
use Rattle.std.proofs.Math.Nat.{le-max_left, le-max_right, max-le}
use Rattle.std.proofs.lemmas.List.Elements.{All-weaker}
use Rattle.std.specs.Prelude.{Bool, IsTrue, max}
use Rattle.stair_model.specs.Geometry.{Geometry}
use Rattle.stair_model.proofs.CountLaws.{sum_below_constant, sum_below_le}
use Rattle.stair_rack.specs.Answers.{Ran, any_call}
use Rattle.stair_rack.specs.History.{Happening}
use Rattle.stair_rack.specs.Media.{Medium}
use Rattle.stair_rack.specs.RackState.{RackState}
use Rattle.stair_rack.specs.declared.watcher.Event.{Event}
use Rattle.stair_rack.proofs.MomentLemmas.{at_every_join, at_every_mapped, at_every_none, at_last, ran_before}
use Rattle.stair_rack.proofs.StretchLemmas.{ran_sparing}
use Rattle.stair_member.specs.Membership.{Membership, why_of}
use Rattle.stair_member.specs.declared.why.Why.{Why}
use Rattle.stair_member.specs.declared.why.Why.TheVariants as why
use Rattle.stair_invariant.specs.Session.{ArrayState}
use Rattle.stair_invariant.specs.Effects.{snapshot}
use Rattle.stair_array.specs.Draws.{Before, HadSeen, OnMedium, allowance, weight, weights}
use Rattle.stair_array.specs.Machine.{Answer, LookAtSeats, ReadBlock, RebuildNext, Recover, ReplaceSlot, ScrubStripe, SetFrozen, SetLabel, Step, WriteBlocks}
use Rattle.stair_array.specs.Promise.{Begun, Closed, DoesStep, Ends, Found, GoesOn, Opened, Performs, Seen, Phase, StartsFrom}
use Rattle.stair_command.specs.Action.{Create, Survey}
use Rattle.stair_command.specs.Bounded.{IsBoundedAt, PlacesDrawAtMost, StaysBounded, StaysWithin, TracesAreBounded, TracesAreWithin}
use Rattle.stair_command.specs.Devices.{DeviceView, Devices, WorksAll, seen_of}
use Rattle.stair_command.specs.Drawn.{at_step, opens, over_steps, replaces, stamps}
use Rattle.stair_command.specs.Kept.{HasMember}
use Rattle.stair_command.specs.Trace.{TraceItem, Did, AlongTrace, Stepped}
use Rattle.stair_command.proofs.BoundedLaws.{slot_stays}
use Rattle.stair_command.proofs.BoundedStepLaws.{stays_in_step}
use Rattle.stair_command.proofs.DrawnLaws.{weights_grow}
use Rattle.stair_command.proofs.KeptLaws.{known_begun, known_once, same_session}

-- ---- greater bounds

pub weaker : (g : Geometry) (most more : ℕ) → most ≤ more → (h : List Happening) → IsBoundedAt g most h → IsBoundedAt g more h
weaker g most more within h bounded image left = record {
  in_slots = λ j k place s holds same. omega (arith, (bounded image left).in_slots j k place s holds same, within);
  outside = λ j.
      All-weaker (λ (medium : Medium). PlacesDrawAtMost g most medium.cell) (λ (medium : Medium). PlacesDrawAtMost g more medium.cell)
      (λ medium draws k place s holds same. omega (arith, draws k place s holds same, within)) (image j).removed ((bounded image left).outside j);
}

pub stays_weaker : (g : Geometry) (most more : ℕ) → most ≤ more → {old new : List Happening} → StaysBounded g most old new → StaysBounded g more old new
stays_weaker g most more within stays = at_every_mapped {P = IsBoundedAt g most} {Q = IsBoundedAt g more} (weaker g most more within) stays

-- ---- sessions

-- a step starts from what its session knows of its slots
pub starts_from : (step : Step) (was : ArrayState) (session : Phase) → StartsFrom step was session → HasMember session was.member
starts_from Recover was (Found m) starts = ap (λ a. a.member) starts
starts_from (ReadBlock b) was (Opened a) starts = ap (λ a. a.member) starts.0
starts_from (WriteBlocks b contents) was (Opened a) starts = ap (λ a. a.member) starts.0
starts_from (ScrubStripe t) was (Opened a) starts = ap (λ a. a.member) starts.0
starts_from (ReplaceSlot j) was (Opened a) starts = ap (λ a. a.member) starts.0
starts_from RebuildNext was (Opened a) starts = ap (λ a. a.member) starts.0
starts_from (SetFrozen frozen) was (Opened a) starts = ap (λ a. a.member) starts.0
starts_from (SetLabel label) was (Opened a) starts = ap (λ a. a.member) starts.0
starts_from LookAtSeats was (Opened a) starts = ap (λ a. a.member) starts.0
starts_from _ was _ starts = absurd starts

-- what is known after a step is its own
ends_in : {step : Step} {answer : Answer step} {events : List Event} {x y : Seen} (does : Performs step answer events x y)
    → ((n : Membership) → HasMember y.session n → n ≡ does.is.member) × (y.session ≢ Begun)
ends_in {y = y} does =
    elim does.ends [
      | Ends is err closed ↦ (
        (λ n has. absurd (subst (λ (s : Phase). HasMember s n) closed has)),
        (λ begun. let same : Closed ≡ Begun = sym closed ∙ begun in cc),
      )
      | GoesOn ok kept opened ↦ (
        (λ n has. subst (λ (s : Phase). HasMember s n) opened has),
        (λ begun. let same : Opened does.is ≡ Begun = sym opened ∙ begun in cc),
      )
    ]

-- ---- the draw that a step had seen

-- none that a medium bore which was to be admitted is above what was borne before
seen_within : (step : Step) (m : Membership) (old new : RackState) (draw now : ℕ) → IsTrue new.honest
    → Ran any_call old.history new.history → m.drawn ≤ now → IsBoundedAt m.array.geometry now old.history → HadSeen step m old new draw → draw ≤ now
seen_within step m old new draw now honest ran known bounded (Before is) = omega (arith, is, known)
seen_within step m old new draw now honest ran known bounded (OnMedium j k super is place bore geometry is_draw above) =
    let at = bore honest in
    let spared = ran_sparing {allowed = any_call} {slots = λ i. i ≡ j} (ran_before ran at.1) at.2 in
    let few : super.draw ≤ now = slot_stays m.array.geometry now j spared bounded k place super at.3 geometry in
    omega (arith, few, is_draw)

module _ {R W : Type 0} (view : DeviceView R W) (honest : IsTrue view.rack.honest) (g : Geometry) (bound : ℕ) where
  history_of : Devices R W → List Happening
  history_of x = view.rack.history x.rack

  -- What is known in a session, where no draw above `now` is borne: there is room for what the steps to come are allowed.
  pub record HasRoom (now : ℕ) (trace : List TraceItem) (n : Membership) : Type 0 where
    pub geometry : n.array.geometry ≡ g
    pub known : n.drawn ≤ now
    pub room : now + weights n + over_steps allowance trace ≤ bound

  -- What an item did: nothing, or a step.
  data Came (item : TraceItem) (x y : Devices R W) : Type 0 where
    Rested : y.session ≡ x.session → view.rack.history y.rack ≡ view.rack.history x.rack → Came item x y
    Took : (step : Step) (answer : Answer step) (events : List Event) (does : Performs step answer events (seen_of view x) (seen_of view y))
        → at_step allowance item ≡ allowance step → Came item x y

  stepped : (step : Step) (answer : Answer step) (events : List Event) (left : Bool) (x y : Devices R W)
      → DoesStep step answer events (seen_of view x) (seen_of view y) → Came (Stepped step answer events left) x y
  stepped step answer events left x y (inl performs) = Took step answer events performs refl
  stepped step answer events left x y (inr stopped) =
      Rested (ap (λ (z : Seen). z.session) stopped.same) (ap (λ (z : Seen). z.told.history) stopped.same)

  came : (item : TraceItem) (x y : Devices R W) → WorksAll view item x y → x.session ≢ Begun → Came item x y
  came (Stepped step answer events left) x y works begun = stepped step answer events left x y works.0
  came (Did (Create array) outcome) x y works begun = absurd (begun works.1)
  came (Did Survey outcome) x y works begun = absurd (begun works.1)
  came item x y works begun = Rested (same_session view works) (ap (λ (d : Devices R W). view.rack.history d.rack) works)

  -- Where a trace stands: no draw above `now` is borne or known, and there is room for what its steps are allowed.
  pub record IsAhead (now : ℕ) (trace : List TraceItem) (x : Devices R W) : Type 0 where
    pub few : now ≤ bound
    pub begun : x.session ≢ Begun
    pub bounded : IsBoundedAt g now (view.rack.history x.rack)
    pub has : (n : Membership) → HasMember x.session n → HasRoom now trace n

  -- so it is after an item
  pub record GoesAhead (trace : List TraceItem) (x y : Devices R W) : Type 0 where
    pub then : ℕ
    pub ahead : IsAhead then trace y
    pub stays : StaysBounded g bound (view.rack.history x.rack) (view.rack.history y.rack)

  rested : (item : TraceItem) (trace : List TraceItem) (x y : Devices R W) (now : ℕ) → y.session ≡ x.session
      → view.rack.history y.rack ≡ view.rack.history x.rack → IsAhead now (item ∷ trace) x → GoesAhead trace x y
  rested item trace x y now session same ahead = record {
    then = now;
    ahead = record {
      few = ahead.few;
      begun = λ is. ahead.begun (sym session ∙ is);
      bounded = subst (IsBoundedAt g now) (sym same) ahead.bounded;
      has = λ n is.
          let room = ahead.has n (subst (λ (s : Phase). HasMember s n) session is) in
          record { geometry = room.geometry; known = room.known; room = omega (arith, room.room) };
    };
    stays = subst (λ (h : List Happening). StaysBounded g bound (view.rack.history x.rack) h) (sym same)
        (at_every_none {P = IsBoundedAt g bound} (view.rack.history x.rack)
        (weaker g now bound ahead.few (view.rack.history x.rack) ahead.bounded));
  }

  took : (item : TraceItem) (trace : List TraceItem) (x y : Devices R W) (now : ℕ) (step : Step) (answer : Answer step) (events : List Event)
      (does : Performs step answer events (seen_of view x) (seen_of view y)) → at_step allowance item ≡ allowance step
      → IsAhead now (item ∷ trace) x → GoesAhead trace x y
  took item trace x y now step answer events does allowed ahead =
      let room = ahead.has does.was.member (starts_from step does.was x.session does.starts) in
      let seen : does.draws_few.draw ≤ now =
      seen_within step does.was.member (seen_of view x).told (seen_of view y).told does.draws_few.draw now honest (does.later.ran honest)
      room.known (subst (λ (array : Geometry). IsBoundedAt array now (view.rack.history x.rack)) (sym room.geometry) ahead.bounded)
      does.draws_few.had_seen in
      let then : ℕ = max now does.is.member.drawn in
      let low : now ≤ then = le-max_left now does.is.member.drawn in
      let high : does.is.member.drawn ≤ then = le-max_right now does.is.member.drawn in
      let grow = weights_grow (seen_of view x).told (seen_of view y).told does.was.member does.is.member step does.goes_on in
      let before = room.room in
      let drew = does.draws_few.few in
      let lowest : now ≤ bound - (weights does.is.member + over_steps allowance trace) =
      omega (arith, before, grow, allowed) in
      let highest : does.is.member.drawn ≤ bound - (weights does.is.member + over_steps allowance trace) =
      omega (arith, before, drew, seen, allowed) in
      let most : then ≤ bound - (weights does.is.member + over_steps allowance trace) = max-le lowest highest in
      let enough : weights does.is.member + over_steps allowance trace ≤ bound = omega (arith, before, grow, allowed) in
      let few_then : then ≤ bound = omega (arith, most, enough) in
      let stays : StaysBounded g then (view.rack.history x.rack) (view.rack.history y.rack) =
      stays_in_step step does.was does.is.remembered answer (snapshot does.was.member (seen_of view x).told) (snapshot does.is.member (seen_of view y).told) g then
      does.does honest high (weaker g now then low (view.rack.history x.rack) ahead.bounded) in
      let ends = ends_in does in
      record {
        then = then;
        ahead = record {
          few = few_then;
          begun = ends.1;
          bounded = at_last stays;
          has = λ n is. subst (HasRoom then trace) (sym (ends.0 n is)) (record {
            geometry = does.goes_on.geometry ∙ room.geometry;
            known = high;
            room = omega (arith, most, enough);
          });
        };
        stays = stays_weaker g then bound few_then stays;
      }

  pub goes_ahead : (item : TraceItem) (trace : List TraceItem) (x y : Devices R W) (now : ℕ) → WorksAll view item x y → IsAhead now (item ∷ trace) x
      → GoesAhead trace x y
  goes_ahead item trace x y now works ahead =
      elim (came item x y works ahead.begun) [
        | Rested session same ↦ rested item trace x y now session same ahead
        | Took step answer events does allowed ↦ took item trace x y now step answer events does allowed ahead
      ]

  all_ahead : (trace : List TraceItem) (x y : Devices R W) → AlongTrace (WorksAll view) trace x y → (now : ℕ) → IsAhead now trace x → StaysWithin view g bound x y
  all_ahead [] x y works now ahead =
      subst (λ (d : Devices R W). StaysWithin view g bound x d) (sym works)
      (at_every_none {P = IsBoundedAt g bound} (view.rack.history x.rack)
      (weaker g now bound ahead.few (view.rack.history x.rack) ahead.bounded))
  all_ahead (item ∷ trace) x y works now ahead =
      let goes = goes_ahead item trace x works.0 now works.1 ahead in
      at_every_join goes.stays (all_ahead trace works.0 y works.2 goes.then goes.ahead)

  pub stays_over : (trace : List TraceItem) (x y : Devices R W) → AlongTrace (WorksAll view) trace x y → (now : ℕ)
      → now ≤ bound → x.session ≢ Begun → IsBoundedAt g now (view.rack.history x.rack)
      → ((n : Membership) → HasMember x.session n → HasRoom now trace n) → StaysWithin view g bound x y
  stays_over trace x y works now few begun bounded has =
      all_ahead trace x y works now (record { few = few; begun = begun; bounded = bounded; has = has })

pub traces_bounded : (R W : Type 0) → TracesAreBounded R W
traces_bounded R W view trace x y works first most from =
    stays_over view from.honest first.array.geometry (most + weights first + over_steps allowance trace) trace x y works most (omega arith)
    (λ begun. known_begun x.session first begun from.has) from.bounded
    (λ n has. subst (HasRoom view from.honest first.array.geometry (most + weights first + over_steps allowance trace) most trace)
    (known_once x.session first n from.has has) (record { geometry = refl; known = from.known; room = omega arith }))

-- ---- plain numbers

weighs_two : (reason : Why) → weight reason ≤ 2
weighs_two why.Here = omega arith
weighs_two why.Rebuilding = omega arith
weighs_two _ = omega arith

pub weigh_little : (m : Membership) → m.array.geometry.n ≤ 32 → weights m ≤ 64
weigh_little m few =
    let sums = sum_below_le m.array.geometry.n (λ j. weight (why_of m j)) (λ j. 2) (λ j below. weighs_two (why_of m j)) in
    omega (arith, sums, sum_below_constant m.array.geometry.n 2)

-- what the steps of a trace are allowed, by their kinds
step_allows : (step : Step) → allowance step ≡ opens step + 3 * replaces step + stamps step
step_allows Recover = refl
step_allows (ReplaceSlot j) = refl
step_allows (SetFrozen frozen) = refl
step_allows (SetLabel label) = refl
step_allows _ = refl

item_allows : (item : TraceItem) → at_step allowance item ≡ at_step opens item + 3 * at_step replaces item + at_step stamps item
item_allows (Stepped step answer events left) = step_allows step
item_allows _ = refl

pub trace_allows : (trace : List TraceItem) → over_steps allowance trace ≡ over_steps opens trace + 3 * over_steps replaces trace + over_steps stamps trace
trace_allows [] = refl
trace_allows (item ∷ trace) = omega (arith, item_allows item, trace_allows trace)

pub traces_within : (R W : Type 0) → TracesAreWithin R W
traces_within R W view trace x y works first most from slots =
    let stays = traces_bounded R W view trace x y works first most from in
    let small = weigh_little first slots in
    let split = trace_allows trace in
    record {
      allowed =
          stays_weaker first.array.geometry (most + weights first + over_steps allowance trace) (most + 64 + over_steps allowance trace)
          (omega (arith, small)) stays;
      counted = λ q opened replaced stamped.
          stays_weaker first.array.geometry (most + weights first + over_steps allowance trace) (most + 100 + 5 * q)
          (omega (arith, small, split, opened, replaced, stamped)) stays;
    }
