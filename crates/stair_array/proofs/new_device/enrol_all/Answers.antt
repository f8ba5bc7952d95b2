-- Each turn gives the next slot's device its superblock.
use Rattle.std.proofs.Common.{◌≡◌, ap, length, refl, subst, sym, ◌∙◌, arith}
use Rattle.stair_model.specs.Geometry.{Geometry}
use Rattle.stair_rack.specs.declared.rack.Reply.TheVariants as reply
use Rattle.stair_rack.specs.Answers.{Ran}
use Rattle.stair_rack.specs.Placed.{IsSlot}
use Rattle.stair_rack.proofs.PassCounts.{Done-compared, Gone-compared, NoneFalls-then}
use Rattle.stair_super.specs.declared.configuration.Configuration.{Configuration}
use Rattle.stair_rack.specs.Told.{told}
use Rattle.stair_array.specs.Making.{AreMade, IsMaking, IsPlace, IsStoppedAt, PlacesInTurn}
use Rattle.stair_array.proofs.EnrolLemmas.{enrolled_in_turn, enrolled_more, enrolled_none, enrolled_ran, enrolled_stopped}
use Rattle.stair_array.proofs.new_device.enrol_all.Goals as goal

pub loop-slot-init : goal.loop-slot-init
loop-slot-init g c = record { made = enrolled_none _ _; id = λ begun. absurd (omega arith) }

pub loop-slot-preserved : goal.loop-slot-preserved
loop-slot-preserved g c =
    let same : c.first_configuration-array.result.geometry ≡ c.args.geometry.now =
    ap (λ (array : Configuration). array.geometry) c.first_configuration-array.ensures.value in
    let done : c.enrol.result ≡ reply.Done = Done-compared c.enrol.result (sym c.eq.ensures ∙ c.if-eq.false) in
    record {
      made =
          enrolled_more c.args.geometry.now c.loop-slot.slot (told g.R.Rack c.args.rack.now)
          (told g.R.Rack c.loop-slot.rack)
          (told g.R.Rack c.enrol.new.rack) c.loop-slot.invariant.made refl
          (rw c.n-slot-end.ensures.value at c.loop-slot-test.true)
          (λ honest.
          subst (λ (x : Geometry). Ran (IsMaking x (IsSlot c.loop-slot.slot) IsPlace) (g.R.Rack.history c.loop-slot.rack) (g.R.Rack.history c.enrol.new.rack)) same
          (c.enrol.ensures.ran honest))
          (λ honest.
          subst (λ (x : Geometry). PlacesInTurn x (g.R.Rack.history c.loop-slot.rack) (g.R.Rack.history c.enrol.new.rack)) same (c.enrol.ensures.in_turn honest))
          c.enrol.ensures.counts
          (λ honest.
          subst (λ (x : Geometry). AreMade x IsPlace c.loop-slot.slot (g.R.Rack.history c.loop-slot.rack) (g.R.Rack.history c.enrol.new.rack)) same
          (c.enrol.ensures.made honest done));
      id = λ begun. subst (λ (x : Geometry). length x.id ≡ 16) same c.enrol.ensures.id;
    }

pub returns-then-eq-clause-gone : goal.returns-then-eq-clause-gone
returns-then-eq-clause-gone g c =
    let same : c.first_configuration-array.result.geometry ≡ c.args.geometry.now =
    ap (λ (array : Configuration). array.geometry) c.first_configuration-array.ensures.value in
    let gone : c.enrol.result ≡ reply.Gone = Gone-compared c.enrol.result (sym c.eq.ensures ∙ c.if-eq.true) in
    enrolled_stopped c.args.geometry.now c.loop-slot.slot (told g.R.Rack c.args.rack.now)
    (told g.R.Rack c.loop-slot.rack)
    (told g.R.Rack c.enrol.new.rack) c.loop-slot.invariant.made refl
    (rw c.n-slot-end.ensures.value at c.loop-slot-test.true)
    (λ honest.
    subst (λ (x : Geometry). Ran (IsMaking x (IsSlot c.loop-slot.slot) IsPlace) (g.R.Rack.history c.loop-slot.rack) (g.R.Rack.history c.enrol.new.rack)) same
    (c.enrol.ensures.ran honest))
    (λ honest.
    subst (λ (x : Geometry). PlacesInTurn x (g.R.Rack.history c.loop-slot.rack) (g.R.Rack.history c.enrol.new.rack)) same (c.enrol.ensures.in_turn honest))
    c.enrol.ensures.counts
    (subst (λ (x : Geometry). IsStoppedAt x c.loop-slot.slot (told g.R.Rack c.loop-slot.rack)
    (told g.R.Rack c.enrol.new.rack)) same (c.enrol.ensures.gone gone))

pub returns-then-eq-clause-ran : goal.returns-then-eq-clause-ran
returns-then-eq-clause-ran g c honest =
    let same : c.first_configuration-array.result.geometry ≡ c.args.geometry.now =
    ap (λ (array : Configuration). array.geometry) c.first_configuration-array.ensures.value in
    enrolled_ran c.args.geometry.now c.loop-slot.slot (told g.R.Rack c.args.rack.now)
    (told g.R.Rack c.loop-slot.rack)
    (told g.R.Rack c.enrol.new.rack) c.loop-slot.invariant.made refl
    (rw c.n-slot-end.ensures.value at c.loop-slot-test.true)
    (λ honest.
    subst (λ (x : Geometry). Ran (IsMaking x (IsSlot c.loop-slot.slot) IsPlace) (g.R.Rack.history c.loop-slot.rack) (g.R.Rack.history c.enrol.new.rack)) same
    (c.enrol.ensures.ran honest))
    (λ honest.
    subst (λ (x : Geometry). PlacesInTurn x (g.R.Rack.history c.loop-slot.rack) (g.R.Rack.history c.enrol.new.rack)) same (c.enrol.ensures.in_turn honest))
    c.enrol.ensures.counts
    honest

pub returns-then-eq-clause-in_turn : goal.returns-then-eq-clause-in_turn
returns-then-eq-clause-in_turn g c honest =
    let same : c.first_configuration-array.result.geometry ≡ c.args.geometry.now =
    ap (λ (array : Configuration). array.geometry) c.first_configuration-array.ensures.value in
    enrolled_in_turn c.args.geometry.now c.loop-slot.slot (told g.R.Rack c.args.rack.now)
    (told g.R.Rack c.loop-slot.rack)
    (told g.R.Rack c.enrol.new.rack) c.loop-slot.invariant.made refl
    (rw c.n-slot-end.ensures.value at c.loop-slot-test.true)
    (λ honest.
    subst (λ (x : Geometry). Ran (IsMaking x (IsSlot c.loop-slot.slot) IsPlace) (g.R.Rack.history c.loop-slot.rack) (g.R.Rack.history c.enrol.new.rack)) same
    (c.enrol.ensures.ran honest))
    (λ honest.
    subst (λ (x : Geometry). PlacesInTurn x (g.R.Rack.history c.loop-slot.rack) (g.R.Rack.history c.enrol.new.rack)) same (c.enrol.ensures.in_turn honest))
    c.enrol.ensures.counts
    honest

pub returns-then-eq-clause-counts : goal.returns-then-eq-clause-counts
returns-then-eq-clause-counts g c = NoneFalls-then c.loop-slot.invariant.made.counts c.enrol.ensures.counts

pub returns-then-eq-clause-id : goal.returns-then-eq-clause-id
returns-then-eq-clause-id g c =
    let same : c.first_configuration-array.result.geometry ≡ c.args.geometry.now =
    ap (λ (array : Configuration). array.geometry) c.first_configuration-array.ensures.value in
    subst (λ (x : Geometry). length x.id ≡ 16) same c.enrol.ensures.id

pub returns-clause-made : goal.returns-clause-made
returns-clause-made g c honest j below =
    let all : c.loop-slot.slot ≡ c.args.geometry.now.n = omega (arith, c.n-slot-end.ensures.value) in
    c.loop-slot.invariant.made.each honest j (omega (arith, all, below))

pub returns-clause-ran : goal.returns-clause-ran
returns-clause-ran g c = c.loop-slot.invariant.made.ran

pub returns-clause-in_turn : goal.returns-clause-in_turn
returns-clause-in_turn g c = c.loop-slot.invariant.made.in_turn

pub returns-clause-counts : goal.returns-clause-counts
returns-clause-counts g c = c.loop-slot.invariant.made.counts

pub returns-clause-id : goal.returns-clause-id
returns-clause-id g c = c.loop-slot.invariant.id (omega (arith, c.n-slot-end.ensures.value, c.n-slot-end.ensures.limits.devices))
