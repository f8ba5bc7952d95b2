-- Each turn looks at the next slot.
use Rattle.std.proofs.Common.{◌≡◌, ℕ, refl, subst, arith}
use Rattle.stair_member.specs.Asked.{AsksBelow}
use Rattle.stair_rack.specs.RackState.{IsLater}
use Rattle.stair_rack.specs.Told.{told}
use Rattle.stair_member.proofs.SightLemmas.{added_lost, added_none, asks_ran, sights_all, sights_more}
use Rattle.stair_member.proofs.surveying.find_all.Goals as goal
use Rattle.stair_member.proofs.surveying.find_all.Goals.{then-sight, else-sight}

pub loop-slot-preserved : goal.loop-slot-preserved
loop-slot-preserved g c =
    let old = told g.R.Rack c.args.rack.now in
    let now = told g.R.Rack c.loop-slot.rack in
    let new =
    told g.R.Rack c.look_at-sight.new.rack in
    let later : IsLater now new =
    record { counts = c.look_at-sight.ensures.counts; honest = refl; ran = λ honest. asks_ran (c.look_at-sight.ensures.asked honest) } in
    let sight = c.look_at-sight.result in
    elim c.if-sight.branch [
      | then-sight w ↦
          rw (w.sights-is, c.from.ensures, c.from-in-loop-slot.ensures)
          (sights_more c.loop-slot.slot c.loop-slot.sights.newest c.loop-slot.sights.next c.loop-slot.sights.gone w.add.new.self old now new
          (g.R.Rack.reads c.args.rack.now) (g.R.Rack.reads c.loop-slot.rack) (g.R.Rack.reads c.look_at-sight.new.rack)
          c.loop-slot.invariant sight.newest sight.next sight.gone c.look_at-sight.ensures.does later c.look_at-sight.ensures.began
          c.look_at-sight.ensures.asked c.look_at-sight.ensures.reads w.add.ensures.well_formed
          (added_lost c.loop-slot.slot c.loop-slot.sights.gone w.add.new.self sight.gone w.if-sight.true w.add.ensures.members) c.loop-slot-test.true)
      | else-sight w ↦
          rw (w.sights-is, c.from.ensures, c.from-in-loop-slot.ensures)
          (sights_more c.loop-slot.slot c.loop-slot.sights.newest c.loop-slot.sights.next c.loop-slot.sights.gone c.loop-slot.sights.gone old now new
          (g.R.Rack.reads c.args.rack.now) (g.R.Rack.reads c.loop-slot.rack) (g.R.Rack.reads c.look_at-sight.new.rack)
          c.loop-slot.invariant sight.newest sight.next sight.gone c.look_at-sight.ensures.does later c.look_at-sight.ensures.began
          c.look_at-sight.ensures.asked c.look_at-sight.ensures.reads c.loop-slot.invariant.formed
          (added_none c.loop-slot.slot c.loop-slot.sights.gone sight.gone w.if-sight.false) c.loop-slot-test.true)
    ]

pub returns-clause-asked : goal.returns-clause-asked
returns-clause-asked g c honest =
    let all : c.loop-slot.slot ≡ 32 = omega arith in
    subst (λ (i : ℕ). AsksBelow i (g.R.Rack.history c.args.rack.now) (g.R.Rack.history c.loop-slot.rack)) all (c.loop-slot.invariant.asked honest)

pub returns-clause-does : goal.returns-clause-does
returns-clause-does g c =
    let all : c.loop-slot.slot ≡ 32 = omega arith in
    sights_all c.loop-slot.sights
    (told g.R.Rack c.args.rack.now)
    (told g.R.Rack c.loop-slot.rack)
    (g.R.Rack.reads c.args.rack.now) (g.R.Rack.reads c.loop-slot.rack) (rw all at c.loop-slot.invariant)
