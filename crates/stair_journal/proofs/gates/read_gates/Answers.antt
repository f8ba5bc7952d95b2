-- Each turn reads the next gate.
use Rattle.std.proofs.Common.{◌≡◌, ◌∙◌, refl, sym, arith}
use Rattle.stair_model.specs.Slots.{has_slot}
use Rattle.stair_model.proofs.SetLaws.{same_test}
use Rattle.stair_rack.specs.Told.{told}
use Rattle.stair_journal.proofs.GatesLemmas.{gates_all, gates_more, gates_none, gates_skipped}
use Rattle.stair_journal.proofs.gates.read_gates.Goals as goal
use Rattle.stair_journal.proofs.gates.read_gates.Goals.{then-has, else-has}

pub loop-slot-init : goal.loop-slot-init
loop-slot-init g c =
    gates_none c.args.geometry.now c.args.live _ _ _ refl c.empty.ensures.none c.empty-2.ensures.none c.empty.ensures.well_formed
    c.empty-2.ensures.well_formed

pub loop-slot-preserved : goal.loop-slot-preserved
loop-slot-preserved g c =
    let old = told g.R.Rack c.args.rack.now in
    let now = told g.R.Rack c.loop-slot.rack in
    elim c.if-has.branch [
      | then-has w ↦
          let new =
          told g.R.Rack w.look_at-seen.new.rack in
          rw (w.gates-is, w.rack-is)
          (gates_more c.args.geometry.now c.n.ensures.limits c.args.live c.loop-slot.slot c.loop-slot.gates w.note.new.gates old now new
          (g.R.Rack.reads c.args.rack.now) (g.R.Rack.reads c.loop-slot.rack) (g.R.Rack.reads w.look_at-seen.new.rack) c.loop-slot.invariant
          c.has.ensures.well_formed (c.has.ensures.member.0 w.if-has.true) w.look_at-seen.result w.look_at-seen.ensures.does
          w.look_at-seen.ensures.counts refl w.look_at-seen.ensures.once w.look_at-seen.ensures.reads w.note.ensures)
      | else-has w ↦
          rw (w.gates-is, w.rack-is)
          (gates_skipped c.args.geometry.now c.args.live c.loop-slot.slot c.loop-slot.gates old now (g.R.Rack.reads c.args.rack.now)
          (g.R.Rack.reads c.loop-slot.rack) c.loop-slot.invariant c.has.ensures.well_formed
          (sym (same_test c.has.result (has_slot c.args.live c.loop-slot.slot) c.has.ensures.member) ∙ w.if-has.false))
    ]

pub returns-clause-does : goal.returns-clause-does
returns-clause-does g c =
    let all : c.loop-slot.slot ≡ 32 = omega arith in
    gates_all c.args.geometry.now c.args.live c.loop-slot.gates
    (told g.R.Rack c.args.rack.now)
    (told g.R.Rack c.loop-slot.rack) (g.R.Rack.reads c.args.rack.now) (g.R.Rack.reads c.loop-slot.rack)
    (rw all at c.loop-slot.invariant)

pub returns-clause-in_turn : goal.returns-clause-in_turn
returns-clause-in_turn g c honest =
    let all : c.loop-slot.slot ≡ 32 = omega arith in
    let read = rw all at c.loop-slot.invariant in
    read.in_turn honest
