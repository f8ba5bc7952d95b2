-- Each turn gathers the wanted cells of the next slot.
use Rattle.std.proofs.Common.{◌≡◌, ℕ, sym, ◌∙◌, subst, arith}
use Rattle.std.proofs.lemmas.Bool.{false≢true}
use Rattle.stair_model.specs.CellSet.{count_in_slot}
use Rattle.stair_model.proofs.CountLaws.{sum_below_none}
use Rattle.stair_rack.specs.RackCounts.{RisesAtMost}
use Rattle.stair_rack.specs.Told.{told}
use Rattle.stair_rack.proofs.PassCounts.{rises_none}
use Rattle.stair_stripes.proofs.ReadCounts.{slot_more, slot_no_more, slots_all}
use Rattle.stair_stripes.proofs.SoFarLemmas.{before_all, before_dead, before_none, in_turn_all}
use Rattle.stair_stripes.proofs.gathering.gather_cells.Goals as goal
use Rattle.stair_stripes.proofs.gathering.gather_cells.Goals.{then-has, else-has}

pub loop-slot-init : goal.loop-slot-init
loop-slot-init g c = record {
  before =
      before_none c.args.geometry.now c.args.live c.args.stripe c.args.wanted.now _ c.args.into.now _ c.requires.stripe c.empty.ensures.none
      c.empty.ensures.well_formed c.empty-2.ensures.none c.empty-2.ensures.well_formed;
  reads =
      subst (λ (most : ℕ). RisesAtMost most (g.R.Rack.reads c.args.rack.now) (g.R.Rack.reads c.args.rack.now))
      (sym (sum_below_none (count_in_slot c.args.wanted.now))) (rises_none (g.R.Rack.reads c.args.rack.now));
}

pub loop-slot-preserved : goal.loop-slot-preserved
loop-slot-preserved g c =
    let so_far = c.loop-slot.invariant in
    let count = g.R.Rack.reads c.args.rack.now in
    let count' = g.R.Rack.reads c.loop-slot.rack in
    elim c.if-has.branch [
      | then-has w ↦
          rw (w.rack-is, w.into-is, w.gathered-is)
          (record {
            before = w.gather_chunk.ensures.gathered.on c.args.live c.args.into.now _ (c.has.ensures.member.0 w.if-has.true) so_far.before;
            reads =
                slot_more c.args.wanted.now c.loop-slot.slot count count' so_far.reads (g.R.Rack.reads w.gather_chunk.new.rack)
                w.gather_chunk.ensures.reads;
          })
      | else-has w ↦
          rw (w.rack-is, w.into-is, w.gathered-is)
          (record {
            before =
                before_dead c.args.geometry.now c.args.live c.args.stripe c.args.wanted.now c.loop-slot.gathered c.args.into.now c.loop-slot.into _ _
                c.loop-slot.slot w.erase_chunk.new.erased so_far.before (λ is_live. false≢true (sym w.if-has.false ∙ c.has.ensures.member.1 is_live))
                w.erase_chunk.ensures;
            reads = slot_no_more c.args.wanted.now c.loop-slot.slot count count' so_far.reads;
          })
    ]

pub returns-clause-does : goal.returns-clause-does
returns-clause-does g c =
    let all : c.loop-slot.slot ≡ c.args.geometry.now.n = omega arith in
    before_all c.args.geometry.now c.args.live c.args.stripe c.args.wanted.now c.loop-slot.gathered c.args.into.now c.loop-slot.into
    (told g.R.Rack c.args.rack.now)
    (told g.R.Rack c.loop-slot.rack)
    c.requires.wanted (rw all at c.loop-slot.invariant.before)

pub returns-clause-in_turn : goal.returns-clause-in_turn
returns-clause-in_turn g c =
    let all : c.loop-slot.slot ≡ c.args.geometry.now.n = omega arith in
    in_turn_all c.args.geometry.now c.args.live c.args.stripe c.args.wanted.now c.loop-slot.gathered c.args.into.now c.loop-slot.into
    (told g.R.Rack c.args.rack.now)
    (told g.R.Rack c.loop-slot.rack)
    (rw all at c.loop-slot.invariant.before)

pub returns-clause-reads : goal.returns-clause-reads
returns-clause-reads g c =
    slots_all c.args.wanted.now c.loop-slot.slot (g.R.Rack.reads c.args.rack.now) (g.R.Rack.reads c.loop-slot.rack) c.loop-slot.invariant.reads
    (omega (arith, c.n-slot-end.ensures.limits.devices.1))
