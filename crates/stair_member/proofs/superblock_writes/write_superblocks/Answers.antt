-- The next slot is handed its superblock, or isn't one of these.
use Rattle.std.proofs.Common.{◌<◌, ◌∙◌, refl, sym, ap, subst, arith}
use Rattle.std.proofs.lemmas.Bool.{false≢true}
use Rattle.stair_rack.proofs.PassCounts.{Done-compared, Gone-compared, NoneFalls-same, NoneFalls-then}
use Rattle.stair_super.specs.Superblock.{mark_in}
use Rattle.stair_member.specs.Membership.{Membership}
use Rattle.stair_member.proofs.SpreadLemmas.{places_all, places_gone, spread_all, spread_gone, spread_more, spread_skipped, spread_start}
use Rattle.stair_member.proofs.superblock_writes.write_superblocks.Goals as goal
use Rattle.stair_member.proofs.superblock_writes.write_superblocks.Goals.{else-has-via-then-has+else-eq, else-has-via-else-has}

pub loop-slot-init : goal.loop-slot-init
loop-slot-init g c = record {
  far =
      spread_start c.args.member.now c.args.to c.args.twice g.R.Rack.is_honest (g.R.Rack.history c.args.rack.now) c.epoch-epoch.ensures.rules;
  counts = NoneFalls-same (g.R.Rack.bads c.args.rack.now) (g.R.Rack.gones c.args.rack.now);
  reads = refl;
}

pub loop-slot-preserved : goal.loop-slot-preserved
loop-slot-preserved g c =
    elim c.else-has.branch [
      | else-has-via-then-has+else-eq w ↦
          let done = Done-compared w.write_superblock.result (sym w.eq.ensures ∙ w.if-eq.false) in
          rw (w.rack-is, w.member-is)
          (record {
            far =
                spread_more c.args.member.now c.loop-slot.member w.write_superblock.new.member c.args.to c.args.twice c.loop-slot.slot g.R.Rack.is_honest
                (g.R.Rack.history c.args.rack.now) (g.R.Rack.history c.loop-slot.rack) (g.R.Rack.history w.write_superblock.new.rack) c.loop-slot.invariant.far
                (c.has.ensures.member.0 w.if-has.true) w.write_superblock.ensures.rules (rw (w.is_this.ensures, done) at w.write_superblock.ensures.places)
                (λ honest. rw (w.is_this.ensures, done) at (w.write_superblock.ensures.does honest));
            counts = NoneFalls-then c.loop-slot.invariant.counts w.write_superblock.ensures.counts;
            reads = w.write_superblock.ensures.reads ∙ c.loop-slot.invariant.reads;
          })
      | else-has-via-else-has w ↦
          rw (w.rack-is, w.member-is)
          (record {
            far =
                spread_skipped c.args.member.now c.loop-slot.member c.args.to c.args.twice c.loop-slot.slot g.R.Rack.is_honest
                (g.R.Rack.history c.args.rack.now) (g.R.Rack.history c.loop-slot.rack) c.loop-slot.invariant.far
                (λ has. false≢true (sym w.if-has.false ∙ c.has.ensures.member.1 has));
            counts = c.loop-slot.invariant.counts;
            reads = c.loop-slot.invariant.reads;
          })
    ]

pub write_superblock-requires-clause-below : goal.write_superblock-requires-clause-below
write_superblock-requires-clause-below g c =
    subst (λ (m : Membership). c.loop-slot.slot < m.array.geometry.n) (sym c.loop-slot.invariant.far.rest)
    (c.requires c.loop-slot.slot (c.has.ensures.member.0 c.if-has.true)).0

pub write_superblock-requires-clause-up : goal.write_superblock-requires-clause-up
write_superblock-requires-clause-up g c down =
    (c.requires c.loop-slot.slot (c.has.ensures.member.0 c.if-has.true)).1
    (ap (λ (m : Membership). mark_in m.array c.loop-slot.slot) (sym c.loop-slot.invariant.far.rest) ∙ down)

pub returns-then-eq-clause-does : goal.returns-then-eq-clause-does
returns-then-eq-clause-does g c =
    let gone = Gone-compared c.write_superblock.result (sym c.eq.ensures ∙ c.if-eq.true) in
    spread_gone c.args.member.now c.loop-slot.member c.write_superblock.new.member c.args.to c.args.twice c.loop-slot.slot g.R.Rack.is_honest
    (g.R.Rack.history c.args.rack.now) (g.R.Rack.history c.loop-slot.rack) (g.R.Rack.history c.write_superblock.new.rack) c.loop-slot.invariant.far
    (c.has.ensures.member.0 c.if-has.true) (rw (c.is_this.ensures, gone) at c.write_superblock.ensures.places)
    (λ honest. rw (c.is_this.ensures, gone) at (c.write_superblock.ensures.does honest))

pub returns-then-eq-clause-places : goal.returns-then-eq-clause-places
returns-then-eq-clause-places g c =
    let gone = Gone-compared c.write_superblock.result (sym c.eq.ensures ∙ c.if-eq.true) in
    places_gone c.args.member.now c.loop-slot.member c.write_superblock.new.member c.args.to c.args.twice c.loop-slot.slot g.R.Rack.is_honest
    (g.R.Rack.history c.args.rack.now) (g.R.Rack.history c.loop-slot.rack) c.loop-slot.invariant.far (c.has.ensures.member.0 c.if-has.true)
    (rw (c.is_this.ensures, gone) at c.write_superblock.ensures.places)

pub returns-clause-does : goal.returns-clause-does
returns-clause-does g c =
    spread_all c.args.member.now c.loop-slot.member c.args.to c.args.twice c.loop-slot.slot g.R.Rack.is_honest (g.R.Rack.history c.args.rack.now)
    (g.R.Rack.history c.loop-slot.rack) (omega arith) c.loop-slot.invariant.far

pub returns-clause-places : goal.returns-clause-places
returns-clause-places g c =
    places_all c.args.member.now c.loop-slot.member c.args.to c.args.twice c.loop-slot.slot g.R.Rack.is_honest (g.R.Rack.history c.args.rack.now)
    (g.R.Rack.history c.loop-slot.rack) (omega arith) c.loop-slot.invariant.far
