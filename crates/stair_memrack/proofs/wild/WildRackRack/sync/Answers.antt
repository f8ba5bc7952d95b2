-- Its counts are those of its answers.
use Rattle.std.proofs.Common.{ap, arith}
use Rattle.std.specs.Prelude.{slice_index}
use Rattle.stair_rack.specs.Count.{Rose}
use Rattle.stair_rack.specs.RackCounts.{NoneFalls}
use Rattle.stair_memrack.specs.declared.record.Call.TheVariants as call
use Rattle.stair_memrack.specs.Record.{is_gone}
use Rattle.stair_memrack.proofs.WildLemmas.{wild_none_falls, wild_gone, IsSoundWild-counted, wild_view}
use Rattle.stair_memrack.proofs.wild.WildRackRack.sync.Goals as goal

pub invariant_of-self : goal.invariant_of-self
invariant_of-self c =
    IsSoundWild-counted (call.Sync c.sync_by-reply.result) c.args.slot c.self.inside _ c.self.invariant c.count.ensures.bads c.count.ensures.gones
    (omega (arith, c.take-turn.ensures.within))

pub returns-clause-counts : goal.returns-clause-counts
returns-clause-counts c =
    let r = c.self.inside in
    wild_view (λ bads gones. NoneFalls bads c.count.new.bads (slice_index gones) (slice_index c.count.new.gones.items)) r c.args.self.now c.self.view_is
    (wild_none_falls (call.Sync c.sync_by-reply.result) c.args.slot r.bads c.count.new.bads r.gones.items c.count.new.gones.items c.count.ensures.bads c.count.ensures.gones
    c.self.invariant.bads_fit c.self.invariant.gones_fit)

pub returns-clause-gone : goal.returns-clause-gone
returns-clause-gone c =
    let r = c.self.inside in
    λ gone.
    wild_view (λ bads gones. Rose (slice_index gones c.args.slot) (slice_index c.count.new.gones.items c.args.slot)) r c.args.self.now c.self.view_is
    (wild_gone (call.Sync c.sync_by-reply.result) c.args.slot r.bads c.count.new.bads r.gones.items c.count.new.gones.items c.count.ensures.bads c.count.ensures.gones
    (omega (arith, c.requires, c.self.invariant.count, r.gones.ok.0)) c.self.invariant.gones_fit (ap is_gone gone))
