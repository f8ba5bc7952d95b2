-- Gone at the attach, or both places were read.
use Rattle.std.proofs.Common.{◌≡◌, sym, ◌∙◌}
use Rattle.stair_rack.specs.History.{Attach}
use Rattle.stair_rack.specs.Told.{told}
use Rattle.stair_rack.specs.declared.rack.Reply.TheVariants as reply
use Rattle.stair_rack.proofs.PassCounts.{Done-compared, Gone-compared}
use Rattle.stair_rack.proofs.RackStateLemmas.{later_called}
use Rattle.stair_member.specs.Asked.{AsksSlot}
use Rattle.stair_member.proofs.ProbeLemmas.{asks_slot, sight_gone, sight_read}
use Rattle.stair_member.proofs.look.look_at.Goals as goal

pub returns-then-eq-clause-asked : goal.returns-then-eq-clause-asked
returns-then-eq-clause-asked g c honest =
    let gone : c.attach.result ≡ reply.Gone = Gone-compared c.attach.result (sym c.eq.ensures ∙ c.if-eq.true) in
    AsksSlot.NotThere (rw gone at (c.attach.ensures.does honest))

pub returns-then-eq-clause-does : goal.returns-then-eq-clause-does
returns-then-eq-clause-does g c =
    let gone : c.attach.result ≡ reply.Gone = Gone-compared c.attach.result (sym c.eq.ensures ∙ c.if-eq.true) in
    sight_gone g.R.Rack.is_honest (g.R.Rack.history c.args.rack.now) (g.R.Rack.history c.attach.new.self) (g.R.Rack.bads c.args.rack.now)
    (g.R.Rack.bads c.attach.new.self) (g.R.Rack.gones c.args.rack.now) (g.R.Rack.gones c.attach.new.self) c.args.slot
    (λ honest. rw gone at (c.attach.ensures.does honest)) (c.attach.ensures.gone gone)

pub returns-clause-asked : goal.returns-clause-asked
returns-clause-asked g c =
    let done : c.attach.result ≡ reply.Done = Done-compared c.attach.result (sym c.eq.ensures ∙ c.if-eq.false) in
    asks_slot (told g.R.Rack c.args.rack.now) (told g.R.Rack c.attach.new.self) (told g.R.Rack c.probe_slot-probe.new.rack) c.probe_slot-probe.ensures.does
    (later_called _ _ _ _ _ _ _ c.args.slot (Attach c.attach.result) c.attach.ensures.does c.attach.ensures.counts)
    (λ honest. rw done at (c.attach.ensures.does honest))

pub returns-clause-does : goal.returns-clause-does
returns-clause-does g c =
    let done : c.attach.result ≡ reply.Done = Done-compared c.attach.result (sym c.eq.ensures ∙ c.if-eq.false) in
    sight_read (told g.R.Rack c.args.rack.now) (told g.R.Rack c.attach.new.self) (told g.R.Rack c.probe_slot-probe.new.rack) c.probe_slot-probe.ensures.does
    (later_called _ _ _ _ _ _ _ c.args.slot (Attach c.attach.result) c.attach.ensures.does c.attach.ensures.counts)
    (λ honest. rw done at (c.attach.ensures.does honest)) c.sight_of.result.newest c.sight_of.result.next c.sight_of.result.gone
    c.sight_of.ensures.newest c.sight_of.ensures.next c.sight_of.ensures.gone
