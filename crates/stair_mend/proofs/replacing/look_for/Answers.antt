-- Each way out of the look, by the calls up to there.
use Rattle.std.proofs.Common.{◌∙◌, ◌≡◌, ◌≤◌, inl, inr, refl, sym}
use Rattle.std.proofs.lemmas.Bool.{false≢true}
use Rattle.stair_model.specs.Geometry.{sectors_needed}
use Rattle.stair_rack.specs.declared.rack.Reply.TheVariants as reply
use Rattle.stair_rack.proofs.PassCounts.{Done-compared, Gone-compared}
use Rattle.stair_mend.proofs.ReplacingLemmas.{gone_at_attach, gone_probed, looked_fit, looked_other, looked_small}
use Rattle.stair_mend.proofs.replacing.look_for.Goals as goal
use Rattle.stair_mend.proofs.replacing.look_for.Goals.{then-is_other-via-then-is_other, then-is_other-via-else-is_other+then-is_other-2}

pub returns-then-eq-clause-does : goal.returns-then-eq-clause-does
returns-then-eq-clause-does g c =
    let gone : c.attach.result ≡ reply.Gone = Gone-compared c.attach.result (sym c.eq.ensures ∙ c.if-eq.true) in (
      refl,
      gone_at_attach c.args.geometry.now c.args.slot g.R.Rack.is_honest (g.R.Rack.history c.args.rack.now) (g.R.Rack.history c.attach.new.self) (g.R.Rack.bads c.args.rack.now) (g.R.Rack.bads c.attach.new.self) (g.R.Rack.gones c.args.rack.now) (g.R.Rack.gones c.attach.new.self)
          (λ honest. rw gone at (c.attach.ensures.does honest)) c.attach.ensures.counts (c.attach.ensures.gone gone),
    )

pub returns-then-has-need-clause-does : goal.returns-then-has-need-clause-does
returns-then-has-need-clause-does g c =
    let done : c.attach.result ≡ reply.Done = Done-compared c.attach.result (sym c.eq.ensures ∙ c.if-eq.false) in (
      refl,
      looked_small c.args.geometry.now c.args.slot g.R.Rack.is_honest
          (g.R.Rack.history c.args.rack.now) (g.R.Rack.history c.attach.new.self) (g.R.Rack.history c.sectors-has.new.self)
          (g.R.Rack.bads c.args.rack.now) (g.R.Rack.bads c.attach.new.self) (g.R.Rack.bads c.sectors-has.new.self)
          (g.R.Rack.gones c.args.rack.now) (g.R.Rack.gones c.attach.new.self) (g.R.Rack.gones c.sectors-has.new.self)
          (λ honest. rw done at (c.attach.ensures.does honest)) c.attach.ensures.counts c.sectors-has.result c.sectors-has.ensures.does c.sectors-has.ensures.counts
          _ c.need-then-has-need.ensures.value (rw c.need.ensures.value at c.if-has-need.true),
    )

pub returns-then-is_gone-clause-does : goal.returns-then-is_gone-clause-does
returns-then-is_gone-clause-does g c =
    let done : c.attach.result ≡ reply.Done = Done-compared c.attach.result (sym c.eq.ensures ∙ c.if-eq.false) in (
      refl,
      gone_probed c.args.geometry.now c.args.slot g.R.Rack.is_honest
          (g.R.Rack.history c.args.rack.now) (g.R.Rack.history c.attach.new.self) (g.R.Rack.history c.sectors-has.new.self)
          (g.R.Rack.bads c.args.rack.now) (g.R.Rack.bads c.attach.new.self) (g.R.Rack.bads c.sectors-has.new.self)
          (g.R.Rack.gones c.args.rack.now) (g.R.Rack.gones c.attach.new.self) (g.R.Rack.gones c.sectors-has.new.self)
          (λ honest. rw done at (c.attach.ensures.does honest)) c.attach.ensures.counts c.sectors-has.result c.sectors-has.ensures.does c.sectors-has.ensures.counts
          (g.R.Rack.history c.probe_slot-probe.new.rack) (g.R.Rack.bads c.probe_slot-probe.new.rack) (g.R.Rack.gones c.probe_slot-probe.new.rack) c.probe_slot-probe.result
          c.probe_slot-probe.ensures.does (c.if-is_gone.ensures.0 refl),
    )

pub returns-then-is_other-clause-does : goal.returns-then-is_other-clause-does
returns-then-is_other-clause-does g c =
    let done : c.attach.result ≡ reply.Done = Done-compared c.attach.result (sym c.eq.ensures ∙ c.if-eq.false) in
    let enough : sectors_needed c.args.geometry.now ≤ c.sectors-has.result = rw c.need.ensures.value at c.if-has-need.false in (
      refl,
      looked_other c.args.geometry.now c.args.slot g.R.Rack.is_honest
          (g.R.Rack.history c.args.rack.now) (g.R.Rack.history c.attach.new.self) (g.R.Rack.history c.sectors-has.new.self)
          (g.R.Rack.bads c.args.rack.now) (g.R.Rack.bads c.attach.new.self) (g.R.Rack.bads c.sectors-has.new.self)
          (g.R.Rack.gones c.args.rack.now) (g.R.Rack.gones c.attach.new.self) (g.R.Rack.gones c.sectors-has.new.self)
          (λ honest. rw done at (c.attach.ensures.does honest)) c.attach.ensures.counts c.sectors-has.result c.sectors-has.ensures.does c.sectors-has.ensures.counts
          (g.R.Rack.history c.probe_slot-probe.new.rack) (g.R.Rack.bads c.probe_slot-probe.new.rack) (g.R.Rack.gones c.probe_slot-probe.new.rack) c.probe_slot-probe.result
          c.probe_slot-probe.ensures.does enough (λ lost. false≢true (c.if-is_gone.ensures.1 lost)) c.block-first.result c.block-second.result
          c.block-first.ensures c.block-second.ensures
          (elim c.then-is_other.branch [
            | then-is_other-via-then-is_other w ↦ inl w.if-is_other.ensures
            | then-is_other-via-else-is_other+then-is_other-2 w ↦ inr w.if-is_other-2.ensures
          ]),
    )

pub returns-clause-does : goal.returns-clause-does
returns-clause-does g c =
    let done : c.attach.result ≡ reply.Done = Done-compared c.attach.result (sym c.eq.ensures ∙ c.if-eq.false) in
    let enough : sectors_needed c.args.geometry.now ≤ c.sectors-has.result = rw c.need.ensures.value at c.if-has-need.false in
    looked_fit c.args.geometry.now c.args.slot g.R.Rack.is_honest
    (g.R.Rack.history c.args.rack.now) (g.R.Rack.history c.attach.new.self) (g.R.Rack.history c.sectors-has.new.self)
    (g.R.Rack.bads c.args.rack.now) (g.R.Rack.bads c.attach.new.self) (g.R.Rack.bads c.sectors-has.new.self)
    (g.R.Rack.gones c.args.rack.now) (g.R.Rack.gones c.attach.new.self) (g.R.Rack.gones c.sectors-has.new.self)
    (λ honest. rw done at (c.attach.ensures.does honest)) c.attach.ensures.counts c.sectors-has.result c.sectors-has.ensures.does c.sectors-has.ensures.counts
    (g.R.Rack.history c.probe_slot-probe.new.rack) (g.R.Rack.bads c.probe_slot-probe.new.rack) (g.R.Rack.gones c.probe_slot-probe.new.rack) c.probe_slot-probe.result
    c.probe_slot-probe.ensures.does enough (λ lost. false≢true (c.if-is_gone.ensures.1 lost)) c.block-first.result c.block-second.result
    c.block-first.ensures c.block-second.ensures c.if-is_other.ensures c.if-is_other-2.ensures c.sectors-has.ensures.began
