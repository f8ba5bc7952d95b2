-- Each turn clears the next sector of the body.
use Rattle.std.proofs.Common.{◌∙◌, arith, sym}
use Rattle.stair_rack.specs.declared.rack.Reply.TheVariants as reply
use Rattle.stair_rack.proofs.PassCounts.{Done-compared, Gone-compared}
use Rattle.stair_array.proofs.NewJournalLemmas.{body_end, body_more, body_start, body_stopped}
use Rattle.stair_mend.proofs.replacing.clear_body.Goals as goal

pub loop-sector-init : goal.loop-sector-init
loop-sector-init g c = (body_start c.args.geometry.now c.args.slot g.R.Rack.is_honest _, omega arith)

pub loop-sector-preserved : goal.loop-sector-preserved
loop-sector-preserved g c =
    let done = Done-compared c.write.result (sym c.eq.ensures ∙ c.if-eq.false) in
    let test = c.loop-sector-test.true in
    let end = c.cell_sector-sector-end.ensures in
    let past = c.loop-sector.invariant.1 in (
      (body_more c.args.geometry.now c.args.slot g.R.Rack.is_honest c.loop-sector.sector reply.Done _ _ _ c.loop-sector.invariant.0
          c.loop-sector.invariant.1 (omega (arith, test, end))
          (λ honest. rw done at (c.write.ensures.does honest)) (λ is. c.write.ensures.gone (done ∙ is)) c.write.ensures.counts c.write.ensures.reads),
      omega (arith, past),
    )

pub returns-then-eq-clause-does : goal.returns-then-eq-clause-does
returns-then-eq-clause-does g c =
    let gone = Gone-compared c.write.result (sym c.eq.ensures ∙ c.if-eq.true) in
    let test = c.loop-sector-test.true in
    let end = c.cell_sector-sector-end.ensures in
    (body_stopped c.args.geometry.now c.args.slot g.R.Rack.is_honest _ _ _
    (body_more c.args.geometry.now c.args.slot g.R.Rack.is_honest c.loop-sector.sector reply.Gone _ _ _ c.loop-sector.invariant.0
    c.loop-sector.invariant.1 (omega (arith, test, end))
    (λ honest. rw gone at (c.write.ensures.does honest)) (λ is. c.write.ensures.gone (gone ∙ is)) c.write.ensures.counts c.write.ensures.reads)).told

pub returns-clause-does : goal.returns-clause-does
returns-clause-does g c =
    let test = c.loop-sector-test.false in
    let end = c.cell_sector-sector-end.ensures in
    (body_end c.args.geometry.now c.args.slot g.R.Rack.is_honest c.loop-sector.sector _ _ (omega (arith, test, end)) c.loop-sector.invariant.0).told
