-- Each turn writes the chunk's cell in the next row, where it is one of the redo's.
use Rattle.std.proofs.Common.{◌≡◌, sym, ◌∙◌, arith}
use Rattle.std.proofs.lemmas.Bool.{false≢true}
use Rattle.stair_rack.specs.declared.rack.Reply.TheVariants as reply
use Rattle.std.specs.Prelude.{IsTrue}
use Rattle.stair_rack.proofs.MomentLemmas.{calls_ran}
use Rattle.stair_rack.proofs.PassCounts.{Done-compared, Gone-compared}
use Rattle.stair_rack.proofs.PhaseCounts.{slot_asked, slot_stopped}
use Rattle.stair_journal.proofs.ToldLemmas.{are_gone_none, are_gone_write, slot_told}
use Rattle.stair_stripes.proofs.PlacingLemmas.{chunk_end, chunk_more, chunk_skipped, chunk_start}
use Rattle.stair_stripes.proofs.placing.write_chunk.Goals as goal
use Rattle.stair_stripes.proofs.placing.write_chunk.Goals.{else-has-via-then-has+else-eq, else-has-via-else-has}

pub loop-row-init : goal.loop-row-init
loop-row-init g c =
    (chunk_start c.args.geometry.now c.args.redo.now c.args.stripe.now c.args.slot _ _, λ honest. are_gone_none _ _)

pub loop-row-preserved : goal.loop-row-preserved
loop-row-preserved g c =
    elim c.else-has.branch [
      | else-has-via-then-has+else-eq w ↦
          let done = Done-compared w.write.result (sym w.eq.ensures ∙ w.if-eq.false) in
          let called = λ (honest : IsTrue g.R.Rack.is_honest).
          rw (w.cell_sector.ensures, w.cell.ensures.value, done) at (w.write.ensures.does honest) in
          rw w.rack-is (
            chunk_more c.args.geometry.now c.args.redo.now c.args.stripe.now c.args.slot _ c.loop-row.row reply.Done _ _ _
                c.loop-row.invariant.0 ((c.has.ensures.member).0 w.if-has.true) called (λ is. w.write.ensures.gone (done ∙ is))
                w.write.ensures.counts w.write.ensures.reads,
            λ honest.
                slot_told (c.loop-row.invariant.0.told honest).ran (calls_ran (called honest)) (c.loop-row.invariant.1 honest)
                (are_gone_write _ _ _ _ _ _ (called honest)),
          )
      | else-has-via-else-has w ↦
          rw w.rack-is (
            chunk_skipped c.args.geometry.now c.args.redo.now c.args.stripe.now c.args.slot _ c.loop-row.row _ _
                (λ has. false≢true (sym w.if-has.false ∙ (c.has.ensures.member).1 has)) c.loop-row.invariant.0,
            c.loop-row.invariant.1,
          )
    ]

pub returns-then-eq-clause-does : goal.returns-then-eq-clause-does
returns-then-eq-clause-does g c =
    let gone = Gone-compared c.write.result (sym c.eq.ensures ∙ c.if-eq.true) in
    let more =
    chunk_more c.args.geometry.now c.args.redo.now c.args.stripe.now c.args.slot _ c.loop-row.row reply.Gone _ _ _ c.loop-row.invariant.0
    ((c.has.ensures.member).0 c.if-has.true)
    (λ honest. rw (c.cell_sector.ensures, c.cell.ensures.value, gone) at (c.write.ensures.does honest)) (λ is. c.write.ensures.gone gone)
    c.write.ensures.counts c.write.ensures.reads in
    (slot_stopped (λ j k on. on) more).told

pub returns-clause-does : goal.returns-clause-does
returns-clause-does g c =
    let all : c.loop-row.row ≡ c.args.geometry.now.r = omega (arith, c.r-row-end.ensures.value) in
    (slot_asked
    (λ j k bytes on is.
    rw all (chunk_end c.args.geometry.now c.args.redo.now c.args.stripe.now c.args.slot g.R.Rack.is_honest j k bytes c.requires.redo on is))
    c.loop-row.invariant.0).told

pub returns-then-eq-clause-told_gone : goal.returns-then-eq-clause-told_gone
returns-then-eq-clause-told_gone g c honest =
    let gone = Gone-compared c.write.result (sym c.eq.ensures ∙ c.if-eq.true) in
    let called = rw gone at (c.write.ensures.does honest) in
    slot_told (c.loop-row.invariant.0.told honest).ran (calls_ran called) (c.loop-row.invariant.1 honest) (are_gone_write _ _ _ _ _ _ called)

pub returns-clause-told_gone : goal.returns-clause-told_gone
returns-clause-told_gone g c = c.loop-row.invariant.1
