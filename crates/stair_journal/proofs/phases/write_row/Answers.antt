-- Each turn writes the row's cell of the next chunk, where it is one of the redo's.
use Rattle.std.proofs.Common.{◌≡◌, sym, ◌∙◌, arith}
use Rattle.std.proofs.lemmas.Bool.{false≢true}
use Rattle.stair_rack.specs.declared.rack.Reply.TheVariants as reply
use Rattle.std.specs.Prelude.{IsTrue}
use Rattle.stair_rack.proofs.MomentLemmas.{calls_ran}
use Rattle.stair_rack.proofs.PassCounts.{Done-compared, Gone-compared}
use Rattle.stair_rack.proofs.PhaseCounts.{slot_asked, slot_stopped}
use Rattle.stair_journal.proofs.ToldLemmas.{are_gone_none, are_gone_write, slot_told}
use Rattle.stair_journal.proofs.WritesLemmas.{row_end, row_more, row_skipped, row_start}
use Rattle.stair_journal.proofs.phases.write_row.Goals as goal
use Rattle.stair_journal.proofs.phases.write_row.Goals.{else-has-via-then-has+else-eq, else-has-via-else-has}

pub loop-chunk-init : goal.loop-chunk-init
loop-chunk-init g c =
    (row_start c.args.geometry.now c.args.redo.now c.args.stripe.now c.args.slot c.args.row _ _, λ honest. are_gone_none _ _)

pub loop-chunk-preserved : goal.loop-chunk-preserved
loop-chunk-preserved g c =
    let below = rw c.n-chunk-end.ensures.value at c.loop-chunk-test.true in
    elim c.else-has.branch [
      | else-has-via-then-has+else-eq w ↦
          let done = Done-compared w.write.result (sym w.eq.ensures ∙ w.if-eq.false) in
          let called = λ (honest : IsTrue g.R.Rack.is_honest).
          rw (w.body_sector.ensures, w.cell.ensures.value, done) at (w.write.ensures.does honest) in
          rw w.rack-is (
            row_more c.args.geometry.now c.args.redo.now c.args.stripe.now c.args.slot c.args.row _ c.loop-chunk.chunk reply.Done _ _ _ below
                c.loop-chunk.invariant.0 ((c.has.ensures.member).0 w.if-has.true) called (λ is. w.write.ensures.gone (done ∙ is))
                w.write.ensures.counts w.write.ensures.reads,
            λ honest.
                slot_told (c.loop-chunk.invariant.0.told honest).ran (calls_ran (called honest)) (c.loop-chunk.invariant.1 honest)
                (are_gone_write _ _ _ _ _ _ (called honest)),
          )
      | else-has-via-else-has w ↦
          rw w.rack-is (
            row_skipped c.args.geometry.now c.args.redo.now c.args.stripe.now c.args.slot c.args.row _ c.loop-chunk.chunk _ _ below
                (λ has. false≢true (sym w.if-has.false ∙ (c.has.ensures.member).1 has)) c.loop-chunk.invariant.0,
            c.loop-chunk.invariant.1,
          )
    ]

pub returns-then-eq-clause-does : goal.returns-then-eq-clause-does
returns-then-eq-clause-does g c =
    let below = rw c.n-chunk-end.ensures.value at c.loop-chunk-test.true in
    let gone = Gone-compared c.write.result (sym c.eq.ensures ∙ c.if-eq.true) in
    let more =
    row_more c.args.geometry.now c.args.redo.now c.args.stripe.now c.args.slot c.args.row _ c.loop-chunk.chunk reply.Gone _ _ _ below
    c.loop-chunk.invariant.0 ((c.has.ensures.member).0 c.if-has.true)
    (λ honest. rw (c.body_sector.ensures, c.cell.ensures.value, gone) at (c.write.ensures.does honest)) (λ is. c.write.ensures.gone gone)
    c.write.ensures.counts c.write.ensures.reads in
    (slot_stopped (λ j k made. made.0) more).told

pub returns-clause-does : goal.returns-clause-does
returns-clause-does g c =
    let all : c.loop-chunk.chunk ≡ c.args.geometry.now.n = omega (arith, c.n-chunk-end.ensures.value) in
    (slot_asked (λ j k bytes made is. rw all (row_end c.args.geometry.now c.args.slot c.args.row j k made)) c.loop-chunk.invariant.0).told

pub returns-then-eq-clause-told_gone : goal.returns-then-eq-clause-told_gone
returns-then-eq-clause-told_gone g c honest =
    let gone = Gone-compared c.write.result (sym c.eq.ensures ∙ c.if-eq.true) in
    let called = rw gone at (c.write.ensures.does honest) in
    slot_told (c.loop-chunk.invariant.0.told honest).ran (calls_ran called) (c.loop-chunk.invariant.1 honest) (are_gone_write _ _ _ _ _ _ called)

pub returns-clause-told_gone : goal.returns-clause-told_gone
returns-clause-told_gone g c = c.loop-chunk.invariant.1
