-- Each turn writes the cells of the next row.
use Rattle.std.proofs.Common.{◌≡◌, sym, ◌∙◌, arith}
use Rattle.stair_rack.specs.declared.rack.Reply.TheVariants as reply
use Rattle.stair_rack.proofs.PassCounts.{Done-compared, Gone-compared}
use Rattle.stair_rack.proofs.PhaseCounts.{slot_asked, slot_stopped}
use Rattle.stair_journal.proofs.ToldLemmas.{are_gone_none, slot_told}
use Rattle.stair_journal.proofs.WritesLemmas.{rows_end, rows_more, rows_start}
use Rattle.stair_journal.proofs.phases.write_cells.Goals as goal

pub loop-row-init : goal.loop-row-init
loop-row-init g c =
    (rows_start c.args.geometry.now c.args.redo.now c.args.stripe.now c.args.slot _ _, λ honest. are_gone_none _ _)

pub loop-row-preserved : goal.loop-row-preserved
loop-row-preserved g c =
    let done = Done-compared c.write_row.result (sym c.eq.ensures ∙ c.if-eq.false) in (
      rows_more c.args.geometry.now c.args.redo.now c.args.stripe.now c.args.slot _ c.loop-row.row reply.Done _ _ _ c.loop-row.invariant.0
          (record {
            told = λ honest. rw done at (c.write_row.ensures.does honest);
            gone = λ is. c.write_row.ensures.gone (done ∙ is);
            counts = c.write_row.ensures.counts;
            reads = c.write_row.ensures.reads;
          }),
      λ honest.
          slot_told (c.loop-row.invariant.0.told honest).ran (c.write_row.ensures.does honest).ran (c.loop-row.invariant.1 honest)
          (rw done at (c.write_row.ensures.told_gone honest)),
    )

pub returns-then-eq-clause-does : goal.returns-then-eq-clause-does
returns-then-eq-clause-does g c =
    let gone = Gone-compared c.write_row.result (sym c.eq.ensures ∙ c.if-eq.true) in
    let more =
    rows_more c.args.geometry.now c.args.redo.now c.args.stripe.now c.args.slot _ c.loop-row.row reply.Gone _ _ _ c.loop-row.invariant.0
    (record {
      told = λ honest. rw gone at (c.write_row.ensures.does honest);
      gone = λ is. c.write_row.ensures.gone gone;
      counts = c.write_row.ensures.counts;
      reads = c.write_row.ensures.reads;
    }) in
    (slot_stopped (λ j k on. on) more).told

pub returns-clause-does : goal.returns-clause-does
returns-clause-does g c =
    let all : c.loop-row.row ≡ c.args.geometry.now.r = omega (arith, c.r-row-end.ensures.value) in
    (slot_asked
    (λ j k bytes on is.
    rw all (rows_end c.args.geometry.now c.args.redo.now c.args.stripe.now c.args.slot g.R.Rack.is_honest j k bytes c.requires.redo on is))
    c.loop-row.invariant.0).told

pub returns-then-eq-clause-told_gone : goal.returns-then-eq-clause-told_gone
returns-then-eq-clause-told_gone g c honest =
    let gone = Gone-compared c.write_row.result (sym c.eq.ensures ∙ c.if-eq.true) in
    slot_told (c.loop-row.invariant.0.told honest).ran (c.write_row.ensures.does honest).ran (c.loop-row.invariant.1 honest)
    (rw gone at (c.write_row.ensures.told_gone honest))

pub returns-clause-told_gone : goal.returns-clause-told_gone
returns-clause-told_gone g c = c.loop-row.invariant.1
