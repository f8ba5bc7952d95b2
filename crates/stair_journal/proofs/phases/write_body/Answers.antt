-- Each turn writes the body to the next live slot, and notes whether it was gone.
use Rattle.std.proofs.Common.{◌≡◌, inl, inr, refl, sym, ◌∙◌, arith}
use Rattle.std.proofs.lemmas.Bool.{false_from_ne_true, false≢true}
use Rattle.stair_base.proofs.SlotLemmas.{HasSlot-below}
use Rattle.stair_rack.proofs.PassCounts.{Done-compared, Gone-compared}
use Rattle.stair_rack.proofs.PhaseCounts.{done_not_gone, phase_done, phase_gone, phase_skipped, phase_start}
use Rattle.stair_journal.proofs.DoesLemmas.{does_slots}
use Rattle.stair_journal.proofs.ToldLemmas.{are_gone_none, are_gone_then}
use Rattle.stair_journal.proofs.phases.write_body.Goals as goal
use Rattle.stair_journal.proofs.phases.write_body.Goals.{then-has+then-eq, else-has, else-has-via-then-has+else-eq, else-has-via-else-has}

pub loop-slot-init : goal.loop-slot-init
loop-slot-init g c = (phase_start _ _ _ _ _ c.empty-gone.ensures.well_formed c.empty-gone.ensures.none, λ honest. are_gone_none _ _)

pub loop-slot-preserved : goal.loop-slot-preserved
loop-slot-preserved g c =
    elim c.if-has.branch [
      | then-has+then-eq w ↦
          let gone = Gone-compared w.write_cells.result (sym w.eq.ensures ∙ w.if-eq.true) in
          let on = (c.has.ensures.member).0 w.if-has.true in
          rw (w.gone-is, w.rack-is) (
            phase_gone _ _ _ _ _ _ _ _ c.has.ensures.well_formed c.loop-slot.invariant.0 _ w.add.ensures.well_formed w.add.ensures.members on
                (record {
                  told = λ honest. rw gone at (w.write_cells.ensures.does honest);
                  gone = λ is. w.write_cells.ensures.gone gone;
                  counts = w.write_cells.ensures.counts;
                  reads = w.write_cells.ensures.reads;
                }) (λ k bytes is. refl),
            λ honest.
                are_gone_then (c.loop-slot.invariant.0.told honest).ran (w.write_cells.ensures.does honest).ran
                (λ j has. (w.add.ensures.members j).1 (inl has)) (λ j is. (w.add.ensures.members j).1 (inr is.0))
                (c.loop-slot.invariant.1 honest) (w.write_cells.ensures.told_gone honest),
          )
      | else-has w ↦
          elim w.else-has.branch [
            | else-has-via-then-has+else-eq v ↦
                let done = Done-compared v.write_cells.result (sym v.eq.ensures ∙ v.if-eq.false) in
                let on = (c.has.ensures.member).0 v.if-has.true in
                rw (w.gone-is, w.rack-is, v.rack-is) (
                  phase_done _ _ _ _ _ _ _ _ c.has.ensures.well_formed c.loop-slot.invariant.0 on
                      (record {
                        told = λ honest. rw done at (v.write_cells.ensures.does honest);
                        gone = λ is. v.write_cells.ensures.gone (done ∙ is);
                        counts = v.write_cells.ensures.counts;
                        reads = v.write_cells.ensures.reads;
                      }) (λ k bytes is. refl),
                  λ honest.
                      are_gone_then (c.loop-slot.invariant.0.told honest).ran (v.write_cells.ensures.does honest).ran (λ j has. has)
                      (λ j is. absurd (done_not_gone j is)) (c.loop-slot.invariant.1 honest)
                      (rw done at (v.write_cells.ensures.told_gone honest)),
                )
            | else-has-via-else-has v ↦
                let off = false_from_ne_true _ (λ has. false≢true (sym v.if-has.false ∙ (c.has.ensures.member).1 has)) in
                rw (w.gone-is, w.rack-is, v.rack-is)
                (phase_skipped _ _ _ _ _ _ _ c.has.ensures.well_formed c.loop-slot.invariant.0 off, c.loop-slot.invariant.1)
          ]
    ]

pub returns-clause-does : goal.returns-clause-does
returns-clause-does g c =
    let all : c.loop-slot.slot ≡ 32 = omega arith in
    does_slots _ _ _ _ _ _ _ _ _ _ _ c.loop-slot.invariant.0 c.loop-slot.invariant.1
    (λ j k bytes on is. rw all (HasSlot-below c.args.live (c.loop-slot.invariant.0.to_set (omega (arith, all))) j on))
    c.sync_rest.ensures.gone c.sync_rest.ensures.counts c.sync_rest.ensures.well_formed c.sync_rest.ensures.does
