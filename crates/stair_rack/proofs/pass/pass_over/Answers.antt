-- Each turn calls the next slot of the set, and notes whether it was gone.
use Rattle.std.proofs.Common.{◌≡◌, sym, ◌∙◌, arith}
use Rattle.std.proofs.lemmas.Bool.{false_from_ne_true, false≢true}
use Rattle.stair_rack.proofs.PassCounts.{Gone-compared, Done-compared, pass_start, pass_done, pass_gone, pass_skipped}
use Rattle.stair_rack.proofs.pass.pass_over.Goals as goal
use Rattle.stair_rack.proofs.pass.pass_over.Goals.{then-has+then-eq, else-has, else-has-via-then-has+else-eq, else-has-via-else-has}

pub loop-slot-init : goal.loop-slot-init
loop-slot-init g c = pass_start _ _ _ _ _ c.empty-gone.ensures.well_formed c.empty-gone.ensures.none

pub loop-slot-preserved : goal.loop-slot-preserved
loop-slot-preserved g c =
    elim c.if-has.branch [
      | then-has+then-eq w ↦
          let gone = Gone-compared w.turn.result (sym w.eq.ensures ∙ w.if-eq.true) in
          let on = (c.has.ensures.member).0 w.if-has.true in
          rw (w.gone-is, w.rack-is)
          (pass_gone _ _ _ _ _ _ _ _ c.has.ensures.well_formed c.loop-slot.invariant _ w.add.ensures.well_formed w.add.ensures.members on
          (record { told = λ honest. rw gone at (w.turn.ensures.does honest); counts = w.turn.ensures.counts; reads = w.turn.ensures.reads })
          (w.turn.ensures.gone gone))
      | else-has w ↦
          elim w.else-has.branch [
            | else-has-via-then-has+else-eq v ↦
                let done = Done-compared v.turn.result (sym v.eq.ensures ∙ v.if-eq.false) in
                let on = (c.has.ensures.member).0 v.if-has.true in
                rw (w.gone-is, w.rack-is, v.rack-is)
                (pass_done _ _ _ _ _ _ _ _ c.has.ensures.well_formed c.loop-slot.invariant on
                (record { told = λ honest. rw done at (v.turn.ensures.does honest); counts = v.turn.ensures.counts; reads = v.turn.ensures.reads }))
            | else-has-via-else-has v ↦
                let off = false_from_ne_true _ (λ has. false≢true (sym v.if-has.false ∙ (c.has.ensures.member).1 has)) in
                rw (w.gone-is, w.rack-is, v.rack-is) (pass_skipped _ _ _ _ _ _ _ c.has.ensures.well_formed c.loop-slot.invariant off)
          ]
    ]

pub returns : goal.returns
returns g c =
    let all : c.loop-slot.slot ≡ 32 = omega arith in
    record {
      turns = λ honest. rw all at (c.loop-slot.invariant.turns honest);
      gone = λ j has. let was = c.loop-slot.invariant.gone_is j has in (was.1, was.2);
      counts = c.loop-slot.invariant.counts;
      reads = c.loop-slot.invariant.reads;
      well_formed = c.loop-slot.invariant.gone_set;
      well_formed_to = c.loop-slot.invariant.to_set (omega arith);
    }
