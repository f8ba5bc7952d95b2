-- Act by act.
use Rattle.std.proofs.Common.{◌≡◌, ◌<◌, length, sym, arith, None}
use Rattle.std.proofs.lemmas.List.{get_or-set_other, get_or_read, length-set}
use Rattle.stair_memrack.specs.declared.act.Act.{Act}
use Rattle.stair_memrack.proofs.ActLemmas.{ActsDone-none, ActsDone-skip, ActsDone-act}
use Rattle.stair_memrack.proofs.script.act_before.Goals as goal
use Rattle.stair_memrack.proofs.script.act_before.Goals.{then-act-call, else-act-call}

pub loop-index-init : goal.loop-index-init
loop-index-init c =
    let count : length c.args.places.now.items ≡ 32 = omega arith in
    ActsDone-none c.args.call c.args.acts.now.items c.args.places.now.items c.args.stopped.now c.args.blanks.now.items count c.requires.room c.requires.blanks

pub loop-index-preserved : goal.loop-index-preserved
loop-index-preserved c =
    let i = c.loop-index.index in
    let act : Act = c.index-act.result.now in
    let within : i < length c.args.acts.now.items = omega arith in
    elim c.if-act-call.branch [
      | then-act-call w ↦
          let blank = w.index_mut.result.now in
          let here : i < length c.loop-index.blanks.items = omega (arith, c.loop-index.invariant.blanks_left.count) in
          rw (w.blanks-is, w.places-is, w.stopped-is)
          (ActsDone-act c.args.call i c.args.acts.now.items act c.args.places.now.items c.args.stopped.now c.loop-index.places.items c.loop-index.stopped
          c.loop-index.blanks.items blank w.perform.new.places.items w.perform.new.stopped _ within (sym c.index-act.ensures) w.if-act-call.true
          c.loop-index.invariant (sym (get_or_read c.loop-index.blanks.items i blank here w.index_mut.ensures.value None)) w.perform.ensures.places
          w.perform.ensures.stopped (length-set c.loop-index.blanks.items i w.perform.new.blank)
          (λ k other. get_or-set_other c.loop-index.blanks.items i k w.perform.new.blank None other))
      | else-act-call w ↦
          rw (w.blanks-is, w.places-is, w.stopped-is)
          (ActsDone-skip c.args.call i c.args.acts.now.items act c.args.places.now.items c.args.stopped.now c.loop-index.places.items c.loop-index.stopped
          c.loop-index.blanks.items within (sym c.index-act.ensures) w.if-act-call.false c.loop-index.invariant)
    ]
