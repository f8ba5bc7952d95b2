-- The reason of the next slot.
use Rattle.std.proofs.Common.{◌≡◌, ◌≤◌, arith, ap}
use Rattle.stair_model.specs.Geometry.{Geometry}
use Rattle.stair_member.proofs.ReasonLemmas.{reasons_more, reasons_none}
use Rattle.stair_member.proofs.judge.reasons_of.Goals as goal

pub loop-slot-init : goal.loop-slot-init
loop-slot-init c = reasons_none c.args.found.now c.args.gone c.args.current.now

pub loop-slot-preserved : goal.loop-slot-preserved
loop-slot-preserved c =
    let most : c.args.current.now.array.geometry.n ≤ 32 = c.geometry.ensures.rules.rules.array.limits.devices.1 in
    let n : c.geometry.result.n ≡ c.args.current.now.array.geometry.n = ap (λ (g : Geometry). g.n) c.geometry.ensures.value in
    rw c.from.ensures
    (reasons_more c.args.found.now c.args.gone c.args.current.now c.loop-slot.slot c.loop-slot.whys c.reason_of.result
    (omega arith) c.loop-slot.invariant c.reason_of.ensures)
