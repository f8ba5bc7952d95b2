-- A set has no slots from 32 on.
use Rattle.std.proofs.Common.{◌≡◌, arith}
use Rattle.stair_base.proofs.SlotLemmas.{HasSlot-below}
use Rattle.stair_array.proofs.new_device.none_gone.Goals as goal

pub returns-clause-none : goal.returns-clause-none
returns-clause-none c j has =
    let all : c.loop-slot.slot ≡ 32 = omega arith in
    let below = HasSlot-below c.args.gone.now (c.loop-slot.invariant.formed (omega (arith, all))) j has in
    c.loop-slot.invariant.none j (omega (arith, all, below)) has
