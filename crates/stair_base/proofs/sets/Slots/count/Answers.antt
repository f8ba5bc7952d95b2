-- No slot, and one more.
use Rattle.std.proofs.Common.{◌≡◌, ◌≤◌, Bool, true, false, refl, sym, ◌∙◌, arith}
use Rattle.std.specs.Prelude.{if◌then◌else◌}
use mir.Val.{bool_byte}
use Rattle.stair_model.specs.Slots.{Slots, has_slot}
use Rattle.stair_model.proofs.CountLaws.{sum_below_none, sum_below_next}
use Rattle.stair_model.proofs.SetLaws.{mark_small}
use Rattle.stair_base.proofs.sets.Slots.count.Goals as goal

as_byte : (marked : Bool) → bool_byte marked ≡ (if marked then 1 else 0)
as_byte true = refl
as_byte false = refl

pub loop-slot-init : goal.loop-slot-init
loop-slot-init c = record { so_far = sym (sum_below_none _); small = omega arith }

pub loop-slot-preserved : goal.loop-slot-preserved
loop-slot-preserved c =
    let set : Slots = record { marks = c.self.inside.marks } in
    let slot = c.loop-slot.slot in
    let mark : c.from-marked.result ≡ (if has_slot set slot then 1 else 0) =
    c.from-marked.ensures ∙ as_byte (has_slot set slot) in
    let most : (if has_slot set slot then 1 else 0) ≤ 1 = mark_small (has_slot set slot) in
    record {
      so_far = sum_below_next slot _ _ (λ j. if has_slot set j then 1 else 0) c.loop-slot.invariant.so_far mark;
      small = omega (arith, c.loop-slot.invariant.small, mark, most);
    }
