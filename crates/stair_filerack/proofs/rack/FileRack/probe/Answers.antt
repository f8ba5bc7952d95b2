use Rattle.std.proofs.Common.{◌≡◌, ◌<◌, ℕ, [], ◌++◌, length, take, drop, get_or, ap, subst, ◌∙◌, arith}
use Rattle.std.proofs.Math.Seq.{take-append_seam}
use Rattle.stair_filerack.specs.Slot.{untouched, detached}
use Rattle.stair_filerack.proofs.RackLemmas.{detached_all}
use Rattle.stair_filerack.proofs.rack.FileRack.probe.Goals as goal

pub returns-clause-after : goal.returns-clause-after
returns-clause-after g c =
    let opened = c.open_all-refused.ensures in
    let items = c.self.inside.slots.items in
    let new = c.loop-slot.slot-items in
    let count : length c.deref_mut-slot-items.result.now ≡ 32 = omega (arith, c.deref_mut-slot-items.ensures.len, c.self.invariant) in
    let long : length new ≡ c.self.inside.slots.len = omega (arith, count, c.loop-slot.auto.slot-items, c.self.invariant) in
    let all : take c.self.inside.slots.len (new ++ drop (length new) items) ≡ new =
    subst (λ (n : ℕ). take n (new ++ drop (length new) items) ≡ new) long (take-append_seam new (drop (length new) items)) in
    rw all (detached_all c.args.self.now _ _ _ items new c.self.view_is opened.access opened.bads opened.slots
    (λ j below.
    let passed : j < c.loop-slot.slot-index = omega (arith, count, c.loop-slot-test.false, c.loop-slot.auto.slot-index-end) in
    c.loop-slot.invariant.gone j passed
    ∙ ap (λ items. detached (get_or items j (untouched []))) c.deref_mut-slot-items.ensures.value))
