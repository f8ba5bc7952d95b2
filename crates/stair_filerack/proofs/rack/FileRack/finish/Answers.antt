use Rattle.std.proofs.Common.{◌≡◌, ◌<◌, ℕ, ◌++◌, length, take, drop, subst, sym, arith}
use Rattle.std.proofs.Math.Seq.{take-append_seam}
use Rattle.stair_rack.specs.RackCounts.{IsLaterCount}
use Rattle.stair_filerack.specs.Finish.{Finishes}
use Rattle.stair_filerack.proofs.FinishLemmas.{FinishedTo, finished_all, finished_counts, finished_next}
use Rattle.stair_filerack.proofs.rack.FileRack.finish.Goals as goal

pub loop-slot-preserved : goal.loop-slot-preserved
loop-slot-preserved g c =
    let within : c.loop-slot.slot-index < length c.loop-slot.slot-items = omega (arith, c.loop-slot-test.true, c.loop-slot.auto.slot-items) in
    finished_next g.F.File.Write.contents c.loop-slot.slot-index _ _ c.slot-item.result c.finish.new.self c.finish.result within c.slot-item.is
    (subst (λ was. Finishes g.F.File.Write.contents c.finish.result was c.finish.new.self) (sym c.slot-item.is) c.finish.ensures.after)
    (subst (λ was. IsLaterCount was.gones c.finish.new.self.gones) (sym c.slot-item.is) c.finish.ensures.count) c.loop-slot.invariant

all_slots : (g : _) (c : goal.After-self-1 g) → take c.self.inside.slots.len (c.loop-slot.slot-items ++ drop (length c.loop-slot.slot-items) c.self.inside.slots.items) ≡ c.loop-slot.slot-items
all_slots g c =
    let items = c.self.inside.slots.items in
    let new = c.loop-slot.slot-items in
    let long : length new ≡ c.self.inside.slots.len =
    omega (arith, c.deref_mut-slot-items.ensures.len, c.loop-slot.auto.slot-items, c.self.invariant) in
    subst (λ (n : ℕ). take n (new ++ drop (length new) items) ≡ new) long (take-append_seam new (drop (length new) items))

all_done : (g : _) (c : goal.After-self-1 g) → FinishedTo g.F.File.Write.contents c.loop-slot.slot-index c.self.inside.slots.items c.loop-slot.slot-items
all_done g c =
    subst (λ slots. FinishedTo g.F.File.Write.contents c.loop-slot.slot-index slots c.loop-slot.slot-items) c.deref_mut-slot-items.ensures.value
    c.loop-slot.invariant

pub returns-clause-counts : goal.returns-clause-counts
returns-clause-counts g c =
    rw (all_slots g c)
    (finished_counts g.F.File.Write.contents _ c.args.self.now _ _ c.self.inside.slots.items _ c.self.view_is (all_done g c))

pub returns-clause-after : goal.returns-clause-after
returns-clause-after g c =
    rw (all_slots g c)
    (finished_all g.F.File.Write.contents _ c.args.self.now _ _ c.self.inside.slots.items _ c.self.view_is (all_done g c)
    (omega (arith, c.loop-slot-test.false, c.deref_mut-slot-items.ensures.len, c.self.invariant)))
