-- Slot by slot.
use Rattle.std.proofs.Common.{◌<◌, ◌+◌, List, length, reverse, sym, subst, arith}
use Rattle.stair_memrack.specs.Place.{PlaceState}
use Rattle.stair_memrack.specs.Left.{writes_of, SlotsAreLeft}
use Rattle.stair_memrack.proofs.LeftLemmas.{slots_next}
use Rattle.stair_memrack.proofs.crash.left_of_slots.Goals as goal

pub loop-slot-preserved : goal.loop-slot-preserved
loop-slot-preserved c =
    let places : List PlaceState = c.args.places.now.items in
    let w = writes_of (reverse c.args.log.now.items) in
    let n = c.loop-slot.slot in
    let within : n < length places = omega (arith, c.loop-slot-test.true, c.requires, c.args.places.now.ok.0) in
    let next = slots_next n w c.args.picks.now places c.loop-slot.made.items c.in_ok-origin.origin c.index-place.result.now c.loop-slot.before c.in_ok-origin.more
    within c.index-place.ensures c.loop-slot.invariant.1 c.loop-slot.invariant.0 c.in_ok-origin.ensures.left c.in_ok-origin.ensures.next in (
      subst (SlotsAreLeft (n + 1) w c.args.picks.now places) (sym c.in_ok-push.ensures.items) next.0,
      next.1,
      omega (arith, c.loop-slot.invariant.2, c.in_ok-origin.ensures.few),
    )
