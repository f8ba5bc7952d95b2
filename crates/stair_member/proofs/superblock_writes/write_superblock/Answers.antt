-- Once, or in both places.
use Rattle.std.proofs.Common.{◌<◌, ◌≤◌, Bool, false, ◌∙◌, sym, subst, arith}
use Rattle.stair_rack.proofs.PassCounts.{Done-compared, Gone-compared}
use Rattle.stair_rack.specs.declared.rack.Reply.TheVariants as reply
use Rattle.stair_member.specs.HandSteps.{Handed, PlacesHanded}
use Rattle.stair_member.specs.Membership.{Membership}
use Rattle.stair_member.proofs.HandLemmas.{handed_neither, handed_twice, place_turned, places_neither, places_once, places_twice}
use Rattle.stair_member.proofs.superblock_writes.write_superblock.Goals as goal

pub returns-then-not-both-clause-does : goal.returns-then-not-both-clause-does
returns-then-not-both-clause-does g c honest =
    subst (λ (b : Bool). Handed c.args.member.now c.put-reply.new.member c.args.slot b c.put-reply.result
    (g.R.Rack.history c.args.rack.now) (g.R.Rack.history c.put-reply.new.rack)) (sym c.if-not-both.true) (c.put-reply.ensures.does honest)

pub returns-then-not-both-clause-places : goal.returns-then-not-both-clause-places
returns-then-not-both-clause-places g c =
    let most : c.args.member.now.array.geometry.n ≤ 32 = c.put-reply.ensures.was.array.limits.devices.1 in
    let below : c.args.slot < c.args.member.now.array.geometry.n = c.requires.below in
    subst (λ (b : Bool). PlacesHanded c.args.member.now c.put-reply.new.member c.args.slot b c.put-reply.result) (sym c.if-not-both.true)
    (places_once c.args.member.now c.put-reply.new.member c.args.slot c.put-reply.result (omega arith) c.put-reply.ensures.was.sizes.places
    c.put-reply.ensures.done c.put-reply.ensures.unturned)

pub returns-then-eq-clause-does : goal.returns-then-eq-clause-does
returns-then-eq-clause-does g c honest =
    let gone = Gone-compared c.put-reply.result (sym c.eq.ensures ∙ c.if-eq.true) in
    subst (λ (b : Bool). Handed c.args.member.now c.put-reply.new.member c.args.slot b reply.Gone (g.R.Rack.history c.args.rack.now)
    (g.R.Rack.history c.put-reply.new.rack)) (sym c.if-not-both.false)
    (handed_neither c.args.member.now c.put-reply.new.member c.args.slot _ _ (rw gone at (c.put-reply.ensures.does honest)))

pub returns-then-eq-clause-places : goal.returns-then-eq-clause-places
returns-then-eq-clause-places g c =
    let gone = Gone-compared c.put-reply.result (sym c.eq.ensures ∙ c.if-eq.true) in
    subst (λ (b : Bool). PlacesHanded c.args.member.now c.put-reply.new.member c.args.slot b reply.Gone) (sym c.if-not-both.false)
    (places_neither c.args.member.now c.put-reply.new.member c.args.slot (c.put-reply.ensures.unturned gone))

pub returns-clause-does : goal.returns-clause-does
returns-clause-does g c honest =
    let most : c.args.member.now.array.geometry.n ≤ 32 = c.put-reply.ensures.was.array.limits.devices.1 in
    let below : c.args.slot < c.args.member.now.array.geometry.n = c.requires.below in
    let done = Done-compared c.put-reply.result (sym c.eq.ensures ∙ c.if-eq.false) in
    let is = c.put-reply.ensures.done done in
    subst (λ (b : Bool). Handed c.args.member.now c.put.new.member c.args.slot b c.put.result (g.R.Rack.history c.args.rack.now)
    (g.R.Rack.history c.put.new.rack)) (sym c.if-not-both.false)
    (handed_twice c.args.member.now c.put-reply.new.member c.put.new.member c.args.slot c.put.result _ _ _
    (c.put-reply.ensures.was.places c.args.slot (omega arith))
    (place_turned c.args.member.now c.args.slot (omega arith) c.put-reply.ensures.was.sizes.places) (rw done at (c.put-reply.ensures.does honest))
    (subst (λ (m : Membership). Handed m c.put.new.member c.args.slot false c.put.result
    (g.R.Rack.history c.put-reply.new.rack) (g.R.Rack.history c.put.new.rack)) is (c.put.ensures.does honest)))

pub returns-clause-places : goal.returns-clause-places
returns-clause-places g c =
    let most : c.args.member.now.array.geometry.n ≤ 32 = c.put-reply.ensures.was.array.limits.devices.1 in
    let below : c.args.slot < c.args.member.now.array.geometry.n = c.requires.below in
    let done = Done-compared c.put-reply.result (sym c.eq.ensures ∙ c.if-eq.false) in
    subst (λ (b : Bool). PlacesHanded c.args.member.now c.put.new.member c.args.slot b c.put.result) (sym c.if-not-both.false)
    (places_twice c.args.member.now c.put-reply.new.member c.put.new.member c.args.slot c.put.result (omega arith)
    c.put-reply.ensures.was.sizes.places
    c.put.ensures.was.sizes.places (c.put-reply.ensures.was.places c.args.slot (omega arith)) (c.put-reply.ensures.done done) c.put.ensures.done c.put.ensures.unturned)
