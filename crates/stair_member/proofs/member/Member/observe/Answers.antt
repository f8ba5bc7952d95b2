-- The draws of both places, and then the next place.
use Rattle.std.proofs.Common.{◌≡◌, ◌≤◌, ◌<◌, ap, arith}
use Rattle.stair_member.specs.Membership.{Membership}
use Rattle.stair_member.proofs.SeeingLemmas.{sees_by}
use Rattle.stair_member.proofs.member.Member.observe.Goals as goal

pub returns-clause-is : goal.returns-clause-is
returns-clause-is c =
    let most : c.see_draw.new.self.array.geometry.n ≤ 32 = c.see_draw.ensures.rules.array.limits.devices.1 in
    let same : c.see_draw.new.self.array.geometry.n ≡ c.args.self.now.array.geometry.n =
    ap (λ (m : Membership). m.array.geometry.n) c.see_draw.ensures.is in
    let below : c.args.slot < c.args.self.now.array.geometry.n = c.requires.below in
    sees_by c.args.slot c.args.first c.args.second c.args.self.now c.see_draw.new.self c.see_draw-2.new.self c.set_place.new.self c.next_place.result
    (omega (arith, most, same, below)) c.see_draw-2.ensures.rules.sizes.places (rw c.draw_of.ensures at c.see_draw.ensures.is)
    (rw c.draw_of-2.ensures at c.see_draw-2.ensures.is) c.set_place.ensures.is c.next_place.ensures.place
