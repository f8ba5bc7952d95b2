-- It was gone to the write or the sync, or neither.
use Rattle.std.proofs.Common.{◌<◌, ◌≤◌, ◌∙◌, sym, arith}
use Rattle.stair_rack.proofs.PassCounts.{Done-compared, Gone-compared}
use Rattle.stair_member.specs.Membership.{place_of}
use Rattle.stair_member.proofs.HandLemmas.{handed_once, handed_unsynced, handed_unwritten, write_told}
use Rattle.stair_member.proofs.superblock_writes.put.Goals as goal

pub returns-then-eq-clause-does : goal.returns-then-eq-clause-does
returns-then-eq-clause-does g c honest =
    let most : c.args.member.now.array.geometry.n ≤ 32 = c.next_place.ensures.rules.array.limits.devices.1 in
    let small : place_of c.args.member.now c.args.slot < 2 = c.next_place.ensures.rules.places c.args.slot (omega arith) in
    let gone = Gone-compared c.write.result (sym c.eq.ensures ∙ c.if-eq.true) in
    handed_unwritten c.args.member.now c.args.slot small _ _
    (write_told c.args.member.now c.args.slot _ _ _ _ c.block-block.result _ _ (c.write.ensures.does honest) c.next_place.ensures.value
    c.write_super-bytes.ensures.text c.block-block.ensures.value gone)

pub returns-then-eq-2-clause-does : goal.returns-then-eq-2-clause-does
returns-then-eq-2-clause-does g c honest =
    let most : c.args.member.now.array.geometry.n ≤ 32 = c.next_place.ensures.rules.array.limits.devices.1 in
    let small : place_of c.args.member.now c.args.slot < 2 = c.next_place.ensures.rules.places c.args.slot (omega arith) in
    let done = Done-compared c.write.result (sym c.eq.ensures ∙ c.if-eq.false) in
    let gone = Gone-compared c.sync.result (sym c.eq-2.ensures ∙ c.if-eq-2.true) in
    handed_unsynced c.args.member.now c.args.slot small _ _ _
    (write_told c.args.member.now c.args.slot _ _ _ _ c.block-block.result _ _ (c.write.ensures.does honest) c.next_place.ensures.value
    c.write_super-bytes.ensures.text c.block-block.ensures.value done) (rw gone at (c.sync.ensures.does honest))

pub returns-clause-does : goal.returns-clause-does
returns-clause-does g c honest =
    let most : c.args.member.now.array.geometry.n ≤ 32 = c.next_place.ensures.rules.array.limits.devices.1 in
    let small : place_of c.args.member.now c.args.slot < 2 = c.next_place.ensures.rules.places c.args.slot (omega arith) in
    let done = Done-compared c.write.result (sym c.eq.ensures ∙ c.if-eq.false) in
    let synced = Done-compared c.sync.result (sym c.eq-2.ensures ∙ c.if-eq-2.false) in
    handed_once c.args.member.now c.args.slot small _ _ _
    (write_told c.args.member.now c.args.slot _ _ _ _ c.block-block.result _ _ (c.write.ensures.does honest) c.next_place.ensures.value
    c.write_super-bytes.ensures.text c.block-block.ensures.value done) _ (rw synced at (c.sync.ensures.does honest))
