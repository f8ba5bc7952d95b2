-- The blocks are made whole, and written.
use Rattle.std.proofs.Common.{◌≡◌, ◌∙◌, ◌+◌, ◌*◌, ◌/◌, ◌≤◌, ℕ, List, ap, arith, drop, length, length-take}
use Rattle.std.proofs.lemmas.List.{take_at}
use Rattle.stair_array.specs.Promise.{Opened}
use Rattle.stair_command.specs.Devices.{devices}
use Rattle.stair_command.proofs.ComesLaws.{comes_then}
use Rattle.stair_nbd.specs.Client.{first_block, skipped, touched, writes_on}
use Rattle.stair_nbd.proofs.AroundLaws.{front_has, touched_covers}
use Rattle.stair_nbd.proofs.RespondLaws.{writes_same, writes_touched}
use Rattle.stair_nbd.proofs.TriedLaws.{comes_after}
use Rattle.stair_nbd.proofs.blocks.write_touched.Goals as goal

pub returns-in_err-read_around-clause-comes : goal.returns-in_err-read_around-clause-comes
returns-in_err-read_around-clause-comes g c refused done =
    let q = c.args.request.now in
    let of = c.args.array.now.member.array.geometry in
    let count = touched (skipped q) q.length in
    let fits : skipped q + q.length ≤ 512 * c.touched-whole.result = omega (arith, touched_covers q c.requires.some, c.touched-whole.ensures.value) in
    comes_after _ _ _ refused c.from_residual.result _ _ _ c.from_residual.ensures.1
    (writes_same _ of q (devices c.args.rack.now (Opened c.args.array.now) c.args.watchers.now.items) _ _ refused done refused _
    (front_has (512 * c.touched-whole.result) (skipped q) q.length c.args.buffer.now fits)
    (c.in_err-read_around.ensures.comes refused (λ blocks. writes_on of count (first_block q) count blocks refused done)))

pub returns-clause-comes : goal.returns-clause-comes
returns-clause-comes g c refused done =
    let q = c.args.request.now in
    let of = c.args.array.now.member.array.geometry in
    let count = touched (skipped q) q.length in
    let whole = 512 * c.touched-whole.result in
    let here = c.read_around.new.blocks in
    let fits : skipped q + q.length ≤ 512 * c.touched-whole.result = omega (arith, touched_covers q c.requires.some, c.touched-whole.ensures.value) in
    let long : length here ≡ 512 * c.touched-whole.result = omega (
      arith,
      length-take whole c.args.buffer.now,
      c.touched-whole.ensures.within,
      c.requires.room,
    ) in
    let same = take_at here (drop whole c.args.buffer.now) whole long in
    let many = ap (λ (b : List ℕ). length b / 512) same ∙ (omega (arith, long, c.touched-whole.ensures.value)) in
    comes_then _
    (writes_same _ of q (devices c.args.rack.now (Opened c.args.array.now) c.args.watchers.now.items) _ _ refused done _ _
    (front_has whole (skipped q) q.length c.args.buffer.now fits)
    (c.in_ok-read_around.ensures.comes refused (λ blocks. writes_on of count (first_block q) count blocks refused done)))
    (writes_touched _ of q _ _ _ _ _ here refused done _ (devices c.read_around.new.rack (Opened c.read_around.new.array) c.read_around.new.watchers.items) _
    c.read_around.ensures.geometry many c.first_block.ensures many same (c.write_blocks.ensures.comes refused done))
