-- The blocks that the bytes touch are read, if the request is in order.
use Rattle.std.proofs.Common.{◌≡◌, ◌∙◌, ◌+◌, ◌*◌, ◌/◌, ◌<◌, ◌≤◌, ℕ, ◌++◌, ap, arith, drop, length, length-take, sym, take}
use Rattle.std.specs.Prelude.{Bool, ◌||◌, true}
use Rattle.stair_nbd.specs.Client.{is_past, is_too_long, size_of, skipped}
use Rattle.stair_nbd.specs.declared.wire.ReplyError.TheVariants as error
use Rattle.stair_nbd.proofs.AroundLaws.{joined_has, touched_covers}
use Rattle.stair_nbd.proofs.RespondLaws.{allowed_by, no_data, read_invalid, reads_within, refused_by}
use Rattle.stair_nbd.proofs.blocks.read.Goals as goal
use Rattle.stair_nbd.proofs.blocks.read.Goals.{then-is_too_long-via-else-is_too_long+then-is_past, then-is_too_long-via-then-is_too_long}

pub returns-then-is_too_long-clause-comes : goal.returns-then-is_too_long-clause-comes
returns-then-is_too_long-clause-comes g c k =
    let q = c.args.request.now in
    let of = c.args.array.now.member.array.geometry in
    let refused : (is_too_long q || is_past (size_of of) q) ≡ true =
    elim c.then-is_too_long.branch [
      | then-is_too_long-via-then-is_too_long w ↦ ap (λ (long : Bool). long || is_past (size_of of) q) (sym w.if-is_too_long.ensures)
      | then-is_too_long-via-else-is_too_long+then-is_past w ↦
          refused_by _ _ (sym w.if-is_too_long.ensures) (sym (w.if-is_past.ensures ∙ ap (λ (size : ℕ). is_past size q) c.array_size-size.ensures))
    ] in
    read_invalid _ of q _ k _ refused (no_data c.of.result c.args.buffer.now error.Invalid k c.of.ensures.error c.of.ensures.short)

pub returns-in-Ok-clause-comes : goal.returns-in-Ok-clause-comes
returns-in-Ok-clause-comes g c k =
    let q = c.args.request.now in
    let of = c.args.array.now.member.array.geometry in
    let whole = 512 * c.touched-whole.result in
    let long : length (take whole c.args.buffer.now) ≡ whole = omega (
      arith,
      length-take whole c.args.buffer.now,
      c.touched-whole.ensures.within,
      c.requires.room,
    ) in
    let has : 0 < q.length → skipped q + q.length ≤ length c.read_blocks.new.into =
    λ some. omega (arith, touched_covers q some, c.touched-whole.ensures.value, long) in
    reads_within _ of q _ k c.first_block.result _ c.read_blocks.new.into _ _
    (allowed_by _ _ (sym c.if-is_too_long.ensures)
    (sym (c.if-is_past.ensures ∙ ap (λ (size : ℕ). is_past size q) c.array_size-size.ensures))) c.first_block.ensures
    (ap (λ (n : ℕ). n / 512) long ∙ (omega (arith, c.touched-whole.ensures.value)))
    (ap (λ (n : ℕ). take q.length (drop n (c.read_blocks.new.into ++ drop whole c.args.buffer.now))) c.skipped.ensures.value
    ∙ joined_has (skipped q) q.length c.read_blocks.new.into (drop whole c.args.buffer.now) has)
    (c.in-Ok.ensures.comes _ _)
