-- One piece after the other.
use Rattle.std.proofs.Common.{◌∙◌, ◌+◌, ◌-◌, ◌*◌, ◌≡◌, ℕ, ap, arith, drop, length, refl, take}
use Rattle.stair_array.specs.Promise.{Opened}
use Rattle.stair_model.specs.Geometry.{Geometry}
use Rattle.stair_command.specs.Devices.{devices}
use Rattle.stair_nbd.proofs.TriedLaws.{comes_after}
use Rattle.stair_nbd.proofs.WriteOnLaws.{all_written, none_written, one_written, piece_at, write_refused}
use Rattle.stair_nbd.proofs.blocks.write_blocks.Goals as goal

pub loop-done-init : goal.loop-done-init
loop-done-init g c =
    none_written _ c.args.array.now.member.array.geometry c.args.first c.args.blocks.now
    (devices c.args.rack.now (Opened c.args.array.now) c.args.watchers.now.items) c.requires.whole refl c.requires.stay

pub returns-in_err-write_blocks-clause-comes : goal.returns-in_err-write_blocks-clause-comes
returns-in_err-write_blocks-clause-comes g c refused done =
    let of = c.args.array.now.member.array.geometry in
    let count : c.from-piece.result ≡ piece_at of c.args.first (length c.args.blocks.now) c.loop-done.done =
    c.from-piece.ensures ∙ c.piece_blocks.ensures.value
    ∙ ap (λ (h : Geometry). piece_at h c.args.first (length c.args.blocks.now) c.loop-done.done) c.geometry-geometry.ensures in
    let long : c.loop-done.done + 512 * c.from-piece.result - c.loop-done.done ≡ 512 * c.from-piece.result = omega arith in
    comes_after _ _ _ refused c.from_residual.result _ _ _ c.from_residual.ensures.1
    (write_refused _ c.args.array.now.member.array.geometry c.args.first c.args.blocks.now
    (devices c.args.rack.now (Opened c.args.array.now) c.args.watchers.now.items)
    c.loop-done.done (devices c.loop-done.rack (Opened c.loop-done.array) c.loop-done.watchers.items)
    (devices c.write_blocks.new.rack (Opened c.write_blocks.new.self) c.write_blocks.new.watchers.items) c.loop-done.invariant c.loop-done-test.true
    c.requires.whole c.requires.within c.from-piece.result count
    (take (c.loop-done.done + 512 * c.from-piece.result - c.loop-done.done) (drop c.loop-done.done c.args.blocks.now))
    (ap (λ (n : ℕ). take n (drop c.loop-done.done c.args.blocks.now)) long)
    c.write_blocks.result c.write_blocks.ensures.taken tt c.in_err-write_blocks.was refused done)

pub loop-done-preserved : goal.loop-done-preserved
loop-done-preserved g c =
    let of = c.args.array.now.member.array.geometry in
    let count : c.from-piece.result ≡ piece_at of c.args.first (length c.args.blocks.now) c.loop-done.done =
    c.from-piece.ensures ∙ c.piece_blocks.ensures.value
    ∙ ap (λ (h : Geometry). piece_at h c.args.first (length c.args.blocks.now) c.loop-done.done) c.geometry-geometry.ensures in
    let long : c.loop-done.done + 512 * c.from-piece.result - c.loop-done.done ≡ 512 * c.from-piece.result = omega arith in
    one_written _ c.args.array.now.member.array.geometry c.args.first c.args.blocks.now
    (devices c.args.rack.now (Opened c.args.array.now) c.args.watchers.now.items)
    c.loop-done.done (devices c.loop-done.rack (Opened c.loop-done.array) c.loop-done.watchers.items)
    (devices c.write_blocks.new.rack (Opened c.write_blocks.new.self) c.write_blocks.new.watchers.items) c.loop-done.invariant c.loop-done-test.true
    c.requires.whole c.requires.within c.from-piece.result count
    (take (c.loop-done.done + 512 * c.from-piece.result - c.loop-done.done) (drop c.loop-done.done c.args.blocks.now))
    (ap (λ (n : ℕ). take n (drop c.loop-done.done c.args.blocks.now)) long)
    c.write_blocks.result c.write_blocks.ensures.taken tt c.in_ok-write_blocks.was c.write_blocks.ensures.stay

pub returns-clause-comes : goal.returns-clause-comes
returns-clause-comes g c =
    all_written _ c.args.array.now.member.array.geometry c.args.first c.args.blocks.now
    (devices c.args.rack.now (Opened c.args.array.now) c.args.watchers.now.items)
    c.loop-done.done (devices c.loop-done.rack (Opened c.loop-done.array) c.loop-done.watchers.items) c.loop-done.invariant c.loop-done-test.false
