-- The bytes that were left are those that the piece begins with now, and those that are left.
use Rattle.std.proofs.Common.{◌≡◌, ◌+◌, ◌-◌, ◌≤◌, length, drop, sym, ap, ◌∙◌, arith}
use Rattle.stair_rack.specs.MemSource.{MemSourceState}
use Rattle.stair_rack.proofs.Copied.{drop-copied}
use Rattle.stair_rack.proofs.mem_source.MemSourceSource.take.Goals as goal

pub returns-clause-bytes : goal.returns-clause-bytes
returns-clause-bytes c =
    let before : drop c.self.inside.given c.self.inside.bytes.items ≡ c.args.self.now.left =
    ap (λ (s : MemSourceState). s.left) c.self.view_is in
    let copied = rw c.deref.ensures.value at c.copy_from_slice.ensures.after in
    let size : c.self.inside.given + c.min-size.result - c.self.inside.given ≡ c.min-size.result = omega arith in
    let room : c.self.inside.given + c.min-size.result ≤ length c.self.inside.bytes.items = omega arith in
    sym before ∙ drop-copied _ _ _ _ _ _ size room copied
