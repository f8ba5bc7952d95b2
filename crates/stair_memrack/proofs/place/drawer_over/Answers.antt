-- The drawer has the memory.
use Rattle.std.proofs.Common.{◌≡◌, ◌+◌, ◌∙◌, ap, rules, arith}
use Rattle.std.specs.Prelude.{vec_capacity}
use Rattle.stair_memrack.proofs.place.drawer_over.Goals as goal

pub returns-clause-room : goal.returns-clause-room
returns-clause-room c =
    let taken : vec_capacity c.in_ok-drawer.drawer ≡ c.len.result + c.args.more = search rules in
    c.loop-cells.invariant.1 ∙ taken ∙ ap (λ n. n + c.args.more) (omega (arith, c.len.ensures, c.args.media.now.ok.0))
