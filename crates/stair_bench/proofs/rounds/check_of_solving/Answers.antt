use Rattle.std.proofs.Common.{◌≡◌, ◌∙◌, ap, ◌≤◌, ◌-◌, arith, rules}
use Rattle.std.specs.List.{range_with_len}
use Rattle.stair_bench.proofs.Places.{held_are_known, others_are_wanted}
use Rattle.stair_bench.proofs.rounds.check_of_solving.Goals as goal

pub solve_rounds-requires-clause-known : goal.solve_rounds-requires-clause-known
solve_rounds-requires-clause-known g c =
    let code = c.in_ok-mds.mds in
    let held : c.from-held.result ≡ code.shape.held = search rules in
    let within : code.shape.held ≤ code.shape.total = search rules in
    let count : c.from-held.result - 0 ≡ code.shape.held = omega (arith, held) in
    held_are_known code.shape _ within (c.deref.ensures.value ∙ c.in_ok-known.ensures ∙ ap (range_with_len 0) count)

pub solve_rounds-requires-clause-wanted : goal.solve_rounds-requires-clause-wanted
solve_rounds-requires-clause-wanted g c =
    let code = c.in_ok-mds.mds in
    let held : c.from-held.result ≡ code.shape.held = search rules in
    let total : c.from-total.result ≡ code.shape.total = search rules in
    let within : code.shape.held ≤ code.shape.total = search rules in
    let count : c.from-held.result - 0 ≡ code.shape.held = omega (arith, held) in
    let others = ap (λ h. range_with_len h (c.from-total.result - h)) held
    ∙ ap (λ t. range_with_len code.shape.held (t - code.shape.held)) total in
    others_are_wanted code.shape _ _ within
    (c.deref.ensures.value ∙ c.in_ok-known.ensures ∙ ap (range_with_len 0) count)
    (c.deref-2.ensures.value ∙ c.in_ok-wanted.ensures ∙ others)
