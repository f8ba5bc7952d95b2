-- What isn't a multiple of a stripe's cells isn't whole stripes.
use Rattle.std.proofs.Common.{◌≡◌, ◌*◌, ◌≤◌, ap₂, ◌∙◌, arith}
use Rattle.std.proofs.lemmas.Nat.{mul-le}
use Rattle.stair_c.proofs.SectorLemmas.{no_stripes}
use Rattle.stair_c.proofs.stripes.stripe_count.Goals as goal

pub returns-else-sectors-cells-eq0-clause-none : goal.returns-else-sectors-cells-eq0-clause-none
returns-else-sectors-cells-eq0-clause-none c =
    let g = c.args.geometry.now in
    let cells : c.from.result * c.from-2.result ≡ g.n * g.r =
    ap₂ (λ a b. a * b) (c.from.ensures ∙ c.n.ensures.value) (c.from-2.ensures ∙ c.r.ensures.value) in
    let some : 1 * 1 ≤ c.from.result * c.from-2.result =
    mul-le 1 1 c.from.result c.from-2.result (omega (arith, c.n.ensures.limits.devices)) (omega (arith, c.n.ensures.limits.rows)) in
    no_stripes g.n g.r (c.from.result * c.from-2.result) c.args.sectors cells
    (omega (arith, some))
    c.if-sectors-cells-eq0.false
