use Rattle.std.proofs.Common.{ℕ, subst, sym, arith}
use Rattle.stair_gf.specs.Lanes.{HasProducts}
use Rattle.stair_gf.proofs.LaneLaws.{first_product, products_of_sums}
use Rattle.stair_gf.proofs.lanes.Factor.new.Goals as goal

pub invariant_of-result : goal.invariant_of-result
invariant_of-result c =
    let multiples = c.doublings-multiples.result in
    let tables = products_of_sums c.args.by multiples multiples c.doublings-multiples.ensures c.table.ensures c.table-2.ensures in
    subst (λ (by : ℕ). HasProducts by c.table.result c.table-2.result) (sym (first_product c.args.by (omega arith) tables)) tables

pub returns : goal.returns
returns c =
    let multiples = c.doublings-multiples.result in
    first_product c.args.by (omega arith)
    (products_of_sums c.args.by multiples multiples c.doublings-multiples.ensures c.table.ensures c.table-2.ensures)
