use Rattle.std.proofs.Common.{◌+◌, ◌<◌, ap, ap₂, sym, ◌∙◌, arith}
use Rattle.std.specs.Prelude.{slice_index}
use Rattle.stair_gf.specs.declared.tables.TheConstants.{POWER}
use Rattle.stair_model.specs.Field.{product}
use Rattle.stair_model.proofs.FieldLaws.{product-zero_left, product-zero_right}
use Rattle.stair_gf.proofs.Logarithms.{product_by_tables}
use Rattle.stair_gf.proofs.tables.mul.Goals as goal
use Rattle.stair_gf.proofs.tables.mul.Goals.{then-a-eq0-via-then-a-eq0, then-a-eq0-via-else-a-eq0+then-b-eq0}

pub returns-then-a-eq0 : goal.returns-then-a-eq0
returns-then-a-eq0 c =
    elim c.then-a-eq0.branch [
      | then-a-eq0-via-then-a-eq0 w ↦ sym (ap (λ x. product x c.args.b) w.if-a-eq0.true ∙ product-zero_left c.args.b)
      | then-a-eq0-via-else-a-eq0+then-b-eq0 w ↦ sym (ap (product c.args.a) w.if-b-eq0.true ∙ product-zero_right c.args.a)
    ]

pub returns : goal.returns
returns c =
    let a_byte : c.args.a < 256 = omega (arith, c.ranges.a) in
    let b_byte : c.args.b < 256 = omega (arith, c.ranges.b) in
    let a_positive : 0 < c.args.a = omega (arith, c.if-a-eq0.false) in
    let b_positive : 0 < c.args.b = omega (arith, c.if-b-eq0.false) in
    c.power.ensures ∙ ap₂ (λ j k. slice_index POWER (j + k)) (c.from.ensures ∙ c.logarithm.ensures) (c.from-2.ensures ∙ c.logarithm-2.ensures)
    ∙ product_by_tables c.args.a c.args.b a_positive a_byte b_positive b_byte
