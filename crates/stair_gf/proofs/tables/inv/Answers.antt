use Rattle.std.proofs.Common.{◌-◌, ◌<◌, ap, ◌∙◌, arith}
use Rattle.std.specs.Prelude.{slice_index}
use Rattle.stair_gf.specs.declared.tables.TheConstants.{POWER}
use Rattle.stair_gf.proofs.Logarithms.{inverse_by_tables}
use Rattle.stair_gf.proofs.tables.inv.Goals as goal

pub returns : goal.returns
returns c =
    let byte : c.args.a < 256 = omega (arith, c.ranges.a) in
    c.power.ensures ∙ ap (slice_index POWER) (c.from.ensures ∙ ap (λ k. 255 - k) c.logarithm.ensures) ∙ inverse_by_tables c.args.a c.requires byte
