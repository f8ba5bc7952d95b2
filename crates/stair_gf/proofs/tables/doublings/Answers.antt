use Rattle.std.proofs.Common.{◌<◌, subst, sym, ap, ◌∙◌, arith, replicate}
use Rattle.std.specs.Simd.Lanes.{chunk}
use Rattle.stair_gf.specs.Lanes.{HasDoublings}
use Rattle.stair_gf.specs.declared.tables.TheConstants.{POWER}
use Rattle.stair_gf.proofs.Logarithms.{doublings_of_none, doublings_by_tables}
use Rattle.stair_gf.proofs.tables.doublings.Goals as goal
use Rattle.stair_gf.proofs.tables.doublings.Goals.{then-by-eq0, else-by-eq0}

pub returns : goal.returns
returns c =
    elim c.if-by-eq0.branch [
      | then-by-eq0 w ↦
          subst (HasDoublings c.args.by) (sym w.result-is) (subst (λ by. HasDoublings by (replicate 16 0)) (sym w.if-by-eq0.true) doublings_of_none)
      | else-by-eq0 w ↦
          let byte : c.args.by < 256 = omega (arith, c.ranges.by) in
          let positive : 0 < c.args.by = omega (arith, w.if-by-eq0.false) in
          subst (HasDoublings c.args.by) (sym (w.result-is ∙ w.powers_from.ensures ∙ ap (λ s. chunk s 16 POWER) (w.from.ensures ∙ w.logarithm.ensures)))
          (doublings_by_tables c.args.by positive byte)
    ]
