-- The table was set, or not.
use Rattle.std.proofs.Common.{◌∙◌, Err, Ok, sym}
use Rattle.stair_volume.specs.declared.fault.VolumeFault.TheVariants as fault
use Rattle.stair_volume.proofs.ChangingLaws.{comes_failed, comes_line, removed_set}
use Rattle.stair_volume.proofs.changing.remove.Goals as goal

pub returns-in_err-set_table-clause-comes : goal.returns-in_err-set_table-clause-comes
returns-in_err-set_table-clause-comes g c =
    let of = c.args.array.now.member.array.geometry in
    comes_failed _ of.n c.from_residual-in_err-set_table.result (fault.Array c.in_err-set_table.field-0.0) c.from_residual-in_err-set_table.ensures.1
    (removed_set _ of c.args.table.now c.in_ok-shrunk.shrunk c.args.name (Err c.in_err-set_table.field-0.0) (sym c.without.ensures ∙ c.in_ok-shrunk.was)
    c.in_err-set_table.ensures.comes)

pub returns-clause-comes : goal.returns-clause-comes
returns-clause-comes g c =
    let of = c.args.array.now.member.array.geometry in
    comes_line _ of.n c.dropped_line.result _ c.dropped_line.ensures
    (removed_set _ of c.args.table.now c.in_ok-shrunk.shrunk c.args.name (Ok tt) (sym c.without.ensures ∙ c.in_ok-shrunk.was)
    c.in_ok-set_table.ensures.comes)
