-- The table was set, or not.
use Rattle.std.proofs.Common.{arith}
use Rattle.stair_model.proofs.LimitLaws.{block_count_few}
use Rattle.stair_volume.specs.declared.fault.VolumeFault.TheVariants as fault
use Rattle.stair_volume.proofs.ChangingLaws.{comes_failed, comes_from, comes_line, ready_program}
use Rattle.stair_volume.proofs.changing.make_ready.Goals as goal

pub returns-in_err-set_table-clause-comes : goal.returns-in_err-set_table-clause-comes
returns-in_err-set_table-clause-comes g c =
    let of = c.args.array.now.member.array.geometry in
    comes_failed _ of.n c.from_residual.result (fault.Array c.in_err-set_table.field-0.0) c.from_residual.ensures.1
    (comes_from _ (ready_program of c.geometry.result c.empty-empty.result c.blocks-2.result c.empty-empty.ensures c.blocks-2.ensures.value c.geometry.ensures)
    (c.in_err-set_table.ensures.comes _))

pub returns-clause-comes : goal.returns-clause-comes
returns-clause-comes g c =
    let of = c.args.array.now.member.array.geometry in
    comes_line _ of.n c.ready_line.result _ c.ready_line.ensures
    (comes_from _ (ready_program of c.geometry.result c.empty-empty.result c.blocks-2.result c.empty-empty.ensures c.blocks-2.ensures.value c.geometry.ensures)
    (c.in_ok-set_table.ensures.comes _))

pub empty-empty-requires : goal.empty-empty-requires
empty-empty-requires g c = omega (arith, block_count_few c.geometry.result c.blocks-2.ensures.limits, c.blocks-2.ensures.value)
