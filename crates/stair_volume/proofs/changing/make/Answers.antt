-- There is no room for it; or its blocks were cleared, and the table was set.
use Rattle.std.proofs.Common.{◌∙◌, Err, Ok, ap, sym}
use Rattle.stair_volume.specs.Commands.{makes}
use Rattle.stair_volume.specs.declared.fault.VolumeFault.TheVariants as fault
use Rattle.stair_volume.proofs.ChangingLaws.{comes_failed, comes_line, comes_still, found_err, found_ok, made_none, made_set, made_within}
use Rattle.stair_volume.proofs.changing.make.Goals as goal

pub returns-in_err-grown-clause-comes : goal.returns-in_err-grown-clause-comes
returns-in_err-grown-clause-comes g c =
    let of = c.args.array.now.member.array.geometry in
    comes_still _ _ of.n c.from_residual.result (fault.Table c.in_err-grown.field-0.0) (ap (makes of c.args.name) (sym c.with.ensures ∙ c.in_err-grown.was))
    c.from_residual.ensures.1

pub returns-in_err-extent-clause-comes : goal.returns-in_err-extent-clause-comes
returns-in_err-extent-clause-comes g c =
    let of = c.args.array.now.member.array.geometry in
    let none = found_err c.find.result c.ok_or.result c.in_err-extent.field-0.0 c.ok_or.ensures.value c.in_err-extent.was in
    comes_still _ _ of.n c.from_residual-in_err-extent.result (fault.Table c.in_err-extent.field-0.0)
    (made_none of c.args.table.now c.in_ok-grown.grown c.args.name c.args.blocks (sym c.with.ensures ∙ c.in_ok-grown.was) _ (sym c.find.ensures ∙ none.none) none.fault)
    c.from_residual-in_err-extent.ensures.1

pub clear-requires-clause-within : goal.clear-requires-clause-within
clear-requires-clause-within g c =
    made_within c.args.table.now c.in_ok-grown.grown c.args.name c.args.blocks _ c.in_ok-extent.extent (sym c.with.ensures ∙ c.in_ok-grown.was) c.entries.ensures.rules
    (sym c.find.ensures ∙ found_ok c.find.result c.ok_or.result c.in_ok-extent.extent c.ok_or.ensures.value c.in_ok-extent.was) c.requires.of

pub returns-in_err-set_table-clause-comes : goal.returns-in_err-set_table-clause-comes
returns-in_err-set_table-clause-comes g c =
    let of = c.args.array.now.member.array.geometry in
    comes_failed _ of.n c.from_residual-in_err-set_table.result (fault.Array c.in_err-set_table.field-0.0) c.from_residual-in_err-set_table.ensures.1
    (made_set _ of c.args.table.now c.in_ok-grown.grown c.args.name c.args.blocks (sym c.with.ensures ∙ c.in_ok-grown.was) c.in_ok-extent.extent
    (sym c.find.ensures ∙ found_ok c.find.result c.ok_or.result c.in_ok-extent.extent c.ok_or.ensures.value c.in_ok-extent.was)
    c.clear.new.array.member.array.geometry (Err c.in_err-set_table.field-0.0) c.in_ok-clear.ensures.comes c.clear.ensures.geometry
    c.in_err-set_table.ensures.comes)

pub returns-clause-comes : goal.returns-clause-comes
returns-clause-comes g c =
    let of = c.args.array.now.member.array.geometry in
    comes_line _ of.n c.made_line.result _ c.made_line.ensures
    (made_set _ of c.args.table.now c.in_ok-grown.grown c.args.name c.args.blocks (sym c.with.ensures ∙ c.in_ok-grown.was) c.in_ok-extent.extent
    (sym c.find.ensures ∙ found_ok c.find.result c.ok_or.result c.in_ok-extent.extent c.ok_or.ensures.value c.in_ok-extent.was)
    c.clear.new.array.member.array.geometry (Ok tt) c.in_ok-clear.ensures.comes c.clear.ensures.geometry c.in_ok-set_table.ensures.comes)
