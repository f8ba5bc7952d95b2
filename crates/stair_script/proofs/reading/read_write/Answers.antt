use Rattle.std.proofs.Common.{◌∙◌, ◌++◌, Some, None, ap, lit<, subst, sym}
use Rattle.std.specs.Prelude.{codes}
use Rattle.std.specs.Result.{result_ok}
use Rattle.std.proofs.lemmas.Str.Pattern.{split_parts}
use Rattle.stair_script.proofs.ReadLemmas.{ReadsLine, digits_read, no_digits_read, no_number_read, no_write_read, split_at_space, write_read}
use Rattle.stair_script.proofs.reading.read_write.Goals as goal

pub returns-in_err-block : goal.returns-in_err-block
returns-in_err-block c =
    subst (ReadsLine (codes "write " ++ c.args.values.now)) (sym c.from_residual.ensures)
    (no_write_read c.args.values.now (split_parts 32 c.args.values.now None c.in_err-block.ensures.cases (lit< tt)))

pub returns-in_err-read_number : goal.returns-in_err-read_number
returns-in_err-read_number c =
    let parts = split_at_space c.args.values.now c.in_ok-block.block c.in_ok-block.digits c.in_ok-block.ensures.cases in
    subst (ReadsLine (codes "write " ++ c.args.values.now)) (sym c.from_residual-in_err-read_number.ensures)
    (no_number_read c.args.values.now c.in_ok-block.block.now c.in_ok-block.digits.now parts.0 parts.1 c.in_err-read_number.ensures)

pub returns-in_err-ok : goal.returns-in_err-ok
returns-in_err-ok c =
    let parts = split_at_space c.args.values.now c.in_ok-block.block c.in_ok-block.digits c.in_ok-block.ensures.cases in
    subst (ReadsLine (codes "write " ++ c.args.values.now)) (sym c.from_residual-in_err-ok.ensures)
    (no_digits_read c.args.values.now c.in_ok-block.block.now c.in_ok-block.digits.now parts.0 parts.1
    (digits_read c.in_ok-block.digits.now None (c.in_err-ok.ensures.value ∙ ap result_ok c.from_hex.ensures)))

pub returns : goal.returns
returns c =
    let parts = split_at_space c.args.values.now c.in_ok-block.block c.in_ok-block.digits c.in_ok-block.ensures.cases in
    write_read c.args.values.now c.in_ok-block.block.now c.in_ok-block.digits.now c.in_ok-read_number.field-0 c.in_ok-ok.field-0 parts.0 parts.1
    c.in_ok-read_number.ensures
    (digits_read c.in_ok-block.digits.now (Some c.in_ok-ok.field-0) (c.in_ok-ok.ensures.value ∙ ap result_ok c.from_hex.ensures))
