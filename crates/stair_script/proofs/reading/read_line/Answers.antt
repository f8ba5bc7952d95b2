use Rattle.std.proofs.Common.{subst, sym}
use Rattle.std.specs.Str.{IsValidUpTo, valid_up_to}
use Rattle.stair_script.proofs.ReadLemmas.{ReadsLine, no_text_read}
use Rattle.stair_script.proofs.reading.read_line.Goals as goal

pub returns-in_err-ok : goal.returns-in_err-ok
returns-in_err-ok c =
    subst (ReadsLine c.args.line.now) (sym c.from_residual.ensures)
    (no_text_read c.args.line.now c.from_utf8.result _ (λ e. IsValidUpTo c.args.line.now (valid_up_to e)) c.from_utf8.ensures.cases c.in_err-ok.ensures.value)
