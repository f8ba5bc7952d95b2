use Rattle.std.proofs.Common.{subst, sym}
use Rattle.std.specs.Str.{IsValidUpTo, valid_up_to}
use Rattle.stair_monitor.proofs.ReadLemmas.{ReadsEvent, no_text_read}
use Rattle.stair_monitor.proofs.reading.read_event.Goals as goal

pub returns-in_err-ok : goal.returns-in_err-ok
returns-in_err-ok c =
    subst (ReadsEvent c.args.line.now) (sym c.from_residual.ensures)
    (no_text_read c.args.line.now c.from_utf8.result _ (λ e. IsValidUpTo c.args.line.now (valid_up_to e)) c.from_utf8.ensures.cases c.in_err-ok.ensures.value)
