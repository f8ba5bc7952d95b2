use Rattle.std.proofs.Common.{ℕ, List}
use Rattle.clap.specs.Words.{found_of}
use Rattle.stair_conf.proofs.RowLemmas.{none_at, text_at}
use Rattle.stair_conf.proofs.matches.text_of.Goals as goal

pub returns-in_err-get_str : goal.returns-in_err-get_str
returns-in_err-get_str c text = (
  (λ e. cc),
  (λ has. absurd (none_at (found_of c.args.matches.now) c.args.id.now (λ (word : List ℕ). word) text c.in_err-get_str.ensures has.first)),
)

pub returns : goal.returns
returns c = text_at (found_of c.args.matches.now) c.args.id.now c.in_ok-get_str.field-0.now c.read_text.result
    c.in_ok-get_str.ensures c.read_text.ensures
