use Rattle.std.proofs.Common.{ℕ, List}
use Rattle.clap.specs.Words.{found_of}
use Rattle.stair_conf.proofs.RowLemmas.{name_at, none_at}
use Rattle.stair_conf.proofs.matches.name_of.Goals as goal

pub returns-in_err-get_str : goal.returns-in_err-get_str
returns-in_err-get_str c name = (
  (λ e. cc),
  (λ has. absurd (none_at (found_of c.args.matches.now) c.args.id.now (λ (word : List ℕ). word) name c.in_err-get_str.ensures has.first)),
)

pub returns : goal.returns
returns c = name_at (found_of c.args.matches.now) c.args.id.now c.in_ok-get_str.field-0.now c.new.result
    c.in_ok-get_str.ensures (rw (← c.as_bytes.ensures.value) c.new.ensures)
