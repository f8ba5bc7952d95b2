use Rattle.std.specs.Fmt.{decimal}
use Rattle.clap.specs.Words.{found_of}
use Rattle.stair_conf.proofs.RowLemmas.{none_at, number_at}
use Rattle.stair_conf.proofs.matches.number_of.Goals as goal

pub returns-in_err-get_str : goal.returns-in_err-get_str
returns-in_err-get_str c n = (
  (λ e. cc),
  (λ has. absurd (none_at (found_of c.args.matches.now) c.args.id.now decimal n c.in_err-get_str.ensures has.first)),
)

pub returns : goal.returns
returns c = number_at (found_of c.args.matches.now) c.args.id.now c.in_ok-get_str.field-0.now c.read_number.result
    c.in_ok-get_str.ensures c.read_number.ensures
