use Rattle.clap.specs.Words.{found_of}
use Rattle.stair_conf.specs.Words.{method_word}
use Rattle.stair_conf.proofs.RowLemmas.{method_at, none_at}
use Rattle.stair_conf.proofs.matches.method_of.Goals as goal

pub returns-in_err-get_str : goal.returns-in_err-get_str
returns-in_err-get_str c method = (
  (λ e. cc),
  (λ has. absurd (none_at (found_of c.args.matches.now) c.args.id.now method_word method c.in_err-get_str.ensures has.first)),
)

pub returns : goal.returns
returns c = method_at (found_of c.args.matches.now) c.args.id.now c.in_ok-get_str.field-0.now c.read_method.result
    c.in_ok-get_str.ensures c.read_method.ensures
