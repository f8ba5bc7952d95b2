use Rattle.stair_conf.specs.Config.{number}
use Rattle.stair_conf.proofs.ConfigLemmas.{not_read, read_as}
use Rattle.stair_conf.proofs.config.number_at.Goals as goal

pub returns-clause-ok : goal.returns-clause-ok
returns-clause-ok c =
    rw c.ok_or.ensures.value (read_as c.whole_number.result number _ _ _ c.in_ok-value_at.ensures.ok c.whole_number.ensures)

pub returns-clause-faulty : goal.returns-clause-faulty
returns-clause-faulty c =
    rw c.ok_or.ensures.value (not_read c.whole_number.result number _ _ _ c.in_ok-value_at.ensures.ok c.whole_number.ensures)
