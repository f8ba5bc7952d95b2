use Rattle.toml.specs.View.{view}
use Rattle.toml.proofs.Views.{table_get}
use Rattle.stair_conf.proofs.ConfigLemmas.{found_as, not_found}
use Rattle.stair_conf.proofs.config.value_at.Goals as goal

pub returns-clause-ok : goal.returns-clause-ok
returns-clause-ok c =
    let found = table_get c.get.result c.name.result.now c.args.table.now.entries c.get.ensures.value in
    rw (c.ok_or.ensures.value, ← c.name.ensures) (found_as c.get.result (λ value. view value.now) _ _ found)

pub returns-clause-faulty : goal.returns-clause-faulty
returns-clause-faulty c =
    let found = table_get c.get.result c.name.result.now c.args.table.now.entries c.get.ensures.value in
    rw (c.ok_or.ensures.value, ← c.name.ensures) (not_found c.get.result (λ value. view value.now) _ _ found)
