use Rattle.std.proofs.Common.{◌∙◌, Err, ap}
use Rattle.std.proofs.lemmas.Result.{err_from_is_err_and}
use Rattle.toml.specs.View.{table_view}
use Rattle.stair_conf.specs.declared.key.Key.TheVariants.{N, M, R, E}
use Rattle.stair_conf.proofs.TableLemmas.{before_e, before_m, before_r, key_refused, none_before}
use Rattle.stair_conf.proofs.config.read_table.Goals as goal

pub returns-in_err-n-clause-answer : goal.returns-in_err-n-clause-answer
returns-in_err-n-clause-answer c not_memory =
    let t = table_view c.args.table.now in
    let fault = err_from_is_err_and c.from_residual.result c.from_residual.ensures.1 in
    let faulty = c.in_err-n.ensures.faulty in
    key_refused t N _ (fault.1 ∙ ap Err (fault.2 ∙ faulty.0)) (none_before t) (λ has. faulty.1 has.0 has.1)

pub returns-in_err-m-clause-answer : goal.returns-in_err-m-clause-answer
returns-in_err-m-clause-answer c not_memory =
    let t = table_view c.args.table.now in
    let fault = err_from_is_err_and c.from_residual-in_err-m.result c.from_residual-in_err-m.ensures.1 in
    let faulty = c.in_err-m.ensures.faulty in
    let before = before_m t (c.in_ok-n.n, c.in_ok-n.ensures.ok) in
    key_refused t M _ (fault.1 ∙ ap Err (fault.2 ∙ faulty.0)) before (λ has. faulty.1 has.0 has.1)

pub returns-in_err-r-clause-answer : goal.returns-in_err-r-clause-answer
returns-in_err-r-clause-answer c not_memory =
    let t = table_view c.args.table.now in
    let fault = err_from_is_err_and c.from_residual-in_err-r.result c.from_residual-in_err-r.ensures.1 in
    let faulty = c.in_err-r.ensures.faulty in
    let before = before_r t (c.in_ok-n.n, c.in_ok-n.ensures.ok) (c.in_ok-m.m, c.in_ok-m.ensures.ok) in
    key_refused t R _ (fault.1 ∙ ap Err (fault.2 ∙ faulty.0)) before (λ has. faulty.1 has.0 has.1)

pub returns-in_err-e-clause-answer : goal.returns-in_err-e-clause-answer
returns-in_err-e-clause-answer c not_memory =
    let t = table_view c.args.table.now in
    let fault = err_from_is_err_and c.from_residual-in_err-e.result c.from_residual-in_err-e.ensures.1 in
    let faulty = c.in_err-e.ensures.faulty (λ memory. not_memory (fault.1 ∙ ap Err (fault.2 ∙ memory))) in
    let before = before_e t (c.in_ok-n.n, c.in_ok-n.ensures.ok) (c.in_ok-m.m, c.in_ok-m.ensures.ok) (c.in_ok-r.r, c.in_ok-r.ensures.ok) in
    key_refused t E _ (fault.1 ∙ ap Err (fault.2 ∙ faulty.0)) before (λ has. faulty.1 has.0 has.1)
