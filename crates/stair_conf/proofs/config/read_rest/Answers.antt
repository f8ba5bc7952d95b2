use Rattle.std.proofs.Common.{◌∙◌, Err, refl, ap}
use Rattle.std.proofs.lemmas.Result.{err_from_is_err_and}
use Rattle.toml.specs.View.{table_view}
use Rattle.stair_conf.specs.declared.key.Key.TheVariants.{Stripes, Id}
use Rattle.stair_conf.proofs.TableLemmas.{before_id, before_stripes, geometry_read, key_refused, limit_refused, says}
use Rattle.stair_conf.proofs.config.read_rest.Goals as goal

pub returns-in_err-stripes : goal.returns-in_err-stripes
returns-in_err-stripes c =
    let t = table_view c.args.table.now in
    let fault = err_from_is_err_and c.from_residual.result c.from_residual.ensures.1 in
    let faulty = c.in_err-stripes.ensures.faulty in
    let before = before_stripes t (c.args.n, c.requires.n) (c.args.m, c.requires.m) (c.args.r, c.requires.r) (c.args.e.now, c.requires.e) in
    key_refused t Stripes _ (fault.1 ∙ ap Err (fault.2 ∙ faulty.0)) before (λ has. faulty.1 has.0 has.1)

pub returns-in_err-id : goal.returns-in_err-id
returns-in_err-id c =
    let t = table_view c.args.table.now in
    let fault = err_from_is_err_and c.from_residual-in_err-id.result c.from_residual-in_err-id.ensures.1 in
    let faulty = c.in_err-id.ensures.faulty in
    let before = before_id t (c.args.n, c.requires.n) (c.args.m, c.requires.m) (c.args.r, c.requires.r) (c.args.e.now, c.requires.e) (c.in_ok-stripes.stripes, c.in_ok-stripes.ensures.ok) in
    key_refused t Id _ (fault.1 ∙ ap Err (fault.2 ∙ faulty.0)) before (λ has. faulty.1 has.0 has.1)

pub returns-in_err-geometry_by : goal.returns-in_err-geometry_by
returns-in_err-geometry_by c =
    let t = table_view c.args.table.now in
    let fault = err_from_is_err_and c.from_residual-in_err-geometry_by.result c.from_residual-in_err-geometry_by.ensures.1 in
    let said = says t _ _ _ _ _ _ _ refl c.requires.n c.requires.m c.requires.r c.requires.e
    c.in_ok-stripes.ensures.ok c.in_ok-id.ensures.ok in
    limit_refused t _ _ _ (fault.1 ∙ ap Err fault.2) said c.in_err-geometry_by.ensures.err

pub returns : goal.returns
returns c =
    let t = table_view c.args.table.now in
    let said = says t _ _ _ _ _ _ _ refl c.requires.n c.requires.m c.requires.r c.requires.e
    c.in_ok-stripes.ensures.ok c.in_ok-id.ensures.ok in
    let ok = c.in_ok-geometry_by.ensures.ok in
    geometry_read t _ _ ok.0 said ok.1 ok.2
