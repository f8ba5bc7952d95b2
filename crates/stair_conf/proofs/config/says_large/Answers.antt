-- The value of the key, looked at as a boolean.
use Rattle.std.proofs.Common.{◌≡◌, ◌∙◌, Option, Some, None, Bool, Bor, ap, false, subst, sym}
use Rattle.std.specs.Prelude.{IsTrue, codes, option_map, unwrap_or}
use Rattle.std.proofs.lemmas.Option.{same_Some}
use Rattle.toml.specs.Data.{as_bool, get_member}
use Rattle.toml.specs.View.{table_view, view}
use Rattle.toml.specs.declared.value.Value.{Value}
use Rattle.toml.proofs.Views.{table_get}
use Rattle.stair_conf.proofs.ConfigLemmas.{true_value}
use Rattle.stair_conf.proofs.config.says_large.Goals as goal

pub returns-in-Some : goal.returns-in-Some
returns-in-Some c =
    let found = table_get c.get.result (codes "large") c.args.table.now.entries c.get.ensures.value in
    let here : get_member (codes "large") (table_view c.args.table.now) ≡ Some (view c.in-Some.value.now) =
    sym found ∙ ap (λ (r : Option (Bor Value)). option_map (λ x. view x.now) r) c.in-Some.is in
    let is = true_value (view c.in-Some.value.now) in
    let said : c.unwrap_or.result ≡ unwrap_or (as_bool (view c.in-Some.value.now)) false =
    c.unwrap_or.ensures ∙ ap (λ (b : Option Bool). unwrap_or b false) c.as_bool.ensures in (
      (λ yes. here ∙ ap Some (is.0 (subst IsTrue said yes))),
      (λ some. subst IsTrue (sym said) (is.1 (same_Some _ _ (sym here ∙ some)))),
    )

pub returns-in-None : goal.returns-in-None
returns-in-None c =
    let found = table_get c.get.result (codes "large") c.args.table.now.entries c.get.ensures.value in
    let here : get_member (codes "large") (table_view c.args.table.now) ≡ None =
    sym found ∙ ap (λ (r : Option (Bor Value)). option_map (λ x. view x.now) r) c.in-None.is in
    ((λ yes. cc), (λ some. cc))
