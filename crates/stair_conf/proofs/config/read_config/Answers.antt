use Rattle.std.proofs.Common.{◌≡◌, ◌∙◌, ℕ, List, Err, None, Some, ap, refl, subst}
use Rattle.std.proofs.lemmas.Result.{err_from_is_err_and}
use Rattle.toml.specs.Parse.{parse_document}
use Rattle.toml.specs.View.{table_view}
use Rattle.stair_conf.specs.Config.TextReadsAs.{table}
use Rattle.stair_conf.specs.declared.key.Key.TheVariants.{N}
use Rattle.stair_conf.proofs.TableLemmas.{blank_has_no_number, not_toml_read}
use Rattle.stair_conf.proofs.config.read_config.Goals as goal

-- bytes that are no text are no TOML
pub returns-in_default-clause-answer : goal.returns-in_default-clause-answer
returns-in_default-clause-answer c not_memory =
    not_toml_read c.args.text.now _ refl (λ utf8. absurd (c.in_default.ensures.cases.0 utf8))

pub returns-in_err-table_from_str-clause-answer : goal.returns-in_err-table_from_str-clause-answer
returns-in_err-table_from_str-clause-answer c not_memory =
    let text : c.in-Ok.text.now ≡ c.args.text.now = c.in-Ok.ensures.cases.0 in
    let fault = err_from_is_err_and c.from_residual.result c.from_residual.ensures.1 in
    let refused = c.in_err-table_from_str.ensures.refused (λ memory. not_memory (fault.1 ∙ ap Err (fault.2.0 memory))) in
    let is = fault.2.1 (λ memory. not_memory (fault.1 ∙ ap Err (fault.2.0 memory))) in
    not_toml_read c.args.text.now _ (fault.1 ∙ ap Err is) (λ utf8. subst (λ (bytes : List ℕ). parse_document bytes ≡ None) text refused)

pub returns-clause-answer : goal.returns-clause-answer
returns-clause-answer c not_memory =
    let text : c.in-Ok.text.now ≡ c.args.text.now = c.in-Ok.ensures.cases.0 in
    let t = table_view c.in_ok-table_from_str.field-0 in
    let document = subst (λ (bytes : List ℕ). parse_document bytes ≡ Some t) text c.in_ok-table_from_str.ensures.ok in
    table t _ (record { utf8 = c.in-Ok.ensures.cases.1; document = document }) (c.read_table.ensures.answer not_memory)

-- a table for which memory is taken has a key
pub returns-clause-memory : goal.returns-clause-memory
returns-clause-memory c memory =
    let text : c.in-Ok.text.now ≡ c.args.text.now = c.in-Ok.ensures.cases.0 in
    let t = table_view c.in_ok-table_from_str.field-0 in
    let document = subst (λ (bytes : List ℕ). parse_document bytes ≡ Some t) text c.in_ok-table_from_str.ensures.ok in
    let has = (c.read_table.ensures.memory memory).n in
    (c.in-Ok.ensures.cases.1, λ blank. blank_has_no_number c.args.text.now t N has.0 document blank has.1)
