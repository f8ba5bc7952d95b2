use Rattle.std.proofs.Common.{◌≡◌, ◌∙◌, Option, Some, None, ap, ap₂, codes, rules}
use Rattle.std.specs.Prelude.{IsSomeAnd}
use Rattle.std.proofs.lemmas.Result.{IfOk-weaker}
use Rattle.clap.specs.Lexer.{usize_max}
use Rattle.clap.specs.Words.{Rule, app_of, rule_of, with_rule}
use Rattle.clap.specs.declared.builder.arg.Arg.{Arg}
use Rattle.clap.specs.declared.builder.range.ValueRange.{ValueRange}
use Rattle.stair_conf.specs.Commands.{one_word, some_words}
use Rattle.stair_conf.proofs.commands.with_geometry.Goals as goal

the_value : (o : Option ValueRange) (x : ValueRange) → IsSomeAnd o (λ range. range ≡ x) → o ≡ Some x
the_value None x some = absurd some
the_value (Some y) x some = ap Some some

-- the rule of an argument that got a range
rule_of-range : (a b : Arg) (x : ValueRange) → b ≡ record a { num_vals = b.num_vals } → IsSomeAnd b.num_vals (λ range. range ≡ x)
    → rule_of b ≡ record (rule_of a) { range = Some x }
rule_of-range a b x same some =
    ap rule_of same ∙ ap (λ o. record (rule_of a) { range = o }) (the_value b.num_vals x some)

pub returns : goal.returns
returns c =
    let given : (c.num_args.result ≡ record c.one_word-4.result { num_vals = c.num_args.result.num_vals })
    × IsSomeAnd c.num_args.result.num_vals (λ range. range ≡ record { start_inclusive = 1; end_inclusive = usize_max }) =
    c.num_args.ensures in
    let base_is : rule_of c.one_word-4.result ≡ one_word (codes "E") = search rules in
    let e_is : rule_of c.num_args.result ≡ some_words (codes "E") =
    rule_of-range c.one_word-4.result c.num_args.result _ given.0 given.1
    ∙ ap (λ (a : Rule). record a { range = Some (record { start_inclusive = 1; end_inclusive = usize_max }) }) base_is in
    let n_is : rule_of c.one_word.result ≡ one_word (codes "N") = search rules in
    let m_is : rule_of c.one_word-2.result ≡ one_word (codes "M") = search rules in
    let r_is : rule_of c.one_word-3.result ≡ one_word (codes "R") = search rules in
    IfOk-weaker c.arg-4.result _ _ (λ whole added. added.shape (search rules)
    ∙ ap₂ with_rule (c.in_ok-arg-3.ensures.shape (search rules)
    ∙ ap₂ with_rule (c.in_ok-arg-2.ensures.shape (search rules)
    ∙ ap₂ with_rule (c.in_ok-arg.ensures.shape (search rules) ∙ ap (with_rule (app_of c.args.command)) n_is) m_is) r_is) e_is) c.arg-4.ensures
