use Rattle.std.proofs.Common.{◌≡◌, ◌∙◌, Some, None, map, ap}
use Rattle.std.specs.Prelude.{option_map}
use Rattle.std.proofs.lemmas.Result.{IfOk-weaker}
use Rattle.clap.specs.Words.{found_of, matched_of, raw_values}
use Rattle.stair_conf.proofs.RowLemmas.{all_at, no_words_at}
use Rattle.stair_conf.proofs.matches.numbers_of.Goals as goal

pub returns-in_err-ok_or-clause-usage : goal.returns-in_err-ok_or-clause-usage
returns-in_err-ok_or-clause-usage c is_usage numbers has =
    let f = found_of c.args.matches.now in
    let none : None ≡ option_map raw_values (matched_of f c.args.id.now) = rw c.in_err-ok_or.ensures.ok_part at c.get_raw.ensures in
    no_words_at f c.args.id.now _ none has.all

pub returns-clause-ok : goal.returns-clause-ok
returns-clause-ok c =
    let f = found_of c.args.matches.now in
    let at_id : Some (map (λ word. word.now) c.in_ok-ok_or.field-0.now) ≡ option_map raw_values (matched_of f c.args.id.now) =
    rw c.in_ok-ok_or.ensures.ok_part at c.get_raw.ensures in
    let all = all_at f c.args.id.now (map (λ word. word.now) c.in_ok-ok_or.field-0.now) at_id in
    IfOk-weaker c.read_numbers.result _ _ (λ numbers are. record { all = all ∙ ap Some are.spelled; fit = are.fit }) c.read_numbers.ensures.ok

pub returns-clause-usage : goal.returns-clause-usage
returns-clause-usage c is_usage numbers has =
    let f = found_of c.args.matches.now in
    let at_id : Some (map (λ word. word.now) c.in_ok-ok_or.field-0.now) ≡ option_map raw_values (matched_of f c.args.id.now) =
    rw c.in_ok-ok_or.ensures.ok_part at c.get_raw.ensures in
    let all = all_at f c.args.id.now (map (λ word. word.now) c.in_ok-ok_or.field-0.now) at_id in
    let texts = has.all in
    c.read_numbers.ensures.usage is_usage numbers (record { spelled = cc; fit = has.fit })
