use Rattle.std.proofs.Common.{◌≡◌, ◌≤◌, ◌∙◌, Err, drop, length, map, string_bytes, codes, refl, sym, ap, subst, arith, length-drop, List}
use Rattle.std.proofs.lemmas.List.{length-map}
use Rattle.std.proofs.lemmas.List.Elements.{All-drop}
use Rattle.std.proofs.lemmas.Result.{err_from_is_err_and}
use Rattle.clap.specs.Lexer.{usize_max}
use Rattle.clap.specs.Words.{App, Row, takes}
use Rattle.stair_conf.specs.declared.fault.WordsFault.TheVariants.{Usage}
use Rattle.stair_conf.specs.Commands.{IsPlainWord, stripe_app}
use Rattle.stair_conf.specs.Rows.{HasGeometry, HasMethodWord}
use Rattle.stair_conf.proofs.CommandLaws.{rows_of-matches, stripe_taken, stripe_tells, stripe_told}
use Rattle.stair_conf.proofs.commands.read_stripe.Goals as goal

-- words that spell a method and a geometry are taken, unless memory runs out
pub returns-in_err-matches-clause-usage : goal.returns-in_err-matches-clause-usage
returns-in_err-matches-clause-usage c is_usage method n m r e spells =
    let words = map string_bytes c.args.words.now in
    let few : length (drop 1 words) ≤ usize_max = omega (arith, length-drop 1 words, length-map c.args.words.now string_bytes) in
    let fault = err_from_is_err_and c.from_residual-in_err-matches.result c.from_residual-in_err-matches.ensures.1 in
    let end : c.from_residual-in_err-matches.result ≡ Err fault.0 = fault.1 in
    let is : fault.0 ≡ Usage = cc in
    c.in_err-matches.ensures.usage (ap Err (sym fault.2 ∙ is))
    (ap (λ (a : App). takes a words) c.in_ok-stripe_command.ensures
    ∙ stripe_taken (drop 1 words) (All-drop IsPlainWord 1 words c.requires) few method n m r e spells)

-- the word METHOD is no method
pub returns-in_err-method-clause-usage : goal.returns-in_err-method-clause-usage
returns-in_err-method-clause-usage c is_usage method n m r e spells =
    let words = map string_bytes c.args.words.now in
    let rows = rows_of-matches _ stripe_app words c.in_ok-matches.matches c.in_ok-stripe_command.ensures refl c.in_ok-matches.ensures.ok in
    let has = stripe_tells (drop 1 words) (All-drop IsPlainWord 1 words c.requires) method n m r e spells in
    let read = (c.method_of.ensures method).1 (subst (λ (rs : List Row). HasMethodWord rs (codes "METHOD") method) (sym rows) has.0) in
    let none = c.in_err-method.ensures.ok_part in
    cc

-- the words after it are no geometry
pub returns-in_err-geometry_of-clause-usage : goal.returns-in_err-geometry_of-clause-usage
returns-in_err-geometry_of-clause-usage c is_usage method n m r e spells =
    let words = map string_bytes c.args.words.now in
    let rows = rows_of-matches _ stripe_app words c.in_ok-matches.matches c.in_ok-stripe_command.ensures refl c.in_ok-matches.ensures.ok in
    let has = stripe_tells (drop 1 words) (All-drop IsPlainWord 1 words c.requires) method n m r e spells in
    let fault = err_from_is_err_and c.from_residual-in_err-geometry_of.result c.from_residual-in_err-geometry_of.ensures.1 in
    let end : c.from_residual-in_err-geometry_of.result ≡ Err fault.0 = fault.1 in
    let is : fault.0 ≡ Usage = cc in
    c.in_err-geometry_of.ensures.usage (ap Err (sym fault.2 ∙ is)) n m r e
    (subst (λ (rs : List Row). HasGeometry rs n m r e) (sym rows) has.1)

pub returns-clause-ok : goal.returns-clause-ok
returns-clause-ok c =
    let words = map string_bytes c.args.words.now in
    let rows = rows_of-matches _ stripe_app words c.in_ok-matches.matches c.in_ok-stripe_command.ensures refl c.in_ok-matches.ensures.ok in
    let method = c.in_ok-method.method in
    let g = c.in_ok-geometry_of.field-0 in
    stripe_told (drop 1 words) (All-drop IsPlainWord 1 words c.requires) method g.n g.m g.r g.e
    (subst (λ (rs : List Row). HasMethodWord rs (codes "METHOD") method) rows ((c.method_of.ensures method).0 c.in_ok-method.ensures.ok_part))
    (subst (λ (rs : List Row). HasGeometry rs g.n g.m g.r g.e) rows c.in_ok-geometry_of.ensures.ok)
