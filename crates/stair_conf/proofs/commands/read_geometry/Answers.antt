use Rattle.std.proofs.Common.{◌≡◌, ◌≤◌, ◌∙◌, Err, drop, length, map, string_bytes, refl, sym, ap, subst, arith, length-drop, List}
use Rattle.std.proofs.lemmas.List.{length-map}
use Rattle.std.proofs.lemmas.List.Elements.{All-drop}
use Rattle.std.proofs.lemmas.Result.{IfOk-weaker, err_from_is_err_and}
use Rattle.clap.specs.Lexer.{usize_max}
use Rattle.clap.specs.Words.{App, Row, takes}
use Rattle.stair_conf.specs.declared.fault.WordsFault.TheVariants.{Usage}
use Rattle.stair_conf.specs.Commands.{IsPlainWord, geometry_app}
use Rattle.stair_conf.specs.Rows.{HasGeometry}
use Rattle.stair_conf.proofs.CommandLaws.{geometry_taken, geometry_tells, geometry_told, rows_of-matches}
use Rattle.stair_conf.proofs.commands.read_geometry.Goals as goal

-- words that spell a geometry are taken, unless memory runs out
pub returns-in_err-matches-clause-usage : goal.returns-in_err-matches-clause-usage
returns-in_err-matches-clause-usage c is_usage n m r e spells =
    let words = map string_bytes c.args.words.now in
    let few : length (drop 1 words) ≤ usize_max = omega (arith, length-drop 1 words, length-map c.args.words.now string_bytes) in
    let fault = err_from_is_err_and c.from_residual-in_err-matches.result c.from_residual-in_err-matches.ensures.1 in
    let end : c.from_residual-in_err-matches.result ≡ Err fault.0 = fault.1 in
    let is : fault.0 ≡ Usage = cc in
    c.in_err-matches.ensures.usage (ap Err (sym fault.2 ∙ is))
    (ap (λ (a : App). takes a words) c.in_ok-geometry_command.ensures
    ∙ geometry_taken (drop 1 words) (All-drop IsPlainWord 1 words c.requires) few n m r e spells)

pub returns-clause-ok : goal.returns-clause-ok
returns-clause-ok c =
    let words = map string_bytes c.args.words.now in
    let rows = rows_of-matches _ geometry_app words c.in_ok-matches.matches c.in_ok-geometry_command.ensures refl c.in_ok-matches.ensures.ok in
    IfOk-weaker c.geometry_of.result _ _ (λ g has.
    geometry_told (drop 1 words) (All-drop IsPlainWord 1 words c.requires) g.n g.m g.r g.e
    (subst (λ (rs : List Row). HasGeometry rs g.n g.m g.r g.e) rows has)) c.geometry_of.ensures.ok

pub returns-clause-usage : goal.returns-clause-usage
returns-clause-usage c is_usage n m r e spells =
    let words = map string_bytes c.args.words.now in
    let rows = rows_of-matches _ geometry_app words c.in_ok-matches.matches c.in_ok-geometry_command.ensures refl c.in_ok-matches.ensures.ok in
    c.geometry_of.ensures.usage is_usage n m r e
    (subst (λ (rs : List Row). HasGeometry rs n m r e) (sym rows)
    (geometry_tells (drop 1 words) (All-drop IsPlainWord 1 words c.requires) n m r e spells))
