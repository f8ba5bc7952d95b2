use Rattle.std.proofs.Common.{◌≡◌, ◌∙◌, Err, codes, drop, map, string_bytes, refl, sym, ap, subst, List}
use Rattle.std.proofs.lemmas.List.Elements.{All-drop}
use Rattle.std.proofs.lemmas.Result.{err_from_is_err_and}
use Rattle.clap.specs.Words.{App, Row, takes}
use Rattle.stair_conf.specs.declared.fault.WordsFault.TheVariants.{Usage}
use Rattle.stair_conf.specs.Commands.{IsPlainWord, name_app}
use Rattle.stair_conf.specs.Rows.{HasNameWord}
use Rattle.stair_conf.proofs.CommandLaws.{built_fault-none, rows_of-matches}
use Rattle.stair_conf.proofs.VolumeCommands.{name_taken, name_tells, name_told}
use Rattle.stair_conf.proofs.RowLemmas.{read_none, read_ok}
use Rattle.stair_conf.proofs.commands.read_name.Goals as goal

-- words that spell a name are taken, unless memory runs out
pub returns-in_err-matches-clause-usage : goal.returns-in_err-matches-clause-usage
returns-in_err-matches-clause-usage c is_usage name spells =
    let words = map string_bytes c.args.words.now in
    let fault = err_from_is_err_and c.from_residual-in_err-matches.result c.from_residual-in_err-matches.ensures.1 in
    let end : c.from_residual-in_err-matches.result ≡ Err fault.0 = fault.1 in
    let is : fault.0 ≡ Usage = cc in
    c.in_err-matches.ensures.usage (ap Err (sym fault.2 ∙ is))
    (ap (λ (a : App). takes a words) c.in_ok-name_command.ensures
    ∙ name_taken (drop 1 words) (All-drop IsPlainWord 1 words c.requires) name spells)

pub returns-clause-ok : goal.returns-clause-ok
returns-clause-ok c =
    let words = map string_bytes c.args.words.now in
    let rows = rows_of-matches _ name_app words c.in_ok-matches.matches c.in_ok-name_command.ensures refl c.in_ok-matches.ensures.ok in
    let free = built_fault-none _ name_app words c.in_ok-name_command.ensures refl c.in_ok-matches.ensures.no_fault in
    read_ok c.name_of.result c.ok_or.result _ c.ok_or.ensures.ok_part (λ name read.
    name_told (drop 1 words) (All-drop IsPlainWord 1 words c.requires) free name
    (subst (λ (rs : List Row). HasNameWord rs (codes "NAME") name) rows ((c.name_of.ensures name).0 read)))

pub returns-clause-usage : goal.returns-clause-usage
returns-clause-usage c is_usage name spells =
    let words = map string_bytes c.args.words.now in
    let rows = rows_of-matches _ name_app words c.in_ok-matches.matches c.in_ok-name_command.ensures refl c.in_ok-matches.ensures.ok in
    let has = name_tells (drop 1 words) (All-drop IsPlainWord 1 words c.requires) name spells in
    let read = (c.name_of.ensures name).1 (subst (λ (rs : List Row). HasNameWord rs (codes "NAME") name) (sym rows) has) in
    read_none c.name_of.result c.ok_or.result Usage name c.ok_or.ensures.ok_part is_usage read
