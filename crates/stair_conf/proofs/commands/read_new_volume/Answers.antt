use Rattle.std.proofs.Common.{◌≡◌, ◌∙◌, Err, drop, map, string_bytes, refl, sym, ap, subst, List}
use Rattle.std.proofs.lemmas.List.Elements.{All-drop}
use Rattle.std.proofs.lemmas.Result.{IfOk-weaker, err_from_is_err_and}
use Rattle.clap.specs.Words.{App, Row, takes}
use Rattle.stair_conf.specs.declared.fault.WordsFault.TheVariants.{Usage}
use Rattle.stair_conf.specs.Commands.{IsPlainWord, new_volume_app}
use Rattle.stair_conf.specs.Rows.{HasNewVolume}
use Rattle.stair_conf.proofs.CommandLaws.{built_fault-none, rows_of-matches}
use Rattle.stair_conf.proofs.VolumeCommands.{new_volume_taken, new_volume_tells, new_volume_told}
use Rattle.stair_conf.proofs.commands.read_new_volume.Goals as goal

-- words that spell a name and a number of blocks are taken, unless memory runs out
pub returns-in_err-matches-clause-usage : goal.returns-in_err-matches-clause-usage
returns-in_err-matches-clause-usage c is_usage name blocks spells =
    let words = map string_bytes c.args.words.now in
    let fault = err_from_is_err_and c.from_residual-in_err-matches.result c.from_residual-in_err-matches.ensures.1 in
    let end : c.from_residual-in_err-matches.result ≡ Err fault.0 = fault.1 in
    let is : fault.0 ≡ Usage = cc in
    c.in_err-matches.ensures.usage (ap Err (sym fault.2 ∙ is))
    (ap (λ (a : App). takes a words) c.in_ok-new_volume_command.ensures
    ∙ new_volume_taken (drop 1 words) (All-drop IsPlainWord 1 words c.requires) name blocks spells)

pub returns-clause-ok : goal.returns-clause-ok
returns-clause-ok c =
    let words = map string_bytes c.args.words.now in
    let rows = rows_of-matches _ new_volume_app words c.in_ok-matches.matches c.in_ok-new_volume_command.ensures refl c.in_ok-matches.ensures.ok in
    let free = built_fault-none _ new_volume_app words c.in_ok-new_volume_command.ensures refl c.in_ok-matches.ensures.no_fault in
    IfOk-weaker c.new_volume_of.result _ _ (λ read has.
    new_volume_told (drop 1 words) (All-drop IsPlainWord 1 words c.requires) free read.name read.blocks
    (subst (λ (rs : List Row). HasNewVolume rs read.name read.blocks) rows has)) c.new_volume_of.ensures.ok

pub returns-clause-usage : goal.returns-clause-usage
returns-clause-usage c is_usage name blocks spells =
    let words = map string_bytes c.args.words.now in
    let rows = rows_of-matches _ new_volume_app words c.in_ok-matches.matches c.in_ok-new_volume_command.ensures refl c.in_ok-matches.ensures.ok in
    c.new_volume_of.ensures.usage is_usage name blocks
    (subst (λ (rs : List Row). HasNewVolume rs name blocks) (sym rows)
    (new_volume_tells (drop 1 words) (All-drop IsPlainWord 1 words c.requires) name blocks spells))
