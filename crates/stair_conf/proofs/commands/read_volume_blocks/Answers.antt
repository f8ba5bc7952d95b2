use Rattle.std.proofs.Common.{◌≡◌, ◌∙◌, Err, drop, map, string_bytes, refl, sym, ap, subst, List}
use Rattle.std.proofs.lemmas.List.Elements.{All-drop}
use Rattle.std.proofs.lemmas.Result.{IfOk-weaker, err_from_is_err_and}
use Rattle.clap.specs.Words.{App, Row, takes}
use Rattle.stair_conf.specs.declared.fault.WordsFault.TheVariants.{Usage}
use Rattle.stair_conf.specs.Commands.{IsPlainWord, volume_blocks_app}
use Rattle.stair_conf.specs.Rows.{HasVolumeBlocks}
use Rattle.stair_conf.proofs.CommandLaws.{built_fault-none, rows_of-matches}
use Rattle.stair_conf.proofs.VolumeCommands.{volume_blocks_taken, volume_blocks_tells, volume_blocks_told}
use Rattle.stair_conf.proofs.commands.read_volume_blocks.Goals as goal

-- words that spell a name, a block and a count are taken, unless memory runs out
pub returns-in_err-matches-clause-usage : goal.returns-in_err-matches-clause-usage
returns-in_err-matches-clause-usage c is_usage name block count spells =
    let words = map string_bytes c.args.words.now in
    let fault = err_from_is_err_and c.from_residual-in_err-matches.result c.from_residual-in_err-matches.ensures.1 in
    let end : c.from_residual-in_err-matches.result ≡ Err fault.0 = fault.1 in
    let is : fault.0 ≡ Usage = cc in
    c.in_err-matches.ensures.usage (ap Err (sym fault.2 ∙ is))
    (ap (λ (a : App). takes a words) c.in_ok-volume_blocks_command.ensures
    ∙ volume_blocks_taken (drop 1 words) (All-drop IsPlainWord 1 words c.requires) name block count spells)

pub returns-clause-ok : goal.returns-clause-ok
returns-clause-ok c =
    let words = map string_bytes c.args.words.now in
    let rows = rows_of-matches _ volume_blocks_app words c.in_ok-matches.matches c.in_ok-volume_blocks_command.ensures refl c.in_ok-matches.ensures.ok in
    let free = built_fault-none _ volume_blocks_app words c.in_ok-volume_blocks_command.ensures refl c.in_ok-matches.ensures.no_fault in
    IfOk-weaker c.volume_blocks_of.result _ _ (λ read has.
    volume_blocks_told (drop 1 words) (All-drop IsPlainWord 1 words c.requires) free read.name read.block read.count
    (subst (λ (rs : List Row). HasVolumeBlocks rs read.name read.block read.count) rows has)) c.volume_blocks_of.ensures.ok

pub returns-clause-usage : goal.returns-clause-usage
returns-clause-usage c is_usage name block count spells =
    let words = map string_bytes c.args.words.now in
    let rows = rows_of-matches _ volume_blocks_app words c.in_ok-matches.matches c.in_ok-volume_blocks_command.ensures refl c.in_ok-matches.ensures.ok in
    c.volume_blocks_of.ensures.usage is_usage name block count
    (subst (λ (rs : List Row). HasVolumeBlocks rs name block count) (sym rows)
    (volume_blocks_tells (drop 1 words) (All-drop IsPlainWord 1 words c.requires) name block count spells))
