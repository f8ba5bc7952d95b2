use Rattle.std.proofs.Common.{◌≡◌, ◌∙◌, Err, codes, drop, map, string_bytes, refl, sym, ap, subst, List}
use Rattle.std.proofs.lemmas.List.Elements.{All-drop}
use Rattle.std.proofs.lemmas.Result.{err_from_is_err_and}
use Rattle.clap.specs.Words.{App, Row, takes}
use Rattle.stair_conf.specs.declared.fault.WordsFault.TheVariants.{Usage}
use Rattle.stair_conf.specs.Commands.{IsPlainWord, slot_app}
use Rattle.stair_conf.specs.Rows.{HasNumberWord}
use Rattle.stair_conf.proofs.CommandLaws.{built_fault-none, rows_of-matches, slot_taken, slot_tells, slot_told}
use Rattle.stair_conf.proofs.RowLemmas.{read_none, read_ok}
use Rattle.stair_conf.proofs.commands.read_slot.Goals as goal

-- words that spell a slot are taken, unless memory runs out
pub returns-in_err-matches-clause-usage : goal.returns-in_err-matches-clause-usage
returns-in_err-matches-clause-usage c is_usage slot spells =
    let words = map string_bytes c.args.words.now in
    let fault = err_from_is_err_and c.from_residual-in_err-matches.result c.from_residual-in_err-matches.ensures.1 in
    let end : c.from_residual-in_err-matches.result ≡ Err fault.0 = fault.1 in
    let is : fault.0 ≡ Usage = cc in
    c.in_err-matches.ensures.usage (ap Err (sym fault.2 ∙ is))
    (ap (λ (a : App). takes a words) c.in_ok-slot_command.ensures
    ∙ slot_taken (drop 1 words) (All-drop IsPlainWord 1 words c.requires) slot spells)

pub returns-clause-ok : goal.returns-clause-ok
returns-clause-ok c =
    let words = map string_bytes c.args.words.now in
    let rows = rows_of-matches _ slot_app words c.in_ok-matches.matches c.in_ok-slot_command.ensures refl c.in_ok-matches.ensures.ok in
    let free = built_fault-none _ slot_app words c.in_ok-slot_command.ensures refl c.in_ok-matches.ensures.no_fault in
    read_ok c.number_of.result c.ok_or.result _ c.ok_or.ensures.ok_part (λ slot read.
    slot_told (drop 1 words) (All-drop IsPlainWord 1 words c.requires) free slot
    (subst (λ (rs : List Row). HasNumberWord rs (codes "SLOT") slot) rows ((c.number_of.ensures slot).0 read)))

pub returns-clause-usage : goal.returns-clause-usage
returns-clause-usage c is_usage slot spells =
    let words = map string_bytes c.args.words.now in
    let rows = rows_of-matches _ slot_app words c.in_ok-matches.matches c.in_ok-slot_command.ensures refl c.in_ok-matches.ensures.ok in
    let has = slot_tells (drop 1 words) (All-drop IsPlainWord 1 words c.requires) slot spells in
    let read = (c.number_of.ensures slot).1 (subst (λ (rs : List Row). HasNumberWord rs (codes "SLOT") slot) (sym rows) has) in
    read_none c.number_of.result c.ok_or.result Usage slot c.ok_or.ensures.ok_part is_usage read
