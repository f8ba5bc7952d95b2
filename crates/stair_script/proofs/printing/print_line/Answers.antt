use Rattle.std.proofs.Common.{◌≡◌, ◌∙◌, ap, subst, sym}
use Rattle.stair_script.specs.Line.{SpellsLine, printed}
use Rattle.stair_script.proofs.LineLemmas.{printed-SpellsLine}
use Rattle.stair_script.proofs.printing.print_line.Goals as goal

pub returns-clause-spells : goal.returns-clause-spells
returns-clause-spells c =
    let text : c.into_bytes.result.items ≡ printed c.args.line.now = ap (λ bytes. bytes.items) c.into_bytes.ensures.value ∙ c.in_ok-text_of.ensures.text in
    subst (λ bytes. SpellsLine bytes c.args.line.now) (sym text) (printed-SpellsLine c.args.line.now c.in_ok-text_of.ensures.numbers)
