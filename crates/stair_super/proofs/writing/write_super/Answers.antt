use Rattle.std.proofs.Common.{ℕ, List, ap, subst, sym, ◌∙◌}
use Rattle.stair_super.specs.Spelling.{SpellsSuperblock, spelled_in, version_for}
use Rattle.stair_super.proofs.SpellsLaws.{spells}
use Rattle.stair_super.proofs.writing.write_super.Goals as goal

pub returns-clause-spells : goal.returns-clause-spells
returns-clause-spells c =
    let s = c.args.block.now in
    let version = c.version_for.ensures ∙ ap version_for c.geometry.ensures.value in
    subst (λ (l : List ℕ). SpellsSuperblock l s) (sym (c.written.ensures ∙ ap (λ v. spelled_in v s) version)) (spells s c.geometry.ensures.rules)
