-- The last byte of the magic is the version's digit.
use Rattle.std.proofs.Common.{Some, sym, ap, ◌∙◌, arith}
use Rattle.stair_super.specs.declared.version.Version.TheVariants.{One, Two, Three}
use Rattle.stair_super.proofs.Fields.{digit_is, digit_once, one_digit}
use Rattle.stair_super.proofs.reading.version_of.Goals as goal

pub returns-in-49 : goal.returns-in-49
returns-in-49 c = λ s spells.
    ap Some (digit_once One spells.version (sym c.in-49.is ∙ digit_is c.args.bytes.now s spells))

pub returns-in-50 : goal.returns-in-50
returns-in-50 c = λ s spells.
    ap Some (digit_once Two spells.version (sym c.in-50.is ∙ digit_is c.args.bytes.now s spells))

pub returns-in-51 : goal.returns-in-51
returns-in-51 c = λ s spells.
    ap Some (digit_once Three spells.version (sym c.in-51.is ∙ digit_is c.args.bytes.now s spells))

pub returns-in_default : goal.returns-in_default
returns-in_default c = λ s spells.
    absurd (omega (arith, one_digit spells.version, digit_is c.args.bytes.now s spells))
