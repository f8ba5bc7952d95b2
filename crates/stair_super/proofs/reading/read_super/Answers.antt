-- What is read is written again, and compared.
use Rattle.std.proofs.Common.{Some, ap}
use Rattle.stair_super.specs.Superblock.{Superblock}
use Rattle.stair_super.specs.Spelling.{SpellsSuperblock}
use Rattle.stair_super.proofs.Answered.{some_is, no_none, spelled_again}
use Rattle.stair_super.proofs.reading.read_super.Goals as goal

no_version : (c : goal.After-from_residual) (s : Superblock) → SpellsSuperblock c.args.bytes.now s → ⊥
no_version c s spells = no_none spells.version c.version_of.result c.in_err-version.was (c.version_of.ensures s spells)

no_fields : (c : goal.After-from_residual-in_err-block) (s : Superblock) → SpellsSuperblock c.args.bytes.now s → ⊥
no_fields c s spells =
    let version = some_is c.in_ok-version.version spells.version c.version_of.result c.in_ok-version.was (c.version_of.ensures s spells) in
    no_none s c.fields_of.result c.in_err-block.was (c.fields_of.ensures.read s spells version)

no_text : (c : goal.Else-is_spelled) (s : Superblock) → SpellsSuperblock c.args.bytes.now s → ⊥
no_text c s spells =
    let version = some_is c.in_ok-version.version spells.version c.version_of.result c.in_ok-version.was (c.version_of.ensures s spells) in
    let block = some_is c.in_ok-block.block s c.fields_of.result c.in_ok-block.was (c.fields_of.ensures.read s spells version) in
    let yes = c.is_spelled.ensures.1 (spelled_again c.args.bytes.now s c.in_ok-block.block c.in_ok-version.version spells version block) in
    let no = c.if-is_spelled.false in
    cc

pub returns-in_err-version-clause-read : goal.returns-in_err-version-clause-read
returns-in_err-version-clause-read c = λ s spells. absurd (no_version c s spells)

pub returns-in_err-version-clause-none : goal.returns-in_err-version-clause-none
returns-in_err-version-clause-none c = λ _. no_version c

pub returns-in_err-block-clause-read : goal.returns-in_err-block-clause-read
returns-in_err-block-clause-read c = λ s spells. absurd (no_fields c s spells)

pub returns-in_err-block-clause-none : goal.returns-in_err-block-clause-none
returns-in_err-block-clause-none c = λ _. no_fields c

pub returns-else-is_spelled-clause-read : goal.returns-else-is_spelled-clause-read
returns-else-is_spelled-clause-read c = λ s spells. absurd (no_text c s spells)

pub returns-else-is_spelled-clause-none : goal.returns-else-is_spelled-clause-none
returns-else-is_spelled-clause-none c = λ _. no_text c

pub returns-then-is_spelled-clause-read : goal.returns-then-is_spelled-clause-read
returns-then-is_spelled-clause-read c = λ s spells.
    let version = some_is c.in_ok-version.version spells.version c.version_of.result c.in_ok-version.was (c.version_of.ensures s spells) in
    ap Some (some_is c.in_ok-block.block s c.fields_of.result c.in_ok-block.was (c.fields_of.ensures.read s spells version))
