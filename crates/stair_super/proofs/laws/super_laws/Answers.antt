use Rattle.stair_super.proofs.Once.{sector, same_spelling, same_superblock, one_version}
use Rattle.stair_super.proofs.Decided.{superblock_or_none}
use Rattle.stair_super.proofs.SpellsLaws.{spelled_large, spelled_two}
use Rattle.stair_super.proofs.Order.{older_is}
use Rattle.stair_super.proofs.laws.super_laws.Goals as goal

pub returns-clause-sector : goal.returns-clause-sector
returns-clause-sector c = sector

pub returns-clause-spelling : goal.returns-clause-spelling
returns-clause-spelling c = same_spelling

pub returns-clause-once : goal.returns-clause-once
returns-clause-once c = same_superblock

pub returns-clause-versions : goal.returns-clause-versions
returns-clause-versions c = one_version

pub returns-clause-decided : goal.returns-clause-decided
returns-clause-decided c = superblock_or_none

pub returns-clause-two : goal.returns-clause-two
returns-clause-two c = spelled_two

pub returns-clause-large : goal.returns-clause-large
returns-clause-large c = spelled_large

pub returns-clause-older : goal.returns-clause-older
returns-clause-older c = older_is
