use Rattle.std.proofs.Common.{rules, sym}
use Rattle.stair_super.proofs.SpellsLaws.{large_version, small_version}
use Rattle.stair_super.proofs.writing.version_for.Goals as goal

pub returns-then-is_small : goal.returns-then-is_small
returns-then-is_small c = sym (small_version c.args.geometry.now (search rules))

pub returns-else-is_small : goal.returns-else-is_small
returns-else-is_small c = sym (large_version c.args.geometry.now (λ small. search rules))
