use Rattle.std.proofs.Common.{◌≡◌, map, take}
use Rattle.toml.specs.View.{view}
use Rattle.stair_conf.specs.Config.{number}
use Rattle.stair_conf.proofs.config.numbers_at.Given as goal

abbrev pub invariant-loop-value : goal.invariant-loop-value
invariant-loop-value l = map view (take l.value-index l.value-items) ≡ map number l.numbers.items
