use Rattle.std.proofs.Common.{map, string_bytes, take}
use Rattle.stair_conf.specs.Commands.{HasNoOption}
use Rattle.stair_conf.proofs.words.has_option.Given as goal

abbrev pub invariant-loop-word : goal.invariant-loop-word
invariant-loop-word l = HasNoOption (map string_bytes (take l.word-index l.words))
